use Rattle.std.proofs.Common.{rules, ◌≡◌, ◌<◌, ◌/◌, [], ◌++◌, length, true, refl, get_or, flat_map, sym, ◌∙◌, take_all}
use Rattle.std.proofs.Output.{has_written_append, has_written_of_eq}
use Rattle.player.specs.ReportParts.{hex_byte, in_hex}
use Rattle.player.proofs.report.Laws.{byte-utf8, flattened, hex_parts, in-hex, in-parts, written-more}
use Rattle.player.proofs.report.HexDisplay.fmt.Goals as goal

pub text-requires : goal.text-requires
text-requires g c =
    let part = get_or c.as_chunks.result.0.now c.loop-part.part-index [] in
    rw (c.as_flattened.ensures.value, c.hex_part.ensures.digits, flattened part) c.hex_part.ensures.text

pub loop-part-preserved : goal.loop-part-preserved
loop-part-preserved g c = λ p.
    let parts = c.as_chunks.result.0.now in
    let part = get_or parts c.loop-part.part-index [] in
    let so_far = c.loop-part.invariant p in
    let shown : c.text.result.now ≡ flat_map hex_byte part = c.text.ensures ∙ rw (c.as_flattened.ensures.value, c.hex_part.ensures.digits) (flattened part) in
    let wrote = (rw shown at c.in_ok-write_str.ensures.writes) so_far.plain (refl {a = true}) in
    written-more (λ part. flat_map hex_byte part) [] parts c.loop-part.part-index c.loop-part-test.true so_far wrote

pub text-requires-in-loop-b : goal.text-requires-in-loop-b
text-requires-in-loop-b g c =
    let b = get_or c.as_chunks.result.1.now c.loop-b.b-index 0 in
    let low : b < 256 = search rules in
    rw c.hex_byte.ensures (byte-utf8 b low)

pub loop-b-preserved : goal.loop-b-preserved
loop-b-preserved g c = λ p.
    let rest = c.as_chunks.result.1.now in
    let so_far = c.loop-b.invariant p in
    let wrote = (rw (c.text-in-loop-b.ensures, c.hex_byte.ensures) at c.in_ok-write_str-2.ensures.writes) so_far.plain (refl {a = true}) in
    written-more hex_byte 0 rest c.loop-b.b-index c.loop-b-test.true so_far wrote

pub returns-clause-writes : goal.returns-clause-writes
returns-clause-writes g c = λ p ok.
    let bytes = c.args.self.now.0.now in
    let parts = c.as_chunks.result.0.now in
    let rest = c.as_chunks.result.1.now in
    let first = rw (take_all c.loop-part.part-index parts c.loop-part-test.false) at (c.loop-part.invariant p) in
    let then = rw (take_all c.loop-b.b-index rest c.loop-b-test.false) at (c.loop-b.invariant first.plain) in
    let all : hex_parts parts ++ flat_map hex_byte rest ≡ in_hex bytes = rw (c.as_chunks.ensures.front, c.as_chunks.ensures.back) (in-parts 16 (length bytes / 16) bytes ∙ sym (in-hex bytes (c.if-is_empty.ensures))) in
    has_written_of_eq g.W.Write.write_str_gives _ _ _ _ all (has_written_append g.W.Write.write_str_gives _ _ _ _ _ first then)
