use Rattle.std.proofs.Common.{rules, map, ap, sym, ◌∙◌, arith, take_all}
use Rattle.std.proofs.lemmas.List.{take_more_set, map_more}
use Rattle.player.specs.ReportParts.{hex_byte}
use Rattle.player.proofs.report.Laws.{bytes-utf8}
use Rattle.player.proofs.report.hex_part.Goals as goal

pub loop-i-preserved : goal.loop-i-preserved
loop-i-preserved c =
    let i = c.loop-i.i in
    let more = take_more_set c.loop-i.pairs i c.hex_byte.result (omega arith) in
    let mapped = map_more hex_byte c.args.part.now i 0 (omega arith) in
    record {
      all = search (rules);
      so_far = more ∙ rw (c.loop-i.invariant.so_far, c.hex_byte.ensures) (sym mapped);
    }

pub returns-clause-digits : goal.returns-clause-digits
returns-clause-digits c =
    let i = c.loop-i.i in
    let whole = take_all i c.loop-i.pairs (omega arith) in
    let bytes = take_all i c.args.part.now (omega arith) in
    sym whole ∙ c.loop-i.invariant.so_far ∙ ap (λ l. map hex_byte l) bytes

pub returns-clause-text : goal.returns-clause-text
returns-clause-text c = bytes-utf8 c.args.part.now c.fits-part
