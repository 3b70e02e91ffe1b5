use mathlib.Core.Path.{◌≡◌, refl, sym, ◌∙◌, subst}
use mathlib.Core.Bool.{Bool, false, not, ◌||◌}
use mathlib.Core.List.{List}
use Prim.Native.Nat.{ℕ, ◌<◌}
use lib.Dec.{eqb}
use lib.ListN.{length, take, drop}
use mir.Val.{bool_byte}
use borrow.Author.Tests.{eq-eqb, ne_eqb}
use Rattle.std.specs.Prelude.{Option, None}
use Rattle.registers.specs.Text.{first}
use Rattle.interpreter.specs.TableParts.{or_zero}
use Rattle.interpreter.specs.HeaderParts.{NamesRead, HeaderRead}
use Rattle.interpreter.specs.declared.header.Names.{Names}
use Rattle.interpreter.specs.declared.path.Path.{Path}
use Prim.Native.Char.{code}
use Rattle.interpreter.proofs.header.Tail.{is_last, is-joined, colon-within}
use Rattle.interpreter.proofs.header.Entering.{naming-start, naming-none, naming-on, naming-end}
use native.Mathlib.Omega.{arith}
use Rattle.interpreter.proofs.header.read_names.Goals as goal
use Rattle.interpreter.proofs.header.read_names.Goals.{then-root, else-root}

-- what was read, by the text's first byte
led : (text : List ℕ) (p q : Path) (b : ℕ) (r : Option Names) → b ≡ first text
    → NamesRead (not (eqb b (code "*"))) text (bool_byte (eqb b (code "*") || eqb b (code ":"))) (take (or_zero (not (eqb b (code ":"))) p.used) p.names) r q.names
    → HeaderRead p text r q
led text p q b r is m =
    subst (λ (x : ℕ). NamesRead (not (eqb x (code "*"))) text (bool_byte (eqb x (code "*") || eqb x (code ":"))) (take (or_zero (not (eqb x (code ":"))) p.used) p.names) r q.names) is m

-- once a colon is found after a name, the text goes on
goes-on : (text : List ℕ) (end b lead : ℕ) → b ≡ first (drop end text) → (eqb lead (code "*") || not (eqb b (code ":"))) ≡ false → end < length text
goes-on text end b lead is next = colon-within text end b is (is-joined b (eqb lead (code "*")) next).1

pub loop-name-init : goal.loop-name-init
loop-name-init c =
    let few = c.args.path.now.few in
    let count : c.if-root.count ≡ or_zero (not (eqb c.byte_at-lead.result (code ":"))) c.args.path.now.used =
    elim c.if-root.branch [ then-root w ↦ w.count-is ∙ rw (eq-eqb _ _ w.if-root.true) | else-root w ↦ w.count-is ∙ rw (ne_eqb _ _ w.if-root.false) ] in
    record { named = rw (c.from-i.ensures, count) (naming-start _ _ _ _ _ (omega arith) c.args.path.now.long); kept = refl }

pub returns-in_err-name-clause-read : goal.returns-in_err-name-clause-read
returns-in_err-name-clause-read c =
    let a = c.args in
    rw c.from_residual.ensures (led a.text.now a.path.now c.loop-name.path _ None c.byte_at-lead.ensures (naming-none c.loop-name.invariant.named c.in_err-name.ensures c.loop-name.path.names))

pub returns-in_err-name-clause-kept : goal.returns-in_err-name-clause-kept
returns-in_err-name-clause-kept c = c.loop-name.invariant.kept

pub enter-count-requires : goal.enter-count-requires
enter-count-requires c = c.loop-name.invariant.named.few

pub returns-then-star-byte_at-clause-read : goal.returns-then-star-byte_at-clause-read
returns-then-star-byte_at-clause-read c =
    let a = c.args in
    let star-at : Bool = eqb c.byte_at-lead.result (code "*") in
    let same = c.enter-count.new.self.long ∙ sym c.loop-name.path.long in
    led a.text.now a.path.now c.enter-count.new.self _ _ c.byte_at-lead.ensures
    (naming-end c.loop-name.invariant.named c.in_ok-name.name c.in_ok-name.ensures c.enter-count.ensures.entered same
    (is_last _ star-at c.if-star-byte_at.true c.byte_at.ensures) c.read_tail.result c.read_tail.ensures)

pub returns-then-star-byte_at-clause-kept : goal.returns-then-star-byte_at-clause-kept
returns-then-star-byte_at-clause-kept c = c.enter-count.ensures.kept ∙ c.loop-name.invariant.kept

pub loop-name-smaller : goal.loop-name-smaller
loop-name-smaller c =
    let w = goes-on c.args.text.now c.in_ok-name.name.end _ _ c.byte_at.ensures c.if-star-byte_at.false in
    let e = c.in_ok-name.ensures.end in
    omega arith

pub loop-name-preserved : goal.loop-name-preserved
loop-name-preserved c =
    let star-at : Bool = eqb c.byte_at-lead.result (code "*") in
    let j = is-joined _ star-at c.if-star-byte_at.false in
    let same = c.enter-count.new.self.long ∙ sym c.loop-name.path.long in
    record {
      named = naming-on c.loop-name.invariant.named c.in_ok-name.name c.in_ok-name.ensures c.enter-count.ensures.entered same j.0 (sym c.byte_at.ensures ∙ j.1);
      kept = c.enter-count.ensures.kept ∙ c.loop-name.invariant.kept;
    }
