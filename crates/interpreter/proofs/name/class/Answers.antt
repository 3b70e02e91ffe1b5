use mathlib.Core.Path.{◌≡◌, sym, ◌∙◌}
use Rattle.std.proofs.Common.{rules, tests}
use Rattle.std.proofs.lemmas.Iterator.{YieldsList-from_slice}
use Rattle.std.proofs.lemmas.Iterator.Search.{all_from_yields_List}
use Rattle.registers.specs.Text.{if◌then◌otherwise◌, digit, every}
use Rattle.interpreter.specs.NameParts.{class_of}
use Rattle.interpreter.proofs.name.Laws.{no_suffix, first-channel, second-channel, no-channel, all-digits}
use native.Mathlib.Omega.{arith}
use Rattle.interpreter.proofs.name.class.Goals as goal
use Rattle.interpreter.proofs.name.class.Goals.{in_default-via-then-suffix-lt2+in_default-1, in_default-via-else-suffix-lt2}

pub returns-in-empty : goal.returns-in-empty
returns-in-empty c = no_suffix _ c.in-empty.len_below

pub returns-in-49 : goal.returns-in-49
returns-in-49 c = first-channel c.args.suffix.now c.in-49.len_at_least c.in-49.len_below (omega arith)

pub returns-in-50 : goal.returns-in-50
returns-in-50 c = second-channel c.args.suffix.now c.in-50.len_at_least c.in-50.len_below (omega arith)

pub returns-in_default : goal.returns-in_default
unfolding if◌then◌otherwise◌
returns-in_default c =
    let t = c.args.suffix.now in
    let is : class_of t ≡ (if every digit t then 3 otherwise 4) = elim c.in_default.branch [
      | in_default-via-then-suffix-lt2+in_default-1 w ↦ no-channel t (search (rules, tests)) (λ h e. search (rules, tests)) (λ h e. search (rules, tests))
      | in_default-via-else-suffix-lt2 w ↦ no-channel t (search (rules, tests)) (λ h e. search (rules, tests)) (λ h e. search (rules, tests))
    ] in
    let all = all_from_yields_List digit _ _ _ c.all.ensures.ran (YieldsList-from_slice t cc) (λ x b q k. search (rules, tests)) ∙ all-digits t in
    sym (is ∙ rw (sym all ∙ c.if-all.true))

pub returns-in_default-2 : goal.returns-in_default-2
unfolding if◌then◌otherwise◌
returns-in_default-2 c =
    let t = c.args.suffix.now in
    let is : class_of t ≡ (if every digit t then 3 otherwise 4) = elim c.in_default.branch [
      | in_default-via-then-suffix-lt2+in_default-1 w ↦ no-channel t (search (rules, tests)) (λ h e. search (rules, tests)) (λ h e. search (rules, tests))
      | in_default-via-else-suffix-lt2 w ↦ no-channel t (search (rules, tests)) (λ h e. search (rules, tests)) (λ h e. search (rules, tests))
    ] in
    let all = all_from_yields_List digit _ _ _ c.all.ensures.ran (YieldsList-from_slice t cc) (λ x b q k. search (rules, tests)) ∙ all-digits t in
    sym (is ∙ rw (sym all ∙ c.if-all.false))
