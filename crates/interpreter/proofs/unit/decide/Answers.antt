-- Checks 2 to 7 of a unit whose header is read, in the order of 01 (unit/Laws).
use mathlib.Core.Path.{◌≡◌, refl, sym, ap, ◌∙◌}
use native.Mathlib.Omega.{arith}
use borrow.Author.Rules.{rules}
use Rattle.registers.specs.Error.{meant}
use Rattle.interpreter.specs.Parameter.{deed_of}
use Rattle.interpreter.specs.declared.deed.Role.{Role}
use Rattle.interpreter.proofs.parameter.Decisions.{register-is, saving-is, label_is}
use Rattle.interpreter.proofs.unit.Found.{setting-known}
use Rattle.interpreter.proofs.unit.Laws.{has-empty, no-place, too-many, too-few, LetPass, passes}
use Rattle.interpreter.proofs.unit.decide.Goals as goal
use Rattle.interpreter.proofs.unit.decide.Goals.{Else-asked-parts}

pub returns-in_err-parts : goal.returns-in_err-parts
returns-in_err-parts c =
    let a = c.args in
    let says = has-empty a.settings (meant a.heading.place) a.heading.asked a.text.now c.in_err-parts.ensures in
    search rules

pub returns-in_err-place : goal.returns-in_err-place
returns-in_err-place c =
    let a = c.args in
    let says = no-place a.settings (meant a.heading.place) a.heading.asked a.text.now c.in_ok-parts.parts c.in_ok-parts.ensures (sym (ap meant c.in_err-place.was)) in
    search rules

pub returns-then-most-parts : goal.returns-then-most-parts
returns-then-most-parts c =
    let a = c.args in
    too-many a.settings (meant a.heading.place) a.heading.asked a.text.now c.in_ok-parts.parts c.in_ok-parts.ensures c.in_ok-place.place (sym (ap meant c.in_ok-place.was))
    c.role_of-role.result c.role_of-role.ensures (rw c.most-most.ensures at c.if-most-parts.true)

pub returns-then-asked-parts : goal.returns-then-asked-parts
returns-then-asked-parts c =
    let a = c.args in
    too-few a.settings (meant a.heading.place) a.heading.asked a.text.now c.in_ok-parts.parts c.in_ok-parts.ensures c.in_ok-place.place (sym (ap meant c.in_ok-place.was))
    c.role_of-role.result c.role_of-role.ensures (rw c.most-most.ensures at c.if-most-parts.false) (rw c.most-most.ensures at c.if-asked-parts.true)

-- check 4 let the number of parameters pass: what the role's own checks say is what all say
let-pass : (c : Else-asked-parts) (told : Role) → c.role_of-role.result ≡ told → let a = c.args in LetPass a.settings (meant a.heading.place) a.heading.asked a.text.now told
let-pass c told is =
    let a = c.args in
    passes a.settings (meant a.heading.place) a.heading.asked a.text.now c.in_ok-parts.parts c.in_ok-parts.ensures c.in_ok-place.place (sym (ap meant c.in_ok-place.was))
    c.role_of-role.result c.role_of-role.ensures (rw c.most-most.ensures at c.if-most-parts.false) c.requires (rw c.most-most.ensures at c.if-asked-parts.false)
    told is

pub decide_setting-requires : goal.decide_setting-requires
decide_setting-requires c =
    let p = let-pass (goal.at.decide_setting-requires c).Else-asked-parts _ c.in-Setting.is in
    let known = setting-known c.in_ok-place.place c.in-Setting.row (rw c.in_ok-place.was at c.args.heading.is_there) (sym c.role_of-role.ensures ∙ c.in-Setting.is) in
    record { row_lt_count = omega (arith, known.0, known.1); asked_in_bounds = (p.least, p.most) }

pub returns-in-Setting : goal.returns-in-Setting
returns-in-Setting c = (let-pass (goal.at.returns-in-Setting c).Else-asked-parts _ c.in-Setting.is).all c.decide_setting.ensures

pub returns-in-Register : goal.returns-in-Register
returns-in-Register c =
    let p = let-pass (goal.at.returns-in-Register c).Else-asked-parts _ c.in-Register.is in
    p.all (c.decide_register.ensures ∙ register-is c.args.settings c.in-Register.register c.args.heading.asked c.args.text.now p.least)

pub returns-in-Only : goal.returns-in-Only
unfolding deed_of
returns-in-Only c = (let-pass (goal.at.returns-in-Only c).Else-asked-parts _ c.in-Only.is).all refl

pub returns-in-Saving : goal.returns-in-Saving
returns-in-Saving c =
    let p = let-pass (goal.at.returns-in-Saving c).Else-asked-parts _ c.in-Saving.is in
    p.all (c.decide_place.ensures ∙ saving-is c.args.settings c.in-Saving.saving c.args.heading.asked c.args.text.now p.least p.most)

pub returns-in-Label : goal.returns-in-Label
returns-in-Label c =
    let p = let-pass (goal.at.returns-in-Label c).Else-asked-parts _ c.in-Label.is in
    p.all (c.decide.ensures ∙ label_is c.args.settings c.args.heading.asked c.args.text.now p.least)
