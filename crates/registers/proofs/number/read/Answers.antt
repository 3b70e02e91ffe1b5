-- Check 6 put together from what the calls found.
use Rattle.std.proofs.Common.{◌∙◌, rules}
use Rattle.registers.specs.Text.{white}
use Rattle.registers.proofs.number.Verdict.{none_is, refused_is, passed_is}
use Rattle.registers.proofs.text.Laws.{end-drop}
use Rattle.registers.proofs.number.read.Goals as goal

pub returns-then-mantissa-eq0 : goal.returns-then-mantissa-eq0
returns-then-mantissa-eq0 c = none_is c.byte_at-sign.ensures c.read_mantissa-mantissa.ensures c.args.quantity c.if-mantissa-eq0.true

pub returns-in_err-power : goal.returns-in_err-power
returns-in_err-power c =
    let x = c.read_exponent-exponent in
    let w = c.white_end in
    let says = refused_is c.byte_at-sign.ensures c.read_mantissa-mantissa.ensures x.ensures c.if-mantissa-eq0.false c.args.quantity w.result (end-drop white _ x.result.end _ w.ensures) c.in_err-power.ensures in
    search rules

pub returns : goal.returns
returns c =
    let x = c.read_exponent-exponent in
    let w = c.white_end in
    c.value_of.ensures
    ∙ passed_is c.byte_at-sign.ensures c.read_mantissa-mantissa.ensures x.ensures c.if-mantissa-eq0.false c.args.quantity w.result (end-drop white _ x.result.end _ w.ensures) c.in_ok-power.ensures
