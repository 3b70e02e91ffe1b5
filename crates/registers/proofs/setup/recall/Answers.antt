-- A case for each way out: the check fails, or the settings are what the block says, within their limits or not.
use mathlib.Core.Path.{◌≡◌, sym}
use mathlib.Core.Bool.{Bool, true}
use Rattle.registers.specs.Text.{Text, if◌then◌otherwise◌}
use Rattle.registers.specs.Settings.{possible_settings}
use Rattle.registers.specs.Setup.{checks, settings_in, recallable, said_in}
use Rattle.registers.specs.declared.settings.Settings.{Settings}
use Rattle.registers.proofs.setup.Blocks.{checked-long}
use Rattle.registers.proofs.setup.recall.Goals as goal

pub settings_in-said-requires : goal.settings_in-said-requires
settings_in-said-requires c = checked-long _ (sym c.if-not-holds.ensures)

pub returns-then-not-holds : goal.returns-then-not-holds
unfolding recallable said_in if◌then◌otherwise◌
returns-then-not-holds c = let fails = sym c.if-not-holds.ensures in record { good_value = rw fails; settings_value = rw fails c.reset-said.ensures }

module _ (b : Text) (s : Settings) (p : Bool) (holds : true ≡ checks b) (read : s ≡ settings_in b) (tells : p ≡ possible_settings s) where
  taken : p ≡ recallable b
  unfolding recallable
  taken = rw (← holds, ← read) tells

  said : s ≡ said_in b
  unfolding said_in if◌then◌otherwise◌
  said = rw (← holds) read

pub returns-then-possible : goal.returns-then-possible
returns-then-possible c = let e = c.if-not-holds.ensures in let r = c.settings_in-said.ensures in
    let p = c.if-possible.ensures in record { good_value = taken _ _ _ e r p; settings_value = said _ _ _ e r p }

pub returns-else-possible : goal.returns-else-possible
returns-else-possible c = let e = c.if-not-holds.ensures in let r = c.settings_in-said.ensures in
    let p = c.if-possible.ensures in record { good_value = taken _ _ _ e r p; settings_value = said _ _ _ e r p }
