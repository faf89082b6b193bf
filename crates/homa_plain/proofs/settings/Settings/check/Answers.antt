use Rattle.std.proofs.Common.{arith, refl, ◌≡◌, None}
use Rattle.homa_plain.specs.Settings.{ranges, first_outside}
use Rattle.homa_plain.proofs.SettingsLemmas.{all_in_range}
use Rattle.homa_plain.proofs.settings.Settings.check.Goals as goal

pub returns-clause-valid : goal.returns-clause-valid
returns-clause-valid c =
    let none : first_outside (ranges c.args.self.now) ≡ None = cc (c.in_default.ensures, c.ranges-2.ensures) in
    (λ _. record { in_range = all_in_range (ranges c.args.self.now) none; unsched = omega arith; rate = omega arith }, λ _. refl)
