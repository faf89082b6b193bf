-- The first setting outside its range, and settings that are valid.
use Rattle.std.proofs.Common.{◌≡◌, ◌≤◌, ℕ, Bool, true, false, arith, Option, None, Some, Result, IsOk, List, [], ◌∷◌, refl, ◌↔◌}
use Rattle.std.specs.Prelude.{nat_lt, ◌||◌, if◌then◌else◌}
use Rattle.std.proofs.lemmas.Bool.Decides.{nat_tests}
use Rattle.homa_plain.specs.declared.settings.Settings.{Settings}
use Rattle.homa_plain.specs.declared.settings.Limits.{Limits}
use Rattle.homa_plain.specs.declared.settings.Name.{Name}
use Rattle.homa_plain.specs.declared.settings.SettingFault.{SettingFault}
use Rattle.homa_plain.specs.Settings.{ranges, AllInRange, IsValid, first_outside, verdict, verdict_by}

tests_in : (l m v : ℕ) → (nat_lt v l || nat_lt m v) ≡ false → (l ≤ v) × (v ≤ m)
tests_in l m v h = grind (arith, nat_tests)

tests_out : (l m v : ℕ) → l ≤ v → v ≤ m → (nat_lt v l || nat_lt m v) ≡ false
tests_out l m v h k = grind (arith, nat_tests)

none_by : (t : Bool) (name : Name) (o : Option Name) → (if t then Some name else o) ≡ None → (t ≡ false) × (o ≡ None)
none_by true name o h = absurd cc
none_by false name o h = (refl, h)

-- where none is outside, each is in its range
pub all_in_range : (rs : List Limits) → first_outside rs ≡ None → AllInRange rs
all_in_range [] h = tt
all_in_range (r ∷ rs) h =
    let parts = none_by (nat_lt r.value r.least || nat_lt r.most r.value) r.name (first_outside rs) h in
    let here = tests_in r.least r.most r.value parts.0 in
    (here.0, here.1, all_in_range rs parts.1)

-- where each is in its range, none is outside
pub none_outside : (rs : List Limits) → AllInRange rs → first_outside rs ≡ None
none_outside [] h = refl
none_outside (r ∷ rs) h = rw (tests_out r.least r.most r.value h.0 h.1) (none_outside rs h.2)

rest_valid : (s : Settings) (o : Option Name) → IsOk (verdict_by s o) → (o ≡ None) × (s.unsched ≤ s.window) × (s.seg ≤ s.rate)
rest_valid s (Some name) h = absurd cc
rest_valid s None h = grind (arith, nat_tests)

valid_rest : (s : Settings) → s.unsched ≤ s.window → s.seg ≤ s.rate → IsOk (verdict_by s None)
valid_rest s h k = grind (arith, nat_tests)

-- nothing is wrong exactly with valid settings
pub ok_is_valid : (s : Settings) (r : Result (Unit {0}) SettingFault) → r ≡ verdict s → IsOk r ↔ IsValid s
ok_is_valid s r e = (
  λ h. let parts =
      rest_valid s (first_outside (ranges s)) (rw e at h) in record { in_range = all_in_range (ranges s) parts.0; unsched = parts.1; rate = parts.2 },
  λ v. rw (e, none_outside (ranges s) v.in_range) (valid_rest s v.unsched v.rate),
)
