-- What is due, as contracts see it.
use Rattle.std.specs.Prelude.{◌≡◌, ◌≤◌, ℕ, List, refl}
use Rattle.std.specs.Coded.{Coded, code_by, coded×, coded_list, coded_ℕ}
use Rattle.network_parts.specs.declared.agenda.Due.{Due}

-- all that is due, in no order, the moment of what came last, and how often something was entered
pub record Calendar (T : Type 0) : Type 0 where
  pub dues : List (Due T)
  pub moment : ℕ
  pub count : ℕ

module _ {T : Type 0} where
  -- what is due is stored as its moment, its number, and what it is
  abbrev pub due_code : Coded T → Coded (Due T)
  due_code code =
      code_by (ℕ × (ℕ × T)) (coded× coded_ℕ (coded× coded_ℕ code)) (λ d. (d.at, (d.number, d.what)))
      (λ c. record { at = c.0; number = c.1.0; what = c.1.1 }) (λ _. refl)

  abbrev pub calendar_code : Coded T → Coded (Calendar T)
  calendar_code code =
      code_by (List (Due T) × (ℕ × ℕ)) (coded× (coded_list (due_code code)) (coded× coded_ℕ coded_ℕ)) (λ a. (a.dues, (a.moment, a.count)))
      (λ c. record { dues = c.0; moment = c.1.0; count = c.1.1 }) (λ _. refl)

  -- one is due at an earlier moment, or at the same one and was entered no later
  abbrev pub IsInTurn : Due T → Due T → Type 0
  IsInTurn d e = (d.at ≤ e.at) × (d.at ≡ e.at → d.number ≤ e.number)
