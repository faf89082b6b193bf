-- What a row that is due asks for.
use Rattle.std.proofs.Common.{◌≡◌, ℕ, ◌+◌, Bool, true, false, ◌||◌, Option, Some, None, refl, subst}
use Rattle.std.specs.Option.{option_map, is_none, IsSomeAnd}
use Rattle.plain_sets.specs.Ranges.{Range}
use Rattle.range_set.specs.Fits.{bounds}
use Rattle.homa_plain.specs.declared.settings.Settings.{Settings}
use Rattle.homa_plain.specs.Incoming.{Incoming, first_gap}
use Rattle.homa_plain.specs.Rows.{ClientRow}
use Rattle.homa_plain.specs.Timers.{client_deadline, unless, wanted, is_response_at_rest}

-- where nothing is wanted, the timer rests
at_rest : (b : Bool) (s : Settings) (part : Option Incoming) → option_map bounds (wanted s part) ≡ None → (b || is_response_at_rest part) ≡ true
at_rest b s None e = cc
at_rest b s (Some part) e = none (first_gap part) e where
  none : (o : Option Range) → option_map bounds o ≡ None → (b || is_none o) ≡ true
  none None f = elim b as (λ b. (b || true) ≡ true) [ true ↦ refl | false ↦ refl ]
  none (Some r) f = cc

-- so a row that is due wants something
pub due_wants : (s : Settings) (r : ClientRow) (P : ℕ → Type 0) → IsSomeAnd (client_deadline s r) P → option_map bounds (wanted s r.part) ≡ None → ⊥
unfolding client_deadline
due_wants s r P due e = no (subst (λ b. IsSomeAnd (unless b (r.base + s.resend)) P) (at_rest _ s r.part e) due) where
  no : IsSomeAnd None P → ⊥
  no h = absurd h
