-- What a row emits, and the first message of the pacer.
use Rattle.std.proofs.Common.{◌≡◌, ℕ, ◌-◌, ◌⊎◌, inl, inr, Bool, true, false, cond, Option, Some, None, IsSome, List, [], refl}
use Rattle.std.specs.Prelude.{nat_lt}
use Rattle.std.specs.List.{Contains}
use Rattle.std.specs.Option.{option_map, MatchOption}
use Rattle.plain_sets.specs.Ordered.{ordered, first_of, IsLeast}
use Rattle.plain_sets.specs.Ranges.{Range, range}
use Rattle.plain_sets.proofs.OrderFirst.{first-ordered}
use Rattle.plain_sets.proofs.MapMembers.{same_some}
use Rattle.homa_plain.specs.declared.id.CallId.{CallId}
use Rattle.homa_plain.specs.declared.row.Emitted.{Emitted}
use Rattle.homa_plain.specs.declared.row.Emitted.TheVariants.{Sent, Short, Rests}
use Rattle.homa_plain.specs.Rows.{RowsOf}
use Rattle.homa_in.specs.Sends.{emits}
use Rattle.host_places.specs.Placed.{Placed, StandsAt, spot_at}
use Rattle.host_places.proofs.PlacedLaws.{get-spot}
use Rattle.homa_pacer.specs.Pace as pace
use Rattle.host_books.specs.declared.books.Waiting.{Waiting}
use Rattle.host_books.specs.Duties.{ready_in}
use Rattle.host_books.proofs.Follows.{IsFew}

-- what is so where this was emitted, of a message that may be sent or not, with these next bytes
abbrev pub IsView : Bool → Option Range → ℕ → Emitted → Type 0
IsView may next credit Rests = (may ≡ false) ⊎ (next ≡ None)
IsView may next credit Short = (may ≡ true) × (rg : Range) × (next ≡ Some rg) × (nat_lt credit (rg.to - rg.from) ≡ true)
IsView may next credit (Sent from to) = (may ≡ true) × (next ≡ Some (range from to)) × (nat_lt credit (to - from) ≡ false)

pub view_of : (may : Bool) (next : Option Range) (credit : ℕ) → IsView may next credit (cond may (emits credit next) Rests)
view_of false next credit = inl refl
view_of true None credit = inr refl
view_of true (Some rg) credit = by_cost (nat_lt credit (rg.to - rg.from)) refl where
  by_cost : (b : Bool) → nat_lt credit (rg.to - rg.from) ≡ b → IsView true (Some rg) credit (cond b Short (Sent rg.from rg.to))
  by_cost true e = (refl, rg, refl, e)
  by_cost false e = (refl, refl, e)

-- the row that stands at a place
pub at_spot : {R : Type 0} (rows : RowsOf (Placed R)) (n : ℕ) → IsSome (spot_at rows n) → (id : CallId) × (r : R) × StandsAt rows id n r
at_spot {R} rows n some = by_spot (spot_at rows n) refl some where
  by_spot : (o : Option (CallId × R)) → spot_at rows n ≡ o → IsSome o → (id : CallId) × (r : R) × StandsAt rows id n r
  by_spot None e some = cc
  by_spot (Some x) e some = (x.0, x.1, get-spot rows n x.0 x.1 e)

-- the pacer has the slot that it picks
pub picked_in : (book : List pace.Ready) (n : ℕ) → option_map (λ (r : pace.Ready). r.slot) (first_of (ordered pace.ready_key book)) ≡ Some n
    → (r : pace.Ready) × Contains book r × (r.slot ≡ n)
picked_in book n e = by_first (first_of (ordered pace.ready_key book)) (first-ordered pace.ready_key book) e where
  by_first : (o : Option pace.Ready) → MatchOption o (book ≡ []) (IsLeast pace.ready_key book) → option_map (λ (r : pace.Ready). r.slot) o ≡ Some n
      → (r : pace.Ready) × Contains book r × (r.slot ≡ n)
  by_first None least none = absurd (nothing none) where
    nothing : None ≡ Some n → ⊥
    nothing e = cc
  by_first (Some r) least e = (r, least.0, same_some r.slot n e)

-- a message has one thing in the pacer at most
pub few_ready : (slot : ℕ) (o : Option Waiting) → IsFew (ready_in slot o)
few_ready slot None = tt
few_ready slot (Some w) = tt
