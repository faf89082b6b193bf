-- The places of a table's rows, as a host sees them.
use Rattle.std.proofs.Common.{◌≡◌, ℕ, Option, Some, None, refl, sym, ap, ◌∙◌}
use Rattle.std.specs.Option.{option_map}
use Rattle.plain_sets.specs.Maps.{get}
use Rattle.plain_sets.proofs.MapMembers.{same_some}
use Rattle.homa_plain.specs.declared.id.CallId.{CallId}
use Rattle.homa_plain.specs.Rows.{RowsOf}
use Rattle.host_places.specs.Mapped.{mapped}
use Rattle.host_places.specs.Placed.{Placed, ArePlaced}
use Rattle.host_places.proofs.MappedLaws.{get-mapped}
use Rattle.host_view.specs.Follow.{HasPlaces}

-- a value that was made of another
pub made_of : {X Y : Type 0} (f : X → Y) (o : Option X) (y : Y) → option_map f o ≡ Some y → (x : X) × (o ≡ Some x) × (f x ≡ y)
made_of f None y e = absurd (no e) where
  no : None ≡ Some y → ⊥
  no e = cc
made_of f (Some x) y e = (x, refl, same_some (f x) y e)

module _ {R S : Type 0} (f : Placed R → S) (room : ℕ) (rows : RowsOf (Placed R)) (placed : ArePlaced room rows) where
  abbrev places : RowsOf ℕ
  places = mapped (λ (x : Placed R). x.place) rows

  at_place : (id : CallId) (x : Placed R) → get rows id ≡ Some x → get places id ≡ Some x.place
  at_place id x e = get-mapped (λ (x : Placed R). x.place) rows id ∙ ap (option_map (λ (x : Placed R). x.place)) e

  of_place : (id : CallId) (n : ℕ) → get places id ≡ Some n → (x : Placed R) × (get rows id ≡ Some x) × (x.place ≡ n)
  of_place id n e = made_of (λ (x : Placed R). x.place) (get rows id) n (sym (get-mapped (λ (x : Placed R). x.place) rows id) ∙ e)

  -- rows at places have places, whatever a host sees of them
  pub has_places : HasPlaces room (mapped f rows) (mapped (λ (x : Placed R). x.place) rows)
  has_places = record {
    stands = λ id row e.
        let x = made_of f (get rows id) row (sym (get-mapped f rows id) ∙ e) in
        (x.0.place, at_place id x.0 x.1, placed.within id x.0 x.1);
    apart = λ p q n e g.
        let x = of_place p n e in
        let y = of_place q n g in
        placed.apart p q x.0 y.0 x.1 y.1 (x.2 ∙ sym y.2);
  }
