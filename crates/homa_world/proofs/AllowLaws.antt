-- What the boxes may answer where no event was applied, and what a world shows of itself.
use Rattle.std.proofs.Common.{◌≡◌, ℕ, Option, Some, List, sym, ap, subst, ◌∙◌}
use Rattle.std.specs.Prelude.{map, slice_set}
use Rattle.std.specs.Option.{option_map}
use Rattle.std.proofs.lemmas.List.{map-set}
use Rattle.homa_plain.specs.declared.id.HostId.{HostId}
use Rattle.homa_service.specs.Table.{place_of}
use Rattle.host_table.specs.Staged.{seats_of, spares_of, HasNotCome}
use Rattle.homa_world.specs.declared.parts.WorldParts.{WorldParts}
use Rattle.box_laws.specs.Boxes.{Allows, counted, all_counted, may_tell}
use Rattle.homa_world.specs.Standing.{AllowsNoMore}
use Rattle.box_laws.proofs.AskedLaws.{AreUnder, all_under, set_under, under_tell}
use Rattle.homa_world.proofs.CameLaws.{place_counted, same_set}

module _ {S : Type 0} (served : S → ℕ) (allows : Allows S) where
  -- the same boxes
  pub same_boxes : (old new : WorldParts S) → seats_of new.stage ≡ seats_of old.stage → spares_of new.stage ≡ spares_of old.stage
      → AllowsNoMore served allows old new
  same_boxes old new seats spares told may =
      subst (λ xs. may_tell allows (all_counted served (seats_of old.stage)) (map (counted served) xs) told) spares
      (subst (λ xs. may_tell allows (all_counted served xs) (map (counted served) (spares_of new.stage)) told) seats may)

  -- the same hosts and boxes
  pub same_stage : (old new : WorldParts S) → new.stage ≡ old.stage → AllowsNoMore served allows old new
  same_stage old new same = same_boxes old new (ap seats_of same) (ap spares_of same)

  -- no more than that in between
  pub no_more_on : (old mid new : WorldParts S) → AllowsNoMore served allows old mid → AllowsNoMore served allows mid new → AllowsNoMore served allows old new
  no_more_on old mid new a b told may = a told (b told may)

  -- a box was lent, and gave no answer
  pub not_came_tells : (old new : WorldParts S) (id : HostId) → HasNotCome served allows id old.stage new.stage → AllowsNoMore served allows old new
  not_came_tells old new id n told may =
      let seats : List (Option (S × ℕ)) = all_counted served (seats_of old.stage) in
      let had : Option (S × ℕ) = Some (n.lent.had, served n.lent.had) in
      let now : Option (S × ℕ) = Some (n.lent.seat, served n.lent.seat) in
      let place : place_of seats id.0 ≡ had = place_counted allows served (seats_of old.stage) id.0 n.lent.had n.lent.place in
      let new_seats : all_counted served (seats_of new.stage) ≡ slice_set seats id.0 now =
      ap (all_counted served) n.lent.seats ∙ map-set (option_map (counted served)) (seats_of old.stage) id.0 (Some n.lent.seat) in
      let under : AreUnder allows (slice_set seats id.0 now) seats =
      subst (AreUnder allows (slice_set seats id.0 now)) (same_set allows seats id.0 (n.lent.had, served n.lent.had) place)
      (set_under allows seats seats id.0 now had (all_under allows seats) (n.count, n.lent.before)) in
      under_tell allows (all_counted served (seats_of new.stage)) seats (map (counted served) (spares_of old.stage)) told
      (subst (λ xs. AreUnder allows xs seats) (sym new_seats) under)
      (subst (λ xs. may_tell allows (all_counted served (seats_of new.stage)) (map (counted served) xs) told) n.lent.spares may)
