-- After the last turn all have it.
use Rattle.std.proofs.Common.{◌≡◌, ◌≤◌, ℕ, refl, ap, ◌∙◌, sym, List, ◌++◌, length, map, take, drop, set, arith}
use Rattle.std.proofs.lemmas.List.{append-nil, take_all, drop_all}
use Rattle.std.proofs.lemmas.List.Edits.{map_over_more}
use Rattle.std.proofs.Math.Seq.{take-append_seam}
use Rattle.generated_runs.specs.Fabric.{Destination, refilled}
use Rattle.homa_fabric.specs.Seen.{Seen}
use Rattle.homa_fabric.proofs.network.Fabric.begin.Goals as goal

pub loop-destination-init : goal.loop-destination-init
loop-destination-init c = refl

pub loop-destination-preserved : goal.loop-destination-preserved
loop-destination-preserved c =
    let all = c.deref_mut-destination-items.result.now in
    ap (set c.loop-destination.destination-items c.loop-destination.destination-index) (c.refill.ensures ∙ ap refilled (sym c.destination-item.is))
    ∙ map_over_more refilled all c.loop-destination.destination-items c.loop-destination.destination-index c.destination-item.result
    c.loop-destination-test.true c.loop-destination.invariant c.destination-item.is

-- nothing is left behind the last turn
gone_over : (ds : List Destination) (i : ℕ) → length ds ≤ i → map refilled (take i ds) ++ drop i ds ≡ map refilled ds
gone_over ds i past = rw (take_all i ds past, drop_all i ds past, append-nil (map refilled ds)) refl

pub returns-clause-destinations : goal.returns-clause-destinations
returns-clause-destinations c =
    let ds = c.loop-destination.destination-items in
    let count : c.self.inside.destinations.len ≡ length ds = omega (arith, c.deref_mut-destination-items.ensures.len, c.loop-destination.auto) in
    ap (λ (n : ℕ). take n (ds ++ drop (length ds) c.self.inside.destinations.items)) count
    ∙ take-append_seam ds (drop (length ds) c.self.inside.destinations.items)
    ∙ c.loop-destination.invariant
    ∙ gone_over c.deref_mut-destination-items.result.now c.loop-destination.destination-index c.loop-destination-test.false
    ∙ ap (map refilled) (c.deref_mut-destination-items.ensures.value ∙ ap (λ (f : Seen). f.fabric.destinations) c.self.view_is)
