use Rattle.std.proofs.Common.{◌≡◌, ◌-◌, ℕ, ap, ◌∙◌, arith}
use Rattle.std.specs.Prelude.{slice_get}
use Rattle.std.specs.List.{flat_map}
use Rattle.world_packets.specs.Lates.{late_of}
use Rattle.world_packets.proofs.Parts.{get-left, get-right}
use Rattle.world_packets.proofs.LatesLaws.{full_length, lates_length}
use Rattle.world_packets.proofs.late.Lates.get.Goals as goal

pub get-requires : goal.get-requires
get-requires c = omega (arith, lates_length c.args.self.now, c.requires)

pub returns-then-n-self : goal.returns-then-n-self
returns-then-n-self c =
    let l = c.args.self.now in
    get-right (flat_map late_of l.full.items) (late_of l.latest) (c.args.n - l.latest.first) c.args.n (omega (arith, full_length l)) ∙ c.get.ensures

pub returns : goal.returns
returns c =
    let l = c.args.self.now in
    let none : c.args.n ≡ c.args.n - 0 = omega arith in
    get-left (flat_map late_of l.full.items) (late_of l.latest) c.args.n (omega (arith, full_length l))
    ∙ ap (λ (k : ℕ). slice_get (flat_map late_of l.full.items) k) none ∙ c.find-ticks.ensures.same ∙ c.get-2.ensures
