-- The first level from above that has a packet is the highest.
use Rattle.std.proofs.Common.{ℕ, ◌-◌, ◌<◌, sym, ap, ◌∙◌, Some, zero-add, inl, inr, arith}
use Rattle.std.proofs.Math.Nat.{eq-or-lt_of_le}
use Rattle.generated_runs.specs.Fabric.{Destination, level_of}
use Rattle.homa_fabric.proofs.QueueLaws.{levels_past, none_at, some_at}
use Rattle.homa_fabric.proofs.HandedLaws.{highest_none, highest_some}
use Rattle.homa_fabric.proofs.inbound.Destination.highest.Goals as goal

pub loop-level-init : goal.loop-level-init
loop-level-init c = λ k past. ap (λ (d : Destination). level_of d k) (sym c.self.view_is)
    ∙ levels_past c.self.inside.levels.items c.self.inside.budget c.self.inside.again k c.self.invariant past

pub returns-then-not-is_empty-clause-level : goal.returns-then-not-is_empty-clause-level
returns-then-not-is_empty-clause-level c =
    let inside : c.loop-level.level - 1 < 8 = omega arith in
    let first = some_at c.self.inside.levels.items c.self.inside.budget c.self.inside.again (c.loop-level.level - 1) c.index.result.now
    c.self.invariant inside c.index.ensures c.if-not-is_empty.ensures in
    ap (λ (n : ℕ). Some n) (sym (zero-add (c.loop-level.level - 1)))
    ∙ sym (highest_some 0 (c.loop-level.level - 1) c.args.self.now.levels first.0 first.1
    (ap (λ (d : Destination). level_of d (c.loop-level.level - 1)) (sym c.self.view_is) ∙ first.2) (λ j above. c.loop-level.invariant j (omega arith)))

pub loop-level-preserved : goal.loop-level-preserved
loop-level-preserved c = λ k from.
    let inside : c.loop-level.level - 1 < 8 = omega arith in
    elim (eq-or-lt_of_le from) [
      | inl here ↦ ap (level_of c.args.self.now) (sym here)
          ∙ ap (λ (d : Destination). level_of d (c.loop-level.level - 1)) (sym c.self.view_is)
          ∙ none_at c.self.inside.levels.items c.self.inside.budget c.self.inside.again (c.loop-level.level - 1) c.index.result.now c.self.invariant
          inside c.index.ensures c.if-not-is_empty.ensures
      | inr above ↦ c.loop-level.invariant k (omega arith)
    ]

pub returns-clause-level : goal.returns-clause-level
returns-clause-level c = sym (highest_none 0 c.args.self.now.levels (λ k. c.loop-level.invariant k (omega arith)))
