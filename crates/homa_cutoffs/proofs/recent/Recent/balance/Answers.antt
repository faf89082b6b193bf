use Rattle.std.proofs.Common.{ℕ, ◌≤◌, List, length, ap, ◌∙◌, ◌≡◌, arith}
use Rattle.homa_plain.specs.declared.packet.Cutoffs.{Cutoffs}
use Rattle.homa_plain.specs.Cutoffs.{bounds}
use Rattle.homa_cutoffs.proofs.Kept.{bounds-by-level, bounds-in_range}
use Rattle.homa_cutoffs.proofs.recent.Recent.balance.Goals as goal

pub returns : goal.returns
returns c =
    let eight : length c.loop-level.bound-items ≡ 8 = omega arith in
    let over : 8 ≤ c.loop-level.level = omega arith in
    let upto : c.loop-level.bound-items ≡ bounds c.args.k c.args.unsched c.self.inside.lengths.items =
    bounds-by-level c.args.k c.args.unsched c.self.inside.lengths.items c.loop-level.bound-items eight (λ i h. c.loop-level.invariant i (omega arith)) in
    let whole : List ℕ → Cutoffs = λ xs. record { version = c.args.version; upto = xs } in
    record {
      cutoffs = ap whole (upto ∙ ap (λ (ns : List ℕ). bounds c.args.k c.args.unsched ns) c.self.view_is);
      in_range = rw upto (bounds-in_range c.args.k c.args.unsched c.self.inside.lengths.items c.self.invariant.2);
    }
