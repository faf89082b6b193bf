use Rattle.std.proofs.Common.{sym, ◌∙◌}
use Rattle.place_heap.proofs.Fronts.{least_first_seen, least_changes, least_stays}
use Rattle.place_heap.proofs.front.least_of.Goals as goal
use Rattle.place_heap.proofs.front.least_of.Goals.{then-stands_before, else-stands_before}

pub loop-i-init : goal.loop-i-init
loop-i-init c = record { inside = c.requires; least = least_first_seen c.args.front.now }

pub loop-i-preserved : goal.loop-i-preserved
loop-i-preserved c =
    elim c.if-stands_before.branch [
      | then-stands_before w ↦ rw w.best-is (record {
        inside = c.loop-i-test.true;
        least = least_changes c.args.front.now c.loop-i.i c.loop-i.best c.loop-i.invariant.least (sym c.stands_before.ensures ∙ w.if-stands_before.true);
      })
      | else-stands_before w ↦ rw w.best-is (record {
        inside = c.loop-i.invariant.inside;
        least = least_stays c.args.front.now c.loop-i.i c.loop-i.best c.loop-i.invariant.least (sym c.stands_before.ensures ∙ w.if-stands_before.false);
      })
    ]
