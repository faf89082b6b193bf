use Rattle.std.proofs.Common.{◌∙◌}
use Rattle.bench_books.proofs.timers.by_timers.Goals as goal
use Rattle.bench_books.proofs.timers.by_timers.Goals.{in-Some, in_default}

pub rounds-preserved : goal.rounds-preserved
rounds-preserved c =
    elim c.match-due.branch [
      | in-Some w ↦ rw w.timers-is record {
        slots = w.arm-in-Some.ensures.slots ∙ c.rounds.invariant.slots;
        orders = w.arm-in-Some.ensures.orders;
      }
      | in_default w ↦ rw w.timers-is c.rounds.invariant
    ]
