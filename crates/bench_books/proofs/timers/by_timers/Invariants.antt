use Rattle.std.proofs.Common.{◌≡◌}
use Rattle.std.specs.List.{AllByRecursion}
use Rattle.homa_timers.specs.Armed.{Timer}
use Rattle.bench_books.proofs.timers.by_timers.Given as goal

abbrev pub invariant-fills : goal.invariant-fills
invariant-fills l = record { slots : l.timers.slots ≡ 1280; orders : AllByRecursion (λ (t : Timer). t.order ≡ t.slot) l.timers.timers }

abbrev pub invariant-rounds : goal.invariant-rounds
invariant-rounds l = record { slots : l.timers.slots ≡ 1280; orders : AllByRecursion (λ (t : Timer). t.order ≡ t.slot) l.timers.timers }
