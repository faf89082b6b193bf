-- What was measured at queues.
use Rattle.std.specs.Prelude.{ℕ, ◌+◌, ◌-◌, ◌*◌, ◌^◌, min, max, List, map, slice_index}
use Rattle.std.specs.List.{fold}
use Rattle.run_gauges.specs.declared.gauge.Gauge.{Gauge}
use Rattle.packet_network.specs.declared.measure.Waits.{Waits}
use Rattle.packet_network.specs.declared.measure.Level.{Level}
use Rattle.packet_network.specs.declared.measure.Down.{Down}
use Rattle.packet_network.specs.declared.outlet.Outlet.{Outlet}
use Rattle.packet_network.specs.declared.tally.QueueTally.{QueueTally}

-- the sum over time of what waited, up to a moment
abbrev pub area_of : Gauge → (at : ℕ) → ℕ
area_of g at = min (g.area + g.waiting * (at - g.since)) (2 ^ 128 - 1)

-- no packet waited
abbrev pub no_waits : Waits
no_waits = record { begun = 0; waited = 0; weighted = 0; area = 0; most = 0 }

-- no bytes went
abbrev pub no_bytes : Down
no_bytes = record { «data» = 0; again = 0; control = 0 }

-- the waits of one queue more, up to a moment
abbrev pub with_queue : (at : ℕ) → QueueTally → Waits → Waits
with_queue at q sum = record {
  begun = min (sum.begun + q.waits.begun) (2 ^ 64 - 1);
  waited = min (sum.waited + q.waits.waited) (2 ^ 64 - 1);
  weighted = min (sum.weighted + q.waits.weighted) (2 ^ 128 - 1);
  area = min (sum.area + area_of q.total at) (2 ^ 128 - 1);
  most = max sum.most q.total.most;
}

-- the waits of all of these, up to a moment
abbrev pub waits_of : (at : ℕ) → List Outlet → Waits
waits_of at os = fold (λ sum o. with_queue at o.tally sum) no_waits os

-- nothing waited or passed at a level
abbrev pub no_level : Level
no_level = record { most = 0; area = 0; passed = 0 }

-- what waited and passed at a level of one queue more, up to a moment
abbrev pub with_level : (at level : ℕ) → QueueTally → Level → Level
with_level at level q sum = record {
  most = max sum.most (slice_index (map (λ g. g.most) q.levels) level);
  area = min (sum.area + slice_index (map (λ g. area_of g at) q.levels) level) (2 ^ 128 - 1);
  passed = min (sum.passed + slice_index q.passed level) (2 ^ 64 - 1);
}

-- what waited and passed at a level of all of these, up to a moment
abbrev pub level_of : (at level : ℕ) → List Outlet → Level
level_of at level os = fold (λ sum o. with_level at level o.tally sum) no_level os

-- for how long the link of one was taken up to a moment, from the beginning on
abbrev pub taken_ever : (at : ℕ) → Outlet → ℕ
taken_ever at o = o.link.taken - (o.link.free - at)

-- the same since counting began anew
abbrev pub taken_to : (at : ℕ) → Outlet → ℕ
taken_to at o = taken_ever at o - o.taken

-- the bytes that wait at one
abbrev pub bytes_at : Outlet → ℕ
bytes_at o = o.tally.total.waiting
