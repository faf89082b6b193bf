-- How many packets wait at cards and outputs.
use Rattle.std.specs.Prelude.{◌≡◌, ◌<◌, ◌+◌, ℕ, List, Bool, true, false, Result, Ok, OnErr}
use Rattle.std.specs.List.{sum_by}
use Rattle.std.specs.BinaryHeap.{heap_len}
use Rattle.network_parts.specs.Queues.{total}
use Rattle.packet_network.specs.declared.outlet.Outlet.{Outlet}
use Rattle.packet_network.specs.Standing.{in_port}

-- how many packets wait at one
abbrev pub waiting_at : Outlet → ℕ
waiting_at o = in_port o.port.queues + heap_len o.ranked

-- how many packets wait at all of these
abbrev pub waiting_at_all : List Outlet → ℕ
waiting_at_all os = sum_by waiting_at os

-- A packet of so many bytes came to one. It waits there too, or it had no room, or there was no memory for it.
pub record HasQueued {E : Type 0} (old new : Outlet) (bytes : ℕ) (result : Result Bool E) : Type 0 where
  pub fits : result ≡ Ok true → waiting_at new ≡ waiting_at old + 1
  pub full : result ≡ Ok false → old.port.room < total old.port.queues + bytes
  pub refused : result ≡ Ok false → waiting_at new ≡ waiting_at old
  pub err : OnErr result (waiting_at new ≡ waiting_at old)
  pub room : new.port.room ≡ old.port.room
