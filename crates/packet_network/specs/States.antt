-- A network, as contracts see it.
use Rattle.std.specs.Prelude.{◌≡◌, ℕ, List, Option, None, Some, slice_index_or, slice_set}
use Rattle.network_parts.specs.Dues.{Calendar}
use Rattle.run_gauges.specs.Receivers.{Known, nothing_known}
use Rattle.packet_network.specs.declared.fates.Fates.{Fates}
use Rattle.packet_network.specs.declared.measure.Down.{Down}
use Rattle.packet_network.specs.declared.outlet.Outlet.{Outlet}
use Rattle.packet_network.specs.declared.event.NetworkEvent.{NetworkEvent}
use Rattle.packet_network.specs.declared.event.Reached.{Reached}
use Rattle.packet_network.specs.declared.event.Reached.TheVariants.{Task, Card, Output, AtHost, Nothing}

-- The moment of what came last, what became of packets, how many are under way, and how many of a million are lost and come twice. Those
-- under way are counted where they stand: in what is due, at cards and at outputs. And what was measured at these.
pub record NetworkState : Type 0 where
  pub moment : ℕ
  pub fates : Fates
  pub under_way : ℕ
  pub loss : ℕ
  pub repeat : ℕ
  pub cards : List Outlet
  pub outputs : List Outlet
  pub down : Down

-- a network with all that is due in it, and with what is known of each receiver
pub record WholeNetwork : Type 0 where
  pub state : NetworkState
  pub agenda : Calendar NetworkEvent
  pub receivers : List Known

-- what is known of the receiver with this number changes so
abbrev pub at_receiver : (host : ℕ) → (Known → Known) → List Known → List Known
at_receiver host change rs = slice_set rs host (change (slice_index_or rs host (nothing_known 0)))

-- how many packets came to their host
abbrev pub arrived : Option Reached → ℕ
arrived None = 0
arrived (Some (Task task)) = 0
arrived (Some (Card begun)) = 0
arrived (Some (Output begun)) = 0
arrived (Some (AtHost packet)) = 1
arrived (Some Nothing) = 0

-- how many packets came to their host
abbrev pub arriving : Reached → ℕ
arriving reached = arrived (Some reached)

-- as many of a million are lost, and as many come twice
pub record IsAsGiven (before after : NetworkState) : Type 0 where
  pub loss : after.loss ≡ before.loss
  pub repeat : after.repeat ≡ before.repeat

-- no packet is lost or comes twice if none of a million is or does
pub record IsLossless (before after : NetworkState) : Type 0 where
  pub lost : before.loss ≡ 0 → after.fates.lost ≡ before.fates.lost
  pub repeated : before.repeat ≡ 0 → after.fates.repeated ≡ before.fates.repeated
