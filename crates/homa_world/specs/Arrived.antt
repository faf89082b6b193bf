-- A datagram that came to a host.
use Rattle.std.specs.Prelude.{◌≡◌, ◌≢◌, ℕ, ◌+◌, Option, Some, IfSome, List, slice_get, slice_index_or}
use Rattle.homa_plain.specs.declared.id.HostId.{HostId}
use Rattle.homa_plain.specs.declared.event.Event.{Event}
use Rattle.homa_plain.specs.Entries.{PlainEntry}
use Rattle.homa_plain.specs.Packets.{Packet, sender, receiver}
use Rattle.homa_plain.specs.Steps.{arrival_step}
use Rattle.homa_plain.specs.World.{World as PlainWorld}
use Rattle.host_view.specs.Seen.{Seen}
use Rattle.event_laws.specs.Stepping.{IsStepWith}
use Rattle.host_table.specs.declared.stage.Stage.{Stage}
use Rattle.host_table.specs.Staged.{hosts_of, HasCome}
use Rattle.homa_world.specs.declared.parts.WorldParts.{WorldParts}
use Rattle.box_laws.specs.Boxes.{Allows}
use Rattle.homa_world.specs.Standing.{StandsFor}

-- it came from another host, or was no packet, and that is what the event is of every plain world that this one may be
pub record HasArrived {S : Type 0} (served : S → ℕ) (allows : Allows S) (e : Event) (bytes : List ℕ) (first : List PlainEntry) (to : HostId)
    (w : WorldParts S) (st : Stage S) : Type 0 where
  pub h : Seen
  pub at : slice_get (hosts_of w.stage) to.0 ≡ Some h
  pub packet : Option Packet
  pub come : HasCome served allows (w.clock + slice_index_or w.leads.items to.0 0) to h packet w.stage st
  pub ends : IfSome packet (λ p. (receiver p ≡ to) × (sender p ≢ to))
  pub event : (p : PlainWorld) → StandsFor w p
      → IsStepWith come.answer w.settings p to e bytes first (arrival_step h.settings h.host (w.clock + slice_index_or w.leads.items to.0 0) packet come.answer)
