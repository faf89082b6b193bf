-- A run, as contracts see it.
use Rattle.std.specs.Prelude.{◌≡◌, ℕ, Bool, true, false, ◌+◌, ◌-◌, ◌^◌, ◌<◌, ◌≤◌, List, [], ◌∷◌, Option, None, Some, length, map, min, nat_lt, ◌&&◌}
use Rattle.std.specs.Prelude.{if◌then◌else◌}
use Rattle.homa_plain.specs.declared.id.CallId.{CallId}
use Rattle.homa_plain.specs.declared.id.HostId.{HostId}
use Rattle.homa_plain.specs.declared.event.Event.{Event}
use Rattle.homa_plain.specs.declared.event.Event.TheVariants.{Deliver}
use Rattle.homa_plain.specs.Entries.{PlainEntry, PlainCall, PlainSend}
use Rattle.call_figures.specs.declared.calls.SimCall.{SimCall}
use Rattle.call_figures.specs.declared.transfer.Transfer.{Transfer}
use Rattle.experiment.specs.declared.load.Load.{Load}
use Rattle.network_parts.specs.Dues.{Calendar}
use Rattle.packet_network.specs.declared.event.NetworkEvent.{NetworkEvent}
use Rattle.packet_network.specs.States.{NetworkState}
use Rattle.simulated_network.specs.declared.step.RunStep.{RunStep}
use Rattle.simulated_network.specs.declared.step.RunStep.TheVariants as step
use Rattle.simulated_network.specs.declared.step.SentDatagram.{SentDatagram}
use Rattle.simulated_network.specs.declared.trouble.Trouble.{Trouble}

-- What is asked of the run, the network and what is due in it, all calls that were made with their messages, how many were drawn, and
-- what shouldn't have happened.
pub record RunState : Type 0 where
  pub load : Load
  pub network : NetworkState
  pub agenda : Calendar NetworkEvent
  pub calls : List SimCall
  pub transfers : List Transfer
  pub drawn : ℕ
  pub trouble : Trouble

-- nothing changed but what is due
pub record IsSame (before after : RunState) : Type 0 where
  pub load : after.load ≡ before.load
  pub network : after.network ≡ before.network
  pub calls : after.calls ≡ before.calls
  pub transfers : after.transfers ≡ before.transfers
  pub drawn : after.drawn ≡ before.drawn
  pub trouble : after.trouble ≡ before.trouble

-- what no task changes
pub record IsKept (before after : RunState) : Type 0 where
  pub load : after.load ≡ before.load
  pub calls : after.calls ≡ before.calls
  pub moment : after.network.moment ≡ before.network.moment
  pub fates : after.network.fates ≡ before.network.fates
  pub left_out : after.trouble.left_out ≡ before.trouble.left_out

-- what no entry changes
pub record Stays (before after : RunState) : Type 0 where
  pub load : after.load ≡ before.load
  pub drawn : after.drawn ≡ before.drawn
  pub moment : after.network.moment ≡ before.network.moment
  pub delivered : after.network.fates.delivered ≡ before.network.fates.delivered
  pub old : after.network.fates.old ≡ before.network.fates.old
  pub left_out : after.trouble.left_out ≡ before.trouble.left_out

-- what is fixed when a call is made
pub record Made : Type 0 where
  pub id : CallId
  pub server : HostId
  pub request : ℕ
  pub drawn : ℕ
  pub made : ℕ

abbrev pub made_of : SimCall → Made
made_of c = record { id = c.id; server = c.server; request = c.request; drawn = c.drawn; made = c.made }

abbrev pub all_made : List SimCall → List Made
all_made calls = map made_of calls

-- the call of this id that is made at a moment, where so many were drawn
abbrev pub one_made : CallId → (server : HostId) → (bytes drawn moment : ℕ) → List Made
one_made id server bytes drawn moment = record { id = id; server = server; request = bytes; drawn = drawn - 1; made = moment } ∷ []

-- the calls that an entry tells to be made
abbrev pub made_by : PlainEntry → (drawn moment : ℕ) → List Made
made_by (PlainCall id server service bytes) drawn moment = one_made id server (min (length bytes) (2 ^ 32 - 1)) drawn moment
made_by _ drawn moment = []

-- a packet is sent if its datagram is known and its hosts are such that there may be
abbrev pub one_sent : (from to : HostId) → Option SentDatagram → ℕ
one_sent from to None = 0
one_sent from to (Some datagram) = if nat_lt from.0 32 && nat_lt to.0 32 then 1 else 0

-- what an entry that tells of no call that is made, and of no packet, changes nothing of
pub record IsHeard (before after : RunState) : Type 0 where
  pub load : after.load ≡ before.load
  pub made : all_made after.calls ≡ all_made before.calls
  pub network : after.network ≡ before.network
  pub drawn : after.drawn ≡ before.drawn
  pub left_out : after.trouble.left_out ≡ before.trouble.left_out

-- how many packets an entry sends
abbrev pub sent_by : PlainEntry → Option SentDatagram → ℕ
sent_by (PlainSend number from to inc role id level body payload) datagram = one_sent from to datagram
sent_by _ datagram = 0

-- a step asks for a call
abbrev pub is_call : RunStep → Bool
is_call (step.Call client server bytes) = true
is_call step.Over = false
is_call step.Inside = false
is_call (step.Event event bytes) = false

-- how many calls were drawn after a step: one more if it asks for a call, of at most 2^32 - 1 that are counted
abbrev pub drawn_after : RunStep → ℕ → ℕ
drawn_after s n = if is_call s then min (n + 1) (2 ^ 32 - 1) else n

-- how many packets a step brings to their hosts
abbrev pub delivered_by : RunStep → ℕ
delivered_by (step.Event (Deliver packet) bytes) = 1
delivered_by _ = 0

-- the bytes of a request that a step asks for, or of a datagram that it injects
abbrev pub bytes_of : RunStep → ℕ
bytes_of (step.Call client server bytes) = bytes
bytes_of (step.Event event bytes) = bytes
bytes_of step.Over = 0
bytes_of step.Inside = 0

-- the step says that the run is over
abbrev pub is_end : RunStep → Bool
is_end step.Over = true
is_end step.Inside = false
is_end (step.Event event bytes) = false
is_end (step.Call client server bytes) = false

-- What a task gives: a call that it asks for counts as drawn, it brings no packet, and it isn't the last step.
pub record IsBegun (s : RunStep) (before after : RunState) : Type 0 where
  pub drawn : after.drawn ≡ drawn_after s before.drawn
  pub delivered : delivered_by s ≡ 0
  pub bytes : bytes_of s ≤ 1000000
  pub last : is_end s ≡ false

-- a step asks for no call, brings no packet, has at most 1,000,000 bytes beside it, and isn't the last
pub record IsQuiet (s : RunStep) : Type 0 where
  pub last : is_end s ≡ false
  pub call : is_call s ≡ false
  pub delivered : delivered_by s ≡ 0
  pub bytes : bytes_of s ≤ 1000000
