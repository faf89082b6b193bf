-- A message that arrives, and what is granted of it. To which, at which priority: `homa_plain/specs/Grants`.
use Rattle.std.specs.Prelude.{◌≡◌, ◌≤◌, ℕ, List, Contains}
use Rattle.homa_plain.specs.declared.id.CallId.{CallId}
use Rattle.homa_plain.specs.declared.id.HostId.{HostId}
use Rattle.homa_plain.specs.declared.packet.Body.TheVariants as body
use Rattle.homa_plain.specs.declared.packet.Role.{Role}
use Rattle.homa_plain.specs.Grants.{seen as message_of}
use Rattle.homa_plain.specs.Sending.{Arriving, arrivals}
use Rattle.homa_plain.specs.Work.{Work, posts}
use Rattle.homa_plain.specs.Steps.{grants_at}
use Rattle.msg_pool.specs.Pool.{Pool}
use Rattle.homa_in.specs.Part.{Part, IsIn, seen}
use Rattle.host_view.specs.declared.outbox.SentFrame.{SentFrame}
use Rattle.host_view.specs.Seen.{slot_of}
use Rattle.host_view.specs.Follow.{ChangesAt}
use Rattle.homa_host.specs.Amid.{Amid}
use Rattle.homa_host.specs.Parts.{host_of, seen_of}
use Rattle.homa_host.specs.declared.parts.HostParts.{HostParts}

-- a message arrives in the row of a slot
pub record ArrivesAt (c : HostParts) (slot : ℕ) (a : Arriving) : Type 0 where
  pub there : Contains (arrivals (host_of c)) a
  pub at : slot_of (seen_of c) a.place ≡ slot

-- its part in the pool is this one
pub record IsPartOf (pool : Pool) (a : Arriving) (p : Part) : Type 0 where
  pub inside : IsIn pool p
  pub message : a.message ≡ message_of (seen pool p)

-- it is granted up to an end, but for the GRANT, which this side of this call sends
pub record IsRaised (old new : HostParts) (slot : ℕ) (a : Arriving) (offset : ℕ) (role : Role) (id : CallId) (server : HostId) : Type 0 where
  pub step : (w : Work) (frames : List SentFrame) → Amid w old frames
      → (v : Work) × Amid v new frames
      × ((prio : ℕ) → grants_at old.control.settings a.place offset prio w ≡ posts old.control.settings role id server (body.Grant offset prio) v)
  pub changes : ChangesAt a.place slot (seen_of old) (seen_of new)
  pub life : 1 ≤ id.inc
