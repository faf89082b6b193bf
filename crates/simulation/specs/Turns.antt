-- The turns of a run: in each the network gives a step, and heeds what the event told, if the step is one.
use Rattle.std.specs.Prelude.{◌≡◌, ◌≤◌, ◌<◌, ℕ, Option, None, List, [], ◌∷◌, ◌++◌}
use Rattle.homa_plain.specs.declared.id.HostId.{HostId}
use Rattle.homa_plain.specs.declared.settings.Settings.{Settings}
use Rattle.homa_plain.specs.declared.event.Event.{Event}
use Rattle.homa_plain.specs.declared.event.Event.TheVariants as event
use Rattle.homa_plain.specs.Entries.{PlainEntry, PlainSend}
use Rattle.homa_plain.specs.Script.{counting}
use Rattle.homa_plain.specs.World.{World, host_at}
use Rattle.homa_plain.specs.Replay.{Happening}
use Rattle.homa_plain.specs.Answers.{shown}
use Rattle.homa_replay.specs.Stream.{IsDone}
use Rattle.homa_world.specs.declared.shown.Passing.{Passing}
use Rattle.homa_world.specs.Passing.{IsOf}
use Rattle.generated_runs.specs.Generated.{call_text}
use Rattle.generated_runs.specs.Rounds.{live_at}
use Rattle.simulated_network.specs.declared.step.RunStep.{RunStep}
use Rattle.simulated_network.specs.declared.step.RunStep.TheVariants as step

-- What a turn of a run did.
pub data Turn : Type 0 where
  -- time went on in the network alone, or the network said that the run is over
  Waited : (given : RunStep) → Turn
  -- a call wasn't made
  LeftOut : (client server : HostId) (bytes : ℕ) → Turn
  -- an event happened, this was told of it, and this is the world after it
  Happened : (e : Happening) (told : List PlainEntry) (next : World) → Turn

-- the events of these turns, in their order
abbrev pub happenings : List Turn → List Happening
happenings [] = []
happenings (Waited given ∷ turns) = happenings turns
happenings (LeftOut client server bytes ∷ turns) = happenings turns
happenings (Happened e told next ∷ turns) = e ∷ happenings turns

-- what their events told
abbrev pub told_of : List Turn → List PlainEntry
told_of [] = []
told_of (Waited given ∷ turns) = told_of turns
told_of (LeftOut client server bytes ∷ turns) = told_of turns
told_of (Happened e told next ∷ turns) = told ++ told_of turns

-- the line of an event: the request of a call is written by its length
abbrev pub line_of : Happening → List ℕ
line_of e = call_text e.event e.bytes

-- an event with so many counting bytes beside it
abbrev pub beside : Event → ℕ → Happening
beside e bytes = record { event = e; bytes = counting 0 bytes }

-- ---- one turn

-- the step is no event
abbrev pub IsWait : RunStep → Type 0
IsWait step.Over = Unit {0}
IsWait step.Inside = Unit {0}
IsWait (step.Event e bytes) = ⊥
IsWait (step.Call client server bytes) = ⊥

-- the step asks for this event, if calls go to the service with this number
abbrev pub Asks : ℕ → RunStep → Happening → Type 0
Asks service step.Over h = ⊥
Asks service step.Inside h = ⊥
Asks service (step.Event e bytes) h = h ≡ beside e bytes
Asks service (step.Call client server bytes) h = h ≡ beside (event.Call client server service) bytes

-- the client has as many live calls as a host may have
abbrev pub IsFull : Settings → World → HostId → Type 0
IsFull s w client = s.calls ≤ live_at (host_at w client)

-- the client has fewer, if the step asks for a call
abbrev pub HasRoom : Settings → World → RunStep → Type 0
HasRoom s w step.Over = Unit {0}
HasRoom s w step.Inside = Unit {0}
HasRoom s w (step.Event e bytes) = Unit {0}
HasRoom s w (step.Call client server bytes) = live_at (host_at w client) < s.calls

-- this is shown of an entry's packet: nothing, if the entry isn't of one that was sent
abbrev pub IsShown : Settings → World → PlainEntry → Option Passing → Type 0
IsShown s w (PlainSend number from to inc role id level body payload) passing = IsOf s w number passing
IsShown s w entry passing = passing ≡ None

module _ {N : Type 0} (heeds : N → PlainEntry → Option Passing → N → Type 0) where
  -- The network heeded an entry, with what the world shows of its packet, and went on from there.
  pub record IsHeeded (s : Settings) (w : World) (e : PlainEntry) (a : N) (goes_on : N → Type 0) : Type 0 where
    pub passing : Option Passing
    pub is_shown : IsShown s w e passing
    pub next : N
    pub heeded : heeds a e passing next
    pub rest : goes_on next

  -- from the first state to the last, the network heeded these entries, one after the other
  abbrev pub AreHeeded : Settings → World → List PlainEntry → N → N → Type 0
  AreHeeded s w [] a b = a ≡ b
  AreHeeded s w (e ∷ es) a b = IsHeeded s w e a (λ next. AreHeeded s w es next b)

  -- An event happened: the plain world did it, with the answers that its own `run` line shows, which the boxes allow, and the
  -- network heeded each entry that it told. `stands` says which plain worlds the code's world may be afterwards.
  pub record HasHappened (s : Settings) (w : World) (e : Happening) (a b : N) (stands : World → Type 0)
      (before after : List PlainEntry → Type 0) : Type 0 where
    pub told : List PlainEntry
    pub next : World
    pub stood : stands next
    pub done : IsDone s w e (shown told) next told
    pub heard : AreHeeded s next told a b
    pub allowed : (more : List PlainEntry) → after more → before (told ++ more)

-- ---- all turns

module _ {N : Type 0} (gives : N → ℕ → RunStep → N → Type 0) (heeds : N → PlainEntry → Option Passing → N → Type 0) (leaves : N → N → Type 0) where
  -- The network gave a step at the tick of the world's clock, and went on from there.
  pub record IsGiven (w : World) (given : RunStep) (a : N) (goes_on : N → Type 0) : Type 0 where
    pub next : N
    pub gave : gives a w.clock given next
    pub rest : goes_on next

  -- It heard that the call which it gave isn't made, and went on from there.
  pub record IsLeftOut (a : N) (goes_on : N → Type 0) : Type 0 where
    pub next : N
    pub left : leaves a next
    pub rest : goes_on next

  -- It gave an event, which the plain world did, heeded each entry that it told, and went on from there. If the event is a call, its
  -- client had room for it.
  pub record IsTaken (s : Settings) (service : ℕ) (w : World) (e : Happening) (told : List PlainEntry) (next : World) (a : N)
      (goes_on : N → Type 0) : Type 0 where
    pub given : RunStep
    pub asks : Asks service given e
    pub room : HasRoom s w given
    pub asked : N
    pub gave : gives a w.clock given asked
    pub done : IsDone s w e (shown told) next told
    pub heard : N
    pub heeded : AreHeeded heeds s next told asked heard
    pub rest : goes_on heard

  -- These turns lead from this world and this state of the network to those. Calls go to the service with this number.
  abbrev pub AreTurns : Settings → ℕ → World → N → List Turn → World → N → Type 0
  AreTurns s service w a [] v b = (w ≡ v) × (a ≡ b)
  AreTurns s service w a (Waited given ∷ turns) v b = IsWait given × IsGiven w given a (λ next. AreTurns s service w next turns v b)
  AreTurns s service w a (LeftOut client server bytes ∷ turns) v b =
      IsFull s w client × IsGiven w (step.Call client server bytes) a (λ asked. IsLeftOut asked (λ next. AreTurns s service w next turns v b))
  AreTurns s service w a (Happened e told after ∷ turns) v b =
      IsTaken s service w e told after a (λ next. AreTurns s service after next turns v b)
