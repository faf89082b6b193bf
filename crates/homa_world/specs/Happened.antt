-- What an event does to a world, whichever event it is.
use Rattle.std.specs.Prelude.{◌≡◌, ◌≤◌, ◌<◌, ◌+◌, ◌^◌, ℕ, Result, IfErr, OnOk, OnErr}
use Rattle.homa_plain.specs.declared.fault.WorldFault.{WorldFault}
use Rattle.homa_plain.specs.Replay.{Happening}
use Rattle.world_packets.specs.All.{open_tick, HasRoomFor}
use Rattle.box_laws.specs.Boxes.{Allows}
use Rattle.homa_world.specs.declared.parts.WorldParts.{WorldParts}
use Rattle.homa_world.specs.Standing.{IsKept, Applies, Refuses, StillStands, AllowsNoMore}

module _ {S : Type 0} (served : S → ℕ) where
  -- one more event may happen, and can be counted
  pub record MayHappen (w : WorldParts S) : Type 0 where
    pub kept : IsKept served w
    pub few : w.applied < 2 ^ 57

  -- room was made for the packets of a step at this tick, or there was no memory for it; the world stands for what it stood for
  pub record HasMadeRoom {A E : Type 0} (old new : WorldParts S) (result : Result A E) : Type 0 where
    pub still : StillStands old new
    pub kept : IsKept served new
    pub room : OnOk result (HasRoomFor new.packets 64)
    pub tick : OnOk result (open_tick new.packets ≡ new.clock)

  -- nothing happened: the world stands for what it stood for, and its boxes may answer no more than before
  pub record NothingHappened (may : Allows S) (old new : WorldParts S) : Type 0 where
    pub kept : IsKept served new
    pub still : StillStands old new
    pub allows : AllowsNoMore served may old new

  -- the event happened, or this fault is its refusal and nothing happened
  pub record HasHappened (may : Allows S) (e : Happening) (old new : WorldParts S) (result : Result (Unit {0}) WorldFault) : Type 0 where
    pub done : OnOk result (Applies served may old new e)
    pub fault : IfErr result (Refuses old e)
    pub still : OnErr result (StillStands old new)
    pub allows : OnErr result (AllowsNoMore served may old new)
    pub kept : IsKept served new
    pub settings : new.settings ≡ old.settings
    pub counted : new.applied ≤ old.applied + 1
