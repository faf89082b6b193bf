-- Which plain worlds a world may be, what it tells of its last event, and what is so of it between two events.
use Rattle.std.specs.Prelude.{◌≡◌, ◌≤◌, ◌<◌, ◌+◌, ◌*◌, ◌^◌, ℕ, Option, Some, List, [], ◌∷◌, ◌++◌, length, map, slice_get, slice_index_or}
use Rattle.std.specs.List.{AllByRecursion}
use Rattle.homa_plain.specs.declared.id.HostId.{HostId}
use Rattle.homa_plain.specs.declared.settings.Settings.{Settings}
use Rattle.homa_plain.specs.Settings.{IsValid, band}
use Rattle.homa_plain.specs.Entries.{PlainEntry, PlainClock, PlainRestart, PlainShift, PlainDeliver, PlainInject}
use Rattle.homa_plain.specs.World.{World as PlainWorld, last_tick}
use Rattle.homa_plain.specs.Replay.{Happening}
use Rattle.homa_plain.specs.declared.fault.WorldFault.{WorldFault}
use Rattle.homa_replay.specs.ReplayWorld.{IsApplied, IsNotApplied}
use Rattle.step_moves.specs.Worlds.{HasOwnName}
use Rattle.homa_service.specs.Table.{place_of}
use Rattle.world_packets.specs.All.{kept_all, settings_of}
use Rattle.event_laws.specs.Named.{numbered}
use Rattle.event_laws.specs.Apart.{IsApart}
use Rattle.homa_world.specs.declared.parts.First.{First}
use Rattle.homa_world.specs.declared.parts.First.TheVariants as first
use Rattle.homa_world.specs.declared.parts.Last.{Last}
use Rattle.homa_world.specs.declared.parts.Last.TheVariants as last
use Rattle.homa_world.specs.declared.parts.WorldParts.{WorldParts}
use Rattle.host_table.specs.Left.{entries_of, HasLeft}
use Rattle.host_table.specs.Staged.{hosts_of, Known, known_of, seats_of, spares_of}
use Rattle.homa_world.specs.Packed.{AreShownBy, IsFromHost}
use Rattle.box_laws.specs.Boxes.{Allows, counted, all_counted, may_tell}

-- ---- what the last event told

-- the entry that stands before those of a host's step, if there is one
abbrev pub first_told : HostId → First → List ℕ → List PlainEntry
first_told host first.Nothing bytes = []
first_told host (first.Delivered packet) bytes = PlainDeliver packet ∷ []
first_told host first.Injected bytes = PlainInject host bytes ∷ []

-- a host with its own name, whose clock and numbers are within their bounds
pub record HostFits (s : Settings) (now applied spares : ℕ) (id : HostId) (k : Known) : Type 0 where
  pub settings : k.settings ≡ s
  pub name : HasOwnName id k.host
  pub apart : IsApart id k.host
  pub last : k.host.last ≤ now
  pub order : k.host.order ≤ 64 * applied
  pub inc : 1 ≤ k.host.inc
  pub lives : k.host.inc + spares ≤ 1000001

module _ {S : Type 0} where
  -- the plain world may be this one, whatever its services will answer
  pub record StandsFor (world : WorldParts S) (w : PlainWorld) : Type 0 where
    pub clock : w.clock ≡ world.clock
    pub hosts : w.hosts ≡ map (λ (k : Known). k.host) (known_of world.stage)
    pub leads : w.leads ≡ world.leads.items
    pub packets : AreShownBy world.settings world.clock w.packets (kept_all world.packets)
    pub spares : w.spares ≡ length (spares_of world.stage)

  -- the entries of an event that was this one
  abbrev pub told_by : WorldParts S → Last → List PlainEntry
  told_by w last.Nothing = []
  told_by w last.Ticked = PlainClock w.clock ∷ []
  told_by w (last.Restarted host inc) = PlainRestart host inc ∷ []
  told_by w (last.Shifted host n) = PlainShift host n ∷ []
  told_by w (last.Stepped host first base) =
      first_told host first w.injected.items ++ map (numbered base) (entries_of w.stage (slice_get (hosts_of w.stage) host.0))

  -- the entries of the last event
  abbrev pub told_of : WorldParts S → List PlainEntry
  told_of w = told_by w w.last

  -- what the boxes may answer from now on
  abbrev pub may_tell_of : (S → ℕ) → Allows S → WorldParts S → List PlainEntry → Type 0
  may_tell_of served allows w = may_tell allows (all_counted served (seats_of w.stage)) (map (counted served) (spares_of w.stage))

  -- ---- what is so between two events

  -- a step left its packets at its host, and there are numbers for them
  abbrev pub IsLast : WorldParts S → Last → Type 0
  IsLast w (last.Stepped host first base) = (base + 64 < 2 ^ 64) × HasLeft w.stage (slice_get (hosts_of w.stage) host.0)
  IsLast w other = Unit {0}

  -- a box stands there, which answered no more often than there were events
  pub record SeatFits (served : S → ℕ) (applied : ℕ) (o : Option S) : Type 0 where
    pub seat : S
    pub is : o ≡ Some seat
    pub count : served seat ≤ applied

  -- the settings hold of all parts, whose numbers are within their bounds
  pub record IsKept (served : S → ℕ) (w : WorldParts S) : Type 0 where
    pub valid : IsValid w.settings
    pub clock : w.clock ≤ last_tick
    pub hosts : length (known_of w.stage) ≡ w.settings.hosts
    pub leads : length w.leads.items ≡ w.settings.hosts
    pub lead : (i : ℕ) → slice_index_or w.leads.items i 0 ≤ band w.settings
    pub each : (id : HostId) (k : Known) → slice_get (known_of w.stage) id.0 ≡ Some k
        → HostFits w.settings (w.clock + slice_index_or w.leads.items id.0 0) w.applied (length (spares_of w.stage)) id k
    pub places : length (seats_of w.stage) ≡ w.settings.hosts
    pub seats : (i : ℕ) → i < w.settings.hosts → SeatFits served w.applied (place_of (seats_of w.stage) i)
    pub spares : AllByRecursion (λ seat. served seat ≤ w.applied) (spares_of w.stage)
    pub packets : settings_of w.packets ≡ w.settings
    pub few : length (kept_all w.packets) ≤ 64 * w.applied
    pub froms : AllByRecursion (IsFromHost w.settings.hosts) (kept_all w.packets)
    pub last : IsLast w w.last

module _ {S : Type 0} (served : S → ℕ) (allows : Allows S) where
  -- an event was applied: the plain world's outcome
  abbrev pub Applies : WorldParts S → WorldParts S → Happening → Type 0
  Applies old new e = (w : PlainWorld) → StandsFor old w → IsApplied old.settings w e (StandsFor new) (told_of new) (may_tell_of served allows old)
      (may_tell_of served allows new)

  -- the boxes may answer no more than before
  abbrev pub AllowsNoMore : WorldParts S → WorldParts S → Type 0
  AllowsNoMore old new = (told : List PlainEntry) → may_tell_of served allows new told → may_tell_of served allows old told

-- an event wasn't applied: the plain world refuses it, or there is no memory
abbrev pub Refuses : {S : Type 0} → WorldParts S → Happening → WorldFault → Type 0
Refuses old e fault = (w : PlainWorld) → StandsFor old w → IsNotApplied old.settings w e fault

-- it still stands for each plain world that it stood for
abbrev pub StillStands : {S : Type 0} → WorldParts S → WorldParts S → Type 0
StillStands old new = (w : PlainWorld) → StandsFor old w → StandsFor new w
