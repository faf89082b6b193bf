-- Which plain worlds the hosts of a node may be, what they tell of their last step, and what is so of them between two steps.
use Rattle.std.specs.Prelude.{◌≡◌, ◌≤◌, ◌<◌, ◌+◌, ◌*◌, ◌^◌, ℕ, Option, Some, List, [], length, map, replicate, slice_get}
use Rattle.std.specs.List.{AllByRecursion}
use Rattle.homa_plain.specs.declared.id.HostId.{HostId}
use Rattle.homa_plain.specs.declared.settings.Settings.{Settings}
use Rattle.homa_plain.specs.Settings.{IsValid}
use Rattle.homa_plain.specs.Entries.{PlainEntry}
use Rattle.homa_plain.specs.World.{World, Outcome, last_tick}
use Rattle.step_moves.specs.Worlds.{HasOwnName}
use Rattle.event_laws.specs.Named.{numbered}
use Rattle.event_laws.specs.Apart.{IsApart}
use Rattle.homa_service.specs.Table.{place_of}
use Rattle.node_io.specs.Observer.{IsSeen}
use Rattle.host_table.specs.declared.stage.Stage.{Stage}
use Rattle.host_table.specs.Left.{entries_of, HasLeft}
use Rattle.host_table.specs.Staged.{Known, hosts_of, frames_of, known_of, seats_of, spares_of}
use Rattle.node_turns.specs.Acting.{IsStep, IsOwn}
use Rattle.node_turns.specs.Same.{HaveStepped}
use Rattle.node_hosts.specs.declared.parts.Last.{Last}
use Rattle.node_hosts.specs.declared.parts.Last.TheVariants as last
use Rattle.node_hosts.specs.declared.parts.NodeParts.{NodeParts}
use Rattle.box_laws.specs.Boxes.{Allows, counted, all_counted, may_tell}

-- a host with its own name, whose clock and numbers are within their bounds
pub record HostFits (s : Settings) (now steps : ℕ) (id : HostId) (k : Known) : Type 0 where
  pub settings : k.settings ≡ s
  pub name : HasOwnName id k.host
  pub apart : IsApart id k.host
  pub last : k.host.last ≤ now
  pub order : k.host.order ≤ 64 * steps

-- a plain world of these hosts, at this tick, in which so many packets were sent
pub record IsWorldOf {S : Type 0} (s : Settings) (now : ℕ) (stage : Stage S) (sent : ℕ) (w : World) : Type 0 where
  pub clock : w.clock ≡ now
  pub hosts : w.hosts ≡ map (λ (k : Known). k.host) (known_of stage)
  pub count : length w.hosts ≡ s.hosts
  pub leads : w.leads ≡ replicate s.hosts s.skew
  pub packets : length w.packets ≡ sent

module _ {S : Type 0} where
  -- the plain world may be that of these hosts, whatever their services will answer
  abbrev pub StandsFor : NodeParts S → World → Type 0
  StandsFor n w = IsWorldOf n.settings n.clock n.stage n.sent w

  -- the entries of a step that was this one
  abbrev pub told_by : NodeParts S → Last → List PlainEntry
  told_by n last.Nothing = []
  told_by n (last.Stepped host base) = map (numbered base) (entries_of n.stage (slice_get (hosts_of n.stage) host.0))

  -- the entries of the last step
  abbrev pub told_of : NodeParts S → List PlainEntry
  told_of n = told_by n n.last

  -- what the boxes may answer from now on
  abbrev pub may_tell_of : (S → ℕ) → Allows S → NodeParts S → List PlainEntry → Type 0
  may_tell_of served allows n = may_tell allows (all_counted served (seats_of n.stage)) (map (counted served) (spares_of n.stage))

  -- ---- what is so between two steps

  -- a step left its packets at its host, and there are numbers for them
  abbrev pub IsLast : NodeParts S → Last → Type 0
  IsLast n last.Nothing = Unit {0}
  IsLast n (last.Stepped host base) =
      (base + 64 < 2 ^ 64) × HasLeft n.stage (slice_get (hosts_of n.stage) host.0) × AllByRecursion IsSeen (told_by n (last.Stepped host base))
      × AllByRecursion IsOwn (told_by n (last.Stepped host base))

  -- a box stands there, which answered no more often than there were steps
  pub record SeatFits (served : S → ℕ) (steps : ℕ) (o : Option S) : Type 0 where
    pub seat : S
    pub is : o ≡ Some seat
    pub count : served seat ≤ steps

  -- the settings hold of all hosts, whose numbers are within their bounds
  pub record IsKept (served : S → ℕ) (n : NodeParts S) : Type 0 where
    pub valid : IsValid n.settings
    pub clock : n.clock ≤ last_tick
    pub hosts : length (known_of n.stage) ≡ n.settings.hosts
    pub each : (id : HostId) (k : Known) → slice_get (known_of n.stage) id.0 ≡ Some k → HostFits n.settings (n.clock + n.settings.skew) n.steps id k
    pub seats : (i : ℕ) → i < n.settings.hosts → SeatFits served n.steps (place_of (seats_of n.stage) i)
    pub sent : n.sent ≤ 64 * n.steps
    pub last : IsLast n n.last

  -- what is so between two steps is so behind a step too, which is counted at most, and leaves the settings and the clock
  pub record StaysKept (served : S → ℕ) (old new : NodeParts S) : Type 0 where
    pub kept : IsKept served new
    pub stepped : HaveStepped {H = NodeParts S} (λ n. n.settings) (λ n. n.clock) (λ n. n.steps) old new 1

  -- a step was done: the plain world's outcome
  abbrev pub Steps : (S → ℕ) → Allows S → NodeParts S → NodeParts S → (World → Outcome) → List PlainEntry → Type 0
  Steps served allows old new act first = (w : World) → StandsFor old w
      → IsStep act first old.settings w (StandsFor new) (told_of new) (frames_of new.stage) (may_tell_of served allows old) (may_tell_of served allows new)
