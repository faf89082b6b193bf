-- How a node's run ends: a line of its script is refused for a cause that may refuse one, never for want of memory, or it stalls at a tick of its clock.
use Rattle.std.proofs.Common.{◌≡◌, ◌≤◌, ◌+◌, ℕ, zero, suc, Bool, true, false, None, Option, Some, List, [], ◌∷◌, subst}
use Rattle.std.specs.Prelude.{if◌then◌else◌, nat_lt, nat_le, is_some}
use Rattle.std.specs.Option.{IfSome}
use Rattle.std.proofs.lemmas.Bool.{cond_both}
use Rattle.homa_plain.specs.declared.id.HostId.{HostId}
use Rattle.homa_plain.specs.declared.settings.Settings.{Settings}
use Rattle.homa_plain.specs.declared.event.Event.TheVariants as event
use Rattle.homa_plain.specs.declared.fault.StartFault.{StartFault}
use Rattle.homa_plain.specs.declared.fault.LineFault.{LineFault}
use Rattle.homa_plain.specs.declared.fault.WorldFault.TheVariants.{NoSuchHost, NoMemory}
use Rattle.homa_plain.specs.declared.fault.LineFault.TheVariants.{Script as ByWords, World as ByWorld}
use Rattle.homa_plain.specs.Calls.{is_host}
use Rattle.homa_plain.specs.Host.{Host}
use Rattle.homa_plain.specs.Entries.{IsCause}
use Rattle.homa_plain.specs.Steps.{start_fault}
use Rattle.homa_plain.specs.World.{World, Outcome, Refused, Done, outcome, host_at, started, calls_from, last_tick}
use Rattle.trace_laws.specs.Shaped.{HasCause}
use Rattle.homa_plain.specs.Script.{most_bytes}
use Rattle.node_runs.specs.Script.{Setup, TimedCall, Refusal, Calls}
use Rattle.node_runs.specs.Course.{AreTicks, Arrival, Report, Turning, Receive, End, Ended, RefusedAt, StalledAt, Node, Course, GoesOn, Stops, ◌>>=◌}
use Rattle.node_runs.specs.Course.{goes, follows, starts, arrival_outcome, most_received, hears, has_turn, hosts_act, locals, clock_stands}
use Rattle.node_runs.specs.Course.{ends, loop_turn, loop_turns}
use Rattle.node_runs.specs.Texts.{end_entry}
use Rattle.node_laws.proofs.Opening.{IsNodeCause, MayRefuse, AreNumbered}

-- an end that a run may have
abbrev pub IsEnd : End → Type 0
IsEnd (Ended turns) = Unit {0}
IsEnd (RefusedAt line fault) = IsNodeCause fault × (line ≤ most_bytes + 1)
IsEnd (StalledAt turns now) = now ≤ last_tick

-- what is still to be read may be refused, and is of the script
abbrev pub MayGoOn : Calls → Type 0
MayGoOn calls = MayRefuse most_bytes calls.refused × AreNumbered most_bytes calls.calls

-- a run goes on, or it has come to such an end
abbrev MayEnd : Course → Type 0
MayEnd (GoesOn node) = MayGoOn node.calls
MayEnd (Stops node end) = IfSome end IsEnd

bound : (course : Course) (f : Node → Course) → MayEnd course → ((node : Node) → MayGoOn node.calls → MayEnd (f node)) → MayEnd (course >>= f)
bound (GoesOn node) f h next = next node h
bound (Stops node end) f h next = h

-- ---- calls

abbrev MayCome : Outcome → Type 0
MayCome (Refused fault) = IsNodeCause (ByWorld fault)
MayCome (Done after) = Unit {0}

call_cause : (s : Settings) (w : World) (client server : HostId) (number : ℕ) (request : List ℕ)
    → MayCome (outcome s w (event.Call client server number) request)
unfolding outcome
call_cause s w client server number request = by_server (is_some (host_at w server)) where
  by_fault : (h : Host) (fault : Option StartFault) → MayCome (started s w client server number request h fault)
  by_fault h (Some fault) = tt
  by_fault h None = tt

  by_client : (o : Option Host) → MayCome (calls_from s w client server number request o)
  by_client None = tt
  by_client (Some h) = by_fault h (start_fault s h server request)

  by_server : (b : Bool) → MayCome (if b then calls_from s w client server number request (host_at w client) else Refused NoSuchHost)
  by_server true = by_client (host_at w client)
  by_server false = tt

module _ (s : Settings) where
  start_one : (refused : Option Refusal) (c : TimedCall) (cs : List TimedCall) (node : Node) → MayRefuse most_bytes refused → AreNumbered most_bytes (c ∷ cs)
      → ((new : Node) → MayEnd (starts s refused cs new)) → MayEnd (starts s refused (c ∷ cs) node)
  start_one refused c cs node h all next = by_tick (nat_lt node.world.clock c.tick) where
    by_outcome : (o : Outcome) → MayCome o
        → MayEnd (elim o [ Refused fault ↦ Stops node (Some (RefusedAt c.line (ByWorld fault))) | Done after ↦ starts s refused cs (goes [] after node) ])
    by_outcome (Refused fault) may = (may, all.0)
    by_outcome (Done after) may = next (goes [] after node)

    by_tick : (t : Bool) → MayEnd (if t then GoesOn (record node { calls = record { calls = c ∷ cs; refused = refused } })
        else elim (outcome s node.world (event.Call c.client c.server c.service) c.bytes)
        [ Refused fault ↦ Stops node (Some (RefusedAt c.line (ByWorld fault))) | Done after ↦ starts s refused cs (goes [] after node) ])
    by_tick true = (h, all)
    by_tick false = by_outcome (outcome s node.world (event.Call c.client c.server c.service) c.bytes)
        (call_cause s node.world c.client c.server c.service c.bytes)

  starts_end : (refused : Option Refusal) (cs : List TimedCall) (node : Node) → MayRefuse most_bytes refused → AreNumbered most_bytes cs
      → MayEnd (starts s refused cs node)
  starts_end None [] node h all = (tt, tt)
  starts_end (Some r) [] node h all = h
  starts_end None (c ∷ cs) node h all = start_one None c cs node h all (λ new. starts_end None cs new h all.1)
  starts_end (Some r) (c ∷ cs) node h all = start_one (Some r) c cs node h all (λ new. starts_end (Some r) cs new h all.1)

  -- ---- datagrams and turns

  followed : (first : List Report) (o : Outcome) (node : Node) → MayGoOn node.calls → MayGoOn (follows first o node).calls
  followed first (Refused fault) node h = h
  followed first (Done after) node h = h

  hears_end : (id : HostId) (n : ℕ) (left : List Receive) (node : Node) → MayGoOn node.calls → MayEnd (hears s id n left node)
  hears_end id zero left node h = h
  hears_end id (suc n) [] node h = tt
  hears_end id (suc n) (r ∷ left) node h = by_host (is_host r.host id) r.got (λ m g. hears_end id n left m g) where
    by_host : (b : Bool) (o : Option Arrival) → ((m : Node) → MayGoOn m.calls → MayEnd (hears s id n left m)) → MayEnd (if b then elim o [
      | None ↦ GoesOn (record node { receives = left })
      | Some a ↦ hears s id n left (follows [] (arrival_outcome s node.world id a) node)
    ]
        else Stops node None)
    by_host false o next = tt
    by_host true None next = h
    by_host true (Some a) next = next _ (followed [] (arrival_outcome s node.world id a) node h)

  hosts_end : (ids : List HostId) (node : Node) → MayGoOn node.calls → MayEnd (hosts_act s ids node)
  hosts_end [] node h = h
  hosts_end (id ∷ ids) node h =
      bound (hears s id most_received node.receives node) (λ (m : Node). hosts_act s ids (has_turn s id m)) (hears_end id most_received node.receives node h)
      (λ m g. hosts_end ids (has_turn s id m) (followed (Turning id ∷ []) (outcome s m.world (event.Turn id) []) m g))

-- ---- loop turns

ends_end : (setup : Setup) (n now : ℕ) (node : Node) → now ≤ last_tick → MayGoOn node.calls → MayEnd (ends setup n now node)
ends_end setup n now node most h = cond_both (nat_le setup.end now) _ _ MayEnd (λ _. tt) (λ _. cond_both (nat_le setup.turns n) _ _ MayEnd (λ _. most) (λ _. h))

turn_end : (setup : Setup) (n now : ℕ) (node : Node) → now ≤ last_tick → MayGoOn node.calls → MayEnd (loop_turn setup n now node)
unfolding loop_turn
turn_end setup n now node most h =
    let at = clock_stands n now node in
    bound (starts setup.settings at.calls.refused at.calls.calls at) _ (starts_end setup.settings at.calls.refused at.calls.calls at h.0 h.1)
    (λ started g. bound (hosts_act setup.settings (locals setup) started) _ (hosts_end setup.settings (locals setup) started g)
    (λ acted f. ends_end setup n now acted most f))

pub turns_end : (setup : Setup) (n old : ℕ) (ticks : List ℕ) (node : Node) → AreTicks old ticks → MayGoOn node.calls → MayEnd (loop_turns setup n ticks node)
unfolding loop_turns
turns_end setup n old [] node rises h = tt
turns_end setup n old (now ∷ ticks) node rises h =
    bound (loop_turn setup n now node) _ (turn_end setup n now node rises.1 h) (λ m g. turns_end setup (suc n) now ticks m rises.2 g)

-- the end of a run
pub may_end : (course : Course) → MayEnd course → (end : End) → (elim course as (λ _. Option End) [ GoesOn node ↦ None | Stops node e ↦ e ]) ≡ Some end
    → IsEnd end
may_end (GoesOn node) h end e = absurd (let z : None ≡ Some end = e in cc)
may_end (Stops node o) h end e = subst (λ (x : Option End). IfSome x IsEnd) e h

-- it has a cause that may refuse a line
pub end_cause : (end : End) → IsEnd end → HasCause (end_entry end)
end_cause (Ended turns) k = tt
end_cause (StalledAt turns now) k = tt
end_cause (RefusedAt line fault) k = by_fault fault k.0 where
  by_fault : (f : LineFault) → IsNodeCause f → IsCause f
  by_fault (ByWords words) m = tt
  by_fault (ByWorld NoMemory) m = absurd m
  by_fault (ByWorld fault) m = tt
