-- How many loop turns a run takes.
use Rattle.std.proofs.Common.{◌≡◌, ℕ, suc, zero, ◌≤◌, Bool, true, false, Option, None, Some, List, [], ◌∷◌, refl, sym, ap, subst, arith}
use Rattle.std.specs.Prelude.{if◌then◌else◌, nat_lt, nat_le}
use Rattle.std.proofs.lemmas.Bool.{leb-false}
use Rattle.homa_plain.specs.declared.id.HostId.{HostId}
use Rattle.homa_plain.specs.declared.settings.Settings.{Settings}
use Rattle.homa_plain.specs.declared.event.Event.TheVariants as event
use Rattle.homa_plain.specs.declared.fault.LineFault.TheVariants.{World as ByWorld}
use Rattle.homa_plain.specs.Calls.{is_host}
use Rattle.homa_plain.specs.World.{Outcome, Refused, Done, outcome}
use Rattle.homa_plain.specs.Script.{most_bytes}
use Rattle.homa_plain.specs.Rules.{Answer}
use Rattle.node_runs.specs.Script.{Setup, TimedCall, Refusal, Calls, Opening, Opened, opening}
use Rattle.node_runs.specs.Course.{Receive, End, Ended, RefusedAt, StalledAt, Node, Course, GoesOn, Stops, ◌>>=◌, goes, follows, starts, arrival_outcome}
use Rattle.node_runs.specs.Course.{most_received, hears, has_turn, hosts_act, locals, clock_stands, ends, loop_turn, loop_turns, new_node, run_of, run_opened}
use Rattle.node_runs.specs.Course.{Arrival, node_run}
use Rattle.node_runs.specs.Replayed.{TurnsFit}
use Rattle.node_laws.proofs.Opening.{opening_is}

-- an end after at most so many loop turns
abbrev pub EndsBy : ℕ → Option End → Type 0
EndsBy most None = Unit {0}
EndsBy most (Some (Ended m)) = m ≤ most
EndsBy most (Some (RefusedAt line fault)) = Unit {0}
EndsBy most (Some (StalledAt turns now)) = turns ≤ most

-- where a course stops, it ends so
abbrev StopsBy : ℕ → Course → Type 0
StopsBy most (GoesOn node) = Unit {0}
StopsBy most (Stops node end) = EndsBy most end

-- and where it goes on, one more turn is allowed
abbrev Fits : ℕ → ℕ → Course → Type 0
Fits most n (GoesOn node) = suc n ≤ most
Fits most n (Stops node end) = EndsBy most end

then_stops : (most : ℕ) (course : Course) (f : Node → Course) → StopsBy most course → ((node : Node) → StopsBy most (f node)) → StopsBy most (course >>= f)
then_stops most (GoesOn node) f k next = next node
then_stops most (Stops node end) f k next = k

then_fits : (most n : ℕ) (course : Course) (f : Node → Course) → StopsBy most course → ((node : Node) → Fits most n (f node)) → Fits most n (course >>= f)
then_fits most n (GoesOn node) f k next = next node
then_fits most n (Stops node end) f k next = k

module _ (most : ℕ) (s : Settings) where
  start_one : (refused : Option Refusal) (c : TimedCall) (cs : List TimedCall) (node : Node) → ((m : Node) → StopsBy most (starts s refused cs m))
      → StopsBy most (starts s refused (c ∷ cs) node)
  start_one refused c cs node next = by_tick (nat_lt node.world.clock c.tick) where
    by_outcome : (o : Outcome)
        → StopsBy most (elim o
        [ Refused fault ↦ Stops node (Some (RefusedAt c.line (ByWorld fault))) | Done after ↦ starts s refused cs (goes [] after node) ])
    by_outcome (Refused fault) = tt
    by_outcome (Done after) = next (goes [] after node)

    by_tick : (t : Bool) → StopsBy most (if t then GoesOn (record node { calls = record { calls = c ∷ cs; refused = refused } })
        else elim (outcome s node.world (event.Call c.client c.server c.service) c.bytes)
        [ Refused fault ↦ Stops node (Some (RefusedAt c.line (ByWorld fault))) | Done after ↦ starts s refused cs (goes [] after node) ])
    by_tick true = tt
    by_tick false = by_outcome (outcome s node.world (event.Call c.client c.server c.service) c.bytes)

  starts_by : (refused : Option Refusal) (cs : List TimedCall) (node : Node) → StopsBy most (starts s refused cs node)
  starts_by None [] node = tt
  starts_by (Some r) [] node = tt
  starts_by None (c ∷ cs) node = start_one None c cs node (λ m. starts_by None cs m)
  starts_by (Some r) (c ∷ cs) node = start_one (Some r) c cs node (λ m. starts_by (Some r) cs m)

  hears_by : (id : HostId) (n : ℕ) (left : List Receive) (node : Node) → StopsBy most (hears s id n left node)
  hears_by id zero left node = tt
  hears_by id (suc n) [] node = tt
  hears_by id (suc n) (r ∷ left) node = by_host (is_host r.host id) r.got (λ m. hears_by id n left m) where
    by_host : (b : Bool) (o : Option Arrival) → ((m : Node) → StopsBy most (hears s id n left m)) → StopsBy most (if b then elim o [
      | None ↦ GoesOn (record node { receives = left })
      | Some a ↦ hears s id n left (follows [] (arrival_outcome s node.world id a) node)
    ]
        else Stops node None)
    by_host false o next = tt
    by_host true None next = tt
    by_host true (Some a) next = next (follows [] (arrival_outcome s node.world id a) node)

  hosts_by : (ids : List HostId) (node : Node) → StopsBy most (hosts_act s ids node)
  hosts_by [] node = tt
  hosts_by (id ∷ ids) node =
      then_stops most (hears s id most_received node.receives node) _ (hears_by id most_received node.receives node) (λ m. hosts_by ids (has_turn s id m))

module _ (most : ℕ) (setup : Setup) (few : setup.turns ≤ most) where
  ends_fit : (n now : ℕ) (node : Node) → n ≤ most → Fits most n (ends setup n now node)
  ends_fit n now node l = by_end (nat_le setup.end now) where
    by_turns : (t : Bool) → nat_le setup.turns n ≡ t → Fits most n (if t then Stops node (Some (StalledAt n now)) else GoesOn node)
    by_turns true e = l
    by_turns false e = omega (arith, leb-false setup.turns n e, few)

    by_end : (t : Bool) → Fits most n
        (if t then Stops node (Some (Ended n)) else if nat_le setup.turns n then Stops node (Some (StalledAt n now)) else GoesOn node)
    by_end true = l
    by_end false = by_turns (nat_le setup.turns n) refl

  turn_fits : (n now : ℕ) (node : Node) → n ≤ most → Fits most n (loop_turn setup n now node)
  unfolding loop_turn
  turn_fits n now node l =
      let at = clock_stands n now node in
      then_fits most n (starts setup.settings at.calls.refused at.calls.calls at) _ (starts_by most setup.settings at.calls.refused at.calls.calls at)
      (λ started. then_fits most n (hosts_act setup.settings (locals setup) started) _ (hosts_by most setup.settings (locals setup) started)
      (λ acted. ends_fit n now acted l))

  turns_by : (n : ℕ) (ticks : List ℕ) (node : Node) → n ≤ most → StopsBy most (loop_turns setup n ticks node)
  unfolding loop_turns
  turns_by n [] node l = tt
  turns_by n (now ∷ ticks) node l = followed (loop_turn setup n now node) (turn_fits n now node l) (λ m k. turns_by (suc n) ticks m k) where
    followed : (course : Course) → Fits most n course → ((m : Node) → suc n ≤ most → StopsBy most (loop_turns setup (suc n) ticks m))
        → StopsBy most (course >>= loop_turns setup (suc n) ticks)
    followed (GoesOn m) k next = next m k
    followed (Stops m end) k next = k

ended_by : (most : ℕ) (o : Option End) (m : ℕ) → EndsBy most o → o ≡ Some (Ended m) → m ≤ most
ended_by most None m k e = absurd (let z : None ≡ Some (Ended m) = e in cc)
ended_by most (Some (Ended n)) m k e = let same : n ≡ m = cc in omega (arith, k, same)
ended_by most (Some (RefusedAt line fault)) m k e = absurd (let z : Some (RefusedAt line fault) ≡ Some (Ended m) = e in cc)
ended_by most (Some (StalledAt turns now)) m k e = absurd (let z : Some (StalledAt turns now) ≡ Some (Ended m) = e in cc)

run_ends_by : (most : ℕ) (s : Settings) (course : Course) → StopsBy most course → EndsBy most (run_of s course).end
run_ends_by most s (GoesOn node) k = tt
run_ends_by most s (Stops node end) k = k

-- the end of a run
pub run_ends : (bytes : List ℕ) (setup : Setup) (calls : Calls) (answers : List Answer) (ticks : List ℕ) (receives : List Receive)
    → opening most_bytes bytes ≡ Opened setup calls
    → EndsBy 1000000000 (node_run bytes answers ticks receives).end
unfolding node_run
run_ends bytes setup calls answers ticks receives e =
    let opened = opening_is most_bytes bytes setup calls e in
    let course = loop_turns setup 1 ticks (new_node setup calls answers receives) in
    subst (EndsBy 1000000000) (ap (λ (o : Opening). (run_opened o answers ticks receives).end) (sym e))
    (run_ends_by 1000000000 setup.settings course (turns_by 1000000000 setup opened.is.turns 1 ticks (new_node setup calls answers receives) (omega arith)))

pub turns_fit : TurnsFit
turns_fit bytes setup calls answers ticks receives turns e ended =
    ended_by 1000000000 (node_run bytes answers ticks receives).end turns (run_ends bytes setup calls answers ticks receives e) ended
