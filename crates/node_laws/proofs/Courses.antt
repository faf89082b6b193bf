-- What each part of a node's run keeps is so at its end.
use Rattle.std.proofs.Common.{◌≡◌, ℕ, suc, zero, ◌≤◌, Bool, true, false, None, Option, Some, List, [], ◌∷◌, ◌++◌, map, refl, sym, ◌∙◌, subst, arith}
use Rattle.std.specs.Prelude.{IfSome, if◌then◌else◌, ◌==◌, ◌||◌, nat_lt, nat_le}
use Rattle.std.specs.List.{AllByRecursion}
use Rattle.std.proofs.lemmas.List.{append-nil}
use Rattle.std.proofs.lemmas.Bool.{cond_both, ltb-false}
use Rattle.homa_plain.specs.declared.id.HostId.{HostId}
use Rattle.homa_plain.specs.declared.settings.Settings.{Settings}
use Rattle.homa_plain.specs.declared.event.Event.TheVariants as event
use Rattle.homa_plain.specs.declared.fault.LineFault.TheVariants.{World as ByWorld}
use Rattle.homa_plain.specs.Calls.{is_host}
use Rattle.homa_plain.specs.Entries.{PlainClock}
use Rattle.homa_plain.specs.World.{World, After, Outcome, Refused, Done, outcome, last_tick}
use Rattle.node_runs.specs.Script.{Setup, TimedCall, Refusal}
use Rattle.node_runs.specs.Course.{AreTicks, Report, Tells, Turning, Arrival, Receive, RefusedAt, Node, Course, GoesOn, Stops, ◌>>=◌, goes, follows, starts}
use Rattle.node_runs.specs.Course.{arrival_outcome, most_received, hears, has_turn, hosts_act, locals, clock_stands, ends, loop_turn, loop_turns}
use Rattle.node_laws.proofs.OfNode.{node_of}
use Rattle.node_laws.proofs.Opening.{IsCallGiven}

-- each datagram that a receive gives is such a one
abbrev pub AreSuch : (Arrival → Type 0) → List Receive → Type 0
AreSuch such receives = AllByRecursion (λ (r : Receive). IfSome r.got such) receives

-- datagrams of any kind
abbrev pub AnyComes : Arrival → Type 0
AnyComes a = Unit {0}

pub any_comes : (receives : List Receive) → AreSuch AnyComes receives
any_comes [] = tt
any_comes (r ∷ receives) = (of_any r.got, any_comes receives) where
  of_any : (o : Option Arrival) → IfSome o AnyComes
  of_any None = tt
  of_any (Some a) = tt

-- what is so of a world and the reports so far is so behind each event of a node whose datagrams are such, and the clock stays
pub record IsKeptInCourse (s : Settings) (such : Arrival → Type 0) (so : World → List Report → Type 0) : Type 0 where
  pub call : (w : World) (rs : List Report) (c : TimedCall) (after : After) → IsCallGiven c → so w rs
      → outcome s w (event.Call c.client c.server c.service) c.bytes ≡ Done after
      → so after.world (rs ++ map Tells after.told) × (after.world.clock ≡ w.clock)
  pub recv : (w : World) (rs : List Report) (id : HostId) (a : Arrival) (after : After) → such a → so w rs → arrival_outcome s w id a ≡ Done after
      → so after.world (rs ++ map Tells after.told) × (after.world.clock ≡ w.clock)
  pub turn : (w : World) (rs : List Report) (id : HostId) (after : After) → so w rs → outcome s w (event.Turn id) [] ≡ Done after
      → so after.world (rs ++ (Turning id ∷ map Tells after.told)) × (after.world.clock ≡ w.clock)
  pub clock : (w : World) (rs : List Report) (now : ℕ) → so w rs → w.clock ≤ now → now ≤ last_tick
      → so (record w { clock = now }) (rs ++ Tells (PlainClock now) ∷ [])

module _ (s : Settings) (such : Arrival → Type 0) (so : World → List Report → Type 0) (keeps : IsKeptInCourse s such so) where
  abbrev pub Stands : ℕ → Node → Type 0
  Stands now node = (node.world.clock ≡ now) × so node.world node.reports × AllByRecursion IsCallGiven node.calls.calls × AreSuch such node.receives

  abbrev StandsAll : ℕ → Course → Type 0
  StandsAll now course = Stands now (node_of course)

  bound : (now : ℕ) (course : Course) (f : Node → Course) → StandsAll now course → ((node : Node) → Stands now node → StandsAll now (f node))
      → StandsAll now (course >>= f)
  bound now (GoesOn node) f h next = next node h
  bound now (Stops node end) f h next = h

  -- ---- calls

  start_one : (now : ℕ) (refused : Option Refusal) (c : TimedCall) (cs : List TimedCall) (node : Node) → IsCallGiven c × AllByRecursion IsCallGiven cs
      → Stands now node → ((new : Node) → Stands now new → StandsAll now (starts s refused cs new)) → StandsAll now (starts s refused (c ∷ cs) node)
  start_one now refused c cs node given h next = by_tick (nat_lt node.world.clock c.tick) where
    by_outcome : (o : Outcome) → outcome s node.world (event.Call c.client c.server c.service) c.bytes ≡ o
        → StandsAll now (elim o
        [ Refused fault ↦ Stops node (Some (RefusedAt c.line (ByWorld fault))) | Done after ↦ starts s refused cs (goes [] after node) ])
    by_outcome (Refused fault) e = h
    by_outcome (Done after) e = let k = keeps.call node.world node.reports c after given.0 h.1 e in next (goes [] after node) (k.1 ∙ h.0, k.0, h.2, h.3)

    by_tick : (t : Bool) → StandsAll now (if t then GoesOn (record node { calls = record { calls = c ∷ cs; refused = refused } })
        else elim (outcome s node.world (event.Call c.client c.server c.service) c.bytes)
        [ Refused fault ↦ Stops node (Some (RefusedAt c.line (ByWorld fault))) | Done after ↦ starts s refused cs (goes [] after node) ])
    by_tick true = (h.0, h.1, given, h.3)
    by_tick false = by_outcome (outcome s node.world (event.Call c.client c.server c.service) c.bytes) refl

  starts_all : (now : ℕ) (refused : Option Refusal) (cs : List TimedCall) (node : Node) → AllByRecursion IsCallGiven cs → Stands now node
      → StandsAll now (starts s refused cs node)
  starts_all now None [] node given h = (h.0, h.1, tt, h.3)
  starts_all now (Some r) [] node given h = h
  starts_all now None (c ∷ cs) node given h = start_one now None c cs node given h (λ new g. starts_all now None cs new given.1 g)
  starts_all now (Some r) (c ∷ cs) node given h = start_one now (Some r) c cs node given h (λ new g. starts_all now (Some r) cs new given.1 g)

  -- ---- datagrams and turns

  heard : (now : ℕ) (id : HostId) (a : Arrival) (node : Node) → such a → Stands now node → Stands now (follows [] (arrival_outcome s node.world id a) node)
  heard now id a node fits h = by_outcome (arrival_outcome s node.world id a) refl where
    by_outcome : (o : Outcome) → arrival_outcome s node.world id a ≡ o → Stands now (follows [] o node)
    by_outcome (Refused fault) e = h
    by_outcome (Done after) e = let k = keeps.recv node.world node.reports id a after fits h.1 e in (k.1 ∙ h.0, k.0, h.2, h.3)

  hears_all : (now : ℕ) (id : HostId) (n : ℕ) (left : List Receive) (node : Node) → AreSuch such left → Stands now node
      → StandsAll now (hears s id n left node)
  hears_all now id zero left node fits h = (h.0, h.1, h.2, fits)
  hears_all now id (suc n) [] node fits h = h
  hears_all now id (suc n) (r ∷ left) node fits h = by_host (is_host r.host id) r.got fits.0 (λ m g. hears_all now id n left m fits.1 g) where
    by_host : (b : Bool) (o : Option Arrival) → IfSome o such → ((m : Node) → Stands now m → StandsAll now (hears s id n left m))
        → StandsAll now (if b then elim o [
          | None ↦ GoesOn (record node { receives = left })
          | Some a ↦ hears s id n left (follows [] (arrival_outcome s node.world id a) node)
        ]
        else Stops node None)
    by_host false o fit next = h
    by_host true None fit next = (h.0, h.1, h.2, fits.1)
    by_host true (Some a) fit next = next _ (heard now id a node fit h)

  turned : (now : ℕ) (id : HostId) (node : Node) → Stands now node → Stands now (has_turn s id node)
  turned now id node h = by_outcome (outcome s node.world (event.Turn id) []) refl where
    by_outcome : (o : Outcome) → outcome s node.world (event.Turn id) [] ≡ o → Stands now (follows (Turning id ∷ []) o node)
    by_outcome (Refused fault) e = h
    by_outcome (Done after) e = let k = keeps.turn node.world node.reports id after h.1 e in (k.1 ∙ h.0, k.0, h.2, h.3)

  hosts_all : (now : ℕ) (ids : List HostId) (node : Node) → Stands now node → StandsAll now (hosts_act s ids node)
  hosts_all now [] node h = h
  hosts_all now (id ∷ ids) node h =
      bound now (hears s id most_received node.receives node) (λ (m : Node). hosts_act s ids (has_turn s id m))
      (hears_all now id most_received node.receives node h.3 h) (λ m g. hosts_all now ids (has_turn s id m) (turned now id m g))

  -- ---- the clock

  clock_goes : (n old now : ℕ) (node : Node) → old ≤ now → now ≤ last_tick → Stands old node → Stands now (clock_stands n now node)
  clock_goes n old now node onward most h = by_test (n == 1 || nat_lt node.world.clock now) refl where
    by_test : (t : Bool) → (n == 1 || nat_lt node.world.clock now) ≡ t
        → Stands now (record node { world = record node.world { clock = now }; reports = node.reports ++ (if t then Tells (PlainClock now) ∷ [] else []) })
    by_test true e = (refl, keeps.clock node.world node.reports now h.1 (omega (arith, onward, h.0)) most, h.2, h.3)
    by_test false e = (
      refl,
      (let same : node.world.clock ≡ now = omega (arith, onward, h.0, ltb-false node.world.clock now (not_risen (n == 1) (nat_lt node.world.clock now) e)) in
          subst (λ (c : ℕ). so (record node.world { clock = c }) (node.reports ++ [])) same (subst (so node.world) (sym (append-nil node.reports)) h.1)),
      h.2,
      h.3,
    ) where
      not_risen : (a b : Bool) → (a || b) ≡ false → b ≡ false
      not_risen true b e = absurd (let z : true ≡ false = e in cc)
      not_risen false b e = e

  -- ---- loop turns

  ends_all : (now : ℕ) (setup : Setup) (n : ℕ) (node : Node) → Stands now node → StandsAll now (ends setup n now node)
  ends_all now setup n node h =
      cond_both (nat_le setup.end now) _ _ (StandsAll now) (λ _. h) (λ _. cond_both (nat_le setup.turns n) _ _ (StandsAll now) (λ _. h) (λ _. h))

  turn_all : (setup : Setup) → setup.settings ≡ s → (n old now : ℕ) (node : Node) → old ≤ now → now ≤ last_tick → Stands old node
      → StandsAll now (loop_turn setup n now node)
  unfolding loop_turn
  turn_all setup same n old now node onward most h =
      let at = clock_stands n now node in
      bound now (starts setup.settings at.calls.refused at.calls.calls at) _
      (subst (λ (u : Settings). StandsAll now (starts u at.calls.refused at.calls.calls at)) (sym same)
      (starts_all now at.calls.refused at.calls.calls at h.2 (clock_goes n old now node onward most h)))
      (λ started g. bound now (hosts_act setup.settings (locals setup) started) _
      (subst (λ (u : Settings). StandsAll now (hosts_act u (locals setup) started)) (sym same) (hosts_all now (locals setup) started g))
      (λ acted f. ends_all now setup n acted f))

  pub turns_all : (setup : Setup) → setup.settings ≡ s → (n old : ℕ) (ticks : List ℕ) (node : Node) → AreTicks old ticks → Stands old node
      → so (node_of (loop_turns setup n ticks node)).world (node_of (loop_turns setup n ticks node)).reports
  unfolding loop_turns
  turns_all setup same n old [] node rises h = h.1
  turns_all setup same n old (now ∷ ticks) node rises h =
      followed (loop_turn setup n now node) (turn_all setup same n old now node rises.0 rises.1 h)
      (λ m g. turns_all setup same (suc n) now ticks m rises.2 g) where
        followed : (course : Course) → StandsAll now course
            → ((m : Node) → Stands now m → so (node_of (loop_turns setup (suc n) ticks m)).world (node_of (loop_turns setup (suc n) ticks m)).reports)
            → so (node_of (course >>= loop_turns setup (suc n) ticks)).world (node_of (course >>= loop_turns setup (suc n) ticks)).reports
        followed (GoesOn m) g next = next m g
        followed (Stops m end) g next = g.1
