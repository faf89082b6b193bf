-- The calls whose tick has come are started, one after the other.
use Rattle.std.proofs.Common.{◌≡◌, ◌≤◌, ◌<◌, Bool, true, false, Option, None, Some, List, [], ◌∷◌, ◌++◌, refl, sym, ap, ◌∙◌, subst, append_assoc, arith}
use Rattle.std.specs.Prelude.{map, nat_lt, if◌then◌else◌}
use Rattle.std.proofs.lemmas.Bool.Decides.{nat_tests}
use Rattle.std.proofs.lemmas.List.{append-nil, length-map}
use Rattle.homa_plain.specs.declared.settings.Settings.{Settings}
use Rattle.homa_plain.specs.declared.fault.LineFault.TheVariants.{World as ByWorld}
use Rattle.homa_plain.specs.declared.event.Event.TheVariants as event
use Rattle.homa_plain.specs.Entries.{PlainEntry}
use Rattle.homa_plain.specs.World.{World, Outcome, Refused, Done, outcome}
use Rattle.host_view.specs.declared.outbox.SentFrame.{SentFrame}
use Rattle.node_runs.specs.Script.{TimedCall, Calls, Refusal}
use Rattle.node_runs.specs.Course.{Report, Tells, Datagram, Receive, Node, Course, GoesOn, Stops, ◌>>=◌, RefusedAt, run_of, datagrams, goes, starts}
use Rattle.node_runs.specs.Texts.{entries}
use Rattle.homa_plain.specs.declared.fault.StartFault.{StartFault}
use Rattle.homa_plain.specs.declared.fault.WorldFault.TheVariants.{Start as CantStart}
use Rattle.homa_plain.specs.Answers.{shown, answering}
use Rattle.node_turns.specs.Acting.{IsRefused}
use Rattle.node_turns.specs.Told.{listed}
use Rattle.node_turns.specs.Acting.{node_at, frame_datagram, IsStep, HasActed}
use Rattle.node_turns.proofs.Lists.{listed_none, entries_tells}
use Rattle.homa_node.specs.Starting.{with_calls, starting, waiting, StopsAt}

-- what a call does, and what stands behind it
abbrev pub call_then : Settings → Option Refusal → List TimedCall → TimedCall → Node → Outcome → Course
call_then s refused cs c node o = elim o [
  | Refused fault ↦ Stops node (Some (RefusedAt c.line (ByWorld fault)))
  | Done after ↦ starts s refused cs (goes [] after node)
]

module _ (s : Settings) where
  -- a call whose tick has come
  pub starts_due : (refused : Option Refusal) (c : TimedCall) (cs : List TimedCall) (node : Node) → nat_lt node.world.clock c.tick ≡ false
      → starts s refused (c ∷ cs) node ≡ call_then s refused cs c node (outcome s node.world (event.Call c.client c.server c.service) c.bytes)
  starts_due refused c cs node e = ap
      (λ t. if t then GoesOn (record node { calls = record { calls = c ∷ cs; refused = refused } }) else call_then s refused cs c node
      (outcome s node.world (event.Call c.client c.server c.service) c.bytes)) e

  pub starts_later : (refused : Option Refusal) (c : TimedCall) (cs : List TimedCall) (node : Node) → nat_lt node.world.clock c.tick ≡ true
      → starts s refused (c ∷ cs) node ≡ GoesOn (record node { calls = record { calls = c ∷ cs; refused = refused } })
  starts_later refused c cs node e = ap
      (λ t. if t then GoesOn (record node { calls = record { calls = c ∷ cs; refused = refused } }) else call_then s refused cs c node
      (outcome s node.world (event.Call c.client c.server c.service) c.bytes)) e

  -- what a node holds of calls while they are started is no matter to the run
  by_call : (f : Node → Course) (refused : Option Refusal) (c : TimedCall) (cs : List TimedCall) (node : Node) (a b : Calls) (o : Outcome)
      → ((n : Node) → run_of s (starts s refused cs (record n { calls = a }) >>= f) ≡ run_of s (starts s refused cs (record n { calls = b }) >>= f))
      → run_of s (call_then s refused cs c (record node { calls = a }) o >>= f) ≡ run_of s (call_then s refused cs c (record node { calls = b }) o >>= f)
  by_call f refused c cs node a b (Refused fault) same = refl
  by_call f refused c cs node a b (Done after) same = same (goes [] after node)

  by_tick : (f : Node → Course) (refused : Option Refusal) (c : TimedCall) (cs : List TimedCall) (node : Node) (a b : Calls) (t : Bool)
      → nat_lt node.world.clock c.tick ≡ t
      → ((n : Node) → run_of s (starts s refused cs (record n { calls = a }) >>= f) ≡ run_of s (starts s refused cs (record n { calls = b }) >>= f))
      → run_of s (starts s refused (c ∷ cs) (record node { calls = a }) >>= f) ≡ run_of s (starts s refused (c ∷ cs) (record node { calls = b }) >>= f)
  by_tick f refused c cs node a b true e same =
      ap (λ x. run_of s (x >>= f)) (starts_later refused c cs (record node { calls = a }) e)
      ∙ sym (ap (λ x. run_of s (x >>= f)) (starts_later refused c cs (record node { calls = b }) e))
  by_tick f refused c cs node a b false e same =
      ap (λ x. run_of s (x >>= f)) (starts_due refused c cs (record node { calls = a }) e)
      ∙ (by_call f refused c cs node a b (outcome s node.world (event.Call c.client c.server c.service) c.bytes) same
      ∙ sym (ap (λ x. run_of s (x >>= f)) (starts_due refused c cs (record node { calls = b }) e)))

  pub held_same : (f : Node → Course) (refused : Option Refusal) (cs : List TimedCall) (node : Node) (a b : Calls)
      → run_of s (starts s refused cs (record node { calls = a }) >>= f) ≡ run_of s (starts s refused cs (record node { calls = b }) >>= f)
  held_same f None [] node a b = refl
  held_same f (Some r) [] node a b = refl
  held_same f refused (c ∷ cs) node a b = by_tick f refused c cs node a b (nat_lt node.world.clock c.tick) refl (λ n. held_same f refused cs n a b)

  -- a call was started
  pub acted_call : (held : Calls) (c : TimedCall) (w : World) (stands : World → Type 0) (told : List PlainEntry) (frames : List SentFrame)
      (b a : List PlainEntry → Type 0) (tell : List Report → Type 0)
      (s0 s1 : Option (List Datagram)) (g0 g1 : Option (List Receive))
      → c.tick ≤ w.clock → IsStep (λ v. outcome s v (event.Call c.client c.server c.service) c.bytes) [] s w stands told frames b a → tell (map Tells told)
      → s1 ≡ listed s0 (map frame_datagram frames) → g1 ≡ g0
      → HasActed (starting s held (c ∷ [])) (starting s held []) s w stands b a tell s0 s1 g0 g1
  acted_call held c w stands told frames b a tell s0 s1 g0 g1 due step tells took same = record {
    next = step.next;
    stood = step.stood;
    reports = map Tells told;
    sent = map frame_datagram frames;
    gave = [];
    told = tells;
    took = took;
    given = same ∙ listed_none g0;
    received = tt;
    grown = step.sent;
    numbers = length-map frames frame_datagram ∙ step.numbers;
    allowed = λ more x. subst (λ es. b (es ++ more)) (sym (entries_tells told)) (step.allowed more x);
    same = λ first later calls left held2.
        let come : nat_lt w.clock c.tick ≡ false = grind (arith, nat_tests) in
        ap (λ es. starts s calls.refused (c ∷ calls.calls) (node_at (answering (shown es ++ later) w) first held left)) (entries_tells told)
        ∙ starts_due calls.refused c calls.calls (node_at (answering (shown told ++ later) w) first held left) come
        ∙ ap (call_then s calls.refused calls.calls c (node_at (answering (shown told ++ later) w) first held left)) (step.done later);
  }

  -- calls that were started, in front of others
  pub acted_front : (held : Calls) (front back : List TimedCall) (w : World) (st : World → Type 0) (b a : List PlainEntry → Type 0)
      (tell : List Report → Type 0)
      (s0 s1 : Option (List Datagram)) (g0 g1 : Option (List Receive))
      → HasActed (starting s held front) (starting s held []) s w st b a tell s0 s1 g0 g1
      → HasActed (starting s held (front ++ back)) (starting s held back) s w st b a tell s0 s1 g0 g1
  acted_front held front back w st b a tell s0 s1 g0 g1 h = record {
    next = h.next;
    stood = h.stood;
    reports = h.reports;
    sent = h.sent;
    gave = h.gave;
    told = h.told;
    took = h.took;
    given = h.given;
    received = h.received;
    grown = h.grown;
    numbers = h.numbers;
    allowed = h.allowed;
    same = λ first later calls left held2.
        ap (λ cs. starts s calls.refused cs (node_at (answering (shown (entries h.reports) ++ later) w) first held (h.gave ++ left)))
        (append_assoc front back calls.calls)
        ∙ h.same first later (with_calls back calls) left held2;
  }

  -- the next call isn't due
  pub acted_wait : (held : Calls) (c : TimedCall) (w : World) (stands : World → Type 0) (b : List PlainEntry → Type 0) (tell : List Report → Type 0)
      (sent : Option (List Datagram)) (gave : Option (List Receive))
      → w.clock < c.tick → stands w → tell [] → HasActed (starting s held (c ∷ [])) (waiting c) s w stands b b tell sent sent gave gave
  acted_wait held c w stands b tell sent gave early stood none = record {
    next = w;
    stood = stood;
    reports = [];
    sent = [];
    gave = [];
    told = none;
    took = listed_none sent;
    given = listed_none gave;
    received = tt;
    grown = sym (append-nil (datagrams s w));
    numbers = refl;
    allowed = λ more h. h;
    same = λ first later calls left held2.
        let wait : nat_lt w.clock c.tick ≡ true = grind (arith, nat_tests) in
        starts_later calls.refused c calls.calls (node_at (answering later w) first held left) wait
        ∙ ap (λ rs. waiting c left (node_at (answering later w) rs calls held2)) (sym (append-nil first));
  }

  -- a call can't start
  pub stops_at : (held : Calls) (c : TimedCall) (w : World) (fault : StartFault) → c.tick ≤ w.clock
      → IsRefused s w (event.Call c.client c.server c.service) c.bytes (CantStart fault) → StopsAt s held c w c.line fault
  stops_at held c w fault due is first later calls left held2 =
      let come : nat_lt w.clock c.tick ≡ false = grind (arith, nat_tests) in
      starts_due calls.refused c calls.calls (node_at (answering later w) first held left) come
      ∙ ap (call_then s calls.refused calls.calls c (node_at (answering later w) first held left)) (is later)
