-- The hosts stopped at a call.
use Rattle.std.proofs.Common.{◌≡◌, ◌≤◌, ℕ, Bool, true, false, Option, None, Some, List, [], ◌∷◌, ◌++◌, refl, sym, ap, ◌∙◌, subst, arith}
use Rattle.std.specs.Prelude.{map, nat_lt, is_some, if◌then◌else◌}
use Rattle.std.proofs.lemmas.Bool.Decides.{nat_tests}
use Rattle.std.proofs.lemmas.List.{append-nil, map-append, length-map}
use Rattle.homa_plain.specs.declared.settings.Settings.{Settings}
use Rattle.homa_plain.specs.declared.id.HostId.{HostId}
use Rattle.homa_plain.specs.declared.fault.StartFault.{StartFault}
use Rattle.homa_plain.specs.declared.fault.WorldFault.TheVariants.{NoSuchHost}
use Rattle.homa_plain.specs.declared.event.Event.TheVariants as event
use Rattle.homa_plain.specs.Entries.{PlainEntry}
use Rattle.homa_plain.specs.Host.{Host, packets_in}
use Rattle.homa_plain.specs.Packets.{sender, receiver, datagram}
use Rattle.homa_plain.specs.Steps.{call_step, start_fault}
use Rattle.homa_plain.specs.World.{World, SentPacket, Outcome, Refused, Done, outcome, calls_from, started, host_at, own_clock, stamped}
use Rattle.host_view.specs.declared.outbox.SentFrame.{SentFrame}
use Rattle.node_runs.specs.Script.{TimedCall, Calls, Refusal}
use Rattle.node_runs.specs.Course.{Report, Tells, Datagram, Receive, Node, GoesOn, datagrams, goes, follows, starts}
use Rattle.homa_plain.specs.Answers.{shown, answering}
use Rattle.node_turns.specs.Acting.{node_at, node_of, frame_datagram, IsStep, IsCut, IsMidst, Begins}
use Rattle.node_turns.proofs.Lists.{listed_none, entries_tells}
use Rattle.node_turns.proofs.Grows.{Grown, grown_on, grown_none, begins_self}
use Rattle.std.specs.Prelude.{Err}
use Rattle.node_io.specs.declared.observer.SeenFault.{SeenFault}
use Rattle.node_io.specs.declared.observer.SeenFault.TheVariants as seen
use Rattle.node_turns.specs.Seen.{seen_stop}
use Rattle.homa_node.specs.Starting.{starting, OnCut, IsCallStop}
use Rattle.homa_node.proofs.Starting.{call_then, starts_due, starts_later}

module _ (s : Settings) where
  fault_grows : (client server : HostId) (n : ℕ) (bytes : List ℕ) (node : Node) (h : Host) (o : Option StartFault)
      → Grown s node (follows [] (started s node.world client server n bytes h o) node)
  fault_grows client server n bytes node h (Some fault) = grown_none s node
  fault_grows client server n bytes node h None =
      let told = (call_step s h (own_clock node.world client) server n bytes).told in
      record {
        more = _;
        later = map (λ (p : SentPacket). record { from = sender p.packet; to = receiver p.packet; bytes = datagram s p.packet })
            (stamped node.world.clock (packets_in told));
        told = refl;
        sent = map-append (λ (p : SentPacket). record { from = sender p.packet; to = receiver p.packet; bytes = datagram s p.packet }) node.world.packets
            (stamped node.world.clock (packets_in told));
      }

  host_grows : (client server : HostId) (n : ℕ) (bytes : List ℕ) (node : Node) (o : Option Host)
      → Grown s node (follows [] (calls_from s node.world client server n bytes o) node)
  host_grows client server n bytes node None = grown_none s node
  host_grows client server n bytes node (Some h) = fault_grows client server n bytes node h (start_fault s h server bytes)

  test_grows : (client server : HostId) (n : ℕ) (bytes : List ℕ) (node : Node) (t : Bool)
      → Grown s node (follows [] (if t then calls_from s node.world client server n bytes (host_at node.world client) else Refused NoSuchHost) node)
  test_grows client server n bytes node true = host_grows client server n bytes node (host_at node.world client)
  test_grows client server n bytes node false = grown_none s node

  -- a call
  call_grows : (client server : HostId) (n : ℕ) (bytes : List ℕ) (node : Node)
      → Grown s node (follows [] (outcome s node.world (event.Call client server n) bytes) node)
  unfolding outcome
  call_grows client server n bytes node = test_grows client server n bytes node (is_some (host_at node.world server))

  by_outcome : (refused : Option Refusal) (cs : List TimedCall) (c : TimedCall) (node : Node) (o : Outcome) → Grown s node (follows [] o node)
      → ((n : Node) → Begins s (starts s refused cs n) n.reports (datagrams s n.world))
      → Begins s (call_then s refused cs c node o) node.reports (datagrams s node.world)
  by_outcome refused cs c node (Refused fault) g rest = begins_self s (call_then s refused cs c node (Refused fault))
  by_outcome refused cs c node (Done after) g rest = grown_on s node (goes [] after node) (starts s refused cs (goes [] after node)) g
      (rest (goes [] after node))

  by_due : (refused : Option Refusal) (cs : List TimedCall) (c : TimedCall) (node : Node) (t : Bool) → nat_lt node.world.clock c.tick ≡ t
      → ((n : Node) → Begins s (starts s refused cs n) n.reports (datagrams s n.world))
      → Begins s (starts s refused (c ∷ cs) node) node.reports (datagrams s node.world)
  by_due refused cs c node true e rest = subst (λ x. Begins s x node.reports (datagrams s node.world)) (sym (starts_later s refused c cs node e))
      (begins_self s (GoesOn (record node { calls = record { calls = c ∷ cs; refused = refused } })))
  by_due refused cs c node false e rest =
      subst (λ x. Begins s x node.reports (datagrams s node.world)) (sym (starts_due s refused c cs node e))
      (by_outcome refused cs c node (outcome s node.world (event.Call c.client c.server c.service) c.bytes)
      (call_grows c.client c.server c.service c.bytes node) rest)

  -- calls
  pub starts_grow : (refused : Option Refusal) (cs : List TimedCall) (node : Node) → Begins s (starts s refused cs node) node.reports (datagrams s node.world)
  starts_grow None [] node = begins_self s (starts s None [] node)
  starts_grow (Some r) [] node = begins_self s (starts s (Some r) [] node)
  starts_grow refused (c ∷ cs) node = by_due refused cs c node (nat_lt node.world.clock c.tick) refl (λ n. starts_grow refused cs n)

  -- nothing is known of what a call did
  pub cut_uncalled : (held : Calls) (due : List TimedCall) (w : World) (b : List PlainEntry → Type 0) (tell : List Report → Type 0)
      (take : List Datagram → Type 0) (g0 g1 : Option (List Receive))
      → tell [] → take [] → g1 ≡ g0 → b [] → IsCut (starting s held due) s w b tell take g0 g1
  cut_uncalled held due w b tell take g0 g1 tells took given none = record {
    reports = [];
    sent = [];
    gave = [];
    told = tells;
    took = took;
    numbers = refl;
    given = given ∙ listed_none g0;
    received = tt;
    allowed = none;
    same = λ first later calls left held2.
        let q = starts_grow calls.refused (due ++ calls.calls) (node_at (answering later w) first held left) in
        record {
          more = q.more;
          later = q.later;
          told = q.told ∙ ap (λ rs. rs ++ q.more) (sym (append-nil first));
          grown = q.grown ∙ ap (λ ds. ds ++ q.later) (sym (append-nil (datagrams s w)));
        };
  }

  -- a call of whose step a front was sent and told
  pub cut_called : (held : Calls) (c : TimedCall) (w : World) (stands : World → Type 0) (told : List PlainEntry) (frames : List SentFrame)
      (b a : List PlainEntry → Type 0) (tell : List Report → Type 0)
      (take : List Datagram → Type 0) (g0 g1 : Option (List Receive))
      → c.tick ≤ w.clock → IsStep (λ v. outcome s v (event.Call c.client c.server c.service) c.bytes) [] s w stands told frames b a → tell (map Tells told)
      → take (map frame_datagram frames) → g1 ≡ g0 → a []
      → IsCut (starting s held (c ∷ [])) s w b tell take g0 g1
  cut_called held c w stands told frames b a tell take g0 g1 due step tells took given none = record {
    reports = map Tells told;
    sent = map frame_datagram frames;
    gave = [];
    told = tells;
    took = took;
    numbers = length-map frames frame_datagram ∙ step.numbers;
    given = given ∙ listed_none g0;
    received = tt;
    allowed = subst b (append-nil told ∙ sym (entries_tells told)) (step.allowed [] none);
    same = λ first later calls left held2.
        let come : nat_lt w.clock c.tick ≡ false = grind (arith, nat_tests) in
        let path =
        ap (λ es. starts s calls.refused (c ∷ calls.calls) (node_at (answering (shown es ++ later) w) first held left)) (entries_tells told)
        ∙ starts_due s calls.refused c calls.calls (node_at (answering (shown told ++ later) w) first held left) come
        ∙ ap (call_then s calls.refused calls.calls c (node_at (answering (shown told ++ later) w) first held left)) (step.done later) in
        let q = starts_grow calls.refused calls.calls (node_at (answering later step.next) (first ++ map Tells told) held left) in
        record {
          more = q.more;
          later = q.later;
          told = ap (λ x. (node_of x).reports) path ∙ q.told;
          grown = ap (λ x. datagrams s (node_of x).world) path ∙ q.grown ∙ ap (λ ds. ds ++ q.later) step.sent;
        };
  }

-- the observer stopped it
pub seen_cut : (f : SeenFault) (X : Type 0) → X → OnCut (Err (seen_stop f)) X
seen_cut (seen.Write failed) X x = x
seen_cut seen.Stranger X x = x
seen_cut seen.NoMemory X x = x

pub seen_call : (f : SeenFault) → IsMidst (seen_stop f) → IsCallStop (seen_stop f)
seen_call (seen.Write failed) m = m
seen_call seen.Stranger m = m
seen_call seen.NoMemory m = m
