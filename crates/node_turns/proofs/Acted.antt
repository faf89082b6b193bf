-- Parts of a course one after the other.
use Rattle.std.proofs.Common.{◌≡◌, ℕ, suc, Bool, true, Option, None, Some, List, [], ◌∷◌, ◌++◌, refl, sym, ap, ◌∙◌, subst, append_assoc}
use Rattle.std.specs.Prelude.{if◌then◌else◌, map}
use Rattle.std.proofs.lemmas.Bool.{eq-eqb}
use Rattle.std.proofs.lemmas.List.{append-nil, length-map}
use Rattle.homa_plain.specs.declared.settings.Settings.{Settings}
use Rattle.homa_plain.specs.declared.id.HostId.{HostId}
use Rattle.homa_plain.specs.declared.event.Event.TheVariants as event
use Rattle.homa_plain.specs.Calls.{is_host}
use Rattle.homa_plain.specs.Entries.{PlainEntry, PlainRecv}
use Rattle.homa_plain.specs.Rules.{Answer}
use Rattle.homa_plain.specs.World.{World, outcome}
use Rattle.homa_plain.specs.Answers.{shown, answering}
use Rattle.host_view.specs.declared.outbox.SentFrame.{SentFrame}
use Rattle.node_runs.specs.Course.{Report, Tells, Turning, Datagram, Arrival, Receive, IsReceived, Node, Course, GoesOn, Stops, ◌>>=◌, datagrams}
use Rattle.node_runs.specs.Course.{follows, has_turn, hears, arrival_outcome}
use Rattle.node_runs.specs.Texts.{entries}
use Rattle.node_turns.specs.Told.{listed}
use Rattle.node_turns.specs.Acting.{Part, node_at, frame_datagram, IsStep, HasActed, with_left, goes_on, followed_by}
use Rattle.node_turns.proofs.Lists.{listed_none, listed_more, received_more, numbers_more, entries_parts, entries_tells, shown_parts}

-- a host is itself
host_itself : (id : HostId) → is_host id id ≡ true
host_itself id = eq-eqb id.0 id.0 refl

-- a receive for the host whose turn it is
pub hears_one : (s : Settings) (id : HostId) (n : ℕ) (got : Option Arrival) (left : List Receive) (node : Node)
    → hears s id (suc n) (record { host = id; got = got } ∷ left) node ≡ elim got [
      | None ↦ GoesOn (record node { receives = left })
      | Some a ↦ hears s id n left (follows [] (arrival_outcome s node.world id a) node)
    ]
hears_one s id n got left node =
    ap (λ (b : Bool). if b then elim got [
      | None ↦ GoesOn (record node { receives = left })
      | Some a ↦ hears s id n left (follows [] (arrival_outcome s node.world id a) node)
    ]
    else Stops node None) (host_itself id)

module _ (s : Settings) where
  -- nothing was done
  pub acted_none : (act : Part) (w : World) (stands : World → Type 0) (before : List PlainEntry → Type 0) (tell : List Report → Type 0)
      (sent : Option (List Datagram)) (gave : Option (List Receive))
      → stands w → tell [] → HasActed act act s w stands before before tell sent sent gave gave
  acted_none act w stands before tell sent gave stood none = record {
    next = w;
    stood = stood;
    reports = [];
    sent = [];
    gave = [];
    told = none;
    took = listed_none sent;
    given = listed_none gave;
    received = tt;
    grown = sym (append-nil (datagrams s w));
    numbers = refl;
    allowed = λ more h. h;
    same = λ first later calls left held. ap (λ rs. act left (node_at (answering later w) rs calls held)) (sym (append-nil first));
  }

  -- one part, and then another one
  pub acted_on : (act mid rest : Part) (w : World) (st1 st2 : World → Type 0) (b m a : List PlainEntry → Type 0) (tell1 tell2 tell : List Report → Type 0)
      (s0 s1 s2 : Option (List Datagram)) (g0 g1 g2 : Option (List Receive))
      → HasActed act mid s w st1 b m tell1 s0 s1 g0 g1 → ((v : World) → st1 v → HasActed mid rest s v st2 m a tell2 s1 s2 g1 g2)
      → ((x y : List Report) → tell1 x → tell2 y → tell (x ++ y)) → HasActed act rest s w st2 b a tell s0 s2 g0 g2
  acted_on act mid rest w st1 st2 b m a tell1 tell2 tell s0 s1 s2 g0 g1 g2 h next tells =
      let k = next h.next h.stood in
      record {
        next = k.next;
        stood = k.stood;
        reports = h.reports ++ k.reports;
        sent = h.sent ++ k.sent;
        gave = h.gave ++ k.gave;
        told = tells h.reports k.reports h.told k.told;
        took = listed_more s0 s1 s2 h.sent k.sent h.took k.took;
        given = listed_more g0 g1 g2 h.gave k.gave h.given k.given;
        received = received_more h.gave k.gave h.received k.received;
        grown = k.grown ∙ ap (λ ds. ds ++ k.sent) h.grown ∙ append_assoc (datagrams s w) h.sent k.sent;
        numbers = numbers_more h.sent k.sent h.reports k.reports h.numbers k.numbers;
        allowed = λ more x. subst b (sym
            (ap (λ es. es ++ more) (entries_parts h.reports k.reports) ∙ append_assoc (entries h.reports) (entries k.reports) more))
            (h.allowed (entries k.reports ++ more) (k.allowed more x));
        same = λ first later calls left held.
            ap (λ xs. act xs (node_at (answering (shown (entries (h.reports ++ k.reports)) ++ later) w) first calls held)) (append_assoc h.gave k.gave left)
            ∙ ap (λ xs. act (h.gave ++ (k.gave ++ left)) (node_at (answering xs w) first calls held)) (answers h.reports k.reports later)
            ∙ h.same first (shown (entries k.reports) ++ later) calls (k.gave ++ left) held
            ∙ k.same (first ++ h.reports) later calls left held
            ∙ ap (λ rs. rest left (node_at (answering later k.next) rs calls held)) (append_assoc first h.reports k.reports);
      } where
        answers : (x y : List Report) (later : List Answer) → shown (entries (x ++ y)) ++ later ≡ shown (entries x) ++ (shown (entries y) ++ later)
        answers x y later = ap (λ es. shown es ++ later) (entries_parts x y) ∙ ap (λ xs. xs ++ later) (shown_parts (entries x) (entries y))
            ∙ append_assoc (shown (entries x)) (shown (entries y)) later

  -- what was told, in other words
  pub acted_telling : (act rest : Part) (w : World) (stands : World → Type 0) (b a : List PlainEntry → Type 0) (tell1 tell : List Report → Type 0)
      (s0 s1 : Option (List Datagram)) (g0 g1 : Option (List Receive)) → ((x : List Report) → tell1 x → tell x)
      → HasActed act rest s w stands b a tell1 s0 s1 g0 g1 → HasActed act rest s w stands b a tell s0 s1 g0 g1
  acted_telling act rest w stands b a tell1 tell s0 s1 g0 g1 tells h = record {
    next = h.next;
    stood = h.stood;
    reports = h.reports;
    sent = h.sent;
    gave = h.gave;
    told = tells h.reports h.told;
    took = h.took;
    given = h.given;
    received = h.received;
    grown = h.grown;
    numbers = h.numbers;
    allowed = h.allowed;
    same = h.same;
  }

  -- a part, and what stands behind it
  pub acted_then : (act rest : Part) (after : Node → Course) (w : World) (stands : World → Type 0) (b a : List PlainEntry → Type 0)
      (tell : List Report → Type 0)
      (s0 s1 : Option (List Datagram)) (g0 g1 : Option (List Receive))
      → HasActed act rest s w stands b a tell s0 s1 g0 g1 → HasActed (followed_by act after) (followed_by rest after) s w stands b a tell s0 s1 g0 g1
  acted_then act rest after w stands b a tell s0 s1 g0 g1 h = record {
    next = h.next;
    stood = h.stood;
    reports = h.reports;
    sent = h.sent;
    gave = h.gave;
    told = h.told;
    took = h.took;
    given = h.given;
    received = h.received;
    grown = h.grown;
    numbers = h.numbers;
    allowed = h.allowed;
    same = λ first later calls left held. ap (λ c. c >>= after) (h.same first later calls left held);
  }

  -- a turn of a host
  pub acted_turn : (id : HostId) (w : World) (stands : World → Type 0) (told : List PlainEntry) (frames : List SentFrame) (b a : List PlainEntry → Type 0)
      (tell : List Report → Type 0)
      (s0 s1 : Option (List Datagram)) (g0 g1 : Option (List Receive))
      → IsStep (λ v. outcome s v (event.Turn id) []) [] s w stands told frames b a → tell (Turning id ∷ map Tells told)
      → s1 ≡ listed s0 (map frame_datagram frames) → g1 ≡ g0
      → HasActed (with_left (λ n. GoesOn (has_turn s id n))) goes_on s w stands b a tell s0 s1 g0 g1
  acted_turn id w stands told frames b a tell s0 s1 g0 g1 step tells took same = record {
    next = step.next;
    stood = step.stood;
    reports = Turning id ∷ map Tells told;
    sent = map frame_datagram frames;
    gave = [];
    told = tells;
    took = took;
    given = same ∙ listed_none g0;
    received = tt;
    grown = step.sent;
    numbers = length-map frames frame_datagram ∙ step.numbers;
    allowed = λ more x. subst (λ es. b (es ++ more)) (sym (entries_tells told)) (step.allowed more x);
    same = λ first later calls left held.
        ap (λ es. GoesOn (has_turn s id (node_at (answering (shown es ++ later) w) first calls left))) (entries_tells told)
        ∙ ap (λ o. GoesOn (follows (Turning id ∷ []) o (node_at (answering (shown told ++ later) w) first calls left))) (step.done later);
  }

  -- a datagram came, and up to n more may come
  pub acted_heard : (id : HostId) (n : ℕ) (d : Arrival) (w : World) (stands : World → Type 0) (told : List PlainEntry) (frames : List SentFrame)
      (b a : List PlainEntry → Type 0) (tell : List Report → Type 0)
      (s0 s1 : Option (List Datagram)) (g0 g1 : Option (List Receive))
      → IsStep (λ v. arrival_outcome s v id d) (PlainRecv id d.from d.bytes ∷ []) s w stands told frames b a
      → tell (Tells (PlainRecv id d.from d.bytes) ∷ map Tells told)
      → s1 ≡ listed s0 (map frame_datagram frames) → g1 ≡ listed g0 (record { host = id; got = Some d } ∷ []) → IsReceived d
      → HasActed (hears s id (suc n)) (hears s id n) s w stands b a tell s0 s1 g0 g1
  acted_heard id n d w stands told frames b a tell s0 s1 g0 g1 step tells took given came = record {
    next = step.next;
    stood = step.stood;
    reports = Tells (PlainRecv id d.from d.bytes) ∷ map Tells told;
    sent = map frame_datagram frames;
    gave = record { host = id; got = Some d } ∷ [];
    told = tells;
    took = took;
    given = given;
    received = (came, tt);
    grown = step.sent;
    numbers = length-map frames frame_datagram ∙ step.numbers;
    allowed = λ more x. subst (λ es. b (PlainRecv id d.from d.bytes ∷ es ++ more)) (sym (entries_tells told)) (step.allowed more x);
    same = λ first later calls left held.
        hears_one s id n (Some d) left (node_at (answering (shown (entries (map Tells told)) ++ later) w) first calls held)
        ∙ ap (λ es. hears s id n left (follows [] (arrival_outcome s (answering (shown es ++ later) w) id d)
        (node_at (answering (shown es ++ later) w) first calls held))) (entries_tells told)
        ∙ ap (λ o. hears s id n left (follows [] o (node_at (answering (shown told ++ later) w) first calls held))) (step.done later);
  }

  -- nothing came
  pub acted_nothing : (id : HostId) (n : ℕ) (w : World) (stands : World → Type 0) (b : List PlainEntry → Type 0) (tell : List Report → Type 0)
      (sent : Option (List Datagram)) (g0 g1 : Option (List Receive))
      → stands w → tell [] → g1 ≡ listed g0 (record { host = id; got = None } ∷ []) → HasActed (hears s id (suc n)) goes_on s w stands b b tell sent sent g0 g1
  acted_nothing id n w stands b tell sent g0 g1 stood none given = record {
    next = w;
    stood = stood;
    reports = [];
    sent = [];
    gave = record { host = id; got = None } ∷ [];
    told = none;
    took = listed_none sent;
    given = given;
    received = (tt, tt);
    grown = sym (append-nil (datagrams s w));
    numbers = refl;
    allowed = λ more h. h;
    same = λ first later calls left held. hears_one s id n None left (node_at (answering later w) first calls held)
        ∙ ap (λ rs. GoesOn (node_at (answering later w) rs calls left)) (sym (append-nil first));
  }
