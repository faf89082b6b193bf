-- The hosts stopped while they acted one after the other.
use Rattle.std.proofs.Common.{◌≡◌, ◌+◌, ℕ, Option, List, ◌∷◌, ◌++◌, drop, sym, ap, subst}
use Rattle.homa_plain.specs.declared.settings.Settings.{Settings}
use Rattle.homa_plain.specs.declared.id.HostId.{HostId}
use Rattle.homa_plain.specs.Entries.{PlainEntry}
use Rattle.homa_plain.specs.World.{World}
use Rattle.node_runs.specs.Course.{Report, Datagram, Receive, Node, Course, GoesOn, ◌>>=◌, datagrams, has_turn, hears, hosts_act}
use Rattle.node_runs.specs.Texts.{entries}
use Rattle.homa_plain.specs.Answers.{shown, answering}
use Rattle.node_turns.specs.Told.{Listed}
use Rattle.node_turns.specs.Acting.{node_at, HasActed, IsCut, with_left, goes_on}
use Rattle.node_turns.proofs.Grows.{grown_on, turn_grows, begins_then, hosts_grow}
use Rattle.node_turns.proofs.Cuts.{cut_on}

module _ (s : Settings) (id : HostId) (ids : List HostId) where
  -- the host's turn, and what the others do
  abbrev pub turns_on : Node → Course
  turns_on n = hosts_act s ids (has_turn s id n)

  -- it stopped while it received
  pub host_hears_cut : (w : World) (b : List PlainEntry → Type 0) (tell : List Report → Type 0) (take : List Datagram → Type 0)
      (g0 g1 : Option (List Receive))
      → IsCut (hears s id 64) s w b tell take g0 g1 → IsCut (with_left (hosts_act s (id ∷ ids))) s w b tell take g0 g1
  host_hears_cut w b tell take g0 g1 k = record {
    reports = k.reports;
    sent = k.sent;
    gave = k.gave;
    told = k.told;
    took = k.took;
    numbers = k.numbers;
    given = k.given;
    received = k.received;
    allowed = k.allowed;
    same = λ first later calls left held.
        begins_then s turns_on (λ m. grown_on s m (has_turn s id m) (turns_on m) (turn_grows s id m) (hosts_grow s ids (has_turn s id m)))
        (hears s id 64 (k.gave ++ left) (node_at (answering (shown (entries k.reports) ++ later) w) first calls (k.gave ++ left))) (first ++ k.reports)
        (datagrams s w ++ k.sent) (k.same first later calls left (k.gave ++ left));
  }

  -- it received
  host_heard : (w : World) (st : World → Type 0) (b m : List PlainEntry → Type 0) (tell : List Report → Type 0) (s0 s1 : Option (List Datagram))
      (g0 g1 : Option (List Receive))
      → HasActed (hears s id 64) goes_on s w st b m tell s0 s1 g0 g1
      → HasActed (with_left (hosts_act s (id ∷ ids))) (with_left turns_on) s w st b m tell s0 s1 g0 g1
  host_heard w st b m tell s0 s1 g0 g1 h = record {
    next = h.next;
    stood = h.stood;
    reports = h.reports;
    sent = h.sent;
    gave = h.gave;
    told = h.told;
    took = h.took;
    given = h.given;
    received = h.received;
    grown = h.grown;
    numbers = h.numbers;
    allowed = h.allowed;
    same = λ first later calls left held. ap (λ c. c >>= turns_on) (h.same first later calls left (h.gave ++ left));
  }

  -- it stopped in its turn
  turn_on_cut : (w : World) (b : List PlainEntry → Type 0) (tell : List Report → Type 0) (take : List Datagram → Type 0)
      (g0 g1 : Option (List Receive))
      → IsCut (with_left (λ n. GoesOn (has_turn s id n))) s w b tell take g0 g1 → IsCut (with_left turns_on) s w b tell take g0 g1
  turn_on_cut w b tell take g0 g1 k = record {
    reports = k.reports;
    sent = k.sent;
    gave = k.gave;
    told = k.told;
    took = k.took;
    numbers = k.numbers;
    given = k.given;
    received = k.received;
    allowed = k.allowed;
    same = λ first later calls left held.
        begins_then s (hosts_act s ids) (hosts_grow s ids)
        (GoesOn (has_turn s id (node_at (answering (shown (entries k.reports) ++ later) w) first calls (k.gave ++ left)))) (first ++ k.reports)
        (datagrams s w ++ k.sent) (k.same first later calls left held);
  }

  pub host_turn_cut : (w : World) (st : World → Type 0) (b m : List PlainEntry → Type 0) (tell1 tell2 tell : List Report → Type 0)
      (take2 take : List Datagram → Type 0) (s0 s1 : Option (List Datagram)) (g0 g1 g2 : Option (List Receive))
      → HasActed (hears s id 64) goes_on s w st b m tell1 s0 s1 g0 g1
      → ((v : World) → st v → IsCut (with_left (λ n. GoesOn (has_turn s id n))) s v m tell2 take2 g1 g2)
      → ((x y : List Report) → tell1 x → tell2 y → tell (x ++ y))
      → ((x y : List Datagram) → Listed s0 s1 x → take2 y → take (x ++ y)) → IsCut (with_left (hosts_act s (id ∷ ids))) s w b tell take g0 g2
  host_turn_cut w st b m tell1 tell2 tell take2 take s0 s1 g0 g1 g2 h next tells takes =
      cut_on s (with_left (hosts_act s (id ∷ ids))) (with_left turns_on) w st b m tell1 tell2 tell take2 take s0 s1 g0 g1 g2
      (host_heard w st b m tell1 s0 s1 g0 g1 h) (λ v k. turn_on_cut v m tell2 take2 g1 g2 (next v k)) tells takes

module _ (s : Settings) (id : HostId) (locals : List HostId) (i : ℕ) (at : drop i locals ≡ id ∷ drop (i + 1) locals) where
  -- the same of the next of these hosts, with its settings in other words
  pub next_hears_cut : (t : Settings) → t ≡ s
      → (w : World) (b : List PlainEntry → Type 0) (tell : List Report → Type 0) (take : List Datagram → Type 0) (g0 g1 : Option (List Receive))
      → IsCut (hears t id 64) t w b tell take g0 g1 → IsCut (with_left (hosts_act s (drop i locals))) s w b tell take g0 g1
  next_hears_cut t e w b tell take g0 g1 k =
      subst (λ xs. IsCut (with_left (hosts_act s xs)) s w b tell take g0 g1) (sym at)
      (host_hears_cut s id (drop (i + 1) locals) w b tell take g0 g1 (subst (λ q. IsCut (hears q id 64) q w b tell take g0 g1) e k))

  pub next_turn_cut : (t u : Settings) → t ≡ s → u ≡ s
      → (w : World) (st : World → Type 0) (b m : List PlainEntry → Type 0) (tell1 tell2 tell : List Report → Type 0)
      (take2 take : List Datagram → Type 0) (s0 s1 : Option (List Datagram)) (g0 g1 g2 : Option (List Receive))
      → HasActed (hears t id 64) goes_on t w st b m tell1 s0 s1 g0 g1
      → ((v : World) → st v → IsCut (with_left (λ n. GoesOn (has_turn u id n))) u v m tell2 take2 g1 g2)
      → ((x y : List Report) → tell1 x → tell2 y → tell (x ++ y))
      → ((x y : List Datagram) → Listed s0 s1 x → take2 y → take (x ++ y)) → IsCut (with_left (hosts_act s (drop i locals))) s w b tell take g0 g2
  next_turn_cut t u et eu w st b m tell1 tell2 tell take2 take s0 s1 g0 g1 g2 h next tells takes =
      subst (λ xs. IsCut (with_left (hosts_act s xs)) s w b tell take g0 g2) (sym at)
      (host_turn_cut s id (drop (i + 1) locals) w st b m tell1 tell2 tell take2 take s0 s1 g0 g1 g2
      (subst (λ q. HasActed (hears q id 64) goes_on q w st b m tell1 s0 s1 g0 g1) et h)
      (λ v k. subst (λ q. IsCut (with_left (λ n. GoesOn (has_turn q id n))) q v m tell2 take2 g1 g2) eu (next v k)) tells takes)
