-- Datagrams that come, and hosts that act one after the other.
use Rattle.std.proofs.Common.{◌≡◌, ◌≢◌, ◌<◌, ◌+◌, arith, length, drop, get_or, ℕ, zero, suc, Option, None, List, [], ◌∷◌, ◌++◌, refl, sym, ap}
use Rattle.std.proofs.Common.{◌∙◌, subst, append_assoc}
use Rattle.std.specs.Prelude.{map}
use Rattle.homa_plain.specs.declared.settings.Settings.{Settings}
use Rattle.homa_plain.specs.declared.id.HostId.{HostId}
use Rattle.homa_plain.specs.Entries.{PlainEntry, PlainRecv}
use Rattle.homa_plain.specs.Rules.{Answer}
use Rattle.homa_plain.specs.World.{World}
use Rattle.host_view.specs.declared.outbox.SentFrame.{SentFrame}
use Rattle.node_io.specs.declared.net.Got.{Got}
use Rattle.node_io.specs.declared.net.Got.TheVariants as got
use Rattle.node_io.specs.Net.{receive_of, added}
use Rattle.node_runs.specs.Course.{Report, Tells, Datagram, Receive, IsReceived, GoesOn, ◌>>=◌, datagrams, has_turn, hears, hosts_act, arrival_outcome}
use Rattle.node_runs.specs.Texts.{entries}
use Rattle.homa_plain.specs.Answers.{shown, answering}
use Rattle.node_turns.specs.Told.{listed}
use Rattle.node_turns.specs.Acting.{Part, node_at, node_of, frame_datagram, IsStep, HasActed, with_left, goes_on}
use Rattle.node_turns.proofs.Lists.{added_is, listed_more, received_more, numbers_more, entries_parts, shown_parts}
use Rattle.node_turns.proofs.Acted.{acted_heard, acted_nothing}

-- what isn't a datagram is nothing
pub nothing_of : (id : HostId) (g : Got) (bytes : List ℕ) → ((from : HostId) → g ≢ got.Frame from)
    → receive_of id g bytes ≡ record { host = id; got = None }
nothing_of id (got.Frame from) bytes never = absurd (never from refl)
nothing_of id got.Nothing bytes never = refl

module _ (s : Settings) (id : HostId) where
  -- a datagram came, with what is known of it in other words
  pub heard_next : (k n : ℕ) → k ≡ suc n → (t : Settings) → t ≡ s → (from : HostId) (x y z : List ℕ) → x ≡ z → y ≡ z → (g : Got) → g ≡ got.Frame from
      → (w : World) (stands : World → Type 0) (told : List PlainEntry) (frames : List SentFrame) (b a : List PlainEntry → Type 0) (tell : List Report → Type 0)
      (s0 s1 : Option (List Datagram)) (g0 g1 : Option (List Receive))
      → IsStep (λ v. arrival_outcome t v id (record { from = from; bytes = x })) (PlainRecv id from x ∷ []) t w stands told frames b a
      → tell (Tells (PlainRecv id from y) ∷ map Tells told)
      → s1 ≡ listed s0 (map frame_datagram frames) → g1 ≡ added g0 (receive_of id g z) → IsReceived (record { from = from; bytes = z })
      → HasActed (hears s id k) (hears s id n) s w stands b a tell s0 s1 g0 g1
  heard_next k n e t same from x y z ex ey g is w stands told frames b a tell s0 s1 g0 g1 step tells took given came =
      subst (λ m. HasActed (hears s id m) (hears s id n) s w stands b a tell s0 s1 g0 g1) (sym e)
      (acted_heard s id n (record { from = from; bytes = z }) w stands told frames b a tell s0 s1 g0 g1
      (subst (λ q. IsStep (λ v. arrival_outcome s v id (record { from = from; bytes = q })) (PlainRecv id from q ∷ []) s w stands told frames b a) ex
      (subst (λ q. IsStep (λ v. arrival_outcome q v id (record { from = from; bytes = x })) (PlainRecv id from x ∷ []) q w stands told frames b a) same step))
      (subst (λ q. tell (Tells (PlainRecv id from q) ∷ map Tells told)) ey tells) took
      (given ∙ ap (λ o. added g0 (receive_of id o z)) is ∙ added_is g0 (receive_of id (got.Frame from) z)) came)

  -- nothing came
  pub heard_nothing : (k n : ℕ) → k ≡ suc n → (g : Got) (z : List ℕ) → ((from : HostId) → g ≢ got.Frame from)
      → (w : World) (stands : World → Type 0) (b : List PlainEntry → Type 0) (tell : List Report → Type 0)
      (s0 s1 : Option (List Datagram)) (g0 g1 : Option (List Receive)) → stands w → tell [] → s1 ≡ s0 → g1 ≡ added g0 (receive_of id g z)
      → HasActed (hears s id k) goes_on s w stands b b tell s0 s1 g0 g1
  heard_nothing k n e g z never w stands b tell s0 s1 g0 g1 stood none same given =
      subst (λ m. HasActed (hears s id m) goes_on s w stands b b tell s0 s1 g0 g1) (sym e)
      (subst (λ o. HasActed (hears s id (suc n)) goes_on s w stands b b tell s0 o g0 g1) (sym same)
      (acted_nothing s id n w stands b tell s0 g0 g1 stood none
      (given ∙ ap (added g0) (nothing_of id g z never) ∙ added_is g0 (record { host = id; got = None }))))

  -- no more may come
  pub heard_all : (act : Part) (k : ℕ) → k ≡ zero → (w : World) (stands : World → Type 0) (b a : List PlainEntry → Type 0) (tell : List Report → Type 0)
      (s0 s1 : Option (List Datagram)) (g0 g1 : Option (List Receive)) → HasActed act (hears s id k) s w stands b a tell s0 s1 g0 g1
      → HasActed act goes_on s w stands b a tell s0 s1 g0 g1
  heard_all act k e w stands b a tell s0 s1 g0 g1 h = ended (subst (λ m. HasActed act (hears s id m) s w stands b a tell s0 s1 g0 g1) e h) where
    ended : HasActed act (hears s id zero) s w stands b a tell s0 s1 g0 g1 → HasActed act goes_on s w stands b a tell s0 s1 g0 g1
    ended h = record {
      next = h.next;
      stood = h.stood;
      reports = h.reports;
      sent = h.sent;
      gave = h.gave;
      told = h.told;
      took = h.took;
      given = h.given;
      received = h.received;
      grown = h.grown;
      numbers = h.numbers;
      allowed = h.allowed;
      same = h.same;
    }

  -- a host receives, and has its turn
  pub acted_host : (ids : List HostId) (w : World) (st1 st2 : World → Type 0) (b m a : List PlainEntry → Type 0) (tell1 tell2 tell : List Report → Type 0)
      (s0 s1 s2 : Option (List Datagram)) (g0 g1 g2 : Option (List Receive))
      → HasActed (hears s id 64) goes_on s w st1 b m tell1 s0 s1 g0 g1
      → ((v : World) → st1 v → HasActed (with_left (λ n. GoesOn (has_turn s id n))) goes_on s v st2 m a tell2 s1 s2 g1 g2)
      → ((x y : List Report) → tell1 x → tell2 y → tell (x ++ y))
      → HasActed (with_left (hosts_act s (id ∷ ids))) (with_left (hosts_act s ids)) s w st2 b a tell s0 s2 g0 g2
  acted_host ids w st1 st2 b m a tell1 tell2 tell s0 s1 s2 g0 g1 g2 h next tells =
      let k = next h.next h.stood in
      record {
        next = k.next;
        stood = k.stood;
        reports = h.reports ++ k.reports;
        sent = h.sent ++ k.sent;
        gave = h.gave ++ k.gave;
        told = tells h.reports k.reports h.told k.told;
        took = listed_more s0 s1 s2 h.sent k.sent h.took k.took;
        given = listed_more g0 g1 g2 h.gave k.gave h.given k.given;
        received = received_more h.gave k.gave h.received k.received;
        grown = k.grown ∙ ap (λ ds. ds ++ k.sent) h.grown ∙ append_assoc (datagrams s w) h.sent k.sent;
        numbers = numbers_more h.sent k.sent h.reports k.reports h.numbers k.numbers;
        allowed = λ more x. subst b (sym
            (ap (λ es. es ++ more) (entries_parts h.reports k.reports) ∙ append_assoc (entries h.reports) (entries k.reports) more))
            (h.allowed (entries k.reports ++ more) (k.allowed more x));
        same = λ first later calls left held.
            ap (λ xs. hears s id 64 xs (node_at (answering (shown (entries (h.reports ++ k.reports)) ++ later) w) first calls xs)
            >>= (λ m. hosts_act s ids (has_turn s id m))) (append_assoc h.gave k.gave left)
            ∙ ap (λ xs. hears s id 64 (h.gave ++ (k.gave ++ left))
            (node_at (answering xs w) first calls (h.gave ++ (k.gave ++ left))) >>= (λ m. hosts_act s ids (has_turn s id m)))
            (answers h.reports k.reports later)
            ∙ ap (λ c. c >>= (λ m. hosts_act s ids (has_turn s id m)))
            (h.same first (shown (entries k.reports) ++ later) calls (k.gave ++ left) (h.gave ++ (k.gave ++ left)))
            ∙ ap (λ c. hosts_act s ids (node_of c)) (k.same (first ++ h.reports) later calls left held)
            ∙ ap (λ rs. hosts_act s ids (node_at (answering later k.next) rs calls left)) (append_assoc first h.reports k.reports);
      } where
        answers : (x y : List Report) (later : List Answer) → shown (entries (x ++ y)) ++ later ≡ shown (entries x) ++ (shown (entries y) ++ later)
        answers x y later = ap (λ es. shown es ++ later) (entries_parts x y) ∙ ap (λ xs. xs ++ later) (shown_parts (entries x) (entries y))
            ∙ append_assoc (shown (entries x)) (shown (entries y)) later

  -- the next of these hosts, with its settings in other words
  pub host_next : (locals : List HostId) (i : ℕ) → drop i locals ≡ id ∷ drop (i + 1) locals → (t u : Settings) → t ≡ s → u ≡ s
      → (w : World) (st1 st2 : World → Type 0) (b m a : List PlainEntry → Type 0) (tell1 tell2 tell : List Report → Type 0)
      (s0 s1 s2 : Option (List Datagram)) (g0 g1 g2 : Option (List Receive))
      → HasActed (hears t id 64) goes_on t w st1 b m tell1 s0 s1 g0 g1
      → ((v : World) → st1 v → HasActed (with_left (λ n. GoesOn (has_turn u id n))) goes_on u v st2 m a tell2 s1 s2 g1 g2)
      → ((x y : List Report) → tell1 x → tell2 y → tell (x ++ y))
      → HasActed (with_left (hosts_act s (drop i locals))) (with_left (hosts_act s (drop (i + 1) locals))) s w st2 b a tell s0 s2 g0 g2
  host_next locals i at t u et eu w st1 st2 b m a tell1 tell2 tell s0 s1 s2 g0 g1 g2 h next tells =
      subst (λ xs. HasActed (with_left (hosts_act s xs)) (with_left (hosts_act s (drop (i + 1) locals))) s w st2 b a tell s0 s2 g0 g2) (sym at)
      (acted_host (drop (i + 1) locals) w st1 st2 b m a tell1 tell2 tell s0 s1 s2 g0 g1 g2
      (subst (λ q. HasActed (hears q id 64) goes_on q w st1 b m tell1 s0 s1 g0 g1) et h)
      (λ v st. subst (λ q. HasActed (with_left (λ n. GoesOn (has_turn q id n))) goes_on q v st2 m a tell2 s1 s2 g1 g2) eu (next v st)) tells)

left_at : {A : Type 0} (xs : List A) (i : ℕ) (d : A) → i < length xs → drop i xs ≡ get_or xs i d ∷ drop (suc i) xs
left_at [] i d l = absurd (omega (arith, l))
left_at (x ∷ xs) zero d l = refl
left_at (x ∷ xs) (suc i) d l = left_at xs i d (omega (arith, l))

-- what is left of a list from a place on
pub drop_at : {A : Type 0} (xs : List A) (i : ℕ) (d : A) → i < length xs → drop i xs ≡ get_or xs i d ∷ drop (i + 1) xs
drop_at xs i d l =
    let one : suc i ≡ i + 1 = omega (arith) in
    left_at xs i d l ∙ ap (λ n. get_or xs i d ∷ drop n xs) one
