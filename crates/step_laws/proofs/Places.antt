-- Lists with at most one thing of each row: its timer, its message that arrives, its message that is sent.
use Rattle.std.proofs.Common.{◌≡◌, ℕ, Bool, Option, Some, None, List, [], ◌∷◌, ◌++◌, refl, sym, ap, ◌∙◌}
use Rattle.std.specs.List.{AllByRecursion, filter, flat_map}
use Rattle.std.specs.Option.{option_map, option_and_then}
use Rattle.std.proofs.lemmas.Bool.{cond_both}
use Rattle.plain_sets.specs.Maps.{entries, get}
use Rattle.plain_sets.specs.Ordered.{is_below, placed, ordered, DiffersFrom, KeysDiffer}
use Rattle.plain_sets.proofs.OrderLaws.{placed-all, ordered-all, all_weaker}
use Rattle.plain_sets.proofs.OrderSame.{filter-all}
use Rattle.plain_sets.proofs.OrderFirst.{all_from}
use Rattle.plain_sets.proofs.MapMembers.{get-entry}
use Rattle.homa_plain.specs.declared.id.CallId.{CallId}
use Rattle.homa_plain.specs.declared.settings.Settings.{Settings}
use Rattle.homa_plain.specs.Grants.{choice_key}
use Rattle.homa_plain.specs.Incoming.{Incoming}
use Rattle.homa_plain.specs.Outgoing.{has_waiting}
use Rattle.homa_plain.specs.Rows.{ClientRow, ServerRow, State, Receiving, Replying, RowsOf}
use Rattle.homa_plain.specs.Host.{Host}
use Rattle.homa_plain.specs.Timers.{Place, OfClient, OfServer, Timer, timer_key, timer, timers, client_deadline, server_deadline}
use Rattle.homa_plain.specs.Sending.{Arriving, arriving_at_client, arriving_at_server, arrivals}
use Rattle.homa_plain.specs.SentNext.{Leaving, leaving_key, may_send_request}
use Rattle.homa_plain.specs.SentNext.{leaving_at_client, leaving_at_server, departures}
use Rattle.step_laws.specs.StepLaws.{client_order, server_order, response_order, request_order, reply_order, arriving_in, leaving_in, number_at}
use Rattle.step_laws.specs.StepLaws.{AreOwn, HasOwnOrders}
use Rattle.homa_plain.proofs.CallOrder.{call_total, call_same}
use Rattle.step_laws.proofs.RowMaps.{AreApart, apart-entries}

-- ---- each with each later one

abbrev pub Pairwise : {X : Type 0} → (X → X → Type 0) → List X → Type 0
Pairwise R [] = Unit {0}
Pairwise R (x ∷ xs) = AllByRecursion (R x) xs × Pairwise R xs

pub all-append : {X : Type 0} (P : X → Type 0) (xs ys : List X) → AllByRecursion P xs → AllByRecursion P ys → AllByRecursion P (xs ++ ys)
all-append P [] ys a b = b
all-append P (x ∷ xs) ys a b = (a.0, all-append P xs ys a.1 b)

module _ {X : Type 0} (R : X → X → Type 0) where
  pub pairwise-append : (xs ys : List X) → Pairwise R xs → Pairwise R ys → AllByRecursion (λ x. AllByRecursion (R x) ys) xs → Pairwise R (xs ++ ys)
  pairwise-append [] ys a b across = b
  pairwise-append (x ∷ xs) ys a b across = (all-append (R x) xs ys a.0 across.0, pairwise-append xs ys a.1 b across.1)

  pub pairwise-filter : (p : X → Bool) (xs : List X) → Pairwise R xs → Pairwise R (filter p xs)
  pairwise-filter p [] a = tt
  pairwise-filter p (x ∷ xs) a =
      cond_both (p x) (x ∷ filter p xs) (filter p xs) (Pairwise R) (λ _. (filter-all (R x) p xs a.0, pairwise-filter p xs a.1)) (λ _. pairwise-filter p xs a.1)

  pairwise-placed : ((x y : X) → R x y → R y x) → (key : X → ℕ × ℕ) (x : X) (ys : List X) → AllByRecursion (R x) ys → Pairwise R ys
      → Pairwise R (placed key x ys)
  pairwise-placed swap key x [] a b = (tt, tt)
  pairwise-placed swap key x (y ∷ ys) a b =
      cond_both (is_below (key x) (key y)) (x ∷ y ∷ ys) (y ∷ placed key x ys) (Pairwise R)
      (λ _. (a, b)) (λ _. (placed-all key (R y) x ys (swap x y a.0) b.0, pairwise-placed swap key x ys a.1 b.1))

  pub pairwise-ordered : ((x y : X) → R x y → R y x) → (key : X → ℕ × ℕ) (xs : List X) → Pairwise R xs → Pairwise R (ordered key xs)
  unfolding ordered
  pairwise-ordered swap key [] a = tt
  pairwise-ordered swap key (x ∷ xs) a = pairwise-placed swap key x (ordered key xs) (ordered-all key (R x) xs a.0) (pairwise-ordered swap key xs a.1)

-- ---- things of rows

-- things of two places
abbrev pub Differ : {X : Type 0} → (X → Place) → X → X → Type 0
Differ place x y = place x ≡ place y → ⊥

-- a row's things, at most one
abbrev pub IsOne : {X : Type 0} → (X → Place) → (X → ℕ) → Place → Option ℕ → List X → Type 0
IsOne place order at number [] = Unit {0}
IsOne place order at number (x ∷ []) = (place x ≡ at) × (number ≡ Some (order x))
IsOne place order at number (x ∷ y ∷ xs) = ⊥

module _ {X : Type 0} (place : X → Place) (order : X → ℕ) where
  one-all : (at : Place) (number : Option ℕ) (xs : List X) → IsOne place order at number xs
      → AllByRecursion (λ x. (place x ≡ at) × (number ≡ Some (order x))) xs
  one-all at number [] one = tt
  one-all at number (x ∷ []) one = (one, tt)
  one-all at number (x ∷ y ∷ xs) one = absurd one

  one-pairwise : (at : Place) (number : Option ℕ) (xs : List X) → IsOne place order at number xs → Pairwise (Differ place) xs
  one-pairwise at number [] one = tt
  one-pairwise at number (x ∷ []) one = (tt, tt)
  one-pairwise at number (x ∷ y ∷ xs) one = absurd one

-- the rows of one side
module _ {R X : Type 0} (side : CallId → Place) (inject : (a b : CallId) → side a ≡ side b → a ≡ b) (place : X → Place) (order : X → ℕ)
    (number : R → Option ℕ) (things : CallId × R → List X)
    (one : (e : CallId × R) → IsOne place order (side e.0) (number e.1) (things e)) where
  -- what holds of the things of each entry
  all-flat : (P : X → Type 0) (es : List (CallId × R)) → AllByRecursion (λ e. AllByRecursion P (things e)) es → AllByRecursion P (flat_map things es)
  all-flat P [] all = tt
  all-flat P (e ∷ es) all = all-append P (things e) (flat_map things es) all.0 (all-flat P es all.1)

  pub things-side : (es : List (CallId × R)) → AllByRecursion (λ x. (id : CallId) × (place x ≡ side id)) (flat_map things es)
  things-side es = all-flat (λ x. (id : CallId) × (place x ≡ side id)) es
      (all_from (λ e. AllByRecursion (λ x. (id : CallId) × (place x ≡ side id)) (things e)) es
      (λ e _. all_weaker (λ x. (place x ≡ side e.0) × (number e.1 ≡ Some (order x))) (λ x. (id : CallId) × (place x ≡ side id)) (λ x h. (e.0, h.0))
      (things e) (one-all place order (side e.0) (number e.1) (things e) (one e))))

  -- the things of other calls stand at other places
  pub things-others : (k : CallId) (es : List (CallId × R)) → AllByRecursion (λ (e : CallId × R). k ≡ e.0 → ⊥) es
      → AllByRecursion (λ x. side k ≡ place x → ⊥) (flat_map things es)
  things-others k [] all = tt
  things-others k (e ∷ es) all =
      all-append (λ x. side k ≡ place x → ⊥) (things e) (flat_map things es)
      (all_weaker (λ x. (place x ≡ side e.0) × (number e.1 ≡ Some (order x))) (λ x. side k ≡ place x → ⊥) (λ x h f. all.0 (inject k e.0 (f ∙ h.0)))
      (things e) (one-all place order (side e.0) (number e.1) (things e) (one e)))
      (things-others k es all.1)

  pub things-pairwise : (es : List (CallId × R)) → AreApart es → Pairwise (Differ place) (flat_map things es)
  things-pairwise [] apart = tt
  things-pairwise (e ∷ es) apart =
      pairwise-append (Differ place) (things e) (flat_map things es) (one-pairwise place order (side e.0) (number e.1) (things e) (one e))
      (things-pairwise es apart.1)
      (all_weaker (λ x. (place x ≡ side e.0) × (number e.1 ≡ Some (order x))) (λ x. AllByRecursion (λ y. place x ≡ place y → ⊥) (flat_map things es))
      (λ x h. all_weaker (λ y. side e.0 ≡ place y → ⊥) (λ y. place x ≡ place y → ⊥) (λ y differ f. differ (sym h.0 ∙ f)) (flat_map things es)
      (things-others e.0 es apart.0))
      (things e) (one-all place order (side e.0) (number e.1) (things e) (one e)))

  -- a thing's number is that of the row at its place
  pub things-numbers : (m : RowsOf R)
      → AllByRecursion (λ x. (id : CallId) × (place x ≡ side id) × (option_and_then number (get m id) ≡ Some (order x))) (flat_map things (entries m))
  things-numbers m =
      all-flat (λ x. (id : CallId) × (place x ≡ side id) × (option_and_then number (get m id) ≡ Some (order x))) (entries m)
      (all_from (λ e. AllByRecursion (λ x. (id : CallId) × (place x ≡ side id) × (option_and_then number (get m id) ≡ Some (order x))) (things e)) (entries m)
      (λ e c. all_weaker (λ x. (place x ≡ side e.0) × (number e.1 ≡ Some (order x)))
      (λ x. (id : CallId) × (place x ≡ side id) × (option_and_then number (get m id) ≡ Some (order x)))
      (λ x h. (e.0, h.0, ap (option_and_then number) (get-entry call_total call_same m e.0 e.1 c) ∙ h.1)) (things e)
      (one-all place order (side e.0) (number e.1) (things e) (one e))))

pub client_inject : (a b : CallId) → OfClient a ≡ OfClient b → a ≡ b
client_inject a b e = cc

pub server_inject : (a b : CallId) → OfServer a ≡ OfServer b → a ≡ b
server_inject a b e = cc

pub two_sides : (a b : CallId) → OfClient a ≡ OfServer b → ⊥
two_sides a b e = cc

-- the rows of both sides
module _ {X : Type 0} (place : X → Place) (order : X → ℕ) (of_client : ClientRow → Option ℕ) (of_server : ServerRow → Option ℕ)
    (of_clients : CallId × ClientRow → List X) (of_servers : CallId × ServerRow → List X)
    (one_client : (e : CallId × ClientRow) → IsOne place order (OfClient e.0) (of_client e.1) (of_clients e))
    (one_server : (e : CallId × ServerRow) → IsOne place order (OfServer e.0) (of_server e.1) (of_servers e)) where
  -- the things of all rows
  abbrev pub things_of : Host → List X
  things_of h = flat_map of_clients (entries h.clients) ++ flat_map of_servers (entries h.servers)

  -- stand at different places
  pub things-differ : (h : Host) → Pairwise (Differ place) (things_of h)
  things-differ h =
      pairwise-append (Differ place) (flat_map of_clients (entries h.clients)) (flat_map of_servers (entries h.servers))
      (things-pairwise OfClient client_inject place order of_client of_clients one_client (entries h.clients) (apart-entries call_total call_same h.clients))
      (things-pairwise OfServer server_inject place order of_server of_servers one_server (entries h.servers) (apart-entries call_total call_same h.servers))
      (all_weaker (λ x. (id : CallId) × (place x ≡ OfClient id)) (λ x. AllByRecursion (λ y. place x ≡ place y → ⊥) (flat_map of_servers (entries h.servers)))
      (λ x a. all_weaker (λ y. (id : CallId) × (place y ≡ OfServer id)) (λ y. place x ≡ place y → ⊥) (λ y b f. two_sides a.0 b.0 (sym a.1 ∙ f ∙ b.1))
      (flat_map of_servers (entries h.servers))
      (things-side OfServer server_inject place order of_server of_servers one_server (entries h.servers)))
      (flat_map of_clients (entries h.clients)) (things-side OfClient client_inject place order of_client of_clients one_client (entries h.clients)))

  -- each has the number at its place
  numbers : (h : Host) → AllByRecursion (λ x. number_at of_client of_server h (place x) ≡ Some (order x)) (things_of h)
  numbers h =
      all-append (λ x. number_at of_client of_server h (place x) ≡ Some (order x)) (flat_map of_clients (entries h.clients))
      (flat_map of_servers (entries h.servers))
      (all_weaker _ (λ x. number_at of_client of_server h (place x) ≡ Some (order x)) (λ x a. ap (number_at of_client of_server h) a.1 ∙ a.2)
      (flat_map of_clients (entries h.clients))
      (things-numbers OfClient client_inject place order of_client of_clients one_client h.clients))
      (all_weaker _ (λ x. number_at of_client of_server h (place x) ≡ Some (order x)) (λ x a. ap (number_at of_client of_server h) a.1 ∙ a.2)
      (flat_map of_servers (entries h.servers))
      (things-numbers OfServer server_inject place order of_server of_servers one_server h.servers))

  module _ (key : X → ℕ × ℕ) (is_key : (x : X) → (key x).1 ≡ order x) (n : ℕ) (number : Place → Option ℕ) (own : AreOwn n number) where
    one_place : (x y : X) → number (place x) ≡ Some (order x) → number (place y) ≡ Some (order y) → key x ≡ key y → place x ≡ place y
    one_place x y a b e = own.differ (place x) (place y) (order x) a (b ∙ ap Some (sym (is_key y) ∙ ap (λ k. k.1) (sym e) ∙ is_key x))

    differ_from : (x : X) (xs : List X) → number (place x) ≡ Some (order x) → AllByRecursion (λ y. place x ≡ place y → ⊥) xs
        → AllByRecursion (λ y. number (place y) ≡ Some (order y)) xs → DiffersFrom key x xs
    differ_from x [] a differ all = tt
    differ_from x (y ∷ ys) a differ all = (λ e. differ.0 (one_place x y a all.0 e), differ_from x ys a differ.1 all.1)

    keys : (xs : List X) → Pairwise (Differ place) xs → AllByRecursion (λ y. number (place y) ≡ Some (order y)) xs → KeysDiffer key xs
    keys [] differ all = tt
    keys (x ∷ xs) differ all = (differ_from x xs all.0 differ.0 all.1, keys xs differ.1 all.1)

  -- so where numbers are their own, keys that have them differ
  pub things-keys : (key : X → ℕ × ℕ) → ((x : X) → (key x).1 ≡ order x) → (n : ℕ) (h : Host) → AreOwn n (number_at of_client of_server h)
      → KeysDiffer key (things_of h)
  things-keys key is_key n h own = keys key is_key n (number_at of_client of_server h) own (things_of h) (things-differ h) (numbers h)

-- ---- timers, messages that arrive, messages that are sent

pub one_timer : (place : Place) (order : ℕ) (o : Option ℕ) → IsOne (λ (t : Timer). t.place) (λ t. t.order) place (Some order) (timer place order o)
one_timer place order None = tt
one_timer place order (Some at) = (refl, refl)

one_response : (id : CallId) (o : Option Incoming)
    → IsOne (λ (a : Arriving). a.place) (λ a. a.message.order) (OfClient id) (option_map (λ (p : Incoming). p.order) o) (arriving_at_client id o)
one_response id None = tt
one_response id (Some part) = (refl, refl)

one_request : (id : CallId) (state : State) → IsOne (λ (a : Arriving). a.place) (λ a. a.message.order) (OfServer id) (arriving_in state)
    (arriving_at_server id state)
one_request id (Receiving service part base count) = (refl, refl)
one_request id state = tt

one_sent : (s : Settings) (now : ℕ) (id : CallId) (r : ClientRow)
    → IsOne (λ (l : Leaving). l.place) (λ l. l.order) (OfClient id) (Some r.order) (leaving_at_client s now id r)
one_sent s now id r =
    cond_both (may_send_request s now r) _ _ (IsOne (λ (l : Leaving). l.place) (λ l. l.order) (OfClient id) (Some r.order)) (λ _. (refl, refl)) (λ _. tt)

one_reply : (id : CallId) (state : State) → IsOne (λ (l : Leaving). l.place) (λ l. l.order) (OfServer id) (leaving_in state) (leaving_at_server id state)
one_reply id (Replying response out order base count) =
    cond_both (has_waiting out) _ _ (IsOne (λ (l : Leaving). l.place) (λ l. l.order) (OfServer id) (Some order)) (λ _. (refl, refl)) (λ _. tt)
one_reply id state = tt

pub timers-differ : (s : Settings) (h : Host) → Pairwise (Differ (λ (t : Timer). t.place)) (timers s h)
timers-differ s h =
    things-differ (λ (t : Timer). t.place) (λ t. t.order) client_order server_order
    (λ e. timer (OfClient e.0) e.1.order (client_deadline s e.1)) (λ e. timer (OfServer e.0) e.1.order (server_deadline s e.1))
    (λ e. one_timer (OfClient e.0) e.1.order (client_deadline s e.1)) (λ e. one_timer (OfServer e.0) e.1.order (server_deadline s e.1)) h

pub timers-keys : (s : Settings) (h : Host) → HasOwnOrders h → KeysDiffer timer_key (timers s h)
timers-keys s h own =
    things-keys (λ (t : Timer). t.place) (λ t. t.order) client_order server_order
    (λ e. timer (OfClient e.0) e.1.order (client_deadline s e.1)) (λ e. timer (OfServer e.0) e.1.order (server_deadline s e.1))
    (λ e. one_timer (OfClient e.0) e.1.order (client_deadline s e.1)) (λ e. one_timer (OfServer e.0) e.1.order (server_deadline s e.1))
    timer_key (λ t. refl) h.order h own.rows

pub arrivals-keys : (h : Host) → HasOwnOrders h → KeysDiffer (λ a. choice_key a.message) (arrivals h)
arrivals-keys h own =
    things-keys (λ (a : Arriving). a.place) (λ a. a.message.order) response_order request_order
    (λ e. arriving_at_client e.0 e.1.part) (λ e. arriving_at_server e.0 e.1.state)
    (λ e. one_response e.0 e.1.part) (λ e. one_request e.0 e.1.state)
    (λ a. choice_key a.message) (λ a. refl) h.order h own.arriving

pub departures-keys : (s : Settings) (now : ℕ) (h : Host) → HasOwnOrders h → KeysDiffer leaving_key (departures s now h)
departures-keys s now h own =
    things-keys (λ (l : Leaving). l.place) (λ l. l.order) client_order reply_order
    (λ e. leaving_at_client s now e.0 e.1) (λ e. leaving_at_server e.0 e.1.state)
    (λ e. one_sent s now e.0 e.1) (λ e. one_reply e.0 e.1.state)
    leaving_key (λ l. refl) h.order h own.leaving
