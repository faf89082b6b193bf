-- What each of the three books holds of a row.
use Rattle.std.proofs.Common.{◌≡◌, ℕ, Bool, true, false, cond, List, [], ◌∷◌, ◌++◌, map, refl, sym, ap, subst, ◌∙◌, inl, inr, Option, Some, None}
use Rattle.std.specs.Prelude.{◌&&◌, ◌-◌}
use Rattle.std.specs.List.{AllByRecursion, Contains}
use Rattle.std.specs.Option.{option_map}
use Rattle.std.proofs.lemmas.List.Elements.{Contains-append_left, Contains-append_right, Contains-append_cases}
use Rattle.plain_sets.specs.Maps.{get}
use Rattle.plain_sets.specs.Ordered.{ordered, placed}
use Rattle.plain_sets.proofs.OrderLaws.{ordered-all, placed-all, all_weaker}
use Rattle.plain_sets.proofs.OrderSame.{all_at, none_in, at_head}
use Rattle.plain_sets.proofs.OrderFirst.{all_from}
use Rattle.homa_plain.specs.declared.id.CallId.{CallId}
use Rattle.homa_plain.specs.declared.settings.Settings.{Settings}
use Rattle.homa_plain.specs.Grants.{choice_key}
use Rattle.homa_plain.specs.Incoming.{Incoming}
use Rattle.homa_plain.specs.Outgoing.{has_waiting, left}
use Rattle.homa_plain.specs.Rows.{ClientRow, ServerRow, State, Receiving, Held, Replying, Buried}
use Rattle.homa_plain.specs.Host.{Host}
use Rattle.homa_plain.specs.Timers.{Place, OfClient, OfServer, Timer, timer_key, timers, client_deadline, server_deadline}
use Rattle.homa_plain.specs.Sending.{Arriving, arriving_at_client, arriving_at_server, arrivals}
use Rattle.homa_plain.specs.SentNext.{Leaving, may_send_request, leaving_at_client}
use Rattle.homa_plain.specs.SentNext.{leaving_at_server, departures}
use Rattle.step_laws.specs.StepLaws.{client_order, server_order, response_order, request_order, reply_order, arriving_in, leaving_in, HasOwnOrders}
use Rattle.step_laws.proofs.Places.{IsOne, one_timer, timers-keys, arrivals-keys}
use Rattle.homa_timers.specs.Armed as armed
use Rattle.homa_grants.specs.Entries as entry
use Rattle.homa_pacer.specs.Pace as pace
use Rattle.host_view.specs.Seen.{Seen, slot_of, timer_of, entry_of, ready_of, AreArmed, AreEntered, AreReady, waiting_at_server, waiting}
use Rattle.host_view.specs.Follow.{ChangesAt, booked, client_timer, server_timer, timer_at, client_arrival, server_arrival, arrival_at}
use Rattle.host_view.specs.Follow.{client_waiting, server_waiting, waiting_at, armed_anew, entered_anew, readied_anew}
use Rattle.host_view.proofs.ByBook.{differ-map}
use Rattle.host_books.specs.Stood.{Stood}
use Rattle.host_books.proofs.Splits.{ThingsOf, at, Split}
use Rattle.host_books.proofs.Slots.{at_one}
use Rattle.host_books.proofs.Follows.{all_map, without, without_holds, without_keeps, placed_here, placed_keeps, parts, IsOther, front_others}
use Rattle.host_books.proofs.Follows.{back_others, own_slot, follows, own_order}

-- ---- what a row has in each book

abbrev pub timer_things : Settings → ThingsOf Timer
timer_things s = record {
  place = λ t. t.place;
  order = λ t. t.order;
  of_client = client_order;
  of_server = server_order;
  client_at = client_timer s;
  server_at = server_timer s;
  no_client = λ id. refl;
  no_server = λ id. refl;
  one_client = λ id r. one_timer (OfClient id) r.order (client_deadline s r);
  one_server = λ id r. one_timer (OfServer id) r.order (server_deadline s r);
}

pub one_response : (id : CallId) (o : Option Incoming)
    → IsOne (λ (a : Arriving). a.place) (λ a. a.message.order) (OfClient id) (option_map (λ (p : Incoming). p.order) o) (arriving_at_client id o)
one_response id None = tt
one_response id (Some part) = (refl, refl)

pub one_request : (id : CallId) (state : State) → IsOne (λ (a : Arriving). a.place) (λ a. a.message.order) (OfServer id) (arriving_in state)
    (arriving_at_server id state)
one_request id (Receiving service part base count) = (refl, refl)
one_request id state = tt

abbrev pub arrival_things : ThingsOf Arriving
arrival_things = record {
  place = λ a. a.place;
  order = λ a. a.message.order;
  of_client = response_order;
  of_server = request_order;
  client_at = client_arrival;
  server_at = server_arrival;
  no_client = λ id. refl;
  no_server = λ id. refl;
  one_client = λ id r. one_response id r.part;
  one_server = λ id row. one_request id row.state;
}

-- a choice of one message of a row, or none
pub one_if : (b : Bool) (p : Place) (n order : ℕ)
    → IsOne (λ (l : Leaving). l.place) (λ l. l.order) p (Some order) (cond b (record { place = p; left = n; order = order } ∷ []) [])
one_if true p n order = (refl, refl)
one_if false p n order = tt

pub one_reply : (id : CallId) (state : State) → IsOne (λ (l : Leaving). l.place) (λ l. l.order) (OfServer id) (leaving_in state) (waiting_at_server id state)
one_reply id (Replying response out order base count) = one_if (has_waiting out) (OfServer id) (left out) order
one_reply id state = tt

abbrev pub waiting_things : ThingsOf Leaving
waiting_things = record {
  place = λ l. l.place;
  order = λ l. l.order;
  of_client = client_order;
  of_server = reply_order;
  client_at = client_waiting;
  server_at = server_waiting;
  no_client = λ id. refl;
  no_server = λ id. refl;
  one_client = λ id r. one_if (has_waiting r.out) (OfClient id) (left r.out) r.order;
  one_server = λ id row. one_reply id row.state;
}

-- what may be sent now is less
abbrev pub client_leaving : Settings → ℕ → CallId → Option ClientRow → List Leaving
client_leaving s now id None = []
client_leaving s now id (Some r) = leaving_at_client s now id r

abbrev pub server_leaving : CallId → Option ServerRow → List Leaving
server_leaving id None = []
server_leaving id (Some row) = leaving_at_server id row.state

pub one_left : (id : CallId) (state : State) → IsOne (λ (l : Leaving). l.place) (λ l. l.order) (OfServer id) (leaving_in state) (leaving_at_server id state)
one_left id (Replying response out order base count) = one_if (has_waiting out) (OfServer id) (left out) order
one_left id state = tt

abbrev pub leaving_things : Settings → ℕ → ThingsOf Leaving
leaving_things s now = record {
  place = λ l. l.place;
  order = λ l. l.order;
  of_client = client_order;
  of_server = reply_order;
  client_at = client_leaving s now;
  server_at = server_leaving;
  no_client = λ id. refl;
  no_server = λ id. refl;
  one_client = λ id r. one_if (may_send_request s now r) (OfClient id) (left r.out) r.order;
  one_server = λ id row. one_left id row.state;
}

sent_waits : (a b : Bool) (l z : Leaving) → Contains (cond (a && b) (l ∷ []) []) z → Contains (cond a (l ∷ []) []) z
sent_waits true true l z c = c
sent_waits true false l z c = absurd (none_in z c)
sent_waits false b l z c = c

left_waits : (id : CallId) (state : State) (z : Leaving) → Contains (leaving_at_server id state) z → Contains (waiting_at_server id state) z
left_waits id (Replying response out order base count) z c = c
left_waits id (Receiving service part base count) z c = c
left_waits id (Held response release) z c = c
left_waits id (Buried until) z c = c

-- what a row may send waits
leaving_waits : (s : Settings) (now : ℕ) (h : Host) (p : Place) (z : Leaving) → Contains (at (leaving_things s now) h p) z → Contains (at waiting_things h p) z
leaving_waits s now h (OfClient id) z = by_row (get h.clients id) where
  by_row : (o : Option ClientRow) → Contains (client_leaving s now id o) z → Contains (client_waiting id o) z
  by_row None c = c
  by_row (Some r) c = sent_waits (has_waiting r.out) _ _ z c
leaving_waits s now h (OfServer id) z = by_row (get h.servers id) where
  by_row : (o : Option ServerRow) → Contains (server_leaving id o) z → Contains (server_waiting id o) z
  by_row None c = c
  by_row (Some row) c = left_waits id row.state z c

-- an entry depends on the slot alone
pub same_entry : (g h : Seen) (x : Arriving) → slot_of g x.place ≡ slot_of h x.place → entry_of g x ≡ entry_of h x
same_entry g h x e = λ i. record { slot = e i; peer = x.message.peer.0; remaining = x.message.length - x.message.arrived; order = x.message.order }

same_ready : (g h : Seen) (x : Leaving) → slot_of g x.place ≡ slot_of h x.place → ready_of g x ≡ ready_of h x
same_ready g h x e = λ i. record { slot = e i; left = x.left; order = x.order }

same_timer : (g h : Seen) (x : Timer) → slot_of g x.place ≡ slot_of h x.place → timer_of g x ≡ timer_of h x
same_timer g h x e = λ i. record { slot = e i; at = x.at; order = x.order }

-- ---- after a change of one row

module _ (place : Place) (n : ℕ) (old new : Seen) (change : ChangesAt place n old new) (stood : Stood place old new) where
  abbrev s : Settings
  s = new.settings

  -- the timers
  timers_were : timers old.settings old.host ≡ timers s old.host
  timers_were = ap (λ (c : Settings). timers c old.host) (sym change.settings)

  pub armed_book : (book : List armed.Timer) → HasOwnOrders new.host → AreArmed old book → AreArmed new (armed_anew new place n book)
  armed_book book own are =
      shown place (follows (timer_things s) (λ (y : armed.Timer). y.slot) timer_of (λ h x. refl) same_timer place n old new change stood
      armed.timer_key book (differ-map timer_key armed.timer_key (timer_of new) (λ x. refl) (timers s new.host) (timers-keys s new.host own))
      (are ∙ ap (λ ts. ordered armed.timer_key (map (timer_of old) ts)) timers_were)) where
        shown : (p : Place) → booked armed.timer_key (λ (t : armed.Timer). t.slot) n (map (timer_of new) (at (timer_things s) new.host p)) book
            ≡ ordered armed.timer_key (map (timer_of new) (timers s new.host))
            → armed_anew new p n book ≡ ordered armed.timer_key (map (timer_of new) (timers s new.host))
        shown (OfClient id) e = e
        shown (OfServer id) e = e

  pub armed_order : (book : List armed.Timer) → HasOwnOrders new.host → AreArmed old book
      → AllByRecursion (λ t. armed.IsOwnOrder n t.order book) (timer_at new place)
  armed_order book own are =
      shown place (all_weaker _ (λ (x : Timer). armed.IsOwnOrder n x.order book) (λ x all.
      subst (armed.IsOwnOrder n x.order) (sym (are ∙ ap (λ ts. ordered armed.timer_key (map (timer_of old) ts)) timers_were))
      (ordered-all armed.timer_key (λ (t : armed.Timer). t.order ≡ x.order → t.slot ≡ n) (map (timer_of old) (timers s old.host))
      (all_map (λ (t : armed.Timer). t.order ≡ x.order → t.slot ≡ n) (timer_of old) (timers s old.host) all)))
      (at (timer_things s) new.host place)
      (own_order (timer_things s) (λ (y : armed.Timer). y.slot) timer_of (λ h x. refl) same_timer place n old new change stood new.host.order own.rows)) where
        shown : (p : Place) → AllByRecursion (λ (t : Timer). armed.IsOwnOrder n t.order book) (at (timer_things s) new.host p)
            → AllByRecursion (λ t. armed.IsOwnOrder n t.order book) (timer_at new p)
        shown (OfClient id) e = e
        shown (OfServer id) e = e

  -- the messages that arrive
  pub entered_book : (book : List entry.Entry) → HasOwnOrders new.host → AreEntered old book → AreEntered new (entered_anew new place n book)
  entered_book book own are =
      shown place (follows arrival_things (λ (y : entry.Entry). y.slot) entry_of (λ h x. refl) same_entry place n old new change stood
      entry.entry_key book
      (differ-map (λ (a : Arriving). choice_key a.message) entry.entry_key (entry_of new) (λ x. refl) (arrivals new.host)
      (arrivals-keys new.host own)) are) where
        shown : (p : Place) → booked entry.entry_key (λ (e : entry.Entry). e.slot) n (map (entry_of new) (at arrival_things new.host p)) book
            ≡ ordered entry.entry_key (map (entry_of new) (arrivals new.host))
            → entered_anew new p n book ≡ ordered entry.entry_key (map (entry_of new) (arrivals new.host))
        shown (OfClient id) e = e
        shown (OfServer id) e = e

  pub entered_order : (book : List entry.Entry) → HasOwnOrders new.host → AreEntered old book
      → AllByRecursion (λ a. entry.IsOwnOrder n a.message.order book) (arrival_at new place)
  entered_order book own are =
      shown place (all_weaker _ (λ (x : Arriving). entry.IsOwnOrder n x.message.order book) (λ x all.
      subst (entry.IsOwnOrder n x.message.order) (sym are)
      (ordered-all entry.entry_key (λ (e : entry.Entry). e.order ≡ x.message.order → e.slot ≡ n) (map (entry_of old) (arrivals old.host))
      (all_map (λ (e : entry.Entry). e.order ≡ x.message.order → e.slot ≡ n) (entry_of old) (arrivals old.host) all)))
      (at arrival_things new.host place)
      (own_order arrival_things (λ (y : entry.Entry). y.slot) entry_of (λ h x. refl) same_entry place n old new change stood new.host.order own.arriving)) where
        shown : (p : Place) → AllByRecursion (λ (a : Arriving). entry.IsOwnOrder n a.message.order book) (at arrival_things new.host p)
            → AllByRecursion (λ a. entry.IsOwnOrder n a.message.order book) (arrival_at new p)
        shown (OfClient id) e = e
        shown (OfServer id) e = e

  -- the messages that are sent
  ready_slot : (h : Seen) (x : Leaving) → (ready_of h x).slot ≡ slot_of h x.place
  ready_slot h x = refl

  abbrev shown_at : Place → List Leaving
  shown_at p = at waiting_things new.host p

  same_at : (p : Place) → waiting_at new p ≡ at waiting_things new.host p
  same_at (OfClient id) = refl
  same_at (OfServer id) = refl

  pub ready_order : (book : List pace.Ready) → HasOwnOrders new.host → AreReady old book
      → AllByRecursion (λ l. pace.IsOwnOrder n l.order book) (waiting_at new place)
  ready_order book own are =
      subst (AllByRecursion (λ (l : Leaving). pace.IsOwnOrder n l.order book)) (sym (same_at place))
      (all_weaker _ (λ (x : Leaving). pace.IsOwnOrder n x.order book) (λ x all.
      all_from (λ (r : pace.Ready). r.order ≡ x.order → r.slot ≡ n) book (λ r c.
      let l = are.only r c in
      λ e. ap (λ (y : pace.Ready). y.slot) l.2 ∙ all_at (λ (z : Leaving). z.order ≡ x.order → slot_of old z.place ≡ n) (waiting old.host) l.0 all l.1
      (sym (ap (λ (y : pace.Ready). y.order) l.2) ∙ e)))
      (at waiting_things new.host place)
      (own_order waiting_things (λ (y : pace.Ready). y.slot) ready_of ready_slot same_ready place n old new change stood new.host.order own.leaving))

  -- each message that may be sent is in the book
  abbrev rebooked : List pace.Ready → List pace.Ready
  rebooked book = booked pace.ready_key (λ (r : pace.Ready). r.slot) n (map (ready_of new) (at waiting_things new.host place)) book

  -- one that was in the book and is of another slot still is, and so is that of the row
  keeps : (xs : List Leaving) (book : List pace.Ready) (r : pace.Ready) → (r.slot ≡ n → ⊥) → Contains book r
      → Contains (booked pace.ready_key (λ (r : pace.Ready). r.slot) n (map (ready_of new) xs) book) r
  keeps [] book r ne c = without_keeps (λ (r : pace.Ready). r.slot) n book r ne c
  keeps (x ∷ xs) book r ne c =
      placed_keeps pace.ready_key (ready_of new x) (without (λ (r : pace.Ready). r.slot) n book) r (without_keeps (λ (r : pace.Ready). r.slot) n book r ne c)

  brings : (xs : List Leaving) (p : Place) (number : Option ℕ) (book : List pace.Ready) (l : Leaving)
      → IsOne (λ (l : Leaving). l.place) (λ l. l.order) p number xs → Contains xs l
      → Contains (booked pace.ready_key (λ (r : pace.Ready). r.slot) n (map (ready_of new) xs) book) (ready_of new l)
  brings [] p number book l one c = absurd (none_in l c)
  brings (x ∷ []) p number book l one c = elim (at_head x l [] c) [
    | inl is ↦ subst (λ (z : Leaving). Contains (placed pace.ready_key (ready_of new x) (without (λ (r : pace.Ready). r.slot) n book))
        (ready_of new z)) is (placed_here pace.ready_key (ready_of new x) (without (λ (r : pace.Ready). r.slot) n book))
    | inr none ↦ absurd (none_in l none)
  ]
  brings (x ∷ y ∷ xs) p number book l one c = absurd one

  departures_are : departures new.settings new.host.last old.host ≡ departures old.settings old.host.last old.host
  departures_are = λ i. departures (change.settings i) (change.last i) old.host

  module _ (book : List pace.Ready) (are : AreReady old book) where
    abbrev sent : ThingsOf Leaving
    sent = leaving_things s new.host.last

    abbrev split_sent : Split sent place old.host new.host
    split_sent = parts sent (λ (y : pace.Ready). y.slot) ready_of ready_slot same_ready place n old new change stood

    -- a message of another row is in the book as before
    other_ready : (l : Leaving) → Contains (departures s new.host.last old.host) l
        → IsOther sent (λ (y : pace.Ready). y.slot) ready_of ready_slot same_ready place n old new change stood l → Contains (rebooked book) (ready_of new l)
    other_ready l c other =
        let was : Contains book (ready_of old l) = are.all l (subst (λ (ls : List Leaving). Contains ls l) departures_are c) in
        subst (Contains (rebooked book)) (sym other.2) (keeps (at waiting_things new.host place) book (ready_of old l) other.1 was)

    all_ready : (l : Leaving) → Contains (departures s new.host.last new.host) l → Contains (rebooked book) (ready_of new l)
    all_ready l c =
        let p = split_sent in
        elim (Contains-append_cases p.front (at sent new.host place ++ p.back) l (subst (λ (ls : List Leaving). Contains ls l) p.new c)) [
          | inl a ↦ other_ready l (subst (λ (ls : List Leaving). Contains ls l) (sym p.old) (Contains-append_left p.front _ l a))
              (all_at _ p.front l (front_others sent (λ (y : pace.Ready). y.slot) ready_of ready_slot same_ready place n old new change stood) a)
          | inr rest ↦ elim (Contains-append_cases (at sent new.host place) p.back l rest) [
            | inl a ↦ brings (at waiting_things new.host place) place _ book l (at_one waiting_things new.host place)
                (leaving_waits s new.host.last new.host place l a)
            | inr a ↦ other_ready l
                (subst (λ (ls : List Leaving). Contains ls l) (sym p.old)
                (Contains-append_right p.front _ l (Contains-append_right (at sent old.host place) p.back l a)))
                (all_at _ p.back l (back_others sent (λ (y : pace.Ready). y.slot) ready_of ready_slot same_ready place n old new change stood) a)
          ]
        ]

    -- each message in the book waits
    abbrev Waits : pace.Ready → Type 0
    Waits r = (l : Leaving) × Contains (waiting new.host) l × (r ≡ ready_of new l)

    abbrev split_waiting : Split waiting_things place old.host new.host
    split_waiting = parts waiting_things (λ (y : pace.Ready). y.slot) ready_of ready_slot same_ready place n old new change stood

    still_waits : (r : pace.Ready) → Contains book r → (r.slot ≡ n → ⊥) → Waits r
    still_waits r c ne =
        let p = split_waiting in
        let l = are.only r c in
        elim (Contains-append_cases p.front (at waiting_things old.host place ++ p.back) l.0 (subst (λ (ls : List Leaving). Contains ls l.0) p.old l.1)) [
          | inl a ↦
              let other = all_at _ p.front l.0
              (front_others waiting_things (λ (y : pace.Ready). y.slot) ready_of ready_slot same_ready place n old new change stood) a in
              (l.0, subst (λ (ls : List Leaving). Contains ls l.0) (sym p.new) (Contains-append_left p.front _ l.0 a), l.2 ∙ sym other.2)
          | inr rest ↦ elim (Contains-append_cases (at waiting_things old.host place) p.back l.0 rest) [
            | inl a ↦
                absurd (ne (ap (λ (y : pace.Ready). y.slot) l.2
                ∙ all_at (λ (z : Leaving). slot_of old z.place ≡ n) (at waiting_things old.host place) l.0
                (own_slot waiting_things (λ (y : pace.Ready). y.slot) ready_of ready_slot same_ready place n old new change stood) a))
            | inr a ↦
                let other = all_at _ p.back l.0
                (back_others waiting_things (λ (y : pace.Ready). y.slot) ready_of ready_slot same_ready place n old new change stood) a in (
                  l.0,
                  subst (λ (ls : List Leaving). Contains ls l.0) (sym p.new)
                      (Contains-append_right p.front _ l.0 (Contains-append_right (at waiting_things new.host place) p.back l.0 a)),
                  l.2 ∙ sym other.2,
                )
          ]
        ]

    all_wait : (xs : List Leaving) → AllByRecursion (λ l. Contains (waiting new.host) l) xs
        → AllByRecursion Waits (booked pace.ready_key (λ (r : pace.Ready). r.slot) n (map (ready_of new) xs) book)
    all_wait [] all = without_holds (λ (r : pace.Ready). r.slot) n Waits book (all_from (λ (r : pace.Ready). (r.slot ≡ n → ⊥) → Waits r) book still_waits)
    all_wait (x ∷ xs) all =
        placed-all pace.ready_key Waits (ready_of new x) (without (λ (r : pace.Ready). r.slot) n book) (x, all.0, refl)
        (without_holds (λ (r : pace.Ready). r.slot) n Waits book (all_from (λ (r : pace.Ready). (r.slot ≡ n → ⊥) → Waits r) book still_waits))

    new_waits : AllByRecursion (λ l. Contains (waiting new.host) l) (at waiting_things new.host place)
    new_waits =
        all_from (λ (l : Leaving). Contains (waiting new.host) l) (at waiting_things new.host place) (λ l c.
        let p = split_waiting in
        subst (λ (ls : List Leaving). Contains ls l) (sym p.new)
        (Contains-append_right p.front _ l (Contains-append_left (at waiting_things new.host place) p.back l c)))

    pub ready_book : AreReady new (readied_anew new place n book)
    ready_book =
        subst (λ (ls : List Leaving). AreReady new (booked pace.ready_key (λ (r : pace.Ready). r.slot) n (map (ready_of new) ls) book)) (sym (same_at place))
        (record { all = all_ready; only = λ r c. all_at Waits (rebooked book) r (all_wait (at waiting_things new.host place) new_waits) c })
