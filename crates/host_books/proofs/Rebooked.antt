-- The books of a host where a row's slot was booked anew.
use Rattle.std.proofs.Common.{◌≡◌, ℕ, Bool, true, false, cond, Option, Some, None, [], ◌∷◌, map, refl, sym, ap, subst, ◌∙◌, ◌⊎◌, inl, inr, IfSome}
use Rattle.std.specs.List.{AllByRecursion}
use Rattle.plain_sets.specs.Maps.{get}
use Rattle.homa_plain.specs.declared.id.CallId.{CallId}
use Rattle.homa_plain.specs.Incoming.{Incoming}
use Rattle.homa_plain.specs.Outgoing.{Outgoing, has_waiting, left}
use Rattle.homa_plain.specs.Rows.{ClientRow, ServerRow, State, Receiving, Held, Replying, Buried}
use Rattle.homa_plain.specs.Timers.{Place, OfClient, OfServer, timer, client_deadline, server_deadline}
use Rattle.homa_plain.specs.Sending.{arriving_at_client, arriving_at_server}
use Rattle.homa_plain.specs.SentNext.{Leaving}
use Rattle.step_laws.specs.StepLaws.{HasOwnOrders}
use Rattle.homa_timers.specs.Armed as armed
use Rattle.homa_grants.specs.Entries as entry
use Rattle.homa_pacer.specs.Pace as pace
use Rattle.host_view.specs.Seen.{Seen, AreReady, slot_of, timer_of, entry_of, ready_of, waiting_at_server}
use Rattle.host_view.specs.Follow.{ChangesAt, has_row, client_timer, server_timer, timer_at, client_arrival, server_arrival, arrival_at}
use Rattle.host_view.specs.Follow.{client_waiting, server_waiting, waiting_at, booked}
use Rattle.host_books.specs.declared.books.Books.{Books}
use Rattle.host_books.specs.declared.books.Waiting.{Waiting}
use Rattle.host_books.specs.Duties.{timers_in, entries_in, ready_in, AreOwn, AreBooked}
use Rattle.host_books.specs.Stood.{Stood}
use Rattle.host_books.specs.Duty.{timer_duty, arrival_duty, waiting_duty, client_duty_in, server_duty_in, arriving, reply_duty, duty_at, followed}
use Rattle.host_books.proofs.Noted.{still_granted}
use Rattle.host_books.proofs.BookThings.{armed_book, armed_order, entered_book, entered_order, ready_book, ready_order}

-- ---- a row's duties are its things

timer_things : (h : Seen) (p : Place) (order : ℕ) (o : Option ℕ) → timers_in (slot_of h p) (timer_duty order o) ≡ map (timer_of h) (timer p order o)
timer_things h p order None = refl
timer_things h p order (Some at) = refl

arrival_things : (h : Seen) (id : CallId) (o : Option Incoming)
    → entries_in (slot_of h (OfClient id)) (arrival_duty o) ≡ map (entry_of h) (arriving_at_client id o)
arrival_things h id None = refl
arrival_things h id (Some part) = refl

state_arrivals : (h : Seen) (id : CallId) (state : State) → entries_in (slot_of h (OfServer id)) (arrival_duty (arriving state)) ≡ map (entry_of h)
    (arriving_at_server id state)
state_arrivals h id (Receiving service part base count) = refl
state_arrivals h id (Held response release) = refl
state_arrivals h id (Replying response out order base count) = refl
state_arrivals h id (Buried until) = refl

waiting_things : (h : Seen) (p : Place) (out : Outgoing) (order : ℕ)
    → ready_in (slot_of h p) (waiting_duty out order) ≡ map (ready_of h) (cond (has_waiting out) (record { place = p; left = left out; order = order } ∷ []) [])
waiting_things h p out order = by_test (has_waiting out) where
  by_test : (b : Bool) → ready_in (slot_of h p) (cond b (Some (record { left = left out; order = order })) None) ≡ map (ready_of h)
      (cond b (record { place = p; left = left out; order = order } ∷ []) [])
  by_test true = refl
  by_test false = refl

state_waits : (h : Seen) (id : CallId) (state : State) → ready_in (slot_of h (OfServer id)) (reply_duty state) ≡ map (ready_of h) (waiting_at_server id state)
state_waits h id (Receiving service part base count) = refl
state_waits h id (Held response release) = refl
state_waits h id (Replying response out order base count) = waiting_things h (OfServer id) out order
state_waits h id (Buried until) = refl

pub timers_duty : (h : Seen) (p : Place) → timers_in (slot_of h p) (duty_at h p).timer ≡ map (timer_of h) (timer_at h p)
timers_duty h (OfClient id) = by_row (get h.host.clients id) where
  by_row : (o : Option ClientRow) → timers_in (slot_of h (OfClient id)) (client_duty_in h.settings o).timer ≡ map (timer_of h) (client_timer h.settings id o)
  by_row None = refl
  by_row (Some r) = timer_things h (OfClient id) r.order (client_deadline h.settings r)
timers_duty h (OfServer id) = by_row (get h.host.servers id) where
  by_row : (o : Option ServerRow) → timers_in (slot_of h (OfServer id)) (server_duty_in h.settings o).timer ≡ map (timer_of h) (server_timer h.settings id o)
  by_row None = refl
  by_row (Some row) = timer_things h (OfServer id) row.order (server_deadline h.settings row)

pub arrivals_duty : (h : Seen) (p : Place) → entries_in (slot_of h p) (duty_at h p).arrival ≡ map (entry_of h) (arrival_at h p)
arrivals_duty h (OfClient id) = by_row (get h.host.clients id) where
  by_row : (o : Option ClientRow) → entries_in (slot_of h (OfClient id)) (client_duty_in h.settings o).arrival ≡ map (entry_of h) (client_arrival id o)
  by_row None = refl
  by_row (Some r) = arrival_things h id r.part
arrivals_duty h (OfServer id) = by_row (get h.host.servers id) where
  by_row : (o : Option ServerRow) → entries_in (slot_of h (OfServer id)) (server_duty_in h.settings o).arrival ≡ map (entry_of h) (server_arrival id o)
  by_row None = refl
  by_row (Some row) = state_arrivals h id row.state

pub waiting_duties : (h : Seen) (p : Place) → ready_in (slot_of h p) (duty_at h p).waiting ≡ map (ready_of h) (waiting_at h p)
waiting_duties h (OfClient id) = by_row (get h.host.clients id) where
  by_row : (o : Option ClientRow) → ready_in (slot_of h (OfClient id)) (client_duty_in h.settings o).waiting ≡ map (ready_of h) (client_waiting id o)
  by_row None = refl
  by_row (Some r) = waiting_things h (OfClient id) r.out r.order
waiting_duties h (OfServer id) = by_row (get h.host.servers id) where
  by_row : (o : Option ServerRow) → ready_in (slot_of h (OfServer id)) (server_duty_in h.settings o).waiting ≡ map (ready_of h) (server_waiting id o)
  by_row None = refl
  by_row (Some row) = state_waits h id row.state

-- a place has a row, or no duties
row_or_none : (h : Seen) (p : Place) → has_row h p ⊎ (duty_at h p ≡ record { timer = None; arrival = None; waiting = None })
row_or_none h (OfClient id) = by_row (get h.host.clients id) refl where
  by_row : (o : Option ClientRow) → get h.host.clients id ≡ o
      → has_row h (OfClient id) ⊎ (client_duty_in h.settings o ≡ record { timer = None; arrival = None; waiting = None })
  by_row None e = inr refl
  by_row (Some r) e = inl (r, e)
row_or_none h (OfServer id) = by_row (get h.host.servers id) refl where
  by_row : (o : Option ServerRow) → get h.host.servers id ≡ o
      → has_row h (OfServer id) ⊎ (server_duty_in h.settings o ≡ record { timer = None; arrival = None; waiting = None })
  by_row None e = inr refl
  by_row (Some row) e = inl (row, e)

-- ---- orders

timer_order : (P : ℕ → Type 0) (p : Place) (order : ℕ) (o : Option ℕ) → AllByRecursion (λ t. P t.order) (timer p order o)
    → IfSome (timer_duty order o) (λ d. P d.order)
timer_order P p order None all = tt
timer_order P p order (Some at) all = all.0

arrival_order : (P : ℕ → Type 0) (id : CallId) (o : Option Incoming) → AllByRecursion (λ a. P a.message.order) (arriving_at_client id o)
    → IfSome (arrival_duty o) (λ d. P d.order)
arrival_order P id None all = tt
arrival_order P id (Some part) all = all.0

state_arrival_order : (P : ℕ → Type 0) (id : CallId) (state : State) → AllByRecursion (λ a. P a.message.order) (arriving_at_server id state)
    → IfSome (arrival_duty (arriving state)) (λ d. P d.order)
state_arrival_order P id (Receiving service part base count) all = all.0
state_arrival_order P id (Held response release) all = tt
state_arrival_order P id (Replying response out order base count) all = tt
state_arrival_order P id (Buried until) all = tt

waiting_order : (P : ℕ → Type 0) (p : Place) (out : Outgoing) (order : ℕ)
    → AllByRecursion (λ (l : Leaving). P l.order) (cond (has_waiting out) (record { place = p; left = left out; order = order } ∷ []) [])
    → IfSome (waiting_duty out order) (λ d. P d.order)
waiting_order P p out order = by_test (has_waiting out) where
  by_test : (b : Bool) → AllByRecursion (λ (l : Leaving). P l.order) (cond b (record { place = p; left = left out; order = order } ∷ []) [])
      → IfSome (cond b (Some (record { left = left out; order = order })) None) (λ (d : Waiting). P d.order)
  by_test true all = all.0
  by_test false all = tt

state_waiting_order : (P : ℕ → Type 0) (id : CallId) (state : State) → AllByRecursion (λ (l : Leaving). P l.order) (waiting_at_server id state)
    → IfSome (reply_duty state) (λ d. P d.order)
state_waiting_order P id (Receiving service part base count) all = tt
state_waiting_order P id (Held response release) all = tt
state_waiting_order P id (Replying response out order base count) all = waiting_order P (OfServer id) out order all
state_waiting_order P id (Buried until) all = tt

-- what holds of the order of a row's thing in a book holds of that of its duty
timer_at_order : (P : ℕ → Type 0) (h : Seen) (p : Place) → AllByRecursion (λ t. P t.order) (timer_at h p) → IfSome (duty_at h p).timer (λ d. P d.order)
timer_at_order P h (OfClient id) = by_row (get h.host.clients id) where
  by_row : (o : Option ClientRow) → AllByRecursion (λ t. P t.order) (client_timer h.settings id o) → IfSome (client_duty_in h.settings o).timer (λ d. P d.order)
  by_row None all = tt
  by_row (Some r) all = timer_order P (OfClient id) r.order (client_deadline h.settings r) all
timer_at_order P h (OfServer id) = by_row (get h.host.servers id) where
  by_row : (o : Option ServerRow) → AllByRecursion (λ t. P t.order) (server_timer h.settings id o) → IfSome (server_duty_in h.settings o).timer (λ d. P d.order)
  by_row None all = tt
  by_row (Some row) all = timer_order P (OfServer id) row.order (server_deadline h.settings row) all

arrival_at_order : (P : ℕ → Type 0) (h : Seen) (p : Place) → AllByRecursion (λ a. P a.message.order) (arrival_at h p)
    → IfSome (duty_at h p).arrival (λ d. P d.order)
arrival_at_order P h (OfClient id) = by_row (get h.host.clients id) where
  by_row : (o : Option ClientRow) → AllByRecursion (λ a. P a.message.order) (client_arrival id o)
      → IfSome (client_duty_in h.settings o).arrival (λ d. P d.order)
  by_row None all = tt
  by_row (Some r) all = arrival_order P id r.part all
arrival_at_order P h (OfServer id) = by_row (get h.host.servers id) where
  by_row : (o : Option ServerRow) → AllByRecursion (λ a. P a.message.order) (server_arrival id o)
      → IfSome (server_duty_in h.settings o).arrival (λ d. P d.order)
  by_row None all = tt
  by_row (Some row) all = state_arrival_order P id row.state all

waiting_at_order : (P : ℕ → Type 0) (h : Seen) (p : Place) → AllByRecursion (λ l. P l.order) (waiting_at h p) → IfSome (duty_at h p).waiting (λ d. P d.order)
waiting_at_order P h (OfClient id) = by_row (get h.host.clients id) where
  by_row : (o : Option ClientRow) → AllByRecursion (λ (l : Leaving). P l.order) (client_waiting id o)
      → IfSome (client_duty_in h.settings o).waiting (λ d. P d.order)
  by_row None all = tt
  by_row (Some r) all = waiting_order P (OfClient id) r.out r.order all
waiting_at_order P h (OfServer id) = by_row (get h.host.servers id) where
  by_row : (o : Option ServerRow) → AllByRecursion (λ (l : Leaving). P l.order) (server_waiting id o)
      → IfSome (server_duty_in h.settings o).waiting (λ d. P d.order)
  by_row None all = tt
  by_row (Some row) all = state_waiting_order P id row.state all

-- ---- the books anew

module _ (place : Place) (n : ℕ) (old new : Seen) (change : ChangesAt place n old new) where
  -- a slot's things are those of the row, which has this slot where it stands
  timers_here : timers_in n (duty_at new place).timer ≡ map (timer_of new) (timer_at new place)
  timers_here = elim (row_or_none new place) [
    | inl row ↦ ap (λ m. timers_in m (duty_at new place).timer) (sym (change.after row)) ∙ timers_duty new place
    | inr none ↦ ap (λ d. timers_in n d.timer) none ∙ sym (ap (λ d. timers_in (slot_of new place) d.timer) none) ∙ timers_duty new place
  ]

  entries_here : entries_in n (duty_at new place).arrival ≡ map (entry_of new) (arrival_at new place)
  entries_here = elim (row_or_none new place) [
    | inl row ↦ ap (λ m. entries_in m (duty_at new place).arrival) (sym (change.after row)) ∙ arrivals_duty new place
    | inr none ↦ ap (λ d. entries_in n d.arrival) none ∙ sym (ap (λ d. entries_in (slot_of new place) d.arrival) none) ∙ arrivals_duty new place
  ]

  ready_here : ready_in n (duty_at new place).waiting ≡ map (ready_of new) (waiting_at new place)
  ready_here = elim (row_or_none new place) [
    | inl row ↦ ap (λ m. ready_in m (duty_at new place).waiting) (sym (change.after row)) ∙ waiting_duties new place
    | inr none ↦ ap (λ d. ready_in n d.waiting) none ∙ sym (ap (λ d. ready_in (slot_of new place) d.waiting) none) ∙ waiting_duties new place
  ]

  module _ (stood : Stood place old new) (own : HasOwnOrders new.host) (b : Books) (are : AreBooked old b) where
    pub rebooked_own : AreOwn b n (duty_at new place)
    rebooked_own = record {
      timer = timer_at_order (λ o. armed.IsOwnOrder n o b.timers.timers) new place (armed_order place n old new change stood b.timers.timers own are.armed);
      arrival =
          arrival_at_order (λ o. entry.IsOwnOrder n o b.grants.entries) new place (entered_order place n old new change stood b.grants.entries own are.entered);
      waiting = waiting_at_order (λ o. pace.IsOwnOrder n o b.pacer.ready) new place (ready_order place n old new change stood b.pacer.ready own are.ready);
    }

    pub rebooked : AreBooked new (followed n (duty_at new place) b)
    rebooked = record {
      armed = ap (λ ts. booked armed.timer_key (λ (t : armed.Timer). t.slot) n ts b.timers.timers) timers_here
          ∙ armed_book place n old new change stood b.timers.timers own are.armed;
      entered = ap (λ es. booked entry.entry_key (λ (e : entry.Entry). e.slot) n es b.grants.entries) entries_here
          ∙ entered_book place n old new change stood b.grants.entries own are.entered;
      ready = subst (λ rs. AreReady new (booked pace.ready_key (λ (r : pace.Ready). r.slot) n rs b.pacer.ready)) (sym ready_here)
          (ready_book place n old new change stood b.pacer.ready are.ready);
      granted = still_granted place n old new change stood b are.entered are.granted (duty_at new place).arrival entries_here;
    }
