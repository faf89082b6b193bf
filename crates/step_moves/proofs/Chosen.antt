-- What a step chooses stands: the row of a timer that is due, of a message that is granted to, and of one that is sent.
use Rattle.std.proofs.Common.{◌≡◌, ℕ, zero, suc, ◌≤◌, ◌<◌, Bool, true, false, cond, Option, Some, None, List, [], ◌∷◌, ◌++◌, refl, arith}
use Rattle.std.specs.Prelude.{Contains, nat_lt, slice_get, ◌-◌}
use Rattle.std.specs.List.{AllByRecursion, flat_map}
use Rattle.std.proofs.lemmas.Bool.{cond_both}
use Rattle.plain_sets.specs.Maps.{get, entries}
use Rattle.plain_sets.specs.Ordered.{first_of, ordered, SendersDiffer}
use Rattle.plain_sets.proofs.MapMembers.{get-entry}
use Rattle.plain_sets.proofs.OrderFirst.{all_from}
use Rattle.plain_sets.proofs.OrderLaws.{ordered-all}
use Rattle.plain_sets.proofs.OrderSame.{all_at, there}
use Rattle.homa_plain.specs.declared.id.CallId.{CallId}
use Rattle.homa_plain.specs.declared.settings.Settings.{Settings}
use Rattle.homa_plain.specs.Grants.{Message, Granted, seen, sender, new_end, chosen, grants, grants_from, choice_key}
use Rattle.homa_plain.specs.SentNext.{least}
use Rattle.homa_plain.specs.Timers.{due}
use Rattle.homa_plain.specs.Incoming.{Incoming}
use Rattle.homa_plain.specs.Outgoing.{Outgoing, has_waiting}
use Rattle.homa_plain.specs.Rows.{ClientRow, ServerRow, State, Receiving, Replying, RowsOf}
use Rattle.homa_plain.specs.Host.{Host}
use Rattle.homa_plain.specs.Timers.{Place, OfClient, OfServer, Timer, timer_key, timer, timers, client_deadline, server_deadline}
use Rattle.homa_plain.specs.Sending.{Arriving, arriving_at_client, arriving_at_server, arrivals}
use Rattle.homa_plain.specs.SentNext.{Leaving, leaving_key, may_send_request}
use Rattle.homa_plain.specs.SentNext.{leaving_at_client, leaving_at_server, departures}
use Rattle.homa_plain.proofs.CallOrder.{call_total, call_same}
use Rattle.homa_plain.proofs.ChoiceLaws.{deadline-due, chosen-contains, differ-chosen, grant-chosen}
use Rattle.step_laws.proofs.Places.{all-append}
use Rattle.step_moves.proofs.Hosts.{none_some, some_is}

-- ---- the row at a place

-- with this deadline
abbrev pub IsTimerAt : Settings → Host → ℕ → Place → Type 0
IsTimerAt s h at (OfClient id) = (r : ClientRow) × (get h.clients id ≡ Some r) × (client_deadline s r ≡ Some at)
IsTimerAt s h at (OfServer id) = (row : ServerRow) × (get h.servers id ≡ Some row) × (server_deadline s row ≡ Some at)

-- a request that arrives
pub record IsReceiving (h : Host) (id : CallId) (m : Message) : Type 0 where
  pub row : ServerRow
  pub service : ℕ
  pub part : Incoming
  pub base : ℕ
  pub count : ℕ
  pub stands : get h.servers id ≡ Some row
  pub state : row.state ≡ Receiving service part base count
  pub message : m ≡ seen part

-- a response that arrives
pub record IsAwaiting (h : Host) (id : CallId) (m : Message) : Type 0 where
  pub row : ClientRow
  pub part : Incoming
  pub stands : get h.clients id ≡ Some row
  pub has : row.part ≡ Some part
  pub message : m ≡ seen part

abbrev pub IsArrivingAt : Host → Message → Place → Type 0
IsArrivingAt h m (OfClient id) = IsAwaiting h id m
IsArrivingAt h m (OfServer id) = IsReceiving h id m

-- a response of which bytes wait
pub record IsWaiting (h : Host) (id : CallId) : Type 0 where
  pub row : ServerRow
  pub response : List ℕ
  pub out : Outgoing
  pub order : ℕ
  pub base : ℕ
  pub count : ℕ
  pub stands : get h.servers id ≡ Some row
  pub state : row.state ≡ Replying response out order base count
  pub waits : has_waiting out ≡ true

-- a message that may be sent
abbrev pub IsLeavingAt : Settings → ℕ → Host → Place → Type 0
IsLeavingAt s now h (OfClient id) = (r : ClientRow) × (get h.clients id ≡ Some r) × (may_send_request s now r ≡ true)
IsLeavingAt s now h (OfServer id) = IsWaiting h id

-- ---- things of rows

-- what holds of the things of each entry
all_flat : {X Y : Type 0} (make : Y → List X) (P : X → Type 0) (es : List Y) → AllByRecursion (λ e. AllByRecursion P (make e)) es
    → AllByRecursion P (flat_map make es)
all_flat make P [] all = tt
all_flat make P (e ∷ es) all = all-append P (make e) (flat_map make es) all.0 (all_flat make P es all.1)

-- what holds of the things of each row
all_rows : {R X : Type 0} (make : CallId × R → List X) (P : X → Type 0) (rows : RowsOf R)
    → ((id : CallId) (r : R) → get rows id ≡ Some r → AllByRecursion P (make (id, r))) → AllByRecursion P (flat_map make (entries rows))
all_rows {R} make P rows each =
    all_flat make P (entries rows)
    (all_from (λ (e : CallId × R). AllByRecursion P (make e)) (entries rows) (λ e c. each e.0 e.1 (get-entry call_total call_same rows e.0 e.1 c)))

first_contained : {X : Type 0} (x : X) (xs : List X) → first_of xs ≡ Some x → Contains xs x
first_contained x [] e = absurd (none_some x e)
first_contained x (y ∷ ys) e = (0, omega arith, some_is y x e)

-- ---- timers

module _ (s : Settings) (h : Host) where
  abbrev StandsTimer : Timer → Type 0
  StandsTimer t = IsTimerAt s h t.at t.place

  client_timer : (id : CallId) (r : ClientRow) (o : Option ℕ) → get h.clients id ≡ Some r → client_deadline s r ≡ o
      → AllByRecursion StandsTimer (timer (OfClient id) r.order o)
  client_timer id r None at e = tt
  client_timer id r (Some n) at e = ((r, at, e), tt)

  server_timer : (id : CallId) (r : ServerRow) (o : Option ℕ) → get h.servers id ≡ Some r → server_deadline s r ≡ o
      → AllByRecursion StandsTimer (timer (OfServer id) r.order o)
  server_timer id r None at e = tt
  server_timer id r (Some n) at e = ((r, at, e), tt)

  timers_stand : AllByRecursion StandsTimer (timers s h)
  timers_stand =
      all-append StandsTimer (flat_map (λ (e : CallId × ClientRow). timer (OfClient e.0) e.1.order (client_deadline s e.1)) (entries h.clients))
      (flat_map (λ (e : CallId × ServerRow). timer (OfServer e.0) e.1.order (server_deadline s e.1)) (entries h.servers))
      (all_rows (λ (e : CallId × ClientRow). timer (OfClient e.0) e.1.order (client_deadline s e.1)) StandsTimer h.clients
      (λ id r at. client_timer id r (client_deadline s r) at refl))
      (all_rows (λ (e : CallId × ServerRow). timer (OfServer e.0) e.1.order (server_deadline s e.1)) StandsTimer h.servers
      (λ id r at. server_timer id r (server_deadline s r) at refl))

  -- the first row that is due stands, and its deadline has come
  pub first_due_stands : (now : ℕ) (t : Timer) → first_of (due timer_key now (timers s h)) ≡ Some t → IsTimerAt s h t.at t.place × (t.at ≤ now)
  first_due_stands now t e =
      let c = deadline-due timer_key now (timers s h) t (first_contained t (due timer_key now (timers s h)) e) in
      (all_at StandsTimer (timers s h) t timers_stand c.0, c.1)

-- ---- messages that arrive

module _ (h : Host) where
  abbrev StandsArriving : Arriving → Type 0
  StandsArriving a = IsArrivingAt h a.message a.place

  response_stands : (id : CallId) (r : ClientRow) (o : Option Incoming) → get h.clients id ≡ Some r → r.part ≡ o
      → AllByRecursion StandsArriving (arriving_at_client id o)
  response_stands id r None at e = tt
  response_stands id r (Some part) at e = (record { row = r; part = part; stands = at; has = e; message = refl }, tt)

  request_stands : (id : CallId) (row : ServerRow) (state : State) → get h.servers id ≡ Some row → row.state ≡ state
      → AllByRecursion StandsArriving (arriving_at_server id state)
  request_stands id row (Receiving service part base count) at e =
      (record { row = row; service = service; part = part; base = base; count = count; stands = at; state = e; message = refl }, tt)
  request_stands id row state at e = tt

  pub arrivals_stand : AllByRecursion StandsArriving (arrivals h)
  arrivals_stand =
      all-append StandsArriving (flat_map (λ (e : CallId × ClientRow). arriving_at_client e.0 e.1.part) (entries h.clients))
      (flat_map (λ (e : CallId × ServerRow). arriving_at_server e.0 e.1.state) (entries h.servers))
      (all_rows (λ (e : CallId × ClientRow). arriving_at_client e.0 e.1.part) StandsArriving h.clients (λ id r at. response_stands id r r.part at refl))
      (all_rows (λ (e : CallId × ServerRow). arriving_at_server e.0 e.1.state) StandsArriving h.servers (λ id row at. request_stands id row row.state at refl))

-- ---- messages that may be sent

module _ (s : Settings) (now : ℕ) (h : Host) where
  abbrev StandsLeaving : Leaving → Type 0
  StandsLeaving l = IsLeavingAt s now h l.place

  request_leaving : (id : CallId) (r : ClientRow) → get h.clients id ≡ Some r → AllByRecursion StandsLeaving (leaving_at_client s now id r)
  request_leaving id r at = cond_both (may_send_request s now r) _ _ (AllByRecursion StandsLeaving) (λ may. ((r, at, may), tt)) (λ _. tt)

  response_leaving : (id : CallId) (row : ServerRow) (state : State) → get h.servers id ≡ Some row → row.state ≡ state
      → AllByRecursion StandsLeaving (leaving_at_server id state)
  response_leaving id row (Replying response out order base count) at e =
      cond_both (has_waiting out) _ _ (AllByRecursion StandsLeaving)
      (λ waits. (
        record {
          row = row;
          response = response;
          out = out;
          order = order;
          base = base;
          count = count;
          stands = at;
          state = e;
          waits = waits;
        },
        tt,
      )) (λ _. tt)
  response_leaving id row state at e = tt

  departures_stand : AllByRecursion StandsLeaving (departures s now h)
  departures_stand =
      all-append StandsLeaving (flat_map (λ (e : CallId × ClientRow). leaving_at_client s now e.0 e.1) (entries h.clients))
      (flat_map (λ (e : CallId × ServerRow). leaving_at_server e.0 e.1.state) (entries h.servers))
      (all_rows (λ (e : CallId × ClientRow). leaving_at_client s now e.0 e.1) StandsLeaving h.clients (λ id r at. request_leaving id r at))
      (all_rows (λ (e : CallId × ServerRow). leaving_at_server e.0 e.1.state) StandsLeaving h.servers (λ id row at. response_leaving id row row.state at refl))

  -- the one that is sent stands, and may be sent
  pub least_stands : (l : Leaving) → least leaving_key (departures s now h) ≡ Some l → IsLeavingAt s now h l.place
  least_stands l e = all_at StandsLeaving (ordered leaving_key (departures s now h)) l
      (ordered-all leaving_key StandsLeaving (departures s now h) departures_stand) (first_contained l (ordered leaving_key (departures s now h)) e)

-- ---- GRANTs

-- a GRANT is for a message that stands, up to its new end, which exceeds its granted end
pub record IsGrantAt (s : Settings) (h : Host) (g : Granted Arriving) : Type 0 where
  pub stands : IsArrivingAt h g.to.message g.to.place
  pub offset : g.offset ≡ new_end s.window g.to.message
  pub more : g.to.message.granted < g.offset

abbrev pub message_of : Arriving → Message
message_of a = a.message

-- two GRANTs of a step are to messages of different senders
abbrev pub GrantsDiffer : List (Granted Arriving) → Type 0
GrantsDiffer gs = SendersDiffer (λ (g : Granted Arriving). sender g.to.message) gs

-- one GRANT, if the new end exceeds the granted end
abbrev one_grant : ℕ → ℕ → Arriving → Bool → List (Granted Arriving)
one_grant window prio x b = cond b (record { to = x; offset = new_end window x.message; prio = prio } ∷ []) []

one_ahead : (from window prio : ℕ) (y : Arriving) (gs : List (Granted Arriving)) (b : Bool) → (from ≡ sender y.message → ⊥)
    → AllByRecursion (λ (g : Granted Arriving). from ≡ sender g.to.message → ⊥) gs
    → AllByRecursion (λ (g : Granted Arriving). from ≡ sender g.to.message → ⊥) (one_grant window prio y b ++ gs)
one_ahead from window prio y gs true differ all = (differ, all)
one_ahead from window prio y gs false differ all = all

all_ahead : (from window n r : ℕ) (ys : List Arriving) → AllByRecursion (λ (y : Arriving). from ≡ sender y.message → ⊥) ys
    → AllByRecursion (λ (g : Granted Arriving). from ≡ sender g.to.message → ⊥) (grants_from message_of window n r ys)
all_ahead from window n r [] all = tt
all_ahead from window n r (y ∷ ys) all = one_ahead from window (n - 1 - r) y (grants_from message_of window n (suc r) ys)
    (nat_lt y.message.granted (new_end window y.message)) all.0 (all_ahead from window n (suc r) ys all.1)

one_differs : (window prio : ℕ) (x : Arriving) (gs : List (Granted Arriving)) (b : Bool)
    → AllByRecursion (λ (g : Granted Arriving). sender x.message ≡ sender g.to.message → ⊥) gs → GrantsDiffer gs
    → GrantsDiffer (one_grant window prio x b ++ gs)
one_differs window prio x gs true all differ = (all, differ)
one_differs window prio x gs false all differ = differ

grants_differ : (window n r : ℕ) (xs : List Arriving) → SendersDiffer (λ (a : Arriving). sender a.message) xs
    → GrantsDiffer (grants_from message_of window n r xs)
grants_differ window n r [] differ = tt
grants_differ window n r (x ∷ xs) differ =
    one_differs window (n - 1 - r) x (grants_from message_of window n (suc r) xs) (nat_lt x.message.granted (new_end window x.message))
    (all_ahead (sender x.message) window n (suc r) xs differ.0) (grants_differ window n (suc r) xs differ.1)

pub at_rank : {X : Type 0} (xs : List X) (i : ℕ) (x : X) → slice_get xs i ≡ Some x → Contains xs x
at_rank [] i x e = absurd (none_some x e)
at_rank (y ∷ ys) zero x e = first_contained x (y ∷ ys) e
at_rank (y ∷ ys) (suc i) x e = there y x ys (at_rank ys i x e)

module _ (s : Settings) (h : Host) where
  abbrev pub grants_of : List (Granted Arriving)
  grants_of = grants message_of s.overcommit s.window (arrivals h)

  pub step_grants_differ : GrantsDiffer grants_of
  step_grants_differ = grants_differ s.window _ 0 (chosen message_of s.overcommit (arrivals h))
      (differ-chosen (λ (a : Arriving). sender a.message) (λ a. choice_key a.message) s.overcommit (arrivals h))

  pub step_grants_stand : (g : Granted Arriving) → Contains grants_of g → IsGrantAt s h g
  step_grants_stand g c =
      let is = grant-chosen message_of s.overcommit s.window (arrivals h) g c in
      record {
        stands = all_at (StandsArriving h) (arrivals h) g.to (arrivals_stand h)
            (chosen-contains (λ (a : Arriving). sender a.message) (λ a. choice_key a.message) s.overcommit (arrivals h) g.to
            (at_rank (chosen message_of s.overcommit (arrivals h)) is.rank g.to is.chosen));
        offset = is.offset;
        more = is.more;
      }
