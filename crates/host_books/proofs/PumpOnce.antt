-- The message that a pacer picks is the one that the pump sends next, and what becomes of the pacer.
use Rattle.std.proofs.Common.{◌≡◌, ◌<◌, ◌≤◌, ℕ, zero, suc, ◌+◌, ◌-◌, Bool, true, false, not, ◌==◌, cond, Option, Some, None, List, [], ◌∷◌, length}
use Rattle.std.proofs.Common.{refl, sym, ap, subst, ◌∙◌, inl, inr, arith}
use Rattle.std.specs.Prelude.{nat_lt}
use Rattle.std.specs.List.{Contains}
use Rattle.std.specs.Option.{option_map, MatchOption}
use Rattle.std.proofs.lemmas.Bool.{true≢false, eq-eqb}
use Rattle.plain_sets.specs.Maps.{get}
use Rattle.plain_sets.specs.Ordered.{ordered, placed, first_of, is_below, IsLeast}
use Rattle.plain_sets.specs.Ranges.{Range}
use Rattle.plain_sets.proofs.OrderSame.{here, all_at, at_head, none_in, filter-all}
use Rattle.plain_sets.proofs.OrderFirst.{first-ordered, all_from}
use Rattle.plain_sets.proofs.MapMembers.{same_some}
use Rattle.homa_plain.specs.declared.id.CallId.{CallId}
use Rattle.homa_plain.specs.declared.settings.Settings.{Settings}
use Rattle.homa_plain.specs.SentNext.{least}
use Rattle.homa_plain.specs.Outgoing.{Outgoing, has_waiting, left, next_range, IsSound, IsFront, IsIdle}
use Rattle.homa_plain.specs.Rows.{ClientRow, ServerRow, State, Receiving, Held, Replying, Buried}
use Rattle.homa_plain.specs.Host.{Host, packets_in, peer_cutoffs}
use Rattle.homa_plain.specs.Timers.{Place, OfClient, OfServer}
use Rattle.homa_plain.specs.SentNext.{Leaving, leaving_key, may_send_request, leaving_at_server, departures}
use Rattle.homa_plain.specs.Sending.{response_content, Content}
use Rattle.homa_plain.specs.Work.{Work}
use Rattle.homa_plain.specs.SentNext.{first_leaves, leaves_from, client_leaves, server_leaves, state_leaves, request_leaves}
use Rattle.homa_plain.specs.Credit.{if_affordable}
use Rattle.homa_plain.specs.SentNext.{response_leaves, pumped_once, pumps, pump, most_packets}
use Rattle.homa_plain.proofs.OutgoingLaws.{front-next_range, waiting-idle}
use Rattle.step_laws.specs.StepLaws.{HasOwnOrders}
use Rattle.homa_pacer.specs.Pace as pace
use Rattle.host_view.specs.Seen.{Seen, slot_of, ready_of, waiting, waiting_at_client, waiting_at_server, AreReady}
use Rattle.host_view.specs.Follow.{HasSlots, has_row, client_waiting, server_waiting, booked}
use Rattle.host_view.proofs.Pump as seen_pump
use Rattle.host_books.proofs.Splits.{ThingsOf, all_of}
use Rattle.host_books.proofs.Slots.{slots_differ, row_of_number, IsNumbered, numbers}
use Rattle.host_books.proofs.Follows.{IsFew, without, without_keeps}
use Rattle.host_books.proofs.BookThings.{waiting_things, leaving_things, client_leaving, server_leaving}
use Rattle.host_books.proofs.Things.{thing_at, at_thing}

-- of one thing or none, what is there is that one
only_one : (b : Bool) (x l : Leaving) → Contains (cond b (x ∷ []) []) l → l ≡ x
only_one true x l c = elim (at_head x l [] c) [ inl is ↦ sym is | inr none ↦ absurd (none_in l none) ]
only_one false x l c = absurd (none_in l c)

-- ---- the fold

-- one turn of the pump
abbrev went : Settings → ℕ → Work → Option Work → Work
went s n w o = elim o [ None ↦ w | Some after ↦ pumps s n after ]

pumps_none : (s : Settings) (n : ℕ) (w : Work) → pumped_once s w ≡ None → pumps s n w ≡ w
unfolding pumps
pumps_none s zero w e = refl
pumps_none s (suc n) w e = ap (went s n w) e

pumps_some : (s : Settings) (n : ℕ) (w v : Work) → pumped_once s w ≡ Some v → pumps s (suc n) w ≡ pumps s n v
unfolding pumps
pumps_some s n w v e = ap (went s n w) e

pumps_zero : (s : Settings) (w : Work) → pumps s 0 w ≡ w
unfolding pumps
pumps_zero s w = refl

-- the pump ends where nothing is sent, or 64 packets were
pub pump_ends : (s : Settings) (w : Work) → pumped_once s w ≡ None → pump s w ≡ w
pump_ends s w e = pumps_none s (most_packets - length (packets_in w.told)) w e

pub pump_full : (s : Settings) (w : Work) → 64 ≤ length (packets_in w.told) → pump s w ≡ w
pump_full s w full = let none : 64 - length (packets_in w.told) ≡ 0 = omega arith in ap (λ n. pumps s n w) none ∙ pumps_zero s w

-- and else goes on
pub pump_goes : (s : Settings) (w v : Work) → length (packets_in w.told) < 64 → pumped_once s w ≡ Some v
    → length (packets_in v.told) ≡ length (packets_in w.told) + 1 → pump s w ≡ pump s v
pump_goes s w v room e one =
    let more : 64 - length (packets_in w.told) ≡ suc (64 - length (packets_in v.told)) = omega arith in
    ap (λ n. pumps s n w) more ∙ pumps_some s (64 - length (packets_in v.told)) w v e

-- ---- what is picked

module _ (h : Seen) (slots : HasSlots h) (p : Place) (n : ℕ) (stands : has_row h p) (slot : slot_of h p ≡ n) where
  -- a thing of a row that stands, with this slot, is of this place
  of_slot : {X : Type 0} (t : ThingsOf X) (x : X) → Contains (all_of t h.host) x → slot_of h (t.place x) ≡ n → t.place x ≡ p
  of_slot t x c e =
      let number = all_at (IsNumbered t h.host) (all_of t h.host) x (numbers t h.host) c in
      slots_differ h (t.place x) p slots (row_of_number t.of_client t.of_server h (t.place x) (t.order x) number) stands (e ∙ sym slot)

  -- the first of a book is a message of its slot
  pub picked : (book : List pace.Ready) → AreReady h book → option_map (λ (r : pace.Ready). r.slot) (first_of (ordered pace.ready_key book)) ≡ Some n
      → (l : Leaving) × (first_of (ordered pace.ready_key book) ≡ Some (ready_of h l)) × (l.place ≡ p) × Contains (waiting h.host) l
  picked book are e = by_first (first_of (ordered pace.ready_key book)) refl (first-ordered pace.ready_key book) e where
    by_first : (o : Option pace.Ready) → first_of (ordered pace.ready_key book) ≡ o → MatchOption o (book ≡ []) (IsLeast pace.ready_key book)
        → option_map (λ (r : pace.Ready). r.slot) o ≡ Some n
        → (l : Leaving) × (first_of (ordered pace.ready_key book) ≡ Some (ready_of h l)) × (l.place ≡ p) × Contains (waiting h.host) l
    by_first None is least none = absurd (nothing none) where
      nothing : None ≡ Some n → ⊥
      nothing e = cc
    by_first (Some r) is least e =
        let l = are.only r least.0 in
        (l.0, is ∙ ap Some l.2, of_slot waiting_things l.0 l.1 (ap (λ (x : pace.Ready). x.slot) (sym l.2) ∙ same_some r.slot n e), l.1)

  -- a message of which bytes wait
  abbrev Waits : pace.Ready → Type 0
  Waits r = (l : Leaving) × Contains (waiting h.host) l × (r ≡ ready_of h l)

  -- where the row sends nothing, its message leaves the book
  pub idle_ready : (book : List pace.Ready) → AreReady h book → ((l : Leaving) → Contains (departures h.settings h.host.last h.host) l → l.place ≡ p → ⊥)
      → AreReady h (without (λ (r : pace.Ready). r.slot) n book)
  idle_ready book are rests = record {
    all = λ l c. without_keeps (λ (r : pace.Ready). r.slot) n book (ready_of h l)
        (λ e. rests l c (of_slot (leaving_things h.settings h.host.last) l c e)) (are.all l c);
    only = λ r c. all_at Waits (without (λ (r : pace.Ready). r.slot) n book) r
        (filter-all Waits (λ (r : pace.Ready). not (r.slot == n)) book (all_from Waits book are.only)) c;
  }

  -- the picked message may be sent: so it is sent next
  pub sends_next : (book : List pace.Ready) (w : Work) (l : Leaving) → HasOwnOrders h.host → AreReady h book
      → first_of (ordered pace.ready_key book) ≡ Some (ready_of h l) → l.place ≡ p
      → Contains (departures h.settings h.host.last h.host) l → w.host ≡ h.host → pumped_once h.settings w ≡ leaves_from h.settings p w
  unfolding pumped_once
  sends_next book w l own are first is c same =
      ap (λ (g : Host). first_leaves h.settings (least leaving_key (departures h.settings g.last g)) w) same
      ∙ ap (λ (o : Option Leaving). first_leaves h.settings o w) (seen_pump.picked h book l own are first c)
      ∙ ap (λ (q : Place). leaves_from h.settings q w) is

-- ---- rows

-- the message of a client's row, by whether it may be sent
module _ (h : Seen) (id : CallId) (r : ClientRow) (row : get h.host.clients id ≡ Some r) where
  abbrev s : Settings
  s = h.settings

  abbrev message : Leaving
  message = record { place = OfClient id; left = left r.out; order = r.order }

  -- where it may be sent, it is among those that may
  pub client_departs : may_send_request s h.host.last r ≡ true → Contains (departures s h.host.last h.host) message
  client_departs may =
      at_thing (leaving_things s h.host.last) h.host (OfClient id) message
      (subst (λ (o : Option ClientRow). Contains (client_leaving s h.host.last id o) message) (sym row)
      (subst (λ (b : Bool). Contains (cond b (message ∷ []) []) message) (sym may) (here message [])))

  -- and where not, none of its row is
  pub client_rests : may_send_request s h.host.last r ≡ false → (l : Leaving) → Contains (departures s h.host.last h.host) l → l.place ≡ OfClient id → ⊥
  client_rests may l c is =
      let there = thing_at (leaving_things s h.host.last) h.host (OfClient id) l c is in
      none_in l (subst (λ (b : Bool). Contains (cond b (message ∷ []) []) l) may
      (subst (λ (o : Option ClientRow). Contains (client_leaving s h.host.last id o) l) row there))

  -- a message of the row that waits is this one
  pub client_waits : (l : Leaving) → Contains (waiting h.host) l → l.place ≡ OfClient id → l ≡ message
  client_waits l c is =
      let there : Contains (waiting_at_client id r) l =
      subst (λ (o : Option ClientRow). Contains (client_waiting id o) l) row (thing_at waiting_things h.host (OfClient id) l c is) in
      only_one (has_waiting r.out) message l there

  -- the pump's next piece
  pub client_sends_next : (w : Work) (rg : Range) → w.host ≡ h.host → next_range r.out s.seg ≡ Some rg
      → nat_lt h.host.credit (rg.to - rg.from) ≡ false → leaves_from s (OfClient id) w ≡ Some (request_leaves s id r rg w)
  client_sends_next w rg same next paid =
      ap (λ (g : Host). client_leaves s id (get g.clients id) w) same ∙ ap (λ (o : Option ClientRow). client_leaves s id o w) row
      ∙ ap (λ (o : Option Range). if_affordable o w (λ x. request_leaves s id r x w)) next
      ∙ ap (λ (g : Host). cond (nat_lt g.credit (rg.to - rg.from)) None (Some (request_leaves s id r rg w))) same
      ∙ ap (λ (b : Bool). cond b None (Some (request_leaves s id r rg w))) paid

  -- or none, where it costs more than the credit
  pub client_short : (w : Work) (rg : Range) → w.host ≡ h.host → next_range r.out s.seg ≡ Some rg → nat_lt h.host.credit (rg.to - rg.from) ≡ true
      → leaves_from s (OfClient id) w ≡ None
  client_short w rg same next dear =
      ap (λ (g : Host). client_leaves s id (get g.clients id) w) same ∙ ap (λ (o : Option ClientRow). client_leaves s id o w) row
      ∙ ap (λ (o : Option Range). if_affordable o w (λ x. request_leaves s id r x w)) next
      ∙ ap (λ (g : Host). cond (nat_lt g.credit (rg.to - rg.from)) None (Some (request_leaves s id r rg w))) same
      ∙ ap (λ (b : Bool). cond b None (Some (request_leaves s id r rg w))) dear

-- the same of a server's row that replies
module _ (h : Seen) (id : CallId) (row : ServerRow) (is_row : get h.host.servers id ≡ Some row) (response : List ℕ) (out : Outgoing)
    (order base count : ℕ) (replies : row.state ≡ Replying response out order base count) where
  abbrev reply : Leaving
  reply = record { place = OfServer id; left = left out; order = order }

  pub server_departs : has_waiting out ≡ true → Contains (departures h.settings h.host.last h.host) reply
  server_departs may =
      at_thing (leaving_things h.settings h.host.last) h.host (OfServer id) reply
      (subst (λ (o : Option ServerRow). Contains (server_leaving id o) reply) (sym is_row)
      (subst (λ (st : State). Contains (leaving_at_server id st) reply) (sym replies)
      (subst (λ (b : Bool). Contains (cond b (reply ∷ []) []) reply) (sym may) (here reply []))))

  pub server_waits : (l : Leaving) → Contains (waiting h.host) l → l.place ≡ OfServer id → l ≡ reply
  server_waits l c is =
      let there = subst (λ (o : Option ServerRow). Contains (server_waiting id o) l) is_row (thing_at waiting_things h.host (OfServer id) l c is) in
      only_one (has_waiting out) reply l (subst (λ (st : State). Contains (waiting_at_server id st) l) replies there)

  abbrev content : Work → Range → Content
  content w rg = response_content h.settings (peer_cutoffs h.settings w.host id.client).cutoffs response out rg

  pub server_sends_next : (w : Work) (rg : Range) → w.host ≡ h.host → next_range out h.settings.seg ≡ Some rg → nat_lt h.host.credit (rg.to - rg.from) ≡ false
      → leaves_from h.settings (OfServer id) w ≡ Some (response_leaves h.settings id row (content w rg) rg w)
  server_sends_next w rg same next paid =
      ap (λ (g : Host). server_leaves h.settings id (get g.servers id) w) same ∙ ap (λ (o : Option ServerRow). server_leaves h.settings id o w) is_row
      ∙ ap (λ (st : State). state_leaves h.settings id row st w) replies
      ∙ ap (λ (o : Option Range). if_affordable o w (λ x. response_leaves h.settings id row (content w x) x w)) next
      ∙ ap (λ (g : Host). cond (nat_lt g.credit (rg.to - rg.from)) None (Some (response_leaves h.settings id row (content w rg) rg w))) same
      ∙ ap (λ (b : Bool). cond b None (Some (response_leaves h.settings id row (content w rg) rg w))) paid

  pub server_short : (w : Work) (rg : Range) → w.host ≡ h.host → next_range out h.settings.seg ≡ Some rg
      → nat_lt h.host.credit (rg.to - rg.from) ≡ true → leaves_from h.settings (OfServer id) w ≡ None
  server_short w rg same next dear =
      ap (λ (g : Host). server_leaves h.settings id (get g.servers id) w) same ∙ ap (λ (o : Option ServerRow). server_leaves h.settings id o w) is_row
      ∙ ap (λ (st : State). state_leaves h.settings id row st w) replies
      ∙ ap (λ (o : Option Range). if_affordable o w (λ x. response_leaves h.settings id row (content w x) x w)) next
      ∙ ap (λ (g : Host). cond (nat_lt g.credit (rg.to - rg.from)) None (Some (response_leaves h.settings id row (content w rg) rg w))) same
      ∙ ap (λ (b : Bool). cond b None (Some (response_leaves h.settings id row (content w rg) rg w))) dear

-- a server's row sends nothing where no bytes of a response wait
abbrev pub RestsIn : State → Type 0
RestsIn (Receiving service part base count) = Unit {0}
RestsIn (Held response release) = Unit {0}
RestsIn (Replying response out order base count) = has_waiting out ≡ false
RestsIn (Buried until) = Unit {0}

pub server_rests : (h : Seen) (id : CallId) (row : ServerRow) → get h.host.servers id ≡ Some row → RestsIn row.state → (l : Leaving)
    → Contains (departures h.settings h.host.last h.host) l → l.place ≡ OfServer id → ⊥
server_rests h id row is_row rests l c is =
    by_state row.state rests
    (subst (λ (o : Option ServerRow). Contains (server_leaving id o) l) is_row
    (thing_at (leaving_things h.settings h.host.last) h.host (OfServer id) l c is)) where
      by_state : (st : State) → RestsIn st → Contains (leaving_at_server id st) l → ⊥
      by_state (Receiving service part base count) rests c = none_in l c
      by_state (Held response release) rests c = none_in l c
      by_state (Replying response out order base count) rests c =
          none_in l (subst (λ (b : Bool). Contains (cond b (record { place = OfServer id; left = left out; order = order } ∷ []) []) l) rests c)
      by_state (Buried until) rests c = none_in l c

-- where bytes wait there are next ones
pub some_next : (out : Outgoing) (seg : ℕ) → 0 < seg → IsSound out → next_range out seg ≡ None → has_waiting out ≡ false
some_next out seg some sound none =
    waiting-idle out (subst (λ (o : Option Range). MatchOption o (IsIdle out) (IsFront out seg)) none (front-next_range out seg some sound))

-- ---- how long a book is

module _ {Y : Type 0} (key : Y → ℕ × ℕ) (slot : Y → ℕ) (n : ℕ) where
  length-placed : (y : Y) (ys : List Y) → length (placed key y ys) ≡ length ys + 1
  length-placed y [] = refl
  length-placed y (z ∷ zs) = elim (is_below (key y) (key z)) as (λ b. length (cond b (y ∷ z ∷ zs) (z ∷ placed key y zs)) ≡ length (z ∷ zs) + 1) [
    | true ↦ omega arith
    | false ↦ omega (arith, length-placed y zs)
  ]

  no_longer : (ys : List Y) → length (without slot n ys) ≤ length ys
  no_longer [] = omega arith
  no_longer (y ∷ ys) = elim (slot y == n) as (λ b. length (cond (not b) (y ∷ without slot n ys) (without slot n ys)) ≤ length (y ∷ ys)) [
    | true ↦ omega (arith, no_longer ys)
    | false ↦ omega (arith, no_longer ys)
  ]

  -- without a slot that has something a book is shorter
  pub shorter : (ys : List Y) (y : Y) → Contains ys y → slot y ≡ n → length (without slot n ys) < length ys
  shorter [] y c e = absurd (none_in y c)
  shorter (z ∷ zs) y c e =
      elim (slot z == n) as (λ b. (slot z == n) ≡ b → length (cond (not b) (z ∷ without slot n zs) (without slot n zs)) < length (z ∷ zs)) [
        | true ↦ λ t. omega (arith, no_longer zs)
        | false ↦ λ t. elim (at_head z y zs c) [
          | inl is ↦ absurd (true≢false (sym (eq-eqb (slot z) n (ap slot is ∙ e)) ∙ t))
          | inr rest ↦ omega (arith, shorter zs y rest e)
        ]
      ] refl

  -- and as long as before at most where its slot is booked anew
  pub booked_length : (news ys : List Y) (y : Y) → IsFew news → Contains ys y → slot y ≡ n → length (booked key slot n news ys) ≤ length ys
  booked_length [] ys y few c e = no_longer ys
  booked_length (x ∷ []) ys y few c e = omega (arith, length-placed x (without slot n ys), shorter ys y c e)
  booked_length (x ∷ z ∷ xs) ys y few c e = absurd few
