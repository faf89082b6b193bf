-- What each move of a step keeps, the whole step keeps: acts of rows that are due, GRANTs, pieces, and calls that are acknowledged.
use Rattle.std.proofs.Common.{◌≡◌, ℕ, zero, suc, ◌≤◌, ◌<◌, Bool, true, false, Option, Some, None, List, [], ◌∷◌, length, refl, sym, ap, subst, ◌∙◌}
use Rattle.std.specs.Prelude.{Contains, ◌-◌}
use Rattle.std.specs.List.{AllByRecursion}
use Rattle.plain_sets.specs.Maps.{get}
use Rattle.plain_sets.specs.Ranges.{Range}
use Rattle.plain_sets.specs.Ordered.{first_of}
use Rattle.plain_sets.proofs.OrderFirst.{all_from}
use Rattle.homa_plain.specs.declared.id.CallId.{CallId}
use Rattle.homa_plain.specs.declared.settings.Settings.{Settings}
use Rattle.homa_plain.specs.declared.packet.Body.TheVariants as body
use Rattle.homa_plain.specs.Calls.{is_call}
use Rattle.homa_plain.specs.Grants.{Message, Granted, seen, sender, new_end}
use Rattle.homa_plain.specs.Timers.{due, most_acts}
use Rattle.homa_plain.specs.SentNext.{least}
use Rattle.homa_plain.specs.Incoming.{Incoming}
use Rattle.homa_plain.specs.Outgoing.{Outgoing, next_range}
use Rattle.homa_plain.specs.Rows.{ClientRow, ServerRow, State, Receiving, Held, Replying, Buried}
use Rattle.homa_plain.specs.Host.{Host, peer_cutoffs, packets_in}
use Rattle.homa_plain.specs.Timers.{Place, OfClient, OfServer, Timer, timer_key, timers}
use Rattle.homa_plain.specs.Sending.{Arriving, response_content}
use Rattle.homa_plain.specs.SentNext.{Leaving, leaving_key, departures, may_send_request}
use Rattle.homa_plain.specs.Tombstones.{server_acked}
use Rattle.homa_plain.specs.Work.{Work, now_of}
use Rattle.homa_plain.specs.Steps.{moment, served, acked, acts, acts_at, grants_at, all_granted, gives_grants, client_is_granted}
use Rattle.homa_plain.specs.Steps.{server_is_granted}
use Rattle.homa_plain.specs.SentNext.{request_leaves, response_leaves, client_leaves, state_leaves, server_leaves, leaves_from}
use Rattle.homa_plain.specs.SentNext.{first_leaves, pumped_once, pumps, pump, most_packets}
use Rattle.homa_plain.specs.Steps.{ended}
use Rattle.homa_plain.proofs.CallOrder.{calls_are}
use Rattle.step_laws.specs.StepLaws.{first_acts, picked_anew, is_at_client, is_at_server, LeavesOthers}
use Rattle.step_laws.proofs.Others.{grants_at-others}
use Rattle.step_laws.proofs.Picking.{acts-picked}
use Rattle.step_laws.proofs.StepEnd.{left}
use Rattle.step_moves.proofs.Hosts.{none_some, some_is}
use Rattle.step_moves.proofs.Chosen.{IsTimerAt, IsArrivingAt, IsLeavingAt, IsGrantAt, GrantsDiffer, grants_of, step_grants_differ}
use Rattle.step_moves.proofs.Chosen.{step_grants_stand, first_due_stands, least_stands}

-- ---- calls that are acknowledged, one by one

pub acked_kept : (s : Settings) (P : Work → Type 0)
    → ((work : Work) (id : CallId) → P work → P (served s id (server_acked s (moment s id work) id (get work.host.servers id)) work))
    → (ids : List CallId) (work : Work) → P work → P (acked s ids work)
acked_kept s P one [] work k = k
acked_kept s P one (id ∷ ids) work k = acked_kept s P one ids _ (one work id k)

-- ---- a turn: each row that acts stands, and its deadline has come

module _ (s : Settings) (P : Work → Type 0)
    (one : (work : Work) (place : Place) (at : ℕ) → P work → IsTimerAt s work.host at place → at ≤ now_of work → P (acts_at s place work)) where
  picked_kept : (n : ℕ) (work : Work) → P work → P (picked_anew s n work)
  unfolding picked_anew
  picked_kept zero work k = k
  picked_kept (suc n) work k = picked_kept n _ (by_first (first_of (due timer_key (now_of work) (timers s work.host))) refl) where
    by_first : (o : Option Timer) → first_of (due timer_key (now_of work) (timers s work.host)) ≡ o → P (first_acts s o work)
    by_first None e = k
    by_first (Some t) e = let d = first_due_stands s work.host (now_of work) t e in one work t.place t.at k d.0 d.1

  pub turn_kept : 1 ≤ s.resend → (work : Work) → P work → P (acts s work)
  turn_kept resend work k = subst P (sym (acts-picked s resend work)) (picked_kept most_acts work k)

-- ---- GRANTs: each is to a message that stands, as no two are to one message

-- a place has one message
pub one_message : (h : Host) (place : Place) (m n : Message) → IsArrivingAt h m place → IsArrivingAt h n place → m ≡ n
one_message h (OfClient id) m n a b =
    let rows : a.row ≡ b.row = some_is a.row b.row (sym a.stands ∙ b.stands) in
    let parts : a.part ≡ b.part = some_is a.part b.part (sym a.has ∙ ap (λ (r : ClientRow). r.part) rows ∙ b.has) in
    a.message ∙ ap seen parts ∙ sym b.message
one_message h (OfServer id) m n a b =
    let rows : a.row ≡ b.row = some_is a.row b.row (sym a.stands ∙ b.stands) in
    let states : Receiving a.service a.part a.base a.count ≡ Receiving b.service b.part b.base b.count =
    sym a.state ∙ ap (λ (r : ServerRow). r.state) rows ∙ b.state in
    a.message ∙ ap seen (one_part a.service b.service a.part b.part a.base b.base a.count b.count states) ∙ sym b.message where
      one_part : (s t : ℕ) (p q : Incoming) (b c i j : ℕ) → Receiving s p b i ≡ Receiving t q c j → p ≡ q
      one_part s t p q b c i j e = cc

-- a message stays where another one's row changes
pub stays_at : (place other : Place) (m n : Message) (w v : Work) → (place ≡ other → ⊥) → LeavesOthers place w v → IsArrivingAt w.host n other
    → IsArrivingAt v.host n other
stays_at place (OfClient id) m n w v apart l a =
    record { row = a.row; part = a.part; stands = l.clients id (at_client place apart) ∙ a.stands; has = a.has; message = a.message } where
      at_client : (place : Place) → (place ≡ OfClient id → ⊥) → is_at_client place id ≡ false
      at_client (OfClient q) apart = by_test (is_call id q) refl where
        by_test : (b : Bool) → is_call id q ≡ b → is_call id q ≡ false
        by_test false e = e
        by_test true e = absurd (apart (ap OfClient (sym ((calls_are id q).0 e))))
      at_client (OfServer q) apart = refl
stays_at place (OfServer id) m n w v apart l a =
    record {
      row = a.row;
      service = a.service;
      part = a.part;
      base = a.base;
      count = a.count;
      stands = l.servers id (at_server place apart)
          ∙ a.stands;
      state = a.state;
      message = a.message;
    } where
      at_server : (place : Place) → (place ≡ OfServer id → ⊥) → is_at_server place id ≡ false
      at_server (OfServer q) apart = by_test (is_call id q) refl where
        by_test : (b : Bool) → is_call id q ≡ b → is_call id q ≡ false
        by_test false e = e
        by_test true e = absurd (apart (ap OfServer (sym ((calls_are id q).0 e))))
      at_server (OfClient q) apart = refl

module _ (s : Settings) where
  grant_stays : (g k : Granted Arriving) (work : Work) → (sender g.to.message ≡ sender k.to.message → ⊥) → IsGrantAt s work.host g
      → IsGrantAt s work.host k → IsGrantAt s (grants_at s g.to.place g.offset g.prio work).host k
  grant_stays g k work differ a b = record {
    stands = stays_at g.to.place k.to.place g.to.message k.to.message work (grants_at s g.to.place g.offset g.prio work)
        (λ e. differ (ap sender (one_message work.host k.to.place g.to.message k.to.message (subst (IsArrivingAt work.host g.to.message) e a.stands) b.stands)))
        (grants_at-others s g.to.place g.offset g.prio work) b.stands;
    offset = b.offset;
    more = b.more;
  }

  grants_stay : (g : Granted Arriving) (gs : List (Granted Arriving)) (work : Work)
      → AllByRecursion (λ (k : Granted Arriving). sender g.to.message ≡ sender k.to.message → ⊥) gs → IsGrantAt s work.host g
      → AllByRecursion (IsGrantAt s work.host) gs
      → AllByRecursion (IsGrantAt s (grants_at s g.to.place g.offset g.prio work).host) gs
  grants_stay g [] work differ a all = tt
  grants_stay g (k ∷ gs) work differ a all = (grant_stays g k work differ.0 a all.0, grants_stay g gs work differ.1 a all.1)

  module _ (P : Work → Type 0) (start : Work)
      (one : (work : Work) (g : Granted Arriving) → Contains (grants_of s start.host) g → P work → IsGrantAt s work.host g → P
      (grants_at s g.to.place g.offset g.prio work)) where
    all_kept : (gs : List (Granted Arriving)) (work : Work) → AllByRecursion (Contains (grants_of s start.host)) gs → GrantsDiffer gs
        → AllByRecursion (IsGrantAt s work.host) gs → P work → P (all_granted s gs work)
    all_kept [] work of differ stand k = k
    all_kept (g ∷ gs) work of differ stand k =
        all_kept gs (grants_at s g.to.place g.offset g.prio work) of.1 differ.1 (grants_stay g gs work differ.0 stand.0 stand.1) (one work g of.0 k stand.0)

    -- the GRANTs are those that the messages at their start ask for
    pub grants_kept : P start → P (gives_grants s start)
    grants_kept k =
        all_kept (grants_of s start.host) start (all_from (Contains (grants_of s start.host)) (grants_of s start.host) (λ g c. c))
        (step_grants_differ s start.host) (all_from (IsGrantAt s start.host) (grants_of s start.host) (step_grants_stand s start.host)) k

-- ---- the pump: each piece is of a message that may be sent

-- what a piece keeps
pub record PieceKeeps (s : Settings) (P : Work → Type 0) : Type 0 where
  pub request : (work : Work) (id : CallId) (r : ClientRow) (range : Range) → P work → get work.host.clients id ≡ Some r
      → may_send_request s (now_of work) r ≡ true → next_range r.out s.seg ≡ Some range → P (request_leaves s id r range work)
  pub response : (work : Work) (id : CallId) (row : ServerRow) (response : List ℕ) (out : Outgoing) (order base count : ℕ) (range : Range) → P work
      → get work.host.servers id ≡ Some row → row.state ≡ Replying response out order base count
      → next_range out s.seg ≡ Some range
      → P (response_leaves s id row (response_content s (peer_cutoffs s work.host id.client).cutoffs response out range) range work)

module _ (s : Settings) (P : Work → Type 0) (keeps : PieceKeeps s P) where
  client_kept : (id : CallId) (o : Option ClientRow) (work new : Work) → P work → get work.host.clients id ≡ o
      → ((r : ClientRow) → o ≡ Some r → may_send_request s (now_of work) r ≡ true) → client_leaves s id o work ≡ Some new → P new
  client_kept id None work new k at may e = absurd (none_some new e)
  client_kept id (Some r) work new k at may e =
      let l = left (next_range r.out s.seg) work new (λ range. request_leaves s id r range work) e in
      subst P l.is (keeps.request work id r l.range k at (may r refl) l.next)

  state_kept : (id : CallId) (row : ServerRow) (state : State) (work new : Work) → P work → get work.host.servers id ≡ Some row → row.state ≡ state
      → state_leaves s id row state work ≡ Some new → P new
  state_kept id row (Replying response out order base count) work new k at is e =
      let l = left (next_range out s.seg) work new
      (λ range. response_leaves s id row (response_content s (peer_cutoffs s work.host id.client).cutoffs response out range) range work) e in
      subst P l.is (keeps.response work id row response out order base count l.range k at is l.next)
  state_kept id row (Receiving service part base count) work new k at is e = absurd (none_some new e)
  state_kept id row (Held response release) work new k at is e = absurd (none_some new e)
  state_kept id row (Buried until) work new k at is e = absurd (none_some new e)

  server_kept : (id : CallId) (o : Option ServerRow) (work new : Work) → P work → get work.host.servers id ≡ o → server_leaves s id o work ≡ Some new → P new
  server_kept id None work new k at e = absurd (none_some new e)
  server_kept id (Some row) work new k at e = state_kept id row row.state work new k at refl e

  place_kept : (place : Place) (work new : Work) → P work → IsLeavingAt s (now_of work) work.host place → leaves_from s place work ≡ Some new → P new
  place_kept (OfClient id) work new k stands e =
      client_kept id (get work.host.clients id) work new k refl
      (λ r at. subst (λ (x : ClientRow). may_send_request s (now_of work) x ≡ true) (some_is stands.0 r (sym stands.1 ∙ at)) stands.2) e
  place_kept (OfServer id) work new k stands e = server_kept id (get work.host.servers id) work new k refl e

  first_kept : (o : Option Leaving) (work new : Work) → P work → least leaving_key (departures s (now_of work) work.host) ≡ o
      → first_leaves s o work ≡ Some new → P new
  first_kept None work new k is e = absurd (none_some new e)
  first_kept (Some l) work new k is e = place_kept l.place work new k (least_stands s (now_of work) work.host l is) e

  once_kept : (work new : Work) → P work → pumped_once s work ≡ Some new → P new
  unfolding pumped_once
  once_kept work new k e = first_kept (least leaving_key (departures s (now_of work) work.host)) work new k refl e

  pub pumps_kept : (n : ℕ) (work : Work) → P work → P (pumps s n work)
  unfolding pumps
  pumps_kept zero work k = k
  pumps_kept (suc n) work k =
      elim (pumped_once s work) as (λ o. pumped_once s work ≡ o → P (elim o [ None ↦ work | Some after ↦ pumps s n after ])) [
        | None ↦ λ e. k
        | Some new ↦ λ e. pumps_kept n new (once_kept work new k e)
      ] refl

  pub pump_kept : (work : Work) → P work → P (pump s work)
  pump_kept work k = pumps_kept (most_packets - length (packets_in work.told)) work k

-- ---- the end of a step

-- what a GRANT keeps, whichever message it is to
pub record GrantKeeps (s : Settings) (P : Work → Type 0) : Type 0 where
  pub response : (work : Work) (id : CallId) (r : ClientRow) (part : Incoming) (offset prio : ℕ) → P work → get work.host.clients id ≡ Some r
      → r.part ≡ Some part → offset ≡ new_end s.window (seen part) → part.granted < offset
      → P (client_is_granted s id (body.Grant offset prio) offset (Some r) work)
  pub request : (work : Work) (id : CallId) (row : ServerRow) (service : ℕ) (part : Incoming) (base count offset prio : ℕ) → P work
      → get work.host.servers id ≡ Some row → row.state ≡ Receiving service part base count
      → offset ≡ new_end s.window (seen part) → part.granted < offset → P (server_is_granted s id (body.Grant offset prio) offset (Some row) work)

module _ (s : Settings) (P : Work → Type 0) where
  -- a GRANT to a message that stands
  pub granted_kept : GrantKeeps s P → (work : Work) (g : Granted Arriving) → P work → IsGrantAt s work.host g → P (grants_at s g.to.place g.offset g.prio work)
  granted_kept keeps work g k at = by_place g.to.place at.stands where
    by_place : (place : Place) → IsArrivingAt work.host g.to.message place → P (grants_at s place g.offset g.prio work)
    by_place (OfClient id) a =
        subst (λ o. P (client_is_granted s id (body.Grant g.offset g.prio) g.offset o work)) (sym a.stands)
        (keeps.response work id a.row a.part g.offset g.prio k a.stands a.has (at.offset ∙ ap (new_end s.window) a.message)
        (subst (λ (m : Message). m.granted < g.offset) a.message at.more))
    by_place (OfServer id) a =
        subst (λ o. P (server_is_granted s id (body.Grant g.offset g.prio) g.offset o work)) (sym a.stands)
        (keeps.request work id a.row a.service a.part a.base a.count g.offset g.prio k a.stands a.state (at.offset ∙ ap (new_end s.window) a.message)
        (subst (λ (m : Message). m.granted < g.offset) a.message at.more))

  pub ended_kept : GrantKeeps s P → PieceKeeps s P → (work : Work) → P work → P (ended s work)
  ended_kept grants pieces work k = pump_kept s P pieces (gives_grants s work) (grants_kept s P work (λ now g _ k at. granted_kept grants now g k at) k)
