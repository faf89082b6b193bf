-- The orders of a host's rows, of the messages that arrive at it and of those that it sends differ, after each step too.
use Rattle.std.proofs.Common.{◌≡◌, ℕ, zero, suc, ◌-◌, ◌<◌, ◌≤◌, true, false, Option, Some, None, List, [], ◌∷◌, length, refl, sym, ap, subst, ◌∙◌}
use Rattle.std.proofs.Common.{arith, ◌⊎◌, inl, inr}
use Rattle.std.specs.Prelude.{nat_lt}
use Rattle.std.specs.Option.{option_map, option_and_then}
use Rattle.std.proofs.lemmas.Bool.{cond_both, cases_Bool}
use Rattle.plain_sets.specs.Maps.{get}
use Rattle.plain_sets.proofs.MapMembers.{same_some}
use Rattle.plain_sets.proofs.MapLaws.{get-empty}
use Rattle.homa_plain.specs.declared.id.CallId.{CallId}
use Rattle.homa_plain.specs.declared.id.HostId.{HostId}
use Rattle.homa_plain.specs.declared.packet.Role.{Role}
use Rattle.homa_plain.specs.declared.packet.Role.TheVariants.{Client, Server}
use Rattle.homa_plain.specs.declared.packet.Body.TheVariants as body
use Rattle.homa_plain.specs.declared.settings.Settings.{Settings}
use Rattle.homa_plain.specs.Grants.{Granted, grants}
use Rattle.homa_plain.specs.SentNext.{least}
use Rattle.homa_plain.specs.Timers.{due}
use Rattle.homa_plain.specs.Incoming.{Incoming}
use Rattle.homa_plain.specs.Outgoing.{next_range}
use Rattle.homa_plain.specs.Packets.{Packet, sender, acks}
use Rattle.homa_plain.specs.Calls.{call_cmp}
use Rattle.homa_plain.specs.Rows.{ClientRow, ServerRow, State, Receiving, Replying}
use Rattle.homa_plain.specs.Host.{Host, new_host, peer_cutoffs, packets_in, Says}
use Rattle.homa_plain.specs.Entries.{PlainStale}
use Rattle.homa_plain.specs.Rules.{Did, Answer}
use Rattle.homa_plain.specs.AtClient.{client_gets}
use Rattle.homa_plain.specs.AtServer.{server_gets}
use Rattle.homa_plain.specs.Tombstones.{server_acked}
use Rattle.homa_plain.specs.Timers.{Place, OfClient, OfServer, Timer, timer_key, timers, client_acts, server_acts}
use Rattle.homa_plain.specs.Sending.{Arriving, arrivals, client_granted, server_granted, state_granted, granted_part}
use Rattle.homa_plain.specs.SentNext.{Leaving, leaving_key}
use Rattle.homa_plain.specs.SentNext.{departures}
use Rattle.homa_plain.specs.Sending.{while_new, client_sends, state_sends, response_content}
use Rattle.homa_plain.specs.Work.{Work, begun, now_of, tells}
use Rattle.homa_plain.specs.Steps.{asked, served, moment, comes_to_row, acked, takes, comes}
use Rattle.homa_plain.specs.OldPackets.{is_stale}
use Rattle.homa_plain.specs.CutoffsPackets.{hears_cutoffs}
use Rattle.homa_plain.specs.Steps.{client_acted, server_acted, acts_at, all_act, acts, client_is_granted, server_is_granted, grants_at}
use Rattle.homa_plain.specs.Credit.{refilled}
use Rattle.homa_plain.specs.Steps.{all_granted, gives_grants}
use Rattle.homa_plain.specs.SentNext.{request_leaves, response_leaves, client_leaves, state_leaves, server_leaves}
use Rattle.homa_plain.specs.SentNext.{leaves_from, first_leaves, pumped_once, pumps, most_packets}
use Rattle.homa_plain.specs.Steps.{ended, next_id, new_call, starts, call_step}
use Rattle.homa_plain.specs.Steps.{arrival_step, turn_step}
use Rattle.step_laws.specs.StepLaws.{is_at_client, is_at_server, LeavesOthers, LeavesRows, client_order, server_order, response_order, request_order}
use Rattle.step_laws.specs.StepLaws.{reply_order, arriving_in, leaving_in, number_at, AreOwn, HasOwnOrders}
use Rattle.step_laws.proofs.ToldBy.{asked-carried, served-carried, asked-clients, served-servers, hears_cutoffs-calm, hears_cutoffs-rows}
use Rattle.step_laws.proofs.StepEnd.{left}
use Rattle.homa_plain.proofs.CallOrder.{calls_are}
use Rattle.step_laws.proofs.Others.{get-set_row, asked-others, served-others, starts-others, client_granted-others, server_granted-others}
use Rattle.step_laws.proofs.Others.{client_leaves-others, state_leaves-others}
use Rattle.step_laws.proofs.Orders.{IsKept, kept_new, ClientKept, KeptAt, client_kept, client_acts-kept, server_kept, server_acked-kept, server_acts-kept}

-- ---- numbers at places

none_some : {A : Type 0} (x : A) → None ≡ Some x → ⊥
none_some x e = cc

-- where the numbers at all places but one stay, and the one there was given out since or is no other, they are still their own
module _ (low high : ℕ) (up : low ≤ high) (old new : Place → Option ℕ) (place : Place) (stay : (q : Place) → (q ≡ place) ⊎ (new q ≡ old q))
    (kept : IsKept low high (old place) (new place)) (own : AreOwn low old) where
  -- a number at the place and at another
  no_other : (q : Place) (x : ℕ) → new place ≡ Some x → new q ≡ old q → new q ≡ Some x → q ≡ place
  no_other q x e same f = by_case kept where
    by_case : IsKept low high (old place) (new place) → q ≡ place
    by_case (inl none) = absurd (none_some x (sym none ∙ e))
    by_case (inr (inl was)) = own.differ q place x (sym same ∙ f) (sym was ∙ e)
    by_case (inr (inr given)) =
        let is : given.0 ≡ x = same_some given.0 x (sym given.1 ∙ e) in
        let l : low ≤ given.0 = given.2 in
        let b : x < low = own.below q x (sym same ∙ f) in
        absurd (omega arith)

  own_differ : (p q : Place) (x : ℕ) → new p ≡ Some x → new q ≡ Some x → p ≡ q
  own_differ p q x e f = by_case (stay p) (stay q) where
    by_case : (p ≡ place) ⊎ (new p ≡ old p) → (q ≡ place) ⊎ (new q ≡ old q) → p ≡ q
    by_case (inl a) (inl b) = a ∙ sym b
    by_case (inl a) (inr b) = a ∙ sym (no_other q x (ap new (sym a) ∙ e) b f)
    by_case (inr a) (inl b) = no_other p x (ap new (sym b) ∙ f) a e ∙ sym b
    by_case (inr a) (inr b) = own.differ p q x (sym a ∙ e) (sym b ∙ f)

  below_at : (x : ℕ) → new place ≡ Some x → x < high
  below_at x e = by_case kept where
    by_case : IsKept low high (old place) (new place) → x < high
    by_case (inl none) = absurd (none_some x (sym none ∙ e))
    by_case (inr (inl was)) = let b : x < low = own.below place x (sym was ∙ e) in omega (arith, up)
    by_case (inr (inr given)) = let is : given.0 ≡ x = same_some given.0 x (sym given.1 ∙ e) in let b : given.0 < high = given.3 in omega arith

  own_below : (p : Place) (x : ℕ) → new p ≡ Some x → x < high
  own_below p x e = by_case (stay p) where
    by_case : (p ≡ place) ⊎ (new p ≡ old p) → x < high
    by_case (inl a) = below_at x (ap new (sym a) ∙ e)
    by_case (inr a) = let b : x < low = own.below p x (sym a ∙ e) in omega (arith, up)

  pub own_after : AreOwn high new
  own_after = record { differ = own_differ; below = own_below }

-- numbers that stay are still their own
own_same : (low high : ℕ) (old new : Place → Option ℕ) → low ≡ high → ((q : Place) → new q ≡ old q) → AreOwn low old → AreOwn high new
own_same low high old new e same own = record {
  differ = λ p q x a b. own.differ p q x (sym (same p) ∙ a) (sym (same q) ∙ b);
  below = λ p x a. let b : x < low = own.below p x (sym (same p) ∙ a) in omega (arith, e);
}

-- ---- moves

module _ (of_client : ClientRow → Option ℕ) (of_server : ServerRow → Option ℕ) where
  -- the numbers of all rows but one stay
  stays : (place : Place) (w v : Work) → LeavesOthers place w v → (q : Place)
      → (q ≡ place) ⊎ (number_at of_client of_server v.host q ≡ number_at of_client of_server w.host q)
  stays place w v others (OfClient q) = by_case place (cases_Bool (is_at_client place q)) others where
    by_case : (at : Place) → (is_at_client at q ≡ true) ⊎ (is_at_client at q ≡ false) → LeavesOthers at w v
        → (OfClient q ≡ at) ⊎ (option_and_then of_client (get v.host.clients q) ≡ option_and_then of_client (get w.host.clients q))
    by_case (OfClient id) (inl e) l = inl (ap OfClient ((calls_are q id).0 e))
    by_case (OfServer id) (inl e) l = cc
    by_case at (inr e) l = inr (ap (option_and_then of_client) (l.clients q e))
  stays place w v others (OfServer q) = by_case place (cases_Bool (is_at_server place q)) others where
    by_case : (at : Place) → (is_at_server at q ≡ true) ⊎ (is_at_server at q ≡ false) → LeavesOthers at w v
        → (OfServer q ≡ at) ⊎ (option_and_then of_server (get v.host.servers q) ≡ option_and_then of_server (get w.host.servers q))
    by_case (OfServer id) (inl e) l = inl (ap OfServer ((calls_are q id).0 e))
    by_case (OfClient id) (inl e) l = cc
    by_case at (inr e) l = inr (ap (option_and_then of_server) (l.servers q e))

  -- a move that leaves at its place what was there, or new numbers
  own-move : (place : Place) (w v : Work) → LeavesOthers place w v → w.host.order ≤ v.host.order
      → IsKept w.host.order v.host.order (number_at of_client of_server w.host place) (number_at of_client of_server v.host place)
      → AreOwn w.host.order (number_at of_client of_server w.host) → AreOwn v.host.order (number_at of_client of_server v.host)
  own-move place w v others up kept own =
      own_after w.host.order v.host.order up (number_at of_client of_server w.host) (number_at of_client of_server v.host) place
      (stays place w v others) kept own

  -- a move beside the rows
  own-rows : (w v : Work) → LeavesRows w v → v.host.order ≡ w.host.order → AreOwn w.host.order (number_at of_client of_server w.host)
      → AreOwn v.host.order (number_at of_client of_server v.host)
  own-rows w v rows e own =
      own_same w.host.order v.host.order (number_at of_client of_server w.host) (number_at of_client of_server v.host) (sym e) same own where
        same : (q : Place) → number_at of_client of_server v.host q ≡ number_at of_client of_server w.host q
        same (OfClient q) = ap (λ clients. option_and_then of_client (get clients q)) rows.clients
        same (OfServer q) = ap (λ servers. option_and_then of_server (get servers q)) rows.servers

-- what a rule left is what stands in the row
moved_kept : {R : Type 0} (f : R → Option ℕ) (low high high' : ℕ) (old : Option ℕ) (o o' : Option R) → high' ≡ high → o' ≡ o
    → IsKept low high old (option_and_then f o) → IsKept low high' old (option_and_then f o')
moved_kept f low high high' old o o' e g kept =
    subst (λ (n : ℕ). IsKept low n old (option_and_then f o')) (sym e) (subst (λ (r : Option _). IsKept low high old (option_and_then f r)) (sym g) kept)

abbrev pub Own : Work → Type 0
Own w = HasOwnOrders w.host

pub own-beside : (w v : Work) → LeavesRows w v → v.host.order ≡ w.host.order → Own w → Own v
own-beside w v rows e own = record {
  rows = own-rows client_order server_order w v rows e own.rows;
  arriving = own-rows response_order request_order w v rows e own.arriving;
  leaving = own-rows client_order reply_order w v rows e own.leaving;
}

module _ (s : Settings) where
  pub asked-own : (id : CallId) (server : HostId) (did : Did ClientRow) (w : Work)
      → ClientKept (moment s id w) (option_and_then client_order (get w.host.clients id)) (option_and_then response_order (get w.host.clients id)) did
      → Own w → Own (asked s id server did w)
  asked-own id server did w kept own =
      let v : Work = asked s id server did w in
      let order : v.host.order ≡ did.order = (asked-carried s id server did w).order in
      let row : get v.host.clients id ≡ did.row = ap (λ rows. get rows id) (asked-clients s id server did w) ∙ get-set_row w.host.clients id did.row in
      let up : w.host.order ≤ v.host.order = omega (arith, order, kept.up) in
      let others : LeavesOthers (OfClient id) w v = asked-others s id server did w in
      record {
        rows = own-move client_order server_order (OfClient id) w v others up
            (moved_kept client_order w.host.order did.order v.host.order _ did.row (get v.host.clients id) order row kept.at_row) own.rows;
        arriving = own-move response_order request_order (OfClient id) w v others up
            (moved_kept response_order w.host.order did.order v.host.order _ did.row (get v.host.clients id) order row kept.at_part) own.arriving;
        leaving = own-move client_order reply_order (OfClient id) w v others up
            (moved_kept client_order w.host.order did.order v.host.order _ did.row (get v.host.clients id) order row kept.at_row) own.leaving;
      }

  pub served-own : (id : CallId) (did : Did ServerRow) (w : Work) → KeptAt (moment s id w) (get w.host.servers id) did → Own w → Own (served s id did w)
  served-own id did w kept own =
      let v : Work = served s id did w in
      let order : v.host.order ≡ did.order = (served-carried s id did w).order in
      let row : get v.host.servers id ≡ did.row = ap (λ rows. get rows id) (served-servers s id did w) ∙ get-set_row w.host.servers id did.row in
      let up : w.host.order ≤ v.host.order = omega (arith, order, kept.up) in
      let others : LeavesOthers (OfServer id) w v = served-others s id did w in
      record {
        rows = own-move client_order server_order (OfServer id) w v others up
            (moved_kept server_order w.host.order did.order v.host.order _ did.row (get v.host.servers id) order row kept.at_row) own.rows;
        arriving = own-move response_order request_order (OfServer id) w v others up
            (moved_kept request_order w.host.order did.order v.host.order _ did.row (get v.host.servers id) order row kept.at_request) own.arriving;
        leaving = own-move client_order reply_order (OfServer id) w v others up
            (moved_kept reply_order w.host.order did.order v.host.order _ did.row (get v.host.servers id) order row kept.at_reply) own.leaving;
      }

  -- ---- a packet

  pub row-own : (p : Packet) (a : Answer) (role : Role) (w : Work) → Own w → Own (comes_to_row s p a role w)
  row-own p a Client w own =
      served-own p.id (server_gets s (moment s p.id w) p a (get w.host.servers p.id)) w (server_kept s (moment s p.id w) p a (get w.host.servers p.id)) own
  row-own p a Server w own =
      asked-own p.id p.server (client_gets s (moment s p.id w) p (get w.host.clients p.id)) w (client_kept s (moment s p.id w) p (get w.host.clients p.id)) own

  pub acked-own : (ids : List CallId) (w : Work) → Own w → Own (acked s ids w)
  acked-own [] w own = own
  acked-own (id ∷ ids) w own =
      let did : Did ServerRow = server_acked s (moment s id w) id (get w.host.servers id) in
      acked-own ids (served s id did w) (served-own id did w (server_acked-kept s (moment s id w) id (get w.host.servers id)) own)

  takes-own : (p : Packet) (a : Answer) (w : Work) → Own w → Own (takes s p a w)
  unfolding takes
  takes-own p a w own =
      let heard : Work = hears_cutoffs s (sender p) p.inc p.body w in
      acked-own (acks p) (comes_to_row s p a p.role heard)
      (row-own p a p.role heard
      (own-beside w heard (hears_cutoffs-rows s (sender p) p.inc p.body w) (hears_cutoffs-calm s (sender p) p.inc p.body w).order own))

  comes-own : (o : Option Packet) (a : Answer) (w : Work) → Own w → Own (comes s o a w)
  comes-own None a w own = record { rows = own.rows; arriving = own.arriving; leaving = own.leaving }
  comes-own (Some p) a w own =
      cond_both (is_stale s (now_of w) p) (tells (Says (PlainStale w.host.id p.at (now_of w)) ∷ []) w) (takes s p a w) Own
      (λ _. record { rows = own.rows; arriving = own.arriving; leaving = own.leaving }) (λ _. takes-own p a w own)

  -- ---- timers

  pub client_acted-own : (id : CallId) (o : Option ClientRow) (w : Work) → get w.host.clients id ≡ o → Own w → Own (client_acted s id o w)
  client_acted-own id None w e own = own
  client_acted-own id (Some r) w e own =
      asked-own id r.server (client_acts s (moment s id w) id r) w
      (subst (λ (o : Option ClientRow). ClientKept (moment s id w) (option_and_then client_order o) (option_and_then response_order o)
      (client_acts s (moment s id w) id r)) (sym e) (client_acts-kept s (moment s id w) id r)) own

  pub server_acted-own : (id : CallId) (o : Option ServerRow) (w : Work) → get w.host.servers id ≡ o → Own w → Own (server_acted s id o w)
  server_acted-own id None w e own = own
  server_acted-own id (Some row) w e own =
      served-own id (server_acts s (moment s id w) id row) w
      (subst (λ (o : Option ServerRow). KeptAt (moment s id w) o (server_acts s (moment s id w) id row)) (sym e)
      (server_acts-kept s (moment s id w) id row)) own

  pub acts_at-own : (place : Place) (w : Work) → Own w → Own (acts_at s place w)
  acts_at-own (OfClient id) w own = client_acted-own id (get w.host.clients id) w refl own
  acts_at-own (OfServer id) w own = server_acted-own id (get w.host.servers id) w refl own

  all_act-own : (ts : List Timer) (w : Work) → Own w → Own (all_act s ts w)
  all_act-own [] w own = own
  all_act-own (t ∷ ts) w own = all_act-own ts (acts_at s t.place w) (acts_at-own t.place w own)

-- ---- rows that keep their numbers

kept_like : {R : Type 0} (f : R → Option ℕ) (low high : ℕ) (o o' : Option R) (x y : R) → o ≡ Some x → o' ≡ Some y → f y ≡ f x
    → IsKept low high (option_and_then f o) (option_and_then f o')
kept_like f low high o o' x y e e' same = inr (inl (ap (option_and_then f) e' ∙ same ∙ ap (option_and_then f) (sym e)))

own-client : (id : CallId) (r r' : ClientRow) (w v : Work) → LeavesOthers (OfClient id) w v → v.host.order ≡ w.host.order
    → get w.host.clients id ≡ Some r → get v.host.clients id ≡ Some r'
    → r'.order ≡ r.order → response_order r' ≡ response_order r → Own w → Own v
own-client id r r' w v others e was is order part own =
    let up : w.host.order ≤ v.host.order = omega (arith, e) in
    record {
      rows = own-move client_order server_order (OfClient id) w v others up
          (kept_like client_order w.host.order v.host.order _ _ r r' was is (ap Some order)) own.rows;
      arriving = own-move response_order request_order (OfClient id) w v others up
          (kept_like response_order w.host.order v.host.order _ _ r r' was is part) own.arriving;
      leaving = own-move client_order reply_order (OfClient id) w v others up
          (kept_like client_order w.host.order v.host.order _ _ r r' was is (ap Some order)) own.leaving;
    }

own-server : (id : CallId) (row row' : ServerRow) (w v : Work) → LeavesOthers (OfServer id) w v → v.host.order ≡ w.host.order
    → get w.host.servers id ≡ Some row → get v.host.servers id ≡ Some row'
    → row'.order ≡ row.order → request_order row' ≡ request_order row → reply_order row' ≡ reply_order row → Own w → Own v
own-server id row row' w v others e was is order request reply own =
    let up : w.host.order ≤ v.host.order = omega (arith, e) in
    record {
      rows = own-move client_order server_order (OfServer id) w v others up
          (kept_like server_order w.host.order v.host.order _ _ row row' was is (ap Some order)) own.rows;
      arriving = own-move response_order request_order (OfServer id) w v others up
          (kept_like request_order w.host.order v.host.order _ _ row row' was is request) own.arriving;
      leaving =
          own-move client_order reply_order (OfServer id) w v others up (kept_like reply_order w.host.order v.host.order _ _ row row' was is reply) own.leaving;
    }

granted_part_order : (offset : ℕ) (o : Option Incoming)
    → option_map (λ (p : Incoming). p.order) (granted_part offset o) ≡ option_map (λ (p : Incoming). p.order) o
granted_part_order offset None = refl
granted_part_order offset (Some part) = refl

granted_arriving : (now offset : ℕ) (state : State) → arriving_in (state_granted now offset state) ≡ arriving_in state
granted_arriving now offset (Receiving service part base count) = refl
granted_arriving now offset state = refl

granted_leaving : (now offset : ℕ) (state : State) → leaving_in (state_granted now offset state) ≡ leaving_in state
granted_leaving now offset (Receiving service part base count) = refl
granted_leaving now offset state = refl

sent_arriving : (s : Settings) (now : ℕ) (state : State) → arriving_in (state_sends s now state) ≡ arriving_in state
sent_arriving s now (Replying response out order base count) = refl
sent_arriving s now state = refl

sent_leaving : (s : Settings) (now : ℕ) (state : State) → leaving_in (state_sends s now state) ≡ leaving_in state
sent_leaving s now (Replying response out order base count) = refl
sent_leaving s now state = refl

while_new_order : (now : ℕ) (r : ClientRow) → (while_new now r).order ≡ r.order
while_new_order now r = cond_both (nat_lt r.out.top r.out.length) (record r { heard = now; base = now; count = 0 }) r
    (λ (q : ClientRow). q.order ≡ r.order) (λ _. refl) (λ _. refl)

while_new_part : (now : ℕ) (r : ClientRow) → (while_new now r).part ≡ r.part
while_new_part now r =
    cond_both (nat_lt r.out.top r.out.length) (record r { heard = now; base = now; count = 0 }) r (λ (q : ClientRow). q.part ≡ r.part) (λ _. refl) (λ _. refl)

module _ (s : Settings) where
  -- ---- grants

  pub client_granted-own : (id : CallId) (offset prio : ℕ) (o : Option ClientRow) (w : Work) → get w.host.clients id ≡ o → Own w
      → Own (client_is_granted s id (body.Grant offset prio) offset o w)
  client_granted-own id offset prio None w e own = own
  client_granted-own id offset prio (Some r) w e own =
      let v : Work = client_is_granted s id (body.Grant offset prio) offset (Some r) w in
      let row : ClientRow = client_granted (now_of w) offset r in
      own-client id r row w v (client_granted-others s id (body.Grant offset prio) offset (Some r) w) refl e
      (get-set_row w.host.clients id (Some row)) refl (granted_part_order offset r.part) own

  pub server_granted-own : (id : CallId) (offset prio : ℕ) (o : Option ServerRow) (w : Work) → get w.host.servers id ≡ o → Own w
      → Own (server_is_granted s id (body.Grant offset prio) offset o w)
  server_granted-own id offset prio None w e own = own
  server_granted-own id offset prio (Some row) w e own =
      let v : Work = server_is_granted s id (body.Grant offset prio) offset (Some row) w in
      let after : ServerRow = server_granted (now_of w) offset row in
      own-server id row after w v (server_granted-others s id (body.Grant offset prio) offset (Some row) w) refl e
      (get-set_row w.host.servers id (Some after)) refl
      (granted_arriving (now_of w) offset row.state) (granted_leaving (now_of w) offset row.state) own

  pub grants_at-own : (place : Place) (offset prio : ℕ) (w : Work) → Own w → Own (grants_at s place offset prio w)
  grants_at-own (OfClient id) offset prio w own = client_granted-own id offset prio (get w.host.clients id) w refl own
  grants_at-own (OfServer id) offset prio w own = server_granted-own id offset prio (get w.host.servers id) w refl own

  all_granted-own : (gs : List (Granted Arriving)) (w : Work) → Own w → Own (all_granted s gs w)
  all_granted-own [] w own = own
  all_granted-own (g ∷ gs) w own = all_granted-own gs (grants_at s g.to.place g.offset g.prio w) (grants_at-own g.to.place g.offset g.prio w own)

  -- ---- the pump

  pub client_leaves-own : (id : CallId) (o : Option ClientRow) (w v : Work) → get w.host.clients id ≡ o → client_leaves s id o w ≡ Some v → Own w → Own v
  client_leaves-own id None w v was e own = cc
  client_leaves-own id (Some r) w v was e own =
      let l = left (next_range r.out s.seg) w v (λ range. request_leaves s id r range w) e in
      let row : ClientRow = client_sends s (now_of w) r in
      let x : Work = request_leaves s id r l.range w in
      subst Own l.is
      (own-client id r row w x (subst (LeavesOthers (OfClient id) w) (sym l.is) (client_leaves-others s id (Some r) w v e)) refl was
      (get-set_row w.host.clients id (Some row))
      (while_new_order (now_of w) r) (ap (option_map (λ (p : Incoming). p.order)) (while_new_part (now_of w) r)) own)

  server_sends-own : (id : CallId) (row : ServerRow) (state : State) (w v : Work) → row.state ≡ state → get w.host.servers id ≡ Some row
      → state_leaves s id row state w ≡ Some v → Own w → Own v
  server_sends-own id row (Replying response out order base count) w v st was e own =
      let l = left (next_range out s.seg) w v
      (λ range. response_leaves s id row (response_content s (peer_cutoffs s w.host id.client).cutoffs response out range) range w) e in
      let after : ServerRow = record row { state = state_sends s (now_of w) row.state } in
      let x : Work = response_leaves s id row (response_content s (peer_cutoffs s w.host id.client).cutoffs response out l.range) l.range w in
      subst Own l.is
      (own-server id row after w x
      (subst (LeavesOthers (OfServer id) w) (sym l.is) (state_leaves-others s id row (Replying response out order base count) w v e)) refl was
      (get-set_row w.host.servers id (Some after))
      refl (sent_arriving s (now_of w) row.state) (sent_leaving s (now_of w) row.state) own)
  server_sends-own id row state w v st was e own = cc

  pub server_leaves-own : (id : CallId) (o : Option ServerRow) (w v : Work) → get w.host.servers id ≡ o → server_leaves s id o w ≡ Some v → Own w → Own v
  server_leaves-own id None w v was e own = cc
  server_leaves-own id (Some row) w v was e own = server_sends-own id row row.state w v refl was e own

  pub leaves_from-own : (place : Place) (w v : Work) → leaves_from s place w ≡ Some v → Own w → Own v
  leaves_from-own (OfClient id) w v e own = client_leaves-own id (get w.host.clients id) w v refl e own
  leaves_from-own (OfServer id) w v e own = server_leaves-own id (get w.host.servers id) w v refl e own

  first_leaves-own : (o : Option Leaving) (w v : Work) → first_leaves s o w ≡ Some v → Own w → Own v
  first_leaves-own None w v e own = cc
  first_leaves-own (Some l) w v e own = leaves_from-own l.place w v e own

  pub pumped_once-own : (w v : Work) → pumped_once s w ≡ Some v → Own w → Own v
  unfolding pumped_once
  pumped_once-own w v e own = first_leaves-own (least leaving_key (departures s (now_of w) w.host)) w v e own

  pumps-own : (n : ℕ) (w : Work) → Own w → Own (pumps s n w)
  unfolding pumps
  pumps-own zero w own = own
  pumps-own (suc n) w own =
      elim (pumped_once s w) as (λ o. pumped_once s w ≡ o → Own (elim o [ None ↦ w | Some after ↦ pumps s n after ])) [
        | None ↦ λ e. own
        | Some v ↦ λ e. pumps-own n v (pumped_once-own w v e own)
      ] refl

  ended-own : (w : Work) → Own w → Own (ended s w)
  ended-own w own =
      let v : Work = gives_grants s w in
      pumps-own (most_packets - length (packets_in v.told)) v
      (all_granted-own (grants (λ (a : Arriving). a.message) s.overcommit s.window (arrivals w.host)) w own)

  -- ---- steps

  pub starts-own : (server : HostId) (service : ℕ) (request : List ℕ) (w : Work) → Own w → Own (starts s server service request w)
  starts-own server service request w own =
      let v : Work = starts s server service request w in
      let id : CallId = next_id w.host in
      let row : ClientRow = new_call s (now_of w) w.host.order server service request in
      let up : w.host.order ≤ v.host.order = omega arith in
      let is : get v.host.clients id ≡ Some row = get-set_row w.host.clients id (Some row) in
      let others : LeavesOthers (OfClient id) w v = starts-others s server service request w in
      record {
        rows = own-move client_order server_order (OfClient id) w v others up
            (moved_kept client_order w.host.order v.host.order v.host.order _ (Some row) (get v.host.clients id) refl is
            (kept_new w.host.order v.host.order _ w.host.order (omega arith) (omega arith))) own.rows;
        arriving = own-move response_order request_order (OfClient id) w v others up
            (moved_kept response_order w.host.order v.host.order v.host.order _ (Some row) (get v.host.clients id) refl is (inl refl)) own.arriving;
        leaving = own-move client_order reply_order (OfClient id) w v others up
            (moved_kept client_order w.host.order v.host.order v.host.order _ (Some row) (get v.host.clients id) refl is
            (kept_new w.host.order v.host.order _ w.host.order (omega arith) (omega arith))) own.leaving;
      }

  pub begun-own : (h : Host) (now : ℕ) → HasOwnOrders h → Own (begun h now)
  begun-own h now own = record { rows = own.rows; arriving = own.arriving; leaving = own.leaving }

  pub refilled-own : (h : Host) → HasOwnOrders h → HasOwnOrders (refilled s h)
  refilled-own h own = cond_both (nat_lt h.refilled h.last) (record h { credit = s.rate; refilled = h.last }) h HasOwnOrders
      (λ _. record { rows = own.rows; arriving = own.arriving; leaving = own.leaving }) (λ _. own)

  pub call-own : (h : Host) (now : ℕ) (server : HostId) (service : ℕ) (request : List ℕ) → HasOwnOrders h
      → HasOwnOrders (call_step s h now server service request).host
  unfolding call_step
  call-own h now server service request own =
      ended-own (starts s server service request (begun h now)) (starts-own server service request (begun h now) (begun-own h now own))

  pub arrival-own : (h : Host) (now : ℕ) (o : Option Packet) (a : Answer) → HasOwnOrders h → HasOwnOrders (arrival_step s h now o a).host
  unfolding arrival_step
  arrival-own h now o a own = ended-own (comes s o a (begun h now)) (comes-own s o a (begun h now) (begun-own h now own))

  pub turn-own : (h : Host) (now : ℕ) → HasOwnOrders h → HasOwnOrders (turn_step s h now).host
  unfolding turn_step
  turn-own h now own =
      let g : Host = record h { last = now } in
      let w : Work = begun (refilled s g) now in
      ended-own (acts s w)
      (all_act-own s (due timer_key (now_of w) (timers s w.host)) w
      (begun-own (refilled s g) now (refilled-own g (record { rows = own.rows; arriving = own.arriving; leaving = own.leaving }))))

-- a new host has no row
none_own : (of_client : ClientRow → Option ℕ) (of_server : ServerRow → Option ℕ) (s : Settings) (id : HostId) (inc last : ℕ)
    → AreOwn 0 (number_at of_client of_server (new_host s id inc last))
none_own of_client of_server s id inc last = record { differ = λ p q x e f. absurd (none p x e); below = λ p x e. absurd (none p x e) } where
  none : (p : Place) (x : ℕ) → number_at of_client of_server (new_host s id inc last) p ≡ Some x → ⊥
  none (OfClient q) x e = none_some x (sym (ap (option_and_then of_client) (get-empty call_cmp q)) ∙ e)
  none (OfServer q) x e = none_some x (sym (ap (option_and_then of_server) (get-empty call_cmp q)) ∙ e)

pub new-own : (s : Settings) (id : HostId) (inc last : ℕ) → HasOwnOrders (new_host s id inc last)
new-own s id inc last = record {
  rows = none_own client_order server_order s id inc last;
  arriving = none_own response_order request_order s id inc last;
  leaving = none_own client_order reply_order s id inc last;
}
