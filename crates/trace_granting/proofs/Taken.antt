-- A packet is taken: the message that it may open is new by the host's numbers exactly where it is new by the lines.
use Rattle.std.proofs.Common.{◌≡◌, ℕ, ◌+◌, ◌<◌, ◌≤◌, true, false, ◌&&◌, ◌⊎◌, Option, Some, None, [], length, inl, inr, refl, sym, ap, subst, ◌∙◌, arith}
use Rattle.std.specs.Prelude.{nat_lt, nat_le, slice_get, unwrap_or}
use Rattle.std.specs.Option.{option_map, option_map_or}
use Rattle.std.proofs.lemmas.Bool.{true≢false, and_parts, ltb-false, leb-true, le-leb, false_from_ne_true, cases_Bool, ltb-true}
use Rattle.plain_sets.specs.Maps.{get, len}
use Rattle.homa_plain.specs.declared.id.CallId.{CallId}
use Rattle.homa_plain.specs.declared.id.HostId.{HostId}
use Rattle.homa_plain.specs.declared.packet.Role.{Role}
use Rattle.homa_plain.specs.declared.packet.Role.TheVariants.{Client, Server}
use Rattle.homa_plain.specs.declared.settings.Settings.{Settings}
use Rattle.homa_plain.specs.Wire.{is_server}
use Rattle.homa_plain.specs.Calls.{is_host, is_call}
use Rattle.homa_plain.specs.Entries.{PlainDeliver}
use Rattle.homa_plain.specs.Incoming.{Incoming}
use Rattle.homa_plain.specs.Packets.{Packet, sender, receiver, receiver_of, acks}
use Rattle.trace_rules.specs.Parts.{Part}
use Rattle.homa_plain.specs.Rows.{ClientRow, ServerRow, State, Receiving, Held, Replying, Buried, RowsOf}
use Rattle.homa_plain.specs.Host.{Host}
use Rattle.homa_plain.specs.Rules.{Answer, Did}
use Rattle.homa_plain.specs.AtClient.{client_gets}
use Rattle.homa_plain.specs.AtServer.{server_gets}
use Rattle.homa_plain.specs.Timers.{Place, OfClient, OfServer}
use Rattle.homa_plain.specs.Work.{Work, begun}
use Rattle.homa_plain.specs.Steps.{moment, served, asked, comes_to_row, takes}
use Rattle.homa_plain.specs.CutoffsPackets.{hears_cutoffs}
use Rattle.trace_rules.specs.View.{View, Called, has_run, counts}
use Rattle.trace_rules.specs.Seen.{seen}
use Rattle.trace_rules.specs.Seen as lines
use Rattle.homa_plain.specs.World.{World, host_at}
use Rattle.homa_plain.proofs.CallOrder.{calls_are, hosts_are}
use Rattle.trace_steps.specs.Told.{sent_of}
use Rattle.step_moves.proofs.Moves.{IsMove}
use Rattle.step_laws.proofs.Own.{gets_own, gets_quiet}
use Rattle.trace_steps.proofs.Runs.{ran_same, unrun_same}
use Rattle.step_moves.proofs.SendMoves.{hears-move}
use Rattle.step_laws.specs.StepLaws.{response_order, arriving_in}
use Rattle.step_laws.proofs.ToldBy.{hears_cutoffs-calm, asked-clients}
use Rattle.step_laws.proofs.Others.{get-set_row}
use Rattle.trace_steps.specs.Stands.{Stand, state_of, stand, put, said_so_far, amid, client_row, server_state}
use Rattle.step_moves.specs.Worlds.{at_host}
use Rattle.step_moves.proofs.Hosts.{some_is, none_some}
use Rattle.trace_steps.proofs.Frame.{server_there}
use Rattle.trace_once.specs.Lifetime.{IsMadeTo, call_to, called_by, RowFits}
use Rattle.trace_once.specs.Kept.{IsKept}
use Rattle.trace_returned.specs.Tales.{receiving, IsSameRequest, IsSamePiece, IsSameResponse, IsTrue}
use Rattle.trace_returned.proofs.Deliver.{came_only}
use Rattle.trace_returned.proofs.ClientCame.{counts_by}
use Rattle.trace_granting.proofs.Messages.{part_in}
use Rattle.trace_granting.proofs.Each.{response_number, request_number, number_stays, IsEach, each_beside, each_served, each_asked, each_acked}
use Rattle.trace_granting.proofs.Ages.{number, AgedNumber, AgedPart, number_none, part_none, part_raises, order_here, order_elsewhere, placed_later}
use Rattle.trace_granting.proofs.NewNumbers.{ServerNumber, Stayed, Given, server_number, IsHeard, ClientNumber, Gone, Left, Begun, client_number}
use Rattle.trace_granting.proofs.Delivered.{place_other, client_place, to_server_parts, to_client_parts, OldResponse, NewResponse}
use Rattle.trace_granting.proofs.Aged.{IsAged, IsSet}

-- ---- rows that receive a request

receives : (o : Option ServerRow) (a : ℕ) → request_number o ≡ Some a → (state : State) × (row : ℕ × Incoming) × (state_of o ≡ Some state)
    × (receiving (state_of o) ≡ Some row)
receives None a e = absurd (none_some a e)
receives (Some row) a e = by_state row.state refl e where
  by_state : (state : State) → row.state ≡ state → arriving_in state ≡ Some a → (x : State) × (r : ℕ × Incoming) × (state_of (Some row) ≡ Some x)
      × (receiving (state_of (Some row)) ≡ Some r)
  by_state (Receiving service part base count) is f =
      (Receiving service part base count, (service, part), ap (λ (x : State). Some x) is, ap (λ (x : State). receiving (Some x)) is)
  by_state (Held response release) is f = absurd (none_some a f)
  by_state (Replying response out order base count) is f = absurd (none_some a f)
  by_state (Buried until) is f = absurd (none_some a f)

receives_none : (o : Option ServerRow) → request_number o ≡ None → receiving (state_of o) ≡ None
receives_none None e = refl
receives_none (Some row) e = by_state row.state refl e where
  by_state : (state : State) → row.state ≡ state → arriving_in state ≡ None → receiving (Some row.state) ≡ None
  by_state (Receiving service part base count) is f = absurd (none_some part.order (sym f))
  by_state (Held response release) is f = ap (λ (x : State). receiving (Some x)) is
  by_state (Replying response out order base count) is f = ap (λ (x : State). receiving (Some x)) is
  by_state (Buried until) is f = ap (λ (x : State). receiving (Some x)) is

unran_here : (host : HostId) (v : Stand) (o : Option State) (row : ℕ × Incoming) → receiving o ≡ Some row → RowFits host v o → v.ran ≡ false
unran_here host v None row e k = absurd (none_some row e)
unran_here host v (Some (Receiving service part base count)) row e k = k.0
unran_here host v (Some (Held response release)) row e k = absurd (none_some row e)
unran_here host v (Some (Replying response out order base count)) row e k = absurd (none_some row e)
unran_here host v (Some (Buried until)) row e k = absurd (none_some row e)

place_next : (v : View) (n : ℕ) → (seen v (PlainDeliver n)).place ≡ v.place + 1
unfolding seen
place_next v n = refl

module _ (s : Settings) (w : World) (v : View) (n : ℕ) (host : HostId) (h : Host) (stands : host_at w host ≡ Some h) (room : host.0 < length w.hosts)
    (name : h.id ≡ host) (own : (q : CallId) (r : ClientRow) → get h.clients q ≡ Some r → q.client ≡ host)
    (kept : IsKept s w v) (true_to : IsTrue s w v) (set : IsSet v host h) (now : ℕ) (p : Packet) (came : slice_get v.packets n ≡ Some (sent_of p))
    (to : receiver p ≡ host) (answer : Answer) where
  abbrev line : View
  line = seen v (PlainDeliver n)

  abbrev first : Work
  first = begun h now

  abbrev heard : Work
  heard = hears_cutoffs s (sender p) p.inc p.body (begun h now)

  heard_move : IsMove (begun h now) (hears_cutoffs s (sender p) p.inc p.body (begun h now)) [] h.clients h.servers
  heard_move = hears-move s (sender p) p.inc p.body (begun h now)

  heard_order : (hears_cutoffs s (sender p) p.inc p.body (begun h now)).host.order ≡ h.order
  heard_order = (hears_cutoffs-calm s (sender p) p.inc p.body (begun h now)).order

  -- ---- at a server

  module _ (role : p.role ≡ Client) (made : IsMadeTo host (stand w v p.id host)) where
    abbrev NewRow : Type 0
    NewRow = request_number (get h.servers p.id) ≡ None

    abbrev NewLine : Type 0
    NewLine = get v.now.requests p.id ≡ None

    abbrev N : Place → Option ℕ → Type 0
    N = AgedNumber h v host (OfServer p.id) (Unit {0}) (request_number (get h.servers p.id) ≡ None) (Unit {0}) (get v.now.requests p.id ≡ None)

    abbrev Each : Work → Type 0
    Each = IsEach s w line host line.place N
        (number_none h v host (OfServer p.id) (Unit {0}) (request_number (get h.servers p.id) ≡ None) (Unit {0}) (get v.now.requests p.id ≡ None))
        (AgedPart h v host (OfServer p.id) (Unit {0}) (request_number (get h.servers p.id) ≡ None) (Unit {0}) (get v.now.requests p.id ≡ None))
        (part_none h v host (OfServer p.id) (Unit {0}) (request_number (get h.servers p.id) ≡ None) (Unit {0}) (get v.now.requests p.id ≡ None))
        (part_raises h v host (OfServer p.id) (Unit {0}) (request_number (get h.servers p.id) ≡ None) (Unit {0}) (get v.now.requests p.id ≡ None))

    state_here : server_state w p.id host ≡ state_of (get h.servers p.id)
    state_here = ap (λ o. at_host None (λ (g : Host). state_of (get g.servers p.id)) o) stands

    lined_request : IsSameRequest s p.id.client (call_to host made.service made.request) (has_run v host p.id)
        (receiving (state_of (get h.servers p.id))) (get v.now.requests p.id)
    lined_request =
        subst (λ o. IsSameRequest s p.id.client (call_to host made.service made.request) (has_run v host p.id) (receiving o) (get v.now.requests p.id))
        state_here ((true_to.same p.id host).request (call_to host made.service made.request) made.called refl)

    filled : (c : Called) → get v.calls p.id ≡ Some c → has_run v c.server p.id ≡ false → (y : Part) → get v.now.requests p.id ≡ Some y → 0 < len y.arrived
    filled c called unrun y is =
        by_row (receiving (server_state w p.id c.server))
        (subst (IsSameRequest s p.id.client c (has_run v c.server p.id) (receiving (server_state w p.id c.server))) is
        ((true_to.same p.id c.server).request c called refl)) where
          by_row : (o : Option (ℕ × Incoming)) → IsSameRequest s p.id.client c (has_run v c.server p.id) o (Some y) → 0 < len y.arrived
          by_row (Some row) k = k.1.some
          by_row None k = absurd (none_some y (sym (k.0 unrun)))

    ahead : Unit {0} → get v.now.requests p.id ≡ None → (a : ℕ) → number h (OfServer p.id) ≡ Some a → ⊥
    ahead old none a e =
        let r = receives (get h.servers p.id) a e in
        subst (IsSameRequest s p.id.client (call_to host made.service made.request) (has_run v host p.id) (Some r.1)) none
        (subst (λ o. IsSameRequest s p.id.client (call_to host made.service made.request) (has_run v host p.id) o (get v.now.requests p.id)) r.3
        lined_request)

    heard_each : Each heard
    heard_each = each_beside s w line host line.place N _ _ _ _ first heard [] heard_move tt (record {
      numbers = λ q. inr (inl (refl, λ _. tt));
      parts = to_server_parts h v host n (sent_of p) came to (Unit {0}) (request_number (get h.servers p.id) ≡ None) role filled;
      name = name;
      own = own;
      late = omega arith;
      ran = λ q m e. e;
    })

    abbrev did : Did ServerRow
    did = server_gets s (moment s p.id heard) p answer (get heard.host.servers p.id)

    new_number : N (OfServer p.id) (request_number (server_gets s (moment s p.id heard) p answer (get heard.host.servers p.id)).row)
    new_number = by_number (server_number s (moment s p.id heard) p answer (get heard.host.servers p.id)) where
      by_number : ServerNumber heard.host.order (request_number (get heard.host.servers p.id)) (request_number did.row)
          → N (OfServer p.id) (request_number did.row)
      by_number (Stayed is) =
          number_stays N
          (number_none h v host (OfServer p.id) (Unit {0}) (request_number (get h.servers p.id) ≡ None) (Unit {0}) (get v.now.requests p.id ≡ None))
          (OfServer p.id) (request_number (get heard.host.servers p.id)) (request_number did.row) is (heard_each.numbers (OfServer p.id))
      by_number (Given none given) =
          let l : heard.host.order ≤ given.0 = given.2 in
          inr (inr (record {
            at = refl;
            why = ap (λ rows. request_number (get rows p.id)) (sym heard_move.at_servers) ∙ none;
            given = given.0;
            has = given.1;
            late = omega (arith, l, heard_order);
          }))

    row_each : Each (served s p.id did heard)
    row_each = each_served s w line host line.place N _ _ _ _ heard p.id did (gets_own s (moment s p.id heard) p answer (get heard.host.servers p.id))
        new_number heard_each

    taken_each : Each (takes s p answer first)
    unfolding takes
    taken_each = each_acked s w line host line.place N _ _ _ _ (acks p) (comes_to_row s p answer p.role heard)
        (subst (λ (r : Role). Each (comes_to_row s p answer r heard)) (sym role) row_each)

    abbrev work : Work
    work = takes s p answer (begun h now)

    abbrev u : View
    u = said_so_far w line work

    pub server_aged : IsKept s (put w host (takes s p answer (begun h now)))
        (said_so_far w (seen v (PlainDeliver n)) (takes s p answer (begun h now))) → IsAged w (seen v (PlainDeliver n)) host v (takes s p answer (begun h now))
    server_aged later =
        let next : line.place ≡ v.place + 1 = place_next v n in
        let late : line.place ≤ u.place = taken_each.late in
        record {
          order = order_here h v host (OfServer p.id) (Unit {0}) NewRow (Unit {0}) NewLine set.order set.below set.placed work.host u.now
              taken_each.numbers taken_each.parts.now ahead behind;
          elsewhere = λ m g apart same. order_elsewhere h v host (OfServer p.id) (Unit {0}) NewRow (Unit {0}) NewLine m g u.now apart same taken_each.parts.now;
          placed = placed_later h v host (OfServer p.id) (Unit {0}) NewRow (Unit {0}) NewLine set.placed u.now u.place (omega (arith, next, late))
              (λ _. omega (arith, next, late)) taken_each.parts.now;
        } where
          behind : NewRow → Unit {0} → (y : Part) → part_in v.now (OfServer p.id) ≡ Some y → (a : ℕ) → number work.host (OfServer p.id) ≡ Some a → ⊥
          behind none old y is a e = by_ran (cases_Bool (has_run v host p.id)) where
            r : (state : State) × (row : ℕ × Incoming) × (state_of (get (takes s p answer (begun h now)).host.servers p.id) ≡ Some state)
                × (receiving (state_of (get (takes s p answer (begun h now)).host.servers p.id)) ≡ Some row)
            r = receives (get work.host.servers p.id) a e

            unran : has_run u host p.id ≡ false
            unran = unran_here host (amid w line host work p.id host) (amid w line host work p.id host).server r.1
                (ap receiving (server_there w line host work p.id room) ∙ r.3) (later.calls p.id host).row

            k : IsSameRequest s p.id.client (call_to host made.service made.request) (has_run v host p.id) None (Some y)
            k = subst (IsSameRequest s p.id.client (call_to host made.service made.request) (has_run v host p.id) None) is
                (subst (λ o. IsSameRequest s p.id.client (call_to host made.service made.request) (has_run v host p.id) o (get v.now.requests p.id))
                (receives_none (get h.servers p.id) none) lined_request)

            same_run : has_run v host p.id ≡ true → has_run line host p.id ≡ true
            same_run f = ran_same v line host p.id (unrun_same v (PlainDeliver n) tt) ∙ f

            by_ran : (has_run v host p.id ≡ true) ⊎ (has_run v host p.id ≡ false) → ⊥
            by_ran (inr f) = none_some y (sym (k.0 f))
            by_ran (inl f) = true≢false (sym (taken_each.ran p.id host (same_run f)) ∙ unran)

  -- ---- at a client

  module _ (role : p.role ≡ Server) (mine : p.id.client ≡ host) where
    abbrev OldMine : Type 0
    OldMine = (r : ClientRow) → get h.clients p.id ≡ Some r → IsHeard p r → nat_lt r.seen p.inc ≡ true → ⊥

    abbrev NewMine : Type 0
    NewMine = (r : ClientRow) × (get h.clients p.id ≡ Some r) × IsHeard p r × ((response_order r ≡ None) ⊎ (nat_lt r.seen p.inc ≡ true))

    abbrev OldPart : Type 0
    OldPart = OldResponse h v host n (sent_of p) came to

    abbrev NewPart : Type 0
    NewPart = NewResponse h v host n (sent_of p) came to

    abbrev M : Place → Option ℕ → Type 0
    M = AgedNumber h v host (OfClient p.id) OldMine NewMine OldPart NewPart

    abbrev none_m : (q : Place) → AgedNumber h v host (OfClient p.id) OldMine NewMine OldPart NewPart q None
    none_m = number_none h v host (OfClient p.id) OldMine NewMine OldPart NewPart

    abbrev Every : Work → Type 0
    Every = IsEach s w line host line.place M (number_none h v host (OfClient p.id) OldMine NewMine OldPart NewPart)
        (AgedPart h v host (OfClient p.id) OldMine NewMine OldPart NewPart)
        (part_none h v host (OfClient p.id) OldMine NewMine OldPart NewPart) (part_raises h v host (OfClient p.id) OldMine NewMine OldPart NewPart)

    row_here : client_row w p.id ≡ get h.clients p.id
    row_here = ap (λ o. at_host None (λ (g : Host). get g.clients p.id) o) (ap (host_at w) mine ∙ stands)

    response_here : IsSameResponse s v p.id (get h.clients p.id) (get v.now.responses p.id)
    response_here = subst (λ o. IsSameResponse s v p.id o (get v.now.responses p.id)) row_here (true_to.same p.id host).response

    filled_response : (y : Part) → get v.now.responses p.id ≡ Some y → 0 < len y.arrived
    filled_response y is = by_row (get h.clients p.id) (subst (IsSameResponse s v p.id (get h.clients p.id)) is response_here) where
      by_row : (o : Option ClientRow) → IsSameResponse s v p.id o (Some y) → 0 < len y.arrived
      by_row None k = absurd (none_some y (sym k))
      by_row (Some r) k = by_part r.part k where
        by_part : (o : Option Incoming) → IsSamePiece s v p.id r.server r.seen o (Some y) → 0 < len y.arrived
        by_part None k = absurd (none_some y (sym k))
        by_part (Some q) k = k.2.some

    module _ (r : ClientRow) (is : get h.clients p.id ≡ Some r) where
      live_is : get v.now.live p.id ≡ Some r.seen
      live_is = (true_to.same p.id host).live ∙ ap (option_map (λ (x : ClientRow). x.seen)) (row_here ∙ is)

      piece_is : IsSamePiece s v p.id r.server r.seen r.part (get v.now.responses p.id)
      piece_is = subst (λ o. IsSameResponse s v p.id o (get v.now.responses p.id)) is response_here

      called : get v.calls p.id ≡ Some (called_by r)
      called = ((kept.calls p.id host).client r (row_here ∙ is)).called

      counts_is : counts (lines.begun v) (came_only v (sent_of p)) (sent_of p) ≡ (is_host r.server (sender p) && nat_le r.seen p.inc)
      counts_is =
          counts_by v (came_only v (sent_of p)) (sent_of p) (is_host r.server (sender p)) (nat_le r.seen p.inc)
          (ap (λ o. option_map_or (λ (c : Called). is_host c.server (sender p)) o false) called)
          (ap (λ o. option_map_or (λ latest. nat_le latest p.inc) o false) live_is) (ap is_server role)
          ((hosts_are (receiver_of p.role p.id p.server) p.id.client).1 (ap (λ (x : Role). receiver_of x p.id p.server) role))

      heard_counts : IsHeard p r → counts (lines.begun v) (came_only v (sent_of p)) (sent_of p) ≡ true
      heard_counts k =
          counts_is ∙ ap (λ a. a && nat_le r.seen p.inc) ((hosts_are r.server (sender p)).1 (sym ((hosts_are (sender p) r.server).0 k.from)))
          ∙ le-leb r.seen p.inc (ltb-false p.inc r.seen k.latest)

      counts_heard : counts (lines.begun v) (came_only v (sent_of p)) (sent_of p) ≡ true → IsHeard p r
      counts_heard e =
          let k = and_parts (is_host r.server (sender p)) (nat_le r.seen p.inc) (sym counts_is ∙ e) in
          record {
            from = (hosts_are (sender p) r.server).1 (sym ((hosts_are r.server (sender p)).0 k.0));
            latest = false_from_ne_true (nat_lt p.inc r.seen) (λ f. absurd (omega (arith, ltb-true p.inc r.seen f, leb-true r.seen p.inc k.1)));
          }

      later_is : nat_lt (unwrap_or (get v.now.live p.id) 0) p.inc ≡ nat_lt r.seen p.inc
      later_is = ap (λ o. nat_lt (unwrap_or o 0) p.inc) live_is

    ahead_mine : OldMine → NewPart → (a : ℕ) → number h (OfClient p.id) ≡ Some a → ⊥
    ahead_mine old new a e = by_row (get h.clients p.id) refl e where
      by_row : (o : Option ClientRow) → get h.clients p.id ≡ o → response_number o ≡ Some a → ⊥
      by_row None is e = none_some a e
      by_row (Some r) is e = by_part r.part refl e new.1 where
        by_part : (o : Option Incoming) → r.part ≡ o → option_map (λ (q : Incoming). q.order) o ≡ Some a
            → (get v.now.responses p.id ≡ None) ⊎ (nat_lt (unwrap_or (get v.now.live p.id) 0) p.inc ≡ true) → ⊥
        by_part None f g why = none_some a g
        by_part (Some q) f g (inl none) =
            subst (IsSamePiece s v p.id r.server r.seen (Some q)) none
            (subst (λ o. IsSamePiece s v p.id r.server r.seen o (get v.now.responses p.id)) f (piece_is r is))
        by_part (Some q) f g (inr later) = old r is (counts_heard r is new.0) (sym (later_is r is) ∙ later)

    behind_mine : NewMine → OldPart → (y : Part) → part_in v.now (OfClient p.id) ≡ Some y → ⊥
    behind_mine new old y stood = by_first new.3 where
      by_first : (response_order new.0 ≡ None) ⊎ (nat_lt (new.0).seen p.inc ≡ true) → ⊥
      by_first (inr later) = old (heard_counts new.0 new.1 new.2) (later_is new.0 new.1 ∙ later)
      by_first (inl none) = by_part (new.0).part refl none where
        by_part : (o : Option Incoming) → (new.0).part ≡ o → option_map (λ (q : Incoming). q.order) o ≡ None → ⊥
        by_part (Some q) f g = none_some q.order (sym g)
        by_part None f g =
            none_some y (sym (subst (λ o. IsSamePiece s v p.id (new.0).server (new.0).seen o (get v.now.responses p.id)) f (piece_is new.0 new.1)) ∙ stood)

    -- as long as the row hasn't got the packet, nothing is said of its number
    abbrev Early : Place → Option ℕ → Type 0
    Early q x = (q ≡ OfClient p.id) ⊎ AgedNumber h v host (OfClient p.id) OldMine NewMine OldPart NewPart q x

    early_none : (q : Place) → (q ≡ OfClient p.id) ⊎ AgedNumber h v host (OfClient p.id) OldMine NewMine OldPart NewPart q None
    early_none q = inr (inl refl)

    abbrev EachEarly : Work → Type 0
    EachEarly = IsEach s w line host line.place Early early_none (AgedPart h v host (OfClient p.id) OldMine NewMine OldPart NewPart)
        (part_none h v host (OfClient p.id) OldMine NewMine OldPart NewPart) (part_raises h v host (OfClient p.id) OldMine NewMine OldPart NewPart)

    early_first : (q : Place) → (q ≡ OfClient p.id) ⊎ AgedNumber h v host (OfClient p.id) OldMine NewMine OldPart NewPart q (number h q)
    early_first (OfServer q) = inr (inr (inl (refl, λ e. absurd (place_other q p.id e))))
    early_first (OfClient q) = by_call (cases_Bool (is_call q p.id)) where
      by_call : (is_call q p.id ≡ true) ⊎ (is_call q p.id ≡ false)
          → (OfClient q ≡ OfClient p.id) ⊎ AgedNumber h v host (OfClient p.id) OldMine NewMine OldPart NewPart (OfClient q) (number h (OfClient q))
      by_call (inl e) = inl (ap OfClient ((calls_are q p.id).0 e))
      by_call (inr e) = inr (inr (inl (refl, λ f. absurd (true≢false (sym (client_place q p.id f) ∙ e)))))

    heard_early : EachEarly heard
    heard_early = each_beside s w line host line.place Early _ _ _ _ first heard [] heard_move tt (record {
      numbers = early_first;
      parts = to_client_parts h v host n (sent_of p) came to OldMine NewMine role filled_response;
      name = name;
      own = own;
      late = omega arith;
      ran = λ q m e. e;
    })

    abbrev did_ask : Did ClientRow
    did_ask = client_gets s (moment s p.id heard) p (get heard.host.clients p.id)

    rows_are : get heard.host.clients p.id ≡ get h.clients p.id
    rows_are = ap (λ (rows : RowsOf ClientRow). get rows p.id) heard_move.at_clients

    new_mine : M (OfClient p.id) (response_number (client_gets s (moment s p.id heard) p (get heard.host.clients p.id)).row)
    new_mine = by_number (client_number s (moment s p.id heard) p (get heard.host.clients p.id)) where
      by_number : ClientNumber heard.host.order p (get heard.host.clients p.id) (response_number did_ask.row) → M (OfClient p.id) (response_number did_ask.row)
      by_number (Gone is) = inl is
      by_number (Left r row is why) =
          inr (inl (
            is ∙ sym (ap response_number (sym rows_are ∙ row)),
            λ _ x at k later.
                let same : r ≡ x = some_is r x (sym row ∙ rows_are ∙ at) in
                why (subst (IsHeard p) (sym same) k) (ap (λ (y : ClientRow). nat_lt y.seen p.inc) same ∙ later),
          ))
      by_number (Begun r row k begins given) =
          let l : heard.host.order ≤ given.0 = given.2 in
          inr (inr (record { at = refl; why = (r, sym rows_are ∙ row, k, begins); given = given.0; has = given.1; late = omega (arith, l, heard_order) }))

    asked_early : EachEarly (asked s p.id p.server did_ask heard)
    asked_early = each_asked s w line host line.place Early _ _ _ _ heard p.id p.server did_ask mine
        (gets_quiet s (moment s p.id heard) p (get heard.host.clients p.id)).0 (inl refl) heard_early

    asked_every : Every (asked s p.id p.server did_ask heard)
    asked_every = record {
      numbers = λ q. at_place q (asked_early.numbers q);
      parts = asked_early.parts;
      name = asked_early.name;
      own = asked_early.own;
      late = asked_early.late;
      ran = asked_early.ran;
    } where
      new : Host
      new = (asked s p.id p.server did_ask heard).host

      row_now : get new.clients p.id ≡ did_ask.row
      row_now = ap (λ (rows : RowsOf ClientRow). get rows p.id) (asked-clients s p.id p.server did_ask heard) ∙ get-set_row heard.host.clients p.id did_ask.row

      at_place : (q : Place) → (q ≡ OfClient p.id) ⊎ AgedNumber h v host (OfClient p.id) OldMine NewMine OldPart NewPart q
          (number (asked s p.id p.server did_ask heard).host q) → M q (number (asked s p.id p.server did_ask heard).host q)
      at_place q (inr k) = k
      at_place q (inl e) = subst (λ (x : Place). M x (number new x)) (sym e) (subst (λ o. M (OfClient p.id) (response_number o)) (sym row_now) new_mine)

    taken_every : Every (takes s p answer first)
    unfolding takes
    taken_every = each_acked s w line host line.place M _ _ _ _ (acks p) (comes_to_row s p answer p.role heard)
        (subst (λ (r : Role). Every (comes_to_row s p answer r heard)) (sym role) asked_every)

    pub client_aged : IsAged w (seen v (PlainDeliver n)) host v (takes s p answer (begun h now))
    client_aged =
        let work : Work = takes s p answer (begun h now) in
        let u : View = said_so_far w line work in
        let next : line.place ≡ v.place + 1 = place_next v n in
        let late : line.place ≤ u.place = taken_every.late in
        record {
          order = order_here h v host (OfClient p.id) OldMine NewMine OldPart NewPart set.order set.below set.placed work.host u.now
              taken_every.numbers taken_every.parts.now ahead_mine (λ new old y stood _ _. behind_mine new old y stood);
          elsewhere = λ m g apart same. order_elsewhere h v host (OfClient p.id) OldMine NewMine OldPart NewPart m g u.now apart same taken_every.parts.now;
          placed = placed_later h v host (OfClient p.id) OldMine NewMine OldPart NewPart set.placed u.now u.place (omega (arith, next, late))
              (λ _. omega (arith, next, late)) taken_every.parts.now;
        }
