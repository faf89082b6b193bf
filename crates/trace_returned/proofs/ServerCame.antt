-- A packet of its client comes to a call's server: what the lines say of messages stays true.
use Rattle.std.proofs.Common.{◌≡◌, ℕ, ◌+◌, ◌≤◌, ◌<◌, Bool, true, false, Option, Some, None, List, length, cond, refl, sym, ap, subst, ◌∙◌, arith}
use Rattle.std.specs.Prelude.{slice_get, unwrap_or}
use Rattle.std.specs.Option.{option_map_or}
use Rattle.std.specs.List.{AllByRecursion}
use Rattle.std.proofs.lemmas.Bool.{true≢false}
use Rattle.plain_sets.specs.Maps.{get}
use Rattle.homa_plain.specs.declared.id.CallId.{CallId}
use Rattle.homa_plain.specs.declared.id.HostId.{HostId}
use Rattle.homa_plain.specs.declared.packet.Role.TheVariants.{Client}
use Rattle.homa_plain.specs.declared.packet.Role.{Role}
use Rattle.homa_plain.specs.declared.packet.Body.{Body}
use Rattle.homa_plain.specs.declared.packet.Body.TheVariants as body
use Rattle.homa_plain.specs.declared.settings.Settings.{Settings}
use Rattle.homa_plain.specs.Entries.{PlainDeliver}
use Rattle.homa_plain.specs.Incoming.{Incoming}
use Rattle.homa_plain.specs.Packets.{Packet, receiver_of}
use Rattle.trace_rules.specs.Parts.{Part, grown}
use Rattle.trace_rules.specs.Parts as parts
use Rattle.homa_plain.specs.Rows.{ServerRow, State, Receiving, Held, Replying, Buried}
use Rattle.homa_plain.specs.Rules.{Moment, Answer, Did}
use Rattle.homa_plain.specs.AtServer.{server_gets, row_gets, receiving_gets, unknown_gets, piece_of}
use Rattle.homa_plain.specs.Work.{Work}
use Rattle.homa_plain.specs.Steps.{moment, served}
use Rattle.trace_rules.specs.View.{View, Progress, Called, Ends, no_ends, has_run}
use Rattle.trace_rules.specs.Seen.{seen}
use Rattle.homa_plain.specs.World.{World}
use Rattle.homa_plain.proofs.CallOrder.{calls_are, hosts_are}
use Rattle.trace_steps.specs.Told.{IsTold, sent_of}
use Rattle.step_laws.proofs.Own.{gets_own}
use Rattle.trace_steps.proofs.Progress.{get-set}
use Rattle.trace_steps.proofs.Runs.{ran_same, unrun_same}
use Rattle.trace_steps.specs.Stands.{Stand, state_of, put, said_so_far, amid}
use Rattle.trace_steps.specs.Contents.{IsSlice}
use Rattle.trace_steps.specs.Arrived.{IsSamePart}
use Rattle.trace_steps.proofs.Frame.{server_there}
use Rattle.trace_once.specs.Lifetime.{times, span, expiry, gone_since, call_to, IsRequestPiece, RequestFits, Fits, RowFits}
use Rattle.trace_once.proofs.ServerRules.{ServerKeeps, row_is}
use Rattle.trace_once.proofs.ServerTable.{server_gets_keeps}
use Rattle.trace_once.proofs.Amid.{IsAmid}
use Rattle.trace_once.proofs.ServedCame.{served_came}
use Rattle.trace_once.proofs.Restarted.{deliver_calls}
use Rattle.trace_returned.specs.Tales.{tale, IsTruthful, IsSameRequest, IsSame, IsClosed, IsTrue, receiving}
use Rattle.trace_returned.proofs.StillRules.{StillServed, IsOther, unknown_still, receiving_still, held_still, replying_still, buried_still}
use Rattle.trace_returned.proofs.Pieces.{RequestTaken, Gapped, Unheld, Unpaged, Taken, Ran, piece_taken, opens_taken}
use Rattle.trace_returned.proofs.Calm.{tale_is}
use Rattle.trace_returned.proofs.TrueMoves.{served_still}
use Rattle.trace_returned.proofs.Deliver.{came_only, Begins, client_other, client_ran, new_request, request_admitted, client_piece, plain_of, request_of}
use Rattle.trace_returned.proofs.RequestBlock.{Comes, request_comes}
use Rattle.trace_returned.proofs.Saying.{AreUndone, calm_undone, HasSaid, IsSaying, served_saying}

-- ---- rules

module _ (s : Settings) (m : Moment) (p : Packet) (answer : Answer) where
  row_still : (row : ServerRow) (state : State) → row.state ≡ state → receiving (Some state) ≡ None
      → StillServed (Some state) (row_gets s m p.id p.body p.payload answer row state)
  row_still row (Receiving service part base count) is e = cc
  row_still row (Held response release) is e =
      subst (λ (x : State). StillServed (Some x) (row_gets s m p.id p.body p.payload answer row (Held response release))) is (held_still s m p.id p.body row)
  row_still row (Replying response out order base count) is e = replying_still s m p.id p.body row response out order base count is
  row_still row (Buried until) is e =
      subst (λ (x : State). StillServed (Some x) (row_gets s m p.id p.body p.payload answer row (Buried until))) is (buried_still s m p.id p.body row)

  -- a row that isn't receiving
  ran_still : (row : ServerRow) → receiving (Some row.state) ≡ None → StillServed (Some row.state) (server_gets s m p answer (Some row))
  unfolding server_gets
  ran_still row e = row_still row row.state refl e

  by_state : (row : ServerRow) (state : State) → row.state ≡ state → IsOther p.body
      → StillServed (Some state) (row_gets s m p.id p.body p.payload answer row state)
  by_state row (Receiving service part base count) is other = receiving_still s m p.id p.body p.payload answer row service part base count is other
  by_state row state is other = row_still row state is refl

  -- a packet that is no piece
  other_still : IsOther p.body → (o : Option ServerRow) → StillServed (state_of o) (server_gets s m p answer o)
  unfolding server_gets
  other_still other None = unknown_still s m p.id p.body p.payload answer other
  other_still other (Some row) = by_state row row.state refl other

-- a row that is receiving, and none
gets_receiving : (s : Settings) (m : Moment) (p : Packet) (answer : Answer) (row : ServerRow) (service : ℕ) (part : Incoming) (base count : ℕ)
    → row.state ≡ Receiving service part base count
    → server_gets s m p answer (Some row) ≡ receiving_gets s m p.id p.body p.payload answer row service part base
unfolding server_gets
gets_receiving s m p answer row service part base count at = ap (row_gets s m p.id p.body p.payload answer row) at

gets_unknown : (s : Settings) (m : Moment) (p : Packet) (answer : Answer) → server_gets s m p answer None ≡ unknown_gets s m p.id p.body p.payload answer
unfolding server_gets
gets_unknown s m p answer = refl

request_undone : (s : Settings) (h : HostId) (id : CallId) (service : ℕ) (request : List ℕ) (answer : Answer) (d : Did ServerRow) (o : Option State)
    (new : Part) → RequestTaken s h id service request answer d o new → AreUndone d.says
request_undone s h id service request answer d o new (Gapped says stays) = subst AreUndone (sym says) (tt, tt)
request_undone s h id service request answer d o new (Unheld n m says stays) = subst AreUndone (sym says) (tt, tt)
request_undone s h id service request answer d o new (Unpaged n m says stays) = subst AreUndone (sym says) (tt, tt)
request_undone s h id service request answer d o new (Taken says part base count state same) = subst AreUndone (sym says) tt
request_undone s h id service request answer d o new (Ran says none held whole) = subst AreUndone (sym says) (tt, tt)

pub plain_closed : (u : View) → u.here ≡ no_ends → u.now.due ≡ no_ends → IsClosed u
plain_closed u here due = record {
  runs = ap (λ (e : Ends). e.runs) here ∙ ap (λ (e : Ends). e.runs) (sym due);
  dones = ap (λ (e : Ends). e.dones) here ∙ ap (λ (e : Ends). e.dones) (sym due);
  forgotten = ap (λ (e : Ends). e.forgotten) here ∙ ap (λ (e : Ends). e.forgotten) (sym due);
}

-- ---- behind the line of the delivery

module _ (s : Settings) (w : World) (v : View) (n : ℕ) (host : HostId) (now : ℕ) (stands : host.0 < length w.hosts) where
  -- the view behind the line
  abbrev pub line_view : View
  line_view = seen v (PlainDeliver n)

  -- the rows are as they were, and what the lines said of the calls before the delivery is true of them
  pub record IsBefore (work : Work) : Type 0 where
    pub told : IsTold s (put w host work) (said_so_far w line_view work)
    pub view : said_so_far w line_view work ≡ line_view
    pub same : (q : CallId) (m : HostId) → IsSame s (said_so_far w line_view work) q m (amid w line_view host work q m) (tale v.now q)
    pub packets : AllByRecursion (IsTruthful (said_so_far w line_view work)) (put w host work).packets
    pub returned : HasSaid s w line_view host now stands work
    pub amid : IsAmid s w line_view host now work

  module _ (p : Packet) (came : slice_get v.packets n ≡ Some (sent_of p)) (work : Work) (b : IsBefore work) where
    -- a delivery that changes nothing
    pub plain_true : Begins line_view (came_only v (sent_of p)) (came_only v (sent_of p)) → IsTrue s (put w host work) (said_so_far w line_view work)
    plain_true begins =
        let u : View = said_so_far w line_view work in
        let now_begins : Begins (said_so_far w line_view work) (came_only v (sent_of p)) (came_only v (sent_of p)) =
        subst (λ (x : View). Begins x (came_only v (sent_of p)) (came_only v (sent_of p))) (sym b.view) begins in
        let plain = plain_of v (sent_of p) u now_begins in
        record {
          same = λ q m. subst (IsSame s (said_so_far w line_view work) q m (amid w line_view host work q m)) (sym (plain.0 q)) (b.same q m);
          packets = b.packets;
          level = plain.1;
          closed = plain_closed u now_begins.here (ap (λ (x : Progress). x.due) now_begins.now);
        }

    module _ (t : ℕ) (answer : Answer) (settings : v.settings ≡ s) (fresh : w.clock ≤ t + (times s).life) (role : p.role ≡ Client)
        (to : p.server ≡ host) (fits : Fits (times s) host (amid w line_view host work p.id host) t Client p.body p.payload) where
      abbrev did : Did ServerRow
      did = server_gets s (moment s p.id work) p answer (get work.host.servers p.id)

      abbrev x : Stand
      x = amid w line_view host work p.id host

      keeps : ServerKeeps (times s) host (amid w line_view host work p.id host) (server_gets s (moment s p.id work) p answer (get work.host.servers p.id))
      keeps =
          server_gets_keeps (times s) host (amid w line_view host work p.id host) s (moment s p.id work) p t answer (get work.host.servers p.id)
          (b.amid.kept.calls p.id host) (server_there w line_view host work p.id stands) fresh fits

      after : IsAmid s w line_view host now (served s p.id (server_gets s (moment s p.id work) p answer (get work.host.servers p.id)) work)
      after =
          (served_came s w line_view host now stands work p.id did b.amid (gets_own s (moment s p.id work) p answer (get work.host.servers p.id)) keeps).amid

      -- a rule that leaves what has arrived
      still : Begins line_view (came_only v (sent_of p)) (came_only v (sent_of p)) → StillServed (state_of (get work.host.servers p.id)) did
          → IsSaying s w line_view host now stands (served s p.id did work)
      still begins k =
          let own = gets_own s (moment s p.id work) p answer (get work.host.servers p.id) in
          let same = served_still s w line_view host now stands work p.id did b.amid own keeps after
          (subst (λ o. StillServed o did) (sym (server_there w line_view host work p.id stands)) k) (plain_true begins) in
          served_saying s w line_view host now stands work p.id did own b.told b.returned after same (calm_undone did.says k.calm)

      other_came : IsOther p.body → IsSaying s w line_view host now stands (served s p.id did work)
      other_came other = still (client_other v n (sent_of p) came role other) (other_still s (moment s p.id work) p answer other (get work.host.servers p.id))

      -- ---- a piece of the request

      module _ (size offset version service : ℕ) (ack : Option (ℕ × ℕ)) (what : p.body ≡ body.Data size offset version service ack)
          (piece : IsRequestPiece (times s) host (amid w line_view host work p.id host) t size offset service p.payload) where
        abbrev c : Called
        c = call_to host service piece.request

        called : get v.calls p.id ≡ Some (call_to host service piece.request)
        called = ap (λ m. get m p.id) (sym (deliver_calls v n)) ∙ ap (λ (y : View). get y.calls p.id) (sym b.view) ∙ piece.called

        ran_is : has_run v host p.id ≡ (amid w line_view host work p.id host).ran
        ran_is = sym (ran_same v (seen v (PlainDeliver n)) host p.id (unrun_same v (PlainDeliver n) tt)) ∙ ap (λ (y : View). has_run y host p.id) (sym b.view)

        slice : IsSlice piece.request size offset p.payload
        slice = record { whole = piece.whole; some = piece.some; within = piece.within; bytes = piece.bytes }

        -- for a call that ran: a row that isn't receiving stands
        unrun : (ran : Bool) → x.last ≤ x.clock + (times s).band → x.clock ≤ t + (times s).life
            → ((y : ℕ) → gone_since ran x.last ≡ Some y → t + span (times s) < y) → ran ≡ true → ⊥
        unrun false last fresh f e = true≢false (sym e)
        unrun true last fresh f e = omega (arith, last, fresh, f x.last refl)

        row_fits : (o : Option ServerRow) → get work.host.servers p.id ≡ o → RowFits host x (state_of o)
        row_fits o is = row_is (times s) host x (state_of o) (b.amid.kept.calls p.id host) (server_there w line_view host work p.id stands ∙ ap state_of is)

        ran_state : (state : State) → x.ran ≡ true → RowFits host x (Some state) → receiving (Some state) ≡ None
        ran_state (Receiving service' part base count) e f = absurd (true≢false (sym e ∙ f.0))
        ran_state (Held response release) e f = refl
        ran_state (Replying response out order base count) e f = refl
        ran_state (Buried until) e f = refl

        ran_row : (o : Option ServerRow) → get work.host.servers p.id ≡ o → x.ran ≡ true
            → StillServed (state_of o) (server_gets s (moment s p.id work) p answer o)
        ran_row None is e =
            let none : x.server ≡ None = server_there w line_view host work p.id stands ∙ ap state_of is in
            absurd (unrun x.ran (b.amid.kept.calls p.id host).last fresh (λ y g. piece.covered y (ap (expiry x.ran x.last) none ∙ g)) e)
        ran_row (Some row) is e = ran_still s (moment s p.id work) p answer row (ran_state row.state e (row_fits (Some row) is))

        ran_came : x.ran ≡ true → IsSaying s w line_view host now stands (served s p.id did work)
        ran_came e =
            still (client_ran v n (sent_of p) came size offset version service ack what role c called (ran_is ∙ e))
            (ran_row (get work.host.servers p.id) refl e)

        -- for one that hasn't run: the row is receiving, or none stands
        abbrev new : Part
        new = new_request v n (sent_of p) came size offset version service ack what role c called

        abbrev admits : Progress
        admits = request_admitted v n (sent_of p) came size offset version service ack what role c called

        begins : x.ran ≡ false
            → Begins (said_so_far w line_view work) (request_admitted v n (sent_of p) came size offset version service ack what role c called)
            (came_only v (sent_of p))
        begins e =
            subst (λ (y : View). Begins y (request_admitted v n (sent_of p) came size offset version service ack what role c called)
            (came_only v (sent_of p))) (sym b.view)
            (client_piece v n (sent_of p) came size offset version service ack what role c called
            ((hosts_are (receiver_of p.role p.id p.server) host).1 to_host) (ran_is ∙ e)) where
              to_host : receiver_of p.role p.id p.server ≡ host
              to_host = ap (λ (r : Role). receiver_of r p.id p.server) role ∙ to

        comes : x.ran ≡ false → option_map_or parts.is_whole (get v.now.requests p.id) false ≡ false
            → (unwrap_or (get v.now.requests p.id) (parts.opened c.server p.id.client (length c.request) v.settings.unsched)).peer ≡ p.id.client
            → Comes s w line_view host now stands work p.id did b.amid (gets_own s (moment s p.id work) p answer (get work.host.servers p.id)) keeps
            after (sent_of p) c admits (came_only v (sent_of p)) (get v.now.requests p.id) new
        comes e missing peer =
            let u : View = said_so_far w line_view work in
            let z = begins e in
            let rest = request_of v (sent_of p) u new _ z in
            let live : get u.now.live p.id ≡ get v.now.live p.id = ap (λ (m : Progress). get m.live p.id) z.now in
            let response : get u.now.responses p.id ≡ get v.now.responses p.id = ap (λ (m : Progress). get m.responses p.id) z.now in
            let before : tale v.now p.id ≡ record { live = get u.now.live p.id; request = get v.now.requests p.id; response = get u.now.responses p.id } =
            tale_is _ _ (sym live) refl (sym response) in
            record {
              begins = z;
              level = rest.level;
              came = (refl, refl, ap (λ (r : Role). receiver_of r p.id p.server) role ∙ to);
              due = (refl, refl);
              before = before;
              admitted = tale_is _ _ (sym live)
                  (get-set v.now.requests p.id new p.id ∙ ap (λ t. cond t (Some new) (get v.now.requests p.id)) ((calls_are p.id p.id).1 refl)) (sym response);
              others = λ q f. sym (rest.others q f);
              itself = λ m. subst (IsSame s u p.id m (amid w line_view host work p.id m)) before (b.same p.id m);
              else_same = λ q m f. subst (IsSame s u q m (amid w line_view host work q m)) (sym (rest.others q f)) (b.same q m);
              packets = b.packets;
              called = piece.called;
              server = refl;
              unran = e;
              missing = missing;
              peer = peer;
            }

        take : x.ran ≡ false → option_map_or parts.is_whole (get v.now.requests p.id) false ≡ false
            → (unwrap_or (get v.now.requests p.id) (parts.opened c.server p.id.client (length c.request) v.settings.unsched)).peer ≡ p.id.client
            → RequestTaken s work.host.id p.id service c.request answer did x.server new → IsSaying s w line_view host now stands (served s p.id did work)
        take e missing peer taken =
            let own = gets_own s (moment s p.id work) p answer (get work.host.servers p.id) in
            let same = request_comes s w line_view host now stands work p.id did b.amid own keeps after (sent_of p) c admits (came_only v (sent_of p))
            (get v.now.requests p.id) new (comes e missing peer) service answer refl taken in
            served_saying s w line_view host now stands work p.id did own b.told b.returned after same
            (request_undone s work.host.id p.id service c.request answer did x.server new taken)

        -- what the lines have of the request, by the row
        had : (state : Option State) → x.server ≡ state → IsSameRequest s p.id.client c x.ran (receiving state) (get v.now.requests p.id)
        had state is =
            subst (λ o. IsSameRequest s p.id.client c x.ran (receiving o) (get v.now.requests p.id)) is ((b.same p.id host).request c piece.called refl)

        piece_for : (o : Option Part) → get v.now.requests p.id ≡ o → (row : ServerRow) (service' : ℕ) (part : Incoming) (base count : ℕ)
            → row.state ≡ Receiving service' part base count → get work.host.servers p.id ≡ Some row
            → IsSameRequest s p.id.client c x.ran (Some (service', part)) o → x.ran ≡ false → IsSaying s w line_view host now stands (served s p.id did work)
        piece_for None is row service' part base count at stood k e = absurd k
        piece_for (Some q) is row service' part base count at stood k e =
            let m : Moment = moment s p.id work in
            let peer = ap (λ o. (unwrap_or o (parts.opened c.server p.id.client (length c.request) v.settings.unsched)).peer) is ∙ k.2 in
            let fit : RequestTaken s work.host.id p.id service' c.request answer
            (receiving_gets s m p.id (body.Data size offset version service ack) p.payload answer row service' part base)
            (Some (Receiving service' part base count)) (grown v.place offset (offset + length p.payload) q) =
            piece_taken s m p.id c.request answer service' part q base count v.place row (piece_of size offset version service p.payload) k.0
            (subst (λ (h : HostId). IsSamePart s h c.request part q) (sym b.amid.name) k.1) slice in
            let rule = gets_receiving s m p answer row service' part base count at
            ∙ ap (λ (y : Body). receiving_gets s m p.id y p.payload answer row service' part base) what in
            let done = subst (λ (d : Did ServerRow). RequestTaken s work.host.id p.id service' c.request answer d
            (Some (Receiving service' part base count)) (grown v.place offset (offset + length p.payload) q))
            (sym (ap (server_gets s m p answer) stood ∙ rule)) fit in
            let here : x.server ≡ Some (Receiving service' part base count) =
            server_there w line_view host work p.id stands ∙ ap state_of stood ∙ ap (λ (y : State). Some y) at in
            let part_is : grown v.place offset (offset + length p.payload) q ≡ new =
            ap (λ o. grown v.place offset (offset + length p.payload)
            (unwrap_or o (parts.opened c.server p.id.client (length c.request) v.settings.unsched))) (sym is) in
            take e (ap (λ o. option_map_or parts.is_whole o false) is ∙ k.1.missing) peer
            (subst (λ (y : Part). RequestTaken s work.host.id p.id service c.request answer did x.server y) part_is
            (subst (λ o. RequestTaken s work.host.id p.id service c.request answer did o (grown v.place offset (offset + length p.payload) q)) (sym here)
            (subst (λ (i : ℕ). RequestTaken s work.host.id p.id i c.request answer did (Some (Receiving service' part base count))
            (grown v.place offset (offset + length p.payload) q)) k.0 done)))

        unran_row : (o : Option ServerRow) → get work.host.servers p.id ≡ o → x.ran ≡ false → IsSaying s w line_view host now stands (served s p.id did work)
        unran_row None is e =
            let m : Moment = moment s p.id work in
            let here : x.server ≡ None = server_there w line_view host work p.id stands ∙ ap state_of is in
            let none : get v.now.requests p.id ≡ None = (had None here).0 e in
            let missing = ap (λ o. option_map_or parts.is_whole o false) none in
            let peer = ap (λ o. (unwrap_or o (parts.opened c.server p.id.client (length c.request) v.settings.unsched)).peer) none in
            let fit = opens_taken s m p.id c.request answer v.place (piece_of size offset version service p.payload) b.told.valid.unsched slice in
            let first : Part = parts.opened work.host.id p.id.client size s.unsched in
            let first_is : first ≡ unwrap_or (get v.now.requests p.id) (parts.opened c.server p.id.client (length c.request) v.settings.unsched) =
            ap (λ (h : HostId). parts.opened h p.id.client size s.unsched) b.amid.name ∙ ap (λ (i : ℕ). parts.opened host p.id.client i s.unsched) piece.whole
            ∙ ap (λ (y : Settings). parts.opened host p.id.client (length piece.request) y.unsched) (sym settings)
            ∙ ap (λ o. unwrap_or o (parts.opened c.server p.id.client (length c.request) v.settings.unsched)) (sym none) in
            let done = subst (λ (d : Did ServerRow). RequestTaken s work.host.id p.id service c.request answer d None
            (grown v.place offset (offset + length p.payload) first))
            (sym (ap (server_gets s m p answer) is ∙ gets_unknown s m p answer ∙ ap (λ (y : Body). unknown_gets s m p.id y p.payload answer) what)) fit in
            take e missing peer
            (subst (λ o. RequestTaken s work.host.id p.id service c.request answer did o new) (sym here)
            (subst (λ (y : Part). RequestTaken s work.host.id p.id service c.request answer did None y)
            (ap (λ (y : Part). grown v.place offset (offset + length p.payload) y) first_is) done))
        unran_row (Some row) is e = by_state row.state refl where
          by_state : (state : State) → row.state ≡ state → IsSaying s w line_view host now stands (served s p.id did work)
          by_state (Receiving service' part base count) at =
              piece_for (get v.now.requests p.id) refl row service' part base count at is
              (had (Some (Receiving service' part base count))
              (server_there w line_view host work p.id stands ∙ ap state_of is ∙ ap (λ (y : State). Some y) at)) e
          by_state (Held response release) at = absurd (true≢false (sym (subst (λ (y : State). RowFits host x (Some y)) at (row_fits (Some row) is)) ∙ e))
          by_state (Replying response out order base count) at =
              absurd (true≢false (sym (subst (λ (y : State). RowFits host x (Some y)) at (row_fits (Some row) is)).0 ∙ e))
          by_state (Buried until) at = absurd (true≢false (sym (subst (λ (y : State). RowFits host x (Some y)) at (row_fits (Some row) is)) ∙ e))

        piece_came : IsSaying s w line_view host now stands (served s p.id did work)
        piece_came = by_ran x.ran refl where
          by_ran : (r : Bool) → x.ran ≡ r → IsSaying s w line_view host now stands (served s p.id did work)
          by_ran true e = ran_came e
          by_ran false e = unran_row (get work.host.servers p.id) refl e

      -- whatever the packet is
      pub server_saying : IsSaying s w line_view host now stands (served s p.id (server_gets s (moment s p.id work) p answer (get work.host.servers p.id)) work)
      server_saying = by_body p.body refl fits.fits where
        by_body : (what : Body) → p.body ≡ what → RequestFits (times s) host x t what p.payload
            → IsSaying s w line_view host now stands (served s p.id (server_gets s (moment s p.id work) p answer (get work.host.servers p.id)) work)
        by_body (body.Data size offset version service ack) e f = piece_came size offset version service ack e f
        by_body (body.Grant offset prio) e f = other_came (subst IsOther (sym e) tt)
        by_body (body.Resend from to prio) e f = other_came (subst IsOther (sym e) tt)
        by_body body.Busy e f = other_came (subst IsOther (sym e) tt)
        by_body (body.Cutoffs cutoffs) e f = other_came (subst IsOther (sym e) tt)
        by_body (body.Unknown reason) e f = other_came (subst IsOther (sym e) tt)
        by_body body.NeedAck e f = other_came (subst IsOther (sym e) tt)
        by_body (body.Ack more) e f = other_came (subst IsOther (sym e) tt)
