-- A packet of its server comes to a call's client: what the lines say of messages stays true, and a call is done with the response of its run.
use Rattle.std.proofs.Common.{◌≡◌, ℕ, ◌+◌, ◌≤◌, ◌<◌, Bool, true, false, ◌&&◌, Option, Some, None, List, [], ◌∷◌, ◌++◌, length, cond, refl, sym, ap}
use Rattle.std.proofs.Common.{subst, ◌∙◌, arith, append_assoc, zero, suc}
use Rattle.std.specs.Prelude.{◌==◌, nat_lt, nat_le, slice_get, unwrap_or, if◌then◌else◌}
use Rattle.std.specs.Option.{option_map, option_map_or}
use Rattle.std.proofs.lemmas.Bool.{false_from_ne_true, leb-true, eqb-true, ltb-true, ltb-false, le-leb, false≢true}
use Rattle.std.proofs.Math.Bool.{and-false}
use Rattle.plain_sets.specs.Maps.{get, remove}
use Rattle.homa_plain.specs.declared.id.CallId.{CallId}
use Rattle.homa_plain.specs.declared.id.HostId.{HostId}
use Rattle.homa_plain.specs.declared.entry.Why.TheVariants.{Forgotten}
use Rattle.homa_plain.specs.declared.packet.Role.{Role}
use Rattle.homa_plain.specs.declared.packet.Role.TheVariants.{Client, Server}
use Rattle.homa_plain.specs.declared.packet.Body.{Body}
use Rattle.homa_plain.specs.declared.packet.Body.TheVariants as body
use Rattle.homa_plain.specs.declared.settings.Settings.{Settings}
use Rattle.homa_plain.specs.Calls.{is_host, is_call}
use Rattle.homa_plain.specs.Entries.{PlainEntry, PlainDone, PlainFail}
use Rattle.homa_plain.specs.Incoming.{Incoming}
use Rattle.homa_plain.specs.Packets.{Packet, sender, sender_of, receiver_of}
use Rattle.trace_rules.specs.Parts.{Part, grown, made_whole}
use Rattle.trace_rules.specs.Parts as parts
use Rattle.homa_plain.specs.Rows.{ClientRow}
use Rattle.homa_plain.specs.Host.{Told, packets_in, entries_from}
use Rattle.homa_plain.specs.Rules.{Moment, Piece, Say, Tells, Did, keeps}
use Rattle.homa_plain.specs.AtClient.{client_gets, answered, response_piece, refreshed, renewed}
use Rattle.homa_plain.specs.AtServer.{piece_of}
use Rattle.homa_plain.specs.Work.{Work, said}
use Rattle.homa_plain.specs.Steps.{moment, asked}
use Rattle.trace_rules.specs.View.{View, Progress, Sent, Called, Ends, no_ends, counts, is_server_of}
use Rattle.homa_plain.specs.Wire.{is_server}
use Rattle.trace_rules.specs.Seen.{seen, is_forgotten}
use Rattle.trace_rules.specs.Laws.{Holds, Once, Returned, IsReturned, is_data}
use Rattle.homa_plain.specs.World.{World}
use Rattle.homa_plain.proofs.CallOrder.{calls_are, hosts_are}
use Rattle.trace_steps.specs.Told.{sent_of}
use Rattle.step_moves.proofs.Inner.{entries_from-append}
use Rattle.step_moves.proofs.Moves.{notes_told, reply_told, finishes_told}
use Rattle.step_moves.proofs.AskedMove.{asked_put, asked_noted, asked_said}
use Rattle.step_laws.proofs.Own.{IsQuiet, gets_quiet}
use Rattle.trace_steps.proofs.Progress.{get-set, get-gone}
use Rattle.trace_steps.specs.Stands.{Stand, with_client, put, said_so_far, amid}
use Rattle.trace_steps.specs.Contents.{IsSlice}
use Rattle.trace_steps.specs.Arrived.{IsSamePart}
use Rattle.step_moves.proofs.Hosts.{length-set}
use Rattle.trace_steps.proofs.Frame.{client_there}
use Rattle.trace_once.specs.Lifetime.{times, called_by, Fits, ReplyFits}
use Rattle.trace_once.proofs.ClientRules.{ClientKeeps}
use Rattle.trace_once.proofs.ClientTable.{client_gets_keeps}
use Rattle.trace_once.proofs.Acks.{GoesWhenDone, gets_done}
use Rattle.trace_once.proofs.Amid.{IsAmid}
use Rattle.trace_once.proofs.AskedCame.{asked_came}
use Rattle.trace_once.proofs.Restarted.{deliver_calls}
use Rattle.trace_returned.specs.Tales.{Tale, tale, receiving, IsSameRequest, IsReplyOf, RepliesTo, IsSamePiece, IsSameResponse, IsSame, IsClosed}
use Rattle.trace_returned.proofs.ReplyLines.{lines_reply}
use Rattle.trace_returned.proofs.StillRules.{IsOther, IsPlain, StillAsked, Forgets, Awaited, awaited, unasked_still, answered_still, unknown_answered}
use Rattle.trace_returned.proofs.Pieces.{ResponseTaken, Gapped, Unpaged, Taken, Done, response_opens, response_grows}
use Rattle.trace_returned.proofs.Calm.{tale_is, SameBlock}
use Rattle.trace_returned.proofs.TrueMoves.{asked_still, asked_once, asked_before, before_asked}
use Rattle.trace_returned.proofs.ActMoves.{asked_fails}
use Rattle.trace_returned.proofs.Deliver.{came_only, Begins, server_uncounted, was_heard, server_other, new_response, response_admitted}
use Rattle.trace_returned.proofs.Deliver.{server_piece, heard_others, heard_of, response_of}
use Rattle.trace_returned.proofs.ResponseBlock.{Answers, response_comes}
use Rattle.trace_returned.proofs.Saying.{AreUndone, calm_undone, undone_holds, said_undone, IsSaying, asked_saying, undone_saying}
use Rattle.trace_returned.proofs.ServerCame.{line_view, IsBefore, plain_true, plain_closed}
use Rattle.trace_returned.proofs.ClientRules.{gets_unasked, gets_elsewhere, gets_earlier, gets_answered, heard_row, one_reply, among_answers, host_there}

-- a call fails as forgotten where that is due
forgotten_closed : (u x : View) (id : CallId) → SameBlock u x → u.here ≡ no_ends → u.now.due ≡ record no_ends { forgotten = id ∷ [] }
    → IsClosed (seen x (PlainFail id Forgotten))
unfolding seen
forgotten_closed u x id same here due =
    let here_is : x.here ≡ no_ends = same.here ∙ here in
    let due_is : x.now.due ≡ record no_ends { forgotten = id ∷ [] } = same.due ∙ due in
    record {
      runs = ap (λ (e : Ends). e.runs) here_is ∙ ap (λ (e : Ends). e.runs) (sym due_is);
      dones = ap (λ (e : Ends). e.dones) here_is ∙ ap (λ (e : Ends). e.dones) (sym due_is);
      forgotten = ap (λ (e : Ends). id ∷ e.forgotten) here_is ∙ ap (λ (e : Ends). e.forgotten) (sym due_is);
    }

-- a number of at most 1 that isn't 0
one_of : (i : ℕ) → i ≤ 1 → (i == 0) ≡ false → i ≡ 1
one_of zero l e = absurd (false≢true (sym e))
one_of (suc i) l e = omega (arith, l)

pub same_client : (s : Settings) (u : View) (q : CallId) (m : HostId) (x : Stand) (o : Option ClientRow) (t : Tale) → x.client ≡ o
    → IsSame s u q m x t → IsSame s u q m (with_client x o) t
same_client s u q m x o t e k = subst (λ (y : Option ClientRow). IsSame s u q m (with_client x y) t) e k

-- whether it counts, by its parts
pub counts_by : (v : View) (m : Progress) (p : Sent) (a b : Bool) → is_server_of v p.id p.from ≡ a
    → option_map_or (λ latest. nat_le latest p.inc) (get m.live p.id) false ≡ b → is_server p.role ≡ true → is_host p.to p.id.client ≡ true
    → counts v m p ≡ (a && b)
counts_by v m p a b serves later role to =
    ap (λ x. x && is_host p.to p.id.client && is_server_of v p.id p.from && option_map_or (λ latest. nat_le latest p.inc) (get m.live p.id) false) role
    ∙ ap (λ x. x && is_server_of v p.id p.from && option_map_or (λ latest. nat_le latest p.inc) (get m.live p.id) false) to
    ∙ ap (λ x. x && option_map_or (λ latest. nat_le latest p.inc) (get m.live p.id) false) serves ∙ ap (λ x. a && x) later

done_undone : (s : Settings) (id : CallId) (response : List ℕ) (d : Did ClientRow) (r : ClientRow) (new : Part) (P : List Say → Type 0)
    → ((says : List Say) → AreUndone says → P says) → P (Tells (PlainDone id response) ∷ []) → ResponseTaken s id response d r new → P d.says
done_undone s id response d r new P undone done (Gapped says x row stays part) = subst P (sym says) (undone _ (tt, tt))
done_undone s id response d r new P undone done (Unpaged n m says x row stays part) = subst P (sym says) (undone _ (tt, tt))
done_undone s id response d r new P undone done (Taken says x part row stays has same) = subst P (sym says) (undone [] tt)
done_undone s id response d r new P undone done (Done says gone whole) = subst P (sym says) done

holds_front : (law : View → PlainEntry → Type 0) (v : View) (a b : List PlainEntry) → Holds law v (a ++ b) → Holds law v a
holds_front law v [] b h = tt
holds_front law v (line ∷ a) b h = (h.0, holds_front law (seen v line) a b h.1)

module _ (s : Settings) (w : World) (v : View) (n : ℕ) (host : HostId) (now : ℕ) (stands : host.0 < length w.hosts) (p : Packet)
    (came : slice_get v.packets n ≡ Some (sent_of p)) (work : Work) (b : IsBefore s w v n host now stands work)
    (t : ℕ) (settings : v.settings ≡ s) (within : now ≤ w.clock + (times s).band) (fresh : w.clock ≤ t + (times s).life) (role : p.role ≡ Server)
    (mine : p.id.client ≡ host)
    (fits : Fits (times s) p.server (amid w (line_view s w v n host now stands) host work p.id p.server) t Server p.body p.payload)
    (carries : RepliesTo (said_so_far w (line_view s w v n host now stands) work) p.id p.server p.inc p.body p.payload)
    (served : (q : CallId) (c : Called) → get v.calls q ≡ Some c → c.server.0 < length w.hosts) where
  abbrev line : View
  line = line_view s w v n host now stands

  abbrev u : View
  u = said_so_far w line work

  abbrev x : Sent
  x = sent_of p

  abbrev id : CallId
  id = p.id

  abbrev did : Did ClientRow
  did = client_gets s (moment s p.id work) p (get work.host.clients p.id)

  quiet : IsQuiet p.id (client_gets s (moment s p.id work) p (get work.host.clients p.id))
  quiet = gets_quiet s (moment s p.id work) p (get work.host.clients p.id)

  done : GoesWhenDone (client_gets s (moment s p.id work) p (get work.host.clients p.id))
  done = gets_done s (moment s p.id work) p (get work.host.clients p.id)

  keeps_each : (m : HostId) → ClientKeeps (times s) (amid w line host work p.id m) (client_gets s (moment s p.id work) p (get work.host.clients p.id))
  keeps_each m =
      client_gets_keeps (times s) m (amid w line host work p.id m) s (moment s p.id work) p t (get work.host.clients p.id) (b.amid.kept.calls p.id m)
      (client_there w line host work p.id m stands mine) (omega (arith, within, b.amid.last)) fresh role
      (λ (e : m ≡ p.server). subst (λ (y : HostId). Fits (times s) y (amid w line host work p.id y) t Server p.body p.payload) (sym e) fits)

  after : IsAmid s w line host now (asked s p.id p.server (client_gets s (moment s p.id work) p (get work.host.clients p.id)) work)
  after = (asked_came s w line host now stands work p.id p.server did b.amid mine quiet done fits.made keeps_each).amid

  to_client : is_host x.to id.client ≡ true
  to_client = (hosts_are (receiver_of p.role p.id p.server) p.id.client).1 (ap (λ (r : Role). receiver_of r p.id p.server) role)

  from_server : sender p ≡ p.server
  from_server = ap (λ (r : Role). sender_of r p.id p.server) role

  live_is : (o : Option ClientRow) → get work.host.clients p.id ≡ o → get v.now.live p.id ≡ option_map (λ (r : ClientRow). r.seen) o
  live_is o is = (b.same p.id host).live ∙ ap (option_map (λ (r : ClientRow). r.seen)) (client_there w line host work p.id host stands mine ∙ is)

  -- a rule that leaves what has arrived, where the packet doesn't count
  uncounted : (o : Option ClientRow) → get work.host.clients p.id ≡ o → counts v (came_only v x) x ≡ false → StillAsked o did
      → IsSaying s w line host now stands (asked s p.id p.server did work)
  uncounted o is counting still =
      let true_now = plain_true s w v n host now stands p came work b (server_uncounted v n (sent_of p) came role counting) in
      let same = asked_still s w line host now stands work p.id p.server did b.amid mine quiet done fits.made keeps_each after o still
      true_now.packets (λ q m e. true_now.same q m)
      (λ m. same_client s u id m (amid w line host work id m) o (tale u.now id) (client_there w line host work p.id m stands mine ∙ is)
      (true_now.same id m)) true_now.level true_now.closed in
      undone_saying s w line host now stands work p.id p.server did (mine ∙ sym b.amid.name) quiet.0 b.told b.returned after same
      (calm_undone did.says still.calm)

  unasked_came : get work.host.clients p.id ≡ None → IsSaying s w line host now stands (asked s p.id p.server did work)
  unasked_came is =
      let m : Moment = moment s p.id work in
      let counting : counts v (came_only v x) x ≡ false =
      counts_by v (came_only v x) x (is_server_of v x.id x.from) false refl
      (ap (λ o. option_map_or (λ latest. nat_le latest p.inc) o false) (live_is None is)) (ap is_server role) to_client
      ∙ and-false (is_server_of v x.id x.from) in
      uncounted None is counting (subst (StillAsked None) (sym (ap (client_gets s m p) is ∙ gets_unasked s m p)) (unasked_still m p.body))

  -- ---- a live call

  module _ (r : ClientRow) (is : get work.host.clients p.id ≡ Some r) where
    called : get v.calls p.id ≡ Some (called_by r)
    called = ap (λ m. get m p.id) (sym (deliver_calls v n)) ∙ ap (λ (y : View). get y.calls p.id) (sym b.view)
        ∙ ((b.amid.kept.calls p.id host).client r (client_there w line host work p.id host stands mine ∙ is)).called

    serves_by : is_server_of v p.id (sender p) ≡ is_host r.server (sender p)
    serves_by = ap (λ o. option_map_or (λ (c : Called). is_host c.server (sender p)) o false) called

    later_by : option_map_or (λ latest. nat_le latest p.inc) (get v.now.live p.id) false ≡ nat_le r.seen p.inc
    later_by = ap (λ o. option_map_or (λ latest. nat_le latest p.inc) o false) (live_is (Some r) is)

    counting_is : counts v (came_only v x) x ≡ (is_host r.server (sender p) && nat_le r.seen p.inc)
    counting_is = counts_by v (came_only v x) x (is_host r.server (sender p)) (nat_le r.seen p.inc) serves_by later_by (ap is_server role) to_client

    turned_host : (b : Bool) → is_host (sender p) r.server ≡ b → is_host r.server (sender p) ≡ b
    turned_host true e = (hosts_are r.server (sender p)).1 (sym ((hosts_are (sender p) r.server).0 e))
    turned_host false e =
        false_from_ne_true (is_host r.server (sender p))
        (λ f. false≢true (sym e ∙ (hosts_are (sender p) r.server).1 (sym ((hosts_are r.server (sender p)).0 f))))

    kept_row : client_gets s (moment s p.id work) p (Some r) ≡ keeps (moment s p.id work) r → StillAsked (Some r) did
    kept_row rule = subst (StillAsked (Some r)) (sym (ap (client_gets s (moment s p.id work) p) is ∙ rule)) (record { calm = tt; row = refl })

    -- ---- the packet counts

    module _ (from : is_host (sender p) r.server ≡ true) (latest : nat_lt p.inc r.seen ≡ false) where
      counting : counts v (came_only v (sent_of p)) (sent_of p) ≡ true
      counting = counting_is ∙ ap (λ a. a && nat_le r.seen p.inc) (turned_host true from) ∙ le-leb r.seen p.inc (ltb-false p.inc r.seen latest)

      abbrev heard_by : ClientRow
      heard_by = refreshed (moment s p.id work).now p.body (renewed p.inc r)

      row_is : awaited heard_by ≡ record { server = r.server; seen = p.inc; part = cond (nat_lt r.seen p.inc) None r.part }
      row_is = heard_row s (moment s p.id work) p r latest

      server_is : heard_by.server ≡ p.server
      server_is = ap (λ (a : Awaited). a.server) row_is ∙ sym ((hosts_are (sender p) r.server).0 from) ∙ from_server

      seen_is : heard_by.seen ≡ p.inc
      seen_is = ap (λ (a : Awaited). a.seen) row_is

      rule : did ≡ answered s (moment s p.id work) p.id p.body p.payload heard_by
      rule = ap (client_gets s (moment s p.id work) p) is ∙ gets_answered s (moment s p.id work) p r from latest

      -- what the lines have, where the packet is heard
      abbrev old : Option Part
      old = get (was_heard v n (sent_of p) came).responses p.id

      old_is : get (was_heard v n (sent_of p) came).responses p.id ≡ cond (nat_lt r.seen p.inc) None (get v.now.responses p.id)
      old_is = ap (λ o. get (cond (nat_lt (unwrap_or o 0) p.inc) (remove v.now.responses p.id) v.now.responses) p.id) (live_is (Some r) is)
          ∙ by_test (nat_lt r.seen p.inc) where
            by_test : (b : Bool) → get (cond b (remove v.now.responses p.id) v.now.responses) p.id ≡ cond b None (get v.now.responses p.id)
            by_test true = get-gone v.now.responses p.id p.id ∙ ap (λ t. cond t None (get v.now.responses p.id)) ((calls_are p.id p.id).1 refl)
            by_test false = refl

      live_now : get (was_heard v n (sent_of p) came).live p.id ≡ Some heard_by.seen
      live_now = get-set v.now.live p.id p.inc p.id ∙ ap (λ t. cond t (Some p.inc) (get v.now.live p.id)) ((calls_are p.id p.id).1 refl)
          ∙ ap (λ (i : ℕ). Some i) (sym seen_is)

      response_is : IsSameResponse s u p.id (Some heard_by) (get (was_heard v n (sent_of p) came).responses p.id)
      response_is =
          subst (λ (a : Awaited). IsSamePiece s u p.id a.server a.seen a.part (get (was_heard v n (sent_of p) came).responses p.id)) (sym row_is)
          (subst (IsSamePiece s u p.id r.server p.inc (cond (nat_lt r.seen p.inc) None r.part)) (sym old_is) (by_test (nat_lt r.seen p.inc) refl before)) where
            before : IsSamePiece s u p.id r.server r.seen r.part (get v.now.responses p.id)
            before = subst (λ o. IsSameResponse s u p.id o (get v.now.responses p.id)) (client_there w line host work p.id host stands mine ∙ is)
                (b.same p.id host).response

            by_test : (b : Bool) → nat_lt r.seen p.inc ≡ b → IsSamePiece s u p.id r.server r.seen r.part (get v.now.responses p.id)
                → IsSamePiece s u p.id r.server p.inc (cond b None r.part) (cond b None (get v.now.responses p.id))
            by_test true e k = refl
            by_test false e k =
                let same : r.seen ≡ p.inc = omega (arith, ltb-false p.inc r.seen latest, ltb-false r.seen p.inc e) in
                subst (λ (i : ℕ). IsSamePiece s u p.id r.server i r.part (get v.now.responses p.id)) same k

      heard_same : (m : HostId) (request : Option Part) → request ≡ get v.now.requests p.id
          → IsSame s u p.id m (with_client (amid w line host work p.id m) (Some heard_by))
          (record { live = Some heard_by.seen; request = request; response = get (was_heard v n (sent_of p) came).responses p.id })
      heard_same m request e =
          let k = b.same p.id m in
          record {
            live = refl;
            request = λ c at here.
                subst (IsSameRequest s p.id.client c (amid w line host work p.id m).ran (receiving (amid w line host work p.id m).server)) (sym e)
                (k.request c at here);
            unmade = λ f. e ∙ k.unmade f;
            response = response_is;
            replies = k.replies;
          }

      -- ---- it is no piece

      other_begins : IsOther p.body → Begins u (was_heard v n (sent_of p) came) (was_heard v n (sent_of p) came)
      other_begins other = subst (λ (y : View). Begins y (was_heard v n (sent_of p) came) (was_heard v n (sent_of p) came)) (sym b.view)
          (server_other v n (sent_of p) came counting other)

      other_itself : IsOther p.body → (m : HostId) → IsSame s u p.id m (with_client (amid w line host work p.id m) (Some heard_by)) (tale u.now p.id)
      other_itself other m =
          let z = other_begins other in
          subst (IsSame s u p.id m (with_client (amid w line host work p.id m) (Some heard_by)))
          (sym (ap (λ (y : Progress). tale y p.id) z.now ∙ tale_is _ _ live_now refl refl)) (heard_same m (get v.now.requests p.id) refl)

      other_others : IsOther p.body → (q : CallId) (m : HostId) → is_call p.id q ≡ false → IsSame s u q m (amid w line host work q m) (tale u.now q)
      other_others other q m e =
          subst (IsSame s u q m (amid w line host work q m)) (sym ((heard_of v (sent_of p) u (other_begins other)).others q e)) (b.same q m)

      due_is : (o : Bool) → is_forgotten p.body ≡ o → (was_heard v n (sent_of p) came).due ≡ record no_ends { forgotten = if o then p.id ∷ [] else [] }
      due_is o e = ap (λ t. let f : Ends = record no_ends { forgotten = if t then p.id ∷ [] else [] } in f) e

      still_came : IsOther p.body → is_forgotten p.body ≡ false → StillAsked (Some heard_by) did
          → IsSaying s w line host now stands (asked s p.id p.server did work)
      still_came other remembered still =
          let z = other_begins other in
          let closed = plain_closed u z.here (ap (λ (y : Progress). y.due) z.now ∙ due_is false remembered) in
          let same = asked_still s w line host now stands work p.id p.server did b.amid mine quiet done fits.made keeps_each after
          (Some heard_by) still b.packets (other_others other) (other_itself other) (heard_of v (sent_of p) u z).level closed in
          undone_saying s w line host now stands work p.id p.server did (mine ∙ sym b.amid.name) quiet.0 b.told b.returned after same
          (calm_undone did.says still.calm)

      forgets_came : IsOther p.body → is_forgotten p.body ≡ true → Forgets p.id did → IsSaying s w line host now stands (asked s p.id p.server did work)
      forgets_came other gone k =
          let z = other_begins other in
          let same = asked_fails s w line host now stands work p.id p.server did b.amid mine quiet done fits.made keeps_each after Forgotten k.says
          k.row b.packets (other_others other) (Some heard_by) (other_itself other) (heard_of v (sent_of p) u z).level
          (λ y block. forgotten_closed u y p.id block z.here (ap (λ (m : Progress). m.due) z.now ∙ due_is true gone)) in
          undone_saying s w line host now stands work p.id p.server did (mine ∙ sym b.amid.name) quiet.0 b.told b.returned after same
          (subst AreUndone (sym k.says) (tt, tt))

      unknown_came : (reason : ℕ) → p.body ≡ body.Unknown reason → reason ≤ 1 → IsSaying s w line host now stands (asked s p.id p.server did work)
      unknown_came reason what most = by_test (reason == 0) refl where
        as_unknown : did ≡ answered s (moment s p.id work) p.id (body.Unknown reason) p.payload heard_by
        as_unknown = rule ∙ ap (λ (y : Body). answered s (moment s p.id work) p.id y p.payload heard_by) what

        by_test : (t : Bool) → (reason == 0) ≡ t → IsSaying s w line host now stands (asked s p.id p.server did work)
        by_test true e =
            let none : reason ≡ 0 = eqb-true reason 0 e in
            still_came (subst IsOther (sym what) tt) (ap is_forgotten what ∙ ap (λ i. i == 1) none)
            (subst (StillAsked (Some heard_by)) (sym as_unknown) ((unknown_answered s (moment s p.id work) p.id reason p.payload heard_by).0 e))
        by_test false e =
            let some : reason ≡ 1 = one_of reason most e in
            forgets_came (subst IsOther (sym what) tt) (ap is_forgotten what ∙ ap (λ i. i == 1) some)
            (subst (Forgets p.id) (sym as_unknown) ((unknown_answered s (moment s p.id work) p.id reason p.payload heard_by).1 e))

      -- ---- it is a piece of the response

      module _ (size offset version service : ℕ) (ack : Option (ℕ × ℕ)) (what : p.body ≡ body.Data size offset version service ack)
          (response : List ℕ) (reply : IsReplyOf u p.id p.server p.inc response) (slice : IsSlice response size offset p.payload) where
        abbrev new : Part
        new = new_response v n (sent_of p) came size offset version service ack what role counting

        abbrev admits : Progress
        admits = response_admitted v n (sent_of p) came size offset version service ack what role counting

        begins : Begins (said_so_far w (line_view s w v n host now stands) work)
            (response_admitted v n (sent_of p) came size offset version service ack what role counting) (was_heard v n (sent_of p) came)
        begins =
            subst (λ (y : View). Begins y (response_admitted v n (sent_of p) came size offset version service ack what role counting)
            (was_heard v n (sent_of p) came)) (sym b.view)
            (server_piece v n (sent_of p) came size offset version service ack what role counting)

        reply_now : IsReplyOf u p.id heard_by.server heard_by.seen response
        reply_now = subst (λ (i : ℕ). IsReplyOf u p.id heard_by.server i response) (sym seen_is)
            (subst (λ (h : HostId). IsReplyOf u p.id h p.inc response) (sym server_is) reply)

        comes : option_map_or parts.is_whole (get (was_heard v n (sent_of p) came).responses p.id) false ≡ false
            → (unwrap_or (get (was_heard v n (sent_of p) came).responses p.id) (parts.opened x.to x.from size v.settings.unsched)).peer ≡ heard_by.server
            → Answers s w line host now stands work p.id p.server did b.amid mine quiet done fits.made keeps_each after
            (sent_of p) heard_by response admits (was_heard v n (sent_of p) came) old new
        comes missing peer =
            let rest = response_of v (sent_of p) u new _ begins in
            let request : get u.now.requests p.id ≡ get v.now.requests p.id = ap (λ (m : Progress). get m.requests p.id) begins.now in
            let forgotten : is_forgotten p.body ≡ false = ap is_forgotten what in
            let due = due_is false forgotten in
            record {
              begins = begins;
              level = rest.level;
              came = (refl, refl, ap (λ (r : Role). receiver_of r p.id p.server) role);
              due = (due, ap (λ (e : Ends). let f : Ends = record e { dones = made_whole p.id old new } in f) due);
              before = tale_is _ _ live_now (sym request) refl;
              admitted = tale_is _ _ live_now (sym request)
                  (get-set (was_heard v n (sent_of p) came).responses p.id new p.id ∙ ap (λ t. cond t (Some new) old) ((calls_are p.id p.id).1 refl));
              others = λ q e. heard_others v (sent_of p) u q e ∙ sym (rest.others q e);
              itself = λ m. heard_same m (get u.now.requests p.id) request;
              else_same = λ q m e. subst (IsSame s u q m (amid w line host work q m)) (sym (rest.others q e)) (b.same q m);
              packets = b.packets;
              reply = reply_now;
              missing = missing;
              peer = peer;
            }

        take : option_map_or parts.is_whole (get (was_heard v n (sent_of p) came).responses p.id) false ≡ false
            → (unwrap_or (get (was_heard v n (sent_of p) came).responses p.id) (parts.opened x.to x.from size v.settings.unsched)).peer ≡ heard_by.server
            → ResponseTaken s p.id response did heard_by new → IsSaying s w line host now stands (asked s p.id p.server did work)
        take missing peer taken =
            let z = comes missing peer in
            let same = response_comes s w line host now stands work p.id p.server did b.amid mine quiet done fits.made keeps_each after
            (sent_of p) heard_by response admits (was_heard v n (sent_of p) came) old new z taken in
            let front : View = before_asked s w line host now stands work p.id p.server did b.amid mine quiet done fits.made keeps_each after in
            let front_is = asked_before s w line host now stands work p.id p.server did b.amid mine quiet done fits.made keeps_each after z.level in
            let number : ℕ = length w.packets + length (packets_in work.told) in
            let notes : List Told = notes_told s did.opened (asked_put s p.id p.server did work) in
            let said_first : List Told = reply_told s Client p.id p.server did.version (asked_noted s p.id p.server did work) in
            let says : List Told = said s work.host Client p.id p.server did.says in
            let ends : List Told = finishes_told s p.id p.server did.finished (asked_said s p.id p.server did work) in
            let once : Holds Once u (entries_from number (notes ++ said_first)) =
            holds_front Once u (entries_from number (notes ++ said_first)) _
            (subst (Holds Once u)
            (ap (entries_from number) (sym (append_assoc notes said_first (says ++ ends))) ∙ entries_from-append number (notes ++ said_first) (says ++ ends))
            (asked_once s w line host now stands work p.id p.server did b.amid mine quiet done fits.made keeps_each after)) in
            let reply_front = lines_reply u (entries_from number (notes ++ said_first)) p.id p.server p.inc response once reply in
            let came_is : front.now.came ≡ Some (sent_of p) = front_is.block.came ∙ ap (λ (m : Progress). m.came) begins.now in
            let serves : is_server_of front p.id p.server ≡ true =
            ap (λ o. option_map_or (λ (c : Called). is_host c.server p.server) o false)
            (ap (λ m. get m p.id) front_is.calls ∙ ap (λ (y : View). get y.calls p.id) b.view ∙ ap (λ m. get m p.id) (deliver_calls v n) ∙ called)
            ∙ (hosts_are r.server p.server).1 (sym ((hosts_are (sender p) r.server).0 from) ∙ from_server) in
            let returned : IsReturned front p.id response front.now.came =
            subst (IsReturned front p.id response) (sym came_is)
            (ap is_server role, ap is_data what, among_answers front p.id p.server p.inc response serves reply_front) in
            asked_saying s w line host now stands work p.id p.server did (mine ∙ sym b.amid.name) quiet.0 b.told b.returned after same
            (λ i. done_undone s p.id response did heard_by new (λ y. Holds Returned front (entries_from i (said s work.host Client p.id p.server y)))
            (λ y undone. undone_holds front i (said s work.host Client p.id p.server y) (said_undone s work.host Client p.id p.server y undone))
            (returned, tt) taken)

        -- the host of the server stands, so that its life of this incarnation is one
        one_response : (other : List ℕ) → IsReplyOf u p.id heard_by.server heard_by.seen other → other ≡ response
        one_response other k =
            let there : p.server.0 < length w.hosts =
            subst (λ (h : HostId). h.0 < length w.hosts) (sym ((hosts_are (sender p) r.server).0 from) ∙ from_server) (served p.id (called_by r) called) in
            let at = host_there (put w host work).hosts p.server.0 (omega (arith, there, length-set w.hosts host.0 work.host)) in
            let here : IsReplyOf u p.id p.server p.inc other =
            subst (λ (i : ℕ). IsReplyOf u p.id p.server i other) seen_is (subst (λ (h : HostId). IsReplyOf u p.id h heard_by.seen other) server_is k) in
            one_reply u p.id p.server at.0 p.inc other response (b.told.lives p.server at.0 at.1) here reply

        abbrev piece : Piece
        piece = piece_of size offset version service p.payload

        as_piece : did ≡ response_piece s (moment s p.id work) p.id heard_by heard_by.part (piece_of size offset version service p.payload)
        as_piece = rule ∙ ap (λ (y : Body). answered s (moment s p.id work) p.id y p.payload heard_by) what

        piece_came : IsSaying s w line host now stands (asked s p.id p.server did work)
        piece_came = by_part heard_by.part refl (get (was_heard v n (sent_of p) came).responses p.id) refl response_is where
          grows : Part → Part
          grows q = grown v.place offset (offset + length p.payload) q

          new_is : (o : Option Part) → get (was_heard v n (sent_of p) came).responses p.id ≡ o
              → grows (unwrap_or o (parts.opened x.to x.from size v.settings.unsched)) ≡ new
          new_is o e = ap (λ y. grows (unwrap_or y (parts.opened x.to x.from size v.settings.unsched))) (sym e)

          rule_for : (o : Option Incoming) → heard_by.part ≡ o → (q : Part)
              → ResponseTaken s p.id response (response_piece s (moment s p.id work) p.id heard_by o piece) heard_by q
              → ResponseTaken s p.id response did heard_by q
          rule_for o e q k = subst (λ (d : Did ClientRow). ResponseTaken s p.id response d heard_by q)
              (sym (as_piece ∙ ap (λ y. response_piece s (moment s p.id work) p.id heard_by y piece) e)) k

          from_is : x.from ≡ heard_by.server
          from_is = from_server ∙ sym server_is

          by_part : (o : Option Incoming) → heard_by.part ≡ o → (q : Option Part) → get (was_heard v n (sent_of p) came).responses p.id ≡ q
              → IsSamePiece s u p.id heard_by.server heard_by.seen heard_by.part q → IsSaying s w line host now stands (asked s p.id p.server did work)
          by_part None e q f k =
              let none : q ≡ None = subst (λ y. IsSamePiece s u p.id heard_by.server heard_by.seen y q) e k in
              let first_is : parts.opened p.id.client heard_by.server size s.unsched ≡ parts.opened x.to x.from size v.settings.unsched =
              ap (λ (h : HostId). parts.opened h heard_by.server size s.unsched) (sym (ap (λ (r : Role). receiver_of r p.id p.server) role))
              ∙ ap (λ (h : HostId). parts.opened x.to h size s.unsched) (sym from_is)
              ∙ ap (λ (y : Settings). parts.opened x.to x.from size y.unsched) (sym settings) in
              take (ap (λ o. option_map_or parts.is_whole o false) (f ∙ none))
              (ap (λ o. (unwrap_or o (parts.opened x.to x.from size v.settings.unsched)).peer) (f ∙ none) ∙ from_is)
              (subst (ResponseTaken s p.id response did heard_by) (ap grows first_is ∙ new_is None (f ∙ none))
              (rule_for None e (grows (parts.opened p.id.client heard_by.server size s.unsched))
              (response_opens s (moment s p.id work) p.id response v.place heard_by piece e b.told.valid.unsched slice)))
          by_part (Some part) e None f k = absurd (subst (λ y. IsSamePiece s u p.id heard_by.server heard_by.seen y None) e k)
          by_part (Some part) e (Some q) f k =
              let l = subst (λ y. IsSamePiece s u p.id heard_by.server heard_by.seen y (Some q)) e k in
              let same : IsSamePart s p.id.client response part q = subst (λ (xs : List ℕ). IsSamePart s p.id.client xs part q) (one_response l.0 l.1) l.2 in
              take (ap (λ o. option_map_or parts.is_whole o false) f ∙ same.missing)
              (ap (λ o. (unwrap_or o (parts.opened x.to x.from size v.settings.unsched)).peer) f ∙ l.3)
              (subst (ResponseTaken s p.id response did heard_by) (new_is (Some q) f)
              (rule_for (Some part) e (grows q) (response_grows s (moment s p.id work) p.id response part q v.place heard_by piece e same slice)))

      counted_came : IsSaying s w line host now stands (asked s p.id p.server did work)
      counted_came = by_body p.body refl fits.fits carries where
        plain : (what : Body) → p.body ≡ what → IsPlain s (moment s p.id work) p.id what → IsOther what → is_forgotten what ≡ false
            → IsSaying s w line host now stands (asked s p.id p.server did work)
        plain what e k other remembered =
            still_came (subst IsOther (sym e) other) (ap is_forgotten e ∙ remembered)
            (subst (StillAsked (Some heard_by)) (sym (rule ∙ ap (λ (y : Body). answered s (moment s p.id work) p.id y p.payload heard_by) e))
            (answered_still s (moment s p.id work) p.id what p.payload heard_by k))

        by_body : (what : Body) → p.body ≡ what → ReplyFits (times s) (amid w line host work p.id p.server) t what
            → RepliesTo u p.id p.server p.inc what p.payload → IsSaying s w line host now stands (asked s p.id p.server did work)
        by_body (body.Data size offset version service ack) e f c = piece_came size offset version service ack e c.0 c.1 c.2
        by_body (body.Unknown reason) e f c = unknown_came reason e f
        by_body (body.Grant offset prio) e f c = plain (body.Grant offset prio) e tt tt refl
        by_body (body.Resend from to prio) e f c = plain (body.Resend from to prio) e tt tt refl
        by_body body.Busy e f c = plain body.Busy e tt tt refl
        by_body (body.Cutoffs cutoffs) e f c = plain (body.Cutoffs cutoffs) e tt tt refl
        by_body body.NeedAck e f c = plain body.NeedAck e tt tt refl
        by_body (body.Ack more) e f c = plain (body.Ack more) e tt tt refl

    live_came : IsSaying s w line host now stands (asked s p.id p.server did work)
    live_came = by_tests (is_host (sender p) r.server) refl (nat_lt p.inc r.seen) refl where
      by_tests : (a : Bool) → is_host (sender p) r.server ≡ a → (c : Bool) → nat_lt p.inc r.seen ≡ c
          → IsSaying s w line host now stands (asked s p.id p.server did work)
      by_tests false e c f =
          uncounted (Some r) is (counting_is ∙ ap (λ a. a && nat_le r.seen p.inc) (turned_host false e))
          (kept_row (gets_elsewhere s (moment s p.id work) p r e))
      by_tests true e true f =
          let earlier : nat_le r.seen p.inc ≡ false =
          false_from_ne_true (nat_le r.seen p.inc) (λ g. absurd (omega (arith, ltb-true p.inc r.seen f, leb-true r.seen p.inc g))) in
          uncounted (Some r) is (counting_is ∙ ap (λ a. is_host r.server (sender p) && a) earlier ∙ and-false (is_host r.server (sender p)))
          (kept_row (gets_earlier s (moment s p.id work) p r f))
      by_tests true e false f = counted_came e f

  pub client_saying : IsSaying s w (line_view s w v n host now stands) host now stands
      (asked s p.id p.server (client_gets s (moment s p.id work) p (get work.host.clients p.id)) work)
  client_saying = by_row (get work.host.clients p.id) refl where
    by_row : (o : Option ClientRow) → get work.host.clients p.id ≡ o → IsSaying s w line host now stands (asked s p.id p.server did work)
    by_row None is = unasked_came is
    by_row (Some r) is = live_came r is
