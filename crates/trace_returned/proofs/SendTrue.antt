-- GRANTs and pieces of messages: what the lines say of messages stays true.
use Rattle.std.proofs.Common.{◌≡◌, ℕ, zero, suc, ◌+◌, ◌<◌, Bool, Option, Some, None, List, [], ◌∷◌, ◌++◌, length, refl, sym, ap, subst, ◌∙◌, arith}
use Rattle.std.specs.Prelude.{nat_lt}
use Rattle.std.specs.Option.{option_map}
use Rattle.std.specs.List.{AllByRecursion}
use Rattle.std.proofs.lemmas.Bool.{cond_both}
use Rattle.plain_sets.specs.Maps.{get}
use Rattle.plain_sets.specs.Ranges.{Range}
use Rattle.homa_plain.specs.declared.id.CallId.{CallId}
use Rattle.homa_plain.specs.declared.id.HostId.{HostId}
use Rattle.homa_plain.specs.declared.packet.Body.TheVariants as body
use Rattle.homa_plain.specs.declared.settings.Settings.{Settings}
use Rattle.homa_plain.specs.Grants.{seen, new_end}
use Rattle.homa_plain.specs.Incoming.{Incoming, granted_to}
use Rattle.homa_plain.specs.Outgoing.{Outgoing, next, next_range}
use Rattle.homa_plain.specs.Outgoing as outgoing
use Rattle.trace_rules.specs.Parts.{Part, raised}
use Rattle.homa_plain.specs.Packets.{Packet, sender, receiver, send_line}
use Rattle.homa_plain.specs.Rows.{ClientRow, ServerRow, State, Receiving, Replying}
use Rattle.homa_plain.specs.Host.{Host, Sends, packets_in, peer_cutoffs}
use Rattle.homa_plain.specs.Sending.{Content, client_granted, granted_part, server_granted, state_granted, client_sends, state_sends, response_content}
use Rattle.homa_plain.specs.Work.{Work, now_of}
use Rattle.homa_plain.specs.Steps.{client_is_granted, server_is_granted}
use Rattle.homa_plain.specs.SentNext.{request_leaves, response_leaves}
use Rattle.trace_rules.specs.View.{View, Called, Sent, life, incarnation}
use Rattle.homa_plain.specs.World.{World}
use Rattle.trace_steps.specs.Told.{HasLives, IsTold, sent_of}
use Rattle.trace_steps.proofs.Lines.{told_packets}
use Rattle.step_moves.proofs.SendMoves.{server_grant, server_granted-move, client_grant, client_granted-move, response_piece, response_leaves-move}
use Rattle.step_moves.proofs.SendMoves.{request_piece, request_leaves-move}
use Rattle.trace_steps.specs.Stands.{Stand, state_of, with_client, with_server, put, said_so_far, amid}
use Rattle.trace_steps.specs.Contents.{replies, Replies}
use Rattle.step_moves.proofs.Hosts.{there}
use Rattle.trace_steps.proofs.Frame.{server_there, client_there, move_said}
use Rattle.trace_once.specs.Lifetime.{times, RowFits}
use Rattle.trace_once.proofs.ServerRules.{row_made, row_is}
use Rattle.trace_once.proofs.Amid.{IsAmid}
use Rattle.trace_returned.specs.Tales.{Tale, tale, IsReplyOf, IsSameRequest, IsSamePiece, IsSameResponse, IsSame, IsTrue, receiving}
use Rattle.trace_returned.proofs.StillRules.{awaiting}
use Rattle.trace_returned.proofs.OwnMoves.{same_granted, peer_granted, packet_tale, request_tale, response_tale, next_slice}
use Rattle.trace_returned.proofs.TrueMoves.{response_later, response_awaited, live_awaited}
use Rattle.trace_returned.proofs.ActMoves.{sent_view, server_packet_gave, server_packet_true, client_packet_gave, client_packet_true}

-- ---- GRANTs

-- a request that a GRANT is for
request_raised : (s : Settings) (client : HostId) (c : Called) (ran : Bool) (service : ℕ) (part : Incoming) (o : Option Part) (offset : ℕ)
    (from to : HostId) → from ≡ c.server → to ≡ client → offset ≡ new_end s.window (seen part) → part.granted < offset
    → IsSameRequest s client c ran (Some (service, part)) o
    → IsSameRequest s client c ran (Some (service, granted_to part offset)) (option_map (raised from to offset) o)
request_raised s client c ran service part None offset from to a b is more k = absurd k
request_raised s client c ran service part (Some q) offset from to a b is more k = (
  k.0,
  same_granted s c.server c.request part q offset k.1 is more from to (k.1.near.at ∙ sym a) (k.2 ∙ sym b),
  peer_granted s c.server c.request part q offset k.1 is more from to ∙ k.2,
)

response_raised : (s : Settings) (u : View) (id : CallId) (server : HostId) (inc : ℕ) (part : Incoming) (o : Option Part) (offset : ℕ)
    (from to : HostId) → from ≡ id.client → to ≡ server → offset ≡ new_end s.window (seen part) → part.granted < offset
    → IsSamePiece s u id server inc (Some part) o → IsSamePiece s u id server inc (Some (granted_to part offset)) (option_map (raised from to offset) o)
response_raised s u id server inc part None offset from to a b is more k = absurd k
response_raised s u id server inc part (Some q) offset from to a b is more k = (
  k.0,
  k.1,
  same_granted s id.client k.0 part q offset k.2 is more from to (k.2.near.at ∙ sym a) (k.3 ∙ sym b),
  peer_granted s id.client k.0 part q offset k.2 is more from to ∙ k.3,
)

module _ (s : Settings) (w : World) (v : View) (host : HostId) (now : ℕ) (stands : host.0 < length w.hosts) (work : Work)
    (k : IsAmid s w v host now work) (id : CallId) (t : IsTrue s (put w host work) (said_so_far w v work)) where
  -- where the lines of a packet are numbered
  abbrev number : ℕ
  number = length w.packets + length (packets_in work.told)

  pub server_granted_true : (offset prio : ℕ) (row : ServerRow) (service : ℕ) (part : Incoming) (base count : ℕ) → get work.host.servers id ≡ Some row
      → row.state ≡ Receiving service part base count → offset ≡ new_end s.window (seen part) → part.granted < offset
      → IsAmid s w v host now (server_is_granted s id (body.Grant offset prio) offset (Some row) work)
      → IsTrue s (put w host (server_is_granted s id (body.Grant offset prio) offset (Some row) work))
      (said_so_far w v (server_is_granted s id (body.Grant offset prio) offset (Some row) work))
  server_granted_true offset prio row service part base count at is end more after =
      let u : View = said_so_far w v work in
      let p : Packet = server_grant s id work offset prio in
      let new : Work = server_is_granted s id (body.Grant offset prio) offset (Some row) work in
      let x : Stand = amid w v host work id host in
      let here : x.server ≡ Some (Receiving service part base count) = server_there w v host work id stands ∙ ap state_of at ∙ ap (λ (y : State). Some y) is in
      let made = row_made (times s) host x (Receiving service part base count) (k.kept.calls id host) here in
      let told = request_tale u number p id refl t.level offset prio refl refl in
      let raised_tale : Tale =
      record {
        live = get u.now.live id;
        request = option_map (raised (sender p) (receiver p) offset) (get u.now.requests id);
        response = get u.now.responses id;
      } in
      let old = t.same id host in
      let state : State = Receiving service (granted_to part offset) (now_of work) count in
      let granted : IsSame s (sent_view s w v host now stands work new id p) id host (with_server x (Some state) x.ran) raised_tale = record {
        live = old.live;
        request = λ c called is_here.
            request_raised s id.client c x.ran service part (get u.now.requests id) offset (sender p) (receiver p) (k.name ∙ sym is_here) refl end more
            (subst (λ o. IsSameRequest s id.client c x.ran (receiving o) (get u.now.requests id)) here (old.request c called is_here));
        unmade = λ e. ap (option_map (raised (sender p) (receiver p) offset)) (old.unmade e);
        response = response_later s u (send_line number p ∷ []) id x.client (get u.now.responses id) (tt, tt) old.response;
        replies = tt;
      } in
      let itself = subst
      (IsSame s (sent_view s w v host now stands work new id p) id host (with_server x (Some (state_granted (now_of work) offset row.state)) x.ran))
      (sym told)
      (subst (λ (y : State). IsSame s (sent_view s w v host now stands work new id p) id host
      (with_server x (Some (state_granted (now_of work) offset y)) x.ran) raised_tale) (sym is) granted) in
      server_packet_true s w v host now stands work new id p (server_granted (now_of work) offset row) (server_granted-move s id work offset prio row)
      after refl made t itself (ap (λ (y : Tale). y.live) told) (ap (λ (y : Tale). y.response) told) tt

  pub client_granted_true : (offset prio : ℕ) (r : ClientRow) (part : Incoming) → get work.host.clients id ≡ Some r → r.part ≡ Some part
      → offset ≡ new_end s.window (seen part) → part.granted < offset
      → IsAmid s w v host now (client_is_granted s id (body.Grant offset prio) offset (Some r) work)
      → IsTrue s (put w host (client_is_granted s id (body.Grant offset prio) offset (Some r) work))
      (said_so_far w v (client_is_granted s id (body.Grant offset prio) offset (Some r) work))
  client_granted_true offset prio r part at has end more after =
      let u : View = said_so_far w v work in
      let p : Packet = client_grant s id work offset prio r in
      let new : Work = client_is_granted s id (body.Grant offset prio) offset (Some r) work in
      let mine : id.client ≡ host = k.own id r at in
      let told = response_tale u number p id refl t.level offset prio refl refl in
      let raised_tale : Tale =
      record {
        live = get u.now.live id;
        request = get u.now.requests id;
        response = option_map (raised (sender p) (receiver p) offset)
            (get u.now.responses id);
      } in
      let after_view : View = sent_view s w v host now stands work new id p in
      let each = (λ (n : HostId).
      let x : Stand = amid w v host work id n in
      let row : x.client ≡ Some r = client_there w v host work id n stands mine ∙ at in
      let old = t.same id n in
      let later = response_later s u (send_line number p ∷ []) id x.client (get u.now.responses id) (tt, tt) old.response in
      let before : IsSamePiece s after_view id r.server r.seen (Some part) (get u.now.responses id) =
      subst (λ o. IsSamePiece s after_view id r.server r.seen o (get u.now.responses id)) has
      (subst (λ o. IsSameResponse s after_view id o (get u.now.responses id)) row later) in
      let granted : IsSame s after_view id n (with_client x (Some (client_granted (now_of work) offset r))) raised_tale = record {
        live = old.live ∙ ap (option_map (λ (y : ClientRow). y.seen)) row;
        request = old.request;
        unmade = old.unmade;
        response = subst
            (λ o. IsSamePiece s after_view id r.server r.seen (granted_part offset o)
            (option_map (raised (sender p) (receiver p) offset) (get u.now.responses id))) (sym has)
            (response_raised s after_view id r.server r.seen part (get u.now.responses id) offset (sender p) (receiver p) refl refl end more before);
        replies = subst (λ xs. Replies xs x.server)
            (sym (client_packet_gave s w v host now stands work new id p (client_granted (now_of work) offset r) mine
            (client_granted-move s id work offset prio r (mine ∙ sym k.name)) after id n)) old.replies;
      } in
      subst (IsSame s after_view id n (with_client x (Some (client_granted (now_of work) offset r)))) (sym told) granted) in
      client_packet_true s w v host now stands work new id p (client_granted (now_of work) offset r) mine
      (client_granted-move s id work offset prio r (mine ∙ sym k.name)) after refl t each tt

  -- ---- pieces

  -- of a request
  pub request_true : (r : ClientRow) (range : Range) → get work.host.clients id ≡ Some r → IsAmid s w v host now (request_leaves s id r range work)
      → IsTrue s (put w host (request_leaves s id r range work)) (said_so_far w v (request_leaves s id r range work))
  request_true r range at after =
      let u : View = said_so_far w v work in
      let p : Packet = request_piece s id work r range in
      let new : Work = request_leaves s id r range work in
      let mine : id.client ≡ host = k.own id r at in
      let told = packet_tale u number p id refl t.level refl id in
      let after_view : View = sent_view s w v host now stands work new id p in
      let each = (λ (n : HostId).
      let x : Stand = amid w v host work id n in
      let row : x.client ≡ Some r = client_there w v host work id n stands mine ∙ at in
      let old = t.same id n in
      let same : awaiting (Some (client_sends s (now_of work) r)) ≡ awaiting x.client = while_same r (now_of work) ∙ ap awaiting (sym row) in
      let sent : IsSame s after_view id n (with_client x (Some (client_sends s (now_of work) r))) (tale u.now id) = record {
        live = old.live ∙ live_awaited x.client (Some (client_sends s (now_of work) r)) same;
        request = old.request;
        unmade = old.unmade;
        response = response_awaited s after_view id x.client (Some (client_sends s (now_of work) r)) (get u.now.responses id) same
            (response_later s u (send_line number p ∷ []) id x.client (get u.now.responses id) (tt, tt) old.response);
        replies = subst (λ xs. Replies xs x.server)
            (sym (client_packet_gave s w v host now stands work new id p (client_sends s (now_of work) r) mine
            (request_leaves-move s id work r range (mine ∙ sym k.name)) after id n)) old.replies;
      } in
      subst (IsSame s after_view id n (with_client x (Some (client_sends s (now_of work) r)))) (sym told) sent) in
      client_packet_true s w v host now stands work new id p (client_sends s (now_of work) r) mine
      (request_leaves-move s id work r range (mine ∙ sym k.name)) after refl t each tt where
        while_same : (r : ClientRow) (now : ℕ) → awaiting (Some (client_sends s now r)) ≡ awaiting (Some r)
        while_same r now = cond_both (nat_lt r.out.top r.out.length) _ _ (λ (y : ClientRow). awaiting (Some y) ≡ awaiting (Some r)) (λ _. refl) (λ _. refl)

  -- of a response, in the life that answered
  pub response_true : (row : ServerRow) (response : List ℕ) (out : Outgoing) (order base count : ℕ) (range : Range) → 0 < s.seg
      → get work.host.servers id ≡ Some row → row.state ≡ Replying response out order base count → next_range out s.seg ≡ Some range
      → let content : Content = response_content s (peer_cutoffs s work.host id.client).cutoffs response out range in
      IsAmid s w v host now (response_leaves s id row content range work)
      → IsTold s (put w host (response_leaves s id row content range work)) (said_so_far w v (response_leaves s id row content range work))
      → IsTrue s (put w host (response_leaves s id row content range work)) (said_so_far w v (response_leaves s id row content range work))
  response_true row response out order base count range seg at is front after told_after =
      let u : View = said_so_far w v work in
      let content : Content = response_content s (peer_cutoffs s work.host id.client).cutoffs response out range in
      let p : Packet = response_piece s id work content in
      let new : Work = response_leaves s id row content range work in
      let next_row : ServerRow = record row { state = state_sends s (now_of work) row.state } in
      let x : Stand = amid w v host work id host in
      let here : x.server ≡ Some (Replying response out order base count) =
      server_there w v host work id stands ∙ ap state_of at ∙ ap (λ (y : State). Some y) is in
      let made = row_made (times s) host x (Replying response out order base count) (k.kept.calls id host) here in
      let fits : RowFits host x (Some (Replying response out order base count)) =
      row_is (times s) host x (Some (Replying response out order base count)) (k.kept.calls id host) here in
      let told = packet_tale u number p id refl t.level refl id in
      let old = t.same id host in
      let gave : Replies (replies u host id) (Some (Replying response out order base count)) = subst (Replies (replies u host id)) here old.replies in
      let after_view : View = sent_view s w v host now stands work new id p in
      let still = server_packet_gave s w v host now stands work new id p next_row (response_leaves-move s id work row content range) after id host in
      let state : State = state_sends s (now_of work) (Replying response out order base count) in
      let sent : IsSame s after_view id host (with_server x (Some state) x.ran) (tale u.now id) = record {
        live = old.live;
        request = λ c called is_here. subst (λ o. IsSameRequest s id.client c x.ran (receiving o) (get u.now.requests id)) here (old.request c called is_here);
        unmade = old.unmade;
        response = response_later s u (send_line number p ∷ []) id x.client (get u.now.responses id) (tt, tt) old.response;
        replies = (still ∙ gave.0, ap (λ (o : Option Range). (outgoing.sent out o).length) front ∙ gave.1);
      } in
      let itself = subst (IsSame s after_view id host (with_server x (Some (state_sends s (now_of work) row.state)) x.ran)) (sym told)
      (subst (λ (y : State). IsSame s after_view id host (with_server x (Some (state_sends s (now_of work) y)) x.ran) (tale u.now id)) (sym is) sent) in
      let said_is : said_so_far w v new ≡ after_view =
      move_said w v host work new (Sends p ∷ []) work.host.clients _ (response_leaves-move s id work row content range) in
      let lives : HasLives after_view host new.host =
      subst (λ (y : View). HasLives y host new.host) said_is (told_after.lives host new.host (there w.hosts host.0 new.host stands)) in
      let packets = told_packets u number (Sends p ∷ []) tt in
      let known = reply_now after_view host new.host id response lives (sent_of p) (u.packets) packets k.name refl (still ∙ gave.0) in
      server_packet_true s w v host now stands work new id p next_row (response_leaves-move s id work row content range) after refl made t itself
      (ap (λ (y : Tale). y.live) told) (ap (λ (y : Tale). y.response) told) (
        response,
        subst (λ (h : HostId). IsReplyOf after_view id h work.host.inc response) (sym k.name) known,
        next_slice response out s.seg range seg fits.1 gave.1 front,
      ) where
        all_last : (P : Sent → Type 0) (xs : List Sent) (x : Sent) → AllByRecursion P (xs ++ x ∷ []) → P x
        all_last P [] x all = all.0
        all_last P (y ∷ xs) x all = all_last P xs x all.1

        reply_now : (u : View) (host : HostId) (h : Host) (q : CallId) (response : List ℕ) → HasLives u host h → (p : Sent) (ps : List Sent)
            → u.packets ≡ ps ++ p ∷ [] → p.from ≡ host → p.inc ≡ h.inc → replies u host q ≡ response ∷ [] → IsReplyOf u q host h.inc response
        reply_now u host h q response l p ps has from inc gave = record { life = life u host; told = by_life (life u host) refl; gave = gave } where
          told_first : p.inc ≡ l.first → get u.firsts host.0 ≡ Some l.first
          told_first e =
              all_last (λ (y : Sent). y.from ≡ host → y.inc ≡ l.first → get u.firsts host.0 ≡ Some l.first) ps p
              (subst (AllByRecursion (λ (y : Sent). y.from ≡ host → y.inc ≡ l.first → get u.firsts host.0 ≡ Some l.first)) has l.sent) from e

          by_life : (n : ℕ) → life u host ≡ n → incarnation u host n ≡ Some h.inc
          by_life zero e = let same : h.inc ≡ l.first = omega (arith, l.now, e) in told_first (inc ∙ same) ∙ ap Some (sym same)
          by_life (suc m) e = l.later m (omega (arith, e)) ∙ ap Some (let same : l.first + m + 1 ≡ h.inc = omega (arith, l.now, e) in same)
