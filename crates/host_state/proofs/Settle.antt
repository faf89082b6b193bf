-- What a rule's answer has the control do is what the plain step does.
use Rattle.std.proofs.Common.{◌≡◌, ◌≤◌, ◌<◌, ℕ, zero, suc, true, cond, Option, None, List, [], ◌∷◌, ◌++◌, length, map, refl, sym, ap, subst, ◌∙◌, arith}
use Rattle.std.specs.Prelude.{IfSome, slice_get, slice_set, slice_index_or, drop, take, min, ◌-◌, ◌+◌, ◌^◌}
use Rattle.std.specs.List.{AllByRecursion}
use Rattle.std.proofs.lemmas.List.{map-set, get_or-map, length-map, length-set, length-take, length-drop}
use Rattle.plain_sets.specs.Ranges.{Range, range}
use Rattle.plain_sets.specs.Maps.{insert}
use Rattle.homa_plain.specs.declared.id.CallId.{CallId}
use Rattle.homa_plain.specs.declared.id.HostId.{HostId}
use Rattle.homa_plain.specs.declared.packet.Role.{Role}
use Rattle.homa_plain.specs.declared.packet.Role.TheVariants.{Client, Server}
use Rattle.homa_plain.specs.declared.packet.Body.TheVariants as body
use Rattle.homa_plain.specs.declared.packet.Cutoffs.{Cutoffs}
use Rattle.homa_plain.specs.declared.settings.Settings.{Settings}
use Rattle.homa_plain.specs.Wire.{IsCall, IsPiece}
use Rattle.homa_plain.specs.Outgoing.{Outgoing}
use Rattle.homa_plain.specs.Cutoffs.{first_cutoffs, level_of}
use Rattle.homa_plain.proofs.CutoffLaws.{is_level_of}
use Rattle.homa_plain.specs.Rows.{ClientRow, ServerRow, RowsOf, set_row}
use Rattle.homa_plain.specs.Rules.{Say, Tells, Posts, Did}
use Rattle.homa_plain.specs.Host.{Host, PeerCutoffs, peer_cutoffs, finished_at, with_finished, Sends}
use Rattle.homa_plain.specs.Sending.{Content, level_at, request_content, response_content, client_sends, state_sends}
use Rattle.homa_plain.specs.Work.{Work, tells, said}
use Rattle.homa_plain.specs.CutoffsPackets.{notes, tells_cutoffs, is_newer, hears_cutoffs}
use Rattle.homa_plain.specs.FiveAcks.{finishes}
use Rattle.homa_plain.specs.Steps.{asked, served}
use Rattle.homa_plain.specs.SentNext.{request_leaves}
use Rattle.homa_plain.specs.SentNext.{response_leaves}
use Rattle.homa_plain.specs.FiveAcks.{oldest}
use Rattle.homa_plain.specs.Work.{packet_from, now_of}
use Rattle.homa_plain.specs.Credit.{spent}
use Rattle.host_view.specs.declared.mark.Mark.{Mark}
use Rattle.host_view.specs.declared.mark.Mark.TheVariants.{Sent}
use Rattle.host_view.specs.declared.outbox.SentFrame.{SentFrame}
use Rattle.host_view.specs.Frames.{frame_of, IsFormed}
use Rattle.host_state.specs.Control.{Control, IsAt, IsSound, AreFit, sent_by}
use Rattle.host_state.specs.Fields.{peer_of}
use Rattle.host_state.specs.Saying.{AreSays, IsOutcome, IsPieceOf}
use Rattle.host_state.specs.declared.cutoffs_packets.Peer.{Peer}
use Rattle.host_state.specs.declared.saying.Said.{Said}
use Rattle.host_state.specs.declared.saying.Said.TheVariants.{Tell}
use Rattle.host_state.specs.declared.saying.Outcome.{Outcome}
use Rattle.host_state.proofs.At.{at-told, at-sent}
use Rattle.host_state.proofs.Calls.{all-at, all-set}

-- what a rule tells
pub at-say-tell : (s : Settings) (h : Host) (role : Role) (id : CallId) (server : HostId) (w : Work) (c d : Control) (frames : List SentFrame)
    (mark : Mark) (what : Said) (says : List Say)
    → what ≡ Tell mark → AreSays what says → d ≡ record c { marks = c.marks ++ mark ∷ [] } → IsAt w c frames
    → IsAt (tells (said s h role id server says) w) d frames
at-say-tell s h role id server w c d frames mark what says is are e at = with_says says (subst (λ what. AreSays what says) is are) where
  with_says : (says : List Say) → AreSays (Tell mark) says → IsAt (tells (said s h role id server says) w) d frames
  with_says [] are = absurd are
  with_says (Tells entry ∷ []) are = at-told w c d frames entry (e ∙ ap (λ m. record c { marks = c.marks ++ m ∷ [] }) are) at
  with_says (Tells entry ∷ say ∷ says) are = absurd are
  with_says (Posts posted ∷ says) are = absurd are

-- the host's rows and its order don't show
at-rows : (w : Work) (c : Control) (frames : List SentFrame) (order : ℕ) (clients : RowsOf ClientRow) (servers : RowsOf ServerRow) → IsAt w c frames
    → IsAt (record w { host = record w.host { order = order; clients = clients; servers = servers } }) c frames
at-rows w c frames order clients servers at =
    record {
      id = at.id;
      inc = at.inc;
      last = at.last;
      tuning = at.tuning;
      peers = at.peers;
      finished = at.finished;
      marked = at.marked;
      sent = at.sent;
      formed = at.formed;
    }

-- the moves of a rule's answer, one after the other
module _ (id : CallId) (o : Outcome) (c0 c1 c2 c3 : Control) (f0 f2 f3 : List SentFrame) (role : Role) (server : HostId)
    (noted : (v : Work) (fs : List SentFrame) → IsAt v c0 fs → IsAt (notes c0.settings o.opened v) c1 fs)
    (told : (v : Work) → IsAt v c1 f0 → IsAt (tells_cutoffs c1.settings role id server o.version v) c2 f2)
    (spoken : (v : Work) (h : Host) (says : List Say) → h.inc ≡ c2.inc → h.last ≡ c2.last → AreSays o.said says → IsAt v c2 f2 → IsAt
    (tells (said c2.settings h role id server says) v) c3 f3)
    (s1 : c1.settings ≡ c0.settings) (s2 : c2.settings ≡ c0.settings) (inc : c2.inc ≡ c0.inc) (last : c2.last ≡ c0.last) where
  at_three : (h : Host) (w : Work) (says : List Say) → h.inc ≡ c0.inc → h.last ≡ c0.last → AreSays o.said says → IsAt w c0 f0
      → IsAt (tells (said c0.settings h role id server says) (tells_cutoffs c0.settings role id server o.version (notes c0.settings o.opened w))) c3 f3
  at_three h w says i l are at =
      subst (λ s. IsAt (tells (said s h role id server says) (tells_cutoffs c0.settings role id server o.version (notes c0.settings o.opened w))) c3 f3) s2
      (spoken (tells_cutoffs c0.settings role id server o.version (notes c0.settings o.opened w)) h says (i ∙ sym inc) (l ∙ sym last) are
      (subst (λ s. IsAt (tells_cutoffs s role id server o.version (notes c0.settings o.opened w)) c2 f2) s1
      (told (notes c0.settings o.opened w) (noted w f0 at))))

  pub at-outcome : {R : Type 0} (h : Host) (did : Did R) (w : Work) → h.inc ≡ c0.inc → h.last ≡ c0.last → IsOutcome did o → IsAt w c0 f0
      → IsAt (tells (said c0.settings h role id server did.says) (tells_cutoffs c0.settings role id server did.version (notes c0.settings did.opened w))) c3 f3
  at-outcome h did w i l is at =
      subst (λ v. IsAt
      (tells (said c0.settings h role id server did.says) (tells_cutoffs c0.settings role id server v (notes c0.settings did.opened w))) c3 f3)
      (sym is.version)
      (subst (λ n. IsAt
      (tells (said c0.settings h role id server did.says) (tells_cutoffs c0.settings role id server o.version (notes c0.settings n w))) c3 f3) (sym is.opened)
      (at_three h w did.says i l is.says at))

  pub at-served : role ≡ Server → server ≡ c0.id → (did : Did ServerRow) (w : Work) → IsOutcome did o → IsAt w c0 f0 → IsAt (served c0.settings id did w) c3 f3
  unfolding served
  at-served r sv did w is at =
      let put : Work = record w { host = record w.host { order = did.order; servers = set_row w.host.servers id did.row } } in
      let all = at-outcome w.host did put at.inc at.last is (at-rows w c0 f0 did.order w.host.clients (set_row w.host.servers id did.row) at) in
      subst (λ k. IsAt
      (tells (said c0.settings w.host Server id k did.says) (tells_cutoffs c0.settings Server id k did.version (notes c0.settings did.opened put)))
      c3 f3) (sv ∙ sym at.id)
      (subst (λ r. IsAt
      (tells (said c0.settings w.host r id server did.says) (tells_cutoffs c0.settings r id server did.version (notes c0.settings did.opened put)))
      c3 f3) r all)

  pub at-asked : (c4 : Control) (f4 : List SentFrame) → role ≡ Client → c3.settings ≡ c0.settings
      → ((v : Work) → IsAt v c3 f3 → IsAt (finishes c3.settings id server o.finished v) c4 f4)
      → (did : Did ClientRow) (w : Work) → IsOutcome did o → IsAt w c0 f0 → IsAt (asked c0.settings id server did w) c4 f4
  unfolding asked
  at-asked c4 f4 r s3 finished did w is at =
      let put : Work = record w { host = record w.host { order = did.order; clients = set_row w.host.clients id did.row } } in
      let all = at-outcome w.host did put at.inc at.last is (at-rows w c0 f0 did.order (set_row w.host.clients id did.row) w.host.servers at) in
      let all' = subst
      (λ r. IsAt (tells (said c0.settings w.host r id server did.says)
      (tells_cutoffs c0.settings r id server did.version (notes c0.settings did.opened put))) c3 f3) r all in
      subst (λ b. IsAt
      (finishes c0.settings id server b
      (tells (said c0.settings w.host Client id server did.says)
      (tells_cutoffs c0.settings Client id server did.version (notes c0.settings did.opened put)))) c4 f4) (sym is.finished)
      (subst (λ s. IsAt
      (finishes s id server o.finished
      (tells (said c0.settings w.host Client id server did.says)
      (tells_cutoffs c0.settings Client id server did.version (notes c0.settings did.opened put)))) c4 f4) s3
      (finished (tells (said c0.settings w.host Client id server did.says)
      (tells_cutoffs c0.settings Client id server did.version (notes c0.settings did.opened put))) all'))

-- ---- cutoffs of peers

pub at-heard : (w : Work) (c d : Control) (frames : List SentFrame) (peer : HostId) (inc : ℕ) (cutoffs : Cutoffs)
    → is_newer inc cutoffs (slice_index_or c.peers peer.0 (record { inc = 0; cutoffs = first_cutoffs c.settings.overcommit })) ≡ true
    → d ≡ record c { peers = slice_set c.peers peer.0 (record { inc = inc; cutoffs = cutoffs }) } → IsAt w c frames
    → IsAt (hears_cutoffs c.settings peer inc (body.Cutoffs cutoffs) w) d frames
at-heard w c d frames peer inc cutoffs newer e at =
    subst (λ d. IsAt (hears_cutoffs c.settings peer inc (body.Cutoffs cutoffs) w) d frames) (sym e)
    (subst (λ b. IsAt
    (cond b (record w { host = record w.host { peers = slice_set w.host.peers peer.0 (record { inc = inc; cutoffs = cutoffs }) } }) w)
    (record c { peers = slice_set c.peers peer.0 (record { inc = inc; cutoffs = cutoffs }) }) frames)
    (sym (ap (λ ps. is_newer inc cutoffs (slice_index_or ps peer.0 (record { inc = 0; cutoffs = first_cutoffs c.settings.overcommit }))) at.peers ∙ newer))
    (record {
      id = at.id;
      inc = at.inc;
      last = at.last;
      tuning = at.tuning;
      peers = ap (λ ps. slice_set ps peer.0 (record { inc = inc; cutoffs = cutoffs })) at.peers;
      finished =
          at.finished;
      marked = at.marked;
      sent = at.sent;
      formed = at.formed;
    }))

-- the held cutoffs of a peer
pub held-at : (peers : List Peer) (i : ℕ) (d : Peer) (e : PeerCutoffs) → i < length peers
    → slice_index_or (map peer_of peers) i e ≡ peer_of (slice_index_or peers i d)
held-at peers i d e within = get_or-map peer_of peers i d e within

pub held-set : (peers : List Peer) (i : ℕ) (p : Peer) → map peer_of (slice_set peers i p) ≡ slice_set (map peer_of peers) i (peer_of p)
held-set peers i p = map-set peer_of peers i p

pub peer-within : (peers : List Peer) (i hosts : ℕ) → i < hosts → length (map peer_of peers) ≡ hosts → i < length peers
peer-within peers i hosts h e = subst (λ n. i < n) (sym e ∙ length-map peers peer_of) h

pub peer-fit : (peers : List Peer) (i : ℕ) (p : Peer) → i < length peers → p ≡ slice_index_or peers i p
    → AllByRecursion (λ q. AreFit q.cutoffs) (map peer_of peers) → AreFit p.cutoffs
peer-fit (q ∷ peers) zero p within e all = subst (λ (x : Peer). AreFit x.cutoffs) (sym e) all.0
peer-fit (q ∷ peers) (suc i) p within e all = peer-fit peers i p (omega (arith, within)) e all.1
peer-fit [] i p within e all = absurd (omega (arith, within))

-- ---- pieces

pub level-most : (k : ℕ) (c : Cutoffs) (n : ℕ) → k ≤ 7 → level_of k c n ≤ 7
level-most k c n h = (is_level_of k c n h).to

-- the oldest call of a list
pub oldest-first : (calls : List (ℕ × ℕ)) → oldest calls ≡ slice_get calls 0
oldest-first [] = refl
oldest-first (x ∷ xs) = refl

first_is : (calls : List (ℕ × ℕ)) → AllByRecursion IsCall calls → IfSome (slice_get calls 0) IsCall
first_is [] all = tt
first_is (x ∷ xs) all = all.0

pub ride-call : (book : List (List (ℕ × ℕ))) (peer : ℕ) → AllByRecursion (AllByRecursion IsCall) book
    → IfSome (slice_get (slice_index_or book peer []) 0) IsCall
ride-call book peer all = first_is (slice_index_or book peer []) (all-at (AllByRecursion IsCall) book peer [] tt all)

-- a piece of a request goes out
pub at-request : (w : Work) (c c1 d : Control) (frames frames' : List SentFrame) (id : CallId) (server : HostId) (r : ClientRow) (piece : Range)
    (content : Content)
    → c1 ≡ record c { finished = slice_set c.finished server.0 (drop 1 (slice_index_or c.finished server.0 [])) }
    → IsFormed c1.settings (sent_by c1 Client id server content) → d ≡ record c1 { marks = c1.marks ++ Sent (length frames) ∷ [] }
    → frames' ≡ frames ++ frame_of c1.settings (sent_by c1 Client id server content) ∷ []
    → r.server ≡ server
    → ((ps : List PeerCutoffs) (fs : List (List (ℕ × ℕ))) → ps ≡ c.peers → fs ≡ c.finished
    → request_content c.settings (slice_index_or ps server.0 (record { inc = 0; cutoffs = first_cutoffs c.settings.overcommit })).cutoffs
    (oldest (slice_index_or fs server.0 [])) r piece ≡ content)
    → IsAt w c frames → IsAt (request_leaves c.settings id r piece w) d frames'
at-request w c c1 d frames frames' id server r piece content e1 formed e f sv same at =
    subst (λ sv. IsAt (leaves sv) d frames') (sym sv)
    (subst (λ k. IsAt (tells (Sends (packet_from c.settings w.host Client id server k) ∷ []) after) d frames')
    (sym (same w.host.peers w.host.finished at.peers at.finished))
    (subst (λ s. IsAt (tells (Sends (packet_from s w.host Client id server content) ∷ []) after) d frames') (ap (λ (c : Control). c.settings) e1)
    (at-sent after c1 d frames frames' Client id server content formed e f (subst (λ c1. IsAt after c1 frames) (sym e1) at_after)))) where
      after : Work
      after = spent (piece.to - piece.from)
          (record w {
            host = with_finished server (drop 1 (finished_at w.host server))
                (record w.host { clients = insert w.host.clients id (client_sends c.settings (now_of w) r) });
          })

      leaves : HostId → Work
      leaves sv = tells
          (Sends (packet_from c.settings w.host Client id sv
          (request_content c.settings (peer_cutoffs c.settings w.host sv).cutoffs (oldest (finished_at w.host sv)) r piece)) ∷ [])
          (spent (piece.to - piece.from)
          (record w {
            host = with_finished sv (drop 1 (finished_at w.host sv))
                (record w.host { clients = insert w.host.clients id (client_sends c.settings (now_of w) r) });
          }))

      at_after : IsAt after (record c { finished = slice_set c.finished server.0 (drop 1 (slice_index_or c.finished server.0 [])) }) frames
      at_after = record {
        id = at.id;
        inc = at.inc;
        last = at.last;
        tuning = at.tuning;
        peers = at.peers;
        finished =
            ap (λ fs. slice_set fs server.0 (drop 1 (slice_index_or fs server.0 []))) at.finished;
        marked = at.marked;
        sent = at.sent;
        formed = at.formed;
      }

-- a piece of a response goes out
pub at-response : (w : Work) (c d : Control) (frames frames' : List SentFrame) (id : CallId) (server : HostId) (row : ServerRow) (piece : Range)
    (content k : Content) → server ≡ c.id
    → IsFormed c.settings (sent_by c Server id server content) → d ≡ record c { marks = c.marks ++ Sent (length frames) ∷ [] }
    → frames' ≡ frames ++ frame_of c.settings (sent_by c Server id server content) ∷ []
    → k ≡ content → IsAt w c frames → IsAt (response_leaves c.settings id row k piece w) d frames'
at-response w c d frames frames' id server row piece content k sv formed e f same at =
    subst (λ k. IsAt (response_leaves c.settings id row k piece w) d frames') (sym same)
    (subst (λ sv. IsAt (tells (Sends (packet_from c.settings w.host Server id sv content) ∷ []) after) d frames') (sv ∙ sym at.id)
    (at-sent after c d frames frames' Server id server content formed e f at_after)) where
      after : Work
      after = spent (piece.to - piece.from)
          (record w { host = record w.host { servers = insert w.host.servers id (record row { state = state_sends c.settings (now_of w) row.state }) } })

      at_after : IsAt after c frames
      at_after = record {
        id = at.id;
        inc = at.inc;
        last = at.last;
        tuning = at.tuning;
        peers = at.peers;
        finished = at.finished;
        marked = at.marked;
        sent = at.sent;
        formed = at.formed;
      }

-- what the packets carry
pub same-request : (s : Settings) (r : ClientRow) (from to n prio service : ℕ) (request : List ℕ) (cutoffs k : Cutoffs) (ack oldest : Option (ℕ × ℕ))
    (level : ℕ)
    → cutoffs ≡ k → ack ≡ oldest → r.request ≡ request → r.out.length ≡ n → r.out.prio ≡ prio → r.service ≡ service
    → (r.out.length ≡ n → r.out.prio ≡ prio → level ≡ level_at s k r.out from)
    → request_content s cutoffs ack r (range from to) ≡ record {
      level = level;
      body = body.Data n from k.version service oldest;
      payload = take (to - from) (drop from request);
    }
same-request s r from to n prio service request cutoffs k ack oldest level cut a req len p srv lvl =
    let l : level_at s cutoffs r.out from ≡ level = ap (λ k. level_at s k r.out from) cut ∙ sym (lvl len p) in
    λ i. record { level = l i; body = body.Data (len i) from (cut i).version (srv i) (a i); payload = take (to - from) (drop from (req i)) }

pub same-response : (s : Settings) (part : Outgoing) (from to n prio : ℕ) (response : List ℕ) (cutoffs k : Cutoffs) (level : ℕ)
    → cutoffs ≡ k → part.length ≡ n → part.prio ≡ prio → (part.length ≡ n → part.prio ≡ prio → level ≡ level_at s k part from)
    → response_content s cutoffs response part (range from to)
    ≡ record { level = level; body = body.Data n from k.version 0 None; payload = take (to - from) (drop from response) }
same-response s part from to n prio response cutoffs k level cut len p lvl =
    let l : level_at s cutoffs part from ≡ level = ap (λ k. level_at s k part from) cut ∙ sym (lvl len p) in
    λ i. record { level = l i; body = body.Data (len i) from (cut i).version 0 None; payload = take (to - from) (drop from response) }

pub sound-heard : (c : Control) (i inc : ℕ) (cutoffs : Cutoffs) → AreFit cutoffs → IsSound c
    → IsSound (record c { peers = slice_set c.peers i (record { inc = inc; cutoffs = cutoffs }) })
sound-heard c i inc cutoffs fit is = record {
  valid = is.valid;
  host = is.host;
  inc = is.inc;
  last = is.last;
  own = is.own;
  peers = length-set c.peers i (record { inc = inc; cutoffs = cutoffs }) ∙ is.peers;
  peer_cutoffs = all-set (λ (p : PeerCutoffs). AreFit p.cutoffs) c.peers i (record { inc = inc; cutoffs = cutoffs }) fit is.peer_cutoffs;
  finished = is.finished;
  few = is.few;
  calls = is.calls;
  room = is.room;
}

-- a piece that may be sent
pub fits-piece : (role : Role) (level size from to prio version service : ℕ) (ack : Option (ℕ × ℕ)) (message : List ℕ)
    → IsPieceOf size from to prio (length message) → level ≤ 7 → version < 2 ^ 16 → service < 256
    → IfSome ack IsCall → (role ≡ Server → (service ≡ 0) × (ack ≡ None))
    → IsPiece role level size from version service ack (take (to - from) (drop from message))
fits-piece role level size from to prio version service ack message piece lvl v s a r =
    let long : length (take (to - from) (drop from message)) ≡ to - from = length-take (to - from) (drop from message)
    ∙ ap (λ n. min (to - from) n) (length-drop from message) ∙ cut from to (length message) (subst (λ n. to ≤ n) piece.long piece.inside) in
    record {
      level_in_range = lvl;
      size_in_range = (omega (arith, piece.some, piece.inside), piece.most);
      payload_in_range = (subst (λ n. 1 ≤ n) (sym long) (omega (arith, piece.some)), subst (λ n. n ≤ 1400) (sym long) piece.short);
      inside = subst (λ n. from + n ≤ size) (sym long) (omega (arith, piece.some, piece.inside));
      version_in_range = v;
      service_in_range = s;
      acknowledged = a;
      of_response = r;
    } where
      cut : (from to n : ℕ) → to ≤ n → min (to - from) (n - from) ≡ to - from
      cut from to n h = omega (arith, h)
