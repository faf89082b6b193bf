-- A packet of its server comes to a call's row at its client: each rule keeps the lifetime invariant.
use Rattle.std.proofs.Common.{◌≡◌, ℕ, ◌+◌, ◌≤◌, Bool, true, false, Option, Some, None, List, [], ◌∷◌, refl, sym, ap, subst, ◌∙◌, arith}
use Rattle.std.specs.Prelude.{◌==◌, not, nat_lt}
use Rattle.std.proofs.lemmas.Bool.{cond_both}
use Rattle.homa_plain.specs.declared.id.CallId.{CallId}
use Rattle.homa_plain.specs.declared.id.HostId.{HostId}
use Rattle.homa_plain.specs.declared.packet.Role.{Role}
use Rattle.homa_plain.specs.declared.packet.Role.TheVariants.{Server}
use Rattle.homa_plain.specs.declared.packet.Body.{Body}
use Rattle.homa_plain.specs.declared.packet.Body.TheVariants as body
use Rattle.homa_plain.specs.declared.settings.Settings.{Settings}
use Rattle.homa_plain.specs.Calls.{is_host}
use Rattle.homa_plain.specs.Incoming.{Incoming, with_bytes, is_whole, leaves_too_many_gaps}
use Rattle.homa_plain.specs.Incoming as incoming
use Rattle.homa_plain.specs.Outgoing.{Outgoing, grant, restart}
use Rattle.homa_plain.specs.Busy.{Answer, Busy, Queued, resend, is_busy}
use Rattle.homa_plain.specs.Outgoing as outgoing
use Rattle.homa_plain.specs.Packets.{Packet, sender, sender_of}
use Rattle.homa_plain.specs.Rows.{ClientRow}
use Rattle.homa_plain.specs.Host.{pages_for}
use Rattle.homa_plain.specs.Rules.{Moment, Piece, Say, Posts, Did, keeps, says, opening, version_of}
use Rattle.homa_plain.specs.AtClient.{renewed, refreshed, with_part, piece_added, piece_comes, response_piece, started_over, answered}
use Rattle.homa_plain.specs.Busy.{busy_for}
use Rattle.homa_plain.specs.AtClient.{unasked, client_gets}
use Rattle.homa_plain.proofs.CallOrder.{hosts_are}
use Rattle.homa_plain.proofs.OutgoingLaws as out_laws
use Rattle.trace_steps.specs.Stands.{Stand}
use Rattle.trace_once.specs.Lifetime.{Times, CoversReply, ReplyFits, Fits, Lifetime}
use Rattle.step_moves.proofs.Hosts.{none_some, some_is}
use Rattle.trace_once.proofs.ClientRules.{AllBare, IsLike, ClientChange, ClientKeeps, gone_change, like_change, as_change, heard_change, IsSame}
use Rattle.trace_once.proofs.ClientRules.{same_row, like_same, like_itself, change_same}
use Rattle.homa_plain.specs.Busy as busy

-- ---- the request

grant_top : (p : Outgoing) (offset prio : ℕ) → ((grant p offset prio).top ≡ p.top) × ((grant p offset prio).length ≡ p.length)
grant_top p offset prio = cond_both (nat_lt p.granted _) _ _ (λ (o : Outgoing). (o.top ≡ p.top) × (o.length ≡ p.length)) (λ _. (refl, refl)) (λ _. (refl, refl))

resend_top : (p : Outgoing) (a b prio : ℕ) → ((resend p a b prio).part.top ≡ p.top) × ((resend p a b prio).part.length ≡ p.length)
resend_top p a b prio =
    cond_both (is_busy p a _) _ _ (λ (o : busy.Resent). (o.part.top ≡ p.top) × (o.part.length ≡ p.length)) (λ _. (refl, refl)) (λ _. (refl, refl))

busy_bare : (o : Option ClientRow) (a : Answer) → AllBare o (busy_for a)
busy_bare o Busy = (tt, tt)
busy_bare o Queued = tt

-- ---- the response

-- a rule that leaves the row but for its response, or ends the call
record IsPart (r : ClientRow) (d : Did ClientRow) : Type 0 where
  row : (x : ClientRow) → d.row ≡ Some x → IsSame r x
  bare : AllBare d.row d.says

is_part : (r x : ClientRow) (d : Did ClientRow) → d.row ≡ Some x → IsSame r x → AllBare d.row d.says → IsPart r d
is_part r x d is same bare = record { row = λ y e. subst (IsSame r) (some_is x y (sym is ∙ e)) same; bare = bare }

silent_bare : (o : Option ClientRow) (said : List Say) → said ≡ [] → AllBare o said
silent_bare o said e = subst (AllBare o) (sym e) tt

other_part : (r : ClientRow) (part : Incoming) → IsSame r (with_part r part)
other_part r part = record { called = refl; out = refl; heard = refl }

added_part : (id : CallId) (r : ClientRow) (part : Incoming) (d : Did ClientRow) → d.says ≡ [] → IsPart r (piece_added id r part d)
added_part id r part d silent =
    cond_both (is_whole part) _ _ (IsPart r)
    (λ _. record { row = λ x e. absurd (none_some x e); bare = tt })
    (λ _. is_part r (with_part r part) _ refl (other_part r part) (silent_bare (Some (with_part r part)) d.says silent))

comes_part : (id : CallId) (r : ClientRow) (part : Incoming) (piece : Piece) (d : Did ClientRow) → d.says ≡ [] → IsPart r (piece_comes id r part piece d)
comes_part id r part piece d silent =
    cond_both (not (part.length == piece.size)) _ _ (IsPart r)
    (λ _. is_part r (with_part r part) (record d { row = Some (with_part r part) }) refl (other_part r part)
    (silent_bare (Some (with_part r part)) d.says silent))
    (λ _. cond_both (leaves_too_many_gaps part piece.offset piece.payload) _ _ (IsPart r)
    (λ _. is_part r (with_part r part) _ refl (other_part r part) tt)
    (λ _. added_part id r (with_bytes part piece.offset piece.payload) (record d { version = version_of piece }) silent))

response_part : (c : Settings) (m : Moment) (id : CallId) (r : ClientRow) (o : Option Incoming) (piece : Piece) → IsPart r (response_piece c m id r o piece)
response_part c m id r None piece =
    cond_both (nat_lt m.free (pages_for piece.size)) _ _ (IsPart r)
    (λ _. is_part r r _ refl (same_row r) tt)
    (λ _. comes_part id r (incoming.opened r.server piece.size m.order c.unsched) piece (opening piece.size (keeps m r)) refl)
response_part c m id r (Some part) piece = comes_part id r part piece (keeps m r) refl

-- ---- packets

module _ (s : Times) (v : Stand) where
  part_keeps : (r : ClientRow) (d : Did ClientRow) → ClientChange s v (Some r) → IsPart r d → ClientKeeps s v d
  part_keeps r d n p = record { row = change_same s v r d.row n p.row; bare = p.bare }

  -- the row, and something is said
  row_keeps : (m : Moment) (r : ClientRow) (said : List Say) → ClientChange s v (Some r) → AllBare (Some r) said → ClientKeeps s v (says m (Some r) said)
  row_keeps m r said n bare = record { row = n; bare = bare }

  -- the row with another outgoing part, of which as much was sent
  out_keeps : (h : HostId) (m : Moment) (r : ClientRow) (out : Outgoing) (said : List Say) → ClientChange s v (Some r) → outgoing.IsSound out
      → out.top ≡ r.out.top → out.length ≡ r.out.length → AllBare (Some (record r { out = out })) said
      → ClientKeeps s v (says m (Some (record r { out = out })) said)
  out_keeps h m r out said n sound top long bare =
      let x : ClientRow = record r { out = out } in
      let p = n.like r refl in
      let like : IsLike p.0 x = record { called = p.2.called; long = long ∙ p.2.long; sent = λ full. top ∙ p.2.sent full ∙ sym long; out = sound } in
      row_keeps m x said (like_change s h v p.0 x p.1 like (n.heard r refl) (λ y is. n.covered r y refl is)) bare

  started_keeps : (h : HostId) (m : Moment) (r : ClientRow) (o : Option Incoming) → ClientChange s v (Some r) → outgoing.IsSound r.out
      → ClientKeeps s v (keeps m (started_over r o))
  started_keeps h m r None n sound = out_keeps h m r (restart r.out) [] n (out_laws.sound-restart r.out sound) refl refl tt
  started_keeps h m r (Some part) n sound = row_keeps m r [] n tt

  answered_keeps : (h : HostId) (c : Settings) (m : Moment) (id : CallId) (what : Body) (payload : List ℕ) (r : ClientRow) → ClientChange s v (Some r)
      → outgoing.IsSound r.out → ClientKeeps s v (answered c m id what payload r)
  answered_keeps h c m id (body.Data size offset version service ack) payload r n sound =
      part_keeps r _ n (response_part c m id r r.part (record { size = size; offset = offset; version = version; service = service; payload = payload }))
  answered_keeps h c m id (body.Grant offset prio) payload r n sound =
      out_keeps h m r (grant r.out offset prio) [] n (out_laws.sound-grant r.out offset prio sound) (grant_top r.out offset prio).0
      (grant_top r.out offset prio).1 tt
  answered_keeps h c m id (body.Resend from to prio) payload r n sound =
      out_keeps h m r (resend r.out from to prio).part (busy_for (resend r.out from to prio).answer) n (out_laws.sound-resend r.out from to prio sound)
      (resend_top r.out from to prio).0 (resend_top r.out from to prio).1
      (busy_bare (Some (record r { out = (resend r.out from to prio).part })) (resend r.out from to prio).answer)
  answered_keeps h c m id (body.Unknown reason) payload r n sound =
      cond_both (reason == 0) _ _ (ClientKeeps s v) (λ _. started_keeps h m r r.part n sound) (λ _. record { row = gone_change s h v; bare = tt })
  answered_keeps h c m id body.NeedAck payload r n sound = row_keeps m r (Posts body.Busy ∷ []) n (tt, tt)
  answered_keeps h c m id other payload r n sound = row_keeps m r [] n tt

  -- a packet of a call that isn't live
  unasked_keeps : (h : HostId) (m : Moment) (what : Body) → ClientKeeps s v (unasked m what)
  unasked_keeps h m body.NeedAck = record { row = gone_change s h v; bare = ((refl, refl), tt) }
  unasked_keeps h m other = record { row = gone_change s h v; bare = tt }

-- a later life of the server
renewed_is : (inc : ℕ) (q : ClientRow) → IsSame q (renewed inc q)
renewed_is inc q = cond_both (nat_lt q.seen inc) _ _ (IsSame q) (λ _. record { called = refl; out = refl; heard = refl }) (λ _. same_row q)

refreshed_out : (now : ℕ) (what : Body) (r : ClientRow) → (refreshed now what r).out ≡ r.out
refreshed_out now (body.Unknown reason) r = refl
refreshed_out now body.NeedAck r = refl
refreshed_out now (body.Cutoffs cutoffs) r = refl
refreshed_out now other r = refl

module _ (s : Times) (h : HostId) (v : Stand) where
  -- the server was heard of now, but not by UNKNOWN
  came_change : (now t inc : ℕ) (what : Body) (q : ClientRow) → Lifetime s h v → v.client ≡ Some q → now ≤ v.clock + s.band → v.clock ≤ t + s.life
      → (h ≡ q.server → ReplyFits s v t what)
      → ClientChange s v (Some (refreshed now what (renewed inc q)))
  came_change now t inc what q k at within fresh fits = by_body what fits where
    r : ClientRow
    r = renewed inc q

    like : IsLike q r
    like = like_same q q r (like_itself q (k.client q at).out) (renewed_is inc q)

    new : (x : ClientRow) → x.heard ≡ now → IsLike q x → (h ≡ q.server → CoversReply s v t) → ClientChange s v (Some x)
    new x heard like covers = heard_change s h v q x t k at like (omega (arith, heard, within)) fresh covers

    by_body : (what : Body) → (h ≡ q.server → ReplyFits s v t what) → ClientChange s v (Some (refreshed now what r))
    by_body (body.Unknown reason) fits = as_change s h v q r k at like (sym (renewed_is inc q).heard)
    by_body body.NeedAck fits =
        new (refreshed now body.NeedAck r) refl (record { called = like.called; long = like.long; sent = like.sent; out = like.out }) fits
    by_body (body.Cutoffs cutoffs) fits =
        new (refreshed now (body.Cutoffs cutoffs) r) refl (record { called = like.called; long = like.long; sent = like.sent; out = like.out }) fits
    by_body (body.Ack more) fits =
        new (refreshed now (body.Ack more) r) refl (record { called = like.called; long = like.long; sent = like.sent; out = like.out }) (λ e. absurd (fits e))
    by_body (body.Data size offset version service (Some call)) fits =
        new (refreshed now (body.Data size offset version service (Some call)) r) refl
        (record { called = like.called; long = like.long; sent = like.sent; out = like.out }) (λ e. absurd (fits e))
    by_body other fits = new (refreshed now other r) refl (record { called = like.called; long = like.long; sent = like.sent; out = like.out }) fits

  -- nothing happens to a row
  idle_keeps : (m : Moment) (q : ClientRow) → Lifetime s h v → v.client ≡ Some q → ClientKeeps s v (keeps m q)
  idle_keeps m q k at = record { row = as_change s h v q q k at (like_itself q (k.client q at).out) refl; bare = tt }

  -- a packet of a server comes, which may still be taken
  pub client_gets_keeps : (c : Settings) (m : Moment) (p : Packet) (t : ℕ) (o : Option ClientRow) → Lifetime s h v → v.client ≡ o
      → m.now ≤ v.clock + s.band → v.clock ≤ t + s.life → p.role ≡ Server
      → (h ≡ p.server → Fits s h v t Server p.body p.payload) → ClientKeeps s v (client_gets c m p o)
  unfolding client_gets
  client_gets_keeps c m p t None k at within fresh role f = unasked_keeps s v h m p.body
  client_gets_keeps c m p t (Some q) k at within fresh role f =
      cond_both (not (is_host (sender p) q.server)) _ _ (ClientKeeps s v)
      (λ _. idle_keeps m q k at)
      (λ same.
      let from : sender p ≡ q.server = (hosts_are (sender p) q.server).0 (not_false (is_host (sender p) q.server) same) in
      let server : q.server ≡ p.server = sym from ∙ ap (λ (x : Role). sender_of x p.id p.server) role in
      cond_both (nat_lt p.inc q.seen) _ _ (ClientKeeps s v)
      (λ _. idle_keeps m q k at)
      (λ _.
      answered_keeps s v h c m p.id p.body p.payload (refreshed m.now p.body (renewed p.inc q))
      (came_change m.now t p.inc p.body q k at within fresh (λ e. (f (e ∙ server)).fits))
      (subst outgoing.IsSound ((renewed_is p.inc q).out ∙ sym (refreshed_out m.now p.body (renewed p.inc q))) (k.client q at).out))) where
        not_false : (b : Bool) → not b ≡ false → b ≡ true
        not_false true e = refl
        not_false false e = sym e
