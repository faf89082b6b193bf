-- A step of a host: what its first line says of live calls, and the packet that comes.
use Rattle.std.proofs.Common.{◌≡◌, ℕ, ◌≤◌, ◌<◌, Bool, true, false, not, ◌&&◌, Option, Some, None, List, [], ◌∷◌, length, cond, refl, sym, ap, subst, ◌∙◌, arith}
use Rattle.std.specs.Prelude.{nat_lt, nat_le, slice_get, unwrap_or, if◌then◌else◌}
use Rattle.std.specs.Option.{option_map_or}
use Rattle.std.specs.List.{list_any}
use Rattle.std.proofs.lemmas.Bool.{ltb-true, ltb-false, lt-leb, le-leb, and_left, and_right, and_from, true≢false, false_from_ne_true}
use Rattle.plain_sets.specs.Maps.{Map, get, insert}
use Rattle.homa_plain.specs.declared.id.CallId.{CallId}
use Rattle.homa_plain.specs.declared.id.HostId.{HostId}
use Rattle.homa_plain.specs.declared.packet.Role.{Role}
use Rattle.homa_plain.specs.declared.packet.Role.TheVariants.{Client, Server}
use Rattle.homa_plain.specs.declared.packet.Body.{Body}
use Rattle.homa_plain.specs.declared.packet.Body.TheVariants as body
use Rattle.homa_plain.specs.declared.settings.Settings.{Settings}
use Rattle.homa_plain.specs.Calls.{is_host, is_call, call_cmp}
use Rattle.homa_plain.specs.Entries.{PlainDeliver, PlainJunk}
use Rattle.homa_plain.specs.Packets.{Packet, sender, receiver, receiver_of, acks}
use Rattle.homa_plain.specs.Outgoing as outgoing
use Rattle.homa_plain.specs.Rows.{ClientRow, RowsOf}
use Rattle.homa_plain.specs.Host.{Host, Says}
use Rattle.homa_plain.specs.Rules.{Moment, Answer, Did, keeps}
use Rattle.homa_plain.specs.AtClient.{client_gets, answered, unasked, renewed, refreshed}
use Rattle.homa_plain.specs.AtServer.{server_gets}
use Rattle.homa_plain.specs.Tombstones.{server_acked}
use Rattle.homa_plain.specs.Work.{Work}
use Rattle.homa_plain.specs.Steps.{moment, asked, comes_to_row, acked, takes, comes}
use Rattle.homa_plain.specs.CutoffsPackets.{hears_cutoffs}
use Rattle.homa_plain.specs.Wire.{is_server}
use Rattle.trace_rules.specs.Seen as lines
use Rattle.trace_rules.specs.View.{View, has_last, Called, Sent, own_tick, sent_last, resends_of, is_server_of}
use Rattle.trace_rules.specs.Seen.{seen, seen_all, is_unknown}
use Rattle.homa_plain.specs.World.{World, host_at}
use Rattle.homa_plain.proofs.CallOrder.{calls_are, hosts_are}
use Rattle.trace_steps.specs.Told.{sent_of}
use Rattle.step_laws.proofs.Own.{AllOwn, gets_served, acked_served, gets_quiet}
use Rattle.step_moves.proofs.SendMoves.{says-move, hears-move}
use Rattle.trace_steps.proofs.Progress.{get-set, IsLevel}
use Rattle.trace_steps.proofs.Deliveries.{deliver_live, deliver_resends, counts_now, uncounted, counted_live, counted_resends, deliver_aside}
use Rattle.trace_steps.specs.Contents.{called_by}
use Rattle.step_moves.proofs.Hosts.{within, none_some}
use Rattle.trace_steps.proofs.ToldMoves.{each_set}
use Rattle.trace_steps.proofs.ToldSteps.{deliver_same, set_same}
use Rattle.step_moves.proofs.Folds.{acked_kept}
use Rattle.trace_fails.specs.Timeouts.{IsFairRow, IsLiveRow}
use Rattle.trace_fails.proofs.FairRows.{fair_same, fair_heard}
use Rattle.trace_fails.proofs.ClientSays.{IsSameRow, IsAnswered, answered_is, unasked_bare, kept_is}
use Rattle.trace_fails.proofs.FairAmid.{Renewal, none_renewed, AreLiveAs, IsFairAmid, fair_silent, fair_served, fair_answered}
use Rattle.trace_fails.proofs.FairMoves.{Fair}

-- ---- the same row, at a later tick and by other lines

pub row_later : (s : Settings) (v : View) (last now : ℕ) (q : CallId) (r : ClientRow) → last ≤ now → IsLiveRow s v last q r → IsLiveRow s v now q r
row_later s v last now q r le k = record {
  live = k.live;
  called = k.called;
  size = k.size;
  sound = k.sound;
  fair = fair_same s last now r r (resends_of v.now q) (sent_last v q) le (record { top = refl; long = refl; count = refl; base = refl }) k.fair;
}

-- lines that say the same of a call
pub record SameCall (q : CallId) (v u : View) : Type 0 where
  pub live : get u.now.live q ≡ get v.now.live q
  pub resends : get u.now.resends q ≡ get v.now.resends q
  pub called : get u.calls q ≡ get v.calls q
  pub packets : u.packets ≡ v.packets

pub last_same : (q : CallId) (v u : View) → SameCall q v u → sent_last u q ≡ sent_last v q
last_same q v u e =
    ap (λ o. option_map_or (λ (c : Called). list_any (λ (p : Sent). has_last q (length c.request) p p.body) u.packets) o false) e.called
    ∙ ap (λ (ps : List Sent). option_map_or (λ (c : Called). list_any (λ (p : Sent). has_last q (length c.request) p p.body) ps)
    (get v.calls q) false) e.packets

pub row_view : (s : Settings) (v u : View) (last : ℕ) (q : CallId) (r : ClientRow) → SameCall q v u → IsLiveRow s v last q r → IsLiveRow s u last q r
row_view s v u last q r e k = record {
  live = e.live ∙ k.live;
  called = e.called ∙ k.called;
  size = k.size;
  sound = k.sound;
  fair = subst (λ (o : Option (List ℕ)). IsFairRow s last r (unwrap_or o []) (sent_last u q)) (sym e.resends)
      (subst (IsFairRow s last r (resends_of v.now q)) (sym (last_same q v u e)) k.fair);
}

-- ---- a packet of a server comes

-- the row as the lines have renewed it
abbrev pub heard_row : ℕ → Packet → ClientRow → ClientRow
heard_row now p r = if not (is_host (sender p) r.server) then r else if nat_lt p.inc r.seen then r else refreshed now p.body (renewed p.inc r)

abbrev pub heard_by : ℕ → Packet → Renewal
heard_by now p q r = if is_call q p.id then heard_row now p r else r

refreshed_same : (now : ℕ) (what : Body) (r : ClientRow) → ((refreshed now what r).seen ≡ r.seen) × (called_by (refreshed now what r) ≡ called_by r)
    × ((refreshed now what r).request ≡ r.request) × ((refreshed now what r).out ≡ r.out)
refreshed_same now (body.Unknown reason) r = (refl, refl, refl, refl)
refreshed_same now body.NeedAck r = (refl, refl, refl, refl)
refreshed_same now (body.Cutoffs cutoffs) r = (refl, refl, refl, refl)
refreshed_same now (body.Data size offset version service ack) r = (refl, refl, refl, refl)
refreshed_same now (body.Grant offset prio) r = (refl, refl, refl, refl)
refreshed_same now (body.Resend from to prio) r = (refl, refl, refl, refl)
refreshed_same now body.Busy r = (refl, refl, refl, refl)
refreshed_same now (body.Ack more) r = (refl, refl, refl, refl)

renewed_seen : (inc : ℕ) (r : ClientRow) → r.seen ≤ inc → ((renewed inc r).seen ≡ inc) × (called_by (renewed inc r) ≡ called_by r)
    × ((renewed inc r).request ≡ r.request) × ((renewed inc r).out ≡ r.out)
renewed_seen inc r le = by_test (nat_lt r.seen inc) refl where
  by_test : (b : Bool) → nat_lt r.seen inc ≡ b → let x : ClientRow =
      cond b (record r { seen = inc; part = None }) r in (x.seen ≡ inc) × (called_by x ≡ called_by r) × (x.request ≡ r.request) × (x.out ≡ r.out)
  by_test true e = (refl, refl, refl, refl)
  by_test false e = ((let l : inc ≤ r.seen = ltb-false r.seen inc e in omega (arith, l, le)), refl, refl, refl)

module _ (s : Settings) (v : View) (n : ℕ) (p : Packet) (at : slice_get v.packets n ≡ Some (sent_of p)) where
  abbrev delivered_view : View
  delivered_view = seen v (PlainDeliver n)

  calls_same : (q : CallId) → get delivered_view.calls q ≡ get v.calls q
  unfolding seen
  calls_same q = by_packet (slice_get v.packets n) where
    by_packet : (o : Option Sent) → get (lines.delivered (lines.begun v) o).calls q ≡ get v.calls q
    by_packet None = refl
    by_packet (Some p) = refl

  -- another call
  pub delivered_aside : (q : CallId) → is_call q p.id ≡ false → SameCall q v delivered_view
  delivered_aside q e =
      let other : is_call p.id q ≡ false =
      false_from_ne_true (is_call p.id q) (λ t. true≢false (sym ((calls_are q p.id).1 (sym ((calls_are p.id q).0 t))) ∙ e)) in
      let a = deliver_aside v n (sent_of p) at q other in
      record { live = a.0; resends = a.1; called = calls_same q; packets = (deliver_same v n).packets }

  -- one that doesn't count
  pub delivered_uncounted : counts_now v n (sent_of p) at ≡ false → (q : CallId) → SameCall q v delivered_view
  delivered_uncounted c q =
      let u = uncounted v n (sent_of p) at c in
      record {
        live = ap (λ (m : Map call_cmp ℕ). get m q) (deliver_live v n (sent_of p) at ∙ u.0);
        resends = ap (λ (m : Map call_cmp (List ℕ)). get m q) (deliver_resends v n (sent_of p) at ∙ u.1);
        called = calls_same q;
        packets = (deliver_same v n).packets;
      }

  -- a packet of a client counts for none
  pub client_uncounted : p.role ≡ Client → counts_now v n (sent_of p) at ≡ false
  client_uncounted r =
      ap (λ (x : Role). is_server x && is_host (receiver p) p.id.client && is_server_of (lines.begun v) p.id (sender p) && option_map_or
      (λ latest. nat_le latest p.inc) (get v.now.live p.id) false) r

  -- one of the server, for the row of its call: it counts where the rule looks at it
  row_counts : (last : ℕ) (r : ClientRow) → p.role ≡ Server → IsLiveRow s v last p.id r
      → counts_now v n (sent_of p) at ≡ (is_host r.server (sender p) && nat_le r.seen p.inc)
  row_counts last r role k =
      ap (λ (x : Role). is_server x && is_host (receiver_of x p.id p.server) p.id.client && is_server_of (lines.begun v) p.id
      (sender p) && option_map_or (λ latest. nat_le latest p.inc) (get v.now.live p.id) false) role
      ∙ ap (λ b. b && is_server_of v p.id (sender p) && option_map_or (λ latest. nat_le latest p.inc) (get v.now.live p.id) false)
      ((hosts_are p.id.client p.id.client).1 refl)
      ∙ ap (λ o. option_map_or (λ (c : Called). is_host c.server (sender p)) o false && option_map_or (λ latest. nat_le latest p.inc)
      (get v.now.live p.id) false) k.called
      ∙ ap (λ o. is_host r.server (sender p) && option_map_or (λ latest. nat_le latest p.inc) o false) k.live

  pub delivered_row : (last now : ℕ) (r : ClientRow) → p.role ≡ Server → last ≤ now → IsLiveRow s v last p.id r
      → IsLiveRow s delivered_view now p.id (heard_row now p r)
  delivered_row last now r role le k = by_host (is_host (sender p) r.server) refl (nat_lt p.inc r.seen) refl where
    same : IsLiveRow s v now p.id r
    same = row_later s v last now p.id r le k

    turned : (b : Bool) → is_host (sender p) r.server ≡ b → is_host r.server (sender p) ≡ b
    turned true e = (hosts_are r.server (sender p)).1 (sym ((hosts_are (sender p) r.server).0 e))
    turned false e =
        false_from_ne_true (is_host r.server (sender p))
        (λ t. true≢false (sym ((hosts_are (sender p) r.server).1 (sym ((hosts_are r.server (sender p)).0 t))) ∙ e))

    unlooked : counts_now v n (sent_of p) at ≡ false → IsLiveRow s delivered_view now p.id r
    unlooked c = row_view s v delivered_view now p.id r (delivered_uncounted c p.id) same

    x : ClientRow
    x = renewed p.inc r

    y : ClientRow
    y = refreshed now p.body x

    by_host : (b : Bool) → is_host (sender p) r.server ≡ b → (c : Bool) → nat_lt p.inc r.seen ≡ c
        → IsLiveRow s delivered_view now p.id (cond (not b) r (cond c r y))
    by_host false e c f = unlooked (row_counts last r role k ∙ and_left (is_host r.server (sender p)) (nat_le r.seen p.inc) (turned false e))
    by_host true e true f =
        unlooked (row_counts last r role k ∙ and_right (is_host r.server (sender p)) (nat_le r.seen p.inc) (lt-leb r.seen p.inc (ltb-true p.inc r.seen f)))
    by_host true e false f =
        let before : r.seen ≤ p.inc = ltb-false p.inc r.seen f in
        let counted : counts_now v n (sent_of p) at ≡ true =
        row_counts last r role k ∙ and_from (is_host r.server (sender p)) (nat_le r.seen p.inc) (turned true e) (le-leb r.seen p.inc before) in
        let a = renewed_seen p.inc r before in
        let b = refreshed_same now p.body x in
        let itself : is_call p.id p.id ≡ true = (calls_are p.id p.id).1 refl in
        let live : get delivered_view.now.live p.id ≡ Some p.inc =
        ap (λ (m : Map call_cmp ℕ). get m p.id) (deliver_live v n (sent_of p) at ∙ counted_live v n (sent_of p) at counted)
        ∙ get-set v.now.live p.id p.inc p.id ∙ ap (λ t. cond t (Some p.inc) (get v.now.live p.id)) itself in
        let ticks : resends_of delivered_view.now p.id ≡ cond (is_unknown p.body) (resends_of v.now p.id) [] =
        ap (λ (m : Map call_cmp (List ℕ)). unwrap_or (get m p.id) [])
        (deliver_resends v n (sent_of p) at ∙ counted_resends v n (sent_of p) at counted) ∙ by_body (is_unknown p.body) in
        let sent : sent_last delivered_view p.id ≡ sent_last v p.id =
        ap (λ o. option_map_or (λ (c : Called). list_any (λ (z : Sent). has_last p.id (length c.request) z z.body) delivered_view.packets) o false)
        (calls_same p.id)
        ∙ ap (λ (ps : List Sent). option_map_or (λ (c : Called). list_any (λ (z : Sent). has_last p.id (length c.request) z z.body) ps)
        (get v.calls p.id) false) (deliver_same v n).packets in
        record {
          live = live ∙ ap Some (sym (b.0 ∙ a.0));
          called = calls_same p.id ∙ k.called ∙ ap Some (sym (b.1 ∙ a.1));
          size = ap (λ (o : outgoing.Outgoing). o.length) (b.3 ∙ a.3) ∙ k.size ∙ ap length (sym (b.2 ∙ a.2));
          sound = subst outgoing.IsSound (sym (b.3 ∙ a.3)) k.sound;
          fair = subst (λ (ts : List ℕ). IsFairRow s now y ts (sent_last delivered_view p.id)) (sym ticks)
              (subst (IsFairRow s now y (cond (is_unknown p.body) (resends_of v.now p.id) [])) (sym sent)
              (fair_heard s last now p.inc p.body r (resends_of v.now p.id) (sent_last v p.id) le k.fair));
        } where
          by_body : (b : Bool) → unwrap_or (get (cond b v.now.resends (insert v.now.resends p.id [])) p.id) [] ≡ cond b (resends_of v.now p.id) []
          by_body true = refl
          by_body false =
              ap (λ (o : Option (List ℕ)). unwrap_or o [])
              (get-set v.now.resends p.id [] p.id ∙ ap (λ t. cond t (Some []) (get v.now.resends p.id)) ((calls_are p.id p.id).1 refl))

-- ---- a step

module _ (s : Settings) (w : World) (v : View) (host : HostId) (now : ℕ) (h : Host) (at : host_at w host ≡ Some h) where
  abbrev room : host.0 < length w.hosts
  room = within w.hosts host.0 h at

  -- it begins
  pub begun_fair : (be : Renewal) (first : Host) → first.id ≡ host → first.clients ≡ h.clients → first.last ≡ now → IsLevel v → v.settings ≡ s
      → own_tick v host ≡ now → ((q : CallId) (r : ClientRow) → get h.clients q ≡ Some r → q.client ≡ host)
      → ((id : HostId) (k : Host) → is_host id host ≡ false → host_at w id ≡ Some k → AreLiveAs be s v id k)
      → ((q : CallId) (r : ClientRow) → get h.clients q ≡ Some r → IsLiveRow s v now q (be q r))
      → IsFairAmid s w v host now room be (record { host = first; told = [] })
  begun_fair be first name clients last level settings tick own others here = record {
    level = level;
    settings = settings;
    tick = tick;
    name = name;
    last = last;
    own = λ q r is. own q r (ap (λ (rows : RowsOf ClientRow). get rows q) (sym clients) ∙ is);
    rows = each_set (λ id k. host_at w id ≡ Some k) (AreLiveAs be s v) w.hosts host h first room
        (λ _ q r mine is. subst (λ (t : ℕ). IsLiveRow s v t q (be q r)) (sym last)
        (here q r (ap (λ (rows : RowsOf ClientRow). get rows q) (sym clients) ∙ is))) (λ id k e is. others id k e is)
        (λ id k is. ap (λ (hs : List Host). slice_get hs id.0) (sym (set_same w.hosts host.0 h at)) ∙ is);
    holds = tt;
  }

  -- a packet is taken
  hears_fair : (be : Renewal) (p : Packet) (work : Work) → IsFairAmid s w v host now room be work
      → IsFairAmid s w v host now room be (hears_cutoffs s (sender p) p.inc p.body work)
  hears_fair be p work k = fair_silent s w v host now room be work (hears_cutoffs s (sender p) p.inc p.body work) [] work.host.servers
      (hears-move s (sender p) p.inc p.body work) tt (λ q. record { lives = refl; bare = tt }) k

  acks_fair : (ids : List CallId) (work : Work) → Fair s w v host now room work → Fair s w v host now room (acked s ids work)
  acks_fair ids work k =
      acked_kept s (Fair s w v host now room)
      (λ x id l. fair_served s w v host now room none_renewed x id (server_acked s (moment s id x) id (get x.host.servers id))
      (acked_served s (moment s id x) id (get x.host.servers id)) l) ids work k

  -- of a client
  pub request_fair : (p : Packet) (answer : Answer) (work : Work) → p.role ≡ Client → Fair s w v host now room work
      → Fair s w v host now room (takes s p answer work)
  unfolding takes
  request_fair p answer work role k =
      let heard : Work = hears_cutoffs s (sender p) p.inc p.body work in
      acks_fair (acks p) (comes_to_row s p answer p.role heard)
      (subst (λ (r : Role). Fair s w v host now room (comes_to_row s p answer r heard)) (sym role)
      (fair_served s w v host now room none_renewed heard p.id (server_gets s (moment s p.id heard) p answer (get heard.host.servers p.id))
      (gets_served s (moment s p.id heard) p answer (get heard.host.servers p.id)) (hears_fair none_renewed p work k)))

  -- of a server
  reply_fair : (p : Packet) (work : Work) → p.id.client ≡ host → IsFairAmid s w v host now room (heard_by now p) work
      → Fair s w v host now room (asked s p.id p.server (client_gets s (moment s p.id work) p (get work.host.clients p.id)) work)
  unfolding client_gets
  reply_fair p work mine k = by_row (get work.host.clients p.id) refl where
    others : (q : CallId) (r : ClientRow) → is_call q p.id ≡ false → heard_by now p q r ≡ r
    others q r e = ap (λ b. cond b (heard_row now p r) r) e

    own : (o : Option ClientRow) → AllOwn p.id.client p.id (client_gets s (moment s p.id work) p o).says
    own o = (gets_quiet s (moment s p.id work) p o).0

    itself : (r : ClientRow) → heard_by now p p.id r ≡ heard_row now p r
    itself r = ap (λ b. cond b (heard_row now p r) r) ((calls_are p.id p.id).1 refl)

    by_row : (o : Option ClientRow) → get work.host.clients p.id ≡ o
        → Fair s w v host now room (asked s p.id p.server (client_gets s (moment s p.id work) p o) work)
    by_row None is =
        let u = unasked_bare s (moment s p.id work) p.id p.body in
        fair_answered s w v host now room (heard_by now p) work p.id p.server (unasked (moment s p.id work) p.body) mine (own None) u.0 u.1 others
        (λ x e. absurd (none_some x (sym u.2 ∙ e))) k
    by_row (Some r) is = by_host (is_host (sender p) r.server) refl (nat_lt p.inc r.seen) refl where
      m : Moment
      m = moment s p.id work

      -- what the rule does, and the row as the lines have renewed it
      answers : (d : Did ClientRow) (x : ClientRow) → AllOwn p.id.client p.id d.says → IsAnswered x d → heard_by now p p.id r ≡ x
          → Fair s w v host now room (asked s p.id p.server d work)
      answers d x o a same =
          fair_answered s w v host now room (heard_by now p) work p.id p.server d mine o a.bare a.quiet others
          (λ y e. let b = a.row y e in (r, is, subst (λ (z : ClientRow). IsSameRow z y) (sym same) b.0, b.1)) k

      y : ClientRow
      y = refreshed m.now p.body (renewed p.inc r)

      by_host : (b : Bool) → is_host (sender p) r.server ≡ b → (c : Bool) → nat_lt p.inc r.seen ≡ c
          → Fair s w v host now room (asked s p.id p.server (cond (not b) (keeps m r) (cond c (keeps m r) (answered s m p.id p.body p.payload y))) work)
      by_host false e c f =
          answers (keeps m r) r tt (kept_is s m p.id r)
          (itself r ∙ ap (λ b. cond (not b) r (cond (nat_lt p.inc r.seen) r (refreshed now p.body (renewed p.inc r)))) e)
      by_host true e true f =
          answers (keeps m r) r tt (kept_is s m p.id r)
          (itself r ∙ ap (λ b. cond (not b) r (cond (nat_lt p.inc r.seen) r (refreshed now p.body (renewed p.inc r)))) e
          ∙ ap (λ b. cond b r (refreshed now p.body (renewed p.inc r))) f)
      by_host true e false f =
          answers (answered s m p.id p.body p.payload y) y (looked e f) (answered_is s m p.id p.body p.payload y)
          (itself r ∙ ap (λ b. cond (not b) r (cond (nat_lt p.inc r.seen) r (refreshed now p.body (renewed p.inc r)))) e
          ∙ ap (λ b. cond b r (refreshed now p.body (renewed p.inc r))) f
          ∙ ap (λ (t : ℕ). refreshed t p.body (renewed p.inc r)) (sym k.last)) where
            looked : is_host (sender p) r.server ≡ true → nat_lt p.inc r.seen ≡ false → AllOwn p.id.client p.id (answered s m p.id p.body p.payload y).says
            looked e f =
                subst (λ (d : Did ClientRow). AllOwn p.id.client p.id d.says)
                (ap (λ b. cond (not b) (keeps m r) (cond (nat_lt p.inc r.seen) (keeps m r) (answered s m p.id p.body p.payload y))) e
                ∙ ap (λ b. cond b (keeps m r) (answered s m p.id p.body p.payload y)) f) (own (Some r))

  pub response_fair : (p : Packet) (answer : Answer) (work : Work) → p.role ≡ Server → p.id.client ≡ host
      → IsFairAmid s w v host now room (heard_by now p) work → Fair s w v host now room (takes s p answer work)
  unfolding takes
  response_fair p answer work role mine k =
      let heard : Work = hears_cutoffs s (sender p) p.inc p.body work in
      acks_fair (acks p) (comes_to_row s p answer p.role heard)
      (subst (λ (r : Role). Fair s w v host now room (comes_to_row s p answer r heard)) (sym role)
      (reply_fair p heard mine (hears_fair (heard_by now p) p work k)))

  -- bytes that are no packet
  pub junk_fair : (answer : Answer) (work : Work) → Fair s w v host now room work → Fair s w v host now room (comes s None answer work)
  junk_fair answer work k = fair_silent s w v host now room none_renewed work (comes s None answer work)
      (Says (PlainJunk work.host.id) ∷ []) work.host.servers (says-move (PlainJunk work.host.id) work tt) (tt, tt) (λ q. record { lives = refl; bare = tt }) k
