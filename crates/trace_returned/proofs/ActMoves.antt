-- A request is given up, a call times out, a GRANT or a piece of a message is sent: what the lines say of messages stays true.
use Rattle.std.proofs.Common.{◌≡◌, ℕ, ◌+◌, ◌<◌, Bool, true, false, ◌&&◌, ◌||◌, Option, Some, None, List, [], ◌∷◌, length, cond, refl, sym, ap, subst, ◌∙◌}
use Rattle.std.specs.Option.{option_map_or}
use Rattle.std.specs.List.{AllByRecursion}
use Rattle.std.proofs.lemmas.Bool.{true≢false}
use Rattle.std.proofs.Math.Bool.{and-false}
use Rattle.plain_sets.specs.Maps.{get}
use Rattle.homa_plain.specs.declared.id.CallId.{CallId}
use Rattle.homa_plain.specs.declared.id.HostId.{HostId}
use Rattle.homa_plain.specs.declared.entry.Why.{Why}
use Rattle.homa_plain.specs.declared.packet.Role.TheVariants.{Client, Server}
use Rattle.homa_plain.specs.declared.settings.Settings.{Settings}
use Rattle.homa_plain.specs.Calls.{is_host, is_call}
use Rattle.homa_plain.specs.Entries.{PlainEntry, PlainDrop, PlainFail}
use Rattle.homa_plain.specs.Packets.{Packet, send_line}
use Rattle.trace_rules.specs.Laws.{Holds, Once}
use Rattle.trace_steps.proofs.Progress.{IsLevel}
use Rattle.homa_plain.specs.Rows.{ClientRow, ServerRow, set_row}
use Rattle.homa_plain.specs.Host.{Sends, packets_in, entries_from}
use Rattle.homa_plain.specs.Rules.{Say, Tells, Did}
use Rattle.homa_plain.specs.Work.{Work, said}
use Rattle.homa_plain.specs.Steps.{served, asked}
use Rattle.trace_rules.specs.View.{View, Called, is_server_of}
use Rattle.trace_rules.specs.Seen.{seen, seen_all}
use Rattle.homa_plain.specs.World.{World}
use Rattle.homa_plain.proofs.CallOrder.{calls_are, hosts_are}
use Rattle.step_laws.proofs.Own.{AllOwn, IsQuiet, runs_said}
use Rattle.step_moves.proofs.Moves.{IsMove}
use Rattle.trace_steps.specs.Stands.{Stand, state_of, with_client, with_server, put, said_so_far, amid}
use Rattle.trace_steps.specs.Contents.{replies, Replies}
use Rattle.step_moves.proofs.Hosts.{some_is, none_some}
use Rattle.trace_steps.proofs.Frame.{server_stand, client_stand}
use Rattle.trace_once.specs.Lifetime.{times, call_to, IsMadeTo}
use Rattle.trace_once.proofs.ServerRules.{ServerKeeps}
use Rattle.trace_once.proofs.ClientRules.{ClientKeeps}
use Rattle.trace_once.proofs.Acks.{GoesWhenDone}
use Rattle.trace_once.proofs.Amid.{IsAmid}
use Rattle.trace_returned.specs.Tales.{Tale, tale, IsTruthful, CarriesReply, IsSameResponse, IsSame, IsClosed, IsTrue}
use Rattle.trace_returned.proofs.StillRules.{IsCalmBody}
use Rattle.trace_returned.proofs.Calm.{tale_is, SameBlock, block_then, closed_same, told_replies}
use Rattle.trace_returned.proofs.OwnMoves.{drop_own, drop_tale, fail_ended, packet_own}
use Rattle.trace_returned.proofs.TrueMoves.{response_later, same_stays, true_move, served_front, asked_front, served_lines, served_once, served_gave}
use Rattle.trace_returned.proofs.TrueMoves.{served_other, served_here, served_true, before_served, served_before, served_split, served_fits}
use Rattle.trace_returned.proofs.TrueMoves.{asked_lines, asked_once, asked_gave, asked_true, before_asked, asked_before, said_asked, asked_split}
use Rattle.trace_returned.proofs.TrueMoves.{asked_after, asked_fits}

-- ---- a call at its server, by what the lines say of it there

-- where a call was made to a host, nothing is said of its request at another
pub elsewhere_made : (host n : HostId) (x : Stand) (c : Called) → IsMadeTo host x → x.called ≡ Some c → c.server ≡ n → is_host host n ≡ false → ⊥
elsewhere_made host n x c made called at other =
    let same : call_to host made.service made.request ≡ c = some_is (call_to host made.service made.request) c (sym made.called ∙ called) in
    true≢false (sym ((hosts_are host n).1 (ap (λ (y : Called). y.server) same ∙ at)) ∙ other)

-- the call's server is this host
pub serves_made : (u : View) (id : CallId) (host h : HostId)
    (made : (service : ℕ) × (request : List ℕ) × (get u.calls id ≡ Some (call_to host service request))) → h ≡ host → is_server_of u id h ≡ true
serves_made u id host h made same = ap (λ o. option_map_or (λ (c : Called). is_host c.server h) o false) made.2 ∙ (hosts_are host h).1 (sym same)

-- ---- a request is given up

module _ (s : Settings) (w : World) (v : View) (host : HostId) (now : ℕ) (stands : host.0 < length w.hosts) (work : Work) (id : CallId) (did : Did ServerRow)
    (k : IsAmid s w v host now work) (own : AllOwn work.host.id id did.says) (d : ServerKeeps (times s) host (amid w v host work id host) did)
    (after : IsAmid s w v host now (served s id did work)) where
  abbrev lines : List PlainEntry
  lines = served_lines s w v host now stands work id did k own d after

  abbrev front : View
  front = before_served s w v host now stands work id did k own d after

  pub served_drops : did.says ≡ Tells (PlainDrop work.host.id id) ∷ [] → did.row ≡ None → IsTrue s (put w host work) (said_so_far w v work)
      → IsTrue s (put w host (served s id did work)) (said_so_far w v (served s id did work))
  served_drops says gone t =
      let u : View = said_so_far w v work in
      let before = served_before s w v host now stands work id did k own d after t.level in
      let is : seen_all u lines ≡ seen front (PlainDrop work.host.id id) =
      served_split s w v host now stands work id did k own d after
      ∙ ap (λ (x : List Say). seen_all front
      (entries_from
      (length w.packets + length (packets_in work.told) + length (packets_in (served_front s w v host now stands work id did k own d after)))
      (said s work.host Server id work.host.id x))) says in
      let line = drop_own front work.host.id id before.level in
      let made = d.change.made in
      let serves = serves_made front id host work.host.id (made.service, made.request, ap (λ c. get c id) before.calls ∙ made.called) k.name in
      let told : tale (seen_all u lines).now id ≡ record { live = get u.now.live id; request = None; response = get u.now.responses id } =
      ap (λ (x : View). tale x.now id) is ∙ drop_tale front work.host.id id before.level serves
      ∙ tale_is _ _ (ap (λ (x : Tale). x.live) (before.tales id)) refl (ap (λ (x : Tale). x.response) (before.tales id)) in
      let once = served_once s w v host now stands work id did k own d after in
      let quiet : runs_said did.says ≡ false = ap runs_said says in
      let gave = (λ (n : HostId). served_gave s w v host now stands work id did k own d after id n (ap (λ b. b && (is_call id id && is_host host n)) quiet)) in
      let at_host_is : amid w v host (served s id did work) id host ≡ with_server (amid w v host work id host) None (amid w v host work id host).ran =
      served_here s w v host now stands work id did k own d after
      ∙ ap (λ b. with_server (amid w v host work id host) (state_of did.row) ((b && true) || (amid w v host work id host).ran)) quiet
      ∙ ap (λ o. with_server (amid w v host work id host) (state_of o) (amid w v host work id host).ran) gone in
      let dropped : Tale = record { live = get u.now.live id; request = None; response = get u.now.responses id } in
      let here : IsSame s (seen_all u lines) id host (amid w v host (served s id did work) id host) (tale (seen_all u lines).now id) =
      let old = t.same id host in
      let new : IsSame s (seen_all u lines) id host (with_server (amid w v host work id host) None (amid w v host work id host).ran) dropped = record {
        live = old.live;
        request = λ c e at. ((λ _. refl), tt);
        unmade = λ e. refl;
        response = response_later s u lines id (amid w v host work id host).client (get u.now.responses id) once old.response;
        replies = tt;
      } in
      subst (λ x. IsSame s (seen_all u lines) id host x (tale (seen_all u lines).now id)) (sym at_host_is)
      (subst (IsSame s (seen_all u lines) id host (with_server (amid w v host work id host) None (amid w v host work id host).ran)) (sym told) new) in
      let there = (λ (n : HostId) (e : is_host host n ≡ false).
      let old = t.same id n in
      let new : IsSame s (seen_all u lines) id n (amid w v host work id n) dropped = record {
        live = old.live;
        request = λ c called at. absurd
            (elsewhere_made host n (amid w v host work id n) c (record { service = made.service; request = made.request; called = made.called }) called at e);
        unmade = λ f. refl;
        response = response_later s u lines id (amid w v host work id n).client (get u.now.responses id) once old.response;
        replies = subst (λ xs. Replies xs (amid w v host work id n).server) (sym (gave n)) old.replies;
      } in
      subst (λ x. IsSame s (seen_all u lines) id n x (tale (seen_all u lines).now id))
      (sym (served_other s w v host now stands work id did k own d after id n (ap (λ b. is_call id id && b) e ∙ and-false (is_call id id))))
      (subst (IsSame s (seen_all u lines) id n (amid w v host work id n)) (sym told) new)) in
      let each = (λ (n : HostId). by_host n (is_host host n) refl here (there n)) in
      served_true s w v host now stands work id did k own d after t.packets (λ q n e. t.same q n)
      (λ q e. ap (λ (x : View). tale x.now q) is ∙ line.others q e ∙ before.tales q) each
      (served_fits s w v host now stands work id did k own d after
      (subst (λ (x : List Say). AllByRecursion (λ (p : Packet). IsCalmBody p.body) (packets_in (said s work.host Server id work.host.id x))) (sym says) tt))
      (subst IsLevel (sym is) line.level)
      (subst IsClosed (sym is)
      (closed_same u (seen front (PlainDrop work.host.id id)) (block_then u front (seen front (PlainDrop work.host.id id)) before.block line.block)
      t.closed)) where
        by_host : (n : HostId) (b : Bool) → is_host host n ≡ b
            → IsSame s (seen_all (said_so_far w v work) lines) id host (amid w v host (served s id did work) id host)
            (tale (seen_all (said_so_far w v work) lines).now id)
            → (is_host host n ≡ false → IsSame s (seen_all (said_so_far w v work) lines) id n (amid w v host (served s id did work) id n)
            (tale (seen_all (said_so_far w v work) lines).now id))
            → IsSame s (seen_all (said_so_far w v work) lines) id n (amid w v host (served s id did work) id n)
            (tale (seen_all (said_so_far w v work) lines).now id)
        by_host n false e here there = there e
        by_host n true e here there =
            subst (λ (x : HostId). IsSame s (seen_all (said_so_far w v work) lines) id x (amid w v host (served s id did work) id x)
            (tale (seen_all (said_so_far w v work) lines).now id)) ((hosts_are host n).0 e) here

-- ---- a call fails

module _ (s : Settings) (w : World) (v : View) (host : HostId) (now : ℕ) (stands : host.0 < length w.hosts) (work : Work) (id : CallId)
    (server : HostId) (did : Did ClientRow)
    (k : IsAmid s w v host now work) (mine : id.client ≡ host) (quiet : IsQuiet id did) (done : GoesWhenDone did)
    (made : IsMadeTo server (amid w v host work id server)) (d : (n : HostId) → ClientKeeps (times s) (amid w v host work id n) did)
    (after : IsAmid s w v host now (asked s id server did work)) where
  abbrev asks : List PlainEntry
  asks = asked_lines s w v host now stands work id server did k mine quiet done made d after

  abbrev ahead : View
  ahead = before_asked s w v host now stands work id server did k mine quiet done made d after

  -- the view may have heard of a packet right before: then the request is as it was, and so are the other calls
  pub asked_fails : (why : Why) → did.says ≡ Tells (PlainFail id why) ∷ [] → did.row ≡ None
      → AllByRecursion (IsTruthful (said_so_far w v work)) (put w host work).packets
      → ((q : CallId) (n : HostId) → is_call id q ≡ false → IsSame s (said_so_far w v work) q n (amid w v host work q n) (tale (said_so_far w v work).now q))
      → (o : Option ClientRow)
      → ((n : HostId) → IsSame s (said_so_far w v work) id n (with_client (amid w v host work id n) o) (tale (said_so_far w v work).now id))
      → IsLevel (said_so_far w v work) → ((x : View) → SameBlock (said_so_far w v work) x → IsClosed (seen x (PlainFail id why)))
      → IsTrue s (put w host (asked s id server did work)) (said_so_far w v (asked s id server did work))
  asked_fails why says gone packets others o itself level closes =
      let u : View = said_so_far w v work in
      let before = asked_before s w v host now stands work id server did k mine quiet done made d after level in
      let mid : View = seen ahead (PlainFail id why) in
      let said_is : said_asked s w v host now stands work id server did k mine quiet done made d after ≡ seen ahead (PlainFail id why) =
      ap (λ (x : List Say). seen_all ahead
      (entries_from
      (length w.packets + length (packets_in work.told) + length
      (packets_in (asked_front s w v host now stands work id server did k mine quiet done made d after))) (said s work.host Client id server x))) says in
      let mid_level : IsLevel (said_asked s w v host now stands work id server did k mine quiet done made d after) =
      subst IsLevel (sym said_is) (fail_ended ahead id why before.level).level in
      let behind = asked_after s w v host now stands work id server did k mine quiet done made d after mid_level in
      let split = asked_split s w v host now stands work id server did k mine quiet done made d after in
      let once = asked_once s w v host now stands work id server did k mine quiet done made d after in
      let tales = (λ (q : CallId) (e : is_call id q ≡ false). ap (λ (x : View). tale x.now q) split ∙ behind.tales q
      ∙ ap (λ (x : View). tale x.now q) said_is ∙ (fail_ended ahead id why before.level).others q e ∙ before.tales q) in
      let told : tale (seen_all u asks).now id ≡ record { live = None; request = get u.now.requests id; response = None } =
      ap (λ (x : View). tale x.now id) split ∙ behind.tales id ∙ ap (λ (x : View). tale x.now id) said_is
      ∙ (fail_ended ahead id why before.level).itself ∙ tale_is _ _ refl (ap (λ (x : Tale). x.request) (before.tales id)) refl in
      let each = (λ (n : HostId).
      let old = itself n in
      let new : IsSame s (seen_all u asks) id n (with_client (amid w v host work id n) did.row)
      (record { live = None; request = get u.now.requests id; response = None }) =
      subst (λ x. IsSame s (seen_all u asks) id n (with_client (amid w v host work id n) x)
      (record { live = None; request = get u.now.requests id; response = None })) (sym gone) (record {
        live = refl;
        request = old.request;
        unmade = old.unmade;
        response = refl;
        replies = subst (λ xs. Replies xs (amid w v host work id n).server)
            (sym (asked_gave s w v host now stands work id server did k mine quiet done made d after id n)) old.replies;
      }) in
      subst (IsSame s (seen_all u asks) id n (with_client (amid w v host work id n) did.row)) (sym told) new) in
      asked_true s w v host now stands work id server did k mine quiet done made d after packets others tales each
      (asked_fits s w v host now stands work id server did k mine quiet done made d after
      (subst (λ (x : List Say). AllByRecursion (λ (p : Packet). IsCalmBody p.body) (packets_in (said s work.host Client id server x))) (sym says) tt))
      (subst IsLevel (sym split) behind.level)
      (subst IsClosed (sym split)
      (closed_same (said_asked s w v host now stands work id server did k mine quiet done made d after) _ behind.block
      (subst IsClosed (sym said_is) (closes ahead before.block))))

-- ---- one packet is sent

module _ (s : Settings) (w : World) (v : View) (host : HostId) (now : ℕ) (stands : host.0 < length w.hosts) (work new : Work) (id : CallId) (p : Packet) where
  -- what the lines say then
  abbrev pub sent_view : View
  sent_view = seen (said_so_far w v work) (send_line (length w.packets + length (packets_in work.told)) p)

  module _ (row : ServerRow) (move : IsMove work new (Sends p ∷ []) work.host.clients (set_row work.host.servers id (Some row)))
      (after : IsAmid s w v host now new) where
    pub server_packet_stand : (q : CallId) (n : HostId) (b : Bool) → (is_call id q && is_host host n) ≡ b
        → amid w v host new q n ≡ with_server (amid w v host work q n) (cond b (Some row.state) (amid w v host work q n).server) (amid w v host work q n).ran
    server_packet_stand q n b e =
        server_stand w v host work new (Sends p ∷ []) work.host.clients (set_row work.host.servers id (Some row)) move stands id (Some row) refl refl q n b e

    pub server_packet_gave : (q : CallId) (n : HostId) → replies sent_view n q ≡ replies (said_so_far w v work) n q
    server_packet_gave q n = told_replies (said_so_far w v work) (length w.packets + length (packets_in work.told)) (Sends p ∷ []) n q tt refl

    pub server_packet_once : Holds Once (said_so_far w v work) (send_line (length w.packets + length (packets_in work.told)) p ∷ [])
    server_packet_once = (tt, tt)

    -- all is true, where it is of the call itself at this host
    pub server_packet_true : p.id ≡ id → IsMadeTo host (amid w v host work id host) → IsTrue s (put w host work) (said_so_far w v work)
        → IsSame s sent_view id host (with_server (amid w v host work id host) (Some row.state) (amid w v host work id host).ran) (tale sent_view.now id)
        → (tale sent_view.now id).live ≡ get (said_so_far w v work).now.live id → (tale sent_view.now id).response ≡ get (said_so_far w v work).now.responses id
        → CarriesReply sent_view p.role p.id p.server p.inc p.body p.payload → IsTrue s (put w host new) (said_so_far w v new)
    server_packet_true of made t itself live response fits =
        let u : View = said_so_far w v work in
        let line = packet_own u (length w.packets + length (packets_in work.told)) p id of t.level in
        let there = (λ (n : HostId) (e : is_host host n ≡ false).
        let old = t.same id n in
        let same : IsSame s sent_view id n (amid w v host work id n) (tale sent_view.now id) = record {
          live = live ∙ old.live;
          request = λ c called at. absurd
              (elsewhere_made host n (amid w v host work id n) c (record { service = made.service; request = made.request; called = made.called }) called at e);
          unmade = λ f. absurd (none_some (call_to host made.service made.request) (sym f ∙ made.called));
          response = subst (IsSameResponse s sent_view id (amid w v host work id n).client) (sym response)
              (response_later s u (send_line (length w.packets + length (packets_in work.told)) p ∷ []) id (amid w v host work id n).client
              (get u.now.responses id) (tt, tt) old.response);
          replies = subst (λ xs. Replies xs (amid w v host work id n).server) (sym (server_packet_gave id n)) old.replies;
        } in
        subst (λ x. IsSame s sent_view id n x (tale sent_view.now id))
        (sym (server_packet_stand id n false (ap (λ b. is_call id id && b) e ∙ and-false (is_call id id)))) same) in
        let here : IsSame s sent_view id host (amid w v host new id host) (tale sent_view.now id) =
        subst (λ x. IsSame s sent_view id host x (tale sent_view.now id))
        (sym (server_packet_stand id host true (ap (λ b. b && is_host host host) ((calls_are id id).1 refl) ∙ (hosts_are host host).1 refl))) itself in
        true_move s w v host work new (Sends p ∷ []) work.host.clients (set_row work.host.servers id (Some row)) move now after t.packets
        (λ q n. by_call q n (is_call id q) refl (is_host host n) refl here (there n) (λ e.
        same_stays s u (send_line (length w.packets + length (packets_in work.told)) p ∷ []) q n (amid w v host work q n) (amid w v host new q n) _
        (tt, tt) (server_packet_stand q n false (ap (λ b. b && is_host host n) e)) (line.others q e) (server_packet_gave q n) (t.same q n)))
        (fits, tt) line.level (closed_same u sent_view line.block t.closed) where
          by_call : (q : CallId) (n : HostId) (a : Bool) → is_call id q ≡ a → (b : Bool) → is_host host n ≡ b
              → IsSame s sent_view id host (amid w v host new id host) (tale sent_view.now id)
              → (is_host host n ≡ false → IsSame s sent_view id n (amid w v host new id n) (tale sent_view.now id))
              → (is_call id q ≡ false → IsSame s sent_view q n (amid w v host new q n) (tale sent_view.now q))
              → IsSame s sent_view q n (amid w v host new q n) (tale sent_view.now q)
          by_call q n false e b f here there other = other e
          by_call q n true e false f here there other =
              subst (λ (x : CallId). IsSame s sent_view x n (amid w v host new x n) (tale sent_view.now x)) ((calls_are id q).0 e) (there f)
          by_call q n true e true f here there other =
              subst (λ (x : CallId). IsSame s sent_view x n (amid w v host new x n) (tale sent_view.now x)) ((calls_are id q).0 e)
              (subst (λ (x : HostId). IsSame s sent_view id x (amid w v host new id x) (tale sent_view.now id)) ((hosts_are host n).0 f) here)

  module _ (row : ClientRow) (mine : id.client ≡ host)
      (move : IsMove work new (Sends p ∷ []) (set_row work.host.clients id (Some row)) work.host.servers) (after : IsAmid s w v host now new) where
    client_packet_stand : (q : CallId) (n : HostId) (b : Bool) → is_call id q ≡ b
        → amid w v host new q n ≡ with_client (amid w v host work q n) (cond b (Some row) (amid w v host work q n).client)
    client_packet_stand q n b e = client_stand w v host work new (Sends p ∷ []) (set_row work.host.clients id (Some row)) work.host.servers move
        stands id (Some row) mine refl refl q n b e refl

    pub client_packet_gave : (q : CallId) (n : HostId) → replies sent_view n q ≡ replies (said_so_far w v work) n q
    client_packet_gave q n = told_replies (said_so_far w v work) (length w.packets + length (packets_in work.told)) (Sends p ∷ []) n q tt refl

    pub client_packet_true : p.id ≡ id → IsTrue s (put w host work) (said_so_far w v work)
        → ((n : HostId) → IsSame s sent_view id n (with_client (amid w v host work id n) (Some row)) (tale sent_view.now id))
        → CarriesReply sent_view p.role p.id p.server p.inc p.body p.payload → IsTrue s (put w host new) (said_so_far w v new)
    client_packet_true of t itself fits =
        let u : View = said_so_far w v work in
        let line = packet_own u (length w.packets + length (packets_in work.told)) p id of t.level in
        true_move s w v host work new (Sends p ∷ []) (set_row work.host.clients id (Some row)) work.host.servers move now after t.packets
        (λ q n. by_call q n (is_call id q) refl
        (subst (λ x. IsSame s sent_view id n x (tale sent_view.now id)) (sym (client_packet_stand id n true ((calls_are id id).1 refl))) (itself n))
        (λ e. same_stays s u (send_line (length w.packets + length (packets_in work.told)) p ∷ []) q n (amid w v host work q n)
        (amid w v host new q n) _ (tt, tt) (client_packet_stand q n false e) (line.others q e) (client_packet_gave q n) (t.same q n)))
        (fits, tt) line.level (closed_same u sent_view line.block t.closed) where
          by_call : (q : CallId) (n : HostId) (a : Bool) → is_call id q ≡ a → IsSame s sent_view id n (amid w v host new id n) (tale sent_view.now id)
              → (is_call id q ≡ false → IsSame s sent_view q n (amid w v host new q n) (tale sent_view.now q))
              → IsSame s sent_view q n (amid w v host new q n) (tale sent_view.now q)
          by_call q n false e itself other = other e
          by_call q n true e itself other =
              subst (λ (x : CallId). IsSame s sent_view x n (amid w v host new x n) (tale sent_view.now x)) ((calls_are id q).0 e) itself
