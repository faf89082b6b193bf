-- A packet that is sent.
use Rattle.std.proofs.Common.{◌≡◌, ℕ, ◌+◌, max, arith, Bool, true, false, cond, not, ◌&&◌, ◌||◌, Option, Some, None, List, [], ◌∷◌, ◌++◌, length}
use Rattle.std.proofs.Common.{refl, sym, ap, ◌∙◌, subst}
use Rattle.std.specs.Prelude.{◌==◌, nat_lt, nat_le, unwrap_or, if◌then◌else◌, is_some, IfSome}
use Rattle.std.specs.Option.{option_map, option_map_or}
use Rattle.std.specs.Ordering.{nat_cmp, eq_by_cmp}
use Rattle.std.specs.Cmp.{nat_cmp_total}
use Rattle.std.specs.List.{list_any, AllByRecursion}
use Rattle.std.proofs.lemmas.Bool.Decides.{nat_tests}
use Rattle.std.proofs.lemmas.List.{map-append}
use Rattle.std.proofs.lemmas.List.Folds.{list_any-append}
use Rattle.plain_sets.specs.Maps.{get, insert, contains_key}
use Rattle.plain_sets.proofs.MapLaws.{get-insert}
use Rattle.homa_plain.specs.declared.id.CallId.{CallId}
use Rattle.homa_plain.specs.declared.id.HostId.{HostId}
use Rattle.homa_plain.specs.declared.packet.Body.{Body}
use Rattle.homa_plain.specs.declared.packet.Body.TheVariants as body
use Rattle.homa_plain.specs.Calls.{is_host, is_call}
use Rattle.homa_plain.specs.Wire.{is_client, is_server}
use Rattle.trace_rules.specs.Parts as plain
use Rattle.trace_rules.specs.Parts.{Part}
use Rattle.trace_rules.specs.View.{Called, View, Sent, life, sent_last, has_last, own_tick}
use Rattle.trace_rules.specs.Seen.{with_first, in_each, said}
use Rattle.homa_plain.proofs.CallOrder.{hosts_are}
use Rattle.check_call.specs.Spots as spots
use Rattle.check_call.specs.Spots.{spot, said_spot, raised_request, raised_response}
use Rattle.check_call.proofs.Each.{each_said}
use Rattle.check_call.specs.declared.call.Call.{Call}
use Rattle.check_call.specs.declared.packet.Packet.{Packet}
use Rattle.check_call.specs.declared.packet.Piece.{Piece}
use Rattle.check_call.specs.declared.packet.Piece.TheVariants.{Data, Unknown, Other}
use Rattle.check_call.specs.declared.part.Part.{Part as KeptPart}
use Rattle.check_call.specs.declared.spot.Change.{Change}
use Rattle.check_call.specs.declared.spot.Change.TheVariants.{Nothing, Renewed, Told, RaisedRequest, RaisedResponse}
use Rattle.plain_sets.specs.Numbers.{Numbers}
use Rattle.check_call.specs.Kept.{own_value, Beside, part_of, packet_of, piece_of, piece_has_last}
use Rattle.check_call.specs.Calls.{beside, called_of}
use Rattle.check_lines.specs.declared.host.Host.{Host}
use Rattle.check_lines.specs.declared.trace.Trace.{Trace}
use Rattle.check_lines.specs.Traces.{own_tick_in, Keeps, IsCallAt, IsKept, IsAbsent, call_at, host_at, lead_of, first_of, restarts_in}
use Rattle.check_lines.specs.Changes.{ChangesAs, IsChange, SameLists, Changes, call_or}
use Rattle.check_lines.specs.Sends.{change_by, first_after, sent_with}
use Rattle.check_lines.proofs.KeepLaws.{found_call}

both : (a b : Bool) → (a && b) ≡ true → (a ≡ true) × (b ≡ true)
both true b h = (refl, h)
both false b h = absurd cc

-- ---- what it does to its call

-- a GRANT between other hosts
not_raised : (host peer from to : HostId) (set : Numbers) (offset : ℕ) (o : Option Part) (k : Option KeptPart)
    → o ≡ option_map (part_of host peer set) k → (is_host host from && is_host peer to) ≡ false → o ≡ option_map (plain.raised from to offset) o
not_raised host peer from to set offset o None e h = e ∙ ap (option_map (plain.raised from to offset)) (sym e)
not_raised host peer from to set offset o (Some p) e h =
    let q = part_of host peer set p in
    e ∙ (ap (λ b. Some (if b && plain.is_message q then record q { granted = max q.granted offset } else q)) (sym h)
    ∙ ap (option_map (plain.raised from to offset)) (sym e))

module _ (b : Beside) (from to : HostId) (offset : ℕ) where
  request_raised : (t : Bool) → (is_host b.server from && is_host b.client to) ≡ t
      → ChangesAs b (if t then RaisedRequest offset else Nothing) (raised_request from to offset)
  request_raised true e =
      let h = both (is_host b.server from) (is_host b.client to) e in
      record { apart = tt; same = λ k s st. λ i. raised_request ((hosts_are b.server from).0 h.0 i) ((hosts_are b.client to).0 h.1 i) offset s }
  request_raised false e =
      record { apart = tt; same = λ k s st. λ i. record s { request = not_raised b.server b.client from to b.asked offset s.request k.request st.request e i } }

  response_raised : (t : Bool) → (is_host b.client from && is_host b.server to) ≡ t
      → ChangesAs b (if t then RaisedResponse offset else Nothing) (raised_response from to offset)
  response_raised true e =
      let h = both (is_host b.client from) (is_host b.server to) e in
      record { apart = tt; same = λ k s st. λ i. raised_response ((hosts_are b.client from).0 h.0 i) ((hosts_are b.server to).0 h.1 i) offset s }
  response_raised false e =
      record {
        apart = tt;
        same = λ k s st. λ i. record s { response = not_raised b.client b.server from to b.answered offset s.response k.response st.response e i };
      }

tick_is : (v : View) (t : Trace) (h : HostId) → Keeps v t → own_value (own_tick_in t h) ≡ own_tick v h
tick_is v t h keeps = λ i. sym keeps.tick i + unwrap_or (sym (keeps.hosts h).lead i) (ap (λ s. s.skew) (sym keeps.settings) i)

module _ (v : View) (t : Trace) (c : Call) (p : Sent) (keeps : Keeps v t) (here : call_at t p.id ≡ Some c) where
  by_body : (what : Body) → ChangesAs (beside p.id.client t.settings.resend c) (change_by t c (packet_of p) what) (λ s. said_spot v p what s)
  by_body (body.Grant offset prio) =
      elim (is_server p.role) as (λ b. ChangesAs (beside p.id.client t.settings.resend c)
      (if b then (if is_host c.server p.from && is_host p.id.client p.to then RaisedRequest offset else Nothing)
      else (if is_host p.id.client p.from && is_host c.server p.to then RaisedResponse offset else Nothing))
      (λ s. if b then raised_request p.from p.to offset s else raised_response p.from p.to offset s)) [
        | true ↦ request_raised (beside p.id.client t.settings.resend c) p.from p.to offset (is_host c.server p.from && is_host p.id.client p.to) refl
        | false ↦ response_raised (beside p.id.client t.settings.resend c) p.from p.to offset (is_host p.id.client p.from && is_host c.server p.to) refl
      ]
  by_body (body.Resend from to prio) =
      elim (is_client p.role) as
      (λ b. ChangesAs (beside p.id.client t.settings.resend c) (if b then Told (own_tick_in t p.id.client) t.settings.resend else Nothing)
      (λ s. if b then spots.told_spot (own_tick v p.id.client) s else s)) [
        | true ↦ record { apart = refl; same = λ k s st. ap (λ n. spots.told_spot n s) (tick_is v t p.id.client keeps) }
        | false ↦ record { apart = tt; same = λ k s st. refl }
      ]
  by_body (body.Data size offset version service ack) =
      subst (λ x. ChangesAs (beside p.id.client t.settings.resend c) (if is_client p.role && not c.sent_last then Renewed else Nothing)
      (λ s. if is_client p.role && not x then spots.renewed_spot s else s)) (found_call v t p.id c keeps here).sent
      (elim (is_client p.role && not c.sent_last) as
      (λ b. ChangesAs (beside p.id.client t.settings.resend c) (if b then Renewed else Nothing) (λ s. if b then spots.renewed_spot s else s)) [
        | true ↦ record { apart = tt; same = λ k s st. refl }
        | false ↦ record { apart = tt; same = λ k s st. refl }
      ])
  by_body other = record { apart = tt; same = λ k s st. refl }

-- the change that was found is the one that the packet makes
pub sent_change : (v : View) (t : Trace) (k : Packet) (p : Sent) (what : Body) (change : Change) → Keeps v t → k ≡ packet_of p → what ≡ p.body
    → IfSome (call_at t k.id) (λ c. change ≡ change_by t c k what) → IsChange t k.id change (said_spot v p p.body)
sent_change v t k p what change keeps e w is =
    let at_p : IfSome (call_at t p.id) (λ c. change ≡ change_by t c (packet_of p) p.body) =
    subst (λ (x : Packet). IfSome (call_at t x.id) (λ c. change ≡ change_by t c x p.body)) e
    (subst (λ (x : Body). IfSome (call_at t k.id) (λ c. change ≡ change_by t c k x)) w is) in
    subst (λ (x : Packet). IsChange t x.id change (said_spot v p p.body)) (sym e) (by_call (call_at t p.id) refl at_p)
  where
    by_call : (o : Option Call) → call_at t p.id ≡ o → IfSome o (λ c. change ≡ change_by t c (packet_of p) p.body)
        → IfSome (option_map (beside p.id.client t.settings.resend) o) (λ b. ChangesAs b change (said_spot v p p.body))
    by_call None h x = tt
    by_call (Some c) h x =
        subst (λ (z : Change). ChangesAs (beside p.id.client t.settings.resend c) z (said_spot v p p.body)) (sym x) (by_body v t c p keeps h p.body)

pub said_changes : (v w : View) (p : Sent) → w ≡ in_each (said v p p.body) v → Changes v w p.id (said_spot v p p.body)
said_changes v w p e = subst (λ (x : View). Changes v x p.id (said_spot v p p.body)) (sym e) (record {
  same = record { settings = refl; tick = refl; leads = refl; firsts = refl; restarts = refl; calls = refl; packets = refl; runs = refl };
  spots = λ q. (each_said v p p.body).spots v.now q;
})

pub said_due : (v : View) (p : Sent) → (in_each (said v p p.body) v).now.due ≡ v.now.due
said_due v p = (each_said v p p.body).due v.now

-- ---- what is noted of it

pub first_told : (o n : Option Host) (inc : ℕ) → restarts_in o ≡ restarts_in n → first_of o ≡ first_of n → first_after o inc ≡ first_after n inc
first_told o n inc e f = λ i. if length (e i) == 0 && not (is_some (f i)) then Some inc else f i

pub number_tests : (a b : ℕ) → eq_by_cmp nat_cmp a b ≡ (a == b)
number_tests a b = grind (arith, nat_tests)

-- the incarnations of first lives
first_got : (v : View) (t : Trace) (p : Sent) (h : HostId) → Keeps v t
    → get (with_first v p) h.0 ≡ (if is_host h p.from then first_after (host_at t p.from) p.inc else first_of (host_at t h))
first_got v t p h keeps =
    let f = p.from in
    let tests : (life v f == 0 && not (contains_key v.firsts f.0)) ≡ (length (restarts_in (host_at t f)) == 0 && not (is_some (first_of (host_at t f)))) =
    (λ i. (length ((keeps.hosts f).restarts i) == 0 && not (is_some ((keeps.hosts f).first i)))) in
    ap (λ b. get (if b then insert v.firsts f.0 p.inc else v.firsts) h.0) tests
    ∙ by_test (length (restarts_in (host_at t f)) == 0 && not (is_some (first_of (host_at t f)))) refl
  where
    by_host : (b : Bool) → is_host h p.from ≡ b → get v.firsts h.0 ≡ (if b then first_of (host_at t p.from) else first_of (host_at t h))
    by_host true e = ap (λ (x : HostId). get v.firsts x.0) ((hosts_are h p.from).0 e) ∙ (keeps.hosts p.from).first
    by_host false e = (keeps.hosts h).first

    by_test : (b : Bool) → (length (restarts_in (host_at t p.from)) == 0 && not (is_some (first_of (host_at t p.from)))) ≡ b
        → get (if b then insert v.firsts p.from.0 p.inc else v.firsts) h.0
        ≡ (if is_host h p.from then (if b then Some p.inc else first_of (host_at t p.from)) else first_of (host_at t h))
    by_test true e = get-insert nat_cmp_total v.firsts p.from.0 p.inc h.0
        ∙ (ap (λ b. cond b (Some p.inc) (get v.firsts h.0)) (number_tests h.0 p.from.0) ∙ ap (cond (is_host h p.from) (Some p.inc)) (keeps.hosts h).first)
    by_test false e = by_host (is_host h p.from) refl

-- ---- the last byte of a request

and_true : (a b : Bool) → b ≡ true → (a && b) ≡ a
and_true true b e = e
and_true false b e = refl

and_not : (a b : Bool) → b ≡ false → (a && b) ≡ false
and_not true b e = e
and_not false b e = refl

or_none : (a : Bool) → (a || false) ≡ a
or_none true = refl
or_none false = refl

last_here : (q : CallId) (n : ℕ) (p : Sent) (what : Body) → is_call p.id q ≡ true
    → has_last q n p what ≡ piece_has_last n p.role (piece_of what (length p.payload))
last_here q n p (body.Data size offset version service ack) e =
    ap (λ b. b && nat_lt offset n && nat_le n (offset + length p.payload)) (and_true (is_client p.role) (is_call p.id q) e)
last_here q n p (body.Unknown reason) e = refl
last_here q n p other e = refl

last_there : (q : CallId) (n : ℕ) (p : Sent) (what : Body) → is_call p.id q ≡ false → has_last q n p what ≡ false
last_there q n p (body.Data size offset version service ack) e =
    ap (λ b. b && nat_lt offset n && nat_le n (offset + length p.payload)) (and_not (is_client p.role) (is_call p.id q) e)
last_there q n p other e = refl

-- whether it was sent, with one packet more
last_more : (v w : View) (q : CallId) (p : Sent) (c : Called) → w.calls ≡ v.calls → w.packets ≡ v.packets ++ p ∷ [] → get v.calls q ≡ Some c
    → sent_last w q ≡ (sent_last v q || has_last q (length c.request) p p.body)
last_more v w q p c calls packets e =
    let test : Sent → Bool = λ x. has_last q (length c.request) x x.body in
    (λ i. option_map_or (λ d. list_any (λ x. has_last q (length d.request) x x.body) (packets i)) ((ap (λ m. get m q) calls ∙ e) i) false)
    ∙ (list_any-append test v.packets (p ∷ [])
    ∙ (ap (λ b. list_any test v.packets || b) (or_none (test p))
    ∙ ap (λ (o : Option Called). option_map_or (λ d. list_any (λ x. has_last q (length d.request) x x.body) v.packets) o false || test p) (sym e)))

made_more : (v : View) (p : Sent) (ps : List Sent) → contains_key v.calls p.id ≡ true → AllByRecursion (λ x. contains_key v.calls x.id ≡ true) ps
    → AllByRecursion (λ x. contains_key v.calls x.id ≡ true) (ps ++ p ∷ [])
made_more v p [] h all = (h, tt)
made_more v p (x ∷ ps) h all = (all.0, made_more v p ps h all.1)

-- a server's packet has no byte of a request
not_last : (n : ℕ) (k : Packet) (piece : Piece) → is_client k.role ≡ false → piece_has_last n k.role piece ≡ false
not_last n k (Data all offset len) e = ap (λ b. b && nat_lt offset n && nat_le n (offset + len)) e
not_last n k (Unknown reason) e = refl
not_last n k Other e = refl

pub not_sent : (k : Packet) (id : CallId) (q : CallId) (calls : CallId → Option Call) → is_client k.role ≡ false → calls q ≡ call_or id (sent_with k) calls q
not_sent k id q calls e = by_call (is_call id q) (calls q) where
  by_call : (b : Bool) (o : Option Call) → o ≡ (if b then option_map (sent_with k) o else o)
  by_call true None = refl
  by_call true (Some c) =
      let was : (c.sent_last || piece_has_last (length c.request.items) k.role k.piece) ≡ c.sent_last =
      ap (λ b. c.sent_last || b) (not_last (length c.request.items) k k.piece e) ∙ or_none c.sent_last in
      λ i. Some (record c { sent_last = sym was i })
  by_call false o = refl

-- ---- all of it

module _ (v : View) (t u : Trace) (k : Packet) (p : Sent) (keeps : Keeps v t) (is : k ≡ packet_of p) where
  abbrev with_packet : View
  with_packet = record v { firsts = with_first v p; packets = v.packets ++ p ∷ [] }

  call_sent : (q : CallId) (c : Call) → call_at t q ≡ Some c → (b : Bool) → is_call p.id q ≡ b → (d : Call)
      → d ≡ (if b then sent_with (packet_of p) c else c) → IsKept with_packet q d
  call_sent q c here true e d is =
      let was = found_call v t q c keeps here in
      subst (IsKept with_packet q) (sym is) (record {
        called = was.called;
        size = was.size;
        sent =
            sym (last_more v with_packet q p (called_of c) refl refl was.called ∙ (λ i. sym was.sent i || last_here q (length c.request.items) p p.body e i));
        runs = was.runs;
        client_life = was.client_life;
        server_life = was.server_life;
        now = was.now;
      })
  call_sent q c here false e d is =
      let was = found_call v t q c keeps here in
      subst (IsKept with_packet q) (sym is) (record {
        called = was.called;
        size = was.size;
        sent = sym (last_more v with_packet q p (called_of c) refl refl was.called
            ∙ ((λ i. sym was.sent i || last_there q (length c.request.items) p p.body e i) ∙ or_none c.sent_last));
        runs = was.runs;
        client_life = was.client_life;
        server_life = was.server_life;
        now = was.now;
      })

  calls_sent : (q : CallId) (o : Option Call) → call_at t q ≡ o → (b : Bool) → is_call p.id q ≡ b
      → IsCallAt with_packet q (if b then option_map (sent_with (packet_of p)) o else o)
  calls_sent q None here true e = let a : IsAbsent v q = subst (IsCallAt v q) here (keeps.calls q) in record { called = a.called; runs = a.runs; now = a.now }
  calls_sent q None here false e = let a : IsAbsent v q = subst (IsCallAt v q) here (keeps.calls q) in record { called = a.called; runs = a.runs; now = a.now }
  calls_sent q (Some c) here true e = call_sent q c here true e (sent_with (packet_of p) c) refl
  calls_sent q (Some c) here false e = call_sent q c here false e c refl

  pub packet_keeps : contains_key v.calls p.id ≡ true → u.settings ≡ t.settings → u.tick ≡ t.tick → u.ids ≡ t.ids
      → ((h : HostId) → lead_of (host_at u h) ≡ lead_of (host_at t h)) → ((h : HostId) → restarts_in (host_at u h) ≡ restarts_in (host_at t h))
      → ((h : HostId) → first_of (host_at u h) ≡ (if is_host h k.from then first_after (host_at t h) k.inc else first_of (host_at t h))) → SameLists t u
      → ((q : CallId) → call_at u q ≡ call_or k.id (sent_with k) (call_at t) q) → length u.calls.items ≡ length t.calls.items
      → u.packets.items ≡ t.packets.items ++ k ∷ [] → Keeps with_packet u
  packet_keeps made settings tick ids lead restarts first lists calls len packets = record {
    settings = keeps.settings ∙ sym settings;
    wire = keeps.wire;
    tick = keeps.tick ∙ sym tick;
    hosts = λ h. record {
      lead = (keeps.hosts h).lead ∙ sym (lead h);
      first = first_got v t p h keeps
          ∙ (here_first h (is_host h p.from) refl
          ∙ sym (first h ∙ λ i. if is_host h (is i).from then first_after (host_at t h) (is i).inc else first_of (host_at t h)));
      restarts = (keeps.hosts h).restarts ∙ sym (restarts h);
    };
    listed = λ h. record { asked = λ q. lists.asked h q ∙ (keeps.listed h).asked q; awaited = λ q. lists.awaited h q ∙ (keeps.listed h).awaited q };
    aligned = ap (λ x. length x.keys) ids ∙ (keeps.aligned ∙ sym len);
    calls = λ q. subst (IsCallAt with_packet q) (sym (calls q ∙ λ i. call_or (is i).id (sent_with (is i)) (call_at t) q))
        (calls_sent q (call_at t q) refl (is_call p.id q) refl);
    packets = map-append packet_of v.packets (p ∷ []) ∙ ((λ i. keeps.packets i ++ sym is i ∷ []) ∙ sym packets);
    made = made_more v p v.packets made keeps.made;
  }
    where
      here_first : (h : HostId) (b : Bool) → is_host h p.from ≡ b
          → (if b then first_after (host_at t p.from) p.inc else first_of (host_at t h))
          ≡ (if b then first_after (host_at t h) p.inc else first_of (host_at t h))
      here_first h true e = ap (λ (x : HostId). first_after (host_at t x) p.inc) (sym ((hosts_are h p.from).0 e))
      here_first h false e = refl
