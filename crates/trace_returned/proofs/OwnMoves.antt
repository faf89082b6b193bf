-- Moves that change what has arrived of their own call, or send a piece of a message.
use Rattle.std.proofs.Common.{◌≡◌, ℕ, ◌+◌, ◌-◌, ◌≤◌, ◌<◌, max, Bool, true, false, ◌&&◌, Option, Some, None, List, [], ◌∷◌, length, cond, refl, sym}
use Rattle.std.proofs.Common.{ap, subst, ◌∙◌, arith}
use Rattle.std.specs.Prelude.{not, take, drop}
use Rattle.std.specs.Option.{option_map, MatchOption}
use Rattle.std.proofs.lemmas.Bool.{cond_both, lt-ltb}
use Rattle.std.proofs.Math.Bool.{and-false, or-false}
use Rattle.std.proofs.lemmas.List.{length-take, length-drop}
use Rattle.plain_sets.specs.Maps.{get, len}
use Rattle.plain_sets.specs.Ranges.{Range}
use Rattle.plain_sets.proofs.KeySets.{len-key_set}
use Rattle.homa_plain.specs.declared.id.CallId.{CallId}
use Rattle.homa_plain.specs.declared.id.HostId.{HostId}
use Rattle.homa_plain.specs.declared.entry.Why.{Why}
use Rattle.homa_plain.specs.declared.entry.Why.TheVariants.{Timeout, Forgotten}
use Rattle.homa_plain.specs.declared.packet.Role.TheVariants.{Client, Server}
use Rattle.homa_plain.specs.declared.packet.Body.TheVariants as body
use Rattle.homa_plain.specs.declared.settings.Settings.{Settings}
use Rattle.homa_plain.specs.Calls.{is_host, is_call}
use Rattle.homa_plain.specs.Grants.{seen, new_end}
use Rattle.homa_plain.specs.Entries.{PlainEntry, PlainDrop, PlainFail, PlainDone}
use Rattle.homa_plain.specs.Incoming.{Incoming, granted_to}
use Rattle.homa_plain.specs.Outgoing.{Outgoing, next, next_range}
use Rattle.homa_plain.specs.Outgoing as outgoing
use Rattle.trace_rules.specs.Parts.{Part, raised, is_message}
use Rattle.trace_rules.specs.Parts as parts
use Rattle.homa_plain.specs.Packets.{Packet, sender, receiver, send_line}
use Rattle.homa_plain.specs.Host.{Says, Sends}
use Rattle.homa_plain.specs.Sending.{slice}
use Rattle.trace_rules.specs.View.{View, Progress, is_server_of}
use Rattle.trace_rules.specs.Seen.{seen_all, failed, dropped}
use Rattle.trace_rules.specs.Seen as lines
use Rattle.homa_plain.proofs.CallOrder.{calls_are, hosts_are}
use Rattle.homa_plain.proofs.ArrivalLaws.{sound-granted_to}
use Rattle.homa_plain.proofs.OutgoingLaws as out_laws
use Rattle.trace_steps.proofs.Progress.{IsUnstale, is_end, IsLevel, get-gone, told_level, told_live}
use Rattle.trace_steps.proofs.PartLines.{IsAside, is_grant, told_parts, request_granted, response_granted, drop_line}
use Rattle.trace_steps.specs.Contents.{IsSlice}
use Rattle.trace_steps.specs.Arrived.{IsSamePart}
use Rattle.step_moves.proofs.Hosts.{turned}
use Rattle.trace_returned.specs.Tales.{tale}
use Rattle.trace_returned.proofs.Calm.{tale_is, SameBlock, told_block}

-- ---- lines of one call

-- what a line leaves of the other calls, and of the block
pub record OwnLine (id : CallId) (v u : View) : Type 0 where
  pub others : (q : CallId) → is_call id q ≡ false → tale u.now q ≡ tale v.now q
  pub level : IsLevel u
  pub block : SameBlock v u

-- a request is given up
drop_responses : (v : View) (host : HostId) (id q : CallId) → get (lines.seen v (PlainDrop host id)).now.responses q ≡ get v.now.responses q
unfolding lines.seen
drop_responses v host id q = cond_both (is_server_of v id host) _ _ (λ (m : Progress). get m.responses q ≡ get v.now.responses q) (λ _. refl) (λ _. refl)

module _ (v : View) (host : HostId) (id : CallId) (level : IsLevel v) where
  pub drop_own : OwnLine id v (lines.seen v (PlainDrop host id))
  drop_own = record {
    others = λ q e. let p = told_parts v 0 (Says (PlainDrop host id) ∷ []) q (tt, tt) level (turned id q e, tt) in
        tale_is _ _ (told_live v 0 (Says (PlainDrop host id) ∷ []) q (tt, tt) level) p.requests p.responses;
    level = told_level v 0 (Says (PlainDrop host id) ∷ []) (tt, tt) level;
    block = told_block v 0 (Says (PlainDrop host id) ∷ []) (tt, tt);
  }

  pub drop_tale : is_server_of v id host ≡ true
      → tale (lines.seen v (PlainDrop host id)).now id ≡ record { live = get v.now.live id; request = None; response = get v.now.responses id }
  drop_tale serves = tale_is _ _ (told_live v 0 (Says (PlainDrop host id) ∷ []) id (tt, tt) level)
      (drop_line v host id id serves ∙ ap (λ b. cond b None (get v.now.requests id)) ((calls_are id id).1 refl)) (drop_responses v host id id)

-- a call fails
fail_requests : (v : View) (id q : CallId) (why : Why) → get (lines.seen v (PlainFail id why)).now.requests q ≡ get v.now.requests q
unfolding lines.seen
fail_requests v id q Timeout = refl
fail_requests v id q Forgotten = refl

fail_responses : (v : View) (id : CallId) (why : Why) → get (lines.seen v (PlainFail id why)).now.responses id ≡ None
unfolding lines.seen
fail_responses v id Timeout = get-gone v.now.responses id id ∙ ap (λ b. cond b None (get v.now.responses id)) ((calls_are id id).1 refl)
fail_responses v id Forgotten = get-gone v.now.responses id id ∙ ap (λ b. cond b None (get v.now.responses id)) ((calls_are id id).1 refl)

-- a line by which a call isn't live any more
pub record EndedLine (id : CallId) (v u : View) : Type 0 where
  pub others : (q : CallId) → is_call id q ≡ false → tale u.now q ≡ tale v.now q
  pub level : IsLevel u
  pub itself : tale u.now id ≡ record { live = None; request = get v.now.requests id; response = None }

ended_line : (v : View) (id : CallId) (entry : PlainEntry) → IsLevel v → IsUnstale entry → ((q : CallId) → is_call q id ≡ false → IsAside q entry)
    → ((q : CallId) → is_end q entry ≡ is_call q id)
    → get (lines.seen v entry).now.requests id ≡ get v.now.requests id → get (lines.seen v entry).now.responses id ≡ None → EndedLine id v (lines.seen v entry)
ended_line v id entry level unstale aside ends requests responses =
    let live = (λ (q : CallId) (b : Bool) (e : is_call q id ≡ b). told_live v 0 (Says entry ∷ []) q (unstale, tt) level
    ∙ ap (λ t. cond t None (get v.now.live q)) (or-false (is_end q entry) ∙ ends q ∙ e)) in
    record {
      others = λ q e. let p = told_parts v 0 (Says entry ∷ []) q (unstale, tt) level (aside q (turned id q e), tt) in
          tale_is _ _ (live q false (turned id q e)) p.requests p.responses;
      level = told_level v 0 (Says entry ∷ []) (unstale, tt) level;
      itself = tale_is _ _ (live id true ((calls_are id id).1 refl)) requests responses;
    }

pub fail_ended : (v : View) (id : CallId) (why : Why) → IsLevel v → EndedLine id v (lines.seen v (PlainFail id why))
fail_ended v id why level = ended_line v id (PlainFail id why) level tt (λ q e. e) (λ q. refl) (fail_requests v id id why) (fail_responses v id why)

pub timeout_block : (v : View) (id : CallId) → SameBlock v (lines.seen v (PlainFail id Timeout))
timeout_block v id = told_block v 0 (Says (PlainFail id Timeout) ∷ []) (tt, tt)

-- a call is done
done_requests : (v : View) (id q : CallId) (bytes : List ℕ) → get (lines.seen v (PlainDone id bytes)).now.requests q ≡ get v.now.requests q
unfolding lines.seen
done_requests v id q bytes = refl

done_responses : (v : View) (id : CallId) (bytes : List ℕ) → get (lines.seen v (PlainDone id bytes)).now.responses id ≡ None
unfolding lines.seen
done_responses v id bytes = get-gone v.now.responses id id ∙ ap (λ b. cond b None (get v.now.responses id)) ((calls_are id id).1 refl)

pub done_ended : (v : View) (id : CallId) (bytes : List ℕ) → IsLevel v → EndedLine id v (lines.seen v (PlainDone id bytes))
done_ended v id bytes level = ended_line v id (PlainDone id bytes) level tt (λ q e. e) (λ q. refl) (done_requests v id id bytes) (done_responses v id bytes)

pub done_block : (v : View) (id : CallId) (bytes : List ℕ) → ((lines.seen v (PlainDone id bytes)).here ≡ record v.here { dones = id ∷ v.here.dones })
    × ((lines.seen v (PlainDone id bytes)).now.due ≡ v.now.due)
unfolding lines.seen
done_block v id bytes = (refl, refl)

-- ---- GRANTs

module _ (s : Settings) (h : HostId) (message : List ℕ) (p : Incoming) (q : Part) (offset : ℕ) (k : IsSamePart s h message p q)
    (is : offset ≡ new_end s.window (seen p)) (more : p.granted < offset) where
  message_is : is_message q ≡ true
  message_is = ap (λ b. b && not (parts.is_whole q)) (lt-ltb 0 (len q.arrived) k.some) ∙ ap not k.missing

  -- a GRANT between the message's hosts raises it
  raised_is : (from to : HostId) → q.host ≡ from → q.peer ≡ to → raised from to offset q ≡ record q { granted = max q.granted offset }
  raised_is from to a b = ap (λ t. cond t (record q { granted = max q.granted offset }) q)
      (ap (λ t. t && is_host q.peer to && is_message q) ((hosts_are q.host from).1 a) ∙ ap (λ t. t && is_message q) ((hosts_are q.peer to).1 b) ∙ message_is)

  pub same_granted : (from to : HostId) → q.host ≡ from → q.peer ≡ to → IsSamePart s h message (granted_to p offset) (raised from to offset q)
  same_granted from to a b =
      let n = k.near in
      let new : Part = record q { granted = max q.granted offset } in
      let there : len p.bytes ≡ len q.arrived = sym (len-key_set p.bytes) ∙ ap len n.there in
      subst (IsSamePart s h message (granted_to p offset)) (sym (raised_is from to a b)) (record {
        near = record {
          at = n.at;
          peer = n.peer;
          long = n.long;
          size = n.size;
          there = n.there;
          granted = (let e : offset ≡ max q.granted offset = omega (arith, n.granted, more) in e);
          window = omega (arith, is, there, n.granted, more);
          sound = sound-granted_to p offset n.sound (omega (arith, is));
          bytes = n.bytes;
        };
        some = k.some;
        missing = k.missing;
      })

  pub peer_granted : (from to : HostId) → (raised from to offset q).peer ≡ q.peer
  peer_granted from to = cond_both (is_host q.host from && is_host q.peer to && is_message q) _ _ (λ (x : Part). x.peer ≡ q.peer) (λ _. refl) (λ _. refl)

-- a packet of one call: what a GRANT leaves
grant_others : (v : View) (n : ℕ) (p : Packet) (id : CallId) → p.id ≡ id → IsLevel v → (q : CallId) → is_call id q ≡ false
    → tale (lines.seen v (send_line n p)).now q ≡ tale v.now q
grant_others v n p id of level q e =
    let aside = ap (λ (x : CallId). is_call q x && is_grant p.body) of ∙ ap (λ b. b && is_grant p.body) (turned id q e) in
    let parts = told_parts v n (Sends p ∷ []) q tt level (aside, tt) in
    tale_is _ _ (told_live v n (Sends p ∷ []) q tt level) parts.requests parts.responses

module _ (v : View) (n : ℕ) (p : Packet) (id : CallId) (of : p.id ≡ id) (level : IsLevel v) where
  pub packet_own : OwnLine id v (lines.seen v (send_line n p))
  packet_own = record { others = grant_others v n p id of level; level = told_level v n (Sends p ∷ []) tt level; block = told_block v n (Sends p ∷ []) tt }

  -- any but a GRANT leaves all
  pub packet_tale : is_grant p.body ≡ false → (q : CallId) → tale (lines.seen v (send_line n p)).now q ≡ tale v.now q
  packet_tale e q =
      let aside = ap (λ b. is_call q p.id && b) e ∙ and-false (is_call q p.id) in
      let parts = told_parts v n (Sends p ∷ []) q tt level (aside, tt) in
      tale_is _ _ (told_live v n (Sends p ∷ []) q tt level) parts.requests parts.responses

  -- a GRANT raises the part of its call's request, or response
  pub request_tale : (offset prio : ℕ) → p.role ≡ Server → p.body ≡ body.Grant offset prio
      → tale (lines.seen v (send_line n p)).now id
      ≡ record {
        live = get v.now.live id;
        request = option_map (raised (sender p) (receiver p) offset) (get v.now.requests id);
        response = get v.now.responses id;
      }
  request_tale offset prio role what =
      let g = request_granted v n p offset prio id role what in
      tale_is _ _ (told_live v n (Sends p ∷ []) id tt level)
      (g.0 ∙ ap (λ b. cond b (option_map (raised (sender p) (receiver p) offset) (get v.now.requests id)) (get v.now.requests id)) itself) g.1 where
        itself : is_call id p.id ≡ true
        itself = (calls_are id p.id).1 (sym of)

  pub response_tale : (offset prio : ℕ) → p.role ≡ Client → p.body ≡ body.Grant offset prio
      → tale (lines.seen v (send_line n p)).now id
      ≡ record {
        live = get v.now.live id;
        request = get v.now.requests id;
        response = option_map (raised (sender p) (receiver p) offset)
            (get v.now.responses id);
      }
  response_tale offset prio role what =
      let g = response_granted v n p offset prio id role what in
      tale_is _ _ (told_live v n (Sends p ∷ []) id tt level) g.1
      (g.0 ∙ ap (λ b. cond b (option_map (raised (sender p) (receiver p) offset) (get v.now.responses id)) (get v.now.responses id)) itself) where
        itself : is_call id p.id ≡ true
        itself = (calls_are id p.id).1 (sym of)

-- ---- pieces

length-slice : (xs : List ℕ) (r : Range) → r.from ≤ r.to → r.to ≤ length xs → length (slice xs r) ≡ r.to - r.from
length-slice xs r a b = omega (arith, length-take (r.to - r.from) (drop r.from xs), length-drop r.from xs)

-- the next piece of a message is a slice of it
pub next_slice : (xs : List ℕ) (out : Outgoing) (seg : ℕ) (r : Range) → 0 < seg → outgoing.IsSound out → out.length ≡ length xs
    → next_range out seg ≡ Some r → IsSlice xs out.length r.from (slice xs r)
next_slice xs out seg r some sound size e =
    let front : outgoing.IsFront out seg r =
    subst (λ (o : Option Range). MatchOption o (outgoing.IsIdle out) (outgoing.IsFront out seg)) e (out_laws.front-next_range out seg some sound) in
    let within : r.to ≤ out.length = omega (arith, front.granted, sound.within) in
    let long = length-slice xs r (omega (arith, front.some)) (omega (arith, size, within)) in
    record {
      whole = size;
      some = omega (arith, long, front.some);
      within = omega (arith, long, within, front.some);
      bytes = ap (λ n. take n (drop r.from xs)) (let e : r.to - r.from ≡ r.from + length (slice xs r) - r.from = omega (arith, long) in e);
    }
