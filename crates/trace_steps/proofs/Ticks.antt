-- What lines within a step say of the RESENDs of live calls, and of which requests were sent to the last byte.
use Rattle.std.proofs.Common.{◌≡◌, ℕ, suc, Bool, true, false, not, ◌&&◌, ◌||◌, Option, Some, None, List, [], ◌∷◌, ◌++◌, length, map, cond, refl, sym, ap, ◌∙◌}
use Rattle.std.specs.Prelude.{unwrap_or}
use Rattle.std.specs.Option.{option_map_or}
use Rattle.std.specs.List.{AllByRecursion, list_any}
use Rattle.std.proofs.lemmas.Bool.{cond_both}
use Rattle.plain_sets.specs.Maps.{Map, get, insert}
use Rattle.homa_plain.specs.declared.id.CallId.{CallId}
use Rattle.homa_plain.specs.declared.id.HostId.{HostId}
use Rattle.homa_plain.specs.declared.packet.Role.{Role}
use Rattle.homa_plain.specs.declared.packet.Role.TheVariants.{Client, Server}
use Rattle.homa_plain.specs.declared.packet.Body.{Body}
use Rattle.homa_plain.specs.declared.packet.Body.TheVariants as body
use Rattle.homa_plain.specs.declared.entry.Why.{Why}
use Rattle.homa_plain.specs.declared.entry.Why.TheVariants.{Timeout, Forgotten}
use Rattle.homa_plain.specs.Wire.{is_client, is_server}
use Rattle.homa_plain.specs.Calls.{is_call, call_cmp}
use Rattle.homa_plain.specs.Entries.{PlainEntry, PlainRun, PlainDone, PlainFail, PlainDrop, PlainGaps, PlainBury, PlainFree, PlainFullRows}
use Rattle.homa_plain.specs.Entries.{PlainFullPages, PlainBalance, PlainJunk}
use Rattle.homa_plain.specs.Packets.{Packet, send_line}
use Rattle.homa_plain.specs.Host.{Told, Says, Sends, packets_in, entries_from}
use Rattle.trace_rules.specs.View.{View, Called, Sent, Progress, own_tick, is_server_of, has_last, sent_last, resends_of}
use Rattle.trace_rules.specs.Seen.{seen, seen_all, refused, failed, said, renewed, is_delivery_to}
use Rattle.homa_plain.proofs.CallOrder.{calls_are}
use Rattle.trace_steps.specs.Told.{sent_of}
use Rattle.trace_steps.proofs.Lines.{told_same, told_packets}
use Rattle.step_moves.proofs.Inner.{AllInner}
use Rattle.trace_steps.proofs.Progress.{get-set, IsLevel, IsUnstale, AllUnstale, unstale_taken, taken_level}

-- ---- RESENDs

-- a client's RESEND and a piece of its request touch the list of its RESENDs
abbrev pub asks : Role → Body → Bool
asks Client (body.Resend from to prio) = true
asks Client (body.Data size offset version service ack) = true
asks role what = false

abbrev pub is_asking : CallId → Packet → Bool
is_asking q p = is_call q p.id && asks p.role p.body

set_aside : {X : Type 0} (m : Map call_cmp X) (id : CallId) (x : X) (q : CallId) → is_call q id ≡ false → get (insert m id x) q ≡ get m q
set_aside m id x q e = get-set m id x q ∙ ap (λ b. cond b (Some x) (get m q)) e

-- no other packet does
ticks_said : (v : View) (p : Sent) (what : Body) (m : Progress) (q : CallId) → (is_call q p.id && asks p.role what) ≡ false
    → get (said v p what m).resends q ≡ get m.resends q
ticks_said v p what m q e = by_role p.role what refl e where
  off : (b : Bool) → (b && true) ≡ false → b ≡ false
  off b e = sym (and_true b) ∙ e where
    and_true : (b : Bool) → (b && true) ≡ b
    and_true true = refl
    and_true false = refl

  by_role : (role : Role) (what : Body) → p.role ≡ role → (is_call q p.id && asks role what) ≡ false → get (said v p what m).resends q ≡ get m.resends q
  by_role Client (body.Resend from to prio) r e = cond_both (is_client p.role) _ _ (λ (x : Progress). get x.resends q ≡ get m.resends q)
      (λ _. set_aside m.resends p.id (own_tick v p.id.client ∷ resends_of m p.id) q (off (is_call q p.id) e)) (λ _. refl)
  by_role Client (body.Data size offset version service ack) r e =
      cond_both (is_client p.role && not (sent_last v p.id)) _ _ (λ (x : Progress). get x.resends q ≡ get m.resends q)
      (λ _. set_aside m.resends p.id [] q (off (is_call q p.id) e)) (λ _. refl)
  by_role Server (body.Resend from to prio) r e =
      ap (λ (x : Role). get (cond (is_client x) (record m { resends = insert m.resends p.id (own_tick v p.id.client ∷ resends_of m p.id) }) m).resends q) r
  by_role Server (body.Data size offset version service ack) r e =
      ap (λ (x : Role). get (cond (is_client x && not (sent_last v p.id)) (renewed p.id m) m).resends q) r
  by_role role (body.Grant offset prio) r e = cond_both (is_server p.role) _ _ (λ (x : Progress). get x.resends q ≡ get m.resends q) (λ _. refl) (λ _. refl)
  by_role role body.Busy r e = refl
  by_role role (body.Cutoffs cutoffs) r e = refl
  by_role role (body.Unknown reason) r e = refl
  by_role role body.NeedAck r e = refl
  by_role role (body.Ack more) r e = refl

ticks_refused : (v : View) (host : HostId) (id q : CallId) → IsLevel v → get (refused v host id).now.resends q ≡ get v.now.resends q
ticks_refused v host id q k = cond_both (is_delivery_to v host id) _ _ (λ (u : View). get u.now.resends q ≡ get v.now.resends q) (λ _. k.resends q) (λ _. refl)

ticks_failed : (v : View) (id q : CallId) (why : Why) → get (failed v id why).now.resends q ≡ get v.now.resends q
ticks_failed v id q Timeout = refl
ticks_failed v id q Forgotten = refl

-- nor does a line that a host says
ticks_line : (v : View) (line : PlainEntry) (q : CallId) → IsUnstale line → IsLevel v → get (seen v line).now.resends q ≡ get v.now.resends q
unfolding seen
ticks_line v (PlainRun host id service request response hold) q taken k = refl
ticks_line v (PlainDone id bytes) q taken k = refl
ticks_line v (PlainFail id why) q taken k = ticks_failed v id q why
ticks_line v (PlainDrop host id) q taken k =
    cond_both (is_server_of v id host) _ _ (λ (x : Progress). get x.resends q ≡ get v.now.resends q) (λ _. refl) (λ _. refl)
ticks_line v (PlainGaps host id) q taken k = ticks_refused v host id q k
ticks_line v (PlainBury host id until) q taken k = refl
ticks_line v (PlainFree host id) q taken k = refl
ticks_line v (PlainFullRows host id rows limit) q taken k = ticks_refused v host id q k
ticks_line v (PlainFullPages host id need free) q taken k = ticks_refused v host id q k
ticks_line v (PlainBalance host cutoffs) q taken k = refl
ticks_line v (PlainJunk host) q taken k = refl
ticks_line v line q taken k = absurd taken

ticks_sent : (v : View) (n : ℕ) (p : Packet) (q : CallId) → is_asking q p ≡ false → get (seen v (send_line n p)).now.resends q ≡ get v.now.resends q
unfolding seen
ticks_sent v n p q e = ticks_said v (sent_of p) p.body v.now q e

abbrev pub NoneAsks : CallId → List Packet → Type 0
NoneAsks q ps = AllByRecursion (λ (p : Packet). is_asking q p ≡ false) ps

-- behind what a move tells, where it sends no RESEND and no piece of the call's request
pub told_ticks : (v : View) (n : ℕ) (told : List Told) (q : CallId) → AllUnstale told → IsLevel v → NoneAsks q (packets_in told)
    → get (seen_all v (entries_from n told)).now.resends q ≡ get v.now.resends q
told_ticks v n [] q said k none = refl
told_ticks v n (Says entry ∷ told) q said k none =
    told_ticks (seen v entry) n told q said.1 (taken_level v entry (unstale_taken entry said.0) k) none ∙ ticks_line v entry q said.0 k
told_ticks v n (Sends p ∷ told) q said k none =
    told_ticks (seen v (send_line n p)) (suc n) told q said (taken_level v (send_line n p) tt k) none.1 ∙ ticks_sent v n p q none.0

-- a client's RESEND is one more
pub resend_ticks : (v : View) (n : ℕ) (p : Packet) (from to prio : ℕ) → p.role ≡ Client → p.body ≡ body.Resend from to prio
    → resends_of (seen v (send_line n p)).now p.id ≡ own_tick v p.id.client ∷ resends_of v.now p.id
unfolding seen
resend_ticks v n p from to prio role what =
    ap (λ (b : Body). resends_of (said v (sent_of p) b v.now) p.id) what
    ∙ ap (λ (x : Role). resends_of
    (cond (is_client x) (record v.now { resends = insert v.now.resends p.id (own_tick v p.id.client ∷ resends_of v.now p.id) }) v.now) p.id) role
    ∙ ap (λ (o : Option (List ℕ)). unwrap_or o [])
    (get-set v.now.resends p.id (own_tick v p.id.client ∷ resends_of v.now p.id) p.id
    ∙ ap (λ b. cond b (Some (own_tick v p.id.client ∷ resends_of v.now p.id)) (get v.now.resends p.id)) ((calls_are p.id p.id).1 refl))

-- a piece of a request renews its call, until the last byte was sent
pub piece_ticks : (v : View) (n : ℕ) (p : Packet) (size offset version service : ℕ) (ack : Option (ℕ × ℕ)) → p.role ≡ Client
    → p.body ≡ body.Data size offset version service ack
    → resends_of (seen v (send_line n p)).now p.id ≡ cond (not (sent_last v p.id)) [] (resends_of v.now p.id)
unfolding seen
piece_ticks v n p size offset version service ack role what =
    ap (λ (b : Body). resends_of (said v (sent_of p) b v.now) p.id) what
    ∙ ap (λ (x : Role). resends_of (cond (is_client x && not (sent_last v p.id)) (renewed p.id v.now) v.now) p.id) role
    ∙ by_test (not (sent_last v p.id)) where
      by_test : (b : Bool) → resends_of (cond b (renewed p.id v.now) v.now) p.id ≡ cond b [] (resends_of v.now p.id)
      by_test true = ap (λ (o : Option (List ℕ)). unwrap_or o [])
          (get-set v.now.resends p.id [] p.id ∙ ap (λ b. cond b (Some []) (get v.now.resends p.id)) ((calls_are p.id p.id).1 refl))
      by_test false = refl

-- ---- the last byte of a request

any-append : {X : Type 0} (test : X → Bool) (xs ys : List X) → list_any test (xs ++ ys) ≡ list_any test xs || list_any test ys
any-append test [] ys = refl
any-append test (x ∷ xs) ys = ap (λ b. test x || b) (any-append test xs ys) ∙ or_assoc (test x) (list_any test xs) (list_any test ys) where
  or_assoc : (a b c : Bool) → (a || (b || c)) ≡ ((a || b) || c)
  or_assoc true b c = refl
  or_assoc false b c = refl

-- whether one of these packets has the last byte of a call's request
abbrev pub any_last : CallId → Option Called → List Sent → Bool
any_last q o ps = option_map_or (λ (c : Called). list_any (λ (p : Sent). has_last q (length c.request) p p.body) ps) o false

pub told_sent_last : (v : View) (n : ℕ) (told : List Told) (q : CallId) → AllInner told
    → sent_last (seen_all v (entries_from n told)) q ≡ sent_last v q || any_last q (get v.calls q) (map sent_of (packets_in told))
told_sent_last v n told q inner =
    ap (λ (ps : List Sent). any_last q (get (seen_all v (entries_from n told)).calls q) ps) (told_packets v n told inner)
    ∙ ap (λ (m : Map call_cmp Called). any_last q (get m q) (v.packets ++ map sent_of (packets_in told))) (told_same v n told inner).calls
    ∙ by_call (get v.calls q) where
      by_call : (o : Option Called) → any_last q o (v.packets ++ map sent_of (packets_in told)) ≡ any_last q o v.packets || any_last q o
          (map sent_of (packets_in told))
      by_call None = refl
      by_call (Some c) = any-append (λ (p : Sent). has_last q (length c.request) p p.body) v.packets (map sent_of (packets_in told))
