-- What lines within a step say of live calls, of RESENDs, and of what has arrived.
use Rattle.std.proofs.Common.{◌≡◌, ℕ, suc, Bool, true, false, not, ◌&&◌, ◌||◌, Option, Some, None, List, [], ◌∷◌, ◌++◌, cond, refl, sym, ap, ◌∙◌}
use Rattle.std.specs.Prelude.{unwrap_or}
use Rattle.std.specs.Option.{option_map}
use Rattle.std.proofs.lemmas.Bool.{cond_both}
use Rattle.plain_sets.specs.Maps.{Map, get, insert, remove}
use Rattle.plain_sets.proofs.MapLaws.{get-insert, get-remove}
use Rattle.homa_plain.specs.declared.id.CallId.{CallId}
use Rattle.homa_plain.specs.declared.id.HostId.{HostId}
use Rattle.homa_plain.specs.declared.packet.Body.{Body}
use Rattle.homa_plain.specs.declared.packet.Body.TheVariants as body
use Rattle.homa_plain.specs.declared.entry.Why.{Why}
use Rattle.homa_plain.specs.declared.entry.Why.TheVariants.{Timeout, Forgotten}
use Rattle.homa_plain.specs.Wire.{is_client, is_server}
use Rattle.homa_plain.specs.Calls.{is_call, call_cmp}
use Rattle.homa_plain.specs.Entries.{PlainEntry, PlainCall, PlainInject, PlainSend, PlainRun, PlainDone, PlainFail, PlainDrop, PlainGaps, PlainBury}
use Rattle.homa_plain.specs.Entries.{PlainFree, PlainFullRows, PlainFullPages, PlainBalance, PlainJunk, PlainStale}
use Rattle.homa_plain.specs.Packets.{send_line}
use Rattle.homa_plain.specs.Host.{Told, Says, Sends, entries_from}
use Rattle.trace_rules.specs.Parts.{Part, Parts, raised, changed, changed_part}
use Rattle.trace_rules.specs.View.{View, Sent, Progress, own_tick, is_server_of, sent_last, resends_of}
use Rattle.trace_rules.specs.Seen.{seen, seen_all, refused, failed, finished, dropped, said, renewed, is_delivery_to}
use Rattle.homa_plain.proofs.CallOrder.{call_total, calls_are}
pub use Rattle.trace_steps.specs.Level.{is_of, AreLevel, IsLevel}
use Rattle.step_moves.proofs.Inner.{IsInner}

-- ---- maps from calls, of which one is set

pub get-set : {X : Type 0} (m : Map call_cmp X) (id : CallId) (x : X) (q : CallId) → get (insert m id x) q ≡ cond (is_call q id) (Some x) (get m q)
get-set m id x q = get-insert call_total m id x q

pub get-gone : {X : Type 0} (m : Map call_cmp X) (id q : CallId) → get (remove m id) q ≡ cond (is_call q id) None (get m q)
get-gone m id q = get-remove call_total m id q

-- what two maps have of a call stays the same where both change alike
pub both_set : {X : Type 0} (m n : Map call_cmp X) (id : CallId) (x : X) (q : CallId) → get m q ≡ get n q → get (insert m id x) q ≡ get (insert n id x) q
both_set m n id x q e = get-set m id x q ∙ ap (λ o. cond (is_call q id) (Some x) o) e ∙ sym (get-set n id x q)

pub both_gone : {X : Type 0} (m n : Map call_cmp X) (id q : CallId) → get m q ≡ get n q → get (remove m id) q ≡ get (remove n id) q
both_gone m n id q e = get-gone m id q ∙ ap (λ o. cond (is_call q id) None o) e ∙ sym (get-gone n id q)

-- the parts of which that of a call is changed
pub get-changed : (change : Part → Part) (parts : Parts) (id q : CallId)
    → get (changed change parts id) q ≡ cond (is_call q id) (option_map change (get parts q)) (get parts q)
get-changed change parts id q = by_part (get parts id) refl (is_call q id) refl where
  by_part : (o : Option Part) → get parts id ≡ o → (b : Bool) → is_call q id ≡ b
      → get (changed_part change parts id o) q ≡ cond b (option_map change (get parts q)) (get parts q)
  by_part None e false f = refl
  by_part None e true f = let none : get parts q ≡ None = ap (get parts) ((calls_are q id).0 f) ∙ e in none ∙ sym (ap (option_map change) none)
  by_part (Some p) e false f = get-set parts id (change p) q ∙ ap (λ b. cond b (Some (change p)) (get parts q)) f
  by_part (Some p) e true f =
      let some : get parts q ≡ Some p = ap (get parts) ((calls_are q id).0 f) ∙ e in
      get-set parts id (change p) q ∙ ap (λ b. cond b (Some (change p)) (get parts q)) f ∙ sym (ap (option_map change) some)

both_changed : (change : Part → Part) (m n : Parts) (id q : CallId) → get m q ≡ get n q → get (changed change m id) q ≡ get (changed change n id) q
both_changed change m n id q e = get-changed change m id q ∙ ap (λ o. cond (is_call q id) (option_map change o) o) e ∙ sym (get-changed change n id q)

-- ---- a block whose delivery may be refused

pub level_itself : (m : Progress) → AreLevel m m
level_itself m = record { came = refl; live = λ q. refl; resends = λ q. refl; requests = λ q o. refl; responses = λ q o. refl }

-- a line within a step, but `stale`
abbrev pub IsTaken : PlainEntry → Type 0
IsTaken (PlainStale host at now) = ⊥
IsTaken line = IsInner line

-- a line that a host says in a step, but `stale`
abbrev pub IsUnstale : PlainEntry → Type 0
IsUnstale (PlainStale host at now) = ⊥
IsUnstale (PlainSend number from to inc role id level what payload) = ⊥
IsUnstale line = IsInner line

abbrev pub AllUnstale : List Told → Type 0
AllUnstale [] = Unit {0}
AllUnstale (Says entry ∷ told) = IsUnstale entry × AllUnstale told
AllUnstale (Sends packet ∷ told) = AllUnstale told

pub unstale-append : (a b : List Told) → AllUnstale a → AllUnstale b → AllUnstale (a ++ b)
unstale-append [] b x y = y
unstale-append (Says entry ∷ a) b x y = (x.0, unstale-append a b x.1 y)
unstale-append (Sends packet ∷ a) b x y = unstale-append a b x y

module _ (m n : Progress) (k : AreLevel m n) where
  level_finished : (id : CallId) → AreLevel (finished id m) (finished id n)
  level_finished id = record {
    came = k.came;
    live = λ q. both_gone m.live n.live id q (k.live q);
    resends = k.resends;
    requests = k.requests;
    responses = λ q o. both_gone m.responses n.responses id q (k.responses q o);
  }

  level_dropped : (v : View) (host : HostId) (id : CallId) → AreLevel (dropped v host id m) (dropped v host id n)
  level_dropped v host id = by_server (is_server_of v id host) where
    by_server : (b : Bool) → AreLevel (cond b (record m { requests = remove m.requests id }) m) (cond b (record n { requests = remove n.requests id }) n)
    by_server true =
        record {
          came = k.came;
          live = k.live;
          resends = k.resends;
          requests = λ q o. both_gone m.requests n.requests id q (k.requests q o);
          responses = k.responses;
        }
    by_server false = k

  level_renewed : (id : CallId) → AreLevel (renewed id m) (renewed id n)
  level_renewed id =
      record { came = k.came; live = k.live; resends = λ q. both_set m.resends n.resends id [] q (k.resends q); requests = k.requests; responses = k.responses }

  level_said : (v : View) (p : Sent) (what : Body) → AreLevel (said v p what m) (said v p what n)
  level_said v p (body.Grant offset prio) = by_role (is_server p.role) where
    by_role : (b : Bool)
        → AreLevel (cond b (record m { requests = changed (raised p.from p.to offset) m.requests p.id })
        (record m { responses = changed (raised p.from p.to offset) m.responses p.id }))
        (cond b (record n { requests = changed (raised p.from p.to offset) n.requests p.id })
        (record n { responses = changed (raised p.from p.to offset) n.responses p.id }))
    by_role true = record {
      came = k.came;
      live = k.live;
      resends = k.resends;
      requests = λ q o. both_changed (raised p.from p.to offset) m.requests n.requests p.id q (k.requests q o);
      responses = k.responses;
    }
    by_role false =
        record {
          came = k.came;
          live = k.live;
          resends = k.resends;
          requests = k.requests;
          responses = λ q o. both_changed (raised p.from p.to offset) m.responses n.responses p.id q (k.responses q o);
        }
  level_said v p (body.Resend from to prio) = by_role (is_client p.role) where
    ticks : (x : Progress) → List ℕ
    ticks x = own_tick v p.id.client ∷ resends_of x p.id

    same : ticks m ≡ ticks n
    same = ap (λ (o : Option (List ℕ)). own_tick v p.id.client ∷ unwrap_or o []) (k.resends p.id)

    by_role : (b : Bool)
        → AreLevel (cond b (record m { resends = insert m.resends p.id (ticks m) }) m) (cond b (record n { resends = insert n.resends p.id (ticks n) }) n)
    by_role true = record {
      came = k.came;
      live = k.live;
      resends = λ q. both_set m.resends n.resends p.id (ticks m) q (k.resends q) ∙ ap (λ xs. get (insert n.resends p.id xs) q) same;
      requests = k.requests;
      responses = k.responses;
    }
    by_role false = k
  level_said v p (body.Data size offset version service ack) = by_test (is_client p.role && not (sent_last v p.id)) where
    by_test : (b : Bool) → AreLevel (cond b (renewed p.id m) m) (cond b (renewed p.id n) n)
    by_test true = level_renewed p.id
    by_test false = k
  level_said v p body.Busy = k
  level_said v p (body.Cutoffs cutoffs) = k
  level_said v p (body.Unknown reason) = k
  level_said v p body.NeedAck = k
  level_said v p (body.Ack more) = k

level_refused : (v : View) (host : HostId) (id : CallId) → IsLevel v → IsLevel (refused v host id)
level_refused v host id k = cond_both (is_delivery_to v host id) _ _ IsLevel (λ _. level_itself v.if_refused) (λ _. k)

level_failed : (v : View) (id : CallId) (why : Why) → IsLevel v → IsLevel (failed v id why)
level_failed v id Timeout k = level_finished v.if_refused v.now k id
level_failed v id Forgotten k = level_finished v.if_refused v.now k id

pub taken_level : (v : View) (line : PlainEntry) → IsTaken line → IsLevel v → IsLevel (seen v line)
unfolding seen
taken_level v (PlainRun host id service request response hold) taken k = k
taken_level v (PlainSend number from to inc role id level what payload) taken k =
    level_said v.if_refused v.now k v (record { from = from; to = to; inc = inc; role = role; id = id; body = what; payload = payload }) what
taken_level v (PlainDone id bytes) taken k = level_finished v.if_refused v.now k id
taken_level v (PlainFail id why) taken k = level_failed v id why k
taken_level v (PlainDrop host id) taken k = level_dropped v.if_refused v.now k v host id
taken_level v (PlainGaps host id) taken k = level_refused v host id k
taken_level v (PlainBury host id until) taken k = k
taken_level v (PlainFree host id) taken k = k
taken_level v (PlainFullRows host id rows limit) taken k = level_refused v host id k
taken_level v (PlainFullPages host id need free) taken k = level_refused v host id k
taken_level v (PlainBalance host cutoffs) taken k = k
taken_level v (PlainJunk host) taken k = k
taken_level v line taken k = absurd taken

pub unstale_taken : (entry : PlainEntry) → IsUnstale entry → IsTaken entry
unstale_taken (PlainSend number from to inc role id level what payload) said = absurd said
unstale_taken (PlainStale host at now) said = absurd said
unstale_taken line said = said

pub told_level : (v : View) (n : ℕ) (told : List Told) → AllUnstale told → IsLevel v → IsLevel (seen_all v (entries_from n told))
told_level v n [] said k = k
told_level v n (Says entry ∷ told) said k = told_level (seen v entry) n told said.1 (taken_level v entry (unstale_taken entry said.0) k)
told_level v n (Sends packet ∷ told) said k = told_level (seen v (send_line n packet)) (suc n) told said (taken_level v (send_line n packet) tt k)

-- ---- live calls

-- whether a line ends a live call
abbrev pub is_end : CallId → PlainEntry → Bool
is_end q (PlainDone id bytes) = is_call q id
is_end q (PlainFail id why) = is_call q id
is_end q line = false

abbrev pub ends_told : CallId → List Told → Bool
ends_told q [] = false
ends_told q (Says entry ∷ told) = is_end q entry || ends_told q told
ends_told q (Sends packet ∷ told) = ends_told q told

pub ends-append : (q : CallId) (a b : List Told) → ends_told q (a ++ b) ≡ ends_told q a || ends_told q b
ends-append q [] b = refl
ends-append q (Says entry ∷ a) b = ap (λ x. is_end q entry || x) (ends-append q a b) ∙ or_assoc (is_end q entry) (ends_told q a) (ends_told q b) where
  or_assoc : (a b c : Bool) → (a || (b || c)) ≡ ((a || b) || c)
  or_assoc true b c = refl
  or_assoc false b c = refl
ends-append q (Sends p ∷ a) b = ends-append q a b

live_said : (v : View) (p : Sent) (what : Body) (m : Progress) (q : CallId) → get (said v p what m).live q ≡ get m.live q
live_said v p (body.Grant offset prio) m q = cond_both (is_server p.role) _ _ (λ (x : Progress). get x.live q ≡ get m.live q) (λ _. refl) (λ _. refl)
live_said v p (body.Resend from to prio) m q = cond_both (is_client p.role) _ _ (λ (x : Progress). get x.live q ≡ get m.live q) (λ _. refl) (λ _. refl)
live_said v p (body.Data size offset version service ack) m q =
    cond_both (is_client p.role && not (sent_last v p.id)) _ _ (λ (x : Progress). get x.live q ≡ get m.live q) (λ _. refl) (λ _. refl)
live_said v p body.Busy m q = refl
live_said v p (body.Cutoffs cutoffs) m q = refl
live_said v p (body.Unknown reason) m q = refl
live_said v p body.NeedAck m q = refl
live_said v p (body.Ack more) m q = refl

live_refused : (v : View) (host : HostId) (id q : CallId) → IsLevel v → get (refused v host id).now.live q ≡ get v.now.live q
live_refused v host id q k = cond_both (is_delivery_to v host id) _ _ (λ (u : View). get u.now.live q ≡ get v.now.live q) (λ _. k.live q) (λ _. refl)

live_failed : (v : View) (id q : CallId) (why : Why) → get (failed v id why).now.live q ≡ cond (is_call q id) None (get v.now.live q)
live_failed v id q Timeout = get-gone v.now.live id q
live_failed v id q Forgotten = get-gone v.now.live id q

taken_live : (v : View) (line : PlainEntry) (q : CallId) → IsTaken line → IsLevel v
    → get (seen v line).now.live q ≡ cond (is_end q line) None (get v.now.live q)
unfolding seen
taken_live v (PlainRun host id service request response hold) q taken k = refl
taken_live v (PlainSend number from to inc role id level what payload) q taken k =
    live_said v (record { from = from; to = to; inc = inc; role = role; id = id; body = what; payload = payload }) what v.now q
taken_live v (PlainDone id bytes) q taken k = get-gone v.now.live id q
taken_live v (PlainFail id why) q taken k = live_failed v id q why
taken_live v (PlainDrop host id) q taken k = cond_both (is_server_of v id host) _ _ (λ (x : Progress). get x.live q ≡ get v.now.live q) (λ _. refl) (λ _. refl)
taken_live v (PlainGaps host id) q taken k = live_refused v host id q k
taken_live v (PlainBury host id until) q taken k = refl
taken_live v (PlainFree host id) q taken k = refl
taken_live v (PlainFullRows host id rows limit) q taken k = live_refused v host id q k
taken_live v (PlainFullPages host id need free) q taken k = live_refused v host id q k
taken_live v (PlainBalance host cutoffs) q taken k = refl
taken_live v (PlainJunk host) q taken k = refl
taken_live v line q taken k = absurd taken

-- behind what a move tells, those calls are live that were and that it doesn't end
pub told_live : (v : View) (n : ℕ) (told : List Told) (q : CallId) → AllUnstale told → IsLevel v
    → get (seen_all v (entries_from n told)).now.live q ≡ cond (ends_told q told) None (get v.now.live q)
told_live v n [] q said k = refl
told_live v n (Says entry ∷ told) q said k =
    told_live (seen v entry) n told q said.1 (taken_level v entry (unstale_taken entry said.0) k) ∙ ap (λ o. cond (ends_told q told) None o)
    (taken_live v entry q (unstale_taken entry said.0) k)
    ∙ join (is_end q entry) (ends_told q told) where
      join : (a b : Bool) → cond b None (cond a None (get v.now.live q)) ≡ cond (a || b) None (get v.now.live q)
      join true true = refl
      join true false = refl
      join false true = refl
      join false false = refl
told_live v n (Sends packet ∷ told) q said k =
    told_live (seen v (send_line n packet)) (suc n) told q said (taken_level v (send_line n packet) tt k) ∙ ap (λ o. cond (ends_told q told) None o)
    (taken_live v (send_line n packet) q tt k)

-- ---- the lines of an event

pub inject_level : (v : View) (host : HostId) (bytes : List ℕ) → IsLevel (seen v (PlainInject host bytes))
unfolding seen
inject_level v host bytes = record { came = refl; live = λ q. refl; resends = λ q. refl; requests = λ q o. refl; responses = λ q o. refl }

pub call_level : (v : View) (id : CallId) (server : HostId) (service : ℕ) (request : List ℕ) → IsLevel (seen v (PlainCall id server service request))
unfolding seen
call_level v id server service request = record { came = refl; live = λ q. refl; resends = λ q. refl; requests = λ q o. refl; responses = λ q o. refl }
