-- What lines within a step say of what has arrived: the parts of a call that they don't speak of stay, and what each kind of line does to its call's.
use Rattle.std.proofs.Common.{◌≡◌, ℕ, suc, Bool, true, false, not, ◌&&◌, Option, Some, None, List, [], ◌∷◌, ◌++◌, cond, refl, sym, ap, ◌∙◌}
use Rattle.std.specs.Option.{option_map, option_map_or}
use Rattle.std.proofs.lemmas.Bool.{cond_both, and_parts, true≢false, false_from_ne_true}
use Rattle.plain_sets.specs.Maps.{Map, get, remove}
use Rattle.homa_plain.specs.declared.id.CallId.{CallId}
use Rattle.homa_plain.specs.declared.id.HostId.{HostId}
use Rattle.homa_plain.specs.declared.packet.Role.{Role}
use Rattle.homa_plain.specs.declared.packet.Role.TheVariants.{Client, Server}
use Rattle.homa_plain.specs.declared.packet.Body.{Body}
use Rattle.homa_plain.specs.declared.packet.Body.TheVariants as body
use Rattle.homa_plain.specs.declared.entry.Why.{Why}
use Rattle.homa_plain.specs.declared.entry.Why.TheVariants.{Timeout, Forgotten}
use Rattle.homa_plain.specs.Wire.{is_client, is_server}
use Rattle.homa_plain.specs.Calls.{is_host, is_call, call_cmp}
use Rattle.homa_plain.specs.Entries.{PlainEntry, PlainRun, PlainDone, PlainFail, PlainDrop, PlainGaps, PlainBury, PlainFree, PlainFullRows}
use Rattle.homa_plain.specs.Entries.{PlainFullPages, PlainBalance, PlainJunk}
use Rattle.homa_plain.specs.Packets.{Packet, send_line, sender, receiver}
use Rattle.homa_plain.specs.Host.{Told, Says, Sends, entries_from}
use Rattle.trace_rules.specs.Parts.{raised, changed}
use Rattle.trace_rules.specs.View.{View, Sent, Progress, is_server_of, sent_last}
use Rattle.trace_rules.specs.Seen.{seen, seen_all, refused, failed, finished, dropped, said, is_delivery_to}
use Rattle.homa_plain.proofs.CallOrder.{calls_are}
use Rattle.trace_steps.specs.Told.{sent_of}
use Rattle.trace_steps.proofs.Progress.{get-gone, get-changed, is_of, IsLevel, IsUnstale, AllUnstale, unstale_taken, taken_level}

-- the parts of a call
pub record SameParts (q : CallId) (m n : Progress) : Type 0 where
  pub requests : get n.requests q ≡ get m.requests q
  pub responses : get n.responses q ≡ get m.responses q

parts_itself : (q : CallId) (m : Progress) → SameParts q m m
parts_itself q m = record { requests = refl; responses = refl }

pub parts_then : (q : CallId) (m n o : Progress) → SameParts q m n → SameParts q n o → SameParts q m o
parts_then q m n o a b = record { requests = b.requests ∙ a.requests; responses = b.responses ∙ a.responses }

-- a line doesn't speak of what has arrived of a call
abbrev pub IsAside : CallId → PlainEntry → Type 0
IsAside q (PlainDone id bytes) = is_call q id ≡ false
IsAside q (PlainFail id why) = is_call q id ≡ false
IsAside q (PlainDrop host id) = is_call q id ≡ false
IsAside q (PlainGaps host id) = is_call q id ≡ false
IsAside q (PlainFullRows host id rows limit) = is_call q id ≡ false
IsAside q (PlainFullPages host id need free) = is_call q id ≡ false
IsAside q line = Unit {0}

-- nor does a packet, but a GRANT
abbrev pub is_grant : Body → Bool
is_grant (body.Grant offset prio) = true
is_grant what = false

abbrev pub AllAside : CallId → List Told → Type 0
AllAside q [] = Unit {0}
AllAside q (Says entry ∷ told) = IsAside q entry × AllAside q told
AllAside q (Sends p ∷ told) = ((is_call q p.id && is_grant p.body) ≡ false) × AllAside q told

pub aside-append : (q : CallId) (a b : List Told) → AllAside q a → AllAside q b → AllAside q (a ++ b)
aside-append q [] b x y = y
aside-append q (Says entry ∷ a) b x y = (x.0, aside-append q a b x.1 y)
aside-append q (Sends packet ∷ a) b x y = (x.0, aside-append q a b x.1 y)

-- ---- each kind of line

gone_aside : {X : Type 0} (m : Map call_cmp X) (id q : CallId) → is_call q id ≡ false → get (remove m id) q ≡ get m q
gone_aside m id q e = get-gone m id q ∙ ap (λ b. cond b None (get m q)) e

finished_aside : (id q : CallId) (m : Progress) → is_call q id ≡ false → SameParts q m (finished id m)
finished_aside id q m e = record { requests = refl; responses = gone_aside m.responses id q e }

failed_aside : (v : View) (id q : CallId) (why : Why) → is_call q id ≡ false → SameParts q v.now (failed v id why).now
failed_aside v id q Timeout e = finished_aside id q v.now e
failed_aside v id q Forgotten e = finished_aside id q v.now e

-- the refusal of another call's delivery
refused_aside : (v : View) (host : HostId) (id q : CallId) → is_call q id ≡ false → IsLevel v → SameParts q v.now (refused v host id).now
refused_aside v host id q e k = by_test (is_delivery_to v host id) refl where
  other : is_delivery_to v host id ≡ true → is_of v.now q ≡ false
  other t = by_packet v.now.came t where
    by_packet : (o : Option Sent) → option_map_or (λ p. is_call p.id id && is_host p.to host) o false ≡ true
        → option_map_or (λ (p : Sent). is_call p.id q) o false ≡ false
    by_packet None t = refl
    by_packet (Some p) t =
        let mine : p.id ≡ id = (calls_are p.id id).0 (and_parts (is_call p.id id) (is_host p.to host) t).0 in
        false_from_ne_true (is_call p.id q) (λ s. true≢false (sym ((calls_are q id).1 (sym ((calls_are p.id q).0 s) ∙ mine)) ∙ e))

  by_test : (b : Bool) → is_delivery_to v host id ≡ b → SameParts q v.now (cond b (record v { now = v.if_refused }) v).now
  by_test false t = parts_itself q v.now
  by_test true t = record { requests = k.requests q (other t); responses = k.responses q (other t) }

said_aside : (v : View) (p : Sent) (what : Body) (m : Progress) (q : CallId) → (is_call q p.id && is_grant what) ≡ false → SameParts q m (said v p what m)
said_aside v p (body.Grant offset prio) m q e = by_role (is_server p.role) where
  off : is_call q p.id ≡ false
  off = by_test (is_call q p.id) e where
    by_test : (b : Bool) → (b && true) ≡ false → b ≡ false
    by_test true e = e
    by_test false e = refl

  by_role : (b : Bool)
      → SameParts q m
      (cond b (record m { requests = changed (raised p.from p.to offset) m.requests p.id })
      (record m { responses = changed (raised p.from p.to offset) m.responses p.id }))
  by_role true = record {
    requests = get-changed (raised p.from p.to offset) m.requests p.id q
        ∙ ap (λ b. cond b (option_map (raised p.from p.to offset) (get m.requests q)) (get m.requests q)) off;
    responses = refl;
  }
  by_role false =
      record {
        requests = refl;
        responses = get-changed (raised p.from p.to offset) m.responses p.id q
            ∙ ap (λ b. cond b (option_map (raised p.from p.to offset) (get m.responses q)) (get m.responses q)) off;
      }
said_aside v p (body.Resend from to prio) m q e =
    cond_both (is_client p.role) _ _ (SameParts q m) (λ _. record { requests = refl; responses = refl }) (λ _. parts_itself q m)
said_aside v p (body.Data size offset version service ack) m q e =
    cond_both (is_client p.role && not (sent_last v p.id)) _ _ (SameParts q m) (λ _. record { requests = refl; responses = refl }) (λ _. parts_itself q m)
said_aside v p body.Busy m q e = parts_itself q m
said_aside v p (body.Cutoffs cutoffs) m q e = parts_itself q m
said_aside v p (body.Unknown reason) m q e = parts_itself q m
said_aside v p body.NeedAck m q e = parts_itself q m
said_aside v p (body.Ack more) m q e = parts_itself q m

dropped_aside : (v : View) (host : HostId) (id q : CallId) (m : Progress) → is_call q id ≡ false → SameParts q m (dropped v host id m)
dropped_aside v host id q m e =
    cond_both (is_server_of v id host) _ _ (SameParts q m) (λ _. record { requests = gone_aside m.requests id q e; responses = refl }) (λ _. parts_itself q m)

line_aside : (v : View) (line : PlainEntry) (q : CallId) → IsUnstale line → IsLevel v → IsAside q line → SameParts q v.now (seen v line).now
unfolding seen
line_aside v (PlainRun host id service request response hold) q taken k e = parts_itself q v.now
line_aside v (PlainDone id bytes) q taken k e = finished_aside id q v.now e
line_aside v (PlainFail id why) q taken k e = failed_aside v id q why e
line_aside v (PlainDrop host id) q taken k e = dropped_aside v host id q v.now e
line_aside v (PlainGaps host id) q taken k e = refused_aside v host id q e k
line_aside v (PlainBury host id until) q taken k e = parts_itself q v.now
line_aside v (PlainFree host id) q taken k e = parts_itself q v.now
line_aside v (PlainFullRows host id rows limit) q taken k e = refused_aside v host id q e k
line_aside v (PlainFullPages host id need free) q taken k e = refused_aside v host id q e k
line_aside v (PlainBalance host cutoffs) q taken k e = parts_itself q v.now
line_aside v (PlainJunk host) q taken k e = parts_itself q v.now
line_aside v line q taken k e = absurd taken

sent_aside : (v : View) (n : ℕ) (p : Packet) (q : CallId) → (is_call q p.id && is_grant p.body) ≡ false → SameParts q v.now (seen v (send_line n p)).now
unfolding seen
sent_aside v n p q e = said_aside v (sent_of p) p.body v.now q e

-- the parts of a call that a move doesn't speak of
pub told_parts : (v : View) (n : ℕ) (told : List Told) (q : CallId) → AllUnstale told → IsLevel v → AllAside q told
    → SameParts q v.now (seen_all v (entries_from n told)).now
told_parts v n [] q said k e = parts_itself q v.now
told_parts v n (Says entry ∷ told) q said k e =
    parts_then q v.now (seen v entry).now _ (line_aside v entry q said.0 k e.0)
    (told_parts (seen v entry) n told q said.1 (taken_level v entry (unstale_taken entry said.0) k) e.1)
told_parts v n (Sends p ∷ told) q said k e =
    parts_then q v.now (seen v (send_line n p)).now _ (sent_aside v n p q e.0)
    (told_parts (seen v (send_line n p)) (suc n) told q said (taken_level v (send_line n p) tt k) e.1)

-- ---- GRANTs

-- of a request
pub request_granted : (v : View) (n : ℕ) (p : Packet) (offset prio : ℕ) (q : CallId) → p.role ≡ Server → p.body ≡ body.Grant offset prio
    → (get (seen v (send_line n p)).now.requests q ≡ cond (is_call q p.id) (option_map (raised (sender p) (receiver p) offset) (get v.now.requests q))
    (get v.now.requests q)) × (get (seen v (send_line n p)).now.responses q ≡ get v.now.responses q)
unfolding seen
request_granted v n p offset prio q role what = (
  ap (λ (b : Body). get (said v (sent_of p) b v.now).requests q) what
      ∙ ap (λ (x : Role). get
      (cond (is_server x) (record v.now { requests = changed (raised (sender p) (receiver p) offset) v.now.requests p.id })
      (record v.now { responses = changed (raised (sender p) (receiver p) offset) v.now.responses p.id })).requests q) role
      ∙ get-changed (raised (sender p) (receiver p) offset) v.now.requests p.id q,
  ap (λ (b : Body). get (said v (sent_of p) b v.now).responses q) what
      ∙ ap (λ (x : Role). get
      (cond (is_server x) (record v.now { requests = changed (raised (sender p) (receiver p) offset) v.now.requests p.id })
      (record v.now { responses = changed (raised (sender p) (receiver p) offset) v.now.responses p.id })).responses q) role,
)

-- of a response
pub response_granted : (v : View) (n : ℕ) (p : Packet) (offset prio : ℕ) (q : CallId) → p.role ≡ Client → p.body ≡ body.Grant offset prio
    → (get (seen v (send_line n p)).now.responses q ≡ cond (is_call q p.id)
    (option_map (raised (sender p) (receiver p) offset) (get v.now.responses q)) (get v.now.responses q))
    × (get (seen v (send_line n p)).now.requests q ≡ get v.now.requests q)
unfolding seen
response_granted v n p offset prio q role what = (
  ap (λ (b : Body). get (said v (sent_of p) b v.now).responses q) what
      ∙ ap (λ (x : Role). get
      (cond (is_server x) (record v.now { requests = changed (raised (sender p) (receiver p) offset) v.now.requests p.id })
      (record v.now { responses = changed (raised (sender p) (receiver p) offset) v.now.responses p.id })).responses q) role
      ∙ get-changed (raised (sender p) (receiver p) offset) v.now.responses p.id q,
  ap (λ (b : Body). get (said v (sent_of p) b v.now).requests q) what
      ∙ ap (λ (x : Role). get
      (cond (is_server x) (record v.now { requests = changed (raised (sender p) (receiver p) offset) v.now.requests p.id })
      (record v.now { responses = changed (raised (sender p) (receiver p) offset) v.now.responses p.id })).requests q) role,
)

-- ---- requests that are given up, and calls that are done or failed

pub drop_line : (v : View) (host : HostId) (id q : CallId) → is_server_of v id host ≡ true
    → get (seen v (PlainDrop host id)).now.requests q ≡ cond (is_call q id) None (get v.now.requests q)
unfolding seen
drop_line v host id q e = ap (λ b. get (cond b (record v.now { requests = remove v.now.requests id }) v.now).requests q) e ∙ get-gone v.now.requests id q

pub done_line : (v : View) (id : CallId) (bytes : List ℕ) (q : CallId)
    → get (seen v (PlainDone id bytes)).now.responses q ≡ cond (is_call q id) None (get v.now.responses q)
unfolding seen
done_line v id bytes q = get-gone v.now.responses id q
