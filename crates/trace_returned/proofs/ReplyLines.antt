-- What a call answered in a life of its server stays what it answered, whatever line comes, where once holds.
use Rattle.std.proofs.Common.{◌≡◌, ℕ, zero, suc, Bool, true, false, ◌&&◌, ◌||◌, Option, Some, None, List, [], ◌∷◌, ◌++◌, cond, refl, sym, ap, ◌∙◌}
use Rattle.std.specs.Prelude.{◌==◌, not, map, filter, slice_get, unwrap_or, is_some}
use Rattle.std.specs.List.{AllByRecursion, list_any}
use Rattle.std.specs.Ordering.{nat_cmp, eq_by_cmp}
use Rattle.std.specs.Cmp.{nat_cmp_total}
use Rattle.std.proofs.lemmas.Bool.{cond_both, and_parts, eqb-true, false≢true, true≢false}
use Rattle.plain_sets.specs.Maps.{Map, get, insert, contains_key}
use Rattle.plain_sets.proofs.MapLaws.{get-insert}
use Rattle.homa_plain.specs.declared.id.CallId.{CallId}
use Rattle.homa_plain.specs.declared.id.HostId.{HostId}
use Rattle.homa_plain.specs.declared.entry.Why.{Why}
use Rattle.homa_plain.specs.declared.entry.Why.TheVariants.{Timeout, Forgotten}
use Rattle.homa_plain.specs.declared.packet.Body.{Body}
use Rattle.homa_plain.specs.declared.packet.Role.{Role}
use Rattle.homa_plain.specs.Calls.{is_host, is_call}
use Rattle.homa_plain.specs.Entries.{PlainEntry, PlainDeliver, PlainRestart, PlainSend, PlainRun, PlainFail, PlainGaps, PlainFullRows, PlainFullPages}
use Rattle.homa_plain.specs.Entries.{PlainRecv}
use Rattle.trace_rules.specs.View.{View, Ran, Sent, has_run, life, restarts_of, incarnation}
use Rattle.trace_rules.specs.Seen.{seen, seen_all, refused, failed, is_delivery_to, delivered, delivery, begun, with_first}
use Rattle.trace_rules.specs.Laws.{Holds, Once}
use Rattle.homa_plain.specs.World.{SentPacket}
use Rattle.homa_plain.proofs.CallOrder.{calls_are, hosts_are}
use Rattle.trace_steps.proofs.Runs.{IsUnrun, unrun_same}
use Rattle.trace_steps.proofs.Lives.{same_number, restarts_at}
use Rattle.homa_plain.specs.declared.packet.Role.TheVariants.{Client, Server}
use Rattle.homa_plain.specs.declared.packet.Body.TheVariants as body
use Rattle.trace_returned.specs.Tales.{IsReplyOf, RepliesTo, CarriesReply, IsTruthful}

-- what passes no test is in no list of what passes
pub none_pass : {A : Type 0} (p : A → Bool) (xs : List A) → list_any p xs ≡ false → filter p xs ≡ []
none_pass p [] e = refl
none_pass p (x ∷ xs) e = by_test (p x) refl e (none_pass p xs) where
  by_test : (b : Bool) → p x ≡ b → (b || list_any p xs) ≡ false → (list_any p xs ≡ false → filter p xs ≡ []) → filter p (x ∷ xs) ≡ []
  by_test true f e rest = absurd (true≢false e)
  by_test false f e rest = ap (λ b. cond b (x ∷ filter p xs) (filter p xs)) f ∙ rest e

nil_cons : {A : Type 0} (x : A) (xs : List A) → [] ≡ x ∷ xs → ⊥
nil_cons x xs e = cc

-- ---- incarnations that were told stay told

-- first ones
firsts_refused : (v : View) (host : HostId) (id : CallId) → (refused v host id).firsts ≡ v.firsts
firsts_refused v host id = cond_both (is_delivery_to v host id) _ _ (λ (u : View). u.firsts ≡ v.firsts) (λ _. refl) (λ _. refl)

firsts_failed : (v : View) (id : CallId) (why : Why) → (failed v id why).firsts ≡ v.firsts
firsts_failed v id Timeout = refl
firsts_failed v id Forgotten = refl

firsts_delivered : (v : View) (o : Option Sent) → (delivered (begun v) o).firsts ≡ v.firsts
firsts_delivered v None = refl
firsts_delivered v (Some p) = refl

-- a line that is of no packet leaves them
abbrev IsUnsent : PlainEntry → Type 0
IsUnsent (PlainSend number from to inc role id level what payload) = ⊥
IsUnsent line = Unit {0}

firsts_line : (v : View) (line : PlainEntry) → IsUnsent line → (seen v line).firsts ≡ v.firsts
unfolding seen
firsts_line v (PlainSend number from to inc role id level what payload) e = absurd e
firsts_line v (PlainFail id why) e = firsts_failed v id why
firsts_line v (PlainGaps host id) e = firsts_refused v host id
firsts_line v (PlainFullRows host id rows limit) e = firsts_refused v host id
firsts_line v (PlainFullPages host id need free) e = firsts_refused v host id
firsts_line v (PlainDeliver n) e = firsts_delivered v (delivery (begun v) (PlainDeliver n))
firsts_line v (PlainRecv host from bytes) e = firsts_delivered v (delivery (begun v) (PlainRecv host from bytes))
firsts_line v line e = refl

-- the first packet of a host tells one, but not where one was told
first_stays : (v : View) (p : Sent) (host : HostId) (inc : ℕ) → get v.firsts host.0 ≡ Some inc → get (with_first v p) host.0 ≡ Some inc
first_stays v p host inc e =
    cond_both (life v p.from == 0 && not (contains_key v.firsts p.from.0)) _ _ (λ (m : Map nat_cmp ℕ). get m host.0 ≡ Some inc) new (λ _. e) where
      new : (life v p.from == 0 && not (contains_key v.firsts p.from.0)) ≡ true → get (insert v.firsts p.from.0 p.inc) host.0 ≡ Some inc
      new t = get-insert nat_cmp_total v.firsts p.from.0 p.inc host.0 ∙ by_key (eq_by_cmp nat_cmp host.0 p.from.0) refl where
        untold : not (contains_key v.firsts p.from.0) ≡ true
        untold = (and_parts (life v p.from == 0) (not (contains_key v.firsts p.from.0)) t).1

        by_key : (b : Bool) → eq_by_cmp nat_cmp host.0 p.from.0 ≡ b → cond b (Some p.inc) (get v.firsts host.0) ≡ Some inc
        by_key false f = e
        by_key true f = absurd (false≢true (ap (λ o. not (is_some o)) (sym e ∙ ap (get v.firsts) (same_number host.0 p.from.0 f)) ∙ untold))

get_front : (xs ys : List ℕ) (i x : ℕ) → slice_get xs i ≡ Some x → slice_get (xs ++ ys) i ≡ Some x
get_front [] ys i x e = cc
get_front (y ∷ xs) ys zero x e = e
get_front (y ∷ xs) ys (suc i) x e = get_front xs ys i x e

-- a restart tells one more
restart_stays : (v : View) (host : HostId) (inc : ℕ) (n : HostId) (i x : ℕ) → slice_get (restarts_of v n) i ≡ Some x
    → slice_get (restarts_of (seen v (PlainRestart host inc)) n) i ≡ Some x
restart_stays v host inc n i x e = by_key (eq_by_cmp nat_cmp n.0 host.0) refl where
  by_key : (b : Bool) → eq_by_cmp nat_cmp n.0 host.0 ≡ b → slice_get (restarts_of (seen v (PlainRestart host inc)) n) i ≡ Some x
  by_key true f =
      ap (λ xs. slice_get xs i) (restarts_at v host inc n true f)
      ∙ get_front (restarts_of v host) (inc ∷ []) i x (ap (λ (k : ℕ). slice_get (unwrap_or (get v.restarts k) []) i) (sym (same_number n.0 host.0 f)) ∙ e)
  by_key false f = ap (λ xs. slice_get xs i) (restarts_at v host inc n false f) ∙ e

-- ---- lines

incarnation_same : (v u : View) (host : HostId) (n : ℕ) → u.firsts ≡ v.firsts → u.restarts ≡ v.restarts → incarnation u host n ≡ incarnation v host n
incarnation_same v u host zero f r = ap (λ (m : Map nat_cmp ℕ). get m host.0) f
incarnation_same v u host (suc n) f r = ap (λ (m : Map nat_cmp (List ℕ)). slice_get (unwrap_or (get m host.0) []) n) r

module _ (v : View) (q : CallId) (server : HostId) (inc : ℕ) (response : List ℕ) (k : IsReplyOf v q server inc response) where
  unsent_reply : (line : PlainEntry) → IsUnrun line → IsUnsent line → IsReplyOf (seen v line) q server inc response
  unsent_reply line quiet unsent =
      let same = unrun_same v line quiet in
      record {
        life = k.life;
        told = incarnation_same v (seen v line) server k.life (firsts_line v line unsent) same.restarts ∙ k.told;
        gave = ap (λ (rs : List Ran). map (λ (r : Ran). r.response)
            (filter (λ (r : Ran). is_call r.id q && is_host r.host server && r.life == k.life) rs)) same.runs ∙ k.gave;
      }

  send_reply : (number : ℕ) (from to : HostId) (inc' : ℕ) (role : Role) (id : CallId) (level : ℕ) (what : Body) (payload : List ℕ)
      → IsReplyOf (seen v (PlainSend number from to inc' role id level what payload)) q server inc response
  unfolding seen
  send_reply number from to inc' role id level what payload = record { life = k.life; told = by_life k.life k.told; gave = k.gave } where
    by_life : (n : ℕ) → incarnation v server n ≡ Some inc → incarnation (seen v (PlainSend number from to inc' role id level what payload)) server n ≡ Some inc
    by_life zero e = first_stays v (record { from = from; to = to; inc = inc'; role = role; id = id; body = what; payload = payload }) server inc e
    by_life (suc n) e = e

  restart_reply : (host : HostId) (inc' : ℕ) → IsReplyOf (seen v (PlainRestart host inc')) q server inc response
  unfolding seen
  restart_reply host inc' = record { life = k.life; told = by_life k.life k.told; gave = k.gave } where
    by_life : (n : ℕ) → incarnation v server n ≡ Some inc → incarnation (seen v (PlainRestart host inc')) server n ≡ Some inc
    by_life zero e = e
    by_life (suc n) e = restart_stays v host inc' server n inc e

  -- a run is another call's, or another life's, since once holds
  run_reply : (host : HostId) (id : CallId) (service : ℕ) (request given : List ℕ) (hold : ℕ) → has_run v host id ≡ false
      → IsReplyOf (seen v (PlainRun host id service request given hold)) q server inc response
  unfolding seen
  run_reply host id service request given hold unrun =
      record { life = k.life; told = by_life k.life k.told; gave = ap (λ b. map (λ (r : Ran). r.response) (cond b (new ∷ old) old)) other ∙ k.gave } where
        new : Ran
        new = record { host = host; life = life v host; id = id; response = given }

        passes : Ran → Bool
        passes r = is_call r.id q && is_host r.host server && r.life == k.life

        old : List Ran
        old = filter (λ (r : Ran). is_call r.id q && is_host r.host server && r.life == k.life) v.runs

        by_life : (n : ℕ) → incarnation v server n ≡ Some inc → incarnation (seen v (PlainRun host id service request given hold)) server n ≡ Some inc
        by_life zero e = e
        by_life (suc n) e = e

        other : (is_call id q && is_host host server && life v host == k.life) ≡ false
        other = by_test (is_call id q && is_host host server && life v host == k.life) refl where
          by_test : (b : Bool) → (is_call id q && is_host host server && life v host == k.life) ≡ b → b ≡ false
          by_test false e = refl
          by_test true e =
              let first = and_parts (is_call id q && is_host host server) (life v host == k.life) e in
              let both = and_parts (is_call id q) (is_host host server) first.0 in
              let same_call : id ≡ q = (calls_are id q).0 both.0 in
              let same_host : host ≡ server = (hosts_are host server).0 both.1 in
              let same_life : life v server ≡ k.life = ap (life v) (sym same_host) ∙ eqb-true (life v host) k.life first.1 in
              let none : has_run v server q ≡ false =
              ap (λ (x : HostId). has_run v x q) (sym same_host) ∙ ap (λ (x : CallId). has_run v host x) (sym same_call) ∙ unrun in
              let gone = none_pass (λ (r : Ran). is_call r.id q && is_host r.host server && r.life == life v server) v.runs none in
              absurd (nil_cons response []
              (sym (ap (λ (n : ℕ). map (λ (r : Ran). r.response) (filter (λ (r : Ran). is_call r.id q && is_host r.host server && r.life == n) v.runs))
              (sym same_life) ∙ ap (map (λ (r : Ran). r.response)) gone) ∙ k.gave))

  pub line_reply : (line : PlainEntry) → Once v line → IsReplyOf (seen v line) q server inc response
  line_reply (PlainRun host id service request given hold) once = run_reply host id service request given hold once.0
  line_reply (PlainRestart host inc') once = restart_reply host inc'
  line_reply (PlainSend number from to inc' role id level what payload) once = send_reply number from to inc' role id level what payload
  line_reply line once = unsent_reply line tt tt

pub lines_reply : (v : View) (lines : List PlainEntry) (q : CallId) (server : HostId) (inc : ℕ) (response : List ℕ) → Holds Once v lines
    → IsReplyOf v q server inc response → IsReplyOf (seen_all v lines) q server inc response
lines_reply v [] q server inc response once k = k
lines_reply v (line ∷ lines) q server inc response once k =
    lines_reply (seen v line) lines q server inc response once.1 (line_reply v q server inc response k line once.0)

-- so packets stay truthful
pub lines_truthful : (v : View) (lines : List PlainEntry) → Holds Once v lines → (ps : List SentPacket) → AllByRecursion (IsTruthful v) ps
    → AllByRecursion (IsTruthful (seen_all v lines)) ps
lines_truthful v lines once [] all = tt
lines_truthful v lines once (p ∷ ps) all = (by_role p.packet.role all.0, lines_truthful v lines once ps all.1) where
  by_body : (what : Body) → RepliesTo v p.packet.id p.packet.server p.packet.inc what p.packet.payload
      → RepliesTo (seen_all v lines) p.packet.id p.packet.server p.packet.inc what p.packet.payload
  by_body (body.Data size offset version service ack) f = (f.0, lines_reply v lines p.packet.id p.packet.server p.packet.inc f.0 once f.1, f.2)
  by_body other f = tt

  by_role : (role : Role) → CarriesReply v role p.packet.id p.packet.server p.packet.inc p.packet.body p.packet.payload
      → CarriesReply (seen_all v lines) role p.packet.id p.packet.server p.packet.inc p.packet.body p.packet.payload
  by_role Client f = tt
  by_role Server f = by_body p.packet.body f
