-- The runs of a call.
use Rattle.std.proofs.Common.{◌≡◌, ℕ, zero, suc, Bool, true, false, not, ◌&&◌, ◌||◌, Option, Some, None, List, [], ◌∷◌, length, map, filter, refl}
use Rattle.std.proofs.Common.{sym, ap, ◌∙◌, subst}
use Rattle.std.specs.Prelude.{◌==◌, if◌then◌else◌, option_and_then, slice_get}
use Rattle.std.specs.Option.{option_map_or}
use Rattle.std.specs.List.{list_any}
use Rattle.std.specs.Str.{bytes_eq}
use Rattle.std.proofs.lemmas.Bool.{eq-eqb}
use Rattle.plain_sets.specs.Maps.{get}
use Rattle.homa_plain.specs.declared.id.CallId.{CallId}
use Rattle.homa_plain.specs.declared.id.HostId.{HostId}
use Rattle.homa_plain.specs.Calls.{is_host}
use Rattle.trace_rules.specs.View.{Called, Ran, View, life, incarnation, is_server_of, has_run}
use Rattle.trace_rules.specs.Laws.{answers}
use Rattle.trace_rules.specs.Judge as tests
use Rattle.check_call.specs.LeftOut.{is_here, is_in}
use Rattle.check_call.proofs.Lean.{run_here, answers_of}
use Rattle.check_call.specs.declared.call.Call.{Call}
use Rattle.check_call.specs.declared.call.Run.{Run}
use Rattle.check_lines.specs.declared.host.Host.{Host}
use Rattle.check_lines.specs.declared.trace.Trace.{Trace}
use Rattle.check_call.specs.Calls.{ran_in}
use Rattle.check_lines.specs.Traces.{Keeps, IsKept, IsCallAt, IsAbsent, call_at, host_at, run_of, first_of, restarts_in, life_in, incarnation_in}
use Rattle.check_lines.specs.Traces.{is_answer_in, kept_or}

-- what is kept of a call that was found
pub kept_at : (v : View) (t : Trace) (q : CallId) (c : Call) → Keeps v t → call_at t q ≡ Some c → IsKept v q c
kept_at v t q c f e = subst (IsCallAt v q) e (f.calls q)

pub absent_at : (v : View) (t : Trace) (q : CallId) → Keeps v t → call_at t q ≡ None → IsAbsent v q
absent_at v t q f e = subst (IsCallAt v q) e (f.calls q)

pub life_is : (v : View) (t : Trace) (h : HostId) → Keeps v t → life_in t h ≡ life v h
life_is v t h f = sym (ap length ((f.hosts h).restarts))

-- ---- the lives of runs

first_is : (o : Option Host) → option_and_then (λ h. h.first) o ≡ first_of o
first_is None = refl
first_is (Some h) = refl

restart_is : (o : Option Host) (n : ℕ) → option_and_then (λ h. slice_get h.restarts.items n) o ≡ slice_get (restarts_in o) n
restart_is None n = refl
restart_is (Some h) n = refl

pub incarnation_is : (v : View) (t : Trace) (h : HostId) (n : ℕ) → Keeps v t → incarnation_in t h n ≡ incarnation v h n
incarnation_is v t h zero f = first_is (host_at t h) ∙ sym (f.hosts h).first
incarnation_is v t h (suc n) f = restart_is (host_at t h) n ∙ ap (λ rs. slice_get rs n) (sym (f.hosts h).restarts)

server_is : (v : View) (q : CallId) (c : Call) → IsKept v q c → is_server_of v q c.server ≡ true
server_is v q c k = ap (λ (o : Option Called). option_map_or (λ x. is_host x.server c.server) o false) k.called ∙ eq-eqb c.server.0 c.server.0 refl

-- ---- answers

any_step : (a b rest : Bool) (bytes response : List ℕ) (xs : List (List ℕ)) → b ≡ bytes_eq bytes response → rest ≡ list_any (bytes_eq bytes) xs
    → ((a && b) || rest) ≡ list_any (bytes_eq bytes) (if a then response ∷ xs else xs)
any_step true b rest bytes response xs e f = ap (λ x. x || rest) e ∙ ap (λ x. bytes_eq bytes response || x) f
any_step false b rest bytes response xs e f = f

filter_step : (a : Bool) (r : Ran) (rs : List Ran)
    → map (λ (x : Ran). x.response) (if a then r ∷ rs else rs) ≡ (if a then r.response ∷ map (λ (x : Ran). x.response) rs else map (λ (x : Ran). x.response) rs)
filter_step true r rs = refl
filter_step false r rs = refl

any_answers : (v : View) (t : Trace) (q : CallId) (c : Call) (inc : ℕ) (bytes : List ℕ) → Keeps v t → IsKept v q c → (rs : List Run)
    → list_any (is_answer_in t c.server c.request.items inc bytes) rs ≡ list_any (bytes_eq bytes)
    (map (λ (x : Ran). x.response) (filter (is_in v q inc) (map (run_of q c.server c.request.items) rs)))
any_answers v t q c inc bytes f k [] = refl
any_answers v t q c inc bytes f k (r ∷ rs) =
    let here : option_map_or (λ i. i == inc) (incarnation_in t c.server r.life) false ≡ is_in v q inc (run_of q c.server c.request.items r) =
    ap (λ (o : Option ℕ). option_map_or (λ i. i == inc) o false) (incarnation_is v t c.server r.life f)
    ∙ sym (ap (λ b. b && option_map_or (λ i. i == inc) (incarnation v c.server r.life) false) (server_is v q c k)) in
    ap (λ b. (b && bytes_eq bytes (kept_or c.request.items r.response)) || list_any (is_answer_in t c.server c.request.items inc bytes) rs) here
    ∙ (any_step (is_in v q inc (run_of q c.server c.request.items r)) (bytes_eq bytes (kept_or c.request.items r.response))
    (list_any (is_answer_in t c.server c.request.items inc bytes) rs) bytes
    (kept_or c.request.items r.response) (map (λ (x : Ran). x.response) (filter (is_in v q inc) (map (run_of q c.server c.request.items) rs))) refl
    (any_answers v t q c inc bytes f k rs)
    ∙ ap (list_any (bytes_eq bytes))
    (sym (filter_step (is_in v q inc (run_of q c.server c.request.items r)) (run_of q c.server c.request.items r)
    (filter (is_in v q inc) (map (run_of q c.server c.request.items) rs)))))

pub answers_is : (v : View) (t : Trace) (q : CallId) (c : Call) (inc : ℕ) (bytes : List ℕ) → Keeps v t → call_at t q ≡ Some c
    → list_any (is_answer_in t c.server c.request.items inc bytes) c.runs.items ≡ list_any (bytes_eq bytes) (answers v q inc)
answers_is v t q c inc bytes f e =
    let k = kept_at v t q c f e in
    any_answers v t q c inc bytes f k c.runs.items
    ∙ ap (list_any (bytes_eq bytes)) (ap (λ rs. map (λ (x : Ran). x.response) (filter (is_in v q inc) rs)) (sym k.runs) ∙ sym (answers_of v q inc))

pub no_answers : (v : View) (t : Trace) (q : CallId) (inc : ℕ) (bytes : List ℕ) → Keeps v t → call_at t q ≡ None
    → false ≡ list_any (bytes_eq bytes) (answers v q inc)
no_answers v t q inc bytes f e =
    let k = absent_at v t q f e in
    sym (ap (list_any (bytes_eq bytes)) (answers_of v q inc ∙ ap (λ rs. map (λ (x : Ran). x.response) (filter (is_in v q inc) rs)) k.runs))

-- ---- runs in this life

any_here : (q : CallId) (server host : HostId) (request : List ℕ) (n : ℕ) (b : Bool) → is_host server host ≡ b → (rs : List Run)
    → list_any (is_here host n) (map (run_of q server request) rs) ≡ (b && list_any (λ r. r.life == n) rs)
any_here q server host request n true e [] = refl
any_here q server host request n false e [] = refl
any_here q server host request n true e (r ∷ rs) = ap (λ x. (x && (r.life == n)) || list_any (is_here host n) (map (run_of q server request) rs)) e
    ∙ ap (λ x. (r.life == n) || x) (any_here q server host request n true e rs)
any_here q server host request n false e (r ∷ rs) =
    ap (λ x. (x && (r.life == n)) || list_any (is_here host n) (map (run_of q server request) rs)) e ∙ any_here q server host request n false e rs

pub ran_is : (v : View) (t : Trace) (q : CallId) (c : Call) (host : HostId) → Keeps v t → IsKept v q c
    → has_run v host q ≡ (is_host c.server host && ran_in c (life_in t host))
ran_is v t q c host f k =
    run_here v host q
    ∙ (ap (list_any (is_here host (life v host))) k.runs ∙ (any_here q c.server host c.request.items (life v host) (is_host c.server host) refl c.runs.items
    ∙ ap (λ n. is_host c.server host && ran_in c n) (sym (life_is v t host f))))

both_ways : (h r s b x : Bool) → x ≡ (h && r) → ((h && not r) && (s && b)) ≡ (not x && ((h && s) && b))
both_ways true true s b x e = sym (ap (λ y. not y && ((true && s) && b)) e)
both_ways true false s b x e = sym (ap (λ y. not y && ((true && s) && b)) e)
both_ways false r s b x e = sym (ap (λ y. not y && ((false && s) && b)) e)

-- whether a run may stand here
pub once_is : (v : View) (t : Trace) (q : CallId) (c : Call) (host : HostId) (service : ℕ) (request : List ℕ) → Keeps v t → call_at t q ≡ Some c
    → ((is_host c.server host && not (ran_in c (life_in t host))) && ((c.service == service) && bytes_eq c.request.items request))
    ≡ (not (has_run v host q) && option_map_or (tests.is_called host service request) (get v.calls q) false)
once_is v t q c host service request f e =
    let k = kept_at v t q c f e in
    both_ways (is_host c.server host) (ran_in c (life_in t host)) (c.service == service) (bytes_eq c.request.items request) (has_run v host q)
    (ran_is v t q c host f k)
    ∙ ap (λ (o : Option Called). not (has_run v host q) && option_map_or (tests.is_called host service request) o false) (sym k.called)

-- one test behind another
pub and_then : (m r a b : Bool) → m ≡ a → m ≡ true → r ≡ b → r ≡ (a && b)
and_then m r a b e t f = f ∙ ap (λ x. x && b) (sym t ∙ e)

pub and_else : (m a b : Bool) → m ≡ a → m ≡ false → m ≡ (a && b)
and_else m a b e t = t ∙ ap (λ x. x && b) (sym t ∙ e)
