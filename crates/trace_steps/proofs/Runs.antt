-- Which calls ran, and in which lives of their hosts, by the lines that a step tells.
use Rattle.std.proofs.Common.{◌≡◌, ℕ, suc, ◌≤◌, Bool, true, false, ◌&&◌, ◌||◌, Option, Some, None, List, [], ◌∷◌, ◌++◌, length, refl, sym, ap, subst}
use Rattle.std.proofs.Common.{◌∙◌, arith}
use Rattle.std.specs.Prelude.{◌==◌, unwrap_or}
use Rattle.std.specs.List.{AllByRecursion, list_any}
use Rattle.std.specs.Ordering.{nat_cmp}
use Rattle.std.proofs.lemmas.Bool.{cond_both, eq-eqb}
use Rattle.plain_sets.specs.Maps.{Map, get}
use Rattle.homa_plain.specs.declared.id.CallId.{CallId}
use Rattle.homa_plain.specs.declared.id.HostId.{HostId}
use Rattle.homa_plain.specs.declared.entry.Why.{Why}
use Rattle.homa_plain.specs.declared.entry.Why.TheVariants.{Timeout, Forgotten}
use Rattle.homa_plain.specs.Calls.{is_host, is_call}
use Rattle.homa_plain.specs.Entries.{PlainEntry, PlainDeliver, PlainRestart, PlainJunk, PlainStale, PlainSend, PlainRun, PlainDone, PlainFail}
use Rattle.homa_plain.specs.Entries.{PlainDrop, PlainGaps, PlainBury, PlainFree, PlainFullRows, PlainFullPages, PlainBalance, PlainRecv}
use Rattle.homa_plain.specs.Packets.{send_line}
use Rattle.homa_plain.specs.Host.{Told, Says, Sends, entries_from}
use Rattle.trace_rules.specs.View.{View, Ran, Sent, has_run, life}
use Rattle.trace_rules.specs.Seen.{seen, seen_all, refused, failed, is_delivery_to, delivered, delivery, begun}
use Rattle.homa_plain.proofs.CallOrder.{hosts_are}
use Rattle.trace_steps.specs.Told.{AllLived}
use Rattle.step_moves.proofs.Inner.{said_inner, AllInner, IsSaid, IsInner}

-- ---- lines that say the same of who ran, and of who restarted

pub record SameRuns (v u : View) : Type 0 where
  pub runs : u.runs ≡ v.runs
  pub restarts : u.restarts ≡ v.restarts

pub ran_same : (v u : View) (h : HostId) (q : CallId) → SameRuns v u → has_run u h q ≡ has_run v h q
ran_same v u h q e =
    ap (λ (rs : List Ran). list_any (λ (r : Ran). is_call r.id q && is_host r.host h && r.life == life u h) rs) e.runs
    ∙ ap (λ (m : Map nat_cmp (List ℕ)). list_any (λ (r : Ran). is_call r.id q && is_host r.host h && r.life == length (unwrap_or (get m h.0) []))
    v.runs) e.restarts

pub lived_same : (v u : View) → SameRuns v u → AllLived v → AllLived u
lived_same v u e all =
    subst (λ (m : Map nat_cmp (List ℕ)). AllByRecursion (λ (r : Ran). r.life ≤ length (unwrap_or (get m r.host.0) [])) u.runs) (sym e.restarts)
    (subst (λ (rs : List Ran). AllByRecursion (λ (r : Ran). r.life ≤ life v r.host) rs) (sym e.runs) all)

same_refused : (v : View) (host : HostId) (id : CallId) → SameRuns v (refused v host id)
same_refused v host id =
    cond_both (is_delivery_to v host id) _ _ (SameRuns v) (λ _. record { runs = refl; restarts = refl }) (λ _. record { runs = refl; restarts = refl })

same_failed : (v : View) (id : CallId) (why : Why) → SameRuns v (failed v id why)
same_failed v id Timeout = record { runs = refl; restarts = refl }
same_failed v id Forgotten = record { runs = refl; restarts = refl }

-- each line but `run` and `restart` is one
abbrev pub IsUnrun : PlainEntry → Type 0
IsUnrun (PlainRun host id service request response hold) = ⊥
IsUnrun (PlainRestart host inc) = ⊥
IsUnrun line = Unit {0}

same_delivered : (v : View) (o : Option Sent) → SameRuns v (delivered (begun v) o)
same_delivered v None = record { runs = refl; restarts = refl }
same_delivered v (Some p) = record { runs = refl; restarts = refl }

pub unrun_same : (v : View) (line : PlainEntry) → IsUnrun line → SameRuns v (seen v line)
unfolding seen
unrun_same v (PlainRun host id service request response hold) quiet = absurd quiet
unrun_same v (PlainRestart host inc) quiet = absurd quiet
unrun_same v (PlainFail id why) quiet = let e = same_failed v id why in record { runs = e.runs; restarts = e.restarts }
unrun_same v (PlainGaps host id) quiet = let e = same_refused v host id in record { runs = e.runs; restarts = e.restarts }
unrun_same v (PlainFullRows host id rows limit) quiet = let e = same_refused v host id in record { runs = e.runs; restarts = e.restarts }
unrun_same v (PlainFullPages host id need free) quiet = let e = same_refused v host id in record { runs = e.runs; restarts = e.restarts }
unrun_same v (PlainDeliver packet) quiet =
    let e = same_delivered v (delivery (begun v) (PlainDeliver packet)) in record { runs = e.runs; restarts = e.restarts }
unrun_same v (PlainRecv host from bytes) quiet =
    let e = same_delivered v (delivery (begun v) (PlainRecv host from bytes)) in record { runs = e.runs; restarts = e.restarts }
unrun_same v line quiet = record { runs = refl; restarts = refl }

-- ---- who ran, by what a step tells

-- whether a line says that a call ran at a host
abbrev pub is_run : HostId → CallId → PlainEntry → Bool
is_run h q (PlainRun host id service request response hold) = is_call id q && is_host host h
is_run h q line = false

abbrev pub runs_told : HostId → CallId → List Told → Bool
runs_told h q [] = false
runs_told h q (Says entry ∷ told) = is_run h q entry || runs_told h q told
runs_told h q (Sends packet ∷ told) = runs_told h q told

pub runs-append : (h : HostId) (q : CallId) (a b : List Told) → runs_told h q (a ++ b) ≡ runs_told h q a || runs_told h q b
runs-append h q [] b = refl
runs-append h q (Says entry ∷ a) b =
    ap (λ x. is_run h q entry || x) (runs-append h q a b) ∙ or_assoc (is_run h q entry) (runs_told h q a) (runs_told h q b) where
      or_assoc : (a b c : Bool) → (a || (b || c)) ≡ ((a || b) || c)
      or_assoc true b c = refl
      or_assoc false b c = refl
runs-append h q (Sends p ∷ a) b = runs-append h q a b

-- a `run` line is of its host's present life
run_more : (v : View) (h host : HostId) (q id : CallId)
    → (is_call id q && is_host host h && life v host == life v h) || has_run v h q ≡ (is_call id q && is_host host h) || has_run v h q
run_more v h host q id = ap (λ b. b || has_run v h q) (by_host (is_host host h) refl) where
  and_false : (a c : Bool) → ((a && false) && c) ≡ (a && false)
  and_false true c = refl
  and_false false c = refl

  and_true : (a c : Bool) → c ≡ true → (a && true) && c ≡ a && true
  and_true true c e = e
  and_true false c e = refl

  by_host : (b : Bool) → is_host host h ≡ b → (is_call id q && b && life v host == life v h) ≡ (is_call id q && b)
  by_host true e = and_true (is_call id q) (life v host == life v h) (eq-eqb (life v host) (life v h) (ap (life v) ((hosts_are host h).0 e)))
  by_host false e = and_false (is_call id q) (life v host == life v h)

said_run : (v : View) (line : PlainEntry) (h : HostId) (q : CallId) → IsSaid line → has_run (seen v line) h q ≡ is_run h q line || has_run v h q
unfolding seen
said_run v (PlainRun host id service request response hold) h q said = run_more v h host q id
said_run v (PlainDone id bytes) h q said = refl
said_run v (PlainFail id why) h q said = ran_same v _ h q (same_failed v id why)
said_run v (PlainDrop host id) h q said = refl
said_run v (PlainGaps host id) h q said = ran_same v _ h q (same_refused v host id)
said_run v (PlainBury host id until) h q said = refl
said_run v (PlainFree host id) h q said = refl
said_run v (PlainFullRows host id rows limit) h q said = ran_same v _ h q (same_refused v host id)
said_run v (PlainFullPages host id need free) h q said = ran_same v _ h q (same_refused v host id)
said_run v (PlainBalance host cutoffs) h q said = refl
said_run v (PlainJunk host) h q said = refl
said_run v (PlainStale host at now) h q said = refl
said_run v line h q said = absurd said

-- behind what a move tells, those calls ran that did before it, and those that it says
pub told_runs : (v : View) (n : ℕ) (told : List Told) (h : HostId) (q : CallId) → AllInner told
    → has_run (seen_all v (entries_from n told)) h q ≡ runs_told h q told || has_run v h q
told_runs v n [] h q inner = refl
told_runs v n (Says entry ∷ told) h q inner =
    told_runs (seen v entry) n told h q inner.1 ∙ ap (λ b. runs_told h q told || b) (said_run v entry h q inner.0) ∙ or_swap (runs_told h q told)
    (is_run h q entry) (has_run v h q) where
      or_swap : (a b c : Bool) → (a || (b || c)) ≡ ((b || a) || c)
      or_swap true true c = refl
      or_swap true false c = refl
      or_swap false true c = refl
      or_swap false false c = refl
told_runs v n (Sends p ∷ told) h q inner =
    told_runs (seen v (send_line n p)) (suc n) told h q inner ∙ ap (λ b. runs_told h q told || b)
    (ran_same v (seen v (send_line n p)) h q (unrun_same v (send_line n p) tt))

-- ---- no run is of a life to come

-- a line within a step keeps that
pub said_lived : (v : View) (line : PlainEntry) → IsInner line → AllLived v → AllLived (seen v line)
unfolding seen
said_lived v (PlainRun host id service request response hold) inner all = (omega arith, all)
said_lived v (PlainSend number from to inc role id level what payload) inner all = all
said_lived v (PlainDone id bytes) inner all = all
said_lived v (PlainFail id why) inner all = lived_same v _ (same_failed v id why) all
said_lived v (PlainDrop host id) inner all = all
said_lived v (PlainGaps host id) inner all = lived_same v _ (same_refused v host id) all
said_lived v (PlainBury host id until) inner all = all
said_lived v (PlainFree host id) inner all = all
said_lived v (PlainFullRows host id rows limit) inner all = lived_same v _ (same_refused v host id) all
said_lived v (PlainFullPages host id need free) inner all = lived_same v _ (same_refused v host id) all
said_lived v (PlainBalance host cutoffs) inner all = all
said_lived v (PlainJunk host) inner all = all
said_lived v (PlainStale host at now) inner all = all
said_lived v line inner all = absurd inner

pub told_lived : (v : View) (n : ℕ) (told : List Told) → AllInner told → AllLived v → AllLived (seen_all v (entries_from n told))
told_lived v n [] inner all = all
told_lived v n (Says entry ∷ told) inner all = told_lived (seen v entry) n told inner.1 (said_lived v entry (said_inner entry inner.0) all)
told_lived v n (Sends packet ∷ told) inner all = told_lived (seen v (send_line n packet)) (suc n) told inner (said_lived v (send_line n packet) tt all)
