-- The lives of hosts by the lines: through what a step tells, and through a restart.
use Rattle.std.proofs.Common.{◌≡◌, ℕ, suc, ◌+◌, ◌≤◌, ◌<◌, Bool, true, false, ◌&&◌, Option, Some, None, List, [], ◌∷◌, ◌++◌, length, cond, refl, sym}
use Rattle.std.proofs.Common.{ap, subst, ◌∙◌, arith}
use Rattle.std.specs.Prelude.{◌==◌, not, is_some, unwrap_or, slice_get}
use Rattle.std.specs.List.{AllByRecursion}
use Rattle.std.specs.Ordering.{nat_cmp, eq_by_cmp}
use Rattle.std.specs.Cmp.{nat_cmp_total}
use Rattle.std.proofs.lemmas.Cmp.{eq_by_cmp_equiv}
use Rattle.std.proofs.lemmas.Map.Views.{tells_apart}
use Rattle.std.specs.FinMap.{nat_cmp-IsAntisymmetric}
use Rattle.std.proofs.lemmas.Bool.{cond_both, eqb-true, eq-eqb, and_parts, false≢true}
use Rattle.std.proofs.lemmas.List.{length-append}
use Rattle.plain_sets.specs.Maps.{Map, get, insert, contains_key}
use Rattle.plain_sets.proofs.MapLaws.{get-insert}
use Rattle.homa_plain.specs.declared.id.CallId.{CallId}
use Rattle.homa_plain.specs.declared.id.HostId.{HostId}
use Rattle.homa_plain.specs.declared.entry.Why.{Why}
use Rattle.homa_plain.specs.declared.entry.Why.TheVariants.{Timeout, Forgotten}
use Rattle.homa_plain.specs.Entries.{PlainEntry, PlainRestart, PlainRun, PlainDone, PlainFail, PlainDrop, PlainGaps, PlainBury, PlainFree}
use Rattle.homa_plain.specs.Entries.{PlainFullRows, PlainFullPages, PlainBalance, PlainJunk, PlainStale}
use Rattle.homa_plain.specs.Packets.{Packet, send_line, sender}
use Rattle.homa_plain.specs.Host.{Host, Told, Says, Sends, packets_in, entries_from}
use Rattle.trace_rules.specs.View.{View, Sent, life, restarts_of}
use Rattle.trace_rules.specs.Seen.{seen, seen_all, refused, failed, is_delivery_to, with_first}
use Rattle.homa_plain.proofs.CallOrder.{hosts_are}
use Rattle.trace_steps.specs.Told.{HasLives, sent_of}
use Rattle.trace_steps.proofs.Lines.{inner_same, said_packets}
use Rattle.step_moves.proofs.Inner.{said_inner, AllInner, IsSaid}

-- ---- a map from numbers, of which one is set

pub number_itself : (a : ℕ) → eq_by_cmp nat_cmp a a ≡ true
number_itself a = (eq_by_cmp_equiv nat_cmp_total).refl a

pub same_number : (a b : ℕ) → eq_by_cmp nat_cmp a b ≡ true → a ≡ b
same_number a b e = tells_apart nat_cmp-IsAntisymmetric a b e

pub get-there : {X : Type 0} (m : Map nat_cmp X) (k : ℕ) (x : X) → get (insert m k x) k ≡ Some x
get-there m k x = get-insert nat_cmp_total m k x k ∙ ap (λ b. cond b (Some x) (get m k)) (number_itself k)

pub get-elsewhere : {X : Type 0} (m : Map nat_cmp X) (k : ℕ) (x : X) (n : ℕ) → eq_by_cmp nat_cmp n k ≡ false → get (insert m k x) n ≡ get m n
get-elsewhere m k x n e = get-insert nat_cmp_total m k x n ∙ ap (λ b. cond b (Some x) (get m n)) e

-- ---- first incarnations

firsts_refused : (v : View) (host : HostId) (id : CallId) → (refused v host id).firsts ≡ v.firsts
firsts_refused v host id = cond_both (is_delivery_to v host id) _ _ (λ (u : View). u.firsts ≡ v.firsts) (λ _. refl) (λ _. refl)

firsts_failed : (v : View) (id : CallId) (why : Why) → (failed v id why).firsts ≡ v.firsts
firsts_failed v id Timeout = refl
firsts_failed v id Forgotten = refl

said_firsts : (v : View) (line : PlainEntry) → IsSaid line → (seen v line).firsts ≡ v.firsts
unfolding seen
said_firsts v (PlainRun host id service request response hold) said = refl
said_firsts v (PlainDone id bytes) said = refl
said_firsts v (PlainFail id why) said = firsts_failed v id why
said_firsts v (PlainDrop host id) said = refl
said_firsts v (PlainGaps host id) said = firsts_refused v host id
said_firsts v (PlainBury host id until) said = refl
said_firsts v (PlainFree host id) said = refl
said_firsts v (PlainFullRows host id rows limit) said = firsts_refused v host id
said_firsts v (PlainFullPages host id need free) said = firsts_refused v host id
said_firsts v (PlainBalance host cutoffs) said = refl
said_firsts v (PlainJunk host) said = refl
said_firsts v (PlainStale host at now) said = refl
said_firsts v line said = absurd said

-- the lines say the same of who restarted, of first incarnations and of packets
pub lives_same : (v u : View) (id : HostId) (h : Host) → u.restarts ≡ v.restarts → u.firsts ≡ v.firsts → u.packets ≡ v.packets → HasLives v id h
    → HasLives u id h
lives_same v u id h r f p k =
    let same : restarts_of u id ≡ restarts_of v id = ap (λ (m : Map nat_cmp (List ℕ)). unwrap_or (get m id.0) []) r in
    record {
      first = k.first;
      now = k.now ∙ ap (λ (xs : List ℕ). k.first + length xs) (sym same);
      later = λ n l. ap (λ (xs : List ℕ). slice_get xs n) same ∙ k.later n (subst (λ (xs : List ℕ). n < length xs) same l);
      told = λ x e. k.told x (ap (λ (m : Map nat_cmp ℕ). get m id.0) (sym f) ∙ e);
      sent = subst (λ (ps : List Sent). AllByRecursion (λ (x : Sent). x.from ≡ id → x.inc ≡ k.first → get u.firsts id.0 ≡ Some k.first) ps) (sym p)
          (subst (λ (m : Map nat_cmp ℕ). AllByRecursion (λ (x : Sent). x.from ≡ id → x.inc ≡ k.first → get m id.0 ≡ Some k.first) v.packets) (sym f) k.sent);
    }

-- ---- a `send` line

-- the first incarnations, where the next one may be set
first_at : (v : View) (p : Sent) (n : ℕ) → (b : Bool) → eq_by_cmp nat_cmp n p.from.0 ≡ b
    → get (with_first v p) n ≡ cond (b && (life v p.from == 0 && not (contains_key v.firsts p.from.0))) (Some p.inc) (get v.firsts n)
first_at v p n b e = by_test (life v p.from == 0 && not (contains_key v.firsts p.from.0)) where
  by_key : (b : Bool) → eq_by_cmp nat_cmp n p.from.0 ≡ b → get (insert v.firsts p.from.0 p.inc) n ≡ cond (b && true) (Some p.inc) (get v.firsts n)
  by_key true e = ap (get (insert v.firsts p.from.0 p.inc)) (same_number n p.from.0 e) ∙ get-there v.firsts p.from.0 p.inc
  by_key false e = get-elsewhere v.firsts p.from.0 p.inc n e

  unset : (b : Bool) → get v.firsts n ≡ cond (b && false) (Some p.inc) (get v.firsts n)
  unset true = refl
  unset false = refl

  by_test : (t : Bool) → get (cond t (insert v.firsts p.from.0 p.inc) v.firsts) n ≡ cond (b && t) (Some p.inc) (get v.firsts n)
  by_test true = by_key b e
  by_test false = unset b

-- a packet of a host of its present life
abbrev pub IsOfLife : HostId → Host → Packet → Type 0
IsOfLife id h p = sender p ≡ id → p.inc ≡ h.inc

pub sent_lives : (v : View) (n : ℕ) (p : Packet) (id : HostId) (h : Host) → IsOfLife id h p → HasLives v id h → HasLives (seen v (send_line n p)) id h
unfolding seen
sent_lives v n p id h of k = record {
  first = k.first;
  now = k.now;
  later = k.later;
  told = λ x e. told_by (eq_by_cmp nat_cmp id.0 (sender p).0) refl x e;
  sent = all_send v.packets k.sent;
} where
  q : Sent
  q = sent_of p

  new : Bool
  new = life v (sender p) == 0 && not (contains_key v.firsts (sender p).0)

  -- of the host itself
  mine : eq_by_cmp nat_cmp id.0 (sender p).0 ≡ true → sender p ≡ id
  mine e = (hosts_are (sender p) id).0 (eq-eqb (sender p).0 id.0 (sym (same_number id.0 (sender p).0 e)))

  young : eq_by_cmp nat_cmp id.0 (sender p).0 ≡ true → new ≡ true → p.inc ≡ k.first
  young e t =
      let none : life v (sender p) ≡ 0 = eqb-true (life v (sender p)) 0 (and_parts (life v (sender p) == 0) (not (contains_key v.firsts (sender p).0)) t).0 in
      let same : life v (sender p) ≡ life v id = ap (life v) (mine e) in
      of (mine e) ∙ (let z : h.inc ≡ k.first = omega (arith, k.now, none, same) in z)

  told_by : (b : Bool) → eq_by_cmp nat_cmp id.0 (sender p).0 ≡ b → (x : ℕ) → get (with_first v q) id.0 ≡ Some x → x ≡ k.first
  told_by false e x is = k.told x (sym (first_at v q id.0 false e) ∙ is)
  told_by true e x is = by_new new refl where
    by_new : (t : Bool) → new ≡ t → x ≡ k.first
    by_new true f = some_is (sym is ∙ first_at v q id.0 true e ∙ ap (λ t. cond t (Some p.inc) (get v.firsts id.0)) f) ∙ young e f where
      some_is : Some x ≡ Some p.inc → x ≡ p.inc
      some_is e = cc
    by_new false f = k.told x (sym (first_at v q id.0 true e ∙ ap (λ t. cond t (Some p.inc) (get v.firsts id.0)) f) ∙ is)

  -- what is told stays
  stays : get v.firsts id.0 ≡ Some k.first → get (with_first v q) id.0 ≡ Some k.first
  stays told = by_key (eq_by_cmp nat_cmp id.0 (sender p).0) refl where
    by_key : (b : Bool) → eq_by_cmp nat_cmp id.0 (sender p).0 ≡ b → get (with_first v q) id.0 ≡ Some k.first
    by_key false e = first_at v q id.0 false e ∙ told
    by_key true e = first_at v q id.0 true e ∙ by_new new refl where
      by_new : (t : Bool) → new ≡ t → cond t (Some p.inc) (get v.firsts id.0) ≡ Some k.first
      by_new true f = ap Some (young e f)
      by_new false f = told

  set : sender p ≡ id → p.inc ≡ k.first → get (with_first v q) id.0 ≡ Some k.first
  set by inc = first_at v q id.0 true key ∙ by_new new refl where
    key : eq_by_cmp nat_cmp id.0 (sender p).0 ≡ true
    key = ap (λ (x : HostId). eq_by_cmp nat_cmp id.0 x.0) by ∙ number_itself id.0

    lived : life v (sender p) ≡ 0
    lived = let same : life v (sender p) ≡ life v id = ap (life v) by in let now : p.inc ≡ h.inc = of by in omega (arith, same, now, k.now, inc)

    known : (o : Option ℕ) → get v.firsts id.0 ≡ o → (life v (sender p) == 0 && not (contains_key v.firsts (sender p).0)) ≡ false → o ≡ Some k.first
    known (Some x) e f = ap Some (k.told x e)
    known None e f =
        let no : contains_key v.firsts (sender p).0 ≡ false = ap (λ (x : HostId). contains_key v.firsts x.0) by ∙ ap (λ (o : Option ℕ). is_some o) e in
        absurd (false≢true (sym f ∙ ap (λ b. b && not (contains_key v.firsts (sender p).0)) (eq-eqb (life v (sender p)) 0 lived) ∙ ap not no))

    by_new : (t : Bool) → new ≡ t → cond t (Some p.inc) (get v.firsts id.0) ≡ Some k.first
    by_new true f = ap Some inc
    by_new false f = known (get v.firsts id.0) refl f

  all_old : (ps : List Sent) → AllByRecursion (λ (x : Sent). x.from ≡ id → x.inc ≡ k.first → get v.firsts id.0 ≡ Some k.first) ps
      → AllByRecursion (λ (x : Sent). x.from ≡ id → x.inc ≡ k.first → get (with_first v q) id.0 ≡ Some k.first) (ps ++ q ∷ [])
  all_old [] all = (set, tt)
  all_old (x ∷ ps) all = ((λ from inc. stays (all.0 from inc)), all_old ps all.1)

  all_send : (ps : List Sent) → AllByRecursion (λ (x : Sent). x.from ≡ id → x.inc ≡ k.first → get v.firsts id.0 ≡ Some k.first) ps
      → AllByRecursion (λ (x : Sent). x.from ≡ id → x.inc ≡ k.first → get (with_first v q) id.0 ≡ Some k.first) (ps ++ q ∷ [])
  all_send ps all = all_old ps all

-- behind what a move tells
pub told_lives : (v : View) (n : ℕ) (told : List Told) (id : HostId) (h : Host) → AllInner told → AllByRecursion (IsOfLife id h) (packets_in told)
    → HasLives v id h → HasLives (seen_all v (entries_from n told)) id h
told_lives v n [] id h inner sent k = k
told_lives v n (Says entry ∷ told) id h inner sent k =
    told_lives (seen v entry) n told id h inner.1 sent
    (lives_same v (seen v entry) id h (inner_same v entry (said_inner entry inner.0)).restarts (said_firsts v entry inner.0) (said_packets v entry inner.0) k)
told_lives v n (Sends packet ∷ told) id h inner sent k =
    told_lives (seen v (send_line n packet)) (suc n) told id h inner sent.1 (sent_lives v n packet id h sent.0 k)

-- ---- a `restart` line

-- the lives of a host that restarts, and of the others
pub restarts_at : (v : View) (host : HostId) (inc : ℕ) (n : HostId) (b : Bool) → eq_by_cmp nat_cmp n.0 host.0 ≡ b
    → restarts_of (seen v (PlainRestart host inc)) n ≡ cond b (restarts_of v host ++ inc ∷ []) (restarts_of v n)
unfolding seen
restarts_at v host inc n true e =
    ap (λ (o : Option (List ℕ)). unwrap_or o [])
    (ap (get (insert v.restarts host.0 (restarts_of v host ++ inc ∷ []))) (same_number n.0 host.0 e)
    ∙ get-there v.restarts host.0 (restarts_of v host ++ inc ∷ []))
restarts_at v host inc n false e = ap (λ (o : Option (List ℕ)). unwrap_or o []) (get-elsewhere v.restarts host.0 (restarts_of v host ++ inc ∷ []) n.0 e)

-- one more life
pub life_restarted : (v : View) (host : HostId) (inc : ℕ) → life (seen v (PlainRestart host inc)) host ≡ life v host + 1
life_restarted v host inc = ap length (restarts_at v host inc host true (number_itself host.0)) ∙ length-append (restarts_of v host) (inc ∷ [])

pub life_more : (v : View) (host : HostId) (inc : ℕ) (n : HostId) → life v n ≤ life (seen v (PlainRestart host inc)) n
life_more v host inc n = by_test (eq_by_cmp nat_cmp n.0 host.0) refl where
  by_test : (b : Bool) → eq_by_cmp nat_cmp n.0 host.0 ≡ b → life v n ≤ life (seen v (PlainRestart host inc)) n
  by_test true e =
      let same : life v n ≡ life v host = ap (λ (k : ℕ). length (unwrap_or (get v.restarts k) [])) (same_number n.0 host.0 e) in
      omega (arith, ap length (restarts_at v host inc n true e), length-append (restarts_of v host) (inc ∷ []), same)
  by_test false e = omega (arith, ap length (restarts_at v host inc n false e))
