-- A host restarts: it has one more life, of the next incarnation, in which no call has run.
use Rattle.std.proofs.Common.{◌≡◌, ℕ, zero, suc, ◌+◌, ◌≤◌, ◌<◌, Bool, true, false, ◌&&◌, ◌||◌, Some, List, [], ◌∷◌, ◌++◌, length, refl, sym, ap}
use Rattle.std.proofs.Common.{subst, ◌∙◌, arith, inl, inr}
use Rattle.std.specs.Prelude.{◌==◌, slice_get}
use Rattle.std.specs.List.{AllByRecursion, list_any}
use Rattle.std.specs.Ordering.{nat_cmp, eq_by_cmp}
use Rattle.std.proofs.lemmas.Bool.{eqb-true, false_from_ne_true, eq-eqb, cases_lt}
use Rattle.homa_plain.specs.declared.id.CallId.{CallId}
use Rattle.homa_plain.specs.declared.id.HostId.{HostId}
use Rattle.homa_plain.specs.Calls.{is_host, is_call}
use Rattle.homa_plain.specs.Entries.{PlainRestart}
use Rattle.homa_plain.specs.Host.{Host}
use Rattle.trace_rules.specs.View.{View, Ran, has_run, life, restarts_of}
use Rattle.trace_rules.specs.Seen.{seen}
use Rattle.homa_plain.proofs.CallOrder.{hosts_are}
use Rattle.trace_steps.specs.Told.{AllLived, HasLives}
use Rattle.trace_steps.proofs.Lives.{number_itself, same_number, restarts_at, life_restarted, life_more}

-- ---- in the new life no call has run, at the other hosts those that had

module _ (v : View) (host : HostId) (inc : ℕ) where
  abbrev after : View
  after = seen v (PlainRestart host inc)

  runs_same : after.runs ≡ v.runs
  unfolding seen
  runs_same = refl

  pub unrun_restarted : (q : CallId) → AllLived v → has_run after host q ≡ false
  unrun_restarted q all =
      ap (λ (rs : List Ran). list_any (λ (r : Ran). is_call r.id q && is_host r.host host && r.life == now) rs) runs_same ∙ by_runs v.runs all where
        now : ℕ
        now = life after host

        later : now ≡ life v host + 1
        later = life_restarted v host inc

        ended : (r : Ran) → r.life ≤ life v r.host → (b : Bool) → is_host r.host host ≡ b → (is_call r.id q && b && r.life == now) ≡ false
        ended r before false e = off (is_call r.id q) (r.life == now) where
          off : (a c : Bool) → ((a && false) && c) ≡ false
          off true c = refl
          off false c = refl
        ended r before true e = off (is_call r.id q) (r.life == now) differ where
          off : (a c : Bool) → c ≡ false → ((a && true) && c) ≡ false
          off true c e = e
          off false c e = refl

          same : life v r.host ≡ life v host
          same = ap (life v) ((hosts_are r.host host).0 e)

          differ : (r.life == now) ≡ false
          differ = false_from_ne_true (r.life == now) (λ t. let k : r.life ≡ now = eqb-true r.life now t in absurd (omega (arith, before, same, later, k)))

        by_runs : (rs : List Ran) → AllByRecursion (λ (r : Ran). r.life ≤ life v r.host) rs
            → list_any (λ (r : Ran). is_call r.id q && is_host r.host host && r.life == now) rs ≡ false
        by_runs [] all = refl
        by_runs (r ∷ rs) all = ap (λ b. b || list_any (λ (r : Ran). is_call r.id q && is_host r.host host && r.life == now) rs)
            (ended r all.0 (is_host r.host host) refl) ∙ by_runs rs all.1

  pub ran_elsewhere : (n : HostId) (q : CallId) → is_host n host ≡ false → has_run after n q ≡ has_run v n q
  ran_elsewhere n q e =
      let same : life after n ≡ life v n = ap length (restarts_at v host inc n false other) in
      ap (λ (rs : List Ran). list_any (λ (r : Ran). is_call r.id q && is_host r.host n && r.life == life after n) rs) runs_same
      ∙ ap (λ (k : ℕ). list_any (λ (r : Ran). is_call r.id q && is_host r.host n && r.life == k) v.runs) same where
        other : eq_by_cmp nat_cmp n.0 host.0 ≡ false
        other = false_from_ne_true (eq_by_cmp nat_cmp n.0 host.0) (λ t. true_false (sym (eq-eqb n.0 host.0 (same_number n.0 host.0 t)) ∙ e)) where
          true_false : true ≡ false → ⊥
          true_false e = cc

  -- ---- lives

  restart_lived : (rs : List Ran) → AllByRecursion (λ (r : Ran). r.life ≤ life v r.host) rs → AllByRecursion (λ (r : Ran). r.life ≤ life after r.host) rs
  restart_lived [] all = tt
  restart_lived (r ∷ rs) all = (omega (arith, all.0, life_more v host inc r.host), restart_lived rs all.1)

  pub lived_restarted : AllLived v → AllLived after
  lived_restarted all = subst (λ (rs : List Ran). AllByRecursion (λ (r : Ran). r.life ≤ life after r.host) rs) (sym runs_same) (restart_lived v.runs all)

  -- of another host
  pub lives_elsewhere : (n : HostId) (h : Host) → eq_by_cmp nat_cmp n.0 host.0 ≡ false → HasLives v n h → HasLives after n h
  unfolding seen
  lives_elsewhere n h e k =
      let same : restarts_of after n ≡ restarts_of v n = restarts_at v host inc n false e in
      record {
        first = k.first;
        now = k.now ∙ ap (λ (xs : List ℕ). k.first + length xs) (sym same);
        later = λ i l. ap (λ (xs : List ℕ). slice_get xs i) same ∙ k.later i (subst (λ (xs : List ℕ). i < length xs) same l);
        told = k.told;
        sent = k.sent;
      }

  get_front : (xs : List ℕ) (i x : ℕ) → i < length xs → slice_get (xs ++ x ∷ []) i ≡ slice_get xs i
  get_front [] i x l = absurd (omega (arith, l))
  get_front (y ∷ xs) zero x l = refl
  get_front (y ∷ xs) (suc i) x l = get_front xs i x (omega (arith, l))

  get_last : (xs : List ℕ) (x : ℕ) → slice_get (xs ++ x ∷ []) (length xs) ≡ Some x
  get_last [] x = refl
  get_last (y ∷ xs) x = get_last xs x

  -- of the host that restarts, which is of the next incarnation then
  pub lives_here : (h new : Host) → inc ≡ h.inc + 1 → new.inc ≡ inc → HasLives v host h → HasLives after host new
  unfolding seen
  lives_here h new next is k =
      let same : restarts_of after host ≡ restarts_of v host ++ inc ∷ [] = restarts_at v host inc host true (number_itself host.0) in
      record {
        first = k.first;
        now = (let z : new.inc ≡ k.first + life after host = omega (arith, is, next, k.now, life_restarted v host inc) in z);
        later = λ i l. ap (λ (xs : List ℕ). slice_get xs i) same ∙ by_order i (omega (arith, l, life_restarted v host inc));
        told = k.told;
        sent = k.sent;
      } where
        by_order : (i : ℕ) → i < life v host + 1 → slice_get (restarts_of v host ++ inc ∷ []) i ≡ Some (k.first + i + 1)
        by_order i l = elim (cases_lt i (life v host)) as (λ _. slice_get (restarts_of v host ++ inc ∷ []) i ≡ Some (k.first + i + 1)) [
          | inl less ↦ get_front (restarts_of v host) i inc less ∙ k.later i less
          | inr more ↦
              let at : i ≡ life v host = omega (arith, l, more) in
              ap (slice_get (restarts_of v host ++ inc ∷ [])) at ∙ get_last (restarts_of v host) inc
              ∙ ap Some (let z : inc ≡ k.first + i + 1 = omega (arith, next, k.now, at) in z)
        ]
