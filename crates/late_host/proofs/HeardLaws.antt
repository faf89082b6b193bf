-- What comes of a datagram and of an answer, from what the parts of the step say.
use Rattle.std.proofs.Common.{◌≡◌, ◌≢◌, ℕ, true, Some, None, List, [], ◌∷◌, length, refl, sym, ap, subst, ◌∙◌, arith, inl, inr}
use Rattle.std.specs.Prelude.{◌⊎◌, ◌==◌, IsSome, IfSome, IsSomeAnd}
use Rattle.std.proofs.lemmas.Bool.{eqb-true}
use Rattle.homa_plain.specs.declared.id.CallId.{CallId}
use Rattle.homa_plain.specs.declared.id.HostId.{HostId}
use Rattle.homa_plain.specs.Rules.{Answer}
use Rattle.homa_host.specs.declared.asked.Asked.{Asked}
use Rattle.homa_host.specs.Asking.{HasAsked}
use Rattle.driven_host.specs.Driven.{Driven}
use Rattle.driven_host.specs.Faults.{delivery_fault}
use Rattle.late_host.specs.declared.kept.KeptCall.{KeptCall}
use Rattle.late_host.specs.declared.outcomes.Heard.{Heard}
use Rattle.late_host.specs.declared.outcomes.Heard.TheVariants as heard
use Rattle.late_host.specs.declared.outcomes.Answered.{Answered}
use Rattle.late_host.specs.declared.outcomes.Answered.TheVariants as answered
use Rattle.late_host.specs.Kept.{call_of, without, changed, IsFresh, IsInLife}
use Rattle.late_host.specs.Late.{Late, arrives, HasArrived, WasGiven, LeavesHost, asked_again, with_answer}
use Rattle.late_host.specs.Heard.{IsHeard, IsUnstored, IsSettled, IsGivenStep, answer_fault}
use Rattle.late_host.specs.Ran.{ran_in}
use Rattle.late_host.proofs.RanLaws.{asked_serves, asked_runs}

pub no_bytes : (bytes : List ℕ) → true ≡ (length bytes == 0) → bytes ≡ []
no_bytes [] e = refl
no_bytes (b ∷ bytes) e = absurd (omega (arith, eqb-true (length (b ∷ bytes)) 0 (sym e)))

-- the host can't take the step with the answer that is kept, or there is none
abbrev pub CannotGive : HostId → ℕ → Driven → KeptCall → Type 0
CannotGive from now d call = (call.answer ≡ []) ⊎ IsSome (delivery_fault d.host d.steps from (length call.answer) now)

module _ (now : ℕ) (from : HostId) (frame : List ℕ) (old : Late) (mid : Driven) (new : Late) (asked : Asked) (whole : List ℕ) where
  abbrev pub Asks : Type 0
  Asks = (a : Answer) → HasAsked asked.id asked.number whole (arrives old.driven now from frame a).told

  -- want of memory
  pub unstored : Asks → LeavesHost old.driven mid → new ≡ record old { driven = mid } → IsUnstored now from frame old new
  unstored asks leaves same = record {
    asks = λ a. asked_runs (arrives old.driven now from frame a).told _ (asks a);
    calls = ap (λ (l : Late). l.calls) same;
    leaves = subst (λ (l : Late). LeavesHost old.driven l.driven) (sym same) leaves;
  }

  -- a call that is kept is asked for again
  pub renewed : (result : Heard) → Asks → LeavesHost old.driven mid → IsSome (call_of asked.id old.calls)
      → IfSome (call_of asked.id old.calls) (CannotGive from now mid)
      → (result ≡ heard.AtWork asked.id → new ≡ record old { driven = mid; calls = changed asked.id (asked_again from now frame) old.calls })
      → (result ≢ heard.AtWork asked.id → new ≡ record old { driven = mid }) → (result ≡ heard.AtWork asked.id) ⊎ (result ≡ heard.NoMemory)
      → IsHeard now from frame old new result
  renewed result asks leaves told waits again none (inl is) =
      let same = again is in
      subst (λ (h : Heard). IsHeard now from frame old new h) (sym is) (record {
        asks = λ a. asked_serves asked.id asked.number whole (arrives old.driven now from frame a).told (asks a);
        told = told;
        waits = subst (λ (l : Late). IfSome (call_of asked.id old.calls) (CannotGive from now l.driven)) (sym same) waits;
        calls = ap (λ (l : Late). l.calls) same;
        leaves = subst (λ (l : Late). LeavesHost old.driven l.driven) (sym same) leaves;
      })
  renewed result asks leaves told waits again none (inr is) =
      subst (λ (h : Heard). IsHeard now from frame old new h) (sym is) (unstored asks leaves (none (λ p. cc)))

module _ (id : CallId) (answer : List ℕ) (now : ℕ) (old : Late) (call : KeptCall) (mid : Driven) (new : Late) where
  -- the step of an answer
  pub given_step : Some call ≡ call_of id old.calls → call.answer ≡ [] → answer_fault old call (length answer) now ≡ None
      → IsFresh old.keep now call → HasArrived now call.from call.frame old.driven mid → WasGiven answer mid → new.driven ≡ mid
      → IsGivenStep id answer now old new
  given_step at waits sound fresh step given same = record {
    awaited = subst (λ o. IsSomeAnd o (λ (c : KeptCall). (c.answer ≡ []) × (answer_fault old c (length answer) now ≡ None))) at (waits, sound);
    fresh = subst (λ o. IfSome o (IsFresh old.keep now)) at fresh;
    in_life = subst (λ o. IfSome o (IsInLife old.driven.host.settings.life old.keep now)) at (λ sent fits. omega (arith, fresh, fits));
    step =
        subst (λ (d : Driven). IfSome (call_of id old.calls) (λ (c : KeptCall). HasArrived now c.from c.frame old.driven d)) (sym same)
        (subst (λ o. IfSome o (λ (c : KeptCall). HasArrived now c.from c.frame old.driven mid)) at step);
    given = subst (λ (d : Driven). WasGiven answer d) (sym same) given;
  }

  -- after that step the call goes, or holds its answer
  pub settled : (result : Answered) → (new.driven ≡ mid → IsGivenStep id answer now old new)
      → (result ≡ answered.Ran → ran_in mid.host.marks ≡ Some id)
      → (result ≡ answered.Ran → new ≡ record old { driven = mid; calls = without id old.calls })
      → (result ≢ answered.Ran → ran_in mid.host.marks ≢ Some id)
      → (result ≢ answered.Ran → new ≡ record old { driven = mid; calls = changed id (with_answer answer) old.calls })
      → (result ≡ answered.Ran) ⊎ (result ≡ answered.Held) → IsSettled id answer now old new result
  settled result step ran out unrun held (inl is) =
      let same = out is in
      let driven = ap (λ (l : Late). l.driven) same in
      subst (λ (r : Answered). IsSettled id answer now old new r) (sym is) (record {
        step = step driven;
        ran = ap (λ (d : Driven). ran_in d.host.marks) driven ∙ ran is;
        calls = ap (λ (l : Late). l.calls) same;
      })
  settled result step ran out unrun held (inr is) =
      let other : result ≢ answered.Ran = λ p. cc in
      let same = held other in
      let driven = ap (λ (l : Late). l.driven) same in
      subst (λ (r : Answered). IsSettled id answer now old new r) (sym is) (record {
        step = step driven;
        unrun = λ p. unrun other (sym (ap (λ (d : Driven). ran_in d.host.marks) driven) ∙ p);
        calls = ap (λ (l : Late). l.calls) same;
      })
