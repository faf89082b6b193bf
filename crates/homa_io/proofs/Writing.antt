-- How a write ends, put together of how its parts end.
use Rattle.std.proofs.Common.{◌≡◌, ℕ, Option, List, [], ◌++◌, arith, refl, sym, ap, subst, ◌∙◌}
use Rattle.std.specs.Prelude.{Result, Ok, Err, IsErr}
use Rattle.std.proofs.lemmas.Result.{MatchResult-from_err, IfOk-from_err, on_ok_weaker, on_err_weaker}
use Rattle.homa_io.specs.Outside.{appended, TookFront}
use Rattle.homa_io.specs.Growing.{appended-nil}
use Rattle.homa_io.specs.Writing.{WriteEnds, IsWritten}
use Rattle.homa_io.proofs.Counts.{risen_behind, kept_behind}
use Rattle.homa_io.proofs.Fronts.{two_put, front_after}

module _ {K A E : Type 0} {taken : K → Option (List ℕ)} {faults : K → ℕ} {is_same : K → K → Type 0} where
  -- a part failed, and its error is handed on
  pub handed_on : {e : E} {a b : K} {x all : List ℕ} {before done : Type 0} (r : Result A E)
      → IsErr r
      → WriteEnds {A = A} taken faults is_same (Err e) a b x before
      → (TookFront (taken a) (taken b) x → TookFront (taken a) (taken b) all)
      → WriteEnds taken faults is_same r a b all done
  handed_on r failed part more = record {
    ok = IfOk-from_err r _ failed;
    err = MatchResult-from_err r _ _ failed (λ _. more part.err);
    risen = MatchResult-from_err r _ _ failed (λ _. part.risen);
    quiet = IfOk-from_err r _ failed;
    never_falls = part.never_falls;
    same = part.same;
  }

  -- a part went well, and then the next ended
  pub ends_on : {u : A} {r : Result A E} {a b c : K} {x y all : List ℕ} {before next done : Type 0}
      → ((a b c : K) → is_same a b → is_same b c → is_same a c)
      → WriteEnds {E = E} taken faults is_same (Ok u) a b x before
      → WriteEnds taken faults is_same r b c y next
      → (next → done)
      → (TookFront (taken b) (taken c) y → TookFront (taken a) (taken c) all)
      → WriteEnds taken faults is_same r a c all done
  ends_on {r} {a} {b} {c} on first second well failed = record {
    ok = on_ok_weaker r well second.ok;
    err = on_err_weaker r failed second.err;
    risen = on_err_weaker r (λ risen. risen_behind (faults a) (faults b) (faults c) first.quiet risen) second.risen;
    quiet = on_ok_weaker r (λ same. same ∙ first.quiet) second.quiet;
    never_falls = kept_behind (faults a) (faults b) (faults c) first.quiet second.never_falls;
    same = on a b c first.same second.same;
  }

  -- a part went well, and so did the next
  pub went_on : {u v : A} {a b c : K} {x y all : List ℕ} {before next done : Type 0}
      → ((a b c : K) → is_same a b → is_same b c → is_same a c)
      → WriteEnds {E = E} taken faults is_same (Ok u) a b x before
      → WriteEnds {E = E} taken faults is_same (Ok v) b c y next
      → done
      → WriteEnds {E = E} taken faults is_same (Ok v) a c all done
  went_on {a} {b} {c} on first second well = record {
    ok = well;
    err = tt;
    risen = tt;
    quiet = second.quiet ∙ first.quiet;
    never_falls = kept_behind (faults a) (faults b) (faults c) first.quiet second.never_falls;
    same = on a b c first.same second.same;
  }

  -- nothing is written
  pub none_written : {u : A} {a : K} → is_same a a → IsWritten {E = E} taken faults is_same (Ok u) a a []
  none_written {a} same = record { ok = sym (appended-nil (taken a)); err = tt; risen = tt; quiet = refl; never_falls = omega arith; same = same }

  -- a text was written, and then the next
  pub written_on : {u : A} {r : Result A E} {a b c : K} {all : List ℕ}
      → ((a b c : K) → is_same a b → is_same b c → is_same a c)
      → (x y : List ℕ)
      → IsWritten {E = E} taken faults is_same (Ok u) a b x
      → IsWritten taken faults is_same r b c y
      → x ++ y ≡ all
      → IsWritten taken faults is_same r a c all
  written_on {a} {b} {c} on x y first second same =
      ends_on on first second
      (λ more. two_put (taken a) (taken b) (taken c) x y first.ok more ∙ ap (λ (text : List ℕ). appended (taken a) text) same)
      (λ front. subst (λ (text : List ℕ). TookFront (taken a) (taken c) text) same (front_after (taken a) (taken b) (taken c) x y first.ok front))
