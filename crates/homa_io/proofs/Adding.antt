-- How a write ends where its text is added to what a sink holds back, after room was made for it.
use Rattle.std.proofs.Common.{◌≡◌, ℕ, ◌≤◌, Option, List, [], ◌++◌, arith, refl, sym, ap, subst, ◌∙◌}
use Rattle.std.specs.Prelude.{Result, Ok, Err, IsErr}
use Rattle.std.proofs.lemmas.Result.{MatchResult-from_err, IfOk-from_err, on_ok_weaker, on_err_weaker}
use Rattle.homa_io.specs.Outside.{appended, TookFront, Grows}
use Rattle.homa_io.specs.Growing.{appended-appended, appended-nil, grows_none, grows_on}
use Rattle.homa_io.specs.Held.{sink_below, held_bytes, PassesOn}
use Rattle.homa_io.specs.Writing.{IsWritten}
use Rattle.homa_io.specs.declared.held.HeldSink.{HeldSink}
use Rattle.homa_io.proofs.Counts.{risen_behind, kept_behind}

module _ {K A E : Type 0} (taken : K → Option (List ℕ)) (faults : K → ℕ) (is_same : K → K → Type 0) where
  -- so a write to a sink that holds lines back ends, as its impl of `Sink` says what it took
  abbrev pub IsPut : Result A E → HeldSink K → HeldSink K → List ℕ → Type 0
  IsPut r old new text =
      IsWritten (λ (h : HeldSink K). appended (taken (sink_below h)) (held_bytes h)) (λ (h : HeldSink K). faults (sink_below h))
      (λ (a b : HeldSink K). is_same (sink_below a) (sink_below b) × Grows (taken (sink_below a)) (taken (sink_below b))) r old new text

module _ {K : Type 0} (taken : K → Option (List ℕ)) where
  -- bytes that are added to what is held are taken
  pub added_taken : (old new : HeldSink K) (text : List ℕ) → sink_below new ≡ sink_below old → held_bytes new ≡ held_bytes old ++ text
      → appended (taken (sink_below new)) (held_bytes new) ≡ appended (appended (taken (sink_below old)) (held_bytes old)) text
  added_taken old new text below more =
      ap (λ (k : K). appended (taken k) (held_bytes new)) below
      ∙ (ap (λ (xs : List ℕ). appended (taken (sink_below old)) xs) more
      ∙ sym (appended-appended (taken (sink_below old)) (held_bytes old) text))

  module _ (is_same : K → K → Type 0) where
    -- and it is the same sink
    pub added_same : (old new : HeldSink K) → ((a : K) → is_same a a) → sink_below new ≡ sink_below old
        → is_same (sink_below old) (sink_below new) × Grows (taken (sink_below old)) (taken (sink_below new))
    added_same old new same_self below = (
      subst (λ (k : K). is_same (sink_below old) k) (sym below) (same_self (sink_below old)),
      subst (λ (k : K). Grows (taken (sink_below old)) (taken k)) (sym below) (grows_none (taken (sink_below old))),
    )

    -- a sink that holds lines back is the same over two steps
    pub same_held : ((a b c : K) → is_same a b → is_same b c → is_same a c) → (a b c : HeldSink K)
        → is_same (sink_below a) (sink_below b) × Grows (taken (sink_below a)) (taken (sink_below b))
        → is_same (sink_below b) (sink_below c) × Grows (taken (sink_below b)) (taken (sink_below c))
        → is_same (sink_below a) (sink_below c) × Grows (taken (sink_below a)) (taken (sink_below c))
    same_held on a b c p q = (
      on (sink_below a) (sink_below b) (sink_below c) p.0 q.0,
      grows_on (taken (sink_below a)) (taken (sink_below b)) (taken (sink_below c)) p.1 q.1,
    )

    -- what is added is written
    pub added_written : {A E : Type 0} {u : A} (faults : K → ℕ) (old new : HeldSink K) (text : List ℕ) → ((a : K) → is_same a a)
        → sink_below new ≡ sink_below old
        → held_bytes new ≡ held_bytes old ++ text
        → IsPut {E = E} taken faults is_same (Ok u) old new text
    added_written faults old new text same_self below more = record {
      ok = added_taken old new text below more;
      err = tt;
      risen = tt;
      quiet = ap faults below;
      never_falls = subst (λ (k : K). faults (sink_below old) ≤ faults k) (sym below) (omega arith);
      same = added_same old new same_self below;
    }

module _ {K A E M : Type 0} {taken : K → Option (List ℕ)} {faults : K → ℕ} {is_same : K → K → Type 0} where
  -- room couldn't be made: none of the text was taken
  pub room_failed : {e : E} (r : Result A E) (old new : HeldSink K) (text : List ℕ) → IsErr r
      → PassesOn {A = M} taken faults is_same (Err e) (sink_below old) (sink_below new)
      → appended (taken (sink_below new)) (held_bytes new) ≡ appended (taken (sink_below old)) (held_bytes old)
      → IsPut taken faults is_same r old new text
  room_failed r old new text failed below whole = record {
    ok = IfOk-from_err r _ failed;
    err = MatchResult-from_err r _ _ failed (λ _. ([], text, refl, whole ∙ sym (appended-nil (appended (taken (sink_below old)) (held_bytes old)))));
    risen = MatchResult-from_err r _ _ failed (λ _. below.risen);
    quiet = IfOk-from_err r _ failed;
    never_falls = below.never_falls;
    same = (below.same, below.grows);
  }

  module _ {made : M} (old mid new : HeldSink K) (text : List ℕ) (below : PassesOn {E = E} taken faults is_same (Ok made) (sink_below old) (sink_below mid))
      (whole : appended (taken (sink_below mid)) (held_bytes mid) ≡ appended (taken (sink_below old)) (held_bytes old)) where
    -- room was made, or none was needed, and then a write ended
    pub room_then : (r : Result A E) → ((a b c : K) → is_same a b → is_same b c → is_same a c) → IsPut taken faults is_same r mid new text
        → IsPut taken faults is_same r old new text
    room_then r on put =
        let behind = appended (taken (sink_below new)) (held_bytes new) in
        record {
          ok = on_ok_weaker r (λ took. took ∙ ap (λ (o : Option (List ℕ)). appended o text) whole) put.ok;
          err = on_err_weaker r (λ front. subst (λ (o : Option (List ℕ)). TookFront o behind text) whole front) put.err;
          risen = on_err_weaker r (λ risen. risen_behind (faults (sink_below old)) _ _ below.quiet risen) put.risen;
          quiet = on_ok_weaker r (λ same. same ∙ below.quiet) put.quiet;
          never_falls = kept_behind (faults (sink_below old)) _ _ below.quiet put.never_falls;
          same = same_held taken is_same on old mid new (below.same, below.grows) put.same;
        }

    -- room was made, and the text was added
    pub room_added : {u : A} → sink_below new ≡ sink_below mid → held_bytes new ≡ held_bytes mid ++ text
        → IsPut {E = E} taken faults is_same (Ok u) old new text
    room_added kept more = record {
      ok = added_taken taken mid new text kept more ∙ ap (λ (o : Option (List ℕ)). appended o text) whole;
      err = tt;
      risen = tt;
      quiet = ap faults kept ∙ below.quiet;
      never_falls = subst (λ (k : K). faults (sink_below old) ≤ faults k) (sym kept) below.never_falls;
      same = (
        subst (λ (k : K). is_same (sink_below old) k) (sym kept) below.same,
        subst (λ (k : K). Grows (taken (sink_below old)) (taken k)) (sym kept) below.grows,
      );
    }
