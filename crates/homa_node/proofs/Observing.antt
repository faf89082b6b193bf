-- What an observer told of reports, as the definitions have it: up to the first that is strange.
use Rattle.std.proofs.Common.{◌≡◌, ℕ, Bool, true, false, Option, List, [], ◌∷◌, ◌++◌, refl, sym, ap, ◌∙◌, subst, append_assoc}
use Rattle.std.specs.Prelude.{if◌then◌else◌, length, take}
use Rattle.std.proofs.lemmas.List.{append-nil}
use Rattle.homa_io.specs.Outside.{appended, TookFront}
use Rattle.homa_io.specs.Growing.{appended-nil}
use Rattle.homa_io.proofs.Fronts.{front_after}
use Rattle.node_runs.specs.Course.{Report, Datagram, Run}
use Rattle.node_runs.specs.Recorder.{Notes}
use Rattle.node_runs.specs.Observed.{Observed, observed, behind}
use Rattle.node_runs.specs.Texts.{sent_number, sent_by}
use Rattle.node_runs.proofs.Observing.{observed-usual, observed-strange}
use Rattle.node_turns.specs.Told.{text_by, notes_by, numbers_of, AreUsual, AreTold, BeginsNext, AreFront, AreStrange}
use Rattle.homa_node.specs.Served.{BeginsRun}

front_taken : {A : Type 0} (xs ys : List A) → take (length xs) (xs ++ ys) ≡ xs
front_taken [] ys = refl
front_taken (x ∷ xs) ys = ap (λ zs. x ∷ zs) (front_taken xs ys)

module _ (told : Notes → Report → List ℕ) (kept : Notes → Report → Notes) (strange : Notes → Report → Bool) where
  by_test : (n : Notes) (r : Report) (rs : List Report) (t : Bool) → strange n r ≡ t
      → observed told kept strange n (r ∷ rs)
      ≡ (if t then record { told = told n r; is_cut = true } else behind (told n r) (observed told kept strange (kept n r) rs))
  unfolding observed
  by_test n r rs t e = ap (λ x. if x then record { told = told n r; is_cut = true } else behind (told n r) (observed told kept strange (kept n r) rs)) e

  none_told : (n : Notes) → observed told kept strange n [] ≡ record { told = []; is_cut = false }
  unfolding observed
  none_told n = refl

  -- usual reports are told, and then what stands behind them
  pub observed_on : (n : Notes) (a b : List Report) → AreUsual told kept strange n a
      → observed told kept strange n (a ++ b) ≡ behind (text_by told kept strange n a) (observed told kept strange (notes_by told kept strange n a) b)
  observed_on n [] b u = refl
  observed_on n (r ∷ a) b u =
      by_test n r (a ++ b) false u.0
      ∙ (ap (behind (told n r)) (observed_on (kept n r) a b u.1)
      ∙ ap (λ t. record (observed told kept strange (notes_by told kept strange (kept n r) a) b) { told = t })
      (sym (append_assoc (told n r) (text_by told kept strange (kept n r) a)
      (observed told kept strange (notes_by told kept strange (kept n r) a) b).told)))

  -- all of them are told, where none is strange
  pub observed_whole : (n : Notes) (a : List Report) → AreUsual told kept strange n a
      → observed told kept strange n a ≡ record { told = text_by told kept strange n a; is_cut = false }
  observed_whole n a u =
      ap (observed told kept strange n) (sym (append-nil a))
      ∙ (observed_on n a [] u ∙ (ap (behind (text_by told kept strange n a)) (none_told (notes_by told kept strange n a))
      ∙ ap (λ t. record { told = t; is_cut = false }) (append-nil (text_by told kept strange n a))))

  -- all of them were told
  pub told_observed : (old new : Option (List ℕ)) (n m : Notes) (a : List Report) → AreTold told kept strange old n new m a
      → new ≡ appended old (observed told kept strange n a).told
  told_observed old new n m a t = t.text ∙ ap (λ (x : Observed ℕ). appended old x.told) (sym (observed_whole n a t.usual))

  -- one of them is strange, whatever stands behind
  pub strange_observed : (old new : Option (List ℕ)) (n : Notes) (a more : List Report) → AreStrange told kept strange old n new a
      → (new ≡ appended old (observed told kept strange n (a ++ more)).told) × ((observed told kept strange n (a ++ more)).is_cut ≡ true)
  strange_observed old new n a more s =
      let m = notes_by told kept strange n s.before in
      let path =
      ap (λ xs. observed told kept strange n (xs ++ more)) s.split ∙ (ap (observed told kept strange n) (append_assoc s.before (s.last ∷ []) more)
      ∙ (observed_on n s.before (s.last ∷ more) s.usual
      ∙ ap (behind (text_by told kept strange n s.before)) (by_test m s.last more true s.unusual))) in
      (s.text ∙ ap (λ (x : Observed ℕ). appended old x.told) (sym path), ap (λ (x : Observed ℕ). x.is_cut) path)

  first_told : (n : Notes) (r : Report) (rs : List Report) (t : Bool) → strange n r ≡ t → (rest : List ℕ)
      × ((observed told kept strange n (r ∷ rs)).told ≡ told n r ++ rest)
  first_told n r rs true e = ([], ap (λ (x : Observed ℕ). x.told) (by_test n r rs true e) ∙ sym (append-nil (told n r)))
  first_told n r rs false e = ((observed told kept strange (kept n r) rs).told, ap (λ (x : Observed ℕ). x.told) (by_test n r rs false e))

  next_observed : (old new : Option (List ℕ)) (n : Notes) (after more : List Report) → BeginsNext told kept strange old n new after
      → TookFront old new (observed told kept strange n (after ++ more)).told
  next_observed old new n [] more e = ([], (observed told kept strange n more).told, refl, e ∙ sym (appended-nil old))
  next_observed old new n (r ∷ rs) more f =
      let k = first_told n r (rs ++ more) (strange n r) refl in
      (f.0, f.1 ++ k.0, sym (append_assoc f.0 f.1 k.0) ∙ (ap (λ t. t ++ k.0) f.2 ∙ sym k.1), f.3)

  -- a front of them was told, whatever stands behind
  pub front_observed : (old new : Option (List ℕ)) (n : Notes) (a more : List Report) → AreFront told kept strange old n new a
      → TookFront old new (observed told kept strange n (a ++ more)).told
  front_observed old new n a more f =
      subst (λ (x : Observed ℕ). TookFront old new x.told)
      (sym (ap (λ xs. observed told kept strange n (xs ++ more)) f.split
      ∙ (ap (observed told kept strange n) (append_assoc f.before f.after more) ∙ observed_on n f.before (f.after ++ more) f.usual)))
      (front_after old (appended old (text_by told kept strange n f.before)) new (text_by told kept strange n f.before)
      (observed told kept strange (notes_by told kept strange n f.before) (f.after ++ more)).told refl
      (next_observed (appended old (text_by told kept strange n f.before)) new (notes_by told kept strange n f.before) f.after more f.next))

  -- ---- what the net took up to a strange report

  -- the packets that are told up to it
  numbers_observed : (n : Notes) (before : List Report) (last : Report) (more : List Report) → AreUsual told kept strange n before
      → strange (notes_by told kept strange n before) last ≡ true
      → (observed (λ m r. sent_number r) kept strange n (before ++ last ∷ more)).told ≡ numbers_of (before ++ last ∷ [])
  numbers_observed n [] last more u e =
      ap (λ (x : Observed ℕ). x.told) (observed-strange (λ m r. sent_number r) kept strange n last more e) ∙ sym (append-nil (sent_number last))
  numbers_observed n (r ∷ before) last more u e =
      ap (λ (x : Observed ℕ). x.told) (observed-usual (λ m r. sent_number r) kept strange n r (before ++ last ∷ more) u.0)
      ∙ ap (λ ns. sent_number r ++ ns) (numbers_observed (kept n r) before last more u.1 e)

  -- of a run that begins with these reports and datagrams, these are the datagrams up to it
  pub strange_sent : (old new : Option (List ℕ)) (n : Notes) (reports : List Report) (sent : List Datagram) (run : Run)
      → AreStrange told kept strange old n new reports → length sent ≡ length (numbers_of reports) → BeginsRun run reports sent
      → sent_by kept strange n run ≡ sent
  unfolding sent_by
  strange_sent old new n reports sent run s count b =
      let are : (observed (λ m r. sent_number r) kept strange n run.reports).told ≡ numbers_of reports =
      ap (λ rs. (observed (λ m r. sent_number r) kept strange n rs).told)
      (b.reports_are ∙ (ap (λ rs. rs ++ b.more) s.split ∙ append_assoc s.before (s.last ∷ []) b.more))
      ∙ (numbers_observed n s.before s.last b.more s.usual s.unusual ∙ ap numbers_of (sym s.split)) in
      ap (λ ns. take (length ns) run.sent) are ∙ (ap (λ m. take m run.sent) (sym count) ∙ (ap (take (length sent)) b.sent_is ∙ front_taken sent b.later))
