-- What a net took of a recording that was broken off: no datagram behind the first that is strange.
use Rattle.std.proofs.Common.{◌≡◌, ◌≤◌, ◌+◌, inl, inr, ℕ, zero, suc, Bool, true, false, Option, None, Some, List, [], ◌∷◌, ◌++◌, length, take, refl}
use Rattle.std.proofs.Common.{sym, ap, ◌∙◌, subst, append_assoc, arith}
use Rattle.std.specs.List.{AllByRecursion}
use Rattle.std.proofs.lemmas.List.{append-nil, length-append}
use Rattle.homa_plain.specs.Entries.{PlainEntry, PlainRecv}
use Rattle.node_io.specs.Net.{sent_in}
use Rattle.node_io.specs.Observer.{IsComing}
use Rattle.node_runs.specs.Course.{Report, Tells, Turning, Datagram, Run}
use Rattle.node_runs.specs.Acts.{Act, sents}
use Rattle.node_runs.specs.Recorder.{Notes}
use Rattle.node_runs.specs.Observed.{Observed, observed}
use Rattle.node_runs.specs.Texts.{sent_number, sent_by}
use Rattle.node_runs.proofs.Observing.{observed-usual}
use Rattle.node_turns.specs.Told.{listed, ListedFront, numbers_of, notes_by, AreUsual, Hears, IsWithin, AreOfOneStep, IsHeld, AreBroken}
use Rattle.node_turns.proofs.Lists.{numbers_parts}
use Rattle.node_turns.proofs.Done.{sents_parts}
use Rattle.homa_node.specs.Served.{BeginsRun}

module _ (told : Notes → Report → List ℕ) (kept : Notes → Report → Notes) (strange : Notes → Report → Bool)
    (comes : (n : Notes) (r : Report) → strange n r ≡ true → IsComing r) where
  -- the packets that usual reports tell come first
  usual_numbers : (n : Notes) (a b : List Report) → AreUsual told kept strange n a
      → (observed (λ m r. sent_number r) kept strange n (a ++ b)).told
      ≡ numbers_of a ++ (observed (λ m r. sent_number r) kept strange (notes_by told kept strange n a) b).told
  usual_numbers n [] b u = refl
  usual_numbers n (r ∷ a) b u =
      ap (λ (x : Observed ℕ). x.told) (observed-usual (λ m r. sent_number r) kept strange n r (a ++ b) u.0)
      ∙ ap (λ ns. sent_number r ++ ns) (usual_numbers (kept n r) a b u.1)
      ∙ sym (append_assoc (sent_number r) (numbers_of a) (observed (λ m r. sent_number r) kept strange (notes_by told kept strange (kept n r) a) b).told)

  -- what isn't told by a datagram that comes is usual
  one_usual : (n : Notes) (r : Report) → (IsComing r → ⊥) → (t : Bool) → strange n r ≡ t → strange n r ≡ false
  one_usual n r never true e = absurd (never (comes n r e))
  one_usual n r never false e = e

  within_never : (r : Report) → IsWithin r → IsComing r → ⊥
  within_never (Turning host) w c = w
  within_never (Tells e) w c = by_entry e w c
    where
      by_entry : (e : PlainEntry) → IsWithin (Tells e) → IsComing (Tells e) → ⊥
      by_entry (PlainRecv host from bytes) w c = w
      by_entry e w c = c

  within_usual : (n : Notes) (rs : List Report) → AllByRecursion IsWithin rs → AreUsual told kept strange n rs
  within_usual n [] all = tt
  within_usual n (r ∷ rs) all = (one_usual n r (within_never r all.0) (strange n r) refl, within_usual (kept n r) rs all.1)

  usual_on : (n : Notes) (a b : List Report) → AreUsual told kept strange n a → AreUsual told kept strange (notes_by told kept strange n a) b
      → AreUsual told kept strange n (a ++ b)
  usual_on n [] b u v = v
  usual_on n (r ∷ a) b u v = (u.0, usual_on (kept n r) a b u.1 v)

  -- so many packets at least are told up to the first report that is strange
  least_numbers : (n : Notes) (a b : List Report) → AreUsual told kept strange n a
      → length (numbers_of a) ≤ length (observed (λ m r. sent_number r) kept strange n (a ++ b)).told
  least_numbers n a b u =
      omega (
        arith,
        ap length (usual_numbers n a b u),
        length-append (numbers_of a)
            (observed (λ m r. sent_number r) kept strange (notes_by told kept strange n a) b).told,
      )

  -- as many as were taken of these, where the first of what wasn't told is strange or not
  taken_most : (n : Notes) (before after more : List Report) (taken : ℕ) → AreUsual told kept strange n before → AreOfOneStep after
      → IsHeld after (length (numbers_of before)) taken → taken ≤ length (numbers_of (before ++ after))
      → taken ≤ length (observed (λ m r. sent_number r) kept strange n ((before ++ after) ++ more)).told
  taken_most n before [] more taken u one held most =
      omega (arith, most, least_numbers n (before ++ []) more (usual_on n before [] u tt))
  taken_most n before (Turning host ∷ rs) more taken u one held most =
      omega (
        arith,
        most,
        least_numbers n (before ++ Turning host ∷ rs) more (usual_on n before (Turning host ∷ rs) u (
          one_usual (notes_by told kept strange n before) (Turning host) (λ c. c) (strange (notes_by told kept strange n before) (Turning host)) refl,
          within_usual (kept (notes_by told kept strange n before) (Turning host)) rs one,
        )),
      )
  taken_most n before (Tells e ∷ rs) more taken u one held most = by_entry e held most
    where
      by_entry : (e : PlainEntry) → IsHeld (Tells e ∷ rs) (length (numbers_of before)) taken → taken ≤ length (numbers_of (before ++ Tells e ∷ rs))
          → taken ≤ length (observed (λ m r. sent_number r) kept strange n ((before ++ Tells e ∷ rs) ++ more)).told
      by_entry (PlainRecv host from bytes) held most =
          subst (λ xs. taken ≤ length (observed (λ m r. sent_number r) kept strange n xs).told)
          (sym (append_assoc before (Tells (PlainRecv host from bytes) ∷ rs) more))
          (omega (arith, held, least_numbers n before (Tells (PlainRecv host from bytes) ∷ (rs ++ more)) u))
      by_entry e held most =
          omega (
            arith,
            most,
            least_numbers n (before ++ Tells e ∷ rs) more (usual_on n before (Tells e ∷ rs) u (
              one_usual (notes_by told kept strange n before) (Tells e) (λ c. c) (strange (notes_by told kept strange n before) (Tells e)) refl,
              within_usual (kept (notes_by told kept strange n before) (Tells e)) rs one,
            )),
          )

  front_take : (n : ℕ) (front rest : List Datagram) → length front ≤ n → (more : List Datagram) × (take n (front ++ rest) ≡ front ++ more)
  front_take n [] rest l = (take n rest, refl)
  front_take zero (d ∷ front) rest l = absurd (omega (arith, l))
  front_take (suc n) (d ∷ front) rest l = let k = front_take n front rest (omega (arith, l)) in (k.0, ap (λ ds. d ∷ ds) k.1)

  cancelled : {A : Type 0} (xs a b : List A) → xs ++ a ≡ xs ++ b → a ≡ b
  cancelled [] a b e = e
  cancelled (x ∷ xs) a b e = let tail : xs ++ a ≡ xs ++ b = cc in cancelled xs a b tail

  some_same : {A : Type 0} (x y : A) → Some x ≡ Some y → x ≡ y
  some_same x y e = cc

  -- a front was taken of what is to be taken of the run
  pub front_recorded : (t0 t1 : Option (List ℕ)) (d0 d1 : Option (List Act)) (s0 s1 : Option (List Datagram)) (first : List Act) (n : Notes)
      (reports : List Report) (sent : List Datagram) (run : Run) → s0 ≡ sent_in d0 → s1 ≡ sent_in d1 → sents first ≡ []
      → AreBroken told kept strange t0 n t1 (listed d0 first) d1 (Hears 64) reports → ListedFront s0 s1 sent → length sent ≡ length (numbers_of reports)
      → BeginsRun run reports sent → ListedFront s0 s1 (sent_by kept strange n run)
  unfolding sent_by
  front_recorded t0 t1 None d1 s0 s1 first n reports sent run l0 l1 none broken took count b = record {
    front = [];
    rest = take (length (observed (λ (m : Notes) (report : Report). sent_number report) kept strange n run.reports).told) run.sent;
    split = refl;
    is = took.is ∙ ap (λ o. listed o took.front) l0 ∙ sym (ap (λ o. listed {A = Datagram} o []) l0);
  }
  front_recorded t0 t1 (Some x) d1 s0 s1 first n reports sent run l0 l1 none broken took count b =
      let f = broken.front in
      let acts = broken.done.acts in
      let parts : sents ((x ++ first) ++ acts) ≡ sents x ++ sents acts =
      sents_parts (x ++ first) acts ∙ ap (λ ds. ds ++ sents acts) (sents_parts x first ∙ ap (λ ds. sents x ++ ds) none ∙ append-nil (sents x)) in
      let both : sents ((x ++ first) ++ acts) ≡ sents x ++ took.front =
      some_same (sents ((x ++ first) ++ acts)) (sents x ++ took.front)
      (sym (ap sent_in broken.done.is) ∙ sym l1 ∙ took.is ∙ ap (λ o. listed o took.front) l0) in
      let same : sents acts ≡ took.front = cancelled (sents x) (sents acts) took.front (sym parts ∙ both) in
      let held = subst (λ ds. IsHeld f.after (length (numbers_of f.before)) (length ds)) same broken.held in
      let most : length took.front ≤ length (numbers_of (f.before ++ f.after)) =
      omega (arith, ap length took.split, length-append took.front took.rest, count, ap length (ap numbers_of f.split)) in
      let least = taken_most n f.before f.after b.more (length took.front) f.usual broken.one held most in
      let told_is : run.reports ≡ (f.before ++ f.after) ++ b.more = b.reports_are ∙ ap (λ rs. rs ++ b.more) f.split in
      let enough = subst (λ rs. length took.front ≤ length (observed (λ (m : Notes) (report : Report). sent_number report) kept strange n rs).told)
      (sym told_is) least in
      let k = front_take (length (observed (λ (m : Notes) (report : Report). sent_number report) kept strange n run.reports).told) took.front
      (took.rest ++ b.later) enough in
      record {
        front = took.front;
        rest = k.0;
        split = sym k.1 ∙ ap (take (length (observed (λ (m : Notes) (report : Report). sent_number report) kept strange n run.reports).told))
            (sym (append_assoc took.front took.rest b.later) ∙ ap (λ ds. ds ++ b.later) took.split ∙ sym b.sent_is);
        is = took.is;
      }
