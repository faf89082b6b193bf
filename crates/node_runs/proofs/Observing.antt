-- What an observer tells of reports, and of more reports behind them.
use Rattle.std.proofs.Common.{◌≡◌, ℕ, Bool, true, false, List, [], ◌∷◌, ◌++◌, refl, sym, ap, ◌∙◌, append_assoc}
use Rattle.std.specs.Prelude.{if◌then◌else◌}
use Rattle.std.specs.List.{flat_map}
use Rattle.std.proofs.lemmas.Bool.{true≢false}
use Rattle.homa_plain.specs.Text.{line_text}
use Rattle.node_runs.specs.Course.{Report, Tells, Turning}
use Rattle.node_runs.specs.Recorder.{Notes}
use Rattle.node_runs.specs.Observed.{Observed, behind, observed, never, same_notes}
use Rattle.node_runs.specs.Texts.{entries, printed}

-- what is kept behind some reports
abbrev pub notes_behind : (Notes → Report → Notes) → Notes → List Report → Notes
notes_behind kept n [] = n
notes_behind kept n (r ∷ rs) = notes_behind kept (kept n r) rs

module _ {A : Type 0} (told : Notes → Report → List A) (kept : Notes → Report → Notes) (strange : Notes → Report → Bool) where
  observed_by : (n : Notes) (r : Report) (rs : List Report) (t : Bool) → strange n r ≡ t
      → observed told kept strange n
      (r ∷ rs) ≡ (if t then record { told = told n r; is_cut = true } else behind (told n r) (observed told kept strange (kept n r) rs))
  unfolding observed
  observed_by n r rs t e =
      ap (λ (b : Bool). if b then (let cut : Observed A = record { told = told n r; is_cut = true } in cut)
      else behind (told n r) (observed told kept strange (kept n r) rs)) e

  -- one that isn't strange
  pub observed-usual : (n : Notes) (r : Report) (rs : List Report) → strange n r ≡ false
      → observed told kept strange n (r ∷ rs) ≡ behind (told n r) (observed told kept strange (kept n r) rs)
  observed-usual n r rs e = observed_by n r rs false e

  -- one that is
  pub observed-strange : (n : Notes) (r : Report) (rs : List Report) → strange n r ≡ true
      → observed told kept strange n (r ∷ rs) ≡ record { told = told n r; is_cut = true }
  observed-strange n r rs e = observed_by n r rs true e

  -- where nothing is strange, the first isn't, and nothing behind it
  pub usual-first : (n : Notes) (r : Report) (rs : List Report) → (observed told kept strange n (r ∷ rs)).is_cut ≡ false
      → (strange n r ≡ false) × ((observed told kept strange (kept n r) rs).is_cut ≡ false)
  unfolding observed
  usual-first n r rs h = by_test (strange n r) refl h where
    by_test : (t : Bool) → strange n r ≡ t
        → (if t then (let cut : Observed A = record { told = told n r; is_cut = true } in cut)
        else behind (told n r) (observed told kept strange (kept n r) rs)).is_cut ≡ false
        → (strange n r ≡ false) × ((observed told kept strange (kept n r) rs).is_cut ≡ false)
    by_test true e h = absurd (true≢false h)
    by_test false e h = (e, h)

  pub usual-none : (n : Notes) → (observed told kept strange n []).is_cut ≡ false
  unfolding observed
  usual-none n = refl

  pub usual-append : (n : Notes) (a b : List Report) → (observed told kept strange n (a ++ b)).is_cut ≡ false
      → ((observed told kept strange n a).is_cut ≡ false) × ((observed told kept strange (notes_behind kept n a) b).is_cut ≡ false)
  usual-append n [] b h = (usual-none n, h)
  usual-append n (r ∷ a) b h =
      let first = usual-first n r (a ++ b) h in
      let rest = usual-append (kept n r) a b first.1 in
      (ap (λ (o : Observed A). o.is_cut) (observed-usual n r a first.0) ∙ rest.0, rest.1)

  -- what is told of more reports stands behind what is told of the first ones
  pub observed-append : (n : Notes) (a b : List Report) → (observed told kept strange n a).is_cut ≡ false
      → observed told kept strange n (a ++ b) ≡ behind (observed told kept strange n a).told (observed told kept strange (notes_behind kept n a) b)
  unfolding observed
  observed-append n [] b h = refl
  observed-append n (r ∷ a) b h =
      let first = usual-first n r a h in
      let one = observed told kept strange (kept n r) a in
      let rest = observed told kept strange (notes_behind kept (kept n r) a) b in
      observed-usual n r (a ++ b) first.0 ∙ ap (behind (told n r)) (observed-append (kept n r) a b first.1)
      ∙ ap (λ (xs : List A). let o : Observed A = record { told = xs; is_cut = rest.is_cut } in o) (sym (append_assoc (told n r) one.told rest.told))
      ∙ ap (λ (o : Observed A). behind o.told rest) (sym (observed-usual n r a first.0))

-- whether the last one was strange is the same, whatever is told
pub same-cut : {A B : Type 0} (told : Notes → Report → List A) (other : Notes → Report → List B) (kept : Notes → Report → Notes)
    (strange : Notes → Report → Bool) (n : Notes) (rs : List Report)
    → (observed told kept strange n rs).is_cut ≡ (observed other kept strange n rs).is_cut
unfolding observed
same-cut told other kept strange n [] = refl
same-cut {A} {B} told other kept strange n (r ∷ rs) = by_test (strange n r) (same-cut told other kept strange (kept n r) rs) where
  by_test : (t : Bool) → (observed told kept strange (kept n r) rs).is_cut ≡ (observed other kept strange (kept n r) rs).is_cut
      → (if t then (let cut : Observed A = record { told = told n r; is_cut = true } in cut)
      else behind (told n r) (observed told kept strange (kept n r) rs)).is_cut
      ≡ (if t then (let cut : Observed B = record { told = other n r; is_cut = true } in cut)
      else behind (other n r) (observed other kept strange (kept n r) rs)).is_cut
  by_test true e = refl
  by_test false e = e

-- a node prints the lines of its entries
pub printed-entries : (n : Notes) (rs : List Report)
    → (observed (λ (m : Notes) (r : Report). printed r) same_notes never n rs).told ≡ flat_map line_text (entries rs)
unfolding observed
printed-entries n [] = refl
printed-entries n (Tells entry ∷ rs) = ap (λ (xs : List ℕ). line_text entry ++ xs) (printed-entries n rs)
printed-entries n (Turning host ∷ rs) = printed-entries n rs
