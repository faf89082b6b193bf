-- Heaps in one block: one more is made, one is changed, and the last is taken out.
use Rattle.std.proofs.Common.{◌≡◌, ℕ, zero, suc, ◌+◌, ◌-◌, ◌<◌, List, [], ◌∷◌, ◌++◌, length, set, get_or, Option, refl, sym, ap, subst, ◌∙◌}
use Rattle.std.proofs.Common.{arith, false, ⊎_elim, replicate, length-set}
use Rattle.std.specs.List.{AllByRecursion}
use Rattle.std.proofs.lemmas.Bool.{cases_eq}
use Rattle.std.proofs.lemmas.List.{get_or_append_left, get_or_push, get_or-set_same, get_or-set_other, length-append, length-replicate}
use Rattle.place_heap.specs.declared.cells.Base.{Base}
use Rattle.place_heap.specs.declared.cells.Cell.{Cell}
use Rattle.place_heap.specs.Held.{Held}
use Rattle.place_heap.specs.Cells.{blanks, after}
use Rattle.place_heap.specs.Heaps.{no_heap, IsAt, AreAt, AreBefore, AreLaid}
use Rattle.place_heap.proofs.Values.{tail_of}

-- a list with one more thing
pub one_more : {A : Type 0} (xs : List A) (x : A) → length (xs ++ x ∷ []) ≡ length xs + 1
one_more xs x = length-append xs (x ∷ [])

-- copies of a thing, of which there is one at least
pub some_copies : {A : Type 0} (n : ℕ) (x : A) → 0 < n → replicate n x ≡ x ∷ replicate (n - 1) x
some_copies n x some = ap (λ k. replicate k x) (let e : n ≡ suc (n - 1) = omega arith in e)

module _ (cap : ℕ) (base : Base) (heaps : List Held) where
  -- with one more
  pub at_push : (h : Held) → AreAt cap base heaps → IsAt cap base (length heaps) h → AreAt cap base (heaps ++ h ∷ [])
  at_push h each there i inside =
      ⊎_elim
      (λ e. subst (λ (x : Held). IsAt cap base i x) (sym (get_or_push heaps h no_heap i (sym e))) (subst (λ n. IsAt cap base n h) (sym e) there))
      (λ ne. let below : i < length heaps = omega (arith, one_more heaps h) in
      subst (λ (x : Held). IsAt cap base i x) (sym (get_or_append_left heaps (h ∷ []) no_heap i below)) (each i below))
      (cases_eq i (length heaps))

  -- one is another at the same place
  pub at_set : (i : ℕ) (h : Held) → i < length heaps → AreAt cap base heaps → h.spot ≡ (get_or heaps i no_heap).spot
      → length h.cells ≡ length (get_or heaps i no_heap).cells → AreAt cap base (set heaps i h)
  at_set i h inside each spot cells k below =
      ⊎_elim
      (λ e. subst (λ n. IsAt cap base n (get_or (set heaps i h) n no_heap)) (sym e)
      (subst (λ (x : Held). IsAt cap base i x) (sym (get_or-set_same heaps i h no_heap inside))
      (record { spot = spot ∙ (each i inside).spot; cells = cells ∙ (each i inside).cells })))
      (λ ne. subst (λ (x : Held). IsAt cap base k x) (sym (get_or-set_other heaps i k h no_heap ne)) (each k (omega (arith, length-set heaps i h))))
      (cases_eq k i)

  -- without the last
  pub at_pop : (h : Held) → AreAt cap base (heaps ++ h ∷ []) → AreAt cap base heaps
  at_pop h each i inside =
      subst (λ (x : Held). IsAt cap base i x) (get_or_append_left heaps (h ∷ []) no_heap i inside) (each i (omega (arith, one_more heaps h)))

  -- the last
  pub at_last : (h : Held) → AreAt cap base (heaps ++ h ∷ []) → IsAt cap base (length heaps) h
  at_last h each =
      subst (λ (x : Held). IsAt cap base (length heaps) x) (get_or_push heaps h no_heap (length heaps) refl)
      (each (length heaps) (omega (arith, one_more heaps h)))

module _ {heaps : List Held} {base : Base} {many cap : ℕ} {next : Base} {len : ℕ} {strips : List (List (Option Cell))}
    (laid : AreLaid heaps base many cap next len strips) where
  -- there is room for one more
  pub next_strip : length heaps < many → strips ≡ blanks cap ∷ replicate (many - length heaps - 1) (blanks cap)
  next_strip room = laid.left ∙ some_copies (many - length heaps) (blanks cap) (omega arith)

  -- one more
  pub laid_more : (h : Held) (rest : List (List (Option Cell))) → length heaps < many → h.spot ≡ record { base = next; frees = false }
      → length h.cells ≡ cap → strips ≡ blanks cap ∷ rest → AreLaid (heaps ++ h ∷ []) base many cap (after next) len rest
  laid_more h rest room spot cells has = record {
    each = at_push cap base heaps h laid.each (record { spot = spot ∙ (λ j. record { base = laid.next_is j; frees = false }); cells = cells });
    first = laid.first;
    stride = laid.stride;
    within = omega (arith, one_more heaps h);
    few = laid.few;
    small = laid.small;
    next_is = ap after laid.next_is ∙ ap (λ n. record base { first = n }) (sym (one_more heaps h));
    len_is = laid.len_is;
    left = tail_of (sym has ∙ next_strip room)
        ∙ ap (λ n. replicate n (blanks cap)) (let e : many - length heaps - 1 ≡ many - length (heaps ++ h ∷ []) = omega (arith, one_more heaps h) in e);
  }

  -- one is another at the same place
  pub laid_set : (i : ℕ) (h : Held) → i < length heaps → h.spot ≡ (get_or heaps i no_heap).spot → length h.cells ≡ length (get_or heaps i no_heap).cells
      → AreLaid (set heaps i h) base many cap next len strips
  laid_set i h inside spot cells = record {
    each = at_set cap base heaps i h inside laid.each spot cells;
    first = laid.first;
    stride = laid.stride;
    within = omega (arith, length-set heaps i h, laid.within);
    few = laid.few;
    small = laid.small;
    next_is = laid.next_is ∙ ap (λ n. record base { first = n }) (sym (length-set heaps i h));
    len_is = laid.len_is;
    left = laid.left ∙ ap (λ n. replicate (many - n) (blanks cap)) (sym (length-set heaps i h));
  }

  -- copies of one length are of that length
  even_blanks : (n : ℕ) → AllByRecursion (λ (cells : List (Option Cell)). length cells ≡ cap) (replicate n (blanks cap))
  even_blanks zero = tt
  even_blanks (suc n) = (length-replicate cap _, even_blanks n)

  -- they lie before what is left
  pub laid_before : AreBefore heaps next len strips
  laid_before = record {
    each = λ i inside. let at = laid.each i inside in record {
      spot = at.spot ∙ (λ j. record { base = record (sym laid.next_is j) { first = i }; frees = false });
      cells = at.cells ∙ sym laid.len_is;
    };
    before = ap (λ (b : Base). b.first) laid.next_is;
    even = subst (λ n. AllByRecursion (λ (cells : List (Option Cell)). length cells ≡ n) strips) (sym laid.len_is)
        (subst (AllByRecursion (λ (cells : List (Option Cell)). length cells ≡ cap)) (sym laid.left) (even_blanks (many - length heaps)));
  }

module _ (heaps : List Held) (h : Held) (base : Base) (cap : ℕ) (strips : List (List (Option Cell)))
    (before : AreBefore (heaps ++ h ∷ []) base cap strips) where
  -- the last lies right before what is left
  pub last_spot : h.spot ≡ record { base = record base { first = length heaps }; frees = false }
  last_spot = (at_last cap base heaps h before.each).spot

  -- what is left begins after it
  pub last_next : after (record base { first = length heaps }) ≡ base
  last_next = ap (λ n. record base { first = n }) (sym (before.before ∙ one_more heaps h))

  -- it has as many cells as each
  pub last_cells : length h.cells ≡ cap
  last_cells = (at_last cap base heaps h before.each).cells

  -- with its cells the others lie before what is left
  pub without_last : (base' : Base) (slots : List (Option Cell)) → base' ≡ record base { first = length heaps } → length slots ≡ cap
      → AreBefore heaps base' cap (slots ∷ strips)
  without_last base' slots is len = subst (λ (b : Base). AreBefore heaps b cap (slots ∷ strips)) (sym is)
      (record {
        each = λ i inside. let at = at_pop cap base heaps h before.each i inside in record { spot = at.spot; cells = at.cells };
        before = refl;
        even = (len, before.even);
      })
