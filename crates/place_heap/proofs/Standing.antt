-- The index over an exchange, an addition and a removal. The item `f i` lies in the place i, and `at s` is the place of the slot s.
use Rattle.std.proofs.Common.{◌≡◌, ◌≢◌, ℕ, ◌+◌, ◌<◌, ◌≤◌, List, length, sym, ap, ◌∙◌, arith, ⊎_elim}
use Rattle.std.specs.Prelude.{slice_index}
use Rattle.std.proofs.lemmas.Bool.{cases_eq}
use Rattle.place_heap.specs.Order.{Item}
use Rattle.place_heap.specs.Held.{at, IsIndexed}
use Rattle.place_heap.proofs.Trees.{Exchanged}

-- the slots of the first `len` places stand there, and the others at `cap`
pub record Stands (f : ℕ → Item) (to : ℕ → ℕ) (len cap : ℕ) : Type 0 where
  pub slots : (i : ℕ) → i < len → (f i).0 < cap
  pub stands : (i : ℕ) → i < len → to (f i).0 ≡ i
  pub present : (slot : ℕ) → slot < cap → to slot < len → (f (to slot)).0 ≡ slot
  pub absent : (slot : ℕ) → slot < cap → len ≤ to slot → to slot ≡ cap

-- from the index of lists
pub of_indexed : (items : List Item) (places : List ℕ) (len : ℕ) → IsIndexed items places len → Stands (at items) (slice_index places) len (length places)
of_indexed items places len ix = record { slots = ix.slots; stands = ix.stands; present = ix.present; absent = ix.absent }

-- and back
pub to_indexed : (items : List Item) (places : List ℕ) (len : ℕ) → Stands (at items) (slice_index places) len (length places) → IsIndexed items places len
to_indexed items places len ix = record { slots = ix.slots; stands = ix.stands; present = ix.present; absent = ix.absent }

-- two items change places
module _ (f g : ℕ → Item) (to to' : ℕ → ℕ) (len cap i j : ℕ) (iin : i < len) (jin : j < len) (apart : i ≢ j) (fits : len ≤ cap) (changed : Exchanged f g i j)
    (first : to' (f i).0 ≡ j) (second : to' (f j).0 ≡ i) (rest : (s : ℕ) → s ≢ (f i).0 → s ≢ (f j).0 → to' s ≡ to s) (ix : Stands f to len cap) where
  -- the index is kept
  pub exchanged : Stands g to' len cap
  exchanged = record {
    slots = λ k kin.
        ⊎_elim (λ ki. omega (arith, ap (λ (x : Item). x.0) (ap g ki ∙ changed.first), ix.slots j jin))
        (λ ni. ⊎_elim (λ kj. omega (arith, ap (λ (x : Item). x.0) (ap g kj ∙ changed.second), ix.slots i iin))
        (λ nj. omega (arith, ap (λ (x : Item). x.0) (changed.rest k ni nj), ix.slots k kin))
        (cases_eq k j)) (cases_eq k i);
    stands = λ k kin.
        ⊎_elim (λ ki. ap (λ (x : Item). to' x.0) (ap g ki ∙ changed.first) ∙ second ∙ sym ki)
        (λ ni. ⊎_elim (λ kj. ap (λ (x : Item). to' x.0) (ap g kj ∙ changed.second) ∙ first ∙ sym kj)
        (λ nj. ap (λ (x : Item). to' x.0) (changed.rest k ni nj)
        ∙ rest (f k).0 (λ e. ni (sym (ix.stands k kin) ∙ ap to e ∙ ix.stands i iin)) (λ e. nj (sym (ix.stands k kin) ∙ ap to e ∙ ix.stands j jin))
        ∙ ix.stands k kin)
        (cases_eq k j)) (cases_eq k i);
    present = λ s sin tin.
        ⊎_elim (λ si. ap (λ n. (g n).0) (ap to' si ∙ first) ∙ ap (λ (x : Item). x.0) changed.second ∙ sym si)
        (λ ni. ⊎_elim (λ sj. ap (λ n. (g n).0) (ap to' sj ∙ second) ∙ ap (λ (x : Item). x.0) changed.first ∙ sym sj)
        (λ nj.
        let same : to' s ≡ to s = rest s ni nj in
        let was : (f (to s)).0 ≡ s = ix.present s sin (omega arith) in
        ap (λ n. (g n).0) same
        ∙ ap (λ (x : Item). x.0) (changed.rest (to s) (λ e. ni (sym was ∙ ap (λ n. (f n).0) e)) (λ e. nj (sym was ∙ ap (λ n. (f n).0) e))) ∙ was)
        (cases_eq s (f j).0)) (cases_eq s (f i).0);
    absent = λ s sin late.
        ⊎_elim (λ si. absurd (omega (arith, ap to' si, first)))
        (λ ni. ⊎_elim (λ sj. absurd (omega (arith, ap to' sj, second)))
        (λ nj. rest s ni nj ∙ ix.absent s sin (omega (arith, rest s ni nj)))
        (cases_eq s (f j).0)) (cases_eq s (f i).0);
  }

-- an item of an absent slot is put behind the others
module _ (f g : ℕ → Item) (to to' : ℕ → ℕ) (len cap : ℕ) (x : Item) (room : len < cap) (inside : x.0 < cap) (none : to x.0 ≡ cap) (here : g len ≡ x)
    (others : (k : ℕ) → k ≢ len → g k ≡ f k)
    (there : to' x.0 ≡ len) (rest : (s : ℕ) → s ≢ x.0 → to' s ≡ to s) (ix : Stands f to len cap) where
  -- the index has one more
  pub added : Stands g to' (len + 1) cap
  added = record {
    slots = λ k kin.
        ⊎_elim (λ kl. omega (arith, ap (λ (y : Item). y.0) (ap g kl ∙ here)))
        (λ nl. omega (arith, ap (λ (y : Item). y.0) (others k nl), ix.slots k (omega arith)))
        (cases_eq k len);
    stands = λ k kin.
        ⊎_elim (λ kl. ap (λ (y : Item). to' y.0) (ap g kl ∙ here) ∙ there ∙ sym kl)
        (λ nl. let was : to (f k).0 ≡ k = ix.stands k (omega arith) in
        ap (λ (y : Item). to' y.0) (others k nl) ∙ rest (f k).0 (λ e. absurd (omega (arith, was, ap to e, none))) ∙ was)
        (cases_eq k len);
    present = λ s sin tin.
        ⊎_elim (λ sx. ap (λ n. (g n).0) (ap to' sx ∙ there) ∙ ap (λ (y : Item). y.0) here ∙ sym sx)
        (λ nx. let same : to' s ≡ to s = rest s nx in
        ⊎_elim (λ e. absurd (omega (arith, ix.absent s sin (omega arith))))
        (λ ne. ap (λ n. (g n).0) same ∙ ap (λ (y : Item). y.0) (others (to s) ne) ∙ ix.present s sin (omega arith))
        (cases_eq (to s) len)) (cases_eq s x.0);
    absent = λ s sin late.
        ⊎_elim (λ sx. absurd (omega (arith, ap to' sx, there)))
        (λ nx. rest s nx ∙ ix.absent s sin (omega (arith, rest s nx)))
        (cases_eq s x.0);
  }

-- items change, but not their slots
pub rekeyed : (f g : ℕ → Item) (to : ℕ → ℕ) (len cap : ℕ) → ((k : ℕ) → (g k).0 ≡ (f k).0) → Stands f to len cap → Stands g to len cap
rekeyed f g to len cap same ix = record {
  slots = λ k kin. omega (arith, same k, ix.slots k kin);
  stands = λ k kin. ap to (same k) ∙ ix.stands k kin;
  present = λ s sin tin. same (to s) ∙ ix.present s sin tin;
  absent = ix.absent;
}

-- the slot at p goes, and the last item takes its place
module _ (f g : ℕ → Item) (to to' : ℕ → ℕ) (last cap slot p : ℕ) (fits : last < cap) (inside : slot < cap) (here : to slot ≡ p) (within : p ≤ last)
    (filled : p < last → g p ≡ f last) (others : (k : ℕ) → k ≢ p → g k ≡ f k) (gone : to' slot ≡ cap) (there : p < last → to' (f last).0 ≡ p)
    (rest : (s : ℕ) → s ≢ slot → s ≢ (f last).0 → to' s ≡ to s) (ix : Stands f to (last + 1) cap) where
  -- the slot stood at p
  at_p : (f p).0 ≡ slot
  at_p = ap (λ n. (f n).0) (sym here) ∙ ix.present slot inside (omega arith)

  -- the slot of the last item is that which goes, or the last item is another
  other : (s : ℕ) → s ≢ slot → s ≡ (f last).0 → p < last
  other s ns e = ⊎_elim (λ pl. absurd (ns (e ∙ ap (λ n. (f n).0) (sym pl) ∙ at_p))) (λ ne. omega arith) (cases_eq p last)

  -- the index has one less
  pub removed : Stands g to' last cap
  removed = record {
    slots = λ k kin.
        ⊎_elim (λ kp. omega (arith, ap (λ (y : Item). y.0) (ap g kp ∙ filled (omega arith)), ix.slots last (omega arith)))
        (λ np. omega (arith, ap (λ (y : Item). y.0) (others k np), ix.slots k (omega arith)))
        (cases_eq k p);
    stands = λ k kin.
        ⊎_elim (λ kp. ap (λ (y : Item). to' y.0) (ap g kp ∙ filled (omega arith)) ∙ there (omega arith) ∙ sym kp)
        (λ np. let was : to (f k).0 ≡ k = ix.stands k (omega arith) in
        ap (λ (y : Item). to' y.0) (others k np)
        ∙ rest (f k).0 (λ e. np (sym was ∙ ap to e ∙ here)) (λ e. absurd (omega (arith, was, ap to e, ix.stands last (omega arith)))) ∙ was)
        (cases_eq k p);
    present = λ s sin tin.
        ⊎_elim (λ e. absurd (omega (arith, ap to' e, gone)))
        (λ ns. ⊎_elim
        (λ e. let less : p < last = other s ns e in ap (λ n. (g n).0) (ap to' e ∙ there less) ∙ ap (λ (y : Item). y.0) (filled less) ∙ sym e)
        (λ nl. let same : to' s ≡ to s = rest s ns nl in let was : (f (to s)).0 ≡ s = ix.present s sin (omega arith) in
        ap (λ n. (g n).0) same ∙ ap (λ (y : Item). y.0) (others (to s) (λ e. ns (sym was ∙ ap (λ n. (f n).0) e ∙ at_p))) ∙ was)
        (cases_eq s (f last).0)) (cases_eq s slot);
    absent = λ s sin late.
        ⊎_elim (λ e. ap to' e ∙ gone)
        (λ ns. ⊎_elim
        (λ e. let less : p < last = other s ns e in absurd (omega (arith, ap to' e, there less)))
        (λ nl. let same : to' s ≡ to s = rest s ns nl in
        ⊎_elim (λ e. absurd (nl (sym (ix.present s sin (omega arith)) ∙ ap (λ n. (f n).0) e)))
        (λ ne. same ∙ ix.absent s sin (omega arith))
        (cases_eq (to s) last))
        (cases_eq s (f last).0)) (cases_eq s slot);
  }
