-- Chains of pages: where a chain goes on, and how chains that are apart are parted and joined.
use Rattle.std.proofs.Common.{◌≡◌, ◌≢◌, ℕ, zero, suc, ◌+◌, ◌-◌, ◌<◌, ◌≤◌, cond, ltb, eqb, List, length, inl, inr, refl, sym, ap, subst, ◌∙◌, arith}
use Rattle.std.proofs.Common.{slice_index, set, get_or-set_other, get_or-set_same, length-set}
use Rattle.std.proofs.lemmas.Bool.{cases_eq, cases_lt, lt-ltb, le-ltb, eq-eqb, ne_eqb}
use Rattle.msg_pool.specs.Pages.{page_at}
use Rattle.msg_pool.specs.Chains.{AreApart}

-- a chain goes on from each of its pages
pub page_at-plus : (next : List ℕ) (first a b : ℕ) → page_at next first (a + b) ≡ page_at next (page_at next first a) b
page_at-plus next first a zero = ap (page_at next first) (omega arith)
page_at-plus next first a (suc b) =
    let e : a + suc b ≡ suc (a + b) = omega arith in
    ap (page_at next first) e ∙ ap (slice_index next) (page_at-plus next first a b)

-- another next page of a page that comes later changes nothing
pub page_at-set : (next : List ℕ) (last page first i : ℕ) → ((j : ℕ) → j < i → page_at next first j ≢ last)
    → page_at (set next last page) first i ≡ page_at next first i
page_at-set next last page first zero off = refl
page_at-set next last page first (suc i) off =
    ap (slice_index (set next last page)) (page_at-set next last page first i (λ j l. off j (omega arith)))
    ∙ get_or-set_other next last (page_at next first i) page 0 (off i (omega arith))

-- where a page of a chain was before: in which chain, and at which place
pub record WasAt (next next' : List ℕ) (a : ℕ → ℕ × ℕ) (back : ℕ → ℕ → ℕ × ℕ) (chain : ℕ × ℕ) (k i : ℕ) : Type 0 where
  pub from_chain : ℕ
  pub from_place : ℕ
  pub there : from_place < (a from_chain).1
  pub same : page_at next' chain.0 i ≡ page_at next (a from_chain).0 from_place
  pub again : back from_chain from_place ≡ (k, i)

-- chains are apart if each of their pages comes from a place of its own
moved : (next next' : List ℕ) (a b : ℕ → ℕ × ℕ) (back : ℕ → ℕ → ℕ × ℕ) → AreApart next a → length next' ≡ length next
    → ((k i : ℕ) → i < (b k).1 → WasAt next next' a back (b k) k i) → AreApart next' b
moved next next' a b back apart l was = record {
  owner = λ p. back (apart.owner p).0 (apart.owner p).1;
  owns = λ k i h.
      let w = was k i h in
      let o = apart.owns w.from_chain w.from_place w.there in
      ap (λ p. back (apart.owner p).0 (apart.owner p).1) w.same ∙ ap (λ (p : ℕ × ℕ). back p.0 p.1) o ∙ w.again;
  within = λ k i h.
      let w = was k i h in
      let low : page_at next (a w.from_chain).0 w.from_place < length next = apart.within w.from_chain w.from_place w.there in
      let low' : page_at next' (b k).0 i < length next = subst (λ p. p < length next) (sym w.same) low in
      subst (λ n. page_at next' (b k).0 i < n) (sym l) low';
}

-- a page stands in one chain alone, and once
pub one_place : (next : List ℕ) (a : ℕ → ℕ × ℕ) → AreApart next a → (k j i n : ℕ) → i < (a k).1 → n < (a j).1
    → page_at next (a k).0 i ≡ page_at next (a j).0 n → (k ≡ j) × (i ≡ n)
one_place next a apart k j i n l m e =
    let both : (k, i) ≡ (j, n) = sym (apart.owns k i l) ∙ ap apart.owner e ∙ apart.owns j n m in
    (ap (λ (p : ℕ × ℕ). p.0) both, ap (λ (p : ℕ × ℕ). p.1) both)

-- where a page of the free chain is, and where it was, when the first ones are taken
parted_from : (need key : ℕ) → ℕ → ℕ → ℕ × ℕ
parted_from need key zero i = cond (ltb i need) (suc key, i) (0, i - need)
parted_from need key (suc k) i = (suc k, i)

module _ (next : List ℕ) (a : ℕ → ℕ × ℕ) (need key : ℕ) (enough : need ≤ (a 0).1) where
  -- a page that stays free
  still_free : (i : ℕ) → i < (a 0).1 - need → WasAt next next a (parted_from need key) (page_at next (a 0).0 need, (a 0).1 - need) 0 i
  unfolding parted_from
  still_free i h = record {
    from_chain = 0;
    from_place = need + i;
    there = omega arith;
    same = sym (page_at-plus next (a 0).0 need i);
    again =
        let n : need + i - need ≡ i = omega arith in
        ap (λ b. cond b (suc key, need + i) (0, need + i - need)) (le-ltb (need + i) need (omega arith)) ∙ ap (λ (n : ℕ). (0, n)) n;
  }

  -- a page that is taken
  taken : (i : ℕ) → i < need → WasAt next next a (parted_from need key) ((a 0).0, need) (suc key) i
  unfolding parted_from
  taken i h = record {
    from_chain = 0;
    from_place = i;
    there = omega arith;
    same = refl;
    again = ap (λ b. cond b (suc key, i) (0, i - need)) (lt-ltb i need h);
  }

  -- a page of another chain
  not_taken : (k i : ℕ) → i < (a (suc k)).1 → WasAt next next a (parted_from need key) (a (suc k)) (suc k) i
  unfolding parted_from
  not_taken k i h = record { from_chain = suc k; from_place = i; there = h; same = refl; again = refl }

-- the first of the free pages become a chain of their own
pub parted : (next : List ℕ) (a b : ℕ → ℕ × ℕ) (need key : ℕ) → AreApart next a → need ≤ (a 0).1
    → b 0 ≡ (page_at next (a 0).0 need, (a 0).1 - need) → b (suc key) ≡ ((a 0).0, need) → ((k : ℕ) → k ≢ key → b (suc k) ≡ a (suc k)) → AreApart next b
parted next a b need key apart enough free new rest = moved next next a b (parted_from need key) apart refl was
  where
    Was : ℕ → ℕ × ℕ → Type 0
    Was k chain = (i : ℕ) → i < chain.1 → WasAt next next a (parted_from need key) chain k i

    was : (k : ℕ) → Was k (b k)
    was zero = subst (Was 0) (sym free) (still_free next a need key enough)
    was (suc k) =
        elim (cases_eq k key) [
          | inl e ↦ subst (λ k. Was (suc k) (b (suc k))) (sym e) (subst (Was (suc key)) (sym new) (taken next a need key enough))
          | inr ne ↦ subst (Was (suc k)) (sym (rest k ne)) (not_taken next a need key enough k)
        ]

-- where a page is, and where it was, when a chain is put in front of the free one
joined_from : (count key : ℕ) → ℕ → ℕ → ℕ × ℕ
joined_from count key zero i = (0, count + i)
joined_from count key (suc k) i = cond (eqb k key) (0, i) (suc k, i)

module _ (next : List ℕ) (a : ℕ → ℕ × ℕ) (key m : ℕ) (apart : AreApart next a) (size : (a (suc key)).1 ≡ suc m) where
  -- the chain's last page
  last : ℕ
  last = page_at next (a (suc key)).0 m

  -- the table in which it is followed by the free pages
  linked : List ℕ
  linked = set next last (a 0).0

  -- the chains don't change where the last page doesn't stand
  unchanged : (k i : ℕ) → i < (a k).1 → ((j : ℕ) → j < i → (k ≡ suc key) → j ≢ m) → page_at linked (a k).0 i ≡ page_at next (a k).0 i
  unfolding last linked
  unchanged k i h off = page_at-set next last (a 0).0 (a k).0 i (λ j l e.
      let at = one_place next a apart k (suc key) j m (omega arith) (omega (arith, size)) e in
      off j l at.0 at.1)

  -- what follows the last page
  follows : page_at linked (a (suc key)).0 (suc m) ≡ (a 0).0
  unfolding last linked
  follows =
      ap (slice_index linked) (unchanged (suc key) m (omega (arith, size)) (λ j l e is. absurd (omega arith)))
      ∙ get_or-set_same next last (a 0).0 0 (apart.within (suc key) m (omega (arith, size)))

  -- a page that was given back
  given : (i : ℕ) → i < suc m → WasAt next linked a (joined_from (suc m) key) ((a (suc key)).0, suc m + (a 0).1) 0 i
  unfolding joined_from
  given i h = record {
    from_chain = suc key;
    from_place = i;
    there = omega (arith, size);
    same = unchanged (suc key) i (omega (arith, size)) (λ j l e is. absurd (omega arith));
    again = ap (λ b. cond b (0, i) (suc key, i)) (eq-eqb key key refl);
  }

  -- a page that was free already
  was_free : (i : ℕ) → suc m ≤ i → i < suc m + (a 0).1 → WasAt next linked a (joined_from (suc m) key) ((a (suc key)).0, suc m + (a 0).1) 0 i
  unfolding joined_from
  was_free i low high =
      let n : i ≡ suc m + (i - suc m) = omega arith in
      record {
        from_chain = 0;
        from_place = i - suc m;
        there = omega arith;
        same = ap (page_at linked (a (suc key)).0) n ∙ page_at-plus linked (a (suc key)).0 (suc m) (i - suc m) ∙ ap (λ p. page_at linked p (i - suc m)) follows
            ∙ unchanged 0 (i - suc m) (omega arith) (λ j l e. absurd (omega arith));
        again = ap (λ (n : ℕ). (0, n)) (sym n);
      }

  -- a page of another chain
  not_given : (k i : ℕ) → k ≢ key → i < (a (suc k)).1 → WasAt next linked a (joined_from (suc m) key) (a (suc k)) (suc k) i
  unfolding joined_from
  not_given k i ne h = record {
    from_chain = suc k;
    from_place = i;
    there = h;
    same = unchanged (suc k) i h (λ j l e. absurd (ne (omega arith)));
    again = ap (λ b. cond b (0, i) (suc k, i)) (ne_eqb k key ne);
  }

  -- a chain joins the free pages, in front of them
  pub joined : (b : ℕ → ℕ × ℕ) → b 0 ≡ ((a (suc key)).0, suc m + (a 0).1) → b (suc key) ≡ (0, 0) → ((k : ℕ) → k ≢ key → b (suc k) ≡ a (suc k))
      → AreApart (set next (page_at next (a (suc key)).0 m) (a 0).0) b
  unfolding last linked
  joined b free gone rest = moved next linked a b (joined_from (suc m) key) apart (length-set next last (a 0).0) was
    where
      Was : ℕ → ℕ × ℕ → Type 0
      Was k chain = (i : ℕ) → i < chain.1 → WasAt next linked a (joined_from (suc m) key) chain k i

      was : (k : ℕ) → Was k (b k)
      was zero = subst (Was 0) (sym free) (λ i h. elim (cases_lt i (suc m)) [ inl l ↦ given i l | inr low ↦ was_free i low h ])
      was (suc k) =
          elim (cases_eq k key) [
            | inl e ↦ subst (λ k. Was (suc k) (b (suc k))) (sym e) (subst (Was (suc key)) (sym gone) (λ i h. absurd (omega arith)))
            | inr ne ↦ subst (Was (suc k)) (sym (rest k ne)) (λ i h. not_given k i ne h)
          ]
