-- Datagrams that are reached from the heads of their buckets.
use Rattle.std.proofs.Common.{◌≡◌, ◌≢◌, ◌⊎◌, inl, inr, ◌≤◌, ◌<◌, ℕ, zero, suc, ◌+◌, ◌-◌, ◌^◌, List, [], ◌∷◌, ◌++◌, length, drop, get_or, set, refl}
use Rattle.std.proofs.Common.{sym, ap, ◌∙◌, subst, arith, get_or-set_same, get_or-set_other}
use Rattle.homa_record.specs.declared.store.Rec.{Rec}
use Rattle.homa_record.specs.Places.{place_of, place_after}
use Rattle.homa_record.specs.Stored.{bucket_in, mark, back_at, Leads, GoesBack, IsHead, IsIndexed}
use Rattle.homa_record.proofs.Numbers.{after_small, at_after, at_next}

-- a datagram with a mark is there
pub marked : (rs : List Rec) (i b : ℕ) → mark rs i ≡ suc b → i < length rs
marked [] i b e = absurd (let z : 0 ≡ suc b = e in omega (arith, z))
marked (r ∷ rs) zero b e = omega arith
marked (r ∷ rs) (suc i) b e = omega (arith, marked rs i b e)

mark_left : (rs : List Rec) (r : Rec) (i : ℕ) → i < length rs → mark (rs ++ r ∷ []) i ≡ mark rs i
mark_left [] r i h = absurd (omega (arith, h))
mark_left (q ∷ rs) r zero h = refl
mark_left (q ∷ rs) r (suc i) h = mark_left rs r i (omega (arith, h))

mark_last : (rs : List Rec) (r : Rec) → mark (rs ++ r ∷ []) (length rs) ≡ suc (bucket_in r)
mark_last [] r = refl
mark_last (q ∷ rs) r = mark_last rs r

back_left : (rs : List Rec) (r : Rec) (i : ℕ) → i < length rs → back_at (rs ++ r ∷ []) i ≡ back_at rs i
back_left [] r i h = absurd (omega (arith, h))
back_left (q ∷ rs) r zero h = refl
back_left (q ∷ rs) r (suc i) h = back_left rs r i (omega (arith, h))

back_last : (rs : List Rec) (r : Rec) → back_at (rs ++ r ∷ []) (length rs) ≡ r.back
back_last [] r = refl
back_last (q ∷ rs) r = back_last rs r

length_more : (rs : List Rec) (r : Rec) → length (rs ++ r ∷ []) ≡ length rs + 1
length_more [] r = refl
length_more (q ∷ rs) r = omega (arith, length_more rs r)

-- what leads in a list leads in a longer one
leads_more : (rs : List Rec) (r : Rec) (b j at : ℕ) → Leads rs b j at → Leads (rs ++ r ∷ []) b j at
leads_more rs r b j at l = record { reached = l.reached; same = mark_left rs r at (marked rs at b l.same) ∙ l.same }

suc_same : (m n : ℕ) → suc m ≡ suc n → m ≡ n
suc_same m n e = omega (arith, e)

-- no datagram
pub none_indexed : (first : ℕ) (heads : List ℕ) → IsIndexed first heads []
none_indexed first heads = record {
  heads_lead = λ j b e. absurd (omega (arith, marked [] j b e));
  backs_lead = λ i j b e f h. absurd (omega (arith, marked [] i b e));
}

-- the heads may be written otherwise, if they are the same
pub same_heads : (first : ℕ) (heads others : List ℕ) (rs : List Rec) → ((b : ℕ) → get_or others b 0 ≡ get_or heads b 0) → IsIndexed first heads rs
    → IsIndexed first others rs
same_heads first heads others rs same k = record {
  heads_lead = λ j b e. subst (IsHead first rs b j) (sym (same b)) (k.heads_lead j b e);
  backs_lead = k.backs_lead;
}

-- with one more datagram
pub pushed : (first : ℕ) (heads : List ℕ) (rs : List Rec) (r : Rec) → IsIndexed first heads rs → first < 2 ^ 64 → length rs < 2 ^ 64
    → bucket_in r < length heads
    → r.back ≡ length rs - place_of first (get_or heads (bucket_in r) 0)
    → IsIndexed first (set heads (bucket_in r) (place_after first (length rs))) (rs ++ r ∷ [])
pushed first heads rs r k within few room back = record { heads_lead = heads_lead; backs_lead = backs_lead } where
  -- the place of a head that was set
  new_head : place_of first (get_or (set heads (bucket_in r) (place_after first (length rs))) (bucket_in r) 0) ≡ length rs
  new_head = ap (place_of first) (get_or-set_same heads (bucket_in r) (place_after first (length rs)) 0 room) ∙ at_after first (length rs) within few

  cases : (i : ℕ) → i < length rs + 1 → (i < length rs) ⊎ (i ≡ length rs)
  cases i h = grind arith

  same_or_not : (m n : ℕ) → (m ≡ n) ⊎ (m ≢ n)
  same_or_not m n = grind arith

  by_bucket : (j b : ℕ) → j ≤ length rs → (b ≡ bucket_in r) ⊎ ((b ≢ bucket_in r) × (mark rs j ≡ suc b))
      → IsHead first (rs ++ r ∷ []) b j (get_or (set heads (bucket_in r) (place_after first (length rs))) b 0)
  by_bucket j b l (inl e) =
      subst (λ (c : ℕ). IsHead first (rs ++ r ∷ []) c j (get_or (set heads (bucket_in r) (place_after first (length rs))) c 0)) (sym e)
      (record {
        fits = omega (arith, get_or-set_same heads (bucket_in r) (place_after first (length rs)) 0 room, after_small first (length rs) within few);
        leads = subst (Leads (rs ++ r ∷ []) (bucket_in r) j) (sym new_head) (record { reached = l; same = mark_last rs r });
      })
  by_bucket j b l (inr (ne, m)) =
      let head = k.heads_lead j b m in
      subst (IsHead first (rs ++ r ∷ []) b j) (sym (get_or-set_other heads (bucket_in r) b (place_after first (length rs)) 0 ne))
      (record { fits = head.fits; leads = leads_more rs r b j (place_of first (get_or heads b 0)) head.leads })

  in_bucket : (j b : ℕ) → mark (rs ++ r ∷ []) j ≡ suc b → (j < length rs) ⊎ (j ≡ length rs) → (b ≡ bucket_in r) ⊎ (b ≢ bucket_in r)
      → (b ≡ bucket_in r) ⊎ ((b ≢ bucket_in r) × (mark rs j ≡ suc b))
  in_bucket j b m place (inl e) = inl e
  in_bucket j b m (inl h) (inr ne) = inr (ne, sym (mark_left rs r j h) ∙ m)
  in_bucket j b m (inr h) (inr ne) = inl (suc_same b (bucket_in r) (sym m ∙ (ap (mark (rs ++ r ∷ [])) h ∙ mark_last rs r)))

  heads_lead : (j b : ℕ) → mark (rs ++ r ∷ []) j ≡ suc b
      → IsHead first (rs ++ r ∷ []) b j (get_or (set heads (bucket_in r) (place_after first (length rs))) b 0)
  heads_lead j b m =
      let there : j < length rs + 1 = omega (arith, marked (rs ++ r ∷ []) j b m, length_more rs r) in
      by_bucket j b (omega (arith, there)) (in_bucket j b m (cases j there) (same_or_not b (bucket_in r)))

  back_of : (i j b : ℕ) → mark (rs ++ r ∷ []) i ≡ suc b → mark rs j ≡ suc b → j < i → (i < length rs) ⊎ (i ≡ length rs)
      → GoesBack (rs ++ r ∷ []) b j i (back_at (rs ++ r ∷ []) i)
  back_of i j b m q h (inl l) =
      let g = k.backs_lead i j b (sym (mark_left rs r i l) ∙ m) q h in
      subst (GoesBack (rs ++ r ∷ []) b j i) (sym (back_left rs r i l))
      (record { some = g.some; within = g.within; leads = leads_more rs r b j (i - back_at rs i) g.leads })
  back_of i j b m q h (inr e) =
      let same : b ≡ bucket_in r = suc_same b (bucket_in r) (sym m ∙ (ap (mark (rs ++ r ∷ [])) e ∙ mark_last rs r)) in
      let at : ℕ = place_of first (get_or heads b 0) in
      let led = (k.heads_lead j b q).leads in
      let there = marked rs at b led.same in
      let far : r.back ≡ length rs - at = back ∙ ap (λ (c : ℕ). length rs - place_of first (get_or heads c 0)) (sym same) in
      let is : back_at (rs ++ r ∷ []) i ≡ r.back = ap (back_at (rs ++ r ∷ [])) e ∙ back_last rs r in
      let to : i - back_at (rs ++ r ∷ []) i ≡ at = omega (arith, is, far, e, there) in
      record {
        some = omega (arith, is, far, there);
        within = omega (arith, is, far, e);
        leads = subst (Leads (rs ++ r ∷ []) b j) (sym to) (leads_more rs r b j at led);
      }

  backs_lead : (i j b : ℕ) → mark (rs ++ r ∷ []) i ≡ suc b → mark (rs ++ r ∷ []) j ≡ suc b → j < i → GoesBack (rs ++ r ∷ []) b j i (back_at (rs ++ r ∷ []) i)
  backs_lead i j b m q h =
      let there : i < length rs + 1 = omega (arith, marked (rs ++ r ∷ []) i b m, length_more rs r) in
      back_of i j b m (sym (mark_left rs r j (omega (arith, h, there))) ∙ q) h (cases i there)

-- the same, with numbers and lists that are equal
pub pushed_by : (first : ℕ) (heads : List ℕ) (rs : List Rec) (r : Rec) (b n after : ℕ) (items : List Rec) → IsIndexed first heads rs → first < 2 ^ 64
    → n < 2 ^ 64 → n ≡ length rs → b ≡ bucket_in r → b < length heads
    → r.back ≡ n - place_of first (get_or heads b 0) → after ≡ place_after first n → items ≡ rs ++ r ∷ [] → IsIndexed first (set heads b after) items
pushed_by first heads rs r b n after items k within few is_len is_bucket room back is_after is_more =
    let far : r.back ≡ length rs - place_of first (get_or heads (bucket_in r) 0) =
    back ∙ (ap (λ (m : ℕ). m - place_of first (get_or heads b 0)) is_len ∙ ap (λ (c : ℕ). length rs - place_of first (get_or heads c 0)) is_bucket) in
    let whole = pushed first heads rs r k within (omega (arith, few, is_len)) (omega (arith, room, is_bucket)) far in
    let one = subst (λ (c : ℕ). IsIndexed first (set heads c (place_after first (length rs))) (rs ++ r ∷ [])) (sym is_bucket) whole in
    let two = subst (λ (m : ℕ). IsIndexed first (set heads b m) (rs ++ r ∷ [])) (ap (place_after first) (sym is_len) ∙ sym is_after) one in
    subst (IsIndexed first (set heads b after)) (sym is_more) two

-- without the first datagram
pub popped : (first : ℕ) (heads : List ℕ) (r : Rec) (rs : List Rec) → IsIndexed first heads (r ∷ rs) → first < 2 ^ 64 → IsIndexed (place_after first 1) heads rs
popped first heads r rs k within = record {
  heads_lead = λ j b m.
      let head = k.heads_lead (suc j) b m in
      let led = head.leads in
      let next = at_next first (get_or heads b 0) within head.fits (omega (arith, led.reached)) in
      record {
        fits = head.fits;
        leads = record {
          reached = omega (arith, led.reached, next);
          same = mark_at (place_of first (get_or heads b 0)) (place_of (place_after first 1) (get_or heads b 0)) b (omega (arith, next)) led.same;
        };
      };
  backs_lead = λ i j b m q h.
      let g = k.backs_lead (suc i) (suc j) b m q (omega (arith, h)) in
      let far : back_at rs i ≤ i = omega (arith, g.within, g.leads.reached) in
      record {
        some = g.some;
        within = far;
        leads = record {
          reached = omega (arith, g.leads.reached, far);
          same = mark_at (suc i - back_at rs i) (i - back_at rs i) b (omega (arith, far)) g.leads.same;
        };
      };
} where
  mark_at : (at to b : ℕ) → at ≡ suc to → mark (r ∷ rs) at ≡ suc b → mark rs to ≡ suc b
  mark_at at to b e m = ap (mark (r ∷ rs)) (sym e) ∙ m

-- the same, of a list that has a first one
pub popped_by : (first : ℕ) (heads : List ℕ) (rs : List Rec) (after : ℕ) (items : List Rec) → 0 < length rs → IsIndexed first heads rs → first < 2 ^ 64
    → after ≡ place_after first 1 → items ≡ drop 1 rs → IsIndexed after heads items
popped_by first heads [] after items some k within e f = absurd (omega (arith, some))
popped_by first heads (r ∷ rs) after items some k within e f =
    subst (λ (xs : List Rec). IsIndexed after heads xs) (sym f) (subst (λ (n : ℕ). IsIndexed n heads rs) (sym e) (popped first heads r rs k within))
