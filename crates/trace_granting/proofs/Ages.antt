-- Which of two messages of a host came first, by its numbers and by the lines: the same, as a message is new by both or by none.
use Rattle.std.proofs.Common.{◌≡◌, ℕ, ◌<◌, ◌≤◌, false, ◌⊎◌, Option, Some, None, inl, inr, refl, sym, ap, ◌∙◌, arith}
use Rattle.std.specs.Prelude.{nat_lt}
use Rattle.std.proofs.lemmas.Bool.{lt-ltb, ltb-true, false_from_ne_true}
use Rattle.homa_plain.specs.declared.id.HostId.{HostId}
use Rattle.homa_plain.specs.Host.{Host}
use Rattle.trace_rules.specs.Parts.{Part, raised}
use Rattle.homa_plain.specs.Timers.{Place}
use Rattle.trace_rules.specs.View.{View, Progress}
use Rattle.step_laws.specs.StepLaws.{number_at, response_order, request_order}
use Rattle.step_moves.proofs.Hosts.{some_is, none_some}
use Rattle.trace_granting.proofs.Messages.{part_in}
use Rattle.trace_granting.proofs.GrantLines.{raised_is}

abbrev pub number : Host → Place → Option ℕ
number h q = number_at response_order request_order h q

-- of two messages of a host, the same came first by its numbers and by the lines
abbrev pub IsInOrder : HostId → Host → Progress → Type 0
IsInOrder host h m =
    (p q : Place) (a b : ℕ) (x y : Part) → number h p ≡ Some a → number h q ≡ Some b → part_in m p ≡ Some x → part_in m q ≡ Some y → x.host ≡ host
    → y.host ≡ host → nat_lt a b ≡ nat_lt x.order y.order

less_not : (a b : ℕ) → b ≤ a → nat_lt a b ≡ false
less_not a b k = false_from_ne_true (nat_lt a b) (λ e. absurd (omega (arith, k, ltb-true a b e)))

-- A step of a host, which may open the message of one place. Each of the four says why the message there is the one that was,
-- or a new one, by the host's numbers and by the lines.
module _ (h : Host) (v : View) (host : HostId) (place : Place) (old_row new_row old_line new_line : Type 0) where
  pub record IsNewNumber (q : Place) (n : Option ℕ) : Type 0 where
    pub at : q ≡ place
    pub why : new_row
    pub given : ℕ
    pub has : n ≡ Some given
    pub late : h.order ≤ given

  abbrev pub AgedNumber : Place → Option ℕ → Type 0
  AgedNumber q n = (n ≡ None) ⊎ (((n ≡ number h q) × (q ≡ place → old_row)) ⊎ IsNewNumber q n)

  pub number_none : (q : Place) → AgedNumber q None
  number_none q = inl refl

  pub record IsOldPart (q : Place) (o : Option Part) : Type 0 where
    pub before : Part
    pub had : part_in v.now q ≡ Some before
    pub part : Part
    pub has : o ≡ Some part
    pub order : part.order ≡ before.order
    pub host_is : part.host ≡ before.host
    pub why : q ≡ place → old_line

  pub record IsNewPart (q : Place) (o : Option Part) : Type 0 where
    pub at : q ≡ place
    pub why : new_line
    pub part : Part
    pub has : o ≡ Some part
    pub order : part.order ≡ v.place
    pub host_is : part.host ≡ host

  abbrev pub AgedPart : Place → Option Part → Type 0
  AgedPart q o = (o ≡ None) ⊎ (IsOldPart q o ⊎ IsNewPart q o)

  pub part_none : (q : Place) → AgedPart q None
  part_none q = inl refl

  pub part_raises : (q : Place) (x : Part) (from to : HostId) (offset : ℕ) → AgedPart q (Some x) → AgedPart q (Some (raised from to offset x))
  part_raises q x from to offset (inl e) = absurd (none_some x (sym e))
  part_raises q x from to offset (inr (inl k)) =
      let r = raised_is from to offset x in
      let same : x ≡ k.part = some_is x k.part k.has in
      inr (inl (record {
        before = k.before;
        had = k.had;
        part = raised from to offset x;
        has = refl;
        order = r.order ∙ ap (λ (y : Part). y.order) same
            ∙ k.order;
        host_is = r.host ∙ ap (λ (y : Part). y.host) same ∙ k.host_is;
        why = k.why;
      }))
  part_raises q x from to offset (inr (inr k)) =
      let r = raised_is from to offset x in
      let same : x ≡ k.part = some_is x k.part k.has in
      inr (inr (record {
        at = k.at;
        why = k.why;
        part = raised from to offset x;
        has = refl;
        order = r.order ∙ ap (λ (y : Part). y.order) same
            ∙ k.order;
        host_is = r.host ∙ ap (λ (y : Part). y.host) same ∙ k.host_is;
      }))

  module _ (same : IsInOrder host h v.now) (below : (q : Place) (a : ℕ) → number h q ≡ Some a → a < h.order)
      (placed : (q : Place) (y : Part) → part_in v.now q ≡ Some y → y.order < v.place)
      (k : Host) (m : Progress) (numbers : (q : Place) → AgedNumber q (number k q)) (parts : (q : Place) → AgedPart q (part_in m q))
      (ahead : old_row → new_line → (a : ℕ) → number h place ≡ Some a → ⊥)
      (behind : new_row → old_line → (y : Part) → part_in v.now place ≡ Some y → (a : ℕ) → number k place ≡ Some a → ⊥) where
    -- the message that was there, and a new one
    record IsOld (q : Place) (a : ℕ) (x : Part) : Type 0 where
      pub had : number h q ≡ Some a
      pub before : Part
      pub stood : part_in v.now q ≡ Some before
      pub order : x.order ≡ before.order
      pub host_is : x.host ≡ before.host

    record IsNew (q : Place) (a : ℕ) (x : Part) : Type 0 where
      pub at : q ≡ place
      pub late : h.order ≤ a
      pub order : x.order ≡ v.place

    aged : (q : Place) (a : ℕ) (x : Part) → number k q ≡ Some a → part_in m q ≡ Some x → IsOld q a x ⊎ IsNew q a x
    aged q a x n p = by_number (numbers q) where
      old_number : (number k q ≡ number h q) × (q ≡ place → old_row) → AgedPart q (part_in m q) → IsOld q a x ⊎ IsNew q a x
      old_number i (inl e) = absurd (none_some x (sym e ∙ p))
      old_number i (inr (inl j)) =
          let is : x ≡ j.part = some_is x j.part (sym p ∙ j.has) in
          inl (record {
            had = sym i.0 ∙ n;
            before = j.before;
            stood = j.had;
            order = ap (λ (y : Part). y.order) is ∙ j.order;
            host_is = ap (λ (y : Part). y.host) is ∙ j.host_is;
          })
      old_number i (inr (inr j)) = absurd (ahead (i.1 j.at) j.why a (ap (number h) (sym j.at) ∙ sym i.0 ∙ n))

      new_number : IsNewNumber q (number k q) → AgedPart q (part_in m q) → IsOld q a x ⊎ IsNew q a x
      new_number i (inl e) = absurd (none_some x (sym e ∙ p))
      new_number i (inr (inl j)) = absurd (behind i.why (j.why i.at) j.before (ap (part_in v.now) (sym i.at) ∙ j.had) a (ap (number k) (sym i.at) ∙ n))
      new_number i (inr (inr j)) =
          let is : x ≡ j.part = some_is x j.part (sym p ∙ j.has) in
          let given : a ≡ i.given = some_is a i.given (sym n ∙ i.has) in
          inr (record { at = i.at; late = omega (arith, given, i.late); order = ap (λ (y : Part). y.order) is ∙ j.order })

      by_number : AgedNumber q (number k q) → IsOld q a x ⊎ IsNew q a x
      by_number (inl e) = absurd (none_some a (sym e ∙ n))
      by_number (inr (inl i)) = old_number i (parts q)
      by_number (inr (inr i)) = new_number i (parts q)

    pub order_here : IsInOrder host k m
    order_here p q a b x y pa qb px qy xh yh = by_age (aged p a x pa px) (aged q b y qb qy) where
      by_age : IsOld p a x ⊎ IsNew p a x → IsOld q b y ⊎ IsNew q b y → nat_lt a b ≡ nat_lt x.order y.order
      by_age (inl i) (inl j) =
          same p q a b i.before j.before i.had j.had i.stood j.stood (sym i.host_is ∙ xh) (sym j.host_is ∙ yh)
          ∙ ap (λ (n : ℕ). nat_lt n j.before.order) (sym i.order) ∙ ap (nat_lt x.order) (sym j.order)
      by_age (inl i) (inr j) =
          let l : a < h.order = below p a i.had in
          let t : i.before.order < v.place = placed p i.before i.stood in
          lt-ltb a b (omega (arith, l, j.late)) ∙ sym (lt-ltb x.order y.order (omega (arith, t, i.order, j.order)))
      by_age (inr i) (inl j) =
          let l : b < h.order = below q b j.had in
          let t : j.before.order < v.place = placed q j.before j.stood in
          less_not a b (omega (arith, l, i.late)) ∙ sym (less_not x.order y.order (omega (arith, t, i.order, j.order)))
      by_age (inr i) (inr j) =
          let one : a ≡ b = some_is a b (sym pa ∙ ap (number k) (i.at ∙ sym j.at) ∙ qb) in
          less_not a b (omega (arith, one)) ∙ sym (less_not x.order y.order (omega (arith, i.order, j.order)))

  -- at the other hosts
  pub order_elsewhere : (other : HostId) (g : Host) (m : Progress) → (other ≡ host → ⊥) → IsInOrder other g v.now
      → ((q : Place) → AgedPart q (part_in m q)) → IsInOrder other g m
  order_elsewhere other g m apart same parts p q a b x y pa qb px qy xh yh =
      let i = old p x px xh in
      let j = old q y qy yh in
      same p q a b i.before j.before pa qb i.had j.had (sym (part_is p x px i ∙ i.host_is) ∙ xh) (sym (part_is q y qy j ∙ j.host_is) ∙ yh)
      ∙ ap (λ (n : ℕ). nat_lt n j.before.order) (sym (ap (λ (z : Part). z.order) (one p x px i) ∙ i.order))
      ∙ ap (nat_lt x.order) (sym (ap (λ (z : Part). z.order) (one q y qy j) ∙ j.order)) where
        old : (q : Place) (x : Part) → part_in m q ≡ Some x → x.host ≡ other → IsOldPart q (part_in m q)
        old q x is at = by_part (parts q) where
          by_part : AgedPart q (part_in m q) → IsOldPart q (part_in m q)
          by_part (inl e) = absurd (none_some x (sym e ∙ is))
          by_part (inr (inl k)) = k
          by_part (inr (inr k)) = absurd (apart (sym at ∙ ap (λ (z : Part). z.host) (some_is x k.part (sym is ∙ k.has)) ∙ k.host_is))

        one : (q : Place) (x : Part) → part_in m q ≡ Some x → (k : IsOldPart q (part_in m q)) → x ≡ k.part
        one q x is k = some_is x k.part (sym is ∙ k.has)

        part_is : (q : Place) (x : Part) → part_in m q ≡ Some x → (k : IsOldPart q (part_in m q)) → x.host ≡ k.part.host
        part_is q x is k = ap (λ (z : Part). z.host) (one q x is k)

  -- and each part's place is that of a line before
  pub placed_later : ((q : Place) (y : Part) → part_in v.now q ≡ Some y → y.order < v.place) → (m : Progress) (last : ℕ) → v.place ≤ last
      → (new_line → v.place < last) → ((q : Place) → AgedPart q (part_in m q)) → (q : Place) (x : Part) → part_in m q ≡ Some x → x.order < last
  placed_later placed m last later more parts q x is = by_part (parts q) where
    by_part : AgedPart q (part_in m q) → x.order < last
    by_part (inl e) = absurd (none_some x (sym e ∙ is))
    by_part (inr (inl k)) = let t : k.before.order < v.place =
        placed q k.before k.had in omega (arith, t, later, k.order, ap (λ (z : Part). z.order) (some_is x k.part (sym is ∙ k.has)))
    by_part (inr (inr k)) = let t : v.place < last = more k.why in omega (arith, t, k.order, ap (λ (z : Part). z.order) (some_is x k.part (sym is ∙ k.has)))
