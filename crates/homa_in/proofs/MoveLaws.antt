-- What a call of a pool does to the parts of rows: the laws of `Moves`.
use Rattle.std.proofs.Common.{◌≡◌, ◌⊎◌, ℕ, ◌+◌, ◌≤◌, List, length, refl, sym, ap, subst, ◌∙◌, arith, Option, Some, None, inl, inr, []}
use Rattle.std.proofs.lemmas.Bool.{cases_eq}
use Rattle.std.specs.Cmp.{nat_cmp_total}
use Rattle.std.specs.FinMap.{nat_cmp-IsAntisymmetric}
use Rattle.plain_sets.specs.Maps.{get, insert, remove}
use Rattle.plain_sets.proofs.MapLaws.{get-insert, get-remove}
use Rattle.plain_sets.proofs.MapMembers.{insert-again, remove-insert_new}
use Rattle.homa_plain.specs.Host.{pages_for}
use Rattle.msg_pool.specs.Pool.{Pool, Held, bytes_of, IsLeaseOf, with_bytes, without, leased_pages}
use Rattle.msg_pool.proofs.LeaseLaws.{left, chosen, leased-insert, leased-remove, leased-same}
use Rattle.msg_pool.proofs.Leases.{length-bytes_of, get-lease}
use Rattle.std.specs.Option.{unwrap_or, IsSomeAnd}
use Rattle.homa_in.specs.Part.{Part, known, IsIn}
use Rattle.homa_in.specs.Pooled.{HasNumber, IsInPool, Moves, AreIn, seen_part}

-- nothing happens
pub still : (pool : Pool) (part : Option Part) → IsInPool pool part → Moves pool part pool part
still pool part is =
    record { pages = refl; others = λ n b a. refl; gone = λ n h no. absurd (no h); number = λ n h. inl h; within = is; count = refl; free = refl }

-- a lease that is written to keeps its pages
alike_written : (old new : Pool) (part : Part) → IsIn old part → IsLeaseOf new part.lease → new ≡ with_bytes old part.lease (bytes_of new part.lease)
    → leased_pages new.leases ≡ leased_pages old.leases
alike_written old new part is here only =
    ap (λ (p : Pool). leased_pages p.leases) only
    ∙ leased-same old.leases part.lease.number (bytes_of old part.lease) (bytes_of new part.lease) (get-lease old part.lease is.lease)
    (length-bytes_of new part.lease here ∙ sym (length-bytes_of old part.lease is.lease))

-- a part is written
pub written : (old new : Pool) (part after : Part) → IsIn old part → IsIn new after → after.lease ≡ part.lease → after.length ≡ part.length
    → new ≡ with_bytes old part.lease (bytes_of new part.lease) → Moves old (Some part) new (Some after)
written old new part after is now same long only = record {
  pages = ap (λ (p : Pool). p.pages) only;
  others = λ n b a.
      ap (λ (p : Pool). get p.leases n) only ∙ get-insert nat_cmp_total old.leases part.lease.number (bytes_of new part.lease) n
      ∙ left n part.lease.number _ _ (λ e. b (sym e));
  gone = λ n h no. absurd (no (ap (λ (l : Held). l.number) same ∙ h));
  number = λ n h. inl (sym (ap (λ (l : Held). l.number) same) ∙ h);
  within = now;
  count =
      let alike : leased_pages new.leases ≡ leased_pages old.leases = alike_written old new part is (subst (IsLeaseOf new) same now.lease) only in
      let pages : pages_for part.length ≡ pages_for after.length = ap pages_for (sym long) in
      omega arith;
  free =
      let all : new.pages ≡ old.pages = ap (λ (p : Pool). p.pages) only in
      let pages : pages_for part.length ≡ pages_for after.length = ap pages_for (sym long) in
      let alike : leased_pages new.leases ≡ leased_pages old.leases = alike_written old new part is (subst (IsLeaseOf new) same now.lease) only in
      omega arith;
}

-- the pages of a lease that is given back
less_given : (old new : Pool) (part : Part) → IsIn old part → new ≡ without old part.lease
    → leased_pages new.leases + pages_for part.length ≡ leased_pages old.leases + 0
less_given old new part is gone =
    let less = leased-remove old.leases part.lease.number (bytes_of old part.lease) (get-lease old part.lease is.lease) in
    let now : leased_pages new.leases ≡ leased_pages (remove old.leases part.lease.number) = ap (λ (p : Pool). leased_pages p.leases) gone in
    let pages : pages_for (length (bytes_of old part.lease)) ≡ pages_for part.length = ap pages_for (length-bytes_of old part.lease is.lease ∙ is.length) in
    omega arith

-- a part goes
pub given : (old new : Pool) (part : Part) → IsIn old part → new ≡ without old part.lease → leased_pages old.leases ≤ old.pages → Moves old (Some part) new None
given old new part is gone most = record {
  pages = ap (λ (p : Pool). p.pages) gone;
  others =
      λ n b a. ap (λ (p : Pool). get p.leases n) gone ∙ get-remove nat_cmp_total old.leases part.lease.number n ∙ left n part.lease.number _ _ (λ e. b (sym e));
  gone = λ n h no. ap (λ (p : Pool). get p.leases n) gone ∙ get-remove nat_cmp_total old.leases part.lease.number n ∙ chosen n part.lease.number _ _ (sym h);
  number = λ n h. absurd h;
  within = tt;
  count = less_given old new part is gone;
  free =
      let all : new.pages ≡ old.pages = ap (λ (p : Pool). p.pages) gone in
      let less = less_given old new part is gone in
      omega arith;
}

-- the pages of a new lease
more_come : (old new : Pool) (part : Part) → IsIn new part → get old.leases part.lease.number ≡ None → new ≡ with_bytes old part.lease (bytes_of new part.lease)
    → leased_pages new.leases + 0 ≡ leased_pages old.leases + pages_for part.length
more_come old new part now fresh only =
    let more = leased-insert old.leases part.lease.number (bytes_of new part.lease) fresh in
    let is : leased_pages new.leases ≡ leased_pages (insert old.leases part.lease.number (bytes_of new part.lease)) =
    ap (λ (p : Pool). leased_pages p.leases) only in
    let pages : pages_for (length (bytes_of new part.lease)) ≡ pages_for part.length = ap pages_for (length-bytes_of new part.lease now.lease ∙ now.length) in
    omega arith

-- a part comes, under a new number
pub come : (old new : Pool) (part : Part) → IsIn new part → get old.leases part.lease.number ≡ None
    → new ≡ with_bytes old part.lease (bytes_of new part.lease) → leased_pages new.leases ≤ new.pages → Moves old None new (Some part)
come old new part now fresh only most = record {
  pages = ap (λ (p : Pool). p.pages) only;
  others = λ n b a.
      ap (λ (p : Pool). get p.leases n) only ∙ get-insert nat_cmp_total old.leases part.lease.number (bytes_of new part.lease) n
      ∙ left n part.lease.number _ _ (λ e. a (sym e));
  gone = λ n h no. absurd h;
  number = λ n h. inr (ap (get old.leases) (sym h) ∙ fresh);
  within = now;
  count = more_come old new part now fresh only;
  free =
      let all : new.pages ≡ old.pages = ap (λ (p : Pool). p.pages) only in
      let more = more_come old new part now fresh only in
      omega arith;
}

-- what was written to a new lease is as if it were taken with these bytes
pub again : (old mid new : Pool) (lease : Held) (bytes : List ℕ) → mid ≡ with_bytes old lease bytes → new ≡ with_bytes mid lease (bytes_of new lease)
    → new ≡ with_bytes old lease (bytes_of new lease)
again old mid new lease bytes e f =
    f ∙ ap (λ (p : Pool). with_bytes p lease (bytes_of new lease)) e ∙ ap (λ m. record old { leases = m })
    (insert-again nat_cmp_total nat_cmp-IsAntisymmetric old.leases lease.number bytes (bytes_of new lease))

pub begun : (old mid new : Pool) (part after : Part) (lease : Held) (bytes : List ℕ) → part.lease ≡ lease → after.lease ≡ part.lease
    → get old.leases lease.number ≡ None
    → mid ≡ with_bytes old lease bytes → leased_pages mid.leases ≤ mid.pages → Moves mid (Some part) new (Some after) → part.length ≡ after.length
    → new ≡ with_bytes mid part.lease (bytes_of new part.lease) → IsIn new after → Moves old None new (Some after)
begun old mid new part after lease bytes a b fresh e most moves long f is =
    let pages : pages_for part.length ≡ pages_for after.length = ap pages_for long in
    let count = moves.count in
    let all = moves.pages in
    let most' : leased_pages new.leases ≤ new.pages = omega arith in
    let now : after.lease ≡ lease = b ∙ a in
    let only = again old mid new lease bytes e (subst (λ (l : Held). new ≡ with_bytes mid l (bytes_of new l)) a f) in
    come old new after is (ap (λ (l : Held). get old.leases l.number) now ∙ fresh)
    (subst (λ (l : Held). new ≡ with_bytes old l (bytes_of new l)) (sym now) only) most'

-- a new lease that is given back leaves the pool as it was
pub back : (old mid new : Pool) (lease : Held) (bytes : List ℕ) → get old.leases lease.number ≡ None → mid ≡ with_bytes old lease bytes
    → new ≡ without mid lease → new ≡ old
back old mid new lease bytes fresh e f =
    f ∙ ap (λ (p : Pool). without p lease) e ∙ ap (λ m. record old { leases = m })
    (remove-insert_new nat_cmp_total nat_cmp-IsAntisymmetric old.leases lease.number bytes fresh)

-- ---- the parts of other owners

-- a lease that has a number isn't free
no_lease : (pool : Pool) (lease : Held) → IsLeaseOf pool lease → get pool.leases lease.number ≡ None → ⊥
no_lease pool lease is none = some_none (bytes_of pool lease) (sym (get-lease pool lease is) ∙ none) where
  some_none : (xs : List ℕ) → Some xs ≡ None → ⊥
  some_none xs e = cc

-- so a part's number
taken : (pool : Pool) (part : Option Part) → IsInPool pool part → (n : ℕ) → HasNumber n part → get pool.leases n ≡ None → ⊥
taken pool None is n h none = absurd h
taken pool (Some p) is n h none = no_lease pool p.lease is.lease (ap (get pool.leases) h ∙ none)

-- a part whose lease keeps its bytes stands in the pool as before, and is seen as before
same_in : (old new : Pool) (part : Option Part) → ((n : ℕ) → HasNumber n part → get new.leases n ≡ get old.leases n) → IsInPool old part → IsInPool new part
same_in old new None keep is = tt
same_in old new (Some p) keep is =
    record { lease = subst (λ o. IsSomeAnd o (λ bytes. length bytes ≡ p.lease.len)) (sym (keep p.lease.number refl)) is.lease; length = is.length }

same_seen : (old new : Pool) (part : Option Part) → ((n : ℕ) → HasNumber n part → get new.leases n ≡ get old.leases n) → seen_part new part ≡ seen_part old part
same_seen old new None keep = refl
same_seen old new (Some p) keep =
    ap (λ (o : Option (List ℕ)). Some
    (record { peer = p.peer; length = p.length; order = p.order; granted = p.granted; bytes = known (unwrap_or o []) p.missing })) (keep p.lease.number refl)

-- a number is a part's, or not
has_number : (n : ℕ) (part : Option Part) → HasNumber n part ⊎ (HasNumber n part → ⊥)
has_number n None = inr (λ h. h)
has_number n (Some p) = cases_eq p.lease.number n

-- one move after another is a move
pub then : (a b c : Pool) (x y z : Option Part) → Moves a x b y → Moves b y c z → Moves a x c z
then a b c x y z first second = record {
  pages = second.pages ∙ first.pages;
  others = λ n nx nz. elim (has_number n y) [
    | inl hy ↦ elim (first.number n hy) [ inl hx ↦ absurd (nx hx) | inr none ↦ second.gone n hy nz ∙ sym none ]
    | inr ny ↦ second.others n ny nz ∙ first.others n nx ny
  ];
  gone = λ n hx nz. elim (has_number n y) [
    | inl hy ↦ second.gone n hy nz
    | inr ny ↦ second.others n ny nz ∙ first.gone n hx ny
  ];
  number = λ n hz. elim (second.number n hz) [
    | inl hy ↦ first.number n hy
    | inr none ↦ elim (has_number n x) [
      | inl hx ↦ inl hx
      | inr nx ↦ inr (sym (first.others n nx (λ hy. taken b y first.within n hy none)) ∙ none)
    ]
  ];
  within = second.within;
  count = let p = first.count in let q = second.count in omega arith;
  free = second.free ∙ first.free;
}

module _ {K : Type 0} (decide : (j k : K) → (j ≡ k) ⊎ (j ≡ k → ⊥)) (old new : Pool) (f g : K → Option Part) (k : K)
    (others : (j : K) → (j ≡ k → ⊥) → g j ≡ f j) (moves : Moves old (f k) new (g k)) (are : AreIn old f) where
  -- the number of another owner's part isn't that of the part that came
  not_new : (j : K) → (j ≡ k → ⊥) → (n : ℕ) → HasNumber n (f j) → HasNumber n (g k) → ⊥
  not_new j ne n h now = elim (moves.number n now) [
    | inl was ↦ ne (are.apart j k n h was)
    | inr none ↦ taken old (f j) (are.within j) n h none
  ]

  keeps : (j : K) → (j ≡ k → ⊥) → (n : ℕ) → HasNumber n (f j) → get new.leases n ≡ get old.leases n
  keeps j ne n h = moves.others n (λ was. ne (are.apart j k n h was)) (λ now. not_new j ne n h now)

  -- the parts of other owners are seen as before
  pub seen_others : (j : K) → (j ≡ k → ⊥) → seen_part new (g j) ≡ seen_part old (f j)
  seen_others j ne = ap (seen_part new) (others j ne) ∙ same_seen old new (f j) (keeps j ne)

  -- and all stand in the pool, under different numbers
  pub still_in : AreIn new g
  still_in = record {
    within = λ j. elim (decide j k) [
      | inl e ↦ subst (λ (i : K). IsInPool new (g i)) (sym e) moves.within
      | inr ne ↦ subst (IsInPool new) (sym (others j ne)) (same_in old new (f j) (keeps j ne) (are.within j))
    ];
    apart = λ i j n hi hj. both i j n hi hj (decide i k) (decide j k);
  } where
    both : (i j : K) (n : ℕ) → HasNumber n (g i) → HasNumber n (g j) → ((i ≡ k) ⊎ (i ≡ k → ⊥)) → ((j ≡ k) ⊎ (j ≡ k → ⊥)) → i ≡ j
    both i j n hi hj (inl ei) (inl ej) = ei ∙ sym ej
    both i j n hi hj (inl ei) (inr nj) = absurd (not_new j nj n (subst (HasNumber n) (others j nj) hj) (subst (λ (x : K). HasNumber n (g x)) ei hi))
    both i j n hi hj (inr ni) (inl ej) = absurd (not_new i ni n (subst (HasNumber n) (others i ni) hi) (subst (λ (x : K). HasNumber n (g x)) ej hj))
    both i j n hi hj (inr ni) (inr nj) = are.apart i j n (subst (HasNumber n) (others i ni) hi) (subst (HasNumber n) (others j nj) hj)
