-- What is answered to a piece, by what it takes off the missing bytes.
use Rattle.std.proofs.Common.{◌≡◌, ◌≢◌, ◌↔◌, ℕ, ◌+◌, ◌-◌, ◌<◌, ◌≤◌, Bool, true, false, not, ◌&&◌, cond, ltb, leb, eqb, List, length, get_or, refl}
use Rattle.std.proofs.Common.{sym, ap, subst, ◌∙◌, arith, Some, None, inl, inr, min}
use Rattle.std.proofs.lemmas.List.{ext_get_or}
use Rattle.std.specs.List.{slice_get}
use Rattle.std.specs.Ordering.{nat_cmp}
use Rattle.std.specs.Cmp.{nat_cmp_total}
use Rattle.std.specs.FinMap.{nat_cmp-IsAntisymmetric}
use Rattle.std.proofs.lemmas.Bool.{lt-ltb, le-ltb, ltb-true, eqb-true, eq-eqb, ne_eqb, cases_lt, and_parts, true≢false}
use Rattle.std.proofs.lemmas.Option.{slice_get_past}
use Rattle.plain_sets.specs.Maps.{Map, empty, get, len}
use Rattle.plain_sets.specs.Ranges.{is_between}
use Rattle.plain_sets.specs.Numbers.{Numbers, has, set_of_range, without_range, within, IsBelow, ranges}
use Rattle.plain_sets.proofs.MapLaws.{get-empty, len-empty, same_map, empty_of_len}
use Rattle.plain_sets.proofs.RangeLaws.{ranges-empty}
use Rattle.plain_sets.proofs.NumberLaws.{has-empty, has-without_range, has-within, has-set_of_range, same_numbers}
use Rattle.plain_sets.proofs.CountLaws.{len-without_range}
use Rattle.range_set.specs.Changed.{RemovesRange}
use Rattle.homa_plain.specs.declared.id.HostId.{HostId}
use Rattle.homa_plain.specs.Incoming.{opened, with_bytes, new_bytes, leaves_too_many_gaps, is_whole, message}
use Rattle.homa_plain.proofs.PartSets.{range_in, below-set_of_range, below-without_range, one_range}
use Rattle.homa_plain.proofs.ArrivalLaws.{message-whole}
use Rattle.msg_pool.specs.Pool.{Pool, Held, bytes_of, IsLeaseOf}
use Rattle.msg_pool.proofs.Leases.{length-bytes_of}
use Rattle.homa_in.specs.declared.arriving.Accepted.{Accepted}
use Rattle.homa_in.specs.declared.arriving.Accepted.TheVariants.{Fresh, Whole, Repeat, TooManyGaps}
use Rattle.homa_in.specs.Part.{Part, known, seen, unarrived, IsPart}
use Rattle.homa_in.specs.Accepts.{completes, answer}
use Rattle.homa_in.specs.Filled.{IsFilled}
use Rattle.homa_in.proofs.KnownLaws.{get-known}
use Rattle.homa_in.proofs.TakenLaws.{IsSeen, bytes-taken, gaps-seen, new-seen, whole-seen}

-- an answer by three facts: too many gaps, how many new bytes, whether none is missing
abbrev kind : Bool → ℕ → Bool → Accepted
kind l n w = cond l TooManyGaps (cond (eqb n 0) Repeat (cond w Whole (Fresh n)))

-- when each kind is the answer
many-kind : (l z w : Bool) (n : ℕ) → (cond l TooManyGaps (cond z Repeat (cond w Whole (Fresh n))) ≡ TooManyGaps) ↔ (l ≡ true)
many-kind true z w n = (λ _. refl, λ _. refl)
many-kind false true w n = (λ e. (cc), λ e. absurd (true≢false (sym e)))
many-kind false false true n = (λ e. (cc), λ e. absurd (true≢false (sym e)))
many-kind false false false n = (λ e. (cc), λ e. absurd (true≢false (sym e)))

repeat-kind : (l z w : Bool) (n : ℕ) → eqb n 0 ≡ z → (l ≡ true → 0 < n) → (cond l TooManyGaps (cond z Repeat (cond w Whole (Fresh n))) ≡ Repeat) ↔ (n ≡ 0)
repeat-kind true z w n is h = (λ e. (cc), λ e. absurd (omega (arith, h refl)))
repeat-kind false true w n is h = (λ e. eqb-true n 0 is, λ e. refl)
repeat-kind false false true n is h = (λ e. (cc), λ e. absurd (true≢false (sym (eq-eqb n 0 e) ∙ is)))
repeat-kind false false false n is h = (λ e. (cc), λ e. absurd (true≢false (sym (eq-eqb n 0 e) ∙ is)))

whole-kind : (l z w : Bool) (n : ℕ) → eqb n 0 ≡ z → (l ≡ true → w ≡ false)
    → (cond l TooManyGaps (cond z Repeat (cond w Whole (Fresh n))) ≡ Whole) ↔ ((ltb 0 n && w) ≡ true)
whole-kind true z w n is h = (λ e. (cc), λ e. absurd (true≢false (sym ((and_parts (ltb 0 n) w e).1) ∙ h refl)))
whole-kind false true w n is h = (λ e. (cc), λ e. absurd (omega (arith, ltb-true 0 n (and_parts (ltb 0 n) w e).0, eqb-true n 0 is)))
whole-kind false false true n is h =
    let some : 0 < n = elim (cases_lt 0 n) [ inl k ↦ k | inr k ↦ absurd (true≢false (sym (eq-eqb n 0 (omega arith)) ∙ is)) ] in
    (λ e. ap (λ t. t && true) (lt-ltb 0 n some), λ e. refl)
whole-kind false false false n is h = (λ e. (cc), λ e. absurd (true≢false (sym (and_parts (ltb 0 n) false e).1)))

-- where a range has no member, it takes none away
none_taken : (m : Numbers) (a b : ℕ) → len (without_range m a b) ≡ len m → (q : ℕ) → (is_between a b q && has m q) ≡ false
none_taken m a b e q =
    let none : within m a b ≡ empty = empty_of_len _ (omega (arith, e, len-without_range m a b)) in
    sym (has-within m a b q) ∙ ap (λ s. has s q) none ∙ has-empty q

-- and leaves the set as it is
taken_same : (m : Numbers) (a b : ℕ) → len (without_range m a b) ≡ len m → without_range m a b ≡ m
taken_same m a b e = same_numbers _ _ (λ q. has-without_range m a b q ∙ stays (is_between a b q) (has m q) (none_taken m a b e q)) where
  stays : (s t : Bool) → (s && t) ≡ false → (not s && t) ≡ t
  stays true t f = sym f
  stays false t f = refl

-- the empty set has no members
len-none : (m : Numbers) → m ≡ empty → len m ≡ 0
len-none m e = ap len e ∙ len-empty nat_cmp (Unit {0})

module _ (pool : Pool) (part : Part) (is : IsSeen pool part) (a : ℕ) (piece : List ℕ) (fits : a + length piece ≤ part.length) where
  -- what is left of the missing bytes
  abbrev left : Numbers
  left = without_range part.missing a (a + length piece)

  counted : len left + new_bytes (seen pool part) a piece ≡ len part.missing
  counted =
      let less = len-without_range part.missing a (a + length piece) in
      let n : len part.missing - len left ≡ new_bytes (seen pool part) a piece =
      new-seen pool part is a piece fits (len part.missing - len left) (omega (arith, less)) in
      omega (arith, less, n)

  -- too many gaps are left only by a piece with new bytes
  many-new : leaves_too_many_gaps (seen pool part) a piece ≡ true → 0 < new_bytes (seen pool part) a piece
  many-new e =
      let many : 64 < length (ranges left) = ltb-true 64 _ (sym (gaps-seen pool part is a piece) ∙ e) in
      elim (cases_lt 0 (new_bytes (seen pool part) a piece)) [
        | inl h ↦ h
        | inr h ↦
            let same : left ≡ part.missing = taken_same part.missing a (a + length piece) (omega (arith, counted, h)) in
            absurd (omega (arith, many, ap (λ s. length (ranges s)) same, is.few))
      ]

  -- and never by one that makes the message whole
  many-part : leaves_too_many_gaps (seen pool part) a piece ≡ true → is_whole (with_bytes (seen pool part) a piece) ≡ false
  many-part e =
      let many : 64 < length (ranges left) = ltb-true 64 _ (sym (gaps-seen pool part is a piece) ∙ e) in
      whole-seen pool part is a piece fits ∙ ne_eqb (len left) 0 (λ z.
      absurd (omega (arith, many, ap (λ s. length (ranges s)) (empty_of_len left z), ap length ranges-empty)))

  -- when each answer comes
  pub answer-many : (answer (seen pool part) a piece ≡ TooManyGaps) ↔ (leaves_too_many_gaps (seen pool part) a piece ≡ true)
  answer-many = many-kind (leaves_too_many_gaps (seen pool part) a piece) (eqb (new_bytes (seen pool part) a piece) 0)
      (is_whole (with_bytes (seen pool part) a piece)) (new_bytes (seen pool part) a piece)

  pub answer-repeat : (answer (seen pool part) a piece ≡ Repeat) ↔ (new_bytes (seen pool part) a piece ≡ 0)
  answer-repeat = repeat-kind (leaves_too_many_gaps (seen pool part) a piece) (eqb (new_bytes (seen pool part) a piece) 0)
      (is_whole (with_bytes (seen pool part) a piece)) (new_bytes (seen pool part) a piece) refl many-new

  pub answer-whole : (answer (seen pool part) a piece ≡ Whole) ↔ (completes (seen pool part) a piece ≡ true)
  answer-whole = whole-kind (leaves_too_many_gaps (seen pool part) a piece) (eqb (new_bytes (seen pool part) a piece) 0)
      (is_whole (with_bytes (seen pool part) a piece)) (new_bytes (seen pool part) a piece) refl many-part

  -- the answer where too many ranges would be left
  pub is_many : 64 < length (ranges left) → TooManyGaps ≡ answer (seen pool part) a piece
  is_many h = ap (λ l. kind l (new_bytes (seen pool part) a piece) (is_whole (with_bytes (seen pool part) a piece)))
      (sym (gaps-seen pool part is a piece ∙ lt-ltb 64 _ h))

  module _ (m : Numbers) (n : ℕ) (gone : RemovesRange part.missing m a (a + length piece) n) (few : length (ranges m) ≤ 64) where
    is_new : new_bytes (seen pool part) a piece ≡ n
    is_new = sym (new-seen pool part is a piece fits n (ap (λ s. len s + n) (sym gone.set) ∙ gone.count))

    -- too many gaps aren't left
    pub not_many : leaves_too_many_gaps (seen pool part) a piece ≡ false
    not_many = gaps-seen pool part is a piece ∙ le-ltb 64 _ (omega (arith, few, ap (λ s. length (ranges s)) gone.set))

    -- the answer to a piece that is taken
    pub is_taken : answer (seen pool part) a piece ≡ cond (eqb n 0) Repeat (cond (eqb (len m) 0) Whole (Fresh n))
    is_taken =
        ap (λ l. kind l (new_bytes (seen pool part) a piece) (is_whole (with_bytes (seen pool part) a piece))) not_many
        ∙ ap (λ k. kind false k (is_whole (with_bytes (seen pool part) a piece))) is_new
        ∙ ap (λ w. kind false n w) (whole-seen pool part is a piece fits ∙ ap (λ s. eqb (len s) 0) (sym gone.set))

    module _ (new : Pool) (fill : IsFilled part.missing a (a + length piece) piece (bytes_of pool part.lease) (bytes_of new part.lease)) where
      -- the message that is seen afterwards is the one with the piece
      pub seen-taken : seen new (record part { missing = m }) ≡ with_bytes (seen pool part) a piece
      seen-taken =
          let size : a + length piece ≤ length (bytes_of pool part.lease) = omega (arith, fits, is.long) in
          ap (λ s. seen new (record part { missing = s })) gone.set
          ∙ sym (ap (λ b. record (seen pool part) { bytes = b })
          (bytes-taken (seen pool part) (bytes_of pool part.lease) (bytes_of new part.lease) part.missing a piece refl size fill))

      -- where no byte is new, nothing changes
      pub missing-same : n ≡ 0 → m ≡ part.missing
      missing-same e = gone.set ∙ taken_same part.missing a (a + length piece) (omega (arith, e, gone.count, ap len gone.set))

      pub bytes-same : n ≡ 0 → bytes_of new part.lease ≡ bytes_of pool part.lease
      bytes-same e = ext_get_or 0 (bytes_of new part.lease) (bytes_of pool part.lease) fill.length (λ q _. stays q (has part.missing q) refl) where
        stays : (q : ℕ) (b : Bool) → has part.missing q ≡ b → get_or (bytes_of new part.lease) q 0 ≡ get_or (bytes_of pool part.lease) q 0
        stays q false f = fill.kept q f
        stays q true f =
            let none : (is_between a (a + length piece) q && has part.missing q) ≡ false =
            none_taken part.missing a (a + length piece) (omega (arith, e, gone.count, ap len gone.set)) q in
            elim (cases_lt q a) [
              | inl h ↦ fill.around q (inl h)
              | inr h ↦ elim (cases_lt q (a + length piece)) [
                | inl k ↦ absurd (true≢false (sym (ap (λ t. t && has part.missing q) (range_in a (a + length piece) q h k) ∙ f) ∙ none))
                | inr k ↦ fill.around q (inr k)
              ]
            ]

  -- whether a piece brings the last missing bytes
  pub completes_true : part.missing ≢ empty → left ≡ empty → true ≡ completes (seen pool part) a piece
  completes_true more none =
      let z : len left ≡ 0 = len-none left none in
      let some : 0 < new_bytes (seen pool part) a piece = elim (cases_lt 0 (new_bytes (seen pool part) a piece)) [
        | inl h ↦ h
        | inr h ↦ absurd (more (empty_of_len part.missing (omega (arith, counted, z, h))))
      ] in
      sym (ap (λ t. t && is_whole (with_bytes (seen pool part) a piece)) (lt-ltb 0 _ some) ∙ whole-seen pool part is a piece fits ∙ eq-eqb (len left) 0 z)

  pub completes_false : ((part.missing ≢ empty) × (left ≡ empty) → ⊥) → false ≡ completes (seen pool part) a piece
  completes_false never = sym (choose (completes (seen pool part) a piece) refl) where
    choose : (b : Bool) → completes (seen pool part) a piece ≡ b → completes (seen pool part) a piece ≡ false
    choose false e = e
    choose true e =
        let both = and_parts (ltb 0 (new_bytes (seen pool part) a piece)) (is_whole (with_bytes (seen pool part) a piece)) e in
        let some : 0 < new_bytes (seen pool part) a piece = ltb-true 0 _ both.0 in
        let z : len left ≡ 0 = eqb-true (len left) 0 (sym (whole-seen pool part is a piece fits) ∙ both.1) in
        absurd (never (λ e'. absurd (omega (arith, counted, some, len-none part.missing e')), empty_of_len left z))

  -- the whole message, where none is left
  pub message-filled : (list : List ℕ) → left ≡ empty → IsFilled part.missing a (a + length piece) piece (bytes_of pool part.lease) list
      → list ≡ message (with_bytes (seen pool part) a piece)
  message-filled list none fill =
      let size : a + length piece ≤ length (bytes_of pool part.lease) = omega (arith, fits, is.long) in
      let bytes = bytes-taken (seen pool part) (bytes_of pool part.lease) list part.missing a piece refl size fill in
      sym (message-whole (with_bytes (seen pool part) a piece) list
      (λ q x e. there q x (has left q) (sym (get-known list left q) ∙ ap (λ (b : Map nat_cmp ℕ). get b q) (sym bytes) ∙ e)) (sym (fill.length ∙ is.long))
      (whole-seen pool part is a piece fits ∙ eq-eqb (len left) 0 (len-none left none))) where
        there : (q x : ℕ) (b : Bool) → cond b None (slice_get list q) ≡ Some x → slice_get list q ≡ Some x
        there q x true e = cc
        there q x false e = e

-- a part of which nothing has arrived is seen as a message that was just opened
pub seen-unarrived : (pool : Pool) (peer : HostId) (n order granted : ℕ) (lease : Held) → IsLeaseOf pool lease → lease.len ≡ n → granted ≤ n
    → seen pool (unarrived peer n order granted lease) ≡ opened peer n order granted
seen-unarrived pool peer n order granted lease held long within_end =
    let end : granted ≡ min n granted = omega arith in
    let none : known (bytes_of pool lease) (set_of_range 0 n) ≡ empty = same_map nat_cmp_total nat_cmp-IsAntisymmetric _ _ (λ q.
    get-known (bytes_of pool lease) (set_of_range 0 n) q ∙ ap (λ b. cond b None (slice_get (bytes_of pool lease) q)) (has-set_of_range 0 n q) ∙ gone q
    ∙ sym (get-empty nat_cmp q)) in
    ap (λ b. record (seen pool (unarrived peer n order granted lease)) { bytes = b }) none
    ∙ ap (λ g. record (opened peer n order granted) { granted = g }) end where
      gone : (q : ℕ) → cond (leb 0 q && ltb q n) None (slice_get (bytes_of pool lease) q) ≡ None
      gone q =
          elim (cases_lt q n) [
            | inl h ↦ ap (λ b. cond b None (slice_get (bytes_of pool lease) q)) (range_in 0 n q (omega arith) h)
            | inr h ↦
                let past : slice_get (bytes_of pool lease) q ≡ None =
                slice_get_past (bytes_of pool lease) q (omega (arith, h, long, length-bytes_of pool lease held)) in
                either (leb 0 q && ltb q n) past
          ] where
            either : (b : Bool) → slice_get (bytes_of pool lease) q ≡ None → cond b None (slice_get (bytes_of pool lease) q) ≡ None
            either true e = refl
            either false e = e

-- what is known of it
pub part-unarrived : (n granted : ℕ) (lease : Held) → lease.len ≡ n → n ≤ 1000000 → granted ≤ n → IsPart n granted (set_of_range 0 n) lease
part-unarrived n granted lease long small within_end = record {
  leased = long;
  small = small;
  granted = within_end;
  below = below-set_of_range 0 n;
  few = omega (arith, one_range 0 n);
}

-- and where a piece is taken off its missing bytes
pub part-without : (n granted : ℕ) (m m' : Numbers) (lease : Held) (a b k : ℕ) → IsPart n granted m lease → RemovesRange m m' a b k
    → length (ranges m') ≤ 64 → IsPart n granted m' lease
part-without n granted m m' lease a b k is gone few = record {
  leased = is.leased;
  small = is.small;
  granted = is.granted;
  below = subst (λ (s : Numbers). IsBelow s n) (sym gone.set) (below-without_range m a b n is.below);
  few = few;
}
