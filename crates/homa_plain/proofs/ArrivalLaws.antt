-- What a piece that arrives does to an incoming message.
use Rattle.std.proofs.Common.{◌≡◌, ℕ, zero, suc, ◌+◌, ◌-◌, ◌≤◌, Bool, true, false, ◌&&◌, cond, ltb, leb, List, [], ◌∷◌, length, refl, sym, ap, subst}
use Rattle.std.proofs.Common.{◌∙◌, arith, Option, Some, None}
use Rattle.std.specs.Option.{MatchOption, is_some, option_map, unwrap_or}
use Rattle.std.specs.List.{slice_get, slice_range}
use Rattle.std.specs.Ordering.{nat_cmp}
use Rattle.std.specs.Cmp.{nat_cmp_total}
use Rattle.std.specs.FinMap.{nat_cmp-IsAntisymmetric}
use Rattle.std.proofs.lemmas.Bool.{le-ltb, lt-ltb, ltb-false, eqb-true, eq-eqb, true≢false}
use Rattle.plain_sets.specs.Maps.{Map, empty, get, retain, len, IsPartOf}
use Rattle.plain_sets.specs.Ranges.{is_between, width_of, NoneIn, IsFirstIn}
use Rattle.plain_sets.specs.Numbers.{has, with_range, without_range, IsBelow, ranges, missing, gaps}
use Rattle.plain_sets.proofs.MapLaws.{get-empty, get-retain, empty_of_len}
use Rattle.plain_sets.proofs.RangeLaws.{ranges-empty}
use Rattle.plain_sets.proofs.SpreadLaws.{get-insert_all, is_some-slice_get}
use Rattle.plain_sets.proofs.KeySets.{has-key_set, len-key_set, key_set-insert_all}
use Rattle.plain_sets.proofs.WholeLaws.{part-insert_all, part-whole}
use Rattle.plain_sets.proofs.NumberLaws.{has-empty, same_numbers}
use Rattle.plain_sets.proofs.CountLaws.{len-with_range, len-below, len-missing, has-missing}
use Rattle.plain_sets.proofs.MoreCounts.{len-grows, len-ranges, missing-with_range, missing-empty, gaps-one_range}
use Rattle.plain_sets.proofs.CutLaws.{first-first_in}
use Rattle.homa_plain.specs.declared.id.HostId.{HostId}
use Rattle.homa_plain.specs.Incoming.{Incoming, opened, arrived, remaining, missing_ranges, is_missing, first_gap, first_known, with_bytes, new_bytes}
use Rattle.homa_plain.specs.Incoming.{leaves_too_many_gaps, is_whole, message, granted_to, IsSound}
use Rattle.homa_plain.proofs.PartSets.{in_range, below-with_range, one_range}

-- as many bytes as the piece has
length-first_known : (known : Map nat_cmp ℕ) (a : ℕ) (xs : List ℕ) → length (first_known known a xs) ≡ length xs
length-first_known known a [] = refl
length-first_known known a (x ∷ xs) = ap suc (length-first_known known (suc a) xs)

-- each is the known one, if there is one
get-first_known : (known : Map nat_cmp ℕ) (a : ℕ) (xs : List ℕ) (i : ℕ)
    → slice_get (first_known known a xs) i ≡ option_map (λ x. unwrap_or (get known (i + a)) x) (slice_get xs i)
get-first_known known a [] i = refl
get-first_known known a (x ∷ xs) zero = ap (λ n. Some (unwrap_or (get known n) x)) (omega arith)
get-first_known known a (x ∷ xs) (suc i) = let e : suc i + a ≡ i + suc a = omega arith in rw e (get-first_known known (suc a) xs i)

-- a value that is there already stays
some_known : (x : ℕ) (o : Option ℕ) → is_some o ≡ true → option_map (λ y. unwrap_or (Some x) y) o ≡ Some x
some_known x None h = absurd (true≢false (sym h))
some_known x (Some y) h = refl

-- where there was none the new one is taken
none_known : (o : Option ℕ) → option_map (λ y. unwrap_or None y) o ≡ o
none_known None = refl
none_known (Some y) = refl

module _ (p : Incoming) (a : ℕ) (xs : List ℕ) where
  -- the bytes that the piece overlaps
  abbrev overlap : Map nat_cmp ℕ
  overlap = retain p.bytes (is_between a (a + length xs))

  -- they are those of the message
  get-overlap : (q : ℕ) → (leb a q && ltb q (a + length xs)) ≡ true → get overlap q ≡ get p.bytes q
  get-overlap q e =
      get-retain nat_cmp_total p.bytes (is_between a (a + length xs)) q (λ x t. ap (is_between a (a + length xs)) (sym (nat_cmp-IsAntisymmetric q x t)))
      ∙ ap (λ b. cond b (get p.bytes q) None) e

  -- the bytes after the piece came
  got : (q : ℕ) → get (with_bytes p a xs).bytes q ≡ cond (leb a q && ltb q (a + length xs))
      (option_map (λ x. unwrap_or (get p.bytes q) x) (slice_get xs (q - a))) (get p.bytes q)
  got q =
      get-insert_all p.bytes a (first_known overlap a xs) q
      ∙ ap (λ n. cond (leb a q && ltb q (a + n)) (slice_get (first_known overlap a xs) (q - a)) (get p.bytes q)) (length-first_known overlap a xs)
      ∙ elim (leb a q && ltb q (a + length xs)) as (λ b. (leb a q && ltb q (a + length xs)) ≡ b
      → cond b (slice_get (first_known overlap a xs) (q - a)) (get p.bytes q) ≡ cond b
      (option_map (λ x. unwrap_or (get p.bytes q) x) (slice_get xs (q - a))) (get p.bytes q)) [
        | true ↦ λ e.
            let in_piece = in_range a (a + length xs) q e in
            let place : q - a + a ≡ q = omega (arith, in_piece.0) in
            get-first_known overlap a xs (q - a) ∙ ap (λ o. option_map (λ x. unwrap_or o x) (slice_get xs (q - a))) (ap (get overlap) place ∙ get-overlap q e)
        | false ↦ λ e. refl
      ] refl

  -- bytes that had arrived keep their values
  pub get-kept : (q x : ℕ) → get p.bytes q ≡ Some x → get (with_bytes p a xs).bytes q ≡ Some x
  get-kept q x e = got q ∙ choose (leb a q && ltb q (a + length xs)) refl where
    choose : (b : Bool) → (leb a q && ltb q (a + length xs)) ≡ b
        → cond b (option_map (λ y. unwrap_or (get p.bytes q) y) (slice_get xs (q - a))) (get p.bytes q) ≡ Some x
    choose true t =
        let in_piece = in_range a (a + length xs) q t in
        ap (λ o. option_map (λ y. unwrap_or o y) (slice_get xs (q - a))) e ∙ some_known x (slice_get xs (q - a))
        (is_some-slice_get xs (q - a) ∙ lt-ltb (q - a) (length xs) (omega (arith, in_piece.0, in_piece.1)))
    choose false t = e

  -- the others are those of the piece
  pub get-new : (q : ℕ) → get p.bytes q ≡ None → get (with_bytes p a xs).bytes q ≡ cond (leb a q && ltb q (a + length xs)) (slice_get xs (q - a)) None
  get-new q e =
      got q ∙ ap (λ o. cond (leb a q && ltb q (a + length xs)) (option_map (λ y. unwrap_or o y) (slice_get xs (q - a))) o) e
      ∙ ap (λ o. cond (leb a q && ltb q (a + length xs)) o None) (none_known (slice_get xs (q - a)))

  -- the numbers that have arrived are those that had, and those of the piece
  pub arrived-with_bytes : arrived (with_bytes p a xs) ≡ with_range (arrived p) a (a + length xs)
  arrived-with_bytes = key_set-insert_all p.bytes a (first_known overlap a xs) ∙ ap (λ n. with_range (arrived p) a (a + n)) (length-first_known overlap a xs)

  -- they stay below the length
  pub below-with_bytes : IsBelow (arrived p) p.length → a + length xs ≤ p.length → IsBelow (arrived (with_bytes p a xs)) p.length
  below-with_bytes below h = rw arrived-with_bytes (below-with_range (arrived p) a (a + length xs) p.length below h)

  -- they are missing no more
  pub missing-with_bytes : (n : ℕ) → missing (arrived (with_bytes p a xs)) n ≡ without_range (missing (arrived p) n) a (a + length xs)
  missing-with_bytes n = ap (λ s. missing s n) arrived-with_bytes ∙ missing-with_range (arrived p) a (a + length xs) n

  -- there are no fewer bytes
  pub grows-with_bytes : len p.bytes ≤ len (with_bytes p a xs).bytes
  grows-with_bytes =
      let after : len (with_bytes p a xs).bytes ≡ len (with_range (arrived p) a (a + length xs)) =
      sym (len-key_set (with_bytes p a xs).bytes) ∙ ap len arrived-with_bytes in
      omega (arith, after, len-key_set p.bytes, len-grows (arrived p) a (a + length xs))

  -- there are more bytes by those that are new
  pub remaining-with_bytes : IsBelow (arrived p) p.length → a + length xs ≤ p.length → remaining p ≡ remaining (with_bytes p a xs) + new_bytes p a xs
  remaining-with_bytes below h =
      let after : len (with_bytes p a xs).bytes ≡ len (with_range (arrived p) a (a + length xs)) =
      sym (len-key_set (with_bytes p a xs).bytes) ∙ ap len arrived-with_bytes in
      let before : len p.bytes ≡ len (arrived p) = sym (len-key_set p.bytes) in
      omega (
        arith,
        after,
        before,
        len-with_range (arrived p) a (a + length xs),
        len-grows (arrived p) a (a + length xs),
        len-below (with_range (arrived p) a (a + length xs)) p.length (below-with_range (arrived p) a (a + length xs) p.length below h),
      )

-- of a message that was just opened nothing has arrived
pub arrived-opened : (peer : HostId) (n order unsched : ℕ) → arrived (opened peer n order unsched) ≡ empty
arrived-opened peer n order unsched =
    same_numbers _ _ (λ q. has-key_set (opened peer n order unsched).bytes q ∙ ap is_some (get-empty nat_cmp q) ∙ sym (has-empty q))

-- the first piece of a message leaves at most two gaps
pub first_piece : (peer : HostId) (n order unsched a : ℕ) (xs : List ℕ) → length (missing_ranges (with_bytes (opened peer n order unsched) a xs)) ≤ 2
first_piece peer n order unsched a xs =
    omega (
      arith,
      ap (λ s. length (gaps s n))
          (arrived-with_bytes (opened peer n order unsched) a xs ∙ ap (λ s. with_range s a (a + length xs)) (arrived-opened peer n order unsched)),
      gaps-one_range a (a + length xs) n,
    )

-- so it never leaves too many
pub first_taken : (peer : HostId) (n order unsched a : ℕ) (xs : List ℕ) → leaves_too_many_gaps (opened peer n order unsched) a xs ≡ false
first_taken peer n order unsched a xs = le-ltb 64 _ (omega (arith, first_piece peer n order unsched a xs))

-- pieces of one message make parts of it
pub part-with_bytes : (p : Incoming) (xs : List ℕ) (a b : ℕ) → IsPartOf p.bytes xs → IsPartOf (with_bytes p a (slice_range xs a b)).bytes xs
part-with_bytes p xs a b part q x e = choose (get p.bytes q) refl where
  choose : (o : Option ℕ) → get p.bytes q ≡ o → slice_get xs q ≡ Some x
  choose (Some y) f = part q x (f ∙ sym (get-kept p a (slice_range xs a b) q y f) ∙ e)
  choose None f =
      part-insert_all p.bytes xs a b part q x
      (get-insert_all p.bytes a (slice_range xs a b) q
      ∙ ap (cond (leb a q && ltb q (a + length (slice_range xs a b))) (slice_get (slice_range xs a b) (q - a))) f
      ∙ sym (get-new p a (slice_range xs a b) q f) ∙ e)

-- and the whole of them is the message
pub message-whole : (p : Incoming) (xs : List ℕ) → IsPartOf p.bytes xs → p.length ≡ length xs → is_whole p ≡ true → message p ≡ xs
message-whole p xs part same whole = part-whole p.bytes xs part (eqb-true (len p.bytes) p.length whole ∙ same)

-- the first gap is the first range of missing bytes below the granted end, and there is none where none is missing
pub first-first_gap : (p : Incoming) → MatchOption (first_gap p) (NoneIn (is_missing p) 0 p.granted) (IsFirstIn (is_missing p) 0 p.granted)
first-first_gap p =
    subst (λ (test : ℕ → Bool). MatchOption (first_gap p) (NoneIn test 0 p.granted) (IsFirstIn test 0 p.granted))
    (λ i q. has-missing (arrived p) p.length q i) (first-first_in (missing (arrived p) p.length) 0 p.granted)

-- the gaps have as many bytes as are missing
pub remaining-gaps : (p : Incoming) → IsBelow (arrived p) p.length → remaining p ≡ width_of (missing_ranges p)
remaining-gaps p below = omega (arith, len-key_set p.bytes, len-missing (arrived p) p.length below, len-ranges (missing (arrived p) p.length))

-- a message is whole exactly where it has no gap
pub whole-gaps : (p : Incoming) → IsBelow (arrived p) p.length → is_whole p ≡ true → missing_ranges p ≡ []
whole-gaps p below whole =
    let full : len p.bytes ≡ p.length = eqb-true (len p.bytes) p.length whole in
    let none : missing (arrived p) p.length ≡ empty = empty_of_len _ (omega (arith, full, len-key_set p.bytes, len-missing (arrived p) p.length below)) in
    ap ranges none ∙ ranges-empty

pub gaps-whole : (p : Incoming) → IsBelow (arrived p) p.length → missing_ranges p ≡ [] → is_whole p ≡ true
gaps-whole p below none =
    eq-eqb (len p.bytes) p.length
    (omega (arith, len-key_set p.bytes, len-missing (arrived p) p.length below, len-ranges (missing (arrived p) p.length), ap width_of none))

-- a message that was just opened is sound
pub sound-opened : (peer : HostId) (n order unsched : ℕ) → IsSound (opened peer n order unsched)
sound-opened peer n order unsched = record {
  below = λ x e. absurd (true≢false (sym e ∙ ap (λ s. has s x) (arrived-opened peer n order unsched) ∙ has-empty x));
  granted = omega arith;
  few = omega (arith, ap (λ s. length (gaps s n)) (arrived-opened peer n order unsched), ap (λ s. length (ranges s)) (missing-empty n), one_range 0 n);
}

-- and stays so with a piece that doesn't leave too many gaps
pub sound-with_bytes : (p : Incoming) (a : ℕ) (xs : List ℕ) → IsSound p → a + length xs ≤ p.length → leaves_too_many_gaps p a xs ≡ false
    → IsSound (with_bytes p a xs)
sound-with_bytes p a xs sound h few = record { below = below-with_bytes p a xs sound.below h; granted = sound.granted; few = ltb-false 64 _ few }

-- and with a granted end that isn't above its length
pub sound-granted_to : (p : Incoming) (offset : ℕ) → IsSound p → offset ≤ p.length → IsSound (granted_to p offset)
sound-granted_to p offset sound h = record { below = sound.below; granted = h; few = sound.few }
