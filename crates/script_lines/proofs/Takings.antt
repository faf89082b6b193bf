-- Which lines a reader took, and when it read.
use Rattle.std.proofs.Common.{◌≡◌, ◌<◌, ◌≤◌, ◌⊎◌, inl, inr, ℕ, suc, ◌+◌, arith, Bool, true, false, Option, List, [], ◌∷◌, ◌++◌, length, refl, sym, ap, ◌∙◌}
use Rattle.std.specs.Prelude.{◌==◌, ◌-◌, ◌^◌, min, if◌then◌else◌}
use Rattle.std.proofs.lemmas.List.{append-nil}
use Rattle.homa_io.specs.Outside.{unread, IsAtEnd}
use Rattle.homa_plain.specs.Input.{onto_first_line, lines_of, has_no_feed, ends_in_feed}
use Rattle.text_lines.specs.Lines.{Reading, TakesLine, IsLine, IsLong, IsOver, IsEnd}
use Rattle.text_lines.specs.Rest.{Takes}
use Rattle.text_lines.proofs.Taking.{takes_none, takes_on}
use Rattle.script_lines.specs.Place.{Place, place_of, IsCounted}
use Rattle.script_lines.specs.Taking.{feeds, TakesLines, GoesOn}
use Rattle.script_lines.proofs.LinesOf.{lines_of-feed, lines_of-last}
use Rattle.script_lines.proofs.NextLine.{Got}

-- ---- how many lines and line feeds

onto-count : (b n : ℕ) (p q : List (List ℕ)) → length p ≤ length q + n → length (onto_first_line b p) ≤ length (onto_first_line b q) + n
onto-count b n [] [] h = omega arith
onto-count b n [] (l ∷ q) h = omega arith
onto-count b n (k ∷ p) [] h = omega (arith, h)
onto-count b n (k ∷ p) (l ∷ q) h = omega (arith, h)

count_by : (b n : ℕ) (t : Bool) (p q : List (List ℕ)) → length p ≤ length q + n
    → length (if t then (10 ∷ []) ∷ p else onto_first_line b p) ≤ length (if t then (10 ∷ []) ∷ q else onto_first_line b q) + n
count_by b n true p q h = omega (arith, h)
count_by b n false p q h = onto-count b n p q h

-- two parts have no more lines than each by itself
lines_of-parts : (xs ys : List ℕ) → length (lines_of (xs ++ ys)) ≤ length (lines_of xs) + length (lines_of ys)
lines_of-parts [] ys = omega arith
lines_of-parts (b ∷ xs) ys = count_by b (length (lines_of ys)) (b == 10) (lines_of (xs ++ ys)) (lines_of xs) (lines_of-parts xs ys)

last_one : (line : List ℕ) → has_no_feed line ≡ true → length (lines_of line) ≤ 1
last_one [] h = omega arith
last_one (b ∷ bytes) h = let one : length (lines_of (b ∷ bytes)) ≡ 1 = ap length (lines_of-last (b ∷ bytes) h (omega arith)) in omega (arith, one)

one_line : (line : List ℕ) → (ends_in_feed line ≡ true) ⊎ (has_no_feed line ≡ true) → length (lines_of line) ≤ 1
one_line line (inl h) = let one : length (lines_of line) ≡ 1 = ap length (ap lines_of (sym (append-nil line)) ∙ lines_of-feed line [] h) in omega (arith, one)
one_line line (inr h) = last_one line h

feeds_by : (t : Bool) (n m k : ℕ) → n ≡ m + k → (if t then suc n else n) ≡ (if t then suc m else m) + k
feeds_by true n m k e = omega (arith, e)
feeds_by false n m k e = e

feeds-append : (xs ys : List ℕ) → feeds (xs ++ ys) ≡ feeds xs + feeds ys
feeds-append [] ys = let same : feeds ys ≡ 0 + feeds ys = omega arith in same
feeds-append (b ∷ xs) ys = feeds_by (b == 10) (feeds (xs ++ ys)) (feeds xs) (feeds ys) (feeds-append xs ys)

onto_longer : (b n : ℕ) (ls : List (List ℕ)) → n ≤ length ls → n ≤ length (onto_first_line b ls)
onto_longer b n [] h = omega (arith, h)
onto_longer b n (l ∷ ls) h = omega (arith, h)

within_by : (b n : ℕ) (t : Bool) (ls : List (List ℕ)) → n ≤ length ls → (if t then suc n else n) ≤ length (if t then (10 ∷ []) ∷ ls else onto_first_line b ls)
within_by b n true ls h = omega (arith, h)
within_by b n false ls h = onto_longer b n ls h

-- each line feed ends a line
feeds_within : (xs : List ℕ) → feeds xs ≤ length (lines_of xs)
feeds_within [] = omega arith
feeds_within (b ∷ xs) = within_by b (feeds xs) (b == 10) (lines_of xs) (feeds_within xs)

none_by : (t : Bool) (xs : List ℕ) → (if t then false else has_no_feed xs) ≡ true → (has_no_feed xs ≡ true → feeds xs ≡ 0)
    → (if t then suc (feeds xs) else feeds xs) ≡ 0
none_by true xs h f = absurd cc
none_by false xs h f = f h

no_feeds : (xs : List ℕ) → has_no_feed xs ≡ true → feeds xs ≡ 0
no_feeds [] h = refl
no_feeds (b ∷ xs) h = none_by (b == 10) xs h (λ k. no_feeds xs k)

-- ---- the next line

needed_by : (pending : List ℕ) (t : Bool) (old new : ℕ) (left left_then : Option (List ℕ)) → has_no_feed pending ≡ t → (t ≡ false → left_then ≡ left)
    → new ≡ old + 1 → (left_then ≡ left) ⊎ (old + feeds pending < new)
needed_by pending true old new left left_then e f n = let none = no_feeds pending e in inr (omega (arith, none, n))
needed_by pending false old new left left_then e f n = inl (f refl)

takes_one : (old new : Reading) (left left_then : Option (List ℕ)) (came taken : List ℕ) → left ≡ unread came left_then
    → old.pending ++ came ≡ taken ++ new.pending → length (lines_of taken) ≤ 1 → IsCounted (place_of old)
    → new.number ≡ min (old.number + 1) (2 ^ 64 - 1) → (has_no_feed old.pending ≡ false → left_then ≡ left)
    → TakesLines (place_of old) (place_of new) left left_then
takes_one old new left left_then came taken e f one c n stays =
    let next : new.number ≡ old.number + 1 = omega (arith, n, c.counted, c.within, c.countable) in
    record {
      taken = taken;
      takes = record { came = came; source = e; bytes = f };
      lines = omega (arith, one, next);
      needed = needed_by old.pending (has_no_feed old.pending) old.number new.number left left_then refl stays next;
    }

whole_one : (line new : List ℕ) (end : Type 0) → (ends_in_feed line ≡ true) ⊎ ((has_no_feed line ≡ true) × (0 < length line) × (new ≡ []) × end)
    → length (lines_of line) ≤ 1
whole_one line new end (inl h) = one_line line (inl h)
whole_one line new end (inr h) = one_line line (inr h.0)

module _ (old new : Reading) (left left_then : Option (List ℕ)) (c : IsCounted (place_of old)) (n : new.number ≡ min (old.number + 1) (2 ^ 64 - 1))
    (stays : has_no_feed old.pending ≡ false → left_then ≡ left) where
  takes_line : (came line : List ℕ) → left ≡ unread came left_then → TakesLine old new came line (IsAtEnd left_then)
      → TakesLines (place_of old) (place_of new) left left_then
  takes_line came line e t = takes_one old new left left_then came line e t.bytes (whole_one line new.pending (IsAtEnd left_then) t.whole) c n stays

  pub takes_short : Got left left_then (λ came. (line : List ℕ) × IsLine old new came line (IsAtEnd left_then))
      → TakesLines (place_of old) (place_of new) left left_then
  takes_short g = takes_line g.0 g.2.0 g.1 g.2.1.taken

  pub takes_long : Got left left_then (λ came. (line : List ℕ) × IsLong old new came line (IsAtEnd left_then))
      → TakesLines (place_of old) (place_of new) left left_then
  takes_long g = takes_line g.0 g.2.0 g.1 g.2.1.taken

  pub takes_over : Got left left_then (λ came. (front : List ℕ) × IsOver old new came front) → TakesLines (place_of old) (place_of new) left left_then
  takes_over g = takes_one old new left left_then g.0 g.2.0 g.1 g.2.1.bytes (one_line g.2.0 g.2.1.one_line) c n stays

  pub takes_end : Got left left_then (λ came. IsEnd old new came (IsAtEnd left_then)) → TakesLines (place_of old) (place_of new) left left_then
  takes_end g = takes_one old new left left_then g.0 [] g.1 (g.2.none_came ∙ sym g.2.none_pending) (omega arith) c n stays

-- ---- lines one after another

-- nothing was read yet
pub lines_none : (place : Place) (left : Option (List ℕ)) → TakesLines place place left left
lines_none place left = record { taken = []; takes = takes_none place.pending left left refl; lines = omega arith; needed = inl refl }

still_needed : (a b c fa fb : ℕ) (left0 left1 left2 : Option (List ℕ)) → (left1 ≡ left0) ⊎ (a + fa < b) → (left2 ≡ left1) ⊎ (b + fb < c) → b ≤ c
    → a + fa ≤ b + fb → (left2 ≡ left0) ⊎ (a + fa < c)
still_needed a b c fa fb left0 left1 left2 (inl e) (inl f) h k = inl (f ∙ e)
still_needed a b c fa fb left0 left1 left2 (inr l) (inl f) h k = inr (omega (arith, l, h))
still_needed a b c fa fb left0 left1 left2 g (inr m) h k = inr (omega (arith, m, k))

-- lines, and then more
pub lines_on : (a b c : Place) (left0 left1 left2 : Option (List ℕ)) → TakesLines a b left0 left1 → TakesLines b c left1 left2
    → TakesLines a c left0 left2
lines_on a b c left0 left1 left2 p q =
    let parts = lines_of-parts p.taken q.taken in
    let all : feeds a.pending + feeds p.takes.came ≡ feeds p.taken + feeds b.pending
    = sym (feeds-append a.pending p.takes.came) ∙ (ap feeds p.takes.bytes ∙ feeds-append p.taken b.pending) in
    let ends = feeds_within p.taken in
    record {
      taken = p.taken ++ q.taken;
      takes = takes_on _ _ _ p.taken q.taken p.takes q.takes;
      lines = omega (arith, parts, p.lines, q.lines);
      needed = still_needed a.number b.number c.number (feeds a.pending) (feeds b.pending) left0 left1 left2 p.needed q.needed
          (omega (arith, q.lines)) (omega (arith, all, ends, p.lines));
    }

-- it took lines and has the same bounds
pub goes_with : {old new : Reading} {left left_then : Option (List ℕ)} {failed : Bool} → TakesLines (place_of old) (place_of new) left left_then
    → length new.pending ≤ 65536 → new.limit ≡ old.limit → new.longest ≡ old.longest → GoesOn old new left left_then failed
goes_with took ahead limit longest = record { took = λ _. took; ahead = ahead; limit = limit; longest = longest }

-- a reader goes on behind lines that it took
pub goes_behind : {a b c : Reading} {left0 left1 left2 : Option (List ℕ)} {before failed : Bool} → TakesLines (place_of a) (place_of b) left0 left1
    → b.limit ≡ a.limit → b.longest ≡ a.longest → GoesOn b c left1 left2 before → (failed ≡ false → before ≡ false) → GoesOn a c left0 left2 failed
goes_behind took limit longest e f = record {
  took = λ k. lines_on _ _ _ _ _ _ took (e.took (f k));
  ahead = e.ahead;
  limit = e.limit ∙ limit;
  longest = e.longest ∙ longest;
}
