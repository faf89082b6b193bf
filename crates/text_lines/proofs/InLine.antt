-- A line that is taken in parts.
use Rattle.std.proofs.Common.{◌≡◌, ◌<◌, ◌≤◌, ℕ, ◌+◌, ◌-◌, ◌==◌, Bool, true, false, add-zero, arith, List, [], ◌∷◌, ◌++◌, length, take, drop, refl}
use Rattle.std.proofs.Common.{sym, ap, ◌∙◌, subst, length-append, inl, inr, ◌⊎◌}
use Rattle.std.proofs.lemmas.Bool.{cases_lt, eqb-true}
use Rattle.std.proofs.lemmas.Bool.Decides.{nat_tests}
use Rattle.std.proofs.lemmas.List.{length-take-le, take-append-le, take_all, append-nil, nil_from_length}
use Rattle.std.proofs.Math.Seq.{take-nil, take-append-add}
use Rattle.homa_io.specs.Outside.{IsAtEnd}
use Rattle.homa_plain.specs.Input.{has_no_feed}
use Rattle.text_lines.specs.Rest.{Rest, Takes, StopsInLine}
use Rattle.text_lines.specs.Scan.{IsInLine, IsWhole}
use Rattle.text_lines.proofs.Feeds.{has_no_feed-append}
use Rattle.text_lines.proofs.Taking.{takes_none, takes_on, takes_front, takes_behind, takes_first}

-- no byte was taken yet
pub in_line_start : (rest : Rest) (room : ℕ) (line : List ℕ) → line ≡ [] → IsInLine rest rest room line 0 []
in_line_start rest room line none =
    record { bytes = []; taken = takes_none rest.pending rest.left rest.left refl; one_line = refl; count = refl; kept = none ∙ sym (take-nil room) }

-- any bytes follow
pub in_line_then : (old mid new : Rest) (room : ℕ) (line : List ℕ) (n : ℕ) (last : List ℕ) → IsInLine old mid room line n [] → Takes mid new last
    → IsInLine old new room line n last
in_line_then old mid new room line n last so_far next = record {
  bytes = so_far.bytes;
  taken = subst (λ (xs : List ℕ). Takes old new (xs ++ last)) (append-nil so_far.bytes) (takes_on old mid new (so_far.bytes ++ []) last so_far.taken next);
  one_line = so_far.one_line;
  count = so_far.count;
  kept = so_far.kept;
}

-- as much of the line is kept as there is room for
kept_more : (room : ℕ) (bytes more : List ℕ) → (room < length bytes) ⊎ (length bytes ≤ room)
    → take room bytes ++ take (room - length (take room bytes)) more ≡ take room (bytes ++ more)
kept_more room bytes more (inl h) =
    let none : room - length (take room bytes) ≡ 0 = omega (arith, length-take-le room bytes (omega arith)) in
    rw none (append-nil (take room bytes) ∙ sym (take-append-le room bytes more (omega arith)))
kept_more room bytes more (inr h) =
    let sum : length bytes + (room - length bytes) ≡ room = omega arith in
    rw (take_all room bytes h) (sym (take-append-add bytes more (room - length bytes)) ∙ ap (λ (k : ℕ). take k (bytes ++ more)) sum)

kept_on : (room : ℕ) (line bytes more : List ℕ) → line ≡ take room bytes → line ++ take (room - length line) more ≡ take room (bytes ++ more)
kept_on room line bytes more is = rw is (kept_more room bytes more (cases_lt room (length bytes)))

-- k pending bytes, of which none is a line feed, are taken, and kept where there is room
pub in_line_more : (old mid : Rest) (room : ℕ) (line : List ℕ) (n k : ℕ) (more : List ℕ) → IsInLine old mid room line n []
    → has_no_feed (take k mid.pending) ≡ true → k ≤ length mid.pending → more ≡ line ++ take (room - length line) (take k mid.pending)
    → IsInLine old (record { pending = drop k mid.pending; left = mid.left }) room more (n + k) []
in_line_more old mid room line n k more so_far none fits is =
    let part = take k mid.pending in
    let then =
    in_line_then old mid (record { pending = drop k mid.pending; left = mid.left }) room line n part so_far (takes_front mid.pending k mid.left) in record {
      bytes = then.bytes ++ part;
      taken =
          subst (λ (xs : List ℕ). Takes old (record { pending = drop k mid.pending; left = mid.left }) xs) (sym (append-nil (then.bytes ++ part))) then.taken;
      one_line = has_no_feed-append then.bytes part then.one_line none;
      count = omega (arith, length-append then.bytes part, then.count, length-take-le k mid.pending fits);
      kept = is ∙ kept_on room line then.bytes part then.kept;
    }

-- a read failed behind these bytes
pub in_line_stops : (old mid new : Rest) (room : ℕ) (line : List ℕ) (n : ℕ) → IsInLine old mid room line n [] → Takes mid new [] → new.pending ≡ []
    → StopsInLine old new
in_line_stops old mid new room line n so_far next none =
    let stopped = in_line_then old mid new room line n [] so_far next in record {
      taken = stopped.bytes;
      takes = subst (λ (xs : List ℕ). Takes old new xs) (append-nil stopped.bytes) stopped.taken;
      one_line = stopped.one_line;
      none_pending = none;
    }

-- the input ends behind them
pub whole_end : (old mid new : Rest) (room : ℕ) (line : List ℕ) (n most : ℕ) → IsInLine old mid room line n [] → Takes mid new [] → new.pending ≡ []
    → IsAtEnd new.left → n ≤ most → IsWhole old new room line n n × (n ≤ most)
whole_end old mid new room line n most so_far next none_pending none_left within = (
  record {
    last = [];
    in_line = in_line_then old mid new room line n [] so_far next;
    ended = inr (refl, record { none_pending = none_pending; none_left = none_left });
    total = add-zero n;
  },
  within,
)

-- their line feed is pending
pub whole_feed : (old mid : Rest) (pending : List ℕ) (room : ℕ) (line : List ℕ) (n most : ℕ) → IsInLine old mid room line n []
    → mid.pending ≡ 10 ∷ pending → n < most → IsWhole old (record { pending = pending; left = mid.left }) room line n (n + 1) × (n + 1 ≤ most)
whole_feed old mid pending room line n most so_far is within = (
  record {
    last = 10 ∷ [];
    in_line =
        in_line_then old mid (record { pending = pending; left = mid.left }) room line n (10 ∷ []) so_far (takes_behind mid.pending 10 pending mid.left is);
    ended = inl refl;
    total = refl;
  },
  omega arith,
)

-- one byte more than `most` is pending
pub in_line_over : (old mid : Rest) (room : ℕ) (line : List ℕ) (n most : ℕ) → IsInLine old mid room line n [] → 0 < length mid.pending → n ≡ most
    → (b : ℕ) × IsInLine old (record { pending = drop 1 mid.pending; left = mid.left }) room line most (b ∷ [])
in_line_over old mid room line n most so_far some all =
    let next = takes_first mid.pending mid.left some in (
      next.0,
      subst (λ (k : ℕ). IsInLine old (record { pending = drop 1 mid.pending; left = mid.left }) room line k (next.0 ∷ [])) all
          (in_line_then old mid (record { pending = drop 1 mid.pending; left = mid.left }) room line n (next.0 ∷ []) so_far next.1),
    )

-- whether a part has bytes, by its test
pub no_bytes : (part pending : List ℕ) (is : Bool) → part ≡ pending → is ≡ (length part == 0) → is ≡ true → pending ≡ []
no_bytes part pending is same test t = sym same ∙ nil_from_length part (eqb-true (length part) 0 (sym test ∙ t))

has_bytes : (part : List ℕ) (is : Bool) → is ≡ (length part == 0) → is ≡ false → 0 < length part
has_bytes part is test f = grind (arith, nat_tests)

pub some_bytes : (part pending : List ℕ) (is : Bool) → part ≡ pending → is ≡ (length part == 0) → is ≡ false → 0 < length pending
some_bytes part pending is same test f = subst (λ (xs : List ℕ). 0 < length xs) same (has_bytes part is test f)
