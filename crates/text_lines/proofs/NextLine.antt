-- What the next line is, from what a scan found.
use Rattle.std.proofs.Common.{◌≡◌, ◌<◌, ◌≤◌, ℕ, ◌+◌, ◌-◌, arith, true, Option, List, [], ◌∷◌, ◌++◌, length, drop, sym, ap, subst, ◌∙◌, length-append}
use Rattle.std.proofs.Common.{inl, inr, ◌⊎◌}
use Rattle.std.proofs.lemmas.List.{take_all, append-nil, nil_from_length, length-take}
use Rattle.homa_io.specs.Outside.{unread, IsAtEnd}
use Rattle.homa_plain.specs.Input.{without_feed, has_no_feed, ends_in_feed}
use Rattle.text_lines.specs.declared.input.Input.{Input}
use Rattle.text_lines.specs.Input.{pending_of}
use Rattle.text_lines.specs.Rest.{Rest, StopsInLine}
use Rattle.text_lines.specs.Scan.{IsInLine, IsEnded, IsWhole}
use Rattle.text_lines.specs.Lines.{Reading, TakesLine, IsNext}
use Rattle.text_lines.specs.declared.lines.LineGot.{LineGot}
use Rattle.text_lines.specs.declared.lines.LineGot.TheVariants.{Line, Long, Over, End}
use Rattle.text_lines.proofs.Taking.{unread-nil}
use Rattle.text_lines.proofs.Feeds.{without_feed-feed, without_feed-none, ends_in_feed-feed, ends_or_not}

-- what a reader has still to give
abbrev pub rest : Reading → Option (List ℕ) → Rest
rest reading left = record { pending = reading.pending; left = left }

-- the next line, with the bytes that came from the source
abbrev pub Next : Reading → Reading → Option (List ℕ) → Option (List ℕ) → LineGot → Type 0
Next old new before now got = (came : List ℕ) × (before ≡ unread came now) × IsNext old new came (IsAtEnd now) got

whole : (new : Rest) (bytes last : List ℕ) → has_no_feed bytes ≡ true → 0 < length (bytes ++ last) → (last ≡ 10 ∷ []) ⊎ ((last ≡ []) × IsEnded new)
    → (ends_in_feed (bytes ++ last) ≡ true) ⊎ ((has_no_feed (bytes ++ last) ≡ true) × (0 < length (bytes ++ last)) × (new.pending ≡ []) × IsAtEnd new.left)
whole new bytes last h some (inl e) = inl (rw e (ends_in_feed-feed bytes h))
whole new bytes last h some (inr (e, ended)) = inr (rw (e, append-nil) h, some, ended.none_pending, ended.none_left)

text : (new : Rest) (bytes last : List ℕ) → has_no_feed bytes ≡ true → (last ≡ 10 ∷ []) ⊎ ((last ≡ []) × IsEnded new) → without_feed (bytes ++ last) ≡ bytes
text new bytes last h (inl e) = rw e (without_feed-feed bytes h)
text new bytes last h (inr (e, ended)) = rw (e, append-nil) (without_feed-none bytes h)

takes_line : (old new : Reading) (before now : Option (List ℕ)) (room : ℕ) (line : List ℕ) (n size : ℕ)
    (w : IsWhole (rest old before) (rest new now) room line n size) → 0 < size → new.read ≡ old.read + size → new.read ≤ old.limit
    → TakesLine old new w.in_line.taken.came (w.in_line.bytes ++ w.last) (IsAtEnd now)
takes_line old new before now room line n size w some read within =
    let total : length (w.in_line.bytes ++ w.last) ≡ size = omega (arith, length-append w.in_line.bytes w.last, w.in_line.count, w.total) in record {
      bytes = w.in_line.taken.bytes;
      whole = whole (rest new now) w.in_line.bytes w.last w.in_line.one_line (omega arith) w.ended;
      read = read ∙ ap (λ (k : ℕ). old.read + k) (sym total);
      within = within;
    }

-- a line that isn't too long
pub is_line : (old new : Reading) (before now : Option (List ℕ)) (n size : ℕ) → IsWhole (rest old before) (rest new now) old.longest new.line n size
    → 0 < size → new.read ≡ old.read + size → new.read ≤ old.limit → n ≤ old.longest → Next old new before now Line
is_line old new before now n size w some read within short =
    let same = text (rest new now) w.in_line.bytes w.last w.in_line.one_line w.ended in (
      w.in_line.taken.came,
      w.in_line.taken.source,
      (
        w.in_line.bytes ++ w.last,
        record {
          taken = takes_line old new before now old.longest new.line n size w some read within;
          short = omega (arith, ap length same, w.in_line.count);
          kept = w.in_line.kept ∙ (take_all old.longest w.in_line.bytes (omega (arith, w.in_line.count)) ∙ sym same);
        },
      ),
    )

-- a line that is too long
pub is_long : (old new : Reading) (before now : Option (List ℕ)) (room : ℕ) (line : List ℕ) (n size : ℕ)
    → IsWhole (rest old before) (rest new now) room line n size → 0 < size → new.read ≡ old.read + size → new.read ≤ old.limit → old.longest < n
    → Next old new before now Long
is_long old new before now room line n size w some read within long =
    let same = text (rest new now) w.in_line.bytes w.last w.in_line.one_line w.ended in (
      w.in_line.taken.came,
      w.in_line.taken.source,
      (
        w.in_line.bytes ++ w.last,
        record {
          taken = takes_line old new before now room line n size w some read within;
          long = omega (arith, ap length same, w.in_line.count);
        },
      ),
    )

-- a line that goes past the limit
pub is_over : (old new : Reading) (before now : Option (List ℕ)) (room : ℕ) (line : List ℕ) (most b : ℕ)
    → IsInLine (rest old before) (rest new now) room line most (b ∷ []) → old.read + most ≡ old.limit → Next old new before now Over
is_over old new before now room line most b w all = (
  w.taken.came,
  w.taken.source,
  (
    w.bytes ++ b ∷ [],
    record {
      bytes = w.taken.bytes;
      one_line = ends_or_not w.bytes b w.one_line;
      count = omega (arith, length-append w.bytes (b ∷ []), w.count);
    },
  ),
)

none_by : (old new : Rest) (room : ℕ) (line : List ℕ) (n size : ℕ) (w : IsWhole old new room line n size) → size ≡ 0
    → (w.last ≡ 10 ∷ []) ⊎ ((w.last ≡ []) × IsEnded new) → (old.pending ++ w.in_line.taken.came ≡ []) × IsEnded new
none_by old new room line n size w none (inl e) =
    let one : length w.last ≡ 1 = ap length e in
    absurd (omega (arith, one, w.total, none))
none_by old new room line n size w none (inr (e, ended)) =
    let empty = nil_from_length (w.in_line.bytes ++ w.last) (omega (arith, length-append w.in_line.bytes w.last, w.in_line.count, w.total, none)) in
    (w.in_line.taken.bytes ∙ (ap (λ (zs : List ℕ). zs ++ new.pending) empty ∙ ended.none_pending), ended)

-- the end of the input, where no byte was taken
pub is_end : (old new : Reading) (before now : Option (List ℕ)) (room : ℕ) (line : List ℕ) (n size : ℕ)
    → IsWhole (rest old before) (rest new now) room line n size → size ≡ 0 → new.read ≡ old.read → Next old new before now End
is_end old new before now room line n size w none read =
    let end = none_by (rest old before) (rest new now) room line n size w none w.ended in (
      w.in_line.taken.came,
      w.in_line.taken.source,
      record { none_came = end.0; none_pending = end.1.none_pending; read = read; at_end = end.1.none_left },
    )

came_none : (pending came : List ℕ) → pending ++ came ≡ [] → came ≡ []
came_none [] came e = e
came_none (x ∷ xs) came e = absurd cc

-- at the end the source is as it was
pub end_stays : (old new : Rest) (room : ℕ) (line : List ℕ) (n size : ℕ) → IsWhole old new room line n size → size ≡ 0
    → (new.left ≡ old.left) × (new.pending ≡ [])
end_stays old new room line n size w none =
    let end = none_by old new room line n size w none w.ended in
    let empty = came_none old.pending w.in_line.taken.came end.0 in
    (sym (w.in_line.taken.source ∙ (ap (λ (xs : List ℕ). unread xs new.left) empty ∙ unread-nil new.left)), end.1.none_pending)

-- what came before a failed read
pub stops_came : (old new : Rest) → StopsInLine old new → (came : List ℕ) × (old.left ≡ unread came new.left)
stops_came old new stops = (stops.takes.came, stops.takes.source)

-- and that no line feed is among it
pub stops_unended : (old new : Rest) → StopsInLine old new
    → (came : List ℕ) × (old.left ≡ unread came new.left) × (has_no_feed (old.pending ++ came) ≡ true)
stops_unended old new stops = (
  stops.takes.came,
  stops.takes.source,
  subst (λ (xs : List ℕ). has_no_feed xs ≡ true)
      (sym (stops.takes.bytes ∙ (ap (λ (zs : List ℕ). stops.taken ++ zs) stops.none_pending ∙ append-nil stops.taken))) stops.one_line,
)

-- no more is pending than the buffer has room for
pub pending_short : (input : Input) → length (pending_of input) ≤ 65536
pending_short input =
    omega (arith, length-take (input.end - input.start) (drop input.start input.buf.items), input.within, input.sized)
