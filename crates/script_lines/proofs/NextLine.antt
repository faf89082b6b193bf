-- What the next line is, from what a reader of lines says.
use Rattle.std.proofs.Common.{◌≡◌, ◌<◌, ◌≤◌, ◌⊎◌, inl, inr, ℕ, ◌+◌, arith, Bool, true, false, Option, Some, Ok, Err, List, [], ◌∷◌, ◌++◌}
use Rattle.std.proofs.Common.{length, refl, sym, ap, ◌∙◌, append_assoc}
use Rattle.std.specs.Prelude.{nat_lt, IsUtf8}
use Rattle.std.specs.Str.{is_utf8}
use Rattle.std.proofs.lemmas.Bool.Decides.{nat_tests}
use Rattle.std.proofs.lemmas.List.{append-nil}
use Rattle.std.proofs.lemmas.Str.{IsUtf8-from_is_utf8, is_utf8-from_IsUtf8}
use Rattle.homa_io.specs.Outside.{unread, IsAtEnd}
use Rattle.homa_plain.specs.declared.fault.ScriptFault.TheVariants.{InputTooLong, LongLine, NotUtf8}
use Rattle.homa_plain.specs.Input.{lines_of, without_feed, ends_in_feed, has_no_feed}
use Rattle.homa_plain.specs.Script.{without_return, longest_line}
use Rattle.text_lines.specs.Lines.{Reading, TakesLine, IsLine, IsLong, IsOver}
use Rattle.script_lines.specs.Place.{place_of, lines_left}
use Rattle.script_lines.specs.Read.{IsRead}
use Rattle.script_lines.specs.Lines as line
use Rattle.script_lines.specs.Lines.{text_in}
use Rattle.script_lines.proofs.LinesOf.{lines_of-feed, lines_of-last, lines_of-front}
use Rattle.script_lines.proofs.ReadParts.{some_left, at_end}

-- ---- a line, by what it is made of

pub text_over : (limit : ℕ) (read : ℕ) (line : List ℕ) → limit < read + length line → text_in limit read line ≡ Err InputTooLong
unfolding text_in
text_over limit read line h = let e : nat_lt limit (read + length line) ≡ true = grind (arith, nat_tests) in rw e refl

pub text_long : (limit : ℕ) (read : ℕ) (line : List ℕ) → read + length line ≤ limit → longest_line < length (without_feed line)
    → text_in limit read line ≡ Err LongLine
unfolding text_in
text_long limit read line h k =
    let e : nat_lt limit (read + length line) ≡ false = grind (arith, nat_tests) in
    let f : nat_lt longest_line (length (without_feed line)) ≡ true = grind (arith, nat_tests) in
    rw (e, f) refl

pub text_no : (limit : ℕ) (read : ℕ) (line : List ℕ) → read + length line ≤ limit → length (without_feed line) ≤ longest_line
    → is_utf8 (without_feed line) ≡ false → text_in limit read line ≡ Err NotUtf8
unfolding text_in
text_no limit read line h k u =
    let e : nat_lt limit (read + length line) ≡ false = grind (arith, nat_tests) in
    let f : nat_lt longest_line (length (without_feed line)) ≡ false = grind (arith, nat_tests) in
    rw (e, f, u) refl

pub text_is : (limit : ℕ) (read : ℕ) (line : List ℕ) → read + length line ≤ limit → length (without_feed line) ≤ longest_line
    → is_utf8 (without_feed line) ≡ true → text_in limit read line ≡ Ok (without_return (without_feed line))
unfolding text_in
text_is limit read line h k u =
    let e : nat_lt limit (read + length line) ≡ false = grind (arith, nat_tests) in
    let f : nat_lt longest_line (length (without_feed line)) ≡ false = grind (arith, nat_tests) in
    rw (e, f, u) refl

no_text : (bytes : List ℕ) (t : Bool) → is_utf8 bytes ≡ t → ¬ (IsUtf8 bytes) → t ≡ false
no_text bytes true e h = absurd (h (IsUtf8-from_is_utf8 bytes e))
no_text bytes false e h = refl

-- ---- lines that are taken

-- the bytes that were taken, with what follows them
follow : (a came b new more : List ℕ) → a ++ came ≡ b ++ new → a ++ (came ++ more) ≡ b ++ (new ++ more)
follow a came b new more e = sym (append_assoc a came more) ∙ (ap (λ (xs : List ℕ). xs ++ more) e ∙ append_assoc b new more)

last_by : (pending line new more : List ℕ) → has_no_feed line ≡ true → 0 < length line → new ≡ [] → more ≡ [] → pending ≡ line ++ (new ++ more)
    → lines_of pending ≡ line ∷ lines_of (new ++ more)
last_by pending line new more h k e f p =
    let none : new ++ more ≡ [] = ap (λ (xs : List ℕ). xs ++ more) e ∙ f in
    ap lines_of (p ∙ (ap (λ (xs : List ℕ). line ++ xs) none ∙ append-nil line)) ∙ (lines_of-last line h k ∙ ap (λ (xs : List ℕ). line ∷ lines_of xs) (sym none))

read_by : (old new : Reading) (came line bytes : List ℕ) (left left2 : Option (List ℕ)) → old.pending ++ came ≡ line ++ new.pending
    → left ≡ unread came left2 → left ≡ Some bytes
    → (ends_in_feed line ≡ true) ⊎ ((has_no_feed line ≡ true) × (0 < length line) × (new.pending ≡ []) × IsAtEnd left2)
    → IsRead bytes left2 (lines_left (place_of old)) (λ more. line ∷ lines_left (place_of new) more)
read_by old new came line bytes left left2 is e k (inl h) =
    let cut = some_left bytes came left left2 k e in
    record {
      came = came;
      rest = cut.0;
      split = cut.1;
      has_left = cut.2;
      ended = false;
      nothing = λ n. absurd cc;
      same = λ more n. ap lines_of (follow old.pending came line new.pending more is) ∙ lines_of-feed line (new.pending ++ more) h;
    }
read_by old new came line bytes left left2 is e k (inr h) =
    let cut = some_left bytes came left left2 k e in
    record {
      came = came;
      rest = cut.0;
      split = cut.1;
      has_left = cut.2;
      ended = true;
      nothing = λ n. at_end left2 cut.0 cut.2 h.3;
      same = λ more n. last_by (old.pending ++ (came ++ more)) line new.pending more h.0 h.1 h.2 (n refl) (follow old.pending came line new.pending more is);
    }

-- a line that was taken is the first of those that are left
pub read_line : (old new : Reading) (came line bytes : List ℕ) (left left2 : Option (List ℕ)) → TakesLine old new came line (IsAtEnd left2)
    → left ≡ unread came left2 → left ≡ Some bytes → IsRead bytes left2 (lines_left (place_of old)) (λ more. line ∷ lines_left (place_of new) more)
read_line old new came line bytes left left2 t e k = read_by old new came line bytes left left2 t.bytes e k t.whole

-- ---- what the next line is

-- what was got, and these bytes came for it
abbrev pub Got : (Option (List ℕ)) → (Option (List ℕ)) → (List ℕ → Type 0) → Type 0
Got left left2 is = (came : List ℕ) × (left ≡ unread came left2) × is came

pub is_over : (old new : Reading) (left left2 : Option (List ℕ)) → Got left left2 (λ came. (front : List ℕ) × IsOver old new came front)
    → old.read ≤ old.limit → (bytes : List ℕ) → left ≡ Some bytes → line.IsRefused old bytes left2 InputTooLong
is_over old new left left2 g h bytes k =
    let front = g.2.0 in
    let over = g.2.1 in
    let some : 0 < length front = omega (arith, over.count) in
    let begins = λ (more : List ℕ). lines_of-front front (new.pending ++ more) over.one_line some in
    let cut = some_left bytes g.0 left left2 k g.1 in
    record {
      line = λ more. (begins more).line;
      later = λ more. (begins more).later;
      lines = record {
        came = g.0;
        rest = cut.0;
        split = cut.1;
        has_left = cut.2;
        ended = false;
        nothing = λ n. absurd cc;
        same = λ more n. ap lines_of (follow old.pending g.0 front new.pending more over.bytes) ∙ (begins more).first;
      };
      refused = λ more. text_over old.limit old.read (begins more).line (omega (arith, over.count, (begins more).long));
    }

pub is_long : (old new : Reading) (left left2 : Option (List ℕ)) → Got left left2 (λ came. (line : List ℕ) × IsLong old new came line (IsAtEnd left2))
    → old.longest ≡ 2100000 → (bytes : List ℕ) → left ≡ Some bytes → line.IsRefused old bytes left2 LongLine
is_long old new left left2 g h bytes k =
    let l = g.2.0 in
    let is = g.2.1 in
    record {
      line = λ more. l;
      later = λ more. lines_left (place_of new) more;
      lines = read_line old new g.0 l bytes left left2 is.taken g.1 k;
      refused = λ more. text_long old.limit old.read l (omega (arith, is.taken.read, is.taken.within)) (omega (arith, is.long, h));
    }

pub is_no_text : (old new : Reading) (left left2 : Option (List ℕ)) → Got left left2 (λ came. (line : List ℕ) × IsLine old new came line (IsAtEnd left2))
    → old.longest ≡ 2100000 → ¬ (IsUtf8 new.line) → (bytes : List ℕ) → left ≡ Some bytes → line.IsRefused old bytes left2 NotUtf8
is_no_text old new left left2 g h u bytes k =
    let l = g.2.0 in
    let is = g.2.1 in
    let no : is_utf8 (without_feed l) ≡ false = ap is_utf8 (sym is.kept) ∙ no_text new.line (is_utf8 new.line) refl u in
    record {
      line = λ more. l;
      later = λ more. lines_left (place_of new) more;
      lines = read_line old new g.0 l bytes left left2 is.taken g.1 k;
      refused = λ more. text_no old.limit old.read l (omega (arith, is.taken.read, is.taken.within)) (omega (arith, is.short, h)) no;
    }

pub is_text : (old new : Reading) (left left2 : Option (List ℕ)) → Got left left2 (λ came. (line : List ℕ) × IsLine old new came line (IsAtEnd left2))
    → old.longest ≡ 2100000 → IsUtf8 new.line → (bytes : List ℕ) → left ≡ Some bytes → line.IsLine old new bytes left2
is_text old new left left2 g h u bytes k =
    let l = g.2.0 in
    let is = g.2.1 in
    let yes : is_utf8 (without_feed l) ≡ true = ap is_utf8 (sym is.kept) ∙ is_utf8-from_IsUtf8 new.line u in
    record {
      line = l;
      lines = read_line old new g.0 l bytes left left2 is.taken g.1 k;
      read = is.taken.read;
      text = text_is old.limit old.read l (omega (arith, is.taken.read, is.taken.within)) (omega (arith, is.short, h)) yes
          ∙ ap (λ (xs : List ℕ). Ok (without_return xs)) (sym is.kept);
    }
