-- The check of a text, line by line.
use Rattle.std.proofs.Common.{◌≡◌, ◌<◌, ◌≤◌, ◌⊎◌, inl, inr, ℕ, ◌+◌, arith, Bool, true, false, Option, Some, None, List, [], ◌∷◌, ◌++◌, length}
use Rattle.std.proofs.Common.{length-append, append_assoc, refl, sym, ap, ◌∙◌}
use Rattle.std.proofs.lemmas.Bool.Decides.{nat_tests}
use Rattle.std.proofs.lemmas.List.{append-nil}
use Rattle.std.specs.Prelude.{◌==◌, if◌then◌else◌}
use Rattle.homa_io.specs.Outside.{unread, IsAtEnd}
use Rattle.homa_plain.specs.Entries.{PlainEntry}
use Rattle.homa_plain.specs.Input.{lines_of, ends_in_feed, has_no_feed}
use Rattle.trace_rules.specs.View.{View, nothing_seen}
use Rattle.trace_rules.specs.Judge as judge
use Rattle.text_lines.proofs.Taking.{unread-append, unread-nil}
use Rattle.text_lines.specs.Lines.{Reading, TakesLine, IsLine, IsLong, IsOver, IsEnd}
use Rattle.check_reader.specs.Forms.{entry_of}
use Rattle.script_lines.proofs.NextLine.{read_line, Got}
use Rattle.script_lines.proofs.ReadParts.{some_left, at_end, none_left}
use Rattle.script_lines.proofs.LinesOf.{lines_of-feed, lines_of-last, lines_of-front}
use Rattle.check_verdict.specs.Verdict as plain
use Rattle.check_verdict.proofs.TextLaws.{short_line, long_line, over_line, place-seen}
use Rattle.check_lines.specs.declared.trace.Trace.{Trace}
use Rattle.homa_check.specs.declared.verdict.Clause.{Clause}
use Rattle.homa_check.specs.Clauses.{clause_of}
use Rattle.check_lines.specs.Traces.{Follows}
use Rattle.homa_check.specs.Checks.{verdict_at_end, verdict_left, verdict_next, IsTaken, IsSoFar, IsCutShort, TookLine, HasTaken, IsUpTo}

-- ---- the lines that are left

-- the first of these, and what is left behind it
pub record IsFirst (old new : Reading) (bytes : List ℕ) (left : Option (List ℕ)) (line : List ℕ) : Type 0 where
  pub rest : List ℕ
  pub left_is : left ≡ Some rest
  pub lines : lines_of (old.pending ++ bytes) ≡ line ∷ lines_of (new.pending ++ rest)

pub first_line : (old new : Reading) (came line bytes : List ℕ) (left left_then : Option (List ℕ)) → TakesLine old new came line (IsAtEnd left_then)
    → left ≡ unread came left_then → left ≡ Some bytes → IsFirst old new bytes left_then line
first_line old new came line bytes left left_then t e k =
    let d = read_line old new came line bytes left left_then t e k in
    record { rest = d.rest; left_is = d.has_left; lines = ap (λ (b : List ℕ). lines_of (old.pending ++ b)) d.split ∙ d.same d.rest d.nothing }

-- ---- a line that is judged

judged_some : (v : View) (read : ℕ) (line : List ℕ) (lines : List (List ℕ)) (o : Option PlainEntry) (c : judge.Clause)
    → plain.stands_for read line ≡ o → plain.judged_text v o ≡ Some c → plain.verdict_from v read (line ∷ lines) ≡ plain.No (v.place + 1) c
judged_some v read line lines o c e j = rw e (rw j refl)

-- it fails
pub fails_at : (v : View) (old : Reading) (bytes line : List ℕ) (lines : List (List ℕ)) (o : Option PlainEntry) (clause : Clause)
    → lines_of (old.pending ++ bytes) ≡ line ∷ lines → plain.stands_for old.read line ≡ o
    → plain.judged_text v o ≡ Some (clause_of clause) → verdict_next v old bytes ≡ plain.No (v.place + 1) (clause_of clause)
fails_at v old bytes line lines o clause ls e j = ap (verdict_left v old.read) ls ∙ judged_some v old.read line lines o (clause_of clause) e j

-- a line that is too long, or the input is
pub long_fails : (v : View) (old new : Reading) (left left_then : Option (List ℕ))
    → Got left left_then (λ came. (line : List ℕ) × IsLong old new came line (IsAtEnd left_then)) → old.longest ≡ 4100000
    → (bytes : List ℕ) → left ≡ Some bytes → verdict_next v old bytes ≡ plain.No (v.place + 1) judge.ShapeClause
long_fails v old new left left_then g h bytes k =
    let line = g.2.0 in
    let is = g.2.1 in
    let f = first_line old new g.0 line bytes left left_then is.taken g.1 k in
    ap (verdict_left v old.read) f.lines ∙ judged_some v old.read line (lines_of (new.pending ++ f.rest)) None judge.ShapeClause
    (long_line old.read line (omega (arith, is.long, h))) refl

-- the bytes that were taken, with what follows them
follow : (a came b new more : List ℕ) → a ++ came ≡ b ++ new → a ++ (came ++ more) ≡ b ++ (new ++ more)
follow a came b new more e = sym (append_assoc a came more) ∙ (ap (λ (xs : List ℕ). xs ++ more) e ∙ append_assoc b new more)

pub over_fails : (v : View) (old new : Reading) (left left_then : Option (List ℕ))
    → Got left left_then (λ came. (front : List ℕ) × IsOver old new came front) → old.limit ≡ 68719476736 → old.read ≤ old.limit
    → (bytes : List ℕ) → left ≡ Some bytes → verdict_next v old bytes ≡ plain.No (v.place + 1) judge.ShapeClause
over_fails v old new left left_then g h w bytes k =
    let front = g.2.0 in
    let over = g.2.1 in
    let cut = some_left bytes g.0 left left_then k g.1 in
    let begins = lines_of-front front (new.pending ++ cut.0) over.one_line (omega (arith, over.count, w)) in
    let lines : lines_of (old.pending ++ bytes) ≡ begins.line ∷ begins.later =
    ap (λ (b : List ℕ). lines_of (old.pending ++ b)) cut.1 ∙ (ap lines_of (follow old.pending g.0 front new.pending cut.0 over.bytes) ∙ begins.first) in
    ap (verdict_left v old.read) lines ∙ judged_some v old.read begins.line begins.later None judge.ShapeClause
    (over_line old.read begins.line (omega (arith, over.count, begins.long, h))) refl

-- no line is left
pub none_ends : (v : View) (old new : Reading) (left left_then : Option (List ℕ))
    → Got left left_then (λ came. IsEnd old new came (IsAtEnd left_then)) → (bytes : List ℕ) → left ≡ Some bytes → verdict_next v old bytes ≡ verdict_at_end v
none_ends v old new left left_then g bytes k =
    let cut = some_left bytes g.0 left left_then k g.1 in
    let none = none_left old.pending g.0 g.2.none_came in
    let rest : cut.0 ≡ [] = at_end left_then cut.0 cut.2 g.2.at_end in
    let all : old.pending ++ bytes ≡ [] = cc in
    ap (λ (b : List ℕ). verdict_left v old.read (lines_of b)) all

-- what a line that isn't too long stands for
pub stands : (old new : Reading) (came line : List ℕ) (end : Type 0) → IsLine old new came line end → old.longest ≡ 4100000 → old.limit ≡ 68719476736
    → plain.stands_for old.read line ≡ entry_of new.line
stands old new came line end is l m =
    short_line old.read line (omega (arith, is.short, l)) (omega (arith, is.taken.read, is.taken.within, m)) ∙ ap entry_of (sym is.kept)

pub line_fails : (v : View) (old new : Reading) (left left_then : Option (List ℕ)) (clause : Clause)
    → Got left left_then (λ came. (line : List ℕ) × IsLine old new came line (IsAtEnd left_then)) → old.longest ≡ 4100000 → old.limit ≡ 68719476736
    → Some (clause_of clause) ≡ plain.judged_text v (entry_of new.line) → (bytes : List ℕ) → left ≡ Some bytes
    → verdict_next v old bytes ≡ plain.No (v.place + 1) (clause_of clause)
line_fails v old new left left_then clause g l m j bytes k =
    let line = g.2.0 in
    let f = first_line old new g.0 line bytes left left_then g.2.1.taken g.1 k in
    fails_at v old bytes line (lines_of (new.pending ++ f.rest)) (entry_of new.line) clause f.lines
    (stands old new g.0 line (IsAtEnd left_then) g.2.1 l m) (sym j)

-- a line is taken
place_on : (v : View) (o : Option PlainEntry) → plain.judged_text v o ≡ None → (plain.seen_text v o).place ≡ v.place + 1
place_on v None h = absurd cc
place_on v (Some e) h = place-seen v e

behind : (w : View) (read n : ℕ) (lines : List (List ℕ)) → w.place ≡ n + 1 → plain.verdict_from w read lines ≡ verdict_left w read lines
behind w read n [] e =
    let some : (w.place == 0) ≡ false = grind (arith, nat_tests) in sym (ap (λ b. if b then plain.No 1 judge.ShapeClause else plain.Yes w.place) some)
behind w read n (line ∷ lines) e = refl

taken_on : (v : View) (read : ℕ) (line : List ℕ) (lines : List (List ℕ)) (o : Option PlainEntry) → plain.stands_for read line ≡ o → plain.judged_text v o ≡ None
    → plain.verdict_from v read (line ∷ lines) ≡ plain.verdict_from (plain.seen_text v o) (read + length line) lines
taken_on v read line lines o e j = rw e (rw j refl)

some_bytes : (line : List ℕ) → ends_in_feed line ≡ true → 0 < length line
some_bytes [] h = absurd cc
some_bytes (b ∷ bytes) h = omega arith

-- the bytes of lines, then those of one more
regroup : (a p c l n r : List ℕ) → p ++ c ≡ l ++ n → (a ++ p) ++ (c ++ r) ≡ ((a ++ l) ++ n) ++ r
regroup a p c l n r e =
    append_assoc a p (c ++ r)
    ∙ (ap (λ (xs : List ℕ). a ++ xs) (sym (append_assoc p c r) ∙ (ap (λ (xs : List ℕ). xs ++ r) e ∙ append_assoc l n r))
    ∙ (sym (append_assoc a l (n ++ r)) ∙ sym (append_assoc (a ++ l) n r)))

only_line : (line : List ℕ) → ends_in_feed line ≡ true → lines_of line ≡ line ∷ []
only_line line h = ap lines_of (sym (append-nil line)) ∙ lines_of-feed line [] h

-- one line more, whose lines are those before it and it
module _ (first : List ℕ) (v w : View) (old new : Reading) (came line rest : List ℕ) (left left_then : Option (List ℕ)) (s : IsSoFar first left old v)
    (split : s.rest ≡ came ++ rest) (has_left : left_then ≡ Some rest) (bytes : old.pending ++ came ≡ line ++ new.pending)
    (fold : (more : List (List ℕ)) → plain.verdict_from v old.read (line ∷ more) ≡ plain.verdict_from w new.read more) where
  further : lines_of (s.lines ++ line) ≡ lines_of s.lines ++ line ∷ []
      → ((more : List ℕ) → lines_of ((s.lines ++ line) ++ more) ≡ lines_of (s.lines ++ line) ++ lines_of more) ⊎ ((new.pending ≡ []) × (rest ≡ []))
      → IsSoFar first left_then new w
  further self joins = record {
    lines = s.lines ++ line;
    rest = rest;
    split = s.split ∙ (ap (λ (xs : List ℕ). (s.lines ++ old.pending) ++ xs) split ∙ regroup s.lines old.pending came line new.pending rest bytes);
    has_left = has_left;
    fold = λ more. ap (λ (ls : List (List ℕ)). plain.verdict_from nothing_seen 0 (ls ++ more)) self
        ∙ (ap (λ (ls : List (List ℕ)). plain.verdict_from nothing_seen 0 ls) (append_assoc (lines_of s.lines) (line ∷ []) more)
        ∙ (s.fold (line ∷ more) ∙ fold more));
    joins = joins;
  }

  by_end : ((more : List ℕ) → lines_of (s.lines ++ more) ≡ lines_of s.lines ++ lines_of more)
      → (ends_in_feed line ≡ true) ⊎ ((has_no_feed line ≡ true) × (0 < length line) × (new.pending ≡ []) × IsAtEnd left_then) → IsSoFar first left_then new w
  by_end j (inl h) =
      let self : lines_of (s.lines ++ line) ≡ lines_of s.lines ++ line ∷ [] = j line ∙ ap (λ (ls : List (List ℕ)). lines_of s.lines ++ ls) (only_line line h) in
      further self
      (inl (λ more. ap lines_of (append_assoc s.lines line more)
      ∙ (j (line ++ more)
      ∙ (ap (λ (ls : List (List ℕ)). lines_of s.lines ++ ls) (lines_of-feed line more h)
      ∙ (sym (append_assoc (lines_of s.lines) (line ∷ []) (lines_of more)) ∙ ap (λ (ls : List (List ℕ)). ls ++ lines_of more) (sym self))))))
  by_end j (inr h) = further (j line ∙ ap (λ (ls : List (List ℕ)). lines_of s.lines ++ ls) (lines_of-last line h.0 h.1))
      (inr (h.2, at_end left_then rest has_left h.3))

  has_some : (ends_in_feed line ≡ true) ⊎ ((has_no_feed line ≡ true) × (0 < length line) × (new.pending ≡ []) × IsAtEnd left_then) → 0 < length line
  has_some (inl h) = some_bytes line h
  has_some (inr h) = h.1

  no_line : (old.pending ≡ []) → (s.rest ≡ []) → 0 < length line → ⊥
  no_line e f some =
      let none : came ≡ [] = (none_left came rest (sym split ∙ f)).0 in
      let all : line ++ new.pending ≡ [] = sym bytes ∙ (ap (λ (xs : List ℕ). xs ++ came) e ∙ none) in
      let gone : line ≡ [] = (none_left line new.pending all).0 in
      absurd (omega (arith, some, ap length gone))

  by_joins : ((more : List ℕ) → lines_of (s.lines ++ more) ≡ lines_of s.lines ++ lines_of more) ⊎ ((old.pending ≡ []) × (s.rest ≡ []))
      → (ends_in_feed line ≡ true) ⊎ ((has_no_feed line ≡ true) × (0 < length line) × (new.pending ≡ []) × IsAtEnd left_then) → IsSoFar first left_then new w
  by_joins (inl j) whole = by_end j whole
  by_joins (inr none) whole = absurd (no_line none.0 none.1 (has_some whole))

so_far_on : (first : List ℕ) (v w : View) (old new : Reading) (came line : List ℕ) (left left_then : Option (List ℕ)) → left ≡ unread came left_then
    → TakesLine old new came line (IsAtEnd left_then)
    → ((more : List (List ℕ)) → plain.verdict_from v old.read (line ∷ more) ≡ plain.verdict_from w new.read more) → IsSoFar first left old v
    → IsSoFar first left_then new w
so_far_on first v w old new came line left left_then e t fold s =
    let cut = some_left s.rest came left left_then s.has_left e in
    by_joins first v w old new came line cut.0 left left_then s cut.1 cut.2 t.bytes fold s.joins t.whole

pub line_taken : (v : View) (old new : Reading) (left left_then : Option (List ℕ)) (t : Trace)
    → Got left left_then (λ came. (line : List ℕ) × IsLine old new came line (IsAtEnd left_then)) → old.longest ≡ 4100000 → old.limit ≡ 68719476736
    → None ≡ plain.judged_text v (entry_of new.line) → Follows (plain.seen_text v (entry_of new.line)) t → IsTaken v old new left left_then t
line_taken v old new left left_then t g l m j follows =
    let line = g.2.0 in
    let w = plain.seen_text v (entry_of new.line) in
    let place = place_on v (entry_of new.line) (sym j) in
    record {
      w = w;
      follows = follows;
      place = place;
      so_far = λ bytes s. so_far_on bytes v w old new g.0 line left left_then g.1 g.2.1.taken
          (λ more. taken_on v old.read line more (entry_of new.line) (stands old new g.0 line (IsAtEnd left_then) g.2.1 l m) (sym j)
          ∙ ap (λ (n : ℕ). plain.verdict_from w n more) (sym g.2.1.taken.read)) s;
      due = λ bytes k.
          let f = first_line old new g.0 line bytes left left_then g.2.1.taken g.1 k in
          let ls = lines_of (new.pending ++ f.rest) in (
            f.rest,
            f.left_is,
            ap (verdict_left v old.read) f.lines
                ∙ (taken_on v old.read line ls (entry_of new.line) (stands old new g.0 line (IsAtEnd left_then) g.2.1 l m) (sym j)
                ∙ (ap (λ (n : ℕ). plain.verdict_from w n ls) (sym g.2.1.taken.read) ∙ behind w new.read v.place ls place)),
          );
    }

-- a line has a byte
pub read_more : (old new : Reading) (came line : List ℕ) (end : Type 0) → TakesLine old new came line end → old.limit ≡ 68719476736
    → (old.read < new.read) × (new.read ≤ 68719476736)
read_more old new came line end t l = (by t.whole, omega (arith, t.within, l)) where
  by : (ends_in_feed line ≡ true) ⊎ ((has_no_feed line ≡ true) × (0 < length line) × (new.pending ≡ []) × end) → old.read < new.read
  by (inl h) = omega (arith, t.read, some_bytes line h)
  by (inr h) = omega (arith, t.read, h.1)

-- ---- all lines

start_left : (lines : List (List ℕ)) → plain.verdict_on lines ≡ verdict_left nothing_seen 0 lines
start_left [] = refl
start_left (line ∷ lines) = refl

-- nothing was read yet
pub start_so_far : (r : Reading) (bytes : List ℕ) (left : Option (List ℕ))
    → r ≡ record { pending = []; line = []; read = 0; number = 0; limit = 68719476736; longest = 4100000 } → left ≡ Some bytes
    → IsSoFar bytes left r nothing_seen
start_so_far r bytes left e k = record {
  lines = [];
  rest = bytes;
  split = sym (ap (λ x. x.pending ++ bytes) e);
  has_left = k;
  fold = λ more. ap (λ x. plain.verdict_from nothing_seen x.read more) (sym e);
  joins = inl (λ more. refl);
}

-- reading failed in the midst of a line
pub cut_short : (bytes : List ℕ) (left left_then : Option (List ℕ)) (r : Reading) (v : View) → IsSoFar bytes left r v
    → (came : List ℕ) × (left ≡ unread came left_then) × (has_no_feed (r.pending ++ came) ≡ true) → IsCutShort bytes left_then
cut_short bytes left left_then r v s h =
    let cut = some_left s.rest h.0 left left_then s.has_left h.1 in
    record {
      lines = s.lines;
      front = r.pending ++ h.0;
      rest = cut.0;
      split = s.split
          ∙ (ap (λ (xs : List ℕ). (s.lines ++ r.pending) ++ xs) cut.1
          ∙ (sym (append_assoc (s.lines ++ r.pending) h.0 cut.0) ∙ ap (λ (xs : List ℕ). xs ++ cut.0) (append_assoc s.lines r.pending h.0)));
      has_left = cut.2;
      one_line = h.2;
      count = v.place;
      obeyed = ap (λ (ls : List (List ℕ)). plain.verdict_from nothing_seen 0 ls) (sym (append-nil (lines_of s.lines))) ∙ s.fold [];
    }

pub start_due : (r : Reading) (bytes : List ℕ) → r ≡ record { pending = []; line = []; read = 0; number = 0; limit = 68719476736; longest = 4100000 }
    → plain.verdict_of bytes ≡ verdict_next nothing_seen r bytes
start_due r bytes e = start_left (lines_of bytes) ∙ ap (λ x. verdict_next nothing_seen x bytes) (sym e)

-- bytes were read, and then others
pub read_further : (old mid new : Option (List ℕ)) → ((came : List ℕ) × (old ≡ unread came mid)) → ((came : List ℕ) × (mid ≡ unread came new))
    → (came : List ℕ) × (old ≡ unread came new)
read_further old mid new a b = (a.0 ++ b.0, a.1 ∙ (ap (unread a.0) b.1 ∙ sym (unread-append a.0 b.0 new)))

-- ---- what was taken

pub took_line : (old new : Reading) (came line : List ℕ) (left left_then : Option (List ℕ)) (end over : Type 0) → left ≡ unread came left_then
    → TakesLine old new came line end → TookLine left left_then old new over
took_line old new came line left left_then end over e t = record { came = came; source = e; taken = line; bytes = t.bytes; count = inl t.read }

pub took_over : (old new : Reading) (came front : List ℕ) (left left_then : Option (List ℕ)) (over : Type 0) → left ≡ unread came left_then
    → IsOver old new came front → over → TookLine left left_then old new over
took_over old new came front left left_then over e t h = record { came = came; source = e; taken = front; bytes = t.bytes; count = inr (h, t.count) }

pub took_none : (old new : Reading) (came : List ℕ) (left left_then : Option (List ℕ)) (end over : Type 0) → left ≡ unread came left_then
    → IsEnd old new came end → TookLine left left_then old new over
took_none old new came left left_then end over e t =
    record { came = came; source = e; taken = []; bytes = t.none_came ∙ sym t.none_pending; count = inl (omega (arith, t.read)) }

pub taken_start : (left : Option (List ℕ)) (r : Reading)
    → r ≡ record { pending = []; line = []; read = 0; number = 0; limit = 68719476736; longest = 4100000 } → HasTaken left left r
taken_start left r e = record { came = []; source = sym (unread-nil left); taken = []; bytes = sym (ap (λ x. x.pending) e); count = ap (λ x. x.read) e }

-- the bytes of lines, and those that came then
joined : (a taken pending came more new : List ℕ) → a ≡ taken ++ pending → pending ++ came ≡ more ++ new → a ++ came ≡ (taken ++ more) ++ new
joined a taken pending came more new e f =
    ap (λ (xs : List ℕ). xs ++ came) e ∙ (append_assoc taken pending came ∙ (ap (λ (xs : List ℕ). taken ++ xs) f ∙ sym (append_assoc taken more new)))

-- a line more
pub taken_more : (first left left_then : Option (List ℕ)) (old new : Reading) (over : Type 0) → (over → ⊥) → HasTaken first left old
    → TookLine left left_then old new over → HasTaken first left_then new
taken_more first left left_then old new over not h t = record {
  came = h.came ++ t.came;
  source = h.source ∙ (ap (unread h.came) t.source ∙ sym (unread-append h.came t.came left_then));
  taken = h.taken ++ t.taken;
  bytes = joined h.came h.taken old.pending t.came t.taken new.pending h.bytes t.bytes;
  count = by t.count;
} where
  by : (new.read ≡ old.read + length t.taken) ⊎ (over × (old.read + length t.taken ≡ old.limit + 1)) → new.read ≡ length (h.taken ++ t.taken)
  by (inl e) = omega (arith, e, h.count, length-append h.taken t.taken)
  by (inr o) = absurd (not o.0)

-- up to this line
pub up_to : (line : ℕ) (first left left_then : Option (List ℕ)) (old new : Reading) (over : Type 0) → new.limit ≡ old.limit → new.number ≡ line
    → HasTaken first left old → TookLine left left_then old new over → IsUpTo line first left_then new
up_to line first left left_then old new over limit number h t = record {
  came = h.came ++ t.came;
  source = h.source ∙ (ap (unread h.came) t.source ∙ sym (unread-append h.came t.came left_then));
  taken = h.taken ++ t.taken;
  bytes = joined h.came h.taken old.pending t.came t.taken new.pending h.bytes t.bytes;
  count = by t.count;
  number = number;
} where
  by : (new.read ≡ old.read + length t.taken) ⊎ (over × (old.read + length t.taken ≡ old.limit + 1))
      → (new.read ≡ length (h.taken ++ t.taken)) ⊎ (length (h.taken ++ t.taken) ≡ new.limit + 1)
  by (inl e) = inl (omega (arith, e, h.count, length-append h.taken t.taken))
  by (inr o) = inr (omega (arith, o.1, h.count, limit, length-append h.taken t.taken))

-- at the end it is no where there was no line
none_no : (place line : ℕ) (clause : judge.Clause) (none : Bool) → (place == 0) ≡ none
    → (if none then plain.No 1 judge.ShapeClause else plain.Yes place) ≡ plain.No line clause → line ≡ place + 1
none_no place line clause true e h =
    let zero : place ≡ 0 = grind (arith, nat_tests) in
    let first : 1 ≡ line = cc in
    omega (arith, zero, first)
none_no place line clause false e h = absurd cc

pub end_no : (v : View) (line : ℕ) (clause : judge.Clause) → verdict_at_end v ≡ plain.No line clause → line ≡ v.place + 1
end_no v line clause h = none_no v.place line clause (v.place == 0) refl h
