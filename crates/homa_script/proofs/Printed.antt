-- Lines that are printed, as they are read.
use Rattle.std.proofs.Common.{◌≡◌, ◌<◌, ◌≤◌, ℕ, ◌+◌, zero, suc, arith, Bool, true, false, List, [], ◌∷◌, ◌++◌, length, refl, ap, ◌∙◌, length-append}
use Rattle.std.specs.Prelude.{◌==◌, nat_lt, ◌&&◌, not, filter, if◌then◌else◌, IsAscii}
use Rattle.std.specs.Str.{is_utf8}
use Rattle.std.specs.List.{join_with_byte}
use Rattle.std.proofs.lemmas.Bool.{and_parts}
use Rattle.std.proofs.lemmas.Bool.Decides.{nat_tests}
use Rattle.std.proofs.lemmas.Str.{IsUtf8-from_ascii, is_utf8-from_IsUtf8}
use borrow.Author.Tests.{ne_eqb}
use Rattle.homa_plain.specs.Input.{without_feed, words_of, has_bytes, has_no_feed, ends_in_feed}
use Rattle.homa_plain.specs.Text.{line_of_words}
use Rattle.homa_plain.specs.Script.{phrase_in, phrase_of, without_return}
use Rattle.text_lines.proofs.Feeds.{without_feed-feed, ends_in_feed-feed}
use Rattle.script_lines.proofs.WordsOf.{parts_of}
use Rattle.script_lines.proofs.NextLine.{text_is}
use Rattle.homa_script.proofs.Phrases.{phrase_text}

-- each is an ASCII character that can be seen
abbrev pub AllSeen : List ℕ → Type 0
AllSeen [] = Unit {0}
AllSeen (b ∷ bytes) = (32 < b) × (b < 128) × AllSeen bytes

-- each is one, or a space
abbrev pub AllPrinted : List ℕ → Type 0
AllPrinted [] = Unit {0}
AllPrinted (b ∷ bytes) = (31 < b) × (b < 128) × AllPrinted bytes

-- a word of a line
pub record IsWord (word : List ℕ) : Type 0 where
  pub some : 0 < length word
  pub seen : AllSeen word

abbrev pub AllWords : List (List ℕ) → Type 0
AllWords [] = Unit {0}
AllWords (word ∷ words) = IsWord word × AllWords words

-- a test of a word, which computes
abbrev pub is_seen : List ℕ → Bool
is_seen [] = true
is_seen (b ∷ bytes) = nat_lt 32 b && nat_lt b 128 && is_seen bytes

all_tested : (bytes : List ℕ) → is_seen bytes ≡ true → AllSeen bytes
all_tested [] e = tt
all_tested (b ∷ bytes) e =
    let rest = and_parts (nat_lt 32 b && nat_lt b 128) (is_seen bytes) e in
    let both = and_parts (nat_lt 32 b) (nat_lt b 128) rest.0 in
    (grind (arith, nat_tests, both.0), grind (arith, nat_tests, both.1), all_tested bytes rest.1)

pub word-tested : (word : List ℕ) → (nat_lt 0 (length word) && is_seen word) ≡ true → IsWord word
word-tested word e =
    let both = and_parts (nat_lt 0 (length word)) (is_seen word) e in
    record { some = grind (arith, nat_tests, both.0); seen = all_tested word both.1 }

-- ---- the words of a line

parts_of-word : (word rest : List ℕ) → AllSeen word → parts_of (word ++ 32 ∷ rest) ≡ word ∷ parts_of rest
parts_of-word [] rest s = refl
parts_of-word (b ∷ bytes) rest s =
    let e : (b == 32) ≡ false = ne_eqb b 32 (λ z. omega (arith, s.0)) in
    rw (e, parts_of-word bytes rest s.2) refl

parts_of-last : (word : List ℕ) → AllSeen word → parts_of word ≡ word ∷ []
parts_of-last [] s = refl
parts_of-last (b ∷ bytes) s =
    let e : (b == 32) ≡ false = ne_eqb b 32 (λ z. omega (arith, s.0)) in
    rw (e, parts_of-last bytes s.2) refl

kept : (word : List ℕ) (words : List (List ℕ)) → 0 < length word → filter has_bytes (word ∷ words) ≡ word ∷ filter has_bytes words
kept word words h =
    let full : has_bytes word ≡ true = ap not (ne_eqb (length word) 0 (λ z. omega arith)) in
    ap (λ (t : Bool). if t then word ∷ filter has_bytes words else filter has_bytes words) full

-- a line's words are those that it is made of
words_of-join : (words : List (List ℕ)) → AllWords words → words_of (join_with_byte 32 words) ≡ words
words_of-join [] a = refl
words_of-join (word ∷ []) a = ap (filter has_bytes) (parts_of-last word a.0.seen) ∙ kept word [] a.0.some
words_of-join (word ∷ next ∷ words) a =
    ap (filter has_bytes) (parts_of-word word (join_with_byte 32 (next ∷ words)) a.0.seen)
    ∙ (kept word (parts_of (join_with_byte 32 (next ∷ words))) a.0.some ∙ ap (λ (ws : List (List ℕ)). word ∷ ws) (words_of-join (next ∷ words) a.1))

-- ---- its bytes

printed_seen : (word rest : List ℕ) → AllSeen word → AllPrinted rest → AllPrinted (word ++ rest)
printed_seen [] rest s p = p
printed_seen (b ∷ bytes) rest s p = (omega (arith, s.0), s.1, printed_seen bytes rest s.2 p)

-- words with a space between them can be printed
pub printed_join : (words : List (List ℕ)) → AllWords words → AllPrinted (join_with_byte 32 words)
printed_join [] a = tt
printed_join (word ∷ []) a = printed_word word a.0.seen
  where
    printed_word : (word : List ℕ) → AllSeen word → AllPrinted word
    printed_word [] s = tt
    printed_word (b ∷ bytes) s = (omega (arith, s.0), s.1, printed_word bytes s.2)
printed_join (word ∷ next ∷ words) a =
    printed_seen word (32 ∷ join_with_byte 32 (next ∷ words)) a.0.seen (omega arith, omega arith, printed_join (next ∷ words) a.1)

ascii : (bytes : List ℕ) → AllPrinted bytes → IsAscii bytes
ascii [] p i = omega arith
ascii (b ∷ bytes) p zero = p.1
ascii (b ∷ bytes) p (suc i) = ascii bytes p.2 i

one_line : (bytes : List ℕ) → AllPrinted bytes → has_no_feed bytes ≡ true
one_line [] p = refl
one_line (b ∷ bytes) p =
    let e : (b == 10) ≡ false = ne_eqb b 10 (λ z. omega (arith, p.0)) in
    rw e (one_line bytes p.2)

no_return : (bytes : List ℕ) → AllPrinted bytes → without_return bytes ≡ bytes
no_return [] p = refl
no_return (b ∷ []) p = let e : (b == 13) ≡ false = ne_eqb b 13 (λ z. omega (arith, p.0)) in rw e refl
no_return (b ∷ c ∷ bytes) p = ap (λ (xs : List ℕ). b ∷ xs) (no_return (c ∷ bytes) p.2)

-- a line of words ends in its feed, and has no other
pub line_feed : (words : List (List ℕ)) → AllWords words → ends_in_feed (line_of_words words) ≡ true
line_feed words a = ends_in_feed-feed (join_with_byte 32 words) (one_line (join_with_byte 32 words) (printed_join words a))

-- ---- its length

-- the words with a byte behind each
abbrev pub total : List (List ℕ) → ℕ
total [] = 0
total (word ∷ words) = length word + 1 + total words

length-join : (words : List (List ℕ)) → length (join_with_byte 32 words) ≤ total words
length-join [] = omega arith
length-join (word ∷ []) = omega arith
length-join (word ∷ next ∷ words) = omega (arith, length-append word (32 ∷ join_with_byte 32 (next ∷ words)), length-join (next ∷ words))

-- what a line stands for, before `go` or behind it, is what its words do
pub phrase_words : (limit : ℕ) (gone : Bool) (read : ℕ) (words : List (List ℕ)) → AllWords words → total words ≤ 2100000
    → read + length (line_of_words words) ≤ limit → phrase_in limit gone read (line_of_words words) ≡ phrase_of gone words
phrase_words limit gone read words a t h =
    let line = join_with_byte 32 words in
    let printed = printed_join words a in
    let bare = without_feed-feed line (one_line line printed) in
    let text : is_utf8 (without_feed (line ++ 10 ∷ [])) ≡ true = ap is_utf8 bare ∙ is_utf8-from_IsUtf8 line (IsUtf8-from_ascii line (ascii line printed)) in
    phrase_text limit gone read (line ++ 10 ∷ []) _ (text_is limit read (line ++ 10 ∷ []) h (omega (arith, ap length bare, length-join words, t)) text)
    ∙ ap (phrase_of gone) (ap (λ (xs : List ℕ). words_of (without_return xs)) bare ∙ (ap words_of (no_return line printed) ∙ words_of-join words a))
