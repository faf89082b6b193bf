-- A line's words, by what it says.
use Rattle.std.proofs.Common.{◌≡◌, ◌≤◌, ℕ, ◌+◌, arith, Bool, true, false, Some, Ok, Err, List, [], ◌∷◌, length, refl, ap}
use Rattle.std.specs.Prelude.{◌==◌, nat_lt, not, cond, filter, codes, if◌then◌else◌}
use Rattle.std.specs.Str.{is_utf8, bytes_eq}
use Rattle.std.proofs.lemmas.Slice.Eq.{bytes_eq-Decides}
use Rattle.homa_plain.specs.declared.fault.ScriptFault.{ScriptFault}
use Rattle.homa_plain.specs.declared.fault.ScriptFault.TheVariants.{InputTooLong, LongLine, NotUtf8, UnknownWord}
use Rattle.homa_plain.specs.declared.fault.LineFault.TheVariants.{Script as ByWords}
use Rattle.homa_plain.specs.Input.{without_feed, words_of, has_bytes}
use Rattle.homa_plain.specs.Script.{without_return, longest_line, is_comment}
use Rattle.node_runs.specs.Script as script
use Rattle.node_runs.specs.Script.{words_in, spoken, timed_of, timed_given, between_hosts}
use Rattle.script_lines.specs.Lines.{text_in}

text_by : (a b c : Bool) (front text : List ℕ) → (if a then Err InputTooLong else if b then Err LongLine else if c then Err NotUtf8 else Ok front) ≡ Ok text
    → (if a then Err InputTooLong else if b then Err LongLine else if c then Err NotUtf8 else Ok (spoken (words_of front))) ≡ Ok (spoken (words_of text))
text_by true b c front text e = absurd cc
text_by false true c front text e = absurd cc
text_by false false true front text e = absurd cc
text_by false false false front text e = let same : front ≡ text = cc in ap (λ (xs : List ℕ). Ok (spoken (words_of xs))) same

fault_by : (a b c : Bool) (front : List ℕ) (fault : ScriptFault)
    → (if a then Err InputTooLong else if b then Err LongLine else if c then Err NotUtf8 else Ok front) ≡ Err fault
    → (if a then Err InputTooLong else if b then Err LongLine else if c then Err NotUtf8 else Ok (spoken (words_of front))) ≡ Err fault
fault_by true b c front fault e = let same : InputTooLong ≡ fault = cc in ap (λ f. Err f) same
fault_by false true c front fault e = let same : LongLine ≡ fault = cc in ap (λ f. Err f) same
fault_by false false true front fault e = let same : NotUtf8 ≡ fault = cc in ap (λ f. Err f) same
fault_by false false false front fault e = absurd cc

-- the words of what a line says
pub words_text : (limit read : ℕ) (line text : List ℕ) → text_in limit read line ≡ Ok text → words_in limit read line ≡ Ok (spoken (words_of text))
unfolding text_in words_in
words_text limit read line text e =
    text_by (nat_lt limit (read + length line)) (nat_lt longest_line (length (without_feed line))) (not (is_utf8 (without_feed line)))
    (without_return (without_feed line)) text e

-- a line that is refused by what it is made of
pub words_fault : (limit read : ℕ) (line : List ℕ) (fault : ScriptFault) → text_in limit read line ≡ Err fault → words_in limit read line ≡ Err fault
unfolding text_in words_in
words_fault limit read line fault e =
    fault_by (nat_lt limit (read + length line)) (nat_lt longest_line (length (without_feed line))) (not (is_utf8 (without_feed line)))
    (without_return (without_feed line)) fault e

-- ---- a line that is a call has two bytes at least

by_word : (s : script.Setup) (least n : ℕ) (word : List ℕ) (words : List (List ℕ)) (c : script.TimedCall) (t : Bool) → bytes_eq word (codes "at") ≡ t
    → (if t then between_hosts s (timed_given s least n words) else Err (ByWords UnknownWord)) ≡ Ok (Some c) → 2 ≤ length word
by_word s least n word words c true t e = let same : length word ≡ length (codes "at") = ap length ((bytes_eq-Decides word (codes "at")).0 t) in
    omega (arith, same)
by_word s least n word words c false t e = absurd cc

by_comment : (s : script.Setup) (least n : ℕ) (word : List ℕ) (words : List (List ℕ)) (c : script.TimedCall) (t : Bool)
    → timed_of s least n (Ok (if t then [] else word ∷ words)) ≡ Ok (Some c) → 2 ≤ length word
by_comment s least n word words c true e = absurd cc
by_comment s least n word words c false e = by_word s least n word words c (bytes_eq word (codes "at")) refl e

by_space : (s : script.Setup) (least n b : ℕ) (c : script.TimedCall) (t : Bool)
    → timed_of s least n (Ok (spoken (filter has_bytes (cond t ([] ∷ [] ∷ []) ((b ∷ []) ∷ []))))) ≡ Ok (Some c) → 2 ≤ 1
by_space s least n b c true e = absurd cc
by_space s least n b c false e = by_comment s least n (b ∷ []) [] c (is_comment (b ∷ [])) e

pub long_call : (s : script.Setup) (least n : ℕ) (line : List ℕ) (c : script.TimedCall) → timed_of s least n (Ok (spoken (words_of line))) ≡ Ok (Some c)
    → 2 ≤ length line
long_call s least n [] c e = absurd cc
long_call s least n (b ∷ []) c e = by_space s least n b c (b == 32) e
long_call s least n (b ∷ d ∷ ds) c e = omega arith
