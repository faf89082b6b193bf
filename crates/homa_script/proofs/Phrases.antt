-- What a line stands for, by what it says.
use Rattle.std.proofs.Common.{◌≡◌, ℕ, ◌+◌, Bool, true, false, Ok, Err, List, length, ap}
use Rattle.std.specs.Prelude.{nat_lt, not, if◌then◌else◌}
use Rattle.std.specs.Str.{is_utf8}
use Rattle.homa_plain.specs.declared.fault.ScriptFault.{ScriptFault}
use Rattle.homa_plain.specs.declared.fault.ScriptFault.TheVariants.{InputTooLong, LongLine, NotUtf8}
use Rattle.homa_plain.specs.Input.{words_of, without_feed}
use Rattle.homa_plain.specs.Script.{phrase_in, phrase_of, without_return, longest_line}
use Rattle.script_lines.specs.Lines.{text_in}

text_by : (a b c gone : Bool) (front text : List ℕ)
    → (if a then Err InputTooLong else if b then Err LongLine else if c then Err NotUtf8 else Ok front) ≡ Ok text
    → (if a then Err InputTooLong else if b then Err LongLine else if c then Err NotUtf8 else phrase_of gone (words_of front)) ≡ phrase_of gone (words_of text)
text_by true b c gone front text e = absurd cc
text_by false true c gone front text e = absurd cc
text_by false false true gone front text e = absurd cc
text_by false false false gone front text e = let same : front ≡ text = cc in ap (λ (xs : List ℕ). phrase_of gone (words_of xs)) same

fault_by : (a b c gone : Bool) (front : List ℕ) (fault : ScriptFault)
    → (if a then Err InputTooLong else if b then Err LongLine else if c then Err NotUtf8 else Ok front) ≡ Err fault
    → (if a then Err InputTooLong else if b then Err LongLine else if c then Err NotUtf8 else phrase_of gone (words_of front)) ≡ Err fault
fault_by true b c gone front fault e = let same : InputTooLong ≡ fault = cc in ap (λ f. Err f) same
fault_by false true c gone front fault e = let same : LongLine ≡ fault = cc in ap (λ f. Err f) same
fault_by false false true gone front fault e = let same : NotUtf8 ≡ fault = cc in ap (λ f. Err f) same
fault_by false false false gone front fault e = absurd cc

-- a line that isn't refused by what it is made of stands for what its words do
pub phrase_text : (limit : ℕ) (gone : Bool) (read : ℕ) (line text : List ℕ) → text_in limit read line ≡ Ok text
    → phrase_in limit gone read line ≡ phrase_of gone (words_of text)
unfolding text_in phrase_in
phrase_text limit gone read line text e =
    text_by (nat_lt limit (read + length line)) (nat_lt longest_line (length (without_feed line))) (not (is_utf8 (without_feed line))) gone
    (without_return (without_feed line)) text e

-- a line that is refused by what it is made of stands for that refusal
pub phrase_fault : (limit : ℕ) (gone : Bool) (read : ℕ) (line : List ℕ) (fault : ScriptFault) → text_in limit read line ≡ Err fault
    → phrase_in limit gone read line ≡ Err fault
unfolding text_in phrase_in
phrase_fault limit gone read line fault e =
    fault_by (nat_lt limit (read + length line)) (nat_lt longest_line (length (without_feed line))) (not (is_utf8 (without_feed line))) gone
    (without_return (without_feed line)) fault e
