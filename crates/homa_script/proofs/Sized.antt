-- How many bytes the line of an event has at least.
use Rattle.std.proofs.Common.{◌≡◌, ◌≤◌, ℕ, arith, Bool, true, false, Option, None, Some, Ok, List, [], ◌∷◌, length, refl, ap}
use Rattle.std.specs.Prelude.{◌==◌, cond, filter, codes, if◌then◌else◌}
use Rattle.std.specs.Str.{bytes_eq}
use Rattle.std.proofs.lemmas.Slice.Eq.{bytes_eq-Decides}
use Rattle.homa_plain.specs.Input.{words_of, has_bytes}
use Rattle.homa_plain.specs.Script.{Given, Blank, Happens, EventWord, CallWord, DeliverWord, ClockWord, TurnWord, TickWord, RestartWord, InjectWord}
use Rattle.homa_plain.specs.Script.{ShiftWord, event_word, phrase_of, phrase_after_go, is_comment}

named : (word name : List ℕ) (x w : EventWord) (rest : Option EventWord) → 2 ≤ length name → (rest ≡ Some w → 2 ≤ length word)
    → (if bytes_eq word name then Some x else rest) ≡ Some w → 2 ≤ length word
named word name x w rest long f e = by_test (bytes_eq word name) refl e
  where
    by_test : (t : Bool) → bytes_eq word name ≡ t → (if t then Some x else rest) ≡ Some w → 2 ≤ length word
    by_test true t e = let same : length word ≡ length name = ap length ((bytes_eq-Decides word name).0 t) in omega (arith, same, long)
    by_test false t e = f e

-- an event's word has two bytes at least
long_word : (word : List ℕ) (w : EventWord) → event_word word ≡ Some w → 2 ≤ length word
long_word word w e =
    named word (codes "call") CallWord w _ (omega arith)
    (named word (codes "deliver") DeliverWord w _ (omega arith)
    (named word (codes "clock") ClockWord w _ (omega arith)
    (named word (codes "turn") TurnWord w _ (omega arith)
    (named word (codes "tick") TickWord w _ (omega arith)
    (named word (codes "restart") RestartWord w _ (omega arith)
    (named word (codes "inject") InjectWord w _ (omega arith)
    (named word (codes "shift") ShiftWord w None (omega arith) (λ k. absurd cc)))))))) e

by_word : (word : List ℕ) (words : List (List ℕ)) (o : Option EventWord) (given : Given) → event_word word ≡ o
    → phrase_after_go o words ≡ Ok (Happens given) → 2 ≤ length word
by_word word words None given k e = absurd cc
by_word word words (Some w) given k e = long_word word w k

by_comment : (word : List ℕ) (words : List (List ℕ)) (t : Bool) (given : Given)
    → (if t then Ok Blank else phrase_after_go (event_word word) words) ≡ Ok (Happens given) → 2 ≤ length word
by_comment word words true given e = absurd cc
by_comment word words false given e = by_word word words (event_word word) given refl e

by_space : (b : ℕ) (t : Bool) (given : Given) → phrase_of true (filter has_bytes (cond t ([] ∷ [] ∷ []) ((b ∷ []) ∷ []))) ≡ Ok (Happens given) → 2 ≤ 1
by_space b true given e = absurd cc
by_space b false given e = by_comment (b ∷ []) [] (is_comment (b ∷ [])) given e

-- a line that is an event or ticks has two bytes at least
pub long_line : (line : List ℕ) (given : Given) → phrase_of true (words_of line) ≡ Ok (Happens given) → 2 ≤ length line
long_line [] given e = absurd cc
long_line (b ∷ []) given e = by_space b (b == 32) given e
long_line (b ∷ c ∷ cs) given e = omega arith
