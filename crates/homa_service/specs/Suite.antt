-- What the suite of services answers.
use Rattle.std.specs.Prelude.{ℕ, ◌+◌, ◌==◌, ◌&&◌, nat_lt, nat_le, if◌then◌else◌, List, [], ◌∷◌, length, reverse}
use Rattle.std.specs.Int.{w64, to_be_bytes}
use Rattle.homa_service.specs.Answer.{Answer}
use Rattle.homa_plain.specs.Limits.{longest_message}

-- a response that isn't held back
abbrev pub at_once : List ℕ → Answer
at_once bytes = record { bytes = bytes; hold = 0 }

-- the answer of a number to a message, after so many Ok answers
abbrev pub message_answer : ℕ → ℕ → List ℕ → Answer
message_answer count number request =
    if number == 0 then at_once request
    else if number == 1 then at_once (to_be_bytes w64 (count + 1))
    else if number == 2 then at_once (reverse request)
    else if number == 3 then record { bytes = request; hold = 10 }
    else at_once (0 ∷ [])

-- the answer to any bytes: those that aren't 1 to 1,000,000 are no message
abbrev pub suite_answer : ℕ → ℕ → List ℕ → Answer
suite_answer count number request =
    if nat_lt 0 (length request) && nat_le (length request) longest_message then message_answer count number request
    else at_once (0 ∷ [])
