-- What is returned for a piece of a message.
use Rattle.std.specs.Prelude.{ℕ, Bool, ◌&&◌, ◌==◌, nat_lt, if◌then◌else◌, List}
use Rattle.homa_plain.specs.Incoming.{Incoming, with_bytes, new_bytes, leaves_too_many_gaps, is_whole}
use Rattle.homa_in.specs.declared.arriving.Accepted.{Accepted}
use Rattle.homa_in.specs.declared.arriving.Accepted.TheVariants.{Fresh, Whole, Repeat, TooManyGaps}

-- whether a piece brings the last bytes that are missing
abbrev pub completes : Incoming → ℕ → List ℕ → Bool
completes p offset piece = nat_lt 0 (new_bytes p offset piece) && is_whole (with_bytes p offset piece)

-- what is returned for a piece
abbrev pub answer : Incoming → ℕ → List ℕ → Accepted
answer p offset piece =
    if leaves_too_many_gaps p offset piece
    then TooManyGaps
    else if new_bytes p offset piece == 0
    then Repeat
    else if is_whole (with_bytes p offset piece)
    then Whole
    else Fresh (new_bytes p offset piece)
