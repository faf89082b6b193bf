-- What a buffer has pending.
use Rattle.std.specs.Prelude.{ℕ, ◌-◌, List, Option, take, drop}
use Rattle.text_lines.specs.declared.input.Input.{Input}
use Rattle.text_lines.specs.Rest.{Rest}

-- the bytes that were read and not given out
abbrev pub pending_of : Input → List ℕ
pending_of input = take (input.end - input.start) (drop input.start input.buf.items)

-- the bytes that were read and not given out, and what the source has left
abbrev pub rest_of : Input → Option (List ℕ) → Rest
rest_of input left = record { pending = pending_of input; left = left }
