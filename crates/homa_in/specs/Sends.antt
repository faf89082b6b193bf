-- What the answers of both tables say of bytes that a row sends.
use Rattle.std.specs.Prelude.{◌<◌, ◌≤◌, ◌+◌, ◌-◌, ℕ, Bool, true, false, nat_lt, if◌then◌else◌, Option, Some, None}
use Rattle.plain_sets.specs.Ranges.{Range}
use Rattle.homa_plain.specs.declared.row.Emitted.{Emitted}
use Rattle.homa_plain.specs.declared.row.Emitted.TheVariants.{Sent, Short, Rests}

-- a message's next bytes are sent if the credit is enough for them
abbrev pub emits : ℕ → Option Range → Emitted
emits credit None = Rests
emits credit (Some range) = if nat_lt credit (range.to - range.from) then Short else Sent range.from range.to

-- whether bytes were sent
abbrev pub is_sent : Emitted → Bool
is_sent (Sent from to) = true
is_sent Short = false
is_sent Rests = false

-- the bytes that were sent, if some were
abbrev pub IfSent : Emitted → (ℕ → ℕ → Type 0) → Type 0
IfSent (Sent from to) P = P from to
IfSent Short P = Unit {0}
IfSent Rests P = Unit {0}

-- bytes of a message that one packet carries: some, at most seg of them, and no more than the credit
pub record IsAffordable (length seg credit from to : ℕ) : Type 0 where
  pub some : from < to
  pub within : to ≤ length
  pub short : to ≤ from + seg
  pub paid : to ≤ from + credit
