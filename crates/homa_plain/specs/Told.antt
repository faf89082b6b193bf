-- Which entries have a line.
use Rattle.homa_plain.specs.Entries.{PlainEntry, PlainRefused, IsCause}

-- an entry that has a line: each but a refusal for want of memory
abbrev pub HasLine : PlainEntry → Type 0
HasLine (PlainRefused line fault) = IsCause fault
HasLine entry = Unit {0}
