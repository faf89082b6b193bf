-- What the last step of a host left.
use Rattle.std.specs.Prelude.{◌<◌, Option, None, Some, List, []}
use Rattle.std.specs.List.{AllByRecursion}
use Rattle.homa_plain.specs.Entries.{PlainEntry, PlainSend}
use Rattle.host_view.specs.Seen.{Seen}
use Rattle.host_view.specs.Marks.{shown_entries}
use Rattle.host_view.specs.Done.{HoldsSent}
use Rattle.host_table.specs.declared.stage.Stage.{Stage}
use Rattle.host_table.specs.Staged.{frames_of, whole_of}

-- an entry's number, if it is of a packet, is below 64
abbrev pub IsFew : PlainEntry → Type 0
IsFew (PlainSend number from to inc role id level what payload) = number < 64
IsFew entry = Unit {0}

module _ {S : Type 0} where
  -- the entries of a host's last step
  abbrev pub entries_of : Stage S → Option Seen → List PlainEntry
  entries_of st None = []
  entries_of st (Some h) = shown_entries h (frames_of st) (whole_of st)

  -- a host whose step was the last one left its packets with it
  abbrev pub HasLeft : Stage S → Option Seen → Type 0
  HasLeft st None = ⊥
  HasLeft st (Some h) = HoldsSent h (frames_of st) × AllByRecursion IsFew (shown_entries h (frames_of st) (whole_of st))
