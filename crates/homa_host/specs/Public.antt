-- What the calls of a host leave as it was.
use Rattle.std.specs.Prelude.{◌≡◌, ◌+◌, ◌≤◌, IsSome, List, slice_get}
use Rattle.std.specs.Option.{option_and_then}
use Rattle.host_view.specs.declared.mark.Mark.{Mark}
use Rattle.host_view.specs.declared.mark.Mark.TheVariants.{Called, Junk, Stale, Balanced, Ran, Done, Failed, Dropped, TooManyGaps, Entombed, Freed}
use Rattle.host_view.specs.declared.mark.Mark.TheVariants.{NoRow, NoPages, Sent}
use Rattle.host_view.specs.declared.outbox.SentFrame.{SentFrame}
use Rattle.host_view.specs.Frames.{packet_of}
use Rattle.host_view.specs.Seen.{Seen}

-- the same host with the same settings in the same life; its order has risen by at most 64
pub record IsSameHost (old new : Seen) : Type 0 where
  pub settings : new.settings ≡ old.settings
  pub id : new.host.id ≡ old.host.id
  pub inc : new.host.inc ≡ old.host.inc
  pub order : new.host.order ≤ old.host.order + 64

-- the packet of a mark stands in the outbox, and is read back
abbrev pub IsHeld : Seen → List SentFrame → Mark → Type 0
IsHeld h frames (Called id server service) = Unit {0}
IsHeld h frames Junk = Unit {0}
IsHeld h frames (Stale at) = Unit {0}
IsHeld h frames (Balanced cutoffs) = Unit {0}
IsHeld h frames (Ran id service hold) = Unit {0}
IsHeld h frames (Done id) = Unit {0}
IsHeld h frames (Failed id why) = Unit {0}
IsHeld h frames (Dropped id) = Unit {0}
IsHeld h frames (TooManyGaps id) = Unit {0}
IsHeld h frames (Entombed id until) = Unit {0}
IsHeld h frames (Freed id) = Unit {0}
IsHeld h frames (NoRow id rows limit) = Unit {0}
IsHeld h frames (NoPages id need free) = Unit {0}
IsHeld h frames (Sent n) = IsSome (option_and_then (packet_of h.settings) (slice_get frames n))
