-- What a host counts from its opening on. A count that stands at 2^64 - 1 stays there.
use Rattle.std.specs.Prelude.{◌+◌, ◌-◌, ◌^◌, ◌==◌, ℕ, min, Bool, if◌then◌else◌, unwrap_or, List, length, slice_get}
use Rattle.std.specs.List.{fold}
use Rattle.homa_plain.specs.declared.entry.Why.TheVariants.{Timeout, Forgotten}
use Rattle.host_view.specs.declared.mark.Mark.{Mark}
use Rattle.host_view.specs.declared.mark.Mark.TheVariants.{Called, Junk, Stale, Balanced, Ran, Done, Failed, Dropped, TooManyGaps, Entombed, Freed}
use Rattle.host_view.specs.declared.mark.Mark.TheVariants.{NoRow, NoPages, Sent}
use Rattle.host_view.specs.declared.outbox.SentFrame.{SentFrame}
use Rattle.driven_host.specs.declared.counts.HostCounts.{HostCounts}

-- before anything happened
abbrev pub none_counted : HostCounts
none_counted = record {
  calls = 0;
  done = 0;
  timeouts = 0;
  forgotten = 0;
  asked = 0;
  ran = 0;
  sent = 0;
  sent_bytes = 0;
  received = 0;
  resends_sent = 0;
  junk = 0;
  stale = 0;
  no_row = 0;
  no_pages = 0;
  gaps = 0;
  dropped = 0;
  buried = 0;
  freed = 0;
}

-- a count that rises by so much
abbrev pub risen : ℕ → ℕ → ℕ
risen count more = min (count + more) (2 ^ 64 - 1)

-- a mark
abbrev pub with_mark : HostCounts → Mark → HostCounts
with_mark c (Called id server service) = record c { calls = risen c.calls 1 }
with_mark c (Done id) = record c { done = risen c.done 1 }
with_mark c (Failed id Timeout) = record c { timeouts = risen c.timeouts 1 }
with_mark c (Failed id Forgotten) = record c { forgotten = risen c.forgotten 1 }
with_mark c (Ran id service hold) = record c { ran = risen c.ran 1 }
with_mark c Junk = record c { junk = risen c.junk 1 }
with_mark c (Stale at) = record c { stale = risen c.stale 1 }
with_mark c (NoRow id rows limit) = record c { no_row = risen c.no_row 1 }
with_mark c (NoPages id need free) = record c { no_pages = risen c.no_pages 1 }
with_mark c (TooManyGaps id) = record c { gaps = risen c.gaps 1 }
with_mark c (Dropped id) = record c { dropped = risen c.dropped 1 }
with_mark c (Entombed id until) = record c { buried = risen c.buried 1 }
with_mark c (Freed id) = record c { freed = risen c.freed 1 }
with_mark c (Balanced cutoffs) = c
with_mark c (Sent number) = c

-- the marks of a step
abbrev pub with_marks : HostCounts → List Mark → HostCounts
with_marks c marks = fold with_mark c marks

-- a frame is a RESEND: its second byte is the number of that kind
abbrev pub is_resend : List ℕ → Bool
is_resend frame = unwrap_or (slice_get frame 1) 0 == 3

-- a frame
abbrev pub with_frame : HostCounts → SentFrame → HostCounts
with_frame c f = record c {
  sent = risen c.sent 1;
  sent_bytes = risen c.sent_bytes (length f.frame);
  resends_sent = if is_resend f.frame then risen c.resends_sent 1 else c.resends_sent;
}

-- the frames of a step
abbrev pub with_frames : HostCounts → List SentFrame → HostCounts
with_frames c frames = fold with_frame c frames

-- what a step told and sent
abbrev pub counted : HostCounts → List Mark → List SentFrame → HostCounts
counted c marks frames = with_frames (with_marks c marks) frames

-- a datagram that is a step
abbrev pub with_received : HostCounts → HostCounts
with_received c = record c { received = risen c.received 1 }

-- a datagram that asks
abbrev pub with_asked : HostCounts → HostCounts
with_asked c = record c { asked = risen c.asked 1 }
