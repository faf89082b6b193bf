-- The lines of events that are printed end in their feed.
use Rattle.std.proofs.Common.{◌≡◌, true, ℕ, List}
use Rattle.homa_plain.specs.declared.event.Event.{Event}
use Rattle.homa_plain.specs.Bytes.{IsBytes}
use Rattle.homa_plain.specs.Input.{ends_in_feed}
use Rattle.homa_plain.specs.Script.{event_words, event_text}
use Rattle.homa_script.specs.Fitting.{IsFitting}
use Rattle.homa_script.proofs.Printed.{line_feed}
use Rattle.homa_script.proofs.Events.{words_good}

pub event_feed : (event : Event) (bytes : List ℕ) → IsFitting event → IsBytes bytes → ends_in_feed (event_text event bytes) ≡ true
unfolding event_text
event_feed event bytes f h = line_feed (event_words event bytes) (words_good event bytes f h)
