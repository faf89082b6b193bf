-- The simulated network, as what surrounds a world.
use Rattle.std.specs.Prelude.{◌≡◌, ◌≤◌, ◌+◌, ℕ, true, Option, None, Some, ◌++◌}
use Rattle.homa_plain.specs.Entries.{PlainEntry}
use Rattle.homa_world.specs.declared.shown.Passing.{Passing}
use Rattle.simulated_network.specs.declared.step.SentDatagram.{SentDatagram}
use Rattle.simulated_network.specs.declared.step.RunStep.{RunStep}
use Rattle.simulated_network.specs.Runs.{RunState, Stays, all_made, made_by, sent_by, drawn_after, delivered_by, is_end}
use Rattle.simulated_network.specs.Ends.{MayEnd}

-- what is known of a packet's datagram
abbrev pub datagram_of : Option Passing → Option SentDatagram
datagram_of None = None
datagram_of (Some p) = Some (record { len = p.len; tick = p.tick })

-- It gave a step: a call that it asks for counts as drawn, a packet that it brings as delivered; no call is made and no packet sent,
-- and time doesn't go back. The step says that the run is over only if it may end.
pub record Gives (a : RunState) (given : RunStep) (b : RunState) : Type 0 where
  pub made : all_made b.calls ≡ all_made a.calls
  pub drawn : b.drawn ≡ drawn_after given a.drawn
  pub delivered : b.network.fates.delivered ≡ a.network.fates.delivered + delivered_by given
  pub sent : b.network.fates.sent ≡ a.network.fates.sent
  pub forth : a.network.moment ≤ b.network.moment
  pub left_out : b.trouble.left_out ≡ a.trouble.left_out
  pub load : b.load ≡ a.load
  pub over : is_end given ≡ true → MayEnd a

-- It heeded an entry: a call that it tells is made at this moment, a packet that it tells is sent, and all else that is counted stays.
pub record Heeds (a : RunState) (e : PlainEntry) (passing : Option Passing) (b : RunState) : Type 0 where
  pub made : all_made b.calls ≡ all_made a.calls ++ made_by e a.drawn a.network.moment
  pub sent : b.network.fates.sent ≡ a.network.fates.sent + sent_by e (datagram_of passing)
  pub stays : Stays a b
