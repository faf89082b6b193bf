-- What the simulated network says of a call, as one fact.
use Rattle.std.proofs.Common.{◌≡◌, ◌≤◌, ◌+◌, ℕ, true, Option, Result, Ok, Err, ◌++◌, ◌∙◌, ap}
use Rattle.std.specs.Prelude.{IfOk, OnOk}
use Rattle.homa_plain.specs.Entries.{PlainEntry}
use Rattle.homa_world.specs.declared.shown.Passing.{Passing}
use Rattle.packet_network.specs.declared.stop.NetworkStop.{NetworkStop}
use Rattle.simulated_network.specs.declared.step.SentDatagram.{SentDatagram}
use Rattle.simulated_network.specs.declared.step.RunStep.{RunStep}
use Rattle.simulated_network.specs.Runs.{RunState, Stays, all_made, made_by, sent_by, drawn_after, delivered_by, is_end}
use Rattle.simulated_network.specs.Ends.{MayEnd}
use Rattle.simulation.specs.Network.{datagram_of, Gives, Heeds}

module _ (a b : RunState) where
  pub gives_of : (r : Result RunStep NetworkStop) → all_made b.calls ≡ all_made a.calls
      → IfOk r (λ x. b.drawn ≡ drawn_after x a.drawn)
      → IfOk r (λ x. b.network.fates.delivered ≡ a.network.fates.delivered + delivered_by x)
      → b.network.fates.sent ≡ a.network.fates.sent → a.network.moment ≤ b.network.moment → b.trouble.left_out ≡ a.trouble.left_out
      → b.load ≡ a.load → IfOk r (λ x. is_end x ≡ true → MayEnd a) → IfOk r (λ x. Gives a x b)
  gives_of (Ok x) made drawn delivered sent forth left_out load over =
      record { made = made; drawn = drawn; delivered = delivered; sent = sent; forth = forth; left_out = left_out; load = load; over = over }
  gives_of (Err stop) made drawn delivered sent forth left_out load over = tt

  pub heeds_of : {U : Type 0} (r : Result U NetworkStop) (e : PlainEntry) (passing : Option Passing) (datagram : Option SentDatagram)
      → datagram ≡ datagram_of passing → OnOk r (all_made b.calls ≡ all_made a.calls ++ made_by e a.drawn a.network.moment)
      → OnOk r (b.network.fates.sent ≡ a.network.fates.sent + sent_by e datagram)
      → Stays a b → OnOk r (Heeds a e passing b)
  heeds_of (Ok u) e passing datagram same made sent stays = record {
    made = made;
    sent = sent ∙ ap (λ (d : Option SentDatagram). a.network.fates.sent + sent_by e d) same;
    stays = stays;
  }
  heeds_of (Err stop) e passing datagram same made sent stays = tt
