use Rattle.homa_world.proofs.SendLaws.{AreSent}
use Rattle.homa_world.proofs.parts.send_all.Given as goal

abbrev pub invariant-loop-i : goal.invariant-loop-i
invariant-loop-i l = AreSent l.fn.packets l.fn.outbox l.i l.packets
