-- A run that stopped in the midst of what the hosts do.
use Rattle.std.proofs.Common.{ℕ, Bool, Option, Err, List, sym, ap, ◌∙◌}
use Rattle.homa_plain.specs.Entries.{PlainEntry}
use Rattle.node_io.specs.declared.observer.SeenFault.TheVariants.{Write, Stranger, NoMemory as NoRoom}
use Rattle.node_runs.specs.Course.{Report}
use Rattle.node_runs.specs.Recorder.{Notes}
use Rattle.node_turns.specs.Told.{listed, Listed, ListedFront, Hears, AreBroken, AreHalted}
use Rattle.node_turns.specs.Acting.{OnStrange, IsMidst, IsHeardStop}
use Rattle.node_turns.specs.declared.stop.NodeStop.{NodeStop}
use Rattle.node_turns.specs.declared.stop.NodeStop.TheVariants.{Script, Start, Host, Read, Net, Seen, Stalled, NoMemory}
use Rattle.homa_node.specs.Served.{Outside, Whole, IsPart, IsStranger, IsStopped}
use Rattle.homa_node.proofs.Observing.{strange_sent}

module _ (whole : Whole) (told : Notes → Report → List ℕ) (kept : Notes → Report → Notes) (strange : Notes → Report → Bool)
    (may_tell : List PlainEntry → Type 0) (bytes : List ℕ) (left : Option (List ℕ)) (old new : Outside) where
  pub midst_stopped : (stop : NodeStop) → IsMidst stop
      → IsPart whole told kept strange may_tell bytes left old new
      (AreBroken told kept strange old.taken old.notes new.taken old.acts new.acts (Hears 64)) (ListedFront old.sent new.sent)
      → IsStopped whole told kept strange may_tell bytes left old new stop
  midst_stopped Net is part = part
  midst_stopped (Seen Stranger) is part = absurd is
  midst_stopped (Seen (Write failed)) is part = part
  midst_stopped (Seen NoRoom) is part = absurd is
  midst_stopped NoMemory is part = part
  midst_stopped (Script line fault) is part = absurd is
  midst_stopped (Start line fault) is part = absurd is
  midst_stopped (Host line) is part = absurd is
  midst_stopped Read is part = absurd is
  midst_stopped (Stalled turns now) is part = absurd is

  -- what the net took up to a strange datagram
  stranger : IsPart whole told kept strange may_tell bytes left old new
      (AreHalted told kept strange old.taken old.notes new.taken old.acts new.acts (Hears 64)) (Listed old.sent new.sent)
      → IsStranger whole told kept strange may_tell bytes left old new
  stranger p = record {
    part = p;
    took = λ run b. p.took
        ∙ ap (listed old.sent) (sym (strange_sent told kept strange old.taken new.taken old.notes p.reports p.sent run p.told_part.strange_one p.numbers b));
  }

  -- or a datagram was strange
  pub heard_stopped : (stop : NodeStop) → IsHeardStop stop
      → IsPart whole told kept strange may_tell bytes left old new
      (AreBroken told kept strange old.taken old.notes new.taken old.acts new.acts (Hears 64)) (ListedFront old.sent new.sent)
      → OnStrange {A = Unit {0}} (Err stop) (IsPart whole told kept strange may_tell bytes left old new
      (AreHalted told kept strange old.taken old.notes new.taken old.acts new.acts (Hears 64)) (Listed old.sent new.sent))
      → IsStopped whole told kept strange may_tell bytes left old new stop
  heard_stopped Net is part s = part
  heard_stopped (Seen Stranger) is part s = stranger s
  heard_stopped (Seen (Write failed)) is part s = part
  heard_stopped (Seen NoRoom) is part s = absurd is
  heard_stopped NoMemory is part s = part
  heard_stopped (Script line fault) is part s = absurd is
  heard_stopped (Start line fault) is part s = absurd is
  heard_stopped (Host line) is part s = absurd is
  heard_stopped Read is part s = absurd is
  heard_stopped (Stalled turns now) is part s = absurd is
