-- Which count of faults rose, by the status.
use Rattle.std.specs.Prelude.{◌≡◌, ◌≢◌}
use Rattle.homa_io.specs.Outside.{HasRisen}
use Rattle.node_turns.specs.Faults.{Counts}
use Rattle.homa_top.specs.declared.exit.ExitStatus.{ExitStatus}
use Rattle.homa_top.specs.declared.exit.ExitStatus.TheVariants.{ReadFailed, WriteFailed, NetFailed}

-- a fault has its status, and each such status its fault
pub record HaveStatus (old new : Counts) (status : ExitStatus) : Type 0 where
  pub read : status ≡ ReadFailed → HasRisen old.source new.source
  pub read_fault : new.source ≢ old.source → status ≡ ReadFailed
  pub write : status ≡ WriteFailed → HasRisen old.sink new.sink
  pub write_fault : new.sink ≢ old.sink → status ≡ WriteFailed
  pub net : status ≡ NetFailed → HasRisen old.net new.net
  pub net_fault : new.net ≢ old.net → status ≡ NetFailed
