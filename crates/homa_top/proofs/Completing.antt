-- What keeps a node whose script is never refused from its end.
use Rattle.std.proofs.Common.{◌≡◌, ◌≢◌, ◌⊎◌, inl, inr, ℕ, Option, List, refl}
use Rattle.homa_plain.specs.Entries.{PlainEntry}
use Rattle.node_output.specs.Traces.{Around}
use Rattle.homa_top.specs.declared.exit.ExitStatus.{ExitStatus}
use Rattle.homa_top.specs.declared.exit.ExitStatus.TheVariants.{Done, NoCommand, Refused, ReadFailed, WriteFailed, NoMemory, NetFailed, Stalled, Stranger}
use Rattle.homa_top.specs.Commands.{HasRun, IsNeverRefused}

pub completed : (may_tell : List PlainEntry → Type 0) (bytes : List ℕ) (left : Option (List ℕ)) (old new : Around) (status : ExitStatus)
    → HasRun may_tell bytes left old new status → IsNeverRefused may_tell bytes old.ticks → status ≢ NoCommand → status ≢ ReadFailed → status ≢ WriteFailed
    → status ≢ NetFailed → status ≢ Stranger
    → (status ≡ Done) ⊎ (status ≡ Stalled) ⊎ (status ≡ NoMemory)
completed may_tell bytes left old new Done run never command read write net usual = inl refl
completed may_tell bytes left old new NoCommand run never command read write net usual = absurd (command refl)
completed may_tell bytes left old new Refused run never command read write net usual =
    let r = run.refused refl in
    let w = r.whole in
    absurd (never w.answers w.ticks w.gave r.line r.fault w.from.ticked w.from.rises w.from.received w.from.shows w.from.allowed w.ended)
completed may_tell bytes left old new ReadFailed run never command read write net usual = absurd (read refl)
completed may_tell bytes left old new WriteFailed run never command read write net usual = absurd (write refl)
completed may_tell bytes left old new NoMemory run never command read write net usual = inr (inr refl)
completed may_tell bytes left old new NetFailed run never command read write net usual = absurd (net refl)
completed may_tell bytes left old new Stalled run never command read write net usual = inr (inl refl)
completed may_tell bytes left old new Stranger run never command read write net usual = absurd (usual refl)
