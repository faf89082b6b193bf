-- What a replay printed obeys all laws.
use Rattle.std.proofs.Common.{◌≡◌, ◌≤◌, ◌⊎◌, inl, inr, ℕ, Bool, Option, Some, List, arith}
use Rattle.homa_plain.specs.Entries.{PlainEntry}
use Rattle.homa_plain.specs.Replay.{replay, lines}
use Rattle.trace_steps.specs.Always.{last_incarnation}
use Rattle.homa_replay.specs.Progress.{replay_of, ArePrinted}
use Rattle.trace_laws.specs.Replays.{OpensWorld}
use Rattle.trace_laws.proofs.Obeyed.{obeyed}
use Rattle.node_output.specs.Traces.{Around}
use Rattle.node_print_laws.specs.Printed.{OpensNode, AreFair, TookAll}
use Rattle.node_print_laws.proofs.Printed.{whole_obeys, part_obeys}
use Rattle.homa_top.specs.declared.exit.ExitStatus.{ExitStatus}
use Rattle.homa_top.specs.declared.exit.ExitStatus.TheVariants.{Done, Refused, Stalled}
use Rattle.homa_top.specs.Commands.{HasRun}
use Rattle.homa_top.specs.Lawful.{TookLawful, TookLawfulLines}

pub lawful : (boxes : ℕ) → boxes ≤ 1000000 → (left old new : Option (List ℕ)) (allowed : List PlainEntry → Type 0) (accepted : Bool)
    → ArePrinted (replay_of boxes) left old new allowed accepted
    → (bytes : List ℕ) → left ≡ Some bytes → OpensWorld bytes → TookLawful old new
lawful boxes few left old new allowed accepted printed bytes had opens =
    let p = printed bytes had in
    let most : boxes ≤ last_incarnation = omega (arith, few) in
    record { lines = lines (replay bytes p.answers boxes); taken = p.text; obey = obeyed bytes p.answers boxes opens most }

-- and what was printed of a node's run
module _ (may_tell : List PlainEntry → Type 0) (fair : (told : List PlainEntry) → may_tell told → AreFair told) (bytes : List ℕ) (opens : OpensNode bytes)
    (left : Option (List ℕ)) (old new : Around) (status : ExitStatus) (run : HasRun may_tell bytes left old new status) where
  all_lines : (status ≡ Done) ⊎ (status ≡ Refused) ⊎ (status ≡ Stalled) → TookAll bytes old new
  all_lines (inl e) = whole_obeys may_tell fair bytes opens old new _ (run.ended e).whole
  all_lines (inr (inl e)) = whole_obeys may_tell fair bytes opens old new _ (run.refused e).whole
  all_lines (inr (inr e)) = whole_obeys may_tell fair bytes opens old new _ (run.stalled e).whole

  pub lawful_lines : TookLawfulLines bytes old new status
  lawful_lines = record { all = all_lines; some = λ e. part_obeys may_tell fair bytes opens old new left (run.front e) }
