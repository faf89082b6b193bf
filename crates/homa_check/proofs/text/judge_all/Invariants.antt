use Rattle.std.proofs.Common.{◌≡◌, ◌-◌, ◌≤◌, ℕ, List, Some, length}
use Rattle.trace_rules.specs.View.{View}
use Rattle.text_lines.specs.Lines.{reading}
use Rattle.check_verdict.specs.Verdict.{verdict_of}
use Rattle.check_lines.specs.Traces.{Follows}
use Rattle.homa_check.specs.Checks.{verdict_next, IsSoFar, HasTaken}
use Rattle.homa_check.proofs.text.judge_all.Given as goal

-- what was judged so far
abbrev pub invariant-lines : goal.invariant-lines
invariant-lines g l =
    let left = g.S.Source.left in
    let faults = g.S.Source.faults in
    record {
      due : (v : View) × Follows v l.trace × (v.place ≡ (reading l.lines).number)
          × ((bytes : List ℕ) → left l.fn.source ≡ Some bytes
          → (rest : List ℕ) × (left l.source ≡ Some rest) × (verdict_of bytes ≡ verdict_next v (reading l.lines) rest))
          × ((bytes : List ℕ) → left l.fn.source ≡ Some bytes → IsSoFar bytes (left l.source) (reading l.lines) v);
      taken : HasTaken (left l.fn.source) (left l.source) (reading l.lines);
      counted : (reading l.lines).number ≤ (reading l.lines).read;
      within : (reading l.lines).read ≤ 68719476736;
      limit : (reading l.lines).limit ≡ 68719476736;
      longest : (reading l.lines).longest ≡ 4100000;
      room : 2050000 ≤ length l.room;
      quiet : faults l.source ≡ faults l.fn.source;
      never_falls : faults l.fn.source ≤ faults l.source;
      same : g.S.Source.is_same l.fn.source l.source;
    }

abbrev pub decreases-lines : goal.decreases-lines
decreases-lines g l = 68719476736 - (reading l.lines).read
