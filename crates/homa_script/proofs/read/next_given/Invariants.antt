use Rattle.std.proofs.Common.{◌≡◌, ◌≤◌, ◌-◌, vec_capacity}
use Rattle.text_lines.specs.Lines.{reading}
use Rattle.script_lines.specs.Place.{place_of, IsCounted}
use Rattle.script_lines.specs.Taking.{TakesLines}
use Rattle.homa_script.proofs.Steps.{IsDue}
use Rattle.homa_script.proofs.read.next_given.Given as goal

-- the lines so far stand for nothing
abbrev pub invariant-lines : goal.invariant-lines
invariant-lines g l =
    let left = g.S.Source.left in
    let faults = g.S.Source.faults in
    record {
      due : IsDue (reading l.fn.lines) (reading l.lines) (left l.fn.source) (left l.source);
      took : TakesLines (place_of (reading l.fn.lines)) (place_of (reading l.lines)) (left l.fn.source) (left l.source);
      counted : IsCounted (place_of (reading l.lines));
      on : (reading l.fn.lines).read ≤ (reading l.lines).read;
      limit : (reading l.lines).limit ≡ (reading l.fn.lines).limit;
      longest : (reading l.lines).longest ≡ (reading l.fn.lines).longest;
      capacity : vec_capacity l.fn.out ≤ vec_capacity l.out;
      quiet : faults l.source ≡ faults l.fn.source;
      never_falls : faults l.fn.source ≤ faults l.source;
      same : g.S.Source.is_same l.fn.source l.source;
    }

abbrev pub decreases-lines : goal.decreases-lines
decreases-lines g l = (reading l.lines).limit - (reading l.lines).read
