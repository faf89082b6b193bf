use Rattle.std.proofs.Common.{◌≡◌, ◌-◌, ◌≤◌, [], false}
use Rattle.homa_plain.specs.Input.{has_no_feed}
use Rattle.text_lines.specs.Input.{pending_of, rest_of}
use Rattle.text_lines.specs.LineRoom.{kept, room}
use Rattle.text_lines.specs.Scan.{IsInLine}
use Rattle.text_lines.proofs.scan.find_feed.Given as goal

-- n bytes of the line were taken, and no line feed; where one is pending nothing was read
abbrev pub invariant-loop-n : goal.invariant-loop-n
invariant-loop-n g l =
    let left = g.S.Source.left in
    let faults = g.S.Source.faults in
    record {
      line : IsInLine (rest_of l.fn.input (left l.fn.source)) (rest_of l.input (left l.source)) (room l.line) (kept l.line) l.n [];
      room : room l.line ≡ room l.fn.line;
      within : l.n ≤ l.most;
      stays : has_no_feed (pending_of l.fn.input) ≡ false → (l.source ≡ l.fn.source) × (has_no_feed (pending_of l.input) ≡ false);
      quiet : faults l.source ≡ faults l.fn.source;
      same : g.S.Source.is_same l.fn.source l.source;
    }

abbrev pub decreases-loop-n : goal.decreases-loop-n
decreases-loop-n g l = l.most - l.n
