use Rattle.std.proofs.Common.{◌≡◌, ◌≤◌, ◌+◌, ◌*◌, ◌++◌, map, take}
use Rattle.homa_plain.specs.Text.{call_word}
use Rattle.homa_text.specs.FrequentLines.{spaced_text}
use Rattle.homa_text.proofs.frequent_lines.add_calls.Given as goal

-- the calls so far were added
abbrev pub invariant-loop-inc : goal.invariant-loop-inc
invariant-loop-inc g l = record {
  texts : g.T.LineBuffer.content l.text ≡ g.T.LineBuffer.content l.fn.text ++ spaced_text (map call_word (take l.inc-index l.calls));
  len : g.T.LineBuffer.space l.fn.text ≤ g.T.LineBuffer.space l.text + 22 * l.inc-index;
}
