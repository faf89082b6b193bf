use Rattle.std.proofs.Common.{◌≡◌, ◌*◌, ◌++◌, take, drop}
use Rattle.written_lines.specs.Turns.{by_turns}
use Rattle.written_lines.proofs.adding.join_digits.Given as goal

-- the bytes so far, and the others by turns
abbrev pub invariant-digits : goal.invariant-digits
invariant-digits l = take (2 * l.i) l.out ++ by_turns (drop l.i l.high) (drop l.i l.low) ≡ by_turns l.high l.low
