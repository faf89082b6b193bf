use Rattle.std.proofs.Common.{◌≡◌, drop}
use Rattle.simulate.specs.Words.{nothing_said, read_on}
use Rattle.simulate.proofs.words.read_words.Given as goal

-- what the words say is what the other ones say behind those so far
abbrev pub invariant-loop-at : goal.invariant-loop-at
invariant-loop-at l = read_on nothing_said 0 l.words ≡ read_on l.said l.at (drop l.at l.words)
