use Rattle.std.proofs.Common.{◌≡◌, ◌≤◌, ◌-◌, ◌*◌, length, take, drop}
use Rattle.std.specs.List.{list_all}
use Rattle.check_words.specs.Digits.{is_value, lower_pairs, spelled}
use Rattle.check_words.proofs.digits.read_pairs.Given as goal

-- what the parts so far spell, and then what the rest does
abbrev pub invariant-loop-out : goal.invariant-loop-out
invariant-loop-out l = record {
  so_far : lower_pairs l.word ≡ spelled (list_all is_value l.most) (take l.done l.out) (lower_pairs (drop (2 * l.done) l.word));
  within : l.done ≤ length l.out;
  places : length l.most ≡ 32;
}

abbrev pub decreases-loop-out : goal.decreases-loop-out
decreases-loop-out l = length l.out - l.done
