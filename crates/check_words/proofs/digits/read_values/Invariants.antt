use Rattle.std.proofs.Common.{◌≡◌, None, Some, take}
use Rattle.std.specs.Prelude.{if◌then◌else◌}
use Rattle.std.specs.List.{list_all}
use Rattle.check_words.specs.Digits.{is_value, values_of}
use Rattle.check_words.proofs.digits.read_values.Given as goal

-- the values so far, and the greatest of them
abbrev pub invariant-loop-i : goal.invariant-loop-i
invariant-loop-i l = record {
  values : (if is_value l.greatest then Some (take l.i l.values) else None) ≡ values_of (take l.i l.word);
  all : is_value l.greatest ≡ list_all is_value (take l.i l.values);
}
