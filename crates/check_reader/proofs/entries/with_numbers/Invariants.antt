use Rattle.std.proofs.Common.{◌≡◌, length, take, fold}
use Rattle.std.specs.List.{zip}
use Rattle.homa_plain.specs.Settings.{usual}
use Rattle.homa_plain.specs.Script.{names, with_setting}
use Rattle.check_reader.proofs.entries.with_numbers.Given as goal

-- the numbers so far are those of their settings
abbrev pub invariant-loop-name : goal.invariant-loop-name
invariant-loop-name l = l.settings ≡ fold (λ s named. with_setting s named.0 named.1) usual (take (length l.yielded) (zip names l.numbers))
