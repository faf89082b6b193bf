use Rattle.std.proofs.Common.{◌≡◌, ◌+◌, drop}
use Rattle.check_call.specs.Choices.{place_in}
use Rattle.check_call.proofs.choice.place_in.Given as goal

-- it would enter none before
abbrev pub invariant-loop-place : goal.invariant-loop-place
invariant-loop-place l = place_in l.message l.chosen ≡ l.place + place_in l.message (drop l.place l.chosen)
