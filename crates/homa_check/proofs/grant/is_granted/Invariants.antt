use Rattle.std.proofs.Common.{◌≡◌, drop, length}
use Rattle.homa_check.specs.Grants.{is_grant_among}
use Rattle.homa_check.proofs.grant.is_granted.Given as goal

-- it is none of the first ones
abbrev pub invariant-loop-rank : goal.invariant-loop-rank
invariant-loop-rank l =
    is_grant_among l.window (length l.chosen) 0 l.grant l.chosen ≡ is_grant_among l.window (length l.chosen) l.rank l.grant (drop l.rank l.chosen)
