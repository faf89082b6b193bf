use Rattle.std.proofs.Common.{◌∙◌, sym, ap, Some}
use Rattle.std.specs.Option.{option_map}
use Rattle.check_call.specs.Kept.{part_of}
use Rattle.check_call.proofs.call.settle_some.Goals as goal

pub returns-in_ok-settle-in-Some-clause-part : goal.returns-in_ok-settle-in-Some-clause-part
returns-in_ok-settle-in-Some-clause-part c host peer =
    ap (λ p. Some p) (c.in_ok-settle-in-Some.ensures.part host peer) ∙ sym (ap (option_map (part_of host peer c.args.set.now)) c.in-Some.is)
