use Rattle.std.proofs.Common.{◌∙◌, sym, ap}
use Rattle.std.specs.Prelude.{unwrap_or}
use Rattle.std.specs.Option.{option_map}
use Rattle.trace_rules.specs.Parts as plain
use Rattle.check_call.specs.Kept.{part_of}
use Rattle.check_call.proofs.part.part_or.Goals as goal

pub returns-in-None-clause-part : goal.returns-in-None-clause-part
returns-in-None-clause-part c host peer set =
    c.opened.ensures.part host peer set
    ∙ sym (ap (λ o. unwrap_or (option_map (part_of host peer set) o) (plain.opened host peer c.args.length c.args.unsched)) c.in-None.is)
