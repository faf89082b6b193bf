use Rattle.std.proofs.Common.{◌≡◌, true, false, Option, Some, None, sym, ap, ◌∙◌, refl, List, [], ◌∷◌, length, ◌<◌}
use Rattle.std.specs.Option.{option_to_list, option_map_or}
use Rattle.std.specs.List.{AllByRecursion}
use Rattle.std.proofs.lemmas.Bool.{true≢false}
use Rattle.homa_plain.specs.declared.id.CallId.{CallId}
use Rattle.homa_plain.specs.Calls.{is_call}
use Rattle.trace_rules.specs.Judge.{are_same_calls}
use Rattle.homa_plain.proofs.CallOrder.{calls_are}
use Rattle.check_lines.specs.Traces.{IsNamed}
use Rattle.check_lines.specs.declared.block.Named.TheVariants.{Only, Several}
use Rattle.check_lines.proofs.NamedLaws.{not_due, just_due, other_due, several_due}
use Rattle.check_lines.proofs.block.Named.is_exactly.Goals as goal

only_due : (id : CallId) (ids : List CallId) (due : Option CallId) → 0 < length ids → AllByRecursion (λ q. q ≡ id) ids
    → option_map_or (is_call id) due false ≡ are_same_calls ids (option_to_list due)
only_due id ids None h all = sym (not_due ids h)
only_due id ids (Some d) h all =
    elim (is_call id d) as (λ b. is_call id d ≡ b → b ≡ are_same_calls ids (d ∷ [])) [
      | true ↦ λ e. sym (ap (λ (x : CallId). are_same_calls ids (x ∷ [])) (sym ((calls_are id d).0 e)) ∙ just_due id ids h all)
      | false ↦ λ e. sym (other_due id d ids (λ p. true≢false (sym ((calls_are id d).1 p) ∙ e)) h all)
    ] refl

pub returns-in-Only : goal.returns-in-Only
returns-in-Only c ids h =
    let all : IsNamed (Only c.in-Only.id) ids = rw c.in-Only.is at h in
    c.is_some_of.ensures ∙ only_due c.in-Only.id ids c.args.due all.0 all.1

pub returns-in-Several : goal.returns-in-Several
returns-in-Several c ids h =
    let all : IsNamed Several ids = rw c.in-Several.is at h in
    several_due ids c.args.due all.0 all.1
