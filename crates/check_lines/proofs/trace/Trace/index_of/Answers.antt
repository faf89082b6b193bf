use Rattle.std.proofs.Common.{◌≡◌, ◌∙◌, sym, ap, subst, Some, List}
use Rattle.std.specs.Prelude.{slice_get}
use Rattle.std.proofs.lemmas.Option.{slice_get-get_or}
use Rattle.homa_plain.specs.declared.id.CallId.{CallId}
use Rattle.check_lines.proofs.Places.{same_id, place_known, place_by}
use Rattle.check_lines.proofs.trace.Trace.index_of.Goals as goal

pub returns-in-Some : goal.returns-in-Some
returns-in-Some c =
    let ks = c.args.self.now.ids.keys in
    let at = c.args.self.now.recent in
    let found = c.in-Some.ensures.lookup in
    let there : slice_get ks at ≡ Some c.in-Some.there.now =
    subst (λ (xs : List CallId). slice_get xs at ≡ Some c.in-Some.there.now) c.as_slice.ensures.keys
    (slice_get-get_or c.as_slice.result.now at c.in-Some.there.now found.3.0 ∙ ap (λ x. Some x) (sym found.1)) in
    sym (place_known _ ks c.args.id c.in-Some.there.now at same_id c.as_slice.ensures.unique there
    (sym c.is_same.ensures ∙ c.if-is_same.true))

pub returns-in_default : goal.returns-in_default
returns-in_default c = c.get_index_of.ensures.index ∙ place_by _ c.args.self.now.ids.keys c.args.id (same_id c.args.id)
