use Rattle.std.proofs.Common.{rules, sym, ap, ◌∙◌, Some}
use Rattle.std.proofs.lemmas.List.Sorted.{answers_always}
use Rattle.host_places.proofs.IndexLaws.{found_at, gap_at, get-at, get-gap}
use Rattle.host_places.proofs.index.Places.find.Goals as goal

pub returns-in-Ok : goal.returns-in-Ok
returns-in-Ok c =
    let index = c.self.inside.index.items in
    let rising = c.self.invariant.0.rising in
    let by_key = c.binary_search_by_key.ensures.position (λ e. e.0) (answers_always _ _ _ (λ f a r g called. search rules)) in
    let at = found_at index c.deref.result.now rising c.args.id c.binary_search_by_key.result c.in-Ok.i c.binary_search_by_key.ensures.bound by_key
    c.deref.ensures.value c.in-Ok.is in
    rw (← c.self.view_is) (ap (λ e. Some (e.1)) c.index.ensures ∙ sym (get-at index rising c.args.id c.in-Ok.i at c.index.result.now))

pub returns-in-Err : goal.returns-in-Err
returns-in-Err c =
    let index = c.self.inside.index.items in
    let rising = c.self.invariant.0.rising in
    let by_key = c.binary_search_by_key.ensures.position (λ e. e.0) (answers_always _ _ _ (λ f a r g called. search rules)) in
    let gap = gap_at index c.deref.result.now rising c.args.id c.binary_search_by_key.result c.in-Err.field-0 c.binary_search_by_key.ensures.bound
    by_key c.deref.ensures.value c.in-Err.is in
    rw (← c.self.view_is) (sym (get-gap index rising c.args.id c.in-Err.field-0 gap))
