use Rattle.std.proofs.Common.{rules, arith, ap, ◌∙◌, ◌<◌, length}
use Rattle.std.proofs.lemmas.List.Sorted.{answers_always}
use Rattle.host_places.specs.Index.{map_of}
use Rattle.host_places.proofs.IndexLaws.{found_at, gap_at, get-gap, len-map_of, counted, map_of-remove, kept_given}
use Rattle.host_places.proofs.index.Places.give.Goals as goal

pub push_reserved-requires : goal.push_reserved-requires
push_reserved-requires c =
    let index = c.self.inside.index in
    let free = c.self.inside.free in
    let kept = c.self.invariant.0 in
    let by_key = c.binary_search_by_key.ensures.position (λ e. e.0) (answers_always _ _ _ (λ f a r g called. search rules)) in
    let at = found_at index.items c.deref.result.now kept.rising c.args.id c.binary_search_by_key.result c.in-Ok.i
    c.binary_search_by_key.ensures.bound by_key c.deref.ensures.value c.in-Ok.is in
    let l : c.in-Ok.i < length index.items = at.within in
    omega (
      arith,
      free.ok.0,
      c.self.invariant.3,
      c.self.invariant.1,
      len-map_of index.items kept.rising,
      counted c.self.inside.used (map_of index.items) free.items kept.all,
    )

pub invariant_of-self : goal.invariant_of-self
invariant_of-self c =
    let index = c.self.inside.index.items in
    let kept = c.self.invariant.0 in
    let by_key = c.binary_search_by_key.ensures.position (λ e. e.0) (answers_always _ _ _ (λ f a r g called. search rules)) in
    let at = found_at index c.deref.result.now kept.rising c.args.id c.binary_search_by_key.result c.in-Ok.i c.binary_search_by_key.ensures.bound
    by_key c.deref.ensures.value c.in-Ok.is in (
      kept_given c.self.inside.used index c.remove-place.new.self.items c.self.inside.free.items c.push_reserved.new.self.items c.args.id c.in-Ok.i
          c.remove-place.result kept at c.remove-place.ensures.value c.remove-place.ensures.items c.push_reserved.ensures.items,
      c.self.invariant.1,
      omega (arith, c.self.invariant.2, c.remove-place.ensures.capacity),
      omega (arith, c.self.invariant.3, c.push_reserved.ensures.capacity),
    )

pub unreachable-requires : goal.unreachable-requires
unreachable-requires c =
    let index = c.self.inside.index.items in
    let rising = c.self.invariant.0.rising in
    let by_key = c.binary_search_by_key.ensures.position (λ e. e.0) (answers_always _ _ _ (λ f a r g called. search rules)) in
    let gap = gap_at index c.deref.result.now rising c.args.id c.binary_search_by_key.result c.in-Err.field-0 c.binary_search_by_key.ensures.bound
    by_key c.deref.ensures.value c.in-Err.is in
    let some = rw (← c.self.view_is) at c.requires in
    let none = rw (get-gap index rising c.args.id c.in-Err.field-0 gap) at some in
    cc

pub returns : goal.returns
returns c =
    let index = c.self.inside.index.items in
    let rising = c.self.invariant.0.rising in
    let by_key = c.binary_search_by_key.ensures.position (λ e. e.0) (answers_always _ _ _ (λ f a r g called. search rules)) in
    let at = found_at index c.deref.result.now rising c.args.id c.binary_search_by_key.result c.in-Ok.i c.binary_search_by_key.ensures.bound by_key
    c.deref.ensures.value c.in-Ok.is in
    let e = ap map_of c.remove-place.ensures.items ∙ map_of-remove index rising c.args.id c.in-Ok.i at in
    rw (← c.self.view_is) (λ i. record { room = c.self.inside.room; at = e i })
