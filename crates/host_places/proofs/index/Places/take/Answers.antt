use Rattle.std.proofs.Common.{rules, arith, ap, subst, vec_len, ◌==◌, ◌∙◌, ◌++◌, None, ◌≡◌, ℕ, List}
use Rattle.std.specs.Option.{option_to_list}
use Rattle.std.specs.List.Sorted.{IsPermutation}
use Rattle.std.specs.List.{range_with_len}
use Rattle.std.proofs.lemmas.List.Sorted.{answers_always}
use Rattle.plain_sets.specs.Maps.{get, values}
use Rattle.host_places.specs.Index.{map_of}
use Rattle.host_places.proofs.IndexLaws.{found_at, gap_at, get-at, len-map_of, counted, map_of-insert, last_within, last_free, kept_taken, kept_more}
use Rattle.host_places.proofs.IndexLaws.{used_within}
use Rattle.host_places.proofs.index.Places.take.Goals as goal

pub have_free-requires-clause-room : goal.have_free-requires-clause-room
have_free-requires-clause-room c = let room = rw (← c.self.view_is) at c.requires.room in omega (arith, room, c.self.invariant.3)

pub have_free-requires-clause-left : goal.have_free-requires-clause-left
have_free-requires-clause-left c =
    let index = c.self.inside.index.items in
    let free = c.self.inside.free in
    let kept = c.self.invariant.0 in
    let room = rw (← c.self.view_is) at c.requires.room in
    λ none. omega (arith, none, free.ok.0, room, counted c.self.inside.used (map_of index) free.items kept.all)

pub unwrap-place-requires : goal.unwrap-place-requires
unwrap-place-requires c = c.pop.ensures.variant.1 c.have_free.ensures.some

pub unreachable-requires : goal.unreachable-requires
unreachable-requires c =
    let index = c.self.inside.index.items in
    let rising = c.self.invariant.0.rising in
    let by_key = c.binary_search_by_key.ensures.position (λ e. e.0) (answers_always _ _ _ (λ f a r g called. search rules)) in
    let at = found_at index c.deref.result.now rising c.args.id c.binary_search_by_key.result c.in-Ok.field-0 c.binary_search_by_key.ensures.bound
    by_key c.deref.ensures.value c.in-Ok.is in
    let none : get (map_of index) c.args.id ≡ None = rw (← c.self.view_is) at c.requires.absent in
    let some = get-at index rising c.args.id c.in-Ok.field-0 at (c.args.id, 0) in
    cc

pub invariant_of-self : goal.invariant_of-self
invariant_of-self c =
    let index = c.self.inside.index.items in
    let kept = c.self.invariant.0 in
    let room = rw (← c.self.view_is) at c.requires.room in
    let more = kept_more (vec_len c.self.inside.free == 0) _ _ index _ _ c.have_free.ensures.free c.have_free.ensures.used kept in
    let by_key = c.binary_search_by_key.ensures.position (λ e. e.0) (answers_always _ _ _ (λ f a r g called. search rules)) in
    let gap = gap_at index c.deref.result.now kept.rising c.args.id c.binary_search_by_key.result c.in-Err.i c.binary_search_by_key.ensures.bound
    by_key c.deref.ensures.value c.in-Err.is in
    let last = c.pop.ensures.items ∙ ap (λ r. c.pop.new.self.items ++ option_to_list r) c.unwrap-place.ensures in (
      kept_taken c.have_free.new.used index c.insert.new.self.items c.have_free.new.free.items c.pop.new.self.items c.args.id c.in-Err.i
          c.unwrap-place.result more gap last c.in-Ok-insert.ensures.items,
      used_within (vec_len c.self.inside.free) _ _ _ c.have_free.ensures.used c.self.invariant.1
          (λ none. omega (arith, none, c.self.inside.free.ok.0, room, counted c.self.inside.used (map_of index) c.self.inside.free.items kept.all)),
      omega (arith, c.self.invariant.2, c.insert.ensures.capacity),
      omega (arith, c.self.invariant.3, c.pop.ensures.capacity, c.have_free.ensures.capacity),
    )

pub unreachable-requires-in_default : goal.unreachable-requires-in_default
unreachable-requires-in_default c =
    let index = c.self.inside.index in
    let kept = c.self.invariant.0 in
    let room = rw (← c.self.view_is) at c.requires.room in
    let full = c.in_default.ensures.full in
    omega (arith, c.self.invariant.2, full, index.ok.0, room, len-map_of index.items kept.rising)

pub returns-clause-taken : goal.returns-clause-taken
returns-clause-taken c =
    let index = c.self.inside.index.items in
    let rising = c.self.invariant.0.rising in
    let by_key = c.binary_search_by_key.ensures.position (λ e. e.0) (answers_always _ _ _ (λ f a r g called. search rules)) in
    let gap = gap_at index c.deref.result.now rising c.args.id c.binary_search_by_key.result c.in-Err.i c.binary_search_by_key.ensures.bound by_key
    c.deref.ensures.value c.in-Err.is in
    let e = ap map_of c.in-Ok-insert.ensures.items ∙ map_of-insert index rising c.args.id c.in-Err.i c.unwrap-place.result gap in
    rw (← c.self.view_is) (λ i. record { room = c.self.inside.room; at = e i })

pub returns-clause-within : goal.returns-clause-within
returns-clause-within c =
    let index = c.self.inside.index.items in
    let kept = c.self.invariant.0 in
    let room = rw (← c.self.view_is) at c.requires.room in
    let more = kept_more (vec_len c.self.inside.free == 0) _ _ index _ _ c.have_free.ensures.free c.have_free.ensures.used kept in
    let last = c.pop.ensures.items ∙ ap (λ r. c.pop.new.self.items ++ option_to_list r) c.unwrap-place.ensures in
    let all = subst (λ (fs : List ℕ). IsPermutation (range_with_len 0 c.have_free.new.used) (values (map_of index) ++ fs)) last more.all in
    let within = last_within c.have_free.new.used (map_of index) c.pop.new.self.items c.unwrap-place.result all in
    let used = used_within (vec_len c.self.inside.free) _ _ _ c.have_free.ensures.used c.self.invariant.1
    (λ none. omega (arith, none, c.self.inside.free.ok.0, room, counted c.self.inside.used (map_of index) c.self.inside.free.items kept.all)) in
    rw (← c.self.view_is) (omega (arith, within, used))

pub returns-clause-free : goal.returns-clause-free
returns-clause-free c =
    let index = c.self.inside.index.items in
    let more = kept_more (vec_len c.self.inside.free == 0) _ _ index _ _ c.have_free.ensures.free c.have_free.ensures.used c.self.invariant.0 in
    let last = c.pop.ensures.items ∙ ap (λ r. c.pop.new.self.items ++ option_to_list r) c.unwrap-place.ensures in
    let all = subst (λ (fs : List ℕ). IsPermutation (range_with_len 0 c.have_free.new.used) (values (map_of index) ++ fs)) last more.all in
    rw (← c.self.view_is) (last_free c.have_free.new.used (map_of index) c.pop.new.self.items c.unwrap-place.result all)
