use Rattle.std.proofs.Common.{arith, ◌∙◌, sym}
use Rattle.host_places.specs.Index.{map_of}
use Rattle.host_places.proofs.IndexLaws.{len-map_of, counted, places_sound, places_within}
use Rattle.host_places.proofs.index.Places.len.Goals as goal

pub overflow_cast-result : goal.overflow_cast-result
overflow_cast-result c =
    let index = c.self.inside.index in
    let kept = c.self.invariant.0 in
    omega (
      arith,
      index.ok.0,
      len-map_of index.items kept.rising,
      c.self.invariant.1,
      counted c.self.inside.used (map_of index.items) c.self.inside.free.items kept.all,
    )

pub returns-clause-len : goal.returns-clause-len
returns-clause-len c = rw (← c.self.view_is) (c.len.ensures ∙ c.self.inside.index.ok.0 ∙ sym (len-map_of c.self.inside.index.items c.self.invariant.0.rising))

pub returns-clause-within : goal.returns-clause-within
returns-clause-within c =
    let index = c.self.inside.index in
    let kept = c.self.invariant.0 in
    rw (← c.self.view_is)
    (omega (
      arith,
      c.len.ensures,
      index.ok.0,
      len-map_of index.items kept.rising,
      c.self.invariant.1,
      counted c.self.inside.used (map_of index.items) c.self.inside.free.items kept.all,
    ))

pub returns-clause-places : goal.returns-clause-places
returns-clause-places c =
    rw (← c.self.view_is)
    (places_within c.self.inside.used c.self.inside.room (map_of c.self.inside.index.items) c.self.invariant.1
    (places_sound c.self.inside.used (map_of c.self.inside.index.items) c.self.inside.free.items c.self.invariant.0.all))
