use Rattle.std.proofs.Common.{◌<◌, List, [], ◌∷◌, ◌++◌, length, sym, ap, subst, ◌∙◌, arith}
use Rattle.std.proofs.lemmas.List.{length-replicate}
use Rattle.place_heap.specs.declared.cells.Cell.{Cell}
use Rattle.place_heap.specs.declared.cells.Pile.{Pile}
use Rattle.place_heap.specs.Held.{Held, AreKept}
use Rattle.place_heap.specs.Heaps.{Heaps, AreLaid}
use Rattle.place_heap.proofs.Kept.{new_kept}
use Rattle.place_heap.proofs.Lists.{list_new}
use Rattle.place_heap.proofs.Laid.{laid_more}
use Rattle.place_heap.proofs.heaps.PlaceHeaps.grow.Goals as goal

pub invariant_of-push_reserved : goal.invariant_of-push_reserved
invariant_of-push_reserved c =
    subst (λ (cells : List Cell). AreKept cells 0) (sym c.in_ok-cells.ensures.cells)
    (new_kept c.self.inside.cap c.self.invariant.0.small)

pub invariant_of-self-2 : goal.invariant_of-self-2
invariant_of-self-2 c =
    let s = c.self.inside in let made = c.in_ok-cells.ensures in let cells = c.in_ok-cells.cells in
    let h : Held = record { cells = cells.list; len = 0; spot = cells.spot } in
    let room = subst (λ (v : Heaps). length v.list < v.many) (sym c.self.view_is) c.requires in
    let more = laid_more c.self.invariant.0 h c.part.new.pile.strips room made.spot
    (ap length made.cells ∙ length-replicate s.cap _) made.pile.1 in (
      subst (λ (p : Pile). AreLaid c.push_reserved.new.self.items s.base s.many s.cap p.base p.len p.strips) (sym made.pile.0)
          (rw c.push_reserved.ensures.items more),
      omega (arith, c.self.invariant.1, c.push_reserved.ensures.capacity),
    )

pub returns : goal.returns
returns c =
    let s = c.self.inside in let made = c.in_ok-cells.ensures in let cells = c.in_ok-cells.cells in
    let h : Held = record { cells = cells.list; len = 0; spot = cells.spot } in
    record {
      more = (
        h,
        (λ j. record { list = c.push_reserved.ensures.items j; many = s.many; cap = s.cap })
            ∙ ap (λ (v : Heaps). (let w : Heaps = record v { list = v.list ++ h ∷ [] } in w)) c.self.view_is,
        record {
          cells = ap length made.cells ∙ length-replicate s.cap _ ∙ ap (λ (v : Heaps). v.cap) c.self.view_is;
          list = list_new cells.list;
          kept = subst (λ (l : List Cell). AreKept l 0) (sym made.cells) (new_kept s.cap c.self.invariant.0.small);
        },
      );
    }
