use Rattle.std.proofs.Common.{◌≡◌, ◌++◌, [], ◌∷◌, List, length, sym, ap, subst, ◌∙◌, arith}
use Rattle.std.specs.Prelude.{option_to_list}
use Rattle.place_heap.specs.declared.cells.Pile.{Pile}
use Rattle.place_heap.specs.Held.{Held, Spot}
use Rattle.place_heap.specs.Heaps.{AreBefore}
use Rattle.place_heap.proofs.Laid.{one_more, last_spot, last_cells, without_last}
use Rattle.place_heap.proofs.heaps.gather.Goals as goal

pub loop-heap-preserved : goal.loop-heap-preserved
loop-heap-preserved c =
    let l = c.loop-heap in let p = l.pile in let xs = c.pop.new.self.items in let h = c.in-Some.heap in let block = c.into_block.result in
    let items : l.heaps.items ≡ xs ++ h ∷ [] = c.pop.ensures.items ∙ ap (λ o. xs ++ option_to_list o) c.in-Some.is in
    let before = subst (λ (hs : List Held). AreBefore hs p.base p.len p.strips) items l.invariant.before in
    let base : block.base ≡ record p.base { first = length xs } =
    c.into_block.ensures.base ∙ ap (λ (s : Spot). s.base) (last_spot xs h p.base p.len p.strips before) in
    let len = c.into_block.ensures.len ∙ last_cells xs h p.base p.len p.strips before in
    record {
      before = subst (λ (q : Pile). AreBefore xs q.base q.len q.strips) (sym c.join.ensures)
          (without_last xs h p.base p.len p.strips before block.base block.slots base len);
      base = (λ j. record (c.join.ensures j).base { first = 0 }) ∙ (λ j. record (base j) { first = 0 }) ∙ l.invariant.base;
      len = ap (λ (q : Pile). q.len) c.join.ensures ∙ l.invariant.len;
      many = omega (arith, ap (λ (q : Pile). length q.strips) c.join.ensures, ap length items, one_more xs h, l.invariant.many);
    }
