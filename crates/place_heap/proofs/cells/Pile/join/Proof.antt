-- `join` puts the cells of a heap before the others. Assumes `Logic`.
use Rattle.place_heap.proofs.Walks.{◌≡◌, ℕ, ◌+◌, List, [], ◌∷◌, refl, sym, proved, id⊢, ftrue, flft, named, Val, vunit, fact, tables, ‵, raw, ◌⊛◌, ◌$◌}
use Rattle.place_heap.proofs.Walks.{◌∵◌, !, qed, done, move, keep, split, join, fsplit, fsplit3, fjoin, fjoin3, feq_i, rewrite, suffices, frame, enter, of_opd}
use Rattle.place_heap.proofs.Walks.{unit_lit, returns, alloc_all, pass_all, free_all, look_at, sets, yes, owns, Ptr, in_a_block, MutRef, mut_vals, mut_Tells}
use Rattle.place_heap.proofs.Walks.{plain, nothing, opens, closes, heard, Stays, walk_of, says, stay_dropped, Goes-dropped, stay_ref, Goes-ref, ends_at}
use Rattle.place_heap.specs.contracts.cells.Pile.join as f
use Rattle.place_heap.proofs.cells.Pile.join.Statement.{statement}
use Rattle.place_heap.proofs.cells.Pile.join.Code as code
use Rattle.place_heap.specs.contracts.cells.Base.{the_row as B}
use Rattle.place_heap.specs.contracts.cells.Pile.{the_row as P}
use Rattle.place_heap.specs.contracts.cells.Block.{the_row as R}
use Rattle.place_heap.proofs.cells.Block.TheLaws as RL
use Rattle.place_heap.specs.Ownership.{strips, cells_at, pile_at, pile_owns}
use Rattle.place_heap.specs.Cells.{after}
use Rattle.place_heap.proofs.Memory.{by_heap}

abbrev stayed : Stays f.ended.signature.params f.ended.kept
stayed = (stay_ref (0 ∷ []) tt (plain (λ _. P)), (stay_dropped (plain (λ _. R)) yes, tt))

pub join_spec : {M : Type 1} → statement M
join_spec 𝓤 𝓛 𝓜 𝓡 wired =
    let c = f.clauses 𝓛 𝓜.mem 𝓡.returns in let W = walk_of 𝓛 f.ended stayed c in let 𝓣 = tables 𝓤 𝓛.H 𝓜 𝓡 𝓡.env in
    proved 𝓛 f.ended stayed c 𝓜 𝓡 (Goes-ref 𝓛 1 0 tt (plain (λ _. P)), (Goes-dropped 𝓛 1 (plain (λ _. R)) yes (λ κs x w. refl), tt))
    f.Key.name code.function (code.unfolded 𝓤 𝓛.H 𝓜 𝓡 wired)
    (λ κs. (mut_vals, ((λ x. RL.lowered x ∷ []), tt))) (λ κs. (mut_Tells (named 0) κs.0 P, (RL.lowers.val_is, tt)))
    (λ κs qs bounds a g are.
    let b = a.0.ref_ptr.0 in let o = a.0.ref_ptr.1 in let h = a.0.now in let block = a.1.0 in let d = block.base in let cs = block.slots in
    let k : ℕ = d.first in let s : ℕ = d.stride in
    let vs : List Val × (List Val × Unit {0}) = (mut_vals a.0, (RL.lowered block ∷ [], tt)) in
    let y : W.Ghost = ((κs, qs, bounds, a, vs), tt) in
    let new : P.Denot = record h { base = d; strips = cs ∷ h.strips } in
    qed 𝓛 (((‵ (flft κs.0 qs.0) ⊛ ‵ ftrue) ⊛ ‵ (owns (MutRef (named 0) κs.0 P ∷ R ∷ []) a vs)) ∷ raw (fact 𝓤 (after d ≡ h.base)) ∷ []) ∵
    move ! (1 ∷ []) $ heard ! _ (λ asked.
    split ! $ split ! $ move ! (2 ∷ []) $ fsplit ! $ move ! (1 ∷ []) $ fsplit ! $ fsplit ! $ keep ! (3 ∷ 4 ∷ 1 ∷ []) $
    -- [self; the token; the cells of the heap]
    enter ! _ _ _ _ _ $ alloc_all ! (λ l. pass_all ! refl ((tt, tt), ((tt, tt), tt)) $
    fsplit3 ! $ move ! (1 ∷ 2 ∷ 3 ∷ []) $ opens ! tt P b o (λ us. move ! (1 ∷ []) $ fsplit ! $ move ! (1 ∷ []) $
    rewrite ! 0 (λ (q : B.Denot). ‵ (pile_owns q h.len h.strips)) (sym asked) refl $
    in_a_block ! d.ptr (λ p. pile_at p (k + 1) s h.len h.strips) (id⊢ 𝓤 _) (λ b' o' e. fsplit ! $
    rewrite ! 0 (λ (n : ℕ). ‵ (strips b' n s h.strips)) (sym (by_heap k o')) refl $ move ! (8 ∷ []) $
    rewrite ! 0 (λ (p : Ptr). ‵ (cells_at p k s cs)) e refl $
    -- [the cells of the heap; the others; the right to free; no fields; self's cell; the open borrow, in three; self's first part]
    fjoin ! $ fjoin ! $ rewrite ! 0 (λ (p : Ptr). ‵ (pile_at p k s h.len (cs ∷ h.strips))) (sym e) refl $ move ! (1 ∷ 0 ∷ []) $ fjoin ! $
    move ! (1 ∷ 0 ∷ []) $ closes ! tt P new us b o $
    sets ! (of_opd ! (unit_lit !)) refl (tt, tt) $ returns ! (look_at ! 0 refl) $ free_all ! refl $ move ! (3 ∷ []) $
    suffices ! _ (ends_at 𝓛 f.ended stayed c y vunit tt (new, (tt, tt)) (tt, (tt, tt))) $ says ! refl $
    feq_i ! _ (vunit ∷ []) _ refl $ move ! (4 ∷ []) $ nothing ! $ move ! (1 ∷ 0 ∷ []) $ join ! $ frame ! $ move ! (1 ∷ 2 ∷ 3 ∷ []) $ fjoin3 ! $
    nothing ! $ nothing ! $ fjoin ! $ move ! (1 ∷ 0 ∷ []) $ fjoin ! $ done !)))))
