-- `split` gives the cells of the first heap away. Assumes `Logic`.
use Rattle.place_heap.proofs.Walks.{◌≡◌, ℕ, ◌+◌, ◌*◌, List, [], ◌∷◌, refl, sym, proved, id⊢, ftrue, flft, named, Val, fact, tables, ‵, raw, ◌⊛◌, ◌$◌, ◌∵◌}
use Rattle.place_heap.proofs.Walks.{ !, qed, done, move, keep, split, join, fsplit, fsplit3, fjoin, fjoin3, rewrite, suffices, frame, agg, enter, no_more}
use Rattle.place_heap.proofs.Walks.{returns, alloc_all, pass_all, free_all, look_at, sets, Is, owns, Ptr, in_a_block, MutRef, mut_vals, mut_Tells, plain}
use Rattle.place_heap.proofs.Walks.{nothing, owned, opens, closes, heard, Stays, walk_of, says, stay_ref, Goes-ref, ends_at, Option, Cell}
use mir.Val.{vstruct, vnil}
use denote.Struct.Struct.{Struct, Struct-Makes}
use denote.Struct.Owning as Owning
use Rattle.place_heap.specs.contracts.cells.Pile.split as f
use Rattle.place_heap.proofs.cells.Pile.split.Statement.{statement}
use Rattle.place_heap.proofs.cells.Pile.split.Code as code
use Rattle.place_heap.specs.contracts.cells.Pile.{the_row as P}
use Rattle.place_heap.specs.contracts.cells.Block.{the_row as R, the_type as r_type}
use Rattle.place_heap.specs.Ownership.{strips, cells_at, pile_at}
use Rattle.place_heap.specs.Cells.{after}
use Rattle.place_heap.proofs.Memory.{by_heap, parts}

abbrev stayed : Stays f.ended.signature.params f.ended.kept
stayed = (stay_ref (0 ∷ []) tt (plain (λ _. P)), tt)

pub split_spec : {M : Type 1} → statement M
split_spec 𝓤 𝓛 𝓜 𝓡 wired =
    let c = f.clauses 𝓛 𝓜.mem 𝓡.returns in let W = walk_of 𝓛 f.ended stayed c in let 𝓣 = tables 𝓤 𝓛.H 𝓜 𝓡 𝓡.env in
    proved 𝓛 f.ended stayed c 𝓜 𝓡 (Goes-ref 𝓛 1 0 tt (plain (λ _. P)), tt) f.Key.name code.function (code.unfolded 𝓤 𝓛.H 𝓜 𝓡 wired)
    (λ κs. (mut_vals, tt)) (λ κs. (mut_Tells (named 0) κs.0 P, tt))
    (λ κs qs bounds a g are.
    let b = a.0.ref_ptr.0 in let o = a.0.ref_ptr.1 in let h = a.0.now in let k : ℕ = h.base.first in let s : ℕ = h.base.stride in
    let vs : List Val × Unit {0} = (mut_vals a.0, tt) in
    let y : W.Ghost = ((κs, qs, bounds, a, vs), tt) in
    qed 𝓛 (((‵ (flft κs.0 qs.0) ⊛ ‵ ftrue) ⊛ ‵ (owns (MutRef (named 0) κs.0 P ∷ []) a vs)) ∷ raw (fact 𝓤 (h.strips ≡ [] → ⊥)) ∷ []) ∵
    move ! (1 ∷ []) $ heard ! _ (λ asked.
    let has = parts h.strips asked in let cs = has.0 in let css = has.1 in
    let block : R.Denot = record { base = h.base; slots = cs } in
    let new : P.Denot = record h { base = after h.base; strips = css } in
    split ! $ split ! $ move ! (2 ∷ []) $ fsplit ! $ keep ! (0 ∷ 2 ∷ []) $
    -- [self; the token]
    enter ! _ _ _ _ _ $ alloc_all ! (λ l. pass_all ! refl ((tt, tt), tt) $
    fsplit3 ! $ move ! (1 ∷ 2 ∷ 3 ∷ []) $ opens ! tt P b o (λ us. move ! (1 ∷ []) $ fsplit ! $ move ! (1 ∷ []) $
    in_a_block ! h.base.ptr (λ p. pile_at p k s h.len h.strips) (id⊢ 𝓤 _) (λ b' o' e. fsplit ! $
    rewrite ! 0 (λ (l : List (List (Option Cell))). ‵ (strips b' (k * 24 + o') s l)) has.2 refl $ fsplit ! $ move ! (1 ∷ []) $
    rewrite ! 0 (λ (n : ℕ). ‵ (strips b' n s css)) (by_heap k o') refl $
    -- [the other cells; those of the heap; the right to free; no fields; self's cell; the open borrow, in three; self's first part]
    move ! (0 ∷ 2 ∷ []) $ fjoin ! $ rewrite ! 0 (λ (p : Ptr). ‵ (pile_at p (k + 1) s h.len css)) (sym e) refl $ move ! (2 ∷ 0 ∷ []) $ fjoin ! $
    move ! (2 ∷ 0 ∷ 3 ∷ 4 ∷ 5 ∷ []) $ closes ! tt P new us b o $ move ! (3 ∷ []) $
    rewrite ! 0 (λ (p : Ptr). ‵ (cells_at p k s cs)) (sym e) refl $
    sets ! (agg ! (no_more !)) refl (tt, tt) $ returns ! (look_at ! 0 refl) $ free_all ! refl $
    owned ! (Struct (Owning.shape r_type)) (Is (Struct (Owning.shape r_type))) (Struct-Makes 𝓛 (Owning.shape r_type) tt) tt (vstruct vnil ∷ [])
    (tt, (refl, tt)) $ fjoin ! $
    suffices ! _ (ends_at 𝓛 f.ended stayed c y (vstruct vnil) block (new, tt) (tt, tt)) $ says ! (refl, has.2, refl) $
    move ! (3 ∷ []) $ nothing ! $ move ! (1 ∷ 0 ∷ []) $ join ! $ frame ! $ move ! (3 ∷ 1 ∷ 2 ∷ []) $ fjoin3 ! $
    nothing ! $ move ! (1 ∷ 0 ∷ []) $ fjoin ! $ done !)))))
