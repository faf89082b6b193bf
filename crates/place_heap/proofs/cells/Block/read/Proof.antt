-- `read` shows the value of one cell that the block lends. Assumes `Logic`.
use Rattle.place_heap.proofs.Walks.{◌≡◌, ℕ, ◌+◌, ◌*◌, ◌≤◌, ◌<◌, ◌^◌, List, [], ◌∷◌, refl, sym, length, get_or, w64, arith, Some, None, proved}
use Rattle.place_heap.proofs.Walks.{full_share, id⊢, ftrue, fat, flft, named, Val, vptr, fact, tables, ‵, raw, ◌⊛◌, at_ret, ◌$◌, ◌∵◌, !, qed, done}
use Rattle.place_heap.proofs.Walks.{move, keep, drop, use1, split, join, fsplit, fjoin, feq_i, rewrite, suffices, frame, whole, sub, enter, of_opd}
use Rattle.place_heap.proofs.Walks.{lit, bin, addr, stop, fld, first, blocks, exec, returns, alloc_all, pass_all, free_all, look_at, get, get_in}
use Rattle.place_heap.proofs.Walks.{through, sets, sets_last, take_at, give_at, env, usize, RefOf, hide, unhide, Option, Cell, yes, lone, owns}
use Rattle.place_heap.proofs.Walks.{uint_vals, uint_Tells, Ptr, in_a_block, ShrRef, shr_vals, shr_Tells, plain, nothing, heard, Stays, walk_of, says}
use Rattle.place_heap.proofs.Walks.{stay_dropped, Goes-dropped, ends_at, after}
use Rattle.place_heap.specs.contracts.cells.Block.read as f
use Rattle.place_heap.proofs.cells.Block.read.Statement.{statement}
use Rattle.place_heap.proofs.cells.Block.read.Code as code
use Rattle.place_heap.specs.contracts.cells.Block.{the_row as R}
use Rattle.place_heap.specs.contracts.cells.Base.{the_row as B}
use Rattle.place_heap.proofs.cells.Base.TheLaws as BL
use Rattle.place_heap.specs.Ownership.{place_lent, cells_lent, block_lends}
use Rattle.place_heap.specs.Cells.{IsNear}
use Rattle.place_heap.proofs.Memory.{product_small, by_index, filled_inside, cell_seen}

abbrev stayed : Stays f.ended.signature.params f.ended.kept
stayed = (stay_dropped (RefOf (0 ∷ []) tt (plain (λ _. R)) (λ _. tt)) yes, (stay_dropped (plain (λ _. B)) yes, (stay_dropped (plain (λ _. usize)) yes, tt)))

pub read_spec : {M : Type 1} → statement M
read_spec 𝓤 𝓛 𝓜 𝓡 wired =
    let c = f.clauses 𝓛 𝓜.mem 𝓡.returns in let W = walk_of 𝓛 f.ended stayed c in let 𝓣 = tables 𝓤 𝓛.H 𝓜 𝓡 𝓡.env in
    proved 𝓛 f.ended stayed c 𝓜 𝓡 (
      Goes-dropped 𝓛 1 (RefOf (0 ∷ []) tt (plain (λ _. R)) (λ _. tt)) yes (λ κs x w. refl),
      (Goes-dropped 𝓛 1 (plain (λ _. B)) yes (λ κs x w. refl), (Goes-dropped 𝓛 1 (plain (λ _. usize)) yes (λ κs x w. refl), tt)),
    )
    f.Key.name code.function (code.unfolded 𝓤 𝓛.H 𝓜 𝓡 wired)
    (λ κs. (shr_vals, ((λ x. BL.lowered x ∷ []), (uint_vals w64, tt))))
    (λ κs. (shr_Tells (named 0) κs.0 R, (BL.lowers.val_is, (uint_Tells w64, tt))))
    (λ κs qs bounds a g are.
    let b = a.0.ref_ptr.0 in let o =
    a.0.ref_ptr.1 in let h = a.0.now in let base = a.1.0 in let k : ℕ = base.first in let s : ℕ = base.stride in let i : ℕ = a.1.1.0 in
    let vs : List Val × (List Val × (List Val × Unit {0})) = (shr_vals a.0, (BL.lowered base ∷ [], (uint_vals w64 i, tt))) in
    let y : W.Ghost = ((κs, qs, bounds, a, vs), tt) in
    qed 𝓛 (((‵ (flft κs.0 qs.0) ⊛ ‵ ftrue) ⊛ ‵ (owns (ShrRef (named 0) κs.0 R ∷ B ∷ usize ∷ []) a vs)) ∷ raw
    (fact 𝓤 ((base ≡ h.base) × IsNear base × (length h.slots ≤ 8192) × ((x : Cell) × (get_or h.slots i None ≡ Some x)))) ∷ []) ∵
    move ! (1 ∷ []) $ heard ! _ (λ asked.
    let x = asked.3.0 in let inside = filled_inside h.slots i x asked.3.1 in
    split ! $ split ! $ move ! (2 ∷ []) $ fsplit ! $ keep ! (0 ∷ 2 ∷ []) $ fsplit ! $ drop ! $
    -- [what a reference to self holds; the token]
    enter ! _ _ _ _ _ $ alloc_all !
    (λ l. pass_all ! refl ((tt, tt), (((BL.the_row_laws.lawful 𝓛).typed base _ are.1.0).0, ((tt, record { fits = are.1.1.0.1 }), tt))) $
    unhide ! $ fsplit ! $ drop ! $ rewrite ! 0 (λ (d : B.Denot). ‵ (block_lends d h.slots κs.0)) (sym asked.0) refl $
    in_a_block ! base.ptr (λ p. cells_lent p k s h.slots κs.0) (id⊢ 𝓤 _) (λ b' o' e.
    let small = product_small i s 8192 32 (omega (arith, inside, asked.2)) asked.1.stride in
    let skipped : i * s < 2 ^ 64 = omega (arith, small) in
    let index : i * s + k < 2 ^ 64 = omega (arith, small, asked.1.first) in
    let far : (i * s + k) * 24 < 2 ^ 64 = omega (arith, small, asked.1.first) in
    take_at ! 2 $ rewrite ! 0 (λ (p : Ptr). ‵ (fat full_share (lone B.mir) (l 2) 0 (BL.lowered (record { ptr = p; first = k; stride = s })))) e refl $
    give_at ! 2 $ first ! $ blocks ! $
    sets ! (bin ! (get ! refl) (get_in ! (fld ! refl (stop !)) (sub ! 2 refl (whole !))) (record { fits = skipped })) refl (tt, record { fits = skipped }) $
    sets ! (bin ! (get ! refl) (get_in ! (fld ! refl (stop !)) (sub ! 1 refl (whole !))) (record { fits = index })) refl (tt, record { fits = index }) $
    sets ! (bin ! (get ! refl) (lit ! tt) (record { fits = far })) refl (tt, record { fits = far }) $
    sets ! (bin ! (get_in ! (fld ! refl (stop !)) (sub ! 0 refl (whole !))) (get ! refl) tt) refl (tt, tt) $
    use1 𝓛 (‵ (place_lent b' (i * s * 24 + (k * 24 + o')) (get_or h.slots i None) κs.0)) (cell_seen 𝓛 b' κs.0 (k * 24 + o') s h.slots i inside) $
    rewrite ! 0 (λ (n : ℕ). ‵ (place_lent b' n (get_or h.slots i None) κs.0)) (by_index i s k o') refl $
    rewrite ! 0 (λ (z : Option Cell). ‵ (place_lent b' ((i * s + k) * 24 + o') z κs.0)) asked.3.1 refl $ hide ! $
    sets_last ! (addr ! (through ! refl (stop !))) refl (tt, tt) $ exec ! 𝓣.C 𝓣.Λ (env code.Mir.locals l) (after 1 (code.function).body) (at_ret _ (W.post y)) $
    sets ! (of_opd ! (get ! refl)) refl (tt, tt) $
    feq_i ! (List Val) (vptr b' ((i * s + k) * 24 + o') ∷ []) (vptr b' ((i * s + k) * 24 + o') ∷ []) refl $ fjoin ! $
    returns ! (look_at ! 0 refl) $ free_all ! refl $ keep ! (1 ∷ 0 ∷ []) $
    suffices ! _ (ends_at 𝓛 f.ended stayed c y (vptr b' ((i * s + k) * 24 + o')) (record { ref_ptr = (b', (i * s + k) * 24 + o'); now = x })
    (tt, (tt, (tt, tt))) (tt, (tt, (tt, tt)))) $ says ! asked.3.1 $
    nothing ! $ move ! (1 ∷ 0 ∷ []) $ join ! $ frame ! $ nothing ! $ nothing ! $ fjoin ! $ nothing ! $ fjoin ! $ nothing ! $ fjoin ! $ done !))))
