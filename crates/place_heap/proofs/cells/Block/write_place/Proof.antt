-- `write_place` puts another place into one cell of the block. Assumes `Logic`.
use Rattle.place_heap.proofs.Walks.{◌≡◌, ℕ, ◌+◌, ◌*◌, ◌≤◌, ◌<◌, ◌^◌, List, [], ◌∷◌, refl, sym, subst, length, set, get_or, w64, arith, Some}
use Rattle.place_heap.proofs.Walks.{None, proved, full_share, id⊢, ftrue, fat, flft, named, Val, vunit, vint, fact, tables, ‵, raw, some, ◌⊛◌, at_ret, ◌$◌}
use Rattle.place_heap.proofs.Walks.{◌∵◌, !, qed, done, move, keep, use1, use2, split, join, fsplit, fsplit3, fjoin, fjoin3, feq_i, pick, rewrite}
use Rattle.place_heap.proofs.Walks.{suffices, frame, whole, sub, enter, of_opd, lit, unit_lit, bin, stop, fld, assigns_last, first, blocks, exec, returns}
use Rattle.place_heap.proofs.Walks.{alloc_all, pass_all, free_all, look_at, get, get_in, through, sets, take_at, give_at, env, usize, yes, lone, owns}
use Rattle.place_heap.proofs.Walks.{uint_vals, uint_Tells, Ptr, in_a_block, MutRef, mut_vals, mut_Tells, plain, nothing, owned, opens, closes, Is}
use Rattle.place_heap.proofs.Walks.{heard, Stays, walk_of, says, stay_dropped, Goes-dropped, stay_ref, Goes-ref, ends_at, after, Option, Cell}
use mir.Syntax.{w32}
use types.Part.{store_in}
use denote.Builtin.{u32}
use denote.Laws.{shows}
use denote.Steps.{facts}
use denote.Struct.Laws as LL
use borrow.Table.OneValue.{part_in, part_out}
use Rattle.place_heap.specs.contracts.cells.Block.write_place as f
use Rattle.place_heap.proofs.cells.Block.write_place.Statement.{statement}
use Rattle.place_heap.proofs.cells.Block.write_place.Code as code
use Rattle.place_heap.specs.contracts.cells.Block.{the_row as R}
use Rattle.place_heap.specs.contracts.cells.Base.{the_row as B}
use Rattle.place_heap.specs.contracts.cells.Cell.{the_row as C, the_type as c_type}
use Rattle.place_heap.specs.contracts.key.Key.{the_row as K}
use Rattle.place_heap.proofs.cells.Base.TheLaws as BL
use Rattle.place_heap.proofs.cells.Cell.TheLaws as CL
use Rattle.place_heap.proofs.key.Key.TheLaws as KL
use Rattle.place_heap.specs.Ownership.{place, places, block_owns, cells_at}
use Rattle.place_heap.specs.Cells.{IsNear}
use Rattle.place_heap.proofs.Values.{head_of}
use Rattle.place_heap.proofs.Memory.{cell_ty, product_small, by_index, filled_inside, others, cell_out, cell_in}

abbrev stayed : Stays f.ended.signature.params f.ended.kept
stayed = (
  stay_ref (0 ∷ []) tt (plain (λ _. R)),
  (stay_dropped (plain (λ _. B)) yes, (stay_dropped (plain (λ _. usize)) yes, (stay_dropped (plain (λ _. u32)) yes, tt))),
)

-- a cell with another place is stored field by field
moved : (x : Cell) (v : Val) (at : ℕ) → at < 2 ^ 32 → Is C x (v ∷ []) → (let y : Cell = record x { at = at } in Is C y (CL.lowered y ∷ []))
moved x v at fits is = (
  (KL.lowered x.key ∷ [], (vint w32 x.slot ∷ [], (vint w32 at ∷ [], tt))),
  (
    refl,
    (
      subst (λ (us : List Val). Is K x.key us) (KL.lowers.val_is x.key is.0.0 is.1.1.0) is.1.1.0,
      ((refl, is.1.1.1.0.1), ((refl, fits), tt)),
    ),
  ),
)

pub write_place_spec : {M : Type 1} → statement M
write_place_spec 𝓤 𝓛 𝓜 𝓡 wired =
    let c = f.clauses 𝓛 𝓜.mem 𝓡.returns in let W = walk_of 𝓛 f.ended stayed c in let 𝓣 = tables 𝓤 𝓛.H 𝓜 𝓡 𝓡.env in
    proved 𝓛 f.ended stayed c 𝓜 𝓡 (
      Goes-ref 𝓛 1 0 tt (plain (λ _. R)),
      (
        Goes-dropped 𝓛 1 (plain (λ _. B)) yes (λ κs x w. refl),
        (Goes-dropped 𝓛 1 (plain (λ _. usize)) yes (λ κs x w. refl), (Goes-dropped 𝓛 1 (plain (λ _. u32)) yes (λ κs x w. refl), tt)),
      ),
    )
    f.Key.name code.function (code.unfolded 𝓤 𝓛.H 𝓜 𝓡 wired)
    (λ κs. (mut_vals, ((λ x. BL.lowered x ∷ []), (uint_vals w64, (uint_vals w32, tt)))))
    (λ κs. (mut_Tells (named 0) κs.0 R, (BL.lowers.val_is, (uint_Tells w64, (uint_Tells w32, tt)))))
    (λ κs qs bounds a g are.
    let b = a.0.ref_ptr.0 in let o = a.0.ref_ptr.1 in let h =
    a.0.now in let base = a.1.0 in let k : ℕ = base.first in let s : ℕ = base.stride in let i : ℕ = a.1.1.0 in let at : ℕ = a.1.1.1.0 in
    let vs : List Val × (List Val × (List Val × (List Val × Unit {0}))) = (mut_vals a.0, (BL.lowered base ∷ [], (uint_vals w64 i, (uint_vals w32 at, tt)))) in
    let y : W.Ghost = ((κs, qs, bounds, a, vs), tt) in
    qed 𝓛 (((‵ (flft κs.0 qs.0) ⊛ ‵ ftrue) ⊛ ‵ (owns (MutRef (named 0) κs.0 R ∷ B ∷ usize ∷ u32 ∷ []) a vs)) ∷ raw
    (fact 𝓤 ((base ≡ h.base) × IsNear base × (length h.slots ≤ 8192) × ((x : Cell) × (get_or h.slots i None ≡ Some x)))) ∷ []) ∵
    move ! (1 ∷ []) $ heard ! _ (λ asked.
    let x = asked.3.0 in let inside = filled_inside h.slots i x asked.3.1 in let fits = are.1.1.1.0.1 in
    let x' : Cell = record x { at = at } in
    let new : R.Denot = record h { slots = set h.slots i (Some x') } in
    split ! $ split ! $ move ! (2 ∷ []) $ fsplit ! $ keep ! (0 ∷ 2 ∷ []) $
    -- [self; the token]
    enter ! _ _ _ _ _ $ alloc_all !
    (λ l. pass_all ! refl
    ((tt, tt), (((BL.the_row_laws.lawful 𝓛).typed base _ are.1.0).0, ((tt, record { fits = are.1.1.0.1 }), ((tt, record { fits = fits }), tt)))) $
    fsplit3 ! $ move ! (1 ∷ 2 ∷ 3 ∷ []) $ opens ! tt R b o (λ us. move ! (1 ∷ []) $ fsplit ! $ move ! (1 ∷ []) $
    rewrite ! 0 (λ (d : B.Denot). ‵ (block_owns d h.slots)) (sym asked.0) refl $
    in_a_block ! base.ptr (λ p. cells_at p k s h.slots) (id⊢ 𝓤 _) (λ b' o' e.
    let small = product_small i s 8192 32 (omega (arith, inside, asked.2)) asked.1.stride in
    let skipped : i * s < 2 ^ 64 = omega (arith, small) in
    let index : i * s + k < 2 ^ 64 = omega (arith, small, asked.1.first) in
    let far : (i * s + k) * 24 < 2 ^ 64 = omega (arith, small, asked.1.first) in
    let there : ℕ = (i * s + k) * 24 + o' in
    take_at ! 2 $ rewrite ! 0 (λ (p : Ptr). ‵ (fat full_share (lone B.mir) (l 2) 0 (BL.lowered (record { ptr = p; first = k; stride = s })))) e refl $
    give_at ! 2 $ first ! $ blocks ! $
    sets ! (bin ! (get ! refl) (get_in ! (fld ! refl (stop !)) (sub ! 2 refl (whole !))) (record { fits = skipped })) refl (tt, record { fits = skipped }) $
    sets ! (bin ! (get ! refl) (get_in ! (fld ! refl (stop !)) (sub ! 1 refl (whole !))) (record { fits = index })) refl (tt, record { fits = index }) $
    sets ! (bin ! (get ! refl) (lit ! tt) (record { fits = far })) refl (tt, record { fits = far }) $
    sets ! (bin ! (get_in ! (fld ! refl (stop !)) (sub ! 0 refl (whole !))) (get ! refl) tt) refl (tt, tt) $
    use1 𝓛 (‵ (place b' (i * s * 24 + (k * 24 + o')) (get_or h.slots i None)) ⊛ ‵ (others b' (k * 24 + o') s h.slots i))
    (cell_out 𝓛 b' (k * 24 + o') s h.slots i inside) $ split ! $
    rewrite ! 0 (λ (n : ℕ). ‵ (place b' n (get_or h.slots i None))) (by_index i s k o') refl $
    rewrite ! 0 (λ (z : Option Cell). ‵ (place b' there z)) asked.3.1 refl $
    use1 𝓛 (some (λ (v : Val). ‵ (fat full_share cell_ty b' there v) ⊛ ‵ (C.own_val x (v ∷ [])))) (part_out 𝓛 C refl full_share x b' there) $ pick ! (λ v.
    split ! $ move ! (1 ∷ []) $ facts ! C (Is C) (shows 𝓛 C) x (v ∷ []) (λ is.
    rewrite ! 0 (λ (u : Val). ‵ (fat full_share cell_ty b' there u)) (head_of (CL.lowers.val_is x (v ∷ []) is)) refl $
    -- [the cell; the others; no fields; self's cell; the open borrow, in three; self's first part]
    assigns_last ! (of_opd ! (get ! refl)) (through ! refl (fld ! refl (stop !))) (store_in ! 0 (sub ! 2 refl (whole !)) (tt, record { fits = fits })) $
    exec ! 𝓣.C 𝓣.Λ (env code.Mir.locals l) (after 1 (code.function).body) (at_ret _ (W.post y)) $
    sets ! (of_opd ! (unit_lit !)) refl (tt, tt) $
    owned ! C (Is C) (LL.makes c_type CL.the_plain 𝓛) x' (CL.lowered x' ∷ []) (moved x v at fits is) $ move ! (1 ∷ 0 ∷ []) $
    use2 𝓛 (‵ (place b' there (Some x'))) (part_in 𝓛 C refl full_share x' b' there (CL.lowered x')) $
    rewrite ! 0 (λ (n : ℕ). ‵ (place b' n (Some x'))) (sym (by_index i s k o')) refl $
    use2 𝓛 (‵ (places b' (k * 24 + o') s new.slots)) (cell_in 𝓛 b' (k * 24 + o') s h.slots i inside (Some x')) $
    rewrite ! 0 (λ (p : Ptr). ‵ (cells_at p k s new.slots)) (sym e) refl $
    rewrite ! 0 (λ (d : B.Denot). ‵ (block_owns d new.slots)) asked.0 refl $ move ! (1 ∷ 0 ∷ []) $ fjoin ! $ move ! (1 ∷ 0 ∷ []) $ closes ! tt R new us b o $
    returns ! (look_at ! 0 refl) $ free_all ! refl $ move ! (3 ∷ []) $
    suffices ! _ (ends_at 𝓛 f.ended stayed c y vunit tt (new, (tt, (tt, (tt, tt)))) (tt, (tt, (tt, (tt, tt))))) $ says ! (x, asked.3.1, refl) $
    feq_i ! _ (vunit ∷ []) _ refl $ move ! (4 ∷ []) $ nothing ! $ move ! (1 ∷ 0 ∷ []) $ join ! $ frame ! $ move ! (1 ∷ 2 ∷ 3 ∷ []) $ fjoin3 ! $
    nothing ! $ nothing ! $ fjoin ! $ nothing ! $ fjoin ! $ nothing ! $ fjoin ! $ move ! (1 ∷ 0 ∷ []) $ fjoin ! $ done !)))))))
