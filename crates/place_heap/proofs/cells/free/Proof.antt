-- `free` makes room of the cells, whatever they hold, and hands the block back. Assumes `Logic`.
use Rattle.place_heap.proofs.Walks.{◌≡◌, ℕ, ◌+◌, ◌*◌, ◌≤◌, ◌<◌, ◌^◌, List, [], ◌∷◌, refl, sym, ap, subst, lit<, w64, arith, proved, full_share}
use Rattle.place_heap.proofs.Walks.{id⊢, ftrue, fat, flft, named, Val, vunit, vint, vptr, fact, tables, ‵, raw, ◌⊛◌, some, later, at_ret, ◌$◌, ◌∵◌, ! }
use Rattle.place_heap.proofs.Walks.{qed, done, move, keep, drop, use1, use2, split, join, fsplit, fjoin, feq_i, feq_l, pick, await, rewrite, suffices}
use Rattle.place_heap.proofs.Walks.{whole, sub, enter, of_opd, lit, unit_lit, bin, stop, fld, no_more, and_then, first, blocks, exec, returns}
use Rattle.place_heap.proofs.Walks.{alloc_all, pass_all, free_all, look_at, get, get_in, sets, lands_last, take_at, give_at, env, usize, unit, RefOf}
use Rattle.place_heap.proofs.Walks.{yes, lone, owns, uint_vals, uint_Tells, Ptr, block_ptr, in_a_block, ShrRef, shr_vals, shr_Tells, plain, nothing}
use Rattle.place_heap.proofs.Walks.{heard, only, calls_at_last, lasts, triple_of, Stays, walk_of, stay_dropped, Goes-dropped, ends_at, framed, after}
use base.Logic.{emp}
use base.Fml.{froom}
use lib.Dec.{T}
use mir.Syntax.{ty_unit, ty_array}
use mir.Val.{has_ty, WT}
use prog.Capped.{capped_is}
use contract.Monad.{fact_i}
use types.Kit.{use0, flt_i, fpick}
use Rattle.core.specs.Allocator.{HasLayout}
use Rattle.std_alloc.proofs.RawLayout.{as_raw}
use Rattle.std_heap.specs.contracts.Global.{the_row as H}
use Rattle.std_heap.specs.contracts.GlobalAllocator.deallocate as g
use Rattle.std_heap.proofs.GlobalAllocator.deallocate.Met.{met}
use Rattle.place_heap.specs.contracts.cells.free as f
use Rattle.place_heap.proofs.cells.free.Statement.{statement}
use Rattle.place_heap.proofs.cells.free.Code as code
use Rattle.place_heap.specs.contracts.cells.Pile.{the_row as P}
use Rattle.place_heap.specs.contracts.cells.Base.{the_row as B}
use Rattle.place_heap.proofs.cells.Base.TheLaws as BL
use Rattle.place_heap.proofs.cells.Pile.TheLaws as PL
use Rattle.place_heap.specs.Ownership.{strips, pile_at, pile_owns, block_ty, may_free}
use Rattle.place_heap.specs.Cells.{IsWhole}
use Rattle.place_heap.proofs.Memory.{cell_ty, product_small, none_before, room_of_heaps}

abbrev stayed : Stays f.ended.signature.params f.ended.kept
stayed = (
  stay_dropped (RefOf (0 ∷ []) tt (plain (λ _. H)) (λ _. tt)) yes,
  (
    stay_dropped (plain (λ _. B)) yes,
    (stay_dropped (plain (λ _. usize)) yes, (stay_dropped (plain (λ _. usize)) yes, (stay_dropped (plain (λ _. P)) yes, tt))),
  ),
)

pub free_spec : {M : Type 1} → statement M
free_spec 𝓤 𝓛 𝓜 𝓡 wired =
    let c = f.clauses 𝓛 𝓜.mem 𝓡.returns in let W = walk_of 𝓛 f.ended stayed c in let 𝓣 = tables 𝓤 𝓛.H 𝓜 𝓡 𝓡.env in
    proved 𝓛 f.ended stayed c 𝓜 𝓡 (
      Goes-dropped 𝓛 1 (RefOf (0 ∷ []) tt (plain (λ _. H)) (λ _. tt)) yes (λ κs x w. refl),
      (
        Goes-dropped 𝓛 1 (plain (λ _. B)) yes (λ κs x w. refl),
        (
          Goes-dropped 𝓛 1 (plain (λ _. usize)) yes (λ κs x w. refl),
          (Goes-dropped 𝓛 1 (plain (λ _. usize)) yes (λ κs x w. refl), (Goes-dropped 𝓛 1 (plain (λ _. P)) yes (λ κs x w. refl), tt)),
        ),
      ),
    )
    f.Key.name code.function (code.unfolded 𝓤 𝓛.H 𝓜 𝓡 wired)
    (λ κs. (shr_vals, ((λ x. BL.lowered x ∷ []), (uint_vals w64, (uint_vals w64, ((λ x. PL.lowered x ∷ []), tt))))))
    (λ κs. (shr_Tells (named 0) κs.0 H, (BL.lowers.val_is, (uint_Tells w64, (uint_Tells w64, (PL.lowers.val_is, tt))))))
    (λ κs qs bounds a _ are.
    let base = a.1.0 in let many : ℕ = a.1.1.0 in let len : ℕ = a.1.1.1.0 in let h = a.1.1.1.1.0 in
    let count : ℕ = len * many in let bytes : ℕ = count * 24 in let τ = block_ty count in
    let vs : List Val × (List Val × (List Val × (List Val × (List Val × Unit {0})))) =
    (shr_vals a.0, (BL.lowered base ∷ [], (uint_vals w64 many, (uint_vals w64 len, (PL.lowered h ∷ [], tt))))) in
    let y : W.Ghost = ((κs, qs, bounds, a, vs), tt) in
    let G = triple_of 𝓛 g.signature (g.spec 𝓛 𝓜.mem 𝓡.returns) in
    qed 𝓛 (((‵ (flft κs.0 qs.0) ⊛ ‵ ftrue) ⊛ ‵ (owns (ShrRef (named 0) κs.0 H ∷ B ∷ usize ∷ usize ∷ P ∷ []) a vs)) ∷ raw
    (fact 𝓤 ((h.base ≡ base) × (base.first ≡ 0) × (base.stride ≡ many) × (h.len ≡ len) × IsWhole many len h.strips × (many ≤ 32) × (len ≤ 8192))) ∷ []) ∵
    move ! (1 ∷ []) $ heard ! _ (λ asked.
    split ! $ split ! $ move ! (2 ∷ []) $ fsplit ! $ move ! (1 ∷ []) $ fsplit ! $ drop ! $ fsplit ! $ drop ! $ fsplit ! $ drop ! $ fsplit ! $
    fsplit ! $ keep ! (1 ∷ 3 ∷ 4 ∷ []) $
    -- [the block; the reference to the allocator; the token]
    let small = product_small len many 8192 32 asked.6 asked.5 in
    let fits_count : count < 2 ^ 64 = omega (arith, small) in let fits : bytes < 2 ^ 64 = omega (arith, small) in
    enter ! _ _ _ _ _ $ alloc_all !
    (λ l. pass_all ! refl (
      (tt, tt),
      (
        ((BL.the_row_laws.lawful 𝓛).typed base _ are.1.0).0,
        ((tt, record { fits = are.1.1.0.1 }), ((tt, record { fits = are.1.1.1.0.1 }), ((tt, tt), tt))),
      ),
    ) $
    let En = env (code.function).locals l in
    rewrite ! 0 (λ (d : B.Denot). ‵ (pile_owns d h.len h.strips)) asked.0 refl $
    in_a_block ! base.ptr (λ p. pile_at p base.first base.stride h.len h.strips) (id⊢ 𝓤 _) (λ b o e. fsplit ! $
    take_at ! 2 $ rewrite ! 0 (λ (p : Ptr). ‵ (fat full_share (lone B.mir) (l 2) 0 (BL.lowered (record base { ptr = p })))) e refl $ give_at ! 2 $
    rewrite ! 0 (λ (k : ℕ). ‵ (strips b (k * 24 + o) base.stride h.strips)) asked.1 refl $
    rewrite ! 0 (λ (k : ℕ). ‵ (strips b k base.stride h.strips)) (none_before o) refl $
    rewrite ! 0 (λ (s : ℕ). ‵ (strips b o s h.strips)) asked.2 refl $
    use1 𝓛 (‵ (froom (ty_array cell_ty count) b o)) (room_of_heaps 𝓛 b len many o h.strips asked.4.many asked.4.even) $
    rewrite ! 1 (λ (s : ℕ). ‵ (may_free (block_ty (h.len * s)) (block_ptr b o))) asked.2 refl $
    rewrite ! 1 (λ (n : ℕ). ‵ (may_free (block_ty (n * many)) (block_ptr b o))) asked.3 refl $ as_raw ! (ty_array cell_ty count) b o $
    move ! (1 ∷ []) $ fpick ! (λ alloc. move ! (1 ∷ []) $
    let z : G.Ghost =
    ((κs, qs, tt, (a.0, (block_ptr b o, (bytes, (8, tt)))), (shr_vals a.0, (vptr b o ∷ [], (vint w64 bytes ∷ [], (vint w64 8 ∷ [], tt))))), τ) in
    let has : HasLayout τ bytes 8 = (capped_is bytes fits, refl) in
    first ! $ blocks ! $
    sets ! (of_opd ! (get_in ! (fld ! refl (stop !)) (sub ! 0 refl (whole !)))) refl (tt, tt) $
    sets ! (bin ! (get ! refl) (get ! refl) (record { fits = fits_count })) refl (tt, record { fits = fits_count }) $
    sets ! (bin ! (get ! refl) (lit ! tt) (record { fits = fits })) refl (tt, record { fits = fits }) $
    fjoin ! $ use0 𝓛 (raw (fact 𝓤 (HasLayout τ bytes 8))) (fact_i 𝓤 (HasLayout τ bytes 8) (emp 𝓤) has) $ join ! $
    nothing ! $ flt_i ! 8 (2 ^ 64) (lit< tt) $ feq_i ! (List Val) (vint w64 8 ∷ []) (vint w64 8 ∷ []) refl $ fjoin ! $ fjoin ! $
    flt_i ! bytes (2 ^ 64) fits $ feq_i ! (List Val) (vint w64 bytes ∷ []) (vint w64 bytes ∷ []) refl $ fjoin ! $ fjoin ! $
    feq_i ! (List Val) (vptr b o ∷ []) (vptr b o ∷ []) refl $ fjoin ! $
    move ! (2 ∷ 0 ∷ []) $ fjoin ! $ nothing ! $ move ! (3 ∷ 0 ∷ []) $ join ! $ join ! $
    use2 𝓛 (raw (G.pre z)) (id⊢ 𝓤 _) $
    calls_at_last ! (framed 𝓤 𝓛.H 𝓜 𝓣) G (met 𝓤 𝓛 𝓜 𝓡 (code.calls-std_heap::GlobalAllocator::deallocate 𝓡.env wired)) z
    (and_then ! (get ! refl) (and_then ! (get ! refl) (and_then ! (get ! refl) (and_then ! (lit ! tt) (no_more !))))) (λ v.
    use1 𝓛 (later (some (λ (r : Unit {0}). ((‵ (flft κs.0 qs.0) ⊛ ‵ ftrue) ⊛ ‵ (unit.own_val r (v ∷ []))) ⊛
    some (λ (ws : Unit {0} × (Unit {0} × (Unit {0} × (Unit {0} × Unit {0})))). ‵ (lasts g.ended κs z.0.3 ws) ⊛ ‵ ftrue)))) (id⊢ 𝓤 _) $ await ! tt $ pick ! (λ r.
    split ! $ split ! $ move ! (1 ∷ []) $ feq_l ! (λ is_unit.
    lands_last ! refl (subst (λ (u : Val). T (has_ty ty_unit u) × WT u) (sym (ap only is_unit)) (tt, tt)) $ exec ! 𝓣.C 𝓣.Λ En
    (after 1 (code.function).body) (at_ret En (W.post y)) $
    sets ! (of_opd ! (unit_lit !)) refl (tt, tt) $ returns ! (look_at ! 0 refl) $ free_all ! refl $ keep ! (0 ∷ []) $
    suffices ! _ (ends_at 𝓛 f.ended stayed c y vunit tt (tt, (tt, (tt, (tt, (tt, tt))))) (tt, (tt, (tt, (tt, (tt, tt)))))) $
    feq_i ! (List Val) (vunit ∷ []) (vunit ∷ []) refl $ nothing ! $ nothing ! $ fjoin ! $ nothing ! $ fjoin ! $ nothing ! $ fjoin ! $ nothing ! $
    fjoin ! $ nothing ! $ fjoin ! $ join ! $
    move ! (1 ∷ 0 ∷ []) $ join ! $ nothing ! $ move ! (1 ∷ 0 ∷ []) $ done !))))))))
