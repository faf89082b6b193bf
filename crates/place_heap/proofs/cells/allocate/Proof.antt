-- `allocate` makes a block of empty cells of the room that it is given. Assumes `Logic`.
use Rattle.place_heap.proofs.Walks.{ℕ, ◌*◌, ◌≤◌, ◌<◌, ◌^◌, List, [], ◌∷◌, refl, sym, lit<, w64, arith, proved, id⊢, ftrue, flft, named, Val}
use Rattle.place_heap.proofs.Walks.{vint, fact, tables, ‵, raw, ◌⊛◌, some, later, at_ret, ◌$◌, ◌∵◌, !, qed, done, move, keep, drop, use1, use2, split}
use Rattle.place_heap.proofs.Walks.{join, fsplit, fjoin, feq_i, pick, await, rewrite, suffices, frame, whole, agg, enter, of_opd, lit, bin, stop, fld}
use Rattle.place_heap.proofs.Walks.{no_more, and_then, first, exec, returns, alloc_all, pass_all, free_all, look_at, get, get_in, sets, sets_last}
use Rattle.place_heap.proofs.Walks.{lands_as, env, usize, RefOf, yes, Is, lone, owns, uint_vals, uint_Tells, Ptr, block_ptr, ptr_val, ShrRef}
use Rattle.place_heap.proofs.Walks.{shr_vals, shr_Tells, plain, nothing, owned, heard, calls_at, lasts, triple_of, Stays, walk_of, says, stay_dropped}
use Rattle.place_heap.proofs.Walks.{Goes-dropped, ends_at, framed, after}
use mathlib.Core.Bool.{true, false}
use mir.Syntax.{Body, ty_array}
use mir.Val.{vstruct, vcons, vnil, has_ty, WT}
use lib.Dec.{T}
use prog.Wp.{Wp, after_seq, at_return}
use prog.Capped.{capped_is}
use contract.Monad.{fact_i}
use base.Logic.{emp}
use types.Kit.{Post as After, any_q, use0, flt_i, fpack}
use types.Match.{live, vrt, in_variant}
use types.Run.{switches_on}
use types.ByLocal.{get_tag}
use denote.RattleType.{RattleType}
use denote.Struct.Struct.{Struct, Struct-Makes}
use denote.Struct.Declared as Declared
use denote.Struct.Owning as Owning
use denote.Struct.Laws as LL
use denote.Struct.Tuple.{Tuple}
use Rattle.core.proofs.alloc.Calls.{Answer, Answer-typed}
use Rattle.core.specs.Allocator.{HasLayout, block_if_ok}
use Rattle.core.specs.contracts.result.Result as RS
use Rattle.core.specs.contracts.alloc.AllocError as AE
use Rattle.std_alloc.proofs.VecSteps.Shapes.{head, arm_body}
use Rattle.std_alloc.proofs.ResultValues.{ok_of, err_of}
use Rattle.std_alloc.proofs.RcSteps.{first_Good}
use Rattle.std_alloc.proofs.RawLayout.{as_written}
use Rattle.std.specs.Prelude.{Ok, Err}
use Rattle.std_heap.specs.declared.Global.{Global}
use Rattle.std_heap.specs.contracts.GlobalAllocator.TheImpl.{ghosts}
use Rattle.std_heap.specs.contracts.Global.{the_row as H}
use Rattle.std_heap.specs.contracts.GlobalAllocator.allocate as g
use Rattle.std_heap.proofs.GlobalAllocator.allocate.Met.{met}
use Rattle.place_heap.specs.contracts.cells.allocate as f
use Rattle.place_heap.proofs.cells.allocate.Statement.{statement}
use Rattle.place_heap.proofs.cells.allocate.Code as code
use Rattle.place_heap.specs.contracts.cells.Pile.{the_row as P, the_type as p_type}
use Rattle.place_heap.specs.contracts.cells.Base.{the_row as B, the_type as b_type}
use Rattle.place_heap.proofs.cells.Base.TheLaws as BL
use Rattle.place_heap.specs.Ownership.{strips, block_ty}
use Rattle.place_heap.proofs.Memory.{cell_ty, product_small, none_before, grid, grid_of_room}
use Rattle.place_heap.proofs.Allocated.{answered, pair_val, pair_of}

abbrev stayed : Stays f.ended.signature.params f.ended.kept
stayed = (
  stay_dropped (RefOf (0 ∷ []) tt (plain (λ _. H)) (λ _. tt)) yes,
  (stay_dropped (plain (λ _. usize)) yes, (stay_dropped (plain (λ _. usize)) yes, tt)),
)

abbrev Both : RattleType
Both = Tuple (B ∷ P ∷ [])

abbrev Out : RattleType
Out = RS.the_row Both AE.the_row

pub allocate_spec : {M : Type 1} → statement M
allocate_spec 𝓤 𝓛 𝓜 𝓡 wired =
    let c = f.clauses 𝓛 𝓜.mem 𝓡.returns in let W = walk_of 𝓛 f.ended stayed c in let 𝓣 = tables 𝓤 𝓛.H 𝓜 𝓡 𝓡.env in
    proved 𝓛 f.ended stayed c 𝓜 𝓡 (
      Goes-dropped 𝓛 1 (RefOf (0 ∷ []) tt (plain (λ _. H)) (λ _. tt)) yes (λ κs x w. refl),
      (Goes-dropped 𝓛 1 (plain (λ _. usize)) yes (λ κs x w. refl), (Goes-dropped 𝓛 1 (plain (λ _. usize)) yes (λ κs x w. refl), tt)),
    )
    f.Key.name code.function (code.unfolded 𝓤 𝓛.H 𝓜 𝓡 wired)
    (λ κs. (shr_vals, (uint_vals w64, (uint_vals w64, tt))))
    (λ κs. (shr_Tells (named 0) κs.0 H, (uint_Tells w64, (uint_Tells w64, tt))))
    (λ κs qs bounds a _ are.
    let many : ℕ = a.1.0 in let len : ℕ = a.1.1.0 in let count : ℕ = len * many in let bytes : ℕ = count * 24 in let τ = block_ty count in
    let vs : List Val × (List Val × (List Val × Unit {0})) = (shr_vals a.0, (uint_vals w64 many, (uint_vals w64 len, tt))) in
    let y : W.Ghost = ((κs, qs, bounds, a, vs), tt) in
    let G = triple_of 𝓛 g.signature (g.spec 𝓛 𝓜.mem 𝓡.returns) in
    let z : G.Ghost = ((κs, qs, tt, (a.0, (bytes, (8, tt))), (shr_vals a.0, (vint w64 bytes ∷ [], (vint w64 8 ∷ [], tt)))), τ) in
    qed 𝓛 (((‵ (flft κs.0 qs.0) ⊛ ‵ ftrue) ⊛ ‵ (owns (ShrRef (named 0) κs.0 H ∷ usize ∷ usize ∷ []) a vs)) ∷ raw (fact 𝓤 ((many ≤ 32) × (len ≤ 8192))) ∷ []) ∵
    move ! (1 ∷ []) $ heard ! _ (λ asked.
    split ! $ split ! $ move ! (2 ∷ []) $ fsplit ! $ keep ! (0 ∷ 2 ∷ []) $
    -- [the reference to the allocator; the token]
    let small = product_small len many 8192 32 asked.1 asked.0 in
    let fits_count : count < 2 ^ 64 = omega (arith, small) in let fits : bytes < 2 ^ 64 = omega (arith, small) in
    enter ! _ _ _ _ _ $ alloc_all ! (λ l. pass_all ! refl ((tt, tt), ((tt, record { fits = are.1.0.1 }), ((tt, record { fits = are.1.1.0.1 }), tt))) $
    let En = env (code.function).locals l in
    let both : Body = head (after 3 (code.function).body) in
    let Then : After 𝓤 𝓛.H =
    any_q (after_seq 𝓤 𝓛.H (Wp 𝓤 𝓛.H 𝓣.C 𝓣.Λ En (after 4 (code.function).body) (at_return 𝓤 𝓛.H En (W.post y))) (at_return 𝓤 𝓛.H En (W.post y))) in
    sets ! (bin ! (get ! refl) (get ! refl) (record { fits = fits_count })) refl (tt, record { fits = fits_count }) $
    sets ! (bin ! (get ! refl) (lit ! tt) (record { fits = fits })) refl (tt, record { fits = fits }) $
    let has : HasLayout τ bytes 8 = (capped_is bytes fits, refl) in
    use0 𝓛 (raw (fact 𝓤 (HasLayout τ bytes 8))) (fact_i 𝓤 (HasLayout τ bytes 8) (emp 𝓤) has) $
    nothing ! $ flt_i ! 8 (2 ^ 64) (lit< tt) $ feq_i ! (List Val) (vint w64 8 ∷ []) (vint w64 8 ∷ []) refl $ fjoin ! $ fjoin ! $
    flt_i ! bytes (2 ^ 64) fits $ feq_i ! (List Val) (vint w64 bytes ∷ []) (vint w64 bytes ∷ []) refl $ fjoin ! $ fjoin ! $
    move ! (2 ∷ 0 ∷ []) $ fjoin ! $ nothing ! $ move ! (3 ∷ 0 ∷ []) $ join ! $ join ! $
    use2 𝓛 (raw (G.pre z)) (id⊢ 𝓤 _) $
    calls_at ! (framed 𝓤 𝓛.H 𝓜 𝓣) G (met 𝓤 𝓛 𝓜 𝓡 (code.calls-std_heap::GlobalAllocator::allocate 𝓡.env wired)) z
    (and_then ! (get ! refl) (and_then ! (get ! refl) (and_then ! (lit ! tt) (no_more !)))) (λ v.
    use1 𝓛 (later (some (λ (r : Answer.Denot). ((‵ (flft κs.0 qs.0) ⊛ ‵ ftrue) ⊛ ‵ (Answer.own_val r (v ∷ [])))
    ⊛ some (λ (ws : Unit {0} × (Unit {0} × (Unit {0} × Unit {0}))). ‵ (lasts g.ended κs z.0.3 ws) ⊛ ‵
    (block_if_ok (ghosts.dealloc_token a.0.now) τ r))))) (id⊢ 𝓤 _) $ await ! tt $ pick ! (λ r.
    split ! $ move ! (1 ∷ []) $ pick ! (λ ws. split ! $ drop ! $ move ! (1 ∷ []) $ split ! $ split ! $ move ! (2 ∷ 3 ∷ 0 ∷ []) $
    answered ! a.0.now τ v r
    (λ b o e.
    let p : Ptr = block_ptr b o in
    let base : B.Denot = record { ptr = p; first = 0; stride = many } in
    let base_is : Is B base (BL.lowered base ∷ []) = (
      (ptr_val p ∷ [], (vint w64 0 ∷ [], (vint w64 many ∷ [], tt))),
      (refl, (refl, ((refl, lit< tt), ((refl, are.1.0.1), tt)))),
    ) in
    let typed_base = ((BL.the_row_laws.lawful 𝓛).typed base (BL.lowered base ∷ []) base_is).0 in
    let block : P.Denot = record { base = base; len = len; strips = grid many len } in
    let made : Val = pair_val (BL.lowered base) (vstruct vnil) in
    let typed : T (has_ty (lone Both.mir) made) × WT made = (tt, (typed_base.1, (tt, tt))) in
    let ok = first_Good (lone Both.mir) made typed in
    lands_as ! e refl (Answer-typed true b o) $ first ! $ switches_on ! (get_tag ! (vrt ! refl (fld ! refl (stop !))) (whole !)) $ exec ! 𝓣.C 𝓣.Λ En
    (arm_body 0 both) Then $
    sets ! (of_opd ! (get_in ! (vrt ! refl (fld ! refl (stop !))) (in_variant ! 0 0 refl refl (whole !)))) refl (tt, tt) $ sets !
    (of_opd ! (get ! refl)) refl (tt, tt) $
    sets ! (agg ! (and_then ! (get ! refl) (and_then ! (lit ! tt) (and_then ! (get ! refl) (no_more !))))) refl typed_base $
    sets ! (agg ! (no_more !)) refl (tt, tt) $
    sets ! (agg ! (and_then ! (get ! refl) (and_then ! (get ! refl) (no_more !)))) refl typed $
    sets_last ! (agg ! (and_then ! (lit ! tt) (and_then ! (get ! refl) (no_more !)))) refl ok $
    exec ! 𝓣.C 𝓣.Λ En (after 4 (code.function).body) (at_ret En (W.post y)) $ sets ! (of_opd ! (get ! refl)) refl ok $
    returns ! (look_at ! 0 refl) $ free_all ! refl $
    move ! (1 ∷ []) $ fpack ! Global (λ alloc. ghosts.dealloc_token alloc τ p) a.0.now $ move ! (1 ∷ []) $ as_written !
    (ty_array cell_ty count) b o $ use1 𝓛 (‵ (strips b o many block.strips)) (grid_of_room 𝓛 b len many o) $
    rewrite ! 0 (λ (k : ℕ). ‵ (strips b k many block.strips)) (sym (none_before o)) refl $ fjoin ! $
    owned ! (Struct (Owning.shape p_type)) (Is (Struct (Owning.shape p_type))) (Struct-Makes 𝓛 (Owning.shape p_type) tt) tt (vstruct vnil ∷ [])
    (tt, (refl, tt)) $ fjoin ! $
    owned ! B (Is B) (LL.makes b_type BL.the_plain 𝓛) base (BL.lowered base ∷ []) base_is $
    use2 𝓛 (‵ (Both.own_val (base, block) (made ∷ []))) (pair_of 𝓛 B P base block (BL.lowered base) (vstruct vnil)) $
    use1 𝓛 (‵ (Out.own_val (Ok (base, block)) (live 0 (vcons made vnil) ∷ []))) (ok_of 𝓛 Both AE.the_row (base, block) made) $
    suffices ! _ (ends_at 𝓛 f.ended stayed c y (live 0 (vcons made vnil)) (Ok (base, block)) (tt, (tt, (tt, tt))) (tt, (tt, (tt, tt)))) $ says !
    (refl, refl, refl) $
    move ! (1 ∷ 2 ∷ []) $ join ! $ frame ! $ nothing ! $ nothing ! $ fjoin ! $ nothing ! $ fjoin ! $ nothing ! $ fjoin ! $ done !)
    (λ e.
    let Refusal : RattleType = Struct (Declared.shape AE.the_type) in
    let none : Val = live 1 (vcons (vstruct vnil) vnil) in
    lands_as ! e refl (Answer-typed false 0 0) $ first ! $ switches_on ! (get_tag ! (vrt ! refl (fld ! refl (stop !))) (whole !)) $ exec ! 𝓣.C 𝓣.Λ En
    (arm_body 1 both) Then $
    sets ! (of_opd ! (get_in ! (vrt ! refl (fld ! refl (stop !))) (in_variant ! 1 0 refl refl (whole !)))) refl (tt, tt) $
    sets_last ! (agg ! (and_then ! (lit ! tt) (and_then ! (get ! refl) (no_more !)))) refl (tt, (record { fits = lit< tt }, (tt, tt))) $
    exec ! 𝓣.C 𝓣.Λ En (after 4 (code.function).body) (at_ret En (W.post y)) $ sets ! (of_opd ! (get ! refl)) refl (tt, (record { fits = lit< tt }, (tt, tt))) $
    returns ! (look_at ! 0 refl) $ free_all ! refl $
    owned ! Refusal (Is Refusal) (Struct-Makes 𝓛 (Declared.shape AE.the_type) tt) tt (vstruct vnil ∷ []) (tt, (refl, tt)) $
    use1 𝓛 (‵ (Out.own_val (Err (record {})) (none ∷ []))) (err_of 𝓛 Both AE.the_row (record {}) (vstruct vnil)) $
    suffices ! _ (ends_at 𝓛 f.ended stayed c y none (Err (record {})) (tt, (tt, (tt, tt))) (tt, (tt, (tt, tt)))) $ says ! tt $
    move ! (1 ∷ 2 ∷ []) $ join ! $ frame ! $ nothing ! $ nothing ! $ fjoin ! $ nothing ! $ fjoin ! $ nothing ! $ fjoin ! $ done !)))))))
