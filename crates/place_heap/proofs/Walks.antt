-- The names that the walks of the block cite, and how its types are stored.
pub use Rattle.std.proofs.Common.{◌≡◌, ℕ, ◌+◌, ◌*◌, ◌≤◌, ◌<◌, ◌^◌, List, [], ◌∷◌, refl, sym, ap, subst, ◌∙◌, lit<, length, set, get_or, length-set}
pub use Rattle.std.proofs.Common.{w64, arith, Some, None}
pub use Rattle.std.proofs.raw_atomic.Walks.{proved}
pub use base.Fraction.{full_share}
pub use base.Logic.{id⊢}
pub use base.Fml.{ftrue, fat, flft}
pub use mir.Syntax.{named}
pub use mir.Val.{Val, vunit, vint, vptr}
pub use contract.Monad.{fact}
pub use contract.Running.{tables}
pub use types.Kit.{‵, raw, ◌⊛◌, some, later, at_ret, ◌$◌, ◌∵◌, !, qed, done, move, keep, drop, use1, use2, split, join, fsplit, fsplit3, fjoin}
pub use types.Kit.{fjoin3, feq_i, feq_l, pick, await, rewrite, suffices, frame}
pub use types.Part.{whole, sub, agg}
pub use types.Run.{enter, of_opd, lit, unit_lit, bin, addr, init, stop, fld, no_more, and_then, assigns_last, first, blocks, exec, returns}
pub use types.ByLocal.{alloc_all, pass_all, free_all, look_at, get, get_in, through, sets, sets_last, lands_as, lands_last, take_at, give_at, env}
pub use denote.Builtin.{usize, unit, RefOf}
pub use denote.Opens.{hide, unhide}
pub use Rattle.std.specs.Prelude.{Option}
pub use Rattle.place_heap.specs.declared.cells.Cell.{Cell}
pub use denote.Exit.{yes}
pub use denote.Laws.{Is}
pub use denote.Memory.{lone}
pub use denote.RattleType.{owns}
pub use denote.Plain.{uint_vals, uint_Tells}
pub use denote.RawPtr.{Ptr, block_ptr, ptr_val, in_a_block}
pub use denote.Ref.{MutRef, ShrRef, mut_vals, mut_Tells, shr_vals, shr_Tells}
pub use denote.Signature.{plain}
pub use denote.Steps.{nothing, owned, opens, closes, heard, only}
pub use denote.Triple.Call.{calls_at, calls_at_last}
pub use denote.Triple.Clauses.{lasts}
pub use denote.Triple.Spec.{triple_of}
pub use denote.Triple.Walked.{Stays, walk_of, says, stay_dropped, Goes-dropped, stay_ref, Goes-ref, ends_at}
pub use denote.Triple.Table.{framed}
pub use Rattle.std.proofs.VecSteps.Shapes.{after}
