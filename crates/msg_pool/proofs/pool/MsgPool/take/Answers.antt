-- The first free pages become the chain of the new lease.
use Rattle.std.proofs.Common.{arith, ◌-◌, ◌<◌, length, refl, sym, ap, subst, ◌∙◌, replicate}
use Rattle.plain_sets.specs.Maps.{get}
use Rattle.msg_pool.specs.Pages.{page_at}
use Rattle.msg_pool.specs.Pool.{Pool, Held}
use Rattle.msg_pool.specs.Chains.{AreKept}
use Rattle.msg_pool.proofs.KeptLaws.{free_within, has_room, enough_free}
use Rattle.msg_pool.proofs.PoolLaws.{take-leases, take-kept, take-fresh, view_with}
use Rattle.msg_pool.proofs.pool.MsgPool.take.Goals as goal

pub zero_chain-self-inside-requires-clause-chain : goal.zero_chain-self-inside-requires-clause-chain
zero_chain-self-inside-requires-clause-chain c =
    let enough = enough_free c.self.inside.block c.self.inside.next.items c.self.inside.head c.self.inside.free c.self.inside.chains c.self.invariant.0
    c.args.self.now c.args.len c.div_ceil-need.result c.self.view_is (omega (arith, c.div_ceil-need.ensures)) c.in_ok-check_room.ensures.full.1 in
    let free = free_within c.self.inside.block c.self.inside.next.items c.self.inside.head c.self.inside.free c.self.inside.chains c.self.invariant.0 in
    λ i h. subst (λ next. page_at next c.self.inside.head i < length next) (sym c.deref.ensures.value) (free i (omega arith))

pub insert_reserved-number-requires : goal.insert_reserved-number-requires
insert_reserved-number-requires c =
    let enough = enough_free c.self.inside.block c.self.inside.next.items c.self.inside.head c.self.inside.free c.self.inside.chains c.self.invariant.0
    c.args.self.now c.args.len c.div_ceil-need.result c.self.view_is (omega (arith, c.div_ceil-need.ensures)) c.in_ok-check_room.ensures.full.1 in
    has_room c.self.inside.block c.self.inside.next.items c.self.inside.head c.self.inside.free c.self.inside.chains
    c.self.invariant.0 (omega (arith, c.requires.some, c.div_ceil-need.ensures, enough))

pub invariant_of-self : goal.invariant_of-self
invariant_of-self c =
    let enough = enough_free c.self.inside.block c.self.inside.next.items c.self.inside.head c.self.inside.free c.self.inside.chains c.self.invariant.0
    c.args.self.now c.args.len c.div_ceil-need.result c.self.view_is (omega (arith, c.div_ceil-need.ensures)) c.in_ok-check_room.ensures.full.1 in (
      subst (λ page. AreKept c.zero_chain-self-inside.new.block c.self.inside.next.items page (c.self.inside.free - c.div_ceil-need.result)
          c.insert_reserved-number.new.self)
          (ap (λ next. page_at next c.self.inside.head c.div_ceil-need.result) (sym c.deref.ensures.value) ∙ sym c.zero_chain-self-inside.ensures.page)
          (take-kept c.self.inside.block c.self.inside.next.items c.self.inside.head c.self.inside.free c.self.inside.chains c.self.invariant.0 c.args.len
          c.div_ceil-need.result (omega (arith, c.div_ceil-need.ensures)) c.requires.some c.requires.small enough
          c.zero_chain-self-inside.new.block c.deref.result.now c.deref.ensures.value c.zero_chain-self-inside.ensures.len
          c.zero_chain-self-inside.ensures.zeros c.zero_chain-self-inside.ensures.kept
          c.insert_reserved-number.new.self c.insert_reserved-number.result c.insert_reserved-number.ensures.was_vacant
          c.insert_reserved-number.ensures.updates c.insert_reserved-number.ensures.len c.insert_reserved-number.ensures.capacity),
      c.self.invariant.1,
    )

pub returns-clause-fresh : goal.returns-clause-fresh
returns-clause-fresh c =
    let enough = enough_free c.self.inside.block c.self.inside.next.items c.self.inside.head c.self.inside.free c.self.inside.chains c.self.invariant.0
    c.args.self.now c.args.len c.div_ceil-need.result c.self.view_is (omega (arith, c.div_ceil-need.ensures)) c.in_ok-check_room.ensures.full.1 in
    ap (λ (p : Pool). get p.leases c.insert_reserved-number.result) (sym c.self.view_is)
    ∙ take-fresh c.self.inside.block c.self.inside.next.items c.self.inside.head c.self.inside.free c.self.inside.chains c.self.invariant.0 c.args.len
    c.div_ceil-need.result (omega (arith, c.div_ceil-need.ensures)) c.requires.some c.requires.small enough
    c.zero_chain-self-inside.new.block c.deref.result.now c.deref.ensures.value c.zero_chain-self-inside.ensures.len
    c.zero_chain-self-inside.ensures.zeros c.zero_chain-self-inside.ensures.kept
    c.insert_reserved-number.new.self c.insert_reserved-number.result c.insert_reserved-number.ensures.was_vacant
    c.insert_reserved-number.ensures.updates c.insert_reserved-number.ensures.len c.insert_reserved-number.ensures.capacity

pub returns-clause-zeros : goal.returns-clause-zeros
returns-clause-zeros c =
    let enough = enough_free c.self.inside.block c.self.inside.next.items c.self.inside.head c.self.inside.free c.self.inside.chains c.self.invariant.0
    c.args.self.now c.args.len c.div_ceil-need.result c.self.view_is (omega (arith, c.div_ceil-need.ensures)) c.in_ok-check_room.ensures.full.1 in
    let lease : Held = record { number = c.insert_reserved-number.result; len = c.args.len } in
    view_with c.self.inside.block c.self.inside.next.items c.self.inside.chains c.insert_reserved-number.result c.args.len c.args.self.now lease
    c.self.view_is refl (length c.self.inside.next.items) _ (replicate c.args.len 0) (replicate c.args.len 0) refl
    (take-leases c.self.inside.block c.self.inside.next.items c.self.inside.head c.self.inside.free c.self.inside.chains c.self.invariant.0 c.args.len
    c.div_ceil-need.result (omega (arith, c.div_ceil-need.ensures)) c.requires.some c.requires.small enough
    c.zero_chain-self-inside.new.block c.deref.result.now c.deref.ensures.value c.zero_chain-self-inside.ensures.len
    c.zero_chain-self-inside.ensures.zeros c.zero_chain-self-inside.ensures.kept
    c.insert_reserved-number.new.self c.insert_reserved-number.result c.insert_reserved-number.ensures.was_vacant
    c.insert_reserved-number.ensures.updates c.insert_reserved-number.ensures.len c.insert_reserved-number.ensures.capacity) refl

pub returns-clause-within : goal.returns-clause-within
returns-clause-within c = omega (arith, (invariant_of-self c).0.total)
