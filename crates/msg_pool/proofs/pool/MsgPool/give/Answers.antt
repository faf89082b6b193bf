-- The pages of the lease go to the front of the free ones.
use Rattle.std.proofs.Common.{arith, ◌≡◌, ◌+◌, ◌-◌, ◌<◌, length, Some, set, length-set, refl, sym, ap, subst, ◌∙◌}
use Rattle.slab.specs.Slab.{get as slot}
use Rattle.plain_sets.specs.Maps.{remove}
use Rattle.msg_pool.specs.Pages.{page_at}
use Rattle.msg_pool.specs.Chains.{AreKept, leases_of}
use Rattle.msg_pool.proofs.KeptLaws.{has_slot, chain_within}
use Rattle.msg_pool.proofs.PoolLaws.{give-leases, give-kept, view_without}
use Rattle.msg_pool.proofs.pool.MsgPool.give.Goals as goal

pub unreachable-requires : goal.unreachable-requires
unreachable-requires c =
    has_slot c.self.inside.block c.self.inside.next.items c.self.inside.chains c.lease.inside.number c.lease.inside.len c.args.self.now c.args.lease
    c.self.view_is c.lease.view_is c.requires
    (sym c.try_remove.ensures.value ∙ c.in_default.is)

pub nth_page-last-requires : goal.nth_page-last-requires
nth_page-last-requires c =
    let there : slot c.self.inside.chains c.lease.inside.number ≡ Some c.in-Some.chain = sym c.try_remove.ensures.value ∙ c.in-Some.is in
    let whole = chain_within c.self.inside.block c.self.inside.next.items c.self.inside.head c.self.inside.free c.self.inside.chains
    c.self.invariant.0 c.lease.inside.number c.in-Some.chain there in
    λ i h. subst (λ next. page_at next c.in-Some.chain.first i < length next) (sym c.deref.ensures.value) (whole i (omega (arith, c.div_ceil-count.ensures)))

pub index_mut-requires : goal.index_mut-requires
index_mut-requires c =
    let there : slot c.self.inside.chains c.lease.inside.number ≡ Some c.in-Some.chain = sym c.try_remove.ensures.value ∙ c.in-Some.is in
    let last : page_at c.self.inside.next.items c.in-Some.chain.first (c.div_ceil-count.result - 1) ≡ c.nth_page-last.result =
    ap (λ next. page_at next c.in-Some.chain.first (c.div_ceil-count.result - 1)) (sym c.deref.ensures.value) ∙ sym c.nth_page-last.ensures in
    let whole = chain_within c.self.inside.block c.self.inside.next.items c.self.inside.head c.self.inside.free c.self.inside.chains
    c.self.invariant.0 c.lease.inside.number c.in-Some.chain there in
    let sized = c.self.invariant.0.sized c.lease.inside.number c.in-Some.chain there in
    let inside = whole (c.div_ceil-count.result - 1) (omega (arith, c.div_ceil-count.ensures, sized.0)) in
    omega (arith, c.self.inside.next.ok.0, inside, last)

pub invariant_of-self : goal.invariant_of-self
invariant_of-self c =
    let there : slot c.self.inside.chains c.lease.inside.number ≡ Some c.in-Some.chain = sym c.try_remove.ensures.value ∙ c.in-Some.is in
    let last : page_at c.self.inside.next.items c.in-Some.chain.first (c.div_ceil-count.result - 1) ≡ c.nth_page-last.result =
    ap (λ next. page_at next c.in-Some.chain.first (c.div_ceil-count.result - 1)) (sym c.deref.ensures.value) ∙ sym c.nth_page-last.ensures in (
      subst (λ page. AreKept c.self.inside.block (set c.self.inside.next.items page c.self.inside.head) c.in-Some.chain.first
          (c.self.inside.free + c.div_ceil-count.result) c.try_remove.new.self) last
          (give-kept c.self.inside.block c.self.inside.next.items c.self.inside.head c.self.inside.free c.self.inside.chains c.self.invariant.0
          c.lease.inside.number c.in-Some.chain there c.div_ceil-count.result (omega (arith, c.div_ceil-count.ensures)) c.try_remove.new.self
          c.try_remove.ensures.updates c.in-Some.ensures.len c.try_remove.ensures.capacity),
      refl,
    )

pub returns-clause-given : goal.returns-clause-given
returns-clause-given c =
    let there : slot c.self.inside.chains c.lease.inside.number ≡ Some c.in-Some.chain = sym c.try_remove.ensures.value ∙ c.in-Some.is in
    let last : page_at c.self.inside.next.items c.in-Some.chain.first (c.div_ceil-count.result - 1) ≡ c.nth_page-last.result =
    ap (λ next. page_at next c.in-Some.chain.first (c.div_ceil-count.result - 1)) (sym c.deref.ensures.value) ∙ sym c.nth_page-last.ensures in
    view_without c.self.inside.block c.self.inside.next.items c.self.inside.chains c.lease.inside.number c.lease.inside.len c.args.self.now
    c.args.lease c.self.view_is c.lease.view_is _ _
    (length-set c.self.inside.next.items c.nth_page-last.result c.self.inside.head)
    (subst (λ page. leases_of c.self.inside.block (set c.self.inside.next.items page c.self.inside.head) c.try_remove.new.self ≡ remove
    (leases_of c.self.inside.block c.self.inside.next.items c.self.inside.chains) c.lease.inside.number) last
    (give-leases c.self.inside.block c.self.inside.next.items c.self.inside.head c.self.inside.free c.self.inside.chains c.self.invariant.0
    c.lease.inside.number c.in-Some.chain there c.div_ceil-count.result (omega (arith, c.div_ceil-count.ensures)) c.try_remove.new.self
    c.try_remove.ensures.updates c.in-Some.ensures.len c.try_remove.ensures.capacity))
