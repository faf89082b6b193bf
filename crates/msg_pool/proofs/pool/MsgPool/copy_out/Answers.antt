-- The bytes that are copied are those of the lease's chain.
use Rattle.std.proofs.Common.{◌≡◌, ◌+◌, ◌*◌, ◌<◌, length, Some, refl, sym, ap, subst, ◌∙◌}
use Rattle.std.specs.Option.{option_copied}
use Rattle.slab.specs.Slab.{get as slot}
use Rattle.msg_pool.specs.Pool.{Held}
use Rattle.msg_pool.specs.Pages.{IsChain, pages_for}
use Rattle.msg_pool.proofs.KeptLaws.{has_slot, slot_len, slot_bytes, chain_within}
use Rattle.msg_pool.proofs.PoolLaws.{copied}
use Rattle.msg_pool.proofs.pool.MsgPool.copy_out.Goals as goal

pub unreachable-requires : goal.unreachable-requires
unreachable-requires c =
    has_slot c.self.inside.block c.self.inside.next.items c.self.inside.chains c.lease.inside.number c.lease.inside.len c.args.self.now
    c.args.lease.now c.self.view_is c.lease.view_is c.requires.lease
    (sym c.get.ensures ∙ ap option_copied c.in_default.is)

pub copy_chain-requires-clause-chain : goal.copy_chain-requires-clause-chain
copy_chain-requires-clause-chain c =
    let there : slot c.self.inside.chains c.lease.inside.number ≡ Some c.in-Some.chain.now = sym c.get.ensures ∙ ap option_copied c.in-Some.is in
    let long = slot_len c.self.inside.block c.self.inside.next.items c.self.inside.chains c.lease.inside.number c.lease.inside.len c.args.self.now
    c.args.lease.now c.self.view_is c.lease.view_is c.requires.lease c.in-Some.chain.now there in
    let size : c.in-Some.chain.now.len ≡ length c.args.out.now = long ∙ ap (λ (l : Held). l.len) c.lease.view_is ∙ sym c.requires.fits in
    let whole = chain_within c.self.inside.block c.self.inside.next.items c.self.inside.head c.self.inside.free c.self.inside.chains
    c.self.invariant.0 c.lease.inside.number c.in-Some.chain.now there in
    subst (λ n. IsChain c.deref.result.now c.in-Some.chain.now.first (pages_for n)) size
    (subst (λ next. IsChain next c.in-Some.chain.now.first (pages_for c.in-Some.chain.now.len)) (sym c.deref.ensures.value) whole)

pub returns : goal.returns
returns c =
    let there : slot c.self.inside.chains c.lease.inside.number ≡ Some c.in-Some.chain.now = sym c.get.ensures ∙ ap option_copied c.in-Some.is in
    let long = slot_len c.self.inside.block c.self.inside.next.items c.self.inside.chains c.lease.inside.number c.lease.inside.len c.args.self.now
    c.args.lease.now c.self.view_is c.lease.view_is c.requires.lease c.in-Some.chain.now there in
    let size : c.in-Some.chain.now.len ≡ length c.args.out.now = long ∙ ap (λ (l : Held). l.len) c.lease.view_is ∙ sym c.requires.fits in
    copied c.self.inside.block c.self.inside.next.items c.self.inside.block c.deref.result.now c.in-Some.chain.now.first c.in-Some.chain.now.len
    c.copy_chain.new.out refl c.deref.ensures.value (c.copy_chain.auto.out ∙ sym size)
    (λ i k small h. c.copy_chain.ensures i k small (subst (λ n. i * 4096 + k < n) size h))
    ∙ slot_bytes c.self.inside.block c.self.inside.next.items c.self.inside.chains c.lease.inside.number c.lease.inside.len c.args.self.now
    c.args.lease.now c.self.view_is c.lease.view_is c.requires.lease c.in-Some.chain.now there
