-- A write changes the bytes of the lease's chain.
use Rattle.std.proofs.Common.{arith, ◌≡◌, ◌<◌, length, Some, refl, sym, ap, subst, ◌∙◌}
use Rattle.std.specs.Option.{option_copied}
use Rattle.slab.specs.Slab.{get as slot}
use Rattle.msg_pool.specs.Bytes.{overwritten}
use Rattle.msg_pool.specs.Pool.{Held, bytes_of}
use Rattle.msg_pool.specs.Pages.{page_at}
use Rattle.msg_pool.specs.Near.{IsNear}
use Rattle.msg_pool.proofs.KeptLaws.{has_slot, slot_len, slot_bytes, chain_within, no_repeat}
use Rattle.msg_pool.proofs.LeaseLaws.{chain_of}
use Rattle.msg_pool.proofs.PoolLaws.{write-leases, write-kept, view_with, fewer_pages}
use Rattle.msg_pool.proofs.pool.MsgPool.write.Goals as goal

pub unreachable-requires : goal.unreachable-requires
unreachable-requires c =
    has_slot c.self.inside.block c.self.inside.next.items c.self.inside.chains c.lease.inside.number c.lease.inside.len c.args.self.now
    c.args.lease.now c.self.view_is c.lease.view_is c.requires.lease
    (sym c.get.ensures ∙ ap option_copied c.in_default.is)

pub write_chain-requires-clause-chain : goal.write_chain-requires-clause-chain
write_chain-requires-clause-chain c =
    let there : slot c.self.inside.chains c.lease.inside.number ≡ Some c.in-Some.chain.now = sym c.get.ensures ∙ ap option_copied c.in-Some.is in
    let long : c.in-Some.chain.now.len ≡ c.args.lease.now.len =
    slot_len c.self.inside.block c.self.inside.next.items c.self.inside.chains c.lease.inside.number c.lease.inside.len c.args.self.now
    c.args.lease.now c.self.view_is c.lease.view_is c.requires.lease c.in-Some.chain.now there ∙ ap (λ (l : Held). l.len) c.lease.view_is in
    let whole = chain_within c.self.inside.block c.self.inside.next.items c.self.inside.head c.self.inside.free c.self.inside.chains
    c.self.invariant.0 c.lease.inside.number c.in-Some.chain.now there in
    λ i h. subst (λ next. page_at next c.in-Some.chain.now.first i < length next) (sym c.deref.ensures.value)
    (whole i (fewer_pages _ _ i (omega (arith, c.requires.fits)) h))

pub write_chain-requires-clause-apart : goal.write_chain-requires-clause-apart
write_chain-requires-clause-apart c =
    let there : slot c.self.inside.chains c.lease.inside.number ≡ Some c.in-Some.chain.now = sym c.get.ensures ∙ ap option_copied c.in-Some.is in
    let long : c.in-Some.chain.now.len ≡ c.args.lease.now.len =
    slot_len c.self.inside.block c.self.inside.next.items c.self.inside.chains c.lease.inside.number c.lease.inside.len c.args.self.now
    c.args.lease.now c.self.view_is c.lease.view_is c.requires.lease c.in-Some.chain.now there ∙ ap (λ (l : Held). l.len) c.lease.view_is in
    let whole = no_repeat c.self.inside.block c.self.inside.next.items c.self.inside.head c.self.inside.free c.self.inside.chains c.self.invariant.0
    c.lease.inside.number c.in-Some.chain.now there in
    λ i j l m. subst (λ next. page_at next c.in-Some.chain.now.first i ≡ page_at next c.in-Some.chain.now.first j → i ≡ j) (sym c.deref.ensures.value)
    (whole i j (fewer_pages _ _ i (omega (arith, c.requires.fits)) l) (fewer_pages _ _ j (omega (arith, c.requires.fits)) m))

pub write_chain-requires-clause-near : goal.write_chain-requires-clause-near
write_chain-requires-clause-near c = subst (λ next. IsNear next c.self.inside.near) (sym c.deref.ensures.value) c.self.invariant.1

pub invariant_of-self : goal.invariant_of-self
invariant_of-self c =
    let there : slot c.self.inside.chains c.lease.inside.number ≡ Some c.in-Some.chain.now = sym c.get.ensures ∙ ap option_copied c.in-Some.is in
    let long : c.in-Some.chain.now.len ≡ c.args.lease.now.len =
    slot_len c.self.inside.block c.self.inside.next.items c.self.inside.chains c.lease.inside.number c.lease.inside.len c.args.self.now
    c.args.lease.now c.self.view_is c.lease.view_is c.requires.lease c.in-Some.chain.now there ∙ ap (λ (l : Held). l.len) c.lease.view_is in (
      write-kept c.self.inside.block c.self.inside.next.items c.self.inside.head c.self.inside.free c.self.inside.chains c.self.invariant.0
          c.lease.inside.number c.in-Some.chain.now there
          c.write_chain.new.block c.deref.result.now c.deref.ensures.value c.args.offset c.args.bytes.now (omega (arith, c.requires.fits))
          c.write_chain.ensures.len c.write_chain.ensures.written c.write_chain.ensures.kept,
      subst (λ next. IsNear next c.write_chain.new.near) c.deref.ensures.value c.write_chain.ensures.near,
    )

pub returns : goal.returns
returns c =
    let there : slot c.self.inside.chains c.lease.inside.number ≡ Some c.in-Some.chain.now = sym c.get.ensures ∙ ap option_copied c.in-Some.is in
    let long : c.in-Some.chain.now.len ≡ c.args.lease.now.len =
    slot_len c.self.inside.block c.self.inside.next.items c.self.inside.chains c.lease.inside.number c.lease.inside.len c.args.self.now
    c.args.lease.now c.self.view_is c.lease.view_is c.requires.lease c.in-Some.chain.now there ∙ ap (λ (l : Held). l.len) c.lease.view_is in
    view_with c.self.inside.block c.self.inside.next.items c.self.inside.chains c.lease.inside.number c.lease.inside.len c.args.self.now
    c.args.lease.now c.self.view_is c.lease.view_is (length c.self.inside.next.items) _
    (overwritten (bytes_of c.args.self.now c.args.lease.now) c.args.offset c.args.bytes.now)
    (overwritten (chain_of c.self.inside.block c.self.inside.next.items c.in-Some.chain.now) c.args.offset c.args.bytes.now) refl
    (write-leases c.self.inside.block c.self.inside.next.items c.self.inside.head c.self.inside.free c.self.inside.chains c.self.invariant.0
    c.lease.inside.number c.in-Some.chain.now there
    c.write_chain.new.block c.deref.result.now c.deref.ensures.value c.args.offset c.args.bytes.now (omega (arith, c.requires.fits))
    c.write_chain.ensures.len c.write_chain.ensures.written c.write_chain.ensures.kept)
    (ap (λ old. overwritten old c.args.offset c.args.bytes.now)
    (slot_bytes c.self.inside.block c.self.inside.next.items c.self.inside.chains c.lease.inside.number c.lease.inside.len c.args.self.now
    c.args.lease.now c.self.view_is c.lease.view_is c.requires.lease c.in-Some.chain.now there))
