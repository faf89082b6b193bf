-- The message of the slot is in the heap of its peer, under its key.
use Rattle.std.proofs.Common.{◌≡◌, ap, get_or, subst, sym, ◌∙◌, arith}
use Rattle.place_heap.specs.declared.key.Key.{Key}
use Rattle.plain_sets.specs.Ordered.{placed}
use Rattle.plain_sets.proofs.MapMembers.{same_some}
use Rattle.homa_grants.specs.Entries.{entry_key, without, with_remaining, IsOwnOrder}
use Rattle.homa_grants.specs.Books.{Book}
use Rattle.place_heap.specs.Heaps.{no_heap}
use Rattle.homa_grants.proofs.KeptLaws.{kept_as, in_table, not_in_table, not_none, slot_within, own_order, own_peer, slot_fits, own_key}
use Rattle.homa_grants.proofs.book.GrantBook.change.Goals as goal

pub index-requires : goal.index-requires
index-requires c =
    let kept = kept_as c.self.view_is c.self.invariant in
    omega (arith, slot_within kept c.args.slot c.requires, kept.slots, c.self.inside.peer_of.ok.0)

pub unreachable-requires : goal.unreachable-requires
unreachable-requires c =
    let kept = kept_as c.self.view_is c.self.invariant in
    let none = not_in_table kept c.args.slot c.index.result.now (slot_within kept c.args.slot c.requires) c.index.ensures c.in_default.is in
    not_none _ c.requires none

pub get-requires : goal.get-requires
get-requires c =
    let kept = kept_as c.self.view_is c.self.invariant in
    let message = in_table kept c.args.slot c.index.result.now c.in-Some.peer (slot_within kept c.args.slot c.requires) c.index.ensures c.in-Some.is in
    omega (arith, message.peer_in, kept.hosts, c.from.ensures)

pub key-requires : goal.key-requires
key-requires c =
    let kept = kept_as c.self.view_is c.self.invariant in
    let message = in_table kept c.args.slot c.index.result.now c.in-Some.peer (slot_within kept c.args.slot c.requires) c.index.ensures c.in-Some.is in
    slot_fits kept message c.get.result.now (c.get.ensures ∙ ap (λ n. get_or c.self.inside.heaps.list n no_heap) c.from.ensures)

pub unreachable-requires-in_default-key : goal.unreachable-requires-in_default-key
unreachable-requires-in_default-key c =
    let kept = kept_as c.self.view_is c.self.invariant in
    let message = in_table kept c.args.slot c.index.result.now c.in-Some.peer (slot_within kept c.args.slot c.requires) c.index.ensures c.in-Some.is in
    let has = own_key kept message c.get.result.now (c.get.ensures ∙ ap (λ n. get_or c.self.inside.heaps.list n no_heap) c.from.ensures) in
    cc (has, c.key.ensures, c.in_default-key.is)

pub put-requires-clause-slot : goal.put-requires-clause-slot
put-requires-clause-slot c = slot_within (kept_as c.self.view_is c.self.invariant) c.args.slot c.requires

pub put-requires-clause-peer : goal.put-requires-clause-peer
put-requires-clause-peer c =
    let kept = kept_as c.self.view_is c.self.invariant in
    (in_table kept c.args.slot c.index.result.now c.in-Some.peer (slot_within kept c.args.slot c.requires) c.index.ensures c.in-Some.is).peer_in

pub put-requires-clause-order : goal.put-requires-clause-order
put-requires-clause-order c key is =
    let kept = kept_as c.self.view_is c.self.invariant in
    let message = in_table kept c.args.slot c.index.result.now c.in-Some.peer (slot_within kept c.args.slot c.requires) c.index.ensures c.in-Some.is in
    let had : record { first = message.entry.remaining; second = message.entry.order } ≡ c.in-Some-key.key =
    same_some _ _ (sym (own_key kept message c.get.result.now (c.get.ensures ∙ ap (λ n. get_or c.self.inside.heaps.list n no_heap) c.from.ensures))
    ∙ sym c.key.ensures ∙ c.in-Some-key.is) in
    subst (λ n. IsOwnOrder c.args.slot n c.args.self.now.entries)
    (ap (λ (k : Key). k.second) had
    ∙ ap (λ (k : Key). k.second) (same_some (record { first = c.from-2.result; second = c.in-Some-key.key.second }) key is)) (own_order kept message)

pub put-requires-clause-same : goal.put-requires-clause-same
put-requires-clause-same c =
    let kept = kept_as c.self.view_is c.self.invariant in
    own_peer kept (in_table kept c.args.slot c.index.result.now c.in-Some.peer (slot_within kept c.args.slot c.requires) c.index.ensures c.in-Some.is)

pub returns-clause-changed : goal.returns-clause-changed
returns-clause-changed c =
    let b : Book = c.args.self.now in
    let kept = kept_as c.self.view_is c.self.invariant in
    let message = in_table kept c.args.slot c.index.result.now c.in-Some.peer (slot_within kept c.args.slot c.requires) c.index.ensures c.in-Some.is in
    let had : record { first = message.entry.remaining; second = message.entry.order } ≡ c.in-Some-key.key =
    same_some _ _ (sym (own_key kept message c.get.result.now (c.get.ensures ∙ ap (λ n. get_or c.self.inside.heaps.list n no_heap) c.from.ensures))
    ∙ sym c.key.ensures ∙ c.in-Some-key.is) in
    c.put.ensures.put
    ∙ (λ i. record b {
      entries = placed entry_key
          (record {
            slot = sym message.slot_is i;
            peer = sym message.peer_is i;
            remaining = c.from-2.ensures i;
            order = ap (λ (k : Key). k.second) (sym had) i;
          }) (without (sym message.slot_is i) b.entries);
    })
    ∙ ap (λ o. record b { entries = with_remaining c.args.remaining o b.entries }) (sym message.found)
