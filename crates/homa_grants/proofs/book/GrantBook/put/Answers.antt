-- The heap of the peer, the heap over the peers and the table keep the book with its new message.
use Rattle.std.proofs.Common.{◌≡◌, ap, subst, ◌∙◌, get_or, set, length, rules, arith}
use Rattle.std.specs.Option.{option_map}
use Rattle.std.proofs.lemmas.List.{get_or-set_same}
use Rattle.place_heap.specs.Order.{first_of, replaced}
use Rattle.place_heap.specs.Held.{Held, list_of}
use Rattle.homa_grants.specs.Entries.{without, placed_if}
use Rattle.homa_grants.specs.Heaps.{AreKept, message_at}
use Rattle.place_heap.specs.Heaps.{no_heap, Heaps}
use Rattle.homa_grants.proofs.PutLaws.{all_mine, put_if}
use Rattle.homa_grants.proofs.KeptLaws.{kept_as, kept_view, view_kept, kept_put}
use Rattle.homa_grants.proofs.book.GrantBook.put.Goals as goal

-- what is kept at the end
kept_now : (c : goal.After-self-1) → AreKept c.replace.new.self.list c.replace-2.new.heap (set c.self.inside.peer_of.items c.args.slot c.map.result)
    (record c.args.self.now
    { entries = placed_if (option_map (λ k. message_at c.args.peer.0 (c.args.slot, k)) c.args.key) (without c.args.slot c.args.self.now.entries) })
kept_now c =
    let b = c.args.self.now in let s = c.self.inside in let peer = c.args.peer.0 in
    let kept = kept_as c.self.view_is c.self.invariant in
    let put = put_if b.slots b.hosts b.entries c.args.slot peer kept.sound.in_order kept.sound.slots kept.sound.orders kept.sound.within
    (all_mine c.args.slot peer b.entries kept.sound.slots c.requires.same) c.args.key c.requires.slot c.requires.peer c.requires.order in
    let h = c.replace.ensures.0 in let new = ap (λ (v : Heaps). v.list) c.replace.ensures.1 in let is = c.replace.ensures.2 in
    let was = ap (λ n. get_or s.heaps.list n no_heap) c.from-host.ensures in
    let read : c.get.result.now ≡ h = c.get.ensures ∙ ap (λ l. get_or l c.from-host.result no_heap) new
    ∙ get_or-set_same s.heaps.list c.from-host.result h no_heap (omega (arith, c.from-host.ensures, c.requires.peer, kept.hosts)) in
    rw (new, c.from-host.ensures) (kept_put kept c.args.slot peer c.args.key _ put c.requires.slot c.requires.peer h c.replace-2.new.heap c.map.result
    c.map-first.result
    (is.list ∙ ap (λ x. replaced c.args.slot c.args.key (list_of x)) was)
    (is.cells ∙ ap (λ (x : Held). length x.cells) was)
    (subst (λ x. c.map-first.result ≡ option_map (λ i. i.1) (first_of (list_of x))) read (search rules))
    (c.replace-2.ensures.list ∙ ap (λ q. replaced q c.map-first.result (list_of s.peers)) c.from-host.ensures)
    c.replace-2.ensures.cap (search rules))

pub invariant_of-self : goal.invariant_of-self
invariant_of-self c = view_kept (kept_now c) c.self.inside.most (ap (λ v. v.most) c.self.view_is)

pub returns-clause-put : goal.returns-clause-put
returns-clause-put c = kept_view (kept_now c) c.self.inside.most (ap (λ v. v.most) c.self.view_is)

pub returns-clause-sound : goal.returns-clause-sound
returns-clause-sound c = (invariant_of-self c).sound
