-- Each first peer tells the first message of its heap.
use Rattle.std.proofs.Common.{map, take, length, ap, sym, ◌∙◌, arith}
use Rattle.std.proofs.lemmas.List.{length-map}
use Rattle.place_heap.specs.Held.{list_of}
use Rattle.homa_grants.specs.Entries.{Entry}
use Rattle.homa_grants.specs.Books.{Book}
use Rattle.homa_grants.proofs.KeptLaws.{kept_as}
use Rattle.homa_grants.proofs.ChoiceWalk.{chosen_of, chosen_is, few_chosen, peer_in, has_room, first_is, told_more, told_all}
use Rattle.homa_grants.proofs.book.GrantBook.push_chosen.Goals as goal

pub loop-peer-init : goal.loop-peer-init
loop-peer-init c = c.requires

pub get-heap-requires : goal.get-heap-requires
get-heap-requires c =
    let taken = c.as_slice-peer-items.ensures.value ∙ c.first_k.ensures ∙ ap (λ (b : Book). take b.most (list_of c.self.inside.peers)) c.self.view_is in
    omega (
      arith,
      peer_in (kept_as c.self.view_is c.self.invariant) c.as_slice-peer-items.result.now taken c.loop-peer.peer-index
          c.loop-peer-test.true,
    )

pub push-requires : goal.push-requires
push-requires c =
    let taken = c.as_slice-peer-items.ensures.value ∙ c.first_k.ensures ∙ ap (λ (b : Book). take b.most (list_of c.self.inside.peers)) c.self.view_is in (
      omega arith,
      has_room (kept_as c.self.view_is c.self.invariant) c.as_slice-peer-items.result.now taken c.loop-peer.peer-index
          c.loop-peer-test.true c.loop-peer.out.items c.loop-peer.invariant,
    )

pub unreachable-requires : goal.unreachable-requires
unreachable-requires c =
    let taken = c.as_slice-peer-items.ensures.value ∙ c.first_k.ensures ∙ ap (λ (b : Book). take b.most (list_of c.self.inside.peers)) c.self.view_is in
    let first = first_is (kept_as c.self.view_is c.self.invariant) c.as_slice-peer-items.result.now taken c.loop-peer.peer-index c.loop-peer-test.true
    c.get-heap.result.now c.get-heap.ensures in
    cc (first, c.first.ensures, c.in_default.is)

pub loop-peer-preserved : goal.loop-peer-preserved
loop-peer-preserved c =
    let taken = c.as_slice-peer-items.ensures.value ∙ c.first_k.ensures ∙ ap (λ (b : Book). take b.most (list_of c.self.inside.peers)) c.self.view_is in
    c.push.ensures.items ∙ told_more (kept_as c.self.view_is c.self.invariant) c.as_slice-peer-items.result.now taken c.loop-peer.peer-index
    c.loop-peer-test.true c.get-heap.result.now c.get-heap.ensures
    c.loop-peer.out.items c.in-Some.slot c.in-Some.field-0-1 c.loop-peer.invariant (sym c.first.ensures ∙ c.in-Some.is)

pub returns-clause-chosen : goal.returns-clause-chosen
returns-clause-chosen c =
    let kept = kept_as c.self.view_is c.self.invariant in
    let taken = c.as_slice-peer-items.ensures.value ∙ c.first_k.ensures ∙ ap (λ (b : Book). take b.most (list_of c.self.inside.peers)) c.self.view_is in
    c.loop-peer.invariant ∙ ap (map (λ (e : Entry). e.slot))
    (told_all kept c.as_slice-peer-items.result.now taken c.loop-peer.peer-index c.loop-peer-test.false ∙ sym (chosen_is c.args.self.now kept.sound))

pub returns-clause-few : goal.returns-clause-few
returns-clause-few c =
    let kept = kept_as c.self.view_is c.self.invariant in
    let taken = c.as_slice-peer-items.ensures.value ∙ c.first_k.ensures ∙ ap (λ (b : Book). take b.most (list_of c.self.inside.peers)) c.self.view_is in
    let all = c.loop-peer.invariant ∙ ap (map (λ (e : Entry). e.slot))
    (told_all kept c.as_slice-peer-items.result.now taken c.loop-peer.peer-index c.loop-peer-test.false) in
    omega (arith, ap length all, length-map (chosen_of c.args.self.now) (λ (e : Entry). e.slot), few_chosen c.args.self.now)
