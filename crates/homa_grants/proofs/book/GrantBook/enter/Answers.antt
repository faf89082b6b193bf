-- The message is put where that of another peer was taken out.
use Rattle.std.proofs.Common.{ap, subst, ◌∙◌}
use Rattle.place_heap.specs.declared.key.Key.{Key}
use Rattle.plain_sets.specs.Ordered.{placed}
use Rattle.plain_sets.proofs.MapMembers.{same_some}
use Rattle.homa_grants.specs.Entries.{entry_key, IsOwnOrder}
use Rattle.homa_grants.specs.Books.{Book}
use Rattle.homa_grants.proofs.book.GrantBook.enter.Goals as goal

pub put-requires-clause-order : goal.put-requires-clause-order
put-requires-clause-order c key is =
    subst (λ n. IsOwnOrder c.args.slot n c.clear.new.self.entries)
    (ap (λ (k : Key). k.second) (same_some (record { first = c.from.result; second = c.args.order }) key is))
    (c.clear.ensures.orders c.args.order c.requires.order)

pub returns-clause-entered : goal.returns-clause-entered
returns-clause-entered c =
    let same = c.clear.ensures.same in
    c.put.ensures.put ∙ (λ i. record {
      slots = ap (λ (b : Book). b.slots) same i;
      hosts = ap (λ (b : Book). b.hosts) same i;
      most = ap (λ (b : Book). b.most) same i;
      entries =
          placed entry_key (record { slot = c.args.slot; peer = c.args.peer.0; remaining = c.from.ensures i; order = c.args.order }) (c.clear.ensures.others i);
    })
