-- What is left of the messages has none of the slot.
use Rattle.std.proofs.Common.{◌≡◌, ap, sym, subst, ◌∙◌, not, eqb}
use Rattle.plain_sets.proofs.OrderSame.{filter-all}
use Rattle.homa_grants.specs.Entries.{Entry, without, entry_of, IsOwnOrder}
use Rattle.homa_grants.specs.Books.{Book}
use Rattle.homa_grants.proofs.EntryLaws.{without-again, entry_of-without}
use Rattle.homa_grants.proofs.book.GrantBook.clear.Goals as goal

pub returns-then-is_some_and-clause-others : goal.returns-then-is_some_and-clause-others
returns-then-is_some_and-clause-others c =
    ap (λ (b : Book). without c.args.slot b.entries) c.leave.ensures.left ∙ without-again c.args.slot c.args.self.now.entries

pub returns-then-is_some_and-clause-peer : goal.returns-then-is_some_and-clause-peer
returns-then-is_some_and-clause-peer c e is =
    let none = ap (λ (b : Book). entry_of c.args.slot b.entries) c.leave.ensures.left ∙ entry_of-without c.args.slot c.args.self.now.entries in
    absurd (cc (none, is))

pub returns-then-is_some_and-clause-orders : goal.returns-then-is_some_and-clause-orders
returns-then-is_some_and-clause-orders c order own =
    let left = ap (λ (b : Book). b.entries) c.leave.ensures.left in
    subst (IsOwnOrder c.args.slot order) (sym left)
    (filter-all (λ (e : Entry). e.order ≡ order → e.slot ≡ c.args.slot) (λ e. not (eqb e.slot c.args.slot)) c.args.self.now.entries own)
