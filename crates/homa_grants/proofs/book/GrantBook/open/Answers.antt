-- The book has no messages.
use Rattle.std.proofs.Common.{◌+◌, ap, refl, sym, subst, rules}
use Rattle.homa_grants.specs.Books.{Book}
use Rattle.homa_grants.specs.Heaps.{AreKept}
use Rattle.homa_grants.proofs.KeptLaws.{kept_view, view_kept}
use Rattle.homa_grants.proofs.OpenLaws.{empty_book, kept_empty}
use Rattle.homa_grants.proofs.book.GrantBook.open.Goals as goal

-- what is kept at the end
kept_now : (c : goal.In_ok-vec)
    → AreKept c.in_ok-open.field-0.list c.in_ok-new.field-0 c.in_ok-vec.field-0.items
    (empty_book (c.args.settings.now.calls + c.args.settings.now.served) c.args.settings.now.hosts c.args.settings.now.overcommit)
kept_now c =
    let overcommit = c.requires.in_range.2.2.2.2 in
    let table = c.in_ok-vec.ensures.items_if_clones_equal (λ y clone. search rules) in
    let kept =
    subst (λ t. AreKept c.in_ok-open.field-0.list c.in_ok-new.field-0 t
    (empty_book c.slots-slots.result c.args.settings.now.hosts c.args.settings.now.overcommit)) (sym table)
    (kept_empty c.slots-slots.result c.args.settings.now.hosts c.args.settings.now.overcommit c.in_ok-open.field-0.list
    c.in_ok-new.field-0 overcommit.0 overcommit.1
    c.in_ok-open.ensures.many c.in_ok-open.ensures.empty
    (record { cap = c.in_ok-new.ensures.cap; list = c.in_ok-new.ensures.empty })) in
    subst (λ n. AreKept c.in_ok-open.field-0.list c.in_ok-new.field-0 c.in_ok-vec.field-0.items
    (empty_book n c.args.settings.now.hosts c.args.settings.now.overcommit)) c.slots-slots.ensures kept

pub invariant_of-result : goal.invariant_of-result
invariant_of-result c = view_kept (kept_now c) c.args.settings.now.overcommit refl

pub returns-clause-empty : goal.returns-clause-empty
returns-clause-empty c = ap (λ (b : Book). b.entries) (kept_view (kept_now c) c.args.settings.now.overcommit refl)

pub returns-clause-sound : goal.returns-clause-sound
returns-clause-sound c = (invariant_of-result c).sound
