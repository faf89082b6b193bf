-- Where no peer has a message there is none to choose.
use Rattle.std.proofs.Common.{◌≡◌, ℕ, zero, suc, false, Option, Some, None, is_some, List, [], ◌∷◌, map, take, refl, sym, ap, ◌∙◌, arith}
use Rattle.place_heap.specs.Order.{Item, first_of}
use Rattle.place_heap.specs.Held.{list_of}
use Rattle.homa_grants.specs.Entries.{Entry}
use Rattle.homa_grants.proofs.KeptLaws.{kept_as}
use Rattle.homa_grants.proofs.ChoiceWalk.{chosen_is, told_all}
use Rattle.homa_grants.proofs.book.GrantBook.choose.Goals as goal

-- a list without a first item has none
no_items : (items : List Item) → first_of items ≡ None → items ≡ []
no_items [] e = refl
no_items (x ∷ xs) e = cc e

-- where there isn't some there is none
none_of : (o : Option Item) → is_some o ≡ false → o ≡ None
none_of None e = refl
none_of (Some x) e = cc e

-- of nothing the first few are none
take_none : (k : ℕ) → take {A = Item} k [] ≡ []
take_none zero = refl
take_none (suc k) = refl

pub returns-else-is_some-clause-chosen : goal.returns-else-is_some-clause-chosen
returns-else-is_some-clause-chosen c =
    let kept = kept_as c.self.view_is c.self.invariant in
    let none : first_of (list_of c.self.inside.peers) ≡ None = sym c.first.ensures ∙ none_of c.first.result (sym c.is_some.ensures ∙ c.if-is_some.false) in
    let taken = sym (ap (take c.args.self.now.most) (no_items (list_of c.self.inside.peers) none) ∙ take_none c.args.self.now.most) in
    c.clear.ensures ∙ ap (map (λ (e : Entry). e.slot)) (told_all kept [] taken 0 (omega arith) ∙ sym (chosen_is c.args.self.now kept.sound))
