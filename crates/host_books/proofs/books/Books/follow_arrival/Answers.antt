-- Where no message stands under a slot, there is none to take out and none to note.
use Rattle.std.proofs.Common.{◌≡◌, false, refl, Option, Some, None, is_some, sym, subst, ◌∙◌}
use Rattle.homa_grants.specs.Entries as entry
use Rattle.homa_grants.proofs.EntryLaws.{without-absent}
use Rattle.host_view.specs.Follow.{booked}
use Rattle.host_books.specs.declared.books.Books.{Books}
use Rattle.host_books.specs.declared.books.Arrival.{Arrival}
use Rattle.host_books.specs.Duties.{entries_in, changed_by}
use Rattle.host_books.proofs.Noted.{noted_none}
use Rattle.host_books.proofs.books.Books.follow_arrival.Goals as goal

none_of : (o : Option entry.Entry) → is_some o ≡ false → o ≡ None
none_of None e = refl
none_of (Some x) e = cc e

pub returns-else-holds : goal.returns-else-holds
returns-else-holds c =
    let b : Books = c.args.self.now in
    let slot = c.args.slot in
    let no : is_some (entry.entry_of slot b.grants.entries) ≡ false = sym c.holds.ensures ∙ c.if-holds.false in
    let absent = without-absent slot b.grants.entries (none_of (entry.entry_of slot b.grants.entries) no) in
    subst (λ (a : Option Arrival). b ≡ record b {
      grants = record b.grants { entries = booked entry.entry_key (λ (e : entry.Entry). e.slot) slot (entries_in slot a) b.grants.entries };
      changed = changed_by slot a b;
    }) (sym c.in-None.is)
    (λ i. record b { grants = record b.grants { entries = sym absent i }; changed = sym (noted_none slot b no) i })
