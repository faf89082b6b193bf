use Rattle.std.proofs.Common.{◌≡◌, subst}
use Rattle.std.specs.Prelude.{IfSome, slice_get}
use Rattle.driven_host.specs.Driven.{Driven}
use Rattle.late_host.specs.Late.{Late}
use Rattle.homa_c.specs.Shown.{told_entries, shown_entry}
use Rattle.homa_c.proofs.shows.homa_entry.Goals as goal

pub returns-clause-told : goal.returns-clause-told
returns-clause-told c _ =
    subst (λ (l : Late). IfSome (slice_get (told_entries l.driven) c.args.i) (λ e. c.entry_of.result ≡ shown_entry e)) c.as_mut.ensures.value
    (subst (λ (d : Driven). IfSome (slice_get (told_entries d) c.args.i) (λ e. c.entry_of.result ≡ shown_entry e)) c.asking-held.ensures
    (rw c.entry.ensures c.entry_of.ensures))
