use Rattle.std.proofs.Common.{◌≡◌, subst, ap, ◌∙◌}
use Rattle.std.specs.Prelude.{IfSome, slice_get}
use Rattle.homa_plain.specs.Entries.{plain}
use Rattle.driven_host.specs.Driven.{Driven}
use Rattle.late_host.specs.Late.{Late}
use Rattle.homa_c.specs.Shown.{told_entries, shown_more}
use Rattle.homa_c.proofs.shows.homa_entry_more.Goals as goal

pub returns-clause-told : goal.returns-clause-told
returns-clause-told c _ =
    subst (λ (l : Late). IfSome (slice_get (told_entries l.driven) c.args.i) (λ e. c.more_of.result ≡ shown_more l.driven.from e)) c.as_mut.ensures.value
    (subst (λ (d : Driven). IfSome (slice_get (told_entries d) c.args.i) (λ e. c.more_of.result ≡ shown_more d.from e)) c.asking-held.ensures
    (rw c.entry.ensures (c.more_of.ensures ∙ ap (λ from. shown_more from (plain c.entry.result)) c.from.ensures)))
