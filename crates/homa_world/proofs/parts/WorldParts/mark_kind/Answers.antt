use Rattle.std.proofs.Common.{List, sym, subst}
use Rattle.host_view.specs.declared.outbox.SentFrame.{SentFrame}
use Rattle.homa_world.specs.Counting.{Stands, IsKindOf}
use Rattle.homa_world.proofs.parts.WorldParts.mark_kind.Goals as goal

pub of_mark-requires : goal.of_mark-requires
of_mark-requires g c = subst (λ (frames : List SentFrame). Stands frames c.args.mark.now) (sym c.outbox.ensures) c.requires.stands

pub returns : goal.returns
returns g c = subst (λ (frames : List SentFrame). IsKindOf frames c.args.mark.now c.of_mark.result) c.outbox.ensures c.of_mark.ensures
