use Rattle.std.proofs.Common.{refl, sym, ap, ◌∙◌, ◌+◌, ◌∷◌, []}
use Rattle.homa_plain.specs.declared.fault.WorldFault.TheVariants as fault
use Rattle.homa_plain.specs.declared.event.Event.TheVariants as event
use Rattle.homa_plain.specs.Entries.{PlainClock}
use Rattle.homa_plain.specs.World.{Done}
use Rattle.event_laws.proofs.Events as events
use Rattle.homa_plain.specs.Answers.{answering}
use Rattle.homa_world.proofs.KeptLaws.{tick_kept, tick_stands, refused_by}
use Rattle.homa_world.proofs.HappenedLaws.{refused_at_once, happened}
use Rattle.homa_world.proofs.parts.WorldParts.tick.Goals as goal

pub returns-then-self-eq-LAST_TICK : goal.returns-then-self-eq-LAST_TICK
returns-then-self-eq-LAST_TICK g c = refused_at_once _ _ _ c.args.self.now fault.ClockEnd c.requires.kept (λ w stands.
    refused_by c.args.self.now.settings w event.Clock [] fault.ClockEnd refl
    (events.clock_refused c.args.self.now.settings w (stands.clock ∙ c.if-self-eq-LAST_TICK.true)))

pub returns : goal.returns
returns g c =
    happened _ _ _ c.args.self.now _ (
      (λ w stands. record {
        next = record w { clock = w.clock + 1 };
        stood = tick_stands (λ _. 0) c.args.self.now w stands;
        done = λ later. events.clock_done c.args.self.now.settings w (λ e. c.if-self-eq-LAST_TICK.false (sym stands.clock ∙ e)) later
            ∙ ap (λ n. Done (record { world = answering later (record w { clock = w.clock + 1 }); told = PlainClock (n + 1) ∷ [] })) stands.clock;
        allowed = λ more may. (tt, may);
      }),
      tick_kept _ c.args.self.now c.requires.kept c.if-self-eq-LAST_TICK.false,
    ) refl refl
