use Rattle.std.proofs.Common.{sym, subst, ◌∙◌, ◌<◌, length, [], ◌∷◌}
use Rattle.homa_plain.specs.declared.event.Event.TheVariants as event
use Rattle.host_table.specs.Staged.{hosts_of}
use Rattle.homa_plain.specs.Entries.{PlainDeliver}
use Rattle.world_packets.specs.Olds.{TellsClock}
use Rattle.homa_world.proofs.EventLaws.{may_step, is_there, not_there}
use Rattle.homa_world.proofs.ArrivedLaws.{below_hosts, is_other, stranger_in, stranger_other, no_stale_receiver, has_arrived, makes_stale}
use Rattle.homa_world.proofs.HappenedLaws.{not_came}
use Rattle.homa_world.proofs.parts.WorldParts.stale_comes.Goals as goal

pub returns-then-not-has-clause-fault : goal.returns-then-not-has-clause-fault
returns-then-not-has-clause-fault g c = λ n is. no_stale_receiver c.args.self.now n c.args.to c.args.at is
    (not_there c.has.result c.args.to.0 (length (hosts_of c.args.self.now.stage)) c.has.ensures c.if-not-has.true)

pub deliver-requires-clause-from : goal.deliver-requires-clause-from
deliver-requires-clause-from g c = below_hosts _ c.args.self.now c.requires.may.kept c.args.to (is_there c.has.result c.has.ensures c.if-not-has.false)
    c.stranger.result.0
    (subst (λ x. x.0 < c.args.self.now.settings.hosts) (sym c.stranger.ensures) (stranger_in c.args.self.now.settings c.requires.may.kept.valid c.args.to))

pub deliver-requires-clause-other : goal.deliver-requires-clause-other
deliver-requires-clause-other g c = is_other _ c.args.self.now c.requires.may.kept c.args.to (is_there c.has.result c.has.ensures c.if-not-has.false)
    c.stranger.result (λ same. stranger_other c.args.to (sym c.stranger.ensures ∙ same))

pub deliver-requires-clause-may : goal.deliver-requires-clause-may
deliver-requires-clause-may g c = may_step _ c.args.self.now c.requires.may.kept c.requires.may.few c.args.to c.own_clock-now.result c.own_clock-now.ensures
    (is_there c.has.result c.has.ensures c.if-not-has.false)

pub returns-in-Ok-clause-came : goal.returns-in-Ok-clause-came
returns-in-Ok-clause-came g c = λ n is.
    has_arrived _ _ c.args.self.now c.requires.may.kept c.stranger.result c.args.to (λ same. stranger_other c.args.to (sym c.stranger.ensures ∙ same))
    c.bytes.result.now c.own_clock-now.result c.own_clock-now.ensures (is_there c.has.result c.has.ensures c.if-not-has.false) c.deliver.new.self
    c.in-Ok.ensures.step
    (event.Deliver n) [] (PlainDeliver n ∷ [])
    (makes_stale _ _ c.args.self.now c.requires.may.kept c.stranger.result c.args.to (λ same. stranger_other c.args.to (sym c.stranger.ensures ∙ same))
    c.bytes.result.now c.own_clock-now.result c.own_clock-now.ensures (is_there c.has.result c.has.ensures c.if-not-has.false) c.deliver.new.self
    c.in-Ok.ensures.step
    n c.args.at is (subst (λ b. TellsClock b c.args.at) (sym c.bytes.ensures.bytes) c.stale_frame-frame.ensures))

pub returns-in-Err-clause-none : goal.returns-in-Err-clause-none
returns-in-Err-clause-none g c = not_came _ _ c.args.self.now c.requires.may.kept c.args.to (is_there c.has.result c.has.ensures c.if-not-has.false)
    c.deliver.new.self c.requires.none c.in-Err.ensures.none
