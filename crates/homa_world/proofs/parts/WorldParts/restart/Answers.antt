use Rattle.std.proofs.Common.{refl, ap, ◌+◌, length, arith, []}
use Rattle.homa_plain.specs.declared.event.Event.TheVariants as event
use Rattle.homa_plain.specs.declared.fault.WorldFault.TheVariants as fault
use Rattle.event_laws.proofs.Events as events
use Rattle.host_table.specs.Staged.{hosts_of}
use Rattle.homa_world.specs.declared.parts.Last.TheVariants as last
use Rattle.homa_world.proofs.KeptLaws.{refused_by}
use Rattle.homa_world.proofs.EventLaws.{not_there, no_host}
use Rattle.homa_world.proofs.HappenedLaws.{same_hosts, refused_at_once, refused_later, handed_on, happened}
use Rattle.homa_world.proofs.RestLaws.{next_life, clock_fits, not_restarted, still_kept, restart_both}
use Rattle.homa_world.proofs.parts.WorldParts.restart.Goals as goal

pub returns-then-not-has : goal.returns-then-not-has
returns-then-not-has g c = refused_at_once _ _ _ c.args.self.now fault.NoSuchHost c.requires.kept (λ w stands.
    refused_by c.args.self.now.settings w (event.Restart c.args.host) [] fault.NoSuchHost refl
    (events.restart_refused c.args.self.now.settings w c.args.host
    (no_host c.args.self.now c.args.host w stands
    (not_there c.has.result c.args.host.0 (length (hosts_of c.args.self.now.stage)) c.has.ensures c.if-not-has.true))))

pub overflow_add-inc : goal.overflow_add-inc
overflow_add-inc g c =
    omega (
      arith,
      c.incarnation.ensures,
      next_life _ (λ seat count number q r hold. Unit {0}) c.args.self.now c.args.host c.host-before.result.now
          c.host-before.ensures c.requires.kept,
    )

pub restart-requires-clause-last : goal.restart-requires-clause-last
restart-requires-clause-last g c =
    omega (
      arith,
      c.last-last.ensures,
      clock_fits _ (λ seat count number q r hold. Unit {0}) c.args.self.now c.args.host c.host-before.result.now
          c.host-before.ensures c.requires.kept,
    )

pub returns-in_err-restart : goal.returns-in_err-restart
returns-in_err-restart g c =
    let w = c.args.self.now in
    handed_on _ _ _ w _ c.from_residual.result c.in_err-restart.field-0.0 c.from_residual.ensures.1
    (refused_later _ _ _ w _ c.in_err-restart.field-0.0
    (same_hosts _ _ w c.restart.new.self last.Nothing
    (still_kept _ (λ seat count number q r hold. Unit {0}) w c.args.host c.host-before.result.now c.host-before.ensures c.restart.new.self
    c.in_err-restart.ensures.known c.in_err-restart.ensures.seats c.in_err-restart.ensures.spares c.requires.kept)
    c.in_err-restart.ensures.known c.in_err-restart.ensures.seats c.in_err-restart.ensures.spares) refl refl
    (not_restarted (λ _. 0) (λ seat count number q r hold. Unit {0}) w c.args.host c.host-before.result.now c.host-before.ensures
    c.in_err-restart.field-0.0 c.in_err-restart.ensures.fault))

pub returns : goal.returns
returns g c =
    happened _ _ _ c.args.self.now _
    (restart_both _ _ c.args.self.now c.args.host c.host-before.result.now c.host-before.ensures c.restart.new.self
    (c.incarnation.result + 1) c.last-last.result (ap (λ n. n + 1) c.incarnation.ensures) c.last-last.ensures c.in_ok-restart.ensures.done c.requires.kept)
    refl refl
