use Rattle.std.proofs.Common.{refl, sym, subst, ◌+◌, length, arith, []}
use Rattle.homa_plain.specs.declared.event.Event.TheVariants as event
use Rattle.homa_plain.specs.declared.fault.WorldFault.TheVariants as fault
use Rattle.event_laws.proofs.Events as events
use Rattle.host_table.specs.Staged.{hosts_of}
use Rattle.homa_world.specs.Standing.{Refuses}
use Rattle.homa_world.proofs.KeptLaws.{refused_by}
use Rattle.homa_world.proofs.EventLaws.{found, is_there, not_there, no_host}
use Rattle.homa_world.proofs.HappenedLaws.{refused_at_once, happened}
use Rattle.homa_world.proofs.RestLaws.{shift_kept, shift_applies, beyond, back}
use Rattle.homa_world.proofs.parts.WorldParts.shift.Goals as goal

pub returns-then-not-has : goal.returns-then-not-has
returns-then-not-has g c = refused_at_once _ _ _ c.args.self.now fault.NoSuchHost c.requires.kept (λ w stands.
    refused_by c.args.self.now.settings w (event.Shift c.args.host c.args.n) [] fault.NoSuchHost refl
    (events.shift_refused c.args.self.now.settings w c.args.host c.args.n
    (no_host c.args.self.now c.args.host w stands
    (not_there c.has.result c.args.host.0 (length (hosts_of c.args.self.now.stage)) c.has.ensures c.if-not-has.true))))

pub returns-then-n-most : goal.returns-then-n-most
returns-then-n-most g c =
    let r = found (hosts_of c.args.self.now.stage) c.args.host.0 (is_there c.has.result c.has.ensures c.if-not-has.false) in
    refused_at_once _ _ _ c.args.self.now _ c.requires.kept
    (beyond (λ _. 0) (λ seat count number q r hold. Unit {0}) c.args.self.now c.args.host c.args.n r.h r.at (omega (arith, c.if-n-most.true)))

pub returns-then-now-last : goal.returns-then-now-last
returns-then-now-last g c =
    let r = back (λ _. 0) (λ seat count number q r hold. Unit {0}) c.args.self.now c.args.host c.args.n c.host.result.now c.host.ensures
    (omega (arith, c.if-n-most.false)) (omega (arith, c.if-now-last.true, c.last-last.ensures, c.from.ensures)) in
    refused_at_once _ _ _ c.args.self.now (fault.Back c.last-last.result (c.args.self.now.clock + c.from.result)) c.requires.kept
    (subst (λ l. Refuses c.args.self.now (record { event = event.Shift c.args.host c.args.n; bytes = [] })
    (fault.Back l (c.args.self.now.clock + c.from.result))) (sym c.last-last.ensures)
    (subst (λ m. Refuses c.args.self.now (record { event = event.Shift c.args.host c.args.n; bytes = [] })
    (fault.Back c.host.result.now.host.last (c.args.self.now.clock + m))) (sym c.from.ensures) r))

pub returns : goal.returns
returns g c =
    let h = c.host.result.now in
    happened _ _ _ c.args.self.now _ (
      shift_applies _ _ c.args.self.now c.args.host c.args.n h c.host.ensures (omega (arith, c.if-n-most.false))
          (omega (arith, c.if-now-last.false, c.last-last.ensures, c.from.ensures)),
      shift_kept _ (λ seat count number q r hold. Unit {0}) c.args.self.now c.args.host c.args.n h c.host.ensures c.requires.kept
          (omega (arith, c.if-n-most.false)) (omega (arith, c.if-now-last.false, c.last-last.ensures, c.from.ensures)),
    ) refl refl
