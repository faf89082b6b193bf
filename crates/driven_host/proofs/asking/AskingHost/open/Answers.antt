use Rattle.std.proofs.Common.{ap, arith}
use Rattle.host_view.specs.Seen.{Seen}
use Rattle.driven_host.proofs.AskingSteps.{none_sent}
use Rattle.driven_host.proofs.Rest.{opened_rests}
use Rattle.driven_host.proofs.asking.AskingHost.open.Goals as goal

pub invariant_of-result : goal.invariant_of-result
invariant_of-result c =
    let h = c.in_ok-open_at.field-0 in
    let is = c.in_ok-open_at.ensures in
    record {
      name = ap (λ (g : Seen). g.host.id) is;
      hosts_are = ap (λ (g : Seen). g.settings.hosts) is;
      calls_are = ap (λ (g : Seen). g.settings.calls) is;
      pages_are = ap (λ (g : Seen). g.settings.pages) is;
      order = omega (arith, ap (λ (g : Seen). g.host.order) is);
      served_few = omega arith;
      few = omega arith;
      sent = none_sent h c.in_ok-out.out (ap (λ (g : Seen). g.marks) is);
      rest = opened_rests h c.args.settings.now c.args.id c.args.inc c.args.last is c.requires.last;
    }
