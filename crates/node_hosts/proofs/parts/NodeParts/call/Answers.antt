use Rattle.std.proofs.Common.{◌<◌, refl, sym, ap, ◌∙◌, subst, arith}
use Rattle.homa_plain.specs.declared.event.Event.TheVariants as event
use Rattle.homa_plain.specs.declared.fault.WorldFault.TheVariants as fault_word
use Rattle.node_turns.specs.Acting.{IsRefused}
use Rattle.node_hosts.specs.Standing.{StandsFor}
use Rattle.node_hosts.proofs.StepLaws.{within, may_step, skew_fits}
use Rattle.node_hosts.proofs.DoneLaws.{known_there, start_refused, called}
use Rattle.node_hosts.proofs.HeardLaws.{failed_kept}
use Rattle.node_hosts.proofs.parts.NodeParts.call.Goals as goal

pub call-requires-clause-client : goal.call-requires-clause-client
call-requires-clause-client g c = within _ c.begin-now.new.self c.begin-now.ensures.kept c.args.client
    (subst (λ n. c.args.client.0 < n.settings.hosts) (sym c.begin-now.ensures.same) c.requires.client)

pub call-requires-clause-server : goal.call-requires-clause-server
call-requires-clause-server g c = known_there _ c.begin-now.new.self c.begin-now.ensures.kept c.args.client c.args.server.0
    (subst (λ n. c.args.client.0 < n.settings.hosts) (sym c.begin-now.ensures.same) c.requires.client)
    (subst (λ n. c.args.server.0 < n.settings.hosts) (sym c.begin-now.ensures.same) c.requires.server)

pub call-requires-clause-may : goal.call-requires-clause-may
call-requires-clause-may g c = may_step _ c.begin-now.new.self c.begin-now.ensures.kept c.args.client
    (omega (arith, c.requires.few, ap (λ n. n.steps) c.begin-now.ensures.same)) c.begin-now.result c.begin-now.ensures.clock
    (subst (λ n. c.args.client.0 < n.settings.hosts) (sym c.begin-now.ensures.same) c.requires.client)

pub call-requires-clause-now : goal.call-requires-clause-now
call-requires-clause-now g c = omega (arith, c.begin-now.ensures.clock, skew_fits _ c.begin-now.new.self c.begin-now.ensures.kept)

pub returns-in-Err-clause-fault : goal.returns-in-Err-clause-fault
returns-in-Err-clause-fault g c = λ w stands.
    subst (λ n. IsRefused n.settings w (event.Call c.args.client c.args.server c.args.number) c.args.bytes.now (fault_word.Start c.in-Err.fault))
    c.begin-now.ensures.same
    (start_refused _ c.begin-now.new.self c.begin-now.ensures.kept c.args.client c.args.server c.args.number _ c.args.bytes.now c.in-Err.fault
    c.in_ok-request.ensures.items
    (subst (λ n. c.args.client.0 < n.settings.hosts) (sym c.begin-now.ensures.same) c.requires.client)
    (subst (λ n. c.args.server.0 < n.settings.hosts) (sym c.begin-now.ensures.same) c.requires.server)
    c.in-Err.ensures.fault w (subst (λ n. StandsFor n w) (sym c.begin-now.ensures.same) stands))

pub returns-in-Err-clause-stays : goal.returns-in-Err-clause-stays
returns-in-Err-clause-stays g c =
    record {
      kept = failed_kept _ c.begin-now.new.self c.call.new.self c.begin-now.ensures.kept
          (ap (λ n. n.last) c.begin-now.ensures.same) c.in-Err.ensures.known c.call.ensures.seats;
      stepped = record {
        settings = ap (λ n. n.settings) c.begin-now.ensures.same;
        clock = ap (λ n. n.clock) c.begin-now.ensures.same;
        steps = omega (arith, ap (λ n. n.steps) c.begin-now.ensures.same);
      };
    }

pub returns-clause-done : goal.returns-clause-done
returns-clause-done g c =
    λ _. (called _ _ c.args.self.now c.begin-now.new.self c.finish.new.self c.begin-now.ensures.kept
    (omega (arith, c.requires.few, ap (λ n. n.steps) c.begin-now.ensures.same)) c.begin-now.ensures.same
    c.begin-now.result c.args.client c.begin-now.ensures.clock
    (subst (λ n. c.args.client.0 < n.settings.hosts) (sym c.begin-now.ensures.same) c.requires.client) c.call.new.self
    c.finish.ensures.same c.finish.ensures.few c.call.ensures.seats c.call.ensures.spares c.args.server c.args.number _ c.args.bytes.now
    c.in_ok-request.ensures.items
    (subst (λ n. c.args.server.0 < n.settings.hosts) (sym c.begin-now.ensures.same) c.requires.server) c.in_default.ensures.step
    c.in_default.ensures.no_fault).0

pub returns-clause-stays : goal.returns-clause-stays
returns-clause-stays g c =
    record {
      kept = (called _ (λ seat count number q r hold. Unit {0}) c.args.self.now c.begin-now.new.self c.finish.new.self c.begin-now.ensures.kept
          (omega (arith, c.requires.few, ap (λ n. n.steps) c.begin-now.ensures.same)) c.begin-now.ensures.same
          c.begin-now.result c.args.client c.begin-now.ensures.clock
          (subst (λ n. c.args.client.0 < n.settings.hosts) (sym c.begin-now.ensures.same) c.requires.client) c.call.new.self
          c.finish.ensures.same c.finish.ensures.few c.call.ensures.seats c.call.ensures.spares c.args.server c.args.number _ c.args.bytes.now
          c.in_ok-request.ensures.items
          (subst (λ n. c.args.server.0 < n.settings.hosts) (sym c.begin-now.ensures.same) c.requires.server) c.in_default.ensures.step
          c.in_default.ensures.no_fault).1;
      stepped = record {
        settings = ap (λ n. n.settings) c.finish.ensures.same ∙ ap (λ n. n.settings) c.begin-now.ensures.same;
        clock = ap (λ n. n.clock) c.finish.ensures.same ∙ ap (λ n. n.clock) c.begin-now.ensures.same;
        steps = omega (arith, ap (λ n. n.steps) c.finish.ensures.same, ap (λ n. n.steps) c.begin-now.ensures.same);
      };
    }

pub returns-in_err-request-clause-stays : goal.returns-in_err-request-clause-stays
returns-in_err-request-clause-stays g c = record { kept = c.requires.kept; stepped = record { settings = refl; clock = refl; steps = omega arith } }
