use Rattle.std.proofs.Common.{◌≡◌, ◌+◌, ◌-◌, sym, subst, ◌∙◌, refl, arith}
use Rattle.std.specs.Option.{option_map}
use Rattle.plain_sets.specs.Ordered.{first_of}
use Rattle.homa_plain.specs.Timers.{due}
use Rattle.homa_timers.specs.Armed as armed
use Rattle.homa_host.proofs.Turning.{IsTurning, turning_on, none_due, turned_early, turned}
use Rattle.homa_host.proofs.parts.HostParts.act_all.Goals as goal

pub loop-init : goal.loop-init
loop-init c = record {
  kept = c.requires.kept;
  steady = record { settings = refl; id = refl; last = refl; marks_told = omega arith; frames_sent = omega arith; order = omega arith };
  rest = λ w amid. (w, amid, refl);
}

pub act-requires-clause-due : goal.act-requires-clause-due
act-requires-clause-due c =
    let first = subst
    (λ n. c.due.result ≡ option_map (λ (t : armed.Timer). t.slot) (first_of (due armed.timer_key n c.loop.self.books.timers.timers))) c.last.ensures
    c.due.ensures.first in
    sym first ∙ c.in-Some.is

pub loop-preserved : goal.loop-preserved
loop-preserved c =
    let inv = c.loop.invariant in
    let s = c.act.ensures.steady in
    record {
      kept = c.act.ensures.kept;
      steady = record {
        settings = s.settings ∙ inv.steady.settings;
        id = s.id ∙ inv.steady.id;
        last = s.last ∙ inv.steady.last;
        marks_told = omega (arith, s.marks_told, inv.steady.marks_told);
        frames_sent = omega (arith, s.frames_sent, inv.steady.frames_sent);
        order = omega (arith, s.order, inv.steady.order);
      };
      rest = turning_on c.args.self.now c.loop.self c.act.new.self c.args.out.now c.loop.out c.act.new.out (32 - (c.loop.counter + 1)) inv.steady.settings
          (subst (IsTurning c.args.self.now c.args.out.now c.loop.self c.loop.out) (omega arith) inv.rest) c.act.ensures.step;
    }

pub returns-in_default-clause-step : goal.returns-in_default-clause-step
returns-in_default-clause-step c =
    let inv = c.loop.invariant in
    let first = subst
    (λ n. c.due.result ≡ option_map (λ (t : armed.Timer). t.slot) (first_of (due armed.timer_key n c.loop.self.books.timers.timers))) c.last.ensures
    c.due.ensures.first in
    turned_early c.args.self.now c.loop.self c.args.out.now c.loop.out c.requires.kept (32 - c.loop.counter) inv.steady.settings inv.rest
    (none_due c.loop.self inv.kept (sym first ∙ c.in_default.is))

pub returns-clause-step : goal.returns-clause-step
returns-clause-step c =
    let inv = c.loop.invariant in
    turned c.args.self.now c.loop.self c.args.out.now c.loop.out c.requires.kept
    (subst (IsTurning c.args.self.now c.args.out.now c.loop.self c.loop.out) (omega (arith, c.loop-test.false)) inv.rest)
