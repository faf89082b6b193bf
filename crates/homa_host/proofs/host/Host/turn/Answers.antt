use Rattle.std.proofs.Common.{◌<◌, ◌≤◌, length, ap, sym, subst, ◌∙◌, arith}
use Rattle.homa_plain.specs.Work.{begun}
use Rattle.homa_plain.specs.Credit.{refilled}
use Rattle.homa_plain.specs.Steps.{acts, turn_step}
use Rattle.host_state.specs.Control.{Control}
use Rattle.host_view.specs.Seen.{Seen}
use Rattle.host_view.specs.Done.{IsDone}
use Rattle.homa_host.specs.Parts.{host_of, seen_of}
use Rattle.homa_host.specs.Public.{IsSameHost}
use Rattle.homa_host.proofs.Ending.{filled_kept, turn_acted, turn_through, turn_done, turn_same, turn_last}
use Rattle.homa_host.proofs.host.Host.turn.Goals as goal

pub begin-requires : goal.begin-requires
begin-requires c = c.requires.now

pub act_all-requires-clause-kept : goal.act_all-requires-clause-kept
act_all-requires-clause-kept c =
    let later = subst (λ (h : Seen). h.host.last ≤ c.args.now) (sym c.self.view_is) c.requires.later in
    filled_kept c.self.inside.parts c.self.invariant c.args.now c.requires.now later c.begin.new.self c.begin.ensures c.refill.new.self
    c.refill.ensures.refilled

pub act_all-requires-clause-order : goal.act_all-requires-clause-order
act_all-requires-clause-order c = subst (λ (h : Seen). h.host.order < 9223372036854775808) (sym c.self.view_is) c.requires.order

pub act_all-requires-clause-none : goal.act_all-requires-clause-none
act_all-requires-clause-none c = ap (λ (k : Control). k.marks) c.begin.ensures

pub act_all-requires-clause-out : goal.act_all-requires-clause-out
act_all-requires-clause-out c = c.clear.ensures

pub end_step-requires-clause-kept : goal.end_step-requires-clause-kept
end_step-requires-clause-kept c = c.act_all.ensures.kept

pub end_step-requires-clause-amid : goal.end_step-requires-clause-amid
end_step-requires-clause-amid c =
    let o = c.self.inside.parts in
    let later = subst (λ (h : Seen). h.host.last ≤ c.args.now) (sym c.self.view_is) c.requires.later in (
      acts o.control.settings (begun (refilled o.control.settings (record (host_of o) { last = c.args.now })) c.args.now),
      turn_acted o c.self.invariant c.args.now c.requires.now later c.begin.new.self c.begin.ensures c.refill.new.self c.refill.ensures.refilled
          c.act_all.new.self c.clear.new.self c.act_all.new.out c.clear.ensures c.act_all.ensures.step,
    )

pub end_step-requires-clause-room : goal.end_step-requires-clause-room
end_step-requires-clause-room c =
    let s = c.act_all.ensures.steady in
    let marks = ap (λ (k : Control). length k.marks) c.begin.ensures in
    let frames = ap length c.clear.ensures in
    record { marks_left = omega (arith, s.marks_told, marks); frames_left = omega (arith, s.frames_sent, frames) }

pub invariant_of-self : goal.invariant_of-self
invariant_of-self c = c.end_step.ensures.kept

pub returns-clause-step : goal.returns-clause-step
returns-clause-step c whole =
    let later = subst (λ (h : Seen). h.host.last ≤ c.args.now) (sym c.self.view_is) c.requires.later in
    let s = c.act_all.ensures.steady in
    let amid = turn_through c.self.inside.parts c.self.invariant c.args.now c.requires.now later c.begin.new.self c.begin.ensures c.refill.new.self
    c.refill.ensures.refilled
    c.act_all.new.self c.end_step.new.self c.clear.new.self c.act_all.new.out c.end_step.new.out c.clear.ensures c.act_all.ensures.step s.settings
    c.end_step.ensures.step in
    subst (λ (h : Seen). IsDone h (turn_step h.settings h.host c.args.now) (seen_of c.end_step.new.self) c.end_step.new.out whole) c.self.view_is
    (turn_done c.self.inside.parts c.end_step.new.self c.self.invariant c.args.now
    (c.end_step.ensures.settings ∙ s.settings ∙ ap (λ (k : Control). k.settings) c.begin.ensures) c.end_step.new.out amid whole)

pub returns-clause-steady : goal.returns-clause-steady
returns-clause-steady c =
    let later = subst (λ (h : Seen). h.host.last ≤ c.args.now) (sym c.self.view_is) c.requires.later in
    let s = c.act_all.ensures.steady in
    let amid = turn_through c.self.inside.parts c.self.invariant c.args.now c.requires.now later c.begin.new.self c.begin.ensures c.refill.new.self
    c.refill.ensures.refilled
    c.act_all.new.self c.end_step.new.self c.clear.new.self c.act_all.new.out c.end_step.new.out c.clear.ensures c.act_all.ensures.step s.settings
    c.end_step.ensures.step in
    subst (λ (h : Seen). IsSameHost h (seen_of c.end_step.new.self)) c.self.view_is
    (turn_same c.self.inside.parts c.end_step.new.self c.self.invariant c.args.now
    (c.end_step.ensures.settings ∙ s.settings ∙ ap (λ (k : Control). k.settings) c.begin.ensures) c.end_step.new.out amid)

pub returns-clause-last : goal.returns-clause-last
returns-clause-last c =
    let later = subst (λ (h : Seen). h.host.last ≤ c.args.now) (sym c.self.view_is) c.requires.later in
    let s = c.act_all.ensures.steady in
    let amid = turn_through c.self.inside.parts c.self.invariant c.args.now c.requires.now later c.begin.new.self c.begin.ensures c.refill.new.self
    c.refill.ensures.refilled
    c.act_all.new.self c.end_step.new.self c.clear.new.self c.act_all.new.out c.end_step.new.out c.clear.ensures c.act_all.ensures.step s.settings
    c.end_step.ensures.step in
    turn_last c.self.inside.parts c.end_step.new.self c.self.invariant c.args.now
    (c.end_step.ensures.settings ∙ s.settings ∙ ap (λ (k : Control). k.settings) c.begin.ensures) c.end_step.new.out amid
