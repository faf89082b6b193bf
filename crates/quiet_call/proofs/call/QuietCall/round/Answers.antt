use Rattle.std.proofs.Common.{◌+◌, List, [], refl, sym, ap, subst, ◌∙◌, false}
use Rattle.std.specs.Prelude.{drop}
use Rattle.std.proofs.lemmas.List.{drop_all}
use Rattle.host_view.specs.declared.outbox.SentFrame.{SentFrame}
use Rattle.quiet_call.specs.Standing.{hosts_of, frames_of, asked, answered, answers, own_clock}
use Rattle.quiet_call.proofs.Rounding.{AmidRound, round_starts, delivered_on}
use Rattle.quiet_call.proofs.Going.{same_on, first_left, next_comes, clock_is, came_at, goes_same, ends}
use Rattle.quiet_call.proofs.call.QuietCall.round.Goals as goal

pub loop-frame-init : goal.loop-frame-init
loop-frame-init c =
    let q = c.args.self.now in
    let frames : List SentFrame = c.deref-frame-items.result.now in
    record {
      same = record { settings = refl; asked = refl; answered = refl };
      clock = refl;
      amid = subst (λ fs. AmidRound q.settings (asked q) (answered q) q.clock (hosts_of q) fs (answers q) frames 0 false)
          (sym (ap (λ v. v.items) c.replace-frames.ensures.after ∙ c.new.ensures.items))
          (subst (λ fs. AmidRound q.settings (asked q) (answered q) q.clock (hosts_of q) [] (answers q) fs 0 false)
          (sym (c.deref-frame-items.ensures.value ∙ ap (λ v. v.items) c.replace-frames.ensures.value))
          (round_starts q.settings (asked q) (answered q) q.clock (hosts_of q) (frames_of q) (answers q) c.requires.goes_on));
    }

pub deliver-requires-clause-to : goal.deliver-requires-clause-to
deliver-requires-clause-to c =
    (next_comes c.args.self.now c.loop-frame.self c.deref-frame-items.result.now c.loop-frame.frame-index c.frame-item.result c.loop-frame.done
    c.loop-frame-test.true c.frame-item.is c.loop-frame.invariant.amid).to

pub deliver-requires-clause-from : goal.deliver-requires-clause-from
deliver-requires-clause-from c =
    (next_comes c.args.self.now c.loop-frame.self c.deref-frame-items.result.now c.loop-frame.frame-index c.frame-item.result c.loop-frame.done
    c.loop-frame-test.true c.frame-item.is c.loop-frame.invariant.amid).from

pub deliver-requires-clause-other : goal.deliver-requires-clause-other
deliver-requires-clause-other c =
    (next_comes c.args.self.now c.loop-frame.self c.deref-frame-items.result.now c.loop-frame.frame-index c.frame-item.result c.loop-frame.done
    c.loop-frame-test.true c.frame-item.is c.loop-frame.invariant.amid).other

pub loop-frame-preserved : goal.loop-frame-preserved
loop-frame-preserved c =
    let q = c.args.self.now in
    let l = c.loop-frame.self in
    let inv = c.loop-frame.invariant in
    let f = c.frame-item.result in
    let left = first_left c.deref-frame-items.result.now c.loop-frame.frame-index f c.loop-frame-test.true c.frame-item.is in
    let new = c.deliver.new.self in
    record {
      same = same_on q l new inv.same c.deliver.ensures.same;
      clock = c.deliver.ensures.clock ∙ inv.clock;
      amid = delivered_on q.settings (asked q) (answered q) q.clock (hosts_of l) (frames_of l) (answers l) f
          (drop (c.loop-frame.frame-index + 1) c.deref-frame-items.result.now) c.loop-frame.frame-index c.loop-frame.done
          (subst (λ fs. AmidRound q.settings (asked q) (answered q) q.clock (hosts_of l) (frames_of l)
          (answers l) fs c.loop-frame.frame-index c.loop-frame.done) left inv.amid)
          c.in_ok-done.field-0 (hosts_of new) (frames_of new) (answers new)
          (came_at (own_clock l) (own_clock q) (answered l) (answered q) f c.in_ok-done.field-0 (hosts_of l) (hosts_of new) (frames_of l)
          (frames_of new) (clock_is q l inv.same inv.clock) inv.same.answered c.in_ok-done.ensures.came)
          c.in_ok-done.ensures.served;
    }

pub returns-clause-done : goal.returns-clause-done
returns-clause-done c =
    let none = drop_all c.loop-frame.frame-index c.deref-frame-items.result.now c.loop-frame-test.false in
    (ends c.args.self.now c.loop-frame.self c.turn.new.self c.turn-2.new.self c.loop-frame.invariant.same c.loop-frame.invariant.clock _ none
    c.loop-frame.frame-index c.loop-frame.done c.in_ok-done-2.field-0 c.in_ok-done-3.field-0
    c.loop-frame.invariant.amid
    (record { settings = c.turn.ensures.same.settings; asked = c.turn.ensures.same.asked; answered = c.turn.ensures.same.answered })
    c.turn.ensures.clock c.in_ok-done-2.ensures.turned c.in_ok-done-3.ensures.turned).done_is

pub returns-clause-goes_on : goal.returns-clause-goes_on
returns-clause-goes_on c not_done =
    let q = c.args.self.now in
    let u = c.turn-2.new.self in
    let none = drop_all c.loop-frame.frame-index c.deref-frame-items.result.now c.loop-frame-test.false in
    let e = ends q c.loop-frame.self c.turn.new.self u c.loop-frame.invariant.same c.loop-frame.invariant.clock _ none c.loop-frame.frame-index
    c.loop-frame.done c.in_ok-done-2.field-0 c.in_ok-done-3.field-0
    c.loop-frame.invariant.amid
    (record { settings = c.turn.ensures.same.settings; asked = c.turn.ensures.same.asked; answered = c.turn.ensures.same.answered })
    c.turn.ensures.clock c.in_ok-done-2.ensures.turned c.in_ok-done-3.ensures.turned in
    goes_same q.settings u.settings (asked q) (asked u) (answered q) (answered u) (q.clock + 1) u.clock (answers c.loop-frame.self) (answers u)
    (hosts_of u) (frames_of u)
    (c.turn-2.ensures.same.settings ∙ c.turn.ensures.same.settings ∙ c.loop-frame.invariant.same.settings)
    (c.turn-2.ensures.same.asked ∙ c.turn.ensures.same.asked ∙ c.loop-frame.invariant.same.asked)
    (c.turn-2.ensures.same.answered ∙ c.turn.ensures.same.answered ∙ c.loop-frame.invariant.same.answered)
    (c.turn-2.ensures.clock ∙ c.turn.ensures.clock ∙ ap (λ k. k + 1) c.loop-frame.invariant.clock)
    (c.turn-2.ensures.served ∙ c.turn.ensures.served) (e.goes_on not_done)
