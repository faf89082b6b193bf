use Rattle.std.proofs.Common.{◌≢◌, ◌<◌, ℕ, Bool, sym, ap, subst, ◌∙◌, refl, arith, length, List}
use Rattle.std.specs.Prelude.{IfSome, slice_get}
use Rattle.homa_plain.specs.Steps.{arrival_step}
use Rattle.host_view.specs.declared.outbox.SentFrame.{SentFrame}
use Rattle.host_view.specs.Seen.{Seen}
use Rattle.host_view.specs.Done.{arriving}
use Rattle.quiet_call.specs.Stepped.{filled, HasStepped, MayStep}
use Rattle.quiet_call.specs.Standing.{own_clock, hosts_of, frames_of, answered}
use Rattle.quiet_call.proofs.Stepping.{if_ok_by, of_read, holds_sent, stepped, same_size, answered_so}
use Rattle.quiet_call.proofs.call.QuietCall.deliver.Goals as goal

pub deliver-requires-clause-from : goal.deliver-requires-clause-from
deliver-requires-clause-from c =
    of_read (λ (h : Seen). c.frame.inside.from.0 < h.settings.hosts) c.args.self.now.hosts.items c.frame.inside.to.0 c.index_mut.result.now
    (subst (λ (f : SentFrame). f.to.0 < length c.args.self.now.hosts.items) (sym c.frame.view_is) c.requires.to) c.index_mut.ensures.value
    (subst (λ (f : SentFrame). IfSome (slice_get (hosts_of c.args.self.now) f.to.0) (λ h. f.from.0 < h.settings.hosts)) (sym c.frame.view_is) c.requires.from)

pub deliver-requires-clause-other : goal.deliver-requires-clause-other
deliver-requires-clause-other c =
    of_read (λ (h : Seen). c.frame.inside.from ≢ h.host.id) c.args.self.now.hosts.items c.frame.inside.to.0 c.index_mut.result.now
    (subst (λ (f : SentFrame). f.to.0 < length c.args.self.now.hosts.items) (sym c.frame.view_is) c.requires.to) c.index_mut.ensures.value
    (subst (λ (f : SentFrame). IfSome (slice_get (hosts_of c.args.self.now) f.to.0) (λ h. f.from ≢ h.host.id)) (sym c.frame.view_is) c.requires.other)

pub deliver-requires-clause-later : goal.deliver-requires-clause-later
deliver-requires-clause-later c =
    let may = of_read (MayStep (own_clock c.args.self.now)) c.args.self.now.hosts.items c.frame.inside.to.0 c.index_mut.result.now
    (subst (λ (f : SentFrame). f.to.0 < length c.args.self.now.hosts.items) (sym c.frame.view_is) c.requires.to) c.index_mut.ensures.value
    (subst (λ (f : SentFrame). IfSome (slice_get (hosts_of c.args.self.now) f.to.0) (MayStep (own_clock c.args.self.now)))
    (sym c.frame.view_is) c.requires.may) in
    omega (arith, may.last, c.own_clock-now.ensures)

pub deliver-requires-clause-order : goal.deliver-requires-clause-order
deliver-requires-clause-order c =
    (of_read (MayStep (own_clock c.args.self.now)) c.args.self.now.hosts.items c.frame.inside.to.0 c.index_mut.result.now
    (subst (λ (f : SentFrame). f.to.0 < length c.args.self.now.hosts.items) (sym c.frame.view_is) c.requires.to) c.index_mut.ensures.value
    (subst (λ (f : SentFrame). IfSome (slice_get (hosts_of c.args.self.now) f.to.0) (MayStep (own_clock c.args.self.now)))
    (sym c.frame.view_is) c.requires.may)).order

pub returns-in_err-deliver-clause-same : goal.returns-in_err-deliver-clause-same
returns-in_err-deliver-clause-same c =
    record { settings = refl; asked = refl; answered = same_size c.args.self.now.filler.size c.deliver.new.service.size c.deliver.ensures.allows_before }

pub take_up-requires-clause-sent : goal.take_up-requires-clause-sent
take_up-requires-clause-sent c =
    let now = c.own_clock-now.result in
    let answer = filled c.args.self.now.filler.size in
    holds_sent now c.frame.inside.to (λ (h : Seen). arrival_step h.settings h.host now (arriving h c.frame.inside.from c.deref.result.now) answer)
    c.args.self.now.hosts.items c.args.self.now.hosts.items (frames_of c.args.self.now) (frames_of c.args.self.now)
    c.index_mut.result.now c.deliver.new.self c.deliver.new.out c.deliver.new.scratch
    (subst (λ (f : SentFrame). f.to.0 < length c.args.self.now.hosts.items) (sym c.frame.view_is) c.requires.to) c.index_mut.ensures.value
    (c.in_ok-deliver.ensures.step answer
    (answered_so c.deliver.new.self.host c.args.self.now.filler.size c.deliver.new.scratch c.deliver.new.self.marks c.in_ok-deliver.ensures.allowed))

pub returns-clause-came : goal.returns-clause-came
returns-clause-came c =
    let now = c.own_clock-now.result in
    let answer = filled c.args.self.now.filler.size in
    let has : ℕ → SentFrame → Bool
    → Type 0 = λ at f done. HasStepped at f.to (λ (h : Seen). arrival_step h.settings h.host at (arriving h f.from f.frame) answer) done
    (hosts_of c.args.self.now) (hosts_of c.take_up.new.self) (frames_of c.args.self.now) (frames_of c.take_up.new.self) in
    let frame : List ℕ → SentFrame = λ bytes. record { from = c.frame.inside.from; to = c.frame.inside.to; frame = bytes } in
    if_ok_by _ _ _ _ c.take_up.result
    (λ done told kept few. subst (λ at. has at c.args.frame.now done) c.own_clock-now.ensures
    (subst (λ f. has now f done) (ap frame c.deref.ensures.value ∙ c.frame.view_is)
    (stepped now c.frame.inside.to (λ (h : Seen). arrival_step h.settings h.host now (arriving h c.frame.inside.from c.deref.result.now) answer)
    c.args.self.now.hosts.items (hosts_of c.take_up.new.self) (frames_of c.args.self.now) (frames_of c.take_up.new.self)
    c.index_mut.result.now c.deliver.new.self c.deliver.new.out c.deliver.new.scratch
    (subst (λ (f : SentFrame). f.to.0 < length c.args.self.now.hosts.items) (sym c.frame.view_is) c.requires.to) c.index_mut.ensures.value
    (c.in_ok-deliver.ensures.step answer
    (answered_so c.deliver.new.self.host c.args.self.now.filler.size c.deliver.new.scratch c.deliver.new.self.marks c.in_ok-deliver.ensures.allowed))
    done c.deliver.ensures.steady c.in_ok-deliver.ensures.last (ap hosts_of c.take_up.ensures.same) told kept few)))
    c.take_up.ensures.done c.take_up.ensures.kept c.take_up.ensures.few

pub returns-clause-same : goal.returns-clause-same
returns-clause-same c = record {
  settings = ap (λ q. q.settings) c.take_up.ensures.same;
  asked = ap (λ q. q.request) c.take_up.ensures.same;
  answered = ap answered c.take_up.ensures.same ∙ same_size c.args.self.now.filler.size c.deliver.new.service.size c.deliver.ensures.allows_before;
}
