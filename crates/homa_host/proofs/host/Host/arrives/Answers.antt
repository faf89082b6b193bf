use Rattle.std.proofs.Common.{◌≡◌, ◌+◌, Bool, true, cond, sym, subst, ◌∙◌, arith}
use Rattle.homa_plain.specs.Rules.{Answer}
use Rattle.homa_plain.specs.Work.{begun}
use Rattle.homa_plain.specs.Steps.{comes, arrival_step, has_run, ended as ended_step}
use Rattle.homa_host.specs.Asking.{HasAsked}
use Rattle.homa_host.specs.Amid.{Amid}
use Rattle.homa_host.specs.Lending.{CanCome}
use Rattle.host_view.specs.Seen.{Seen}
use Rattle.host_view.specs.Done.{IsDone, arriving}
use Rattle.homa_host.specs.Parts.{host_of, seen_of}
use Rattle.homa_host.specs.Public.{IsSameHost}
use Rattle.homa_host.proofs.Ending.{ended_through, arrival_done, arrival_same, arrival_last, arrival_whole, arrival_asks, arriving_of_host}
use Rattle.homa_host.proofs.Ending.{quiet_kept, quiet_seen, quiet_same}
use Rattle.homa_host.proofs.Delivered.{TellsAlike, ended_alike, asked_runs}
use Rattle.homa_host.proofs.host.Host.arrives.Given as given
use Rattle.homa_host.proofs.host.Host.arrives.Goals as goal
use Rattle.homa_host.proofs.host.Host.arrives.Goals.{After-end_step}

-- what is so at the end of the step, with any answer and with the one that was given
record HasEnded (g : given.Over) (c : After-end_step g) : Type 1 where
  ends : (a : Answer) → let o = c.self.inside.parts in
      let w = comes o.control.settings (arriving (seen_of o) c.args.from c.args.frame.now) a (begun (host_of o) c.args.now) in
      Amid w c.arrives.new.self c.arrives.new.lent.out.now → Amid (ended_step o.control.settings w) c.end_step.new.self c.end_step.new.out
  first : let o = c.self.inside.parts in
      let w = comes o.control.settings (arriving (seen_of o) c.args.from c.args.frame.now) c.in-Ok.ensures.served.answered.0 (begun (host_of o) c.args.now) in
      Amid (ended_step o.control.settings w) c.end_step.new.self c.end_step.new.out
  alike : TellsAlike c.arrives.new.self c.end_step.new.self

ended : (g : given.Over) (c : After-end_step g) → HasEnded g c
ended g c =
    let o = c.self.inside.parts in
    let s = o.control.settings in
    let work = λ (a : Answer). comes s (arriving (seen_of o) c.args.from c.args.frame.now) a (begun (host_of o) c.args.now) in
    let given = c.in-Ok.ensures.served.answered in
    let amid = (c.in-Ok.ensures.step given.0 given.1).0 in
    let ends : (a : Answer) → Amid (work a) c.arrives.new.self c.arrives.new.lent.out.now
    → Amid (ended_step s (work a)) c.end_step.new.self c.end_step.new.out =
    λ a amid. ended_through s (work a) c.arrives.new.self c.end_step.new.self c.arrives.new.lent.out.now c.end_step.new.out c.in-Ok.ensures.steady.settings
    amid c.end_step.ensures.step in
    record {
      ends = ends;
      first = ends given.0 amid;
      alike = ended_alike s (work given.0) c.arrives.new.self c.end_step.new.self c.arrives.new.lent.out.now c.end_step.new.out amid (ends given.0 amid);
    }

pub arrives-requires-clause-kept : goal.arrives-requires-clause-kept
arrives-requires-clause-kept g c = c.self.invariant

pub arrives-requires-clause-begins : goal.arrives-requires-clause-begins
arrives-requires-clause-begins g c =
    subst (λ (h : Seen). CanCome g.V.Service.served h c.args.from c.args.now c.args.lent.now) (sym c.self.view_is) c.requires

pub end_step-requires-clause-kept : goal.end_step-requires-clause-kept
end_step-requires-clause-kept g c = c.arrives.ensures.kept

pub end_step-requires-clause-amid : goal.end_step-requires-clause-amid
end_step-requires-clause-amid g c =
    let o = c.self.inside.parts in
    let given = c.in-Ok.ensures.served.answered in (
      comes o.control.settings (arriving (seen_of o) c.args.from c.args.frame.now) given.0 (begun (host_of o) c.args.now),
      (c.in-Ok.ensures.step given.0 given.1).0,
    )

pub end_step-requires-clause-room : goal.end_step-requires-clause-room
end_step-requires-clause-room g c =
    let s = c.in-Ok.ensures.steady in
    record { marks_left = omega (arith, s.marks_told); frames_left = omega (arith, s.frames_sent) }

pub invariant_of-self : goal.invariant_of-self
invariant_of-self g c = c.end_step.ensures.kept

pub invariant_of-self-in-Err : goal.invariant_of-self-in-Err
invariant_of-self-in-Err g c = quiet_kept c.arrives.new.self c.arrives.ensures.kept c.tell_nothing.new.self c.tell_nothing.ensures

pub returns-in-Ok-clause-step : goal.returns-in-Ok-clause-step
returns-in-Ok-clause-step g c a answer =
    let o = c.self.inside.parts in
    let s = o.control.settings in
    let p = arriving (seen_of o) c.args.from c.args.frame.now in
    let x = ended g (goal.at.returns-in-Ok-clause-step g c).After-end_step in
    let came = c.in-Ok.ensures.step a (x.alike.back a answer) in
    subst (λ (h : Seen). IsDone h (arrival_step h.settings h.host c.args.now (arriving h c.args.from c.args.frame.now) a)
    (seen_of c.end_step.new.self) c.end_step.new.out c.arrives.new.lent.scratch.now) c.self.view_is
    (arrival_done o c.end_step.new.self c.self.invariant c.args.now (c.end_step.ensures.settings ∙ c.in-Ok.ensures.steady.settings) c.end_step.new.out
    p a (x.ends a came.0) c.arrives.new.lent.scratch.now
    (arriving_of_host o c.args.from c.args.frame.now) answer (arrival_whole s (host_of o) c.args.now p a c.arrives.new.lent.scratch.now came.1))

pub returns-in-Ok-clause-steady : goal.returns-in-Ok-clause-steady
returns-in-Ok-clause-steady g c =
    let o = c.self.inside.parts in
    let x = ended g (goal.at.returns-in-Ok-clause-steady g c).After-end_step in
    subst (λ (h : Seen). IsSameHost h (seen_of c.end_step.new.self)) c.self.view_is
    (arrival_same o c.end_step.new.self c.self.invariant c.args.now (c.end_step.ensures.settings ∙ c.in-Ok.ensures.steady.settings) c.end_step.new.out
    (arriving (seen_of o) c.args.from c.args.frame.now) c.in-Ok.ensures.served.answered.0 x.first)

pub returns-in-Ok-clause-last : goal.returns-in-Ok-clause-last
returns-in-Ok-clause-last g c =
    let o = c.self.inside.parts in
    let x = ended g (goal.at.returns-in-Ok-clause-last g c).After-end_step in
    arrival_last o c.end_step.new.self c.self.invariant c.args.now (c.end_step.ensures.settings ∙ c.in-Ok.ensures.steady.settings) c.end_step.new.out
    (arriving (seen_of o) c.args.from c.args.frame.now) c.in-Ok.ensures.served.answered.0 x.first

pub returns-in-Err-clause-asks : goal.returns-in-Err-clause-asks
returns-in-Err-clause-asks g c a =
    let o = c.self.inside.parts in
    subst (λ (h : Seen). HasAsked c.in-Err.asked.id c.in-Err.asked.number c.arrives.new.lent.scratch.now
    (arrival_step h.settings h.host c.args.now (arriving h c.args.from c.args.frame.now) a).told) c.self.view_is
    (arrival_asks o.control.settings (host_of o) c.args.now (arriving (seen_of o) c.args.from c.args.frame.now) a _ (c.in-Err.ensures.asks a))

pub returns-in-Err-clause-whole : goal.returns-in-Err-clause-whole
returns-in-Err-clause-whole g c a =
    let o = c.self.inside.parts in
    subst (λ (h : Seen). has_run (arrival_step h.settings h.host c.args.now (arriving h c.args.from c.args.frame.now) a).told ≡ true) c.self.view_is
    (asked_runs (arrival_step o.control.settings (host_of o) c.args.now (arriving (seen_of o) c.args.from c.args.frame.now) a).told _
    (arrival_asks o.control.settings (host_of o) c.args.now (arriving (seen_of o) c.args.from c.args.frame.now) a _ (c.in-Err.ensures.asks a)))

pub returns-in-Err-clause-same : goal.returns-in-Err-clause-same
returns-in-Err-clause-same g c =
    quiet_seen c.self.inside.parts c.arrives.new.self c.args.self.now c.tell_nothing.new.self c.self.view_is c.in-Err.ensures.same
    c.tell_nothing.ensures

pub returns-in-Err-clause-steady : goal.returns-in-Err-clause-steady
returns-in-Err-clause-steady g c =
    quiet_same c.args.self.now _
    (quiet_seen c.self.inside.parts c.arrives.new.self c.args.self.now c.tell_nothing.new.self c.self.view_is c.in-Err.ensures.same
    c.tell_nothing.ensures)

pub returns-in-Ok-clause-served : goal.returns-in-Ok-clause-served
returns-in-Ok-clause-served g c =
    let served = c.in-Ok.ensures.served in
    let alike = (ended g (goal.at.returns-in-Ok-clause-served g c).After-end_step).alike in
    record {
      counted = subst (λ (b : Bool). g.V.Service.served c.arrives.new.lent.service.now
          ≡ cond b (g.V.Service.served c.args.lent.now.service.now + 1) (g.V.Service.served c.args.lent.now.service.now)) (sym alike.ran) served.counted;
      answered = (served.answered.0, alike.on served.answered.0 served.answered.1);
      allowed = alike.allowed (g.V.Service.allows c.args.lent.now.service.now (g.V.Service.served c.args.lent.now.service.now))
          c.arrives.new.lent.scratch.now served.allowed;
    }

pub returns-in-Ok-clause-lent : goal.returns-in-Ok-clause-lent
returns-in-Ok-clause-lent g c =
    let same = c.arrives.ensures.lent in
    record { service = same.service; out = same.out; scratch = same.scratch; before = same.before }

pub returns-in-Err-clause-refused : goal.returns-in-Err-clause-refused
returns-in-Err-clause-refused g c = c.in-Err.ensures.refused

pub returns-in-Err-clause-lent : goal.returns-in-Err-clause-lent
returns-in-Err-clause-lent g c = c.arrives.ensures.lent
