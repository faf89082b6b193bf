use Rattle.std.proofs.Common.{◌≡◌, ◌<◌, ◌≤◌, None, Some, List, length, ap, sym, subst, ◌∙◌, arith}
use Rattle.homa_plain.specs.Work.{begun}
use Rattle.homa_plain.specs.Steps.{starts, call_step, start_fault, next_id}
use Rattle.host_view.specs.declared.outbox.SentFrame.{SentFrame}
use Rattle.host_view.specs.Seen.{Seen}
use Rattle.host_view.specs.Done.{IsDone}
use Rattle.homa_host.specs.Parts.{host_of, seen_of}
use Rattle.homa_host.specs.Amid.{Amid}
use Rattle.homa_host.specs.Public.{IsSameHost}
use Rattle.homa_host.proofs.Ending.{ended_through, call_done, call_same, call_last, quiet_kept, quiet_seen, quiet_same}
use Rattle.homa_host.proofs.host.Host.call.Goals as goal

pub start-requires-clause-kept : goal.start-requires-clause-kept
start-requires-clause-kept c = c.self.invariant

pub start-requires-clause-server : goal.start-requires-clause-server
start-requires-clause-server c = subst (λ (h : Seen). c.args.server.0 < h.settings.hosts) (sym c.self.view_is) c.requires.server

pub start-requires-clause-now : goal.start-requires-clause-now
start-requires-clause-now c = c.requires.now

pub start-requires-clause-later : goal.start-requires-clause-later
start-requires-clause-later c = subst (λ (h : Seen). h.host.last ≤ c.args.now) (sym c.self.view_is) c.requires.later

pub start-requires-clause-order : goal.start-requires-clause-order
start-requires-clause-order c = subst (λ (h : Seen). h.host.order < 9223372036854775808) (sym c.self.view_is) c.requires.order

pub end_step-requires-clause-kept : goal.end_step-requires-clause-kept
end_step-requires-clause-kept c = c.start.ensures.kept

pub end_step-requires-clause-amid : goal.end_step-requires-clause-amid
end_step-requires-clause-amid c =
    let o = c.self.inside.parts in
    let w = starts o.control.settings c.args.server c.args.number c.args.request.items (begun (host_of o) c.args.now) in
    (w, subst (λ (f : List SentFrame). Amid w c.start.new.self f) (sym c.clear.ensures) c.in-Ok.ensures.step)

pub end_step-requires-clause-room : goal.end_step-requires-clause-room
end_step-requires-clause-room c =
    let marks = c.in-Ok.ensures.steady.marks_told in
    let frames = ap length c.clear.ensures in
    record { marks_left = omega (arith, marks); frames_left = omega (arith, frames) }

pub invariant_of-self : goal.invariant_of-self
invariant_of-self c = c.end_step.ensures.kept

pub invariant_of-self-in-Err : goal.invariant_of-self-in-Err
invariant_of-self-in-Err c = quiet_kept c.start.new.self c.start.ensures.kept c.tell_nothing.new.self c.tell_nothing.ensures

pub returns-in-Ok-clause-step : goal.returns-in-Ok-clause-step
returns-in-Ok-clause-step c whole =
    let o = c.self.inside.parts in
    let w = starts o.control.settings c.args.server c.args.number c.args.request.items (begun (host_of o) c.args.now) in
    let starts_here = subst (λ (f : List SentFrame). Amid w c.start.new.self f) (sym c.clear.ensures) c.in-Ok.ensures.step in
    let amid = ended_through o.control.settings w c.start.new.self c.end_step.new.self c.clear.new.self c.end_step.new.out
    c.in-Ok.ensures.steady.settings starts_here c.end_step.ensures.step in
    subst (λ (h : Seen). IsDone h (call_step h.settings h.host c.args.now c.args.server c.args.number c.args.request.items)
    (seen_of c.end_step.new.self) c.end_step.new.out whole) c.self.view_is
    (call_done o c.end_step.new.self c.self.invariant c.args.now (c.end_step.ensures.settings ∙ c.in-Ok.ensures.steady.settings) c.end_step.new.out
    c.args.server c.args.number c.args.request.items amid whole)

pub returns-in-Ok-clause-no_fault : goal.returns-in-Ok-clause-no_fault
returns-in-Ok-clause-no_fault c =
    subst (λ (h : Seen). start_fault h.settings h.host c.args.server c.args.request.items ≡ None) c.self.view_is c.in-Ok.ensures.no_fault

pub returns-in-Ok-clause-id : goal.returns-in-Ok-clause-id
returns-in-Ok-clause-id c = subst (λ (h : Seen). c.in-Ok.id ≡ next_id h.host) c.self.view_is c.in-Ok.ensures.id

pub returns-in-Ok-clause-steady : goal.returns-in-Ok-clause-steady
returns-in-Ok-clause-steady c =
    let o = c.self.inside.parts in
    let w = starts o.control.settings c.args.server c.args.number c.args.request.items (begun (host_of o) c.args.now) in
    let starts_here = subst (λ (f : List SentFrame). Amid w c.start.new.self f) (sym c.clear.ensures) c.in-Ok.ensures.step in
    let amid = ended_through o.control.settings w c.start.new.self c.end_step.new.self c.clear.new.self c.end_step.new.out
    c.in-Ok.ensures.steady.settings starts_here c.end_step.ensures.step in
    subst (λ (h : Seen). IsSameHost h (seen_of c.end_step.new.self)) c.self.view_is
    (call_same o c.end_step.new.self c.self.invariant c.args.now (c.end_step.ensures.settings ∙ c.in-Ok.ensures.steady.settings) c.end_step.new.out
    c.args.server c.args.number c.args.request.items amid)

pub returns-in-Ok-clause-last : goal.returns-in-Ok-clause-last
returns-in-Ok-clause-last c =
    let o = c.self.inside.parts in
    let w = starts o.control.settings c.args.server c.args.number c.args.request.items (begun (host_of o) c.args.now) in
    let starts_here = subst (λ (f : List SentFrame). Amid w c.start.new.self f) (sym c.clear.ensures) c.in-Ok.ensures.step in
    let amid = ended_through o.control.settings w c.start.new.self c.end_step.new.self c.clear.new.self c.end_step.new.out
    c.in-Ok.ensures.steady.settings starts_here c.end_step.ensures.step in
    call_last o c.end_step.new.self c.self.invariant c.args.now (c.end_step.ensures.settings ∙ c.in-Ok.ensures.steady.settings) c.end_step.new.out
    c.args.server c.args.number c.args.request.items amid

pub returns-in-Err-clause-fault : goal.returns-in-Err-clause-fault
returns-in-Err-clause-fault c =
    subst (λ (h : Seen). start_fault h.settings h.host c.args.server c.args.request.items ≡ Some c.in-Err.refused.0) c.self.view_is c.in-Err.ensures.fault

pub returns-in-Err-clause-back : goal.returns-in-Err-clause-back
returns-in-Err-clause-back c = c.in-Err.ensures.back

pub returns-in-Err-clause-same : goal.returns-in-Err-clause-same
returns-in-Err-clause-same c =
    quiet_seen c.self.inside.parts c.start.new.self c.args.self.now c.tell_nothing.new.self c.self.view_is c.in-Err.ensures.same c.tell_nothing.ensures

pub returns-in-Err-clause-none : goal.returns-in-Err-clause-none
returns-in-Err-clause-none c = c.clear.ensures

pub returns-in-Err-clause-steady : goal.returns-in-Err-clause-steady
returns-in-Err-clause-steady c =
    quiet_same c.args.self.now _
    (quiet_seen c.self.inside.parts c.start.new.self c.args.self.now c.tell_nothing.new.self c.self.view_is c.in-Err.ensures.same c.tell_nothing.ensures)
