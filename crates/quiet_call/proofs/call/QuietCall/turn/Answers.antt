use Rattle.std.proofs.Common.{ℕ, Bool, ap, subst, arith}
use Rattle.homa_plain.specs.Steps.{turn_step}
use Rattle.host_view.specs.Seen.{Seen}
use Rattle.quiet_call.specs.Stepped.{HasStepped, MayStep}
use Rattle.quiet_call.specs.Standing.{own_clock, hosts_of, frames_of}
use Rattle.quiet_call.proofs.Stepping.{if_ok_by, of_read, holds_sent, stepped}
use Rattle.quiet_call.proofs.call.QuietCall.turn.Goals as goal

pub turn-requires-clause-later : goal.turn-requires-clause-later
turn-requires-clause-later c =
    let may = of_read (MayStep (own_clock c.args.self.now)) c.args.self.now.hosts.items c.args.host.0 c.index_mut.result.now c.requires.host
    c.index_mut.ensures.value c.requires.may in
    omega (arith, may.last, c.own_clock-now.ensures)

pub turn-requires-clause-order : goal.turn-requires-clause-order
turn-requires-clause-order c =
    (of_read (MayStep (own_clock c.args.self.now)) c.args.self.now.hosts.items c.args.host.0 c.index_mut.result.now c.requires.host
    c.index_mut.ensures.value c.requires.may).order

pub take_up-requires-clause-sent : goal.take_up-requires-clause-sent
take_up-requires-clause-sent c =
    holds_sent c.own_clock-now.result c.args.host (λ (h : Seen). turn_step h.settings h.host c.own_clock-now.result) c.args.self.now.hosts.items
    c.args.self.now.hosts.items (frames_of c.args.self.now) (frames_of c.args.self.now)
    c.index_mut.result.now c.turn.new.self c.turn.new.out c.args.self.now.scratch c.requires.host c.index_mut.ensures.value
    (c.turn.ensures.step c.args.self.now.scratch)

pub returns-clause-turned : goal.returns-clause-turned
returns-clause-turned c =
    let now = c.own_clock-now.result in
    let has : ℕ → Bool → Type 0 = λ at done. HasStepped at c.args.host (λ (h : Seen). turn_step h.settings h.host at) done (hosts_of c.args.self.now)
    (hosts_of c.take_up.new.self) (frames_of c.args.self.now) (frames_of c.take_up.new.self) in
    if_ok_by _ _ _ _ c.take_up.result
    (λ done told kept few. subst (λ at. has at done) c.own_clock-now.ensures
    (stepped now c.args.host (λ (h : Seen). turn_step h.settings h.host now) c.args.self.now.hosts.items (hosts_of c.take_up.new.self)
    (frames_of c.args.self.now) (frames_of c.take_up.new.self)
    c.index_mut.result.now c.turn.new.self c.turn.new.out c.args.self.now.scratch c.requires.host c.index_mut.ensures.value
    (c.turn.ensures.step c.args.self.now.scratch)
    done c.turn.ensures.steady c.turn.ensures.last (ap hosts_of c.take_up.ensures.same) told kept few))
    c.take_up.ensures.done c.take_up.ensures.kept c.take_up.ensures.few
