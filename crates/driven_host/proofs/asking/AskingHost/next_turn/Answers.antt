use Rattle.std.proofs.Common.{◌<◌, ◌≤◌, ◌+◌, ℕ, Some, refl, sym, ap, subst, ◌∙◌, inl, arith}
use Rattle.std.specs.Prelude.{Option, IfSome, IfNone}
use Rattle.std.proofs.lemmas.Bool.{true≢false}
use Rattle.homa_plain.specs.Limits.{last_host_tick}
use Rattle.driven_host.specs.Driven.{Driven}
use Rattle.driven_host.specs.Turns.{in_time, IsIdleTurn, MayAct}
use Rattle.driven_host.proofs.Idle.{bytes_wait, before_deadline, no_deadline, deadline_acts, in_time_some, in_time_le, none_map, next_idle, next_none}
use Rattle.driven_host.proofs.Idle.{next_rest}
use Rattle.driven_host.proofs.asking.AskingHost.next_turn.Goals as goal

pub returns-then-is_some-clause-may_act : goal.returns-then-is_some-clause-may_act
returns-then-is_some-clause-may_act c =
    let d = c.self.inside in
    subst (λ (x : Driven). IfSome c.up_to_end.result (MayAct x.host)) c.self.view_is (
    subst (λ (o : Option ℕ). IfSome o (MayAct d.host)) (sym (c.up_to_end.ensures ∙ ap (λ n. in_time (Some (n + 1))) c.last.ensures)) (
    in_time_some (MayAct d.host) (Some (d.host.host.last + 1)) (
    inl (
      refl,
      bytes_wait d.host c.pacer.result.now.ready c.pacer.ensures
          (λ none. true≢false (sym (sym c.is_some.ensures ∙ c.if-is_some.true) ∙ c.pick.ensures.none.1 none)),
    ))))

pub returns-then-is_some-clause-idle : goal.returns-then-is_some-clause-idle
returns-then-is_some-clause-idle c =
    let d = c.self.inside in
    subst (λ (x : Driven). IfSome c.up_to_end.result (λ at. (now : ℕ) → x.host.host.last < now → now < at → IsIdleTurn x.host now)) c.self.view_is (
    subst (λ (o : Option ℕ). IfSome o (λ at. (now : ℕ) → d.host.host.last < now → now < at → IsIdleTurn d.host now))
    (sym (c.up_to_end.ensures ∙ ap (λ n. in_time (Some (n + 1))) c.last.ensures)) (next_idle d.host))

pub returns-then-is_some-clause-none : goal.returns-then-is_some-clause-none
returns-then-is_some-clause-none c =
    let d = c.self.inside in
    subst (λ (x : Driven). IfNone c.up_to_end.result ((now : ℕ) → x.host.host.last < now → now ≤ last_host_tick → IsIdleTurn x.host now)) c.self.view_is (
    subst (λ (o : Option ℕ). IfNone o ((now : ℕ) → d.host.host.last < now → now ≤ last_host_tick → IsIdleTurn d.host now))
    (sym (c.up_to_end.ensures ∙ ap (λ n. in_time (Some (n + 1))) c.last.ensures)) (next_none d.host))

pub returns-then-is_some-clause-rest : goal.returns-then-is_some-clause-rest
returns-then-is_some-clause-rest c =
    let d = c.self.inside in
    subst (λ (x : Driven). IfNone c.up_to_end.result (x.host.host.last < last_host_tick → IsIdleTurn x.host x.host.host.last)) c.self.view_is (
    subst (λ (o : Option ℕ). IfNone o (d.host.host.last < last_host_tick → IsIdleTurn d.host d.host.host.last))
    (sym (c.up_to_end.ensures ∙ ap (λ n. in_time (Some (n + 1))) c.last.ensures)) (next_rest d.host))

pub returns-then-is_some-clause-begins : goal.returns-then-is_some-clause-begins
returns-then-is_some-clause-begins c =
    subst (λ (o : Option ℕ). IfSome o (λ at. at ≤ last_host_tick)) (sym c.up_to_end.ensures) (in_time_le (Some (c.last.result + 1)))

pub returns-clause-begins : goal.returns-clause-begins
returns-clause-begins c = subst (λ (o : Option ℕ). IfSome o (λ at. at ≤ last_host_tick)) (sym c.up_to_end-2.ensures) (in_time_le c.first_deadline.result)

pub returns-clause-idle : goal.returns-clause-idle
returns-clause-idle c =
    let d = c.self.inside in
    subst (λ (x : Driven). IfSome c.up_to_end-2.result (λ at. (now : ℕ) → x.host.host.last < now → now < at → IsIdleTurn x.host now)) c.self.view_is (
    subst (λ (o : Option ℕ). IfSome o (λ at. (now : ℕ) → d.host.host.last < now → now < at → IsIdleTurn d.host now)) (sym c.up_to_end-2.ensures) (
    in_time_some (λ at. (now : ℕ) → d.host.host.last < now → now < at → IsIdleTurn d.host now) c.first_deadline.result
    (before_deadline d.host c.timers.result.now.timers c.pacer.result.now.ready c.self.invariant.rest.granted c.timers.ensures c.pacer.ensures
    (c.pick.ensures.none.0 (sym c.is_some.ensures ∙ c.if-is_some.false)) c.first_deadline.result c.first_deadline.ensures)))

pub returns-clause-may_act : goal.returns-clause-may_act
returns-clause-may_act c =
    let d = c.self.inside in
    subst (λ (x : Driven). IfSome c.up_to_end-2.result (MayAct x.host)) c.self.view_is (
    subst (λ (o : Option ℕ). IfSome o (MayAct d.host)) (sym c.up_to_end-2.ensures) (
    in_time_some (MayAct d.host) c.first_deadline.result
    (deadline_acts d.host c.timers.result.now.timers c.pacer.result.now.ready c.self.invariant.rest.granted c.timers.ensures c.pacer.ensures
    (c.pick.ensures.none.0 (sym c.is_some.ensures ∙ c.if-is_some.false)) c.first_deadline.result c.first_deadline.ensures)))

pub returns-clause-none : goal.returns-clause-none
returns-clause-none c =
    let d = c.self.inside in
    subst (λ (x : Driven). IfNone c.up_to_end-2.result ((now : ℕ) → x.host.host.last < now → now ≤ last_host_tick → IsIdleTurn x.host now)) c.self.view_is (
    subst (λ (o : Option ℕ). IfNone o ((now : ℕ) → d.host.host.last < now → now ≤ last_host_tick → IsIdleTurn d.host now)) (sym c.up_to_end-2.ensures) (
    none_map (in_time c.first_deadline.result) (λ all now less le. all now (omega (arith, less)) le)
    (no_deadline d.host c.timers.result.now.timers c.pacer.result.now.ready c.self.invariant.rest.granted c.timers.ensures c.pacer.ensures
    (c.pick.ensures.none.0 (sym c.is_some.ensures ∙ c.if-is_some.false)) c.first_deadline.result c.first_deadline.ensures)))

pub returns-clause-rest : goal.returns-clause-rest
returns-clause-rest c =
    let d = c.self.inside in
    subst (λ (x : Driven). IfNone c.up_to_end-2.result (x.host.host.last < last_host_tick → IsIdleTurn x.host x.host.host.last)) c.self.view_is (
    subst (λ (o : Option ℕ). IfNone o (d.host.host.last < last_host_tick → IsIdleTurn d.host d.host.host.last)) (sym c.up_to_end-2.ensures) (
    none_map (in_time c.first_deadline.result) (λ all less. all d.host.host.last (omega arith) (omega (arith, less)))
    (no_deadline d.host c.timers.result.now.timers c.pacer.result.now.ready c.self.invariant.rest.granted c.timers.ensures c.pacer.ensures
    (c.pick.ensures.none.0 (sym c.is_some.ensures ∙ c.if-is_some.false)) c.first_deadline.result c.first_deadline.ensures)))
