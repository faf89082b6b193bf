use Rattle.std.proofs.Common.{None, Some, ◌≡◌, ◌++◌, [], get_or, refl, sym, ap, subst, ◌∙◌, arith}
use Rattle.std.specs.Prelude.{slice_set}
use Rattle.homa_plain.specs.Steps.{call_step, start_fault}
use Rattle.host_view.specs.Seen.{Seen}
use Rattle.host_view.specs.Done.{IsDone}
use Rattle.quiet_laws.specs.Hosts.{client_id, server_id}
use Rattle.quiet_call.specs.Stepped.{GoesOn}
use Rattle.quiet_call.specs.Standing.{hosts_of, asked, answered, answers, opened}
use Rattle.quiet_call.proofs.Stepping.{on_ok_by}
use Rattle.quiet_call.proofs.Starting.{can_start, goes_on}
use Rattle.quiet_call.proofs.Going.{goes_same}
use Rattle.quiet_call.proofs.call.QuietCall.begin.Goals as goal

pub own_clock-now-requires : goal.own_clock-now-requires
own_clock-now-requires c = omega (arith, c.requires.opened.clock, c.requires.calm.valid.in_range.2.2.2.2.2.2.2.2.2.2.2.2.2.1)

pub returns-in_err-bytes-clause-same : goal.returns-in_err-bytes-clause-same
returns-in_err-bytes-clause-same c = record { settings = refl; asked = refl; answered = refl }

pub call-requires-clause-server : goal.call-requires-clause-server
call-requires-clause-server c =
    let is = c.index_mut-client.ensures.value ∙ ap (λ xs. get_or xs 0 c.index_mut-client.result.now) c.requires.opened.hosts in
    omega (arith, ap (λ (h : Seen). h.settings.hosts) is, c.requires.calm.hosts)

pub call-requires-clause-now : goal.call-requires-clause-now
call-requires-clause-now c = omega (arith, c.own_clock-now.ensures, c.requires.opened.clock, c.requires.calm.valid.in_range.2.2.2.2.2.2.2.2.2.2.2.2.2.1)

pub call-requires-clause-later : goal.call-requires-clause-later
call-requires-clause-later c =
    let is = c.index_mut-client.ensures.value ∙ ap (λ xs. get_or xs 0 c.index_mut-client.result.now) c.requires.opened.hosts in
    omega (arith, ap (λ (h : Seen). h.host.last) is)

pub call-requires-clause-order : goal.call-requires-clause-order
call-requires-clause-order c =
    let is = c.index_mut-client.ensures.value ∙ ap (λ xs. get_or xs 0 c.index_mut-client.result.now) c.requires.opened.hosts in
    omega (arith, ap (λ (h : Seen). h.host.order) is)

pub unreachable-requires : goal.unreachable-requires
unreachable-requires c =
    let q = c.args.self.now in
    let h = c.index_mut-client.result.now in
    let is : h ≡ opened q.settings client_id = c.index_mut-client.ensures.value ∙ ap (λ xs. get_or xs 0 h) c.requires.opened.hosts in
    none_some (sym (can_start q.settings (asked q) (answered q) c.requires.calm)
    ∙ (sym (ap (λ (x : Seen). start_fault x.settings x.host server_id c.in_ok-bytes.bytes.items) is
    ∙ ap (start_fault q.settings (opened q.settings client_id).host server_id) c.in_ok-bytes.ensures) ∙ c.in_default.ensures.fault)) where
      none_some : {A : Type 0} {x : A} → None ≡ Some x → ⊥
      none_some e = cc

pub returns-clause-goes_on : goal.returns-clause-goes_on
returns-clause-goes_on c =
    let q = c.args.self.now in
    let s = q.settings in
    let h = c.index_mut-client.result.now in
    let now = c.own_clock-now.result in
    let is : h ≡ opened s client_id = c.index_mut-client.ensures.value ∙ ap (λ xs. get_or xs 0 h) c.requires.opened.hosts in
    let a = c.call.new.self in
    let at : now ≡ s.skew = omega (arith, c.own_clock-now.ensures, c.requires.opened.clock) in
    on_ok_by _ _ _ c.keep.result
    (λ kept few. goes_same s s (asked q) (asked q) (answered q) (answered q) 0 q.clock 0 (answers q)
    (slice_set (hosts_of q) 0 a) c.keep.new.under_way.items refl refl refl c.requires.opened.clock c.requires.opened.answers
    (subst (λ hs. GoesOn s (asked q) (answered q) 0 hs c.keep.new.under_way.items 0) (sym (ap (λ hs. slice_set hs 0 a) c.requires.opened.hosts))
    (goes_on s (asked q) (answered q) c.requires.calm h a (opened s server_id) now c.keep.new.under_way.items c.call.new.out []
    (ap (λ (x : Seen). x.settings) is) (ap (λ (x : Seen). x.host) is) refl refl at
    (subst (λ bytes. IsDone h (call_step h.settings h.host now server_id 0 bytes) a c.call.new.out []) c.in_ok-bytes.ensures (c.in-Ok.ensures.step []))
    c.call.ensures.steady c.in-Ok.ensures.last (kept ∙ ap (λ fs. fs ++ c.call.new.out) c.requires.opened.frames) few)))
    c.keep.ensures.kept c.keep.ensures.few

pub returns-clause-same : goal.returns-clause-same
returns-clause-same c = record { settings = refl; asked = refl; answered = refl }
