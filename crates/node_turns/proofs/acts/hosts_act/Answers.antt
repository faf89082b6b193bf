use Rattle.std.proofs.Common.{◌+◌, ◌*◌, length, drop, get_or, ◌∙◌, arith}
use Rattle.node_runs.specs.Course.{hosts_act}
use Rattle.node_turns.specs.Acting.{with_left}
use Rattle.node_turns.specs.Told.{Hears, Turns}
use Rattle.node_turns.proofs.Done.{gone_none, gone_more, broken_more, halted_more}
use Rattle.node_turns.proofs.Acted.{acted_none, acted_on}
use Rattle.node_turns.proofs.Hearing.{host_next, drop_at}
use Rattle.std.proofs.lemmas.Result.{MatchResult-from_err, err_from_is_err_and}
use Rattle.node_turns.proofs.Tellings.{on_stop, midst_heard, midst_never}
use Rattle.node_turns.proofs.Lists.{listed_more, front_listed}
use Rattle.node_turns.proofs.Cuts.{cut_on}
use Rattle.node_turns.proofs.Same.{stepped_none, stepped_on, stepped_within, outside_none, outside_on}
use Rattle.node_turns.proofs.HostCuts.{next_hears_cut, next_turn_cut}
use Rattle.node_turns.proofs.acts.hosts_act.Goals as goal

pub loop-i-init : goal.loop-i-init
loop-i-init g c =
    let o = g.O.Observer in
    record {
      acted = λ w h. acted_none (g.H.LoopHosts.settings c.args.hosts.now)
          (with_left (hosts_act (g.H.LoopHosts.settings c.args.hosts.now) c.args.locals.now)) w _ _ _ _ _ h
          (gone_none o.told o.kept o.strange _ _ _ (Hears 64));
      stepped = stepped_none g.H.LoopHosts.settings g.H.LoopHosts.clock g.H.LoopHosts.steps c.args.hosts.now 0;
      outside = outside_none g.N.Net.known g.N.Net.faults o.faults o.is_same g.met.O.Observer.same_self g.met.O.Observer.same_on c.args.net.now
          c.args.observer.now;
    }

pub loop-i-preserved : goal.loop-i-preserved
loop-i-preserved g c =
    let o = g.O.Observer in
    let l = c.loop-i in
    let s = g.H.LoopHosts.settings c.args.hosts.now in
    let locals = c.args.locals.now in
    let i = l.i in
    let host = get_or locals i (record { 0 = 0 }) in
    record {
      acted = λ w h. acted_on s (with_left (hosts_act s locals)) (with_left (hosts_act s (drop i locals))) (with_left (hosts_act s (drop (i + 1) locals))) w
          (g.H.LoopHosts.stands l.hosts) _ _ (g.H.LoopHosts.allows l.hosts) _ _ _ _ _ (g.N.Net.sent l.net) _ _ (g.N.Net.gave l.net) _ (l.invariant.acted w h)
          (λ v st. host_next s host locals i (drop_at locals i (record { 0 = 0 }) (omega (arith, c.loop-i-test.true, l.auto.i-end)))
          (g.H.LoopHosts.settings l.hosts) (g.H.LoopHosts.settings c.hears.new.hosts) l.invariant.stepped.settings
          (c.in_ok-hears.ensures.stepped.settings ∙ l.invariant.stepped.settings)
          v (g.H.LoopHosts.stands c.hears.new.hosts) _ _ (g.H.LoopHosts.allows c.hears.new.hosts) _ _ _ _ _ (g.N.Net.sent c.hears.new.net) _ _
          (g.N.Net.gave c.hears.new.net) _ (c.in_ok-hears.ensures.acted v st) c.in_ok-has_turn.ensures.acted
          (λ x y p q. gone_more o.told o.kept o.strange _ (o.taken c.hears.new.observer) _ _ (o.notes c.hears.new.observer) _ _ (g.N.Net.acts c.hears.new.net) _
          (Hears 64) (Turns host) (Hears 64) x y p q))
          (λ x y p q. gone_more o.told o.kept o.strange _ (o.taken l.observer) _ _ (o.notes l.observer) _ _ (g.N.Net.acts l.net) _ (Hears 64)
          (Hears 64) (Hears 64) x y p q);
      stepped = stepped_on g.H.LoopHosts.settings g.H.LoopHosts.clock g.H.LoopHosts.steps c.args.hosts.now c.hears.new.hosts c.has_turn.new.hosts
          (65 * i + 64) 1 (65 * (i + 1)) (omega arith)
          (stepped_on g.H.LoopHosts.settings g.H.LoopHosts.clock g.H.LoopHosts.steps c.args.hosts.now l.hosts c.hears.new.hosts (65 * i) 64
          (65 * i + 64) (omega arith) l.invariant.stepped c.in_ok-hears.ensures.stepped) c.in_ok-has_turn.ensures.stepped;
      outside = outside_on g.N.Net.known g.N.Net.faults o.faults o.is_same g.met.O.Observer.same_self g.met.O.Observer.same_on c.args.net.now
          c.hears.new.net c.has_turn.new.net c.args.observer.now c.hears.new.observer c.has_turn.new.observer _
          (outside_on g.N.Net.known g.N.Net.faults o.faults o.is_same g.met.O.Observer.same_self g.met.O.Observer.same_on c.args.net.now l.net
          c.hears.new.net c.args.observer.now l.observer c.hears.new.observer _ l.invariant.outside c.in_ok-hears.ensures.outside)
          c.in_ok-has_turn.ensures.outside;
    }

pub returns-in_err-hears-clause-cut : goal.returns-in_err-hears-clause-cut
returns-in_err-hears-clause-cut g c =
    let o = g.O.Observer in
    let l = c.loop-i in
    let s = g.H.LoopHosts.settings c.args.hosts.now in
    let locals = c.args.locals.now in
    let i = l.i in
    let host = get_or locals i (record { 0 = 0 }) in
    MatchResult-from_err _ _ _ c.from_residual.ensures.0
    (λ _ w h. cut_on s (with_left (hosts_act s locals)) (with_left (hosts_act s (drop i locals))) w (g.H.LoopHosts.stands l.hosts) _
    (g.H.LoopHosts.allows l.hosts) _ _ _ _ _ _ (g.N.Net.sent l.net) _ (g.N.Net.gave l.net) _ (l.invariant.acted w h)
    (λ v st. next_hears_cut s host locals i (drop_at locals i (record { 0 = 0 }) (omega (arith, c.loop-i-test.true, l.auto.i-end)))
    (g.H.LoopHosts.settings l.hosts) l.invariant.stepped.settings v (g.H.LoopHosts.allows l.hosts) _ _ _ _ (c.in_err-hears.ensures.cut v st))
    (λ x y p q. broken_more o.told o.kept o.strange _ (o.taken l.observer) _ _ (o.notes l.observer) _ (g.N.Net.acts l.net) _ (Hears 64) (Hears 64) x y p q)
    (λ x y p q. front_listed _ (g.N.Net.sent l.net) _ x y p q))

pub returns-in_err-has_turn-clause-cut : goal.returns-in_err-has_turn-clause-cut
returns-in_err-has_turn-clause-cut g c =
    let o = g.O.Observer in
    let l = c.loop-i in
    let s = g.H.LoopHosts.settings c.args.hosts.now in
    let locals = c.args.locals.now in
    let i = l.i in
    let host = get_or locals i (record { 0 = 0 }) in
    MatchResult-from_err _ _ _ c.from_residual-in_err-has_turn.ensures.0
    (λ _ w h. cut_on s (with_left (hosts_act s locals)) (with_left (hosts_act s (drop i locals))) w (g.H.LoopHosts.stands l.hosts) _
    (g.H.LoopHosts.allows l.hosts) _ _ _ _ _ _ (g.N.Net.sent l.net) _ (g.N.Net.gave l.net) _ (l.invariant.acted w h)
    (λ v st. next_turn_cut s host locals i (drop_at locals i (record { 0 = 0 }) (omega (arith, c.loop-i-test.true, l.auto.i-end)))
    (g.H.LoopHosts.settings l.hosts) (g.H.LoopHosts.settings c.hears.new.hosts) l.invariant.stepped.settings
    (c.in_ok-hears.ensures.stepped.settings ∙ l.invariant.stepped.settings)
    v (g.H.LoopHosts.stands c.hears.new.hosts) _ (g.H.LoopHosts.allows c.hears.new.hosts) _ _ _ _ _ _ (g.N.Net.sent c.hears.new.net) _
    (g.N.Net.gave c.hears.new.net) _ (c.in_ok-hears.ensures.acted v st) c.in_err-has_turn.ensures.cut
    (λ x y p q. broken_more o.told o.kept o.strange _ (o.taken c.hears.new.observer) _ _ (o.notes c.hears.new.observer) _ (g.N.Net.acts c.hears.new.net) _
    (Hears 64) (Turns host) x y p q)
    (λ x y p q. front_listed _ (g.N.Net.sent c.hears.new.net) _ x y p q))
    (λ x y p q. broken_more o.told o.kept o.strange _ (o.taken l.observer) _ _ (o.notes l.observer) _ (g.N.Net.acts l.net) _ (Hears 64) (Hears 64) x y p q)
    (λ x y p q. front_listed _ (g.N.Net.sent l.net) _ x y p q))

pub returns-in_err-hears-clause-strange : goal.returns-in_err-hears-clause-strange
returns-in_err-hears-clause-strange g c =
    let o = g.O.Observer in
    let l = c.loop-i in
    let s = g.H.LoopHosts.settings c.args.hosts.now in
    let locals = c.args.locals.now in
    let i = l.i in
    let host = get_or locals i (record { 0 = 0 }) in
    let p = err_from_is_err_and c.from_residual.result c.from_residual.ensures.1 in
    rw (p.1, p.2) (on_stop (Unit {0}) (Unit {0}) c.in_err-hears.field-0.0 _ _
    (λ k w h. cut_on s (with_left (hosts_act s locals)) (with_left (hosts_act s (drop i locals))) w (g.H.LoopHosts.stands l.hosts) _
    (g.H.LoopHosts.allows l.hosts) _ _ _ _ _ _ (g.N.Net.sent l.net) _ (g.N.Net.gave l.net) _ (l.invariant.acted w h)
    (λ v st. next_hears_cut s host locals i (drop_at locals i (record { 0 = 0 }) (omega (arith, c.loop-i-test.true, l.auto.i-end)))
    (g.H.LoopHosts.settings l.hosts) l.invariant.stepped.settings v (g.H.LoopHosts.allows l.hosts) _ _ _ _ (k v st))
    (λ x y p q. halted_more o.told o.kept o.strange _ (o.taken l.observer) _ _ (o.notes l.observer) _ (g.N.Net.acts l.net) _ (Hears 64) (Hears 64) x y p q)
    (λ x y p q. listed_more _ (g.N.Net.sent l.net) _ x y p q)) c.in_err-hears.ensures.strange)

pub returns-in_err-has_turn-clause-strange : goal.returns-in_err-has_turn-clause-strange
returns-in_err-has_turn-clause-strange g c =
    let p = err_from_is_err_and c.from_residual-in_err-has_turn.result c.from_residual-in_err-has_turn.ensures.1 in
    rw (p.1, p.2) (midst_never (Unit {0}) c.in_err-has_turn.field-0.0 _ c.in_err-has_turn.ensures.midst)

pub returns-in_err-hears-clause-some_strange : goal.returns-in_err-hears-clause-some_strange
returns-in_err-hears-clause-some_strange g c =
    let p = err_from_is_err_and c.from_residual.result c.from_residual.ensures.1 in
    rw (p.1, p.2) c.in_err-hears.ensures.some_strange

pub returns-in_err-has_turn-clause-some_strange : goal.returns-in_err-has_turn-clause-some_strange
returns-in_err-has_turn-clause-some_strange g c =
    let p = err_from_is_err_and c.from_residual-in_err-has_turn.result c.from_residual-in_err-has_turn.ensures.1 in
    rw (p.1, p.2) (midst_never (Unit {0}) c.in_err-has_turn.field-0.0 _ c.in_err-has_turn.ensures.midst)

pub returns-in_err-has_turn-clause-midst : goal.returns-in_err-has_turn-clause-midst
returns-in_err-has_turn-clause-midst g c =
    let p = err_from_is_err_and c.from_residual-in_err-has_turn.result c.from_residual-in_err-has_turn.ensures.1 in
    rw (p.1, p.2) (midst_heard c.in_err-has_turn.field-0.0 c.in_err-has_turn.ensures.midst)

pub returns-in_err-hears-clause-stepped : goal.returns-in_err-hears-clause-stepped
returns-in_err-hears-clause-stepped g c =
    let h = g.H.LoopHosts in
    let l = c.loop-i in
    stepped_on h.settings h.clock h.steps c.args.hosts.now l.hosts c.hears.new.hosts (65 * l.i) 64 (65 * length c.args.locals.now)
    (omega (arith, c.loop-i-test.true, l.auto.i-end)) l.invariant.stepped c.hears.ensures.stepped

pub returns-in_err-has_turn-clause-stepped : goal.returns-in_err-has_turn-clause-stepped
returns-in_err-has_turn-clause-stepped g c =
    let h = g.H.LoopHosts in
    let l = c.loop-i in
    stepped_on h.settings h.clock h.steps c.args.hosts.now c.hears.new.hosts c.has_turn.new.hosts (65 * l.i + 64) 1
    (65 * length c.args.locals.now) (omega (arith, c.loop-i-test.true, l.auto.i-end))
    (stepped_on h.settings h.clock h.steps c.args.hosts.now l.hosts c.hears.new.hosts (65 * l.i) 64 (65 * l.i + 64) (omega arith)
    l.invariant.stepped c.hears.ensures.stepped) c.has_turn.ensures.stepped

pub returns-clause-stepped : goal.returns-clause-stepped
returns-clause-stepped g c =
    let h = g.H.LoopHosts in
    let l = c.loop-i in
    stepped_within h.settings h.clock h.steps c.args.hosts.now l.hosts (65 * l.i) (65 * length c.args.locals.now) (omega (arith, l.auto.i-end))
    l.invariant.stepped

pub returns-in_err-hears-clause-outside : goal.returns-in_err-hears-clause-outside
returns-in_err-hears-clause-outside g c =
    let n = g.N.Net in
    let o = g.O.Observer in
    let m = g.met.O.Observer in
    let l = c.loop-i in
    let p = err_from_is_err_and c.from_residual.result c.from_residual.ensures.1 in
    rw (p.1, p.2) (outside_on n.known n.faults o.faults o.is_same m.same_self m.same_on c.args.net.now l.net c.hears.new.net c.args.observer.now l.observer
    c.hears.new.observer _ l.invariant.outside c.in_err-hears.ensures.outside)

pub returns-in_err-has_turn-clause-outside : goal.returns-in_err-has_turn-clause-outside
returns-in_err-has_turn-clause-outside g c =
    let n = g.N.Net in
    let o = g.O.Observer in
    let m = g.met.O.Observer in
    let l = c.loop-i in
    let p = err_from_is_err_and c.from_residual-in_err-has_turn.result c.from_residual-in_err-has_turn.ensures.1 in
    rw (p.1, p.2) (outside_on n.known n.faults o.faults o.is_same m.same_self m.same_on c.args.net.now c.hears.new.net c.has_turn.new.net
    c.args.observer.now c.hears.new.observer c.has_turn.new.observer _
    (outside_on n.known n.faults o.faults o.is_same m.same_self m.same_on c.args.net.now l.net c.hears.new.net c.args.observer.now l.observer
    c.hears.new.observer _ l.invariant.outside c.in_ok-hears.ensures.outside) c.in_err-has_turn.ensures.outside)

pub returns-clause-outside : goal.returns-clause-outside
returns-clause-outside g c = c.loop-i.invariant.outside
