use Rattle.std.proofs.Common.{◌≡◌, ◌<◌, ◌≤◌, ◌+◌, ◌*◌, ℕ, Some, List, length, refl, sym, ap, ◌∙◌, subst, arith}
use Rattle.std.specs.List.{AllByRecursion}
use Rattle.std.proofs.lemmas.Result.{err_from_is_err_and}
use Rattle.homa_plain.specs.declared.id.HostId.{HostId}
use Rattle.node_runs.specs.Course.{StalledAt, node_run}
use Rattle.node_turns.specs.Told.{listed, Listed, ListedFront, Hears, AreDone, AreBroken, AreHalted}
use Rattle.node_turns.proofs.Lists.{listed_more, front_listed}
use Rattle.node_turns.proofs.Tellings.{on_stop, midst_never}
use Rattle.node_turns.proofs.Done.{broken_more, halted_more, broken_clock}
use Rattle.node_runs.specs.Acts.{connects}
use Rattle.homa_node.proofs.Connected.{all_served}
use Rattle.std.specs.Prelude.{◌==◌, ◌||◌, nat_lt}
use Rattle.node_script.specs.Heads.{setup_seen}
use Rattle.node_script.specs.Calls.{no_calls}
use Rattle.homa_node.specs.Coming.{calls_ahead, IsIdle, IsAllRead, HasRoom}
use Rattle.homa_node.specs.Started.{HasStarted, HasStopped}
use Rattle.homa_node.specs.Served.{outside, IsServed}
use Rattle.homa_node.proofs.Coming.{room_on, room_wide, read_to_end, locals_there, locals_few}
use Rattle.homa_node.proofs.Turns.{at_none, at_ticked, clock_part, at_clock, at_calls, calls_stopped, at_hosts, hosts_part, at_end, at_wait, at_stall}
use Rattle.homa_node.proofs.Stopped.{midst_stopped, heard_stopped}
use Rattle.homa_node.proofs.Stops.{stopped_never}
use Rattle.homa_node.proofs.Ends.{ends_as, ends_ok, ends_stalled, ends_clock, ends_no_clock, ends_acted, ends_unacted, ends_on}
use Rattle.homa_node.proofs.serving.serve.Goals as goal

pub returns-in_err-node-clause-answered : goal.returns-in_err-node-clause-answered
returns-in_err-node-clause-answered g c =
    let p = err_from_is_err_and c.from_residual.result c.from_residual.ensures.1 in
    rw (p.1, p.2) (λ bytes k. c.in_err-node.ensures.stopped bytes (g.C.Clock.ticks c.args.clock.now) k)

pub loop-done-init : goal.loop-done-init
loop-done-init g c =
    let o = g.O.Observer in
    let h = g.H.LoopHosts in
    let n = g.N.Net in
    let s = g.S.Source in
    let ticks = g.C.Clock.ticks c.args.clock.now in
    let node = c.in_ok-node.node in
    let e = c.in_ok-node.ensures in
    let setup = setup_seen node.setup in
    record {
      far = λ bytes k. at_none node_run o.told o.kept o.strange (g.H.OpenHosts.are_allowed c.args.boxes) bytes
          (outside (o.taken c.args.observer.now) (o.notes c.args.observer.now) (listed (n.acts c.args.net.now) (connects setup.places))
          (n.sent c.args.net.now) (n.gave c.args.net.now) ticks) setup
          (s.left c.open_node.new.source)
          (outside (o.taken c.open_node.new.observer) (o.notes c.open_node.new.observer) (n.acts c.open_node.new.net) (n.sent c.open_node.new.net)
          (n.gave c.open_node.new.net) ticks)
          (h.stands node.hosts) (h.allows node.hosts) 0 _ 0 0 (e.opened bytes ticks k) (omega (arith, e.sound.turns));
      opens = e.opens;
      all = λ bytes k. tt;
      open_at = e.at_go.counted;
      limit = omega (arith, e.at_go.limit);
      room = omega (arith, e.at_go.steps);
      settings = e.at_go.settings;
      now = e.at_go.clock;
      last = omega arith;
      known = e.known;
      ends = ends_ok s.faults n.faults o.faults s.is_same o.is_same c.args.source.now c.open_node.new.source c.args.net.now c.open_node.new.net
          c.args.observer.now c.open_node.new.observer _ _ e.ends;
    }

pub returns-in_err-clock_stands-clause-answered : goal.returns-in_err-clock_stands-clause-answered
returns-in_err-clock_stands-clause-answered g c =
    let o = g.O.Observer in
    let h = g.H.LoopHosts in
    let n = g.N.Net in
    let s = g.S.Source in
    let t = g.C.Clock in
    let l = c.loop-done in
    let may = g.H.OpenHosts.are_allowed c.args.boxes in
    let setup = setup_seen c.in_ok-node.node.setup in
    let tick = c.now-now.result in
    let turn = l.done + 1 in
    let calls = calls_ahead setup l.ahead l.reader in
    let old = outside (o.taken c.args.observer.now) (o.notes c.args.observer.now) (listed (n.acts c.args.net.now) (connects setup.places))
    (n.sent c.args.net.now) (n.gave c.args.net.now) (t.ticks c.args.clock.now) in
    let first = outside (o.taken l.observer) (o.notes l.observer) (n.acts l.net) (n.sent l.net) (n.gave l.net) (t.ticks l.clock) in
    let ticked = outside (o.taken l.observer) (o.notes l.observer) (n.acts l.net) (n.sent l.net) (n.gave l.net) (t.ticks c.now-now.new.self) in
    let clocked = outside (o.taken c.clock_stands.new.observer) (o.notes c.clock_stands.new.observer) (n.acts l.net) (n.sent l.net) (n.gave l.net)
    (t.ticks c.now-now.new.self) in
    let at_tick = λ (bytes : List ℕ) (k : s.left c.args.source.now ≡ Some bytes).
    at_ticked node_run o.told o.kept o.strange may bytes old setup (s.left l.source) first (h.stands l.hosts)
    (h.allows l.hosts) l.now calls l.done l.now turn (omega arith) (l.invariant.far bytes k) c.loop-done-test.true
    tick (t.ticks c.now-now.new.self)
    (omega (arith, l.invariant.last, c.now-now.ensures.never_falls)) c.now-now.ensures.most c.now-now.ensures.given c.now-now.ensures.left in
    let e = c.in_err-clock_stands.ensures in
    let stop = c.in_err-clock_stands.field-0.0 in
    let p = err_from_is_err_and c.from_residual-in_err-clock_stands.result c.from_residual-in_err-clock_stands.ensures.1 in
    rw (p.1, p.2) (λ bytes k. all_served node_run o.told o.kept o.strange (g.H.OpenHosts.are_allowed c.args.boxes) bytes _ _ _
    (connects setup.places) _ (l.invariant.opens bytes k) (
    let part = clock_part node_run o.told o.kept o.strange may bytes old setup (s.left l.source) ticked (h.stands l.hosts)
    (h.allows l.hosts) tick calls turn tick (at_tick bytes k) clocked in
    midst_stopped node_run o.told o.kept o.strange may bytes (s.left l.source) old clocked stop e.midst
    (part (AreBroken o.told o.kept o.strange ticked.taken ticked.notes clocked.taken ticked.acts clocked.acts (Hears 64))
    (AreBroken o.told o.kept o.strange old.taken old.notes clocked.taken old.acts clocked.acts (Hears 64))
    (λ w st. broken_clock o.told o.kept o.strange _ _ _ _ _ tick (turn == 1 || nat_lt w.clock tick) refl (e.cut w st))
    (λ x y p q. broken_more o.told o.kept o.strange old.taken ticked.taken clocked.taken old.notes ticked.notes old.acts ticked.acts clocked.acts
    (Hears 64) (Hears 64) x y p q)
    (g.met.H.LoopHosts.allows_none l.hosts) (λ more a. g.met.H.LoopHosts.allows_clock l.hosts tick more a) refl refl)))

pub returns-in_err-starts-clause-answered : goal.returns-in_err-starts-clause-answered
returns-in_err-starts-clause-answered g c =
    let o = g.O.Observer in
    let h = g.H.LoopHosts in
    let n = g.N.Net in
    let s = g.S.Source in
    let t = g.C.Clock in
    let l = c.loop-done in
    let may = g.H.OpenHosts.are_allowed c.args.boxes in
    let setup = setup_seen c.in_ok-node.node.setup in
    let tick = c.now-now.result in
    let turn = l.done + 1 in
    let calls = calls_ahead setup l.ahead l.reader in
    let old = outside (o.taken c.args.observer.now) (o.notes c.args.observer.now) (listed (n.acts c.args.net.now) (connects setup.places))
    (n.sent c.args.net.now) (n.gave c.args.net.now) (t.ticks c.args.clock.now) in
    let first = outside (o.taken l.observer) (o.notes l.observer) (n.acts l.net) (n.sent l.net) (n.gave l.net) (t.ticks l.clock) in
    let ticked = outside (o.taken l.observer) (o.notes l.observer) (n.acts l.net) (n.sent l.net) (n.gave l.net) (t.ticks c.now-now.new.self) in
    let clocked = outside (o.taken c.clock_stands.new.observer) (o.notes c.clock_stands.new.observer) (n.acts l.net) (n.sent l.net) (n.gave l.net)
    (t.ticks c.now-now.new.self) in
    let at_tick = λ (bytes : List ℕ) (k : s.left c.args.source.now ≡ Some bytes).
    at_ticked node_run o.told o.kept o.strange may bytes old setup (s.left l.source) first (h.stands l.hosts)
    (h.allows l.hosts) l.now calls l.done l.now turn (omega arith) (l.invariant.far bytes k) c.loop-done-test.true
    tick (t.ticks c.now-now.new.self)
    (omega (arith, l.invariant.last, c.now-now.ensures.never_falls)) c.now-now.ensures.most c.now-now.ensures.given c.now-now.ensures.left in
    let at_stand = λ (bytes : List ℕ) (k : s.left c.args.source.now ≡ Some bytes).
    at_clock node_run o.told o.kept o.strange may bytes old setup (s.left l.source) ticked (h.stands l.hosts) (h.allows l.hosts) tick calls turn tick
    (at_tick bytes k)
    no_calls clocked (h.stands c.clock_stands.new.hosts)
    (h.allows c.clock_stands.new.hosts) c.in_ok-clock_stands.ensures.told refl c.in_ok-clock_stands.ensures.allows
    (λ more a. g.met.H.LoopHosts.allows_clock l.hosts tick more a) refl refl refl in
    let one_clock = c.in_ok-clock_stands.ensures.settings ∙ l.invariant.settings in
    let started =
    outside (o.taken c.starts.new.observer) (o.notes c.starts.new.observer) (n.acts c.starts.new.net) (n.sent c.starts.new.net) (n.gave c.starts.new.net)
    (t.ticks c.now-now.new.self) in
    let stop = c.in_err-starts.field-0.0 in
    let p = err_from_is_err_and c.from_residual-in_err-starts.result c.from_residual-in_err-starts.ensures.1 in
    rw (p.1, p.2) (λ bytes k. all_served node_run o.told o.kept o.strange (g.H.OpenHosts.are_allowed c.args.boxes) bytes _ _ _
    (connects setup.places) _ (l.invariant.opens bytes k) (
    calls_stopped node_run o.told o.kept o.strange may bytes old setup (s.left l.source) clocked (h.stands c.clock_stands.new.hosts)
    (h.allows c.clock_stands.new.hosts) tick calls no_calls turn tick (at_stand bytes k)
    (s.left c.starts.new.source) started refl (h.stands c.starts.new.hosts) (h.allows c.starts.new.hosts)
    (g.met.H.LoopHosts.allows_none c.starts.new.hosts) stop
    (subst (λ q. HasStopped q (h.stands c.clock_stands.new.hosts) (h.allows c.clock_stands.new.hosts) (n.sent l.net) (n.sent c.starts.new.net)
    (n.gave l.net) (n.gave c.starts.new.net) (s.left l.source) (s.left c.starts.new.source) calls
    o.told o.kept o.strange (h.stands c.starts.new.hosts) (h.allows c.starts.new.hosts) clocked.taken clocked.notes started.taken started.notes
    clocked.acts started.acts stop)
    one_clock c.in_err-starts.ensures.stopped)))

pub hosts_act-requires-clause-there : goal.hosts_act-requires-clause-there
hosts_act-requires-clause-there g c =
    let h = g.H.LoopHosts in
    let node = c.in_ok-node.node in
    let e = ap (λ q. q.hosts) (c.in_ok-starts.ensures.settings ∙ c.in_ok-clock_stands.ensures.settings ∙ c.loop-done.invariant.settings) in
    subst (AllByRecursion (λ (host : HostId). host.0 < (h.settings c.starts.new.hosts).hosts)) (sym (c.deref.ensures.value ∙ c.in_ok-node.ensures.at_go.locals))
    (locals_there 0 node.setup.places.items (h.settings c.starts.new.hosts).hosts (omega (arith, e, c.in_ok-node.ensures.sound.count)))

pub hosts_act-requires-clause-fit : goal.hosts_act-requires-clause-fit
hosts_act-requires-clause-fit g c =
    let node = c.in_ok-node.node in
    omega (
      arith,
      ap length (c.deref.ensures.value ∙ c.in_ok-node.ensures.at_go.locals),
      locals_few 0 node.setup.places.items,
      c.in_ok-node.ensures.sound.count,
      c.in_ok-node.ensures.sound.valid.in_range.1,
    )

pub returns-in_err-hosts_act-clause-answered : goal.returns-in_err-hosts_act-clause-answered
returns-in_err-hosts_act-clause-answered g c =
    let o = g.O.Observer in
    let h = g.H.LoopHosts in
    let n = g.N.Net in
    let s = g.S.Source in
    let t = g.C.Clock in
    let l = c.loop-done in
    let may = g.H.OpenHosts.are_allowed c.args.boxes in
    let setup = setup_seen c.in_ok-node.node.setup in
    let tick = c.now-now.result in
    let turn = l.done + 1 in
    let calls = calls_ahead setup l.ahead l.reader in
    let old = outside (o.taken c.args.observer.now) (o.notes c.args.observer.now) (listed (n.acts c.args.net.now) (connects setup.places))
    (n.sent c.args.net.now) (n.gave c.args.net.now) (t.ticks c.args.clock.now) in
    let first = outside (o.taken l.observer) (o.notes l.observer) (n.acts l.net) (n.sent l.net) (n.gave l.net) (t.ticks l.clock) in
    let ticked = outside (o.taken l.observer) (o.notes l.observer) (n.acts l.net) (n.sent l.net) (n.gave l.net) (t.ticks c.now-now.new.self) in
    let clocked = outside (o.taken c.clock_stands.new.observer) (o.notes c.clock_stands.new.observer) (n.acts l.net) (n.sent l.net) (n.gave l.net)
    (t.ticks c.now-now.new.self) in
    let at_tick = λ (bytes : List ℕ) (k : s.left c.args.source.now ≡ Some bytes).
    at_ticked node_run o.told o.kept o.strange may bytes old setup (s.left l.source) first (h.stands l.hosts)
    (h.allows l.hosts) l.now calls l.done l.now turn (omega arith) (l.invariant.far bytes k) c.loop-done-test.true
    tick (t.ticks c.now-now.new.self)
    (omega (arith, l.invariant.last, c.now-now.ensures.never_falls)) c.now-now.ensures.most c.now-now.ensures.given c.now-now.ensures.left in
    let at_stand = λ (bytes : List ℕ) (k : s.left c.args.source.now ≡ Some bytes).
    at_clock node_run o.told o.kept o.strange may bytes old setup (s.left l.source) ticked (h.stands l.hosts) (h.allows l.hosts) tick calls turn tick
    (at_tick bytes k)
    no_calls clocked (h.stands c.clock_stands.new.hosts)
    (h.allows c.clock_stands.new.hosts) c.in_ok-clock_stands.ensures.told refl c.in_ok-clock_stands.ensures.allows
    (λ more a. g.met.H.LoopHosts.allows_clock l.hosts tick more a) refl refl refl in
    let one_clock = c.in_ok-clock_stands.ensures.settings ∙ l.invariant.settings in
    let started =
    outside (o.taken c.starts.new.observer) (o.notes c.starts.new.observer) (n.acts c.starts.new.net) (n.sent c.starts.new.net) (n.gave c.starts.new.net)
    (t.ticks c.now-now.new.self) in
    let so_far = AreDone o.told o.kept o.strange (o.taken c.clock_stands.new.observer) (o.notes c.clock_stands.new.observer) (o.taken c.starts.new.observer)
    (o.notes c.starts.new.observer) (n.acts l.net) (n.acts c.starts.new.net) (Hears 64) (Hears 64) in
    let left = calls_ahead setup c.starts.new.ahead c.starts.new.reader in
    let at_started = λ (bytes : List ℕ) (k : s.left c.args.source.now ≡ Some bytes).
    at_calls node_run o.told o.kept o.strange may bytes old setup (s.left l.source) clocked (h.stands c.clock_stands.new.hosts)
    (h.allows c.clock_stands.new.hosts) tick calls no_calls turn tick (at_stand bytes k)
    (s.left c.starts.new.source) started refl (h.stands c.starts.new.hosts) (h.allows c.starts.new.hosts) c.starts.new.ahead c.starts.new.reader
    (subst (λ q. HasStarted q (h.stands c.clock_stands.new.hosts) (h.allows c.clock_stands.new.hosts) (n.sent l.net) (n.sent c.starts.new.net)
    (n.gave l.net) (n.gave c.starts.new.net) (s.left l.source) (s.left c.starts.new.source) calls
    (h.stands c.starts.new.hosts) (h.allows c.starts.new.hosts) so_far left) one_clock c.in_ok-starts.ensures.started)
    c.in_ok-starts.ensures.waits in
    let one_start = c.in_ok-starts.ensures.settings ∙ one_clock in
    let acted = outside (o.taken c.hosts_act.new.observer) (o.notes c.hosts_act.new.observer) (n.acts c.hosts_act.new.net)
    (n.sent c.hosts_act.new.net) (n.gave c.hosts_act.new.net)
    (t.ticks c.now-now.new.self) in
    let e = c.in_err-hosts_act.ensures in
    let stop = c.in_err-hosts_act.field-0.0 in
    let p = err_from_is_err_and c.from_residual-in_err-hosts_act.result c.from_residual-in_err-hosts_act.ensures.1 in
    rw (p.1, p.2) (λ bytes k. all_served node_run o.told o.kept o.strange (g.H.OpenHosts.are_allowed c.args.boxes) bytes _ _ _
    (connects setup.places) _ (l.invariant.opens bytes k) (
    let part = hosts_part node_run o.told o.kept o.strange may bytes old setup (s.left c.starts.new.source) started (h.stands c.starts.new.hosts)
    (h.allows c.starts.new.hosts) tick left turn tick (at_started bytes k) acted
    (h.settings c.starts.new.hosts) one_start c.deref.result.now (c.deref.ensures.value ∙ c.in_ok-node.ensures.at_go.locals) in
    heard_stopped node_run o.told o.kept o.strange may bytes (s.left c.starts.new.source) old acted stop e.midst
    (part (AreBroken o.told o.kept o.strange started.taken started.notes acted.taken started.acts acted.acts (Hears 64))
    (AreBroken o.told o.kept o.strange old.taken old.notes acted.taken old.acts acted.acts (Hears 64))
    (ListedFront started.sent acted.sent) (ListedFront old.sent acted.sent) e.cut
    (λ x y p q. broken_more o.told o.kept o.strange old.taken started.taken acted.taken old.notes started.notes old.acts started.acts acted.acts
    (Hears 64) (Hears 64) x y p q)
    (λ x y p q. front_listed old.sent started.sent acted.sent x y p q))
    (on_stop (Unit {0}) (Unit {0}) stop _ _ (λ f.
    part (AreHalted o.told o.kept o.strange started.taken started.notes acted.taken started.acts acted.acts (Hears 64))
    (AreHalted o.told o.kept o.strange old.taken old.notes acted.taken old.acts acted.acts (Hears 64))
    (Listed started.sent acted.sent) (Listed old.sent acted.sent) f
    (λ x y p q. halted_more o.told o.kept o.strange old.taken started.taken acted.taken old.notes started.notes old.acts started.acts acted.acts
    (Hears 64) (Hears 64) x y p q)
    (λ x y p q. listed_more old.sent started.sent acted.sent x y p q)) e.strange)))

pub returns-in_err-node-clause-some_strange : goal.returns-in_err-node-clause-some_strange
returns-in_err-node-clause-some_strange g c =
    let p = err_from_is_err_and c.from_residual.result c.from_residual.ensures.1 in
    rw (p.1, p.2) (on_stop (Unit {0}) (Unit {0}) c.in_err-node.field-0.0 _ _ (λ f. absurd f) c.in_err-node.ensures.never_strange)

pub returns-in_err-clock_stands-clause-some_strange : goal.returns-in_err-clock_stands-clause-some_strange
returns-in_err-clock_stands-clause-some_strange g c =
    let p = err_from_is_err_and c.from_residual-in_err-clock_stands.result c.from_residual-in_err-clock_stands.ensures.1 in
    rw (p.1, p.2) (midst_never (Unit {0}) c.in_err-clock_stands.field-0.0 _ c.in_err-clock_stands.ensures.midst)

pub returns-in_err-starts-clause-some_strange : goal.returns-in_err-starts-clause-some_strange
returns-in_err-starts-clause-some_strange g c =
    let p = err_from_is_err_and c.from_residual-in_err-starts.result c.from_residual-in_err-starts.ensures.1 in
    rw (p.1, p.2) (stopped_never _ _ _ _ _ _ _ _ _ _ _ _ _ _ _ _ _ _ _ _ _ (Unit {0}) _ c.in_err-starts.field-0.0 c.in_err-starts.ensures.stopped)

pub returns-in_err-hosts_act-clause-some_strange : goal.returns-in_err-hosts_act-clause-some_strange
returns-in_err-hosts_act-clause-some_strange g c =
    let p = err_from_is_err_and c.from_residual-in_err-hosts_act.result c.from_residual-in_err-hosts_act.ensures.1 in
    rw (p.1, p.2) (on_stop (Unit {0}) (Unit {0}) c.in_err-hosts_act.field-0.0 _ _ (λ f. f) c.in_err-hosts_act.ensures.some_strange)

pub returns-then-setup-now-clause-answered : goal.returns-then-setup-now-clause-answered
returns-then-setup-now-clause-answered g c =
    let o = g.O.Observer in
    let h = g.H.LoopHosts in
    let n = g.N.Net in
    let s = g.S.Source in
    let t = g.C.Clock in
    let l = c.loop-done in
    let may = g.H.OpenHosts.are_allowed c.args.boxes in
    let setup = setup_seen c.in_ok-node.node.setup in
    let tick = c.now-now.result in
    let turn = l.done + 1 in
    let calls = calls_ahead setup l.ahead l.reader in
    let old = outside (o.taken c.args.observer.now) (o.notes c.args.observer.now) (listed (n.acts c.args.net.now) (connects setup.places))
    (n.sent c.args.net.now) (n.gave c.args.net.now) (t.ticks c.args.clock.now) in
    let first = outside (o.taken l.observer) (o.notes l.observer) (n.acts l.net) (n.sent l.net) (n.gave l.net) (t.ticks l.clock) in
    let ticked = outside (o.taken l.observer) (o.notes l.observer) (n.acts l.net) (n.sent l.net) (n.gave l.net) (t.ticks c.now-now.new.self) in
    let clocked = outside (o.taken c.clock_stands.new.observer) (o.notes c.clock_stands.new.observer) (n.acts l.net) (n.sent l.net) (n.gave l.net)
    (t.ticks c.now-now.new.self) in
    let at_tick = λ (bytes : List ℕ) (k : s.left c.args.source.now ≡ Some bytes).
    at_ticked node_run o.told o.kept o.strange may bytes old setup (s.left l.source) first (h.stands l.hosts)
    (h.allows l.hosts) l.now calls l.done l.now turn (omega arith) (l.invariant.far bytes k) c.loop-done-test.true
    tick (t.ticks c.now-now.new.self)
    (omega (arith, l.invariant.last, c.now-now.ensures.never_falls)) c.now-now.ensures.most c.now-now.ensures.given c.now-now.ensures.left in
    let at_stand = λ (bytes : List ℕ) (k : s.left c.args.source.now ≡ Some bytes).
    at_clock node_run o.told o.kept o.strange may bytes old setup (s.left l.source) ticked (h.stands l.hosts) (h.allows l.hosts) tick calls turn tick
    (at_tick bytes k)
    no_calls clocked (h.stands c.clock_stands.new.hosts)
    (h.allows c.clock_stands.new.hosts) c.in_ok-clock_stands.ensures.told refl c.in_ok-clock_stands.ensures.allows
    (λ more a. g.met.H.LoopHosts.allows_clock l.hosts tick more a) refl refl refl in
    let one_clock = c.in_ok-clock_stands.ensures.settings ∙ l.invariant.settings in
    let started =
    outside (o.taken c.starts.new.observer) (o.notes c.starts.new.observer) (n.acts c.starts.new.net) (n.sent c.starts.new.net) (n.gave c.starts.new.net)
    (t.ticks c.now-now.new.self) in
    let so_far = AreDone o.told o.kept o.strange (o.taken c.clock_stands.new.observer) (o.notes c.clock_stands.new.observer) (o.taken c.starts.new.observer)
    (o.notes c.starts.new.observer) (n.acts l.net) (n.acts c.starts.new.net) (Hears 64) (Hears 64) in
    let left = calls_ahead setup c.starts.new.ahead c.starts.new.reader in
    let at_started = λ (bytes : List ℕ) (k : s.left c.args.source.now ≡ Some bytes).
    at_calls node_run o.told o.kept o.strange may bytes old setup (s.left l.source) clocked (h.stands c.clock_stands.new.hosts)
    (h.allows c.clock_stands.new.hosts) tick calls no_calls turn tick (at_stand bytes k)
    (s.left c.starts.new.source) started refl (h.stands c.starts.new.hosts) (h.allows c.starts.new.hosts) c.starts.new.ahead c.starts.new.reader
    (subst (λ q. HasStarted q (h.stands c.clock_stands.new.hosts) (h.allows c.clock_stands.new.hosts) (n.sent l.net) (n.sent c.starts.new.net)
    (n.gave l.net) (n.gave c.starts.new.net) (s.left l.source) (s.left c.starts.new.source) calls
    (h.stands c.starts.new.hosts) (h.allows c.starts.new.hosts) so_far left) one_clock c.in_ok-starts.ensures.started)
    c.in_ok-starts.ensures.waits in
    let one_start = c.in_ok-starts.ensures.settings ∙ one_clock in
    let acted = outside (o.taken c.hosts_act.new.observer) (o.notes c.hosts_act.new.observer) (n.acts c.hosts_act.new.net)
    (n.sent c.hosts_act.new.net) (n.gave c.hosts_act.new.net)
    (t.ticks c.now-now.new.self) in
    let at_acted = λ (bytes : List ℕ) (k : s.left c.args.source.now ≡ Some bytes).
    at_hosts node_run o.told o.kept o.strange may bytes old setup (s.left c.starts.new.source) started (h.stands c.starts.new.hosts)
    (h.allows c.starts.new.hosts) tick left turn tick (at_started bytes k) acted
    (h.settings c.starts.new.hosts) one_start c.deref.result.now (c.deref.ensures.value ∙ c.in_ok-node.ensures.at_go.locals) (h.stands c.hosts_act.new.hosts)
    (h.allows c.hosts_act.new.hosts) c.in_ok-hosts_act.ensures.acted refl in
    let all_read = λ (bytes : List ℕ) (k : s.left c.args.source.now ≡ Some bytes).
    let d = (l.invariant.far bytes k).far.read in
    c.in_ok-starts.ensures.all d.rest d.has_left (subst (IsAllRead l.ahead) d.has_left (l.invariant.all bytes k)) in
    λ bytes k. all_served node_run o.told o.kept o.strange (g.H.OpenHosts.are_allowed c.args.boxes) bytes _ _ _ (connects setup.places) _
    (l.invariant.opens bytes k) (
      at_end node_run o.told o.kept o.strange may bytes old setup (s.left c.starts.new.source) acted (h.stands c.hosts_act.new.hosts)
          (h.allows c.hosts_act.new.hosts) tick left turn tick (at_acted bytes k) c.if-setup-now.true
          (g.met.H.LoopHosts.allows_none c.hosts_act.new.hosts),
      read_to_end c.in_ok-node.node.setup c.starts.new.ahead c.starts.new.reader tick (s.left c.starts.new.source) c.in_ok-starts.ensures.counted
          (subst (IsIdle c.starts.new.ahead) (c.in_ok-starts.ensures.clock ∙ c.in_ok-clock_stands.ensures.clock) c.in_ok-starts.ensures.idle)
          c.if-setup-now.true (all_read bytes k),
    )

pub loop-done-preserved : goal.loop-done-preserved
loop-done-preserved g c =
    let o = g.O.Observer in
    let h = g.H.LoopHosts in
    let n = g.N.Net in
    let s = g.S.Source in
    let t = g.C.Clock in
    let l = c.loop-done in
    let may = g.H.OpenHosts.are_allowed c.args.boxes in
    let setup = setup_seen c.in_ok-node.node.setup in
    let tick = c.now-now.result in
    let turn = l.done + 1 in
    let calls = calls_ahead setup l.ahead l.reader in
    let old = outside (o.taken c.args.observer.now) (o.notes c.args.observer.now) (listed (n.acts c.args.net.now) (connects setup.places))
    (n.sent c.args.net.now) (n.gave c.args.net.now) (t.ticks c.args.clock.now) in
    let first = outside (o.taken l.observer) (o.notes l.observer) (n.acts l.net) (n.sent l.net) (n.gave l.net) (t.ticks l.clock) in
    let ticked = outside (o.taken l.observer) (o.notes l.observer) (n.acts l.net) (n.sent l.net) (n.gave l.net) (t.ticks c.now-now.new.self) in
    let clocked = outside (o.taken c.clock_stands.new.observer) (o.notes c.clock_stands.new.observer) (n.acts l.net) (n.sent l.net) (n.gave l.net)
    (t.ticks c.now-now.new.self) in
    let at_tick = λ (bytes : List ℕ) (k : s.left c.args.source.now ≡ Some bytes).
    at_ticked node_run o.told o.kept o.strange may bytes old setup (s.left l.source) first (h.stands l.hosts)
    (h.allows l.hosts) l.now calls l.done l.now turn (omega arith) (l.invariant.far bytes k) c.loop-done-test.true
    tick (t.ticks c.now-now.new.self)
    (omega (arith, l.invariant.last, c.now-now.ensures.never_falls)) c.now-now.ensures.most c.now-now.ensures.given c.now-now.ensures.left in
    let at_stand = λ (bytes : List ℕ) (k : s.left c.args.source.now ≡ Some bytes).
    at_clock node_run o.told o.kept o.strange may bytes old setup (s.left l.source) ticked (h.stands l.hosts) (h.allows l.hosts) tick calls turn tick
    (at_tick bytes k)
    no_calls clocked (h.stands c.clock_stands.new.hosts)
    (h.allows c.clock_stands.new.hosts) c.in_ok-clock_stands.ensures.told refl c.in_ok-clock_stands.ensures.allows
    (λ more a. g.met.H.LoopHosts.allows_clock l.hosts tick more a) refl refl refl in
    let one_clock = c.in_ok-clock_stands.ensures.settings ∙ l.invariant.settings in
    let started =
    outside (o.taken c.starts.new.observer) (o.notes c.starts.new.observer) (n.acts c.starts.new.net) (n.sent c.starts.new.net) (n.gave c.starts.new.net)
    (t.ticks c.now-now.new.self) in
    let so_far = AreDone o.told o.kept o.strange (o.taken c.clock_stands.new.observer) (o.notes c.clock_stands.new.observer) (o.taken c.starts.new.observer)
    (o.notes c.starts.new.observer) (n.acts l.net) (n.acts c.starts.new.net) (Hears 64) (Hears 64) in
    let left = calls_ahead setup c.starts.new.ahead c.starts.new.reader in
    let at_started = λ (bytes : List ℕ) (k : s.left c.args.source.now ≡ Some bytes).
    at_calls node_run o.told o.kept o.strange may bytes old setup (s.left l.source) clocked (h.stands c.clock_stands.new.hosts)
    (h.allows c.clock_stands.new.hosts) tick calls no_calls turn tick (at_stand bytes k)
    (s.left c.starts.new.source) started refl (h.stands c.starts.new.hosts) (h.allows c.starts.new.hosts) c.starts.new.ahead c.starts.new.reader
    (subst (λ q. HasStarted q (h.stands c.clock_stands.new.hosts) (h.allows c.clock_stands.new.hosts) (n.sent l.net) (n.sent c.starts.new.net)
    (n.gave l.net) (n.gave c.starts.new.net) (s.left l.source) (s.left c.starts.new.source) calls
    (h.stands c.starts.new.hosts) (h.allows c.starts.new.hosts) so_far left) one_clock c.in_ok-starts.ensures.started)
    c.in_ok-starts.ensures.waits in
    let one_start = c.in_ok-starts.ensures.settings ∙ one_clock in
    let acted = outside (o.taken c.hosts_act.new.observer) (o.notes c.hosts_act.new.observer) (n.acts c.hosts_act.new.net)
    (n.sent c.hosts_act.new.net) (n.gave c.hosts_act.new.net)
    (t.ticks c.now-now.new.self) in
    let at_acted = λ (bytes : List ℕ) (k : s.left c.args.source.now ≡ Some bytes).
    at_hosts node_run o.told o.kept o.strange may bytes old setup (s.left c.starts.new.source) started (h.stands c.starts.new.hosts)
    (h.allows c.starts.new.hosts) tick left turn tick (at_started bytes k) acted
    (h.settings c.starts.new.hosts) one_start c.deref.result.now (c.deref.ensures.value ∙ c.in_ok-node.ensures.at_go.locals) (h.stands c.hosts_act.new.hosts)
    (h.allows c.hosts_act.new.hosts) c.in_ok-hosts_act.ensures.acted refl in
    let all_read = λ (bytes : List ℕ) (k : s.left c.args.source.now ≡ Some bytes).
    let d = (l.invariant.far bytes k).far.read in
    c.in_ok-starts.ensures.all d.rest d.has_left (subst (IsAllRead l.ahead) d.has_left (l.invariant.all bytes k)) in
    let first_steps = subst (λ (x : ℕ). HasRoom (2080 * l.done) x l.ahead l.reader) (sym c.in_ok-clock_stands.ensures.steps) l.invariant.room in
    let node = c.in_ok-node.node in
    let fit : length c.deref.result.now ≤ 32 =
    omega (
      arith,
      ap length (c.deref.ensures.value ∙ c.in_ok-node.ensures.at_go.locals),
      locals_few 0 node.setup.places.items,
      c.in_ok-node.ensures.sound.count,
      c.in_ok-node.ensures.sound.valid.in_range.1,
    ) in
    record {
      far = λ bytes k. at_wait node_run o.told o.kept o.strange may bytes old setup (s.left c.starts.new.source) acted (h.stands c.hosts_act.new.hosts)
          (h.allows c.hosts_act.new.hosts) tick left turn tick (at_acted bytes k) c.if-setup-now.false;
      opens = l.invariant.opens;
      all = all_read;
      open_at = c.in_ok-starts.ensures.counted;
      limit = omega (arith, c.in_ok-starts.ensures.limit, l.invariant.limit);
      room = room_wide (2080 * l.done + 2080) (2080 * (l.done + 1)) (h.steps c.hosts_act.new.hosts) c.starts.new.ahead c.starts.new.reader
          (room_on (2080 * l.done) 2080 (h.steps c.starts.new.hosts) (h.steps c.hosts_act.new.hosts) c.starts.new.ahead c.starts.new.reader
          (c.in_ok-starts.ensures.room (2080 * l.done) first_steps)
          (omega (arith, c.in_ok-hosts_act.ensures.stepped.steps, fit)))
          (omega arith);
      settings = c.in_ok-hosts_act.ensures.stepped.settings ∙ one_start;
      now = c.in_ok-hosts_act.ensures.stepped.clock ∙ c.in_ok-starts.ensures.clock ∙ c.in_ok-clock_stands.ensures.clock;
      last = omega (arith, c.now-now.ensures.last);
      known = λ id. ap (λ f. f id) (c.in_ok-hosts_act.ensures.outside.known ∙ c.in_ok-starts.ensures.known) ∙ l.invariant.known id;
      ends =
          let sm = g.met.S.Source in
          let m = g.met.O.Observer in
          ends_on s.faults n.faults o.faults s.is_same o.is_same sm.same_self sm.same_on m.same_self m.same_on c.args.source.now l.source
          c.starts.new.source c.args.net.now l.net c.hosts_act.new.net c.args.observer.now l.observer c.hosts_act.new.observer _ l.invariant.ends
          (ends_on s.faults n.faults o.faults s.is_same o.is_same sm.same_self sm.same_on m.same_self m.same_on l.source l.source
          c.starts.new.source l.net l.net c.hosts_act.new.net l.observer c.clock_stands.new.observer c.hosts_act.new.observer _
          (ends_clock s.faults n.faults o.faults s.is_same o.is_same sm.same_self sm.same_on m.same_self m.same_on l.source l.net l.observer
          c.clock_stands.new.observer _ c.in_ok-clock_stands.ensures.faults c.in_ok-clock_stands.ensures.same)
          (ends_on s.faults n.faults o.faults s.is_same o.is_same sm.same_self sm.same_on m.same_self m.same_on l.source c.starts.new.source
          c.starts.new.source l.net c.starts.new.net c.hosts_act.new.net c.clock_stands.new.observer c.starts.new.observer c.hosts_act.new.observer _
          c.in_ok-starts.ensures.ends
          (ends_acted s.faults n.faults o.faults s.is_same o.is_same sm.same_self sm.same_on m.same_self m.same_on n.known c.starts.new.source
          c.starts.new.net c.hosts_act.new.net c.starts.new.observer c.hosts_act.new.observer _ c.in_ok-hosts_act.ensures.outside)));
    }

pub returns-clause-answered : goal.returns-clause-answered
returns-clause-answered g c =
    let o = g.O.Observer in
    let h = g.H.LoopHosts in
    let n = g.N.Net in
    let s = g.S.Source in
    let t = g.C.Clock in
    let l = c.loop-done in
    let may = g.H.OpenHosts.are_allowed c.args.boxes in
    let setup = setup_seen c.in_ok-node.node.setup in
    let old = outside (o.taken c.args.observer.now) (o.notes c.args.observer.now) (listed (n.acts c.args.net.now) (connects setup.places))
    (n.sent c.args.net.now) (n.gave c.args.net.now) (t.ticks c.args.clock.now) in
    let last = outside (o.taken l.observer) (o.notes l.observer) (n.acts l.net) (n.sent l.net) (n.gave l.net) (t.ticks l.clock) in
    let whole : l.done ≡ c.in_ok-node.node.setup.turns = omega (arith, c.loop-done-test.false, l.auto.done-end) in
    λ bytes k. all_served node_run o.told o.kept o.strange (g.H.OpenHosts.are_allowed c.args.boxes) bytes _ _ _ (connects setup.places) _
    (l.invariant.opens bytes k) (subst (λ (m : ℕ). IsServed node_run o.told o.kept o.strange may bytes old last (StalledAt m l.now)) whole
    (at_stall node_run o.told o.kept o.strange may bytes old setup (s.left l.source) last (h.stands l.hosts) (h.allows l.hosts) l.now
    (calls_ahead setup l.ahead l.reader) l.done l.now (l.invariant.far bytes k)
    (omega (arith, c.loop-done-test.false)) (g.met.H.LoopHosts.allows_none l.hosts)))

pub returns-in_err-node-clause-ends : goal.returns-in_err-node-clause-ends
returns-in_err-node-clause-ends g c =
    let n = g.N.Net in
    let s = g.S.Source in
    let o = g.O.Observer in
    let p = err_from_is_err_and c.from_residual.result c.from_residual.ensures.1 in
    rw (p.1, p.2) (ends_as s.faults n.faults o.faults s.is_same o.is_same c.args.source.now c.open_node.new.source c.args.net.now c.open_node.new.net
    c.args.observer.now
    c.open_node.new.observer c.in_err-node.field-0.0 c.in_err-node.ensures.ends)

pub returns-in_err-clock_stands-clause-ends : goal.returns-in_err-clock_stands-clause-ends
returns-in_err-clock_stands-clause-ends g c =
    let n = g.N.Net in
    let s = g.S.Source in
    let sm = g.met.S.Source in
    let o = g.O.Observer in
    let m = g.met.O.Observer in
    let l = c.loop-done in
    let e = c.in_err-clock_stands.ensures in
    let p = err_from_is_err_and c.from_residual-in_err-clock_stands.result c.from_residual-in_err-clock_stands.ensures.1 in
    rw (p.1, p.2) (ends_on s.faults n.faults o.faults s.is_same o.is_same sm.same_self sm.same_on m.same_self m.same_on c.args.source.now l.source
    l.source c.args.net.now l.net l.net c.args.observer.now l.observer c.clock_stands.new.observer _ l.invariant.ends
    (ends_no_clock s.faults n.faults o.faults s.is_same o.is_same sm.same_self sm.same_on m.same_self m.same_on (Unit {0}) l.source l.net l.observer
    c.clock_stands.new.observer c.in_err-clock_stands.field-0.0 e.faults e.same))

pub returns-in_err-starts-clause-ends : goal.returns-in_err-starts-clause-ends
returns-in_err-starts-clause-ends g c =
    let n = g.N.Net in
    let s = g.S.Source in
    let sm = g.met.S.Source in
    let o = g.O.Observer in
    let m = g.met.O.Observer in
    let l = c.loop-done in
    let p = err_from_is_err_and c.from_residual-in_err-starts.result c.from_residual-in_err-starts.ensures.1 in
    rw (p.1, p.2) (ends_on s.faults n.faults o.faults s.is_same o.is_same sm.same_self sm.same_on m.same_self m.same_on c.args.source.now l.source
    c.starts.new.source c.args.net.now l.net c.starts.new.net c.args.observer.now l.observer c.starts.new.observer _ l.invariant.ends
    (ends_on s.faults n.faults o.faults s.is_same o.is_same sm.same_self sm.same_on m.same_self m.same_on l.source l.source
    c.starts.new.source l.net l.net c.starts.new.net l.observer c.clock_stands.new.observer c.starts.new.observer _
    (ends_clock s.faults n.faults o.faults s.is_same o.is_same sm.same_self sm.same_on m.same_self m.same_on l.source l.net l.observer
    c.clock_stands.new.observer _ c.in_ok-clock_stands.ensures.faults c.in_ok-clock_stands.ensures.same)
    (ends_as s.faults n.faults o.faults s.is_same o.is_same l.source c.starts.new.source l.net c.starts.new.net c.clock_stands.new.observer
    c.starts.new.observer c.in_err-starts.field-0.0 c.in_err-starts.ensures.ends)))

pub returns-in_err-hosts_act-clause-ends : goal.returns-in_err-hosts_act-clause-ends
returns-in_err-hosts_act-clause-ends g c =
    let n = g.N.Net in
    let s = g.S.Source in
    let sm = g.met.S.Source in
    let o = g.O.Observer in
    let m = g.met.O.Observer in
    let l = c.loop-done in
    let p = err_from_is_err_and c.from_residual-in_err-hosts_act.result c.from_residual-in_err-hosts_act.ensures.1 in
    rw (p.1, p.2) (ends_on s.faults n.faults o.faults s.is_same o.is_same sm.same_self sm.same_on m.same_self m.same_on c.args.source.now l.source
    c.starts.new.source c.args.net.now l.net c.hosts_act.new.net c.args.observer.now l.observer c.hosts_act.new.observer _ l.invariant.ends
    (ends_on s.faults n.faults o.faults s.is_same o.is_same sm.same_self sm.same_on m.same_self m.same_on l.source l.source
    c.starts.new.source l.net l.net c.hosts_act.new.net l.observer c.clock_stands.new.observer c.hosts_act.new.observer _
    (ends_clock s.faults n.faults o.faults s.is_same o.is_same sm.same_self sm.same_on m.same_self m.same_on l.source l.net l.observer
    c.clock_stands.new.observer _ c.in_ok-clock_stands.ensures.faults c.in_ok-clock_stands.ensures.same)
    (ends_on s.faults n.faults o.faults s.is_same o.is_same sm.same_self sm.same_on m.same_self m.same_on l.source c.starts.new.source
    c.starts.new.source l.net c.starts.new.net c.hosts_act.new.net c.clock_stands.new.observer c.starts.new.observer c.hosts_act.new.observer _
    c.in_ok-starts.ensures.ends
    (ends_unacted s.faults n.faults o.faults s.is_same o.is_same sm.same_self sm.same_on m.same_self m.same_on n.known c.starts.new.source
    c.starts.new.net c.hosts_act.new.net c.starts.new.observer c.hosts_act.new.observer c.in_err-hosts_act.field-0.0
    c.in_err-hosts_act.ensures.outside))))

pub returns-then-setup-now-clause-ends : goal.returns-then-setup-now-clause-ends
returns-then-setup-now-clause-ends g c =
    let n = g.N.Net in
    let s = g.S.Source in
    let sm = g.met.S.Source in
    let o = g.O.Observer in
    let m = g.met.O.Observer in
    let l = c.loop-done in
    ends_on s.faults n.faults o.faults s.is_same o.is_same sm.same_self sm.same_on m.same_self m.same_on c.args.source.now l.source
    c.starts.new.source c.args.net.now l.net c.hosts_act.new.net c.args.observer.now l.observer c.hosts_act.new.observer _ l.invariant.ends
    (ends_on s.faults n.faults o.faults s.is_same o.is_same sm.same_self sm.same_on m.same_self m.same_on l.source l.source
    c.starts.new.source l.net l.net c.hosts_act.new.net l.observer c.clock_stands.new.observer c.hosts_act.new.observer _
    (ends_clock s.faults n.faults o.faults s.is_same o.is_same sm.same_self sm.same_on m.same_self m.same_on l.source l.net l.observer
    c.clock_stands.new.observer _ c.in_ok-clock_stands.ensures.faults c.in_ok-clock_stands.ensures.same)
    (ends_on s.faults n.faults o.faults s.is_same o.is_same sm.same_self sm.same_on m.same_self m.same_on l.source c.starts.new.source
    c.starts.new.source l.net c.starts.new.net c.hosts_act.new.net c.clock_stands.new.observer c.starts.new.observer c.hosts_act.new.observer _
    c.in_ok-starts.ensures.ends
    (ends_acted s.faults n.faults o.faults s.is_same o.is_same sm.same_self sm.same_on m.same_self m.same_on n.known c.starts.new.source
    c.starts.new.net c.hosts_act.new.net c.starts.new.observer c.hosts_act.new.observer _ c.in_ok-hosts_act.ensures.outside)))

pub returns-clause-ends : goal.returns-clause-ends
returns-clause-ends g c =
    let n = g.N.Net in
    let s = g.S.Source in
    let o = g.O.Observer in
    let l = c.loop-done in
    ends_stalled s.faults n.faults o.faults s.is_same o.is_same c.args.source.now l.source c.args.net.now l.net c.args.observer.now l.observer _ _
    l.invariant.ends
