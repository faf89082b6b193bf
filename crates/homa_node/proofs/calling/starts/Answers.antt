use Rattle.std.proofs.Common.{◌≡◌, ◌≤◌, List, Some, refl, sym, ap, ◌∙◌, subst, ℕ}
use Rattle.std.proofs.lemmas.Result.{err_from_is_err_and}
use Rattle.node_runs.specs.Script.{with_call}
use Rattle.node_turns.specs.Told.{Hears, AreDone}
use Rattle.node_turns.proofs.Done.{gone_none, gone_more}
use Rattle.script_lines.specs.Read.{IsRead}
use Rattle.script_lines.proofs.ReadParts.{read_start}
use Rattle.node_script.specs.Heads.{setup_seen}
use Rattle.node_script.specs.Calls.{calls_left}
use Rattle.homa_node.specs.Starting.{called}
use Rattle.homa_node.specs.Coming.{calls_ahead, IsAllRead}
use Rattle.homa_node.proofs.Coming.{room_taken}
use Rattle.homa_node.proofs.Started.{started_none, started_as, started_looked, started_call}
use Rattle.homa_node.proofs.Stops.{look_stopped, call_stopped}
use Rattle.homa_node.proofs.Ends.{ends_read, ends_unread, ends_acted, ends_unacted, ends_on}
use Rattle.homa_node.proofs.calling.starts.Goals as goal

pub returns-in_err-look-clause-stopped : goal.returns-in_err-look-clause-stopped
returns-in_err-look-clause-stopped g c =
    let o = g.O.Observer in
    let h = g.H.LoopHosts in
    let n = g.N.Net in
    let s = g.S.Source in
    let hosts = c.args.hosts.now in
    let setup = setup_seen c.args.setup.now in
    let due = calls_ahead setup c.args.ahead.now c.args.reader.now in
    let taken = o.taken c.args.observer.now in
    let notes = o.notes c.args.observer.now in
    let p = err_from_is_err_and c.from_residual.result c.from_residual.ensures.1 in
    rw (p.1, p.2) (look_stopped (h.settings hosts) (h.stands hosts) (h.allows hosts) (n.sent c.args.net.now) (n.gave c.args.net.now)
    (s.left c.args.source.now) due o.told o.kept o.strange taken notes (n.acts c.args.net.now)
    (n.sent c.args.net.now) (n.gave c.args.net.now) (s.left c.args.source.now) (h.stands hosts)
    (h.allows hosts) taken notes (n.acts c.args.net.now) setup c.args.ahead.now c.look.new.ahead c.args.reader.now c.look.new.reader _ c.in_err-look.field-0.0
    (started_none (h.settings hosts) (h.stands hosts) (h.allows hosts) (n.sent c.args.net.now) (n.gave c.args.net.now) (s.left c.args.source.now) due
    (s.left c.args.source.now)
    (AreDone o.told o.kept o.strange taken notes taken notes (n.acts c.args.net.now) (n.acts c.args.net.now) (Hears 64) (Hears 64)) due
    (gone_none o.told o.kept o.strange taken notes (n.acts c.args.net.now) (Hears 64))
    (λ bytes k. read_start bytes (s.left c.args.source.now) due k))
    c.in_err-look.ensures.stops c.in_err-look.ensures.looked (g.met.H.LoopHosts.allows_none hosts))

pub calls-init : goal.calls-init
calls-init g c =
    let o = g.O.Observer in
    let h = g.H.LoopHosts in
    let n = g.N.Net in
    let s = g.S.Source in
    let hosts = c.args.hosts.now in
    let setup = setup_seen c.args.setup.now in
    let e = c.in_ok-look.ensures in
    record {
      started = started_none (h.settings hosts) (h.stands hosts) (h.allows hosts) (n.sent c.args.net.now) (n.gave c.args.net.now) (s.left c.args.source.now)
          (calls_ahead setup c.args.ahead.now c.args.reader.now) (s.left c.look.new.source)
          _ (calls_ahead setup c.look.new.ahead c.look.new.reader)
          (gone_none o.told o.kept o.strange (o.taken c.args.observer.now) (o.notes c.args.observer.now) (n.acts c.args.net.now) (Hears 64))
          (λ bytes k. (e.looked bytes k).0);
      all = λ bytes k a. (e.looked bytes k).1 a;
      known = e.known;
      counted = e.counted;
      limit = e.limit;
      room = λ most r. e.room most (h.steps hosts) r;
      settings = refl;
      clock = refl;
      hosts = refl;
      ends = ends_read s.faults n.faults o.faults s.is_same o.is_same g.met.S.Source.same_self g.met.S.Source.same_on g.met.O.Observer.same_self
          g.met.O.Observer.same_on c.args.source.now c.look.new.source c.args.net.now c.args.observer.now _ e.faults e.same;
    }

pub returns-in_err-start_call-clause-stopped : goal.returns-in_err-start_call-clause-stopped
returns-in_err-start_call-clause-stopped g c =
    let o = g.O.Observer in
    let h = g.H.LoopHosts in
    let n = g.N.Net in
    let s = g.S.Source in
    let l = c.calls in
    let hosts = c.args.hosts.now in
    let setup = setup_seen c.args.setup.now in
    let call = called c.in-Some.call c.request.result.now in
    let left = calls_left setup l.reader.least l.reader.place in
    let p = err_from_is_err_and c.from_residual-in_err-start_call.result c.from_residual-in_err-start_call.ensures.1 in
    rw (p.1, p.2) (call_stopped (h.settings hosts) (h.stands hosts) (h.allows hosts) (n.sent c.args.net.now) (n.gave c.args.net.now)
    (s.left c.args.source.now) (calls_ahead setup c.args.ahead.now c.args.reader.now)
    o.told o.kept o.strange (o.taken c.args.observer.now) (o.notes c.args.observer.now) (n.acts c.args.net.now)
    (n.sent l.net) (n.gave l.net) (s.left l.source) (h.stands l.hosts) (h.allows l.hosts) (o.taken l.observer) (o.notes l.observer) (n.acts l.net) call left
    (started_as (h.settings hosts) (h.stands hosts) (h.allows hosts) (n.sent c.args.net.now) (n.gave c.args.net.now) (s.left c.args.source.now)
    (calls_ahead setup c.args.ahead.now c.args.reader.now)
    (n.sent l.net) (n.gave l.net) (s.left l.source) (h.stands l.hosts) (h.allows l.hosts) _ (calls_ahead setup l.ahead l.reader)
    (λ more. with_call call (left more))
    (λ more. ap (λ a. calls_ahead setup a l.reader more) c.in-Some.ensures.some
    ∙ ap (λ q. with_call (called c.in-Some.call q) (left more)) (sym c.request.ensures)) l.invariant.started)
    (h.settings l.hosts) l.invariant.settings (λ w st. subst (λ (x : ℕ). c.in-Some.call.tick ≤ x) (c.now.ensures.stands w st) c.in-Some.ensures.due)
    (n.sent c.start_call.new.net) (n.gave c.start_call.new.net) (o.taken c.start_call.new.observer) (o.notes c.start_call.new.observer)
    (n.acts c.start_call.new.net)
    (h.stands c.start_call.new.hosts) (h.allows c.start_call.new.hosts) c.in_err-start_call.field-0.0
    c.in_err-start_call.ensures.stops c.in_err-start_call.ensures.cut c.in_err-start_call.ensures.refused)

pub calls-preserved : goal.calls-preserved
calls-preserved g c =
    let o = g.O.Observer in
    let h = g.H.LoopHosts in
    let n = g.N.Net in
    let s = g.S.Source in
    let l = c.calls in
    let hosts = c.args.hosts.now in
    let setup = setup_seen c.args.setup.now in
    let call = called c.in-Some.call c.request.result.now in
    let left = calls_left setup l.reader.least l.reader.place in
    let e = c.in_ok-start_call.ensures in
    let k = c.in_ok-look-2.ensures in
    let now = calls_ahead setup c.look-in-Some.new.ahead c.look-in-Some.new.reader in
    let looked = λ (bytes : List ℕ) (q : s.left l.source ≡ Some bytes).
    subst (λ a. IsRead bytes (s.left c.look-in-Some.new.source) (calls_ahead setup a l.reader) now) c.in-Some.ensures.taken (k.looked bytes q).0 in
    record {
      started =
          started_looked (h.settings hosts) (h.stands hosts) (h.allows hosts) (n.sent c.args.net.now) (n.gave c.args.net.now) (s.left c.args.source.now)
          (calls_ahead setup c.args.ahead.now c.args.reader.now)
          (n.sent c.start_call.new.net) (n.gave c.start_call.new.net) (s.left l.source) (h.stands c.start_call.new.hosts)
          (h.allows c.start_call.new.hosts) _ _ left now
          (started_call (h.settings hosts) (h.stands hosts) (h.allows hosts) (n.sent c.args.net.now) (n.gave c.args.net.now) (s.left c.args.source.now)
          (calls_ahead setup c.args.ahead.now c.args.reader.now)
          (n.sent l.net) (n.gave l.net) (s.left l.source) (h.stands l.hosts) (h.allows l.hosts)
          (AreDone o.told o.kept o.strange (o.taken c.args.observer.now) (o.notes c.args.observer.now) (o.taken l.observer) (o.notes l.observer)
          (n.acts c.args.net.now) (n.acts l.net) (Hears 64) (Hears 64)) call
          left
          (started_as (h.settings hosts) (h.stands hosts) (h.allows hosts) (n.sent c.args.net.now) (n.gave c.args.net.now) (s.left c.args.source.now)
          (calls_ahead setup c.args.ahead.now c.args.reader.now)
          (n.sent l.net) (n.gave l.net) (s.left l.source) (h.stands l.hosts) (h.allows l.hosts) _ (calls_ahead setup l.ahead l.reader)
          (λ more. with_call call (left more))
          (λ more. ap (λ a. calls_ahead setup a l.reader more) c.in-Some.ensures.some
          ∙ ap (λ q. with_call (called c.in-Some.call q) (left more)) (sym c.request.ensures)) l.invariant.started)
          (h.settings l.hosts) l.invariant.settings _ _ _ _ _ _
          (λ w st held. e.acted w st (subst (λ (x : ℕ). c.in-Some.call.tick ≤ x) (c.now.ensures.stands w st) c.in-Some.ensures.due) held)
          (λ x y p q. gone_more o.told o.kept o.strange _ (o.taken l.observer) _ _ (o.notes l.observer) _ _ (n.acts l.net) _ (Hears 64) (Hears 64)
          (Hears 64) x y p q))
          looked;
      all = λ bytes q a.
          let d = l.invariant.started.read bytes q in
          (k.looked d.rest d.has_left).1 (subst (λ x. IsAllRead x (Some d.rest)) (sym c.in-Some.ensures.taken) tt);
      known = k.known;
      counted = k.counted;
      limit = k.limit ∙ l.invariant.limit;
      room = λ most r. k.room most (h.steps c.start_call.new.hosts)
          (room_taken l.ahead c.take_due.new.ahead c.in-Some.call l.reader most (h.steps l.hosts)
          (h.steps c.start_call.new.hosts) c.in-Some.ensures.some c.in-Some.ensures.taken e.stepped.steps (l.invariant.room most r));
      settings = e.stepped.settings ∙ l.invariant.settings;
      clock = e.stepped.clock ∙ l.invariant.clock;
      hosts = e.outside.known ∙ l.invariant.hosts;
      ends =
          let sm = g.met.S.Source in
          let m = g.met.O.Observer in
          ends_on s.faults n.faults o.faults s.is_same o.is_same sm.same_self sm.same_on m.same_self m.same_on c.args.source.now l.source
          c.look-in-Some.new.source c.args.net.now l.net c.start_call.new.net c.args.observer.now l.observer c.start_call.new.observer _ l.invariant.ends
          (ends_on s.faults n.faults o.faults s.is_same o.is_same sm.same_self sm.same_on m.same_self m.same_on l.source l.source
          c.look-in-Some.new.source l.net c.start_call.new.net c.start_call.new.net l.observer c.start_call.new.observer c.start_call.new.observer _
          (ends_acted s.faults n.faults o.faults s.is_same o.is_same sm.same_self sm.same_on m.same_self m.same_on n.known l.source l.net
          c.start_call.new.net l.observer c.start_call.new.observer _ e.outside)
          (ends_read s.faults n.faults o.faults s.is_same o.is_same sm.same_self sm.same_on m.same_self m.same_on l.source c.look-in-Some.new.source
          c.start_call.new.net c.start_call.new.observer _ k.faults k.same));
    }

pub returns-in_err-look-2-clause-stopped : goal.returns-in_err-look-2-clause-stopped
returns-in_err-look-2-clause-stopped g c =
    let o = g.O.Observer in
    let h = g.H.LoopHosts in
    let n = g.N.Net in
    let s = g.S.Source in
    let l = c.calls in
    let hosts = c.args.hosts.now in
    let setup = setup_seen c.args.setup.now in
    let call = called c.in-Some.call c.request.result.now in
    let left = calls_left setup l.reader.least l.reader.place in
    let e = c.in_ok-start_call.ensures in
    let p = err_from_is_err_and c.from_residual-in_err-look-2.result c.from_residual-in_err-look-2.ensures.1 in
    let so_far = AreDone o.told o.kept o.strange (o.taken c.args.observer.now) (o.notes c.args.observer.now) (o.taken c.start_call.new.observer)
    (o.notes c.start_call.new.observer) (n.acts c.args.net.now) (n.acts c.start_call.new.net) (Hears 64) (Hears 64) in
    let due = calls_ahead setup c.args.ahead.now c.args.reader.now in
    rw (p.1, p.2) (look_stopped (h.settings hosts) (h.stands hosts) (h.allows hosts) (n.sent c.args.net.now) (n.gave c.args.net.now)
    (s.left c.args.source.now) due
    o.told o.kept o.strange (o.taken c.args.observer.now) (o.notes c.args.observer.now) (n.acts c.args.net.now)
    (n.sent c.start_call.new.net) (n.gave c.start_call.new.net) (s.left l.source) (h.stands c.start_call.new.hosts) (h.allows c.start_call.new.hosts)
    (o.taken c.start_call.new.observer) (o.notes c.start_call.new.observer) (n.acts c.start_call.new.net)
    setup c.take_due.new.ahead c.look-in-Some.new.ahead l.reader c.look-in-Some.new.reader _ c.in_err-look-2.field-0.0
    (started_as (h.settings hosts) (h.stands hosts) (h.allows hosts) (n.sent c.args.net.now) (n.gave c.args.net.now) (s.left c.args.source.now) due
    (n.sent c.start_call.new.net) (n.gave c.start_call.new.net) (s.left l.source) (h.stands c.start_call.new.hosts)
    (h.allows c.start_call.new.hosts) so_far left (calls_ahead setup c.take_due.new.ahead l.reader)
    (λ more. ap (λ a. calls_ahead setup a l.reader more) (sym c.in-Some.ensures.taken))
    (started_call (h.settings hosts) (h.stands hosts) (h.allows hosts) (n.sent c.args.net.now) (n.gave c.args.net.now) (s.left c.args.source.now) due
    (n.sent l.net) (n.gave l.net) (s.left l.source) (h.stands l.hosts) (h.allows l.hosts)
    (AreDone o.told o.kept o.strange (o.taken c.args.observer.now) (o.notes c.args.observer.now) (o.taken l.observer) (o.notes l.observer)
    (n.acts c.args.net.now) (n.acts l.net) (Hears 64) (Hears 64)) call left
    (started_as (h.settings hosts) (h.stands hosts) (h.allows hosts) (n.sent c.args.net.now) (n.gave c.args.net.now) (s.left c.args.source.now) due
    (n.sent l.net) (n.gave l.net) (s.left l.source) (h.stands l.hosts) (h.allows l.hosts) _ (calls_ahead setup l.ahead l.reader)
    (λ more. with_call call (left more))
    (λ more. ap (λ a. calls_ahead setup a l.reader more) c.in-Some.ensures.some
    ∙ ap (λ q. with_call (called c.in-Some.call q) (left more)) (sym c.request.ensures)) l.invariant.started)
    (h.settings l.hosts) l.invariant.settings (n.sent c.start_call.new.net) (n.gave c.start_call.new.net) (h.stands c.start_call.new.hosts)
    (h.allows c.start_call.new.hosts)
    (AreDone o.told o.kept o.strange (o.taken l.observer) (o.notes l.observer) (o.taken c.start_call.new.observer) (o.notes c.start_call.new.observer)
    (n.acts l.net) (n.acts c.start_call.new.net) (Hears 64) (Hears 64)) so_far
    (λ w st held. e.acted w st (subst (λ (x : ℕ). c.in-Some.call.tick ≤ x) (c.now.ensures.stands w st) c.in-Some.ensures.due) held)
    (λ x y p q. gone_more o.told o.kept o.strange _ (o.taken l.observer) _ _ (o.notes l.observer) _ _ (n.acts l.net) _ (Hears 64) (Hears 64)
    (Hears 64) x y p q)))
    c.in_err-look-2.ensures.stops c.in_err-look-2.ensures.looked (g.met.H.LoopHosts.allows_none c.start_call.new.hosts))

pub returns-clause-started : goal.returns-clause-started
returns-clause-started g c =
    let h = g.H.LoopHosts in
    let n = g.N.Net in
    let s = g.S.Source in
    let l = c.calls in
    let hosts = c.args.hosts.now in
    let setup = setup_seen c.args.setup.now in
    started_as (h.settings hosts) (h.stands hosts) (h.allows hosts) (n.sent c.args.net.now) (n.gave c.args.net.now) (s.left c.args.source.now)
    (calls_ahead setup c.args.ahead.now c.args.reader.now)
    (n.sent l.net) (n.gave l.net) (s.left l.source) (h.stands l.hosts) (h.allows l.hosts) _ (calls_ahead setup l.ahead l.reader)
    (calls_ahead setup c.take_due.new.ahead l.reader)
    (λ more. ap (λ a. calls_ahead setup a l.reader more) (sym c.in_default.ensures.none)) l.invariant.started

pub returns-in_err-look-clause-settings : goal.returns-in_err-look-clause-settings
returns-in_err-look-clause-settings g c = refl

pub returns-in_err-look-clause-clock : goal.returns-in_err-look-clause-clock
returns-in_err-look-clause-clock g c = refl

pub returns-in_err-look-clause-known : goal.returns-in_err-look-clause-known
returns-in_err-look-clause-known g c = refl

pub returns-in_err-look-clause-limit : goal.returns-in_err-look-clause-limit
returns-in_err-look-clause-limit g c = c.look.ensures.limit

pub returns-in_err-look-clause-ends : goal.returns-in_err-look-clause-ends
returns-in_err-look-clause-ends g c =
    let n = g.N.Net in
    let s = g.S.Source in
    let sm = g.met.S.Source in
    let o = g.O.Observer in
    let m = g.met.O.Observer in
    let e = c.in_err-look.ensures in
    let p = err_from_is_err_and c.from_residual.result c.from_residual.ensures.1 in
    rw (p.1, p.2) (ends_unread s.faults n.faults o.faults s.is_same o.is_same sm.same_self sm.same_on m.same_self m.same_on (Unit {0}) c.args.source.now
    c.look.new.source c.args.net.now c.args.observer.now c.in_err-look.field-0.0 e.faults e.same)

pub returns-in_err-start_call-clause-settings : goal.returns-in_err-start_call-clause-settings
returns-in_err-start_call-clause-settings g c = c.start_call.ensures.stepped.settings ∙ c.calls.invariant.settings

pub returns-in_err-look-2-clause-settings : goal.returns-in_err-look-2-clause-settings
returns-in_err-look-2-clause-settings g c = c.start_call.ensures.stepped.settings ∙ c.calls.invariant.settings

pub returns-in_err-start_call-clause-clock : goal.returns-in_err-start_call-clause-clock
returns-in_err-start_call-clause-clock g c = c.start_call.ensures.stepped.clock ∙ c.calls.invariant.clock

pub returns-in_err-look-2-clause-clock : goal.returns-in_err-look-2-clause-clock
returns-in_err-look-2-clause-clock g c = c.start_call.ensures.stepped.clock ∙ c.calls.invariant.clock

pub returns-in_err-start_call-clause-known : goal.returns-in_err-start_call-clause-known
returns-in_err-start_call-clause-known g c = c.start_call.ensures.outside.known ∙ c.calls.invariant.hosts

pub returns-in_err-look-2-clause-known : goal.returns-in_err-look-2-clause-known
returns-in_err-look-2-clause-known g c = c.start_call.ensures.outside.known ∙ c.calls.invariant.hosts

pub returns-in_err-start_call-clause-limit : goal.returns-in_err-start_call-clause-limit
returns-in_err-start_call-clause-limit g c = c.calls.invariant.limit

pub returns-in_err-look-2-clause-limit : goal.returns-in_err-look-2-clause-limit
returns-in_err-look-2-clause-limit g c = c.look-in-Some.ensures.limit ∙ c.calls.invariant.limit

pub returns-in_err-start_call-clause-ends : goal.returns-in_err-start_call-clause-ends
returns-in_err-start_call-clause-ends g c =
    let n = g.N.Net in
    let s = g.S.Source in
    let sm = g.met.S.Source in
    let o = g.O.Observer in
    let m = g.met.O.Observer in
    let l = c.calls in
    let p = err_from_is_err_and c.from_residual-in_err-start_call.result c.from_residual-in_err-start_call.ensures.1 in
    rw (p.1, p.2) (ends_on s.faults n.faults o.faults s.is_same o.is_same sm.same_self sm.same_on m.same_self m.same_on c.args.source.now l.source
    l.source c.args.net.now l.net c.start_call.new.net c.args.observer.now l.observer c.start_call.new.observer _ l.invariant.ends
    (ends_unacted s.faults n.faults o.faults s.is_same o.is_same sm.same_self sm.same_on m.same_self m.same_on n.known l.source l.net
    c.start_call.new.net l.observer c.start_call.new.observer c.in_err-start_call.field-0.0 c.in_err-start_call.ensures.outside))

pub returns-in_err-look-2-clause-ends : goal.returns-in_err-look-2-clause-ends
returns-in_err-look-2-clause-ends g c =
    let n = g.N.Net in
    let s = g.S.Source in
    let sm = g.met.S.Source in
    let o = g.O.Observer in
    let m = g.met.O.Observer in
    let l = c.calls in
    let e = c.in_err-look-2.ensures in
    let p = err_from_is_err_and c.from_residual-in_err-look-2.result c.from_residual-in_err-look-2.ensures.1 in
    rw (p.1, p.2) (ends_on s.faults n.faults o.faults s.is_same o.is_same sm.same_self sm.same_on m.same_self m.same_on c.args.source.now l.source
    c.look-in-Some.new.source c.args.net.now l.net c.start_call.new.net c.args.observer.now l.observer c.start_call.new.observer _ l.invariant.ends
    (ends_on s.faults n.faults o.faults s.is_same o.is_same sm.same_self sm.same_on m.same_self m.same_on l.source l.source
    c.look-in-Some.new.source l.net c.start_call.new.net c.start_call.new.net l.observer c.start_call.new.observer c.start_call.new.observer _
    (ends_acted s.faults n.faults o.faults s.is_same o.is_same sm.same_self sm.same_on m.same_self m.same_on n.known l.source l.net
    c.start_call.new.net l.observer c.start_call.new.observer _ c.in_ok-start_call.ensures.outside)
    (ends_unread s.faults n.faults o.faults s.is_same o.is_same sm.same_self sm.same_on m.same_self m.same_on (Unit {0}) l.source
    c.look-in-Some.new.source c.start_call.new.net c.start_call.new.observer c.in_err-look-2.field-0.0 e.faults e.same)))

pub returns-clause-settings : goal.returns-clause-settings
returns-clause-settings g c = c.calls.invariant.settings

pub returns-clause-clock : goal.returns-clause-clock
returns-clause-clock g c = c.calls.invariant.clock

pub returns-clause-known : goal.returns-clause-known
returns-clause-known g c = c.calls.invariant.hosts

pub returns-clause-limit : goal.returns-clause-limit
returns-clause-limit g c = c.calls.invariant.limit

pub returns-clause-ends : goal.returns-clause-ends
returns-clause-ends g c = c.calls.invariant.ends
