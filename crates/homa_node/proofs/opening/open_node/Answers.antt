use Rattle.std.proofs.Common.{◌≡◌, inr, ℕ, None, Ok, Err, [], ◌∷◌, refl, sym, ap, ◌∙◌, subst}
use Rattle.std.specs.Prelude.{map}
use Rattle.std.proofs.lemmas.Result.{err_from_is_err_and}
use Rattle.homa_plain.specs.Entries.{PlainSettings}
use Rattle.homa_plain.specs.Script.{most_bytes}
use Rattle.node_runs.specs.Script.{Opened, opening}
use Rattle.node_runs.specs.Course.{Tells, node_run, first_inc, locals_from}
use Rattle.node_runs.specs.Acts.{connects}
use Rattle.node_turns.specs.Told.{listed, Hears, AreBroken}
use Rattle.node_turns.specs.Seen.{seen_stop}
use Rattle.node_turns.specs.declared.stop.NodeStop.TheVariants.{Net}
use Rattle.node_turns.proofs.Lists.{listed_none}
use Rattle.node_turns.proofs.Done.{broken_untold}
use Rattle.node_turns.proofs.Tellings.{told_one, front_first, never_own, seen_midst, seen_never}
use Rattle.script_lines.specs.Read.{IsRead}
use Rattle.node_script.specs.declared.setup.Setup.{Setup}
use Rattle.node_script.specs.Setup.{place_seen}
use Rattle.node_script.specs.Heads.{setup_seen}
use Rattle.node_script.specs.Calls.{calls_left}
use Rattle.homa_node.specs.Served.{outside}
use Rattle.homa_node.specs.Opened.{HasOpened}
use Rattle.homa_node.proofs.Openings.{outside_same, part_as, open_none, open_stopped, open_untold, settings_part, settings_told, at_first, opened_connects}
use Rattle.homa_node.proofs.Connected.{all_served, none_served, untouched, unopened_first}
use Rattle.homa_node.proofs.Stopped.{midst_stopped}
use Rattle.homa_node.proofs.Ends.{ends_memory, ends_went, ends_lost, ends_untold, ends_read, ends_unread, ends_on}
use Rattle.homa_node.proofs.opening.open_node.Goals as goal

pub returns-in_err-reader-clause-stopped : goal.returns-in_err-reader-clause-stopped
returns-in_err-reader-clause-stopped g c =
    let o = g.O.Observer in
    let may = g.H.OpenHosts.are_allowed c.args.boxes in
    let p = err_from_is_err_and c.from_residual.result c.from_residual.ensures.1 in
    rw (p.1, p.2) (λ bytes ticks k. untouched node_run o.told o.kept o.strange may bytes (g.S.Source.left c.args.source.now)
    (outside (o.taken c.args.observer.now) (o.notes c.args.observer.now) (g.N.Net.acts c.args.net.now) (g.N.Net.sent c.args.net.now)
    (g.N.Net.gave c.args.net.now) ticks) _ (inr tt)
    (open_none o.told o.kept o.strange may bytes (g.S.Source.left c.args.source.now)
    (outside (o.taken c.args.observer.now) (o.notes c.args.observer.now) (listed (g.N.Net.acts c.args.net.now) []) (g.N.Net.sent c.args.net.now)
    (g.N.Net.gave c.args.net.now) ticks) k
    (g.met.H.OpenHosts.unasked c.args.boxes [] refl)))

pub returns-in_err-setup-clause-stopped : goal.returns-in_err-setup-clause-stopped
returns-in_err-setup-clause-stopped g c =
    let o = g.O.Observer in
    let may = g.H.OpenHosts.are_allowed c.args.boxes in
    let stop = c.in_err-setup.field-0.0 in
    let place = c.read_setup.new.reader.place in
    let left = g.S.Source.left c.read_setup.new.source in
    let p = err_from_is_err_and c.from_residual-in_err-setup.result c.from_residual-in_err-setup.ensures.1 in
    rw (p.1, p.2) (λ bytes ticks k. untouched node_run o.told o.kept o.strange may bytes left
    (outside (o.taken c.args.observer.now) (o.notes c.args.observer.now) (g.N.Net.acts c.args.net.now) (g.N.Net.sent c.args.net.now)
    (g.N.Net.gave c.args.net.now) ticks) (Err stop)
    (unopened_first node_run o.told o.kept o.strange may bytes place left stop (subst (λ m. HasOpened m place bytes left (Err stop))
    (ap (λ x. x.limit) c.in_ok-reader.ensures.place) (c.in_err-setup.ensures.opened bytes k)))
    (open_stopped o.told o.kept o.strange may bytes (g.S.Source.left c.args.source.now)
    (outside (o.taken c.args.observer.now) (o.notes c.args.observer.now) (listed (g.N.Net.acts c.args.net.now) []) (g.N.Net.sent c.args.net.now)
    (g.N.Net.gave c.args.net.now) ticks) k
    (g.met.H.OpenHosts.unasked c.args.boxes [] refl) place left stop
    (λ rest q. subst (λ m. HasOpened m place rest left (Err stop)) (ap (λ x. x.limit) c.in_ok-reader.ensures.place) (c.in_err-setup.ensures.opened rest q))))

pub returns-in_err-setup-clause-never_strange : goal.returns-in_err-setup-clause-never_strange
returns-in_err-setup-clause-never_strange g c =
    let p = err_from_is_err_and c.from_residual-in_err-setup.result c.from_residual-in_err-setup.ensures.1 in
    rw (p.1, p.2) c.in_err-setup.ensures.never_strange

pub returns-in_err-connect-clause-stopped : goal.returns-in_err-connect-clause-stopped
returns-in_err-connect-clause-stopped g c =
    let o = g.O.Observer in
    let n = g.N.Net in
    let may = g.H.OpenHosts.are_allowed c.args.boxes in
    let setup = c.in_ok-setup.setup in
    let place = c.read_setup.new.reader.place in
    let left = g.S.Source.left c.read_setup.new.source in
    let taken = o.taken c.args.observer.now in
    let notes = o.notes c.args.observer.now in
    let calls = calls_left (setup_seen setup) 0 place in
    let e = c.in_err-connect.ensures.err_acts in
    let p = err_from_is_err_and c.from_residual-in_err-connect.result c.from_residual-in_err-connect.ensures.1 in
    rw (p.1, p.2) (λ bytes ticks k.
    let old = outside taken notes (listed (n.acts c.args.net.now) e.front) (n.sent c.args.net.now) (n.gave c.args.net.now) ticks in
    let new = outside taken notes (n.acts c.connect.new.net) (n.sent c.connect.new.net) (n.gave c.connect.new.net) ticks in
    let none = g.met.H.OpenHosts.unasked c.args.boxes [] refl in
    none_served node_run o.told o.kept o.strange may bytes left
    (outside taken notes (n.acts c.args.net.now) (n.sent c.args.net.now) (n.gave c.args.net.now) ticks) new e.front e.rest (Err Net)
    (opened_connects o.told o.kept o.strange may bytes (g.S.Source.left c.args.source.now) old k none left (setup_seen setup) calls
    (λ rest q. subst (λ m. HasOpened m place rest left (Ok setup)) (ap (λ x. x.limit) c.in_ok-reader.ensures.place) (c.in_ok-setup.ensures.opened rest q))
    ∙ ap (λ xs. connects (map place_seen xs)) (sym c.deref.ensures.value) ∙ sym e.split) tt refl
    (part_as o.told o.kept o.strange may bytes (g.S.Source.left c.args.source.now) old k none left new
    (outside_same taken notes ticks (listed (n.acts c.args.net.now) e.front) (n.acts c.connect.new.net) (n.sent c.args.net.now) (n.sent c.connect.new.net)
    (n.gave c.args.net.now) (n.gave c.connect.new.net) e.is c.in_err-connect.ensures.sent c.in_err-connect.ensures.gave)
    (open_untold o.told o.kept o.strange may bytes (g.S.Source.left c.args.source.now) old k none left (setup_seen setup) calls
    (λ rest q. subst (λ m. HasOpened m place rest left (Ok setup)) (ap (λ x. x.limit) c.in_ok-reader.ensures.place) (c.in_ok-setup.ensures.opened rest q)))))

pub returns-in_err-seen-clause-stopped : goal.returns-in_err-seen-clause-stopped
returns-in_err-seen-clause-stopped g c =
    let o = g.O.Observer in
    let n = g.N.Net in
    let may = g.H.OpenHosts.are_allowed c.args.boxes in
    let setup = c.in_ok-setup.setup in
    let place = c.read_setup.new.reader.place in
    let left = g.S.Source.left c.read_setup.new.source in
    let places = connects (setup_seen setup).places in
    let connected : n.acts c.connect.new.net ≡ listed (n.acts c.args.net.now) places =
    c.in_ok-connect.ensures.acts ∙ ap (λ xs. listed (n.acts c.args.net.now) (connects (map place_seen xs))) c.deref.ensures.value in
    let taken = o.taken c.args.observer.now in
    let notes = o.notes c.args.observer.now in
    let report = Tells (PlainSettings setup.settings) in
    let told_of = o.taken c.seen.new.self in
    let e = c.in_err-seen.ensures in
    let p = err_from_is_err_and c.from_residual-in_err-seen.result c.from_residual-in_err-seen.ensures.1 in
    rw (p.1, p.2) (λ bytes ticks k.
    let old = outside taken notes (listed (n.acts c.args.net.now) places) (n.sent c.args.net.now) (n.gave c.args.net.now) ticks in
    let new = outside told_of (o.notes c.seen.new.self) (n.acts c.connect.new.net) (n.sent c.connect.new.net) (n.gave c.connect.new.net) ticks in
    let none = g.met.H.OpenHosts.unasked c.args.boxes [] refl in
    let one = g.met.H.OpenHosts.unasked c.args.boxes (PlainSettings setup.settings ∷ []) refl in
    let part = settings_part o.told o.kept o.strange may bytes (g.S.Source.left c.args.source.now) old k none left (setup_seen setup)
    (calls_left (setup_seen setup) 0 place)
    (λ rest q. subst (λ m. HasOpened m place rest left (Ok setup)) (ap (λ x. x.limit) c.in_ok-reader.ensures.place) (c.in_ok-setup.ensures.opened rest q))
    new in
    all_served node_run o.told o.kept o.strange may bytes left _ _ places _
    (opened_connects o.told o.kept o.strange may bytes (g.S.Source.left c.args.source.now)
    (outside (o.taken c.args.observer.now) (o.notes c.args.observer.now) (listed (n.acts c.args.net.now) places) (n.sent c.args.net.now)
    (n.gave c.args.net.now) ticks) k (g.met.H.OpenHosts.unasked c.args.boxes [] refl) left (setup_seen setup) (calls_left (setup_seen setup) 0 place)
    (λ rest q. subst (λ m. HasOpened m place rest left (Ok setup)) (ap (λ x. x.limit) c.in_ok-reader.ensures.place) (c.in_ok-setup.ensures.opened rest q)))
    (midst_stopped node_run o.told o.kept o.strange may bytes left old new (seen_stop c.in_err-seen.field-0.0)
    (seen_midst c.in_err-seen.field-0.0 (never_own o.strange g.met.O.Observer.strange_comes c.in_err-seen.field-0.0 notes
    (PlainSettings setup.settings) tt e.stranger))
    (part (AreBroken o.told o.kept o.strange taken notes told_of old.acts new.acts (Hears 64))
    (broken_untold o.told o.kept o.strange taken told_of notes _ _ 64 (PlainSettings setup.settings ∷ []) [] (tt, tt) refl (connected ∙ listed_none _)
    (front_first o.told o.kept o.strange taken told_of notes report [] e.err)) c.in_ok-connect.ensures.sent c.in_ok-connect.ensures.gave one)))

pub returns-in_err-seen-clause-never_strange : goal.returns-in_err-seen-clause-never_strange
returns-in_err-seen-clause-never_strange g c =
    let o = g.O.Observer in
    let p = err_from_is_err_and c.from_residual-in_err-seen.result c.from_residual-in_err-seen.ensures.1 in
    rw (p.1, p.2) (seen_never (Unit {0}) c.in_err-seen.field-0.0 (never_own o.strange g.met.O.Observer.strange_comes c.in_err-seen.field-0.0
    (o.notes c.args.observer.now) (PlainSettings c.in_ok-setup.setup.settings) tt c.in_err-seen.ensures.stranger))

pub returns-in_err-ids-clause-stopped : goal.returns-in_err-ids-clause-stopped
returns-in_err-ids-clause-stopped g c =
    let o = g.O.Observer in
    let n = g.N.Net in
    let may = g.H.OpenHosts.are_allowed c.args.boxes in
    let setup = c.in_ok-setup.setup in
    let place = c.read_setup.new.reader.place in
    let left = g.S.Source.left c.read_setup.new.source in
    let places = connects (setup_seen setup).places in
    let connected : n.acts c.connect.new.net ≡ listed (n.acts c.args.net.now) places =
    c.in_ok-connect.ensures.acts ∙ ap (λ xs. listed (n.acts c.args.net.now) (connects (map place_seen xs))) c.deref.ensures.value in
    let t = c.in_ok-seen.ensures in
    let p = err_from_is_err_and c.from_residual-in_err-ids.result c.from_residual-in_err-ids.ensures.1 in
    rw (p.1, p.2) (λ bytes ticks k. all_served node_run o.told o.kept o.strange may bytes left _ _ places _
    (opened_connects o.told o.kept o.strange may bytes (g.S.Source.left c.args.source.now)
    (outside (o.taken c.args.observer.now) (o.notes c.args.observer.now) (listed (n.acts c.args.net.now) places) (n.sent c.args.net.now)
    (n.gave c.args.net.now) ticks) k (g.met.H.OpenHosts.unasked c.args.boxes [] refl) left (setup_seen setup) (calls_left (setup_seen setup) 0 place)
    (λ rest q. subst (λ m. HasOpened m place rest left (Ok setup)) (ap (λ x. x.limit) c.in_ok-reader.ensures.place) (c.in_ok-setup.ensures.opened rest q)))
    (settings_told o.told o.kept o.strange may bytes (g.S.Source.left c.args.source.now)
    (outside (o.taken c.args.observer.now) (o.notes c.args.observer.now) (listed (n.acts c.args.net.now) places) (n.sent c.args.net.now)
    (n.gave c.args.net.now) ticks) k
    (g.met.H.OpenHosts.unasked c.args.boxes [] refl) left
    (setup_seen setup) (calls_left (setup_seen setup) 0 place)
    (λ rest q. subst (λ m. HasOpened m place rest left (Ok setup)) (ap (λ x. x.limit) c.in_ok-reader.ensures.place) (c.in_ok-setup.ensures.opened rest q))
    (outside (o.taken c.seen.new.self) (o.notes c.seen.new.self) (n.acts c.connect.new.net) (n.sent c.connect.new.net) (n.gave c.connect.new.net) ticks)
    connected (told_one o.told o.kept o.strange _ _ _ _ (Tells (PlainSettings setup.settings)) t.told t.kept t.usual) c.in_ok-connect.ensures.sent
    c.in_ok-connect.ensures.gave refl
    (g.met.H.OpenHosts.unasked c.args.boxes (PlainSettings setup.settings ∷ []) refl)))

pub returns-in_err-incs-clause-stopped : goal.returns-in_err-incs-clause-stopped
returns-in_err-incs-clause-stopped g c =
    let o = g.O.Observer in
    let n = g.N.Net in
    let may = g.H.OpenHosts.are_allowed c.args.boxes in
    let setup = c.in_ok-setup.setup in
    let place = c.read_setup.new.reader.place in
    let left = g.S.Source.left c.read_setup.new.source in
    let places = connects (setup_seen setup).places in
    let connected : n.acts c.connect.new.net ≡ listed (n.acts c.args.net.now) places =
    c.in_ok-connect.ensures.acts ∙ ap (λ xs. listed (n.acts c.args.net.now) (connects (map place_seen xs))) c.deref.ensures.value in
    let t = c.in_ok-seen.ensures in
    let p = err_from_is_err_and c.from_residual-in_err-incs.result c.from_residual-in_err-incs.ensures.1 in
    rw (p.1, p.2) (λ bytes ticks k. all_served node_run o.told o.kept o.strange may bytes left _ _ places _
    (opened_connects o.told o.kept o.strange may bytes (g.S.Source.left c.args.source.now)
    (outside (o.taken c.args.observer.now) (o.notes c.args.observer.now) (listed (n.acts c.args.net.now) places) (n.sent c.args.net.now)
    (n.gave c.args.net.now) ticks) k (g.met.H.OpenHosts.unasked c.args.boxes [] refl) left (setup_seen setup) (calls_left (setup_seen setup) 0 place)
    (λ rest q. subst (λ m. HasOpened m place rest left (Ok setup)) (ap (λ x. x.limit) c.in_ok-reader.ensures.place) (c.in_ok-setup.ensures.opened rest q)))
    (settings_told o.told o.kept o.strange may bytes (g.S.Source.left c.args.source.now)
    (outside (o.taken c.args.observer.now) (o.notes c.args.observer.now) (listed (n.acts c.args.net.now) places) (n.sent c.args.net.now)
    (n.gave c.args.net.now) ticks) k
    (g.met.H.OpenHosts.unasked c.args.boxes [] refl) left
    (setup_seen setup) (calls_left (setup_seen setup) 0 place)
    (λ rest q. subst (λ m. HasOpened m place rest left (Ok setup)) (ap (λ x. x.limit) c.in_ok-reader.ensures.place) (c.in_ok-setup.ensures.opened rest q))
    (outside (o.taken c.seen.new.self) (o.notes c.seen.new.self) (n.acts c.connect.new.net) (n.sent c.connect.new.net) (n.gave c.connect.new.net) ticks)
    connected (told_one o.told o.kept o.strange _ _ _ _ (Tells (PlainSettings setup.settings)) t.told t.kept t.usual) c.in_ok-connect.ensures.sent
    c.in_ok-connect.ensures.gave refl
    (g.met.H.OpenHosts.unasked c.args.boxes (PlainSettings setup.settings ∷ []) refl)))

pub returns-in_err-hosts-clause-stopped : goal.returns-in_err-hosts-clause-stopped
returns-in_err-hosts-clause-stopped g c =
    let o = g.O.Observer in
    let n = g.N.Net in
    let may = g.H.OpenHosts.are_allowed c.args.boxes in
    let setup = c.in_ok-setup.setup in
    let place = c.read_setup.new.reader.place in
    let left = g.S.Source.left c.read_setup.new.source in
    let places = connects (setup_seen setup).places in
    let connected : n.acts c.connect.new.net ≡ listed (n.acts c.args.net.now) places =
    c.in_ok-connect.ensures.acts ∙ ap (λ xs. listed (n.acts c.args.net.now) (connects (map place_seen xs))) c.deref.ensures.value in
    let t = c.in_ok-seen.ensures in
    let p = err_from_is_err_and c.from_residual-in_err-hosts.result c.from_residual-in_err-hosts.ensures.1 in
    rw (p.1, p.2) (λ bytes ticks k. all_served node_run o.told o.kept o.strange may bytes left _ _ places _
    (opened_connects o.told o.kept o.strange may bytes (g.S.Source.left c.args.source.now)
    (outside (o.taken c.args.observer.now) (o.notes c.args.observer.now) (listed (n.acts c.args.net.now) places) (n.sent c.args.net.now)
    (n.gave c.args.net.now) ticks) k (g.met.H.OpenHosts.unasked c.args.boxes [] refl) left (setup_seen setup) (calls_left (setup_seen setup) 0 place)
    (λ rest q. subst (λ m. HasOpened m place rest left (Ok setup)) (ap (λ x. x.limit) c.in_ok-reader.ensures.place) (c.in_ok-setup.ensures.opened rest q)))
    (settings_told o.told o.kept o.strange may bytes (g.S.Source.left c.args.source.now)
    (outside (o.taken c.args.observer.now) (o.notes c.args.observer.now) (listed (n.acts c.args.net.now) places) (n.sent c.args.net.now)
    (n.gave c.args.net.now) ticks) k
    (g.met.H.OpenHosts.unasked c.args.boxes [] refl) left
    (setup_seen setup) (calls_left (setup_seen setup) 0 place)
    (λ rest q. subst (λ m. HasOpened m place rest left (Ok setup)) (ap (λ x. x.limit) c.in_ok-reader.ensures.place) (c.in_ok-setup.ensures.opened rest q))
    (outside (o.taken c.seen.new.self) (o.notes c.seen.new.self) (n.acts c.connect.new.net) (n.sent c.connect.new.net) (n.gave c.connect.new.net) ticks)
    connected (told_one o.told o.kept o.strange _ _ _ _ (Tells (PlainSettings setup.settings)) t.told t.kept t.usual) c.in_ok-connect.ensures.sent
    c.in_ok-connect.ensures.gave refl
    (g.met.H.OpenHosts.unasked c.args.boxes (PlainSettings setup.settings ∷ []) refl)))

pub returns-clause-opened : goal.returns-clause-opened
returns-clause-opened g c =
    let o = g.O.Observer in
    let n = g.N.Net in
    let may = g.H.OpenHosts.are_allowed c.args.boxes in
    let setup = c.in_ok-setup.setup in
    let place = c.read_setup.new.reader.place in
    let left = g.S.Source.left c.read_setup.new.source in
    let places = connects (setup_seen setup).places in
    let connected : n.acts c.connect.new.net ≡ listed (n.acts c.args.net.now) places =
    c.in_ok-connect.ensures.acts ∙ ap (λ xs. listed (n.acts c.args.net.now) (connects (map place_seen xs))) c.deref.ensures.value in
    let t = c.in_ok-seen.ensures in
    let hosts = c.in_ok-hosts.hosts in
    let least : c.read_setup.new.reader.least ≡ 0 = c.in_ok-setup.ensures.least ∙ c.in_ok-reader.ensures.least in
    λ bytes ticks k. at_first o.told o.kept o.strange may bytes (g.S.Source.left c.args.source.now)
    (outside (o.taken c.args.observer.now) (o.notes c.args.observer.now) (listed (n.acts c.args.net.now) places) (n.sent c.args.net.now)
    (n.gave c.args.net.now) ticks) k
    (g.met.H.OpenHosts.unasked c.args.boxes [] refl) left
    (setup_seen setup) (calls_left (setup_seen setup) c.read_setup.new.reader.least place)
    (λ rest q. subst (λ (m : ℕ). IsRead rest left (opening most_bytes) (λ more. Opened (setup_seen setup) (calls_left (setup_seen setup) m place more)))
    (sym least)
    (subst (λ m. HasOpened m place rest left (Ok setup)) (ap (λ x. x.limit) c.in_ok-reader.ensures.place) (c.in_ok-setup.ensures.opened rest q)))
    (outside (o.taken c.seen.new.self) (o.notes c.seen.new.self) (n.acts c.connect.new.net) (n.sent c.connect.new.net) (n.gave c.connect.new.net) ticks)
    connected (told_one o.told o.kept o.strange _ _ _ _ (Tells (PlainSettings setup.settings)) t.told t.kept t.usual) c.in_ok-connect.ensures.sent
    c.in_ok-connect.ensures.gave refl
    (g.H.LoopHosts.stands hosts) (g.H.LoopHosts.allows hosts) c.deref-4.result.now
    (c.deref-4.ensures.value ∙ c.in_ok-incs.ensures.incs ∙ ap (λ xs. map first_inc (map place_seen xs)) c.deref-3.ensures.value)
    c.in_ok-hosts.ensures.opened c.in_ok-hosts.ensures.allows

pub returns-clause-opens : goal.returns-clause-opens
returns-clause-opens g c =
    let o = g.O.Observer in
    let n = g.N.Net in
    let may = g.H.OpenHosts.are_allowed c.args.boxes in
    let setup = c.in_ok-setup.setup in
    let place = c.read_setup.new.reader.place in
    let left = g.S.Source.left c.read_setup.new.source in
    λ bytes k. opened_connects o.told o.kept o.strange may bytes (g.S.Source.left c.args.source.now)
    (outside (o.taken c.args.observer.now) (o.notes c.args.observer.now) (n.acts c.args.net.now) (n.sent c.args.net.now) (n.gave c.args.net.now) None) k
    (g.met.H.OpenHosts.unasked c.args.boxes [] refl) left (setup_seen setup) (calls_left (setup_seen setup) 0 place)
    (λ rest q. subst (λ m. HasOpened m place rest left (Ok setup)) (ap (λ x. x.limit) c.in_ok-reader.ensures.place) (c.in_ok-setup.ensures.opened rest q))

pub returns-in_err-reader-clause-ends : goal.returns-in_err-reader-clause-ends
returns-in_err-reader-clause-ends g c =
    let n = g.N.Net in
    let s = g.S.Source in
    let sm = g.met.S.Source in
    let o = g.O.Observer in
    let m = g.met.O.Observer in
    let p = err_from_is_err_and c.from_residual.result c.from_residual.ensures.1 in
    rw (p.1, p.2) (ends_memory s.faults n.faults o.faults s.is_same o.is_same sm.same_self sm.same_on m.same_self m.same_on c.args.source.now
    c.args.net.now c.args.observer.now)

pub returns-in_err-setup-clause-ends : goal.returns-in_err-setup-clause-ends
returns-in_err-setup-clause-ends g c =
    let n = g.N.Net in
    let s = g.S.Source in
    let sm = g.met.S.Source in
    let o = g.O.Observer in
    let m = g.met.O.Observer in
    let e = c.in_err-setup.ensures in
    let p = err_from_is_err_and c.from_residual-in_err-setup.result c.from_residual-in_err-setup.ensures.1 in
    rw (p.1, p.2) (ends_unread s.faults n.faults o.faults s.is_same o.is_same sm.same_self sm.same_on m.same_self m.same_on Setup c.args.source.now
    c.read_setup.new.source c.args.net.now c.args.observer.now c.in_err-setup.field-0.0 e.faults e.same)

pub returns-in_err-connect-clause-ends : goal.returns-in_err-connect-clause-ends
returns-in_err-connect-clause-ends g c =
    let n = g.N.Net in
    let s = g.S.Source in
    let sm = g.met.S.Source in
    let o = g.O.Observer in
    let m = g.met.O.Observer in
    let r = c.in_ok-setup.ensures in
    let e = c.in_err-connect.ensures in
    let p = err_from_is_err_and c.from_residual-in_err-connect.result c.from_residual-in_err-connect.ensures.1 in
    rw (p.1, p.2) (ends_on s.faults n.faults o.faults s.is_same o.is_same sm.same_self sm.same_on m.same_self m.same_on c.args.source.now
    c.read_setup.new.source
    c.read_setup.new.source c.args.net.now c.args.net.now c.connect.new.net c.args.observer.now c.args.observer.now c.args.observer.now _
    (ends_read s.faults n.faults o.faults s.is_same o.is_same sm.same_self sm.same_on m.same_self m.same_on c.args.source.now c.read_setup.new.source
    c.args.net.now c.args.observer.now _ r.faults r.same)
    (ends_lost s.faults n.faults o.faults s.is_same o.is_same sm.same_self sm.same_on m.same_self m.same_on c.read_setup.new.source c.args.net.now
    c.connect.new.net
    c.args.observer.now e.risen))

pub returns-in_err-seen-clause-ends : goal.returns-in_err-seen-clause-ends
returns-in_err-seen-clause-ends g c =
    let n = g.N.Net in
    let s = g.S.Source in
    let sm = g.met.S.Source in
    let o = g.O.Observer in
    let m = g.met.O.Observer in
    let r = c.in_ok-setup.ensures in
    let k = c.in_ok-connect.ensures in
    let e = c.in_err-seen.ensures in
    let p = err_from_is_err_and c.from_residual-in_err-seen.result c.from_residual-in_err-seen.ensures.1 in
    rw (p.1, p.2) (ends_on s.faults n.faults o.faults s.is_same o.is_same sm.same_self sm.same_on m.same_self m.same_on c.args.source.now
    c.read_setup.new.source
    c.read_setup.new.source c.args.net.now c.args.net.now c.connect.new.net c.args.observer.now c.args.observer.now c.seen.new.self _
    (ends_read s.faults n.faults o.faults s.is_same o.is_same sm.same_self sm.same_on m.same_self m.same_on c.args.source.now c.read_setup.new.source
    c.args.net.now c.args.observer.now _ r.faults r.same)
    (ends_untold s.faults n.faults o.faults s.is_same o.is_same sm.same_self sm.same_on m.same_self m.same_on c.read_setup.new.source c.args.net.now
    c.connect.new.net
    c.args.observer.now c.seen.new.self c.in_err-seen.field-0.0 k.quiet e.risen e.quiet e.same))

pub returns-in_err-ids-clause-ends : goal.returns-in_err-ids-clause-ends
returns-in_err-ids-clause-ends g c =
    let n = g.N.Net in
    let s = g.S.Source in
    let sm = g.met.S.Source in
    let o = g.O.Observer in
    let m = g.met.O.Observer in
    let r = c.in_ok-setup.ensures in
    let k = c.in_ok-connect.ensures in
    let t = c.in_ok-seen.ensures in
    let p = err_from_is_err_and c.from_residual-in_err-ids.result c.from_residual-in_err-ids.ensures.1 in
    rw (p.1, p.2) (ends_on s.faults n.faults o.faults s.is_same o.is_same sm.same_self sm.same_on m.same_self m.same_on c.args.source.now
    c.read_setup.new.source
    c.read_setup.new.source c.args.net.now c.args.net.now c.connect.new.net c.args.observer.now c.args.observer.now c.seen.new.self _
    (ends_read s.faults n.faults o.faults s.is_same o.is_same sm.same_self sm.same_on m.same_self m.same_on c.args.source.now c.read_setup.new.source
    c.args.net.now c.args.observer.now _ r.faults r.same)
    (ends_on s.faults n.faults o.faults s.is_same o.is_same sm.same_self sm.same_on m.same_self m.same_on c.read_setup.new.source c.read_setup.new.source
    c.read_setup.new.source c.args.net.now c.connect.new.net c.connect.new.net c.args.observer.now c.seen.new.self c.seen.new.self _
    (ends_went s.faults n.faults o.faults s.is_same o.is_same sm.same_self sm.same_on m.same_self m.same_on c.read_setup.new.source c.args.net.now
    c.connect.new.net
    c.args.observer.now c.seen.new.self _ k.quiet t.quiet t.same)
    (ends_memory s.faults n.faults o.faults s.is_same o.is_same sm.same_self sm.same_on m.same_self m.same_on c.read_setup.new.source
    c.connect.new.net c.seen.new.self)))

pub returns-in_err-incs-clause-ends : goal.returns-in_err-incs-clause-ends
returns-in_err-incs-clause-ends g c =
    let n = g.N.Net in
    let s = g.S.Source in
    let sm = g.met.S.Source in
    let o = g.O.Observer in
    let m = g.met.O.Observer in
    let r = c.in_ok-setup.ensures in
    let k = c.in_ok-connect.ensures in
    let t = c.in_ok-seen.ensures in
    let p = err_from_is_err_and c.from_residual-in_err-incs.result c.from_residual-in_err-incs.ensures.1 in
    rw (p.1, p.2) (ends_on s.faults n.faults o.faults s.is_same o.is_same sm.same_self sm.same_on m.same_self m.same_on c.args.source.now
    c.read_setup.new.source
    c.read_setup.new.source c.args.net.now c.args.net.now c.connect.new.net c.args.observer.now c.args.observer.now c.seen.new.self _
    (ends_read s.faults n.faults o.faults s.is_same o.is_same sm.same_self sm.same_on m.same_self m.same_on c.args.source.now c.read_setup.new.source
    c.args.net.now c.args.observer.now _ r.faults r.same)
    (ends_on s.faults n.faults o.faults s.is_same o.is_same sm.same_self sm.same_on m.same_self m.same_on c.read_setup.new.source c.read_setup.new.source
    c.read_setup.new.source c.args.net.now c.connect.new.net c.connect.new.net c.args.observer.now c.seen.new.self c.seen.new.self _
    (ends_went s.faults n.faults o.faults s.is_same o.is_same sm.same_self sm.same_on m.same_self m.same_on c.read_setup.new.source c.args.net.now
    c.connect.new.net
    c.args.observer.now c.seen.new.self _ k.quiet t.quiet t.same)
    (ends_memory s.faults n.faults o.faults s.is_same o.is_same sm.same_self sm.same_on m.same_self m.same_on c.read_setup.new.source
    c.connect.new.net c.seen.new.self)))

pub returns-in_err-hosts-clause-ends : goal.returns-in_err-hosts-clause-ends
returns-in_err-hosts-clause-ends g c =
    let n = g.N.Net in
    let s = g.S.Source in
    let sm = g.met.S.Source in
    let o = g.O.Observer in
    let m = g.met.O.Observer in
    let r = c.in_ok-setup.ensures in
    let k = c.in_ok-connect.ensures in
    let t = c.in_ok-seen.ensures in
    let p = err_from_is_err_and c.from_residual-in_err-hosts.result c.from_residual-in_err-hosts.ensures.1 in
    rw (p.1, p.2) (ends_on s.faults n.faults o.faults s.is_same o.is_same sm.same_self sm.same_on m.same_self m.same_on c.args.source.now
    c.read_setup.new.source
    c.read_setup.new.source c.args.net.now c.args.net.now c.connect.new.net c.args.observer.now c.args.observer.now c.seen.new.self _
    (ends_read s.faults n.faults o.faults s.is_same o.is_same sm.same_self sm.same_on m.same_self m.same_on c.args.source.now c.read_setup.new.source
    c.args.net.now c.args.observer.now _ r.faults r.same)
    (ends_on s.faults n.faults o.faults s.is_same o.is_same sm.same_self sm.same_on m.same_self m.same_on c.read_setup.new.source c.read_setup.new.source
    c.read_setup.new.source c.args.net.now c.connect.new.net c.connect.new.net c.args.observer.now c.seen.new.self c.seen.new.self _
    (ends_went s.faults n.faults o.faults s.is_same o.is_same sm.same_self sm.same_on m.same_self m.same_on c.read_setup.new.source c.args.net.now
    c.connect.new.net
    c.args.observer.now c.seen.new.self _ k.quiet t.quiet t.same)
    (ends_memory s.faults n.faults o.faults s.is_same o.is_same sm.same_self sm.same_on m.same_self m.same_on c.read_setup.new.source
    c.connect.new.net c.seen.new.self)))

pub returns-clause-ends : goal.returns-clause-ends
returns-clause-ends g c =
    let n = g.N.Net in
    let s = g.S.Source in
    let sm = g.met.S.Source in
    let o = g.O.Observer in
    let m = g.met.O.Observer in
    let r = c.in_ok-setup.ensures in
    let k = c.in_ok-connect.ensures in
    let t = c.in_ok-seen.ensures in
    ends_on s.faults n.faults o.faults s.is_same o.is_same sm.same_self sm.same_on m.same_self m.same_on c.args.source.now c.read_setup.new.source
    c.read_setup.new.source c.args.net.now c.args.net.now c.connect.new.net c.args.observer.now c.args.observer.now c.seen.new.self _
    (ends_read s.faults n.faults o.faults s.is_same o.is_same sm.same_self sm.same_on m.same_self m.same_on c.args.source.now c.read_setup.new.source
    c.args.net.now c.args.observer.now _ r.faults r.same)
    (ends_went s.faults n.faults o.faults s.is_same o.is_same sm.same_self sm.same_on m.same_self m.same_on c.read_setup.new.source c.args.net.now
    c.connect.new.net
    c.args.observer.now c.seen.new.self _ k.quiet t.quiet t.same)

pub returns-clause-at_go : goal.returns-clause-at_go
returns-clause-at_go g c =
    let r = c.in_ok-setup.ensures in
    let h = c.in_ok-hosts.ensures in
    record {
      counted = r.counted;
      limit = r.limit ∙ ap (λ x. x.limit) c.in_ok-reader.ensures.place;
      locals = c.in_ok-ids.ensures.locals ∙ ap (λ xs. locals_from 0 (map place_seen xs)) c.deref-2.ensures.value;
      settings = h.settings;
      clock = h.clock;
      steps = h.steps;
    }
