-- What fits together.
use Rattle.std.proofs.Common.{◌≡◌, refl, sym, subst, ℕ, ◌*◌, ◌<◌, ◌≤◌, ltb, leb, Bool, true, false, cond, Option, None, Some, Result, Ok, Err, List}
use Rattle.std.proofs.Common.{[], ◌∷◌, All}
use Rattle.std.proofs.lemmas.Bool.{ltb-true, leb-true}
use Rattle.std.proofs.lemmas.List.Elements.{All-nil, All-cons}
use Rattle.homa_plain.specs.declared.settings.SettingFault.{SettingFault}
use Rattle.homa_plain.specs.declared.settings.SettingFault.TheVariants.{OutOfRange, UnschedOverWindow, RateUnderSeg}
use Rattle.homa_plain.specs.declared.settings.Name.TheVariants.{Skew}
use Rattle.homa_plain.specs.Settings.{verdict, IsValid}
use Rattle.homa_plain.proofs.SettingsLemmas.{ok_is_valid}
use Rattle.experiment.specs.declared.amounts.Amount.TheVariants.{Incast}
use Rattle.experiment.specs.declared.fault.Wrong.TheVariants as wrong
use Rattle.experiment.specs.declared.fault.ExperimentFault.{ExperimentFault}
use Rattle.experiment.specs.declared.fault.ExperimentFault.TheVariants.{Said}
use Rattle.experiment.specs.declared.load.Hot.{Hot}
use Rattle.experiment.specs.declared.marks.Restarting.{Restarting}
use Rattle.experiment.specs.declared.marks.ListedCall.{ListedCall}
use Rattle.experiment.specs.declared.marks.Injection.{Injection}
use Rattle.experiment.specs.declared.marks.Shifting.{Shifting}
use Rattle.experiment.specs.Amounts.{number_of}
use Rattle.experiment.specs.Drafts.{Drafting}
use Rattle.experiment.specs.Fits.{settings_by, restarts_fit, calls_fit, injections_fit, shifts_fit, incast_fits, hot_fits}
use Rattle.experiment.specs.Made.{both, checked}

-- what was said fits together
pub record AreFit (d : Drafting) : Type 0 where
  pub valid : IsValid d.settings
  pub restarts : All (λ r. r.host.0 < d.settings.hosts) d.happenings.restarts
  pub clients : All (λ c. c.client.0 < d.settings.hosts) d.happenings.listed
  pub servers : All (λ c. c.server.0 < d.settings.hosts) d.happenings.listed
  pub injections : All (λ i. i.host.0 < d.settings.hosts) d.happenings.injections
  pub shifts : All (λ s. s.host.0 < d.settings.hosts) d.happenings.shifts
  pub skew : All (λ s. s.ticks ≤ 2 * d.settings.skew) d.happenings.shifts
  pub incast : number_of d.numbers Incast < d.settings.hosts
  pub hot : (h : Hot) → d.hot ≡ Some h → h.host.0 < d.settings.hosts

-- a test passed, and what follows it too
kept : (b : Bool) (next : Result (Unit {0}) ExperimentFault) (fault : ExperimentFault) → cond b next (Err fault) ≡ Ok tt → (b ≡ true) × (next ≡ Ok tt)
kept true next fault e = (refl, e)
kept false next fault e = absurd cc

both_parts : (a b : Result (Unit {0}) ExperimentFault) → both a b ≡ Ok tt → (a ≡ Ok tt) × (b ≡ Ok tt)
both_parts (Ok done) b e = (refl, e)
both_parts (Err fault) b e = absurd cc

restarts_all : (hosts : ℕ) (rs : List Restarting) → restarts_fit hosts rs ≡ Ok tt → All (λ r. r.host.0 < hosts) rs
restarts_all hosts [] e = All-nil (λ (r : Restarting). r.host.0 < hosts)
restarts_all hosts (r ∷ rs) e =
    let p = kept (ltb r.host.0 hosts) (restarts_fit hosts rs) (Said r.line 2 wrong.Host) e in
    All-cons (λ (r : Restarting). r.host.0 < hosts) r rs (ltb-true r.host.0 hosts p.0) (restarts_all hosts rs p.1)

calls_all : (hosts : ℕ) (cs : List ListedCall) → calls_fit hosts cs ≡ Ok tt
    → (All (λ c. c.client.0 < hosts) cs) × (All (λ c. c.server.0 < hosts) cs)
calls_all hosts [] e = (All-nil (λ (c : ListedCall). c.client.0 < hosts), All-nil (λ (c : ListedCall). c.server.0 < hosts))
calls_all hosts (c ∷ cs) e =
    let p = kept (ltb c.client.0 hosts) (cond (ltb c.server.0 hosts) (calls_fit hosts cs) (Err (Said c.line 3 wrong.Host))) (Said c.line 2 wrong.Host) e in
    let q = kept (ltb c.server.0 hosts) (calls_fit hosts cs) (Said c.line 3 wrong.Host) p.1 in
    let rest = calls_all hosts cs q.1 in (
      All-cons (λ (c : ListedCall). c.client.0 < hosts) c cs (ltb-true c.client.0 hosts p.0) rest.0,
      All-cons (λ (c : ListedCall). c.server.0 < hosts) c cs (ltb-true c.server.0 hosts q.0) rest.1,
    )

injections_all : (hosts : ℕ) (is : List Injection) → injections_fit hosts is ≡ Ok tt → All (λ i. i.host.0 < hosts) is
injections_all hosts [] e = All-nil (λ (i : Injection). i.host.0 < hosts)
injections_all hosts (i ∷ is) e =
    let p = kept (ltb i.host.0 hosts) (injections_fit hosts is) (Said i.line 2 wrong.Host) e in
    All-cons (λ (i : Injection). i.host.0 < hosts) i is (ltb-true i.host.0 hosts p.0) (injections_all hosts is p.1)

shifts_all : (hosts skew : ℕ) (ss : List Shifting) → shifts_fit hosts skew ss ≡ Ok tt
    → (All (λ s. s.host.0 < hosts) ss) × (All (λ s. s.ticks ≤ 2 * skew) ss)
shifts_all hosts skew [] e = (All-nil (λ (s : Shifting). s.host.0 < hosts), All-nil (λ (s : Shifting). s.ticks ≤ 2 * skew))
shifts_all hosts skew (s ∷ ss) e =
    let p = kept (ltb s.host.0 hosts) (cond (leb s.ticks (2 * skew)) (shifts_fit hosts skew ss) (Err (Said s.line 3 (wrong.AgainstSetting Skew))))
    (Said s.line 2 wrong.Host) e in
    let q = kept (leb s.ticks (2 * skew)) (shifts_fit hosts skew ss) (Said s.line 3 (wrong.AgainstSetting Skew)) p.1 in
    let rest = shifts_all hosts skew ss q.1 in (
      All-cons (λ (s : Shifting). s.host.0 < hosts) s ss (ltb-true s.host.0 hosts p.0) rest.0,
      All-cons (λ (s : Shifting). s.ticks ≤ 2 * skew) s ss (leb-true s.ticks (2 * skew) q.0) rest.1,
    )

incast_less : (hosts incast line : ℕ) → incast_fits hosts incast line ≡ Ok tt → incast < hosts
incast_less hosts incast line e = ltb-true incast hosts (kept (ltb incast hosts) (Ok tt) (Said line 2 (wrong.Against Incast)) e).0

hot_is : (hosts line : ℕ) (hot : Option Hot) → hot_fits hosts line hot ≡ Ok tt → (h : Hot) → hot ≡ Some h → h.host.0 < hosts
hot_is hosts line None e h is = absurd cc
hot_is hosts line (Some g) e h is =
    let same : g ≡ h = cc in
    subst (λ (x : Hot). x.host.0 < hosts) same (ltb-true g.host.0 hosts (kept (ltb g.host.0 hosts) (Ok tt) (Said line 2 wrong.Host) e).0)

verdict_is : (line : ℕ) (v : Result (Unit {0}) SettingFault) → settings_by line v ≡ Ok tt → v ≡ Ok tt
verdict_is line (Ok valid) e = refl
verdict_is line (Err (OutOfRange name)) e = absurd cc
verdict_is line (Err UnschedOverWindow) e = absurd cc
verdict_is line (Err RateUnderSeg) e = absurd cc

-- what was checked fits together
pub are_fit : (d : Drafting) → checked d ≡ Ok tt → AreFit d
are_fit d e =
    let a = both_parts (settings_by d.setting_line (verdict d.settings)) _ e in
    let b = both_parts (restarts_fit d.settings.hosts d.happenings.restarts) _ a.1 in
    let c = both_parts (calls_fit d.settings.hosts d.happenings.listed) _ b.1 in
    let i = both_parts (injections_fit d.settings.hosts d.happenings.injections) _ c.1 in
    let s = both_parts (shifts_fit d.settings.hosts d.settings.skew d.happenings.shifts) _ i.1 in
    let n = both_parts (incast_fits d.settings.hosts (number_of d.numbers Incast) d.incast_line) (hot_fits d.settings.hosts d.hot_line d.hot) s.1 in
    let calls = calls_all d.settings.hosts d.happenings.listed c.0 in
    let shifts = shifts_all d.settings.hosts d.settings.skew d.happenings.shifts s.0 in
    record {
      valid = (ok_is_valid d.settings (Ok tt) (sym (verdict_is d.setting_line (verdict d.settings) a.0))).0 refl;
      restarts = restarts_all d.settings.hosts d.happenings.restarts b.0;
      clients = calls.0;
      servers = calls.1;
      injections = injections_all d.settings.hosts d.happenings.injections i.0;
      shifts = shifts.0;
      skew = shifts.1;
      incast = incast_less d.settings.hosts (number_of d.numbers Incast) d.incast_line n.0;
      hot = hot_is d.settings.hosts d.hot_line d.hot n.1;
    }
