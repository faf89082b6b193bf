-- Once, at each line that a move tells: only the line of a run can break it.
use Rattle.std.proofs.Common.{◌≡◌, ℕ, suc, ◌+◌, ◌++◌, length, Bool, true, false, ◌&&◌, ◌||◌, Some, List, [], ◌∷◌, sym, ap, subst, refl, ◌∙◌}
use Rattle.std.proofs.lemmas.Bool.{false≢true}
use Rattle.plain_sets.specs.Maps.{Map, get}
use Rattle.homa_plain.specs.declared.id.CallId.{CallId}
use Rattle.homa_plain.specs.declared.id.HostId.{HostId}
use Rattle.homa_plain.specs.declared.packet.Role.{Role}
use Rattle.homa_plain.specs.declared.settings.Settings.{Settings}
use Rattle.homa_plain.specs.Calls.{is_host, is_call, call_cmp}
use Rattle.homa_plain.specs.Entries.{PlainEntry, PlainRun, PlainDone, PlainFail, PlainDrop, PlainGaps, PlainBury, PlainFree, PlainFullRows, PlainFullPages}
use Rattle.homa_plain.specs.Packets.{send_line}
use Rattle.homa_plain.specs.Host.{Host, Told, Says, Sends, packets_in, entries_from}
use Rattle.homa_plain.specs.Rules.{Say, Tells, Posts}
use Rattle.homa_plain.specs.Work.{said, packet_from, bare}
use Rattle.trace_rules.specs.View.{View, Called, has_run}
use Rattle.trace_rules.specs.Seen.{seen, seen_all}
use Rattle.trace_rules.specs.Laws.{Holds, Once}
use Rattle.homa_plain.proofs.CallOrder.{calls_are, hosts_are}
use Rattle.trace_steps.specs.Stands.{Stand}
use Rattle.trace_steps.proofs.Lines.{holds-append, told_same}
use Rattle.step_moves.proofs.Inner.{AllInner, IsSaid, entries_from-append}
use Rattle.trace_steps.proofs.Runs.{is_run, runs_told, told_runs}
use Rattle.step_laws.proofs.Own.{IsOwn, AllOwn, runs_said}
use Rattle.trace_steps.proofs.OwnRuns.{says-runs}
use Rattle.trace_once.specs.Lifetime.{call_to}
use Rattle.trace_once.proofs.ServerRules.{RunsFit}

-- no call runs
abbrev pub IsQuietTold : List Told → Type 0
IsQuietTold told = (h : HostId) (q : CallId) → runs_told h q told ≡ false

pub or_first : (a b : Bool) → (a || b) ≡ false → a ≡ false
or_first true b e = e
or_first false b e = refl

pub or_second : (a b : Bool) → (a || b) ≡ false → b ≡ false
or_second true b e = absurd (false≢true (sym e))
or_second false b e = e

-- a line that tells no run
line_once : (v : View) (line : PlainEntry) → ((h : HostId) (q : CallId) → is_run h q line ≡ false) → Once v line
line_once v (PlainRun host id service request response hold) quiet =
    absurd (false≢true (sym (quiet host id) ∙ (ap (λ b. b && is_host host host) ((calls_are id id).1 refl) ∙ (hosts_are host host).1 refl)))
line_once v line quiet = tt

pub quiet_once : (v : View) (n : ℕ) (told : List Told) → IsQuietTold told → Holds Once v (entries_from n told)
quiet_once v n [] quiet = tt
quiet_once v n (Says entry ∷ told) quiet = (
  line_once v entry (λ h q. or_first (is_run h q entry) (runs_told h q told) (quiet h q)),
  quiet_once (seen v entry) n told (λ h q. or_second (is_run h q entry) (runs_told h q told) (quiet h q)),
)
quiet_once v n (Sends packet ∷ told) quiet = (tt, quiet_once (seen v (send_line n packet)) (suc n) told quiet)

pub once_append : (v : View) (n : ℕ) (a b : List Told) → Holds Once v (entries_from n a)
    → Holds Once (seen_all v (entries_from n a)) (entries_from (n + length (packets_in a)) b) → Holds Once v (entries_from n (a ++ b))
once_append v n a b first second =
    subst (Holds Once v) (sym (entries_from-append n a b)) (holds-append Once v (entries_from n a) (entries_from (n + length (packets_in a)) b) first second)

-- ---- what a rule says

-- the call has run where it had, and its `call` line is the one that it had
abbrev pub IsAsStood : CallId → HostId → Stand → View → Type 0
IsAsStood id h stand v = (has_run v h id ≡ stand.ran) × (get v.calls id ≡ stand.called)

-- lines within a step that don't say that it runs leave that
pub stood_still : (id : CallId) (h : HostId) (stand : Stand) (v : View) (n : ℕ) (told : List Told) → AllInner told → runs_told h id told ≡ false
    → IsAsStood id h stand v → IsAsStood id h stand (seen_all v (entries_from n told))
stood_still id h stand v n told inner quiet e = (
  told_runs v n told h id inner ∙ ap (λ b. b || has_run v h id) quiet ∙ e.0,
  ap (λ (c : Map call_cmp Called). get c id) (told_same v n told inner).calls ∙ e.1,
)

-- a run is said where the call has not run, with the service and the request of its `call` line
module _ (s : Settings) (host : Host) (role : Role) (id : CallId) (server h : HostId) (stand : Stand) where
  abbrev said_by : List Say → List Told
  said_by says = said s host role id server says

  quiet_said : (says : List Say) → AllOwn h id says → runs_said says ≡ false → IsQuietTold (said_by says)
  quiet_said says own quiet x q = says-runs s x q host role id server h says own ∙ ap (λ b. b && (is_call id q && is_host h x)) quiet

  own_said : (entry : PlainEntry) → IsOwn h id entry → runs_said (Tells entry ∷ []) ≡ false → IsSaid entry × (is_run h id entry ≡ false)
  own_said (PlainRun x q service request response hold) own quiet = absurd (false≢true (sym quiet))
  own_said (PlainDone q bytes) own quiet = (tt, refl)
  own_said (PlainFail q why) own quiet = (tt, refl)
  own_said (PlainDrop x q) own quiet = (tt, refl)
  own_said (PlainGaps x q) own quiet = (tt, refl)
  own_said (PlainBury x q until) own quiet = (tt, refl)
  own_said (PlainFree x q) own quiet = (tt, refl)
  own_said (PlainFullRows x q rows limit) own quiet = (tt, refl)
  own_said (PlainFullPages x q need free) own quiet = (tt, refl)
  own_said line own quiet = absurd own

  pub says_once : (v : View) (n : ℕ) (says : List Say) → AllOwn h id says → RunsFit h stand says → IsAsStood id h stand v
      → Holds Once v (entries_from n (said_by says))
  says_once v n [] own fits e = tt
  says_once v n (Tells (PlainRun x q service request response hold) ∷ says) own fits e = (
    (
      ap (λ (y : HostId). has_run v y q) own.0.0 ∙ ap (λ (y : CallId). has_run v h y) own.0.1 ∙ e.0 ∙ fits.0,
      ap (λ (y : CallId). get v.calls y) own.0.1 ∙ e.1 ∙ fits.1 ∙ ap (λ (y : HostId). Some (call_to y service request)) (sym own.0.0),
    ),
    quiet_once (seen v (PlainRun x q service request response hold)) n (said_by says) (quiet_said says own.1 fits.2),
  )
  says_once v n (Tells entry ∷ says) own fits e =
      let line = own_said entry own.0 refl in
      (tt, says_once (seen v entry) n says own.1 fits (stood_still id h stand v n (Says entry ∷ []) (line.0, tt) (ap (λ b. b || false) line.1) e))
  says_once v n (Posts what ∷ says) own fits e = (
    tt,
    says_once (seen v (send_line n (packet_from s host role id server (bare what)))) (suc n) says own fits
        (stood_still id h stand v n (Sends (packet_from s host role id server (bare what)) ∷ []) tt refl e),
  )
