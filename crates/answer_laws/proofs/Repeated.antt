-- The replay of a recording, where services are `Suite`s: it shows the run's own answers, since its boxes may give no others.
use Rattle.std.proofs.Common.{◌≡◌, ◌≤◌, ℕ, Bool, true, false, cond, Option, Some, None, List, [], ◌∷◌, ◌++◌, length, refl, sym, ap, subst, ◌∙◌}
use Rattle.std.specs.Prelude.{slice_set, map, take, drop}
use Rattle.std.specs.List.{AllByRecursion}
use Rattle.homa_plain.specs.declared.settings.Settings.{Settings}
use Rattle.homa_plain.specs.Entries.{PlainEntry, PlainSettings, PlainRun, PlainRestart, PlainDeliver, PlainClock, PlainInject, PlainRecv}
use Rattle.homa_plain.specs.Rules.{Answer}
use Rattle.homa_plain.specs.Answers.{shown}
use Rattle.homa_plain.specs.Script.{Opening, Opened, Unopened, opening, most_bytes}
use Rattle.homa_plain.specs.Replay.{Replay, Finished, RefusedAt, replay, replay_opened}
use Rattle.homa_service.specs.Table.{last_of, front_of}
use Rattle.node_runs.specs.Script as script
use Rattle.node_runs.specs.Course.{Receive, AreTicks, AreReceived, Run, node_run}
use Rattle.node_runs.specs.Texts.{entries, recording_text, recording_status}
use Rattle.node_runs.specs.Replayed.{IsHere, IsAnswer, is_of_host, of_hosts}
use Rattle.record_laws.specs.Recordings.{IsReplayOf}
use Rattle.record_laws.proofs.Recordings.{texts_repeat}
use Rattle.box_laws.specs.Boxes.{Allows, counted, all_counted, may_tell}
use Rattle.box_laws.specs.First.{AreAllowed}
use Rattle.box_laws.specs.Unasked.{unasked_allowed}
use Rattle.answer_laws.specs.Answers.{MayAnswerSo, suite_allows}
use Rattle.answer_laws.specs.Repeated.{SuitesRepeat}
use Rattle.answer_laws.proofs.OneWay.{suite_one_way}
use Rattle.answer_laws.proofs.Runs.{one_replay}

-- ---- the lines of hosts show all answers, and the boxes are asked for these alone

shown-hosts : (told : List PlainEntry) → shown (of_hosts told) ≡ shown told
shown-hosts [] = refl
shown-hosts (PlainClock tick ∷ told) = shown-hosts told
shown-hosts (PlainDeliver packet ∷ told) = shown-hosts told
shown-hosts (PlainInject host bytes ∷ told) = shown-hosts told
shown-hosts (PlainRecv host from bytes ∷ told) = shown-hosts told
shown-hosts (PlainRun host id service request response hold ∷ told) = ap (λ these. record { bytes = response; hold = hold } ∷ these) (shown-hosts told)
shown-hosts (entry ∷ told) = shown-hosts told

module _ {A : Type 0} (allows : Allows A) where
  to_hosts : (seats : List (Option (A × ℕ))) (spares : List (A × ℕ)) (told : List PlainEntry) → may_tell allows seats spares told
      → may_tell allows seats spares (of_hosts told)
  to_hosts seats spares [] may = tt
  to_hosts seats spares (entry ∷ told) may = by_entry entry may (λ vs ws m. to_hosts vs ws told m) where
    by_entry : (entry : PlainEntry) → may_tell allows seats spares (entry ∷ told)
        → ((vs : List (Option (A × ℕ))) (ws : List (A × ℕ)) → may_tell allows vs ws told → may_tell allows vs ws (of_hosts told))
        → may_tell allows seats spares (of_hosts (entry ∷ told))
    by_entry (PlainClock tick) may rest = rest seats spares may.1
    by_entry (PlainDeliver packet) may rest = rest seats spares may.1
    by_entry (PlainInject host bytes) may rest = rest seats spares may.1
    by_entry (PlainRecv host from bytes) may rest = rest seats spares may.1
    by_entry (PlainRun host id service request response hold) may rest = (may.0, rest _ spares may.1)
    by_entry (PlainRestart host inc) may rest = (tt, rest (slice_set seats host.0 (last_of spares)) (front_of spares) may.1)
    by_entry entry may rest = (tt, rest seats spares may.1)

  from_hosts : (seats : List (Option (A × ℕ))) (spares : List (A × ℕ)) (told : List PlainEntry) → may_tell allows seats spares (of_hosts told)
      → may_tell allows seats spares told
  from_hosts seats spares [] may = tt
  from_hosts seats spares (entry ∷ told) may = by_entry entry may (λ vs ws m. from_hosts vs ws told m) where
    by_entry : (entry : PlainEntry) → may_tell allows seats spares (of_hosts (entry ∷ told))
        → ((vs : List (Option (A × ℕ))) (ws : List (A × ℕ)) → may_tell allows vs ws (of_hosts told) → may_tell allows vs ws told)
        → may_tell allows seats spares (entry ∷ told)
    by_entry (PlainClock tick) may rest = (tt, rest seats spares may)
    by_entry (PlainDeliver packet) may rest = (tt, rest seats spares may)
    by_entry (PlainInject host bytes) may rest = (tt, rest seats spares may)
    by_entry (PlainRecv host from bytes) may rest = (tt, rest seats spares may)
    by_entry (PlainRun host id service request response hold) may rest = (may.0, rest _ spares may.1)
    by_entry (PlainRestart host inc) may rest = (tt, rest (slice_set seats host.0 (last_of spares)) (front_of spares) may.1)
    by_entry entry may rest = (tt, rest seats spares may.1)

-- ---- lines that tell the settings first

-- they do
pub record BeginsSo (told : List PlainEntry) : Type 0 where
  pub settings : Settings
  pub later : List PlainEntry
  pub is : told ≡ PlainSettings settings ∷ later

-- what a replay tells that refuses nothing
begins : (bytes : List ℕ) (answers : List Answer) (boxes events : ℕ) → (replay bytes answers boxes).end ≡ Finished events
    → BeginsSo (replay bytes answers boxes).told
unfolding replay
begins bytes answers boxes events end = by_opening (opening most_bytes bytes) end where
  by_opening : (o : Opening) → (replay_opened o answers boxes).end ≡ Finished events → BeginsSo (replay_opened o answers boxes).told
  by_opening (Unopened refusal) e = absurd (no e) where
    no : {line : ℕ} {fault : _} → RefusedAt line fault ≡ Finished events → ⊥
    no e = cc
  by_opening (Opened s steps) e = record { settings = s; later = _; is = refl }

module _ {A : Type 0} (served : A → ℕ) (allows : Allows A) (boxes : List A) where
  -- the boxes at their hosts, and the spare ones
  abbrev first_seats : Settings → List (Option (A × ℕ))
  first_seats s = all_counted served (map Some (take s.hosts boxes))

  abbrev first_spares : Settings → List (A × ℕ)
  first_spares s = map (counted served) (drop s.hosts boxes)

  same_first : (s t : Settings) (xs ys : List PlainEntry) → PlainSettings s ∷ xs ≡ PlainSettings t ∷ ys → (s ≡ t) × (xs ≡ ys)
  same_first s t xs ys e = (cc, cc)

  -- where two lists of lines have the same lines of hosts, and the second tells the settings first, the boxes allow both
  allowed_too : (told other : List PlainEntry) → of_hosts other ≡ of_hosts told → BeginsSo other → AreAllowed served allows boxes told
      → AreAllowed served allows boxes other
  allowed_too told other same first may =
      subst (AreAllowed served allows boxes) (sym first.is)
      (by_told told (ap of_hosts (sym first.is) ∙ same) may) where
        by_told : (told : List PlainEntry) → of_hosts (PlainSettings first.settings ∷ first.later) ≡ of_hosts told → AreAllowed served allows boxes told
            → AreAllowed served allows boxes (PlainSettings first.settings ∷ first.later)
        by_told (PlainSettings t ∷ told) e may =
            let both = same_first first.settings t (of_hosts first.later) (of_hosts told) e in
            subst (λ (s : Settings). AreAllowed served allows boxes (PlainSettings s ∷ first.later)) (sym both.0)
            (from_hosts allows (first_seats t) (first_spares t) first.later
            (subst (may_tell allows (first_seats t) (first_spares t)) (sym both.1) (to_hosts allows (first_seats t) (first_spares t) told may)))
        by_told told e may = unasked_allowed served allows boxes (PlainSettings first.settings ∷ first.later)
            (sym (shown-hosts (PlainSettings first.settings ∷ first.later)) ∙ (ap shown e ∙ (shown-hosts told ∙ may)))

-- ---- the law

pub suites_repeat : SuitesRepeat
suites_repeat bytes setup calls boxes answers ticks receives those opened here enough fair rises fits shows allowed status long other =
    let run = node_run bytes answers ticks receives in
    let again = texts_repeat bytes setup calls answers ticks receives (length boxes) opened here fair rises fits status long in
    let r : Replay = replay (recording_text run) answers (length boxes) in
    let own : MayAnswerSo (λ n. n) suite_allows boxes (recording_text run) answers = (
      sym (shown-hosts r.told) ∙ (ap shown again.told ∙ (shown-hosts (entries run.reports) ∙ shows)),
      allowed_too (λ n. n) suite_allows boxes (entries run.reports) r.told again.told
          (begins (recording_text run) answers (length boxes) again.events again.end) allowed,
    ) in
    let same : answers ≡ those = one_replay (λ n. n) suite_allows suite_one_way boxes (recording_text run) enough answers those own other in
    subst (λ (xs : List Answer). IsReplayOf run (replay (recording_text run) xs (length boxes))) same again
