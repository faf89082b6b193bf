-- The text of a recording is a schedule that is printed.
use Rattle.std.proofs.Common.{◌≡◌, ◌≤◌, ℕ, ◌*◌, ◌^◌, Bool, true, false, Option, None, Some, List, [], ◌∷◌, ◌++◌, length, refl, sym, ap, ◌∙◌, subst}
use Rattle.std.proofs.Common.{append-nil, append_assoc, length-append, arith}
use Rattle.std.specs.Prelude.{if◌then◌else◌}
use Rattle.std.specs.List.{AllByRecursion, join_with_byte}
use Rattle.std.specs.Option.{option_map}
use Rattle.homa_plain.specs.declared.event.Event.{Event}
use Rattle.homa_plain.specs.declared.event.Event.TheVariants as event
use Rattle.homa_plain.specs.Bytes.{IsBytes}
use Rattle.homa_plain.specs.declared.settings.Settings.{Settings}
use Rattle.homa_plain.specs.Entries
use Rattle.homa_plain.specs.Entries.{PlainEntry, PlainSettings}
use Rattle.homa_plain.specs.Script.{event_words, event_text, settings_text, most_bytes}
use Rattle.homa_plain.specs.Replay.{Happening, Replay, replay}
use Rattle.node_runs.specs.Course.{Report, Tells, Turning, End, Ended, RefusedAt, StalledAt, Run, node_run}
use Rattle.node_runs.specs.Recorder.{Notes, no_notes, kind_in, is_strange, strange, stranger_text, other_text, events, told, kept}
use Rattle.node_runs.specs.Observed.{Observed, behind, observed}
use Rattle.node_runs.specs.Texts.{recorded, with_end, recording_text, end_status, recording_status}
use Rattle.node_runs.specs.Replayed.{recorded_events, NoneStrange, of_hosts, is_settings, NoSettings, BeginsWith, IsRecorded, AreRecorded}
use Rattle.node_runs.proofs.Observing.{observed-usual, usual-first}
use Rattle.node_laws.proofs.Loops.{recordings_repeat, settings_first, events_fit}
use Rattle.node_laws.proofs.Opening.{opening_is}
use Rattle.node_laws.proofs.Turns.{turns_fit}
use Rattle.record_laws.specs.Printed.{IsPrinted, texts, comment_text, schedule_text, run_from_start}
use Rattle.record_laws.specs.Recordings.{TextsRepeat}
use Rattle.record_laws.proofs.Replays.{schedules_replayed}

texts-append : (a b : List Happening) → texts (a ++ b) ≡ texts a ++ texts b
texts-append [] b = refl
texts-append (h ∷ a) b =
    ap (λ (xs : List ℕ). event_text h.event h.bytes ++ xs) (texts-append a b) ∙ sym (append_assoc (event_text h.event h.bytes) (texts a) (texts b))

not_strange : (b : Bool) (xs : List ℕ) → b ≡ false → (if b then xs else []) ≡ []
not_strange b xs e = ap (λ (c : Bool). if c then xs else []) e

-- but for settings and strangers, all that is printed are events
no_other : (n : Notes) (r : Report) → is_settings r ≡ false → strange n r ≡ false → other_text n r ≡ []
no_other n (Turning host) k e = refl
no_other n (Tells (Entries.PlainSettings s)) k e = absurd (let z : true ≡ false = k in cc)
no_other n (Tells (Entries.PlainCall id server service bytes)) k e = refl
no_other n (Tells (Entries.PlainDeliver packet)) k e = refl
no_other n (Tells (Entries.PlainClock tick)) k e = refl
no_other n (Tells (Entries.PlainRestart host inc)) k e = refl
no_other n (Tells (Entries.PlainInject host bytes)) k e = refl
no_other n (Tells (Entries.PlainShift host m)) k e = refl
no_other n (Tells (Entries.PlainJunk host)) k e = refl
no_other n (Tells (Entries.PlainStale host at now)) k e = refl
no_other n (Tells (Entries.PlainSend number from to inc role id level body payload)) k e = refl
no_other n (Tells (Entries.PlainRun host id service request response hold)) k e = refl
no_other n (Tells (Entries.PlainDone id bytes)) k e = refl
no_other n (Tells (Entries.PlainFail id why)) k e = refl
no_other n (Tells (Entries.PlainDrop host id)) k e = refl
no_other n (Tells (Entries.PlainGaps host id)) k e = refl
no_other n (Tells (Entries.PlainBury host id until)) k e = refl
no_other n (Tells (Entries.PlainFree host id)) k e = refl
no_other n (Tells (Entries.PlainFullRows host id rows limit)) k e = refl
no_other n (Tells (Entries.PlainFullPages host id need free)) k e = refl
no_other n (Tells (Entries.PlainBalance host cutoffs)) k e = refl
no_other n (Tells (Entries.PlainRecv host from bytes)) k e = not_strange (is_strange (kind_in n host from bytes)) (stranger_text host from bytes) e
no_other n (Tells (Entries.PlainFinished m)) k e = refl
no_other n (Tells (Entries.PlainRefused line fault)) k e = refl
no_other n (Tells (Entries.PlainStalled turns now)) k e = refl

told_events : (n : Notes) (r : Report) → other_text n r ≡ [] → told n r ≡ texts (events n r)
unfolding told
told_events n r e = ap (λ (xs : List ℕ). xs ++ texts (events n r)) e

-- what is told of reports, one by one
recorded-none : (n : Notes) → recorded n [] ≡ record { told = []; is_cut = false }
unfolding observed
recorded-none n = refl

events-by : (n : Notes) (r : Report) (rs : List Report) → recorded_events n (r ∷ rs) ≡ events n r ++ recorded_events (kept n r) rs
unfolding observed
events-by n r rs = refl

events-none : (n : Notes) → recorded_events n [] ≡ []
unfolding observed
events-none n = refl

recorded-by : (n : Notes) (r : Report) (rs : List Report) → strange n r ≡ false → recorded n (r ∷ rs) ≡ behind (told n r) (recorded (kept n r) rs)
recorded-by n r rs e = observed-usual told kept strange n r rs e

usual-by : (n : Notes) (r : Report) (rs : List Report) → NoneStrange n (r ∷ rs) → (strange n r ≡ false) × NoneStrange (kept n r) rs
usual-by n r rs u = usual-first told kept strange n r rs u

-- the text of a recording that isn't cut
abbrev pub uncut : List ℕ → Observed ℕ
uncut text = record { told = text; is_cut = false }

recorded_is : (rs : List Report) (n : Notes) → NoSettings rs → NoneStrange n rs → recorded n rs ≡ uncut (texts (recorded_events n rs))
recorded_is [] n k u = recorded-none n ∙ ap (λ (hs : List Happening). uncut (texts hs)) (sym (events-none n))
recorded_is (r ∷ rs) n k u =
    let usual = usual-by n r rs u in
    let other = no_other n r k.0 usual.0 in
    recorded-by n r rs usual.0
    ∙ (ap (behind (told n r)) (recorded_is rs (kept n r) k.1 usual.1)
    ∙ ap uncut (ap (λ (xs : List ℕ). xs ++ texts (recorded_events (kept n r) rs)) (told_events n r other)
    ∙ (sym (texts-append (events n r) (recorded_events (kept n r) rs)) ∙ ap texts (sym (events-by n r rs)))))

-- from the settings on
settings_told : (s : Settings) → told no_notes (Tells (PlainSettings s)) ≡ settings_text s
unfolding told
settings_told s = append-nil (settings_text s)

whole_recorded : (s : Settings) (rs : List Report) → NoSettings rs → NoneStrange no_notes (Tells (PlainSettings s) ∷ rs)
    → recorded no_notes (Tells (PlainSettings s) ∷ rs) ≡ uncut (settings_text s ++ texts (recorded_events no_notes (Tells (PlainSettings s) ∷ rs)))
whole_recorded s rs k u =
    let r = Tells (PlainSettings s) in
    let usual = usual-by no_notes r rs u in
    recorded-by no_notes r rs refl
    ∙ (ap (behind (told no_notes r)) (recorded_is rs (kept no_notes r) k usual.1)
    ∙ ap uncut (ap (λ (xs : List ℕ). xs ++ texts (recorded_events (kept no_notes r) rs)) (settings_told s)
    ∙ ap (λ (hs : List Happening). settings_text s ++ texts hs) (sym (events-by no_notes r rs))))

-- the text of a recording
pub recording_is : (run : Run) (s : Settings) (turns : ℕ) → BeginsWith s run.reports → NoneStrange no_notes run.reports → run.end ≡ Some (Ended turns)
    → recording_text run ≡ schedule_text s (recorded_events no_notes run.reports) turns
unfolding recording_text
recording_is run s turns k u e =
    let whole : recorded no_notes run.reports ≡ uncut (settings_text s ++ texts (recorded_events no_notes run.reports)) =
    ap (recorded no_notes) k.first
    ∙ (whole_recorded s k.later k.only (subst (NoneStrange no_notes) k.first u)
    ∙ ap (λ (rs : List Report). uncut (settings_text s ++ texts (recorded_events no_notes rs))) (sym k.first)) in
    ap (λ (r : Observed ℕ). with_end r run.end) whole
    ∙ (ap (with_end (uncut (settings_text s ++ texts (recorded_events no_notes run.reports)))) e ∙ append_assoc (settings_text s)
    (texts (recorded_events no_notes run.reports)) (comment_text turns))

-- ---- a run whose recording has status 0

-- nothing in it was strange, and it came to its end
record IsDone (run : Run) : Type 0 where
  pub usual : NoneStrange no_notes run.reports
  pub turns : ℕ
  pub end : run.end ≡ Some (Ended turns)

some_is : (m n : ℕ) → Some m ≡ Some n → m ≡ n
some_is m n e = cc

status_done : (run : Run) → recording_status run ≡ Some 0 → IsDone run
status_done run e = by_cut (recorded no_notes run.reports).is_cut refl e where
  by_end : NoneStrange no_notes run.reports → (o : Option End) → run.end ≡ o → option_map end_status o ≡ Some 0 → IsDone run
  by_end usual None is e = absurd (let z : None ≡ Some 0 = e in cc)
  by_end usual (Some (Ended turns)) is e = record { usual = usual; turns = turns; end = is }
  by_end usual (Some (RefusedAt line fault)) is e = absurd (omega (arith, some_is 2 0 e))
  by_end usual (Some (StalledAt turns now)) is e = absurd (omega (arith, some_is 7 0 e))

  by_cut : (b : Bool) → (recorded no_notes run.reports).is_cut ≡ b → (if b then Some 8 else option_map end_status run.end) ≡ Some 0 → IsDone run
  by_cut true is e = absurd (omega (arith, some_is 8 0 e))
  by_cut false is e = by_end is run.end refl e

-- ---- the events that are recorded can be printed

event_printed : (packets : ℕ) → packets ≤ 2 ^ 64 → (e : Event) (bytes : List ℕ) → IsRecorded packets e bytes → IsPrinted (record { event = e; bytes = bytes })
event_printed packets l (event.Call client server service) bytes k =
    record { fitting = (omega (arith, k.0), omega (arith, k.1), omega (arith, k.2)); bytes = k.3; few = omega (arith, k.4) }
event_printed packets l (event.Deliver number) bytes k =
    record { fitting = omega (arith, k.0, l); bytes = subst IsBytes (sym k.1) (λ i. omega arith); few = omega (arith, ap length k.1) }
event_printed packets l event.Clock bytes k = record { fitting = tt; bytes = subst IsBytes (sym k) (λ i. omega arith); few = omega (arith, ap length k) }
event_printed packets l (event.Turn host) bytes k =
    record { fitting = omega (arith, k.0); bytes = subst IsBytes (sym k.1) (λ i. omega arith); few = omega (arith, ap length k.1) }
event_printed packets l (event.Inject host) bytes k = record { fitting = omega (arith, k.0); bytes = k.1; few = omega (arith, k.2) }
event_printed packets l (event.Restart host) bytes k = absurd k
event_printed packets l (event.Shift host lead) bytes k = absurd k

all_printed : (packets : ℕ) → packets ≤ 2 ^ 64 → (hs : List Happening) → AreRecorded packets hs → AllByRecursion IsPrinted hs
all_printed packets l [] k = tt
all_printed packets l (h ∷ hs) k = (event_printed packets l h.event h.bytes k.0, all_printed packets l hs k.1)

-- each event has a line
line_some : (e : Event) (bytes : List ℕ) → 1 ≤ length (event_text e bytes)
unfolding event_text
line_some e bytes = omega (arith, length-append (join_with_byte 32 (event_words e bytes)) (10 ∷ []))

as_many : (hs : List Happening) → length hs ≤ length (texts hs)
as_many [] = omega arith
as_many (h ∷ hs) = omega (arith, length-append (event_text h.event h.bytes) (texts hs), line_some h.event h.bytes, as_many hs)

-- ---- the law of texts

pub texts_repeat : TextsRepeat
texts_repeat bytes setup calls answers ticks receives boxes opened here fair rises fits status long =
    let run = node_run bytes answers ticks receives in
    let s = setup.settings in
    let hs = recorded_events no_notes run.reports in
    let done = status_done run status in
    let first = settings_first bytes setup calls answers ticks receives opened here fair rises done.usual in
    let text = recording_is run s done.turns first done.usual done.end in
    let whole : length (schedule_text s hs done.turns) ≤ most_bytes = omega (arith, long, ap length text) in
    let many : length hs ≤ most_bytes =
    omega (
      arith,
      whole,
      length-append (settings_text s) (texts hs ++ comment_text done.turns),
      length-append (texts hs) (comment_text done.turns),
      as_many hs,
    ) in
    let printed =
    all_printed (64 * length hs) (omega (arith, many)) hs (events_fit bytes setup calls answers ticks receives opened here fair rises fits done.usual) in
    let turns = turns_fit bytes setup calls answers ticks receives done.turns opened done.end in
    let events = recordings_repeat bytes setup calls answers ticks receives boxes opened here fair rises done.usual in
    let valid = (opening_is most_bytes bytes setup calls opened).is.valid in
    let replayed = schedules_replayed s hs done.turns answers boxes valid printed (omega (arith, turns)) whole events.0 in
    record {
      told = ap (λ (xs : List ℕ). of_hosts (replay xs answers boxes).told) text ∙ (ap (λ (r : Replay). of_hosts r.told) replayed ∙ events.1);
      events = (run_from_start s answers boxes hs).count;
      end = ap (λ (xs : List ℕ). (replay xs answers boxes).end) text ∙ ap (λ (r : Replay). r.end) replayed;
    }
