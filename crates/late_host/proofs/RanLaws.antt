-- The call that runs in a step: by its marks, and by what the step tells.
use Rattle.std.proofs.Common.{◌≡◌, ℕ, suc, ◌+◌, true, Option, Some, None, List, [], ◌∷◌, map, drop, refl, sym, ap, ◌∙◌}
use Rattle.std.specs.Prelude.{slice_get}
use Rattle.std.specs.Option.{option_or, option_map}
use Rattle.std.specs.List.{AllByRecursion}
use Rattle.std.proofs.lemmas.List.{at_drop_more}
use Rattle.std.proofs.lemmas.Option.{slice_get_within, get_or_from_slice_get}
use Rattle.homa_plain.specs.declared.id.CallId.{CallId}
use Rattle.homa_plain.specs.declared.packet.Packet.{Packet as WirePacket}
use Rattle.homa_plain.specs.declared.settings.Settings.{Settings}
use Rattle.homa_plain.specs.Entries.{PlainEntry, PlainRun}
use Rattle.homa_plain.specs.Host.{Host, Told, Says, Sends, entries_from}
use Rattle.homa_plain.specs.Work.{Work}
use Rattle.homa_plain.specs.Steps.{Asked, asked_in, has_run}
use Rattle.host_view.specs.declared.mark.Mark.{Mark}
use Rattle.host_view.specs.declared.mark.Mark.TheVariants.{Called, Junk, Stale, Balanced, Ran, Done, Failed, Dropped, TooManyGaps, Entombed, Freed}
use Rattle.host_view.specs.declared.mark.Mark.TheVariants.{NoRow, NoPages, Sent}
use Rattle.host_view.specs.declared.outbox.SentFrame.{SentFrame}
use Rattle.host_view.specs.Done.{IsDone}
use Rattle.host_view.specs.Frames.{packet_of, read_line, line_of}
use Rattle.host_view.specs.Marks.{shown, IsAllowed}
use Rattle.host_view.specs.Seen.{Seen}
use Rattle.homa_host.specs.Asking.{HasAsked}
use Rattle.driven_host.specs.Asking.{IsGiven}
use Rattle.late_host.specs.Ran.{ran_by, ran_in, served_in}

-- the call of a `run` line
abbrev run_line : PlainEntry → Option CallId
run_line (PlainRun host id service request response hold) = Some id
run_line entry = None

-- the call of the first `run` line
abbrev first_run : List PlainEntry → Option CallId
first_run [] = None
first_run (entry ∷ entries) = option_or (run_line entry) (first_run entries)

-- ---- the marks

read_no_run : (n : ℕ) (f : SentFrame) (o : Option (WirePacket × List ℕ)) → run_line (read_line n f o) ≡ None
read_no_run n f None = refl
read_no_run n f (Some r) = refl

sent_no_run : (s : Settings) (n : ℕ) (o : Option SentFrame) → run_line (line_of s n o) ≡ None
sent_no_run s n None = refl
sent_no_run s n (Some f) = read_no_run n f (packet_of s f)

mark_run : (h : Seen) (frames : List SentFrame) (whole : List ℕ) (mark : Mark) → run_line (shown h frames whole mark) ≡ ran_by mark
mark_run h frames whole (Called id server service) = refl
mark_run h frames whole Junk = refl
mark_run h frames whole (Stale at) = refl
mark_run h frames whole (Balanced cutoffs) = refl
mark_run h frames whole (Ran id service hold) = refl
mark_run h frames whole (Done id) = refl
mark_run h frames whole (Failed id why) = refl
mark_run h frames whole (Dropped id) = refl
mark_run h frames whole (TooManyGaps id) = refl
mark_run h frames whole (Entombed id until) = refl
mark_run h frames whole (Freed id) = refl
mark_run h frames whole (NoRow id rows limit) = refl
mark_run h frames whole (NoPages id need free) = refl
mark_run h frames whole (Sent n) = sent_no_run h.settings n (slice_get frames n)

marks_run : (h : Seen) (frames : List SentFrame) (whole : List ℕ) (marks : List Mark) → first_run (map (shown h frames whole) marks) ≡ ran_in marks
marks_run h frames whole [] = refl
marks_run h frames whole (mark ∷ marks) =
    ap (λ o. option_or o (first_run (map (shown h frames whole) marks))) (mark_run h frames whole mark)
    ∙ ap (λ o. option_or (ran_by mark) o) (marks_run h frames whole marks)

-- ---- what is told

said_run : (entry : PlainEntry) (n : ℕ) (told : List Told) → first_run (entries_from n told) ≡ served_in told
    → option_or (run_line entry) (first_run (entries_from n told)) ≡ served_in (Says entry ∷ told)
said_run (PlainRun host id service request response hold) n told is = refl
said_run entry n told is = is

told_run : (n : ℕ) (told : List Told) → first_run (entries_from n told) ≡ served_in told
told_run n [] = refl
told_run n (Says entry ∷ told) = said_run entry n told (told_run n told)
told_run n (Sends packet ∷ told) = told_run (suc n) told

-- what ran is what the plain step begins to serve
pub ran_as_told : (old : Seen) (step : Work) (new : Seen) (frames : List SentFrame) (whole : List ℕ) → IsDone old step new frames whole
    → ran_in new.marks ≡ served_in step.told
ran_as_told old step new frames whole done =
    sym (marks_run new frames whole new.marks) ∙ ap first_run done.entries ∙ told_run 0 step.told

-- ---- answers

given_no_run : (h : Host) (whole : List ℕ) (mark : Mark) (rest : Option CallId) → IsAllowed h (IsGiven []) whole mark → rest ≡ None
    → option_or (ran_by mark) rest ≡ None
given_no_run h whole (Ran id service hold) rest given is = absurd (given.0 refl)
given_no_run h whole mark rest given is = is

-- without an answer no call ran
pub none_ran : (h : Host) (whole : List ℕ) (marks : List Mark) → AllByRecursion (IsAllowed h (IsGiven []) whole) marks → ran_in marks ≡ None
none_ran h whole [] given = refl
none_ran h whole (mark ∷ marks) given = given_no_run h whole mark (ran_in marks) given.0 (none_ran h whole marks given.1)

-- what asks for a call serves it
pub asked_serves : (id : CallId) (number : ℕ) (request : List ℕ) (told : List Told) → HasAsked id number request told → served_in told ≡ Some id
asked_serves id number request told asked = ap (λ o. option_map (λ (a : Asked). a.id) o) asked

said_asks : (entry : PlainEntry) (told : List Told) (a : Asked) → (asked_in told ≡ Some a → has_run told ≡ true)
    → asked_in (Says entry ∷ told) ≡ Some a → has_run (Says entry ∷ told) ≡ true
said_asks (PlainRun host id service request response hold) told a rest e = refl
said_asks entry told a rest e = rest e

-- what asks has a `run` line
pub asked_runs : (told : List Told) (a : Asked) → asked_in told ≡ Some a → has_run told ≡ true
asked_runs [] a e = cc
asked_runs (Says entry ∷ told) a e = said_asks entry told a (asked_runs told a) e
asked_runs (Sends packet ∷ told) a e = asked_runs told a e

-- ---- the loop over the marks

pub next_mark : (marks : List Mark) (i : ℕ) (mark : Mark) → slice_get marks i ≡ Some mark
    → ran_in (drop i marks) ≡ option_or (ran_by mark) (ran_in (drop (i + 1) marks))
next_mark marks i mark at =
    at_drop_more ran_in marks i mark (slice_get_within marks i mark at)
    ∙ ap (λ m. option_or (ran_by m) (ran_in (drop (i + 1) marks))) (get_or_from_slice_get marks i mark mark at)
