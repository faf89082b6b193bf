-- What the end of a step leaves of its service's answer.
use Rattle.std.proofs.Common.{◌≡◌, ◌+◌, ℕ, suc, Bool, true, false, cond, Some, List, [], ◌∷◌, ◌++◌, refl, sym, ap, subst, ◌∙◌, arith}
use Rattle.std.specs.List.{AllByRecursion}
use Rattle.std.proofs.lemmas.Bool.{true≢false}
use Rattle.homa_plain.specs.declared.id.CallId.{CallId}
use Rattle.homa_plain.specs.declared.settings.Settings.{Settings}
use Rattle.homa_plain.specs.Entries.{PlainRun}
use Rattle.homa_plain.specs.Host.{Host, Told, Says, Sends}
use Rattle.homa_plain.specs.Rules.{Answer}
use Rattle.homa_plain.specs.Work.{Work}
use Rattle.homa_plain.specs.Steps.{ended, has_run, Asked, asked_in}
use Rattle.step_laws.specs.StepLaws.{run_count}
use Rattle.step_laws.proofs.Places.{all-append}
use Rattle.step_laws.proofs.StepEnd.{ended-calm}
use Rattle.host_view.specs.declared.mark.Mark.{Mark}
use Rattle.host_view.specs.declared.mark.Mark.TheVariants.{Ran, Sent}
use Rattle.host_view.specs.declared.outbox.SentFrame.{SentFrame}
use Rattle.host_view.specs.Marks.{mark_of, marks_from, has_ran, response_of, IsReply, IsAllowed}
use Rattle.host_laws.proofs.Keeps.{ended-keeps}
use Rattle.homa_host.specs.Parts.{host_of}
use Rattle.homa_host.specs.Amid.{Amid}
use Rattle.homa_host.specs.declared.parts.HostParts.{HostParts}

-- ---- what tells no RUN

pub quiet_ran : (n : ℕ) (told : List Told) → run_count told ≡ 0 → has_ran (marks_from n told) ≡ false
quiet_ran n [] e = refl
quiet_ran n (Says (PlainRun host id service request response hold) ∷ told) e = absurd (omega arith)
quiet_ran n (Says entry ∷ told) e = quiet_ran n told e
quiet_ran n (Sends packet ∷ told) e = quiet_ran (suc n) told e

pub no_replies : (h : Host) (a : Answer) (ms : List Mark) → has_ran ms ≡ false → AllByRecursion (IsReply h a) ms
no_replies h a [] e = tt
no_replies h a (Ran id service hold ∷ ms) e = absurd (true≢false e)
no_replies h a (m ∷ ms) e = (tt, no_replies h a ms e)

pub none_allowed : (h : Host) (allows : ℕ → List ℕ → List ℕ → ℕ → Type 0) (whole : List ℕ) (ms : List Mark) → has_ran ms ≡ false
    → AllByRecursion (IsAllowed h allows whole) ms
none_allowed h allows whole [] e = tt
none_allowed h allows whole (Ran id service hold ∷ ms) e = absurd (true≢false e)
none_allowed h allows whole (m ∷ ms) e = (tt, none_allowed h allows whole ms e)

-- where no service was asked, it is served as often as before, and any answer is the one that was given
pub served_none : (n : ℕ) (ms : List Mark) → has_ran ms ≡ false → n ≡ cond (has_ran ms) (n + 1) n
served_none n ms e = subst (λ (b : Bool). n ≡ cond b (n + 1) n) (sym e) refl

pub answered_none : (h : Host) (ms : List Mark) → has_ran ms ≡ false → (a : Answer) × AllByRecursion (IsReply h a) ms
answered_none h ms e = (record { bytes = []; hold = 0 }, no_replies h (record { bytes = []; hold = 0 }) ms e)

-- the later of two parts tells of the same runs, with the same responses
pub record TellsAlike (old new : HostParts) : Type 1 where
  pub ran : has_ran new.control.marks ≡ has_ran old.control.marks
  pub back : (a : Answer) → AllByRecursion (IsReply (host_of new) a) new.control.marks → AllByRecursion (IsReply (host_of old) a) old.control.marks
  pub on : (a : Answer) → AllByRecursion (IsReply (host_of old) a) old.control.marks → AllByRecursion (IsReply (host_of new) a) new.control.marks
  pub allowed : (allows : ℕ → List ℕ → List ℕ → ℕ → Type 0) (whole : List ℕ) → AllByRecursion (IsAllowed (host_of old) allows whole) old.control.marks
      → AllByRecursion (IsAllowed (host_of new) allows whole) new.control.marks

pub ran_append : (ms more : List Mark) → has_ran more ≡ false → has_ran (ms ++ more) ≡ has_ran ms
ran_append [] more e = e
ran_append (Ran id service hold ∷ ms) more e = refl
ran_append (m ∷ ms) more e = ran_append ms more e

-- what is asked stays so, whatever is told behind it
pub asked_append : (told more : List Told) (q : Asked) → asked_in told ≡ Some q → asked_in (told ++ more) ≡ Some q
asked_append [] more q e = cc
asked_append (Says (PlainRun host id service request response hold) ∷ told) more q e = e
asked_append (t ∷ told) more q e = asked_append told more q e

-- and so whatever is told before it that shows no run
pub asked_behind : (told more : List Told) (q : Asked) → run_count told ≡ 0 → asked_in more ≡ Some q → asked_in (told ++ more) ≡ Some q
asked_behind [] more q none e = e
asked_behind (Says (PlainRun host id service request response hold) ∷ told) more q none e = absurd (omega arith)
asked_behind (Says entry ∷ told) more q none e = asked_behind told more q none e
asked_behind (Sends packet ∷ told) more q none e = asked_behind told more q none e

-- where a service is asked, a run is told
pub asked_runs : (told : List Told) (q : Asked) → asked_in told ≡ Some q → has_run told ≡ true
asked_runs [] q e = cc
asked_runs (Says (PlainRun host id service request response hold) ∷ told) q e = refl
asked_runs (t ∷ told) q e = asked_runs told q e

pub marks_append : (n : ℕ) (told more : List Told) → (k : ℕ) × (marks_from n (told ++ more) ≡ marks_from n told ++ marks_from k more)
marks_append n [] more = (n, refl)
marks_append n (Says entry ∷ told) more = let r = marks_append n told more in (r.0, ap (λ ms. mark_of entry ∷ ms) r.1)
marks_append n (Sends packet ∷ told) more = let r = marks_append (suc n) told more in (r.0, ap (λ ms. Sent n ∷ ms) r.1)

pub left_of_all : (P : Mark → Type 0) (ms more : List Mark) → AllByRecursion P (ms ++ more) → AllByRecursion P ms
left_of_all P [] more all = tt
left_of_all P (m ∷ ms) more all = (all.0, left_of_all P ms more all.1)

-- ---- of another host with the same responses

module _ (h k : Host) (same : (id : CallId) → response_of k id ≡ response_of h id) where
  replies_move : (a : Answer) (ms : List Mark) → AllByRecursion (IsReply h a) ms → AllByRecursion (IsReply k a) ms
  replies_move a [] all = tt
  replies_move a (Ran id service hold ∷ ms) all =
      (all.0 ∙ ap (λ (bytes : List ℕ). record { bytes = bytes; hold = hold }) (sym (same id)), replies_move a ms all.1)
  replies_move a (m ∷ ms) all = (tt, replies_move a ms all.1)

  allowed_move : (allows : ℕ → List ℕ → List ℕ → ℕ → Type 0) (whole : List ℕ) (ms : List Mark) → AllByRecursion (IsAllowed h allows whole) ms
      → AllByRecursion (IsAllowed k allows whole) ms
  allowed_move allows whole [] all = tt
  allowed_move allows whole (Ran id service hold ∷ ms) all =
      (subst (λ bytes. allows service whole bytes hold) (sym (same id)) all.0, allowed_move allows whole ms all.1)
  allowed_move allows whole (m ∷ ms) all = (tt, allowed_move allows whole ms all.1)

-- ---- the end of a step

pub asked_stays : (s : Settings) (w : Work) (q : Asked) → asked_in w.told ≡ Some q → asked_in (ended s w).told ≡ Some q
asked_stays s w q e =
    let calm = ended-calm s w in
    ap asked_in calm.grown ∙ asked_append w.told calm.told q e

module _ (s : Settings) (w : Work) (mid q : HostParts) (before after : List SentFrame) (amid : Amid w mid before) (ends : Amid (ended s w) q after) where
  more : List Mark
  more = marks_from (marks_append 0 w.told (ended-calm s w).told).0 (ended-calm s w).told

  none : has_ran more ≡ false
  unfolding more
  none = quiet_ran _ (ended-calm s w).told (ended-calm s w).quiet

  marks_grown : q.control.marks ≡ mid.control.marks ++ more
  unfolding more
  marks_grown =
      ends.marked ∙ ap (marks_from 0) (ended-calm s w).grown ∙ (marks_append 0 w.told (ended-calm s w).told).1 ∙ ap (λ ms. ms ++ more) (sym amid.marked)

  responses : (id : CallId) → response_of (host_of q) id ≡ response_of (host_of mid) id
  responses id = ap (λ (h : Host). response_of h id) ends.host ∙ (ended-keeps s w).responses id ∙ ap (λ (h : Host). response_of h id) (sym amid.host)

  ran_same : has_ran q.control.marks ≡ has_ran mid.control.marks
  ran_same = ap has_ran marks_grown ∙ ran_append mid.control.marks more none

  replies_back : (a : Answer) → AllByRecursion (IsReply (host_of q) a) q.control.marks → AllByRecursion (IsReply (host_of mid) a) mid.control.marks
  replies_back a all = replies_move (host_of q) (host_of mid) (λ id. sym (responses id)) a mid.control.marks
      (left_of_all (IsReply (host_of q) a) mid.control.marks more (subst (AllByRecursion (IsReply (host_of q) a)) marks_grown all))

  replies_on : (a : Answer) → AllByRecursion (IsReply (host_of mid) a) mid.control.marks → AllByRecursion (IsReply (host_of q) a) q.control.marks
  replies_on a all = subst (AllByRecursion (IsReply (host_of q) a)) (sym marks_grown)
      (all-append (IsReply (host_of q) a) mid.control.marks more (replies_move (host_of mid) (host_of q) responses a mid.control.marks all)
      (no_replies (host_of q) a more none))

  allowed_on : (allows : ℕ → List ℕ → List ℕ → ℕ → Type 0) (whole : List ℕ) → AllByRecursion (IsAllowed (host_of mid) allows whole) mid.control.marks
      → AllByRecursion (IsAllowed (host_of q) allows whole) q.control.marks
  allowed_on allows whole all = subst (AllByRecursion (IsAllowed (host_of q) allows whole)) (sym marks_grown)
      (all-append (IsAllowed (host_of q) allows whole) mid.control.marks more
      (allowed_move (host_of mid) (host_of q) responses allows whole mid.control.marks all) (none_allowed (host_of q) allows whole more none))

  pub ended_alike : TellsAlike mid q
  ended_alike = record { ran = ran_same; back = replies_back; on = replies_on; allowed = allowed_on }
