-- A host's step, and the frames that it sent, as the code has them.
use Rattle.std.proofs.Common.{◌≡◌, ◌<◌, ◌≤◌, ◌^◌, ℕ, zero, suc, Bool, Some, List, [], ◌∷◌, ◌++◌, length, get_or, refl, sym, ap, subst, ◌∙◌, arith}
use Rattle.std.proofs.Common.{Result, Ok, Err}
use Rattle.std.specs.Prelude.{IfSome, IfOk, OnOk, slice_get, slice_set}
use Rattle.std.specs.List.{AllByRecursion}
use Rattle.std.proofs.lemmas.Option.{slice_get_read}
use Rattle.homa_plain.specs.declared.id.HostId.{HostId}
use Rattle.homa_plain.specs.Host.{Host}
use Rattle.homa_plain.specs.Work.{Work}
use Rattle.homa_plain.specs.Script.{counting}
use Rattle.homa_plain.specs.Quiet.{has_done}
use Rattle.host_view.specs.declared.mark.Mark.{Mark}
use Rattle.host_view.specs.declared.mark.Mark.TheVariants as mark
use Rattle.host_view.specs.declared.outbox.SentFrame.{SentFrame}
use Rattle.host_view.specs.Seen.{Seen}
use Rattle.host_view.specs.Marks.{shown_entries, response_of, IsReply, IsAllowed}
use Rattle.host_view.specs.Done.{IsDone, HoldsSent}
use Rattle.homa_host.specs.Public.{IsSameHost}
use Rattle.quiet_laws.proofs.FirstRound.{length-counting}
use Rattle.quiet_call.specs.Stepped.{filled, HasStepped}

-- ---- results

pub if_ok_by : {T E : Type 0} (P S : T → Type 0) (Q R : Type 0) (r : Result T E) → ((x : T) → P x → Q → R → S x) → IfOk r P → OnOk r Q → OnOk r R → IfOk r S
if_ok_by P S Q R (Ok x) f p q s = f x p q s
if_ok_by P S Q R (Err e) f p q s = tt

pub on_ok_by : {T E : Type 0} (P Q S : Type 0) (r : Result T E) → (P → Q → S) → OnOk r P → OnOk r Q → OnOk r S
on_ok_by P Q S (Ok x) f p q = f p q
on_ok_by P Q S (Err e) f p q = tt

-- ---- a thing at its place

pub of_read : {A : Type 0} (P : A → Type 0) (xs : List A) (i : ℕ) (x : A) → i < length xs → x ≡ get_or xs i x → IfSome (slice_get xs i) P → P x
of_read P xs i x within is p = subst (λ o. IfSome o P) (slice_get_read xs (length xs) i x refl within is) p

pub at_set : {A : Type 0} (xs : List A) (i : ℕ) (x : A) → i < length xs → slice_get (slice_set xs i x) i ≡ Some x
at_set [] i x l = absurd (omega (arith, l))
at_set (y ∷ xs) zero x l = refl
at_set (y ∷ xs) (suc i) x l = at_set xs i x (omega (arith, l))

-- ---- what the service answered

counting_same : (m n : ℕ) → counting 0 m ≡ counting 0 n → m ≡ n
counting_same m n e = sym (length-counting 0 m) ∙ ap length e ∙ length-counting 0 n

-- a service that may answer only what another one may is as large
pub same_size : (old new : ℕ) → ((count number hold : ℕ) (q r : List ℕ) → (r ≡ counting 0 new) × (hold ≡ 0) → (r ≡ counting 0 old) × (hold ≡ 0)) → new ≡ old
same_size old new before = counting_same new old (before 0 0 0 [] (counting 0 new) (refl, refl)).0

one_answer : (h : Host) (size : ℕ) (whole : List ℕ) (m : Mark) → IsAllowed h (λ number q r hold. (r ≡ counting 0 size) × (hold ≡ 0)) whole m
    → IsReply h (filled size) m
one_answer h size whole (mark.Ran id service hold) a =
    ap (λ bytes. record { bytes = bytes; hold = 0 }) (sym a.0) ∙ ap (λ n. record { bytes = response_of h id; hold = n }) (sym a.1)
one_answer h size whole m a = tt

pub answered_so : (h : Host) (size : ℕ) (whole : List ℕ) (marks : List Mark)
    → AllByRecursion (IsAllowed h (λ number q r hold. (r ≡ counting 0 size) × (hold ≡ 0)) whole) marks → AllByRecursion (IsReply h (filled size)) marks
answered_so h size whole [] all = tt
answered_so h size whole (m ∷ ms) all = (one_answer h size whole m all.0, answered_so h size whole ms all.1)

-- ---- a step

module _ (now : ℕ) (id : HostId) (step : Seen → Work) (hosts new_hosts : List Seen) (frames new_frames : List SentFrame) (before after : Seen)
    (out : List SentFrame) (whole : List ℕ)
    (within : id.0 < length hosts) (is : before ≡ get_or hosts id.0 before) (done_step : IsDone before (step before) after out whole) where
  pub holds_sent : IfSome (slice_get (slice_set hosts id.0 after) id.0) (λ h. HoldsSent h out)
  holds_sent = subst (λ o. IfSome o (λ h. HoldsSent h out)) (sym (at_set hosts id.0 after within)) done_step.sent

  pub stepped : (done : Bool) → IsSameHost before after → after.host.last ≡ now → new_hosts ≡ slice_set hosts id.0 after
      → IfSome (slice_get (slice_set hosts id.0 after) id.0) (λ h. done ≡ has_done (shown_entries h out whole)) → new_frames ≡ frames ++ out
      → length new_frames ≤ 2 ^ 32 → HasStepped now id step done hosts new_hosts frames new_frames
  stepped done same last hosts_are told sent few = record {
    before = before;
    at = slice_get_read hosts (length hosts) id.0 before refl within is;
    after = after;
    hosts_are = hosts_are;
    host = done_step.host;
    settings = done_step.settings;
    name = same.id;
    last = last;
    order = same.order;
    sent = (out, sent, record { are = done_step.posted; formed = done_step.formed });
    few = few;
    done_is = subst (λ o. IfSome o (λ h. done ≡ has_done (shown_entries h out whole))) (at_set hosts id.0 after within) told ∙ ap has_done done_step.entries;
  }
