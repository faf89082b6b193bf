-- A quiet call of the code from step to step: it stays the same call.
use Rattle.std.proofs.Common.{◌≡◌, ◌<◌, ◌+◌, ◌||◌, ℕ, Bool, List, [], ◌∷◌, length, get_or, sym, ap, subst, ◌∙◌}
use Rattle.std.specs.Prelude.{drop}
use Rattle.std.proofs.lemmas.List.{drop_more}
use Rattle.homa_plain.specs.declared.id.HostId.{HostId}
use Rattle.homa_plain.specs.declared.settings.Settings.{Settings}
use Rattle.homa_plain.specs.Steps.{arrival_step, turn_step}
use Rattle.host_view.specs.declared.outbox.SentFrame.{SentFrame}
use Rattle.host_view.specs.Seen.{Seen}
use Rattle.host_view.specs.Done.{arriving}
use Rattle.quiet_call.specs.declared.call.QuietCall.{QuietCall}
use Rattle.quiet_call.specs.Stepped.{filled, HasStepped, GoesOn}
use Rattle.quiet_call.specs.Standing.{hosts_of, frames_of, asked, answered, answers, own_clock, IsSameCall}
use Rattle.quiet_laws.specs.Hosts.{client_id, server_id}
use Rattle.quiet_call.proofs.Rounding.{AmidRound, MayCome, may_come, RoundEnds, round_ends}

pub same_on : (a b c : QuietCall) → IsSameCall a b → IsSameCall b c → IsSameCall a c
same_on a b c p q = record { settings = q.settings ∙ p.settings; asked = q.asked ∙ p.asked; answered = q.answered ∙ p.answered }

-- the first of the frames that are left
pub first_left : (fs : List SentFrame) (i : ℕ) (f : SentFrame) → i < length fs → f ≡ get_or fs i f → drop i fs ≡ f ∷ drop (i + 1) fs
first_left fs i f l is = drop_more fs i f l ∙ ap (λ g. g ∷ drop (i + 1) fs) (sym is)

-- the next frame may come
pub next_comes : (q l : QuietCall) (fs : List SentFrame) (i : ℕ) (f : SentFrame) (done : Bool) → i < length fs → f ≡ get_or fs i f
    → AmidRound q.settings (asked q) (answered q) q.clock (hosts_of l) (frames_of l) (answers l) (drop i fs) i done
    → MayCome q.settings (asked q) (answered q) q.clock f (hosts_of l)
next_comes q l fs i f done within is am =
    may_come q.settings (asked q) (answered q) q.clock (hosts_of l) (frames_of l) (answers l) f (drop (i + 1) fs) i done
    (subst (λ gs. AmidRound q.settings (asked q) (answered q) q.clock (hosts_of l) (frames_of l) (answers l) gs i done) (first_left fs i f within is) am)

pub clock_is : (a b : QuietCall) → IsSameCall a b → b.clock ≡ a.clock → own_clock b ≡ own_clock a
clock_is a b same clock = ap (λ k. k + b.settings.skew) clock ∙ ap (λ (s : Settings). a.clock + s.skew) same.settings

-- a step of the call as it is now, by what it was
pub came_at : (now now' size size' : ℕ) (f : SentFrame) (done : Bool) (hs hs' : List Seen) (fs fs' : List SentFrame) → now ≡ now' → size ≡ size'
    → HasStepped now f.to (λ (h : Seen). arrival_step h.settings h.host now (arriving h f.from f.frame) (filled size)) done hs hs' fs fs'
    → HasStepped now' f.to (λ (h : Seen). arrival_step h.settings h.host now' (arriving h f.from f.frame) (filled size')) done hs hs' fs fs'
came_at now now' size size' f done hs hs' fs fs' e g st =
    subst (λ n. HasStepped now' f.to (λ (h : Seen). arrival_step h.settings h.host now' (arriving h f.from f.frame) (filled n)) done hs hs' fs fs') g
    (subst (λ t. HasStepped t f.to (λ (h : Seen). arrival_step h.settings h.host t (arriving h f.from f.frame) (filled size)) done hs hs' fs fs') e st)

pub turned_at : (now now' : ℕ) (id : HostId) (done : Bool) (hs hs' : List Seen) (fs fs' : List SentFrame) → now ≡ now'
    → HasStepped now id (λ (h : Seen). turn_step h.settings h.host now) done hs hs' fs fs'
    → HasStepped now' id (λ (h : Seen). turn_step h.settings h.host now') done hs hs' fs fs'
turned_at now now' id done hs hs' fs fs' e st = subst (λ t. HasStepped t id (λ (h : Seen). turn_step h.settings h.host t) done hs hs' fs fs') e st

pub goes_same : (s s' : Settings) (n n' m m' k k' x x' : ℕ) (hs : List Seen) (fs : List SentFrame) → s' ≡ s → n' ≡ n → m' ≡ m → k' ≡ k → x' ≡ x
    → GoesOn s n m k hs fs x → GoesOn s' n' m' k' hs fs x'
goes_same s s' n n' m m' k k' x x' hs fs a b c d e g =
    subst (λ t. GoesOn t n' m' k' hs fs x') (sym a) (subst (λ t. GoesOn s t m' k' hs fs x') (sym b) (subst (λ t. GoesOn s n t k' hs fs x') (sym c)
    (subst (λ t. GoesOn s n m t hs fs x') (sym d) (subst (λ t. GoesOn s n m k hs fs t) (sym e) g))))

-- two turns end a round
module _ (q l t u : QuietCall) (same : IsSameCall q l) (clock : l.clock ≡ q.clock) (left : List SentFrame) (none : left ≡ []) (i : ℕ) (done d0 d1 : Bool)
    (am : AmidRound q.settings (asked q) (answered q) q.clock (hosts_of l) (frames_of l) (answers l) left i done) (t_same : IsSameCall l t)
    (t_clock : t.clock ≡ l.clock + 1)
    (p : HasStepped (l.clock + 1 + l.settings.skew) client_id (λ (h : Seen). turn_step h.settings h.host (l.clock + 1 + l.settings.skew)) d0
    (hosts_of l) (hosts_of t) (frames_of l) (frames_of t))
    (r : HasStepped (own_clock t) server_id (λ (h : Seen). turn_step h.settings h.host (own_clock t)) d1 (hosts_of t) (hosts_of u) (frames_of t)
    (frames_of u)) where
  abbrev next : ℕ
  next = q.clock + 1 + q.settings.skew

  p_now : l.clock + 1 + l.settings.skew ≡ next
  p_now = ap (λ k. k + 1 + l.settings.skew) clock ∙ ap (λ (s : Settings). q.clock + 1 + s.skew) same.settings

  r_now : own_clock t ≡ next
  r_now = ap (λ k. k + t.settings.skew) t_clock ∙ ap (λ (s : Settings). l.clock + 1 + s.skew) t_same.settings ∙ p_now

  pub ends : RoundEnds q.settings (asked q) (answered q) q.clock (hosts_of u) (frames_of u) (answers l) ((done || d0) || d1)
  ends = round_ends q.settings (asked q) (answered q) q.clock (hosts_of l) (frames_of l) (answers l) i done
      (subst (λ fs. AmidRound q.settings (asked q) (answered q) q.clock (hosts_of l) (frames_of l) (answers l) fs i done) none am)
      d0 (hosts_of t) (frames_of t) (turned_at (l.clock + 1 + l.settings.skew) next client_id d0 (hosts_of l) (hosts_of t) (frames_of l) (frames_of t) p_now p)
      d1 (hosts_of u) (frames_of u) (turned_at (own_clock t) next server_id d1 (hosts_of t) (hosts_of u) (frames_of t) (frames_of u) r_now r)
