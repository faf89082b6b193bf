-- A turn does nothing where no row is due, no message may be sent, and no GRANT is due.
use Rattle.std.proofs.Common.{◌≡◌, ◌<◌, ◌≤◌, ℕ, Bool, true, false, cond, Option, Some, None, List, [], ◌∷◌, map, refl, sym, ap, subst, ◌∙◌, arith, inl, inr}
use Rattle.std.specs.Prelude.{◌+◌, nat_lt, nat_le, if◌then◌else◌, IfSome, IfNone, take}
use Rattle.std.specs.List.{AllByRecursion, Contains, filter}
use Rattle.std.specs.Option.{option_map, MatchOption}
use Rattle.std.proofs.lemmas.Bool.Decides.{nat_tests}
use Rattle.plain_sets.specs.Ordered.{is_below, ordered, first_of, IsLeast}
use Rattle.plain_sets.proofs.OrderLaws.{ordered-nil}
use Rattle.plain_sets.proofs.OrderSame.{here, none_in, at_head, there}
use Rattle.plain_sets.proofs.OrderFirst.{first-ordered}
use Rattle.homa_plain.specs.declared.settings.Settings.{Settings}
use Rattle.homa_plain.specs.Timers.{due, most_acts}
use Rattle.homa_plain.specs.SentNext.{least}
use Rattle.homa_plain.specs.Host.{Host}
use Rattle.homa_plain.specs.Limits.{last_host_tick}
use Rattle.homa_plain.specs.Timers.{Timer, timer_key, timers}
use Rattle.homa_plain.specs.SentNext.{Leaving, leaving_key, departures}
use Rattle.homa_plain.specs.Work.{Work, begun}
use Rattle.homa_plain.specs.Credit.{refilled}
use Rattle.homa_plain.specs.SentNext.{first_leaves, pumped_once, pump}
use Rattle.homa_plain.specs.Steps.{all_act, acts, all_granted, ended, turn_step}
use Rattle.homa_timers.specs.Armed as armed
use Rattle.homa_pacer.specs.Pace as pace
use Rattle.host_view.specs.Seen.{Seen, timer_of, waiting, AreArmed, AreReady}
use Rattle.host_view.proofs.Pump.{none_ready, departures-before}
use Rattle.host_books.proofs.PumpOnce.{pump_ends}
use Rattle.host_books.specs.Granted.{due_grants}
use Rattle.driven_host.specs.Turns.{in_time, IsIdleTurn, IsDeadline, MayAct}

-- a list that has nothing in it is empty
pub nothing_in : {X : Type 0} (xs : List X) → ((x : X) → Contains xs x → ⊥) → xs ≡ []
nothing_in [] none = refl
nothing_in (x ∷ xs) none = absurd (none x (here x xs))

-- ---- the turn

-- where nothing may be sent, the pump sends nothing
none_pumped : (s : Settings) (w : Work) → departures s w.host.last w.host ≡ [] → pumped_once s w ≡ None
unfolding pumped_once
none_pumped s w none =
    ap (λ (ls : List Leaving). first_leaves s (least leaving_key ls) w) none ∙ ap (λ (ls : List Leaving). first_leaves s (first_of ls) w)
    (ordered-nil leaving_key)

nothing_done : (s : Settings) (w : Work) → due timer_key w.host.last (timers s w.host) ≡ [] → due_grants s w.host ≡ []
    → departures s w.host.last w.host ≡ [] → ended s (acts s w) ≡ w
nothing_done s w rows granted sent =
    ap (λ (ts : List Timer). ended s (all_act s ts w)) rows ∙ ap (λ gs. pump s (all_granted s gs w)) granted ∙ pump_ends s w (none_pumped s w sent)

-- the host at this tick, whether or not its credit is filled up
abbrev filled : Settings → Host → ℕ → Bool → Host
filled s h now b = cond b (record h { last = now; credit = s.rate; refilled = now }) (record h { last = now })

idle : (s : Settings) (h : Host) (now : ℕ) → due timer_key now (timers s h) ≡ [] → due_grants s h ≡ [] → departures s now h ≡ []
    → turn_step s h now ≡ record { host = refilled s (record h { last = now }); told = [] }
unfolding turn_step
idle s h now rows granted sent = by_test (nat_lt h.refilled now) where
  by_test : (b : Bool) → ended s (acts s (begun (filled s h now b) now)) ≡ record { host = filled s h now b; told = [] }
  by_test true = nothing_done s (begun (filled s h now true) now) rows granted sent
  by_test false = nothing_done s (begun (filled s h now false) now) rows granted sent

-- ---- what the books say

-- where each deadline is later, no row is due
none_due : (now : ℕ) (ts : List Timer) → AllByRecursion (λ (t : Timer). now < t.at) ts → due timer_key now ts ≡ []
unfolding due
none_due now ts all = ap (λ (us : List Timer). take most_acts (ordered timer_key us)) (none_pass ts all) ∙ ap (take most_acts) (ordered-nil timer_key) where
  none_pass : (us : List Timer) → AllByRecursion (λ (t : Timer). now < t.at) us → filter (λ (t : Timer). nat_le t.at now) us ≡ []
  none_pass [] all = refl
  none_pass (u ∷ us) all = let no : nat_le u.at now ≡ false = grind (arith, nat_tests, all.0) in rw no (none_pass us all.1)

-- a key that isn't below another has no lower first number
first_number : (a m b n : ℕ) → is_below (b, n) (a, m) ≡ false → a ≤ b
first_number a m b n h = grind (arith, nat_tests)

-- the first deadline of a book, if it has one
abbrev pub first_at : List armed.Timer → Option ℕ
first_at book = option_map (λ (t : armed.Timer). t.at) (first_of book)

module _ (h : Seen) where
  abbrev its : List armed.Timer
  its = map (timer_of h) (timers h.settings h.host)

  later : (now : ℕ) (k : armed.Timer) → now < k.at → (ts : List Timer)
      → AllByRecursion (λ (y : armed.Timer). is_below (armed.timer_key y) (armed.timer_key k) ≡ false) (map (timer_of h) ts)
      → AllByRecursion (λ (t : Timer). now < t.at) ts
  later now k less [] all = tt
  later now k less (t ∷ ts) all = let le = first_number k.at k.order t.at t.order all.0 in (omega arith, later now k less ts all.1)

  all_later : (now : ℕ) (o : Option armed.Timer) → MatchOption o (its ≡ []) (IsLeast armed.timer_key its)
      → IfSome (option_map (λ (t : armed.Timer). t.at) o) (λ at. now < at)
      → AllByRecursion (λ (t : Timer). now < t.at) (timers h.settings h.host)
  all_later now None none less = empty (timers h.settings h.host) none where
    empty : (ts : List Timer) → map (timer_of h) ts ≡ [] → AllByRecursion (λ (t : Timer). now < t.at) ts
    empty [] e = tt
    empty (t ∷ ts) e = absurd cc
  all_later now (Some k) least less = later now k less (timers h.settings h.host) least.1

  -- before the first deadline, with nothing in the pacer, a turn does nothing
  pub idle_before : (book : List armed.Timer) (ready : List pace.Ready) (now : ℕ) → due_grants h.settings h.host ≡ [] → AreArmed h book
      → AreReady h ready → ready ≡ []
      → h.host.last ≤ now → IfSome (first_at book) (λ at. now < at) → IsIdleTurn h now
  idle_before book ready now granted timed are none le less =
      idle h.settings h.host now
      (none_due now (timers h.settings h.host) (all_later now (first_of (ordered armed.timer_key its)) (first-ordered armed.timer_key its)
      (subst (λ (b : List armed.Timer). IfSome (first_at b) (λ at. now < at)) timed less)))
      granted
      (nothing_in (departures h.settings now h.host) (λ l c.
      none_ready h l (subst (AreReady h) none are) (departures-before h.settings h.host h.host.last now l le c)))

  -- the first deadline is a row's
  pub first_deadline : (book : List armed.Timer) → AreArmed h book → IfSome (first_at book) (IsDeadline h)
  first_deadline book timed = subst (λ (b : List armed.Timer). IfSome (first_at b) (IsDeadline h)) (sym timed)
      (by_first (first_of (ordered armed.timer_key its)) (first-ordered armed.timer_key its)) where
        from_map : (ts : List Timer) (k : armed.Timer) → Contains (map (timer_of h) ts) k → (t : Timer) × Contains ts t × (t.at ≡ k.at)
        from_map [] k c = absurd (none_in k c)
        from_map (t ∷ ts) k c = elim (at_head (timer_of h t) k (map (timer_of h) ts) c) [
          | inl e ↦ (t, here t ts, ap (λ (x : armed.Timer). x.at) e)
          | inr rest ↦ let r = from_map ts k rest in (r.0, there t r.0 ts r.1, r.2)
        ]

        by_first : (o : Option armed.Timer) → MatchOption o (its ≡ []) (IsLeast armed.timer_key its)
            → IfSome (option_map (λ (t : armed.Timer). t.at) o) (IsDeadline h)
        by_first None is = tt
        by_first (Some k) least = from_map (timers h.settings h.host) k least.0

  -- a pacer that holds a message holds one of which bytes wait
  pub bytes_wait : (ready : List pace.Ready) → AreReady h ready → (ready ≡ [] → ⊥) → waiting h.host ≡ [] → ⊥
  bytes_wait ready are some none = some (nothing_in ready (λ r c.
      let l = are.only r c in none_in l.0 (subst (λ (ls : List Leaving). Contains ls l.0) none l.1)))

-- ---- a tick up to the clock's end

-- what holds of a tick holds of it where it is in time
pub in_time_some : (P : ℕ → Type 0) (o : Option ℕ) → IfSome o P → IfSome (in_time o) P
in_time_some P None p = tt
in_time_some P (Some at) p = by_test (nat_le at last_host_tick) where
  by_test : (b : Bool) → IfSome (if b then Some at else None) P
  by_test true = p
  by_test false = tt

pub in_time_le : (o : Option ℕ) → IfSome (in_time o) (λ at. at ≤ last_host_tick)
in_time_le None = tt
in_time_le (Some at) = by_test (nat_le at last_host_tick) refl where
  by_test : (b : Bool) → nat_le at last_host_tick ≡ b → IfSome (if b then Some at else None) (λ n. n ≤ last_host_tick)
  by_test true e = grind (arith, nat_tests, e)
  by_test false e = tt

-- where no tick is in time, there is none, or it is past the end
pub past_end : (P : Type 0) (o : Option ℕ) → (o ≡ None → P) → ((at : ℕ) → o ≡ Some at → last_host_tick < at → P) → IfNone (in_time o) P
past_end P None none some = none refl
past_end P (Some at) none some = by_test (nat_le at last_host_tick) refl where
  by_test : (b : Bool) → nat_le at last_host_tick ≡ b → IfNone (if b then Some at else None) P
  by_test true e = tt
  by_test false e = some at refl (grind (arith, nat_tests, e))

-- what follows of what holds where there is none
pub none_map : {P Q : Type 0} (o : Option ℕ) → (P → Q) → IfNone o P → IfNone o Q
none_map None f p = f p
none_map (Some at) f p = tt

-- ---- the tick after that of the last step, where bytes wait

pub next_idle : (h : Seen) → IfSome (in_time (Some (h.host.last + 1))) (λ at. (now : ℕ) → h.host.last < now → now < at → IsIdleTurn h now)
next_idle h =
    in_time_some (λ at. (now : ℕ) → h.host.last < now → now < at → IsIdleTurn h now) (Some (h.host.last + 1))
    (λ now less more. absurd (omega (arith, less, more)))

pub next_none : (h : Seen) → IfNone (in_time (Some (h.host.last + 1))) ((now : ℕ) → h.host.last < now → now ≤ last_host_tick → IsIdleTurn h now)
next_none h = past_end ((now : ℕ) → h.host.last < now → now ≤ last_host_tick → IsIdleTurn h now) (Some (h.host.last + 1)) (λ e. absurd cc)
    (λ at e past now less le. absurd (by_at at e past now less le)) where
      by_at : (at : ℕ) → ◌≡◌ {A = Option ℕ} (Some (h.host.last + 1)) (Some at) → last_host_tick < at → (now : ℕ) → h.host.last < now → now ≤ last_host_tick → ⊥
      by_at at e past now less le = let is : h.host.last + 1 ≡ at = cc in omega (arith, is, past, less, le)

pub next_rest : (h : Seen) → IfNone (in_time (Some (h.host.last + 1))) (h.host.last < last_host_tick → IsIdleTurn h h.host.last)
next_rest h = past_end (h.host.last < last_host_tick → IsIdleTurn h h.host.last) (Some (h.host.last + 1)) (λ e. absurd cc)
    (λ at e past less. absurd (by_at at e past less)) where
      by_at : (at : ℕ) → ◌≡◌ {A = Option ℕ} (Some (h.host.last + 1)) (Some at) → last_host_tick < at → h.host.last < last_host_tick → ⊥
      by_at at e past less = let is : h.host.last + 1 ≡ at = cc in omega (arith, is, past, less)

-- ---- the first deadline as an answer

module _ (h : Seen) (book : List armed.Timer) (ready : List pace.Ready) (granted : due_grants h.settings h.host ≡ []) (timed : AreArmed h book)
    (are : AreReady h ready) (none : ready ≡ []) where
  pub before_deadline : (o : Option ℕ) → o ≡ first_at book → IfSome o (λ at. (now : ℕ) → h.host.last < now → now < at → IsIdleTurn h now)
  before_deadline None e = tt
  before_deadline (Some at) e =
      λ now later before. idle_before h book ready now granted timed are none (omega (arith, later))
      (subst (λ (p : Option ℕ). IfSome p (λ n. now < n)) e before)

  -- none that a turn can reach
  pub no_deadline : (o : Option ℕ) → o ≡ first_at book
      → IfNone (in_time o) ((now : ℕ) → h.host.last ≤ now → now ≤ last_host_tick → IsIdleTurn h now)
  no_deadline o e = past_end ((now : ℕ) → h.host.last ≤ now → now ≤ last_host_tick → IsIdleTurn h now) o
      (λ is now le end. idle_before h book ready now granted timed are none le (subst (λ (p : Option ℕ). IfSome p (λ n. now < n)) (sym is ∙ e) tt))
      (λ at is past now le end. idle_before h book ready now granted timed are none le
      (subst (λ (p : Option ℕ). IfSome p (λ n. now < n)) (sym is ∙ e) (omega (arith, past, end))))

  pub deadline_acts : (o : Option ℕ) → o ≡ first_at book → IfSome o (MayAct h)
  deadline_acts None e = tt
  deadline_acts (Some at) e = inr (subst (λ (p : Option ℕ). IfSome p (IsDeadline h)) (sym e) (first_deadline h book timed))
