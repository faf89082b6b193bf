-- The lines of a step that may ask a box, and what the boxes may tell behind them.
use Rattle.std.proofs.Common.{◌≡◌, ◌≤◌, ℕ, zero, suc, ◌+◌, Bool, true, false, cond, Option, Some, None, List, [], ◌∷◌, ◌++◌, refl, sym, ap, subst, ◌∙◌, arith}
use Rattle.std.specs.Prelude.{map, slice_set, slice_get}
use Rattle.std.specs.Option.{option_map}
use Rattle.std.specs.List.{AllByRecursion}
use Rattle.homa_plain.specs.declared.id.HostId.{HostId}
use Rattle.homa_plain.specs.declared.settings.Settings.{Settings}
use Rattle.homa_plain.specs.declared.packet.Packet.{Packet as WirePacket}
use Rattle.homa_plain.specs.Entries.{PlainEntry, PlainRun, PlainRestart}
use Rattle.homa_plain.specs.Host.{Told, Says, Sends, entries_from}
use Rattle.host_view.specs.declared.mark.Mark.{Mark}
use Rattle.host_view.specs.declared.mark.Mark.TheVariants.{Called, Junk, Stale, Balanced, Ran, Done, Failed, Dropped, TooManyGaps, Entombed, Freed}
use Rattle.host_view.specs.declared.mark.Mark.TheVariants.{NoRow, NoPages, Sent}
use Rattle.host_view.specs.declared.outbox.SentFrame.{SentFrame}
use Rattle.host_view.specs.Frames.{packet_of, read_line, line_of}
use Rattle.host_view.specs.Seen.{Seen}
use Rattle.host_view.specs.Marks.{shown, has_ran, IsAllowed}
use Rattle.homa_service.specs.Table.{place_of, last_of, front_of}
use Rattle.step_laws.specs.StepLaws.{run_count}
use Rattle.box_laws.specs.Boxes.{Allows, MayAnswer, may_tell}

-- ---- `run` lines among entries

abbrev pub runs_in : List PlainEntry → ℕ
runs_in [] = 0
runs_in (PlainRun host id service request response hold ∷ es) = suc (runs_in es)
runs_in (e ∷ es) = runs_in es

-- a `run` line is of this host, and may be told
abbrev pub MayRun : HostId → (ℕ → List ℕ → List ℕ → ℕ → Type 0) → PlainEntry → Type 0
MayRun id may (PlainRun host q service request response hold) = (host ≡ id) × may service request response hold
MayRun id may (PlainRestart host inc) = ⊥
MayRun id may e = Unit {0}

module _ (h : Seen) (frames : List SentFrame) (whole : List ℕ) (may : ℕ → List ℕ → List ℕ → ℕ → Type 0) where
  line_may : (s : Settings) (n : ℕ) (o : Option SentFrame) → MayRun h.host.id may (line_of s n o)
  line_may s n None = tt
  line_may s n (Some f) = by_packet (packet_of s f) where
    by_packet : (r : Option (WirePacket × List ℕ)) → MayRun h.host.id may (read_line n f r)
    by_packet None = tt
    by_packet (Some r) = tt

  mark_may : (m : Mark) → IsAllowed h.host may whole m → MayRun h.host.id may (shown h frames whole m)
  mark_may (Called id server service) a = tt
  mark_may Junk a = tt
  mark_may (Stale at) a = tt
  mark_may (Balanced cutoffs) a = tt
  mark_may (Ran id service hold) a = (refl, a)
  mark_may (Done id) a = tt
  mark_may (Failed id why) a = tt
  mark_may (Dropped id) a = tt
  mark_may (TooManyGaps id) a = tt
  mark_may (Entombed id until) a = tt
  mark_may (Freed id) a = tt
  mark_may (NoRow id rows limit) a = tt
  mark_may (NoPages id need free) a = tt
  mark_may (Sent n) a = line_may h.settings n (slice_get frames n)

  pub marks_may : (ms : List Mark) → AllByRecursion (IsAllowed h.host may whole) ms → AllByRecursion (MayRun h.host.id may) (map (shown h frames whole) ms)
  marks_may [] all = tt
  marks_may (m ∷ ms) all = (mark_may m all.0, marks_may ms all.1)

  line_runs : (s : Settings) (n : ℕ) (o : Option SentFrame) (es : List PlainEntry) → runs_in (line_of s n o ∷ es) ≡ runs_in es
  line_runs s n None es = refl
  line_runs s n (Some f) es = by_packet (packet_of s f) where
    by_packet : (r : Option (WirePacket × List ℕ)) → runs_in (read_line n f r ∷ es) ≡ runs_in es
    by_packet None = refl
    by_packet (Some r) = refl

abbrev pub some_in : ℕ → Bool
some_in zero = false
some_in (suc n) = true

module _ (h : Seen) (frames : List SentFrame) (whole : List ℕ) where
  pub marks_ran : (ms : List Mark) → has_ran ms ≡ some_in (runs_in (map (shown h frames whole) ms))
  marks_ran [] = refl
  marks_ran (Called id server service ∷ ms) = marks_ran ms
  marks_ran (Junk ∷ ms) = marks_ran ms
  marks_ran (Stale at ∷ ms) = marks_ran ms
  marks_ran (Balanced cutoffs ∷ ms) = marks_ran ms
  marks_ran (Ran id service hold ∷ ms) = refl
  marks_ran (Done id ∷ ms) = marks_ran ms
  marks_ran (Failed id why ∷ ms) = marks_ran ms
  marks_ran (Dropped id ∷ ms) = marks_ran ms
  marks_ran (TooManyGaps id ∷ ms) = marks_ran ms
  marks_ran (Entombed id until ∷ ms) = marks_ran ms
  marks_ran (Freed id ∷ ms) = marks_ran ms
  marks_ran (NoRow id rows limit ∷ ms) = marks_ran ms
  marks_ran (NoPages id need free ∷ ms) = marks_ran ms
  marks_ran (Sent n ∷ ms) =
      marks_ran ms ∙ ap some_in (sym (line_runs h frames whole (λ _ _ _ _. Unit {0}) h.settings n (slice_get frames n) (map (shown h frames whole) ms)))

pub told_runs : (n : ℕ) (told : List Told) → runs_in (entries_from n told) ≡ run_count told
told_runs n [] = refl
told_runs n (Sends p ∷ told) = told_runs (suc n) told
told_runs n (Says e ∷ told) = by_entry e (told_runs n told) where
  by_entry : (e : PlainEntry) → runs_in (entries_from n told) ≡ run_count told → runs_in (e ∷ entries_from n told) ≡ run_count (Says e ∷ told)
  by_entry (PlainRun host id service request response hold) r = ap suc r
  by_entry e r = r

-- ---- boxes

module _ {A : Type 0} (allows : Allows A) where
  -- a box that allows no more than another one, with as many answers
  abbrev pub IsUnder : Option (A × ℕ) → Option (A × ℕ) → Type 0
  IsUnder None None = Unit {0}
  IsUnder None (Some y) = ⊥
  IsUnder (Some x) None = ⊥
  IsUnder (Some x) (Some y) = (x.1 ≡ y.1) × ((count number hold : ℕ) (q r : List ℕ) → allows x.0 count number q r hold → allows y.0 count number q r hold)

  abbrev pub AreUnder : List (Option (A × ℕ)) → List (Option (A × ℕ)) → Type 0
  AreUnder [] [] = Unit {0}
  AreUnder [] (y ∷ ys) = ⊥
  AreUnder (x ∷ xs) [] = ⊥
  AreUnder (x ∷ xs) (y ∷ ys) = IsUnder x y × AreUnder xs ys

  under_itself : (x : Option (A × ℕ)) → IsUnder x x
  under_itself None = tt
  under_itself (Some x) = (refl, λ count number hold q r a. a)

  pub all_under : (xs : List (Option (A × ℕ))) → AreUnder xs xs
  all_under [] = tt
  all_under (x ∷ xs) = (under_itself x, all_under xs)

  pub set_under : (xs ys : List (Option (A × ℕ))) (i : ℕ) (x y : Option (A × ℕ)) → AreUnder xs ys → IsUnder x y → AreUnder (slice_set xs i x) (slice_set ys i y)
  set_under [] [] i x y u v = tt
  set_under [] (z ∷ ys) i x y u v = absurd u
  set_under (z ∷ xs) [] i x y u v = absurd u
  set_under (z ∷ xs) (w ∷ ys) zero x y u v = (v, u.1)
  set_under (z ∷ xs) (w ∷ ys) (suc i) x y u v = (u.0, set_under xs ys i x y u.1 v)

  place_under : (xs ys : List (Option (A × ℕ))) (i : ℕ) → AreUnder xs ys → IsUnder (place_of xs i) (place_of ys i)
  place_under [] [] i u = tt
  place_under [] (z ∷ ys) i u = absurd u
  place_under (z ∷ xs) [] i u = absurd u
  place_under (z ∷ xs) (w ∷ ys) zero u = u.0
  place_under (z ∷ xs) (w ∷ ys) (suc i) u = place_under xs ys i u.1

  inc_under : (x y : Option (A × ℕ)) → IsUnder x y → IsUnder (option_map (λ b. (b.0, b.1 + 1)) x) (option_map (λ b. (b.0, b.1 + 1)) y)
  inc_under None None u = tt
  inc_under None (Some y) u = absurd u
  inc_under (Some x) None u = absurd u
  inc_under (Some x) (Some y) u = (ap (λ n. n + 1) u.0, u.1)

  tell_under : (x y : Option (A × ℕ)) (service : ℕ) (request response : List ℕ) (hold : ℕ) → IsUnder x y
      → MayAnswer allows x service request response hold → MayAnswer allows y service request response hold
  tell_under None None service request response hold u a = a
  tell_under None (Some y) service request response hold u a = absurd u
  tell_under (Some x) None service request response hold u a = absurd u
  tell_under (Some x) (Some y) service request response hold u a =
      u.1 y.1 service hold request response (subst (λ n. allows x.0 n service request response hold) u.0 a)

  pub under_tell : (xs ys : List (Option (A × ℕ))) (spares : List (A × ℕ)) (es : List PlainEntry) → AreUnder xs ys → may_tell allows xs spares es
      → may_tell allows ys spares es
  under_tell xs ys spares [] u a = tt
  under_tell xs ys spares (e ∷ es) u a = by_entry e u a (λ vs ws spares v b. under_tell vs ws spares es v b) where
    by_entry : (e : PlainEntry) → AreUnder xs ys → may_tell allows xs spares (e ∷ es)
        → ((vs ws : List (Option (A × ℕ))) (spares : List (A × ℕ)) → AreUnder vs ws → may_tell allows vs spares es → may_tell allows ws spares es)
        → may_tell allows ys spares (e ∷ es)
    by_entry (PlainRun host id service request response hold) u a rest =
        let p = place_under xs ys host.0 u in (
          tell_under (place_of xs host.0) (place_of ys host.0) service request response hold p a.0,
          rest _ _ spares (set_under xs ys host.0 _ _ u (inc_under (place_of xs host.0) (place_of ys host.0) p)) a.1,
        )
    by_entry (PlainRestart host inc) u a rest =
        (tt, rest _ _ (front_of spares) (set_under xs ys host.0 (last_of spares) (last_of spares) u (under_itself (last_of spares))) a.1)
    by_entry e u a rest = (tt, rest xs ys spares u a.1)

  -- lines without a `run` line
  pub quiet_entries : (id : HostId) (may : ℕ → List ℕ → List ℕ → ℕ → Type 0) (seats : List (Option (A × ℕ))) (spares : List (A × ℕ))
      (es more : List PlainEntry) → AllByRecursion (MayRun id may) es → runs_in es ≡ 0 → may_tell allows seats spares more
      → may_tell allows seats spares (es ++ more)
  quiet_entries id may seats spares [] more all none a = a
  quiet_entries id may seats spares (e ∷ es) more all none a = by_entry e all.0 none (λ m. quiet_entries id may seats spares es more all.1 m a) where
    by_entry : (e : PlainEntry) → MayRun id may e → runs_in (e ∷ es) ≡ 0 → (runs_in es ≡ 0 → may_tell allows seats spares (es ++ more))
        → may_tell allows seats spares (e ∷ (es ++ more))
    by_entry (PlainRun host q service request response hold) m none rest = absurd (omega (arith, none))
    by_entry (PlainRestart host inc) m none rest = absurd m
    by_entry e m none rest = (tt, rest none)

  -- lines with one at most
  pub one_entry : (id : HostId) (had : A) (n : ℕ) (seats : List (Option (A × ℕ))) (spares : List (A × ℕ)) (es more : List PlainEntry)
      → place_of seats id.0 ≡ Some (had, n) → AllByRecursion (MayRun id (allows had n)) es → runs_in es ≤ 1
      → may_tell allows (cond (some_in (runs_in es)) (slice_set seats id.0 (Some (had, n + 1))) seats) spares more → may_tell allows seats spares (es ++ more)
  one_entry id had n seats spares [] more at all few a = a
  one_entry id had n seats spares (e ∷ es) more at all few a = by_entry e all.0 few a (λ m b. one_entry id had n seats spares es more at all.1 m b)
      (λ vs m b. quiet_entries id (allows had n) vs spares es more all.1 m b) where
        by_entry : (e : PlainEntry) → MayRun id (allows had n) e → runs_in (e ∷ es) ≤ 1
            → may_tell allows (cond (some_in (runs_in (e ∷ es))) (slice_set seats id.0 (Some (had, n + 1))) seats) spares more
            → (runs_in es ≤ 1 → may_tell allows (cond (some_in (runs_in es)) (slice_set seats id.0 (Some (had, n + 1))) seats) spares more →
            may_tell allows seats spares (es ++ more))
            → ((vs : List (Option (A × ℕ))) → runs_in es ≡ 0 → may_tell allows vs spares more → may_tell allows vs spares (es ++ more))
            → may_tell allows seats spares (e ∷ (es ++ more))
        by_entry (PlainRun host q service request response hold) m few a rest quiet =
            let here : place_of seats host.0 ≡ Some (had, n) = ap (λ (x : HostId). place_of seats x.0) m.0 ∙ at in
            let after : slice_set seats host.0 (option_map (λ b. (b.0, b.1 + 1)) (place_of seats host.0)) ≡ slice_set seats id.0 (Some (had, n + 1)) =
            ap (λ o. slice_set seats host.0 (option_map (λ b. (b.0, b.1 + 1)) o)) here ∙ ap (λ (x : HostId). slice_set seats x.0 (Some (had, n + 1))) m.0 in (
              subst (λ o. MayAnswer allows o service request response hold) (sym here) m.1,
              subst (λ vs. may_tell allows vs spares (es ++ more)) (sym after) (quiet (slice_set seats id.0 (Some (had, n + 1))) (omega (arith, few)) a),
            )
        by_entry (PlainRestart host inc) m few a rest quiet = absurd m
        by_entry e m few a rest quiet = (tt, rest few a)
