-- What the boxes may tell over a step.
use Rattle.std.proofs.Common.{◌≡◌, ◌≤◌, ℕ, zero, suc, ◌+◌, Bool, true, false, cond, Option, Some, None, List, [], ◌∷◌, ◌++◌, refl, sym, ap, subst, ◌∙◌, arith}
use Rattle.std.specs.Prelude.{map, slice_set}
use Rattle.std.specs.Option.{option_map}
use Rattle.std.specs.List.{AllByRecursion}
use Rattle.std.proofs.lemmas.List.{map-set}
use Rattle.homa_plain.specs.declared.id.HostId.{HostId}
use Rattle.homa_plain.specs.Entries.{PlainEntry}
use Rattle.homa_plain.specs.Packets.{Packet}
use Rattle.homa_plain.specs.Host.{Told, Says, Sends, entries_from}
use Rattle.homa_plain.specs.Work.{Work}
use Rattle.homa_plain.specs.Steps.{arrival_step}
use Rattle.host_view.specs.Seen.{Seen}
use Rattle.host_view.specs.Marks.{has_ran, shown_entries}
use Rattle.homa_service.specs.Table.{place_of}
use Rattle.step_laws.specs.StepLaws.{run_count}
use Rattle.step_laws.proofs.OneAnswer as one
use Rattle.host_table.specs.declared.stage.Stage.{Stage}
use Rattle.host_table.specs.Staged.{seats_of, spares_of, HasCome}
use Rattle.box_laws.specs.Boxes.{Allows, all_counted, counted, may_tell}
use Rattle.box_laws.proofs.AskedLaws.{MayRun, runs_in, some_in, marks_may, marks_ran, told_runs, AreUnder, all_under, set_under, under_tell, one_entry}

module _ {A : Type 0} (allows : Allows A) where
  pub place_counted : (served : A → ℕ) (xs : List (Option A)) (i : ℕ) (x : A) → place_of xs i ≡ Some x
      → place_of (all_counted served xs) i ≡ Some (counted served x)
  place_counted served [] i x e = absurd (no e) where
    no : None ≡ Some x → ⊥
    no e = cc
  place_counted served (y ∷ xs) zero x e = ap (option_map (counted served)) e
  place_counted served (y ∷ xs) (suc i) x e = place_counted served xs i x e

  pub same_set : (xs : List (Option (A × ℕ))) (i : ℕ) (x : A × ℕ) → place_of xs i ≡ Some x → slice_set xs i (Some x) ≡ xs
  same_set [] i x e = refl
  same_set (y ∷ xs) zero x e = ap (λ z. z ∷ xs) (sym e)
  same_set (y ∷ xs) (suc i) x e = ap (λ zs. y ∷ zs) (same_set xs i x e)

-- the same, whatever the packets' numbers
may_from : (id : HostId) (may : ℕ → List ℕ → List ℕ → ℕ → Type 0) (m n : ℕ) (told : List Told) → AllByRecursion (MayRun id may) (entries_from m told)
    → AllByRecursion (MayRun id may) (entries_from n told)
may_from id may m n [] all = tt
may_from id may m n (Says e ∷ told) all = (all.0, may_from id may m n told all.1)
may_from id may m n (Sends p ∷ told) all = (tt, may_from id may (suc m) (suc n) told all.1)

-- what the boxes of these hosts may tell
abbrev pub tell_of : {S : Type 0} → (S → ℕ) → Allows S → Stage S → List PlainEntry → Type 0
tell_of served allows st = may_tell allows (all_counted served (seats_of st)) (map (counted served) (spares_of st))

module _ {S : Type 0} (served : S → ℕ) (allows : Allows S) (old : Stage S) (now : ℕ) (id : HostId) (h : Seen) (name : h.host.id ≡ id)
    (o : Option Packet) (st : Stage S) (come : HasCome served allows now id h o old st) where
  abbrev step : Work
  step = arrival_step h.settings h.host now o come.answer

  -- the boxes after the step allow no more than those before, with the answer counted
  pub tells : (n : ℕ) (more : List PlainEntry) → tell_of served allows st more → tell_of served allows old (entries_from n step.told ++ more)
  tells n more may =
      let seats : List (Option (S × ℕ)) = all_counted served (seats_of old) in
      let had : S = come.lent.had in
      let place : place_of seats id.0 ≡ Some (had, served had) = place_counted allows served (seats_of old) id.0 had come.lent.place in
      let runs : runs_in (entries_from n step.told) ≡ run_count step.told = told_runs n step.told in
      let ran : has_ran come.stepped.after.marks ≡ some_in (run_count step.told) =
      marks_ran come.stepped.after st.outbox st.scratch come.stepped.after.marks ∙ ap (λ es. some_in (runs_in es)) come.stepped.done.entries
      ∙ ap some_in (told_runs 0 step.told) in
      let same_name : come.stepped.after.host.id ≡ id = come.stepped.same.id ∙ name in
      let few : run_count step.told ≤ 1 = one.asked_once h.settings h.host now o come.answer in
      let all : AllByRecursion (MayRun id (allows had (served had))) (entries_from n step.told) =
      may_from id (allows had (served had)) 0 n step.told
      (subst (AllByRecursion (MayRun id (allows had (served had)))) come.stepped.done.entries
      (subst (λ i. AllByRecursion (MayRun i (allows had (served had))) (shown_entries come.stepped.after st.outbox st.scratch)) same_name
      (marks_may come.stepped.after st.outbox st.scratch (allows had (served had)) come.stepped.after.marks come.allowed))) in
      one_entry allows id had (served had) seats (map (counted served) (spares_of old)) (entries_from n step.told) more place all (omega (arith, runs, few))
      (subst (λ b. may_tell allows (cond b (slice_set seats id.0 (Some (had, served had + 1))) seats) (map (counted served) (spares_of old)) more)
      (ran ∙ ap some_in (sym runs)) (counted_tell seats refl place may)) where
        -- the boxes after the step are under those before it, with the answer counted
        counted_tell : (seats : List (Option (S × ℕ))) → seats ≡ all_counted served (seats_of old)
            → place_of seats id.0 ≡ Some (come.lent.had, served come.lent.had) → tell_of served allows st more
            → may_tell allows (cond (has_ran come.stepped.after.marks) (slice_set seats id.0 (Some (come.lent.had, served come.lent.had + 1))) seats)
            (map (counted served) (spares_of old)) more
        counted_tell seats is place may =
            under_tell allows (all_counted served (seats_of st))
            (cond (has_ran come.stepped.after.marks) (slice_set seats id.0 (Some (come.lent.had, served come.lent.had + 1))) seats)
            (map (counted served) (spares_of old)) more
            (subst (λ xs. AreUnder allows xs
            (cond (has_ran come.stepped.after.marks) (slice_set seats id.0 (Some (come.lent.had, served come.lent.had + 1))) seats)) (sym new_seats)
            (by_run (has_ran come.stepped.after.marks) come.count))
            (subst (λ xs. may_tell allows (all_counted served (seats_of st)) (map (counted served) xs) more) come.lent.spares may) where
              new_seats : all_counted served (seats_of st) ≡ slice_set seats id.0 (Some (come.lent.seat, served come.lent.seat))
              new_seats = ap (all_counted served) come.lent.seats ∙ map-set (option_map (counted served)) (seats_of old) id.0 (Some come.lent.seat)
                  ∙ ap (λ xs. slice_set xs id.0 (Some (come.lent.seat, served come.lent.seat))) (sym is)

              by_run : (b : Bool) → served come.lent.seat ≡ cond b (served come.lent.had + 1) (served come.lent.had)
                  → AreUnder allows (slice_set seats id.0 (Some (come.lent.seat, served come.lent.seat)))
                  (cond b (slice_set seats id.0 (Some (come.lent.had, served come.lent.had + 1))) seats)
              by_run true e = set_under allows seats seats id.0 (Some (come.lent.seat, served come.lent.seat))
                  (Some (come.lent.had, served come.lent.had + 1)) (all_under allows seats) (e, come.lent.before)
              by_run false e =
                  subst (AreUnder allows (slice_set seats id.0 (Some (come.lent.seat, served come.lent.seat))))
                  (same_set allows seats id.0 (come.lent.had, served come.lent.had) place)
                  (set_under allows seats seats id.0 (Some (come.lent.seat, served come.lent.seat)) (Some (come.lent.had, served come.lent.had))
                  (all_under allows seats) (e, come.lent.before))
