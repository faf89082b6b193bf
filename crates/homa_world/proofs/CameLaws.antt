-- A packet that comes to a host, whose box may be asked, is an event of the world.
use Rattle.std.proofs.Common.{◌≡◌, ◌<◌, ◌≤◌, ℕ, zero, suc, ◌+◌, ◌^◌, Bool, true, false, cond, Option, Some, None, List, [], ◌∷◌, ◌++◌, length, refl}
use Rattle.std.proofs.Common.{sym, ap, subst, ◌∙◌, arith, append_assoc}
use Rattle.std.specs.Prelude.{map, slice_get, slice_set, slice_index_or}
use Rattle.std.specs.Option.{option_map}
use Rattle.std.specs.List.{AllByRecursion}
use Rattle.std.proofs.lemmas.List.{map-set}
use Rattle.homa_plain.specs.declared.id.HostId.{HostId}
use Rattle.homa_plain.specs.declared.event.Event.{Event}
use Rattle.homa_plain.specs.Entries.{PlainEntry}
use Rattle.homa_plain.specs.Packets.{Packet}
use Rattle.homa_plain.specs.Host.{Told, Says, Sends, entries_from}
use Rattle.homa_plain.specs.Rules.{Answer}
use Rattle.homa_plain.specs.Work.{Work}
use Rattle.homa_plain.specs.Steps.{arrival_step}
use Rattle.homa_plain.specs.World.{World as PlainWorld, Outcome, Done, outcome}
use Rattle.host_view.specs.Seen.{Seen}
use Rattle.host_view.specs.Marks.{has_ran, shown_entries}
use Rattle.homa_service.specs.Table.{place_of}
use Rattle.world_packets.specs.declared.packets.Packets.{Packets}
use Rattle.world_packets.specs.All.{kept_all, settings_of}
use Rattle.homa_plain.specs.Answers.{shown, answering}
use Rattle.homa_replay.specs.ReplayWorld.{IsApplied}
use Rattle.step_laws.specs.StepLaws.{run_count}
use Rattle.step_laws.proofs.OneAnswer as one
use Rattle.step_moves.proofs.Hosts.{length-set}
use Rattle.event_laws.specs.Named.{IsOwnStep}
use Rattle.event_laws.specs.Apart.{IsApartStep}
use Rattle.event_laws.specs.Stepping.{stepped_world, step_told, IsStepWith}
use Rattle.host_table.specs.declared.stage.Stage.{Stage}
use Rattle.homa_world.specs.declared.parts.First.{First}
use Rattle.homa_world.specs.declared.parts.First.TheVariants as first
use Rattle.homa_world.specs.declared.parts.Last.TheVariants as last
use Rattle.homa_world.specs.declared.parts.WorldParts.{WorldParts}
use Rattle.box_laws.specs.Boxes.{Allows, all_counted, counted, may_tell}
use Rattle.host_table.specs.Staged.{known, hosts_of, seats_of, spares_of, HasCome}
use Rattle.homa_world.specs.Packed.{frame_kept}
use Rattle.homa_world.specs.Standing.{StandsFor, IsKept, SeatFits, told_of, may_tell_of, first_told}
use Rattle.homa_world.proofs.StepLaws.{stands_after, told_after, kept_after}
use Rattle.box_laws.proofs.ShownLaws.{one_shown, all_show}
use Rattle.box_laws.proofs.AskedLaws.{MayRun, runs_in, some_in, marks_may, marks_ran, told_runs, AreUnder, all_under, set_under, under_tell, one_entry}
use Rattle.homa_world.proofs.KeptLaws.{seat_later, set_fits}
use Rattle.host_table.proofs.StageLaws.{map_at}

first_shown : (id : HostId) (f : First) (bytes : List ℕ) (es : List PlainEntry) → shown (first_told id f bytes ++ es) ≡ shown es
first_shown id first.Nothing bytes es = refl
first_shown id (first.Delivered n) bytes es = refl
first_shown id first.Injected bytes es = refl

module _ {A : Type 0} (allows : Allows A) where
  first_tell : (id : HostId) (f : First) (bytes : List ℕ) (seats : List (Option (A × ℕ))) (spares : List (A × ℕ)) (es : List PlainEntry)
      → may_tell allows seats spares es → may_tell allows seats spares (first_told id f bytes ++ es)
  first_tell id first.Nothing bytes seats spares es a = a
  first_tell id (first.Delivered n) bytes seats spares es a = (tt, a)
  first_tell id first.Injected bytes seats spares es a = (tt, a)

  pub place_counted : (served : A → ℕ) (xs : List (Option A)) (i : ℕ) (x : A) → place_of xs i ≡ Some x
      → place_of (all_counted served xs) i ≡ Some (counted served x)
  place_counted served [] i x e = absurd (no e) where
    no : None ≡ Some x → ⊥
    no e = cc
  place_counted served (y ∷ xs) zero x e = ap (option_map (counted served)) e
  place_counted served (y ∷ xs) (suc i) x e = place_counted served xs i x e

  pub same_set : (xs : List (Option (A × ℕ))) (i : ℕ) (x : A × ℕ) → place_of xs i ≡ Some x → slice_set xs i (Some x) ≡ xs
  same_set [] i x e = refl
  same_set (y ∷ xs) zero x e = ap (λ z. z ∷ xs) (sym e)
  same_set (y ∷ xs) (suc i) x e = ap (λ zs. y ∷ zs) (same_set xs i x e)

-- the same, whatever the packets' numbers
may_from : (id : HostId) (may : ℕ → List ℕ → List ℕ → ℕ → Type 0) (m n : ℕ) (told : List Told) → AllByRecursion (MayRun id may) (entries_from m told)
    → AllByRecursion (MayRun id may) (entries_from n told)
may_from id may m n [] all = tt
may_from id may m n (Says e ∷ told) all = (all.0, may_from id may m n told all.1)
may_from id may m n (Sends p ∷ told) all = (tt, may_from id may (suc m) (suc n) told all.1)

module _ {S : Type 0} (served : S → ℕ) (allows : Allows S) (mid : WorldParts S) (kept : IsKept served mid)
    (now : ℕ) (id : HostId) (h : Seen) (o : Option Packet) (st : Stage S) (at : slice_get (hosts_of mid.stage) id.0 ≡ Some h)
    (come : HasCome served allows now id h o mid.stage st)
    (packets : Packets) (first : First) (like : WorldParts S) (sent : kept_all packets ≡ kept_all mid.packets ++ map (frame_kept mid.clock) st.outbox)
    (same : settings_of packets ≡ settings_of mid.packets) where
  abbrev step : Work
  step = arrival_step h.settings h.host now o come.answer

  abbrev after : WorldParts S
  after = record mid {
    stage = st;
    packets = packets;
    injected = like.injected;
    last = last.Stepped id first (length (kept_all mid.packets));
    applied = mid.applied + 1;
  }

  -- the boxes after the step allow no more than those before, with the answer counted
  tells : (n : ℕ) (more : List PlainEntry) → may_tell_of served allows after more → may_tell_of served allows mid (entries_from n step.told ++ more)
  tells n more may =
      let seats : List (Option (S × ℕ)) = all_counted served (seats_of mid.stage) in
      let had : S = come.lent.had in
      let place : place_of seats id.0 ≡ Some (had, served had) = place_counted allows served (seats_of mid.stage) id.0 had come.lent.place in
      let runs : runs_in (entries_from n step.told) ≡ run_count step.told = told_runs n step.told in
      let ran : has_ran come.stepped.after.marks ≡ some_in (run_count step.told) =
      marks_ran come.stepped.after st.outbox st.scratch come.stepped.after.marks ∙ ap (λ es. some_in (runs_in es)) come.stepped.done.entries
      ∙ ap some_in (told_runs 0 step.told) in
      let name : come.stepped.after.host.id ≡ id = come.stepped.same.id ∙ (kept.each id (known h) (map_at known (hosts_of mid.stage) id.0 h at)).name.name in
      let few : run_count step.told ≤ 1 = one.asked_once h.settings h.host now o come.answer in
      let all : AllByRecursion (MayRun id (allows had (served had))) (entries_from n step.told) =
      may_from id (allows had (served had)) 0 n step.told
      (subst (AllByRecursion (MayRun id (allows had (served had)))) come.stepped.done.entries
      (subst (λ i. AllByRecursion (MayRun i (allows had (served had))) (shown_entries come.stepped.after st.outbox st.scratch)) name
      (marks_may come.stepped.after st.outbox st.scratch (allows had (served had)) come.stepped.after.marks come.allowed))) in
      one_entry allows id had (served had) seats (map (counted served) (spares_of mid.stage)) (entries_from n step.told) more place all
      (omega (arith, runs, few))
      (subst (λ b. may_tell allows (cond b (slice_set seats id.0 (Some (had, served had + 1))) seats) (map (counted served) (spares_of mid.stage))
      more) (ran ∙ ap some_in (sym runs)) (counted_tell seats refl place may)) where
        -- the boxes after the step are under those before it, with the answer counted
        counted_tell : (seats : List (Option (S × ℕ))) → seats ≡ all_counted served (seats_of mid.stage)
            → place_of seats id.0 ≡ Some (come.lent.had, served come.lent.had) → may_tell_of served allows after more
            → may_tell allows (cond (has_ran come.stepped.after.marks) (slice_set seats id.0 (Some (come.lent.had, served come.lent.had + 1))) seats)
            (map (counted served) (spares_of mid.stage)) more
        counted_tell seats is place may =
            under_tell allows (all_counted served (seats_of st))
            (cond (has_ran come.stepped.after.marks) (slice_set seats id.0 (Some (come.lent.had, served come.lent.had + 1))) seats)
            (map (counted served) (spares_of mid.stage)) more
            (subst (λ xs. AreUnder allows xs
            (cond (has_ran come.stepped.after.marks) (slice_set seats id.0 (Some (come.lent.had, served come.lent.had + 1))) seats)) (sym new_seats)
            (by_run (has_ran come.stepped.after.marks) come.count))
            (subst (λ xs. may_tell allows (all_counted served (seats_of st)) (map (counted served) xs) more) come.lent.spares may) where
              new_seats : all_counted served (seats_of st) ≡ slice_set seats id.0 (Some (come.lent.seat, served come.lent.seat))
              new_seats = ap (all_counted served) come.lent.seats ∙ map-set (option_map (counted served)) (seats_of mid.stage) id.0
                  (Some come.lent.seat) ∙ ap (λ xs. slice_set xs id.0 (Some (come.lent.seat, served come.lent.seat))) (sym is)

              by_run : (b : Bool) → served come.lent.seat ≡ cond b (served come.lent.had + 1) (served come.lent.had)
                  → AreUnder allows (slice_set seats id.0 (Some (come.lent.seat, served come.lent.seat)))
                  (cond b (slice_set seats id.0 (Some (come.lent.had, served come.lent.had + 1))) seats)
              by_run true e = set_under allows seats seats id.0 (Some (come.lent.seat, served come.lent.seat))
                  (Some (come.lent.had, served come.lent.had + 1)) (all_under allows seats) (e, come.lent.before)
              by_run false e =
                  subst (AreUnder allows (slice_set seats id.0 (Some (come.lent.seat, served come.lent.seat))))
                  (same_set allows seats id.0 (come.lent.had, served come.lent.had) place)
                  (set_under allows seats seats id.0 (Some (come.lent.seat, served come.lent.seat)) (Some (come.lent.had, served come.lent.had))
                  (all_under allows seats) (e, come.lent.before))

  pub came_applies : IsOwnStep id step → (e : Event) (bytes : List ℕ) (p : PlainWorld) → StandsFor mid p
      → IsStepWith come.answer mid.settings p id e bytes (first_told id first like.injected.items) step
      → IsApplied mid.settings p (record { event = e; bytes = bytes }) (StandsFor after) (told_of after) (may_tell_of served allows mid)
      (may_tell_of served allows after)
  came_applies own e bytes p stands event =
      let told : told_of after ≡ step_told p (first_told id first like.injected.items) step =
      told_after served mid kept now id h step st at come.stepped packets first like sent same p stands own.said in
      record {
        next = stepped_world p id step;
        stood = stands_after served mid kept now id h step st at come.stepped packets first like sent same p stands (ap length come.lent.spares);
        done = λ later.
            ap (λ given. by_given given later) (ap shown told ∙ first_shown id first like.injected.items (entries_from (length p.packets) step.told)
            ∙ one_shown (length p.packets) step.told come.answer (one.asked_once h.settings h.host now o come.answer)
            (all_show come.answer step.told (one.answer_told h.settings h.host now o come.answer)))
            ∙ event later ∙ ap (λ t. Done (record { world = answering later (stepped_world p id step); told = t })) (sym told);
        allowed = λ more may.
            subst (λ t. may_tell_of served allows mid (t ++ more)) (sym told)
            (subst (may_tell_of served allows mid)
            (sym (append_assoc (first_told id first like.injected.items) (entries_from (length p.packets) step.told) more))
            (first_tell allows id first like.injected.items (all_counted served (seats_of mid.stage)) (map (counted served) (spares_of mid.stage))
            (entries_from (length p.packets) step.told ++ more) (tells (length p.packets) more may)));
      } where
        by_given : List Answer → List Answer → Outcome
        by_given given later = outcome mid.settings (answering (given ++ later) p) e bytes

  pub came_kept : IsOwnStep id step → IsApartStep id step → length st.outbox ≤ 64 → length (kept_all mid.packets) + 64 < 2 ^ 64
      → now ≤ mid.clock + slice_index_or mid.leads.items id.0 0 → id.0 < mid.settings.hosts → IsKept served after
  came_kept own apart frames room clock inside =
      kept_after served mid kept now id h step st at come.stepped packets first like sent same own apart frames room clock
      (ap length come.lent.seats ∙ length-set (seats_of mid.stage) id.0 (Some come.lent.seat))
      (λ i l. subst (λ xs. SeatFits served (mid.applied + 1) (place_of xs i)) (sym come.lent.seats)
      (set_fits served (mid.applied + 1) (seats_of mid.stage) id.0 i come.lent.seat new_count
      (seat_later served mid.applied (mid.applied + 1) (place_of (seats_of mid.stage) i) (omega (arith)) (kept.seats i l)))) come.lent.spares where
        new_count : served come.lent.seat ≤ mid.applied + 1
        new_count = by_fit (kept.seats id.0 inside) where
          by_fit : SeatFits served mid.applied (place_of (seats_of mid.stage) id.0) → served come.lent.seat ≤ mid.applied + 1
          by_fit f =
              let one_seat : f.seat ≡ come.lent.had = some_is f.seat come.lent.had (sym f.is ∙ come.lent.place) in
              let had : served come.lent.had ≤ mid.applied = subst (λ x. served x ≤ mid.applied) one_seat f.count in
              by_run (has_ran come.stepped.after.marks) come.count had where
                some_is : (x y : S) → Some x ≡ Some y → x ≡ y
                some_is x y e = cc

                by_run : (b : Bool) → served come.lent.seat ≡ cond b (served come.lent.had + 1) (served come.lent.had)
                    → served come.lent.had ≤ mid.applied → served come.lent.seat ≤ mid.applied + 1
                by_run true e l = omega (arith, e, l)
                by_run false e l = omega (arith, e, l)
