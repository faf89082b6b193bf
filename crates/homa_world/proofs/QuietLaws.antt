-- A step that asks no box is an event of the world.
use Rattle.std.proofs.Common.{◌≡◌, ℕ, ◌+◌, false, Some, List, [], ◌++◌, length, sym, ap, subst, ◌∙◌}
use Rattle.std.specs.Prelude.{map, slice_get}
use Rattle.homa_plain.specs.declared.id.HostId.{HostId}
use Rattle.homa_plain.specs.declared.event.Event.{Event}
use Rattle.homa_plain.specs.Rules.{Answer}
use Rattle.homa_plain.specs.Work.{Work}
use Rattle.homa_plain.specs.Steps.{has_run}
use Rattle.homa_plain.specs.World.{World as PlainWorld, Outcome, Done, outcome}
use Rattle.host_view.specs.Seen.{Seen}
use Rattle.world_packets.specs.declared.packets.Packets.{Packets}
use Rattle.world_packets.specs.All.{kept_all, settings_of}
use Rattle.homa_plain.specs.Answers.{shown, answering}
use Rattle.homa_replay.specs.ReplayWorld.{IsApplied}
use Rattle.event_laws.specs.Named.{IsOwnStep}
use Rattle.event_laws.specs.Stepping.{stepped_world, step_told, IsStepBy}
use Rattle.host_table.specs.declared.stage.Stage.{Stage}
use Rattle.homa_world.specs.declared.parts.First.TheVariants as first
use Rattle.homa_world.specs.declared.parts.Last.TheVariants as last
use Rattle.homa_world.specs.declared.parts.WorldParts.{WorldParts}
use Rattle.box_laws.specs.Boxes.{Allows, all_counted, counted, may_tell}
use Rattle.host_table.specs.Staged.{hosts_of, seats_of, spares_of, HasStepped}
use Rattle.homa_world.specs.Packed.{frame_kept}
use Rattle.homa_world.specs.Standing.{StandsFor, IsKept, told_of, may_tell_of}
use Rattle.homa_world.proofs.StepLaws.{stands_after, told_after}
use Rattle.box_laws.proofs.ShownLaws.{none_shown}
use Rattle.box_laws.proofs.BoxLaws.{quiet_tell}

module _ {S : Type 0} (served : S → ℕ) (allows : Allows S) (mid : WorldParts S) (kept : IsKept served mid)
    (now : ℕ) (id : HostId) (h : Seen) (step : Work) (st : Stage S) (at : slice_get (hosts_of mid.stage) id.0 ≡ Some h)
    (stepped : HasStepped now id h step mid.stage st)
    (packets : Packets) (like : WorldParts S) (sent : kept_all packets ≡ kept_all mid.packets ++ map (frame_kept mid.clock) st.outbox)
    (same : settings_of packets ≡ settings_of mid.packets) where
  abbrev after : WorldParts S
  after = record mid {
    stage = st;
    packets = packets;
    injected = like.injected;
    last = last.Stepped id first.Nothing (length (kept_all mid.packets));
    applied = mid.applied + 1;
  }

  pub quiet_applies : IsOwnStep id step → has_run step.told ≡ false → seats_of st ≡ seats_of mid.stage → spares_of st ≡ spares_of mid.stage
      → (e : Event) (bytes : List ℕ) (p : PlainWorld) → StandsFor mid p
      → IsStepBy [] mid.settings p id e bytes [] step
      → IsApplied mid.settings p (record { event = e; bytes = bytes }) (StandsFor after) (told_of after) (may_tell_of served allows mid)
      (may_tell_of served allows after)
  quiet_applies own quiet seats spares e bytes p stands event =
      let told : told_of after ≡ step_told p [] step =
      told_after served mid kept now id h step st at stepped packets first.Nothing like sent same p stands own.said in
      record {
        next = stepped_world p id step;
        stood = stands_after served mid kept now id h step st at stepped packets first.Nothing like sent same p stands (ap length spares);
        done = λ later.
            ap (λ given. package_outcome given later) (ap shown told ∙ none_shown (length p.packets) step.told quiet)
            ∙ event later ∙ ap (λ t. Done (record { world = answering later (stepped_world p id step); told = t })) (sym told);
        allowed = λ more may.
            subst (λ t. may_tell_of served allows mid (t ++ more)) (sym told)
            (quiet_tell allows (map (counted served) (spares_of mid.stage)) (all_counted served (seats_of mid.stage))
            (length p.packets) step.told more own.said quiet
            (subst (λ xs. may_tell allows (all_counted served (seats_of mid.stage)) (map (counted served) xs) more) spares
            (subst (λ xs. may_tell allows (all_counted served xs) (map (counted served) (spares_of st)) more) seats may)));
      } where
        package_outcome : List Answer → List Answer → Outcome
        package_outcome given later = outcome mid.settings (answering (given ++ later) p) e bytes
