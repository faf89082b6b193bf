-- How an event ends: it happened, or it was refused and nothing happened.
use Rattle.std.proofs.Common.{◌≡◌, ◌<◌, ℕ, ◌+◌, true, Result, Ok, Err, refl, sym, ap, subst, ◌∙◌, length, arith}
use Rattle.std.specs.Prelude.{map, IsErrAnd}
use Rattle.homa_plain.specs.declared.id.HostId.{HostId}
use Rattle.homa_plain.specs.declared.fault.WorldFault.{WorldFault}
use Rattle.homa_plain.specs.declared.fault.WorldFault.TheVariants as fault
use Rattle.homa_plain.specs.Replay.{Happening}
use Rattle.homa_replay.specs.ReplayWorld.{IsNotApplied, takes_memory}
use Rattle.box_laws.specs.Boxes.{Allows}
use Rattle.host_table.specs.declared.stage.Stage.{Stage}
use Rattle.host_table.specs.Staged.{Known, known_of, hosts_of, seats_of, spares_of, HasNotCome}
use Rattle.homa_world.specs.declared.parts.Last.{Last}
use Rattle.homa_world.specs.declared.parts.Last.TheVariants as last
use Rattle.homa_world.specs.declared.parts.WorldParts.{WorldParts}
use Rattle.homa_world.specs.Standing.{IsKept, Applies, Refuses}
use Rattle.homa_world.specs.Happened.{HasMadeRoom, NothingHappened, HasHappened}
use Rattle.homa_world.proofs.KeptLaws.{no_memory}
use Rattle.homa_world.proofs.AllowLaws.{same_stage, same_boxes, no_more_on, not_came_tells}
use Rattle.homa_world.proofs.ArrivedLaws.{not_came_kept, not_came_stands}

-- what stays while room is made
pub record IsStill {S : Type 0} (old new : WorldParts S) : Type 0 where
  pub stage : new.stage ≡ old.stage
  pub settings : new.settings ≡ old.settings
  pub applied : new.applied ≡ old.applied

module _ {S : Type 0} (old new : WorldParts S) where
  pub still_by_room : new ≡ record old { packets = new.packets; last = last.Nothing } → IsStill old new
  still_by_room same = record { stage = ap (λ w. w.stage) same; settings = ap (λ w. w.settings) same; applied = ap (λ w. w.applied) same }

  pub still_by_datagram : new ≡ record old { packets = new.packets; injected = new.injected; last = last.Nothing } → IsStill old new
  still_by_datagram same = record { stage = ap (λ w. w.stage) same; settings = ap (λ w. w.settings) same; applied = ap (λ w. w.applied) same }

-- ---- nothing happened

module _ {S : Type 0} (served : S → ℕ) (may : Allows S) where
  pub room_only : {A E : Type 0} (old new : WorldParts S) (r : Result A E) → HasMadeRoom served old new r → IsStill old new
      → NothingHappened served may old new
  room_only old new r made same = record { kept = made.kept; still = made.still; allows = same_stage served may old new same.stage }

  pub nothing_on : (old mid new : WorldParts S) → NothingHappened served may old mid → NothingHappened served may mid new
      → NothingHappened served may old new
  nothing_on old mid new a b = record {
    kept = b.kept;
    still = λ p stands. b.still p (a.still p stands);
    allows = no_more_on served may old mid new a.allows b.allows;
  }

  -- the same hosts and boxes stand on the stage, whatever is told
  pub same_hosts : (w : WorldParts S) (st : Stage S) (told : Last) → IsKept served (record w { stage = st; last = told })
      → known_of st ≡ known_of w.stage → seats_of st ≡ seats_of w.stage → spares_of st ≡ spares_of w.stage
      → NothingHappened served may w (record w { stage = st; last = told })
  same_hosts w st told kept known seats spares = record {
    kept = kept;
    still = λ p stands. record {
      clock = stands.clock;
      hosts = stands.hosts ∙ ap (map (λ (k : Known). k.host)) (sym known);
      leads = stands.leads;
      packets = stands.packets;
      spares = stands.spares ∙ ap length (sym spares);
    };
    allows = same_boxes served may w (record w { stage = st; last = told }) seats spares;
  }

  -- no packet came
  pub not_came : (w : WorldParts S) → IsKept served w → (to : HostId) → to.0 < length (hosts_of w.stage) → (st : Stage S) → w.last ≡ last.Nothing
      → HasNotCome served may to w.stage st → NothingHappened served may w (record w { stage = st })
  not_came w kept to l st none n = record {
    kept = not_came_kept served w kept to l may st none n;
    still = not_came_stands served w kept to may st n;
    allows = not_came_tells served may w (record w { stage = st }) to n;
  }

-- ---- how an event ends

module _ {S : Type 0} (served : S → ℕ) (may : Allows S) (e : Happening) (old : WorldParts S) where
  -- it was refused before anything was done
  pub refused_at_once : (why : WorldFault) → IsKept served old → Refuses old e why → HasHappened served may e old old (Err why)
  refused_at_once why kept refuses = record {
    done = tt;
    fault = refuses;
    still = λ p stands. stands;
    allows = λ told tells. tells;
    kept = kept;
    settings = refl;
    counted = omega (arith);
  }

  -- it was refused after a part of the work
  pub refused_later : (new : WorldParts S) (why : WorldFault) → NothingHappened served may old new → new.settings ≡ old.settings
      → new.applied ≡ old.applied → Refuses old e why → HasHappened served may e old new (Err why)
  refused_later new why nothing settings applied refuses = record {
    done = tt;
    fault = refuses;
    still = nothing.still;
    allows = nothing.allows;
    kept = nothing.kept;
    settings = settings;
    counted = omega (arith, applied);
  }

  -- an error that was handed on
  pub handed_on : (new : WorldParts S) (r : Result (Unit {0}) WorldFault) (why : WorldFault) → IsErrAnd r (λ y. y ≡ why)
      → HasHappened served may e old new (Err why) → HasHappened served may e old new r
  handed_on new (Ok x) why is h = absurd is
  handed_on new (Err y) why is h = subst (λ z. HasHappened served may e old new (Err z)) (sym is) h

  -- it happened
  pub happened : (new : WorldParts S) → Applies served may old new e × IsKept served new → new.settings ≡ old.settings
      → new.applied ≡ old.applied + 1 → HasHappened served may e old new (Ok (tt {0}))
  happened new applies settings applied = record {
    done = applies.0;
    fault = tt;
    still = tt;
    allows = tt;
    kept = applies.1;
    settings = settings;
    counted = omega (arith, applied);
  }

  -- it happened after room was made
  pub happened_on : (mid new : WorldParts S) → IsStill old mid → Applies served may old new e × IsKept served new → new.settings ≡ mid.settings
      → new.applied ≡ mid.applied + 1 → HasHappened served may e old new (Ok (tt {0}))
  happened_on mid new same applies settings applied =
      happened new applies (settings ∙ same.settings) (applied ∙ ap (λ n. n + 1) same.applied)

  -- there is no memory for it
  pub refuses_memory : takes_memory e.event ≡ true → Refuses old e fault.NoMemory
  refuses_memory takes p stands = no_memory old.settings p e.event e.bytes takes

  module _ {A E : Type 0} (mid : WorldParts S) (r : Result A E) (made : HasMadeRoom served old mid r) (same : IsStill old mid) where
    -- there is no memory to make room
    pub without_room : takes_memory e.event ≡ true → HasHappened served may e old mid (Err fault.NoMemory)
    without_room takes =
        refused_later mid fault.NoMemory (room_only served may old mid r made same) same.settings same.applied (refuses_memory takes)

    -- it was refused after room was made
    pub refused_on : (st : Stage S) (why : WorldFault) → NothingHappened served may mid (record mid { stage = st }) → Refuses old e why
        → HasHappened served may e old (record mid { stage = st }) (Err why)
    refused_on st why nothing refuses =
        refused_later (record mid { stage = st }) why
        (nothing_on served may old mid (record mid { stage = st }) (room_only served may old mid r made same) nothing) same.settings same.applied refuses

    -- what is refused once room is made is refused
    pub refused_before : (why : WorldFault) → Refuses mid e why → Refuses old e why
    refused_before why refuses p stands = subst (λ s. IsNotApplied s p e why) same.settings (refuses p (made.still p stands))
