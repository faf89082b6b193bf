-- How far the code has come with a run, and what stays.
use Rattle.std.specs.Prelude.{◌≡◌, ◌≤◌, ◌+◌, ◌^◌, ℕ, Bool, false, None, Option, Result, List, length, OnOk, IsErrOf}
use Rattle.homa_io.specs.Outside.{HasRisen}
use Rattle.homa_plain.specs.declared.settings.Settings.{Settings}
use Rattle.homa_replay.specs.declared.stop.Stop.{Stop}
use Rattle.homa_replay.specs.declared.stop.Stop.TheVariants.{Read, Write, NoMemory}
use Rattle.homa_generate.specs.declared.lines.Progress.{Progress}
use Rattle.homa_generate.specs.Going.{Holds}

-- what the code holds of a run, with what its sink took
abbrev pub holds_of : Progress → Option (List ℕ) → Holds
holds_of p taken = record { fabric = p.fabric.fabric; left = p.left; counts = p.counts; taken = taken }

-- the code's settings are the world's, with version 1, its fabric is one for them, and the world has applied at most so many events
pub record IsReady (own worlds : Settings) (p : Progress) (events most : ℕ) : Type 0 where
  pub settings : own ≡ worlds
  pub life : p.fabric.life ≡ worlds.life
  pub hosts : length p.fabric.fabric.destinations ≡ worlds.hosts
  pub version : worlds.wire ≡ 1
  pub few : events + most ≤ 2 ^ 57

module _ {K : Type 0} where
  -- the lines of a run are printed, or no sink of this kind tells what it took
  abbrev pub IsHeard : Bool → (K → Option (List ℕ)) → Type 0
  IsHeard prints taken = prints ≡ false → (k : K) → taken k ≡ None

-- settings, life and the number of hosts stay, and at most so many events more were applied
pub record IsSteady (old new : Settings) (p q : Progress) (before after most : ℕ) : Type 0 where
  pub settings : new ≡ old
  pub life : q.fabric.life ≡ p.fabric.life
  pub hosts : length q.fabric.fabric.destinations ≡ length p.fabric.fabric.destinations
  pub counted : after ≤ before + most

-- the sink's count of faults rises where writing failed, and else stays; nothing is read
pub record IsFaulted {A : Type 0} (r : Result A Stop) (old new : ℕ) : Type 0 where
  pub write : IsErrOf r Write → HasRisen old new
  pub memory : IsErrOf r NoMemory → new ≡ old
  pub read : IsErrOf r Read → ⊥
  pub quiet : OnOk r (new ≡ old)
