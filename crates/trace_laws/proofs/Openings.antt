-- What an opened schedule has: valid settings, and a world that may be opened.
use Rattle.std.proofs.Common.{◌≡◌, ◌≤◌, ℕ, zero, suc, ◌+◌, ◌-◌, true, false, Result, Ok, Err, List, [], ◌∷◌, length, replicate, refl, subst, arith}
use Rattle.std.specs.List.{AllByRecursion}
use Rattle.std.proofs.lemmas.List.{length-replicate}
use Rattle.homa_plain.specs.declared.settings.Settings.{Settings}
use Rattle.homa_plain.specs.declared.settings.SettingFault.{SettingFault}
use Rattle.homa_plain.specs.declared.fault.ScriptFault.{ScriptFault}
use Rattle.homa_plain.specs.declared.fault.ScriptFault.TheVariants.{Setting}
use Rattle.homa_plain.specs.Settings.{IsValid, verdict, usual}
use Rattle.homa_plain.specs.Input.{lines_of}
use Rattle.homa_plain.specs.Script.{Phrase, Blank, SettingIs, Go, Happens, Steps, Opening, Opened, Unopened, phrase_in, steps_from, with_setting}
use Rattle.homa_plain.specs.Script.{opened_by, opening_from, opening, most_bytes}
use Rattle.homa_plain.specs.Rules.{Answer}
use Rattle.homa_plain.specs.World.{last_tick}
use Rattle.homa_plain.specs.Replay.{Finished, replay_opened, replay}
use Rattle.homa_plain.proofs.SettingsLemmas.{ok_is_valid}
use Rattle.trace_steps.specs.Always.{last_incarnation, IsOpening}
use Rattle.trace_laws.specs.Replays.{is_opened, OpensWorld}

-- ---- its settings

-- where a world is opened, its settings are valid
abbrev IfOpened : Opening → Type 0
IfOpened (Opened s steps) = IsValid s
IfOpened (Unopened refusal) = Unit {0}

opened_valid : (s : Settings) (n : ℕ) (steps : Steps) (v : Result (Unit {0}) SettingFault) → v ≡ verdict s
    → IfOpened (elim v as (λ _. Opening) [ Err fault ↦ Unopened (record { line = n; fault = Setting fault }) | Ok u ↦ Opened s steps ])
opened_valid s n steps (Err fault) e = tt
opened_valid s n steps (Ok u) e = (ok_is_valid s (Ok u) e).0 refl

from_valid : (limit read n : ℕ) (s : Settings) (lines : List (List ℕ)) → IfOpened (opening_from limit read n s lines)
unfolding opening_from
from_valid limit read n s [] = tt
from_valid limit read n s (line ∷ lines) = by_phrase (phrase_in limit false read line) (λ t. from_valid limit (read + length line) (suc n) t lines) where
  by_phrase : (r : Result Phrase ScriptFault) → ((t : Settings) → IfOpened (opening_from limit (read + length line) (suc n) t lines))
      → IfOpened (elim r as (λ _. Opening) [
        | Err fault ↦ Unopened (record { line = n; fault = fault })
        | Ok phrase ↦ elim phrase as (λ _. Opening) [
          | Blank ↦ opening_from limit (read + length line) (suc n) s lines
          | SettingIs name m ↦ opening_from limit (read + length line) (suc n) (with_setting s name m) lines
          | Go ↦ opened_by s n (steps_from limit (read + length line) (suc n) lines)
          | Happens given ↦ opening_from limit (read + length line) (suc n) s lines
        ]
      ])
  by_phrase (Err fault) later = tt
  by_phrase (Ok Blank) later = later s
  by_phrase (Ok (SettingIs name m)) later = later (with_setting s name m)
  by_phrase (Ok Go) later = opened_valid s n (steps_from limit (read + length line) (suc n) lines) (verdict s) refl
  by_phrase (Ok (Happens given)) later = later s

pub opening_valid : (bytes : List ℕ) (s : Settings) (steps : Steps) → opening most_bytes bytes ≡ Opened s steps → IsValid s
unfolding opening
opening_valid bytes s steps e = subst IfOpened e (from_valid most_bytes 0 1 usual (lines_of bytes))

-- ---- its world

all_ones : (P : ℕ → Type 0) (n : ℕ) → P 1 → AllByRecursion P (replicate n 1)
all_ones P zero p = tt
all_ones P (suc n) p = (p, all_ones P n p)

-- with each spare box the incarnation rises, and it stays within its bound
spares_fit : (hosts many boxes : ℕ) → many ≡ hosts → 2 ≤ hosts → boxes ≤ last_incarnation → 1 + (boxes - many) ≤ last_incarnation
spares_fit hosts many boxes e two few = omega (arith, e, two, few)

pub may_open : (s : Settings) (boxes : ℕ) → IsValid s → boxes ≤ last_incarnation → IsOpening s (replicate s.hosts 1) 0 boxes
may_open s boxes valid few =
    let many : length (replicate s.hosts 1) ≡ s.hosts = length-replicate s.hosts 1 in
    record {
      valid = valid;
      hosts = many;
      from_one = all_ones (λ (inc : ℕ). 1 ≤ inc) s.hosts one;
      up_to_last = all_ones (λ (inc : ℕ). inc + (boxes - length (replicate s.hosts 1)) ≤ last_incarnation) s.hosts
          (spares_fit s.hosts (length (replicate s.hosts 1)) boxes many valid.in_range.0 few);
      tick = zeroth;
    } where
      one : 1 ≤ 1
      one = omega arith

      zeroth : 0 ≤ last_tick
      zeroth = omega arith

-- ---- that it is opened

-- an opened schedule, and what it says
pub record IsOpen (bytes : List ℕ) : Type 0 where
  pub settings : Settings
  pub steps : Steps
  pub is : opening most_bytes bytes ≡ Opened settings steps

pub is_open : (bytes : List ℕ) (o : Opening) → opening most_bytes bytes ≡ o → is_opened o ≡ true → IsOpen bytes
is_open bytes (Opened s steps) e opened = record { settings = s; steps = steps; is = e }
is_open bytes (Unopened refusal) e opened = absurd cc

-- a schedule that isn't opened doesn't come to its end
by_end : (o : Opening) (answers : List Answer) (boxes n : ℕ) → (replay_opened o answers boxes).end ≡ Finished n → is_opened o ≡ true
by_end (Opened s steps) answers boxes n e = refl
by_end (Unopened refusal) answers boxes n e = absurd cc

pub finished_opens : (bytes : List ℕ) (answers : List Answer) (boxes n : ℕ) → (replay bytes answers boxes).end ≡ Finished n → OpensWorld bytes
unfolding replay
finished_opens bytes answers boxes n e = by_end (opening most_bytes bytes) answers boxes n e
