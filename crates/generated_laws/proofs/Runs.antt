-- A whole run: no event of it is refused.
use Rattle.std.proofs.Common.{◌≡◌, ℕ, zero, suc, ◌+◌, ◌≤◌, Bool, true, false, List, refl, sym, ap, ◌∙◌, subst, arith}
use Rattle.std.specs.Prelude.{replicate, length}
use Rattle.homa_plain.specs.declared.settings.Settings.{Settings}
use Rattle.homa_plain.specs.Entries.{PlainEntry}
use Rattle.homa_plain.specs.Rules.{Answer}
use Rattle.homa_plain.specs.World.{World, new_world, last_tick}
use Rattle.homa_plain.specs.Replay.{Run, Finished}
use Rattle.generated_runs.specs.Draws.{seeded}
use Rattle.generated_runs.specs.Fabric.{Destination, idle, destination, new_fabric}
use Rattle.generated_runs.specs.Rounds.{Generated, first_generated, next_round, is_over, rounds}
use Rattle.generated_runs.specs.Generated.{generated_settings, most_rounds, generated}
use Rattle.generated_runs.proofs.Carried.{no_event}
use Rattle.generated_runs.proofs.Going.{by_end, rounds_step, rounds_none}
use Rattle.generated_laws.specs.Unrefused.{first_world, IsUnrefused}
use Rattle.generated_laws.proofs.Listed.{replicated}
use Rattle.generated_laws.proofs.Carried.{replayed_whole}
use Rattle.generated_laws.proofs.Peopled.{first_peopled}
use Rattle.generated_laws.proofs.Ways.{IsWay, idle_way}
use Rattle.generated_laws.proofs.Lines.{IsTaken, IsSound}
use Rattle.generated_laws.proofs.Rounds.{IsFit, IsCalm, round_calm}

-- ---- the rounds

rounds_sound : (s : Settings) (first : World) (calls : ℕ) → calls ≤ 4294967295 → IsFit s → (n clock : ℕ) (g : Generated)
    → clock + n ≤ last_tick → IsCalm s first calls clock g → IsSound s first calls (rounds n s g)
rounds_sound s first calls most fit zero clock g early k = rw (rounds_none s g) k.sound
rounds_sound s first calls most fit (suc n) clock g early k =
    let after = next_round s g in
    let next = round_calm s first calls clock most fit (omega (arith, early)) g k in
    rw (rounds_step n s g)
    (by_over after next (λ k2. rounds_sound s first calls most fit n (clock + 1) after (omega (arith, early)) k2) (is_over after)) where
      by_over : (after : Generated) → IsCalm s first calls (clock + 1) after
          → (IsCalm s first calls (clock + 1) after → IsSound s first calls (rounds n s after)) → (t : Bool) → IsSound s first calls (by_end n s after t)
      by_over after next on true = next.sound
      by_over after next on false = on next

-- ---- its beginning

at_first : (n : ℕ) (seed : ℕ) (i : ℕ) → destination (new_fabric n (seeded seed)) i ≡ idle
at_first n seed i = replicated n i idle

many_idle : (n : ℕ) → length (replicate n idle) ≡ n
many_idle zero = refl
many_idle (suc n) = ap suc (many_idle n)

first_clock : (s : Settings) (incs : List ℕ) (boxes : ℕ) (answers : List Answer) → (new_world s incs 0 boxes answers).clock ≡ 0
unfolding new_world
first_clock s incs boxes answers = refl

no_packet : (s : Settings) (incs : List ℕ) (boxes : ℕ) (answers : List Answer) → length (new_world s incs 0 boxes answers).packets ≤ 0
unfolding new_world
no_packet s incs boxes answers = omega arith

first_calm : (s : Settings) (seed calls boxes : ℕ) (answers : List Answer)
    → IsCalm s (first_world s boxes answers) calls 0 (first_generated s seed calls boxes answers)
first_calm s seed calls boxes answers =
    let w = first_world s boxes answers in
    let none = no_event s w in
    record {
      sound = record {
        taken = record { world = ap (λ (r : Run). r.world) none; told = ap (λ (r : Run). r.told) none; none = ap (λ (r : Run). r.fault) none };
        world = first_peopled s s.hosts boxes answers refl;
        ways = λ i. subst (IsWay w.packets) (sym (at_first s.hosts seed i)) (idle_way w.packets);
        each = many_idle s.hosts;
        total = omega arith;
        lines = tt;
        few = no_packet s (replicate s.hosts 1) boxes answers;
      };
      calm = λ i. ap (λ (d : Destination). d.again) (at_first s.hosts seed i);
      at = first_clock s (replicate s.hosts 1) boxes answers;
    }

-- a run whose lines are taken is replayed whole
taken_unrefused : (s : Settings) (first : World) (g : Generated) → IsTaken s first g → IsUnrefused s first g
taken_unrefused s first g k =
    let whole = replayed_whole s g.lines first 0 k.none in
    record {
      world = k.world;
      told = k.told;
      none = k.none;
      events = whole.0;
      replays = λ line. whole.1 line ∙ ap (λ (l : List PlainEntry). record { told = l; end = Finished whole.0 }) k.told;
    }

generated_fit : IsFit generated_settings
generated_fit = record { two = omega arith; most = omega arith; resend = omega arith; overcommit = omega arith }

pub generated_sound : (seed calls boxes : ℕ) (answers : List Answer) → calls ≤ 4294967295
    → IsSound generated_settings (first_world generated_settings boxes answers) calls (generated seed calls boxes answers)
generated_sound seed calls boxes answers most =
    let s = generated_settings in
    rounds_sound s (first_world s boxes answers) calls most generated_fit most_rounds 0 (first_generated s seed calls boxes answers) (omega arith)
    (first_calm s seed calls boxes answers)

pub unrefused : (seed calls boxes : ℕ) (answers : List Answer) → calls ≤ 4294967295
    → IsUnrefused generated_settings (first_world generated_settings boxes answers) (generated seed calls boxes answers)
unrefused seed calls boxes answers most =
    taken_unrefused generated_settings (first_world generated_settings boxes answers) (generated seed calls boxes answers)
    (generated_sound seed calls boxes answers most).taken
