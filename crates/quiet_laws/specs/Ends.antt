-- In how many rounds the quiet call is done.
use Rattle.std.specs.Prelude.{◌≡◌, ℕ, ◌≤◌, ◌<◌, ◌-◌, None, [], ◌∷◌, ◌++◌, length}
use Rattle.homa_plain.specs.declared.settings.Settings.{Settings}
use Rattle.homa_plain.specs.declared.event.Event.TheVariants as event
use Rattle.homa_plain.specs.Settings.{IsValid}
use Rattle.homa_plain.specs.Host.{pages_for}
use Rattle.homa_plain.specs.Script.{counting}
use Rattle.homa_plain.specs.World.{new_world}
use Rattle.homa_plain.specs.Replay.{Happening, Run, carried, ticks}
use Rattle.homa_plain.specs.Quiet.{Round, deliveries, round, IsQuiet}
use Rattle.homa_plain.specs.Limits.{longest_message}

-- settings and lengths of which the promise speaks: two hosts, patience of a few ticks, and pages for both messages
pub record IsCalm (s : Settings) (n m : ℕ) : Type 0 where
  pub valid : IsValid s
  pub hosts : s.hosts ≡ 2
  pub resend : 4 ≤ s.resend
  pub request : (1 ≤ n) × (n ≤ longest_message) × (pages_for n ≤ s.pages)
  pub response : (1 ≤ m) × (m ≤ longest_message) × (pages_for m ≤ s.pages)

-- the call as an event, in the world that was opened for it
abbrev pub first_run : Settings → ℕ → ℕ → Run
first_run s n m =
    let call : Happening = record { event = event.Call (record { 0 = 0 }) (record { 0 = 1 }) 0; bytes = counting 0 n } in
    carried s (new_world s (1 ∷ 1 ∷ []) 0 2 (record { bytes = counting 0 m; hold = 0 } ∷ [])) (call ∷ [])

-- the events of the round that follows this one
abbrev pub run_after : Settings → Round → Run
run_after s r = carried s r.world (deliveries r.delivered (length r.world.packets - r.delivered) ++ ticks 2 1)

-- the call is done in exactly one round, which is at most this one, and each event up to it is carried out
pub record EndsWithin (s : Settings) (n m most : ℕ) : Type 0 where
  pub rounds : ℕ
  pub within : rounds ≤ most
  pub quiet : IsQuiet s n m rounds
  pub only : (r : ℕ) → IsQuiet s n m r → r ≡ rounds
  pub started : (first_run s n m).fault ≡ None
  pub carried_out : (r : ℕ) → r < rounds → (run_after s (round s n m r)).fault ≡ None
