-- The quiet call: two hosts, one call, every packet delivered once and in order, and in how many rounds it is done.
use Rattle.std.specs.Prelude.{◌≡◌, ℕ, zero, suc, ◌-◌, ◌<◌, Bool, true, false, List, [], ◌∷◌, ◌++◌, length}
use Rattle.homa_plain.specs.declared.settings.Settings.{Settings}
use Rattle.homa_plain.specs.declared.event.Event.TheVariants as event
use Rattle.homa_plain.specs.Entries.{PlainEntry, PlainDone}
use Rattle.homa_plain.specs.Script.{counting}
use Rattle.homa_plain.specs.World.{World, new_world}
use Rattle.homa_plain.specs.Replay.{Happening, bare, ticks, Run, carried}

-- the deliveries of so many packets, from number n on
abbrev pub deliveries : ℕ → ℕ → List Happening
deliveries n zero = []
deliveries n (suc count) = bare (event.Deliver n) ∷ deliveries (suc n) count

-- a world, the packets that were delivered in it, and whether the call was done in its last round
pub record Round : Type 0 where
  pub world : World
  pub delivered : ℕ
  pub done : Bool

-- whether a call's `done` entry is among these
abbrev pub has_done : List PlainEntry → Bool
has_done [] = false
has_done (PlainDone id bytes ∷ told) = true
has_done (entry ∷ told) = has_done told

-- the round that a run makes: its world, so many packets delivered, and whether the call was done in it
abbrev pub carried_round : ℕ → Run → Round
carried_round delivered run = record { world = run.world; delivered = delivered; done = has_done run.told }

-- one round: first the packets that were sent before it and not delivered are delivered, in order; then comes one tick
abbrev pub next_round : Settings → Round → Round
next_round s r =
    let sent = length r.world.packets in
    carried_round sent (carried s r.world (deliveries r.delivered (sent - r.delivered) ++ ticks 2 1))

-- host 0 has called host 1 with a request of n bytes, and m bytes will be answered
unfoldable pub first_round : Settings → ℕ → ℕ → Round
first_round s n m =
    let world = new_world s (1 ∷ 1 ∷ []) 0 2 (record { bytes = counting 0 m; hold = 0 } ∷ []) in
    let call : Happening = record { event = event.Call (record { 0 = 0 }) (record { 0 = 1 }) 0; bytes = counting 0 n } in
    carried_round 0 (carried s world (call ∷ []))

-- after so many rounds
unfoldable pub round : Settings → ℕ → ℕ → ℕ → Round
round s n m zero = first_round s n m
round s n m (suc r) = next_round s (round s n m r)

-- the call is done in round r, and in none before
pub record IsQuiet (s : Settings) (n m r : ℕ) : Type 0 where
  pub done : (round s n m r).done ≡ true
  pub first : (q : ℕ) → q < r → (round s n m q).done ≡ false
