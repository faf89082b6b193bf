-- Turns one after the other, and the events of the plain world that they are.
use Rattle.std.proofs.Common.{◌≡◌, ◌+◌, ℕ, suc, Option, None, List, [], ◌∷◌, ◌++◌, length, refl, sym, ap, ◌∙◌, subst, append_assoc, add-one}
use Rattle.homa_plain.specs.declared.settings.Settings.{Settings}
use Rattle.homa_plain.specs.Entries.{PlainEntry}
use Rattle.homa_plain.specs.Rules.{Answer}
use Rattle.homa_plain.specs.World.{World}
use Rattle.homa_plain.specs.Replay.{Happening, Run, after_event, carried}
use Rattle.homa_plain.specs.Answers.{shown, answering}
use Rattle.homa_replay.proofs.Streams.{shown_parts}
use Rattle.homa_world.specs.declared.shown.Passing.{Passing}
use Rattle.generated_runs.proofs.Carried.{by_outcome, first_event, no_event}
use Rattle.simulated_network.specs.declared.step.RunStep.{RunStep}
use Rattle.simulation.specs.Turns.{Turn, Waited, LeftOut, Happened, happenings, told_of, AreTurns}

pub happenings-append : (a b : List Turn) → happenings (a ++ b) ≡ happenings a ++ happenings b
happenings-append [] b = refl
happenings-append (Waited given ∷ a) b = happenings-append a b
happenings-append (LeftOut client server bytes ∷ a) b = happenings-append a b
happenings-append (Happened e told next ∷ a) b = ap (λ (es : List Happening). e ∷ es) (happenings-append a b)

pub told_of-append : (a b : List Turn) → told_of (a ++ b) ≡ told_of a ++ told_of b
told_of-append [] b = refl
told_of-append (Waited given ∷ a) b = told_of-append a b
told_of-append (LeftOut client server bytes ∷ a) b = told_of-append a b
told_of-append (Happened e told next ∷ a) b =
    ap (λ (es : List PlainEntry). told ++ es) (told_of-append a b) ∙ sym (append_assoc told (told_of a) (told_of b))

module _ {N : Type 0} (gives : N → ℕ → RunStep → N → Type 0) (heeds : N → PlainEntry → Option Passing → N → Type 0) (leaves : N → N → Type 0)
    (s : Settings) (service : ℕ) where
  pub turns_on : (ts us : List Turn) (w v x : World) (a b c : N) → AreTurns gives heeds leaves s service w a ts v b
      → AreTurns gives heeds leaves s service v b us x c → AreTurns gives heeds leaves s service w a (ts ++ us) x c
  turns_on [] us w v x a b c first rest =
      subst (λ (y : N). AreTurns gives heeds leaves s service w y us x c) (sym first.1)
      (subst (λ (y : World). AreTurns gives heeds leaves s service y b us x c) (sym first.0) rest)
  turns_on (Waited given ∷ ts) us w v x a b c first rest =
      (first.0, record { next = first.1.next; gave = first.1.gave; rest = turns_on ts us w v x first.1.next b c first.1.rest rest })
  turns_on (LeftOut client server bytes ∷ ts) us w v x a b c first rest = (
    first.0,
    record {
      next = first.1.next;
      gave = first.1.gave;
      rest = record {
        next = first.1.rest.next;
        left = first.1.rest.left;
        rest = turns_on ts us w v x first.1.rest.next b c first.1.rest.rest rest;
      };
    },
  )
  turns_on (Happened e told after ∷ ts) us w v x a b c first rest = record {
    given = first.given;
    asks = first.asks;
    room = first.room;
    asked = first.asked;
    gave = first.gave;
    done = first.done;
    heard = first.heard;
    heeded = first.heeded;
    rest = turns_on ts us after v x first.heard b c first.rest rest;
  }

  -- the events of turns are carried out, and none is refused
  pub carried_of : (ts : List Turn) (w v : World) (a b : N) → AreTurns gives heeds leaves s service w a ts v b → (later : List Answer)
      → carried s (answering (shown (told_of ts) ++ later) w) (happenings ts)
      ≡ record { world = answering later v; told = told_of ts; count = length (happenings ts); fault = None }
  carried_of [] w v a b led later =
      no_event s (answering later w)
      ∙ ap (λ (x : World). let r : Run = record { world = answering later x; told = []; count = 0; fault = None } in r) led.0
  carried_of (Waited given ∷ ts) w v a b led later = carried_of ts w v led.1.next b led.1.rest later
  carried_of (LeftOut client server bytes ∷ ts) w v a b led later = carried_of ts w v led.1.rest.next b led.1.rest.rest later
  carried_of (Happened e told after ∷ ts) w v a b led later =
      let rest = shown (told_of ts) ++ later in
      let es = happenings ts in
      ap (λ (answers : List Answer). carried s (answering answers w) (e ∷ es)) (shown_parts told (told_of ts) later)
      ∙ (first_event s (answering (shown told ++ rest) w) e es
      ∙ (ap (by_outcome s (answering (shown told ++ rest) w) es) (led.done rest)
      ∙ (ap (after_event told) (carried_of ts after v led.heard b led.rest later)
      ∙ ap (λ (n : ℕ). let r : Run = record { world = answering later v; told = told ++ told_of ts; count = n; fault = None } in r)
      (add-one (length es)))))
