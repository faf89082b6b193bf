-- Events that are carried out one after the other, up to the first that the world refuses.
use Rattle.std.proofs.Common.{◌≡◌, Some, None, List, [], ◌∷◌, ◌++◌, refl, sym, ap, ◌∙◌, append_assoc}
use Rattle.homa_plain.specs.declared.settings.Settings.{Settings}
use Rattle.homa_plain.specs.declared.fault.LineFault.TheVariants.{World as ByWorld}
use Rattle.homa_plain.specs.Entries.{PlainEntry}
use Rattle.homa_plain.specs.World.{World, Outcome, Refused, Done, outcome}
use Rattle.homa_plain.specs.Replay.{Happening, Run, after_event, carried}

-- what is carried, by the outcome of the first event
abbrev pub by_outcome : Settings → World → List Happening → Outcome → Run
by_outcome s w es (Refused fault) = record { world = w; told = []; count = 0; fault = Some (ByWorld fault) }
by_outcome s w es (Done after) = after_event after.told (carried s after.world es)

pub first_event : (s : Settings) (w : World) (e : Happening) (es : List Happening) → carried s w (e ∷ es) ≡ by_outcome s w es (outcome s w e.event e.bytes)
unfolding carried
first_event s w e es = refl

pub no_event : (s : Settings) (w : World) → carried s w [] ≡ record { world = w; told = []; count = 0; fault = None }
unfolding carried
no_event s w = refl

-- what is carried in two parts, but for the number of events
pub record IsJoined (whole a b : Run) : Type 0 where
  pub first : a.fault ≡ None
  pub world : whole.world ≡ b.world
  pub told : whole.told ≡ a.told ++ b.told
  pub fault : whole.fault ≡ b.fault

-- a first part that is done
first_done : (s : Settings) (w : World) (a b : List Happening) (o : Outcome)
    → ((v : World) → (carried s v a).fault ≡ None → IsJoined (carried s v (a ++ b)) (carried s v a) (carried s (carried s v a).world b))
    → (by_outcome s w a o).fault ≡ None → IsJoined (by_outcome s w (a ++ b) o) (by_outcome s w a o) (carried s (by_outcome s w a o).world b)
first_done s w a b (Refused fault) next done = absurd (let e : Some (ByWorld fault) ≡ None = done in cc)
first_done s w a b (Done after) next done =
    let rest = next after.world done in
    record {
      first = done;
      world = rest.world;
      told = ap (λ (l : List PlainEntry). after.told ++ l) rest.told
          ∙ sym (append_assoc after.told (carried s after.world a).told (carried s (carried s after.world a).world b).told);
      fault = rest.fault;
    }

pub joined : (s : Settings) (w : World) (a b : List Happening) → (carried s w a).fault ≡ None
    → IsJoined (carried s w (a ++ b)) (carried s w a) (carried s (carried s w a).world b)
joined s w [] b done = rw (no_event s w) (record { first = refl; world = refl; told = refl; fault = refl })
joined s w (e ∷ a) b done =
    rw (first_event s w e (a ++ b), first_event s w e a)
    (first_done s w a b (outcome s w e.event e.bytes) (λ v h. joined s v a b h) (rw (sym (first_event s w e a)) done))
