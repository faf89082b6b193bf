-- What the events of a round do to a world of two hosts.
use Rattle.std.proofs.Common.{◌≡◌, None, ℕ, ◌+◌, ◌<◌, ◌≤◌, ◌&&◌, ◌||◌, Bool, true, false, Some, List, [], ◌∷◌, ◌++◌, length, refl, ap, ◌∙◌, arith, cond}
use Rattle.std.specs.Prelude.{◌==◌}
use Rattle.std.proofs.lemmas.Bool.{le-ltb, ne_eqb}
use Rattle.std.specs.List.{slice_get}
use Rattle.homa_plain.specs.declared.packet.Role.{Role}
use Rattle.homa_plain.specs.declared.packet.Role.TheVariants.{Client, Server}
use Rattle.homa_plain.specs.declared.packet.Body.{Body}
use Rattle.homa_plain.specs.declared.settings.Settings.{Settings}
use Rattle.homa_plain.specs.declared.event.Event.TheVariants as event
use Rattle.homa_plain.specs.Entries.{PlainEntry, PlainDeliver, PlainClock, PlainDone}
use Rattle.homa_plain.specs.Host.{Host, packets_in, entries_from}
use Rattle.homa_plain.specs.Rules.{Answer}
use Rattle.homa_plain.specs.Work.{Work}
use Rattle.homa_plain.specs.Steps.{arrival_step, turn_step}
use Rattle.homa_plain.specs.World.{World, SentPacket, After, Done, Refused, outcome, delivered, is_late, stamped, answers_left, next_answer, last_tick}
use Rattle.homa_plain.specs.Replay.{Happening, bare, ticks, Run, carried, after_event}
use Rattle.homa_plain.specs.declared.fault.WorldFault.TheVariants.{Late, ClockEnd}
use Rattle.homa_plain.specs.declared.fault.LineFault.TheVariants.{World as ByWorld}
use Rattle.homa_plain.specs.Quiet.{has_done}
use Rattle.quiet_laws.specs.Flows.{other}
use Rattle.quiet_laws.specs.Hosts.{client_id, server_id, ours}

-- an event that is carried out
pub carried_on : (s : Settings) (w : World) (e : Happening) (es : List Happening) (after : After) → outcome s w e.event e.bytes ≡ Done after
    → carried s w (e ∷ es) ≡ after_event after.told (carried s after.world es)
unfolding carried
carried_on s w e es after h = ap (λ o. elim o as (λ _. Run) [
  | Refused fault ↦ record { world = w; told = []; count = 0; fault = Some (ByWorld fault) }
  | Done a ↦ after_event a.told (carried s a.world es)
]) h

pub done-append : (a b : List PlainEntry) → has_done (a ++ b) ≡ (has_done a || has_done b)
done-append [] b = refl
done-append (e ∷ a) b = by e (done-append a b) where
  by : (e : PlainEntry) → has_done (a ++ b) ≡ (has_done a || has_done b) → has_done (e ∷ a ++ b) ≡ (has_done (e ∷ a) || has_done b)
  by (PlainDone id bytes) r = refl
  by e r = r

and_false : (b : Bool) → (b && false) ≡ false
and_false true = refl
and_false false = refl

-- two hosts whose clocks are ahead alike
abbrev pub quiet_world : Settings → ℕ → ℕ → Host → Host → List SentPacket → List Answer → World
quiet_world s clock spares x y packets answers =
    record { clock = clock; hosts = x ∷ y ∷ []; leads = s.skew ∷ s.skew ∷ []; packets = packets; spares = spares; answers = answers }

-- the message's sender and its receiver, in the order of the hosts
abbrev pub world_by : Role → Settings → ℕ → ℕ → Host → Host → List SentPacket → List Answer → World
world_by Client s clock spares sender receiver packets answers = quiet_world s clock spares sender receiver packets answers
world_by Server s clock spares sender receiver packets answers = quiet_world s clock spares receiver sender packets answers

module _ (s : Settings) (clock spares : ℕ) (h0 h1 : Host) (packets : List SentPacket) (answers : List Answer) where
  -- two hosts whose clocks are ahead alike
  abbrev pub pair : ℕ → Host → Host → List SentPacket → List Answer → World
  pair c x y ps left = record { clock = c; hosts = x ∷ y ∷ []; leads = s.skew ∷ s.skew ∷ []; packets = ps; spares = spares; answers = left }

  abbrev pub after_step : ℕ → Host → Host → Work → World
  after_step c x y step = pair c x y (packets ++ stamped c (packets_in step.told)) (answers_left step.told answers)

  pub clock_goes : (clock < last_tick)
      → outcome s (pair clock h0 h1 packets answers) event.Clock [] ≡ Done
      (record { world = pair (clock + 1) h0 h1 packets answers; told = PlainClock (clock + 1) ∷ [] })
  unfolding outcome
  clock_goes below =
      ap (λ t. cond t (Refused ClockEnd) (Done (record { world = pair (clock + 1) h0 h1 packets answers; told = PlainClock (clock + 1) ∷ [] })))
      (ne_eqb clock last_tick (λ e. absurd (omega (arith, e, below))))

  pub client_turns : let step : Work = turn_step s h0 (clock + s.skew) in
      outcome s (pair clock h0 h1 packets answers) (event.Turn client_id) [] ≡ Done
      (record { world = after_step clock step.host h1 step; told = entries_from (length packets) step.told })
  unfolding outcome
  client_turns = refl

  pub server_turns : let step : Work = turn_step s h1 (clock + s.skew) in
      outcome s (pair clock h0 h1 packets answers) (event.Turn server_id) [] ≡ Done
      (record { world = after_step clock h0 step.host step; told = entries_from (length packets) step.told })
  unfolding outcome
  server_turns = refl

  module _ (d tick at level : ℕ) (what : Body) (payload : List ℕ) (fresh : clock ≤ tick + s.life) where
    not_late : is_late s (pair clock h0 h1 packets answers) tick ≡ false
    not_late = ap (λ t. (s.wire == 1) && t) (le-ltb (tick + s.life) clock fresh) ∙ and_false (s.wire == 1)

    pub client_gets_it : slice_get packets d ≡ Some (record { tick = tick; packet = ours Server at level what payload }) →
        let step : Work = arrival_step s h0 (clock + s.skew) (Some (ours Server at level what payload)) (next_answer answers) in
        outcome s (pair clock h0 h1 packets answers) (event.Deliver d) [] ≡ Done
        (record { world = after_step clock step.host h1 step; told = PlainDeliver d ∷ entries_from (length packets) step.told })
    unfolding outcome
    client_gets_it is =
        let step : Work = arrival_step s h0 (clock + s.skew) (Some (ours Server at level what payload)) (next_answer answers) in
        ap (λ o. delivered s (pair clock h0 h1 packets answers) d o) is
        ∙ ap (λ t. cond t (Refused (Late tick clock))
        (Done (record { world = after_step clock step.host h1 step; told = PlainDeliver d ∷ entries_from (length packets) step.told }))) not_late

    pub server_gets_it : slice_get packets d ≡ Some (record { tick = tick; packet = ours Client at level what payload }) →
        let step : Work = arrival_step s h1 (clock + s.skew) (Some (ours Client at level what payload)) (next_answer answers) in
        outcome s (pair clock h0 h1 packets answers) (event.Deliver d) [] ≡ Done
        (record { world = after_step clock h0 step.host step; told = PlainDeliver d ∷ entries_from (length packets) step.told })
    unfolding outcome
    server_gets_it is =
        let step : Work = arrival_step s h1 (clock + s.skew) (Some (ours Client at level what payload)) (next_answer answers) in
        ap (λ o. delivered s (pair clock h0 h1 packets answers) d o) is
        ∙ ap (λ t. cond t (Refused (Late tick clock))
        (Done (record { world = after_step clock h0 step.host step; told = PlainDeliver d ∷ entries_from (length packets) step.told }))) not_late

-- a tick: the clock, and then a turn of each host
module _ (s : Settings) (clock spares : ℕ) (h0 h1 : Host) (packets : List SentPacket) (answers : List Answer) where
  abbrev pub turn0 : Work
  turn0 = turn_step s h0 (clock + 1 + s.skew)

  abbrev pub turn1 : Work
  turn1 = turn_step s h1 (clock + 1 + s.skew)

  abbrev pub packets0 : List SentPacket
  packets0 = packets ++ stamped (clock + 1) (packets_in turn0.told)

  abbrev world_at : ℕ → Host → Host → List SentPacket → List Answer → World
  world_at c x y ps left = record { clock = c; hosts = x ∷ y ∷ []; leads = s.skew ∷ s.skew ∷ []; packets = ps; spares = spares; answers = left }

  abbrev pub ticked_world : World
  ticked_world = world_at (clock + 1) turn0.host turn1.host (packets0 ++ stamped (clock + 1) (packets_in turn1.told))
      (answers_left turn1.told (answers_left turn0.told answers))

  pub tick_is : clock < last_tick → carried s (world_at clock h0 h1 packets answers) (ticks 2 1)
      ≡ after_event (PlainClock (clock + 1) ∷ [])
      (after_event (entries_from (length packets) turn0.told)
      (after_event (entries_from (length packets0) turn1.told) (record { world = ticked_world; told = []; count = 0; fault = None })))
  unfolding carried
  tick_is below =
      carried_on s (world_at clock h0 h1 packets answers) (bare event.Clock) (bare (event.Turn client_id) ∷ bare (event.Turn server_id) ∷ []) _
      (clock_goes s clock spares h0 h1 packets answers below)
      ∙ ap (λ r. after_event (PlainClock (clock + 1) ∷ []) r)
      (carried_on s (world_at (clock + 1) h0 h1 packets answers) (bare (event.Turn client_id)) (bare (event.Turn server_id) ∷ []) _
      (client_turns s (clock + 1) spares h0 h1 packets answers)
      ∙ ap (λ r. after_event (entries_from (length packets) turn0.told) r)
      (carried_on s (world_at (clock + 1) turn0.host h1 packets0 (answers_left turn0.told answers)) (bare (event.Turn server_id)) [] _
      (server_turns s (clock + 1) spares turn0.host h1 packets0 (answers_left turn0.told answers))))

-- a packet that is delivered, by who of the message's two hosts gets it
module _ (s : Settings) (clock spares : ℕ) (packets : List SentPacket) (answers : List Answer) (d tick at level : ℕ) (what : Body) (payload : List ℕ)
    (fresh : clock ≤ tick + s.life) where
  pub to_sender : (role : Role) (sender receiver : Host) → slice_get packets d ≡ Some (record { tick = tick; packet = ours (other role) at level what payload })
      → let step : Work = arrival_step s sender (clock + s.skew) (Some (ours (other role) at level what payload)) (next_answer answers) in
      outcome s (world_by role s clock spares sender receiver packets answers) (event.Deliver d) []
      ≡ Done (record {
        world = world_by role s clock spares step.host receiver (packets ++ stamped clock (packets_in step.told))
            (answers_left step.told answers);
        told = PlainDeliver d ∷ entries_from (length packets) step.told;
      })
  to_sender Client sender receiver is = client_gets_it s clock spares sender receiver packets answers d tick at level what payload fresh is
  to_sender Server sender receiver is = server_gets_it s clock spares receiver sender packets answers d tick at level what payload fresh is

  pub to_receiver : (role : Role) (sender receiver : Host) → slice_get packets d ≡ Some (record { tick = tick; packet = ours role at level what payload })
      → let step : Work = arrival_step s receiver (clock + s.skew) (Some (ours role at level what payload)) (next_answer answers) in
      outcome s (world_by role s clock spares sender receiver packets answers) (event.Deliver d) []
      ≡ Done (record {
        world = world_by role s clock spares sender step.host (packets ++ stamped clock (packets_in step.told))
            (answers_left step.told answers);
        told = PlainDeliver d ∷ entries_from (length packets) step.told;
      })
  to_receiver Client sender receiver is = server_gets_it s clock spares sender receiver packets answers d tick at level what payload fresh is
  to_receiver Server sender receiver is = client_gets_it s clock spares receiver sender packets answers d tick at level what payload fresh is
