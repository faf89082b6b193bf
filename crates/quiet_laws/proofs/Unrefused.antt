-- No event of a round is refused: the packets that are delivered in it were sent in it or just before.
use Rattle.std.proofs.Common.{◌≡◌, ℕ, suc, ◌+◌, ◌-◌, ◌*◌, ◌<◌, ◌≤◌, inl, inr, Some, None, List, [], ◌∷◌, ◌++◌, length, refl, ap, subst, ◌∙◌, arith}
use Rattle.std.specs.List.{slice_get}
use Rattle.homa_plain.specs.declared.packet.Role.{Role}
use Rattle.homa_plain.specs.declared.packet.Role.TheVariants.{Client, Server}
use Rattle.homa_plain.specs.declared.settings.Settings.{Settings}
use Rattle.homa_plain.specs.declared.event.Event.TheVariants as event
use Rattle.homa_plain.specs.Packets.{Packet}
use Rattle.homa_plain.specs.Host.{Host, packets_in}
use Rattle.homa_plain.specs.Rules.{Answer}
use Rattle.homa_plain.specs.Work.{Work}
use Rattle.homa_plain.specs.Steps.{arrival_step}
use Rattle.homa_plain.specs.World.{World, SentPacket, After, Done, outcome, stamped, answers_left, next_answer}
use Rattle.homa_plain.specs.Replay.{Run, bare, carried, ticks}
use Rattle.homa_plain.specs.Quiet.{Round, deliveries, round}
use Rattle.quiet_laws.specs.Ends.{IsCalm, EndsWithin, run_after}
use Rattle.quiet_laws.specs.Hosts.{ours}
use Rattle.quiet_laws.proofs.Worlds.{quiet_world, carried_on, client_gets_it, server_gets_it, tick_is}
use Rattle.quiet_laws.proofs.Amid.{AreNew, as_ours, answers_by, Begins, Goes}
use Rattle.quiet_laws.proofs.Facts.{at_end}
use Rattle.quiet_laws.proofs.Delivered.{moved, length-snoc}
use Rattle.quiet_laws.proofs.Rounding.{so_many, round_goes}
use Rattle.quiet_laws.proofs.Goings.{Limits, limits}
use Rattle.quiet_laws.proofs.Deliveries.{calm_reply}
use Rattle.quiet_laws.proofs.FirstRound.{first_goes, first_started}
use Rattle.quiet_laws.proofs.Final.{quiet_ends}

-- two hosts, and packets that are to be delivered and aren't late
pub record Awaits (s : Settings) (clock d : ℕ) (pending : List SentPacket) (w : World) : Type 0 where
  pub spares : ℕ
  pub one : Host
  pub two : Host
  pub old : List SentPacket
  pub fresh : List SentPacket
  pub answers : List Answer
  pub is : w ≡ quiet_world s clock spares one two (old ++ (pending ++ fresh)) answers
  pub so_many : length old ≡ d
  pub new : AreNew s clock pending

-- a delivery that is carried out
record Delivers (s : Settings) (clock d : ℕ) (rest : List SentPacket) (w : World) : Type 0 where
  pub after : After
  pub is : outcome s w (event.Deliver d) [] ≡ Done after
  pub on : Awaits s clock (suc d) rest after.world

module _ (s : Settings) (clock : ℕ) (life : 1 ≤ s.life) where
  delivers : (d : ℕ) (x : SentPacket) (rest : List SentPacket) (w : World) → Awaits s clock d (x ∷ rest) w → Delivers s clock d rest w
  delivers d x rest w a = by x.packet.role refl where
    next : slice_get (a.old ++ (x ∷ (rest ++ a.fresh))) d ≡ Some x
    next = subst (λ k. slice_get (a.old ++ x ∷ (rest ++ a.fresh)) k ≡ Some x) a.so_many (at_end a.old x (rest ++ a.fresh))

    found : (r : Role) → x.packet.role ≡ r
        → slice_get (a.old ++ (x ∷ (rest ++ a.fresh))) d ≡ Some
        (record { tick = x.tick; packet = ours r x.packet.at x.packet.level x.packet.body x.packet.payload })
    found r e = next ∙ ap (λ (q : Packet). Some (record { tick = x.tick; packet = q }))
        (as_ours s (x.tick + s.skew) x.packet a.new.0.ours ∙ ap (λ i. ours i x.packet.at x.packet.level x.packet.body x.packet.payload) e)

    on : (h0 h1 : Host) (new : List Packet) (answers : List Answer)
        → Awaits s clock (suc d) rest (quiet_world s clock a.spares h0 h1 ((a.old ++ (x ∷ (rest ++ a.fresh))) ++ stamped clock new) answers)
    on h0 h1 new answers = record {
      spares = a.spares;
      one = h0;
      two = h1;
      old = a.old ++ x ∷ [];
      fresh = a.fresh ++ stamped clock new;
      answers = answers;
      is = ap (λ ps. quiet_world s clock a.spares h0 h1 ps answers) (moved a.old x rest a.fresh (stamped clock new));
      so_many = length-snoc a.old x ∙ ap suc a.so_many;
      new = a.new.1;
    }

    by : (r : Role) → x.packet.role ≡ r → Delivers s clock d rest w
    by Client e =
        let step : Work =
        arrival_step s a.two (clock + s.skew) (Some (ours Client x.packet.at x.packet.level x.packet.body x.packet.payload)) (next_answer a.answers) in
        record {
          after = _;
          is = ap (λ v. outcome s v (event.Deliver d) []) a.is
              ∙ server_gets_it s clock a.spares a.one a.two (a.old ++ (x ∷ (rest ++ a.fresh))) a.answers d x.tick x.packet.at x.packet.level
              x.packet.body x.packet.payload (omega (arith, a.new.0.young, life)) (found Client e);
          on = on a.one step.host (packets_in step.told) (answers_left step.told a.answers);
        }
    by Server e =
        let step : Work =
        arrival_step s a.one (clock + s.skew) (Some (ours Server x.packet.at x.packet.level x.packet.body x.packet.payload)) (next_answer a.answers) in
        record {
          after = _;
          is = ap (λ v. outcome s v (event.Deliver d) []) a.is
              ∙ client_gets_it s clock a.spares a.one a.two (a.old ++ (x ∷ (rest ++ a.fresh))) a.answers d x.tick x.packet.at x.packet.level
              x.packet.body x.packet.payload (omega (arith, a.new.0.young, life)) (found Server e);
          on = on step.host a.two (packets_in step.told) (answers_left step.told a.answers);
        }

  ticks_on : (d : ℕ) (w : World) → clock < 4000008 → Awaits s clock d [] w → (carried s w (ticks 2 1)).fault ≡ None
  ticks_on d w early a = ap (λ v. (carried s v (ticks 2 1)).fault) a.is
      ∙ ap (λ (r : Run). r.fault) (tick_is s clock a.spares a.one a.two (a.old ++ ([] ++ a.fresh)) a.answers (omega (arith, early)))

  round_on : (xs : List SentPacket) (d : ℕ) (w : World) → clock < 4000008 → Awaits s clock d xs w
      → (carried s w (deliveries d (length xs) ++ ticks 2 1)).fault ≡ None
  round_on [] d w early a = ticks_on d w early a
  round_on (x ∷ xs) d w early a =
      let g = delivers d x xs w a in
      ap (λ (r : Run). r.fault) (carried_on s w (bare (event.Deliver d)) (deliveries (suc d) (length xs) ++ ticks 2 1) g.after g.is)
      ∙ round_on xs (suc d) g.after.world early g.on

  pub none_refused : (role : Role) (n m x : ℕ) (r : Round) → Limits s → IsCalm s n m → clock < 4000008 → Begins role s n m clock x r
      → (run_after s r).fault ≡ None
  none_refused role n m x r l calm early b =
      ap (λ k. (carried s r.world (deliveries r.delivered (k - r.delivered) ++ ticks 2 1)).fault) (so_many s l n m clock x calm early role r b)
      ∙ ap (λ k. (carried s r.world (deliveries r.delivered k ++ ticks 2 1)).fault) {x = (r.delivered + length b.pending) - r.delivered}
      {y = length b.pending} (omega arith)
      ∙ round_on b.pending r.delivered r.world early (awaits role b) where
        awaits : (role : Role) (b : Begins role s n m clock x r) → Awaits s clock r.delivered b.pending r.world
        awaits Client b =
            record {
              spares = b.amid.spares;
              one = b.amid.sender;
              two = b.amid.receiver;
              old = b.amid.old;
              fresh = b.amid.fresh;
              answers = answers_by Client m;
              is = b.amid.is;
              so_many = b.amid.so_many;
              new = b.amid.new;
            }
        awaits Server b =
            record {
              spares = b.amid.spares;
              one = b.amid.receiver;
              two = b.amid.sender;
              old = b.amid.old;
              fresh = b.amid.fresh;
              answers = answers_by Server m;
              is = b.amid.is;
              so_many = b.amid.so_many;
              new = b.amid.new;
            }

-- the quiet call comes to its end
pub comes_to_its_end : (s : Settings) (n m : ℕ) → IsCalm s n m → EndsWithin s n m (2 * (n + m) + 8)
comes_to_its_end s n m calm = quiet_ends s n m calm (first_goes s n m calm) (first_started s n m calm) out (round_goes s n m calm) where
  out : (r x : ℕ) → r < 2 * (n + m) → Goes s n m r x → (run_after s (round s n m r)).fault ≡ None
  out r x early (inl b) =
      none_refused s r (limits s n m calm).life Client n m x (round s n m r) (limits s n m calm) calm (omega (arith, early, calm.request.1, calm.response.1)) b
  out r x early (inr b) = none_refused s r (limits s n m calm).life Server m m (x - 2 * n) (round s n m r) (limits s n m calm) (calm_reply s n m calm)
      (omega (arith, early, calm.request.1, calm.response.1)) b.1
