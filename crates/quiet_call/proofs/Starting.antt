-- The call is made: the definition's first round.
use Rattle.std.proofs.Common.{◌≡◌, ◌≤◌, ℕ, ◌+◌, ◌^◌, false, None, List, [], ◌∷◌, ◌++◌, length, refl, sym, ap, subst, ◌∙◌, arith}
use Rattle.homa_plain.specs.declared.settings.Settings.{Settings}
use Rattle.homa_plain.specs.declared.event.Event.TheVariants as event
use Rattle.homa_plain.specs.Host.{new_host, Host, packets_in, entries_from}
use Rattle.homa_plain.specs.Rules.{Answer}
use Rattle.homa_plain.specs.Script.{counting}
use Rattle.homa_plain.specs.Work.{Work}
use Rattle.homa_plain.specs.Steps.{call_step, start_fault}
use Rattle.homa_plain.specs.World.{World, new_world, outcome, started, Done, After, stamped, answers_left}
use Rattle.homa_plain.specs.Replay.{carried, after_event}
use Rattle.homa_plain.specs.Quiet.{round, first_round, carried_round}
use Rattle.host_view.specs.declared.outbox.SentFrame.{SentFrame}
use Rattle.host_view.specs.Seen.{Seen}
use Rattle.host_view.specs.Done.{IsDone}
use Rattle.homa_host.specs.Public.{IsSameHost}
use Rattle.quiet_laws.specs.Ends.{IsCalm}
use Rattle.quiet_laws.specs.Hosts.{client_id, server_id}
use Rattle.quiet_laws.proofs.Worlds.{carried_on}
use Rattle.quiet_laws.proofs.Begun.{no_fault}
use Rattle.quiet_laws.proofs.Stamps.{packets_of-stamped}
use Rattle.quiet_laws.proofs.FirstRound.{length-counting, first_goes}
use Rattle.quiet_call.specs.Stepped.{AreFramesOf, StandFor, GoesOn}

module _ (s : Settings) (n m : ℕ) (calm : IsCalm s n m) where
  abbrev pub request : List ℕ
  request = counting 0 n

  abbrev pub client : Host
  client = new_host s client_id 1 0

  abbrev pub server : Host
  server = new_host s server_id 1 0

  abbrev step_at : ℕ → Work
  step_at now = call_step s client now server_id 0 request

  abbrev step : Work
  step = step_at (0 + s.skew)

  abbrev left : List Answer
  left = record { bytes = counting 0 m; hold = 0 } ∷ []

  abbrev begins : World
  begins = new_world s (1 ∷ 1 ∷ []) 0 2 left

  abbrev went : After
  went = record {
    world = record {
      clock = 0;
      hosts = step.host ∷ server ∷ [];
      leads = s.skew ∷ s.skew ∷ [];
      packets = [] ++ stamped 0 (packets_in step.told);
      spares = 0;
      answers = answers_left step.told left;
    };
    told = [] ++ entries_from 0 step.told;
  }

  -- it can start
  pub can_start : start_fault s client server_id request ≡ None
  can_start = no_fault s calm.hosts n request (length-counting 0 n) calm.request.0 calm.request.1 calm.valid.in_range.2.2.2.2.2.2.2.2.2.2.0 (0 + s.skew)

  called : outcome s begins (event.Call client_id server_id 0) request ≡ Done went
  unfolding outcome new_world
  called = ap (λ o. started s begins client_id server_id 0 request client o) can_start

  first_is : first_round s n m ≡ carried_round 0 (after_event went.told (record { world = went.world; told = []; count = 0; fault = None }))
  unfolding first_round carried
  first_is = ap (carried_round 0) (carried_on s begins (record { event = event.Call client_id server_id 0; bytes = request }) [] went called)

  stands : (a b : Seen) (frames : List SentFrame) → a.host ≡ step.host → b.host ≡ server → AreFramesOf s frames (packets_in step.told)
      → StandFor s 0 (a ∷ b ∷ []) frames (round s n m 0)
  unfolding round
  stands a b frames ah bh framed = subst (StandFor s 0 (a ∷ b ∷ []) frames) (sym first_is) (record {
    clock_is = refl;
    hosts_are = ap (λ h. h ∷ server ∷ []) (sym ah) ∙ ap (λ h. a.host ∷ h ∷ []) (sym bh);
    frames_are = subst (AreFramesOf s frames) (sym (packets_of-stamped 0 (packets_in step.told))) framed;
  })

  not_done : (r : ℕ) → r ≤ 0 → (round s n m r).done ≡ false
  not_done r h = subst (λ k. (round s n m k).done ≡ false) {x = 0} (omega (arith, h)) (first_goes s n m calm).0

  -- two hosts were opened, and one has called
  pub goes_on : (opened a b : Seen) (now : ℕ) (frames out : List SentFrame) (whole : List ℕ) → opened.settings ≡ s → opened.host ≡ client
      → b.settings ≡ s → b.host ≡ server → now ≡ s.skew
      → IsDone opened (call_step opened.settings opened.host now server_id 0 request) a out whole → IsSameHost opened a → a.host.last ≡ now
      → frames ≡ out → length frames ≤ 2 ^ 32
      → GoesOn s n m 0 (a ∷ b ∷ []) frames 0
  goes_on opened a b now frames out whole os oh bs bh at d same last sent few =
      let w_is : call_step opened.settings opened.host now server_id 0 request ≡ step =
      ap (λ t. call_step t opened.host now server_id 0 request) os ∙ ap (λ h. call_step s h now server_id 0 request) oh
      ∙ ap step_at {x = now} {y = 0 + s.skew} (omega (arith, at)) in
      record {
        calm = calm;
        stand = stands a b frames (d.host ∙ ap (λ (w : Work). w.host) w_is) bh
            (subst (λ (w : Work). AreFramesOf s frames (packets_in w.told)) w_is
            (subst (λ t. AreFramesOf t frames (packets_in (call_step opened.settings opened.host now server_id 0 request).told)) os
            (record { are = sent ∙ d.posted; formed = d.formed })));
        not_yet = not_done;
        fit = (
          record {
            settings = same.settings ∙ os;
            name = same.id ∙ ap (λ (h : Host). h.id) oh;
            last = omega (arith, last, at);
            order = omega (arith, same.order, ap (λ (h : Host). h.order) oh);
          },
          (
            record {
              settings = bs;
              name = ap (λ (h : Host). h.id) bh;
              last = omega (arith, ap (λ (h : Host). h.last) bh);
              order = omega (arith, ap (λ (h : Host). h.order) bh);
            },
            tt,
          ),
        );
        served = omega arith;
        few = few;
      }
