-- The first round, as the beginning of the next one.
use Rattle.std.proofs.Common.{◌≡◌, ℕ, zero, suc, ◌+◌, ◌<◌, ◌≤◌, inl, false, None, List, [], ◌∷◌, ◌++◌, length, refl, sym, ap, subst, ◌∙◌, arith, cond}
use Rattle.std.specs.Prelude.{map, min, drop}
use Rattle.std.proofs.lemmas.List.{append-nil}
use Rattle.homa_plain.specs.declared.packet.Role.TheVariants.{Client}
use Rattle.homa_plain.specs.declared.settings.Settings.{Settings}
use Rattle.homa_plain.specs.declared.event.Event.TheVariants as event
use Rattle.homa_plain.specs.Entries.{PlainCall}
use Rattle.homa_plain.specs.Host.{new_host, Host, Told, Says, Sends, packets_in, entries_from}
use Rattle.homa_plain.specs.Packets.{Packet}
use Rattle.homa_plain.specs.Rules.{Answer}
use Rattle.homa_plain.specs.Script.{counting}
use Rattle.homa_plain.specs.Work.{Work, begun}
use Rattle.homa_plain.specs.Steps.{call_step, starts}
use Rattle.homa_plain.specs.World.{World, new_world, outcome, started, Done, After, stamped, answers_left}
use Rattle.homa_plain.specs.Replay.{Run, carried, after_event}
use Rattle.homa_plain.specs.Quiet.{Round, round, first_round, carried_round, has_done}
use Rattle.quiet_laws.specs.Ends.{IsCalm, first_run}
use Rattle.quiet_laws.specs.Hosts.{the_call, client_id, server_id}
use Rattle.quiet_laws.specs.Flows.{flows}
use Rattle.quiet_laws.proofs.Worlds.{quiet_world, carried_on}
use Rattle.quiet_laws.proofs.Stamps.{runs-sends, packets_in-sends, sends-quiet, packets_of-stamped, stamped_new}
use Rattle.quiet_laws.proofs.Begun.{no_fault, call_goes, server_stands, times}
use Rattle.quiet_laws.proofs.Stands.{SenderEnded, SendsRequest}
use Rattle.quiet_laws.proofs.Amid.{Amid}
use Rattle.quiet_laws.proofs.Final.{FirstGoes}

pub length-counting : (i n : ℕ) → length (counting i n) ≡ n
length-counting i zero = refl
length-counting i (suc n) = ap suc (length-counting (suc i) n)

module _ (s : Settings) (n m : ℕ) (calm : IsCalm s n m) where
  abbrev request : List ℕ
  request = counting 0 n

  abbrev client : Host
  client = new_host s client_id 1 0

  abbrev server : Host
  server = new_host s server_id 1 0

  abbrev step : Work
  step = call_step s client (0 + s.skew) server_id 0 request

  calls : 1 ≤ s.calls
  calls = calm.valid.in_range.2.2.2.2.2.2.2.2.2.2.0

  seg : 1 ≤ s.seg
  seg = calm.valid.in_range.2.0

  abbrev left : List Answer
  left = record { bytes = counting 0 m; hold = 0 } ∷ []

  abbrev begins : World
  begins = new_world s (1 ∷ 1 ∷ []) 0 2 left

  abbrev went : After
  went = record {
    world = record {
      clock = 0;
      hosts = step.host ∷ server ∷ [];
      leads = s.skew ∷ s.skew ∷ [];
      packets = [] ++ stamped 0 (packets_in step.told);
      spares = 0;
      answers = answers_left step.told left;
    };
    told = [] ++ entries_from 0 step.told;
  }

  called : outcome s begins (event.Call client_id server_id 0) request ≡ Done went
  unfolding outcome new_world
  called = ap (λ o. started s begins client_id server_id 0 request client o)
      (no_fault s calm.hosts n request (length-counting 0 n) calm.request.0 calm.request.1 calls (0 + s.skew))

  ended_well : SenderEnded Client s n 0 (min n s.unsched)
      (times s calm.hosts n request (length-counting 0 n) calm.request.0 calm.request.1 calls (0 + s.skew))
      (starts s server_id 0 request (begun client (0 + s.skew))) step
  ended_well = call_goes s calm.hosts n request (length-counting 0 n) calm.request.0 calm.request.1 calls (0 + s.skew) seg

  first_is : first_round s n m ≡ carried_round 0 (after_event went.told (record { world = went.world; told = []; count = 0; fault = None }))
  unfolding first_round carried
  first_is = ap (carried_round 0) (carried_on s begins (record { event = event.Call client_id server_id 0; bytes = request }) [] went called)

  abbrev sent : List Packet
  sent = ended_well.sent

  abbrev told_of : List Packet → List Told
  told_of ps = Says (PlainCall the_call server_id 0 request) ∷ map Sends ps

  abbrev world_of : List Packet → List Answer → World
  world_of ps answers =
      record { clock = 0; hosts = step.host ∷ server ∷ []; leads = s.skew ∷ s.skew ∷ []; packets = stamped 0 ps; spares = 0; answers = answers }

  world_is : (first_round s n m).world ≡ world_of sent left
  world_is = ap (λ (r : Round). r.world) first_is
      ∙ ap (λ t. world_of (packets_in t) (answers_left t left)) {x = step.told} {y = told_of sent} ended_well.told
      ∙ ap (λ t. world_of (packets_in (map Sends sent)) (cond t (drop 1 left) left)) (runs-sends sent)
      ∙ ap (λ ps. world_of ps left) (packets_in-sends sent)

  not_done : (first_round s n m).done ≡ false
  not_done = ap (λ (r : Round). r.done) first_is
      ∙ ap (λ t. has_done (entries_from 0 t ++ [])) {x = step.told} {y = told_of sent} ended_well.told
      ∙ ap has_done (append-nil (entries_from 0 (told_of sent)))
      ∙ sends-quiet 0 sent

  stands : SendsRequest s n ended_well.end (min n s.unsched) ended_well.times step.host
  stands = ended_well.host

  fed : 1 ≤ min n s.unsched
  fed = omega (arith, calm.request.0, calm.valid.in_range.2.2.2.0)

  is_sent : 0 < ended_well.end
  is_sent = ended_well.goes refl calm.valid.rate fed

  amid_first : Amid Client s n m 0 0 ended_well.end (min n s.unsched) (stamped 0 sent) (first_round s n m).world
  amid_first = record {
    here = 0;
    top = ended_well.end;
    may = min n s.unsched;
    given = min n s.unsched;
    at_sender = ended_well.times;
    at_receiver = record { last = 0; refilled = 0; credit = s.rate; base = 0 + s.skew };
    sender = step.host;
    receiver = server;
    old = [];
    fresh = [];
    spares = 0;
    is = world_is ∙ ap (λ ps. quiet_world s 0 0 step.host server ps left) (sym (append-nil (stamped 0 sent)));
    so_many = refl;
    sends = stands;
    gets = server_stands s calm.hosts n request (length-counting 0 n) calm.request.0 calm.request.1 calls (0 + s.skew);
    new = stamped_new s 0 sent ended_well.ours;
    newer = tt;
    first = subst (λ ps. flows n Client 0 (min n s.unsched) ps ended_well.end (min n s.unsched)) (sym (packets_of-stamped 0 sent))
        (ended_well.flow (min n s.unsched));
    then_ = (refl, refl);
    sent = ended_well.within;
    granted = omega arith;
    missing = omega (arith, calm.request.0);
    ahead = λ x. absurd (omega (arith, x));
    some = fed;
    sender_ok = inl (omega (arith, ended_well.anew is_sent));
    receiver_ok = inl (omega arith);
    sender_anew = λ x. absurd (omega (arith, x));
    receiver_anew = λ x. absurd (omega (arith, x));
    sender_last = omega (arith, ended_well.refilled);
    receiver_last = omega arith;
  }

  pub first_goes : FirstGoes s n m
  unfolding round first_round amid_first
  first_goes = (
    not_done,
    inl (record {
      end = ended_well.end;
      told = min n s.unsched;
      pending = stamped 0 sent;
      amid = amid_first;
      nothing = refl;
      way = inl is_sent;
      is = omega (arith, is_sent);
    }),
  )

  pub first_started : (first_run s n m).fault ≡ None
  unfolding carried
  first_started = ap (λ (r : Run). r.fault) (carried_on s begins (record { event = event.Call client_id server_id 0; bytes = request }) [] went called)
