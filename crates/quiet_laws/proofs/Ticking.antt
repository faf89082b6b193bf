-- The tick that ends a round, and begins the next one.
use Rattle.std.proofs.Common.{◌≡◌, ℕ, ◌+◌, ◌*◌, ◌<◌, ◌≤◌, ◌⊎◌, inl, inr, ◌||◌, false, List, [], ◌∷◌, ◌++◌, length, refl, sym, ap, subst, ◌∙◌, arith}
use Rattle.std.proofs.Common.{append_assoc}
use Rattle.std.specs.Prelude.{map, min}
use Rattle.std.proofs.lemmas.Bool.{cases_lt}
use Rattle.std.proofs.lemmas.List.{append-nil}
use Rattle.homa_plain.specs.declared.packet.Role.{Role}
use Rattle.homa_plain.specs.declared.packet.Role.TheVariants.{Client, Server}
use Rattle.homa_plain.specs.declared.settings.Settings.{Settings}
use Rattle.homa_plain.specs.Entries.{PlainEntry, PlainClock}
use Rattle.homa_plain.specs.Packets.{Packet}
use Rattle.homa_plain.specs.Host.{Host, Told, Sends, packets_in, entries_from}
use Rattle.homa_plain.specs.Rules.{Answer}
use Rattle.homa_plain.specs.Work.{Work}
use Rattle.homa_plain.specs.Steps.{turn_step}
use Rattle.homa_plain.specs.World.{World, SentPacket, stamped, answers_left}
use Rattle.homa_plain.specs.Replay.{Run, carried, ticks}
use Rattle.homa_plain.specs.Quiet.{has_done, carried_round}
use Rattle.quiet_laws.specs.Ends.{IsCalm}
use Rattle.quiet_laws.specs.Flows.{flows}
use Rattle.quiet_laws.proofs.Flowing.{flows-append, flows_grow}
use Rattle.quiet_laws.proofs.Stamps.{packets_of-stamped, packets_in-sends, sends-quiet, runs-sends, stamped_new}
use Rattle.quiet_laws.proofs.Stands.{IsSender, IsReceiver, SenderEnded, ReceiverEnded}
use Rattle.quiet_laws.proofs.Ticks.{ticked, Turned, sender_turn, receiver_turn}
use Rattle.quiet_laws.proofs.Worlds.{quiet_world, world_by, tick_is, done-append}
use Rattle.quiet_laws.proofs.Amid.{AreNew, packets_of, answers_by, Amid, Begins}
use Rattle.quiet_laws.proofs.Delivered.{new-append, packets_of-append}
use Rattle.quiet_laws.proofs.Goings.{Limits, left_as_before}

-- a tick of two hosts of which each tells of packets alone
module _ (s : Settings) (clock spares : ℕ) (h0 h1 : Host) (packets : List SentPacket) (answers : List Answer) (sent0 sent1 : List Packet)
    (told0 : (turn_step s h0 (clock + 1 + s.skew)).told ≡ map Sends sent0) (told1 : (turn_step s h1 (clock + 1 + s.skew)).told ≡ map Sends sent1)
    (below : clock < 1000000000000) where
  abbrev turned0 : Work
  turned0 = turn_step s h0 (clock + 1 + s.skew)

  abbrev turned1 : Work
  turned1 = turn_step s h1 (clock + 1 + s.skew)

  abbrev run : Run
  run = carried s (quiet_world s clock spares h0 h1 packets answers) (ticks 2 1)

  abbrev behind0 : List Told → List SentPacket
  behind0 told = packets ++ stamped (clock + 1) (packets_in told)

  abbrev lines_of : List Told → List Told → List PlainEntry
  lines_of x y = PlainClock (clock + 1) ∷ entries_from (length packets) x ++ (entries_from (length (behind0 x)) y ++ [])

  quiet_end : (k : ℕ) (ps : List Packet) → has_done (entries_from k (map Sends ps) ++ []) ≡ false
  quiet_end k ps = done-append (entries_from k (map Sends ps)) [] ∙ ap (λ b. b || false) (sends-quiet k ps)

  pub tick_quiet : has_done run.told ≡ false
  tick_quiet =
      ap (λ (r : Run). has_done r.told) (tick_is s clock spares h0 h1 packets answers below)
      ∙ ap (λ t. has_done (lines_of t turned1.told)) told0 ∙ ap (λ t. has_done (lines_of (map Sends sent0) t)) told1
      ∙ done-append (entries_from (length packets) (map Sends sent0)) (entries_from (length (behind0 (map Sends sent0))) (map Sends sent1) ++ [])
      ∙ ap (λ b. b || has_done (entries_from (length (behind0 (map Sends sent0))) (map Sends sent1) ++ [])) (sends-quiet (length packets) sent0)
      ∙ quiet_end (length (behind0 (map Sends sent0))) sent1

  pub tick_world : run.world ≡ quiet_world s (clock + 1) spares turned0.host turned1.host
      (packets ++ (stamped (clock + 1) sent0 ++ stamped (clock + 1) sent1)) answers
  tick_world =
      ap (λ (r : Run). r.world) (tick_is s clock spares h0 h1 packets answers below)
      ∙ ap (λ t. quiet_world s (clock + 1) spares turned0.host turned1.host
      ((packets ++ stamped (clock + 1) (packets_in t)) ++ stamped (clock + 1) (packets_in turned1.told))
      (answers_left turned1.told (answers_left t answers))) told0
      ∙ ap (λ t. quiet_world s (clock + 1) spares turned0.host turned1.host
      ((packets ++ stamped (clock + 1) (packets_in (map Sends sent0))) ++ stamped (clock + 1) (packets_in t))
      (answers_left t (answers_left (map Sends sent0) answers))) told1
      ∙ ap (λ ps. quiet_world s (clock + 1) spares turned0.host turned1.host
      ((packets ++ stamped (clock + 1) ps) ++ stamped (clock + 1) (packets_in (map Sends sent1)))
      (answers_left (map Sends sent1) (answers_left (map Sends sent0) answers))) (packets_in-sends sent0)
      ∙ ap (λ ps. quiet_world s (clock + 1) spares turned0.host turned1.host ((packets ++ stamped (clock + 1) sent0) ++ stamped (clock + 1) ps)
      (answers_left (map Sends sent1) (answers_left (map Sends sent0) answers))) (packets_in-sends sent1)
      ∙ ap (λ ps. quiet_world s (clock + 1) spares turned0.host turned1.host ps
      (answers_left (map Sends sent1) (answers_left (map Sends sent0) answers)))
      (append_assoc packets (stamped (clock + 1) sent0) (stamped (clock + 1) sent1))
      ∙ ap (λ left. quiet_world s (clock + 1) spares turned0.host turned1.host (packets ++ (stamped (clock + 1) sent0 ++ stamped (clock + 1) sent1))
      (answers_left (map Sends sent1) left)) (left_as_before answers (map Sends sent0) (runs-sends sent0))
      ∙ ap (λ left. quiet_world s (clock + 1) spares turned0.host turned1.host (packets ++ (stamped (clock + 1) sent0 ++ stamped (clock + 1) sent1))
      left) (left_as_before answers (map Sends sent1) (runs-sends sent1))

-- the packets of a tick, in the order of the hosts
abbrev pub in_order : Role → List Packet → List Packet → List SentPacket → ℕ → List SentPacket
in_order Client by_sender by_receiver fresh tick = fresh ++ (stamped tick by_sender ++ stamped tick by_receiver)
in_order Server by_sender by_receiver fresh tick = fresh ++ (stamped tick by_receiver ++ stamped tick by_sender)

module _ (s : Settings) (l : Limits s) (n m clock d end told : ℕ) (w : World) (calm : IsCalm s n m) (early : clock < 4000008) where
  abbrev pub now : ℕ
  now = clock + 1 + s.skew

  -- ---- the turns

  all_here : (role : Role) (a : Amid role s n m clock d end told [] w) → a.here ≡ end
  all_here role a = a.first.0

  all_may : (role : Role) (a : Amid role s n m clock d end told [] w) → a.may ≡ told
  all_may role a = a.first.1

  pub sends : (role : Role) (a : Amid role s n m clock d end told [] w) → (c : Turned (IsSender role s n a.top a.may (ticked s now a.at_sender)) s a.sender now)
      × SenderEnded role s n a.top a.may (ticked s now a.at_sender) (record { host = c.host; told = [] }) (turn_step s a.sender now)
  sends role a =
      sender_turn s n a.top a.may a.at_sender now (omega (arith, a.sender_last))
      (elim a.sender_ok [ inl o ↦ omega (arith, o, calm.resend) | inr more ↦ absurd (omega (arith, more, all_may role a)) ])
      role l.seg a.sent (omega (arith, all_may role a, (flows_grow n role (packets_of a.fresh) end told a.top a.given a.then_).1, a.granted)) a.sender a.sends

  pub grants : (role : Role) (a : Amid role s n m clock d end told [] w)
      → (c : Turned (IsReceiver role s n a.here a.given (ticked s now a.at_receiver)) s a.receiver now)
      × ReceiverEnded role s n a.here a.given (ticked s now a.at_receiver) (record { host = c.host; told = [] }) (turn_step s a.receiver now)
  grants role a =
      receiver_turn s n a.here a.given a.at_receiver now (omega (arith, a.receiver_last))
      (elim a.receiver_ok [ inl o ↦ omega (arith, o, calm.resend) | inr more ↦ absurd (omega (arith, more, all_here role a)) ])
      role l.overcommit a.missing a.granted a.receiver a.gets

  -- ---- the world after them

  tick_told : (role : Role) (a : Amid role s n m clock d end told [] w) → has_done (carried s w (ticks 2 1)).told ≡ false
  tick_told Client a =
      let e = (sends Client a).1 in
      let f = (grants Client a).1 in
      ap (λ v. has_done (carried s v (ticks 2 1)).told) a.is
      ∙ tick_quiet s clock a.spares a.sender a.receiver (a.old ++ a.fresh) (answers_by Client m) e.sent f.sent e.told f.told (omega (arith, early))
  tick_told Server a =
      let e = (sends Server a).1 in
      let f = (grants Server a).1 in
      ap (λ v. has_done (carried s v (ticks 2 1)).told) a.is
      ∙ tick_quiet s clock a.spares a.receiver a.sender (a.old ++ a.fresh) (answers_by Server m) f.sent e.sent f.told e.told (omega (arith, early))

  abbrev pub under_way : (role : Role) (a : Amid role s n m clock d end told [] w) → List SentPacket
  under_way role a = in_order role (sends role a).1.sent (grants role a).1.sent a.fresh (clock + 1)

  packets_are : (old fresh new : List SentPacket) → (old ++ fresh) ++ new ≡ old ++ ((fresh ++ new) ++ [])
  packets_are old fresh new = append_assoc old fresh new ∙ ap (λ ps. old ++ ps) (sym (append-nil (fresh ++ new)))

  world_is : (role : Role) (a : Amid role s n m clock d end told [] w)
      → (carried s w (ticks 2 1)).world ≡ world_by role s (clock + 1) a.spares (turn_step s a.sender now).host (turn_step s a.receiver now).host
      (a.old ++ (under_way role a ++ [])) (answers_by role m)
  world_is Client a =
      let e = (sends Client a).1 in
      let f = (grants Client a).1 in
      ap (λ v. (carried s v (ticks 2 1)).world) a.is
      ∙ tick_world s clock a.spares a.sender a.receiver (a.old ++ a.fresh) (answers_by Client m) e.sent f.sent e.told f.told (omega (arith, early))
      ∙ ap (λ ps. quiet_world s (clock + 1) a.spares (turn_step s a.sender now).host (turn_step s a.receiver now).host ps (answers_by Client m))
      (packets_are a.old a.fresh (stamped (clock + 1) e.sent ++ stamped (clock + 1) f.sent))
  world_is Server a =
      let e = (sends Server a).1 in
      let f = (grants Server a).1 in
      ap (λ v. (carried s v (ticks 2 1)).world) a.is
      ∙ tick_world s clock a.spares a.receiver a.sender (a.old ++ a.fresh) (answers_by Server m) f.sent e.sent f.told e.told (omega (arith, early))
      ∙ ap (λ ps. quiet_world s (clock + 1) a.spares (turn_step s a.receiver now).host (turn_step s a.sender now).host ps (answers_by Server m))
      (packets_are a.old a.fresh (stamped (clock + 1) f.sent ++ stamped (clock + 1) e.sent))

  -- ---- what is under way then

  packets_then : (fresh : List SentPacket) (ps qs : List Packet)
      → packets_of (fresh ++ (stamped (clock + 1) ps ++ stamped (clock + 1) qs)) ≡ packets_of fresh ++ (ps ++ qs)
  packets_then fresh ps qs =
      packets_of-append fresh (stamped (clock + 1) ps ++ stamped (clock + 1) qs)
      ∙ ap (λ xs. packets_of fresh ++ xs) (packets_of-append (stamped (clock + 1) ps) (stamped (clock + 1) qs))
      ∙ ap (λ xs. packets_of fresh ++ (xs ++ packets_of (stamped (clock + 1) qs))) (packets_of-stamped (clock + 1) ps)
      ∙ ap (λ xs. packets_of fresh ++ (ps ++ xs)) (packets_of-stamped (clock + 1) qs)

  flows_from_there : (role : Role) (a : Amid role s n m clock d end told [] w)
      → flows n role end told (packets_of (under_way role a)) (sends role a).1.end (grants role a).1.now_given
  flows_from_there Client a =
      let e = (sends Client a).1 in
      let f = (grants Client a).1 in
      subst (λ ps. flows n Client end told ps e.end f.now_given) (sym (packets_then a.fresh e.sent f.sent))
      (flows-append n Client (packets_of a.fresh) (e.sent ++ f.sent) end told a.top a.given e.end f.now_given a.then_
      (flows-append n Client e.sent f.sent a.top a.given e.end a.given e.end f.now_given (e.flow a.given) (f.flow e.end)))
  flows_from_there Server a =
      let e = (sends Server a).1 in
      let f = (grants Server a).1 in
      subst (λ ps. flows n Server end told ps e.end f.now_given) (sym (packets_then a.fresh f.sent e.sent))
      (flows-append n Server (packets_of a.fresh) (f.sent ++ e.sent) end told a.top a.given e.end f.now_given a.then_
      (flows-append n Server f.sent e.sent a.top a.given a.top f.now_given e.end f.now_given (f.flow a.top) (e.flow f.now_given)))

  flows_on : (role : Role) (a : Amid role s n m clock d end told [] w)
      → flows n role a.here a.may (packets_of (under_way role a)) (sends role a).1.end (grants role a).1.now_given
  flows_on role a =
      subst (λ i. flows n role i a.may (packets_of (under_way role a)) (sends role a).1.end (grants role a).1.now_given) (sym (all_here role a))
      (subst (λ i. flows n role end i (packets_of (under_way role a)) (sends role a).1.end (grants role a).1.now_given) (sym (all_may role a))
      (flows_from_there role a))

  all_new : (role : Role) (a : Amid role s n m clock d end told [] w) → AreNew s (clock + 1) (under_way role a)
  all_new Client a =
      let e = (sends Client a).1 in
      let f = (grants Client a).1 in
      new-append s (clock + 1) a.fresh (stamped (clock + 1) e.sent ++ stamped (clock + 1) f.sent) a.newer
      (new-append s (clock + 1) (stamped (clock + 1) e.sent) (stamped (clock + 1) f.sent) (stamped_new s (clock + 1) e.sent e.ours)
      (stamped_new s (clock + 1) f.sent f.ours))
  all_new Server a =
      let e = (sends Server a).1 in
      let f = (grants Server a).1 in
      new-append s (clock + 1) a.fresh (stamped (clock + 1) f.sent ++ stamped (clock + 1) e.sent) a.newer
      (new-append s (clock + 1) (stamped (clock + 1) f.sent) (stamped (clock + 1) e.sent) (stamped_new s (clock + 1) f.sent f.ours)
      (stamped_new s (clock + 1) e.sent e.ours))

  -- ---- the next round

  module _ (role : Role) (a : Amid role s n m clock d end told [] w) where
    pub e : SenderEnded role s n a.top a.may (ticked s now a.at_sender) (record { host = (sends role a).0.host; told = [] }) (turn_step s a.sender now)
    e = (sends role a).1

    pub f : ReceiverEnded role s n a.here a.given (ticked s now a.at_receiver) (record { host = (grants role a).0.host; told = [] })
        (turn_step s a.receiver now)
    f = (grants role a).1

    at_top : end ≤ a.top
    at_top = (flows_grow n role (packets_of a.fresh) end told a.top a.given a.then_).0

    -- where bytes wait, some are sent
    goes : a.top < a.may → a.top < e.end
    goes more = e.goes refl calm.valid.rate more

    -- something is under way
    way : (a.here < e.end) ⊎ (a.may < f.now_given)
    way = elim (cases_lt a.here e.end) [
      | inl sent ↦ inl sent
      | inr rests ↦ elim (cases_lt a.top a.may) [
        | inl more ↦ absurd (omega (arith, goes more, rests, all_here role a, at_top))
        | inr none ↦ elim (cases_lt 0 a.here) [
          | inl some ↦ inr (omega (arith, f.ahead some, none, e.up, rests, a.missing, calm.valid.in_range.2.2.0))
          | inr zero_here ↦ inr (omega (arith, none, e.up, rests, zero_here, a.some, f.up))
        ]
      ]
    ]

    sender_ok : (now ≤ e.times.base + 1) ⊎ (a.may < f.now_given)
    sender_ok = elim (cases_lt a.top e.end) [
      | inl up ↦ inl (omega (arith, e.anew up))
      | inr still ↦ elim (cases_lt end a.top) [
        | inl sent ↦ elim e.later [ inl same ↦ inl (omega (arith, same, a.sender_anew sent)) | inr anew ↦ inl (omega (arith, anew)) ]
        | inr none ↦ elim way [ inl more ↦ absurd (omega (arith, more, still, none, all_here role a)) | inr more ↦ inr more ]
      ]
    ]

    receiver_ok : (now ≤ f.times.base + 1) ⊎ (a.here < e.end)
    receiver_ok = elim way [
      | inl more ↦ inr more
      | inr more ↦ elim (cases_lt told a.given) [
        | inl given ↦ elim f.later [ inl same ↦ inl (omega (arith, same, a.receiver_anew given)) | inr anew ↦ inl (omega (arith, anew)) ]
        | inr none ↦ inl (omega (arith, f.anew (omega (arith, more, none, all_may role a))))
      ]
    ]

    amid_next : Amid role s n m (clock + 1) d e.end f.now_given (under_way role a) (carried s w (ticks 2 1)).world
    unfolding e sends f grants
    amid_next = record {
      here = a.here;
      top = e.end;
      may = a.may;
      given = f.now_given;
      at_sender = e.times;
      at_receiver = f.times;
      sender = (turn_step s a.sender now).host;
      receiver = (turn_step s a.receiver now).host;
      old = a.old;
      fresh = [];
      spares = a.spares;
      is = world_is role a;
      so_many = a.so_many;
      sends = e.host;
      gets = f.host;
      new = all_new role a;
      newer = tt;
      first = flows_on role a;
      then_ = (refl, refl);
      sent = e.within;
      granted = f.within;
      missing = a.missing;
      ahead = f.ahead;
      some = omega (arith, a.some, f.up);
      sender_ok = sender_ok;
      receiver_ok = receiver_ok;
      sender_anew = λ q. absurd (omega (arith, q));
      receiver_anew = λ q. absurd (omega (arith, q));
      sender_last = omega (arith, e.refilled);
      receiver_last = omega (arith, f.refilled);
    }

    abbrev pub measure : ℕ
    measure = a.here + min e.end (a.here + 1)

    -- the tick ends a round, and the next one begins
    pub begins_next : Begins role s n m (clock + 1) measure (carried_round d (carried s w (ticks 2 1)))
    unfolding amid_next
    begins_next = record { end = e.end; told = f.now_given; pending = under_way role a; amid = amid_next; nothing = refl; way = way; is = refl }

    pub at_least : 2 * a.here ≤ measure
    at_least = omega (arith, e.up, at_top, all_here role a)

    pub and_more : a.here < a.may → 2 * a.here < measure
    and_more more = elim (cases_lt a.here a.top) [
      | inl sent ↦ omega (arith, sent, e.up)
      | inr rests ↦ omega (arith, goes (omega (arith, rests, more, all_here role a, at_top)), rests, all_here role a, at_top)
    ]

    pub not_done : has_done (carried s w (ticks 2 1)).told ≡ false
    not_done = tick_told role a
