-- A round of the quiet call: its deliveries and its tick.
use Rattle.std.proofs.Common.{◌≡◌, ℕ, suc, ◌+◌, ◌-◌, ◌*◌, ◌<◌, ◌≤◌, ◌⊎◌, ◌||◌, inl, inr, true, false, List, [], ◌++◌, length, sym, ap, subst, ◌∙◌, arith}
use Rattle.std.specs.Prelude.{min}
use Rattle.std.proofs.lemmas.Bool.{cases_lt}
use Rattle.std.proofs.lemmas.List.{append-nil, length-append}
use Rattle.homa_plain.specs.declared.packet.Role.{Role}
use Rattle.homa_plain.specs.declared.packet.Role.TheVariants.{Client, Server}
use Rattle.homa_plain.specs.declared.settings.Settings.{Settings}
use Rattle.homa_plain.specs.World.{World}
use Rattle.homa_plain.specs.Replay.{Happening, Run, carried, ticks}
use Rattle.homa_plain.specs.Quiet.{Round, has_done, carried_round, deliveries, next_round, round}
use Rattle.quiet_laws.specs.Ends.{IsCalm}
use Rattle.quiet_laws.specs.Flows.{flows}
use Rattle.quiet_laws.proofs.Flowing.{flows_grow}
use Rattle.quiet_laws.proofs.Worlds.{world_by, done-append}
use Rattle.quiet_laws.proofs.Amid.{Amid, Begins, Goes, packets_of, answers_by}
use Rattle.quiet_laws.proofs.Bound.{Further}
use Rattle.quiet_laws.proofs.Final.{RoundGoes, begins_below}
use Rattle.quiet_laws.proofs.Goings.{Limits, limits, client_server}
use Rattle.quiet_laws.proofs.Deliveries.{Deliveries, Passed, deliveries_on, calm_reply}
use Rattle.quiet_laws.proofs.Ticking.{measure, begins_next, at_least, and_more, not_done}

-- a round that went on: it wasn't the last one, and what is in progress
pub record WentOn (role : Role) (s : Settings) (n m clock least : ℕ) (r : Round) : Type 0 where
  pub measure : ℕ
  pub more : least < measure
  pub begins : Begins role s n m (clock + 1) measure r
  pub not_done : r.done ≡ false

-- what becomes of a message of n bytes in a round, at whose beginning it measured x
abbrev pub RoundOf : Role → Settings → (n m clock x : ℕ) → Round → Type 0
RoundOf role s n m clock x r =
    (r.done ≡ true) ⊎ (WentOn role s n m clock x r ⊎ ((role ≡ Client) × ((y : ℕ) × Begins Server s m m (clock + 1) y r × (r.done ≡ false))))

module _ (s : Settings) (l : Limits s) (n m clock x : ℕ) (calm : IsCalm s n m) (early : clock < 4000008) (role : Role) (r : Round)
    (b : Begins role s n m clock x r) where
  packets_are : r.world.packets ≡ b.amid.old ++ (b.pending ++ [])
  packets_are = by role b.amid.is ∙ ap (λ ps. b.amid.old ++ (b.pending ++ ps)) b.nothing where
    by : (role : Role) → r.world ≡ world_by role s clock b.amid.spares b.amid.sender b.amid.receiver (b.amid.old ++ (b.pending ++ b.amid.fresh))
        (answers_by role m) → r.world.packets ≡ b.amid.old ++ (b.pending ++ b.amid.fresh)
    by Client e = ap (λ (w : World). w.packets) e
    by Server e = ap (λ (w : World). w.packets) e

  pub so_many : length r.world.packets ≡ r.delivered + length b.pending
  so_many = ap length packets_are ∙ length-append b.amid.old (b.pending ++ []) ∙ ap (λ k. k + length (b.pending ++ [])) b.amid.so_many
      ∙ ap (λ ps. r.delivered + length ps) (append-nil b.pending)

  abbrev tick : List Happening
  tick = ticks 2 1

  abbrev goes : Run
  goes = carried s r.world (deliveries r.delivered (length b.pending) ++ tick)

  next_is : next_round s r ≡ carried_round (r.delivered + length b.pending) goes
  next_is =
      ap (λ k. carried_round k (carried s r.world (deliveries r.delivered (k - r.delivered) ++ tick))) so_many
      ∙ ap (λ k. carried_round (r.delivered + length b.pending) (carried s r.world (deliveries r.delivered k ++ tick)))
      {x = (r.delivered + length b.pending) - r.delivered} {y = length b.pending} (omega arith)

  -- the same round, where the deliveries are past and the tick comes
  ticks_then : (P : World → Type 0) → (p : Passed s tick goes P) → next_round s r ≡ carried_round (r.delivered + length b.pending) (carried s p.world tick)
  ticks_then P p = next_is ∙ same (r.delivered + length b.pending) goes (carried s p.world tick) p.world_is
      (ap has_done p.told_is ∙ done-append p.lines (carried s p.world tick).told ∙ ap (λ t. t || has_done (carried s p.world tick).told) p.not_done) where
        same : (k : ℕ) (u v : Run) → u.world ≡ v.world → has_done u.told ≡ has_done v.told → carried_round k u ≡ carried_round k v
        same k u v e f =
            ap (λ w. record { world = w; delivered = k; done = has_done u.told }) e ∙ ap (λ d. record { world = v.world; delivered = k; done = d }) f

  sent : (b.amid.here ≤ b.end) × (b.amid.may ≤ b.told)
  sent = flows_grow n role (packets_of b.pending) b.amid.here b.amid.may b.end b.told b.amid.first

  at_top : b.end ≡ b.amid.top
  at_top = (subst (λ ps. flows n role b.end b.told (packets_of ps) b.amid.top b.amid.given) b.nothing b.amid.then_).0

  -- the message goes on: the tick begins the next round, at a greater measure
  on : (p : Passed s tick goes (Amid role s n m clock (r.delivered + length b.pending) b.end b.told [])) → WentOn role s n m clock x (next_round s r)
  on p =
      let d : ℕ = r.delivered + length b.pending in
      let a = p.holds in
      let here : a.here ≡ b.end = a.first.0 in
      let may : a.may ≡ b.told = a.first.1 in
      let y : ℕ = measure s l n m clock d b.end b.told p.world calm early role a in
      let less = at_least s l n m clock d b.end b.told p.world calm early role a in
      subst (WentOn role s n m clock x) (sym (ticks_then (Amid role s n m clock d b.end b.told []) p)) (record {
        measure = y;
        more = elim b.way [
          | inl bytes ↦ omega (arith, b.is, bytes, here, less, at_top)
          | inr grant ↦ (let more = and_more s l n m clock d b.end b.told p.world calm early role a in by_grant grant here may less more)
        ];
        begins = begins_next s l n m clock d b.end b.told p.world calm early role a;
        not_done = not_done s l n m clock d b.end b.told p.world calm early role a;
      }) where
        by_grant : {h u y : ℕ} → b.amid.may < b.told → h ≡ b.end → u ≡ b.told → 2 * h ≤ y → (h < u → 2 * h < y) → x < y
        by_grant {h} {u} {y} grant here may less more = elim (cases_lt b.amid.here b.end) [
          | inl bytes ↦ omega (arith, b.is, bytes, here, less, at_top)
          | inr none ↦ omega (arith, b.is, none, sent.0, here, at_top, more (omega (arith, here, may, grant, at_top, b.amid.sent)))
        ]

  replied : (p : Passed s tick goes (Amid Server s m m clock (r.delivered + length b.pending) 0 (min m s.unsched) []))
      → (y : ℕ) × Begins Server s m m (clock + 1) y (next_round s r) × ((next_round s r).done ≡ false)
  replied p =
      let d : ℕ = r.delivered + length b.pending in
      let c : IsCalm s m m = calm_reply s n m calm in
      let same = ticks_then (Amid Server s m m clock d 0 (min m s.unsched) []) p in (
        measure s l m m clock d 0 (min m s.unsched) p.world c early Server p.holds,
        subst (Begins Server s m m (clock + 1) (measure s l m m clock d 0 (min m s.unsched) p.world c early Server p.holds)) (sym same)
            (begins_next s l m m clock d 0 (min m s.unsched) p.world c early Server p.holds),
        ap (λ (q : Round). q.done) same ∙ not_done s l m m clock d 0 (min m s.unsched) p.world c early Server p.holds,
      )

  pub round_of : RoundOf role s n m clock x (next_round s r)
  round_of = by (deliveries_on s l tick b.pending role n m clock r.delivered b.end b.told r.world calm amid_now) where
    amid_now : Amid role s n m clock r.delivered b.end b.told b.pending r.world
    amid_now = b.amid

    by : Deliveries role s n m clock (r.delivered + length b.pending) b.end b.told tick goes → RoundOf role s n m clock x (next_round s r)
    by (inl p) = inr (inl (on p))
    by (inr (inl p)) = inr (inr (p.0, replied p.1))
    by (inr (inr e)) = inl (ap (λ (q : Round). q.done) next_is ∙ e)

-- one round, whatever is in progress
module _ (s : Settings) (n m : ℕ) (calm : IsCalm s n m) where
  later : (r : ℕ) (role : Role) (n m y : ℕ) (q : Round) → Begins role s n m (r + 1) y q → Begins role s n m (suc r) y q
  later r role n m y q b = subst (λ k. Begins role s n m k y q) {x = r + 1} {y = suc r} (omega arith) b

  pub round_goes : RoundGoes s n m
  unfolding round
  round_goes r x early (inl b) =
      by (round_of s (limits s n m calm) n m r x calm (omega (arith, early, calm.request.1, calm.response.1)) Client (round s n m r) b) where
        below : x + 1 ≤ 2 * n
        below = begins_below Client s n m r x (round s n m r) b

        by : RoundOf Client s n m r x (next_round s (round s n m r)) → ((round s n m (suc r)).done ≡ true) ⊎ Further s n m (Goes s n m) r x
        by (inl e) = inl e
        by (inr (inl w)) =
            inr (record { measure = w.measure; more = w.more; is = inl (later r Client n m w.measure (round s n m (suc r)) w.begins); not_yet = w.not_done })
        by (inr (inr w)) = inr (record {
          measure = 2 * n + w.1.0;
          more = omega (arith, below);
          is = inr (
            omega arith,
            subst (λ k. Begins Server s m m (suc r) k (round s n m (suc r))) {x = w.1.0} {y = (2 * n + w.1.0) - 2 * n} (omega arith)
                (later r Server m m w.1.0 (round s n m (suc r)) w.1.1),
          );
          not_yet = w.1.2;
        })
  round_goes r x early (inr b) =
      by (round_of s (limits s n m calm) m m r (x - 2 * n) (calm_reply s n m calm) (omega (arith, early, calm.request.1, calm.response.1)) Server
      (round s n m r) b.1) where
        by : RoundOf Server s m m r (x - 2 * n) (next_round s (round s n m r)) → ((round s n m (suc r)).done ≡ true) ⊎ Further s n m (Goes s n m) r x
        by (inl e) = inl e
        by (inr (inl w)) = inr (record {
          measure = 2 * n + w.measure;
          more = omega (arith, w.more, b.0);
          is = inr (
            omega arith,
            subst (λ k. Begins Server s m m (suc r) k (round s n m (suc r))) {x = w.measure} {y = (2 * n + w.measure) - 2 * n}
                (omega arith) (later r Server m m w.measure (round s n m (suc r)) w.begins),
          );
          not_yet = w.not_done;
        })
        by (inr (inr w)) = client_server (sym w.0)
