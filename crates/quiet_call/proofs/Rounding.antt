-- A round, as the code carries it out: frame by frame, and then the tick.
use Rattle.std.proofs.Common.{◌≡◌, ◌≢◌, ◌<◌, ◌≤◌, ℕ, zero, suc, ◌+◌, ◌-◌, ◌*◌, ◌^◌, ◌||◌, inl, inr, Bool, false, Some, List, [], ◌∷◌, ◌++◌, length}
use Rattle.std.proofs.Common.{refl, sym, ap, subst, ◌∙◌, arith}
use Rattle.std.specs.Prelude.{map, slice_get, slice_set, IfSome}
use Rattle.std.proofs.Math.Bool.{or_assoc}
use Rattle.std.proofs.lemmas.Bool.{cases_lt}
use Rattle.std.proofs.lemmas.List.{length-map}
use Rattle.plain_sets.proofs.MapMembers.{same_some}
use Rattle.homa_plain.specs.declared.id.HostId.{HostId}
use Rattle.homa_plain.specs.declared.packet.Role.{Role}
use Rattle.homa_plain.specs.declared.packet.Role.TheVariants.{Client, Server}
use Rattle.homa_plain.specs.declared.settings.Settings.{Settings}
use Rattle.homa_plain.specs.declared.event.Event.TheVariants as event
use Rattle.homa_plain.specs.Host.{Host}
use Rattle.homa_plain.specs.Work.{Work}
use Rattle.homa_plain.specs.Steps.{arrival_step, turn_step}
use Rattle.homa_plain.specs.World.{World, SentPacket}
use Rattle.homa_plain.specs.Replay.{bare, carried, ticks}
use Rattle.homa_plain.specs.Quiet.{Round, has_done, deliveries, round}
use Rattle.host_view.specs.declared.outbox.SentFrame.{SentFrame}
use Rattle.host_view.specs.Seen.{Seen}
use Rattle.host_view.specs.Frames.{frame_of}
use Rattle.host_view.specs.Done.{arriving}
use Rattle.quiet_laws.specs.Ends.{IsCalm, run_after}
use Rattle.quiet_laws.specs.Hosts.{client_id, server_id}
use Rattle.quiet_laws.proofs.Amid.{packets_of, Begins, Goes}
use Rattle.quiet_call.specs.Stepped.{filled, AreFramesOf, packets_from, MayStep, HasStepped, HostFits, HostsFit, most_steps, StandFor, GoesOn}
use Rattle.quiet_call.proofs.Reached.{InProgress, reached}
use Rattle.quiet_call.proofs.Midway.{Midway, Delivers, frame_is, delivers}
use Rattle.quiet_call.proofs.Ticking.{Ticked, ticked}
use Rattle.quiet_call.proofs.Beginning.{Come, come_on, Started, begins}

-- ---- hosts that fit

fits_later : (s : Settings) (now now' steps steps' : ℕ) (n : ℕ) (hs : List Seen) → now ≤ now' → steps ≤ steps' → HostsFit s now steps n hs
    → HostsFit s now' steps' n hs
fits_later s now now' steps steps' n [] later more fit = tt
fits_later s now now' steps steps' n (h ∷ hs) later more fit = (
  record { settings = fit.0.settings; name = fit.0.name; last = omega (arith, fit.0.last, later); order = omega (arith, fit.0.order, more) },
  fits_later s now now' steps steps' (suc n) hs later more fit.1,
)

fits_set : (s : Settings) (now steps n i : ℕ) (hs : List Seen) (before after : Seen) → slice_get hs i ≡ Some before → after.settings ≡ before.settings
    → after.host.id ≡ before.host.id → after.host.last ≡ now → after.host.order ≤ before.host.order + 64
    → HostsFit s now steps n hs → HostsFit s now (steps + 1) n (slice_set hs i after)
fits_set s now steps n i [] before after at settings name last order fit = tt
fits_set s now steps n zero (h ∷ hs) before after at settings name last order fit =
    let is : h ≡ before = same_some h before at in (
      record {
        settings = settings ∙ ap (λ (x : Seen). x.settings) (sym is) ∙ fit.0.settings;
        name = name ∙ ap (λ (x : Seen). x.host.id) (sym is) ∙ fit.0.name;
        last = omega (arith, last);
        order = omega (arith, order, ap (λ (x : Seen). x.host.order) is, fit.0.order);
      },
      fits_later s now now steps (steps + 1) (suc n) hs (omega arith) (omega arith) fit.1,
    )
fits_set s now steps n (suc i) (h ∷ hs) before after at settings name last order fit = (
  record { settings = fit.0.settings; name = fit.0.name; last = fit.0.last; order = omega (arith, fit.0.order) },
  fits_set s now steps (suc n) i hs before after at settings name last order fit.1,
)

pub stepped_fit : (s : Settings) (now steps : ℕ) (id : HostId) (step : Seen → Work) (done : Bool) (hs hs' : List Seen) (fs fs' : List SentFrame)
    → HasStepped now id step done hs hs' fs fs' → HostsFit s now steps 0 hs → HostsFit s now (steps + 1) 0 hs'
stepped_fit s now steps id step done hs hs' fs fs' st fit =
    subst (HostsFit s now (steps + 1) 0) (sym st.hosts_are) (fits_set s now steps 0 id.0 hs st.before st.after st.at st.settings st.name st.last st.order fit)

-- so many steps are few
few_steps : (clock steps : ℕ) → clock < 4000000 → steps ≤ most_steps clock + (2 ^ 32 + 2) → 64 * steps < 2 ^ 63
few_steps clock steps early few = omega (arith, early, few)

-- ---- in the midst of a round

-- `i` of its frames are delivered, and `left` are to be; the call was done or not at those
pub record AmidRound (s : Settings) (n m clock : ℕ) (hosts : List Seen) (frames : List SentFrame) (answers : ℕ) (left : List SentFrame) (i : ℕ)
    (done : Bool) : Type 0 where
  pub calm : IsCalm s n m
  pub early : clock < 2 * (n + m)
  pub not_yet : (r : ℕ) → r ≤ clock → (round s n m r).done ≡ false
  pub a : Seen
  pub b : Seen
  pub hosts_are : hosts ≡ a ∷ b ∷ []
  pub w : World
  pub d : ℕ
  pub pending : List SentPacket
  pub midway : Midway s n m clock d pending a b left frames w
  pub come : Come s (run_after s (round s n m clock)) (deliveries d (length pending) ++ ticks 2 1) done w
  pub d_is : d + length pending ≡ length (round s n m clock).world.packets
  pub fit : HostsFit s (clock + s.skew) (most_steps clock + i) 0 hosts
  pub served : answers ≤ most_steps clock + i
  pub few : length frames ≤ 2 ^ 32
  pub within : i + length left ≤ 2 ^ 32

-- a list of two
pub record Two {A B : Type 0} (f : A → B) (xs : List A) (x y : B) : Type 0 where
  pub a : A
  pub b : A
  pub is : xs ≡ a ∷ b ∷ []
  pub first : f a ≡ x
  pub second : f b ≡ y

two_of : {A B : Type 0} (f : A → B) (xs : List A) (x y : B) → map f xs ≡ x ∷ y ∷ [] → Two f xs x y
two_of f [] x y e = cc
two_of f (a ∷ []) x y e = cc
two_of f (a ∷ (b ∷ [])) x y e = record { a = a; b = b; is = refl; first = cc; second = cc }
two_of f (a ∷ (b ∷ (c ∷ cs))) x y e = cc

-- ---- a round's beginning

by_client : (s : Settings) (n m clock x : ℕ) (r : Round) → Begins Client s n m clock x r → (y : Host) × ((z : Host) × (r.world.hosts ≡ y ∷ z ∷ []))
by_client s n m clock x r g = (g.amid.sender, (g.amid.receiver, ap (λ (w : World). w.hosts) g.amid.is))

by_server : (s : Settings) (n m clock x : ℕ) (r : Round) → Begins Server s n m clock x r → (y : Host) × ((z : Host) × (r.world.hosts ≡ y ∷ z ∷ []))
by_server s n m clock x r g = (g.amid.receiver, (g.amid.sender, ap (λ (w : World). w.hosts) g.amid.is))

goes_hosts : (s : Settings) (n m r x : ℕ) → Goes s n m r x → (y : Host) × ((z : Host) × ((round s n m r).world.hosts ≡ y ∷ z ∷ []))
goes_hosts s n m r x (inl g) = by_client s n m r x (round s n m r) g
goes_hosts s n m r x (inr g) = by_server s m m r (x - 2 * n) (round s n m r) g.1

module _ (s : Settings) (n m clock : ℕ) where
  abbrev now : ℕ
  now = clock + s.skew

  -- nothing is delivered when it begins
  pub round_starts : (hosts : List Seen) (frames : List SentFrame) (answers : ℕ) → GoesOn s n m clock hosts frames answers
      → AmidRound s n m clock hosts [] answers frames 0 false
  round_starts hosts frames answers g =
      let p : InProgress s n m clock = reached s n m g.calm clock g.not_yet in
      let h = goes_hosts s n m clock p.measure p.goes in
      let two : Two (λ (x : Seen). x.host) hosts h.0 h.1.0 = two_of (λ (x : Seen). x.host) hosts h.0 h.1.0 (sym g.stand.hosts_are ∙ h.1.1) in
      let fit : HostsFit s now (most_steps clock) 0 (two.a ∷ two.b ∷ []) = subst (HostsFit s now (most_steps clock) 0) two.is g.fit in
      let st : Started s n m clock (round s n m clock) two.a two.b frames =
      begins s n m clock p.measure two.a two.b frames p.goes g.stand.frames_are (g.stand.hosts_are ∙ ap (map (λ (x : Seen). x.host)) two.is)
      fit.0.settings fit.1.0.settings fit.0.name fit.1.0.name in
      record {
        calm = g.calm;
        early = p.early;
        not_yet = g.not_yet;
        a = two.a;
        b = two.b;
        hosts_are = two.is;
        w = (round s n m clock).world;
        d = (round s n m clock).delivered;
        pending = st.pending;
        midway = st.midway;
        come = st.come;
        d_is = st.d_is;
        fit = fits_later s now now (most_steps clock) (most_steps clock + 0) 0 hosts (omega arith) (omega arith) g.fit;
        served = omega (arith, g.served);
        few = omega arith;
        within = omega (arith, g.few);
      }

  -- ---- a frame comes

  -- what holds of a frame and of the host that it comes to
  pub record MayCome (f : SentFrame) (hosts : List Seen) : Type 0 where
    pub to : f.to.0 < length hosts
    pub may : IfSome (slice_get hosts f.to.0) (MayStep now)
    pub from : IfSome (slice_get hosts f.to.0) (λ (h : Seen). f.from.0 < h.settings.hosts)
    pub other : IfSome (slice_get hosts f.to.0) (λ (h : Seen). f.from ≢ h.host.id)

  some_of : {A : Type 0} (k : ℕ) (xs : List A) → length xs ≡ suc k → (x : A) × ((rest : List A) × (xs ≡ x ∷ rest))
  some_of k [] e = absurd (omega (arith, e))
  some_of k (x ∷ xs) e = (x, (xs, refl))

  none_of : {A : Type 0} (xs : List A) → length xs ≡ 0 → xs ≡ []
  none_of [] e = refl
  none_of (x ∷ xs) e = absurd (omega (arith, e))

  frames_long : (fs : List SentFrame) (xs : List SentPacket) → AreFramesOf s fs (packets_of xs) → length xs ≡ length fs
  frames_long fs xs a = sym (ap length a.are ∙ length-map (packets_of xs) (frame_of s) ∙ length-map xs (λ (x : SentPacket). x.packet))

  may_step : (steps i : ℕ) (id : HostId) (h : Seen) → clock < 2 * (n + m) → IsCalm s n m → steps ≤ most_steps clock + i → i ≤ 2 ^ 32
      → HostFits s now steps id h → MayStep now h
  may_step steps i id h early calm few within fit =
      record {
        last = fit.last;
        order = omega (arith, fit.order, few_steps clock steps (omega (arith, early, calm.request.1, calm.response.1)) (omega (arith, few, within)));
      }

  module _ (hosts : List Seen) (frames : List SentFrame) (answers : ℕ) (f : SentFrame) (left : List SentFrame) (i : ℕ) (done : Bool)
      (am : AmidRound s n m clock hosts frames answers (f ∷ left) i done) where
    abbrev IsNext : SentPacket → List SentPacket → Type 0
    IsNext x rest = Midway s n m clock am.d (x ∷ rest) am.a am.b (f ∷ left) frames am.w

    next : (x : SentPacket) × ((rest : List SentPacket) × (am.pending ≡ x ∷ rest))
    next = some_of (length left) am.pending (frames_long (f ∷ left) am.pending am.midway.left_are)

    abbrev x : SentPacket
    x = next.0

    abbrev rest : List SentPacket
    rest = next.1.0

    mid : IsNext x rest
    mid = subst (λ ps. Midway s n m clock am.d ps am.a am.b (f ∷ left) frames am.w) next.1.1 am.midway

    both_fit : HostsFit s now (most_steps clock + i) 0 (am.a ∷ am.b ∷ [])
    both_fit = subst (HostsFit s now (most_steps clock + i) 0) am.hosts_are am.fit

    zero_one : client_id ≢ server_id
    zero_one e = absurd (omega (arith, ap (λ (h : HostId). h.0) e))

    one_zero : server_id ≢ client_id
    one_zero e = zero_one (sym e)

    pub may_come : MayCome f hosts
    may_come = subst (MayCome f) (sym am.hosts_are) (by x.packet.role refl) where
      two : (id : HostId) (h : Seen) → HostFits s now (most_steps clock + i) id h → MayStep now h
      two id h fit = may_step (most_steps clock + i) i id h am.early am.calm (omega arith) (omega (arith, am.within)) fit

      hosts_two : (h : Seen) (id : HostId) → HostFits s now (most_steps clock + i) id h → h.settings.hosts ≡ 2
      hosts_two h id fit = ap (λ (t : Settings). t.hosts) fit.settings ∙ am.calm.hosts

      by : (r : Role) → x.packet.role ≡ r → MayCome f (am.a ∷ am.b ∷ [])
      by Client e =
          subst (λ g. MayCome g (am.a ∷ am.b ∷ [])) (sym (frame_is s n m clock am.d am.calm x rest am.a am.b f left frames am.w mid Client e)) (record {
            to = omega arith;
            may = two server_id am.b both_fit.1.0;
            from = omega (arith, hosts_two am.b server_id both_fit.1.0);
            other = λ q. zero_one (q ∙ both_fit.1.0.name);
          })
      by Server e =
          subst (λ g. MayCome g (am.a ∷ am.b ∷ [])) (sym (frame_is s n m clock am.d am.calm x rest am.a am.b f left frames am.w mid Server e)) (record {
            to = omega arith;
            may = two client_id am.a both_fit.0;
            from = omega (arith, hosts_two am.a client_id both_fit.0);
            other = λ q. one_zero (q ∙ both_fit.0.name);
          })

    -- it is delivered
    pub delivered_on : (more : Bool) (hosts' : List Seen) (frames' : List SentFrame) (answers' : ℕ)
        → HasStepped now f.to (λ (h : Seen). arrival_step h.settings h.host now (arriving h f.from f.frame) (filled m)) more hosts hosts' frames
        frames' → answers' ≤ answers + 1
        → AmidRound s n m clock hosts' frames' answers' left (i + 1) (done || more)
    delivered_on more hosts' frames' answers' st served =
        let step : Seen → Work = λ h. arrival_step h.settings h.host now (arriving h f.from f.frame) (filled m) in
        let v : Delivers s n m clock am.d rest hosts' left frames' more am.w =
        delivers s n m clock am.d am.calm x rest am.a am.b f left frames am.w mid more hosts' frames'
        (subst (λ hs. HasStepped now f.to step more hs hosts' frames frames') am.hosts_are st) in
        record {
          calm = am.calm;
          early = am.early;
          not_yet = am.not_yet;
          a = v.a;
          b = v.b;
          hosts_are = v.hosts_are;
          w = v.after.world;
          d = suc am.d;
          pending = rest;
          midway = v.midway;
          come = come_on s (run_after s (round s n m clock)) (bare (event.Deliver am.d)) (deliveries (suc am.d) (length rest) ++ ticks 2 1) done more
              am.w v.after v.is v.done_is
              (subst (λ ps. Come s (run_after s (round s n m clock)) (deliveries am.d (length ps) ++ ticks 2 1) done am.w) next.1.1 am.come);
          d_is = omega (arith, am.d_is, ap length next.1.1);
          fit = subst (λ k. HostsFit s now k 0 hosts') {x = most_steps clock + i + 1} {y = most_steps clock + (i + 1)} (omega arith)
              (stepped_fit s now (most_steps clock + i) f.to step more hosts hosts' frames frames' st am.fit);
          served = omega (arith, served, am.served);
          few = st.few;
          within = omega (arith, am.within);
        }

  -- ---- the tick

  abbrev turn : Seen → Work
  turn h = turn_step h.settings h.host (clock + 1 + s.skew)

  -- how a round ends
  pub record RoundEnds (hosts : List Seen) (frames : List SentFrame) (answers : ℕ) (done : Bool) : Type 0 where
    pub done_is : done ≡ (round s n m (clock + 1)).done
    pub goes_on : done ≡ false → GoesOn s n m (clock + 1) hosts frames answers

  module _ (hosts : List Seen) (frames : List SentFrame) (answers : ℕ) (i : ℕ) (done : Bool) (am : AmidRound s n m clock hosts frames answers [] i done) where
    -- no frame is left
    all_delivered : am.pending ≡ []
    all_delivered = none_of am.pending (frames_long [] am.pending am.midway.left_are)

    in_the_end : Midway s n m clock am.d [] am.a am.b [] frames am.w
    in_the_end = subst (λ ps. Midway s n m clock am.d ps am.a am.b [] frames am.w) all_delivered am.midway

    come : Come s (run_after s (round s n m clock)) (ticks 2 1) done am.w
    come = subst (λ ps. Come s (run_after s (round s n m clock)) (deliveries am.d (length ps) ++ ticks 2 1) done am.w) all_delivered am.come

    early : clock < 4000000
    early = omega (arith, am.early, am.calm.request.1, am.calm.response.1)

    fit_next : HostsFit s (clock + 1 + s.skew) (most_steps clock + i) 0 hosts
    fit_next = fits_later s now (clock + 1 + s.skew) (most_steps clock + i) (most_steps clock + i) 0 hosts (omega arith) (omega arith) am.fit

    abbrev MayTurn : List Seen → HostId → Type 0
    MayTurn hs id = (id.0 < length hs) × IfSome (slice_get hs id.0) (MayStep (clock + 1 + s.skew))

    may_turn : (steps : ℕ) (id : HostId) (h : Seen) → steps ≤ most_steps clock + (i + 1) → HostFits s (clock + 1 + s.skew) steps id h
        → MayStep (clock + 1 + s.skew) h
    may_turn steps id h few fit = record { last = fit.last; order = omega (arith, fit.order, few_steps clock steps early (omega (arith, few, am.within))) }

    pub client_may : MayTurn hosts client_id
    client_may = subst (λ hs. MayTurn hs client_id) (sym am.hosts_are) (
      omega arith,
      may_turn (most_steps clock + i) client_id am.a (omega arith)
          (subst (HostsFit s (clock + 1 + s.skew) (most_steps clock + i) 0) am.hosts_are fit_next).0,
    )

    module _ (d0 : Bool) (hosts0 : List Seen) (frames0 : List SentFrame)
        (p : HasStepped (clock + 1 + s.skew) client_id turn d0 hosts hosts0 frames frames0) where
      fit0 : HostsFit s (clock + 1 + s.skew) (most_steps clock + i + 1) 0 hosts0
      fit0 = stepped_fit s (clock + 1 + s.skew) (most_steps clock + i) client_id turn d0 hosts hosts0 frames frames0 p fit_next

      two0 : hosts0 ≡ p.after ∷ am.b ∷ []
      two0 = p.hosts_are ∙ ap (λ hs. slice_set hs 0 p.after) am.hosts_are

      pub server_may : MayTurn hosts0 server_id
      server_may = subst (λ hs. MayTurn hs server_id) (sym two0) (
        omega arith,
        may_turn (most_steps clock + i + 1) server_id am.b (omega arith)
            (subst (HostsFit s (clock + 1 + s.skew) (most_steps clock + i + 1) 0) two0 fit0).1.0,
      )

      module _ (d1 : Bool) (hosts1 : List Seen) (frames1 : List SentFrame)
          (q : HasStepped (clock + 1 + s.skew) server_id turn d1 hosts0 hosts1 frames0 frames1) where
        after : Ticked s clock am.d hosts1 frames1 (d0 || d1) (carried s am.w (ticks 2 1))
        after = ticked s n m clock am.d am.a am.b frames am.w in_the_end (omega (arith, early)) d0 d1 hosts0 hosts1 frames0 frames1
            (subst (λ hs. HasStepped (clock + 1 + s.skew) client_id turn d0 hs hosts0 frames frames0) am.hosts_are p) q

        abbrev r : Round
        r = round s n m clock

        abbrev done_now : Bool
        done_now = (done || d0) || d1

        run_done : has_done (run_after s r).told ≡ done_now
        run_done = come.done_is ∙ ap (λ b. done || b) after.done_is ∙ sym (or_assoc done d0 d1)

        -- the next round of the definition
        stand_next : StandFor s (suc clock) hosts1 frames1 (round s n m (suc clock))
        unfolding round
        stand_next = record {
          clock_is = ap (λ (w : World). w.clock) come.world_is ∙ after.clock_is ∙ (let e : clock + 1 ≡ suc clock = omega arith in e);
          hosts_are = ap (λ (w : World). w.hosts) come.world_is ∙ after.world_hosts ∙ sym (ap (map (λ (h : Seen). h.host)) after.hosts_are);
          frames_are = subst (λ k. AreFramesOf s frames1 (packets_from k (run_after s r).world))
              (sym (let e : length r.world.packets ≡ am.d = sym am.d_is
              ∙ (let z : am.d + length am.pending ≡ am.d = omega (arith, ap length all_delivered) in z) in e))
              (subst (λ w. AreFramesOf s frames1 (packets_from am.d w)) (sym come.world_is) after.frames_are);
        }

        done_next : done_now ≡ (round s n m (suc clock)).done
        unfolding round
        done_next = sym run_done

        to_next : (P : ℕ → Type 0) → P (suc clock) → P (clock + 1)
        to_next P = subst P {x = suc clock} {y = clock + 1} (omega arith)

        not_yet : done_now ≡ false → (k : ℕ) → k ≤ clock + 1 → (round s n m k).done ≡ false
        not_yet none k h = elim (cases_lt k (suc clock)) [
          | inl before ↦ am.not_yet k (omega (arith, before))
          | inr last ↦ subst (λ j. (round s n m j).done ≡ false) {x = suc clock} {y = k} (omega (arith, h, last)) (sym done_next ∙ none)
        ]

        pub round_ends : RoundEnds hosts1 frames1 answers done_now
        round_ends = record {
          done_is = to_next (λ k. done_now ≡ (round s n m k).done) done_next;
          goes_on = λ none. record {
            calm = am.calm;
            stand = to_next (λ k. StandFor s k hosts1 frames1 (round s n m k)) stand_next;
            not_yet = not_yet none;
            fit = fits_later s (clock + 1 + s.skew) (clock + 1 + s.skew) (most_steps clock + i + 1 + 1) (most_steps (clock + 1)) 0 hosts1
                (omega arith) (omega (arith, am.within))
                (stepped_fit s (clock + 1 + s.skew) (most_steps clock + i + 1) server_id turn d1 hosts0 hosts1 frames0 frames1 q fit0);
            served = omega (arith, am.served, am.within);
            few = q.few;
          };
        }
