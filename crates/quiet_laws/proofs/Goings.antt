-- What becomes of a delivery in the midst of a round, where the packet doesn't make the message whole.
use Rattle.std.proofs.Common.{◌≡◌, ℕ, suc, ◌+◌, ◌<◌, ◌≤◌, ◌⊎◌, inl, inr, true, false, Some, None, List, [], ◌∷◌, ◌++◌, length, refl, sym, ap, subst}
use Rattle.std.proofs.Common.{◌∙◌, arith, cond}
use Rattle.std.specs.Prelude.{map, min, drop}
use Rattle.std.specs.List.{slice_get}
use Rattle.std.proofs.lemmas.Bool.{cases_lt}
use Rattle.homa_plain.specs.declared.packet.Role.{Role}
use Rattle.homa_plain.specs.declared.packet.Role.TheVariants.{Client, Server}
use Rattle.homa_plain.specs.declared.packet.Body.{Body}
use Rattle.homa_plain.specs.declared.packet.Body.TheVariants as body
use Rattle.homa_plain.specs.declared.packet.Cutoffs.{Cutoffs}
use Rattle.homa_plain.specs.declared.settings.Settings.{Settings}
use Rattle.homa_plain.specs.declared.event.Event.TheVariants as event
use Rattle.homa_plain.specs.Entries.{PlainEntry, PlainDeliver}
use Rattle.homa_plain.specs.Packets.{Packet}
use Rattle.homa_plain.specs.Host.{Host, Told, Sends, packets_in, entries_from}
use Rattle.homa_plain.specs.Rules.{Answer}
use Rattle.homa_plain.specs.Work.{Work}
use Rattle.homa_plain.specs.Steps.{has_run, arrival_step}
use Rattle.homa_plain.specs.OldPackets.{is_stale}
use Rattle.homa_plain.specs.World.{World, SentPacket, Outcome, Done, Refused, outcome, stamped, answers_left, next_answer}
use Rattle.homa_plain.specs.Quiet.{has_done}
use Rattle.quiet_laws.specs.Ends.{IsCalm}
use Rattle.quiet_laws.specs.Flows.{other, flows}
use Rattle.quiet_laws.specs.Hosts.{ours, AreAside}
use Rattle.quiet_laws.proofs.Flowing.{flows_grow}
use Rattle.quiet_laws.proofs.Stands.{Times, SenderEnded, ReceiverEnded}
use Rattle.quiet_laws.proofs.Arrivals.{touched, grant_step, data_step, cutoffs_to_asker, cutoffs_to_getter, cutoffs_to_replier}
use Rattle.quiet_laws.proofs.Worlds.{world_by, to_sender, to_receiver}
use Rattle.quiet_laws.proofs.Amid.{packets_of, answers_by, as_ours, not_stale, Amid}
use Rattle.quiet_laws.proofs.Facts.{at_end, aside_quiet, aside_no_run}
use Rattle.quiet_laws.proofs.Delivered.{all_packets, sender_steps, receiver_steps, sender_on, receiver_on}

-- the message in progress goes on; or the request is whole, and the response is in progress; or the call is done
abbrev pub GoesOn : Role → Settings → (n m clock delivered end told : ℕ) → List SentPacket → List PlainEntry → World → Type 0
GoesOn role s n m clock delivered end told rest lines w =
    ((has_done lines ≡ false) × Amid role s n m clock delivered end told rest w)
    ⊎ (((role ≡ Client) × (has_done lines ≡ false) × Amid Server s m m clock delivered 0 (min m s.unsched) rest w)
    ⊎ ((role ≡ Server) × (has_done lines ≡ true)))

abbrev pub IsDelivered : Role → Settings → (n m clock delivered end told : ℕ) → List SentPacket → Outcome → Type 0
IsDelivered role s n m clock delivered end told rest (Refused fault) = ⊥
IsDelivered role s n m clock delivered end told rest (Done after) = GoesOn role s n m clock delivered end told rest after.told after.world

pub client_server : {A : Type 0} → Client ≡ Server → A
client_server e = cc

-- the settings' limits that the steps need
pub record Limits (s : Settings) : Type 0 where
  pub seg : 1 ≤ s.seg
  pub overcommit : 1 ≤ s.overcommit
  pub life : 1 ≤ s.life
  pub served : 1 ≤ s.served
  pub wire : (s.wire ≡ 1) ⊎ (s.wire ≡ 2)

pub limits : (s : Settings) (n m : ℕ) → IsCalm s n m → Limits s
limits s n m calm = record {
  seg = calm.valid.in_range.2.0;
  overcommit = calm.valid.in_range.2.2.2.2.0;
  life = calm.valid.in_range.2.2.2.2.2.2.2.2.0;
  served = calm.valid.in_range.2.2.2.2.2.2.2.2.2.2.2.0;
  wire = elim (cases_lt 1 s.wire) [
    | inl two ↦ inr (omega (arith, two, calm.valid.in_range.2.2.2.2.2.2.2.2.2.2.2.2.2.2.1))
    | inr one ↦ inl (omega (arith, one, calm.valid.in_range.2.2.2.2.2.2.2.2.2.2.2.2.2.2.0))
  ];
}

-- the answers are left where no service was asked
pub left_as_before : (answers : List Answer) (told : List Told) → has_run told ≡ false → answers_left told answers ≡ answers
left_as_before answers told e = ap (λ b. cond b (drop 1 answers) answers) e

module _ (role : Role) (s : Settings) (n m clock d end told : ℕ) (x : SentPacket) (rest : List SentPacket) (w : World)
    (a : Amid role s n m clock d end told (x ∷ rest) w) (l : Limits s) where
  abbrev now : ℕ
  now = clock + s.skew

  abbrev p : Packet
  p = x.packet

  -- the packet that is delivered
  pub is_next : slice_get (all_packets role s n m clock d end told x rest w a) d ≡ Some x
  is_next = subst (λ k. slice_get (a.old ++ x ∷ (rest ++ a.fresh)) k ≡ Some x) a.so_many (at_end a.old x (rest ++ a.fresh))

  pub is_fresh : clock ≤ x.tick + s.life
  is_fresh = omega (arith, a.new.0.young, l.life)

  -- it is this packet of the quiet call
  pub packet_is : (side : Role) (b : Body) → p.role ≡ side → p.body ≡ b → p ≡ ours side p.at p.level b p.payload
  packet_is side b r e =
      as_ours s (x.tick + s.skew) p a.new.0.ours ∙ ap (λ i. ours i p.at p.level p.body p.payload) r ∙ ap (λ i. ours side p.at p.level i p.payload) e

  pub found : (side : Role) (b : Body) → p.role ≡ side → p.body ≡ b
      → slice_get (all_packets role s n m clock d end told x rest w a) d ≡ Some (record { tick = x.tick; packet = ours side p.at p.level b p.payload })
  found side b r e = is_next ∙ ap (λ (q : Packet). Some (record { tick = x.tick; packet = q })) (packet_is side b r e)

  pub taken : (side : Role) (b : Body) → p.role ≡ side → p.body ≡ b → is_stale s now (ours side p.at p.level b p.payload) ≡ false
  taken side b r e = ap (λ q. is_stale s now q) (sym (packet_is side b r e)) ∙ not_stale s clock x l.life l.wire a.new.0

  -- a step that told something aside and then sent
  lines_quiet : (aside : List Told) (sent : List Packet) (v : Work) → v.told ≡ aside ++ map Sends sent → AreAside (other role) s now aside → (k : ℕ)
      → has_done (PlainDeliver d ∷ entries_from k v.told) ≡ false
  lines_quiet aside sent v e few k = ap (λ t. has_done (entries_from k t)) e ∙ aside_quiet (other role) s now k aside sent few

  no_answer : (aside : List Told) (sent : List Packet) (v : Work) → v.told ≡ aside ++ map Sends sent → AreAside (other role) s now aside
      → answers_left v.told (answers_by role m) ≡ answers_by role m
  no_answer aside sent v e few = left_as_before (answers_by role m) v.told (ap has_run e ∙ aside_no_run (other role) s now aside sent few)

  -- the delivery, where the message's sender gets the packet, and where its receiver does
  sender_got : (b : Body) → p.role ≡ other role → p.body ≡ b → (may : ℕ) (t : Times) (aside : List Told) (h : Host) → AreAside (other role) s now aside
      → (e : SenderEnded role s n a.top may t (record { host = h; told = aside })
      (arrival_step s a.sender now (Some (ours (other role) p.at p.level b p.payload)) (next_answer (answers_by role m))))
      → t.last ≡ now → t.refilled ≡ a.at_sender.refilled → flows n role a.here may (packets_of rest) end told → (now ≤ t.base + 1) ⊎ (may < told)
      → (end < a.top → now ≤ t.base)
      → IsDelivered role s n m clock (suc d) end told rest (outcome s w (event.Deliver d) [])
  sender_got b r same may t aside h few e last refilled goes_on ok anew =
      let v : Work = arrival_step s a.sender now (Some (ours (other role) p.at p.level b p.payload)) (next_answer (answers_by role m)) in
      let packets : List SentPacket = all_packets role s n m clock d end told x rest w a in
      subst (IsDelivered role s n m clock (suc d) end told rest)
      (sym (ap (λ v. outcome s v (event.Deliver d) []) a.is
      ∙ to_sender s clock a.spares packets (answers_by role m) d x.tick p.at p.level b p.payload is_fresh role a.sender a.receiver
      (found (other role) b r same)))
      (inl (
        lines_quiet aside e.sent v e.told few (length packets),
        subst (λ left. Amid role s n m clock (suc d) end told rest
            (world_by role s clock a.spares v.host a.receiver (packets ++ stamped clock (packets_in v.told)) left))
            (sym (no_answer aside e.sent v e.told few))
            (sender_on role s n m clock d end told x rest w a may t aside h v few e last refilled goes_on ok anew),
      ))

  receiver_got : (b : Body) → p.role ≡ role → p.body ≡ b → (here : ℕ) (t : Times) (aside : List Told) (h : Host) → AreAside (other role) s now aside
      → (e : ReceiverEnded role s n here a.given t (record { host = h; told = aside })
      (arrival_step s a.receiver now (Some (ours role p.at p.level b p.payload)) (next_answer (answers_by role m))))
      → t.last ≡ now → t.refilled ≡ a.at_receiver.refilled → flows n role here a.may (packets_of rest) end told → here < n
      → (now ≤ t.base + 1) ⊎ (here < end) → (told < a.given → now ≤ t.base)
      → IsDelivered role s n m clock (suc d) end told rest (outcome s w (event.Deliver d) [])
  receiver_got b r same here t aside h few e last refilled goes_on short ok anew =
      let v : Work = arrival_step s a.receiver now (Some (ours role p.at p.level b p.payload)) (next_answer (answers_by role m)) in
      let packets : List SentPacket = all_packets role s n m clock d end told x rest w a in
      subst (IsDelivered role s n m clock (suc d) end told rest)
      (sym (ap (λ v. outcome s v (event.Deliver d) []) a.is
      ∙ to_receiver s clock a.spares packets (answers_by role m) d x.tick p.at p.level b p.payload is_fresh role a.sender a.receiver (found role b r same)))
      (inl (
        lines_quiet aside e.sent v e.told few (length packets),
        subst (λ left. Amid role s n m clock (suc d) end told rest
            (world_by role s clock a.spares a.sender v.host (packets ++ stamped clock (packets_in v.told)) left))
            (sym (no_answer aside e.sent v e.told few))
            (receiver_on role s n m clock d end told x rest w a here t aside h v few e last refilled goes_on short ok anew),
      ))

  -- how far the message can be
  pub up_to : (here : ℕ) → flows n role here a.may (packets_of rest) end told → (here ≤ end) × (end ≤ a.top) × (a.top ≤ n) × (told ≤ n) × (a.may ≤ told)
  up_to here f =
      let g = flows_grow n role (packets_of rest) here a.may end told f in
      let h = flows_grow n role (packets_of a.fresh) end told a.top a.given a.then_ in
      (g.0, h.0, omega (arith, g.1, h.1, a.sent, a.granted), omega (arith, h.1, a.granted), g.1)

  -- ---- the kinds of packets

  pub grant_on : (offset prio : ℕ) → p.body ≡ body.Grant offset prio → p.role ≡ other role → a.may < offset → offset ≤ n
      → flows n role a.here offset (packets_of rest) end told
      → IsDelivered role s n m clock (suc d) end told rest (outcome s w (event.Deliver d) [])
  grant_on offset prio e r more within goes_on =
      let g = grant_step s n a.top a.may a.at_sender now (next_answer (answers_by role m)) p.at p.level p.payload offset prio a.sent more within role l.seg
      (taken (other role) (body.Grant offset prio) r e) a.sender a.sends in
      sender_got (body.Grant offset prio) r e offset (touched now a.at_sender) g.0.told g.0.host g.0.few g.1 refl refl goes_on (inl (omega arith))
      (λ q. omega arith)

  pub data_on : (version : ℕ) → p.body ≡ body.Data n a.here version 0 None → p.role ≡ role → a.here + length p.payload < n
      → flows n role (a.here + length p.payload) a.may (packets_of rest) end told
      → IsCalm s n m → IsDelivered role s n m clock (suc d) end told rest (outcome s w (event.Deliver d) [])
  data_on version e r more goes_on calm =
      let g = data_step s n a.here a.given a.at_receiver now (next_answer (answers_by role m)) p.at p.level version p.payload more calm.request.2
      l.served role l.overcommit a.granted
      (taken role (body.Data n a.here version 0 None) r e) a.receiver a.gets in
      receiver_got (body.Data n a.here version 0 None) r e (a.here + length p.payload) (touched now a.at_receiver) g.0.told g.0.host g.0.few g.1 refl
      refl goes_on more (inl (omega arith)) (λ q. omega arith)

module _ (s : Settings) (n m clock d end told : ℕ) (x : SentPacket) (rest : List SentPacket) (w : World) (l : Limits s) (cutoffs : Cutoffs)
    (e : x.packet.body ≡ body.Cutoffs cutoffs) where
  abbrev at_now : Times → Times
  at_now t = record t { last = clock + s.skew }

  cutoffs_ask : (a : Amid Client s n m clock d end told (x ∷ rest) w) → (x.packet.role ≡ Server) ⊎ (Client ≡ Server)
      → flows n Client a.here a.may (packets_of rest) end told
      → IsDelivered Client s n m clock (suc d) end told rest (outcome s w (event.Deliver d) [])
  cutoffs_ask a (inr never) goes_on = client_server never
  cutoffs_ask a (inl r) goes_on =
      let c =
      cutoffs_to_asker s a.at_sender (clock + s.skew) (next_answer (answers_by Client m)) x.packet.at x.packet.level x.packet.payload cutoffs n a.top a.may
      (taken Client s n m clock d end told x rest w a l Server (body.Cutoffs cutoffs) r e) a.sender a.sends in
      let within : a.may ≤ n =
      omega (
        arith,
        (up_to Client s n m clock d end told x rest w a l a.here goes_on).4,
        (up_to Client s n m clock d end told x rest w a l a.here goes_on).3,
      ) in
      sender_got Client s n m clock d end told x rest w a l (body.Cutoffs cutoffs) r e a.may (at_now a.at_sender) c.told c.host c.few
      (sender_steps s n (at_now a.at_sender) (clock + s.skew) _ _ a.sender a.top a.may l.seg a.sent within Server Client c) refl refl goes_on
      a.sender_ok a.sender_anew

  cutoffs_reply : (a : Amid Server s n m clock d end told (x ∷ rest) w) (r : Role) → x.packet.role ≡ r → flows n Server a.here a.may (packets_of rest) end told
      → IsDelivered Server s n m clock (suc d) end told rest (outcome s w (event.Deliver d) [])
  cutoffs_reply a Client r goes_on =
      let c =
      cutoffs_to_replier s a.at_sender (clock + s.skew) (next_answer (answers_by Server m)) x.packet.at x.packet.level x.packet.payload cutoffs n a.top a.may
      (taken Server s n m clock d end told x rest w a l Client (body.Cutoffs cutoffs) r e) a.sender a.sends in
      let within : a.may ≤ n =
      omega (
        arith,
        (up_to Server s n m clock d end told x rest w a l a.here goes_on).4,
        (up_to Server s n m clock d end told x rest w a l a.here goes_on).3,
      ) in
      sender_got Server s n m clock d end told x rest w a l (body.Cutoffs cutoffs) r e a.may (touched (clock + s.skew) a.at_sender) c.told c.host c.few
      (sender_steps s n (touched (clock + s.skew) a.at_sender) (clock + s.skew) _ _ a.sender a.top a.may l.seg a.sent within Client Server c) refl
      refl goes_on (inl (omega arith)) (λ q. omega arith)
  cutoffs_reply a Server r goes_on =
      let c = cutoffs_to_getter s a.at_receiver (clock + s.skew) (next_answer (answers_by Server m)) x.packet.at x.packet.level x.packet.payload
      cutoffs n a.here a.given
      (taken Server s n m clock d end told x rest w a l Server (body.Cutoffs cutoffs) r e) a.receiver a.gets in
      receiver_got Server s n m clock d end told x rest w a l (body.Cutoffs cutoffs) r e a.here (at_now a.at_receiver) c.told c.host c.few
      (receiver_steps s n (at_now a.at_receiver) (clock + s.skew) _ _ a.receiver a.here a.given l.overcommit a.missing a.granted Client Server c) refl
      refl goes_on a.missing a.receiver_ok a.receiver_anew

  pub cutoffs_on : (role : Role) (a : Amid role s n m clock d end told (x ∷ rest) w) → (x.packet.role ≡ other role) ⊎ (role ≡ Server)
      → flows n role a.here a.may (packets_of rest) end told
      → IsDelivered role s n m clock (suc d) end told rest (outcome s w (event.Deliver d) [])
  cutoffs_on Client a r goes_on = cutoffs_ask a r goes_on
  cutoffs_on Server a r goes_on = cutoffs_reply a x.packet.role refl goes_on
