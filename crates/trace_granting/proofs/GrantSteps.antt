-- The law at each step of a host, and at each other event.
use Rattle.std.proofs.Common.{◌≡◌, ℕ, cond, ◌<◌, Bool, true, false, Option, Some, None, List, [], ◌∷◌, length, inl, refl, sym, ap, subst, ◌∙◌, arith}
use Rattle.std.specs.Prelude.{nat_lt, slice_get}
use Rattle.std.specs.Option.{option_map}
use Rattle.std.proofs.lemmas.Option.{slice_get-map}
use Rattle.std.specs.List.{AllByRecursion}
use Rattle.std.proofs.lemmas.Bool.{cond_both}
use Rattle.std.proofs.lemmas.List.{append-nil}
use Rattle.plain_sets.specs.Maps.{get}
use Rattle.homa_plain.specs.declared.id.HostId.{HostId}
use Rattle.homa_plain.specs.declared.packet.Role.{Role}
use Rattle.homa_plain.specs.declared.packet.Role.TheVariants.{Client, Server}
use Rattle.homa_plain.specs.declared.settings.Settings.{Settings}
use Rattle.homa_plain.specs.Entries.{PlainCall, PlainDeliver, PlainJunk, PlainStale}
use Rattle.homa_plain.specs.Packets.{Packet, sender, receiver, receiver_of, acks}
use Rattle.trace_rules.specs.Parts.{Part}
use Rattle.homa_plain.specs.Host.{Host, Says}
use Rattle.homa_plain.specs.Rules.{Answer}
use Rattle.homa_plain.specs.Timers.{Place, OfClient, OfServer}
use Rattle.homa_plain.specs.Work.{Work, begun, now_of, tells}
use Rattle.homa_plain.specs.Steps.{starts, next_id, new_call, comes, takes, comes_to_row, acts}
use Rattle.homa_plain.specs.OldPackets.{is_stale}
use Rattle.homa_plain.specs.CutoffsPackets.{hears_cutoffs}
use Rattle.homa_plain.specs.Credit.{refilled}
use Rattle.homa_plain.specs.Steps.{ended, call_step, arrival_step, turn_step}
use Rattle.trace_rules.specs.View.{View, Sent, Progress}
use Rattle.trace_rules.specs.Seen.{seen}
use Rattle.homa_plain.specs.World.{World, SentPacket, host_at, own_clock, is_late}
use Rattle.trace_steps.specs.Told.{IsTold, sent_of}
use Rattle.step_moves.specs.Worlds.{IsDated}
use Rattle.trace_steps.proofs.Deliveries.{stale_now}
use Rattle.step_moves.proofs.SendMoves.{says-move}
use Rattle.step_laws.specs.StepLaws.{HasOwnOrders}
use Rattle.step_laws.proofs.ToldBy.{hears_cutoffs-calm, hears_cutoffs-rows}
use Rattle.step_laws.proofs.OwnOrders.{Own, own-beside, row-own, acked-own, acts_at-own, starts-own, begun-own, refilled-own, call-own, arrival-own, turn-own}
use Rattle.trace_steps.specs.Stands.{stand, put, said_so_far, amid}
use Rattle.step_moves.proofs.Hosts.{some_is, none_some, within}
use Rattle.step_moves.proofs.Timed.{resend_of, timed, fresh}
use Rattle.step_moves.proofs.Folds.{turn_kept}
use Rattle.step_moves.proofs.Names.{own_set}
use Rattle.trace_once.specs.Lifetime.{IsMadeTo}
use Rattle.trace_once.specs.Kept.{PacketFits, IsKept}
use Rattle.trace_once.proofs.Begun.{Begins}
use Rattle.trace_once.proofs.Kept.{all_get}
use Rattle.trace_returned.specs.Tales.{IsTruthful, IsTrue}
use Rattle.trace_returned.proofs.Saying.{IsSaying}
use Rattle.trace_returned.proofs.Stepping.{junk_saying, turn_saying, packet_saying}
use Rattle.trace_returned.proofs.Beginning.{AreServed, begun_saying, begun_before, started_saying}
use Rattle.trace_granting.proofs.Messages.{part_in}
use Rattle.trace_granting.proofs.Window.{PartsWithin, AllWithin, NowWithin, deliver_within}
use Rattle.trace_granting.proofs.StepLines.{early_lawful, early_comes, early_begun, early_started, late_begun, late_acts}
use Rattle.trace_granting.proofs.GrantFold.{IsLawful}
use Rattle.trace_granting.proofs.Each.{numbers_same, set_client, call_each, place_grows, now_beside, now_acts}
use Rattle.trace_granting.proofs.Ages.{IsInOrder, number_none, part_none, part_raises}
use Rattle.trace_granting.proofs.Aged.{IsAged, IsSet, OldNumber, OldPart, IsOld, old_number, old_part, old_aged, Ends, step_ends}
use Rattle.trace_granting.proofs.Taken.{server_aged, client_aged}

-- what is so between two events: windows, and one order of the messages
pub record HasGrants (s : Settings) (w : World) (v : View) : Type 0 where
  pub within_all : PartsWithin s.window v.now
  pub own : (n : HostId) (h : Host) → host_at w n ≡ Some h → HasOwnOrders h
  pub orders : (n : HostId) (h : Host) → host_at w n ≡ Some h → IsInOrder n h v.now
  pub placed : (q : Place) (y : Part) → part_in v.now q ≡ Some y → y.order < v.place

-- a step's end
pub record StepGrants (s : Settings) (w : World) (v : View) (host : HostId) (before : View) (work : Work) : Type 0 where
  pub ends : Ends s w v host before work
  pub own : HasOwnOrders work.host

-- packets that are taken leave the orders a host's own
own_comes : (s : Settings) (o : Option Packet) (answer : Answer) (work : Work) → Own work → Own (comes s o answer work)
unfolding takes
own_comes s None answer work own = record { rows = own.rows; arriving = own.arriving; leaving = own.leaving }
own_comes s (Some p) answer work own =
    cond_both (is_stale s (now_of work) p) (tells (Says (PlainStale work.host.id p.at (now_of work)) ∷ []) work) (takes s p answer work) Own
    (λ _. record { rows = own.rows; arriving = own.arriving; leaving = own.leaving })
    (λ _. let heard : Work = hears_cutoffs s (sender p) p.inc p.body work in
    acked-own s (acks p) (comes_to_row s p answer p.role heard)
    (row-own s p answer p.role heard
    (own-beside work heard (hears_cutoffs-rows s (sender p) p.inc p.body work) (hears_cutoffs-calm s (sender p) p.inc p.body work).order own)))

module _ (s : Settings) (w : World) (v : View) (host : HostId) (h : Host) (stands : host_at w host ≡ Some h) (told : IsTold s w v) (k : IsKept s w v)
    (t : IsTrue s w v) (served : AreServed w v) (g : HasGrants s w v) where
  abbrev room : host.0 < length w.hosts
  room = within w.hosts host.0 h stands

  set : IsSet v host h
  set = record { order = g.orders host h stands; below = λ q a e. (g.own host h stands).arriving.below q a e; placed = g.placed }

  near : NowWithin s v
  near = record { settings = told.settings; now = g.within_all }

  same_begins : Begins h (record h { last = own_clock w host }) (own_clock w host)
  same_begins = record { id = refl; inc = refl; seq = refl; clients = refl; servers = refl; finished = refl; last = refl }

  begun_now : IsSaying s w v host (own_clock w host) (within w.hosts host.0 h stands) (begun h (own_clock w host))
  begun_now = begun_saying s w v host h (record h { last = own_clock w host }) stands told same_begins (timed s w host h told.clocks stands).last
      (timed s w host h told.clocks stands).within k t served

  -- it ends
  ends : (work : Work) → HasOwnOrders work.host → HasOwnOrders (ended s work).host
      → IsSaying s w v host (own_clock w host) (within w.hosts host.0 h stands) work → IsLawful s w v host work → IsAged w v host v work
      → StepGrants s w v host v (ended s work)
  ends work own after saying lawful aged =
      record { ends = step_ends s w v host (within w.hosts host.0 h stands) v work own saying.amid.kept saying.same lawful aged; own = after }

  own_now : HasOwnOrders h
  own_now = g.own host h stands

  pub call_grants : (server : HostId) (service : ℕ) (request : List ℕ) → server.0 < length w.hosts
      → StepGrants s w v host v (call_step s h (own_clock w host) server service request)
  unfolding call_step
  call_grants server service request there =
      ends work (starts-own s server service request (begun h now) (begun-own s h now own_now)) (call-own s h now server service request own_now)
      (started_saying s w v host h stands told (timed s w host h told.clocks stands).within server service request begun_now there)
      (early_lawful s w v host work (early_started s w v host h now server service request (told.names host h stands).name (told.names host h stands).own near))
      (old_aged s w v host h v work set (record {
        numbers = set_client (OldNumber h v host) (number_none h v host (OfClient (next_id h)) (Unit {0}) ⊥ (Unit {0}) ⊥) h work.host (next_id h)
            (Some (new_call s now h.order server service request)) refl refl (inl refl) (old_number h v host);
        parts = (call_each (OldPart h v host) (part_none h v host (OfClient (next_id h)) (Unit {0}) ⊥ (Unit {0}) ⊥)
            (part_raises h v host (OfClient (next_id h)) (Unit {0}) ⊥ (Unit {0}) ⊥) v (next_id h) server service request (old_part h v host)).now;
        name = (told.names host h stands).name;
        own = own_set host h.clients (next_id h) (Some (new_call s now h.order server service request)) (told.names host h stands).name
            (told.names host h stands).own;
        late = place_grows v (PlainCall (next_id h) server service request ∷ []);
      })) where
        now : ℕ
        now = own_clock w host

        work : Work
        work = starts s server service request (begun h (own_clock w host))

  -- a host whose rows are these, before it does a thing
  first_old : (x : Host) → x.id ≡ host → x.clients ≡ h.clients → x.servers ≡ h.servers → IsOld s w v host h v (record { host = x; told = [] })
  first_old x name clients servers = record {
    numbers =
        numbers_same (OldNumber h v host) (number_none h v host (OfClient (next_id h)) (Unit {0}) ⊥ (Unit {0}) ⊥) h x clients servers (old_number h v host);
    parts = old_part h v host;
    name = name;
    own = λ q r is. (told.names host h stands).own q r (ap (λ rows. get rows q) (sym clients) ∙ is);
    late = omega arith;
  }

  pub turn_grants : StepGrants s w v host v (turn_step s h (own_clock w host))
  unfolding turn_step
  turn_grants =
      ends (acts s first)
      (turn_kept s Own (λ now' place at own timer past. acts_at-own s place now' own) (resend_of s told.valid) first
      (begun-own s filled now
      (refilled-own s (record h { last = now }) (record { rows = own_now.rows; arriving = own_now.arriving; leaving = own_now.leaving }))))
      (turn-own s h now own_now)
      (turn_saying s w v host now (within w.hosts host.0 h stands) (timed s w host h told.clocks stands).from
      (timed s w host h told.clocks stands).within (resend_of s told.valid) first
      (begun_saying s w v host h (record filled { last = now }) stands told begins (timed s w host h told.clocks stands).last
      (timed s w host h told.clocks stands).within k t served))
      (late_acts s w v host (resend_of s told.valid) first
      (late_begun s w v host (record filled { last = now }) (begins.id ∙ (told.names host h stands).name)
      (λ q r is. (told.names host h stands).own q r (ap (λ rows. get rows q) (sym begins.clients) ∙ is)) near))
      (old_aged s w v host h v (acts s first) set
      (now_acts s w v host v.place (OldNumber h v host) _ (OldPart h v host) _ _ (resend_of s told.valid) first
      (first_old (record filled { last = now }) (begins.id ∙ (told.names host h stands).name) begins.clients begins.servers))) where
        now : ℕ
        now = own_clock w host

        filled : Host
        filled = refilled s (record h { last = own_clock w host })

        first : Work
        first = begun (refilled s (record h { last = own_clock w host })) (own_clock w host)

        begins : Begins h (record (refilled s (record h { last = own_clock w host })) { last = own_clock w host }) (own_clock w host)
        begins = cond_both (nat_lt h.refilled (own_clock w host)) (record h { last = own_clock w host; credit = s.rate; refilled = own_clock w host })
            (record h { last = own_clock w host }) (λ (x : Host). Begins h (record x { last = own_clock w host }) (own_clock w host))
            (λ _. record { id = refl; inc = refl; seq = refl; clients = refl; servers = refl; finished = refl; last = refl })
            (λ _. record { id = refl; inc = refl; seq = refl; clients = refl; servers = refl; finished = refl; last = refl })

  pub junk_grants : (answer : Answer) → AllWithin s v → StepGrants s w v host v (arrival_step s h (own_clock w host) None answer)
  unfolding arrival_step
  junk_grants answer all =
      ends work (own_comes s None answer (begun h now) (begun-own s h now own_now)) (arrival-own s h now None answer own_now)
      (junk_saying s w v host now (within w.hosts host.0 h stands) (begun h now) begun_now)
      (early_lawful s w v host work
      (early_comes s w v host None answer (begun h now) (λ p e. absurd (none_some p e))
      (early_begun s w v host (record h { last = now }) (told.names host h stands).name (told.names host h stands).own all)))
      (old_aged s w v host h v work set
      (now_beside s w v host v.place (OldNumber h v host) _ (OldPart h v host) _ _ (begun h now) work (Says (PlainJunk h.id) ∷ [])
      (says-move (PlainJunk h.id) (begun h now) tt) (tt, tt)
      (first_old (record h { last = now }) (told.names host h stands).name refl refl))) where
        now : ℕ
        now = own_clock w host

        work : Work
        work = comes s None answer (begun h (own_clock w host))

-- a packet that was sent, and isn't late
module _ (s : Settings) (w : World) (v : View) (n : ℕ) (host : HostId) (h : Host) (stands : host_at w host ≡ Some h) (told : IsTold s w v)
    (k : IsKept s w v) (t : IsTrue s w v) (served : AreServed w v) (g : HasGrants s w v)
    (sent : SentPacket) (answer : Answer) (at : slice_get w.packets n ≡ Some sent) (to : receiver sent.packet ≡ host)
    (early : is_late s w sent.tick ≡ false) where
  abbrev p : Packet
  p = sent.packet

  abbrev now : ℕ
  now = own_clock w host

  abbrev line : View
  line = seen v (PlainDeliver n)

  abbrev first : Work
  first = begun h (own_clock w host)

  abbrev work : Work
  work = comes s (Some sent.packet) answer (begun h (own_clock w host))

  came : slice_get v.packets n ≡ Some (sent_of sent.packet)
  came = ap (λ (ps : List Sent). slice_get ps n) told.packets
      ∙ (slice_get-map (λ (x : SentPacket). sent_of x.packet) w.packets n ∙ ap (option_map (λ (x : SentPacket). sent_of x.packet)) at)

  packet_says : IsSaying s w (seen v (PlainDeliver n)) host (own_clock w host) (within w.hosts host.0 h stands)
      (comes s (Some sent.packet) answer (begun h (own_clock w host)))
  packet_says =
      let time = timed s w host h told.clocks stands in
      let room = within w.hosts host.0 h stands in
      let b = begun_before s w v n host h (record h { last = now }) stands told
      (record { id = refl; inc = refl; seq = refl; clients = refl; servers = refl; finished = refl; last = refl }) time.last time.within k t served in
      let fits = all_get (PacketFits s (amid w line host first)) w.packets n sent
      (subst (AllByRecursion (PacketFits s (amid w line host first))) (append-nil w.packets) b.amid.kept.packets) at in
      let carries = all_get (IsTruthful line) w.packets n sent (subst (AllByRecursion (IsTruthful line)) (append-nil w.packets) b.packets) at in
      packet_saying s w v n host now room sent.packet sent.tick answer first came told.settings served b time.from time.within
      (λ stale. fresh s w sent now told.valid (all_get (IsDated s) w.packets n sent told.dated at) time.from early stale) to fits carries

  packet_set : IsSet v host h
  packet_set = record { order = g.orders host h stands; below = λ q a e. (g.own host h stands).arriving.below q a e; placed = g.placed }

  stale_aged : IsAged w (seen v (PlainDeliver n)) host v (tells (Says (PlainStale h.id sent.packet.at (own_clock w host)) ∷ []) (begun h (own_clock w host)))
  stale_aged =
      old_aged s w (seen v (PlainDeliver n)) host h v
      (tells (Says (PlainStale h.id sent.packet.at (own_clock w host)) ∷ []) (begun h (own_clock w host))) packet_set (record {
        numbers = old_number h v host;
        parts = λ q. subst (OldPart h v host q) (sym (same q)) (old_part h v host q);
        name = (told.names host h stands).name;
        own = (told.names host h stands).own;
        late = place_grows v (PlainDeliver n ∷ PlainStale h.id sent.packet.at (own_clock w host) ∷ []);
      }) where
        same : (q : Place) → part_in (seen (seen v (PlainDeliver n)) (PlainStale h.id sent.packet.at (own_clock w host))).now q ≡ part_in v.now q
        same (OfClient q) = ap (λ (m : Progress). get m.responses q) (stale_now v n h.id sent.packet.at (own_clock w host))
        same (OfServer q) = ap (λ (m : Progress). get m.requests q) (stale_now v n h.id sent.packet.at (own_clock w host))

  taken_aged : IsKept s (put w host (takes s sent.packet answer (begun h (own_clock w host))))
      (said_so_far w (seen v (PlainDeliver n)) (takes s sent.packet answer (begun h (own_clock w host))))
      → IsAged w (seen v (PlainDeliver n)) host v (takes s sent.packet answer (begun h (own_clock w host)))
  taken_aged later = by_role p.role refl where
    by_role : (r : Role) → sent.packet.role ≡ r → IsAged w (seen v (PlainDeliver n)) host v (takes s sent.packet answer (begun h (own_clock w host)))
    by_role Client e =
        let here : p.server ≡ host = ap (λ (r : Role). receiver_of r p.id p.server) (sym e) ∙ to in
        let fits = all_get (PacketFits s (stand w v)) w.packets n sent k.packets at in
        server_aged s w v n host h stands (within w.hosts host.0 h stands) (told.names host h stands).name
        (told.names host h stands).own k t packet_set now p came to answer e (subst (λ (x : HostId). IsMadeTo x (stand w v p.id x)) here fits.fits.made) later
    by_role Server e =
        let mine : p.id.client ≡ host = ap (λ (r : Role). receiver_of r p.id p.server) (sym e) ∙ to in
        client_aged s w v n host h stands (within w.hosts host.0 h stands) (told.names host h stands).name
        (told.names host h stands).own k t packet_set now p came to answer e mine

  come_aged : IsAged w (seen v (PlainDeliver n)) host v (comes s (Some sent.packet) answer (begun h (own_clock w host)))
  come_aged = by_stale (is_stale s (own_clock w host) p) refl where
    stale : Work
    stale = tells (Says (PlainStale h.id sent.packet.at (own_clock w host)) ∷ []) (begun h (own_clock w host))

    by_stale : (b : Bool) → is_stale s (own_clock w host) sent.packet ≡ b
        → IsAged w (seen v (PlainDeliver n)) host v (comes s (Some sent.packet) answer (begun h (own_clock w host)))
    by_stale true e = subst (IsAged w line host v) (sym (ap (λ b. cond b stale (takes s p answer first)) e)) stale_aged
    by_stale false e =
        let is : comes s (Some p) answer first ≡ takes s p answer first = ap (λ b. cond b stale (takes s p answer first)) e in
        subst (IsAged w line host v) (sym is) (taken_aged (subst (λ (x : Work). IsKept s (put w host x) (said_so_far w line x)) is packet_says.amid.kept))

  pub packet_grants : StepGrants s w (seen v (PlainDeliver n)) host v (arrival_step s h (own_clock w host) (Some sent.packet) answer)
  unfolding arrival_step
  packet_grants =
      let own_now = g.own host h stands in
      record {
        ends = step_ends s w line host (within w.hosts host.0 h stands) v work (own_comes s (Some p) answer first (begun-own s h now own_now))
            packet_says.amid.kept packet_says.same
            (early_lawful s w line host work (early_comes s w line host (Some p) answer first (λ q e. ap receiver (sym (some_is p q e)) ∙ to)
            (early_begun s w line host (record h { last = now }) (told.names host h stands).name (told.names host h stands).own
            (deliver_within s v n told.valid.unsched told.settings g.within_all)))) come_aged;
        own = arrival-own s h now (Some p) answer own_now;
      }
