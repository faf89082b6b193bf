-- Each move of a step, each step and each event tells lines that have the shape.
use Rattle.std.proofs.Common.{◌≡◌, ℕ, suc, ◌+◌, ◌≤◌, ◌<◌, false, Option, Some, None, List, [], ◌∷◌, ◌++◌, length, map, refl, sym, ap, subst, ◌∙◌, arith}
use Rattle.std.specs.List.{AllByRecursion}
use Rattle.std.proofs.lemmas.Bool.{cond_both}
use Rattle.std.proofs.lemmas.List.{length-append}
use Rattle.plain_sets.specs.Maps.{get}
use Rattle.homa_plain.specs.declared.id.CallId.{CallId}
use Rattle.homa_plain.specs.declared.id.HostId.{HostId}
use Rattle.homa_plain.specs.declared.packet.Role.{Role}
use Rattle.homa_plain.specs.declared.packet.Role.TheVariants.{Client, Server}
use Rattle.homa_plain.specs.declared.settings.Settings.{Settings}
use Rattle.homa_plain.specs.Entries.{PlainEntry, PlainJunk, PlainStale}
use Rattle.trace_rules.specs.Lines.{named}
use Rattle.homa_plain.specs.Packets.{Packet, sender, receiver, receiver_of, acks}
use Rattle.homa_plain.specs.Rows.{ClientRow, ServerRow, RowsOf, set_row}
use Rattle.homa_plain.specs.Host.{Told, Says, packets_in, entries_from, peer_cutoffs}
use Rattle.homa_plain.specs.Rules.{Moment, Answer, Did}
use Rattle.homa_plain.specs.Tombstones.{server_acked}
use Rattle.homa_plain.specs.Sending.{response_content}
use Rattle.homa_plain.specs.Timers.{Place, OfClient, OfServer, server_deadline, state_deadline, client_acts, server_acts}
use Rattle.homa_plain.specs.Work.{Work, now_of, tells, said}
use Rattle.homa_plain.specs.Steps.{moment, served, asked, comes_to_row, acked, takes, comes}
use Rattle.homa_plain.specs.CutoffsPackets.{hears_cutoffs}
use Rattle.homa_plain.specs.OldPackets.{is_stale}
use Rattle.homa_plain.specs.Steps.{client_acted, server_acted, acts_at, acts, ended}
use Rattle.trace_rules.specs.View.{View}
use Rattle.trace_rules.specs.Laws.{Holds}
use Rattle.trace_rules.specs.Shape.{IsBehind, IsMade, Shape}
use Rattle.homa_plain.specs.World.{World, SentPacket, stamped}
use Rattle.trace_steps.specs.Told.{IsTold, sent_of}
use Rattle.trace_steps.proofs.Lines.{holds-append}
use Rattle.step_moves.proofs.Inner.{IsSaid, entries_from-append}
use Rattle.trace_steps.proofs.Runs.{runs_told}
use Rattle.step_laws.proofs.Own.{AllOwn, acked_own, gets_own, gets_quiet, server_acts_own, client_acts_quiet}
use Rattle.step_moves.proofs.Moves.{IsMove, notes_told, reply_told, finishes_told, served_put, served_noted, served_told, served-move}
use Rattle.step_moves.proofs.AskedMove.{asked_put, asked_noted, asked_said, asked_told, asked-move}
use Rattle.step_moves.proofs.SendMoves.{server_granted-move, client_granted-move, response_leaves-move, request_leaves-move, says-move, hears-move}
use Rattle.trace_steps.specs.Stands.{state_of, put, said_so_far, amid}
use Rattle.step_moves.proofs.Chosen.{IsTimerAt}
use Rattle.step_moves.proofs.Folds.{turn_kept, ended_kept}
use Rattle.trace_steps.proofs.Frame.{move_said, move_packets, move_called, server_there, client_there, last_there}
use Rattle.trace_steps.proofs.ToldMoves.{told_move}
use Rattle.trace_once.specs.Lifetime.{times, IsMadeTo, IsOver, Fits}
use Rattle.trace_once.specs.Kept.{PacketFits}
use Rattle.trace_once.proofs.ServerTimers.{IsNow, server_acts_keeps, server_acked_keeps}
use Rattle.trace_once.proofs.ClientTimers.{client_made, client_acts_keeps}
use Rattle.trace_once.proofs.Acks.{client_acts_done, no_acks}
use Rattle.trace_once.proofs.Amid.{IsAmid, Came}
use Rattle.trace_once.proofs.Goes.{calls_later, packet_later}
use Rattle.trace_once.proofs.ServedCame.{served_came}
use Rattle.trace_once.proofs.AskedCame.{asked_came}
use Rattle.trace_once.proofs.SentCame.{server_granted_came, client_granted_came, response_came, request_came}
use Rattle.trace_once.proofs.Taken.{heard_came, at_server, at_client, said_came}
use Rattle.trace_laws.proofs.ShapedLines.{made_get, AllNamed, named_append, said_named, notes_named, reply_named, finishes_named, told_shape}

-- what is so of the last ones of a list
all_back : {A : Type 0} (P : A → Type 0) (xs ys : List A) → AllByRecursion P (xs ++ ys) → AllByRecursion P ys
all_back P [] ys all = all
all_back P (x ∷ xs) ys all = all_back P xs ys all.1

length_stamped : (t : ℕ) (ps : List Packet) → length (stamped t ps) ≡ length ps
length_stamped t [] = refl
length_stamped t (p ∷ ps) = ap suc (length_stamped t ps)

pub length_told : (ps : List SentPacket) → length (map (λ (p : SentPacket). sent_of p.packet) ps) ≡ length ps
length_told [] = refl
length_told (p ∷ ps) = ap suc (length_told ps)

module _ (s : Settings) (w : World) (v : View) (host : HostId) (now : ℕ) (stands : host.0 < length w.hosts) where
  -- the lines so far have the shape, and so may the next
  pub record IsShaped (work : Work) : Type 0 where
    pub kept : IsAmid s w v host now work
    pub told : IsTold s (put w host work) (said_so_far w v work)
    pub shaped : Holds Shape v (entries_from (length w.packets) work.told) × IsBehind (said_so_far w v work)

  shaped_move : (work new : Work) (told : List Told) (clients : RowsOf ClientRow) (servers : RowsOf ServerRow) → IsMove work new told clients servers
      → IsShaped work → IsAmid s w v host now new → AllNamed (said_so_far w v work) told → IsShaped new
  shaped_move work new told clients servers move k after all_named =
      let u : View = said_so_far w v work in
      let number : ℕ = length w.packets + length (packets_in work.told) in
      let as_many : number ≡ length u.packets =
      sym (ap length k.told.packets ∙ length_told (put w host work).packets ∙ length-append w.packets (stamped w.clock (packets_in work.told))
      ∙ ap (λ n. length w.packets + n) (length_stamped w.clock (packets_in work.told))) in
      let fits = all_back (PacketFits s (amid w v host new)) (put w host work).packets (stamped w.clock (packets_in told))
      (subst (AllByRecursion (PacketFits s (amid w v host new))) (move_packets w v host work new told clients servers move) after.kept.packets) in
      let lines = told_shape u number told k.shaped.1 as_many move.inner all_named (sent (packets_in told) fits) in
      record {
        kept = after;
        told = told_move s w v host work new told clients servers move stands
            (λ q r is. after.own q r (ap (λ (rows : RowsOf ClientRow). get rows q) move.at_clients ∙ is)) k.told;
        shaped = (
          subst (Holds Shape v) (sym (ap (entries_from (length w.packets)) move.grown ∙ entries_from-append (length w.packets) work.told told))
              (holds-append Shape v (entries_from (length w.packets) work.told) (entries_from number told) k.shaped.0 lines.0),
          subst IsBehind (sym (move_said w v host work new told clients servers move)) lines.1,
        );
      } where
        sent : (ps : List Packet) → AllByRecursion (PacketFits s (amid w v host new)) (stamped w.clock ps)
            → AllByRecursion (λ (p : Packet). IsMade (said_so_far w v work) (Some p.id)) ps
        sent [] all = tt
        sent (p ∷ ps) all = (
          made_get (said_so_far w v work) p.id _ (sym (move_called w v host work new told clients servers move p.id) ∙ all.0.fits.made.called),
          sent ps all.1,
        )

  -- a rule at a server, and one at a client
  served_shaped : (work : Work) (id : CallId) (did : Did ServerRow) → AllOwn work.host.id id did.says → IsMadeTo host (amid w v host work id host)
      → IsShaped work → IsAmid s w v host now (served s id did work) → IsShaped (served s id did work)
  served_shaped work id did own made k after =
      let u : View = said_so_far w v work in
      let notes = notes_told s did.opened (served_put s id did work) in
      let reply = reply_told s Server id work.host.id did.version (served_noted s id did work) in
      let says = said s work.host Server id work.host.id did.says in
      shaped_move work (served s id did work) (served_told s id did work) work.host.clients (set_row work.host.servers id did.row)
      (served-move s id did work own) k after
      (named_append u notes (reply ++ says) (notes_named s u did.opened (served_put s id did work))
      (named_append u reply says (reply_named s u Server id work.host.id did.version (served_noted s id did work))
      (said_named s u work.host.id id work.host Server work.host.id did.says (made_get u id _ made.called) own)))

  asked_shaped : (work : Work) (id : CallId) (server : HostId) (did : Did ClientRow) → id.client ≡ host → AllOwn id.client id did.says
      → IsMadeTo server (amid w v host work id server) → IsShaped work → IsAmid s w v host now (asked s id server did work)
      → IsShaped (asked s id server did work)
  asked_shaped work id server did mine own made k after =
      let u : View = said_so_far w v work in
      let notes = notes_told s did.opened (asked_put s id server did work) in
      let reply = reply_told s Client id server did.version (asked_noted s id server did work) in
      let says = said s work.host Client id server did.says in
      let ends = finishes_told s id server did.finished (asked_said s id server did work) in
      shaped_move work (asked s id server did work) (asked_told s id server did work) (set_row work.host.clients id did.row) work.host.servers
      (asked-move s id server did work (mine ∙ sym k.kept.name) own) k after
      (named_append u notes (reply ++ (says ++ ends)) (notes_named s u did.opened (asked_put s id server did work))
      (named_append u reply (says ++ ends) (reply_named s u Client id server did.version (asked_noted s id server did work))
      (named_append u says ends (said_named s u id.client id work.host Client server did.says (made_get u id _ made.called) own)
      (finishes_named s u id server did.finished (asked_said s id server did work)))))

  -- ---- the calls that a packet acknowledges

  acked_shaped : (qs : List CallId) (work : Work) → IsShaped work → w.clock ≤ now → AllByRecursion (λ q. IsOver host (amid w v host work q host)) qs
      → IsShaped (acked s qs work)
  acked_shaped [] work k from over = k
  acked_shaped (q ∷ qs) work k from over =
      let m : Moment = moment s q work in
      let o : Option ServerRow = get work.host.servers q in
      let did : Did ServerRow = server_acked s m q o in
      let own = acked_own s m q o in
      let c = served_came s w v host now stands work q did k.kept own
      (server_acked_keeps s host (amid w v host work q host) m q o (k.kept.kept.calls q host) (server_there w v host work q stands)
      (omega (arith, from, k.kept.last)) over.0) in
      acked_shaped qs (served s q did work) (served_shaped work q did own over.0.0 k c.amid) from
      (calls_later s (amid w v host work) (amid w v host (served s q did work)) c.goes host qs over.1)

  -- ---- a line of its own

  line_shaped : (entry : PlainEntry) (work : Work) → (said : IsSaid entry) → ((h : HostId) (q : CallId) → runs_told h q (Says entry ∷ []) ≡ false)
      → IsMade (said_so_far w v work) (named entry) → IsShaped work → IsShaped (tells (Says entry ∷ []) work)
  line_shaped entry work said quiet made k =
      shaped_move work (tells (Says entry ∷ []) work) (Says entry ∷ []) work.host.clients work.host.servers (says-move entry work said) k
      (said_came s w v host now stands entry work said quiet k.kept) (made, tt)

  -- ---- rows act, and the step ends

  module _ (from : w.clock ≤ now) (within : now ≤ w.clock + (times s).band) where
    acted_shaped : (work : Work) (place : Place) (at : ℕ) → IsShaped work → IsTimerAt s work.host at place → at ≤ now_of work → IsShaped (acts_at s place work)
    unfolding server_deadline
    acted_shaped work (OfServer id) at k timer past =
        let m : Moment = moment s id work in
        let row : ServerRow = timer.0 in
        let did : Did ServerRow = server_acts s m id row in
        let here : (amid w v host work id host).server ≡ Some row.state = server_there w v host work id stands ∙ ap state_of timer.1 in
        let is_now : IsNow s (amid w v host work id host) (now_of work) =
        record { from = omega (arith, from, k.kept.last); within = omega (arith, within, k.kept.last); last = last_there w v host work id stands } in
        let own = server_acts_own s m id row in
        let keeps = server_acts_keeps s host (amid w v host work id host) m id row at (k.kept.kept.calls id host) here is_now (deadline_of row timer.2) past in
        subst IsShaped (ap (λ o. server_acted s id o work) (sym timer.1))
        (served_shaped work id did own keeps.change.made k (served_came s w v host now stands work id did k.kept own keeps).amid) where
          deadline_of : (row : ServerRow) → server_deadline s row ≡ Some at → state_deadline s row.state ≡ Some at
          deadline_of row e = e
    acted_shaped work (OfClient id) at k timer past =
        let m : Moment = moment s id work in
        let r : ClientRow = timer.0 in
        let did : Did ClientRow = client_acts s m id r in
        let mine : id.client ≡ host = k.kept.own id r timer.1 in
        let row = (λ (n : HostId). let e : (amid w v host work id n).client ≡ Some r = client_there w v host work id n stands mine ∙ timer.1 in e) in
        let quiet = client_acts_quiet s m id r in
        let made = client_made s r.server (amid w v host work id r.server) r (k.kept.kept.calls id r.server) (row r.server) in
        let after = (asked_came s w v host now stands work id r.server did k.kept mine quiet (client_acts_done s m id r) made
        (λ n. client_acts_keeps s n (amid w v host work id n) m id r (k.kept.kept.calls id n) (row n))).amid in
        subst IsShaped (ap (λ o. client_acted s id o work) (sym timer.1)) (asked_shaped work id r.server did mine quiet.0 made k after)

    pub turn_shaped : 1 ≤ s.resend → (work : Work) → IsShaped work → IsShaped (acts s work)
    turn_shaped resend work k = turn_kept s IsShaped acted_shaped resend work k

    pub ended_shaped : 0 < s.seg → (work : Work) → IsShaped work → IsShaped (ended s work)
    ended_shaped seg work k = ended_kept s IsShaped
        (record {
          response = λ now' id r part offset prio k at has is more.
              shaped_move now' _ _ _ _ (client_granted-move s id now' offset prio r (k.kept.own id r at ∙ sym k.kept.name)) k
              (client_granted_came s w v host now stands now' k.kept id offset prio r at).amid tt;
          request = λ now' id row service part base count offset prio k at is same more.
              shaped_move now' _ _ _ _ (server_granted-move s id now' offset prio row) k
              (server_granted_came s w v host now stands now' k.kept id offset prio row service part base count at is).amid tt;
        })
        (record {
          request = λ now' id r range k at may next.
              shaped_move now' _ _ _ _ (request_leaves-move s id now' r range (k.kept.own id r at ∙ sym k.kept.name)) k
              (request_came s w v host now stands now' k.kept id r range from within seg at may next).amid tt;
          response = λ now' id row response out order base count range k at is next.
              let content = response_content s (peer_cutoffs s now'.host id.client).cutoffs response out range in
              shaped_move now' _ _ _ _ (response_leaves-move s id now' row content range) k
              (response_came s w v host now stands now' k.kept id row response out order base count content range out.length range.from
              (peer_cutoffs s now'.host id.client).cutoffs.version 0 at is refl).amid tt;
        })
        work k

    -- ---- a packet comes

    taken_shaped : (p : Packet) (t : ℕ) (answer : Answer) (work : Work) → IsShaped work → w.clock ≤ t + (times s).life → receiver p ≡ host
        → PacketFits s (amid w v host work) (record { tick = t; packet = p }) → IsShaped (takes s p answer work)
    unfolding takes
    taken_shaped p t answer work k fresh to f = by_role p.role refl where
      heard : Work
      heard = hears_cutoffs s (sender p) p.inc p.body work

      first : Came s w v host now work (hears_cutoffs s (sender p) p.inc p.body work)
      first = heard_came s w v host now stands p work k.kept

      shaped_first : IsShaped (hears_cutoffs s (sender p) p.inc p.body work)
      shaped_first = shaped_move work (hears_cutoffs s (sender p) p.inc p.body work) [] work.host.clients work.host.servers
          (hears-move s (sender p) p.inc p.body work) k first.amid tt

      fits : PacketFits s (amid w v host (hears_cutoffs s (sender p) p.inc p.body work)) (record { tick = t; packet = p })
      fits = packet_later s (amid w v host work) (amid w v host (hears_cutoffs s (sender p) p.inc p.body work)) first.goes (record { tick = t; packet = p }) f

      by_role : (role : Role) → p.role ≡ role → IsShaped (acked s (acks p) (comes_to_row s p answer role (hears_cutoffs s (sender p) p.inc p.body work)))
      by_role Client e =
          let here : p.server ≡ host = sym (ap (λ (r : Role). receiver_of r p.id p.server) e) ∙ to in
          let u = amid w v host (hears_cutoffs s (sender p) p.inc p.body work) in
          let as_client : Fits (times s) p.server (u p.id p.server) t Client p.body p.payload =
          subst (λ (r : Role). Fits (times s) p.server (u p.id p.server) t r p.body p.payload) e fits.fits in
          let at_host : Fits (times s) host (u p.id host) t Client p.body p.payload =
          subst (λ (x : HostId). Fits (times s) x (u p.id x) t Client p.body p.payload) here as_client in
          let c = at_server s w v host now stands p t answer heard first.amid fresh at_host in
          let over = subst (λ (x : HostId). AllByRecursion (λ q. IsOver x (u q x)) (acks p)) here fits.acked in
          acked_shaped (acks p) _
          (served_shaped heard p.id _ (gets_own s (moment s p.id heard) p answer (get heard.host.servers p.id)) at_host.made shaped_first c.amid) from
          (calls_later s u (amid w v host (comes_to_row s p answer Client heard)) c.goes host (acks p) over)
      by_role Server e =
          let mine : p.id.client ≡ host = sym (ap (λ (r : Role). receiver_of r p.id p.server) e) ∙ to in
          let u = amid w v host (hears_cutoffs s (sender p) p.inc p.body work) in
          let as_server : Fits (times s) p.server (u p.id p.server) t Server p.body p.payload =
          subst (λ (r : Role). Fits (times s) p.server (u p.id p.server) t r p.body p.payload) e fits.fits in
          let c = at_client s w v host now stands p t heard first.amid within fresh mine e as_server in
          acked_shaped (acks p) _
          (asked_shaped heard p.id p.server _ mine (gets_quiet s (moment s p.id heard) p (get heard.host.clients p.id)).0 as_server.made
          shaped_first c.amid) from
          (calls_later s u (amid w v host (comes_to_row s p answer Server heard)) c.goes host (acks p)
          (no_acks (λ q. IsOver host (u q host)) (times s) (u p.id p.server) t p.id p.body as_server.fits))

    pub packet_shaped : (p : Packet) (t : ℕ) (answer : Answer) (work : Work) → IsShaped work
        → (is_stale s (now_of work) p ≡ false → w.clock ≤ t + (times s).life) → receiver p ≡ host
        → PacketFits s (amid w v host work) (record { tick = t; packet = p })
        → IsShaped (comes s (Some p) answer work)
    packet_shaped p t answer work k fresh to f =
        cond_both (is_stale s (now_of work) p) _ _ IsShaped (λ _. line_shaped (PlainStale work.host.id p.at (now_of work)) work tt (λ h q. refl) tt k)
        (λ e. taken_shaped p t answer work k (fresh e) to f)

    pub junk_shaped : (answer : Answer) (work : Work) → IsShaped work → IsShaped (comes s None answer work)
    junk_shaped answer work k = line_shaped (PlainJunk work.host.id) work tt (λ h q. refl) tt k
