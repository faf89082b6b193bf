-- A host's step: what it does keeps what the lines say of messages true, and returned at each line.
use Rattle.std.proofs.Common.{◌≡◌, ℕ, ◌+◌, ◌≤◌, ◌<◌, ◌⊎◌, inl, inr, false, Option, Some, None, List, [], ◌∷◌, length, refl, sym, ap, subst, ◌∙◌, arith}
use Rattle.std.specs.Prelude.{slice_get}
use Rattle.std.specs.List.{AllByRecursion}
use Rattle.std.proofs.lemmas.Bool.{cond_both}
use Rattle.plain_sets.specs.Maps.{get}
use Rattle.homa_plain.specs.declared.id.CallId.{CallId}
use Rattle.homa_plain.specs.declared.id.HostId.{HostId}
use Rattle.homa_plain.specs.declared.entry.Why.TheVariants.{Timeout}
use Rattle.homa_plain.specs.declared.packet.Role.{Role}
use Rattle.homa_plain.specs.declared.packet.Role.TheVariants.{Client, Server}
use Rattle.homa_plain.specs.declared.settings.Settings.{Settings}
use Rattle.homa_plain.specs.Entries.{PlainEntry, PlainDeliver, PlainJunk, PlainStale}
use Rattle.homa_plain.specs.Packets.{Packet, sender, receiver_of, receiver, acks}
use Rattle.homa_plain.specs.Rows.{ClientRow, ServerRow, RowsOf}
use Rattle.homa_plain.specs.Host.{Told, Says, Sends, packets_in, peer_cutoffs}
use Rattle.homa_plain.specs.Rules.{Moment, Answer, Did}
use Rattle.homa_plain.specs.Tombstones.{server_acked}
use Rattle.homa_plain.specs.Sending.{response_content}
use Rattle.homa_plain.specs.Timers.{Place, OfClient, OfServer, server_deadline, state_deadline, client_acts, server_acts}
use Rattle.homa_plain.specs.Work.{Work, now_of, tells}
use Rattle.homa_plain.specs.Steps.{moment, served, comes_to_row, acked, takes, comes, client_acted}
use Rattle.homa_plain.specs.CutoffsPackets.{hears_cutoffs}
use Rattle.homa_plain.specs.OldPackets.{is_stale}
use Rattle.homa_plain.specs.Steps.{server_acted, acts_at, acts, ended}
use Rattle.trace_rules.specs.View.{View, Progress, Sent, Called, no_ends}
use Rattle.trace_rules.specs.Seen.{seen, seen_all, begun, delivery, delivered, stale}
use Rattle.trace_rules.specs.Laws.{Holds, Once}
use Rattle.homa_plain.specs.World.{World}
use Rattle.step_laws.proofs.Places.{all-append}
use Rattle.trace_steps.specs.Told.{sent_of}
use Rattle.trace_steps.proofs.Runs.{runs_told}
use Rattle.step_laws.proofs.Own.{acked_own, server_acts_own, client_acts_quiet}
use Rattle.step_moves.proofs.Moves.{IsMove}
use Rattle.trace_steps.proofs.Progress.{AreLevel, level_itself}
use Rattle.step_moves.proofs.SendMoves.{server_granted-move, client_granted-move, response_leaves-move, request_leaves-move, says-move, hears-move}
use Rattle.trace_steps.specs.Stands.{Stand, state_of, put, said_so_far, amid}
use Rattle.trace_steps.specs.Contents.{replies, Replies}
use Rattle.step_moves.proofs.Chosen.{IsTimerAt}
use Rattle.step_moves.proofs.Folds.{turn_kept, ended_kept}
use Rattle.trace_steps.proofs.Frame.{move_said, move_packets, still_stand, server_there, client_there, last_there}
use Rattle.trace_steps.proofs.ToldMoves.{told_move}
use Rattle.trace_once.specs.Lifetime.{times, IsOver, Fits}
use Rattle.trace_once.specs.Kept.{PacketFits}
use Rattle.trace_once.proofs.ServerTimers.{IsNow, server_acts_keeps, server_acked_keeps}
use Rattle.trace_once.proofs.ClientTimers.{client_made, client_acts_keeps}
use Rattle.trace_once.proofs.Acks.{client_acts_done, no_acks}
use Rattle.trace_once.proofs.Amid.{IsAmid, Came}
use Rattle.trace_once.proofs.Goes.{calls_later, packet_later}
use Rattle.trace_once.proofs.ServedCame.{served_came}
use Rattle.trace_once.proofs.AskedCame.{asked_came}
use Rattle.trace_once.proofs.SentCame.{server_granted_came, client_granted_came, response_came, request_came}
use Rattle.trace_once.proofs.Taken.{heard_came, at_server, at_client, said_came}
use Rattle.trace_returned.specs.Tales.{Tale, tale, CarriesReply, IsTruthful, IsSame, IsTrue}
use Rattle.trace_returned.proofs.StillRules.{StillServed, Drops, StillAsked, TimesOut, acked_still, server_acts_still, client_acts_still}
use Rattle.trace_returned.proofs.Calm.{told_replies, IsCalmTold, calm_view, calm_truthful, unstale_inner, closed_same, block_then}
use Rattle.trace_returned.proofs.OwnMoves.{timeout_block}
use Rattle.trace_returned.proofs.TrueMoves.{response_later, same_stays, lines_of, once_of, true_move, served_still, asked_still}
use Rattle.trace_returned.proofs.ActMoves.{served_drops, asked_fails}
use Rattle.trace_returned.proofs.SendTrue.{server_granted_true, client_granted_true, request_true, response_true}
use Rattle.trace_returned.proofs.Saying.{AreUndone, calm_undone, undone_holds, steady_undone, IsSaying, returned_move, moved_saying, served_saying}
use Rattle.trace_returned.proofs.Saying.{undone_saying}
use Rattle.trace_returned.proofs.ServerCame.{line_view, IsBefore, plain_closed, server_saying}
use Rattle.trace_returned.proofs.ClientCame.{same_client, client_saying}

-- a call by other lines, that say as much of it
pub same_shift : (s : Settings) (u : View) (lines : List PlainEntry) (q : CallId) (m : HostId) (x y : Stand) (t z : Tale) → Holds Once u lines → y ≡ x
    → z ≡ t → replies (seen_all u lines) m q ≡ replies u m q → IsSame s u q m x t → IsSame s (seen_all u lines) q m y z
same_shift s u lines q m x y t z once stand told gave k =
    subst (λ a. IsSame s (seen_all u lines) q m a z) (sym stand) (subst (IsSame s (seen_all u lines) q m x) (sym told) (record {
      live = k.live;
      request = k.request;
      unmade = k.unmade;
      response = response_later s u lines q x.client t.response once k.response;
      replies = subst (λ xs. Replies xs x.server) (sym gave) k.replies;
    }))

-- ---- moves that change no row

module _ (s : Settings) (w : World) (v : View) (host : HostId) (now : ℕ) (stands : host.0 < length w.hosts) where
  pub calm_move : (work new : Work) (told : List Told) → IsMove work new told work.host.clients work.host.servers → IsCalmTold told
      → ((q : CallId) (m : HostId) → runs_told m q told ≡ false) → IsSaying s w v host now stands work
      → IsAmid s w v host now new → IsSaying s w v host now stands new
  calm_move work new told move calm quiet k after =
      let u : View = said_so_far w v work in
      let lines = lines_of s w v host work new told work.host.clients work.host.servers move in
      let view = calm_view u (length w.packets + length (packets_in work.told)) told calm k.same.level in
      let once = once_of s w v host work new told work.host.clients work.host.servers move now after in
      let same = true_move s w v host work new told work.host.clients work.host.servers move now after k.same.packets
      (λ q m. same_stays s u lines q m _ _ _ once
      (still_stand w v host work new told work.host.clients work.host.servers move refl refl q m (quiet q m)) (view.tales q)
      (told_replies u (length w.packets + length (packets_in work.told)) told m q (unstale_inner told calm.unstale) (quiet q m)) (k.same.same q m))
      (calm_truthful (seen_all u lines) w.clock (packets_in told) calm.plain) view.level (closed_same u (seen_all u lines) view.block k.same.closed) in
      moved_saying s w v host now stands work new told work.host.clients work.host.servers move k.told k.returned after same
      (undone_holds u (length w.packets + length (packets_in work.told)) told (steady_undone told calm.steady))

  pub junk_saying : (work : Work) → IsSaying s w v host now stands work → IsSaying s w v host now stands (tells (Says (PlainJunk work.host.id) ∷ []) work)
  junk_saying work k =
      calm_move work (tells (Says (PlainJunk work.host.id) ∷ []) work) (Says (PlainJunk work.host.id) ∷ [])
      (says-move (PlainJunk work.host.id) work tt)
      (record { steady = (tt, tt); unstale = (tt, tt); aside = λ q. (tt, tt); live = λ q. refl; plain = tt }) (λ q m. refl) k
      (said_came s w v host now stands (PlainJunk work.host.id) work tt (λ h q. refl) k.amid)

  -- ---- the calls that a packet acknowledges

  pub acked_saying : (qs : List CallId) (work : Work) → IsSaying s w v host now stands work → w.clock ≤ now
      → AllByRecursion (λ q. IsOver host (amid w v host work q host)) qs → IsSaying s w v host now stands (acked s qs work)
  acked_saying [] work k from over = k
  acked_saying (q ∷ qs) work k from over =
      let m : Moment = moment s q work in
      let o : Option ServerRow = get work.host.servers q in
      let did : Did ServerRow = server_acked s m q o in
      let own = acked_own s m q o in
      let keeps = server_acked_keeps s host (amid w v host work q host) m q o (k.amid.kept.calls q host) (server_there w v host work q stands)
      (omega (arith, from, k.amid.last)) over.0 in
      let c = served_came s w v host now stands work q did k.amid own keeps in
      let still = acked_still s m q o in
      let same = served_still s w v host now stands work q did k.amid own keeps c.amid
      (subst (λ y. StillServed y did) (sym (server_there w v host work q stands)) still) k.same in
      acked_saying qs (served s q did work)
      (served_saying s w v host now stands work q did own k.told k.returned c.amid same (calm_undone did.says still.calm)) from
      (calls_later s (amid w v host work) (amid w v host (served s q did work)) c.goes host qs over.1)

-- ---- rows act, and the step ends

module _ (s : Settings) (w : World) (v : View) (host : HostId) (now : ℕ) (stands : host.0 < length w.hosts) (from : w.clock ≤ now)
    (within : now ≤ w.clock + (times s).band) where
  acted_saying : (work : Work) (place : Place) (at : ℕ) → IsSaying s w v host now stands work → IsTimerAt s work.host at place → at ≤ now_of work
      → IsSaying s w v host now stands (acts_at s place work)
  unfolding server_deadline
  acted_saying work (OfServer id) at k timer past =
      let m : Moment = moment s id work in
      let row : ServerRow = timer.0 in
      let did : Did ServerRow = server_acts s m id row in
      let here : (amid w v host work id host).server ≡ Some row.state = server_there w v host work id stands ∙ ap state_of timer.1 in
      let is_now : IsNow s (amid w v host work id host) (now_of work) =
      record { from = omega (arith, from, k.amid.last); within = omega (arith, within, k.amid.last); last = last_there w v host work id stands } in
      let own = server_acts_own s m id row in
      let keeps = server_acts_keeps s host (amid w v host work id host) m id row at (k.amid.kept.calls id host) here is_now (deadline_of row timer.2) past in
      let after = (served_came s w v host now stands work id did k.amid own keeps).amid in
      subst (IsSaying s w v host now stands) (ap (λ o. server_acted s id o work) (sym timer.1)) (by_rule (server_acts_still s m id row)
      (λ (still : StillServed (Some row.state) did). served_saying s w v host now stands work id did own k.told k.returned after
      (served_still s w v host now stands work id did k.amid own keeps after (subst (λ y. StillServed y did) (sym here) still) k.same)
      (calm_undone did.says still.calm))
      (λ (d : Drops s m id did). served_saying s w v host now stands work id did own k.told k.returned after
      (served_drops s w v host now stands work id did k.amid own keeps after d.says d.row k.same) (subst AreUndone (sym d.says) (tt, tt)))) where
        deadline_of : (row : ServerRow) → server_deadline s row ≡ Some at → state_deadline s row.state ≡ Some at
        deadline_of row e = e

        by_rule : {A B C : Type 0} → A ⊎ B → (A → C) → (B → C) → C
        by_rule (inl a) f g = f a
        by_rule (inr b) f g = g b
  acted_saying work (OfClient id) at k timer past =
      let m : Moment = moment s id work in
      let r : ClientRow = timer.0 in
      let did : Did ClientRow = client_acts s m id r in
      let u : View = said_so_far w v work in
      let mine : id.client ≡ host = k.amid.own id r timer.1 in
      let row = (λ (n : HostId). let e : (amid w v host work id n).client ≡ Some r = client_there w v host work id n stands mine ∙ timer.1 in e) in
      let quiet = client_acts_quiet s m id r in
      let done = client_acts_done s m id r in
      let made = client_made s r.server (amid w v host work id r.server) r (k.amid.kept.calls id r.server) (row r.server) in
      let keeps = (λ (n : HostId). client_acts_keeps s n (amid w v host work id n) m id r (k.amid.kept.calls id n) (row n)) in
      let after = (asked_came s w v host now stands work id r.server did k.amid mine quiet done made keeps).amid in
      let itself = (λ (n : HostId). same_client s u id n (amid w v host work id n) (Some r) (tale u.now id) (row n) (k.same.same id n)) in
      let say = undone_saying s w v host now stands work id r.server did (mine ∙ sym k.amid.name) quiet.0 k.told k.returned after in
      subst (IsSaying s w v host now stands) (ap (λ o. client_acted s id o work) (sym timer.1)) (by_rule (client_acts_still s m id r)
      (λ (still : StillAsked (Some r) did). say
      (asked_still s w v host now stands work id r.server did k.amid mine quiet done made keeps after (Some r) still k.same.packets
      (λ q n e. k.same.same q n) itself k.same.level k.same.closed) (calm_undone did.says still.calm))
      (λ (t : TimesOut id did). say
      (asked_fails s w v host now stands work id r.server did k.amid mine quiet done made keeps after Timeout t.says t.row k.same.packets
      (λ q n e. k.same.same q n) (Some r) itself k.same.level
      (λ x block. closed_same u _ (block_then u x _ block (timeout_block x id)) k.same.closed)) (subst AreUndone (sym t.says) (tt, tt)))) where
        by_rule : {A B C : Type 0} → A ⊎ B → (A → C) → (B → C) → C
        by_rule (inl a) f g = f a
        by_rule (inr b) f g = g b

  pub turn_saying : 1 ≤ s.resend → (work : Work) → IsSaying s w v host now stands work → IsSaying s w v host now stands (acts s work)
  turn_saying resend work k = turn_kept s (IsSaying s w v host now stands) acted_saying resend work k

  -- a packet is sent
  sent_saying : (work new : Work) (p : Packet) (clients : RowsOf ClientRow) (servers : RowsOf ServerRow)
      → IsMove work new (Sends p ∷ []) clients servers → IsSaying s w v host now stands work → IsAmid s w v host now new
      → IsTrue s (put w host new) (said_so_far w v new) → IsSaying s w v host now stands new
  sent_saying work new p clients servers move k after same =
      moved_saying s w v host now stands work new (Sends p ∷ []) clients servers move k.told k.returned after same (tt, tt)

  -- GRANTs and the pump
  pub ended_saying : 0 < s.seg → (work : Work) → IsSaying s w v host now stands work → IsSaying s w v host now stands (ended s work)
  ended_saying seg work k = ended_kept s (IsSaying s w v host now stands)
      (record {
        response = λ now' id r part offset prio k at has is more.
            let after = (client_granted_came s w v host now stands now' k.amid id offset prio r at).amid in
            sent_saying now' _ _ _ _ (client_granted-move s id now' offset prio r (k.amid.own id r at ∙ sym k.amid.name)) k after
            (client_granted_true s w v host now stands now' k.amid id k.same offset prio r part at has is more after);
        request = λ now' id row service part base count offset prio k at is same more.
            let after = (server_granted_came s w v host now stands now' k.amid id offset prio row service part base count at is).amid in
            sent_saying now' _ _ _ _ (server_granted-move s id now' offset prio row) k after
            (server_granted_true s w v host now stands now' k.amid id k.same offset prio row service part base count at is same more after);
      })
      (record {
        request = λ now' id r range k at may next.
            let after = (request_came s w v host now stands now' k.amid id r range from within seg at may next).amid in
            sent_saying now' _ _ _ _ (request_leaves-move s id now' r range (k.amid.own id r at ∙ sym k.amid.name)) k after
            (request_true s w v host now stands now' k.amid id k.same r range at after);
        response = λ now' id row response out order base count range k at is next.
            let content = response_content s (peer_cutoffs s now'.host id.client).cutoffs response out range in
            let after = (response_came s w v host now stands now' k.amid id row response out order base count content range
            out.length range.from (peer_cutoffs s now'.host id.client).cutoffs.version 0 at is refl).amid in
            let move = response_leaves-move s id now' row content range in
            let told = told_move s w v host now' _ _ _ _ move stands k.amid.own k.told in
            sent_saying now' _ _ _ _ move k after
            (response_true s w v host now stands now' k.amid id k.same row response out order base count range seg at is next after told);
      })
      work k

-- ---- a packet comes

module _ (s : Settings) (w : World) (v : View) (n : ℕ) (host : HostId) (now : ℕ) (stands : host.0 < length w.hosts) where
  abbrev line : View
  line = line_view s w v n host now stands

  -- its cutoffs
  heard_before : (p : Packet) (work : Work) → IsBefore s w v n host now stands work
      → IsBefore s w v n host now stands (hears_cutoffs s (sender p) p.inc p.body work)
  heard_before p work b =
      let new : Work = hears_cutoffs s (sender p) p.inc p.body work in
      let move = hears-move s (sender p) p.inc p.body work in
      let said_is : said_so_far w line new ≡ said_so_far w line work = move_said w line host work new [] work.host.clients work.host.servers move in
      record {
        told = told_move s w line host work new [] work.host.clients work.host.servers move stands b.amid.own b.told;
        view = said_is ∙ b.view;
        same = λ q m. subst (λ (y : View). IsSame s y q m (amid w line host new q m) (tale v.now q)) (sym said_is)
            (subst (λ (x : Stand). IsSame s (said_so_far w line work) q m x (tale v.now q))
            (sym (still_stand w line host work new [] work.host.clients work.host.servers move refl refl q m refl)) (b.same q m));
        packets = subst (λ (y : View). AllByRecursion (IsTruthful y) (put w host new).packets) (sym said_is)
            (subst (AllByRecursion (IsTruthful (said_so_far w line work))) (sym (move_packets w line host work new [] work.host.clients work.host.servers move))
            (all-append (IsTruthful (said_so_far w line work)) (put w host work).packets [] b.packets tt));
        returned = returned_move s w line host now stands work new [] work.host.clients work.host.servers move b.returned tt;
        amid = (heard_came s w line host now stands p work b.amid).amid;
      }

  -- it is too old: nothing was delivered
  stale_view : (at own : ℕ) → let x : View =
      seen line (PlainStale host at own) in (x.now ≡ record v.now { came = None; due = no_ends }) × (x.if_refused ≡ x.now) × (x.here ≡ no_ends)
  unfolding seen
  stale_view at own = by_delivery (delivery (begun v) (PlainDeliver n)) where
    by_delivery : (o : Option Sent) → let x : View =
        stale (delivered (begun v) o) in (x.now ≡ record v.now { came = None; due = no_ends }) × (x.if_refused ≡ x.now) × (x.here ≡ no_ends)
    by_delivery None = (refl, refl, refl)
    by_delivery (Some p) = (refl, refl, refl)

  stale_saying : (at own : ℕ) (work : Work) → IsBefore s w v n host now stands work
      → IsSaying s w line host now stands (tells (Says (PlainStale work.host.id at own) ∷ []) work)
  stale_saying at own work b =
      let u : View = said_so_far w line work in
      let new : Work = tells (Says (PlainStale work.host.id at own) ∷ []) work in
      let told : List Told = Says (PlainStale work.host.id at own) ∷ [] in
      let move = says-move (PlainStale work.host.id at own) work tt in
      let after = said_came s w line host now stands (PlainStale work.host.id at own) work tt (λ h q. refl) b.amid in
      let x : View = seen u (PlainStale work.host.id at own) in
      let is = subst (λ (h : HostId). let y : View = seen u (PlainStale h at own) in (y.now ≡ record v.now { came = None; due = no_ends })
      × (y.if_refused ≡ y.now) × (y.here ≡ no_ends)) (sym b.amid.name)
      (subst (λ (z : View). let y : View = seen z (PlainStale host at own) in (y.now ≡ record v.now { came = None; due = no_ends })
      × (y.if_refused ≡ y.now) × (y.here ≡ no_ends)) (sym b.view) (stale_view at own)) in
      let same = true_move s w line host work new told work.host.clients work.host.servers move now after b.packets
      (λ q m. same_shift s u (PlainStale work.host.id at own ∷ []) q m _ _ (tale v.now q) _ (tt, tt)
      (still_stand w line host work new told work.host.clients work.host.servers move refl refl q m refl) (ap (λ (y : Progress). tale y q) is.0)
      (told_replies u (length w.packets + length (packets_in work.told)) told m q (tt, tt) refl) (b.same q m))
      tt (subst (λ (y : Progress). AreLevel y x.now) (sym is.1) (level_itself x.now)) (plain_closed x is.2 (ap (λ (y : Progress). y.due) is.0)) in
      moved_saying s w line host now stands work new told work.host.clients work.host.servers move b.told b.returned after same (tt, tt)

  -- it is taken
  taken_saying : (p : Packet) (t : ℕ) (answer : Answer) (work : Work) → slice_get v.packets n ≡ Some (sent_of p) → v.settings ≡ s
      → ((q : CallId) (c : Called) → get v.calls q ≡ Some c → c.server.0 < length w.hosts) → IsBefore s w v n host now stands work
      → w.clock ≤ now → now ≤ w.clock + (times s).band → w.clock ≤ t + (times s).life → receiver p ≡ host
      → PacketFits s (amid w line host work) (record { tick = t; packet = p })
      → IsTruthful (said_so_far w line work) (record { tick = t; packet = p }) → IsSaying s w line host now stands (takes s p answer work)
  unfolding takes
  taken_saying p t answer work came settings hosts b0 from within fresh to f carries = by_role p.role refl where
    heard : Work
    heard = hears_cutoffs s (sender p) p.inc p.body work

    b : IsBefore s w v n host now stands (hears_cutoffs s (sender p) p.inc p.body work)
    b = heard_before p work b0

    first : Came s w line host now work (hears_cutoffs s (sender p) p.inc p.body work)
    first = heard_came s w line host now stands p work b0.amid

    fits : PacketFits s (amid w line host (hears_cutoffs s (sender p) p.inc p.body work)) (record { tick = t; packet = p })
    fits =
        packet_later s (amid w line host work) (amid w line host (hears_cutoffs s (sender p) p.inc p.body work)) first.goes (record { tick = t; packet = p }) f

    said_is : said_so_far w line (hears_cutoffs s (sender p) p.inc p.body work) ≡ said_so_far w line work
    said_is = b.view ∙ sym b0.view

    by_role : (role : Role) → p.role ≡ role
        → IsSaying s w line host now stands (acked s (acks p) (comes_to_row s p answer role (hears_cutoffs s (sender p) p.inc p.body work)))
    by_role Client e =
        let here : p.server ≡ host = sym (ap (λ (r : Role). receiver_of r p.id p.server) e) ∙ to in
        let u = amid w line host (hears_cutoffs s (sender p) p.inc p.body work) in
        let as_client : Fits (times s) p.server (u p.id p.server) t Client p.body p.payload =
        subst (λ (r : Role). Fits (times s) p.server (u p.id p.server) t r p.body p.payload) e fits.fits in
        let at_host : Fits (times s) host (u p.id host) t Client p.body p.payload =
        subst (λ (x : HostId). Fits (times s) x (u p.id x) t Client p.body p.payload) here as_client in
        let c = at_server s w line host now stands p t answer heard first.amid fresh at_host in
        let over = subst (λ (x : HostId). AllByRecursion (λ q. IsOver x (u q x)) (acks p)) here fits.acked in
        acked_saying s w line host now stands (acks p) _ (server_saying s w v n host now stands p came heard b t answer settings fresh e here at_host) from
        (calls_later s u (amid w line host (comes_to_row s p answer Client heard)) c.goes host (acks p) over)
    by_role Server e =
        let mine : p.id.client ≡ host = sym (ap (λ (r : Role). receiver_of r p.id p.server) e) ∙ to in
        let u = amid w line host (hears_cutoffs s (sender p) p.inc p.body work) in
        let as_server : Fits (times s) p.server (u p.id p.server) t Server p.body p.payload =
        subst (λ (r : Role). Fits (times s) p.server (u p.id p.server) t r p.body p.payload) e fits.fits in
        let c = at_client s w line host now stands p t heard first.amid within fresh mine e as_server in
        let reply = subst (λ (y : View). CarriesReply y Server p.id p.server p.inc p.body p.payload) (sym said_is)
        (subst (λ (r : Role). CarriesReply (said_so_far w line work) r p.id p.server p.inc p.body p.payload) e carries) in
        acked_saying s w line host now stands (acks p) _
        (client_saying s w v n host now stands p came heard b t settings within fresh e mine as_server reply hosts) from
        (calls_later s u (amid w line host (comes_to_row s p answer Server heard)) c.goes host (acks p)
        (no_acks (λ q. IsOver host (u q host)) (times s) (u p.id p.server) t p.id p.body as_server.fits))

  pub packet_saying : (p : Packet) (t : ℕ) (answer : Answer) (work : Work) → slice_get v.packets n ≡ Some (sent_of p) → v.settings ≡ s
      → ((q : CallId) (c : Called) → get v.calls q ≡ Some c → c.server.0 < length w.hosts) → IsBefore s w v n host now stands work
      → w.clock ≤ now → now ≤ w.clock + (times s).band → (is_stale s (now_of work) p ≡ false → w.clock ≤ t + (times s).life) → receiver p ≡ host
      → PacketFits s (amid w line host work) (record { tick = t; packet = p })
      → IsTruthful (said_so_far w line work) (record { tick = t; packet = p }) → IsSaying s w line host now stands (comes s (Some p) answer work)
  packet_saying p t answer work came settings hosts b from within fresh to f carries =
      cond_both (is_stale s (now_of work) p) _ _ (IsSaying s w line host now stands) (λ _. stale_saying p.at (now_of work) work b)
      (λ e. taken_saying p t answer work came settings hosts b from within (fresh e) to f carries)
