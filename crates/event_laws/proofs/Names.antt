-- A host keeps its name through each step, and its packets are its own.
use Rattle.std.proofs.Common.{◌≡◌, ℕ, suc, ◌+◌, ◌≤◌, Option, Some, None, List, [], ◌∷◌, map, refl, sym, ap, subst, ◌∙◌, arith}
use Rattle.std.specs.Prelude.{nat_lt}
use Rattle.std.specs.Option.{IfSome}
use Rattle.std.specs.List.{AllByRecursion}
use Rattle.std.proofs.lemmas.Bool.{cond_both}
use Rattle.plain_sets.specs.Maps.{get}
use Rattle.plain_sets.proofs.MapLaws.{get-empty}
use Rattle.homa_plain.specs.declared.id.CallId.{CallId}
use Rattle.homa_plain.specs.declared.id.HostId.{HostId}
use Rattle.homa_plain.specs.declared.packet.Role.{Role}
use Rattle.homa_plain.specs.declared.packet.Role.TheVariants.{Client, Server}
use Rattle.homa_plain.specs.declared.settings.Settings.{Settings}
use Rattle.homa_plain.specs.Calls.{call_cmp}
use Rattle.homa_plain.specs.Entries.{PlainEntry, PlainRestart, PlainSend, PlainJunk, PlainStale}
use Rattle.homa_plain.specs.Packets.{Packet, sender, receiver, receiver_of, acks, send_line}
use Rattle.homa_plain.specs.Rows.{ClientRow, ServerRow, RowsOf, set_row}
use Rattle.homa_plain.specs.Host.{Host, new_host, Told, Says, Sends, packets_in, entries_from}
use Rattle.homa_plain.specs.Rules.{Answer, Did}
use Rattle.homa_plain.specs.Timers.{Place, OfClient, OfServer, client_acts, server_acts}
use Rattle.homa_plain.specs.Sending.{client_granted, client_sends}
use Rattle.homa_plain.specs.Work.{Work, begun, now_of}
use Rattle.homa_plain.specs.Steps.{moment, asked, served, comes_to_row, takes, comes, client_acted}
use Rattle.homa_plain.specs.CutoffsPackets.{hears_cutoffs}
use Rattle.homa_plain.specs.OldPackets.{is_stale}
use Rattle.homa_plain.specs.Steps.{server_acted, acts_at, acts, ended, next_id, new_call, starts, call_step, arrival_step, turn_step}
use Rattle.homa_plain.specs.Credit.{refilled}
use Rattle.step_laws.proofs.ToldBy.{packets_in-append}
use Rattle.step_laws.proofs.Places.{all-append}
use Rattle.step_moves.specs.Worlds.{HasOwnName}
use Rattle.step_moves.proofs.Inner.{AllInner, IsSaid}
use Rattle.step_laws.proofs.Own.{AllOwn, gets_own, acked_own, server_acts_own, gets_quiet, client_acts_quiet}
use Rattle.step_moves.proofs.Moves.{IsFrom, IsMove, served_told, served-move}
use Rattle.step_moves.proofs.AskedMove.{asked_told, asked-move}
use Rattle.step_moves.proofs.SendMoves.{server_granted-move, client_granted-move, response_leaves-move, request_leaves-move, says-move, hears-move}
use Rattle.step_moves.proofs.Hosts.{none_some}
use Rattle.step_moves.proofs.Names.{own_set}
use Rattle.step_moves.proofs.Chosen.{IsTimerAt}
use Rattle.step_moves.proofs.Folds.{acked_kept, turn_kept, ended_kept, GrantKeeps, PieceKeeps}
use Rattle.event_laws.specs.Named.{IsOfStep, IsOwnStep, numbered}

-- ---- a move

inner_unsent : (told : List Told) → AllInner told → AllByRecursion IsOfStep told
inner_unsent [] inner = tt
inner_unsent (Says entry ∷ told) inner = (by_entry entry inner.0, inner_unsent told inner.1) where
  by_entry : (entry : PlainEntry) → IsSaid entry → IsOfStep (Says entry)
  by_entry (PlainSend number from to inc role id level what payload) said = absurd said
  by_entry (PlainRestart host inc) said = absurd said
  by_entry entry said = tt
inner_unsent (Sends p ∷ told) inner = (tt, inner_unsent told inner)

module _ (s : Settings) (id : HostId) where
  sent_by : (h : Host) (ps : List Packet) → h.id ≡ id → AllByRecursion (IsFrom h) ps → AllByRecursion (λ (p : Packet). sender p ≡ id) ps
  sent_by h [] name all = tt
  sent_by h (p ∷ ps) name all = (all.0.by ∙ name, sent_by h ps name all.1)

  named_move : (work new : Work) (told : List Told) (clients : RowsOf ClientRow) (servers : RowsOf ServerRow) → IsMove work new told clients servers
      → ((q : CallId) (r : ClientRow) → get clients q ≡ Some r → q.client ≡ id) → IsOwnStep id work → IsOwnStep id new
  named_move work new told clients servers m own k = record {
    name = record { name = m.id ∙ k.name.name; own = λ q r is. own q r (ap (λ (rows : RowsOf ClientRow). get rows q) (sym m.at_clients) ∙ is) };
    by = subst (AllByRecursion (λ (p : Packet). sender p ≡ id)) (sym (ap packets_in m.grown ∙ packets_in-append work.told told))
        (all-append (λ (p : Packet). sender p ≡ id) (packets_in work.told) (packets_in told) k.by (sent_by work.host (packets_in told) k.name.name m.sent));
    said = subst (AllByRecursion IsOfStep) (sym m.grown) (all-append IsOfStep work.told told k.said (inner_unsent told m.inner));
  }

  pub named_beside : (work new : Work) (told : List Told) (servers : RowsOf ServerRow) → IsMove work new told work.host.clients servers
      → IsOwnStep id work → IsOwnStep id new
  named_beside work new told servers m k = named_move work new told work.host.clients servers m k.name.own k

  named_client : (work new : Work) (told : List Told) (q : CallId) (o : Option ClientRow) → q.client ≡ id
      → IsMove work new told (set_row work.host.clients q o) work.host.servers → IsOwnStep id work → IsOwnStep id new
  named_client work new told q o mine m k =
      named_move work new told (set_row work.host.clients q o) work.host.servers m (own_set id work.host.clients q o mine k.name.own) k

  pub named_served : (work : Work) (q : CallId) (did : Did ServerRow) → AllOwn work.host.id q did.says → IsOwnStep id work → IsOwnStep id (served s q did work)
  named_served work q did own k =
      named_beside work (served s q did work) (served_told s q did work) (set_row work.host.servers q did.row) (served-move s q did work own) k

  pub named_asked : (work : Work) (q : CallId) (server : HostId) (did : Did ClientRow) → q.client ≡ id → AllOwn q.client q did.says
      → IsOwnStep id work → IsOwnStep id (asked s q server did work)
  named_asked work q server did mine own k = named_client work (asked s q server did work) (asked_told s q server did work) q did.row mine
      (asked-move s q server did work (mine ∙ sym k.name.name) own) k

  -- ---- the end of a step, and its acts

  pub grants_named : GrantKeeps s (IsOwnStep id)
  grants_named = record {
    response = λ work q r part offset prio k at has o m.
        let mine : q.client ≡ id = k.name.own q r at in
        named_client work _ _ q (Some (client_granted (now_of work) offset r)) mine (client_granted-move s q work offset prio r (mine ∙ sym k.name.name)) k;
    request = λ work q row service part base count offset prio k at is o m. named_beside work _ _ _ (server_granted-move s q work offset prio row) k;
  }

  pub pieces_named : PieceKeeps s (IsOwnStep id)
  pieces_named = record {
    request = λ work q r range k at may e.
        let mine : q.client ≡ id = k.name.own q r at in
        named_client work _ _ q (Some (client_sends s (now_of work) r)) mine (request_leaves-move s q work r range (mine ∙ sym k.name.name)) k;
    response = λ work q row response out order base count range k at is e. named_beside work _ _ _ (response_leaves-move s q work row _ range) k;
  }

  ended_named : (work : Work) → IsOwnStep id work → IsOwnStep id (ended s work)
  ended_named work k = ended_kept s (IsOwnStep id) grants_named pieces_named work k

  pub acted_named : (work : Work) (place : Place) (at : ℕ) → IsOwnStep id work → IsTimerAt s work.host at place → at ≤ now_of work
      → IsOwnStep id (acts_at s place work)
  acted_named work (OfClient q) at k timer past =
      subst (λ o. IsOwnStep id (client_acted s q o work)) (sym timer.1)
      (named_asked work q (timer.0).server (client_acts s (moment s q work) q timer.0) (k.name.own q timer.0 timer.1)
      (client_acts_quiet s (moment s q work) q timer.0).0 k)
  acted_named work (OfServer q) at k timer past =
      subst (λ o. IsOwnStep id (server_acted s q o work)) (sym timer.1)
      (named_served work q (server_acts s (moment s q work) q timer.0) (server_acts_own s (moment s q work) q timer.0) k)

  -- ---- a packet comes

  row_named : (p : Packet) (answer : Answer) (role : Role) (work : Work) → receiver_of role p.id p.server ≡ id → IsOwnStep id work
      → IsOwnStep id (comes_to_row s p answer role work)
  row_named p answer Client work at k = named_served work p.id _ (gets_own s (moment s p.id work) p answer (get work.host.servers p.id)) k
  row_named p answer Server work at k = named_asked work p.id p.server _ at (gets_quiet s (moment s p.id work) p (get work.host.clients p.id)).0 k

  takes_named : (p : Packet) (answer : Answer) (work : Work) → receiver p ≡ id → IsOwnStep id work → IsOwnStep id (takes s p answer work)
  unfolding takes
  takes_named p answer work at k =
      acked_kept s (IsOwnStep id) (λ now q l. named_served now q _ (acked_own s (moment s q now) q (get now.host.servers q)) l) (acks p) _
      (row_named p answer p.role (hears_cutoffs s (sender p) p.inc p.body work) at
      (named_beside work (hears_cutoffs s (sender p) p.inc p.body work) [] work.host.servers (hears-move s (sender p) p.inc p.body work) k))

  comes_named : (o : Option Packet) (answer : Answer) (work : Work) → IfSome o (λ p. receiver p ≡ id) → IsOwnStep id work → IsOwnStep id (comes s o answer work)
  comes_named None answer work at k = named_beside work _ _ work.host.servers (says-move (PlainJunk work.host.id) work tt) k
  comes_named (Some p) answer work at k =
      cond_both (is_stale s (now_of work) p) _ _ (IsOwnStep id)
      (λ _. named_beside work _ _ work.host.servers (says-move (PlainStale work.host.id p.at (now_of work)) work tt) k) (λ _. takes_named p answer work at k)

  -- ---- steps

  pub begun_named : (h : Host) (now : ℕ) → HasOwnName id h → IsOwnStep id (begun h now)
  begun_named h now k = record { name = record { name = k.name; own = k.own }; by = tt; said = tt }

  pub started_named : (h : Host) (now : ℕ) (server : HostId) (service : ℕ) (request : List ℕ) → HasOwnName id h
      → IsOwnStep id (starts s server service request (begun h now))
  started_named h now server service request k = record {
    name = record { name = k.name; own = own_set id h.clients (next_id h) (Some (new_call s now h.order server service request)) k.name k.own };
    by = tt;
    said = (tt, tt);
  }

  pub call_named : (h : Host) (now : ℕ) (server : HostId) (service : ℕ) (request : List ℕ) → HasOwnName id h
      → IsOwnStep id (call_step s h now server service request)
  unfolding call_step
  call_named h now server service request k = ended_named (starts s server service request (begun h now)) (started_named h now server service request k)

  pub arrival_named : (h : Host) (now : ℕ) (o : Option Packet) (answer : Answer) → HasOwnName id h → IfSome o (λ p. receiver p ≡ id)
      → IsOwnStep id (arrival_step s h now o answer)
  unfolding arrival_step
  arrival_named h now o answer k at = ended_named (comes s o answer (begun h now)) (comes_named o answer (begun h now) at (begun_named h now k))

  -- a turn fills the credit up
  pub filled_named : (h : Host) (now : ℕ) → HasOwnName id h → HasOwnName id (refilled s (record h { last = now }))
  filled_named h now k =
      cond_both (nat_lt h.refilled now) (record h { last = now; credit = s.rate; refilled = now }) (record h { last = now }) (HasOwnName id)
      (λ _. record { name = k.name; own = k.own }) (λ _. record { name = k.name; own = k.own })

  pub turn_named : 1 ≤ s.resend → (h : Host) (now : ℕ) → HasOwnName id h → IsOwnStep id (turn_step s h now)
  unfolding turn_step
  turn_named resend h now k =
      let filled : Host = refilled s (record h { last = now }) in
      ended_named (acts s (begun filled now)) (turn_kept s (IsOwnStep id) acted_named resend (begun filled now) (begun_named filled now (filled_named h now k)))

  pub new_named : (inc last : ℕ) → HasOwnName id (new_host s id inc last)
  new_named inc last = record { name = refl; own = λ q r is. absurd (none_some r (sym (get-empty call_cmp q) ∙ is)) }

-- ---- numbers

renumbered : (n k : ℕ) (told : List Told) → AllByRecursion IsOfStep told → entries_from (n + k) told ≡ map (numbered n) (entries_from k told)
renumbered n k [] all = refl
renumbered n k (Says entry ∷ told) all = (λ i. by_entry entry all.0 i ∷ renumbered n k told all.1 i) where
  by_entry : (entry : PlainEntry) → IsOfStep (Says entry) → entry ≡ numbered n entry
  by_entry (PlainSend number from to inc role id level what payload) none = absurd none
  by_entry entry none = refl
renumbered n k (Sends p ∷ told) all =
    let next : suc (n + k) ≡ n + suc k = omega arith in
    ap (λ es. send_line (n + k) p ∷ es) (ap (λ m. entries_from m told) next ∙ renumbered n (suc k) told all.1)

pub renumber : (n : ℕ) (told : List Told) → AllByRecursion IsOfStep told → entries_from n told ≡ map (numbered n) (entries_from 0 told)
renumber n told all = let same : n ≡ n + 0 = omega arith in ap (λ m. entries_from m told) same ∙ renumbered n 0 told all
