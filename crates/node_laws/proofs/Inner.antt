-- What each step of a host tells: only lines within a step, behind the line of a call.
use Rattle.std.proofs.Common.{◌≡◌, ℕ, ◌≤◌, Bool, true, false, length, Option, Some, None, List, [], ◌∷◌, ◌++◌, append_assoc, refl, sym, ap, subst, ◌∙◌}
use Rattle.std.specs.Prelude.{nat_lt, ◌==◌}
use Rattle.std.specs.Option.{IfSome}
use Rattle.std.proofs.lemmas.Bool.{cond_both}
use Rattle.plain_sets.specs.Maps.{get}
use Rattle.plain_sets.proofs.MapLaws.{get-empty}
use Rattle.homa_plain.specs.declared.id.CallId.{CallId}
use Rattle.homa_plain.specs.declared.id.HostId.{HostId}
use Rattle.homa_plain.specs.declared.packet.Role.{Role}
use Rattle.homa_plain.specs.declared.packet.Role.TheVariants.{Client, Server}
use Rattle.homa_plain.specs.declared.settings.Settings.{Settings}
use Rattle.homa_plain.specs.Calls.{call_cmp}
use Rattle.homa_plain.specs.Entries.{PlainEntry, PlainCall, PlainRun, PlainDone, PlainFail, PlainDrop, PlainGaps, PlainBury, PlainFree, PlainFullRows}
use Rattle.homa_plain.specs.Entries.{PlainFullPages, PlainBalance, PlainJunk, PlainStale}
use Rattle.homa_plain.specs.Packets.{Packet, sender, receiver, receiver_of, acks}
use Rattle.homa_plain.specs.Rows.{ClientRow, ServerRow, RowsOf, set_row}
use Rattle.homa_plain.specs.Host.{Host, new_host, Told, Says, Sends, Tuned, tuned, is_balance_due, counted, finished_at}
use Rattle.homa_plain.specs.Rules.{Answer, Say, Tells, Posts, Did}
use Rattle.homa_plain.specs.Timers.{Place, OfClient, OfServer, client_acts, server_acts}
use Rattle.homa_plain.specs.Sending.{client_granted, client_sends}
use Rattle.homa_plain.specs.Work.{Work, begun, now_of, said}
use Rattle.homa_plain.specs.Steps.{moment, asked, served, comes_to_row, takes, comes, client_acted}
use Rattle.homa_plain.specs.CutoffsPackets.{hears_cutoffs}
use Rattle.homa_plain.specs.OldPackets.{is_stale}
use Rattle.homa_plain.specs.Steps.{server_acted, acts_at, acts, ended, next_id, new_call, starts, call_step, arrival_step, turn_step}
use Rattle.homa_plain.specs.Credit.{refilled}
use Rattle.step_moves.specs.Worlds.{HasOwnName}
use Rattle.step_moves.proofs.Inner.{inner-append, AllInner}
use Rattle.step_laws.proofs.Own.{IsOwn, AllOwn, gets_own, acked_own, server_acts_own, gets_quiet, client_acts_quiet}
use Rattle.step_moves.proofs.Moves.{IsMove, notes_told, reply_told, acknowledged_told, finishes_told, served_put, served_noted, served_told, served-move}
use Rattle.step_moves.proofs.AskedMove.{asked_put, asked_noted, asked_said, asked_told, asked-move}
use Rattle.step_moves.proofs.SendMoves.{server_granted-move, client_granted-move, response_leaves-move, request_leaves-move, says-move, hears-move}
use Rattle.step_moves.proofs.Hosts.{none_some}
use Rattle.step_moves.proofs.Names.{own_set}
use Rattle.step_moves.proofs.Chosen.{IsTimerAt}
use Rattle.step_moves.proofs.Folds.{acked_kept, turn_kept, ended_kept, GrantKeeps, PieceKeeps}

-- ---- lines of one host

-- a line is of no host but this one
abbrev pub IsAt : HostId → PlainEntry → Type 0
IsAt id (PlainRun host q service request response hold) = host ≡ id
IsAt id (PlainDrop host q) = host ≡ id
IsAt id (PlainGaps host q) = host ≡ id
IsAt id (PlainBury host q until) = host ≡ id
IsAt id (PlainFree host q) = host ≡ id
IsAt id (PlainFullRows host q rows limit) = host ≡ id
IsAt id (PlainFullPages host q need free) = host ≡ id
IsAt id (PlainBalance host cutoffs) = host ≡ id
IsAt id (PlainJunk host) = host ≡ id
IsAt id (PlainStale host at now) = host ≡ id
IsAt id entry = Unit {0}

abbrev pub AllAt : HostId → List Told → Type 0
AllAt id [] = Unit {0}
AllAt id (Says entry ∷ told) = IsAt id entry × AllAt id told
AllAt id (Sends packet ∷ told) = AllAt id told

at-append : (id : HostId) (a b : List Told) → AllAt id a → AllAt id b → AllAt id (a ++ b)
at-append id [] b x y = y
at-append id (Says entry ∷ a) b x y = (x.0, at-append id a b x.1 y)
at-append id (Sends packet ∷ a) b x y = at-append id a b x y

own_at : (id : HostId) (q : CallId) (entry : PlainEntry) → IsOwn id q entry → IsAt id entry
own_at id q (PlainRun host p service request response hold) own = own.0
own_at id q (PlainDrop host p) own = own.0
own_at id q (PlainGaps host p) own = own.0
own_at id q (PlainBury host p until) own = own.0
own_at id q (PlainFree host p) own = own.0
own_at id q (PlainFullRows host p rows limit) own = own.0
own_at id q (PlainFullPages host p need free) own = own.0
own_at id q (PlainDone p bytes) own = tt
own_at id q (PlainFail p why) own = tt
own_at id q entry own = absurd own

module _ (s : Settings) where
  said_at : (h : Host) (role : Role) (q : CallId) (server id : HostId) (says : List Say) → AllOwn id q says → AllAt id (said s h role q server says)
  said_at h role q server id [] own = tt
  said_at h role q server id (Tells entry ∷ says) own = (own_at id q entry own.0, said_at h role q server id says own.1)
  said_at h role q server id (Posts what ∷ says) own = said_at h role q server id says own

  notes_at : (o : Option ℕ) (w : Work) (id : HostId) → w.host.id ≡ id → AllAt id (notes_told s o w)
  unfolding tuned
  notes_at None w id name = tt
  notes_at (Some n) w id name = cond_both (is_balance_due s (counted w.host.tuning n)) _ _ (λ (t : Tuned). AllAt id t.told) (λ _. (name, tt)) (λ _. tt)

  reply_at : (role : Role) (q : CallId) (server : HostId) (o : Option ℕ) (w : Work) (id : HostId) → AllAt id (reply_told s role q server o w)
  reply_at role q server None w id = tt
  reply_at role q server (Some version) w id = cond_both (version == w.host.tuning.own.version) _ _ (AllAt id) (λ _. tt) (λ _. tt)

  acknowledged_at : (server : HostId) (calls : List (ℕ × ℕ)) (w : Work) (id : HostId) → AllAt id (acknowledged_told s server calls w)
  acknowledged_at server [] w id = tt
  acknowledged_at server (call ∷ calls) w id = cond_both (nat_lt (length calls) 4) _ _ (AllAt id) (λ _. tt) (λ _. tt)

  finishes_at : (q : CallId) (server : HostId) (done : Bool) (w : Work) (id : HostId) → AllAt id (finishes_told s q server done w)
  finishes_at q server false w id = tt
  finishes_at q server true w id = acknowledged_at server (finished_at w.host server ++ (q.inc, q.seq) ∷ []) w id

  -- what rules tell
  served_at : (q : CallId) (did : Did ServerRow) (w : Work) (id : HostId) → w.host.id ≡ id → AllOwn id q did.says → AllAt id (served_told s q did w)
  served_at q did w id name own =
      let noted = served_noted s q did w in
      let says = said s w.host Server q w.host.id did.says in
      let reply = reply_told s Server q w.host.id did.version noted in
      at-append id (notes_told s did.opened (served_put s q did w)) (reply ++ says) (notes_at did.opened (served_put s q did w) id name)
      (at-append id reply says (reply_at Server q w.host.id did.version noted id) (said_at w.host Server q w.host.id id did.says own))

  asked_at : (q : CallId) (server : HostId) (did : Did ClientRow) (w : Work) (id : HostId) → w.host.id ≡ id → AllOwn id q did.says
      → AllAt id (asked_told s q server did w)
  asked_at q server did w id name own =
      let noted = asked_noted s q server did w in
      let says = said s w.host Client q server did.says in
      let reply = reply_told s Client q server did.version noted in
      let ends = finishes_told s q server did.finished (asked_said s q server did w) in
      at-append id (notes_told s did.opened (asked_put s q server did w)) (reply ++ (says ++ ends)) (notes_at did.opened (asked_put s q server did w) id name)
      (at-append id reply (says ++ ends) (reply_at Client q server did.version noted id)
      (at-append id says ends (said_at w.host Client q server id did.says own) (finishes_at q server did.finished (asked_said s q server did w) id)))

-- ---- what a step tells: some lines first, and inner lines behind them

-- a step of a host: the host keeps its name, and behind `first` only lines within a step are told, of this host
pub record IsInside (id : HostId) (first : List Told) (work : Work) : Type 0 where
  pub name : HasOwnName id work.host
  pub rest : List Told
  pub told : work.told ≡ first ++ rest
  pub inner : AllInner rest
  pub at : AllAt id rest

module _ (s : Settings) (id : HostId) (first : List Told) where
  named_move : (work new : Work) (told : List Told) (clients : RowsOf ClientRow) (servers : RowsOf ServerRow) → IsMove work new told clients servers
      → AllAt id told → ((q : CallId) (r : ClientRow) → get clients q ≡ Some r → q.client ≡ id) → IsInside id first work → IsInside id first new
  named_move work new told clients servers m at own k = record {
    name = record { name = m.id ∙ k.name.name; own = λ q r is. own q r (ap (λ (rows : RowsOf ClientRow). get rows q) (sym m.at_clients) ∙ is) };
    rest = k.rest ++ told;
    told = m.grown ∙ ap (λ (t : List Told). t ++ told) k.told ∙ append_assoc first k.rest told;
    inner = inner-append k.rest told k.inner m.inner;
    at = at-append id k.rest told k.at at;
  }

  pub named_beside : (work new : Work) (told : List Told) (servers : RowsOf ServerRow) → IsMove work new told work.host.clients servers → AllAt id told
      → IsInside id first work → IsInside id first new
  named_beside work new told servers m at k = named_move work new told work.host.clients servers m at k.name.own k

  named_client : (work new : Work) (told : List Told) (q : CallId) (o : Option ClientRow) → q.client ≡ id
      → IsMove work new told (set_row work.host.clients q o) work.host.servers → AllAt id told → IsInside id first work → IsInside id first new
  named_client work new told q o mine m at k =
      named_move work new told (set_row work.host.clients q o) work.host.servers m at (own_set id work.host.clients q o mine k.name.own) k

  pub named_served : (work : Work) (q : CallId) (did : Did ServerRow) → AllOwn work.host.id q did.says → IsInside id first work
      → IsInside id first (served s q did work)
  named_served work q did own k =
      named_beside work (served s q did work) (served_told s q did work) (set_row work.host.servers q did.row) (served-move s q did work own)
      (served_at s q did work id k.name.name (subst (λ (h : HostId). AllOwn h q did.says) k.name.name own)) k

  pub named_asked : (work : Work) (q : CallId) (server : HostId) (did : Did ClientRow) → q.client ≡ id → AllOwn q.client q did.says → IsInside id first work
      → IsInside id first (asked s q server did work)
  named_asked work q server did mine own k =
      named_client work (asked s q server did work) (asked_told s q server did work) q did.row mine
      (asked-move s q server did work (mine ∙ sym k.name.name) own)
      (asked_at s q server did work id k.name.name (subst (λ (h : HostId). AllOwn h q did.says) mine own)) k

  -- ---- the end of a step, and its acts

  pub grants_named : GrantKeeps s (IsInside id first)
  grants_named = record {
    response = λ work q r part offset prio k at has o m.
        let mine : q.client ≡ id = k.name.own q r at in
        named_client work _ _ q (Some (client_granted (now_of work) offset r)) mine (client_granted-move s q work offset prio r (mine ∙ sym k.name.name)) tt k;
    request = λ work q row service part base count offset prio k at is o m. named_beside work _ _ _ (server_granted-move s q work offset prio row) tt k;
  }

  pub pieces_named : PieceKeeps s (IsInside id first)
  pieces_named = record {
    request = λ work q r range k at may e.
        let mine : q.client ≡ id = k.name.own q r at in
        named_client work _ _ q (Some (client_sends s (now_of work) r)) mine (request_leaves-move s q work r range (mine ∙ sym k.name.name)) tt k;
    response = λ work q row response out order base count range k at is e. named_beside work _ _ _ (response_leaves-move s q work row _ range) tt k;
  }

  ended_named : (work : Work) → IsInside id first work → IsInside id first (ended s work)
  ended_named work k = ended_kept s (IsInside id first) grants_named pieces_named work k

  pub acted_named : (work : Work) (place : Place) (at : ℕ) → IsInside id first work → IsTimerAt s work.host at place → at ≤ now_of work
      → IsInside id first (acts_at s place work)
  acted_named work (OfClient q) at k timer past =
      subst (λ o. IsInside id first (client_acted s q o work)) (sym timer.1)
      (named_asked work q (timer.0).server (client_acts s (moment s q work) q timer.0) (k.name.own q timer.0 timer.1)
      (client_acts_quiet s (moment s q work) q timer.0).0 k)
  acted_named work (OfServer q) at k timer past =
      subst (λ o. IsInside id first (server_acted s q o work)) (sym timer.1)
      (named_served work q (server_acts s (moment s q work) q timer.0) (server_acts_own s (moment s q work) q timer.0) k)

  -- ---- a packet comes

  row_named : (p : Packet) (answer : Answer) (role : Role) (work : Work) → receiver_of role p.id p.server ≡ id → IsInside id first work
      → IsInside id first (comes_to_row s p answer role work)
  row_named p answer Client work at k = named_served work p.id _ (gets_own s (moment s p.id work) p answer (get work.host.servers p.id)) k
  row_named p answer Server work at k = named_asked work p.id p.server _ at (gets_quiet s (moment s p.id work) p (get work.host.clients p.id)).0 k

  takes_named : (p : Packet) (answer : Answer) (work : Work) → receiver p ≡ id → IsInside id first work → IsInside id first (takes s p answer work)
  unfolding takes
  takes_named p answer work at k =
      acked_kept s (IsInside id first) (λ now q l. named_served now q _ (acked_own s (moment s q now) q (get now.host.servers q)) l) (acks p) _
      (row_named p answer p.role (hears_cutoffs s (sender p) p.inc p.body work) at
      (named_beside work (hears_cutoffs s (sender p) p.inc p.body work) [] work.host.servers (hears-move s (sender p) p.inc p.body work) tt k))

  comes_named : (o : Option Packet) (answer : Answer) (work : Work) → IfSome o (λ p. receiver p ≡ id) → IsInside id first work
      → IsInside id first (comes s o answer work)
  comes_named None answer work at k = named_beside work _ _ work.host.servers (says-move (PlainJunk work.host.id) work tt) (k.name.name, tt) k
  comes_named (Some p) answer work at k =
      cond_both (is_stale s (now_of work) p) _ _ (IsInside id first)
      (λ _. named_beside work _ _ work.host.servers (says-move (PlainStale work.host.id p.at (now_of work)) work tt) (k.name.name, tt) k)
      (λ _. takes_named p answer work at k)

  -- ---- the end of a step

  pub step_inside : (work : Work) → IsInside id first work → IsInside id first (ended s work)
  step_inside work k = ended_named work k

-- ---- steps

module _ (s : Settings) (id : HostId) where
  begun_inside : (h : Host) (now : ℕ) → HasOwnName id h → IsInside id [] (begun h now)
  begun_inside h now k = record { name = record { name = k.name; own = k.own }; rest = []; told = refl; inner = tt; at = tt }

  -- the line of a call
  abbrev pub call_line : Host → HostId → ℕ → List ℕ → List Told
  call_line h server service request = Says (PlainCall (next_id h) server service request) ∷ []

  started_inside : (h : Host) (now : ℕ) (server : HostId) (service : ℕ) (request : List ℕ) → HasOwnName id h
      → IsInside id (call_line h server service request) (starts s server service request (begun h now))
  started_inside h now server service request k = record {
    name = record { name = k.name; own = own_set id h.clients (next_id h) (Some (new_call s now h.order server service request)) k.name k.own };
    rest = [];
    told = refl;
    inner = tt;
    at = tt;
  }

  pub call_inside : (h : Host) (now : ℕ) (server : HostId) (service : ℕ) (request : List ℕ) → HasOwnName id h
      → IsInside id (call_line h server service request) (call_step s h now server service request)
  unfolding call_step
  call_inside h now server service request k =
      step_inside s id (call_line h server service request) (starts s server service request (begun h now)) (started_inside h now server service request k)

  pub arrival_inside : (h : Host) (now : ℕ) (o : Option Packet) (answer : Answer) → HasOwnName id h → IfSome o (λ p. receiver p ≡ id)
      → IsInside id [] (arrival_step s h now o answer)
  unfolding arrival_step
  arrival_inside h now o answer k at =
      step_inside s id [] (comes s o answer (begun h now)) (comes_named s id [] o answer (begun h now) at (begun_inside h now k))

  -- a turn fills the credit up
  filled_named : (h : Host) (now : ℕ) → HasOwnName id h → HasOwnName id (refilled s (record h { last = now }))
  filled_named h now k =
      cond_both (nat_lt h.refilled now) (record h { last = now; credit = s.rate; refilled = now }) (record h { last = now }) (HasOwnName id)
      (λ _. record { name = k.name; own = k.own }) (λ _. record { name = k.name; own = k.own })

  pub turn_inside : 1 ≤ s.resend → (h : Host) (now : ℕ) → HasOwnName id h → IsInside id [] (turn_step s h now)
  unfolding turn_step
  turn_inside resend h now k =
      let filled : Host = refilled s (record h { last = now }) in
      step_inside s id [] (acts s (begun filled now))
      (turn_kept s (IsInside id []) (acted_named s id []) resend (begun filled now) (begun_inside filled now (filled_named h now k)))

  pub new_named : (inc last : ℕ) → HasOwnName id (new_host s id inc last)
  new_named inc last = record { name = refl; own = λ q r is. absurd (none_some r (sym (get-empty call_cmp q) ∙ is)) }
