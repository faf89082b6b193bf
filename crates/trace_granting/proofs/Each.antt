-- What is so of each message's number at a host and of its part by the lines, where it stays so when they stay or vanish: a step's moves keep it.
use Rattle.std.proofs.Common.{◌≡◌, ℕ, suc, ◌≤◌, Bool, true, false, ◌&&◌, ◌||◌, not, ◌⊎◌, Option, Some, None, List, [], ◌∷◌, inl, inr, refl, sym, ap}
use Rattle.std.proofs.Common.{subst, ◌∙◌, arith}
use Rattle.std.specs.Prelude.{nat_lt}
use Rattle.std.specs.Option.{option_map, option_and_then}
use Rattle.std.proofs.lemmas.Bool.{cond_both}
use Rattle.plain_sets.specs.Maps.{get, insert, remove}
use Rattle.homa_plain.specs.declared.id.CallId.{CallId}
use Rattle.homa_plain.specs.declared.id.HostId.{HostId}
use Rattle.homa_plain.specs.declared.packet.Role.{Role}
use Rattle.homa_plain.specs.declared.packet.Role.TheVariants.{Client, Server}
use Rattle.homa_plain.specs.declared.packet.Body.{Body}
use Rattle.homa_plain.specs.declared.packet.Body.TheVariants as body
use Rattle.homa_plain.specs.declared.entry.Why.{Why}
use Rattle.homa_plain.specs.declared.entry.Why.TheVariants.{Timeout, Forgotten}
use Rattle.homa_plain.specs.declared.settings.Settings.{Settings}
use Rattle.homa_plain.specs.Wire.{is_client, is_server}
use Rattle.homa_plain.specs.Calls.{is_call}
use Rattle.homa_plain.specs.Entries.{PlainEntry, PlainCall, PlainRun, PlainDone, PlainFail, PlainDrop, PlainGaps, PlainBury, PlainFree, PlainFullRows}
use Rattle.homa_plain.specs.Entries.{PlainFullPages, PlainBalance, PlainJunk}
use Rattle.homa_plain.specs.Incoming.{Incoming}
use Rattle.homa_plain.specs.Packets.{Packet, send_line}
use Rattle.trace_rules.specs.Parts.{Part, Parts, raised, changed}
use Rattle.homa_plain.specs.Rows.{ClientRow, ServerRow, State, Receiving, Held, Replying, Buried, RowsOf, set_row}
use Rattle.homa_plain.specs.Host.{Host, Told, Says, Sends, entries_from}
use Rattle.homa_plain.specs.Rules.{Say, Tells, Posts, Did, Moment}
use Rattle.homa_plain.specs.Tombstones.{server_acked, state_acked}
use Rattle.homa_plain.specs.Timers.{Place, OfClient, OfServer, client_acts, server_acts, state_acts}
use Rattle.homa_plain.specs.Sending.{client_sends, state_sends, granted_part, state_granted}
use Rattle.homa_plain.specs.Work.{Work, now_of}
use Rattle.homa_plain.specs.Steps.{moment, served, asked, acked, acts, acts_at, client_acted, server_acted, ended}
use Rattle.homa_plain.specs.Work.{said as said_by}
use Rattle.trace_rules.specs.View.{View, Sent, Progress, is_server_of, sent_last, own_tick, resends_of, has_run}
use Rattle.trace_rules.specs.Seen.{seen, seen_all, refused, failed, finished, dropped, said, renewed, is_delivery_to}
use Rattle.homa_plain.specs.World.{World}
use Rattle.homa_plain.proofs.CallOrder.{calls_are}
use Rattle.trace_steps.specs.Told.{sent_of}
use Rattle.trace_steps.proofs.Progress.{IsUnstale, AllUnstale, unstale-append}
use Rattle.trace_steps.proofs.Runs.{runs_told}
use Rattle.step_laws.proofs.Own.{IsOwn, AllOwn, acked_own, server_acts_own, client_acts_quiet}
use Rattle.trace_steps.proofs.Progress.{get-gone, get-changed}
use Rattle.step_moves.proofs.Moves.{IsMove, notes_told, reply_told, served_put, served_noted, served_told, served-move}
use Rattle.step_moves.proofs.AskedMove.{asked_put, asked_noted, asked_said, asked_told, asked-move}
use Rattle.step_moves.proofs.SendMoves.{server_granted-move, client_granted-move, request_leaves-move, response_leaves-move}
use Rattle.step_laws.specs.StepLaws.{number_at, response_order, request_order, arriving_in}
use Rattle.step_laws.proofs.Others.{get-set_row, set_row-others}
use Rattle.trace_steps.specs.Stands.{said_so_far}
use Rattle.trace_steps.proofs.Frame.{next_number, move_said, move_ran}
use Rattle.step_moves.proofs.Names.{own_set}
use Rattle.step_moves.proofs.Chosen.{IsTimerAt}
use Rattle.step_moves.proofs.Folds.{acked_kept, turn_kept, GrantKeeps, PieceKeeps, ended_kept}
use Rattle.trace_returned.proofs.Calm.{calm_notes, calm_reply, calm_finishes}
use Rattle.trace_granting.proofs.Messages.{part_in}
use Rattle.trace_granting.proofs.Window.{IsLate, AllLate}
use Rattle.trace_granting.proofs.RuleSays.{server_acts_other, client_acts_other, served_late, asked_late}

-- ---- what the rules leave of a number

abbrev pub Stays : Option ℕ → Option ℕ → Type 0
Stays old new = (new ≡ None) ⊎ (new ≡ old)

abbrev pub response_number : Option ClientRow → Option ℕ
response_number o = option_and_then response_order o

abbrev pub request_number : Option ServerRow → Option ℕ
request_number o = option_and_then request_order o

module _ (s : Settings) (m : Moment) (id : CallId) where
  acked_state : (row : ServerRow) (state : State) → Stays (arriving_in row.state) (request_number (state_acked s m id row state).row)
  acked_state row (Receiving service part base count) = inr refl
  acked_state row (Held response release) = inl refl
  acked_state row (Replying response out order base count) = inl refl
  acked_state row (Buried until) = inr refl

  acked_stays : (o : Option ServerRow) → Stays (request_number o) (request_number (server_acked s m id o).row)
  unfolding server_acked
  acked_stays None = inl refl
  acked_stays (Some row) = acked_state row row.state

  acts_state : (row : ServerRow) (state : State) → row.state ≡ state → Stays (arriving_in row.state) (request_number (state_acts s m id row state).row)
  acts_state row (Receiving service part base count) e =
      cond_both (nat_lt count s.tries) _ _ (λ (d : Did ServerRow). Stays (arriving_in row.state) (request_number d.row))
      (λ _. inr (sym (ap arriving_in e))) (λ _. inl refl)
  acts_state row (Held response release) e = inl refl
  acts_state row (Replying response out order base count) e =
      cond_both (nat_lt count s.tries) _ _ (λ (d : Did ServerRow). Stays (arriving_in row.state) (request_number d.row)) (λ _. inl refl) (λ _. inl refl)
  acts_state row (Buried until) e = inl refl

  server_stays : (row : ServerRow) → Stays (request_number (Some row)) (request_number (server_acts s m id row).row)
  server_stays row = acts_state row row.state refl

  client_stays : (r : ClientRow) → Stays (response_number (Some r)) (response_number (client_acts s m id r).row)
  client_stays r =
      cond_both (nat_lt r.count s.tries) _ _ (λ (d : Did ClientRow). Stays (response_order r) (response_number d.row)) (λ _. inr refl) (λ _. inl refl)

sends_stays : (s : Settings) (now : ℕ) (r : ClientRow) → response_order (client_sends s now r) ≡ response_order r
sends_stays s now r = cond_both (nat_lt r.out.top r.out.length) _ _ (λ (x : ClientRow). response_order x ≡ response_order r) (λ _. refl) (λ _. refl)

-- ---- no move tells `stale`

said_unstale : (s : Settings) (h : Host) (role : Role) (id q : CallId) (host server : HostId) (says : List Say) → AllOwn host q says
    → AllUnstale (said_by s h role id server says)
said_unstale s h role id q host server [] own = tt
said_unstale s h role id q host server (Tells entry ∷ says) own = (by_entry entry own.0, said_unstale s h role id q host server says own.1) where
  by_entry : (entry : PlainEntry) → IsOwn host q entry → IsUnstale entry
  by_entry (PlainRun host q service request response hold) own = tt
  by_entry (PlainDone q bytes) own = tt
  by_entry (PlainFail q why) own = tt
  by_entry (PlainDrop host q) own = tt
  by_entry (PlainGaps host q) own = tt
  by_entry (PlainBury host q until) own = tt
  by_entry (PlainFree host q) own = tt
  by_entry (PlainFullRows host q rows limit) own = tt
  by_entry (PlainFullPages host q need free) own = tt
  by_entry line own = absurd own
said_unstale s h role id q host server (Posts what ∷ says) own = said_unstale s h role id q host server says own

served_unstale : (s : Settings) (id : CallId) (did : Did ServerRow) (w : Work) → AllOwn w.host.id id did.says → AllUnstale (served_told s id did w)
served_unstale s id did w own =
    unstale-append (notes_told s did.opened (served_put s id did w)) _ (calm_notes s did.opened (served_put s id did w)).unstale
    (unstale-append (reply_told s Server id w.host.id did.version (served_noted s id did w)) _
    (calm_reply s Server id w.host.id did.version (served_noted s id did w)).unstale (said_unstale s w.host Server id id w.host.id w.host.id did.says own))

asked_unstale : (s : Settings) (id : CallId) (server : HostId) (did : Did ClientRow) (w : Work) → AllOwn id.client id did.says
    → AllUnstale (asked_told s id server did w)
asked_unstale s id server did w own =
    unstale-append (notes_told s did.opened (asked_put s id server did w)) _ (calm_notes s did.opened (asked_put s id server did w)).unstale
    (unstale-append (reply_told s Client id server did.version (asked_noted s id server did w)) _
    (calm_reply s Client id server did.version (asked_noted s id server did w)).unstale
    (unstale-append (said_by s w.host Client id server did.says) _ (said_unstale s w.host Client id id id.client server did.says own)
    (calm_finishes s id server did.finished (asked_said s id server did w)).unstale))

-- ---- numbers

module _ (N : Place → Option ℕ → Type 0) (none : (q : Place) → N q None) where
  abbrev pub AllNumbers : Host → Type 0
  AllNumbers h = (q : Place) → N q (number_at response_order request_order h q)

  pub number_stays : (q : Place) (old new : Option ℕ) → Stays old new → N q old → N q new
  number_stays q old new (inl e) k = subst (N q) (sym e) (none q)
  number_stays q old new (inr e) k = subst (N q) (sym e) k

  pub numbers_same : (h k : Host) → k.clients ≡ h.clients → k.servers ≡ h.servers → AllNumbers h → AllNumbers k
  numbers_same h k a b all (OfClient q) = subst (λ (rows : RowsOf ClientRow). N (OfClient q) (response_number (get rows q))) (sym a) (all (OfClient q))
  numbers_same h k a b all (OfServer q) = subst (λ (rows : RowsOf ServerRow). N (OfServer q) (request_number (get rows q))) (sym b) (all (OfServer q))

  pub set_server : (h k : Host) (id : CallId) (o : Option ServerRow) → k.clients ≡ h.clients → k.servers ≡ set_row h.servers id o
      → N (OfServer id) (request_number o) → AllNumbers h → AllNumbers k
  set_server h k id o a b new all (OfClient q) = subst (λ (rows : RowsOf ClientRow). N (OfClient q) (response_number (get rows q))) (sym a) (all (OfClient q))
  set_server h k id o a b new all (OfServer q) =
      subst (λ (rows : RowsOf ServerRow). N (OfServer q) (request_number (get rows q))) (sym b) (by_call (is_call q id) refl) where
        by_call : (t : Bool) → is_call q id ≡ t → N (OfServer q) (request_number (get (set_row h.servers id o) q))
        by_call false e = subst (λ x. N (OfServer q) (request_number x)) (sym (set_row-others h.servers id o q e)) (all (OfServer q))
        by_call true e =
            let same : q ≡ id = (calls_are q id).0 e in
            subst (λ (x : CallId). N (OfServer x) (request_number (get (set_row h.servers id o) x))) (sym same)
            (subst (λ x. N (OfServer id) (request_number x)) (sym (get-set_row h.servers id o)) new)

  pub set_client : (h k : Host) (id : CallId) (o : Option ClientRow) → k.clients ≡ set_row h.clients id o → k.servers ≡ h.servers
      → N (OfClient id) (response_number o) → AllNumbers h → AllNumbers k
  set_client h k id o a b new all (OfServer q) = subst (λ (rows : RowsOf ServerRow). N (OfServer q) (request_number (get rows q))) (sym b) (all (OfServer q))
  set_client h k id o a b new all (OfClient q) =
      subst (λ (rows : RowsOf ClientRow). N (OfClient q) (response_number (get rows q))) (sym a) (by_call (is_call q id) refl) where
        by_call : (t : Bool) → is_call q id ≡ t → N (OfClient q) (response_number (get (set_row h.clients id o) q))
        by_call false e = subst (λ x. N (OfClient q) (response_number x)) (sym (set_row-others h.clients id o q e)) (all (OfClient q))
        by_call true e =
            let same : q ≡ id = (calls_are q id).0 e in
            subst (λ (x : CallId). N (OfClient x) (response_number (get (set_row h.clients id o) x))) (sym same)
            (subst (λ x. N (OfClient id) (response_number x)) (sym (get-set_row h.clients id o)) new)

-- ---- parts

module _ (P : Place → Option Part → Type 0) (none : (q : Place) → P q None)
    (raises : (q : Place) (x : Part) (from to : HostId) (offset : ℕ) → P q (Some x) → P q (Some (raised from to offset x))) where
  abbrev pub AllParts : Progress → Type 0
  AllParts m = (q : Place) → P q (part_in m q)

  -- whether the block's delivery is refused or not
  pub record EachWay (v : View) : Type 0 where
    pub now : AllParts v.now
    pub if_refused : AllParts v.if_refused

  pub gone : (parts : Parts) (id q : CallId) (at : Place) → P at (get parts q) → P at (get (remove parts id) q)
  gone parts id q at k = subst (P at) (sym (get-gone parts id q)) (cond_both (is_call q id) None (get parts q) (P at) (λ _. none at) (λ _. k))

  raise : (parts : Parts) (id q : CallId) (at : Place) (from to : HostId) (offset : ℕ) → P at (get parts q)
      → P at (get (changed (raised from to offset) parts id) q)
  raise parts id q at from to offset k =
      subst (P at) (sym (get-changed (raised from to offset) parts id q))
      (cond_both (is_call q id) _ (get parts q) (P at) (λ _. by_part (get parts q) k) (λ _. k)) where
        by_part : (o : Option Part) → P at o → P at (option_map (raised from to offset) o)
        by_part None k = none at
        by_part (Some x) k = raises at x from to offset k

  finished_each : (id : CallId) (m : Progress) → AllParts m → AllParts (finished id m)
  finished_each id m k (OfClient q) = gone m.responses id q (OfClient q) (k (OfClient q))
  finished_each id m k (OfServer q) = k (OfServer q)

  dropped_each : (v : View) (host : HostId) (id : CallId) (m : Progress) → AllParts m → AllParts (dropped v host id m)
  dropped_each v host id m k = cond_both (is_server_of v id host) _ _ AllParts (λ _. all) (λ _. k) where
    all : AllParts (record m { requests = remove m.requests id })
    all (OfClient q) = k (OfClient q)
    all (OfServer q) = gone m.requests id q (OfServer q) (k (OfServer q))

  -- the same parts
  same_each : (m n : Progress) → n.requests ≡ m.requests → n.responses ≡ m.responses → AllParts m → AllParts n
  same_each m n a b k (OfClient q) = subst (λ (x : Parts). P (OfClient q) (get x q)) (sym b) (k (OfClient q))
  same_each m n a b k (OfServer q) = subst (λ (x : Parts). P (OfServer q) (get x q)) (sym a) (k (OfServer q))

  packet_each : (v : View) (p : Sent) (what : Body) (m : Progress) → AllParts m → AllParts (said v p what m)
  packet_each v p (body.Grant offset prio) m k = cond_both (is_server p.role) _ _ AllParts (λ _. at_server) (λ _. at_client) where
    at_server : AllParts (record m { requests = changed (raised p.from p.to offset) m.requests p.id })
    at_server (OfClient q) = k (OfClient q)
    at_server (OfServer q) = raise m.requests p.id q (OfServer q) p.from p.to offset (k (OfServer q))

    at_client : AllParts (record m { responses = changed (raised p.from p.to offset) m.responses p.id })
    at_client (OfClient q) = raise m.responses p.id q (OfClient q) p.from p.to offset (k (OfClient q))
    at_client (OfServer q) = k (OfServer q)
  packet_each v p (body.Resend from to prio) m k =
      cond_both (is_client p.role) _ _ AllParts
      (λ _. same_each m (record m { resends = insert m.resends p.id (own_tick v p.id.client ∷ resends_of m p.id) }) refl refl k) (λ _. k)
  packet_each v p (body.Data size offset version service ack) m k =
      cond_both (is_client p.role && not (sent_last v p.id)) _ _ AllParts (λ _. same_each m (renewed p.id m) refl refl k) (λ _. k)
  packet_each v p body.Busy m k = k
  packet_each v p (body.Cutoffs cutoffs) m k = k
  packet_each v p (body.Unknown reason) m k = k
  packet_each v p body.NeedAck m k = k
  packet_each v p (body.Ack more) m k = k

  refused_each : (v : View) (host : HostId) (id : CallId) → EachWay v → EachWay (refused v host id)
  refused_each v host id k = cond_both (is_delivery_to v host id) _ _ EachWay (λ _. record { now = k.if_refused; if_refused = k.if_refused }) (λ _. k)

  failed_each : (v : View) (id : CallId) (why : Why) → EachWay v → EachWay (failed v id why)
  failed_each v id Timeout k = record { now = finished_each id v.now k.now; if_refused = finished_each id v.if_refused k.if_refused }
  failed_each v id Forgotten k = record { now = finished_each id v.now k.now; if_refused = finished_each id v.if_refused k.if_refused }

  said_each : (v : View) (line : PlainEntry) → IsUnstale line → EachWay v → EachWay (seen v line)
  unfolding seen
  said_each v (PlainRun host id service request response hold) e k = record { now = k.now; if_refused = k.if_refused }
  said_each v (PlainDone id bytes) e k = record { now = finished_each id v.now k.now; if_refused = finished_each id v.if_refused k.if_refused }
  said_each v (PlainFail id why) e k = let r = failed_each v id why k in record { now = r.now; if_refused = r.if_refused }
  said_each v (PlainDrop host id) e k = record { now = dropped_each v host id v.now k.now; if_refused = dropped_each v host id v.if_refused k.if_refused }
  said_each v (PlainGaps host id) e k = let r = refused_each v host id k in record { now = r.now; if_refused = r.if_refused }
  said_each v (PlainBury host id until) e k = record { now = k.now; if_refused = k.if_refused }
  said_each v (PlainFree host id) e k = record { now = k.now; if_refused = k.if_refused }
  said_each v (PlainFullRows host id rows limit) e k = let r = refused_each v host id k in record { now = r.now; if_refused = r.if_refused }
  said_each v (PlainFullPages host id need free) e k = let r = refused_each v host id k in record { now = r.now; if_refused = r.if_refused }
  said_each v (PlainBalance host cutoffs) e k = record { now = k.now; if_refused = k.if_refused }
  said_each v (PlainJunk host) e k = record { now = k.now; if_refused = k.if_refused }
  said_each v line e k = absurd e

  sent_each : (v : View) (n : ℕ) (p : Packet) → EachWay v → EachWay (seen v (send_line n p))
  unfolding seen
  sent_each v n p k = record {
    now = packet_each v (sent_of p) p.body v.now k.now;
    if_refused = packet_each v (sent_of p) p.body v.if_refused k.if_refused;
  }

  pub call_each : (v : View) (id : CallId) (server : HostId) (service : ℕ) (request : List ℕ) → AllParts v.now
      → EachWay (seen v (PlainCall id server service request))
  unfolding seen
  call_each v id server service request k =
      let u : View = seen v (PlainCall id server service request) in
      record { now = same_each v.now u.now refl refl k; if_refused = same_each v.now u.if_refused refl refl k }

  told_each : (v : View) (n : ℕ) (told : List Told) → AllUnstale told → EachWay v → EachWay (seen_all v (entries_from n told))
  told_each v n [] e k = k
  told_each v n (Says entry ∷ told) e k = told_each (seen v entry) n told e.1 (said_each v entry e.0 k)
  told_each v n (Sends p ∷ told) e k = told_each (seen v (send_line n p)) (suc n) told e (sent_each v n p k)

  -- ---- where no delivery is refused any more

  failed_now : (v : View) (id : CallId) (why : Why) → AllParts v.now → AllParts (failed v id why).now
  failed_now v id Timeout k = finished_each id v.now k
  failed_now v id Forgotten k = finished_each id v.now k

  late_each : (v : View) (line : PlainEntry) → IsLate line → AllParts v.now → AllParts (seen v line).now
  unfolding seen
  late_each v (PlainRun host id service request response hold) e k = k
  late_each v (PlainDone id bytes) e k = finished_each id v.now k
  late_each v (PlainFail id why) e k = failed_now v id why k
  late_each v (PlainDrop host id) e k = dropped_each v host id v.now k
  late_each v (PlainBury host id until) e k = k
  late_each v (PlainFree host id) e k = k
  late_each v (PlainBalance host cutoffs) e k = k
  late_each v (PlainJunk host) e k = k
  late_each v line e k = absurd e

  sent_now : (v : View) (n : ℕ) (p : Packet) → AllParts v.now → AllParts (seen v (send_line n p)).now
  unfolding seen
  sent_now v n p k = packet_each v (sent_of p) p.body v.now k

  told_now : (v : View) (n : ℕ) (told : List Told) → AllLate told → AllParts v.now → AllParts (seen_all v (entries_from n told)).now
  told_now v n [] e k = k
  told_now v n (Says entry ∷ told) e k = told_now (seen v entry) n told e.1 (late_each v entry e.0 k)
  told_now v n (Sends p ∷ told) e k = told_now (seen v (send_line n p)) (suc n) told e (sent_now v n p k)

-- ---- both, through a step

or_true : (b : Bool) → (b || true) ≡ true
or_true true = refl
or_true false = refl

pub place_grows : (v : View) (lines : List PlainEntry) → v.place ≤ (seen_all v lines).place
unfolding seen
place_grows v [] = omega arith
place_grows v (line ∷ lines) = let rest = place_grows (seen v line) lines in omega (arith, rest)

module _ (s : Settings) (w : World) (v : View) (host : HostId) (least : ℕ) (N : Place → Option ℕ → Type 0) (no_number : (q : Place) → N q None)
    (P : Place → Option Part → Type 0) (no_part : (q : Place) → P q None)
    (raises : (q : Place) (x : Part) (from to : HostId) (offset : ℕ) → P q (Some x) → P q (Some (raised from to offset x))) where
  pub record IsEach (work : Work) : Type 0 where
    pub numbers : AllNumbers N no_number work.host
    pub parts : EachWay P no_part raises (said_so_far w v work)
    pub name : work.host.id ≡ host
    pub own : (q : CallId) (r : ClientRow) → get work.host.clients q ≡ Some r → q.client ≡ host
    pub late : least ≤ (said_so_far w v work).place
    pub ran : (q : CallId) (n : HostId) → has_run v n q ≡ true → has_run (said_so_far w v work) n q ≡ true

  later_place : (work new : Work) (told : List Told) (clients : RowsOf ClientRow) (servers : RowsOf ServerRow) → IsMove work new told clients servers
      → least ≤ (said_so_far w v work).place → least ≤ (said_so_far w v new).place
  later_place work new told clients servers m k =
      let u : View = said_so_far w v work in
      let x : View = seen_all u (entries_from (next_number w v host work new told clients servers m) told) in
      let grows : u.place ≤ x.place = place_grows (said_so_far w v work) (entries_from (next_number w v host work new told clients servers m) told) in
      let all : least ≤ x.place = omega (arith, k, grows) in
      subst (λ (y : View). least ≤ y.place) (sym (move_said w v host work new told clients servers m)) all

  each_move : (work new : Work) (told : List Told) (clients : RowsOf ClientRow) (servers : RowsOf ServerRow) → IsMove work new told clients servers
      → AllUnstale told → AllNumbers N no_number new.host → ((q : CallId) (r : ClientRow) → get clients q ≡ Some r → q.client ≡ host) → IsEach work → IsEach new
  each_move work new told clients servers m e numbers own k = record {
    numbers = numbers;
    parts = subst (EachWay P no_part raises) (sym (move_said w v host work new told clients servers m))
        (told_each P no_part raises (said_so_far w v work) (next_number w v host work new told clients servers m) told e k.parts);
    name = m.id ∙ k.name;
    own = λ q r is. own q r (ap (λ (rows : RowsOf ClientRow). get rows q) (sym m.at_clients) ∙ is);
    late = later_place work new told clients servers m k.late;
    ran = λ q n e. move_ran w v host work new told clients servers m q n ∙ ap (λ b. runs_told n q told || b) (k.ran q n e) ∙ or_true (runs_told n q told);
  }

  -- beside the rows
  pub each_beside : (work new : Work) (told : List Told) → IsMove work new told work.host.clients work.host.servers → AllUnstale told → IsEach work → IsEach new
  each_beside work new told m e k =
      each_move work new told work.host.clients work.host.servers m e (numbers_same N no_number work.host new.host m.at_clients m.at_servers k.numbers) k.own k

  pub each_served : (work : Work) (id : CallId) (did : Did ServerRow) → AllOwn work.host.id id did.says → N (OfServer id) (request_number did.row)
      → IsEach work → IsEach (served s id did work)
  each_served work id did own new k =
      let m = served-move s id did work own in
      each_move work (served s id did work) (served_told s id did work) work.host.clients (set_row work.host.servers id did.row) m
      (served_unstale s id did work own)
      (set_server N no_number work.host (served s id did work).host id did.row m.at_clients m.at_servers new k.numbers) k.own k

  pub each_asked : (work : Work) (id : CallId) (server : HostId) (did : Did ClientRow) → id.client ≡ host → AllOwn id.client id did.says
      → N (OfClient id) (response_number did.row) → IsEach work → IsEach (asked s id server did work)
  each_asked work id server did mine own new k =
      let m = asked-move s id server did work (mine ∙ sym k.name) own in
      each_move work (asked s id server did work) (asked_told s id server did work) (set_row work.host.clients id did.row) work.host.servers m
      (asked_unstale s id server did work own)
      (set_client N no_number work.host (asked s id server did work).host id did.row m.at_clients m.at_servers new k.numbers)
      (own_set host work.host.clients id did.row mine k.own) k

  pub each_acked : (ids : List CallId) (work : Work) → IsEach work → IsEach (acked s ids work)
  each_acked ids work k =
      acked_kept s IsEach (λ now id l. each_served now id _ (acked_own s (moment s id now) id (get now.host.servers id))
      (number_stays N no_number (OfServer id) (request_number (get now.host.servers id)) _
      (acked_stays s (moment s id now) id (get now.host.servers id)) (l.numbers (OfServer id))) l) ids work k

  -- ---- where no delivery is refused any more

  pub record IsNow (work : Work) : Type 0 where
    pub numbers : AllNumbers N no_number work.host
    pub parts : AllParts P no_part raises (said_so_far w v work).now
    pub name : work.host.id ≡ host
    pub own : (q : CallId) (r : ClientRow) → get work.host.clients q ≡ Some r → q.client ≡ host
    pub late : least ≤ (said_so_far w v work).place

  now_move : (work new : Work) (told : List Told) (clients : RowsOf ClientRow) (servers : RowsOf ServerRow) → IsMove work new told clients servers
      → AllLate told → AllNumbers N no_number new.host → ((q : CallId) (r : ClientRow) → get clients q ≡ Some r → q.client ≡ host) → IsNow work → IsNow new
  now_move work new told clients servers m e numbers own k = record {
    numbers = numbers;
    parts = subst (λ (x : View). AllParts P no_part raises x.now) (sym (move_said w v host work new told clients servers m))
        (told_now P no_part raises (said_so_far w v work) (next_number w v host work new told clients servers m) told e k.parts);
    name = m.id ∙ k.name;
    own = λ q r is. own q r (ap (λ (rows : RowsOf ClientRow). get rows q) (sym m.at_clients) ∙ is);
    late = later_place work new told clients servers m k.late;
  }

  pub now_beside : (work new : Work) (told : List Told) → IsMove work new told work.host.clients work.host.servers → AllLate told → IsNow work → IsNow new
  now_beside work new told m e k =
      now_move work new told work.host.clients work.host.servers m e (numbers_same N no_number work.host new.host m.at_clients m.at_servers k.numbers) k.own k

  now_acted : (work : Work) (place : Place) (at : ℕ) → IsNow work → IsTimerAt s work.host at place → at ≤ now_of work → IsNow (acts_at s place work)
  now_acted work (OfClient id) at k timer past =
      let did : Did ClientRow = client_acts s (moment s id work) id timer.0 in
      let mine : id.client ≡ host = k.own id timer.0 timer.1 in
      let new : Work = asked s id (timer.0).server did work in
      let m = asked-move s id (timer.0).server did work (mine ∙ sym k.name) (client_acts_quiet s (moment s id work) id timer.0).0 in
      let number = number_stays N no_number (OfClient id) (response_number (Some timer.0)) (response_number did.row)
      (client_stays s (moment s id work) id timer.0) (subst (λ o. N (OfClient id) (response_number o)) timer.1 (k.numbers (OfClient id))) in
      subst (λ o. IsNow (client_acted s id o work)) (sym timer.1)
      (now_move work new (asked_told s id (timer.0).server did work) (set_row work.host.clients id did.row) work.host.servers m
      (asked_late s id (timer.0).server did work (client_acts_other s (moment s id work) id timer.0).1)
      (set_client N no_number work.host new.host id did.row m.at_clients m.at_servers number k.numbers)
      (own_set host work.host.clients id did.row mine k.own) k)
  now_acted work (OfServer id) at k timer past =
      let did : Did ServerRow = server_acts s (moment s id work) id timer.0 in
      let new : Work = served s id did work in
      let m = served-move s id did work (server_acts_own s (moment s id work) id timer.0) in
      let number = number_stays N no_number (OfServer id) (request_number (Some timer.0)) (request_number did.row)
      (server_stays s (moment s id work) id timer.0) (subst (λ o. N (OfServer id) (request_number o)) timer.1 (k.numbers (OfServer id))) in
      subst (λ o. IsNow (server_acted s id o work)) (sym timer.1)
      (now_move work new (served_told s id did work) work.host.clients (set_row work.host.servers id did.row) m
      (served_late s id did work (server_acts_other s (moment s id work) id timer.0).1)
      (set_server N no_number work.host new.host id did.row m.at_clients m.at_servers number k.numbers) k.own k)

  pub now_acts : 1 ≤ s.resend → (work : Work) → IsNow work → IsNow (acts s work)
  now_acts resend work k = turn_kept s IsNow now_acted resend work k

  -- ---- the end of a step

  set_at_client : (work new : Work) (p : Packet) (id : CallId) (r x : ClientRow)
      → IsMove work new (Sends p ∷ []) (set_row work.host.clients id (Some x)) work.host.servers → get work.host.clients id ≡ Some r
      → response_order x ≡ response_order r → IsNow work → IsNow new
  set_at_client work new p id r x m is same k =
      now_move work new (Sends p ∷ []) (set_row work.host.clients id (Some x)) work.host.servers m tt
      (set_client N no_number work.host new.host id (Some x) m.at_clients m.at_servers
      (subst (N (OfClient id)) (ap response_number is ∙ sym same) (k.numbers (OfClient id))) k.numbers)
      (own_set host work.host.clients id (Some x) (k.own id r is) k.own) k

  set_at_server : (work new : Work) (p : Packet) (id : CallId) (row x : ServerRow)
      → IsMove work new (Sends p ∷ []) work.host.clients (set_row work.host.servers id (Some x)) → get work.host.servers id ≡ Some row
      → request_order x ≡ request_order row → IsNow work → IsNow new
  set_at_server work new p id row x m is same k =
      now_move work new (Sends p ∷ []) work.host.clients (set_row work.host.servers id (Some x)) m tt
      (set_server N no_number work.host new.host id (Some x) m.at_clients m.at_servers
      (subst (N (OfServer id)) (ap request_number is ∙ sym same) (k.numbers (OfServer id))) k.numbers) k.own k

  grants_now : GrantKeeps s IsNow
  grants_now = record {
    response = λ work id r part offset prio k is has at more.
        set_at_client work _ _ id r _ (client_granted-move s id work offset prio r (k.own id r is ∙ sym k.name)) is
        (ap (λ o. option_map (λ (y : Incoming). y.order) (granted_part offset o)) has ∙ sym (ap (option_map (λ (y : Incoming). y.order)) has)) k;
    request = λ work id row service part base count offset prio k is at far more.
        set_at_server work _ _ id row _ (server_granted-move s id work offset prio row) is
        (ap (λ (x : State). arriving_in (state_granted (now_of work) offset x)) at ∙ sym (ap arriving_in at)) k;
  }

  pieces_now : PieceKeeps s IsNow
  pieces_now = record {
    request = λ work id r range k is may at. set_at_client work _ _ id r (client_sends s (now_of work) r)
        (request_leaves-move s id work r range (k.own id r is ∙ sym k.name)) is (sends_stays s (now_of work) r) k;
    response = λ work id row response out order base count range k is state at.
        set_at_server work _ _ id row _ (response_leaves-move s id work row _ range) is
        (ap (λ (x : State). arriving_in (state_sends s (now_of work) x)) state ∙ sym (ap arriving_in state)) k;
  }

  pub now_ended : (work : Work) → IsNow work → IsNow (ended s work)
  now_ended work k = ended_kept s IsNow grants_now pieces_now work k
