-- The law at the lines of a step before its end: a call that starts, a packet that comes, rows that act.
use Rattle.std.proofs.Common.{◌≡◌, ℕ, ◌≤◌, Option, Some, None, List, [], length, refl, sym, ap, subst, ◌∙◌}
use Rattle.std.proofs.lemmas.Bool.{cond_both}
use Rattle.plain_sets.specs.Maps.{get}
use Rattle.homa_plain.specs.declared.id.CallId.{CallId}
use Rattle.homa_plain.specs.declared.id.HostId.{HostId}
use Rattle.homa_plain.specs.declared.packet.Role.{Role}
use Rattle.homa_plain.specs.declared.packet.Role.TheVariants.{Client, Server}
use Rattle.homa_plain.specs.declared.settings.Settings.{Settings}
use Rattle.homa_plain.specs.Entries.{PlainCall, PlainJunk, PlainStale}
use Rattle.homa_plain.specs.Packets.{Packet, sender, receiver, receiver_of, acks}
use Rattle.homa_plain.specs.Rows.{ClientRow, ServerRow, RowsOf, set_row}
use Rattle.homa_plain.specs.Host.{Host, Told, packets_in, entries_from}
use Rattle.homa_plain.specs.Rules.{Answer, Did}
use Rattle.homa_plain.specs.Timers.{Place, OfClient, OfServer, client_acts, server_acts}
use Rattle.homa_plain.specs.Work.{Work, begun, now_of}
use Rattle.homa_plain.specs.Steps.{moment, asked, served, comes_to_row, takes, comes, client_acted}
use Rattle.homa_plain.specs.CutoffsPackets.{hears_cutoffs}
use Rattle.homa_plain.specs.OldPackets.{is_stale}
use Rattle.homa_plain.specs.Steps.{server_acted, acts_at, acts, next_id, new_call, starts}
use Rattle.trace_rules.specs.View.{View}
use Rattle.trace_rules.specs.Seen.{seen}
use Rattle.trace_rules.specs.Laws.{Holds}
use Rattle.trace_rules.specs.Granting.{Granting}
use Rattle.homa_plain.specs.World.{World}
use Rattle.trace_steps.proofs.Lines.{holds-append}
use Rattle.step_moves.proofs.Inner.{entries_from-append}
use Rattle.step_laws.proofs.Own.{AllOwn, gets_own, acked_own, server_acts_own, gets_quiet, client_acts_quiet}
use Rattle.step_moves.proofs.Moves.{IsMove, served_told, served-move}
use Rattle.step_moves.proofs.AskedMove.{asked_told, asked-move}
use Rattle.step_moves.proofs.SendMoves.{says-move, hears-move}
use Rattle.trace_steps.specs.Stands.{said_so_far}
use Rattle.trace_steps.proofs.Frame.{next_number, move_said}
use Rattle.step_moves.proofs.Names.{own_set}
use Rattle.step_moves.proofs.Chosen.{IsTimerAt}
use Rattle.step_moves.proofs.Folds.{acked_kept, turn_kept}
use Rattle.trace_granting.proofs.Window.{parts_within, AllWithin, NowWithin, NoGrants, told_granting, call_within}
use Rattle.trace_granting.proofs.GrantFold.{IsLawful, lawful_move}
use Rattle.trace_granting.proofs.RuleSays.{AllOther, server_gets_other, acked_other, client_gets_other, server_acts_other, client_acts_other}
use Rattle.trace_granting.proofs.RuleSays.{served_other, served_late, asked_other, asked_late}

module _ (s : Settings) (w : World) (v : View) (host : HostId) where
  abbrev pub Lawful : Work → Type 0
  Lawful = IsLawful s w v host

  -- while the delivery of the block may still be refused
  pub record IsEarly (work : Work) : Type 0 where
    pub holds : Holds Granting v (entries_from (length w.packets) work.told)
    pub all : AllWithin s (said_so_far w v work)
    pub name : work.host.id ≡ host
    pub own : (q : CallId) (r : ClientRow) → get work.host.clients q ≡ Some r → q.client ≡ host

  pub early_lawful : (work : Work) → IsEarly work → Lawful work
  early_lawful work k = record { holds = k.holds; near = record { settings = k.all.settings; now = k.all.now }; name = k.name; own = k.own }

  -- ---- moves

  early_move : (work new : Work) (told : List Told) (clients : RowsOf ClientRow) (servers : RowsOf ServerRow) → IsMove work new told clients servers
      → NoGrants (packets_in told) → ((q : CallId) (r : ClientRow) → get clients q ≡ Some r → q.client ≡ host) → IsEarly work → IsEarly new
  early_move work new told clients servers m none own k =
      let n : ℕ = next_number w v host work new told clients servers m in
      let r = told_granting s (said_so_far w v work) n told m.inner none k.all in
      record {
        holds = subst (Holds Granting v) (sym (ap (entries_from (length w.packets)) m.grown ∙ entries_from-append (length w.packets) work.told told))
            (holds-append Granting v (entries_from (length w.packets) work.told) (entries_from n told) k.holds r.0);
        all = subst (AllWithin s) (sym (move_said w v host work new told clients servers m)) r.1;
        name = m.id ∙ k.name;
        own = λ q r is. own q r (ap (λ (rows : RowsOf ClientRow). get rows q) (sym m.at_clients) ∙ is);
      }

  early_served : (work : Work) (id : CallId) (did : Did ServerRow) → AllOwn work.host.id id did.says → AllOther did.says → IsEarly work
      → IsEarly (served s id did work)
  early_served work id did own other k =
      early_move work (served s id did work) (served_told s id did work) work.host.clients (set_row work.host.servers id did.row)
      (served-move s id did work own) (served_other s id did work other) k.own k

  early_asked : (work : Work) (id : CallId) (server : HostId) (did : Did ClientRow) → id.client ≡ host → AllOwn id.client id did.says
      → AllOther did.says → IsEarly work → IsEarly (asked s id server did work)
  early_asked work id server did mine own other k =
      early_move work (asked s id server did work) (asked_told s id server did work) (set_row work.host.clients id did.row) work.host.servers
      (asked-move s id server did work (mine ∙ sym k.name) own) (asked_other s id server did work other)
      (own_set host work.host.clients id did.row mine k.own) k

  -- ---- a packet comes

  early_row : (p : Packet) (answer : Answer) (role : Role) (work : Work) → receiver_of role p.id p.server ≡ host → IsEarly work
      → IsEarly (comes_to_row s p answer role work)
  early_row p answer Client work at k =
      early_served work p.id _ (gets_own s (moment s p.id work) p answer (get work.host.servers p.id))
      (server_gets_other s (moment s p.id work) p answer (get work.host.servers p.id)) k
  early_row p answer Server work at k =
      early_asked work p.id p.server _ at (gets_quiet s (moment s p.id work) p (get work.host.clients p.id)).0
      (client_gets_other s (moment s p.id work) p (get work.host.clients p.id)) k

  early_takes : (p : Packet) (answer : Answer) (work : Work) → receiver p ≡ host → IsEarly work → IsEarly (takes s p answer work)
  unfolding takes
  early_takes p answer work at k =
      acked_kept s IsEarly
      (λ now id l. early_served now id _ (acked_own s (moment s id now) id (get now.host.servers id))
      (acked_other s (moment s id now) id (get now.host.servers id)) l) (acks p) _
      (early_row p answer p.role (hears_cutoffs s (sender p) p.inc p.body work) at
      (early_move work (hears_cutoffs s (sender p) p.inc p.body work) [] work.host.clients work.host.servers
      (hears-move s (sender p) p.inc p.body work) tt k.own k))

  pub early_comes : (o : Option Packet) (answer : Answer) (work : Work) → ((p : Packet) → o ≡ Some p → receiver p ≡ host) → IsEarly work
      → IsEarly (comes s o answer work)
  early_comes None answer work at k = early_move work _ _ work.host.clients work.host.servers (says-move (PlainJunk work.host.id) work tt) tt k.own k
  early_comes (Some p) answer work at k =
      cond_both (is_stale s (now_of work) p) _ _ IsEarly
      (λ _. early_move work _ _ work.host.clients work.host.servers (says-move (PlainStale work.host.id p.at (now_of work)) work tt) tt k.own k)
      (λ _. early_takes p answer work (at p refl) k)

  -- ---- rows act

  late_acted : (work : Work) (place : Place) (at : ℕ) → Lawful work → IsTimerAt s work.host at place → at ≤ now_of work → Lawful (acts_at s place work)
  late_acted work (OfClient id) at k timer past =
      let did : Did ClientRow = client_acts s (moment s id work) id timer.0 in
      let mine : id.client ≡ host = k.own id timer.0 timer.1 in
      let other = client_acts_other s (moment s id work) id timer.0 in
      subst (λ o. Lawful (client_acted s id o work)) (sym timer.1)
      (lawful_move s w v host work (asked s id (timer.0).server did work) (asked_told s id (timer.0).server did work)
      (set_row work.host.clients id did.row) work.host.servers
      (asked-move s id (timer.0).server did work (mine ∙ sym k.name) (client_acts_quiet s (moment s id work) id timer.0).0)
      (asked_late s id (timer.0).server did work other.1) (asked_other s id (timer.0).server did work other.0)
      (own_set host work.host.clients id did.row mine k.own) k)
  late_acted work (OfServer id) at k timer past =
      let did : Did ServerRow = server_acts s (moment s id work) id timer.0 in
      let other = server_acts_other s (moment s id work) id timer.0 in
      subst (λ o. Lawful (server_acted s id o work)) (sym timer.1)
      (lawful_move s w v host work (served s id did work) (served_told s id did work) work.host.clients (set_row work.host.servers id did.row)
      (served-move s id did work (server_acts_own s (moment s id work) id timer.0))
      (served_late s id did work other.1) (served_other s id did work other.0) k.own k)

  pub late_acts : 1 ≤ s.resend → (work : Work) → Lawful work → Lawful (acts s work)
  late_acts resend work k = turn_kept s Lawful late_acted resend work k

  -- ---- a step begins

  pub early_begun : (first : Host) → first.id ≡ host → ((q : CallId) (r : ClientRow) → get first.clients q ≡ Some r → q.client ≡ host) → AllWithin s v
      → IsEarly (record { host = first; told = [] })
  early_begun first name own k = record { holds = tt; all = k; name = name; own = own }

  pub late_begun : (first : Host) → first.id ≡ host → ((q : CallId) (r : ClientRow) → get first.clients q ≡ Some r → q.client ≡ host) → NowWithin s v
      → Lawful (record { host = first; told = [] })
  late_begun first name own k = record { holds = tt; near = k; name = name; own = own }

  pub early_started : (h : Host) (now : ℕ) (server : HostId) (service : ℕ) (request : List ℕ) → h.id ≡ host
      → ((q : CallId) (r : ClientRow) → get h.clients q ≡ Some r → q.client ≡ host) → NowWithin s v → IsEarly (starts s server service request (begun h now))
  early_started h now server service request name own k =
      let a = call_within s v (next_id h) server service request k.settings k.now in
      record {
        holds = (parts_within s.window (seen v (PlainCall (next_id h) server service request)) (ap (λ (x : Settings). x.window) a.settings) a.now, tt);
        all = a;
        name = name;
        own = own_set host h.clients (next_id h) (Some (new_call s now h.order server service request)) name own;
      }
