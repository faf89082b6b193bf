-- How each call stands after a move, and which packets there are.
use Rattle.std.proofs.Common.{◌≡◌, ℕ, ◌+◌, ◌<◌, Bool, true, false, ◌&&◌, ◌||◌, Option, None, List, [], ◌∷◌, ◌++◌, length, cond, refl, sym, ap, ◌∙◌}
use Rattle.std.proofs.Common.{append_assoc}
use Rattle.std.specs.Prelude.{◌==◌, nat_lt, slice_get, slice_set}
use Rattle.plain_sets.specs.Maps.{Map, get}
use Rattle.homa_plain.specs.declared.id.CallId.{CallId}
use Rattle.homa_plain.specs.declared.id.HostId.{HostId}
use Rattle.homa_plain.specs.Calls.{is_host, is_call, call_cmp}
use Rattle.homa_plain.specs.Packets.{Packet}
use Rattle.homa_plain.specs.Rows.{ClientRow, ServerRow, RowsOf, set_row}
use Rattle.homa_plain.specs.Host.{Told, packets_in, entries_from}
use Rattle.homa_plain.specs.Work.{Work}
use Rattle.trace_rules.specs.View.{View, Called, has_run}
use Rattle.trace_rules.specs.Seen.{seen_all}
use Rattle.homa_plain.specs.World.{World, SentPacket, stamped}
use Rattle.homa_plain.proofs.CallOrder.{calls_are}
use Rattle.step_laws.proofs.ToldBy.{packets_in-append}
use Rattle.step_laws.proofs.Others.{get-set_row, set_row-others}
use Rattle.trace_steps.specs.Stands.{Stand, with_client, with_server, state_of, is_old, put, said_so_far, amid}
use Rattle.step_moves.specs.Worlds.{at_host}
use Rattle.trace_steps.proofs.Lines.{seen-told, told_same}
use Rattle.trace_steps.proofs.Runs.{runs_told, told_runs}
use Rattle.step_moves.proofs.Moves.{IsMove}
use Rattle.step_moves.proofs.Hosts.{there, elsewhere, both_set, turned, apart, number_of}

-- two stands that agree in each field
pub stand_is : (v u : Stand) → u.clock ≡ v.clock → u.last ≡ v.last → u.old ≡ v.old → u.called ≡ v.called → u.client ≡ v.client → u.server ≡ v.server
    → u.ran ≡ v.ran → u ≡ v
stand_is v u a b c d e f g = λ i. record { clock = a i; last = b i; old = c i; called = d i; client = e i; server = f i; ran = g i }

pub stamped-append : (t : ℕ) (a b : List Packet) → stamped t (a ++ b) ≡ stamped t a ++ stamped t b
stamped-append t [] b = refl
stamped-append t (p ∷ a) b = ap (λ (ps : List SentPacket). record { tick = t; packet = p } ∷ ps) (stamped-append t a b)

-- the row of a call at the host that acts
pub server_there : (w : World) (v : View) (host : HostId) (work : Work) (q : CallId) → host.0 < length w.hosts
    → (amid w v host work q host).server ≡ state_of (get work.host.servers q)
server_there w v host work q stands = ap (λ o. at_host None (λ h. state_of (get h.servers q)) o) (there w.hosts host.0 work.host stands)

pub client_there : (w : World) (v : View) (host : HostId) (work : Work) (q : CallId) (n : HostId) → host.0 < length w.hosts → q.client ≡ host
    → (amid w v host work q n).client ≡ get work.host.clients q
client_there w v host work q n stands mine =
    ap (λ o. at_host None (λ h. get h.clients q) o)
    (ap (λ (x : HostId). slice_get (slice_set w.hosts host.0 work.host) x.0) mine ∙ there w.hosts host.0 work.host stands)

pub last_there : (w : World) (v : View) (host : HostId) (work : Work) (q : CallId) → host.0 < length w.hosts → (amid w v host work q host).last ≡ work.host.last
last_there w v host work q stands = ap (λ o. at_host 0 (λ h. h.last) o) (there w.hosts host.0 work.host stands)

module _ (w : World) (v : View) (host : HostId) (work new : Work) (told : List Told) (clients : RowsOf ClientRow) (servers : RowsOf ServerRow)
    (m : IsMove work new told clients servers) where
  -- ---- lines and packets

  -- where the move's packets are numbered from
  abbrev pub next_number : ℕ
  next_number = length w.packets + length (packets_in work.told)

  -- the move's lines stand behind those of the moves before it
  pub move_said : said_so_far w v new ≡ seen_all (said_so_far w v work) (entries_from next_number told)
  move_said = ap (λ (t : List Told). seen_all v (entries_from (length w.packets) t)) m.grown ∙ seen-told v (length w.packets) work.told told

  pub move_packets : (put w host new).packets ≡ (put w host work).packets ++ stamped w.clock (packets_in told)
  move_packets =
      ap (λ (ps : List Packet). w.packets ++ stamped w.clock ps) (ap packets_in m.grown ∙ packets_in-append work.told told)
      ∙ ap (λ (ps : List SentPacket). w.packets ++ ps) (stamped-append w.clock (packets_in work.told) (packets_in told))
      ∙ sym (append_assoc w.packets (stamped w.clock (packets_in work.told)) (stamped w.clock (packets_in told)))

  pub move_ran : (q : CallId) (n : HostId) → has_run (said_so_far w v new) n q ≡ runs_told n q told || has_run (said_so_far w v work) n q
  move_ran q n = ap (λ u. has_run u n q) move_said ∙ told_runs (said_so_far w v work) next_number told n q m.inner

  pub move_called : (q : CallId) → get (said_so_far w v new).calls q ≡ get (said_so_far w v work).calls q
  move_called q =
      ap (λ (u : View). get u.calls q) move_said ∙ ap (λ (c : Map call_cmp Called). get c q) (told_same (said_so_far w v work) next_number told m.inner).calls

  old_same : (q : CallId) → is_old q new.host ≡ is_old q work.host
  old_same q = ap (λ (i : ℕ). nat_lt q.inc i || (q.inc == i && nat_lt q.seq new.host.seq)) m.inc
      ∙ ap (λ (i : ℕ). nat_lt q.inc work.host.inc || (q.inc == work.host.inc && nat_lt q.seq i)) m.seq

  -- ---- no row changes

  pub still_stand : clients ≡ work.host.clients → servers ≡ work.host.servers → (q : CallId) (n : HostId) → runs_told n q told ≡ false
      → amid w v host new q n ≡ amid w v host work q n
  still_stand c d q n quiet =
      stand_is _ _ refl
      (both_set 0 (λ h. h.last) w.hosts host.0 n.0 new.host work.host m.last)
      (both_set false (is_old q) w.hosts host.0 q.client.0 new.host work.host (old_same q))
      (move_called q)
      (both_set None (λ h. get h.clients q) w.hosts host.0 q.client.0 new.host work.host (ap (λ (rows : RowsOf ClientRow). get rows q) (m.at_clients ∙ c)))
      (both_set None (λ h. state_of (get h.servers q)) w.hosts host.0 n.0 new.host work.host
      (ap (λ (rows : RowsOf ServerRow). state_of (get rows q)) (m.at_servers ∙ d)))
      (move_ran q n ∙ ap (λ b. b || has_run (said_so_far w v work) n q) quiet)

  -- ---- a row at a server

  module _ (stands : host.0 < length w.hosts) (id : CallId) (o : Option ServerRow) (c : clients ≡ work.host.clients)
      (d : servers ≡ set_row work.host.servers id o) where
    new_state : (q : CallId) (n : HostId) (a b : Bool) → is_call id q ≡ a → is_host host n ≡ b
        → at_host None (λ h. state_of (get h.servers q)) (slice_get (slice_set w.hosts host.0 new.host) n.0) ≡ cond (a && b) (state_of o)
        (at_host None (λ h. state_of (get h.servers q)) (slice_get (slice_set w.hosts host.0 work.host) n.0))
    new_state q n false b e f =
        both_set None (λ h. state_of (get h.servers q)) w.hosts host.0 n.0 new.host work.host
        (ap (λ (rows : RowsOf ServerRow). state_of (get rows q)) (m.at_servers ∙ d) ∙ ap state_of (set_row-others work.host.servers id o q (turned id q e)))
    new_state q n true true e f =
        ap (λ x. at_host None (λ h. state_of (get h.servers q)) x)
        (ap (slice_get (slice_set w.hosts host.0 new.host)) (sym (number_of host n f)) ∙ there w.hosts host.0 new.host stands)
        ∙ ap (λ (rows : RowsOf ServerRow). state_of (get rows q)) (m.at_servers ∙ d)
        ∙ ap (λ (x : CallId). state_of (get (set_row work.host.servers id o) x)) (sym ((calls_are id q).0 e))
        ∙ ap state_of (get-set_row work.host.servers id o)
    new_state q n true false e f =
        ap (λ x. at_host None (λ h. state_of (get h.servers q)) x)
        (elsewhere w.hosts host.0 n.0 new.host (apart host n f) ∙ sym (elsewhere w.hosts host.0 n.0 work.host (apart host n f)))

    -- the call itself at this host, and all others
    pub server_stand : (q : CallId) (n : HostId) (b : Bool) → (is_call id q && is_host host n) ≡ b
        → amid w v host new q n ≡ with_server (amid w v host work q n) (cond b (state_of o) (amid w v host work q n).server)
        (runs_told n q told || (amid w v host work q n).ran)
    server_stand q n b e =
        stand_is _ _ refl
        (both_set 0 (λ h. h.last) w.hosts host.0 n.0 new.host work.host m.last)
        (both_set false (is_old q) w.hosts host.0 q.client.0 new.host work.host (old_same q))
        (move_called q)
        (both_set None (λ h. get h.clients q) w.hosts host.0 q.client.0 new.host work.host (ap (λ (rows : RowsOf ClientRow). get rows q) (m.at_clients ∙ c)))
        (new_state q n (is_call id q) (is_host host n) refl refl ∙ ap (λ x. cond x (state_of o) (amid w v host work q n).server) e)
        (move_ran q n)

  -- ---- a row at a client

  module _ (stands : host.0 < length w.hosts) (id : CallId) (o : Option ClientRow) (mine : id.client ≡ host)
      (c : clients ≡ set_row work.host.clients id o) (d : servers ≡ work.host.servers) where
    new_client : (q : CallId) (b : Bool) → is_call id q ≡ b
        → at_host None (λ h. get h.clients q) (slice_get (slice_set w.hosts host.0 new.host) q.client.0) ≡ cond b o
        (at_host None (λ h. get h.clients q) (slice_get (slice_set w.hosts host.0 work.host) q.client.0))
    new_client q true e =
        let same : id ≡ q = (calls_are id q).0 e in
        let at : host.0 ≡ q.client.0 = ap (λ (x : HostId). x.0) (sym mine ∙ ap (λ (x : CallId). x.client) same) in
        ap (λ x. at_host None (λ h. get h.clients q) x) (ap (slice_get (slice_set w.hosts host.0 new.host)) (sym at) ∙ there w.hosts host.0 new.host stands)
        ∙ ap (λ (rows : RowsOf ClientRow). get rows q) (m.at_clients ∙ c) ∙ ap (λ (x : CallId). get (set_row work.host.clients id o) x) (sym same)
        ∙ get-set_row work.host.clients id o
    new_client q false e =
        both_set None (λ h. get h.clients q) w.hosts host.0 q.client.0 new.host work.host
        (ap (λ (rows : RowsOf ClientRow). get rows q) (m.at_clients ∙ c) ∙ set_row-others work.host.clients id o q (turned id q e))

    pub client_stand : (q : CallId) (n : HostId) (b : Bool) → is_call id q ≡ b → runs_told n q told ≡ false
        → amid w v host new q n ≡ with_client (amid w v host work q n) (cond b o (amid w v host work q n).client)
    client_stand q n b e quiet =
        stand_is _ _ refl
        (both_set 0 (λ h. h.last) w.hosts host.0 n.0 new.host work.host m.last)
        (both_set false (is_old q) w.hosts host.0 q.client.0 new.host work.host (old_same q))
        (move_called q)
        (new_client q b e)
        (both_set None (λ h. state_of (get h.servers q)) w.hosts host.0 n.0 new.host work.host
        (ap (λ (rows : RowsOf ServerRow). state_of (get rows q)) (m.at_servers ∙ d)))
        (move_ran q n ∙ ap (λ b. b || has_run (said_so_far w v work) n q) quiet)
