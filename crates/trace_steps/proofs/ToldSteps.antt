-- Each step of a host keeps what the lines tell of clocks, names, lives and packets.
use Rattle.std.proofs.Common.{◌≡◌, ℕ, zero, suc, ◌+◌, ◌≤◌, ◌<◌, Option, Some, None, List, [], ◌∷◌, length, refl, sym, ap, subst, ◌∙◌, arith}
use Rattle.std.specs.Prelude.{slice_get, slice_set, unwrap_or}
use Rattle.std.specs.Ordering.{nat_cmp}
use Rattle.std.proofs.lemmas.Bool.{cond_both}
use Rattle.plain_sets.specs.Maps.{Map, get}
use Rattle.homa_plain.specs.declared.id.CallId.{CallId}
use Rattle.homa_plain.specs.declared.id.HostId.{HostId}
use Rattle.homa_plain.specs.declared.packet.Role.{Role}
use Rattle.homa_plain.specs.declared.packet.Role.TheVariants.{Client, Server}
use Rattle.homa_plain.specs.declared.settings.Settings.{Settings}
use Rattle.homa_plain.specs.Entries.{PlainCall, PlainDeliver, PlainInject, PlainJunk, PlainStale}
use Rattle.homa_plain.specs.Packets.{Packet, sender, receiver_of, receiver, acks}
use Rattle.homa_plain.specs.Rows.{ClientRow, ServerRow, RowsOf, set_row}
use Rattle.homa_plain.specs.Host.{Host, Told}
use Rattle.homa_plain.specs.Rules.{Answer, Did}
use Rattle.homa_plain.specs.Timers.{Place, OfClient, OfServer, client_acts, server_acts}
use Rattle.homa_plain.specs.Sending.{client_granted, client_sends}
use Rattle.homa_plain.specs.Work.{Work, now_of}
use Rattle.homa_plain.specs.Steps.{moment, asked, served, comes_to_row, takes, comes, client_acted}
use Rattle.homa_plain.specs.CutoffsPackets.{hears_cutoffs}
use Rattle.homa_plain.specs.OldPackets.{is_stale}
use Rattle.homa_plain.specs.Steps.{server_acted, acts_at, acts, ended}
use Rattle.trace_rules.specs.View.{View, Sent}
use Rattle.trace_rules.specs.Seen.{seen, seen_all, delivered, delivery}
use Rattle.trace_rules.specs.Seen as lines
use Rattle.homa_plain.specs.World.{World, host_at, own_clock}
use Rattle.trace_steps.specs.Stands.{put, said_so_far}
use Rattle.trace_steps.specs.Told.{HasLives, IsTold}
use Rattle.step_moves.specs.Worlds.{HasOwnName}
use Rattle.trace_steps.proofs.Runs.{lived_same}
use Rattle.trace_steps.proofs.Lives.{lives_same}
use Rattle.step_laws.proofs.Own.{AllOwn, gets_own, acked_own, server_acts_own, gets_quiet, client_acts_quiet}
use Rattle.step_moves.proofs.Moves.{IsMove, served_told, served-move}
use Rattle.step_moves.proofs.AskedMove.{asked_told, asked-move}
use Rattle.step_moves.proofs.SendMoves.{server_granted-move, client_granted-move, response_leaves-move, request_leaves-move, says-move, hears-move}
use Rattle.trace_steps.proofs.ToldMoves.{each_set, told_move}
use Rattle.step_moves.proofs.Names.{own_set}
use Rattle.step_moves.proofs.Hosts.{there, within, length-set, some_is}
use Rattle.step_moves.proofs.Chosen.{IsTimerAt}
use Rattle.step_moves.proofs.Folds.{acked_kept, turn_kept, ended_kept, GrantKeeps, PieceKeeps}

-- ---- other lines

-- lines that say the same of all this
pub record SameTold (v u : View) : Type 0 where
  pub settings : u.settings ≡ v.settings
  pub tick : u.tick ≡ v.tick
  pub leads : u.leads ≡ v.leads
  pub restarts : u.restarts ≡ v.restarts
  pub firsts : u.firsts ≡ v.firsts
  pub packets : u.packets ≡ v.packets
  pub runs : u.runs ≡ v.runs

pub told_view : (s : Settings) (w : World) (v u : View) → SameTold v u → IsTold s w v → IsTold s w u
told_view s w v u e k = record {
  valid = k.valid;
  settings = e.settings ∙ k.settings;
  tick = e.tick ∙ k.tick;
  leads = λ id l. ap (λ (m : Map nat_cmp ℕ). unwrap_or (get m id.0) s.skew) e.leads ∙ k.leads id l;
  packets = e.packets ∙ k.packets;
  names = k.names;
  lives = λ id h is. lives_same v u id h e.restarts e.firsts e.packets (k.lives id h is);
  lived = lived_same v u (record { runs = e.runs; restarts = e.restarts }) k.lived;
  clocks = k.clocks;
  dated = k.dated;
}

pub inject_same : (v : View) (id : HostId) (bytes : List ℕ) → SameTold v (seen v (PlainInject id bytes))
unfolding seen
inject_same v id bytes = record { settings = refl; tick = refl; leads = refl; restarts = refl; firsts = refl; packets = refl; runs = refl }

pub call_same : (v : View) (id : CallId) (server : HostId) (service : ℕ) (request : List ℕ) → SameTold v (seen v (PlainCall id server service request))
unfolding seen
call_same v id server service request = record { settings = refl; tick = refl; leads = refl; restarts = refl; firsts = refl; packets = refl; runs = refl }

pub deliver_same : (v : View) (n : ℕ) → SameTold v (seen v (PlainDeliver n))
unfolding seen
deliver_same v n = by_packet (delivery (lines.begun v) (PlainDeliver n)) where
  by_packet : (o : Option Sent) → SameTold v (record (delivered (lines.begun v) o) { place = v.place + 1; ended = (seen v (PlainDeliver n)).ended })
  by_packet None = record { settings = refl; tick = refl; leads = refl; restarts = refl; firsts = refl; packets = refl; runs = refl }
  by_packet (Some p) = record { settings = refl; tick = refl; leads = refl; restarts = refl; firsts = refl; packets = refl; runs = refl }

-- ---- other hosts

pub set_same : {A : Type 0} (xs : List A) (i : ℕ) (x : A) → slice_get xs i ≡ Some x → slice_set xs i x ≡ xs
set_same [] i x e = refl
set_same (y ∷ xs) zero x e = ap (λ z. z ∷ xs) (sym (some_is y x e))
set_same (y ∷ xs) (suc i) x e = ap (λ zs. y ∷ zs) (set_same xs i x e)

-- a host of which only rows, orders and the like changed, and its last tick, by its own clock
pub record IsSameHost (s : Settings) (w : World) (id : HostId) (h k : Host) : Type 0 where
  pub name : k.id ≡ h.id
  pub inc : k.inc ≡ h.inc
  pub own : (q : CallId) (r : ClientRow) → get k.clients q ≡ Some r → q.client ≡ id
  pub last : k.last ≤ own_clock w id

pub told_host : (s : Settings) (w : World) (v : View) (id : HostId) (h k : Host) → host_at w id ≡ Some h → IsSameHost s w id h k → IsTold s w v
    → IsTold s (record w { hosts = slice_set w.hosts id.0 k }) v
told_host s w v id h k stands e t =
    let l : id.0 < length w.hosts = within w.hosts id.0 h stands in
    let same : slice_set w.hosts id.0 h ≡ w.hosts = set_same w.hosts id.0 h stands in
    record {
      valid = t.valid;
      settings = t.settings;
      tick = t.tick;
      leads = λ n m. t.leads n (omega (arith, m, length-set w.hosts id.0 k));
      packets = t.packets;
      names =
          each_set HasOwnName HasOwnName w.hosts id h k l (λ n. record { name = e.name ∙ n.name; own = e.own }) (λ _ _ _ n. n) (back same HasOwnName t.names);
      lives = each_set (HasLives v) (HasLives v) w.hosts id h k l
          (λ x. record { first = x.first; now = e.inc ∙ x.now; later = x.later; told = x.told; sent = x.sent }) (λ _ _ _ x. x) (back same (HasLives v) t.lives);
      lived = t.lived;
      clocks = record {
        lead = t.clocks.lead;
        last = each_set (λ n x. x.last ≤ own_clock w n) (λ n x. x.last ≤ own_clock w n) w.hosts id h k l (λ _. e.last) (λ _ _ _ x. x)
            (back same (λ n x. x.last ≤ own_clock w n) t.clocks.last);
        each = t.clocks.each ∙ sym (length-set w.hosts id.0 k);
      };
      dated = t.dated;
    } where
      back : slice_set w.hosts id.0 h ≡ w.hosts → (P : HostId → Host → Type 0) → ((n : HostId) (x : Host) → slice_get w.hosts n.0 ≡ Some x → P n x)
          → (n : HostId) (x : Host) → slice_get (slice_set w.hosts id.0 h) n.0 ≡ Some x → P n x
      back same P all n x is = all n x (ap (λ hs. slice_get hs n.0) (sym same) ∙ is)

-- ---- moves

module _ (s : Settings) (w : World) (v : View) (host : HostId) (stands : host.0 < length w.hosts) where
  abbrev pub ToldAmid : Work → Type 0
  ToldAmid work = IsTold s (put w host work) (said_so_far w v work)

  pub name_amid : (work : Work) → ToldAmid work → work.host.id ≡ host
  name_amid work k = (k.names host work.host (there w.hosts host.0 work.host stands)).name

  pub own_amid : (work : Work) → ToldAmid work → (q : CallId) (r : ClientRow) → get work.host.clients q ≡ Some r → q.client ≡ host
  own_amid work k = (k.names host work.host (there w.hosts host.0 work.host stands)).own

  -- a move that leaves the rows of the host as a client
  told_beside : (work new : Work) (told : List Told) (servers : RowsOf ServerRow) → IsMove work new told work.host.clients servers → ToldAmid work
      → ToldAmid new
  told_beside work new told servers m k = told_move s w v host work new told work.host.clients servers m stands (own_amid work k) k

  told_client : (work new : Work) (told : List Told) (id : CallId) (o : Option ClientRow) → id.client ≡ host
      → IsMove work new told (set_row work.host.clients id o) work.host.servers → ToldAmid work → ToldAmid new
  told_client work new told id o mine m k = told_move s w v host work new told (set_row work.host.clients id o) work.host.servers m stands
      (own_set host work.host.clients id o mine (own_amid work k)) k

  pub told_served : (work : Work) (id : CallId) (did : Did ServerRow) → AllOwn work.host.id id did.says → ToldAmid work → ToldAmid (served s id did work)
  told_served work id did own k =
      told_beside work (served s id did work) (served_told s id did work) (set_row work.host.servers id did.row) (served-move s id did work own) k

  pub told_asked : (work : Work) (id : CallId) (server : HostId) (did : Did ClientRow) → id.client ≡ host → AllOwn id.client id did.says
      → ToldAmid work → ToldAmid (asked s id server did work)
  told_asked work id server did mine own k = told_client work (asked s id server did work) (asked_told s id server did work) id did.row mine
      (asked-move s id server did work (mine ∙ sym (name_amid work k)) own) k

  told_grants : GrantKeeps s ToldAmid
  told_grants = record {
    response = λ work id r part offset prio k at has o m.
        let mine : id.client ≡ host = own_amid work k id r at in
        told_client work _ _ id (Some (client_granted (now_of work) offset r)) mine
        (client_granted-move s id work offset prio r (mine ∙ sym (name_amid work k))) k;
    request = λ work id row service part base count offset prio k at is o m. told_beside work _ _ _ (server_granted-move s id work offset prio row) k;
  }

  told_pieces : PieceKeeps s ToldAmid
  told_pieces = record {
    request = λ work id r range k at may e.
        let mine : id.client ≡ host = own_amid work k id r at in
        told_client work _ _ id (Some (client_sends s (now_of work) r)) mine (request_leaves-move s id work r range (mine ∙ sym (name_amid work k))) k;
    response = λ work id row response out order base count range k at is e. told_beside work _ _ _ (response_leaves-move s id work row _ range) k;
  }

  pub told_ended : (work : Work) → ToldAmid work → ToldAmid (ended s work)
  told_ended work k = ended_kept s ToldAmid told_grants told_pieces work k

  -- a row that acts
  told_acted : (work : Work) (place : Place) (at : ℕ) → ToldAmid work → IsTimerAt s work.host at place → at ≤ now_of work → ToldAmid (acts_at s place work)
  told_acted work (OfClient id) at k timer past =
      subst (λ o. ToldAmid (client_acted s id o work)) (sym timer.1)
      (told_asked work id (timer.0).server (client_acts s (moment s id work) id timer.0) (own_amid work k id timer.0 timer.1)
      (client_acts_quiet s (moment s id work) id timer.0).0 k)
  told_acted work (OfServer id) at k timer past =
      subst (λ o. ToldAmid (server_acted s id o work)) (sym timer.1)
      (told_served work id (server_acts s (moment s id work) id timer.0) (server_acts_own s (moment s id work) id timer.0) k)

  pub told_acts : 1 ≤ s.resend → (work : Work) → ToldAmid work → ToldAmid (acts s work)
  told_acts resend work k = turn_kept s ToldAmid told_acted resend work k

  -- a packet is taken
  told_row : (p : Packet) (answer : Answer) (role : Role) (work : Work) → receiver_of role p.id p.server ≡ host → ToldAmid work
      → ToldAmid (comes_to_row s p answer role work)
  told_row p answer Client work at k = told_served work p.id _ (gets_own s (moment s p.id work) p answer (get work.host.servers p.id)) k
  told_row p answer Server work at k = told_asked work p.id p.server _ at (gets_quiet s (moment s p.id work) p (get work.host.clients p.id)).0 k

  pub told_takes : (p : Packet) (answer : Answer) (work : Work) → receiver p ≡ host → ToldAmid work → ToldAmid (takes s p answer work)
  unfolding takes
  told_takes p answer work at k =
      acked_kept s ToldAmid (λ now id l. told_served now id _ (acked_own s (moment s id now) id (get now.host.servers id)) l) (acks p) _
      (told_row p answer p.role (hears_cutoffs s (sender p) p.inc p.body work) at
      (told_beside work (hears_cutoffs s (sender p) p.inc p.body work) [] work.host.servers (hears-move s (sender p) p.inc p.body work) k))

  pub told_comes : (o : Option Packet) (answer : Answer) (work : Work) → ((p : Packet) → o ≡ Some p → receiver p ≡ host) → ToldAmid work
      → ToldAmid (comes s o answer work)
  told_comes None answer work at k = told_beside work _ _ work.host.servers (says-move (PlainJunk work.host.id) work tt) k
  told_comes (Some p) answer work at k =
      cond_both (is_stale s (now_of work) p) _ _ ToldAmid
      (λ _. told_beside work _ _ work.host.servers (says-move (PlainStale work.host.id p.at (now_of work)) work tt) k)
      (λ _. told_takes p answer work (at p refl) k)
