-- A datagram comes to a host: the lifetime invariant is kept.
use Rattle.std.proofs.Common.{◌≡◌, ℕ, ◌+◌, ◌≤◌, ◌<◌, false, Option, Some, None, List, [], ◌∷◌, length, refl, sym, ap, subst, ◌∙◌, arith}
use Rattle.std.specs.List.{AllByRecursion}
use Rattle.std.proofs.lemmas.Bool.{cond_both}
use Rattle.plain_sets.specs.Maps.{get}
use Rattle.homa_plain.specs.declared.id.CallId.{CallId}
use Rattle.homa_plain.specs.declared.id.HostId.{HostId}
use Rattle.homa_plain.specs.declared.packet.Role.{Role}
use Rattle.homa_plain.specs.declared.packet.Role.TheVariants.{Client, Server}
use Rattle.homa_plain.specs.declared.settings.Settings.{Settings}
use Rattle.homa_plain.specs.Entries.{PlainEntry, PlainJunk, PlainStale}
use Rattle.homa_plain.specs.Packets.{Packet, sender, receiver, receiver_of, acks}
use Rattle.homa_plain.specs.Rows.{ClientRow, ServerRow}
use Rattle.homa_plain.specs.Host.{Told, Says, packets_in}
use Rattle.homa_plain.specs.Rules.{Moment, Answer, Did}
use Rattle.homa_plain.specs.AtClient.{client_gets}
use Rattle.homa_plain.specs.AtServer.{server_gets}
use Rattle.homa_plain.specs.Tombstones.{server_acked}
use Rattle.homa_plain.specs.Work.{Work, now_of, tells}
use Rattle.homa_plain.specs.Steps.{served, asked, moment, comes_to_row, acked, takes, comes}
use Rattle.homa_plain.specs.CutoffsPackets.{hears_cutoffs}
use Rattle.homa_plain.specs.OldPackets.{is_stale}
use Rattle.trace_rules.specs.View.{View}
use Rattle.homa_plain.specs.World.{World, stamped}
use Rattle.trace_steps.specs.Stands.{said_so_far, amid}
use Rattle.step_moves.proofs.Inner.{IsSaid}
use Rattle.trace_steps.proofs.Runs.{runs_told}
use Rattle.step_laws.proofs.Own.{acked_own, gets_own, gets_quiet}
use Rattle.step_moves.proofs.Moves.{IsMove}
use Rattle.step_moves.proofs.SendMoves.{says-move, hears-move, hears-finished}
use Rattle.trace_steps.proofs.Frame.{still_stand, server_there, client_there}
use Rattle.trace_once.specs.Lifetime.{times, IsOver, Fits}
use Rattle.trace_once.specs.Kept.{PacketFits}
use Rattle.trace_once.proofs.ServerTable.{server_gets_keeps}
use Rattle.trace_once.proofs.ServerTimers.{server_acked_keeps}
use Rattle.trace_once.proofs.ClientTable.{client_gets_keeps}
use Rattle.trace_once.proofs.Goes.{AllGo, goes_still, calls_later, packet_later}
use Rattle.trace_once.proofs.OnceLines.{IsQuietTold, quiet_once}
use Rattle.trace_once.proofs.Acks.{gets_done, no_acks}
use Rattle.trace_once.proofs.Amid.{IsAmid, Came, lists_still, moved}
use Rattle.trace_once.proofs.ServedCame.{served_came}
use Rattle.trace_once.proofs.AskedCame.{asked_came}

module _ (s : Settings) (w : World) (v : View) (host : HostId) (now : ℕ) (stands : host.0 < length w.hosts) where
  -- a move that changes no row, sends nothing and tells of no run
  pub still_came : (work new : Work) (told : List Told) → IsMove work new told work.host.clients work.host.servers → packets_in told ≡ []
      → IsQuietTold told → new.host.finished ≡ work.host.finished → IsAmid s w v host now work
      → Came s w v host now work new
  still_came work new told move silent quiet same k =
      let goes : AllGo s (amid w v host work) (amid w v host new) = λ q n.
      goes_still (times s) n (amid w v host work q n) (amid w v host new q n) (k.kept.calls q n)
      (still_stand w v host work new told work.host.clients work.host.servers move refl refl q n (quiet n q)) in
      moved s w v host now stands work new told work.host.clients work.host.servers move k goes
      (subst (λ (ps : List Packet). AllByRecursion (PacketFits s (amid w v host new)) (stamped w.clock ps)) (sym silent) tt)
      (lists_still s w v host now stands work new k goes same) k.own
      (quiet_once (said_so_far w v work) (length w.packets + length (packets_in work.told)) told quiet)

  -- ---- a packet is taken

  -- its cutoffs
  pub heard_came : (p : Packet) (work : Work) → IsAmid s w v host now work → Came s w v host now work (hears_cutoffs s (sender p) p.inc p.body work)
  heard_came p work k = still_came work (hears_cutoffs s (sender p) p.inc p.body work) [] (hears-move s (sender p) p.inc p.body work) refl
      (λ h q. refl) (hears-finished s (sender p) p.inc p.body work) k

  -- its call's row at its server
  pub at_server : (p : Packet) (t : ℕ) (answer : Answer) (work : Work) → IsAmid s w v host now work → w.clock ≤ t + (times s).life
      → Fits (times s) host (amid w v host work p.id host) t Client p.body p.payload
      → Came s w v host now work (served s p.id (server_gets s (moment s p.id work) p answer (get work.host.servers p.id)) work)
  at_server p t answer work k fresh fits =
      let m : Moment = moment s p.id work in
      let o : Option ServerRow = get work.host.servers p.id in
      served_came s w v host now stands work p.id (server_gets s m p answer o) k (gets_own s m p answer o)
      (server_gets_keeps (times s) host (amid w v host work p.id host) s m p t answer o (k.kept.calls p.id host)
      (server_there w v host work p.id stands) fresh fits)

  -- or at its client
  pub at_client : (p : Packet) (t : ℕ) (work : Work) → IsAmid s w v host now work → now ≤ w.clock + (times s).band → w.clock ≤ t + (times s).life
      → p.id.client ≡ host → p.role ≡ Server
      → Fits (times s) p.server (amid w v host work p.id p.server) t Server p.body p.payload
      → Came s w v host now work (asked s p.id p.server (client_gets s (moment s p.id work) p (get work.host.clients p.id)) work)
  at_client p t work k within fresh mine role fits =
      let m : Moment = moment s p.id work in
      let o : Option ClientRow = get work.host.clients p.id in
      asked_came s w v host now stands work p.id p.server (client_gets s m p o) k mine (gets_quiet s m p o) (gets_done s m p o) fits.made
      (λ n.
      client_gets_keeps (times s) n (amid w v host work p.id n) s m p t o (k.kept.calls p.id n) (client_there w v host work p.id n stands mine)
      (omega (arith, within, k.last)) fresh role
      (λ (e : n ≡ p.server). subst (λ (x : HostId). Fits (times s) x (amid w v host work p.id x) t Server p.body p.payload) (sym e) fits))

  -- the calls that it acknowledges, one by one
  pub acked_came : (qs : List CallId) (work : Work) → IsAmid s w v host now work → w.clock ≤ now
      → AllByRecursion (λ q. IsOver host (amid w v host work q host)) qs → IsAmid s w v host now (acked s qs work)
  acked_came [] work k from over = k
  acked_came (q ∷ qs) work k from over =
      let m : Moment = moment s q work in
      let o : Option ServerRow = get work.host.servers q in
      let did : Did ServerRow = server_acked s m q o in
      let c = served_came s w v host now stands work q did k (acked_own s m q o)
      (server_acked_keeps s host (amid w v host work q host) m q o (k.kept.calls q host) (server_there w v host work q stands)
      (omega (arith, from, k.last)) over.0) in
      acked_came qs (served s q did work) c.amid from (calls_later s (amid w v host work) (amid w v host (served s q did work)) c.goes host qs over.1)

  pub taken_came : (p : Packet) (t : ℕ) (answer : Answer) (work : Work) → IsAmid s w v host now work → w.clock ≤ now → now ≤ w.clock + (times s).band
      → w.clock ≤ t + (times s).life → receiver p ≡ host
      → PacketFits s (amid w v host work) (record { tick = t; packet = p }) → IsAmid s w v host now (takes s p answer work)
  unfolding takes
  taken_came p t answer work k from within fresh to f = by_role p.role refl where
    heard : Work
    heard = hears_cutoffs s (sender p) p.inc p.body work

    first : Came s w v host now work (hears_cutoffs s (sender p) p.inc p.body work)
    first = heard_came p work k

    fits : PacketFits s (amid w v host (hears_cutoffs s (sender p) p.inc p.body work)) (record { tick = t; packet = p })
    fits = packet_later s (amid w v host work) (amid w v host (hears_cutoffs s (sender p) p.inc p.body work)) first.goes (record { tick = t; packet = p }) f

    -- the calls that it acknowledges are over after its row's move as before it
    rest : (new : Work) → Came s w v host now (hears_cutoffs s (sender p) p.inc p.body work) new
        → AllByRecursion (λ q. IsOver host (amid w v host (hears_cutoffs s (sender p) p.inc p.body work) q host)) (acks p)
        → IsAmid s w v host now (acked s (acks p) new)
    rest new c over =
        acked_came (acks p) new c.amid from
        (calls_later s (amid w v host (hears_cutoffs s (sender p) p.inc p.body work)) (amid w v host new) c.goes host (acks p) over)

    by_role : (role : Role) → p.role ≡ role
        → IsAmid s w v host now (acked s (acks p) (comes_to_row s p answer role (hears_cutoffs s (sender p) p.inc p.body work)))
    by_role Client e =
        let here : p.server ≡ host = sym (ap (λ (r : Role). receiver_of r p.id p.server) e) ∙ to in
        let u = amid w v host (hears_cutoffs s (sender p) p.inc p.body work) in
        let as_client : Fits (times s) p.server (u p.id p.server) t Client p.body p.payload =
        subst (λ (r : Role). Fits (times s) p.server (u p.id p.server) t r p.body p.payload) e fits.fits in
        rest _ (at_server p t answer (hears_cutoffs s (sender p) p.inc p.body work) first.amid fresh
        (subst (λ (x : HostId). Fits (times s) x (u p.id x) t Client p.body p.payload) here as_client))
        (subst (λ (x : HostId). AllByRecursion (λ q. IsOver x (u q x)) (acks p)) here fits.acked)
    by_role Server e =
        let mine : p.id.client ≡ host = sym (ap (λ (r : Role). receiver_of r p.id p.server) e) ∙ to in
        let u = amid w v host (hears_cutoffs s (sender p) p.inc p.body work) in
        let as_server : Fits (times s) p.server (u p.id p.server) t Server p.body p.payload =
        subst (λ (r : Role). Fits (times s) p.server (u p.id p.server) t r p.body p.payload) e fits.fits in
        rest _ (at_client p t (hears_cutoffs s (sender p) p.inc p.body work) first.amid within fresh mine e as_server)
        (no_acks (λ q. IsOver host (u q host)) (times s) (u p.id p.server) t p.id p.body as_server.fits)

  -- ---- a datagram that isn't taken

  pub said_came : (entry : PlainEntry) (work : Work) → IsSaid entry → ((h : HostId) (q : CallId) → runs_told h q (Says entry ∷ []) ≡ false)
      → IsAmid s w v host now work → IsAmid s w v host now (tells (Says entry ∷ []) work)
  said_came entry work said quiet k = (still_came work (tells (Says entry ∷ []) work) (Says entry ∷ []) (says-move entry work said) refl quiet refl k).amid

  pub junk_came : (answer : Answer) (work : Work) → IsAmid s w v host now work → IsAmid s w v host now (comes s None answer work)
  junk_came answer work k = said_came (PlainJunk work.host.id) work tt (λ h q. refl) k

  -- a packet comes; where it is not stale, it may be taken
  pub packet_came : (p : Packet) (t : ℕ) (answer : Answer) (work : Work) → IsAmid s w v host now work → w.clock ≤ now → now ≤ w.clock + (times s).band
      → (is_stale s (now_of work) p ≡ false → w.clock ≤ t + (times s).life) → receiver p ≡ host
      → PacketFits s (amid w v host work) (record { tick = t; packet = p }) → IsAmid s w v host now (comes s (Some p) answer work)
  packet_came p t answer work k from within fresh to f =
      cond_both (is_stale s (now_of work) p) _ _ (IsAmid s w v host now)
      (λ _. said_came (PlainStale work.host.id p.at (now_of work)) work tt (λ h q. refl) k)
      (λ e. taken_came p t answer work k from within (fresh e) to f)
