-- A rule is carried out at a call's server: the lifetime invariant is kept, and once holds at each line.
use Rattle.std.proofs.Common.{◌≡◌, ℕ, ◌+◌, ◌<◌, Bool, true, false, ◌&&◌, ◌||◌, Option, Some, None, List, [], ◌∷◌, ◌++◌, length, cond, refl, sym, ap, subst, ◌∙◌}
use Rattle.std.specs.Prelude.{◌==◌}
use Rattle.std.specs.List.{AllByRecursion}
use Rattle.std.proofs.lemmas.Bool.{cond_both, and_parts}
use Rattle.homa_plain.specs.declared.id.CallId.{CallId}
use Rattle.homa_plain.specs.declared.id.HostId.{HostId}
use Rattle.homa_plain.specs.declared.packet.Role.TheVariants.{Server}
use Rattle.homa_plain.specs.declared.packet.Body.TheVariants as body
use Rattle.homa_plain.specs.declared.settings.Settings.{Settings}
use Rattle.homa_plain.specs.Calls.{is_host, is_call}
use Rattle.homa_plain.specs.Packets.{Packet}
use Rattle.homa_plain.specs.Rows.{ServerRow, set_row}
use Rattle.homa_plain.specs.Host.{Told, Says, Sends, packets_in, entries_from}
use Rattle.homa_plain.specs.Rules.{Say, Tells, Posts, Did}
use Rattle.homa_plain.specs.Work.{Work, said}
use Rattle.homa_plain.specs.Steps.{served}
use Rattle.trace_rules.specs.View.{View}
use Rattle.trace_rules.specs.Seen.{seen_all}
use Rattle.trace_rules.specs.Laws.{Holds, Once}
use Rattle.homa_plain.specs.World.{World, stamped}
use Rattle.homa_plain.proofs.CallOrder.{calls_are, hosts_are}
use Rattle.step_laws.proofs.Places.{all-append}
use Rattle.trace_steps.specs.Stands.{Stand, state_of, with_server, said_so_far, amid}
use Rattle.step_moves.proofs.Inner.{AllInner}
use Rattle.trace_steps.proofs.Runs.{runs_told}
use Rattle.step_laws.proofs.Own.{AllOwn, runs_said}
use Rattle.step_moves.proofs.Moves.{IsMove, notes_told, reply_told, served_put, served_noted, served_told, served_packets, served-move, served-finished}
use Rattle.trace_steps.proofs.OwnRuns.{notes-runs, reply-runs, served-runs}
use Rattle.trace_steps.proofs.Frame.{stamped-append, server_stand}
use Rattle.trace_once.specs.Lifetime.{times, IsOver, Fits}
use Rattle.trace_once.specs.Kept.{PacketFits}
use Rattle.trace_once.proofs.ServerRules.{SaysFit, ServerKeeps, later_server, lifetime_server, fits_server, live_covers}
use Rattle.trace_once.proofs.Goes.{Goes, AllGo, goes_still}
use Rattle.trace_once.proofs.Acks.{no_acks}
use Rattle.trace_once.proofs.OnceLines.{quiet_once, once_append, stood_still, says_once}
use Rattle.trace_once.proofs.Amid.{IsAmid, Came, lists_still, moved}

inner_front : (a b : List Told) → AllInner (a ++ b) → AllInner a
inner_front [] b x = tt
inner_front (Says entry ∷ a) b x = (x.0, inner_front a b x.1)
inner_front (Sends packet ∷ a) b x = inner_front a b x

inner_back : (a b : List Told) → AllInner (a ++ b) → AllInner b
inner_back [] b x = x
inner_back (Says entry ∷ a) b x = inner_back a b x.1
inner_back (Sends packet ∷ a) b x = inner_back a b x

swap_true : (a b : Bool) → ((a && true) || b) ≡ (b || a)
swap_true true true = refl
swap_true true false = refl
swap_true false true = refl
swap_true false false = refl

drop_false : (a b : Bool) → ((a && false) || b) ≡ b
drop_false true b = refl
drop_false false b = refl

module _ (s : Settings) (w : World) (v : View) (host : HostId) (now : ℕ) (stands : host.0 < length w.hosts) (work : Work) (id : CallId)
    (did : Did ServerRow) where
  module _ (k : IsAmid s w v host now work) (own : AllOwn work.host.id id did.says) (d : ServerKeeps (times s) host (amid w v host work id host) did) where
    new : Work
    new = served s id did work

    move : IsMove work (served s id did work) (served_told s id did work) work.host.clients (set_row work.host.servers id did.row)
    move = served-move s id did work own

    ran_by : (q : CallId) (n : HostId) (b : Bool) → (is_call id q && is_host host n) ≡ b → runs_told n q (served_told s id did work) ≡ (runs_said did.says && b)
    ran_by q n b e =
        served-runs s n q id did work own ∙ ap (λ (x : HostId). runs_said did.says && (is_call id q && is_host x n)) k.name
        ∙ ap (λ x. runs_said did.says && x) e

    pub served_stand : (q : CallId) (n : HostId) (b : Bool) → (is_call id q && is_host host n) ≡ b
        → amid w v host (served s id did work) q n ≡ with_server (amid w v host work q n) (cond b (state_of did.row) (amid w v host work q n).server)
        ((runs_said did.says && b) || (amid w v host work q n).ran)
    served_stand q n b e =
        server_stand w v host work (served s id did work) (served_told s id did work) work.host.clients (set_row work.host.servers id did.row) move
        stands id did.row refl refl q n b e
        ∙ ap (λ x. with_server (amid w v host work q n) (cond b (state_of did.row) (amid w v host work q n).server)
        (x || (amid w v host work q n).ran)) (ran_by q n b e)

    -- the call itself
    here : amid w v host (served s id did work) id host ≡ with_server (amid w v host work id host) (state_of did.row)
        ((amid w v host work id host).ran || runs_said did.says)
    here =
        served_stand id host true (ap (λ b. b && is_host host host) ((calls_are id id).1 refl) ∙ (hosts_are host host).1 refl)
        ∙ ap (λ (b : Bool). with_server (amid w v host work id host) (state_of did.row) b) (swap_true (runs_said did.says) (amid w v host work id host).ran)

    goes_here : Goes (times s) host (amid w v host work id host) (amid w v host (served s id did work) id host)
    goes_here =
        let old : Stand = amid w v host work id host in
        subst (Goes (times s) host old) (sym here)
        (record {
          later = later_server (times s) host old (state_of did.row) (old.ran || runs_said did.says) d.change;
          kept = lifetime_server (times s) host old (state_of did.row) (old.ran || runs_said did.says) d.change (k.kept.calls id host);
        })

    -- every call, at every host
    goes : AllGo s (amid w v host work) (amid w v host (served s id did work))
    goes q n = by_test (is_call id q && is_host host n) refl where
      by_test : (b : Bool) → (is_call id q && is_host host n) ≡ b → Goes (times s) n (amid w v host work q n) (amid w v host (served s id did work) q n)
      by_test true e =
          let p = and_parts (is_call id q) (is_host host n) e in
          subst (λ (x : CallId). Goes (times s) n (amid w v host work x n) (amid w v host (served s id did work) x n)) ((calls_are id q).0 p.0)
          (subst (λ (x : HostId). Goes (times s) x (amid w v host work id x) (amid w v host (served s id did work) id x)) ((hosts_are host n).0 p.1) goes_here)
      by_test false e =
          goes_still (times s) n (amid w v host work q n) (amid w v host (served s id did work) q n) (k.kept.calls q n)
          (served_stand q n false e ∙ ap (λ (b : Bool). with_server (amid w v host work q n) (amid w v host work q n).server b)
          (drop_false (runs_said did.says) (amid w v host work q n).ran))

    -- ---- the packets that are sent

    said_fit : (u : CallId → HostId → Stand) (h : HostId) (says : List Say) → SaysFit (times s) h (u id h) w.clock Server says
        → AllByRecursion (PacketFits s u) (stamped w.clock (packets_in (said s work.host Server id h says)))
    said_fit u h [] f = tt
    said_fit u h (Tells entry ∷ says) f = said_fit u h says f
    said_fit u h (Posts what ∷ says) f =
        (record { fits = f.0; acked = no_acks (λ q. IsOver h (u q h)) (times s) (u id h) w.clock id what f.0.fits }, said_fit u h says f.1)

    reply_fits : (u : CallId → HostId → Stand) (h : HostId) (o : Option ℕ) (x : Work)
        → ((n : ℕ) → o ≡ Some n → Fits (times s) h (u id h) w.clock Server (body.Cutoffs x.host.tuning.own) [])
        → AllByRecursion (PacketFits s u) (stamped w.clock (packets_in (reply_told s Server id h o x)))
    reply_fits u h None x f = tt
    reply_fits u h (Some version) x f =
        cond_both (version == x.host.tuning.own.version) _ _ (λ (t : List Told). AllByRecursion (PacketFits s u) (stamped w.clock (packets_in t)))
        (λ _. tt) (λ _. (record { fits = f version refl; acked = tt }, tt))

    fits : AllByRecursion (PacketFits s (amid w v host (served s id did work))) (stamped w.clock (packets_in (served_told s id did work)))
    fits =
        let u = amid w v host (served s id did work) in
        let old : Stand = amid w v host work id host in
        let ran : Bool = old.ran || runs_said did.says in
        let noted : Work = served_noted s id did work in
        let says = said_fit u host did.says (subst (λ (x : Stand). SaysFit (times s) host x w.clock Server did.says) (sym here) d.says) in
        let reply = reply_fits u host did.version noted (λ n is.
        subst (λ (x : Stand). Fits (times s) host x w.clock Server (body.Cutoffs noted.host.tuning.own) []) (sym here)
        (fits_server (times s) host old (state_of did.row) ran (body.Cutoffs noted.host.tuning.own) d.change.made
        (live_covers (times s) host old (state_of did.row) ran w.clock (d.cutoffs n is)))) in
        let both = (λ (h : HostId). packets_in (reply_told s Server id h did.version noted) ++ packets_in (said s work.host Server id h did.says)) in
        subst (λ (ps : List Packet). AllByRecursion (PacketFits s u) (stamped w.clock ps)) (sym (served_packets s id did work ∙ ap both k.name))
        (subst (AllByRecursion (PacketFits s u))
        (sym (stamped-append w.clock (packets_in (reply_told s Server id host did.version noted)) (packets_in (said s work.host Server id host did.says))))
        (all-append (PacketFits s u) (stamped w.clock (packets_in (reply_told s Server id host did.version noted)))
        (stamped w.clock (packets_in (said s work.host Server id host did.says))) reply says))

    -- ---- the lines that are told

    once : Holds Once (said_so_far w v work) (entries_from (length w.packets + length (packets_in work.told)) (served_told s id did work))
    once =
        let v0 : View = said_so_far w v work in
        let n : ℕ = length w.packets + length (packets_in work.told) in
        let noted : List Told = notes_told s did.opened (served_put s id did work) in
        let reply : List Told = reply_told s Server id work.host.id did.version (served_noted s id did work) in
        let says : List Told = said s work.host Server id work.host.id did.says in
        let v1 : View = seen_all v0 (entries_from n noted) in
        let n1 : ℕ = n + length (packets_in noted) in
        let inner = inner_back noted (reply ++ says) move.inner in
        let mine = subst (λ (x : HostId). AllOwn x id did.says) k.name own in
        let old : Stand = amid w v host work id host in
        let still = stood_still id host old v0 n noted (inner_front noted (reply ++ says) move.inner)
        (notes-runs s host id did.opened (served_put s id did work)) (refl, refl) in
        once_append v0 n noted (reply ++ says) (quiet_once v0 n noted (λ h q. notes-runs s h q did.opened (served_put s id did work)))
        (once_append v1 n1 reply says (quiet_once v1 n1 reply (λ h q. reply-runs s h q Server id work.host.id did.version (served_noted s id did work)))
        (says_once s work.host Server id work.host.id host old (seen_all v1 (entries_from n1 reply)) (n1 + length (packets_in reply)) did.says mine d.runs
        (stood_still id host old v1 n1 reply (inner_front reply says inner)
        (reply-runs s host id Server id work.host.id did.version (served_noted s id did work)) still)))

    pub served_came : Came s w v host now work (served s id did work)
    served_came =
        moved s w v host now stands work (served s id did work) (served_told s id did work) work.host.clients
        (set_row work.host.servers id did.row) move k goes fits
        (lists_still s w v host now stands work (served s id did work) k goes (served-finished s id did work)) k.own once
