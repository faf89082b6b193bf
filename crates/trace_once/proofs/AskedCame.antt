-- A rule is carried out at a call's client: the lifetime invariant is kept.
use Rattle.std.proofs.Common.{◌≡◌, ℕ, ◌+◌, ◌<◌, Bool, true, false, Option, Some, None, List, [], ◌∷◌, ◌++◌, length, cond, refl, sym, ap, subst, ◌∙◌, arith}
use Rattle.std.specs.Prelude.{◌==◌, nat_lt, slice_index_or}
use Rattle.std.specs.List.{AllByRecursion}
use Rattle.std.proofs.lemmas.Bool.{cond_both}
use Rattle.homa_plain.specs.declared.id.CallId.{CallId}
use Rattle.homa_plain.specs.declared.id.HostId.{HostId}
use Rattle.homa_plain.specs.declared.packet.Role.TheVariants.{Client}
use Rattle.homa_plain.specs.declared.packet.Body.{Body}
use Rattle.homa_plain.specs.declared.packet.Body.TheVariants as body
use Rattle.homa_plain.specs.declared.settings.Settings.{Settings}
use Rattle.homa_plain.specs.Calls.{is_call}
use Rattle.homa_plain.specs.Packets.{Packet, acks_in}
use Rattle.homa_plain.specs.Rows.{ClientRow, set_row}
use Rattle.homa_plain.specs.Host.{Told, packets_in, finished_at}
use Rattle.homa_plain.specs.Rules.{Say, Tells, Posts, Did}
use Rattle.homa_plain.specs.Work.{Work, said}
use Rattle.homa_plain.specs.Steps.{asked}
use Rattle.trace_rules.specs.View.{View}
use Rattle.homa_plain.specs.World.{World, stamped}
use Rattle.homa_plain.proofs.CallOrder.{calls_are}
use Rattle.step_laws.proofs.Places.{all-append}
use Rattle.trace_steps.specs.Stands.{Stand, with_client, said_so_far, amid}
use Rattle.step_laws.proofs.Own.{IsQuiet}
use Rattle.step_moves.proofs.Moves.{IsMove, reply_told, acknowledged_told, finishes_told}
use Rattle.step_moves.proofs.AskedMove.{asked_noted, asked_said, asked_told, asked_packets, asked-move, said-id, said-finished}
use Rattle.trace_steps.proofs.OwnRuns.{asked-runs}
use Rattle.trace_steps.proofs.Frame.{stamped-append, client_stand}
use Rattle.step_moves.proofs.Names.{own_set}
use Rattle.trace_once.specs.Lifetime.{times, IsMadeTo, IsOver}
use Rattle.trace_once.specs.Kept.{PacketFits, call_of}
use Rattle.trace_once.proofs.Later.{made_later}
use Rattle.trace_once.proofs.ServerRules.{SaysFit}
use Rattle.trace_once.proofs.ClientRules.{IsBare, AllBare, ClientKeeps, later_client, lifetime_client, says_bare}
use Rattle.trace_once.proofs.Goes.{Goes, AllGo, goes_still, lists_later}
use Rattle.trace_once.proofs.OnceLines.{quiet_once}
use Rattle.trace_once.proofs.Acks.{GoesWhenDone, all_more, all_named, asked_finished}
use Rattle.trace_once.proofs.Amid.{IsAmid, Came, own_lists, moved}

-- ---- the packets that are sent, where each call stands so at each host

module _ (s : Settings) (tick : ℕ) (u : CallId → HostId → Stand) (clock : (q : CallId) (n : HostId) → (u q n).clock ≡ tick) where
  abbrev AllFit : List Told → Type 0
  AllFit told = AllByRecursion (PacketFits s u) (stamped tick (packets_in told))

  -- cutoffs that are told
  reply_fits : (id : CallId) (server : HostId) (o : Option ℕ) (x : Work) → IsMadeTo server (u id server) → AllFit (reply_told s Client id server o x)
  reply_fits id server None x made = tt
  reply_fits id server (Some version) x made =
      cond_both (version == x.host.tuning.own.version) _ _ AllFit (λ _. tt)
      (λ _. (record { fits = record { past = omega (arith, clock id server); made = made; fits = tt }; acked = tt }, tt))

  -- what a rule says; by an ACK that is an answer, that its own call is over
  said_fit : (work : Work) (id : CallId) (server : HostId) (o : Option ClientRow) (says : List Say) → IsMadeTo server (u id server)
      → (u id server).client ≡ o → SaysFit (times s) server (u id server) tick Client says
      → AllBare o says → AllFit (said s work.host Client id server says)
  said_fit work id server o [] made row fits bare = tt
  said_fit work id server o (Tells entry ∷ says) made row fits bare = said_fit work id server o says made row fits bare
  said_fit work id server o (Posts what ∷ says) made row fits bare =
      (record { fits = fits.0; acked = by_body what bare.0 }, said_fit work id server o says made row fits.1 bare.1) where
        by_body : (what : Body) → IsBare o what → AllByRecursion (λ q. IsOver server (u q server)) (acks_in id what)
        by_body (body.Data size offset version service ack) b = absurd b
        by_body (body.Ack more) b =
            subst (λ (m : List (ℕ × ℕ)). AllByRecursion (λ q. IsOver server (u q server)) (acks_in id (body.Ack m))) (sym b.1) ((made, row ∙ b.0), tt)
        by_body other b = tt

  -- the ACK of five
  ack_fits : (host server : HostId) (calls : List (ℕ × ℕ)) (x : Work) → x.host.id ≡ host
      → AllByRecursion (λ (c : ℕ × ℕ). IsOver server (u (call_of host c) server)) calls → AllFit (acknowledged_told s server calls x)
  ack_fits host server [] x name over = tt
  ack_fits host server (call ∷ calls) x name over =
      let over' = subst (λ (h : HostId). AllByRecursion (λ (c : ℕ × ℕ). IsOver server (u (call_of h c) server)) (call ∷ calls)) (sym name) over in
      cond_both (nat_lt (length calls) 4) _ _ AllFit (λ _. tt)
      (λ _. (
        record {
          fits = record { past = omega (arith, clock (call_of x.host.id call) server); made = over'.0.0; fits = tt };
          acked = (over'.0, all_named (λ q. IsOver server (u q server)) x.host.id calls over'.1);
        },
        tt,
      ))

  done_fits : (host : HostId) (id : CallId) (server : HostId) (done : Bool) (x : Work) → x.host.id ≡ host
      → (done ≡ true → AllByRecursion (λ (c : ℕ × ℕ). IsOver server (u (call_of host c) server)) (finished_at x.host server ++ (id.inc, id.seq) ∷ []))
      → AllFit (finishes_told s id server done x)
  done_fits host id server false x name over = tt
  done_fits host id server true x name over = ack_fits host server (finished_at x.host server ++ (id.inc, id.seq) ∷ []) x name (over refl)

-- ---- the move

module _ (s : Settings) (w : World) (v : View) (host : HostId) (now : ℕ) (stands : host.0 < length w.hosts) (work : Work) (id : CallId)
    (server : HostId) (did : Did ClientRow) where
  module _ (k : IsAmid s w v host now work) (mine : id.client ≡ host) (quiet : IsQuiet id did) (done : GoesWhenDone did)
      (made : IsMadeTo server (amid w v host work id server)) (d : (n : HostId) → ClientKeeps (times s) (amid w v host work id n) did) where
    move : IsMove work (asked s id server did work) (asked_told s id server did work) (set_row work.host.clients id did.row) work.host.servers
    move = asked-move s id server did work (mine ∙ sym k.name) quiet.0

    pub asked_stand : (q : CallId) (n : HostId) (b : Bool) → is_call id q ≡ b
        → amid w v host (asked s id server did work) q n ≡ with_client (amid w v host work q n) (cond b did.row (amid w v host work q n).client)
    asked_stand q n b e =
        client_stand w v host work (asked s id server did work) (asked_told s id server did work)
        (set_row work.host.clients id did.row) work.host.servers move stands id did.row mine refl refl q n b e
        (asked-runs s n q id server did work quiet.0 quiet.1)

    here : (n : HostId) → amid w v host (asked s id server did work) id n ≡ with_client (amid w v host work id n) did.row
    here n = asked_stand id n true ((calls_are id id).1 refl)

    -- every call, at every host
    goes : AllGo s (amid w v host work) (amid w v host (asked s id server did work))
    goes q n = by_test (is_call id q) refl where
      by_test : (b : Bool) → is_call id q ≡ b → Goes (times s) n (amid w v host work q n) (amid w v host (asked s id server did work) q n)
      by_test true e =
          subst (λ (x : CallId). Goes (times s) n (amid w v host work x n) (amid w v host (asked s id server did work) x n)) ((calls_are id q).0 e)
          (subst (Goes (times s) n (amid w v host work id n)) (sym (here n))
          (record {
            later = later_client (times s) n (amid w v host work id n) did.row (d n).row;
            kept = lifetime_client (times s) n (amid w v host work id n) did.row (d n).row (k.kept.calls id n);
          }))
      by_test false e =
          goes_still (times s) n (amid w v host work q n) (amid w v host (asked s id server did work) q n) (k.kept.calls q n) (asked_stand q n false e)

    -- a call of this host that is over, for a server
    abbrev OverFor : ℕ → ℕ × ℕ → Type 0
    OverFor m c = IsOver (record { 0 = m }) (amid w v host (asked s id server did work) (call_of host c) (record { 0 = m }))

    made_still : IsMadeTo server (amid w v host (asked s id server did work) id server)
    made_still = made_later (times s) server (amid w v host work id server) (amid w v host (asked s id server did work) id server) (goes id server).later made

    -- the call itself, where it is done
    itself : did.finished ≡ true → OverFor server.0 (id.inc, id.seq)
    itself t =
        let o : IsOver server (amid w v host (asked s id server did work) id server) = (made_still, ap (λ (x : Stand). x.client) (here server) ∙ done t) in
        subst (λ (c : HostId). IsOver server (amid w v host (asked s id server did work) (record { client = c; inc = id.inc; seq = id.seq }) server)) mine o

    lists : (m : ℕ) → AllByRecursion (OverFor m) (slice_index_or work.host.finished m [])
    lists m = lists_later s (amid w v host work) (amid w v host (asked s id server did work)) goes host (record { 0 = m })
        (slice_index_or work.host.finished m []) (own_lists s w v host now stands work k (record { 0 = m }))

    fits : AllByRecursion (PacketFits s (amid w v host (asked s id server did work))) (stamped w.clock (packets_in (asked_told s id server did work)))
    fits =
        let u = amid w v host (asked s id server did work) in
        let noted : Work = asked_noted s id server did work in
        let said_work : Work = asked_said s id server did work in
        let one : List Packet = packets_in (reply_told s Client id server did.version noted) in
        let two : List Packet = packets_in (said s work.host Client id server did.says) in
        let three : List Packet = packets_in (finishes_told s id server did.finished said_work) in
        let t : ℕ = w.clock in
        let reply = reply_fits s t u (λ q n. refl) id server did.version noted made_still in
        let says = said_fit s t u (λ q n. refl) work id server did.row did.says made_still (ap (λ (x : Stand). x.client) (here server))
        (says_bare (times s) server (u id server) did.row did.says made_still (d server).bare) (d server).bare in
        let over = (λ (e : did.finished ≡ true).
        subst (λ (f : List (List (ℕ × ℕ))). AllByRecursion (OverFor server.0) (slice_index_or f server.0 [] ++ (id.inc, id.seq) ∷ []))
        (sym (said-finished s id server did work))
        (all_more (OverFor server.0) (finished_at work.host server) (id.inc, id.seq) (lists server.0) (itself e))) in
        let ack = done_fits s t u (λ q n. refl) host id server did.finished said_work (said-id s id server did work ∙ k.name) over in
        subst (λ (ps : List Packet). AllByRecursion (PacketFits s u) (stamped t ps)) (sym (asked_packets s id server did work))
        (subst (AllByRecursion (PacketFits s u)) (sym (stamped-append t one (two ++ three) ∙ ap (λ ps. stamped t one ++ ps) (stamped-append t two three)))
        (all-append (PacketFits s u) (stamped t one) (stamped t two ++ stamped t three) reply
        (all-append (PacketFits s u) (stamped t two) (stamped t three) says ack)))

    pub asked_came : Came s w v host now work (asked s id server did work)
    asked_came =
        moved s w v host now stands work (asked s id server did work) (asked_told s id server did work)
        (set_row work.host.clients id did.row) work.host.servers move k goes fits
        (λ m. asked_finished s OverFor id server did work itself lists m.0) (own_set host work.host.clients id did.row mine k.own)
        (quiet_once (said_so_far w v work) (length w.packets + length (packets_in work.told)) (asked_told s id server did work)
        (λ h q. asked-runs s h q id server did work quiet.0 quiet.1))
