-- A rule at a client is carried out: what it tells, and what it leaves of its host.
use Rattle.std.proofs.Common.{◌≡◌, ℕ, Bool, true, false, Option, Some, None, List, [], ◌∷◌, ◌++◌, length, cond, refl, sym, ap, subst, ◌∙◌, append_assoc}
use Rattle.std.specs.Prelude.{◌==◌, nat_lt}
use Rattle.std.specs.List.{AllByRecursion}
use Rattle.std.proofs.lemmas.List.{append-nil}
use Rattle.std.proofs.lemmas.Bool.{cond_both}
use Rattle.homa_plain.specs.declared.id.CallId.{CallId}
use Rattle.homa_plain.specs.declared.id.HostId.{HostId}
use Rattle.homa_plain.specs.declared.packet.Role.TheVariants.{Client}
use Rattle.homa_plain.specs.declared.packet.Body.TheVariants as body
use Rattle.homa_plain.specs.declared.settings.Settings.{Settings}
use Rattle.homa_plain.specs.Rows.{ClientRow, set_row}
use Rattle.homa_plain.specs.Host.{Told, Sends, packets_in, finished_at, with_finished}
use Rattle.homa_plain.specs.Rules.{Did}
use Rattle.homa_plain.specs.Work.{Work, tells, posts, said, bare, packet_from}
use Rattle.homa_plain.specs.CutoffsPackets.{notes, tells_cutoffs}
use Rattle.homa_plain.specs.FiveAcks.{acknowledged, finishes}
use Rattle.homa_plain.specs.Steps.{asked}
use Rattle.step_laws.proofs.ToldBy.{packets_in-append, asked-clients, asked-servers}
use Rattle.step_laws.proofs.Places.{all-append}
use Rattle.step_moves.proofs.Inner.{inner-append, AllInner}
use Rattle.step_laws.proofs.Own.{AllOwn}
use Rattle.step_moves.proofs.Moves.{IsFrom, IsMove, notes_told, reply_told, acknowledged_told, finishes_told, SameHost, host_itself, host_then}
use Rattle.step_moves.proofs.Moves.{all_from_same, from_host, notes-host, reply-host, notes-told, reply-told, notes_none, notes_inner, reply_inner}
use Rattle.step_moves.proofs.Moves.{reply_from, said_inner, said_from}

-- ---- a call is done

module _ (s : Settings) where
  acknowledged-told : (server : HostId) (calls : List (ℕ × ℕ)) (w : Work) → (acknowledged s server calls w).told ≡ w.told ++ acknowledged_told s server calls w
  acknowledged-told server [] w = sym (append-nil w.told)
  acknowledged-told server (call ∷ calls) w = by_test (nat_lt (length calls) 4) where
    ack : Told
    ack = Sends (packet_from s w.host Client (record { client = w.host.id; inc = call.0; seq = call.1 }) server (bare (body.Ack calls)))

    by_test : (b : Bool)
        → (cond b (record w { host = with_finished server (call ∷ calls) w.host })
        (posts s Client (record { client = w.host.id; inc = call.0; seq = call.1 }) server (body.Ack calls)
        (record w { host = with_finished server [] w.host }))).told
        ≡ w.told ++ (cond b [] (ack ∷ []))
    by_test true = sym (append-nil w.told)
    by_test false = refl

  finishes-told : (id : CallId) (server : HostId) (done : Bool) (w : Work) → (finishes s id server done w).told ≡ w.told ++ finishes_told s id server done w
  finishes-told id server false w = sym (append-nil w.told)
  finishes-told id server true w = acknowledged-told server (finished_at w.host server ++ (id.inc, id.seq) ∷ []) w

  acknowledged-host : (server : HostId) (calls : List (ℕ × ℕ)) (w : Work) → SameHost w (acknowledged s server calls w)
  acknowledged-host server [] w = host_itself w
  acknowledged-host server (call ∷ calls) w =
      cond_both (nat_lt (length calls) 4) _ _ (SameHost w) (λ _. record { id = refl; inc = refl; seq = refl; last = refl })
      (λ _. record { id = refl; inc = refl; seq = refl; last = refl })

  finishes-host : (id : CallId) (server : HostId) (done : Bool) (w : Work) → SameHost w (finishes s id server done w)
  finishes-host id server false w = host_itself w
  finishes-host id server true w = acknowledged-host server (finished_at w.host server ++ (id.inc, id.seq) ∷ []) w

  acknowledged_inner : (server : HostId) (calls : List (ℕ × ℕ)) (w : Work) → AllInner (acknowledged_told s server calls w)
  acknowledged_inner server [] w = tt
  acknowledged_inner server (call ∷ calls) w = cond_both (nat_lt (length calls) 4) _ _ AllInner (λ _. tt) (λ _. tt)

  finishes_inner : (id : CallId) (server : HostId) (done : Bool) (w : Work) → AllInner (finishes_told s id server done w)
  finishes_inner id server false w = tt
  finishes_inner id server true w = acknowledged_inner server (finished_at w.host server ++ (id.inc, id.seq) ∷ []) w

  acknowledged_from : (server : HostId) (calls : List (ℕ × ℕ)) (w : Work) → AllByRecursion (IsFrom w.host) (packets_in (acknowledged_told s server calls w))
  acknowledged_from server [] w = tt
  acknowledged_from server (call ∷ calls) w =
      cond_both (nat_lt (length calls) 4) _ _ (λ (t : List Told). AllByRecursion (IsFrom w.host) (packets_in t)) (λ _. tt)
      (λ _. (from_host s w.host Client (record { client = w.host.id; inc = call.0; seq = call.1 }) server (bare (body.Ack calls)) refl, tt))

  finishes_from : (id : CallId) (server : HostId) (done : Bool) (w : Work) → AllByRecursion (IsFrom w.host) (packets_in (finishes_told s id server done w))
  finishes_from id server false w = tt
  finishes_from id server true w = acknowledged_from server (finished_at w.host server ++ (id.inc, id.seq) ∷ []) w

-- ---- the move

module _ (s : Settings) (id : CallId) (server : HostId) (did : Did ClientRow) (w : Work) where
  abbrev pub asked_put : Work
  asked_put = record w { host = record w.host { order = did.order; clients = set_row w.host.clients id did.row } }

  abbrev pub asked_noted : Work
  asked_noted = notes s did.opened asked_put

  abbrev pub asked_said : Work
  asked_said = tells (said s w.host Client id server did.says) (tells_cutoffs s Client id server did.version asked_noted)

  abbrev pub asked_told : List Told
  asked_told = notes_told s did.opened asked_put
      ++ (reply_told s Client id server did.version asked_noted
      ++ (said s w.host Client id server did.says ++ finishes_told s id server did.finished asked_said))

  asked-grown : (asked s id server did w).told ≡ w.told ++ asked_told
  unfolding asked
  asked-grown =
      finishes-told s id server did.finished asked_said
      ∙ ap (λ t. (t ++ said s w.host Client id server did.says) ++ finishes_told s id server did.finished asked_said)
      (reply-told s Client id server did.version asked_noted ∙ ap (λ t. t ++ reply_told s Client id server did.version asked_noted)
      (notes-told s did.opened asked_put))
      ∙ shuffle w.told (notes_told s did.opened asked_put) (reply_told s Client id server did.version asked_noted)
      (said s w.host Client id server did.says) (finishes_told s id server did.finished asked_said) where
        shuffle : (a b c d e : List Told) → (((a ++ b) ++ c) ++ d) ++ e ≡ a ++ (b ++ (c ++ (d ++ e)))
        shuffle a b c d e = simp append_assoc

  said-host : SameHost w asked_said
  said-host =
      let a = host_then asked_put asked_noted (tells_cutoffs s Client id server did.version asked_noted) (notes-host s did.opened asked_put)
      (reply-host s Client id server did.version asked_noted) in
      record { id = a.id; inc = a.inc; seq = a.seq; last = a.last }

  asked-host : SameHost w (asked s id server did w)
  unfolding asked
  asked-host = host_then w asked_said (finishes s id server did.finished asked_said) said-host (finishes-host s id server did.finished asked_said)

  -- the packets: the answer to a first piece, what the rule says, and the ACK of five calls
  pub asked_packets : packets_in asked_told
      ≡ packets_in (reply_told s Client id server did.version asked_noted)
      ++ (packets_in (said s w.host Client id server did.says) ++ packets_in (finishes_told s id server did.finished asked_said))
  asked_packets =
      let reply = reply_told s Client id server did.version asked_noted in
      let says = said s w.host Client id server did.says in
      let ends = finishes_told s id server did.finished asked_said in
      packets_in-append (notes_told s did.opened asked_put) (reply ++ (says ++ ends))
      ∙ ap (λ ps. ps ++ packets_in (reply ++ (says ++ ends))) (notes_none s did.opened asked_put)
      ∙ packets_in-append reply (says ++ ends)
      ∙ ap (λ ps. packets_in reply ++ ps) (packets_in-append says ends)

  pub asked-move : id.client ≡ w.host.id → AllOwn id.client id did.says
      → IsMove w (asked s id server did w) asked_told (set_row w.host.clients id did.row) w.host.servers
  asked-move mine own =
      let h = asked-host in
      let reply = reply_told s Client id server did.version asked_noted in
      let says = said s w.host Client id server did.says in
      let ends = finishes_told s id server did.finished asked_said in
      let noted = notes-host s did.opened asked_put in
      record {
        grown = asked-grown;
        inner = inner-append (notes_told s did.opened asked_put) (reply ++ (says ++ ends)) (notes_inner s did.opened asked_put)
            (inner-append reply (says ++ ends) (reply_inner s Client id server did.version asked_noted)
            (inner-append says ends (said_inner s w.host Client id server id.client did.says own) (finishes_inner s id server did.finished asked_said)));
        sent = subst (AllByRecursion (IsFrom w.host)) (sym asked_packets)
            (all-append (IsFrom w.host) (packets_in reply) (packets_in says ++ packets_in ends)
            (all_from_same w asked_noted (packets_in reply) (record { id = noted.id; inc = noted.inc; seq = noted.seq; last = noted.last })
            (reply_from s Client id server did.version asked_noted (mine ∙ sym noted.id)))
            (all-append (IsFrom w.host) (packets_in says) (packets_in ends) (said_from s w.host Client id server id.client did.says mine)
            (all_from_same w asked_said (packets_in ends) said-host (finishes_from s id server did.finished asked_said))));
        id = h.id;
        inc = h.inc;
        seq = h.seq;
        last = h.last;
        at_clients = asked-clients s id server did w;
        at_servers = asked-servers s id server did w;
      }

  -- ---- lists of finished calls

  pub said-id : asked_said.host.id ≡ w.host.id
  said-id = said-host.id

  pub said-finished : asked_said.host.finished ≡ w.host.finished
  said-finished = reply_finished did.version ∙ notes_finished did.opened where
    notes_finished : (o : Option ℕ) → (notes s o asked_put).host.finished ≡ w.host.finished
    notes_finished None = refl
    notes_finished (Some n) = refl

    reply_finished : (o : Option ℕ) → (tells_cutoffs s Client id server o asked_noted).host.finished ≡ asked_noted.host.finished
    reply_finished None = refl
    reply_finished (Some version) =
        cond_both (version == asked_noted.host.tuning.own.version) _ _ (λ (x : Work). x.host.finished ≡ asked_noted.host.finished) (λ _. refl) (λ _. refl)
