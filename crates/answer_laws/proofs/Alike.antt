-- With two answers a step is the same up to its `run` line, and there the one answer stands or the other.
use Rattle.std.proofs.Common.{◌≡◌, ℕ, ◌+◌, ◌-◌, Bool, true, false, not, cond, Option, Some, None, List, [], ◌∷◌, ◌++◌, length, refl, sym, ap, subst}
use Rattle.std.proofs.Common.{◌∙◌, arith, append_assoc, ◌⊎◌, inl, inr}
use Rattle.std.specs.Prelude.{◌==◌, ◌||◌, nat_lt, nat_le}
use Rattle.std.proofs.lemmas.Bool.{cond_both}
use Rattle.plain_sets.specs.Maps.{get}
use Rattle.homa_plain.specs.declared.id.CallId.{CallId}
use Rattle.homa_plain.specs.declared.id.HostId.{HostId}
use Rattle.homa_plain.specs.declared.packet.Role.{Role}
use Rattle.homa_plain.specs.declared.packet.Role.TheVariants.{Client, Server}
use Rattle.homa_plain.specs.declared.packet.Body.{Body}
use Rattle.homa_plain.specs.declared.packet.Body.TheVariants as body
use Rattle.homa_plain.specs.declared.settings.Settings.{Settings}
use Rattle.homa_plain.specs.Incoming.{Incoming, with_bytes, leaves_too_many_gaps, is_whole, message}
use Rattle.homa_plain.specs.Incoming as incoming
use Rattle.homa_plain.specs.Entries.{PlainRun, PlainStale}
use Rattle.homa_plain.specs.Packets.{Packet, sender, acks}
use Rattle.homa_plain.specs.Rows.{ServerRow, State, Receiving, Held, Replying, Buried, set_row}
use Rattle.homa_plain.specs.Host.{Host, pages_for, tuned, peer_cutoffs, Told, Says, packets_in}
use Rattle.homa_plain.specs.Rules.{Moment, Answer, Piece, Tells, Did, leaves, opening, version_of}
use Rattle.homa_plain.specs.AtServer.{runs, piece_added, piece_comes, opens, piece_of, unknown_gets, receiving_gets, row_gets, server_gets}
use Rattle.homa_plain.specs.Work.{Work, begun, now_of, said, tells, posts}
use Rattle.homa_plain.specs.Steps.{moment, served, comes_to_row, acked, takes, comes}
use Rattle.homa_plain.specs.OldPackets.{is_stale}
use Rattle.homa_plain.specs.CutoffsPackets.{is_newer}
use Rattle.homa_plain.specs.CutoffsPackets.{notes, tells_cutoffs, hears_cutoffs}
use Rattle.homa_plain.specs.Steps.{gives_grants, ended, arrival_step}
use Rattle.step_laws.specs.StepLaws.{run_count}
use Rattle.step_laws.proofs.ToldBy.{run_count-append, Calm, calm_then, one_if_some, notes-calm, tells_cutoffs-calm, hears_cutoffs-calm}
use Rattle.step_laws.proofs.OneAnswer.{acked-calm}
use Rattle.step_laws.proofs.StepEnd.{ended-calm}

-- ---- rules

-- a service ran for one call, and gave the one answer or the other
record Apart (a b : Answer) (host : HostId) (d e : Did ServerRow) : Type 0 where
  pub id : CallId
  pub service : ℕ
  pub request : List ℕ
  pub first : d.says ≡ Tells (PlainRun host id service request a.bytes a.hold) ∷ []
  pub second : e.says ≡ Tells (PlainRun host id service request b.bytes b.hold) ∷ []
  pub opened : d.opened ≡ e.opened
  pub version : d.version ≡ e.version

-- what a rule does with two answers: the same, or so
abbrev Pair : Answer → Answer → HostId → Did ServerRow → Did ServerRow → Type 0
Pair a b host d e = (d ≡ e) ⊎ Apart a b host d e

-- a choice that doesn't turn on the answer
pair_if : (a b : Answer) (host : HostId) (c : Bool) (d e d' e' : Did ServerRow) → Pair a b host d d' → Pair a b host e e'
    → Pair a b host (cond c d e) (cond c d' e')
pair_if a b host true d e d' e' on off = on
pair_if a b host false d e d' e' on off = off

module _ (s : Settings) (m : Moment) (id : CallId) where
  runs_says : (service : ℕ) (request : List ℕ) (a : Answer) (row : ServerRow) (d : Did ServerRow)
      → (runs s m id service request a row d).says ≡ Tells (PlainRun m.host id service request a.bytes a.hold) ∷ []
  runs_says service request a row d =
      cond_both (a.hold == 0) _ _ (λ (e : Did ServerRow). e.says ≡ Tells (PlainRun m.host id service request a.bytes a.hold) ∷ []) (λ _. refl) (λ _. refl)

  runs_opened : (service : ℕ) (request : List ℕ) (a : Answer) (row : ServerRow) (d : Did ServerRow) → (runs s m id service request a row d).opened ≡ d.opened
  runs_opened service request a row d = cond_both (a.hold == 0) _ _ (λ (e : Did ServerRow). e.opened ≡ d.opened) (λ _. refl) (λ _. refl)

  runs_version : (service : ℕ) (request : List ℕ) (a : Answer) (row : ServerRow) (d : Did ServerRow) → (runs s m id service request a row d).version ≡ d.version
  runs_version service request a row d = cond_both (a.hold == 0) _ _ (λ (e : Did ServerRow). e.version ≡ d.version) (λ _. refl) (λ _. refl)

  ran : (service : ℕ) (request : List ℕ) (a b : Answer) (row : ServerRow) (d : Did ServerRow)
      → Apart a b m.host (runs s m id service request a row d) (runs s m id service request b row d)
  ran service request a b row d = record {
    id = id;
    service = service;
    request = request;
    first = runs_says service request a row d;
    second = runs_says service request b row d;
    opened = runs_opened service request a row d ∙ sym (runs_opened service request b row d);
    version = runs_version service request a row d ∙ sym (runs_version service request b row d);
  }

  added : (service : ℕ) (a b : Answer) (row : ServerRow) (part : Incoming) (d : Did ServerRow)
      → Pair a b m.host (piece_added s m id service a row part d) (piece_added s m id service b row part d)
  added service a b row part d =
      pair_if a b m.host (is_whole part) (runs s m id service (message part) a row d) _ (runs s m id service (message part) b row d) _
      (inr (ran service (message part) a b row d)) (inl refl)

  comes_piece : (service : ℕ) (part : Incoming) (row : ServerRow) (piece : Piece) (a b : Answer) (d : Did ServerRow)
      → Pair a b m.host (piece_comes s m id service part row piece a d) (piece_comes s m id service part row piece b d)
  comes_piece service part row piece a b d =
      pair_if a b m.host (not (part.length == piece.size) || not (service == piece.service)) _ _ _ _ (inl refl)
      (pair_if a b m.host (leaves_too_many_gaps part piece.offset piece.payload) _ _ _ _ (inl refl)
      (added service a b row (with_bytes part piece.offset piece.payload) (record d { version = version_of piece })))

  opened : (piece : Piece) (a b : Answer) → Pair a b m.host (opens s m id piece a) (opens s m id piece b)
  opened piece a b =
      let part : Incoming = incoming.opened id.client piece.size m.order s.unsched in
      pair_if a b m.host (nat_le s.served m.rows) _ _ _ _ (inl refl)
      (pair_if a b m.host (nat_lt m.free (pages_for piece.size)) _ _ _ _ (inl refl)
      (comes_piece piece.service part (record { order = m.order; state = Receiving piece.service part m.now 0 }) piece a b
      (opening piece.size (leaves m None))))

  unknown : (what : Body) (payload : List ℕ) (a b : Answer) → Pair a b m.host (unknown_gets s m id what payload a) (unknown_gets s m id what payload b)
  unknown (body.Data size offset version service ack) payload a b = opened (piece_of size offset version service payload) a b
  unknown (body.Resend from to prio) payload a b = inl refl
  unknown what payload a b = inl refl

  receiving : (what : Body) (payload : List ℕ) (a b : Answer) (row : ServerRow) (service : ℕ) (part : Incoming) (base : ℕ)
      → Pair a b m.host (receiving_gets s m id what payload a row service part base) (receiving_gets s m id what payload b row service part base)
  receiving (body.Data size offset version service' ack) payload a b row service part base =
      comes_piece service part row (piece_of size offset version service' payload) a b (leaves m None)
  receiving (body.Resend from to prio) payload a b row service part base = inl refl
  receiving body.Busy payload a b row service part base = inl refl
  receiving what payload a b row service part base = inl refl

  by_row : (what : Body) (payload : List ℕ) (a b : Answer) (row : ServerRow) (state : State)
      → Pair a b m.host (row_gets s m id what payload a row state) (row_gets s m id what payload b row state)
  by_row what payload a b row (Receiving service part base count) = receiving what payload a b row service part base
  by_row what payload a b row (Held response release) = inl refl
  by_row what payload a b row (Replying response out order base count) = inl refl
  by_row what payload a b row (Buried until) = inl refl

server_pair : (s : Settings) (m : Moment) (p : Packet) (a b : Answer) (o : Option ServerRow) → Pair a b m.host (server_gets s m p a o) (server_gets s m p b o)
unfolding server_gets
server_pair s m p a b None = unknown s m p.id p.body p.payload a b
server_pair s m p a b (Some row) = by_row s m p.id p.body p.payload a b row row.state

-- ---- steps

-- what is told with two answers
pub record Parts (a b : Answer) (host : HostId) (t u : List Told) : Type 0 where
  pub before : List Told
  pub id : CallId
  pub service : ℕ
  pub request : List ℕ
  pub after : List Told
  pub other : List Told
  pub quiet : run_count before ≡ 0
  pub first : t ≡ before ++ (Says (PlainRun host id service request a.bytes a.hold) ∷ after)
  pub second : u ≡ before ++ (Says (PlainRun host id service request b.bytes b.hold) ∷ other)

-- a step with two answers: the same, or what it tells has these parts
abbrev pub Alike : Answer → Answer → HostId → Work → Work → Type 0
Alike a b host w v = (w ≡ v) ⊎ Parts a b host w.told v.told

-- a move that comes later
later : (a b : Answer) (host : HostId) (bound : Work → ℕ) (move : Work → Work) → ((w : Work) → Calm (bound w) w (move w)) → (w v : Work)
    → Alike a b host w v → Alike a b host (move w) (move v)
later a b host bound move calm w v (inl same) = inl (ap move same)
later a b host bound move calm w v (inr p) =
    let c = calm w in
    let e = calm v in
    let run : Told = Says (PlainRun host p.id p.service p.request a.bytes a.hold) in
    let run' : Told = Says (PlainRun host p.id p.service p.request b.bytes b.hold) in
    inr (record {
      before = p.before;
      id = p.id;
      service = p.service;
      request = p.request;
      after = p.after ++ c.told;
      other = p.other ++ e.told;
      quiet = p.quiet;
      first = c.grown ∙ ap (λ t. t ++ c.told) p.first ∙ append_assoc p.before (run ∷ p.after) c.told;
      second = e.grown ∙ ap (λ t. t ++ e.told) p.second ∙ append_assoc p.before (run' ∷ p.other) e.told;
    })

-- a choice of two that tell the same
same_if : (b : Bool) (p q p' q' : Work) → p.told ≡ p'.told → q.told ≡ q'.told → (cond b p q).told ≡ (cond b p' q').told
same_if true p q p' q' e f = e
same_if false p q p' q' e f = f

module _ (s : Settings) (id : CallId) (w : Work) where
  -- the host with the row of a rule
  abbrev put : Did ServerRow → Work
  put d = record w { host = record w.host { order = d.order; servers = set_row w.host.servers id d.row } }

  -- what is told before the rule's own words
  abbrev reply : Option ℕ → Option ℕ → Did ServerRow → Work
  reply opened version d = tells_cutoffs s Server id w.host.id version (notes s opened (put d))

  same_reply : (opened version : Option ℕ) (d e : Did ServerRow) → (reply opened version d).told ≡ (reply opened version e).told
  same_reply None None d e = refl
  same_reply (Some n) None d e = refl
  same_reply None (Some version) d e =
      same_if (version == w.host.tuning.own.version) (put d) (posts s Server id w.host.id (body.Cutoffs w.host.tuning.own) (put d)) (put e)
      (posts s Server id w.host.id (body.Cutoffs w.host.tuning.own) (put e)) refl refl
  same_reply (Some n) (Some version) d e =
      let t = tuned s w.host.id w.host.tuning n in
      same_if (version == t.tuning.own.version) (notes s (Some n) (put d)) (posts s Server id w.host.id (body.Cutoffs t.tuning.own) (notes s (Some n) (put d)))
      (notes s (Some n) (put e)) (posts s Server id w.host.id (body.Cutoffs t.tuning.own) (notes s (Some n) (put e))) refl refl

  reply_quiet : (opened version : Option ℕ) (d : Did ServerRow) → run_count w.told ≡ 0 → run_count (reply opened version d).told ≡ 0
  reply_quiet opened version d none =
      let c = calm_then 0 (one_if_some version) (put d) (notes s opened (put d)) (reply opened version d) (notes-calm s opened (put d))
      (tells_cutoffs-calm s Server id w.host.id version (notes s opened (put d))) in
      ap run_count c.grown ∙ (let e : run_count (w.told ++ c.told) ≡ 0 = omega (arith, run_count-append w.told c.told, none, c.quiet) in e)

  served_alike : (a b : Answer) (d e : Did ServerRow) → run_count w.told ≡ 0 → Pair a b w.host.id d e → Alike a b w.host.id (served s id d w) (served s id e w)
  unfolding served
  served_alike a b d e none (inl same) = inl (ap (λ did. served s id did w) same)
  served_alike a b d e none (inr p) =
      let run' : Told = Says (PlainRun w.host.id p.id p.service p.request b.bytes b.hold) in
      inr (record {
        before = (reply d.opened d.version d).told;
        id = p.id;
        service = p.service;
        request = p.request;
        after = [];
        other = [];
        quiet = reply_quiet d.opened d.version d none;
        first = ap (λ says. (reply d.opened d.version d).told ++ said s w.host Server id w.host.id says) p.first;
        second = ap (λ says. (reply e.opened e.version e).told ++ said s w.host Server id w.host.id says) p.second
            ∙ ap (λ t. t ++ run' ∷ [])
            (ap (λ o. (reply o e.version e).told) (sym p.opened) ∙ (ap (λ v. (reply d.opened v e).told) (sym p.version) ∙ same_reply d.opened d.version e d));
      })

module _ (s : Settings) where
  row_alike : (p : Packet) (a b : Answer) (role : Role) (w : Work) → run_count w.told ≡ 0
      → Alike a b w.host.id (comes_to_row s p a role w) (comes_to_row s p b role w)
  row_alike p a b Client w none = served_alike s p.id w a b _ _ none (server_pair s (moment s p.id w) p a b (get w.host.servers p.id))
  row_alike p a b Server w none = inl refl

  heard_id : (peer : HostId) (inc : ℕ) (what : Body) (w : Work) → (hears_cutoffs s peer inc what w).host.id ≡ w.host.id
  heard_id peer inc (body.Cutoffs cutoffs) w =
      cond_both (is_newer inc cutoffs (peer_cutoffs s w.host peer)) _ _ (λ (v : Work). v.host.id ≡ w.host.id) (λ _. refl) (λ _. refl)
  heard_id peer inc what w = refl

  takes_alike : (p : Packet) (a b : Answer) (w : Work) → run_count w.told ≡ 0 → Alike a b w.host.id (takes s p a w) (takes s p b w)
  unfolding takes
  takes_alike p a b w none =
      let heard : Work = hears_cutoffs s (sender p) p.inc p.body w in
      let c = hears_cutoffs-calm s (sender p) p.inc p.body w in
      let quiet : run_count heard.told ≡ 0 =
      ap run_count c.grown ∙ (let e : run_count (w.told ++ c.told) ≡ 0 = omega (arith, run_count-append w.told c.told, none, c.quiet) in e) in
      subst (λ (host : HostId). Alike a b host (takes s p a w) (takes s p b w)) (heard_id (sender p) p.inc p.body w)
      (later a b heard.host.id (λ _. 0) (acked s (acks p)) (acked-calm s (acks p)) (comes_to_row s p a p.role heard) (comes_to_row s p b p.role heard)
      (row_alike p a b p.role heard quiet))

  comes_alike : (o : Option Packet) (a b : Answer) (w : Work) → run_count w.told ≡ 0 → Alike a b w.host.id (comes s o a w) (comes s o b w)
  comes_alike None a b w none = inl refl
  comes_alike (Some p) a b w none =
      elim (is_stale s (now_of w) p) as (λ c. Alike a b w.host.id
      (cond c (tells (Says (PlainStale w.host.id p.at (now_of w)) ∷ []) w) (takes s p a w))
      (cond c (tells (Says (PlainStale w.host.id p.at (now_of w)) ∷ []) w) (takes s p b w))) [
        | true ↦ inl refl
        | false ↦ takes_alike p a b w none
      ]

  pub arrival_alike : (h : Host) (now : ℕ) (o : Option Packet) (a b : Answer) → Alike a b h.id (arrival_step s h now o a) (arrival_step s h now o b)
  unfolding arrival_step
  arrival_alike h now o a b =
      later a b h.id (λ w. s.overcommit + (64 - length (packets_in (gives_grants s w).told))) (ended s) (ended-calm s) (comes s o a (begun h now))
      (comes s o b (begun h now)) (comes_alike o a b (begun h now) refl)
