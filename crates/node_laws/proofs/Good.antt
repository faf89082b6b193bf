-- A host whose packets are all well formed, through each move of a step.
use Rattle.std.proofs.Common.{◌≡◌, ℕ, zero, suc, ◌+◌, ◌-◌, ◌≤◌, ◌<◌, ◌^◌, Bool, true, false, Option, None, Some, List, [], ◌∷◌, ◌++◌, length, drop, refl, sym}
use Rattle.std.proofs.Common.{ap, subst, ◌∙◌, arith}
use Rattle.std.specs.Prelude.{◌==◌, ◌&&◌, not, nat_lt, ◌%◌, if◌then◌else◌, slice_index, slice_index_or, slice_set}
use Rattle.std.specs.Option.{IfSome}
use Rattle.std.specs.List.{AllByRecursion}
use Rattle.std.proofs.lemmas.Bool.{cond_both, ltb-true}
use Rattle.plain_sets.specs.Maps.{get, insert, len}
use Rattle.plain_sets.specs.Ranges.{Range}
use Rattle.homa_plain.specs.declared.id.CallId.{CallId}
use Rattle.homa_plain.specs.declared.id.HostId.{HostId}
use Rattle.homa_plain.specs.declared.packet.Role.{Role}
use Rattle.homa_plain.specs.declared.packet.Role.TheVariants.{Client, Server}
use Rattle.homa_plain.specs.declared.packet.Body.{Body}
use Rattle.homa_plain.specs.declared.packet.Body.TheVariants as body
use Rattle.homa_plain.specs.declared.settings.Settings.{Settings}
use Rattle.homa_plain.specs.Bytes.{IsBytes}
use Rattle.homa_plain.specs.Calls.{is_call}
use Rattle.homa_plain.specs.Settings.{IsValid}
use Rattle.homa_plain.specs.Wire.{IsCall, FitsKind}
use Rattle.homa_plain.specs.Cutoffs.{first_cutoffs, noted, balanced}
use Rattle.homa_plain.specs.Incoming.{Incoming}
use Rattle.homa_plain.specs.Outgoing.{Outgoing, next, next_range}
use Rattle.homa_plain.specs.Entries.{PlainBalance}
use Rattle.homa_plain.specs.Packets.{Packet}
use Rattle.homa_plain.specs.Rows.{ClientRow, ServerRow, State, Receiving, Replying, RowsOf, set_row}
use Rattle.homa_plain.specs.Host.{Host, Tuning, Tuned, tuned, counted, is_balance_due, rebalanced, PeerCutoffs, peer_cutoffs, finished_at, with_finished}
use Rattle.homa_plain.specs.Host.{Told, Says, packets_in}
use Rattle.homa_plain.specs.Rules.{Say, Tells, Posts, Did}
use Rattle.homa_plain.specs.Sending.{Content, granted_part, state_granted, client_granted, server_granted, client_sends, state_sends, request_content}
use Rattle.homa_plain.specs.Sending.{response_content}
use Rattle.homa_plain.specs.Work.{Work, now_of, tells, packet_from, bare, posts, said}
use Rattle.homa_plain.specs.CutoffsPackets.{notes, tells_cutoffs}
use Rattle.homa_plain.specs.FiveAcks.{acknowledged, finishes}
use Rattle.homa_plain.specs.Steps.{asked, served}
use Rattle.homa_plain.specs.Steps.{client_is_granted, server_is_granted}
use Rattle.homa_plain.specs.Credit.{spent}
use Rattle.homa_plain.specs.FiveAcks.{oldest}
use Rattle.homa_plain.specs.SentNext.{request_leaves, response_leaves}
use Rattle.homa_plain.proofs.CallOrder.{calls_are}
use Rattle.homa_plain.proofs.CutoffLaws.{length-balanced, high-balanced}
use Rattle.step_laws.proofs.Others.{get-set_row, set_row-others}
use Rattle.step_laws.proofs.ToldBy.{packets_in-append}
use Rattle.step_laws.proofs.Places.{all-append}
use Rattle.world_laws.specs.Sound.{IsSent, HasNumbers, IsId, IsArriving, IsClientRow, IsState, AreCutoffs}
use Rattle.world_laws.proofs.Sent.{content_sent, request_sent, response_sent}
use Rattle.node_laws.proofs.Told.{AllSaid, FitsTold, AllTold, rows_kept}
use Rattle.node_laws.proofs.Parts.{part_sent, arriving_granted}
use Rattle.node_laws.proofs.Ruled.{IsGood, IsServerRow}

no_bytes : IsBytes []
no_bytes i = omega arith

-- ---- lists

all_drop : {X : Type 0} (P : X → Type 0) (n : ℕ) (xs : List X) → AllByRecursion P xs → AllByRecursion P (drop n xs)
all_drop P zero xs all = all
all_drop P (suc n) [] all = tt
all_drop P (suc n) (x ∷ xs) all = all_drop P n xs all.1

pub all_set : {X : Type 0} (P : X → Type 0) (xs : List X) (i : ℕ) (x : X) → P x → AllByRecursion P xs → AllByRecursion P (slice_set xs i x)
all_set P [] i x p all = tt
all_set P (y ∷ xs) zero x p all = (p, all.1)
all_set P (y ∷ xs) (suc i) x p all = (all.0, all_set P xs i x p all.1)

all_or : {X : Type 0} (P : X → Type 0) (xs : List X) (i : ℕ) (d : X) → P d → AllByRecursion P xs → P (slice_index_or xs i d)
all_or P [] i d p all = p
all_or P (x ∷ xs) zero d p all = all.0
all_or P (x ∷ xs) (suc i) d p all = all_or P xs i d p all.1

all_indexed : (most : ℕ) (xs : List ℕ) → ((i : ℕ) → i < length xs → slice_index xs i ≤ most) → AllByRecursion (λ n. n ≤ most) xs
all_indexed most [] h = tt
all_indexed most (x ∷ xs) h = (h 0 (omega arith), all_indexed most xs (λ i l. h (suc i) (omega (arith, l))))

-- ---- a host

abbrev pub AreFinished : List (ℕ × ℕ) → Type 0
AreFinished calls = (length calls ≤ 4) × AllByRecursion IsCall calls

abbrev pub IsPeer : PeerCutoffs → Type 0
IsPeer p = p.cutoffs.version < 65536

pub record IsGoodTuning (t : Tuning) : Type 0 where
  pub own : AreCutoffs t.own
  pub lengths : AllByRecursion (λ n. n ≤ 1000000) t.lengths

-- all that a host sends is well formed
pub record IsGoodHost (h : Host) : Type 0 where
  pub inc : 1 ≤ h.inc
  pub inc_fits : h.inc < 2 ^ 32
  pub seq : h.seq < 2 ^ 32
  pub tuning : IsGoodTuning h.tuning
  pub peers : AllByRecursion IsPeer h.peers
  pub finished : AllByRecursion AreFinished h.finished
  pub clients : (q : CallId) (r : ClientRow) → get h.clients q ≡ Some r → IsId q × IsClientRow r
  pub servers : (q : CallId) (row : ServerRow) → get h.servers q ≡ Some row → IsId q × IsServerRow row
  pub rows : len h.servers < 2 ^ 32

-- rows of which one is set
pub set_good : {R : Type 0} (P : R → Type 0) (rows : RowsOf R) (id : CallId) (o : Option R) → IsId id → IfSome o P
    → ((q : CallId) (r : R) → get rows q ≡ Some r → IsId q × P r) → (q : CallId) (r : R) → get (set_row rows id o) q ≡ Some r → IsId q × P r
set_good {R = R} P rows id o named k all q r at = by_call (is_call q id) refl where
  by_call : (b : Bool) → is_call q id ≡ b → IsId q × P r
  by_call true e =
      let same : q ≡ id = (calls_are q id).0 e in
      let is : o ≡ Some r = sym (get-set_row rows id o) ∙ sym (ap (get (set_row rows id o)) same) ∙ at in
      (subst IsId (sym same) named, let z : IfSome (Some r) P = subst (λ (x : Option R). IfSome x P) is k in z)
  by_call false e = all q r (sym (set_row-others rows id o q e) ∙ at)

-- ---- cutoffs

balanced_good : (k unsched version : ℕ) (lengths : List ℕ) → version < 65536 → AllByRecursion (λ n. n ≤ 1000000) lengths
    → AreCutoffs (balanced k unsched version lengths)
balanced_good k unsched version lengths few all = record {
  version = few;
  eight = length-balanced k unsched version lengths;
  within = all_indexed 1000000 (balanced k unsched version lengths).upto
      (λ i l. high-balanced k unsched version lengths all i (omega (arith, l, length-balanced k unsched version lengths)));
}

noted_good : (lengths : List ℕ) (n : ℕ) → n ≤ 1000000 → AllByRecursion (λ m. m ≤ 1000000) lengths → AllByRecursion (λ m. m ≤ 1000000) (noted lengths n)
unfolding noted
noted_good lengths n small all =
    all_drop (λ m. m ≤ 1000000) (length lengths + 1 - 256) (lengths ++ n ∷ []) (all-append (λ m. m ≤ 1000000) lengths (n ∷ []) all (small, tt))

last_true : (a b c : Bool) → (a && b && c) ≡ true → c ≡ true
last_true true true c e = e
last_true true false c e = absurd (let z : false ≡ true = e in cc)
last_true false true c e = absurd (let z : false ≡ true = e in cc)
last_true false false c e = absurd (let z : false ≡ true = e in cc)

record TunedGood (t : Tuned) : Type 0 where
  pub tuning : IsGoodTuning t.tuning
  pub quiet : packets_in t.told ≡ []
  pub told : AllTold t.told

tuned_good : (s : Settings) (host : HostId) (t : Tuning) (n : ℕ) → n ≤ 1000000 → IsGoodTuning t → TunedGood (tuned s host t n)
unfolding tuned
tuned_good s host t n small k = by_due (is_balance_due s u) refl where
  u : Tuning
  u = counted t n

  lengths : AllByRecursion (λ m. m ≤ 1000000) u.lengths
  lengths = noted_good t.lengths n small k.lengths

  by_due : (b : Bool) → is_balance_due s u ≡ b
      → TunedGood (if b then record { tuning = rebalanced s u; told = Says (PlainBalance host (rebalanced s u).own) ∷ [] }
      else record { tuning = u; told = [] })
  by_due true e =
      let own : AreCutoffs (rebalanced s u).own =
      balanced_good s.overcommit s.unsched (t.own.version + 1) u.lengths
      (omega (arith, ltb-true t.own.version 65535 (last_true (not (s.rebalance == 0)) (u.opened % s.rebalance == 0) (nat_lt t.own.version 65535) e)))
      lengths in
      record { tuning = record { own = own; lengths = lengths }; quiet = refl; told = (own, tt) }
  by_due false e = record { tuning = record { own = k.own; lengths = lengths }; quiet = refl; told = tt }

-- ---- a host in the midst of a step

module _ (s : Settings) (v : IsValid s) (now : ℕ) (soon : now ≤ 1000000002000) where
  -- a packet of the step is well formed, and tells the host's clock
  pub record IsSentNow (p : Packet) : Type 0 where
    pub formed : IsSent s p
    pub dated : p.at ≡ (if s.wire == 1 then 0 else now)

  pub record IsGoodWork (w : Work) : Type 0 where
    pub host : IsGoodHost w.host
    pub last : w.host.last ≡ now
    pub sent : AllByRecursion IsSentNow (packets_in w.told)
    pub told : AllTold w.told

  numbers : (h : Host) → IsGoodHost h → h.last ≡ now → HasNumbers h
  numbers h k last = record { inc = k.inc; inc_fits = k.inc_fits; clock = omega (arith, last, soon) }

  dated_now : (h : Host) → h.last ≡ now → (if s.wire == 1 then 0 else h.last) ≡ (if s.wire == 1 then 0 else now)
  dated_now h last = ap (λ (t : ℕ). if s.wire == 1 then 0 else t) last

  content_now : (h : Host) → IsGoodHost h → h.last ≡ now → (role : Role) (id : CallId) (server : HostId) → IsId id → (content : Content)
      → FitsKind role content.level content.body content.payload → IsBytes content.payload → IsSentNow (packet_from s h role id server content)
  content_now h k last role id server named content fits bytes =
      record { formed = content_sent s v h (numbers h k last) role id server named content fits bytes; dated = dated_now h last }

  bare_now : (h : Host) → IsGoodHost h → h.last ≡ now → (role : Role) (id : CallId) (server : HostId) → IsId id → (what : Body) → FitsKind role 7 what []
      → IsSentNow (packet_from s h role id server (bare what))
  bare_now h k last role id server named what fits = content_now h k last role id server named (bare what) fits no_bytes

  pub tells_good : (w : Work) (told : List Told) → IsGoodWork w → AllByRecursion IsSentNow (packets_in told) → AllTold told → IsGoodWork (tells told w)
  tells_good w told k sent fits = record {
    host = k.host;
    last = k.last;
    sent = subst (AllByRecursion IsSentNow) (sym (packets_in-append w.told told)) (all-append IsSentNow (packets_in w.told) (packets_in told) k.sent sent);
    told = all-append FitsTold w.told told k.told fits;
  }

  posts_good : (w : Work) (role : Role) (id : CallId) (server : HostId) (what : Body) → IsGoodWork w → IsId id → FitsKind role 7 what []
      → IsGoodWork (posts s role id server what w)
  posts_good w role id server what k named fits = tells_good w _ k (bare_now w.host k.host k.last role id server named what fits, tt) (tt, tt)

  said_now : (h : Host) → IsGoodHost h → h.last ≡ now → (role : Role) (id : CallId) (server : HostId) → IsId id → (says : List Say) → AllSaid role says
      → AllByRecursion IsSentNow (packets_in (said s h role id server says))
  said_now h k last role id server named [] fits = tt
  said_now h k last role id server named (Tells entry ∷ says) fits = said_now h k last role id server named says fits.1
  said_now h k last role id server named (Posts what ∷ says) fits =
      (bare_now h k last role id server named what fits.0, said_now h k last role id server named says fits.1)

  said_told : (h : Host) (role : Role) (id : CallId) (server : HostId) (says : List Say) → AllSaid role says → AllTold (said s h role id server says)
  said_told h role id server [] fits = tt
  said_told h role id server (Tells entry ∷ says) fits = (fits.0, said_told h role id server says fits.1)
  said_told h role id server (Posts what ∷ says) fits = (tt, said_told h role id server says fits.1)

  -- ---- what comes of a rule

  notes_good : (o : Option ℕ) (w : Work) → IfSome o (λ n. n ≤ 1000000) → IsGoodWork w → IsGoodWork (notes s o w)
  notes_good None w small k = k
  notes_good (Some n) w small k =
      let t = tuned s w.host.id w.host.tuning n in
      let g = tuned_good s w.host.id w.host.tuning n small k.host.tuning in
      let h = k.host in
      tells_good (record w { host = record w.host { tuning = t.tuning } }) t.told
      (record {
        host = record {
          inc = h.inc;
          inc_fits = h.inc_fits;
          seq = h.seq;
          tuning = g.tuning;
          peers = h.peers;
          finished = h.finished;
          clients =
              h.clients;
          servers = h.servers;
          rows = h.rows;
        };
        last = k.last;
        sent = k.sent;
        told = k.told;
      })
      (subst (AllByRecursion IsSentNow) (sym g.quiet) tt) g.told

  cutoffs_good : (role : Role) (id : CallId) (server : HostId) (o : Option ℕ) (w : Work) → IsId id → IsGoodWork w
      → IsGoodWork (tells_cutoffs s role id server o w)
  cutoffs_good role id server None w named k = k
  cutoffs_good role id server (Some version) w named k = cond_both (version == w.host.tuning.own.version) _ _ IsGoodWork (λ _. k)
      (λ _. let own = k.host.tuning.own in
      posts_good w role id server (body.Cutoffs w.host.tuning.own) k named ((refl, refl), own.version, own.eight, own.within))

  with_list : (server : HostId) (calls : List (ℕ × ℕ)) (w : Work) → AreFinished calls → IsGoodWork w
      → IsGoodWork (record w { host = with_finished server calls w.host })
  with_list server calls w few k =
      let h = k.host in
      record {
        host = record {
          inc = h.inc;
          inc_fits = h.inc_fits;
          seq = h.seq;
          tuning = h.tuning;
          peers = h.peers;
          finished =
              all_set AreFinished w.host.finished server.0 calls few h.finished;
          clients = h.clients;
          servers = h.servers;
          rows = h.rows;
        };
        last = k.last;
        sent =
            k.sent;
        told = k.told;
      }

  acknowledged_good : (server : HostId) (calls : List (ℕ × ℕ)) (w : Work) → length calls ≤ 5 → AllByRecursion IsCall calls → IsGoodWork w
      → IsGoodWork (acknowledged s server calls w)
  acknowledged_good server [] w few all k = k
  acknowledged_good server (call ∷ calls) w few all k = cond_both (nat_lt (length calls) 4) _ _ IsGoodWork
      (λ e. with_list server (call ∷ calls) w (omega (arith, ltb-true (length calls) 4 e), all) k)
      (λ _. posts_good (record w { host = with_finished server [] w.host }) Client (record { client = w.host.id; inc = call.0; seq = call.1 }) server
      (body.Ack calls) (with_list server [] w (omega arith, tt) k) all.0 ((refl, refl), refl, omega (arith, few), all.1))

  finished_good : (h : Host) (server : HostId) → IsGoodHost h → AreFinished (finished_at h server)
  finished_good h server k = all_or AreFinished h.finished server.0 [] (omega arith, tt) k.finished

  longer : (calls : List (ℕ × ℕ)) (call : ℕ × ℕ) → length (calls ++ call ∷ []) ≡ suc (length calls)
  longer [] call = refl
  longer (c ∷ calls) call = ap suc (longer calls call)

  finishes_good : (id : CallId) (server : HostId) (b : Bool) (w : Work) → IsId id → IsGoodWork w → IsGoodWork (finishes s id server b w)
  finishes_good id server false w named k = k
  finishes_good id server true w named k =
      let f = finished_good w.host server k.host in
      acknowledged_good server (finished_at w.host server ++ (id.inc, id.seq) ∷ []) w
      (omega (arith, f.0, longer (finished_at w.host server) (id.inc, id.seq)))
      (all-append IsCall (finished_at w.host server) ((id.inc, id.seq) ∷ []) f.1 (named, tt)) k

  pub asked_good : (id : CallId) (server : HostId) (did : Did ClientRow) (w : Work) → IsId id → IsGood IsClientRow Client did → IsGoodWork w
      → IsGoodWork (asked s id server did w)
  unfolding asked
  asked_good id server did w named g k =
      let h = k.host in
      let put : IsGoodWork (record w { host = record w.host { order = did.order; clients = set_row w.host.clients id did.row } }) =
      record {
        host = record {
          inc = h.inc;
          inc_fits = h.inc_fits;
          seq = h.seq;
          tuning = h.tuning;
          peers = h.peers;
          finished = h.finished;
          clients =
              set_good IsClientRow w.host.clients id did.row named g.row h.clients;
          servers = h.servers;
          rows = h.rows;
        };
        last = k.last;
        sent = k.sent;
        told =
            k.told;
      } in
      let reply = cutoffs_good Client id server did.version _ named (notes_good did.opened _ g.opened put) in
      finishes_good id server did.finished _ named
      (tells_good _ _ reply (said_now w.host h k.last Client id server named did.says g.said) (said_told w.host Client id server did.says g.said))

  pub served_good : (id : CallId) (did : Did ServerRow) (w : Work) → IsId id → IsGood IsServerRow Server did
      → len (set_row w.host.servers id did.row) < 2 ^ 32 → IsGoodWork w
      → IsGoodWork (served s id did w)
  unfolding served
  served_good id did w named g room k =
      let h = k.host in
      let put : IsGoodWork (record w { host = record w.host { order = did.order; servers = set_row w.host.servers id did.row } }) =
      record {
        host = record {
          inc = h.inc;
          inc_fits = h.inc_fits;
          seq = h.seq;
          tuning = h.tuning;
          peers = h.peers;
          finished = h.finished;
          clients =
              h.clients;
          servers = set_good IsServerRow w.host.servers id did.row named g.row h.servers;
          rows = room;
        };
        last = k.last;
        sent = k.sent;
        told =
            k.told;
      } in
      let reply = cutoffs_good Server id w.host.id did.version _ named (notes_good did.opened _ g.opened put) in
      tells_good _ _ reply (said_now w.host h k.last Server id w.host.id named did.says g.said) (said_told w.host Server id w.host.id did.says g.said)

  -- ---- pieces

  peer_good : (h : Host) (peer : HostId) → IsGoodHost h → (peer_cutoffs s h peer).cutoffs.version < 65536
  peer_good h peer k = all_or IsPeer h.peers peer.0 (record { inc = 0; cutoffs = first_cutoffs s.overcommit }) (omega arith) k.peers

  oldest_good : (calls : List (ℕ × ℕ)) → AllByRecursion IsCall calls → IfSome (oldest calls) IsCall
  oldest_good [] all = tt
  oldest_good (call ∷ calls) all = all.0

  fewer : (n : ℕ) (calls : List (ℕ × ℕ)) → length (drop n calls) ≤ length calls
  fewer zero calls = omega arith
  fewer (suc n) [] = omega arith
  fewer (suc n) (call ∷ calls) = omega (arith, fewer n calls)

  sends_good : (r : ClientRow) → IsClientRow r → IsClientRow (client_sends s now r)
  sends_good r k = cond_both (nat_lt r.out.top r.out.length) _ _ (λ (x : ClientRow). IsClientRow (record x { out = (next r.out s.seg).part }))
      (λ _. record { message = k.message; out = part_sent r.request r.out k.out s.seg; service = k.service; part = k.part })
      (λ _. record { message = k.message; out = part_sent r.request r.out k.out s.seg; service = k.service; part = k.part })

  pub request_good : (id : CallId) (r : ClientRow) (range : Range) (w : Work) → IsGoodWork w → get w.host.clients id ≡ Some r
      → next_range r.out s.seg ≡ Some range → IsGoodWork (request_leaves s id r range w)
  request_good id r range w k at e =
      let h = k.host in
      let row = h.clients id r at in
      let f = finished_good w.host r.server h in
      let calls = finished_at w.host r.server in
      let left : AreFinished (drop 1 calls) = (omega (arith, f.0, fewer 1 calls), all_drop IsCall 1 calls f.1) in
      let sends = subst (λ (t : ℕ). IsClientRow (client_sends s t r)) (sym k.last) (sends_good r row.1) in
      let host : IsGoodHost (with_finished r.server (drop 1 calls) (record w.host { clients = insert w.host.clients id (client_sends s (now_of w) r) })) =
      record {
        inc = h.inc;
        inc_fits = h.inc_fits;
        seq = h.seq;
        tuning = h.tuning;
        peers = h.peers;
        finished = all_set AreFinished w.host.finished r.server.0 (drop 1 calls) left h.finished;
        clients = set_good IsClientRow w.host.clients id (Some (client_sends s (now_of w) r)) row.0 sends h.clients;
        servers = h.servers;
        rows = h.rows;
      } in
      let piece : IsSentNow (packet_from s w.host Client id r.server (request_content s (peer_cutoffs s w.host r.server).cutoffs (oldest calls) r range)) =
      record {
        formed = request_sent s v w.host (numbers w.host h k.last) id row.0 r row.1 (peer_cutoffs s w.host r.server).cutoffs (peer_good w.host r.server h)
            (oldest calls) (oldest_good calls f.1) range e;
        dated = dated_now w.host k.last;
      } in
      let new = with_finished r.server (drop 1 calls) (record w.host { clients = insert w.host.clients id (client_sends s (now_of w) r) }) in
      tells_good (spent (range.to - range.from) (record w { host = new })) _
      (record {
        host = record {
          inc = host.inc;
          inc_fits = host.inc_fits;
          seq = host.seq;
          tuning = host.tuning;
          peers = host.peers;
          finished =
              host.finished;
          clients = host.clients;
          servers = host.servers;
          rows = host.rows;
        };
        last = k.last;
        sent = k.sent;
        told = k.told;
      }) (piece, tt)
      (tt, tt)

  pub response_good : (id : CallId) (row : ServerRow) (response : List ℕ) (out : Outgoing) (order base count : ℕ) (range : Range) (w : Work) → IsGoodWork w
      → get w.host.servers id ≡ Some row → row.state ≡ Replying response out order base count → next_range out s.seg ≡ Some range
      → IsGoodWork (response_leaves s id row (response_content s (peer_cutoffs s w.host id.client).cutoffs response out range) range w)
  response_good id row response out order base count range w k at is e =
      let h = k.host in
      let r = h.servers id row at in
      let state : IsState (Replying response out order base count) = subst IsState is r.1 in
      let sends : IsState (state_sends s (now_of w) row.state) =
      subst (λ (x : State). IsState (state_sends s (now_of w) x)) (sym is) (state.0, part_sent response out state.1 s.seg) in
      let few : len (insert w.host.servers id (record row { state = state_sends s (now_of w) row.state })) < 2 ^ 32 =
      omega (arith, rows_kept w.host.servers id row (Some (record row { state = state_sends s (now_of w) row.state })) at, h.rows) in
      let rows = set_good IsServerRow w.host.servers id (Some (record row { state = state_sends s (now_of w) row.state })) r.0 sends h.servers in
      tells_good (spent (range.to - range.from)
      (record w { host = record w.host { servers = insert w.host.servers id (record row { state = state_sends s (now_of w) row.state }) } })) _
      (record {
        host = record {
          inc = h.inc;
          inc_fits = h.inc_fits;
          seq = h.seq;
          tuning = h.tuning;
          peers = h.peers;
          finished = h.finished;
          clients =
              h.clients;
          servers = rows;
          rows = few;
        };
        last = k.last;
        sent = k.sent;
        told = k.told;
      }) (
        record {
          formed = response_sent s v w.host (numbers w.host h k.last) id r.0 response out state.0 state.1 (peer_cutoffs s w.host id.client).cutoffs
              (peer_good w.host id.client h) range e;
          dated = dated_now w.host k.last;
        },
        tt,
      ) (tt, tt)

  -- ---- GRANTs

  pub client_grant_good : (id : CallId) (r : ClientRow) (part : Incoming) (offset prio : ℕ) (w : Work) → IsGoodWork w → get w.host.clients id ≡ Some r
      → r.part ≡ Some part → 1 ≤ offset → offset ≤ part.length → prio ≤ 7
      → IsGoodWork (client_is_granted s id (body.Grant offset prio) offset (Some r) w)
  client_grant_good id r part offset prio w k at has some within few =
      let h = k.host in
      let row = h.clients id r at in
      let arriving : IsArriving part = let z : IfSome (Some part) IsArriving = subst (λ (o : Option Incoming). IfSome o IsArriving) has row.1.part in z in
      let granted : IsClientRow (client_granted (now_of w) offset r) =
      record {
        message = row.1.message;
        out = row.1.out;
        service = row.1.service;
        part =
            subst (λ (o : Option Incoming). IfSome (granted_part offset o) IsArriving) (sym has) (arriving_granted part offset arriving within);
      } in
      posts_good (record w { host = record w.host { clients = insert w.host.clients id (client_granted (now_of w) offset r) } }) Client id r.server
      (body.Grant offset prio)
      (record {
        host = record {
          inc = h.inc;
          inc_fits = h.inc_fits;
          seq = h.seq;
          tuning = h.tuning;
          peers = h.peers;
          finished = h.finished;
          clients =
              set_good IsClientRow w.host.clients id (Some (client_granted (now_of w) offset r)) row.0 granted h.clients;
          servers = h.servers;
          rows =
              h.rows;
        };
        last = k.last;
        sent = k.sent;
        told = k.told;
      })
      row.0 ((refl, refl), (some, omega (arith, within, arriving.size)), few)

  pub server_grant_good : (id : CallId) (row : ServerRow) (service : ℕ) (part : Incoming) (base count offset prio : ℕ) (w : Work) → IsGoodWork w
      → get w.host.servers id ≡ Some row → row.state ≡ Receiving service part base count → 1 ≤ offset → offset ≤ part.length → prio ≤ 7
      → IsGoodWork (server_is_granted s id (body.Grant offset prio) offset (Some row) w)
  server_grant_good id row service part base count offset prio w k at is some within few =
      let h = k.host in
      let r = h.servers id row at in
      let arriving : IsArriving part = subst IsState is r.1 in
      let granted : IsServerRow (server_granted (now_of w) offset row) =
      subst (λ (x : State). IsState (state_granted (now_of w) offset x)) (sym is) (arriving_granted part offset arriving within) in
      posts_good (record w { host = record w.host { servers = insert w.host.servers id (server_granted (now_of w) offset row) } }) Server id w.host.id
      (body.Grant offset prio)
      (record {
        host = record {
          inc = h.inc;
          inc_fits = h.inc_fits;
          seq = h.seq;
          tuning = h.tuning;
          peers = h.peers;
          finished = h.finished;
          clients =
              h.clients;
          servers = set_good IsServerRow w.host.servers id (Some (server_granted (now_of w) offset row)) r.0 granted h.servers;
          rows =
              omega (arith, rows_kept w.host.servers id row (Some (server_granted (now_of w) offset row)) at, h.rows);
        };
        last = k.last;
        sent = k.sent;
        told =
            k.told;
      })
      r.0 ((refl, refl), (some, omega (arith, within, arriving.size)), few)
