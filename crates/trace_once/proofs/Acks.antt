-- Acknowledged calls are over: those of a host's lists of finished calls, and so those that its packets acknowledge.
use Rattle.std.proofs.Common.{◌≡◌, ℕ, zero, suc, Bool, true, false, Option, Some, None, List, [], ◌∷◌, ◌++◌, length, refl, sym, subst, ◌∙◌}
use Rattle.std.specs.Prelude.{◌==◌, not, nat_lt, drop, slice_index_or, slice_set}
use Rattle.std.specs.List.{AllByRecursion}
use Rattle.std.proofs.lemmas.Bool.{cond_both, false≢true}
use Rattle.homa_plain.specs.declared.id.CallId.{CallId}
use Rattle.homa_plain.specs.declared.id.HostId.{HostId}
use Rattle.homa_plain.specs.declared.packet.Body.{Body}
use Rattle.homa_plain.specs.declared.packet.Body.TheVariants as body
use Rattle.homa_plain.specs.declared.settings.Settings.{Settings}
use Rattle.homa_plain.specs.Calls.{is_host, is_call}
use Rattle.homa_plain.specs.Incoming.{Incoming, with_bytes, is_whole, leaves_too_many_gaps}
use Rattle.homa_plain.specs.Incoming as incoming
use Rattle.homa_plain.specs.Packets.{Packet, sender, calls_of, acks_in}
use Rattle.homa_plain.specs.Rows.{ClientRow}
use Rattle.homa_plain.specs.Host.{finished_at, pages_for}
use Rattle.homa_plain.specs.Rules.{Moment, Piece, Did, keeps, opening}
use Rattle.homa_plain.specs.AtClient.{piece_comes, response_piece, answered, unasked, client_gets, renewed, refreshed}
use Rattle.homa_plain.specs.Timers.{client_acts}
use Rattle.homa_plain.specs.Work.{Work}
use Rattle.homa_plain.specs.FiveAcks.{acknowledged, finishes, oldest}
use Rattle.homa_plain.specs.Steps.{asked}
use Rattle.trace_steps.specs.Stands.{Stand}
use Rattle.step_moves.proofs.AskedMove.{asked_said, said-finished}
use Rattle.trace_once.specs.Lifetime.{Times, ReplyFits}
use Rattle.trace_once.specs.Kept.{call_of}

-- ---- a call that is done has no row

abbrev pub GoesWhenDone : Did ClientRow → Type 0
GoesWhenDone d = d.finished ≡ true → d.row ≡ None

unfinished : (d : Did ClientRow) → d.finished ≡ false → GoesWhenDone d
unfinished d e t = absurd (false≢true (sym e ∙ t))

module _ (s : Settings) (m : Moment) (id : CallId) where
  comes_done : (r : ClientRow) (part : Incoming) (piece : Piece) (d : Did ClientRow) → d.finished ≡ false → GoesWhenDone (piece_comes id r part piece d)
  comes_done r part piece d e =
      cond_both (not (part.length == piece.size)) _ _ GoesWhenDone (λ _ t. absurd (false≢true (sym e ∙ t)))
      (λ _. cond_both (leaves_too_many_gaps part piece.offset piece.payload) _ _ GoesWhenDone (λ _ t. absurd (false≢true (sym e ∙ t)))
      (λ _. cond_both (is_whole (with_bytes part piece.offset piece.payload)) _ _ GoesWhenDone (λ _ _. refl) (λ _ t. absurd (false≢true (sym e ∙ t)))))

  response_done : (r : ClientRow) (o : Option Incoming) (piece : Piece) → GoesWhenDone (response_piece s m id r o piece)
  response_done r None piece =
      cond_both (nat_lt m.free (pages_for piece.size)) _ _ GoesWhenDone (λ _ t. absurd (false≢true t))
      (λ _. comes_done r (incoming.opened r.server piece.size m.order s.unsched) piece (opening piece.size (keeps m r)) refl)
  response_done r (Some part) piece = comes_done r part piece (keeps m r) refl

  answered_done : (what : Body) (payload : List ℕ) (r : ClientRow) → GoesWhenDone (answered s m id what payload r)
  answered_done (body.Data size offset version service ack) payload r =
      response_done r r.part (record { size = size; offset = offset; version = version; service = service; payload = payload })
  answered_done (body.Unknown reason) payload r = cond_both (reason == 0) _ _ GoesWhenDone (λ _ t. absurd (false≢true t)) (λ _ t. absurd (false≢true t))
  answered_done what payload r = λ t. absurd (false≢true t)

  pub client_acts_done : (r : ClientRow) → GoesWhenDone (client_acts s m id r)
  client_acts_done r = cond_both (nat_lt r.count s.tries) _ _ GoesWhenDone (λ _ t. absurd (false≢true t)) (λ _ t. absurd (false≢true t))

unasked_done : (m : Moment) (what : Body) → GoesWhenDone (unasked m what)
unasked_done m body.NeedAck = λ t. absurd (false≢true t)
unasked_done m what = λ t. absurd (false≢true t)

pub gets_done : (s : Settings) (m : Moment) (p : Packet) (o : Option ClientRow) → GoesWhenDone (client_gets s m p o)
unfolding client_gets
gets_done s m p None = unasked_done m p.body
gets_done s m p (Some q) =
    cond_both (not (is_host (sender p) q.server)) _ _ GoesWhenDone (λ _ t. absurd (false≢true t))
    (λ _. cond_both (nat_lt p.inc q.seen) _ _ GoesWhenDone (λ _ t. absurd (false≢true t))
    (λ _. answered_done s m p.id p.body p.payload (refreshed m.now p.body (renewed p.inc q))))

-- ---- lists of finished calls

-- what holds of the calls of each list, where one list is set
pub all_set : (P : ℕ → ℕ × ℕ → Type 0) (xs : List (List (ℕ × ℕ))) (i n : ℕ) (x : List (ℕ × ℕ)) → AllByRecursion (P i) x
    → ((k : ℕ) → AllByRecursion (P k) (slice_index_or xs k [])) → AllByRecursion (P n) (slice_index_or (slice_set xs i x) n [])
all_set P [] i n x new all = all n
all_set P (y ∷ xs) zero zero x new all = new
all_set P (y ∷ xs) zero (suc n) x new all = all (suc n)
all_set P (y ∷ xs) (suc i) zero x new all = all zero
all_set P (y ∷ xs) (suc i) (suc n) x new all = all_set (λ k. P (suc k)) xs i n x new (λ k. all (suc k))

pub all_more : (P : ℕ × ℕ → Type 0) (xs : List (ℕ × ℕ)) (c : ℕ × ℕ) → AllByRecursion P xs → P c → AllByRecursion P (xs ++ c ∷ [])
all_more P [] c all one = (one, tt)
all_more P (x ∷ xs) c all one = (all.0, all_more P xs c all.1 one)

pub all_but_first : (P : ℕ × ℕ → Type 0) (xs : List (ℕ × ℕ)) → AllByRecursion P xs → AllByRecursion P (drop 1 xs)
all_but_first P [] all = tt
all_but_first P (x ∷ xs) all = all.1

-- whatever holds of the finished calls of each server, and of a call that is done
module _ (s : Settings) (P : ℕ → ℕ × ℕ → Type 0) where
  abbrev pub AllFinished : List (List (ℕ × ℕ)) → Type 0
  AllFinished lists = (k : ℕ) → AllByRecursion (P k) (slice_index_or lists k [])

  acknowledged_finished : (server : HostId) (calls : List (ℕ × ℕ)) (w : Work) → AllByRecursion (P server.0) calls → AllFinished w.host.finished
      → AllFinished (acknowledged s server calls w).host.finished
  acknowledged_finished server [] w new all = all
  acknowledged_finished server (call ∷ calls) w new all =
      cond_both (nat_lt (length calls) 4) _ _ (λ (x : Work). AllFinished x.host.finished)
      (λ _ k. all_set P w.host.finished server.0 k (call ∷ calls) new all) (λ _ k. all_set P w.host.finished server.0 k [] tt all)

  finishes_finished : (id : CallId) (server : HostId) (done : Bool) (w : Work) → (done ≡ true → P server.0 (id.inc, id.seq))
      → AllFinished w.host.finished → AllFinished (finishes s id server done w).host.finished
  finishes_finished id server false w one all = all
  finishes_finished id server true w one all = acknowledged_finished server (finished_at w.host server ++ (id.inc, id.seq) ∷ []) w
      (all_more (P server.0) (finished_at w.host server) (id.inc, id.seq) (all server.0) (one refl)) all

  pub asked_finished : (id : CallId) (server : HostId) (did : Did ClientRow) (work : Work) → (did.finished ≡ true → P server.0 (id.inc, id.seq))
      → AllFinished work.host.finished → AllFinished (asked s id server did work).host.finished
  unfolding asked
  asked_finished id server did work one all =
      finishes_finished id server did.finished (asked_said s id server did work) one (subst AllFinished (sym (said-finished s id server did work)) all)

-- ---- what packets acknowledge

-- whatever holds of the calls of a list, holds of them as calls of its client
pub all_named : (P : CallId → Type 0) (client : HostId) (calls : List (ℕ × ℕ)) → AllByRecursion (λ (c : ℕ × ℕ). P (call_of client c)) calls
    → AllByRecursion P (calls_of client calls)
all_named P client [] all = tt
all_named P client (c ∷ calls) all = (all.0, all_named P client calls all.1)

-- a piece of a request acknowledges the oldest finished call, or none
pub riding : (P : CallId → Type 0) (id : CallId) (calls : List (ℕ × ℕ)) (size offset version service : ℕ)
    → AllByRecursion (λ (c : ℕ × ℕ). P (call_of id.client c)) calls → AllByRecursion P (acks_in id (body.Data size offset version service (oldest calls)))
riding P id [] size offset version service all = tt
riding P id (c ∷ calls) size offset version service all = cond_both (not (is_call (call_of id.client c) id)) _ _ (AllByRecursion P) (λ _. (all.0, tt)) (λ _. tt)

-- a server acknowledges nothing
pub no_acks : (P : CallId → Type 0) (s : Times) (v : Stand) (t : ℕ) (id : CallId) (what : Body) → ReplyFits s v t what → AllByRecursion P (acks_in id what)
no_acks P s v t id (body.Ack more) f = absurd f
no_acks P s v t id (body.Data size offset version service (Some call)) f = absurd f
no_acks P s v t id what f = tt
