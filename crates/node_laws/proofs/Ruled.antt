-- What the rules for rows leave and say can be sent.
use Rattle.std.proofs.Common.{◌≡◌, ℕ, ◌+◌, ◌-◌, ◌≤◌, Bool, true, false, Option, None, Some, List, [], ◌∷◌, length, refl, sym, subst, arith}
use Rattle.std.specs.Prelude.{◌==◌, not, ◌||◌, nat_lt, nat_le, if◌then◌else◌}
use Rattle.std.specs.Option.{IfSome}
use Rattle.std.proofs.lemmas.Bool.{cond_both, eqb-true}
use Rattle.plain_sets.specs.Ranges.{Range}
use Rattle.homa_plain.specs.declared.id.CallId.{CallId}
use Rattle.homa_plain.specs.declared.packet.Role.{Role}
use Rattle.homa_plain.specs.declared.packet.Role.TheVariants.{Client, Server}
use Rattle.homa_plain.specs.declared.packet.Body.{Body}
use Rattle.homa_plain.specs.declared.packet.Body.TheVariants as body
use Rattle.homa_plain.specs.declared.settings.Settings.{Settings}
use Rattle.homa_plain.specs.Calls.{is_host}
use Rattle.homa_plain.specs.Settings.{IsValid}
use Rattle.homa_plain.specs.Wire.{FitsKind}
use Rattle.homa_plain.specs.Incoming.{Incoming, with_bytes, leaves_too_many_gaps, is_whole, message, first_gap}
use Rattle.homa_plain.specs.Incoming as incoming
use Rattle.homa_plain.specs.Outgoing.{Outgoing, grant, restart}
use Rattle.homa_plain.specs.Busy.{Resent, Busy, Queued, resend}
use Rattle.homa_plain.specs.Entries.{PlainGaps, PlainRun}
use Rattle.homa_plain.specs.Packets.{Packet, sender}
use Rattle.homa_plain.specs.Rows.{ClientRow, ServerRow, State, Receiving, Held, Replying, Buried}
use Rattle.homa_plain.specs.Host.{pages_for}
use Rattle.homa_plain.specs.Rules.{Moment, Answer, Piece, Say, Tells, Did, leaves, keeps, says, opening, version_of}
use Rattle.homa_plain.specs.AtClient.{renewed, refreshed, with_part, piece_added, piece_comes, response_piece, started_over, answered, unasked}
use Rattle.homa_plain.specs.Busy.{busy_for}
use Rattle.homa_plain.specs.AtClient.{client_gets}
use Rattle.homa_plain.specs.AtServer.{with_state, replying, runs, opens, piece_of, unknown_gets, receiving_gets, held_gets, touched, response_resent}
use Rattle.homa_plain.specs.Tombstones.{buried}
use Rattle.homa_plain.specs.AtServer.{replying_gets, row_gets, server_gets}
use Rattle.homa_plain.specs.Unknown.{buried_gets}
use Rattle.homa_plain.specs.Tombstones.{state_acked, server_acked}
use Rattle.homa_plain.specs.AtServer as at_server
use Rattle.homa_plain.specs.Timers.{resend_of, wanted, client_acts, state_acts, server_acts}
use Rattle.world_laws.specs.Sound.{IsMessage, IsPart, IsArriving, IsClientRow, IsState}
use Rattle.node_runs.specs.Replayed.{IsAnswer}
use Rattle.node_laws.proofs.Told.{AllSaid, IsMoment, few_pages, served_small, soon_until, late_until}
use Rattle.node_laws.proofs.Parts.{part_granted, part_resent, part_restarted, part_opened, arriving_opened, arriving_taken, IsGap, gap_is}
use Rattle.homa_plain.specs.Busy as busy

-- a rule's row is such, a message that it opened is no longer than any may be, and what it says can be sent
pub record IsGood {R : Type 0} (P : R → Type 0) (role : Role) (did : Did R) : Type 0 where
  pub row : IfSome did.row P
  pub opened : IfSome did.opened (λ n. n ≤ 1000000)
  pub said : AllSaid role did.says

abbrev pub IsServerRow : ServerRow → Type 0
IsServerRow row = IsState row.state

module _ {R : Type 0} (P : R → Type 0) (role : Role) (m : Moment) where
  left_good : (o : Option R) → IfSome o P → IsGood P role (leaves m o)
  left_good o k = record { row = k; opened = tt; said = tt }

  says_good : (o : Option R) (said : List Say) → IfSome o P → AllSaid role said → IsGood P role (says m o said)
  says_good o said k fits = record { row = k; opened = tt; said = fits }

busy_good : (role : Role) (a : busy.Answer) → AllSaid role (busy_for a)
busy_good role Busy = ((refl, refl), tt)
busy_good role Queued = tt

-- a RESEND of a gap
resend_good : (s : Settings) → IsValid s → (role : Role) (o : Option Range) → IfSome o IsGap → AllSaid role (resend_of s o)
resend_good s v role None k = tt
resend_good s v role (Some r) k = (((refl, refl), k.some, k.most, (let z : s.overcommit - 1 ≤ 7 = omega (arith, v.in_range.2.2.2.2.1) in z)), tt)

-- ---- at the client

module _ (s : Settings) (m : Moment) (id : CallId) (fit : IsMoment m) where
  abbrev Good : Did ClientRow → Type 0
  Good = IsGood IsClientRow Client

  part_kept : (r : ClientRow) (part : Incoming) → IsClientRow r → IsArriving part → IsClientRow (with_part r part)
  part_kept r part k p = record { message = k.message; out = k.out; service = k.service; part = p }

  added_good : (r : ClientRow) (part : Incoming) (d : Did ClientRow) → IsClientRow r → IsArriving part → IfSome d.opened (λ n. n ≤ 1000000) → d.says ≡ []
      → Good (piece_added id r part d)
  added_good r part d k p o none = cond_both (is_whole part) _ _ Good
      (λ _. record { row = tt; opened = o; said = (tt, tt) })
      (λ _. record { row = part_kept r part k p; opened = o; said = subst (AllSaid Client) (sym none) tt })

  piece_good : (r : ClientRow) (part : Incoming) (piece : Piece) (d : Did ClientRow) → IsClientRow r → IsArriving part
      → piece.offset + length piece.payload ≤ piece.size → IfSome d.opened (λ n. n ≤ 1000000) → d.says ≡ [] → Good (piece_comes id r part piece d)
  piece_good r part piece d k p inside o none = by_length (part.length == piece.size) (leaves_too_many_gaps part piece.offset piece.payload) refl refl where
    by_length : (a b : Bool) → part.length == piece.size ≡ a → leaves_too_many_gaps part piece.offset piece.payload ≡ b
        → Good (if not a then record d { row = Some (with_part r part) } else if b then record d {
          row = Some (with_part r part);
          version =
              version_of piece;
          says = Tells (PlainGaps id.client id) ∷ [];
        }
        else piece_added id r (with_bytes part piece.offset piece.payload) (record d { version = version_of piece }))
    by_length false b e f = record { row = part_kept r part k p; opened = o; said = subst (AllSaid Client) (sym none) tt }
    by_length true true e f = record { row = part_kept r part k p; opened = o; said = (tt, tt) }
    by_length true false e f =
        let same = eqb-true part.length piece.size e in
        added_good r (with_bytes part piece.offset piece.payload) (record d { version = version_of piece }) k
        (arriving_taken part piece.offset piece.payload p (omega (arith, inside, same)) f) o none

  response_good : (r : ClientRow) (o : Option Incoming) (piece : Piece) → IsClientRow r → IfSome o IsArriving
      → piece.offset + length piece.payload ≤ piece.size → piece.size ≤ 1000000 → Good (response_piece s m id r o piece)
  response_good r None piece k p inside small =
      cond_both (nat_lt m.free (pages_for piece.size)) _ _ Good
      (λ _. says_good IsClientRow Client m (Some r) _ k ((few_pages piece.size small, fit.free), tt))
      (λ _. piece_good r (incoming.opened r.server piece.size m.order s.unsched) piece (opening piece.size (keeps m r)) k
      (arriving_opened r.server piece.size m.order s.unsched small) inside small refl)
  response_good r (Some part) piece k p inside small = piece_good r part piece (keeps m r) k p inside tt refl

  answered_good : (what : Body) (payload : List ℕ) (role : Role) (level : ℕ) (r : ClientRow) → FitsKind role level what payload → IsClientRow r
      → Good (answered s m id what payload r)
  answered_good (body.Data size offset version service ack) payload role level r f k = response_good r r.part _ k k.part f.inside f.size_in_range.1
  answered_good (body.Grant offset prio) payload role level r f k =
      left_good IsClientRow Client m _
      (record { message = k.message; out = part_granted r.request r.out k.out offset prio f.2; service = k.service; part = k.part })
  answered_good (body.Resend from to prio) payload role level r f k =
      says_good IsClientRow Client m _ _
      (record { message = k.message; out = part_resent r.request r.out k.out from to prio f.3; service = k.service; part = k.part })
      (busy_good Client (resend r.out from to prio).answer)
  answered_good body.Busy payload role level r f k = left_good IsClientRow Client m _ k
  answered_good (body.Cutoffs c) payload role level r f k = left_good IsClientRow Client m _ k
  answered_good (body.Unknown reason) payload role level r f k =
      cond_both (reason == 0) _ _ Good (λ _. left_good IsClientRow Client m _ (over r.part)) (λ _. says_good IsClientRow Client m None _ tt (tt, tt)) where
        over : (o : Option Incoming) → IsClientRow (started_over r o)
        over None = record { message = k.message; out = part_restarted r.request r.out k.out; service = k.service; part = k.part }
        over (Some part) = k
  answered_good body.NeedAck payload role level r f k = says_good IsClientRow Client m _ _ k ((refl, refl), tt)
  answered_good (body.Ack more) payload role level r f k = left_good IsClientRow Client m _ k

  unasked_good : (what : Body) → Good (unasked m what)
  unasked_good body.NeedAck = says_good IsClientRow Client m None _ tt (((refl, refl), refl, (let z : length {A = ℕ × ℕ} [] ≤ 4 = omega arith in z), tt), tt)
  unasked_good (body.Data size offset version service ack) = left_good IsClientRow Client m None tt
  unasked_good (body.Grant offset prio) = left_good IsClientRow Client m None tt
  unasked_good (body.Resend from to prio) = left_good IsClientRow Client m None tt
  unasked_good body.Busy = left_good IsClientRow Client m None tt
  unasked_good (body.Cutoffs c) = left_good IsClientRow Client m None tt
  unasked_good (body.Unknown reason) = left_good IsClientRow Client m None tt
  unasked_good (body.Ack more) = left_good IsClientRow Client m None tt

renewed_good : (inc : ℕ) (r : ClientRow) → IsClientRow r → IsClientRow (renewed inc r)
renewed_good inc r k = cond_both (nat_lt r.seen inc) _ _ IsClientRow (λ _. record { message = k.message; out = k.out; service = k.service; part = tt }) (λ _. k)

refreshed_good : (now : ℕ) (what : Body) (r : ClientRow) → IsClientRow r → IsClientRow (refreshed now what r)
refreshed_good now (body.Unknown reason) r k = k
refreshed_good now body.NeedAck r k = record { message = k.message; out = k.out; service = k.service; part = k.part }
refreshed_good now (body.Cutoffs c) r k = record { message = k.message; out = k.out; service = k.service; part = k.part }
refreshed_good now (body.Data size offset version service ack) r k = record { message = k.message; out = k.out; service = k.service; part = k.part }
refreshed_good now (body.Grant offset prio) r k = record { message = k.message; out = k.out; service = k.service; part = k.part }
refreshed_good now (body.Resend from to prio) r k = record { message = k.message; out = k.out; service = k.service; part = k.part }
refreshed_good now body.Busy r k = record { message = k.message; out = k.out; service = k.service; part = k.part }
refreshed_good now (body.Ack more) r k = record { message = k.message; out = k.out; service = k.service; part = k.part }

pub gets_good : (s : Settings) (m : Moment) → IsMoment m → (p : Packet) (o : Option ClientRow) → FitsKind p.role p.level p.body p.payload
    → IfSome o IsClientRow → IsGood IsClientRow Client (client_gets s m p o)
unfolding client_gets
gets_good s m fit p None f k = unasked_good s m p.id fit p.body
gets_good s m fit p (Some r) f k = cond_both (not (is_host (sender p) r.server)) _ _ (IsGood IsClientRow Client) (λ _. left_good IsClientRow Client m _ k)
    (λ _. cond_both (nat_lt p.inc r.seen) _ _ (IsGood IsClientRow Client) (λ _. left_good IsClientRow Client m _ k)
    (λ _. answered_good s m p.id fit p.body p.payload p.role p.level _ f (refreshed_good m.now p.body (renewed p.inc r) (renewed_good p.inc r k))))

pub client_acts_good : (s : Settings) → IsValid s → (m : Moment) (id : CallId) (r : ClientRow) → IsClientRow r
    → IsGood IsClientRow Client (client_acts s m id r)
client_acts_good s v m id r k = cond_both (nat_lt r.count s.tries) _ _ (IsGood IsClientRow Client)
    (λ _. says_good IsClientRow Client m _ _ (record { message = k.message; out = k.out; service = k.service; part = k.part })
    (resend_good s v Client (wanted s r.part) (gap r.part k.part)))
    (λ _. says_good IsClientRow Client m None _ tt (tt, tt)) where
      gap : (o : Option Incoming) → IfSome o IsArriving → IfSome (wanted s o) IsGap
      gap None h = record { some = v.in_range.2.2.2.0; most = v.in_range.2.2.2.1 }
      gap (Some part) h = gap_is part h

-- ---- at the server

module _ (s : Settings) (v : IsValid s) (m : Moment) (id : CallId) (fit : IsMoment m) where
  abbrev GoodAt : Did ServerRow → Type 0
  GoodAt = IsGood IsServerRow Server

  replying_good : (now : ℕ) (response : List ℕ) (row : ServerRow) (d : Did ServerRow) → IsMessage response → IfSome d.opened (λ n. n ≤ 1000000)
      → AllSaid Server d.says → GoodAt (replying s now response row d)
  replying_good now response row d k o said = record { row = (k, part_opened response s.unsched); opened = o; said = said }

  runs_good : (service : ℕ) (request : List ℕ) (answer : Answer) (row : ServerRow) (d : Did ServerRow) → IsAnswer answer → IfSome d.opened (λ n. n ≤ 1000000)
      → GoodAt (runs s m id service request answer row d)
  runs_good service request answer row d a o = cond_both (answer.hold == 0) _ _ GoodAt
      (λ _. replying_good m.now answer.bytes row (record d { says = Tells (PlainRun m.host id service request answer.bytes answer.hold) ∷ [] }) (a.0, a.1) o
      (((a.0, a.1), a.2), tt))
      (λ _. record { row = (a.0, a.1); opened = o; said = (((a.0, a.1), a.2), tt) })

  request_added : (service : ℕ) (answer : Answer) (row : ServerRow) (part : Incoming) (d : Did ServerRow) → IsAnswer answer → IsArriving part
      → IfSome d.opened (λ n. n ≤ 1000000) → d.says ≡ [] → GoodAt (at_server.piece_added s m id service answer row part d)
  request_added service answer row part d a p o none = cond_both (is_whole part) _ _ GoodAt
      (λ _. runs_good service (message part) answer row d a o)
      (λ _. record { row = p; opened = o; said = subst (AllSaid Server) (sym none) tt })

  request_good : (service : ℕ) (part : Incoming) (row : ServerRow) (piece : Piece) (answer : Answer) (d : Did ServerRow) → IsAnswer answer → IsServerRow row
      → IsArriving part → piece.offset + length piece.payload ≤ piece.size → IfSome d.opened (λ n. n ≤ 1000000) → d.says ≡ []
      → GoodAt (at_server.piece_comes s m id service part row piece answer d)
  request_good service part row piece answer d a k p inside o none =
      by_length (part.length == piece.size) (not (service == piece.service)) (leaves_too_many_gaps part piece.offset piece.payload) refl refl where
        by_length : (a b c : Bool) → part.length == piece.size ≡ a → leaves_too_many_gaps part piece.offset piece.payload ≡ c
            → GoodAt (if not a || b then record d { row = Some row } else if c then record d {
              row =
                  Some (with_state row (Receiving service part m.now 0));
              version = version_of piece;
              says = Tells (PlainGaps m.host id) ∷ [];
            }
            else at_server.piece_added s m id service answer row (with_bytes part piece.offset piece.payload) (record d { version = version_of piece }))
        by_length false b c e f = record { row = k; opened = o; said = subst (AllSaid Server) (sym none) tt }
        by_length true true c e f = record { row = k; opened = o; said = subst (AllSaid Server) (sym none) tt }
        by_length true false true e f = record { row = p; opened = o; said = (tt, tt) }
        by_length true false false e f =
            let same = eqb-true part.length piece.size e in
            request_added service answer row (with_bytes part piece.offset piece.payload) (record d { version = version_of piece }) a
            (arriving_taken part piece.offset piece.payload p (omega (arith, inside, same)) f) o none

  opens_good : (piece : Piece) (answer : Answer) → IsAnswer answer → piece.offset + length piece.payload ≤ piece.size → piece.size ≤ 1000000
      → GoodAt (opens s m id piece answer)
  opens_good piece answer a inside small =
      cond_both (nat_le s.served m.rows) _ _ GoodAt (λ _. says_good IsServerRow Server m None _ tt ((fit.rows, served_small s v), tt))
      (λ _. cond_both (nat_lt m.free (pages_for piece.size)) _ _ GoodAt
      (λ _. says_good IsServerRow Server m None _ tt ((few_pages piece.size small, fit.free), tt))
      (λ _. let part = incoming.opened id.client piece.size m.order s.unsched in
      let arriving = arriving_opened id.client piece.size m.order s.unsched small in
      request_good piece.service part (record { order = m.order; state = Receiving piece.service part m.now 0 }) piece answer
      (opening piece.size (leaves m None)) a arriving arriving inside small refl))

  unknown_good : (what : Body) (payload : List ℕ) (role : Role) (level : ℕ) (answer : Answer) → IsAnswer answer → FitsKind role level what payload
      → GoodAt (unknown_gets s m id what payload answer)
  unknown_good (body.Data size offset version service ack) payload role level answer a f =
      opens_good (piece_of size offset version service payload) answer a f.inside f.size_in_range.1
  unknown_good (body.Resend from to prio) payload role level answer a f =
      says_good IsServerRow Server m None _ tt (((refl, refl), refl, (let z : 0 ≤ 1 = omega arith in z)), tt)
  unknown_good (body.Grant offset prio) payload role level answer a f = left_good IsServerRow Server m None tt
  unknown_good body.Busy payload role level answer a f = left_good IsServerRow Server m None tt
  unknown_good (body.Cutoffs c) payload role level answer a f = left_good IsServerRow Server m None tt
  unknown_good (body.Unknown reason) payload role level answer a f = left_good IsServerRow Server m None tt
  unknown_good body.NeedAck payload role level answer a f = left_good IsServerRow Server m None tt
  unknown_good (body.Ack more) payload role level answer a f = left_good IsServerRow Server m None tt

  receiving_good : (what : Body) (payload : List ℕ) (role : Role) (level : ℕ) (answer : Answer) (row : ServerRow) (service : ℕ) (part : Incoming) (base : ℕ)
      → IsAnswer answer → FitsKind role level what payload → IsServerRow row → IsArriving part
      → GoodAt (receiving_gets s m id what payload answer row service part base)
  receiving_good (body.Data size offset version service' ack) payload role level answer row service part base a f k p =
      request_good service part row (piece_of size offset version service' payload) answer (leaves m None) a k p f.inside tt refl
  receiving_good (body.Resend from to prio) payload role level answer row service part base a f k p = says_good IsServerRow Server m _ _ p ((refl, refl), tt)
  receiving_good body.Busy payload role level answer row service part base a f k p = left_good IsServerRow Server m _ p
  receiving_good (body.Grant offset prio) payload role level answer row service part base a f k p = left_good IsServerRow Server m _ k
  receiving_good (body.Cutoffs c) payload role level answer row service part base a f k p = left_good IsServerRow Server m _ k
  receiving_good (body.Unknown reason) payload role level answer row service part base a f k p = left_good IsServerRow Server m _ k
  receiving_good body.NeedAck payload role level answer row service part base a f k p = left_good IsServerRow Server m _ k
  receiving_good (body.Ack more) payload role level answer row service part base a f k p = left_good IsServerRow Server m _ k

  held_good : (what : Body) (row : ServerRow) → IsServerRow row → GoodAt (held_gets m what row)
  held_good (body.Resend from to prio) row k = says_good IsServerRow Server m _ _ k ((refl, refl), tt)
  held_good (body.Data size offset version service ack) row k = left_good IsServerRow Server m _ k
  held_good (body.Grant offset prio) row k = left_good IsServerRow Server m _ k
  held_good body.Busy row k = left_good IsServerRow Server m _ k
  held_good (body.Cutoffs c) row k = left_good IsServerRow Server m _ k
  held_good (body.Unknown reason) row k = left_good IsServerRow Server m _ k
  held_good body.NeedAck row k = left_good IsServerRow Server m _ k
  held_good (body.Ack more) row k = left_good IsServerRow Server m _ k

  reply_good : (what : Body) (payload : List ℕ) (role : Role) (level : ℕ) (row : ServerRow) (response : List ℕ) (out : Outgoing) (order : ℕ)
      → FitsKind role level what payload → IsServerRow row → IsMessage response → IsPart response out → GoodAt (replying_gets m what row response out order)
  reply_good (body.Grant offset prio) payload role level row response out order f k a p =
      left_good IsServerRow Server m _ (a, part_granted response out p offset prio f.2)
  reply_good (body.Resend from to prio) payload role level row response out order f k a p =
      says_good IsServerRow Server m _ _ (a, part_resent response out p from to prio f.3) (busy_good Server (resend out from to prio).answer)
  reply_good (body.Ack more) payload role level row response out order f k a p = left_good IsServerRow Server m _ k
  reply_good (body.Data size offset version service ack) payload role level row response out order f k a p = left_good IsServerRow Server m _ (a, p)
  reply_good body.Busy payload role level row response out order f k a p = left_good IsServerRow Server m _ (a, p)
  reply_good (body.Cutoffs c) payload role level row response out order f k a p = left_good IsServerRow Server m _ (a, p)
  reply_good (body.Unknown reason) payload role level row response out order f k a p = left_good IsServerRow Server m _ (a, p)
  reply_good body.NeedAck payload role level row response out order f k a p = left_good IsServerRow Server m _ (a, p)

  grave_good : (what : Body) (row : ServerRow) → IsServerRow row → GoodAt (buried_gets m what row)
  grave_good (body.Data size offset version service ack) row k =
      says_good IsServerRow Server m _ _ k (((refl, refl), refl, (let z : 1 ≤ 1 = omega arith in z)), tt)
  grave_good (body.Resend from to prio) row k = says_good IsServerRow Server m _ _ k (((refl, refl), refl, (let z : 1 ≤ 1 = omega arith in z)), tt)
  grave_good (body.Grant offset prio) row k = left_good IsServerRow Server m _ k
  grave_good body.Busy row k = left_good IsServerRow Server m _ k
  grave_good (body.Cutoffs c) row k = left_good IsServerRow Server m _ k
  grave_good (body.Unknown reason) row k = left_good IsServerRow Server m _ k
  grave_good body.NeedAck row k = left_good IsServerRow Server m _ k
  grave_good (body.Ack more) row k = left_good IsServerRow Server m _ k

  row_good : (what : Body) (payload : List ℕ) (role : Role) (level : ℕ) (answer : Answer) (row : ServerRow) (state : State) → IsAnswer answer
      → FitsKind role level what payload → IsServerRow row → IsState state → GoodAt (row_gets s m id what payload answer row state)
  row_good what payload role level answer row (Receiving service part base count) a f k t =
      receiving_good what payload role level answer row service part base a f k t
  row_good what payload role level answer row (Held response release) a f k t = held_good what row k
  row_good what payload role level answer row (Replying response out order base count) a f k t =
      reply_good what payload role level row response out order f k t.0 t.1
  row_good what payload role level answer row (Buried until) a f k t = grave_good what row k

  acked_by : (row : ServerRow) (state : State) → IsServerRow row → GoodAt (state_acked s m id row state)
  acked_by row (Receiving service part base count) k = left_good IsServerRow Server m _ k
  acked_by row (Held response release) k = says_good IsServerRow Server m _ _ tt (soon_until s v m.now fit.now, tt)
  acked_by row (Replying response out order base count) k = says_good IsServerRow Server m _ _ tt (soon_until s v m.now fit.now, tt)
  acked_by row (Buried until) k = left_good IsServerRow Server m _ k

  pub acked_good : (o : Option ServerRow) → IfSome o IsServerRow → GoodAt (server_acked s m id o)
  unfolding server_acked
  acked_good None k = left_good IsServerRow Server m None tt
  acked_good (Some row) k = acked_by row row.state k

  acts_by : (row : ServerRow) (state : State) → IsServerRow row → IsState state → GoodAt (state_acts s m id row state)
  acts_by row (Receiving service part base count) k t = cond_both (nat_lt count s.tries) _ _ GoodAt
      (λ _. says_good IsServerRow Server m _ _ t (resend_good s v Server (first_gap part) (gap_is part t)))
      (λ _. says_good IsServerRow Server m None _ tt (tt, tt))
  acts_by row (Held response release) k t = replying_good m.now response row (leaves m None) t tt tt
  acts_by row (Replying response out order base count) k t =
      cond_both (nat_lt count s.tries) _ _ GoodAt (λ _. says_good IsServerRow Server m _ _ t (((refl, refl), refl), tt))
      (λ _. says_good IsServerRow Server m _ _ tt (late_until s v m.now fit.now, tt))
  acts_by row (Buried until) k t = says_good IsServerRow Server m None _ tt (tt, tt)

  pub server_acts_good : (row : ServerRow) → IsServerRow row → GoodAt (server_acts s m id row)
  server_acts_good row k = acts_by row row.state k k

pub serves_good : (s : Settings) → IsValid s → (m : Moment) → IsMoment m → (p : Packet) (answer : Answer) (o : Option ServerRow) → IsAnswer answer
    → FitsKind p.role p.level p.body p.payload → IfSome o IsServerRow → IsGood IsServerRow Server (server_gets s m p answer o)
unfolding server_gets
serves_good s v m fit p answer None a f k = unknown_good s v m p.id fit p.body p.payload p.role p.level answer a f
serves_good s v m fit p answer (Some row) a f k = row_good s v m p.id fit p.body p.payload p.role p.level answer row row.state a f k k
