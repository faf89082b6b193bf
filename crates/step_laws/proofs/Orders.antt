-- The order numbers that a rule leaves in a row: those that were there, or new ones.
use Rattle.std.proofs.Common.{◌≡◌, ℕ, ◌+◌, ◌<◌, ◌≤◌, not, Option, Some, None, List, refl, sym, ap, subst, ◌∙◌, arith, ◌⊎◌, inl, inr}
use Rattle.std.specs.Prelude.{◌==◌, ◌||◌, nat_lt, nat_le}
use Rattle.std.specs.Option.{option_map, option_and_then}
use Rattle.std.proofs.lemmas.Bool.{cond_both}
use Rattle.homa_plain.specs.declared.id.CallId.{CallId}
use Rattle.homa_plain.specs.declared.packet.Body.{Body}
use Rattle.homa_plain.specs.declared.packet.Body.TheVariants as body
use Rattle.homa_plain.specs.declared.settings.Settings.{Settings}
use Rattle.homa_plain.specs.Incoming.{Incoming, with_bytes, leaves_too_many_gaps, is_whole, message}
use Rattle.homa_plain.specs.Incoming as incoming
use Rattle.homa_plain.specs.Outgoing.{Outgoing}
use Rattle.homa_plain.specs.Packets.{Packet, sender}
use Rattle.homa_plain.specs.Rows.{ClientRow, ServerRow, State, Receiving, Held, Replying, Buried}
use Rattle.homa_plain.specs.Host.{pages_for}
use Rattle.homa_plain.specs.Rules.{Moment, Answer, Piece, Did, leaves, keeps, opening, version_of}
use Rattle.homa_plain.specs.AtClient.{unasked, client_gets}
use Rattle.homa_plain.specs.AtClient as client
use Rattle.homa_plain.specs.AtServer.{held_gets, replying_gets, runs, piece_comes, opens, piece_of, unknown_gets, receiving_gets}
use Rattle.homa_plain.specs.Unknown.{buried_gets}
use Rattle.homa_plain.specs.AtServer.{row_gets, server_gets}
use Rattle.homa_plain.specs.Tombstones.{state_acked, server_acked}
use Rattle.homa_plain.specs.Timers.{client_acts, state_acts, server_acts}
use Rattle.step_laws.specs.StepLaws.{client_order, server_order, response_order, request_order, reply_order, arriving_in, leaving_in}

-- none, the number that was there, or one that was given out since
abbrev pub IsKept : ℕ → ℕ → Option ℕ → Option ℕ → Type 0
IsKept low high old new = (new ≡ None) ⊎ ((new ≡ old) ⊎ ((x : ℕ) × (new ≡ Some x) × (low ≤ x) × (x < high)))

kept_none : (low high : ℕ) (old : Option ℕ) → IsKept low high old None
kept_none low high old = inl refl

kept_same : (low high : ℕ) (old : Option ℕ) → IsKept low high old old
kept_same low high old = inr (inl refl)

pub kept_new : (low high : ℕ) (old : Option ℕ) (x : ℕ) → low ≤ x → x < high → IsKept low high old (Some x)
kept_new low high old x l h = inr (inr (x, refl, l, h))

-- later more are given out
kept_higher : (low high high' : ℕ) (old new : Option ℕ) → high ≤ high' → IsKept low high old new → IsKept low high' old new
kept_higher low high high' old new h (inl e) = inl e
kept_higher low high high' old new h (inr (inl e)) = inr (inl e)
kept_higher low high high' old new h (inr (inr k)) = let b : k.0 < high' = omega (arith, h, k.3) in inr (inr (k.0, k.1, k.2, b))

-- what was kept before
kept_from : (low high : ℕ) (older old new : Option ℕ) → (old ≡ None) ⊎ (old ≡ older) → IsKept low high old new → IsKept low high older new
kept_from low high older old new was (inl e) = inl e
kept_from low high older old new (inl none) (inr (inl e)) = inl (e ∙ none)
kept_from low high older old new (inr same) (inr (inl e)) = inr (inl (e ∙ same))
kept_from low high older old new was (inr (inr k)) = inr (inr k)

-- ---- rows of clients

-- the numbers of a row at a client, after a rule
pub record ClientKept (m : Moment) (row part : Option ℕ) (did : Did ClientRow) : Type 0 where
  pub up : m.order ≤ did.order
  pub at_row : IsKept m.order did.order row (option_and_then client_order did.row)
  pub at_part : IsKept m.order did.order part (option_and_then response_order did.row)

module _ (s : Settings) (m : Moment) (id : CallId) where
  -- a message that may just have been opened
  client_piece_kept : (old : Option ℕ) (r : ClientRow) (part : Incoming) (piece : Piece) (d : Did ClientRow) → m.order ≤ d.order
      → IsKept m.order d.order old (Some part.order)
      → ClientKept m (Some r.order) old (client.piece_comes id r part piece d)
  client_piece_kept old r part piece d up kept =
      cond_both (not (part.length == piece.size)) _ _ (ClientKept m (Some r.order) old) (λ _. record { up = up; at_row = inr (inl refl); at_part = kept })
      (λ _. cond_both (leaves_too_many_gaps part piece.offset piece.payload) _ _ (ClientKept m (Some r.order) old)
      (λ _. record { up = up; at_row = inr (inl refl); at_part = kept })
      (λ _. cond_both (is_whole (with_bytes part piece.offset piece.payload)) _ _ (ClientKept m (Some r.order) old)
      (λ _. record { up = up; at_row = inl refl; at_part = inl refl })
      (λ _. record { up = up; at_row = inr (inl refl); at_part = kept })))

  response_kept : (r : ClientRow) (o : Option Incoming) (piece : Piece) → r.part ≡ o
      → ClientKept m (Some r.order) (response_order r) (client.response_piece s m id r o piece)
  response_kept r None piece e =
      cond_both (nat_lt m.free (pages_for piece.size)) _ _ (ClientKept m (Some r.order) (response_order r))
      (λ _. record { up = omega arith; at_row = inr (inl refl); at_part = inr (inl refl) })
      (λ _. client_piece_kept (response_order r) r (incoming.opened r.server piece.size m.order s.unsched) piece (opening piece.size (keeps m r)) (omega arith)
      (kept_new m.order (m.order + 1) (response_order r) m.order (omega arith) (omega arith)))
  response_kept r (Some part) piece e =
      client_piece_kept (response_order r) r part piece (keeps m r) (omega arith) (inr (inl (ap (option_map (λ (p : Incoming). p.order)) (sym e))))

  started_over_order : (r : ClientRow) (o : Option Incoming) → (client.started_over r o).order ≡ r.order
  started_over_order r None = refl
  started_over_order r (Some part) = refl

  started_over_part : (r : ClientRow) (o : Option Incoming) → (client.started_over r o).part ≡ r.part
  started_over_part r None = refl
  started_over_part r (Some part) = refl

  answered_kept : (what : Body) (payload : List ℕ) (r : ClientRow) → ClientKept m (Some r.order) (response_order r) (client.answered s m id what payload r)
  answered_kept (body.Data size offset version service ack) payload r =
      response_kept r r.part (record { size = size; offset = offset; version = version; service = service; payload = payload }) refl
  answered_kept (body.Grant offset prio) payload r = record { up = omega arith; at_row = inr (inl refl); at_part = inr (inl refl) }
  answered_kept (body.Resend from to prio) payload r = record { up = omega arith; at_row = inr (inl refl); at_part = inr (inl refl) }
  answered_kept body.Busy payload r = record { up = omega arith; at_row = inr (inl refl); at_part = inr (inl refl) }
  answered_kept (body.Cutoffs cutoffs) payload r = record { up = omega arith; at_row = inr (inl refl); at_part = inr (inl refl) }
  answered_kept (body.Unknown reason) payload r =
      cond_both (reason == 0) _ _ (ClientKept m (Some r.order) (response_order r))
      (λ _. record {
        up = omega arith;
        at_row = inr (inl (ap Some (started_over_order r r.part)));
        at_part = inr (inl (ap (option_map (λ (p : Incoming). p.order)) (started_over_part r r.part)));
      })
      (λ _. record { up = omega arith; at_row = inl refl; at_part = inl refl })
  answered_kept body.NeedAck payload r = record { up = omega arith; at_row = inr (inl refl); at_part = inr (inl refl) }
  answered_kept (body.Ack more) payload r = record { up = omega arith; at_row = inr (inl refl); at_part = inr (inl refl) }

  unasked_kept : (what : Body) → ClientKept m None None (unasked m what)
  unasked_kept body.NeedAck = record { up = omega arith; at_row = inl refl; at_part = inl refl }
  unasked_kept what = record { up = omega arith; at_row = inl refl; at_part = inl refl }

-- a later life of the server drops the response, and nothing else happens to the numbers
renewed_order : (inc : ℕ) (r : ClientRow) → (client.renewed inc r).order ≡ r.order
renewed_order inc r = cond_both (nat_lt r.seen inc) (record r { seen = inc; part = None }) r (λ (q : ClientRow). q.order ≡ r.order) (λ _. refl) (λ _. refl)

renewed_part : (inc : ℕ) (r : ClientRow) → (response_order (client.renewed inc r) ≡ None) ⊎ (response_order (client.renewed inc r) ≡ response_order r)
renewed_part inc r =
    cond_both (nat_lt r.seen inc) (record r { seen = inc; part = None }) r
    (λ (q : ClientRow). (response_order q ≡ None) ⊎ (response_order q ≡ response_order r)) (λ _. inl refl) (λ _. inr refl)

refreshed_order : (now : ℕ) (what : Body) (r : ClientRow) → (client.refreshed now what r).order ≡ r.order
refreshed_order now (body.Unknown reason) r = refl
refreshed_order now body.NeedAck r = refl
refreshed_order now (body.Cutoffs cutoffs) r = refl
refreshed_order now what r = refl

refreshed_part : (now : ℕ) (what : Body) (r : ClientRow) → (client.refreshed now what r).part ≡ r.part
refreshed_part now (body.Unknown reason) r = refl
refreshed_part now body.NeedAck r = refl
refreshed_part now (body.Cutoffs cutoffs) r = refl
refreshed_part now what r = refl

-- a packet of its server leaves the numbers or brings new ones
pub client_kept : (s : Settings) (m : Moment) (p : Packet) (o : Option ClientRow)
    → ClientKept m (option_and_then client_order o) (option_and_then response_order o) (client_gets s m p o)
unfolding client_gets
client_kept s m p None = unasked_kept s m p.id p.body
client_kept s m p (Some r) =
    let later : ClientRow = client.renewed p.inc r in
    let q : ClientRow = client.refreshed m.now p.body later in
    let kept = answered_kept s m p.id p.body p.payload q in
    cond_both (not ((sender p).0 == r.server.0)) (keeps m r) _ (ClientKept m (Some r.order) (response_order r))
    (λ _. record { up = omega arith; at_row = inr (inl refl); at_part = inr (inl refl) })
    (λ _. cond_both (nat_lt p.inc r.seen) (keeps m r) _ (ClientKept m (Some r.order) (response_order r))
    (λ _. record { up = omega arith; at_row = inr (inl refl); at_part = inr (inl refl) })
    (λ _. record {
      up = kept.up;
      at_row = kept_from m.order (client.answered s m p.id p.body p.payload q).order (Some r.order) (Some q.order) _
          (inr (ap Some (refreshed_order m.now p.body later ∙ renewed_order p.inc r))) kept.at_row;
      at_part = kept_from m.order (client.answered s m p.id p.body p.payload q).order (response_order r) (response_order q) _
          (subst (λ (o : Option Incoming). (option_map (λ (w : Incoming). w.order) o ≡ None)
          ⊎ (option_map (λ (w : Incoming). w.order) o ≡ response_order r)) (sym (refreshed_part m.now p.body later)) (renewed_part p.inc r)) kept.at_part;
    }))

-- its timer leaves them
pub client_acts-kept : (s : Settings) (m : Moment) (id : CallId) (r : ClientRow) → ClientKept m (Some r.order) (response_order r) (client_acts s m id r)
client_acts-kept s m id r =
    cond_both (nat_lt r.count s.tries) _ _ (ClientKept m (Some r.order) (response_order r))
    (λ _. record { up = omega arith; at_row = inr (inl refl); at_part = inr (inl refl) })
    (λ _. record { up = omega arith; at_row = inl refl; at_part = inl refl })

-- ---- rows of servers

-- the numbers of a row at a server, after a rule
pub record ServerKept (m : Moment) (row request reply : Option ℕ) (did : Did ServerRow) : Type 0 where
  pub up : m.order ≤ did.order
  pub at_row : IsKept m.order did.order row (option_and_then server_order did.row)
  pub at_request : IsKept m.order did.order request (option_and_then request_order did.row)
  pub at_reply : IsKept m.order did.order reply (option_and_then reply_order did.row)

module _ (s : Settings) (m : Moment) (id : CallId) where
  runs_kept : (old request reply : Option ℕ) (service : ℕ) (bytes : List ℕ) (a : Answer) (row : ServerRow) (d : Did ServerRow) → m.order ≤ d.order
      → IsKept m.order d.order old (Some row.order)
      → ServerKept m old request reply (runs s m id service bytes a row d)
  runs_kept old request reply service bytes a row d up kept =
      cond_both (a.hold == 0) _ _ (ServerKept m old request reply)
      (λ _. record {
        up = omega (arith, up);
        at_row = kept_higher m.order d.order (d.order + 1) old (Some row.order) (omega arith) kept;
        at_request = inl refl;
        at_reply = kept_new m.order (d.order + 1) reply d.order up (omega arith);
      })
      (λ _. record { up = up; at_row = kept; at_request = inl refl; at_reply = inl refl })

  server_piece_kept : (old request : Option ℕ) (service : ℕ) (part : Incoming) (row : ServerRow) (piece : Piece) (a : Answer) (d : Did ServerRow)
      → m.order ≤ d.order → IsKept m.order d.order old (Some row.order)
      → IsKept m.order d.order request (Some part.order) → IsKept m.order d.order request (request_order row) → reply_order row ≡ None
      → ServerKept m old request None (piece_comes s m id service part row piece a d)
  server_piece_kept old request service part row piece a d up kept arriving same none =
      cond_both (not (part.length == piece.size) || not (service == piece.service)) _ _ (ServerKept m old request None)
      (λ _. record { up = up; at_row = kept; at_request = same; at_reply = inl none })
      (λ _. cond_both (leaves_too_many_gaps part piece.offset piece.payload) _ _ (ServerKept m old request None)
      (λ _. record { up = up; at_row = kept; at_request = arriving; at_reply = inl refl })
      (λ _. cond_both (is_whole (with_bytes part piece.offset piece.payload)) _ _ (ServerKept m old request None)
      (λ _. runs_kept old request None service (message (with_bytes part piece.offset piece.payload)) a row (record d { version = version_of piece }) up kept)
      (λ _. record { up = up; at_row = kept; at_request = arriving; at_reply = inl refl })))

  opens_kept : (piece : Piece) (a : Answer) → ServerKept m None None None (opens s m id piece a)
  opens_kept piece a =
      let part : Incoming = incoming.opened id.client piece.size m.order s.unsched in
      let new : IsKept m.order (m.order + 1) None (Some m.order) = kept_new m.order (m.order + 1) None m.order (omega arith) (omega arith) in
      cond_both (nat_le s.served m.rows) _ _ (ServerKept m None None None)
      (λ _. record { up = omega arith; at_row = inl refl; at_request = inl refl; at_reply = inl refl })
      (λ _. cond_both (nat_lt m.free (pages_for piece.size)) _ _ (ServerKept m None None None)
      (λ _. record { up = omega arith; at_row = inl refl; at_request = inl refl; at_reply = inl refl })
      (λ _. server_piece_kept None None piece.service part (record { order = m.order; state = Receiving piece.service part m.now 0 }) piece a
      (opening piece.size (leaves m None)) (omega arith) new new new refl))

  unknown_kept : (what : Body) (payload : List ℕ) (a : Answer) → ServerKept m None None None (unknown_gets s m id what payload a)
  unknown_kept (body.Data size offset version service ack) payload a = opens_kept (piece_of size offset version service payload) a
  unknown_kept (body.Resend from to prio) payload a = record { up = omega arith; at_row = inl refl; at_request = inl refl; at_reply = inl refl }
  unknown_kept what payload a = record { up = omega arith; at_row = inl refl; at_request = inl refl; at_reply = inl refl }

  receiving_kept : (what : Body) (payload : List ℕ) (a : Answer) (row : ServerRow) (service : ℕ) (part : Incoming) (base count : ℕ)
      → row.state ≡ Receiving service part base count
      → ServerKept m (Some row.order) (Some part.order) None (receiving_gets s m id what payload a row service part base)
  receiving_kept (body.Data size offset version service' ack) payload a row service part base count e =
      server_piece_kept (Some row.order) (Some part.order) service part row (piece_of size offset version service' payload) a (leaves m None)
      (omega arith) (inr (inl refl)) (inr (inl refl))
      (inr (inl (ap arriving_in e))) (ap leaving_in e)
  receiving_kept (body.Resend from to prio) payload a row service part base count e =
      record { up = omega arith; at_row = inr (inl refl); at_request = inr (inl refl); at_reply = inl refl }
  receiving_kept body.Busy payload a row service part base count e =
      record { up = omega arith; at_row = inr (inl refl); at_request = inr (inl refl); at_reply = inl refl }
  receiving_kept what payload a row service part base count e =
      record { up = omega arith; at_row = inr (inl refl); at_request = inr (inl (ap arriving_in e)); at_reply = inl (ap leaving_in e) }

  held_kept : (what : Body) (row : ServerRow) → ServerKept m (Some row.order) (request_order row) (reply_order row) (held_gets m what row)
  held_kept (body.Resend from to prio) row = record { up = omega arith; at_row = inr (inl refl); at_request = inr (inl refl); at_reply = inr (inl refl) }
  held_kept what row = record { up = omega arith; at_row = inr (inl refl); at_request = inr (inl refl); at_reply = inr (inl refl) }

  replying_kept : (what : Body) (row : ServerRow) (response : List ℕ) (out : Outgoing) (order base count : ℕ)
      → row.state ≡ Replying response out order base count
      → ServerKept m (Some row.order) (request_order row) (Some order) (replying_gets m what row response out order)
  replying_kept (body.Grant offset prio) row response out order base count e =
      record { up = omega arith; at_row = inr (inl refl); at_request = inl refl; at_reply = inr (inl refl) }
  replying_kept (body.Resend from to prio) row response out order base count e =
      record { up = omega arith; at_row = inr (inl refl); at_request = inl refl; at_reply = inr (inl refl) }
  replying_kept (body.Ack more) row response out order base count e =
      record { up = omega arith; at_row = inr (inl refl); at_request = inr (inl refl); at_reply = inr (inl (ap leaving_in e)) }
  replying_kept what row response out order base count e =
      record { up = omega arith; at_row = inr (inl refl); at_request = inl refl; at_reply = inr (inl refl) }

  buried_kept : (what : Body) (row : ServerRow) → ServerKept m (Some row.order) (request_order row) (reply_order row) (buried_gets m what row)
  buried_kept (body.Data size offset version service ack) row =
      record { up = omega arith; at_row = inr (inl refl); at_request = inr (inl refl); at_reply = inr (inl refl) }
  buried_kept (body.Resend from to prio) row = record { up = omega arith; at_row = inr (inl refl); at_request = inr (inl refl); at_reply = inr (inl refl) }
  buried_kept what row = record { up = omega arith; at_row = inr (inl refl); at_request = inr (inl refl); at_reply = inr (inl refl) }

  -- the state of the row at hand
  row_kept : (what : Body) (payload : List ℕ) (a : Answer) (row : ServerRow) (state : State) → row.state ≡ state
      → ServerKept m (Some row.order) (request_order row) (reply_order row) (row_gets s m id what payload a row state)
  row_kept what payload a row (Receiving service part base count) e =
      subst (λ (st : State). ServerKept m (Some row.order) (arriving_in st) (leaving_in st)
      (receiving_gets s m id what payload a row service part base)) (sym e) (receiving_kept what payload a row service part base count e)
  row_kept what payload a row (Held response release) e = held_kept what row
  row_kept what payload a row (Replying response out order base count) e =
      subst (λ (st : State). ServerKept m (Some row.order) (request_order row) (leaving_in st) (replying_gets m what row response out order)) (sym e)
      (replying_kept what row response out order base count e)
  row_kept what payload a row (Buried until) e = buried_kept what row

  acked_kept : (row : ServerRow) (state : State) → ServerKept m (Some row.order) (request_order row) (reply_order row) (state_acked s m id row state)
  acked_kept row (Receiving service part base count) =
      record { up = omega arith; at_row = inr (inl refl); at_request = inr (inl refl); at_reply = inr (inl refl) }
  acked_kept row (Held response release) = record { up = omega arith; at_row = inr (inl refl); at_request = inl refl; at_reply = inl refl }
  acked_kept row (Replying response out order base count) = record { up = omega arith; at_row = inr (inl refl); at_request = inl refl; at_reply = inl refl }
  acked_kept row (Buried until) = record { up = omega arith; at_row = inr (inl refl); at_request = inr (inl refl); at_reply = inr (inl refl) }

  acts_kept : (row : ServerRow) (state : State) → row.state ≡ state
      → ServerKept m (Some row.order) (request_order row) (reply_order row) (state_acts s m id row state)
  acts_kept row (Receiving service part base count) e =
      cond_both (nat_lt count s.tries) _ _ (ServerKept m (Some row.order) (request_order row) (reply_order row))
      (λ _. record { up = omega arith; at_row = inr (inl refl); at_request = inr (inl (ap arriving_in (sym e))); at_reply = inl refl })
      (λ _. record { up = omega arith; at_row = inl refl; at_request = inl refl; at_reply = inl refl })
  acts_kept row (Held response release) e =
      record {
        up = omega arith;
        at_row = inr (inl refl);
        at_request = inl refl;
        at_reply = kept_new m.order (m.order + 1) (reply_order row) m.order
            (omega arith) (omega arith);
      }
  acts_kept row (Replying response out order base count) e =
      cond_both (nat_lt count s.tries) _ _ (ServerKept m (Some row.order) (request_order row) (reply_order row))
      (λ _. record { up = omega arith; at_row = inr (inl refl); at_request = inl refl; at_reply = inr (inl (ap leaving_in (sym e))) })
      (λ _. record { up = omega arith; at_row = inr (inl refl); at_request = inl refl; at_reply = inl refl })
  acts_kept row (Buried until) e = record { up = omega arith; at_row = inl refl; at_request = inl refl; at_reply = inl refl }

-- the numbers of a row at a server
abbrev pub KeptAt : Moment → Option ServerRow → Did ServerRow → Type 0
KeptAt m o did = ServerKept m (option_and_then server_order o) (option_and_then request_order o) (option_and_then reply_order o) did

-- a packet of its client leaves the numbers or brings new ones
pub server_kept : (s : Settings) (m : Moment) (p : Packet) (a : Answer) (o : Option ServerRow) → KeptAt m o (server_gets s m p a o)
unfolding server_gets
server_kept s m p a None = unknown_kept s m p.id p.body p.payload a
server_kept s m p a (Some row) = row_kept s m p.id p.body p.payload a row row.state refl

-- and so do an acknowledgement
pub server_acked-kept : (s : Settings) (m : Moment) (id : CallId) (o : Option ServerRow) → KeptAt m o (server_acked s m id o)
unfolding server_acked
server_acked-kept s m id None = record { up = omega arith; at_row = inl refl; at_request = inl refl; at_reply = inl refl }
server_acked-kept s m id (Some row) = acked_kept s m id row row.state

-- and its timer
pub server_acts-kept : (s : Settings) (m : Moment) (id : CallId) (row : ServerRow) → KeptAt m (Some row) (server_acts s m id row)
server_acts-kept s m id row = acts_kept s m id row row.state refl
