-- A packet gives a message a new number only where the message is new; else it leaves the number, or takes it away.
use Rattle.std.proofs.Common.{◌≡◌, ℕ, ◌≤◌, true, false, not, ◌||◌, cond, ◌⊎◌, Option, Some, None, List, inl, inr, refl, sym, ap, subst, ◌∙◌}
use Rattle.std.specs.Prelude.{◌==◌, nat_lt}
use Rattle.std.specs.Option.{option_map}
use Rattle.std.proofs.lemmas.Bool.{cond_both, true≢false, cases_Bool}
use Rattle.homa_plain.specs.declared.id.CallId.{CallId}
use Rattle.homa_plain.specs.declared.packet.Body.{Body}
use Rattle.homa_plain.specs.declared.packet.Body.TheVariants as body
use Rattle.homa_plain.specs.declared.settings.Settings.{Settings}
use Rattle.homa_plain.specs.Calls.{is_host}
use Rattle.homa_plain.specs.Incoming.{Incoming, with_bytes, leaves_too_many_gaps, is_whole}
use Rattle.homa_plain.specs.Packets.{Packet, sender}
use Rattle.homa_plain.specs.Rows.{ClientRow, ServerRow, State, Receiving, Held, Replying, Buried}
use Rattle.homa_plain.specs.Rules.{Moment, Answer, Piece, Did, keeps, leaves}
use Rattle.homa_plain.specs.AtClient.{client_gets, answered, renewed, refreshed, unasked}
use Rattle.homa_plain.specs.AtClient as client
use Rattle.homa_plain.specs.AtServer.{server_gets, row_gets, receiving_gets, piece_comes}
use Rattle.step_laws.specs.StepLaws.{response_order, request_order, arriving_in}
use Rattle.step_laws.proofs.Orders.{IsKept, client_kept, server_kept}
use Rattle.step_moves.proofs.Hosts.{some_is, none_some}
use Rattle.trace_returned.proofs.ClientRules.{gets_unasked, gets_elsewhere, gets_earlier, gets_answered}
use Rattle.trace_granting.proofs.Each.{Stays, response_number, request_number}

-- a new number, given since
abbrev pub IsGiven : ℕ → Option ℕ → Type 0
IsGiven low n = (x : ℕ) × (n ≡ Some x) × (low ≤ x)

-- ---- at a server

module _ (s : Settings) (m : Moment) (id : CallId) where
  request_piece : (service : ℕ) (part : Incoming) (row : ServerRow) (piece : Piece) (answer : Answer) (d : Did ServerRow)
      → request_order row ≡ Some part.order → Stays (Some part.order) (request_number (piece_comes s m id service part row piece answer d).row)
  request_piece service part row piece answer d is =
      cond_both (not (part.length == piece.size) || not (service == piece.service)) _ _
      (λ (x : Did ServerRow). Stays (Some part.order) (request_number x.row)) (λ _. inr is)
      (λ _. cond_both (leaves_too_many_gaps part piece.offset piece.payload) _ _
      (λ (x : Did ServerRow). Stays (Some part.order) (request_number x.row)) (λ _. inr refl)
      (λ _. cond_both (is_whole (with_bytes part piece.offset piece.payload)) _ _ (λ (x : Did ServerRow). Stays (Some part.order) (request_number x.row))
      (λ _. cond_both (answer.hold == 0) _ _ (λ (x : Did ServerRow). Stays (Some part.order) (request_number x.row)) (λ _. inl refl) (λ _. inl refl))
      (λ _. inr refl)))

  receiving_stays : (what : Body) (payload : List ℕ) (answer : Answer) (row : ServerRow) (service : ℕ) (part : Incoming) (base count : ℕ)
      → row.state ≡ Receiving service part base count
      → Stays (Some part.order) (request_number (receiving_gets s m id what payload answer row service part base).row)
  receiving_stays (body.Data size offset version service' ack) payload answer row service part base count e =
      request_piece service part row _ answer (leaves m None) (ap arriving_in e)
  receiving_stays (body.Resend from to prio) payload answer row service part base count e = inr refl
  receiving_stays body.Busy payload answer row service part base count e = inr refl
  receiving_stays (body.Grant offset prio) payload answer row service part base count e = inr (ap arriving_in e)
  receiving_stays (body.Cutoffs cutoffs) payload answer row service part base count e = inr (ap arriving_in e)
  receiving_stays (body.Unknown reason) payload answer row service part base count e = inr (ap arriving_in e)
  receiving_stays body.NeedAck payload answer row service part base count e = inr (ap arriving_in e)
  receiving_stays (body.Ack more) payload answer row service part base count e = inr (ap arriving_in e)

pub data ServerNumber (low : ℕ) (old new : Option ℕ) : Type 0 where
  Stayed : (is : Stays old new) → ServerNumber low old new
  Given : (none : old ≡ None) (given : IsGiven low new) → ServerNumber low old new

-- where there was none
none_kept : (low high : ℕ) (old new : Option ℕ) → old ≡ None → IsKept low high old new → ServerNumber low old new
none_kept low high old new none (inl e) = Stayed (inl e)
none_kept low high old new none (inr (inl e)) = Stayed (inr e)
none_kept low high old new none (inr (inr k)) = Given none (k.0, k.1, k.2)

row_rule : (s : Settings) (m : Moment) (p : Packet) (answer : Answer) (row : ServerRow)
    → server_gets s m p answer (Some row) ≡ row_gets s m p.id p.body p.payload answer row row.state
unfolding server_gets
row_rule s m p answer row = refl

pub server_number : (s : Settings) (m : Moment) (p : Packet) (answer : Answer) (o : Option ServerRow)
    → ServerNumber m.order (request_number o) (request_number (server_gets s m p answer o).row)
server_number s m p answer None = none_kept m.order _ None _ refl (server_kept s m p answer None).at_request
server_number s m p answer (Some row) = by_state row.state refl where
  other : arriving_in row.state ≡ None → ServerNumber m.order (request_number (Some row)) (request_number (server_gets s m p answer (Some row)).row)
  other none = none_kept m.order _ (request_number (Some row)) _ none (server_kept s m p answer (Some row)).at_request

  by_state : (state : State) → row.state ≡ state → ServerNumber m.order (request_number (Some row)) (request_number (server_gets s m p answer (Some row)).row)
  by_state (Receiving service part base count) e =
      Stayed (subst (λ (d : Did ServerRow). Stays (arriving_in row.state) (request_number d.row))
      (sym (row_rule s m p answer row ∙ ap (row_gets s m p.id p.body p.payload answer row) e))
      (subst (λ o. Stays o (request_number (receiving_gets s m p.id p.body p.payload answer row service part base).row)) (sym (ap arriving_in e))
      (receiving_stays s m p.id p.body p.payload answer row service part base count e)))
  by_state (Held response release) e = other (ap arriving_in e)
  by_state (Replying response out order base count) e = other (ap arriving_in e)
  by_state (Buried until) e = other (ap arriving_in e)

-- ---- at a client

-- the packet is heard by the row
pub record IsHeard (p : Packet) (r : ClientRow) : Type 0 where
  pub from : is_host (sender p) r.server ≡ true
  pub latest : nat_lt p.inc r.seen ≡ false

pub data ClientNumber (low : ℕ) (p : Packet) (o : Option ClientRow) (new : Option ℕ) : Type 0 where
  Gone : (is : new ≡ None) → ClientNumber low p o new
  Left : (r : ClientRow) (row : o ≡ Some r) (is : new ≡ response_order r) (why : IsHeard p r → nat_lt r.seen p.inc ≡ true → ⊥) → ClientNumber low p o new
  Begun : (r : ClientRow) (row : o ≡ Some r) (heard : IsHeard p r) (first : (response_order r ≡ None) ⊎ (nat_lt r.seen p.inc ≡ true))
      (given : IsGiven low new) → ClientNumber low p o new

module _ (s : Settings) (m : Moment) (id : CallId) where
  response_number_piece : (r : ClientRow) (part : Incoming) (piece : Piece) (d : Did ClientRow)
      → Stays (Some part.order) (response_number (client.piece_comes id r part piece d).row)
  response_number_piece r part piece d =
      cond_both (not (part.length == piece.size)) _ _ (λ (x : Did ClientRow). Stays (Some part.order) (response_number x.row)) (λ _. inr refl)
      (λ _. cond_both (leaves_too_many_gaps part piece.offset piece.payload) _ _
      (λ (x : Did ClientRow). Stays (Some part.order) (response_number x.row)) (λ _. inr refl)
      (λ _. cond_both (is_whole (with_bytes part piece.offset piece.payload)) _ _
      (λ (x : Did ClientRow). Stays (Some part.order) (response_number x.row)) (λ _. inl refl) (λ _. inr refl)))

  -- where the row has a part
  answered_stays : (what : Body) (payload : List ℕ) (r : ClientRow) (o : Option Incoming) (part : Incoming) → r.part ≡ o → o ≡ Some part
      → Stays (Some part.order) (response_number (answered s m id what payload r).row)
  answered_stays what payload r None part e f = absurd (none_some part f)
  answered_stays what payload r (Some q) part e f =
      subst (λ (y : Incoming). Stays (Some y.order) (response_number (answered s m id what payload r).row)) (some_is q part f) (by_body what) where
        same : response_order r ≡ Some q.order
        same = ap (option_map (λ (y : Incoming). y.order)) e

        by_body : (what : Body) → Stays (Some q.order) (response_number (answered s m id what payload r).row)
        by_body (body.Data size offset version service ack) =
            let piece : Piece = record { size = size; offset = offset; version = version; service = service; payload = payload } in
            subst (λ o. Stays (Some q.order) (response_number (client.response_piece s m id r o piece).row)) (sym e)
            (response_number_piece r q piece (keeps m r))
        by_body (body.Grant offset prio) = inr same
        by_body (body.Resend from to prio) = inr same
        by_body body.Busy = inr same
        by_body (body.Cutoffs cutoffs) = inr same
        by_body (body.Unknown reason) =
            cond_both (reason == 0) _ _ (λ (x : Did ClientRow). Stays (Some q.order) (response_number x.row))
            (λ _. subst (λ o. Stays (Some q.order) (response_order (client.started_over r o))) (sym e) (inr same)) (λ _. inl refl)
        by_body body.NeedAck = inr same
        by_body (body.Ack more) = inr same

unasked_row : (m : Moment) (what : Body) → (unasked m what).row ≡ None
unasked_row m body.NeedAck = refl
unasked_row m what = refl

refreshed_part : (now : ℕ) (what : Body) (r : ClientRow) → (refreshed now what r).part ≡ r.part
refreshed_part now (body.Unknown reason) r = refl
refreshed_part now body.NeedAck r = refl
refreshed_part now (body.Cutoffs cutoffs) r = refl
refreshed_part now what r = refl

module _ (s : Settings) (m : Moment) (p : Packet) (r : ClientRow) where
  module _ (h : IsHeard p r) where
    rule : (x : ClientRow) → is_host (sender p) x.server ≡ true → nat_lt p.inc x.seen ≡ false
        → client_gets s m p (Some x) ≡ answered s m p.id p.body p.payload (refreshed m.now p.body (renewed p.inc x))
    rule x from latest = gets_answered s m p x from latest

    -- the part that was there
    went_on : nat_lt r.seen p.inc ≡ false → (o : Option Incoming) → r.part ≡ o
        → ClientNumber m.order p (Some r) (response_number (client_gets s m p (Some r)).row)
    went_on e None f = by_kept (client_kept s m p (Some r)).at_part where
      none : response_order r ≡ None
      none = ap (option_map (λ (y : Incoming). y.order)) f

      by_kept : IsKept m.order (client_gets s m p (Some r)).order (response_order r) (response_number (client_gets s m p (Some r)).row)
          → ClientNumber m.order p (Some r) (response_number (client_gets s m p (Some r)).row)
      by_kept (inl g) = Gone g
      by_kept (inr (inl g)) = Gone (g ∙ none)
      by_kept (inr (inr k)) = Begun r refl h (inl none) (k.0, k.1, k.2)
    went_on e (Some part) f = by_stays stays where
      later : ClientRow
      later = refreshed m.now p.body (renewed p.inc r)

      part_is : later.part ≡ Some part
      part_is = refreshed_part m.now p.body (renewed p.inc r) ∙ ap (λ b. (cond b (record r { seen = p.inc; part = None }) r).part) e ∙ f

      stays : Stays (Some part.order) (response_number (client_gets s m p (Some r)).row)
      stays = subst (λ (d : Did ClientRow). Stays (Some part.order) (response_number d.row)) (sym (rule r h.from h.latest))
          (answered_stays s m p.id p.body p.payload later later.part part refl part_is)

      by_stays : Stays (Some part.order) (response_number (client_gets s m p (Some r)).row)
          → ClientNumber m.order p (Some r) (response_number (client_gets s m p (Some r)).row)
      by_stays (inl g) = Gone g
      by_stays (inr g) = Left r refl (g ∙ sym (ap (option_map (λ (y : Incoming). y.order)) f)) (λ _ later. true≢false (sym later ∙ e))

    -- an earlier life's part is dropped: as if there had been none
    dropped : nat_lt r.seen p.inc ≡ true → ClientNumber m.order p (Some r) (response_number (client_gets s m p (Some r)).row)
    dropped e =
        by_kept (subst (λ (d : Did ClientRow). IsKept m.order d.order None (response_number d.row)) (sym same) (client_kept s m p (Some bare)).at_part) where
          bare : ClientRow
          bare = record r { part = None }

          renews : renewed p.inc r ≡ renewed p.inc bare
          renews = ap (λ b. cond b (record r { seen = p.inc; part = None }) r) e ∙ sym (ap (λ b. cond b (record r { seen = p.inc; part = None }) bare) e)

          same : client_gets s m p (Some r) ≡ client_gets s m p (Some bare)
          same =
              rule r h.from h.latest ∙ ap (λ (x : ClientRow). answered s m p.id p.body p.payload (refreshed m.now p.body x)) renews
              ∙ sym (rule bare h.from h.latest)

          by_kept : IsKept m.order (client_gets s m p (Some r)).order None (response_number (client_gets s m p (Some r)).row)
              → ClientNumber m.order p (Some r) (response_number (client_gets s m p (Some r)).row)
          by_kept (inl g) = Gone g
          by_kept (inr (inl g)) = Gone g
          by_kept (inr (inr k)) = Begun r refl h (inr e) (k.0, k.1, k.2)

    pub heard_number : ClientNumber m.order p (Some r) (response_number (client_gets s m p (Some r)).row)
    heard_number = by_test (cases_Bool (nat_lt r.seen p.inc)) where
      by_test : (nat_lt r.seen p.inc ≡ true) ⊎ (nat_lt r.seen p.inc ≡ false)
          → ClientNumber m.order p (Some r) (response_number (client_gets s m p (Some r)).row)
      by_test (inl e) = dropped e
      by_test (inr e) = went_on e r.part refl

pub client_number : (s : Settings) (m : Moment) (p : Packet) (o : Option ClientRow) → ClientNumber m.order p o (response_number (client_gets s m p o).row)
client_number s m p None = Gone (ap (λ (d : Did ClientRow). response_number d.row) (gets_unasked s m p) ∙ ap response_number (unasked_row m p.body))
client_number s m p (Some r) = by_tests (cases_Bool (is_host (sender p) r.server)) (cases_Bool (nat_lt p.inc r.seen)) where
  unheard : client_gets s m p (Some r) ≡ keeps m r → (IsHeard p r → ⊥) → ClientNumber m.order p (Some r) (response_number (client_gets s m p (Some r)).row)
  unheard e not = Left r refl (ap (λ (d : Did ClientRow). response_number d.row) e) (λ h _. not h)

  by_tests : (is_host (sender p) r.server ≡ true) ⊎ (is_host (sender p) r.server ≡ false)
      → (nat_lt p.inc r.seen ≡ true) ⊎ (nat_lt p.inc r.seen ≡ false) → ClientNumber m.order p (Some r) (response_number (client_gets s m p (Some r)).row)
  by_tests (inl a) (inr b) = heard_number s m p r (record { from = a; latest = b })
  by_tests (inl a) (inl b) = unheard (gets_earlier s m p r b) (λ h. true≢false (sym b ∙ h.latest))
  by_tests (inr a) b = unheard (gets_elsewhere s m p r a) (λ h. true≢false (sym h.from ∙ a))
