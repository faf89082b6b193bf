-- Where the lines have what the rows have, and in one order, the end of a step may begin.
use Rattle.std.proofs.Common.{◌≡◌, ℕ, ◌<◌, Bool, true, not, Option, Some, None, List, length, refl, sym, ap, subst, ◌∙◌}
use Rattle.std.specs.Prelude.{nat_lt}
use Rattle.std.proofs.lemmas.Bool.{and_from, lt-ltb, true≢false}
use Rattle.plain_sets.specs.Maps.{get, len}
use Rattle.plain_sets.proofs.KeySets.{len-key_set}
use Rattle.homa_plain.specs.declared.id.CallId.{CallId}
use Rattle.homa_plain.specs.declared.id.HostId.{HostId}
use Rattle.homa_plain.specs.declared.settings.Settings.{Settings}
use Rattle.homa_plain.specs.Grants.{Message, seen as message_of}
use Rattle.homa_plain.specs.Incoming.{Incoming}
use Rattle.trace_rules.specs.Parts.{Part, is_message, is_whole}
use Rattle.homa_plain.specs.Rows.{ClientRow, ServerRow, State, Receiving, Held, Replying, Buried}
use Rattle.homa_plain.specs.Timers.{Place, OfClient, OfServer}
use Rattle.homa_plain.specs.Work.{Work}
use Rattle.trace_rules.specs.View.{View, Called, has_run}
use Rattle.homa_plain.specs.World.{World}
use Rattle.step_laws.specs.StepLaws.{HasOwnOrders}
use Rattle.trace_steps.specs.Arrived.{IsSamePart}
use Rattle.trace_steps.specs.Stands.{state_of, put, said_so_far, amid, client_row, server_state}
use Rattle.step_moves.proofs.Hosts.{some_is, none_some}
use Rattle.trace_steps.proofs.Frame.{server_there, client_there}
use Rattle.step_moves.proofs.Chosen.{IsReceiving, IsAwaiting, IsArrivingAt}
use Rattle.trace_once.specs.Lifetime.{IsMadeTo, call_to, took_part}
use Rattle.trace_once.specs.Kept.{IsKept}
use Rattle.trace_returned.specs.Tales.{receiving, IsSameRequest, IsSamePiece, IsSameResponse, IsTrue}
use Rattle.trace_granting.proofs.Messages.{part_in}
use Rattle.trace_granting.proofs.Allowed.{IsSeenAs, IsMatched, arriving_number}
use Rattle.trace_granting.proofs.Ages.{IsInOrder}
use Rattle.trace_granting.proofs.GrantFold.{HasOwnPeers, AreGranted}

-- a message of the host, and its part by the lines
record IsOne (s : Settings) (host : HostId) (u : View) (place : Place) (part : Incoming) (peer : HostId) : Type 0 where
  pub message : List ℕ
  pub lined : Part
  pub stands : part_in u.now place ≡ Some lined
  pub same : IsSamePart s host message part lined
  pub from : lined.peer ≡ peer

is_missing : (s : Settings) (host : HostId) (message : List ℕ) (p : Incoming) (q : Part) → IsSamePart s host message p q → is_message q ≡ true
is_missing s host message p q k = and_from (nat_lt 0 (len q.arrived)) (not (is_whole q)) (lt-ltb 0 (len q.arrived) k.some) (ap not k.missing)

one_seen : (s : Settings) (host : HostId) (u : View) (place : Place) (part : Incoming) (peer : HostId) → IsOne s host u place part peer
    → IsSeenAs host u.now place (message_of part)
one_seen s host u place part peer k = record {
  part = k.lined;
  stands = k.stands;
  at = k.same.near.at;
  peer = sym k.same.near.peer;
  long = sym k.same.near.long;
  arrived = ap len (sym k.same.near.there) ∙ len-key_set part.bytes;
  message = is_missing s host k.message part k.lined k.same;
}

module _ (s : Settings) (w : World) (v : View) (host : HostId) (work : Work) (stands : host.0 < length w.hosts)
    (own : (q : CallId) (r : ClientRow) → get work.host.clients q ≡ Some r → q.client ≡ host)
    (kept : IsKept s (put w host work) (said_so_far w v work)) (true_to : IsTrue s (put w host work) (said_so_far w v work)) where
  abbrev u : View
  u = said_so_far w v work

  -- ---- requests

  request_one : (id : CallId) (row : ServerRow) (service : ℕ) (part : Incoming) (base count : ℕ) → get work.host.servers id ≡ Some row
      → row.state ≡ Receiving service part base count → IsOne s host u (OfServer id) part id.client
  request_one id row service part base count at state =
      let here : (amid w v host work id host).server ≡ Some (Receiving service part base count) =
      server_there w v host work id stands ∙ ap state_of at ∙ ap (λ (x : State). Some x) state in
      let made : IsMadeTo host (amid w v host work id host) = (kept.calls id host).made (ap (λ o. took_part (amid w v host work id host).ran o) here) in
      let c : Called = call_to host made.service made.request in
      let same = (true_to.same id host).request c made.called refl in
      by_part c (amid w v host work id host).ran refl (get u.now.requests id) refl
      (subst (λ o. IsSameRequest s id.client c (amid w v host work id host).ran (receiving o) (get u.now.requests id)) here same) where
        by_part : (c : Called) (ran : Bool) → c.server ≡ host → (o : Option Part) → get u.now.requests id ≡ o
            → IsSameRequest s id.client c ran (Some (service, part)) o → IsOne s host u (OfServer id) part id.client
        by_part c ran at None e k = absurd k
        by_part c ran at (Some q) e k =
            record { message = c.request; lined = q; stands = e; same = subst (λ (x : HostId). IsSamePart s x c.request part q) at k.1; from = k.2 }

  request_back : (id : CallId) (x : Part) → get u.now.requests id ≡ Some x → x.host ≡ host → is_message x ≡ true → (a : Message) × IsReceiving work.host id a
  request_back id x is at message = by_called (get u.calls id) refl where
    by_called : (o : Option Called) → get u.calls id ≡ o → (a : Message) × IsReceiving work.host id a
    by_called None e = absurd (none_some x (sym ((true_to.same id host).unmade e) ∙ is))
    by_called (Some c) e =
        by_state (receiving (server_state (put w host work) id c.server)) refl
        (subst (IsSameRequest s id.client c (has_run u c.server id) (receiving (server_state (put w host work) id c.server))) is
        ((true_to.same id c.server).request c e refl)) where
          by_row : (o : Option ServerRow) (service : ℕ) (part : Incoming) → get work.host.servers id ≡ o
              → receiving (state_of o) ≡ Some (service, part) → (a : Message) × IsReceiving work.host id a
          by_row None service part at e = absurd (none_some (service, part) e)
          by_row (Some row) service part at e = by_kind row.state refl e where
            by_kind : (state : State) → row.state ≡ state → receiving (Some state) ≡ Some (service, part) → (a : Message) × IsReceiving work.host id a
            by_kind (Receiving t q base count) f g =
                (message_of q, record { row = row; service = t; part = q; base = base; count = count; stands = at; state = f; message = refl })
            by_kind (Held response release) f g = absurd (none_some (service, part) g)
            by_kind (Replying response out order base count) f g = absurd (none_some (service, part) g)
            by_kind (Buried until) f g = absurd (none_some (service, part) g)

          by_state : (o : Option (ℕ × Incoming)) → receiving (server_state (put w host work) id c.server) ≡ o
              → IsSameRequest s id.client c (has_run u c.server id) o (Some x) → (a : Message) × IsReceiving work.host id a
          by_state None f k = absurd (true≢false (sym message ∙ k.1))
          by_state (Some row) f k =
              let here : c.server ≡ host = sym k.1.near.at ∙ at in
              by_row (get work.host.servers id) row.0 row.1 refl
              (ap receiving (sym (server_there w v host work id stands)) ∙ ap (λ (n : HostId). receiving (server_state (put w host work) id n))
              (sym here) ∙ f)

  -- ---- responses

  response_one : (id : CallId) (r : ClientRow) (part : Incoming) → get work.host.clients id ≡ Some r → r.part ≡ Some part
      → IsOne s host u (OfClient id) part r.server
  response_one id r part at has =
      let mine : id.client ≡ host = own id r at in
      let here : (amid w v host work id host).client ≡ Some r = client_there w v host work id host stands mine ∙ at in
      let same : IsSameResponse s u id (Some r) (get u.now.responses id) =
      subst (λ o. IsSameResponse s u id o (get u.now.responses id)) here (true_to.same id host).response in
      by_part mine (get u.now.responses id) refl (subst (λ o. IsSamePiece s u id r.server r.seen o (get u.now.responses id)) has same) where
        by_part : id.client ≡ host → (o : Option Part) → get u.now.responses id ≡ o → IsSamePiece s u id r.server r.seen (Some part) o
            → IsOne s host u (OfClient id) part r.server
        by_part mine None e k = absurd k
        by_part mine (Some q) e k =
            record { message = k.0; lined = q; stands = e; same = subst (λ (x : HostId). IsSamePart s x k.0 part q) mine k.2; from = k.3 }

  response_back : (id : CallId) (x : Part) → get u.now.responses id ≡ Some x → x.host ≡ host → is_message x ≡ true → (a : Message) × IsAwaiting work.host id a
  response_back id x is at message =
      by_row (client_row (put w host work) id) refl (subst (IsSameResponse s u id (client_row (put w host work) id)) is (true_to.same id host).response) where
        by_row : (o : Option ClientRow) → client_row (put w host work) id ≡ o → IsSameResponse s u id o (Some x) → (a : Message) × IsAwaiting work.host id a
        by_row None e k = absurd (none_some x (sym k))
        by_row (Some r) e k = by_part r.part refl k where
          by_part : (o : Option Incoming) → r.part ≡ o → IsSamePiece s u id r.server r.seen o (Some x) → (a : Message) × IsAwaiting work.host id a
          by_part None f k = absurd (none_some x (sym k))
          by_part (Some p) f k =
              let mine : id.client ≡ host = sym k.2.near.at ∙ at in
              (message_of p, record { row = r; part = p; stands = sym (client_there w v host work id host stands mine) ∙ e; has = f; message = refl })

  -- ---- all of it

  one_at : (place : Place) (a : Message) → IsArrivingAt work.host a place → (part : Incoming) × (peer : HostId) × (a ≡ message_of part)
      × IsOne s host u place part peer
  one_at (OfClient id) a k = (k.part, k.row.server, k.message, response_one id k.row k.part k.stands k.has)
  one_at (OfServer id) a k = (k.part, id.client, k.message, request_one id k.row k.service k.part k.base k.count k.stands k.state)

  pub matched_of : HasOwnOrders work.host → IsInOrder host work.host u.now → IsMatched work.host host u.now
  matched_of orders same = record {
    forth = λ place a k. let o = one_at place a k in subst (IsSeenAs host u.now place) (sym o.2) (one_seen s host u place o.0 o.1 o.3);
    back = back;
    orders = λ p q a b x y ka kb xt yt. same p q a.order b.order x y (arriving_number work.host p a ka) (arriving_number work.host q b kb) xt yt
        (at_host_of p a x ka xt) (at_host_of q b y kb yt);
    own = orders;
  } where
    at_host_of : (place : Place) (a : Message) (x : Part) → IsArrivingAt work.host a place → part_in u.now place ≡ Some x → x.host ≡ host
    at_host_of place a x k is = let o = one_at place a k in ap (λ (z : Part). z.host) (some_is x o.3.lined (sym is ∙ o.3.stands)) ∙ o.3.same.near.at

    back : (place : Place) (x : Part) → part_in u.now place ≡ Some x → x.host ≡ host → is_message x ≡ true → (a : Message) × IsArrivingAt work.host a place
    back (OfClient id) x is at message = response_back id x is at message
    back (OfServer id) x is at message = request_back id x is at message

  pub granted_of : AreGranted work.host u
  granted_of place a x k is =
      let o = one_at place a k in
      let same : o.3.lined ≡ x = some_is o.3.lined x (sym o.3.stands ∙ is) in
      ap (λ (y : Part). y.granted) (sym same) ∙ sym o.3.same.near.granted ∙ ap (λ (m : Message). m.granted) (sym o.2)

  pub peers_of : HasOwnPeers work.host
  peers_of = record {
    response = λ id r part at has. let o = response_one id r part at has in o.same.near.peer ∙ o.from;
    request = λ id row service part base count at state. let o = request_one id row service part base count at state in o.same.near.peer ∙ o.from;
  }
