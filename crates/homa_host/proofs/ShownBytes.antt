-- Bytes that a host lends for its entries.
use Rattle.std.proofs.Common.{◌≡◌, ℕ, Option, Some, None, List, [], refl, sym, ap, subst, ◌∙◌}
use Rattle.std.specs.Prelude.{unwrap_or}
use Rattle.std.specs.Option.{option_map, option_and_then}
use Rattle.plain_sets.specs.Maps.{get}
use Rattle.homa_plain.specs.declared.id.CallId.{CallId}
use Rattle.homa_plain.specs.Rows.{ClientRow, ServerRow}
use Rattle.host_places.specs.Placed.{Placed, StandsAt}
use Rattle.host_places.proofs.MappedLaws.{get-mapped}
use Rattle.host_places.proofs.PlacedLaws.{some_placed, none_placed}
use Rattle.homa_client.specs.Held.{HeldRow, seen_row}
use Rattle.homa_client.specs.AtTable.{place_at}
use Rattle.homa_server.specs.Held.{HeldServer, HeldState, Arriving, Keeping, Answering, Gone, seen_server, state_response}
use Rattle.host_view.specs.Marks.{request_of, response_of, response_in}
use Rattle.homa_host.specs.Parts.{host_of}
use Rattle.homa_host.specs.declared.parts.HostParts.{HostParts}

abbrev request_in : Option ClientRow → List ℕ
request_in o = unwrap_or (option_map (λ (r : ClientRow). r.request) o) []

abbrev reply_in : Option ServerRow → List ℕ
reply_in o = unwrap_or (option_map (λ (r : ServerRow). response_in r.state) o) []

-- the request of a row that stands
pub request-there : (p : HostParts) (id : CallId) (slot : ℕ) (bytes : List ℕ) → place_at p.clients.rows id ≡ Some slot
    → ((row : HeldRow) → StandsAt p.clients.rows id slot row → bytes ≡ row.request)
    → bytes ≡ request_of (host_of p) id
request-there p id slot bytes at is =
    let found = some_placed (get p.clients.rows id) slot at in
    is found.0 found.1
    ∙ sym (ap request_in
    (get-mapped (λ (x : Placed HeldRow). seen_row p.pool x.row) p.clients.rows id ∙ ap (option_map (λ (x : Placed HeldRow). seen_row p.pool x.row)) found.1))

-- and of none
pub request-none : (p : HostParts) (id : CallId) → place_at p.clients.rows id ≡ None → [] ≡ request_of (host_of p) id
request-none p id at =
    sym (ap request_in
    (get-mapped (λ (x : Placed HeldRow). seen_row p.pool x.row) p.clients.rows id ∙ ap (option_map (λ (x : Placed HeldRow). seen_row p.pool x.row))
    (none_placed (get p.clients.rows id) at)))

state-reply : (p : HostParts) (r : HeldServer) (state : HeldState) → r.state ≡ state
    → unwrap_or (state_response r.state) [] ≡ response_in (seen_server p.pool r).state
state-reply p r (Arriving service part base count) e = at e where
  at : r.state ≡ Arriving service part base count → unwrap_or (state_response r.state) [] ≡ response_in (seen_server p.pool r).state
  at e = subst (λ (s : HeldState). unwrap_or (state_response s) [] ≡ response_in (seen_server p.pool (record r { state = s })).state) (sym e) refl
state-reply p r (Keeping response release) e =
    subst (λ (s : HeldState). unwrap_or (state_response s) [] ≡ response_in (seen_server p.pool (record r { state = s })).state) (sym e) refl
state-reply p r (Answering response out order base count) e =
    subst (λ (s : HeldState). unwrap_or (state_response s) [] ≡ response_in (seen_server p.pool (record r { state = s })).state) (sym e) refl
state-reply p r (Gone until) e =
    subst (λ (s : HeldState). unwrap_or (state_response s) [] ≡ response_in (seen_server p.pool (record r { state = s })).state) (sym e) refl

row-reply : (p : HostParts) (o : Option (Placed HeldServer)) → unwrap_or (option_and_then (λ (x : Placed HeldServer). state_response x.row.state) o)
    [] ≡ reply_in (option_map (λ (x : Placed HeldServer). seen_server p.pool x.row) o)
row-reply p None = refl
row-reply p (Some x) = state-reply p x.row x.row.state refl

-- the response of a call's row
pub response-there : (p : HostParts) (id : CallId) (o : Option (List ℕ))
    → o ≡ option_and_then (λ (x : Placed HeldServer). state_response x.row.state) (get p.servers.rows id) → unwrap_or o [] ≡ response_of (host_of p) id
response-there p id o e =
    ap (λ o. unwrap_or o []) e ∙ row-reply p (get p.servers.rows id)
    ∙ sym (ap reply_in (get-mapped (λ (x : Placed HeldServer). seen_server p.pool x.row) p.servers.rows id))
