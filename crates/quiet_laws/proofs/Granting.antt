-- A step's GRANT, where one message arrives.
use Rattle.std.proofs.Common.{◌≡◌, ℕ, zero, suc, ◌+◌, ◌≤◌, Bool, true, false, Some, None, List, [], ◌∷◌, ◌++◌, length, take, refl, ap, ◌∙◌, arith, cond}
use Rattle.std.specs.Prelude.{nat_lt, min}
use Rattle.plain_sets.specs.Maps as maps
use Rattle.plain_sets.specs.Maps.{empty, insert, get, entries}
use Rattle.plain_sets.specs.Ordered.{ordered, firsts}
use Rattle.homa_plain.specs.declared.packet.Role.TheVariants.{Client, Server}
use Rattle.homa_plain.specs.declared.packet.Body.TheVariants as body
use Rattle.homa_plain.specs.declared.settings.Settings.{Settings}
use Rattle.homa_plain.specs.Grants.{Granted, grants, grants_from, new_end}
use Rattle.homa_plain.specs.Incoming.{Incoming, granted_to}
use Rattle.homa_plain.specs.Packets.{Packet}
use Rattle.homa_plain.specs.Outgoing.{Outgoing}
use Rattle.homa_plain.specs.Rows.{ServerRow, Receiving, Replying}
use Rattle.homa_plain.specs.Host.{Told, Sends}
use Rattle.homa_plain.specs.Timers.{OfClient, OfServer}
use Rattle.homa_plain.specs.Grants as choice
use Rattle.homa_plain.specs.Sending.{Arriving}
use Rattle.homa_plain.specs.Work.{Work, packet_from, bare}
use Rattle.homa_plain.specs.Steps.{gives_grants, all_granted}
use Rattle.quiet_laws.specs.Hosts.{the_call, server_id, Bits, server_host, client_host, asking}

take-one : {X : Type 0} (k : ℕ) (x : X) → 1 ≤ k → take k (x ∷ []) ≡ x ∷ []
take-one zero x h = absurd (omega (arith, h))
take-one (suc zero) x h = refl
take-one (suc (suc k)) x h = refl

-- one message is chosen
pub granted_one : {X : Type 0} (message : X → choice.Message) (k window : ℕ) (x : X) → 1 ≤ k
    → grants message k window (x ∷ []) ≡ cond (nat_lt (message x).granted (new_end window (message x)))
    (record { to = x; offset = new_end window (message x); prio = 0 } ∷ []) [] ++ []
unfolding ordered firsts
granted_one message k window x h = ap (λ cs. grants_from message window (length cs) 0 cs) (take-one k x h)

module _ (s : Settings) (some : 1 ≤ s.overcommit) (b : Bits) (credit row_order service base count : ℕ) (part : Incoming) (told : List Told) where
  abbrev pub receiving : Incoming → ℕ → ServerRow
  receiving p x = record { order = row_order; state = Receiving service p x count }

  abbrev pub receives : Incoming → ℕ → List Told → Work
  receives p x t = record { host = server_host b credit (Some (receiving p x)); told = t }

  abbrev pub offset : ℕ
  offset = min part.length (maps.len part.bytes + s.window)

  abbrev pub grant_packet : Packet
  grant_packet = packet_from s (receives part base told).host Server the_call server_id (bare (body.Grant offset 0))

  pub server_gives : gives_grants s (receives part base told)
      ≡ cond (nat_lt part.granted offset) (receives (granted_to part offset) b.last (told ++ Sends grant_packet ∷ [])) (receives part base told)
  unfolding get insert empty maps.checked
  server_gives =
      let w : Work = receives part base told in
      let a : Arriving = record { place = OfServer the_call; message = choice.seen part } in
      ap (λ gs. all_granted s gs w) (granted_one (λ (x : Arriving). x.message) s.overcommit s.window a some)
      ∙ by (nat_lt part.granted offset) where
        by : (t : Bool)
            → all_granted s
            (cond t (record { to = record { place = OfServer the_call; message = choice.seen part }; offset = offset; prio = 0 } ∷ []) [] ++ [])
            (receives part base told)
            ≡ cond t (receives (granted_to part offset) b.last (told ++ Sends grant_packet ∷ [])) (receives part base told)
        by true = refl
        by false = refl

  pub server_gives_by : (u : Bool) → nat_lt part.granted offset ≡ u → gives_grants s (receives part base told)
      ≡ cond u (receives (granted_to part offset) b.last (told ++ Sends grant_packet ∷ [])) (receives part base told)
  server_gives_by u e = server_gives ∙ ap (λ x. cond x (receives (granted_to part offset) b.last (told ++ Sends grant_packet ∷ [])) (receives part base told)) e

module _ (s : Settings) (some : 1 ≤ s.overcommit) (b : Bits) (credit : ℕ) (request : List ℕ) (row_order : ℕ) (out : Outgoing)
    (heard base count seen : ℕ) (part : Incoming) (told : List Told) where
  abbrev pub gets : Incoming → ℕ → List Told → Work
  gets p x t = record { host = client_host b credit (asking request row_order out heard x count seen (Some p)); told = t }

  abbrev pub response_offset : ℕ
  response_offset = min part.length (maps.len part.bytes + s.window)

  abbrev pub response_grant : Packet
  response_grant = packet_from s (gets part base told).host Client the_call server_id (bare (body.Grant response_offset 0))

  pub client_gives : gives_grants s (gets part base told)
      ≡ cond (nat_lt part.granted response_offset) (gets (granted_to part response_offset) b.last (told ++ Sends response_grant ∷ [])) (gets part base told)
  unfolding get insert empty maps.checked
  client_gives =
      let w : Work = gets part base told in
      let a : Arriving = record { place = OfClient the_call; message = choice.seen part } in
      ap (λ gs. all_granted s gs w) (granted_one (λ (x : Arriving). x.message) s.overcommit s.window a some)
      ∙ by (nat_lt part.granted response_offset) where
        by : (t : Bool)
            → all_granted s
            (cond t (record { to = record { place = OfClient the_call; message = choice.seen part }; offset = response_offset; prio = 0 } ∷ []) []
            ++ []) (gets part base told)
            ≡ cond t (gets (granted_to part response_offset) b.last (told ++ Sends response_grant ∷ [])) (gets part base told)
        by true = refl
        by false = refl

  pub client_gives_by : (u : Bool) → nat_lt part.granted response_offset ≡ u → gives_grants s (gets part base told)
      ≡ cond u (gets (granted_to part response_offset) b.last (told ++ Sends response_grant ∷ [])) (gets part base told)
  client_gives_by u e =
      client_gives ∙ ap (λ x. cond x (gets (granted_to part response_offset) b.last (told ++ Sends response_grant ∷ [])) (gets part base told)) e

-- hosts at which no message is in progress grant nothing
module _ (s : Settings) (b : Bits) (credit : ℕ) (told : List Told) where
  abbrev nobody : List Arriving
  nobody = []

  take-none : (k : ℕ) → take k nobody ≡ nobody
  take-none zero = refl
  take-none (suc k) = refl

  pub client_gives_none : (request : List ℕ) (order : ℕ) (out : Outgoing) (heard base count seen : ℕ)
      → let w : Work = record { host = client_host b credit (asking request order out heard base count seen None); told = told } in gives_grants s w ≡ w
  unfolding get insert empty maps.checked ordered firsts
  client_gives_none request order out heard base count seen =
      let w : Work = record { host = client_host b credit (asking request order out heard base count seen None); told = told } in
      ap (λ cs. all_granted s (grants_from (λ (x : Arriving). x.message) s.window (length cs) 0 cs) w) (take-none s.overcommit)

  pub server_gives_none : (row_order order base count : ℕ) (response : List ℕ) (out : Outgoing)
      → let w : Work =
      record { host = server_host b credit (Some (record { order = row_order; state = Replying response out order base count })); told = told } in
      gives_grants s w ≡ w
  unfolding get insert empty maps.checked ordered firsts
  server_gives_none row_order order base count response out =
      let w : Work =
      record { host = server_host b credit (Some (record { order = row_order; state = Replying response out order base count })); told = told } in
      ap (λ cs. all_granted s (grants_from (λ (x : Arriving). x.message) s.window (length cs) 0 cs) w) (take-none s.overcommit)

  pub server_gives_nobody : let w : Work = record { host = server_host b credit None; told = told } in gives_grants s w ≡ w
  unfolding empty maps.checked ordered firsts
  server_gives_nobody =
      ap (λ cs. all_granted s (grants_from (λ (x : Arriving). x.message) s.window (length cs) 0 cs)
      (record { host = server_host b credit None; told = told })) (take-none s.overcommit)
