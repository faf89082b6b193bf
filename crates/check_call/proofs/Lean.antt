-- Of a packet the length of its payload is enough, and of runs those of the call.
use Rattle.std.proofs.Common.{◌≡◌, ℕ, zero, suc, ◌+◌, Bool, true, false, ◌&&◌, ◌||◌, not, Option, Some, None, List, [], ◌∷◌, ◌++◌, length, map, cond}
use Rattle.std.proofs.Common.{refl, sym, ap, subst, ◌∙◌}
use Rattle.std.specs.Prelude.{if◌then◌else◌, filter, replicate, ◌==◌, nat_lt, nat_le}
use Rattle.std.specs.Option.{option_map, option_map_or}
use Rattle.std.specs.List.{list_any, AllByRecursion}
use Rattle.std.proofs.lemmas.Bool.{false_from_ne_true, true≢false}
use Rattle.plain_sets.specs.Maps.{get, contains_key}
use Rattle.homa_plain.specs.declared.id.CallId.{CallId}
use Rattle.homa_plain.specs.declared.id.HostId.{HostId}
use Rattle.homa_plain.specs.declared.packet.Body.{Body}
use Rattle.homa_plain.specs.declared.packet.Body.TheVariants as body
use Rattle.homa_plain.specs.Wire.{is_client, is_server}
use Rattle.homa_plain.specs.Calls.{is_host, is_call}
use Rattle.trace_rules.specs.View.{Called, Sent, Ran, Ends, View, life, is_server_of, incarnation, has_run, has_last, sent_last}
use Rattle.trace_rules.specs.Laws.{is_run_in, answers}
use Rattle.trace_rules.specs.Judge.{is_returned}
use Rattle.homa_plain.proofs.CallOrder.{calls_are}
use Rattle.check_call.specs.Spots.{Spot, counted_spot, admitted_spot, delivered_spot, request_spot, response_spot, due_spot, due_with, due_request}
use Rattle.check_call.specs.Spots.{due_response}
use Rattle.check_call.specs.LeftOut.{lean, runs_of, is_here, is_in, AreMade}

and_assoc : (a b c : Bool) → ((a && b) && c) ≡ (a && (b && c))
and_assoc true b c = refl
and_assoc false b c = refl

-- ---- payloads

zeros : (n : ℕ) → length {A = ℕ} (replicate n 0) ≡ n
zeros zero = refl
zeros (suc n) = ap suc (zeros n)

same_length : (p : Sent) → length (lean p).payload ≡ length p.payload
same_length p = zeros (length p.payload)

module _ (v : View) (p : Sent) where
  -- what a packet does, by the length of its payload
  abbrev of_length : ℕ → Sent
  of_length n = record p { payload = replicate n 0 }

  lean_admitted : (what : Body) (s : Spot) → admitted_spot v (lean p) what s ≡ admitted_spot v p what s
  lean_admitted (body.Data size offset version service ack) s =
      elim (is_client p.role) as (λ b. (if b then request_spot v (lean p) offset (get v.calls p.id) s else response_spot v (lean p) size offset s)
      ≡ (if b then request_spot v p offset (get v.calls p.id) s else response_spot v p size offset s))
      [ true ↦ of_called (get v.calls p.id) | false ↦ rw (same_length p) refl ]
    where
      of_called : (o : Option Called) → request_spot v (lean p) offset o s ≡ request_spot v p offset o s
      of_called None = refl
      of_called (Some c) = rw (same_length p) refl
  lean_admitted other s = refl

  pub lean_delivered : (s : Spot) → delivered_spot v (lean p) s ≡ delivered_spot v p s
  lean_delivered s = lean_admitted p.body (counted_spot v p s)

  lean_due_with : (what : Body) (due : Ends) (s : Spot) → due_with v (lean p) what due s ≡ due_with v p what due s
  lean_due_with (body.Data size offset version service ack) due s =
      elim (is_client p.role) as (λ b. (if b then due_request v (lean p) offset (get v.calls p.id) due s else due_response v (lean p) size offset due s)
      ≡ (if b then due_request v p offset (get v.calls p.id) due s else due_response v p size offset due s))
      [ true ↦ of_called (get v.calls p.id) | false ↦ rw (same_length p) refl ]
    where
      of_called : (o : Option Called) → due_request v (lean p) offset o due s ≡ due_request v p offset o due s
      of_called None = refl
      of_called (Some c) = rw (same_length p) refl
  lean_due_with other due s = refl

  pub lean_due : (s : Spot) → due_spot v (lean p) s ≡ due_spot v p s
  lean_due s = lean_due_with p.body _ (counted_spot v p s)

  lean_last_of : (id : CallId) (n : ℕ) (what : Body) → has_last id n (lean p) what ≡ has_last id n p what
  lean_last_of id n (body.Data size offset version service ack) = rw (same_length p) refl
  lean_last_of id n other = refl

  pub lean_returned : (id : CallId) (bytes : List ℕ) → is_returned v id bytes (Some (lean p)) ≡ is_returned v id bytes (Some p)
  lean_returned id bytes = refl

-- ---- runs

any_of : {X : Type 0} (p q : X → Bool) (xs : List X) → list_any (λ x. p x && q x) xs ≡ list_any q (filter p xs)
any_of p q [] = refl
any_of p q (x ∷ xs) = elim (p x) as (λ b. ((b && q x) || list_any (λ y. p y && q y) xs) ≡ list_any q (cond b (x ∷ filter p xs) (filter p xs)))
    [ true ↦ ap (λ b. q x || b) (any_of p q xs) | false ↦ any_of p q xs ]

filter_of : {X : Type 0} (p q : X → Bool) (xs : List X) → filter (λ x. p x && q x) xs ≡ filter q (filter p xs)
filter_of p q [] = refl
filter_of p q (x ∷ xs) =
    elim (p x) as (λ b. cond (b && q x) (x ∷ filter (λ y. p y && q y) xs) (filter (λ y. p y && q y) xs) ≡ filter q (cond b (x ∷ filter p xs) (filter p xs))) [
      | true ↦ elim (q x) as
          (λ c. cond c (x ∷ filter (λ y. p y && q y) xs) (filter (λ y. p y && q y) xs) ≡ cond c (x ∷ filter q (filter p xs)) (filter q (filter p xs)))
          [ true ↦ ap (λ ys. x ∷ ys) (filter_of p q xs) | false ↦ filter_of p q xs ]
      | false ↦ filter_of p q xs
    ]

pub run_here : (v : View) (host : HostId) (id : CallId) → has_run v host id ≡ list_any (is_here host (life v host)) (runs_of v id)
run_here v host id =
    ap (λ (f : Ran → Bool). list_any f v.runs) (λ i r. and_assoc (is_call r.id id) (is_host r.host host) (r.life == life v host) i)
    ∙ any_of (λ (r : Ran). is_call r.id id) (is_here host (life v host)) v.runs

pub answers_of : (v : View) (id : CallId) (inc : ℕ) → answers v id inc ≡ map (λ r. r.response) (filter (is_in v id inc) (runs_of v id))
answers_of v id inc =
    ap (λ (f : Ran → Bool). map (λ (r : Ran). r.response) (filter f v.runs))
    (λ i r. and_assoc (is_call r.id id) (is_server_of v id r.host) (option_map_or (λ x. x == inc) (incarnation v r.host r.life) false) i)
    ∙ ap (map (λ (r : Ran). r.response)) (filter_of (λ (r : Ran). is_call r.id id) (is_in v id inc) v.runs)

-- ---- the last byte

other_call : (id : CallId) (n : ℕ) (p : Sent) (what : Body) → is_call p.id id ≡ false → has_last id n p what ≡ false
other_call id n p (body.Data size offset version service ack) e =
    elim (is_client p.role) as (λ c. (c && is_call p.id id && nat_lt offset n && nat_le n (offset + length p.payload)) ≡ false)
    [ true ↦ ap (λ c. c && nat_lt offset n && nat_le n (offset + length p.payload)) e | false ↦ refl ]
other_call id n p other e = refl

-- none of a call that wasn't made
pub none_sent : (id : CallId) (n : ℕ) (v : View) → contains_key v.calls id ≡ false → AreMade v → list_any (λ p. has_last id n p p.body) v.packets ≡ false
none_sent id n v fresh all = of_packets v.packets all where
  differs : (p : Sent) → contains_key v.calls p.id ≡ true → is_call p.id id ≡ false
  differs p made = elim (is_call p.id id) as (λ b. is_call p.id id ≡ b → b ≡ false)
      [ true ↦ λ t. absurd (true≢false (sym made ∙ ap (contains_key v.calls) ((calls_are p.id id).0 t) ∙ fresh)) | false ↦ λ t. refl ] refl

  of_packets : (ps : List Sent) → AllByRecursion (λ (p : Sent). contains_key v.calls p.id ≡ true) ps
      → list_any (λ (p : Sent). has_last id n p p.body) ps ≡ false
  of_packets [] all = refl
  of_packets (p ∷ ps) all = ap (λ b. b || list_any (λ (q : Sent). has_last id n q q.body) ps) (other_call id n p p.body (differs p all.0)) ∙ of_packets ps all.1
