-- The messages of a host, by its rows and by the lines.
use Rattle.std.proofs.Common.{◌≡◌, Bool, true, false, ◌&&◌, cond, ◌⊎◌, Option, Some, List, [], ◌∷◌, ◌++◌, map, refl, sym, ap, subst, ◌∙◌, inl, inr}
use Rattle.std.specs.Prelude.{Contains, filter}
use Rattle.std.specs.List.{flat_map}
use Rattle.std.proofs.lemmas.Bool.{and_parts, and_from, true≢false}
use Rattle.std.proofs.lemmas.List.Elements.{Contains-append_cases, Contains-append_left, Contains-append_right}
use Rattle.plain_sets.specs.Maps.{get, entries}
use Rattle.plain_sets.proofs.MapMembers.{get-entry, entry-get}
use Rattle.plain_sets.proofs.OrderSame.{all_at, here, there, at_head, none_in}
use Rattle.homa_plain.specs.declared.id.CallId.{CallId}
use Rattle.homa_plain.specs.declared.id.HostId.{HostId}
use Rattle.homa_plain.specs.declared.packet.Role.{Role}
use Rattle.homa_plain.specs.declared.packet.Role.TheVariants.{Client, Server}
use Rattle.homa_plain.specs.Calls.{is_host}
use Rattle.homa_plain.specs.Grants.{Message, seen}
use Rattle.trace_rules.specs.Parts.{Part, is_message}
use Rattle.homa_plain.specs.Rows.{ClientRow, ServerRow, Receiving}
use Rattle.homa_plain.specs.Host.{Host}
use Rattle.homa_plain.specs.Timers.{Place, OfClient, OfServer}
use Rattle.homa_plain.specs.Sending.{Arriving, arriving_at_client, arriving_at_server, arrivals}
use Rattle.trace_rules.specs.View.{Progress}
use Rattle.trace_rules.specs.Granting as lines
use Rattle.homa_plain.proofs.CallOrder.{call_total, call_same}
use Rattle.step_moves.proofs.Chosen.{IsArrivingAt, arrivals_stand}

-- ---- by its rows

-- a thing of an entry is among the things of all
pub in_flat : {X Y : Type 0} (make : Y → List X) (es : List Y) (e : Y) (x : X) → Contains es e → Contains (make e) x → Contains (flat_map make es) x
in_flat make [] e x c d = absurd (none_in e c)
in_flat make (y ∷ ys) e x c d = elim (at_head y e ys c) as (λ _. Contains (flat_map make (y ∷ ys)) x) [
  | inl same ↦ Contains-append_left (make y) (flat_map make ys) x (subst (λ z. Contains (make z) x) (sym same) d)
  | inr rest ↦ Contains-append_right (make y) (flat_map make ys) x (in_flat make ys e x rest d)
]

-- the arrivals are those that stand
pub arrival_stands : (h : Host) (a : Arriving) → Contains (arrivals h) a → IsArrivingAt h a.message a.place
arrival_stands h a c = all_at (λ (x : Arriving). IsArrivingAt h x.message x.place) (arrivals h) a (arrivals_stand h) c

pub stands_arrival : (h : Host) (place : Place) (m : Message) → IsArrivingAt h m place → Contains (arrivals h) (record { place = place; message = m })
stands_arrival h (OfClient id) m a =
    Contains-append_left (flat_map (λ (e : CallId × ClientRow). arriving_at_client e.0 e.1.part) (entries h.clients))
    (flat_map (λ (e : CallId × ServerRow). arriving_at_server e.0 e.1.state) (entries h.servers)) _
    (in_flat (λ (e : CallId × ClientRow). arriving_at_client e.0 e.1.part) (entries h.clients) (id, a.row) _
    (entry-get call_total call_same h.clients id a.row a.stands)
    (subst (λ o. Contains (arriving_at_client id o) (record { place = OfClient id; message = m })) (sym a.has)
    (subst (λ (x : Message). Contains (arriving_at_client id (Some a.part)) (record { place = OfClient id; message = x })) (sym a.message)
    (here (record { place = OfClient id; message = seen a.part }) []))))
stands_arrival h (OfServer id) m a =
    Contains-append_right (flat_map (λ (e : CallId × ClientRow). arriving_at_client e.0 e.1.part) (entries h.clients))
    (flat_map (λ (e : CallId × ServerRow). arriving_at_server e.0 e.1.state) (entries h.servers)) _
    (in_flat (λ (e : CallId × ServerRow). arriving_at_server e.0 e.1.state) (entries h.servers) (id, a.row) _
    (entry-get call_total call_same h.servers id a.row a.stands)
    (subst (λ o. Contains (arriving_at_server id o) (record { place = OfServer id; message = m })) (sym a.state)
    (subst (λ (x : Message). Contains (arriving_at_server id (Receiving a.service a.part a.base a.count))
    (record { place = OfServer id; message = x })) (sym a.message) (here (record { place = OfServer id; message = seen a.part }) []))))

-- ---- lists

pub in_map : {X Y : Type 0} (f : X → Y) (xs : List X) (x : X) → Contains xs x → Contains (map f xs) (f x)
in_map f [] x c = absurd (none_in x c)
in_map f (y ∷ ys) x c = elim (at_head y x ys c) as (λ _. Contains (map f (y ∷ ys)) (f x)) [
  | inl same ↦ subst (λ z. Contains (f y ∷ map f ys) (f z)) same (here (f y) (map f ys))
  | inr rest ↦ there (f y) (f x) (map f ys) (in_map f ys x rest)
]

-- a thing of a list that is made of another, and what it is made of
pub record IsMadeOf {X Y : Type 0} (f : X → Y) (xs : List X) (y : Y) : Type 0 where
  pub from : X
  pub listed : Contains xs from
  pub made : f from ≡ y

pub of_map : {X Y : Type 0} (f : X → Y) (xs : List X) (y : Y) → Contains (map f xs) y → IsMadeOf f xs y
of_map f [] y c = absurd (none_in y c)
of_map f (x ∷ xs) y c = elim (at_head (f x) y (map f xs) c) as (λ _. IsMadeOf f (x ∷ xs) y) [
  | inl same ↦ record { from = x; listed = here x xs; made = same }
  | inr rest ↦ let r = of_map f xs y rest in record { from = r.from; listed = there x r.from xs r.listed; made = r.made }
]

pub in_filter : {X : Type 0} (p : X → Bool) (xs : List X) (x : X) → Contains xs x → p x ≡ true → Contains (filter p xs) x
in_filter p [] x c e = absurd (none_in x c)
in_filter p (y ∷ ys) x c e = by_test (p y) refl (at_head y x ys c) (λ d. in_filter p ys x d e) where
  by_test : (b : Bool) → p y ≡ b → (y ≡ x) ⊎ Contains ys x → (Contains ys x → Contains (filter p ys) x) → Contains (cond b (y ∷ filter p ys) (filter p ys)) x
  by_test true f (inl same) rest = subst (Contains (y ∷ filter p ys)) same (here y (filter p ys))
  by_test true f (inr later) rest = there y x (filter p ys) (rest later)
  by_test false f (inl same) rest = absurd (true≢false (sym (ap p same ∙ e) ∙ f))
  by_test false f (inr later) rest = rest later

pub of_filter : {X : Type 0} (p : X → Bool) (xs : List X) (x : X) → Contains (filter p xs) x → Contains xs x × (p x ≡ true)
of_filter p [] x c = absurd (none_in x c)
of_filter p (y ∷ ys) x c = by_test (p y) refl c (λ d. of_filter p ys x d) where
  by_test : (b : Bool) → p y ≡ b → Contains (cond b (y ∷ filter p ys) (filter p ys)) x → (Contains (filter p ys) x → Contains ys x × (p x ≡ true))
      → Contains (y ∷ ys) x × (p x ≡ true)
  by_test true f d rest = elim (at_head y x (filter p ys) d) as (λ _. Contains (y ∷ ys) x × (p x ≡ true)) [
    | inl same ↦ (subst (Contains (y ∷ ys)) same (here y ys), ap p (sym same) ∙ f)
    | inr later ↦ let r = rest later in (there y x ys r.0, r.1)
  ]
  by_test false f d rest = let r = rest d in (there y x ys r.0, r.1)

-- ---- by the lines

abbrev pub place_of : Role → CallId → Place
place_of Client id = OfClient id
place_of Server id = OfServer id

-- what the lines have of the message at a place
abbrev pub part_in : Progress → Place → Option Part
part_in m (OfClient id) = get m.responses id
part_in m (OfServer id) = get m.requests id

-- a part that stands in the lines, and is an incoming message of a host
pub record IsLined (m : Progress) (host : HostId) (x : lines.Arriving) : Type 0 where
  pub stands : part_in m (place_of x.role x.id) ≡ Some x.part
  pub at : is_host x.part.host host ≡ true
  pub message : is_message x.part ≡ true

abbrev as_arriving : Role → CallId × Part → lines.Arriving
as_arriving role e = record { role = role; id = e.0; part = e.1 }

entry_lined : (m : Progress) (host : HostId) (x : lines.Arriving) → Contains (lines.arriving Server m.requests ++ lines.arriving Client m.responses) x
    → part_in m (place_of x.role x.id) ≡ Some x.part
entry_lined m host x c = elim (Contains-append_cases (lines.arriving Server m.requests) (lines.arriving Client m.responses) x c) as
    (λ _. part_in m (place_of x.role x.id) ≡ Some x.part) [
      | inl request ↦ let r = of_map (as_arriving Server) (entries m.requests) x request in
          subst (λ (y : lines.Arriving). part_in m (place_of y.role y.id) ≡ Some y.part) r.made
          (get-entry call_total call_same m.requests r.from.0 r.from.1 r.listed)
      | inr response ↦ let r = of_map (as_arriving Client) (entries m.responses) x response in
          subst (λ (y : lines.Arriving). part_in m (place_of y.role y.id) ≡ Some y.part) r.made
          (get-entry call_total call_same m.responses r.from.0 r.from.1 r.listed)
    ]

pub lined : (m : Progress) (host : HostId) (x : lines.Arriving) → Contains (lines.incoming m host) x → IsLined m host x
lined m host x c =
    let f = of_filter (λ (y : lines.Arriving). is_host y.part.host host && is_message y.part)
    (lines.arriving Server m.requests ++ lines.arriving Client m.responses) x c in
    let b = and_parts (is_host x.part.host host) (is_message x.part) f.1 in
    record { stands = entry_lined m host x f.0; at = b.0; message = b.1 }

pub lined_in : (m : Progress) (host : HostId) (x : lines.Arriving) → IsLined m host x → Contains (lines.incoming m host) x
lined_in m host x l =
    in_filter (λ (y : lines.Arriving). is_host y.part.host host && is_message y.part)
    (lines.arriving Server m.requests ++ lines.arriving Client m.responses) x (by_role x.role refl)
    (and_from (is_host x.part.host host) (is_message x.part) l.at l.message) where
      by_role : (role : Role) → x.role ≡ role → Contains (lines.arriving Server m.requests ++ lines.arriving Client m.responses) x
      by_role Server r =
          let y : lines.Arriving = record { role = Server; id = x.id; part = x.part } in
          subst (Contains (lines.arriving Server m.requests ++ lines.arriving Client m.responses))
          (ap (λ (role : Role). let z : lines.Arriving = record { role = role; id = x.id; part = x.part } in z) (sym r))
          (Contains-append_left (lines.arriving Server m.requests) (lines.arriving Client m.responses) y
          (in_map (as_arriving Server) (entries m.requests) (x.id, x.part)
          (entry-get call_total call_same m.requests x.id x.part (sym (ap (λ (role : Role). part_in m (place_of role x.id)) r) ∙ l.stands))))
      by_role Client r =
          let y : lines.Arriving = record { role = Client; id = x.id; part = x.part } in
          subst (Contains (lines.arriving Server m.requests ++ lines.arriving Client m.responses))
          (ap (λ (role : Role). let z : lines.Arriving = record { role = role; id = x.id; part = x.part } in z) (sym r))
          (Contains-append_right (lines.arriving Server m.requests) (lines.arriving Client m.responses) y
          (in_map (as_arriving Client) (entries m.responses) (x.id, x.part)
          (entry-get call_total call_same m.responses x.id x.part (sym (ap (λ (role : Role). part_in m (place_of role x.id)) r) ∙ l.stands))))
