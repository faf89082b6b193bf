-- The GRANTs that a host gives by its rows are those that the lines allow it.
use Rattle.std.proofs.Common.{◌≡◌, ℕ, ◌+◌, ◌-◌, ◌<◌, ◌≤◌, true, false, ◌&&◌, ◌||◌, Some, List, [], ◌∷◌, ◌++◌, length, map, min, take, refl, sym, ap}
use Rattle.std.proofs.Common.{subst, ◌∙◌, arith}
use Rattle.std.specs.Prelude.{Contains, ◌==◌, nat_lt, slice_get, unwrap_or}
use Rattle.std.specs.Option.{option_map, option_and_then}
use Rattle.std.specs.List.{AllByRecursion}
use Rattle.std.proofs.lemmas.Bool.{ltb-true, ltb-false, false_from_ne_true}
use Rattle.std.proofs.lemmas.List.{length-map}
use Rattle.std.proofs.lemmas.Option.{slice_get-map}
use Rattle.plain_sets.specs.Maps.{len, entries}
use Rattle.plain_sets.specs.Ordered.{is_below, firsts, KeysDiffer, DiffersFrom}
use Rattle.plain_sets.proofs.OrderFirst.{all_from}
use Rattle.plain_sets.proofs.OrderSame.{ordered-same}
use Rattle.homa_plain.specs.declared.id.CallId.{CallId}
use Rattle.homa_plain.specs.declared.id.HostId.{HostId}
use Rattle.homa_plain.specs.declared.packet.Role.{Role}
use Rattle.homa_plain.specs.declared.packet.Role.TheVariants.{Client, Server}
use Rattle.homa_plain.specs.Calls.{is_host}
use Rattle.homa_plain.specs.Grants.{Message, Granted, seen, choice_key, new_end, chosen, grants, IsGrant}
use Rattle.homa_plain.specs.Grants as choice
use Rattle.homa_plain.specs.Incoming.{Incoming}
use Rattle.trace_rules.specs.Parts.{Part, Parts, is_message}
use Rattle.trace_rules.specs.Parts as parts
use Rattle.homa_plain.specs.Host.{Host}
use Rattle.homa_plain.specs.Timers.{Place, OfClient, OfServer}
use Rattle.homa_plain.specs.Sending.{Arriving, arrivals}
use Rattle.trace_rules.specs.View.{Progress}
use Rattle.trace_rules.specs.Granting as lines
use Rattle.homa_plain.proofs.CallOrder.{call_total, call_same, hosts_are}
use Rattle.homa_plain.proofs.ChoiceLaws.{chosen-map, chosen-contains, grant-chosen, chosen-grant}
use Rattle.step_laws.specs.StepLaws.{HasOwnOrders, number_at, arriving_in, response_order, request_order}
use Rattle.step_laws.proofs.RowMaps.{AreApart, apart-entries}
use Rattle.step_laws.proofs.Places.{Pairwise, pairwise-append, pairwise-filter, arrivals-keys}
use Rattle.step_moves.proofs.Hosts.{some_is}
use Rattle.step_moves.proofs.Chosen.{IsArrivingAt, at_rank}
use Rattle.trace_granting.proofs.Alike.{Agree, AgreeWith, SendersSame, chosen_alike}
use Rattle.trace_granting.proofs.Messages.{arrival_stands, stands_arrival, of_map, in_map, place_of, part_in, lined, lined_in}

-- the lines have this message of a host at a place, its order and its granted end aside
pub record IsSeenAs (host : HostId) (m : Progress) (place : Place) (a : Message) : Type 0 where
  pub part : Part
  pub stands : part_in m place ≡ Some part
  pub at : part.host ≡ host
  pub peer : part.peer ≡ a.peer
  pub long : part.length ≡ a.length
  pub arrived : len part.arrived ≡ a.arrived
  pub message : is_message part ≡ true

-- the lines have the messages of a host, and no others, and of two the same came first
pub record IsMatched (h : Host) (host : HostId) (m : Progress) : Type 0 where
  pub forth : (place : Place) (a : Message) → IsArrivingAt h a place → IsSeenAs host m place a
  pub back : (place : Place) (x : Part) → part_in m place ≡ Some x → x.host ≡ host → is_message x ≡ true → (a : Message) × IsArrivingAt h a place
  pub orders : (p q : Place) (a b : Message) (x y : Part) → IsArrivingAt h a p → IsArrivingAt h b q → part_in m p ≡ Some x → part_in m q ≡ Some y
      → nat_lt a.order b.order ≡ nat_lt x.order y.order
  pub own : HasOwnOrders h

-- ---- places

abbrev pub role_at : Place → Role
role_at (OfClient id) = Client
role_at (OfServer id) = Server

abbrev pub call_at : Place → CallId
call_at (OfClient id) = id
call_at (OfServer id) = id

place_again : (place : Place) → place_of (role_at place) (call_at place) ≡ place
place_again (OfClient id) = refl
place_again (OfServer id) = refl

abbrev no_part : Part
no_part = parts.opened (record { 0 = 0 }) (record { 0 = 0 }) 0 0

-- a message of the host, as the lines have it
abbrev pub as_lined : Progress → Arriving → lines.Arriving
as_lined m a = record { role = role_at a.place; id = call_at a.place; part = unwrap_or (part_in m a.place) no_part }

abbrev pub by_rows : Arriving → Message
by_rows a = a.message

abbrev pub by_lines : Progress → Arriving → Message
by_lines m a = lines.message (as_lined m a)

-- where a message arrives it has its number
pub arriving_number : (h : Host) (place : Place) (a : Message) → IsArrivingAt h a place → number_at response_order request_order h place ≡ Some a.order
arriving_number h (OfClient id) a x =
    ap (option_and_then response_order) x.stands ∙ ap (option_map (λ (p : Incoming). p.order)) x.has ∙ ap (λ (n : Message). Some n.order) (sym x.message)
arriving_number h (OfServer id) a x =
    ap (option_and_then request_order) x.stands ∙ ap (λ s. arriving_in s) x.state ∙ ap (λ (n : Message). Some n.order) (sym x.message)

-- two numbers of which neither is below the other
same_order : (a b : ℕ) → nat_lt a b ≡ false → nat_lt b a ≡ false → a ≡ b
same_order a b e f = let p : b ≤ a = ltb-false a b e in let q : a ≤ b = ltb-false b a f in omega (arith, p, q)

below_same : (a : ℕ) → nat_lt a a ≡ false
below_same a = false_from_ne_true (nat_lt a a) (λ e. let l : a < a = ltb-true a a e in absurd (omega (arith, l)))

module _ (h : Host) (host : HostId) (m : Progress) (k : IsMatched h host m) where
  seen_as : (a : Arriving) → Contains (arrivals h) a → IsSeenAs host m a.place a.message
  seen_as a c = k.forth a.place a.message (arrival_stands h a c)

  lined_part : (a : Arriving) → (s : IsSeenAs host m a.place a.message) → (as_lined m a).part ≡ s.part
  lined_part a s = ap (λ o. unwrap_or o no_part) s.stands

  -- ---- the same senders and the same keys

  senders_same : SendersSame by_rows (by_lines m) (arrivals h)
  senders_same = all_from (λ a. choice.sender (by_rows a) ≡ choice.sender (by_lines m a)) (arrivals h)
      (λ a c. let s = seen_as a c in ap (λ (x : HostId). x.0) (sym s.peer) ∙ ap (λ (p : Part). p.peer.0) (sym (lined_part a s)))

  -- how much is missing
  missing_same : (a : Arriving) → Contains (arrivals h) a → (choice_key (by_rows a)).0 ≡ (choice_key (by_lines m a)).0
  missing_same a c =
      let s = seen_as a c in
      let p : Part = s.part in
      (let z : a.message.length - a.message.arrived ≡ p.length - len p.arrived = omega (arith, s.long, s.arrived) in z)
      ∙ ap (λ (x : Part). x.length - len x.arrived) (sym (lined_part a s))

  orders_same : (a b : Arriving) → Contains (arrivals h) a → Contains (arrivals h) b
      → nat_lt (by_rows a).order (by_rows b).order ≡ nat_lt (by_lines m a).order (by_lines m b).order
  orders_same a b c d =
      let s = seen_as a c in
      let t = seen_as b d in
      k.orders a.place b.place a.message b.message s.part t.part (arrival_stands h a c) (arrival_stands h b d) s.stands t.stands
      ∙ ap (λ (x : Part). nat_lt x.order t.part.order) (sym (lined_part a s)) ∙ ap (λ (x : Part). nat_lt (by_lines m a).order x.order) (sym (lined_part b t))

  keys_same : (a b : Arriving) → Contains (arrivals h) a → Contains (arrivals h) b
      → is_below (choice_key (by_rows a)) (choice_key (by_rows b)) ≡ is_below (choice_key (by_lines m a)) (choice_key (by_lines m b))
  keys_same a b c d =
      ap (λ (n : ℕ). nat_lt n (choice_key (by_rows b)).0 || (n == (choice_key (by_rows b)).0 && nat_lt (by_rows a).order (by_rows b).order)) (missing_same a c)
      ∙ ap (λ (n : ℕ). nat_lt (choice_key (by_lines m a)).0 n || ((choice_key (by_lines m a)).0 == n && nat_lt (by_rows a).order (by_rows b).order))
      (missing_same b d)
      ∙ ap (λ t. nat_lt (choice_key (by_lines m a)).0 (choice_key (by_lines m b)).0 ||
      ((choice_key (by_lines m a)).0 == (choice_key (by_lines m b)).0 && t)) (orders_same a b c d)

  agrees : (xs : List Arriving) → AllByRecursion (Contains (arrivals h)) xs → Agree (λ a. choice_key (by_rows a)) (λ a. choice_key (by_lines m a)) xs
  agrees [] all = tt
  agrees (x ∷ xs) all = (ahead x xs all.0 all.1, agrees xs all.1) where
    ahead : (x : Arriving) (ys : List Arriving) → Contains (arrivals h) x → AllByRecursion (Contains (arrivals h)) ys
        → AgreeWith (λ a. choice_key (by_rows a)) (λ a. choice_key (by_lines m a)) x ys
    ahead x [] c all = tt
    ahead x (y ∷ ys) c all = (keys_same x y c all.0, ahead x ys c all.1)

  all_listed : AllByRecursion (Contains (arrivals h)) (arrivals h)
  all_listed = all_from (Contains (arrivals h)) (arrivals h) (λ a c. c)

  -- ---- no two have one key

  -- two messages of one key by the lines stand at one place
  one_place : (p q : Place) (a b : Message) (x y : Part) → IsArrivingAt h a p → IsArrivingAt h b q → part_in m p ≡ Some x → part_in m q ≡ Some y
      → x.order ≡ y.order → p ≡ q
  one_place p q a b x y at bt xt yt e =
      let up : nat_lt a.order b.order ≡ false = k.orders p q a b x y at bt xt yt ∙ ap (λ (n : ℕ). nat_lt n y.order) e ∙ below_same y.order in
      let down : nat_lt b.order a.order ≡ false = k.orders q p b a y x bt at yt xt ∙ ap (nat_lt y.order) e ∙ below_same y.order in
      k.own.arriving.differ p q a.order (arriving_number h p a at) (arriving_number h q b bt ∙ ap Some (sym (same_order a.order b.order up down)))

  rows_differ : (xs : List Arriving) → AllByRecursion (Contains (arrivals h)) xs → KeysDiffer (λ a. choice_key (by_rows a)) xs
      → KeysDiffer (λ x. choice_key (lines.message x)) (map (as_lined m) xs)
  rows_differ [] all differ = tt
  rows_differ (x ∷ xs) all differ = (ahead x xs all.0 all.1 differ.0, rows_differ xs all.1 differ.1) where
    one : (a b : Arriving) → Contains (arrivals h) a → Contains (arrivals h) b → (choice_key (by_rows a) ≡ choice_key (by_rows b) → ⊥)
        → choice_key (by_lines m a) ≡ choice_key (by_lines m b) → ⊥
    one a b c d differ e =
        let s = seen_as a c in
        let t = seen_as b d in
        let orders : s.part.order ≡ t.part.order =
        ap (λ (x : Part). x.order) (sym (lined_part a s)) ∙ ap (λ (k : ℕ × ℕ). k.1) e ∙ ap (λ (x : Part). x.order) (lined_part b t) in
        let up : nat_lt a.message.order b.message.order ≡ false =
        k.orders a.place b.place a.message b.message s.part t.part (arrival_stands h a c) (arrival_stands h b d) s.stands t.stands
        ∙ ap (λ (n : ℕ). nat_lt n t.part.order) orders ∙ below_same t.part.order in
        let down : nat_lt b.message.order a.message.order ≡ false =
        k.orders b.place a.place b.message a.message t.part s.part (arrival_stands h b d) (arrival_stands h a c) t.stands s.stands
        ∙ ap (nat_lt t.part.order) orders ∙ below_same t.part.order in
        let missing : (choice_key (by_rows a)).0 ≡ (choice_key (by_rows b)).0 = missing_same a c ∙ ap (λ (k : ℕ × ℕ). k.0) e ∙ sym (missing_same b d) in
        differ (λ i. (missing i, same_order a.message.order b.message.order up down i))

    ahead : (x : Arriving) (ys : List Arriving) → Contains (arrivals h) x → AllByRecursion (Contains (arrivals h)) ys
        → DiffersFrom (λ a. choice_key (by_rows a)) x ys
        → DiffersFrom (λ y. choice_key (lines.message y)) (as_lined m x) (map (as_lined m) ys)
    ahead x [] c all differ = tt
    ahead x (y ∷ ys) c all differ = (one x y c all.0 differ.0, ahead x ys c all.1 differ.1)

  -- of the lines themselves
  abbrev Elsewhere : lines.Arriving → lines.Arriving → Type 0
  Elsewhere x y = place_of x.role x.id ≡ place_of y.role y.id → ⊥

  side_apart : (role : Role) (es : List (CallId × Part)) → AreApart es
      → Pairwise Elsewhere (map (λ (e : CallId × Part). let r : lines.Arriving = record { role = role; id = e.0; part = e.1 } in r) es)
  side_apart role [] apart = tt
  side_apart role (e ∷ es) apart = (ahead e es apart.0, side_apart role es apart.1) where
    same_call : (role : Role) (a b : CallId) → place_of role a ≡ place_of role b → a ≡ b
    same_call Client a b e = cc
    same_call Server a b e = cc

    ahead : (e : CallId × Part) (ds : List (CallId × Part)) → AllByRecursion (λ (d : CallId × Part). e.0 ≡ d.0 → ⊥) ds
        → AllByRecursion (Elsewhere (record { role = role; id = e.0; part = e.1 }))
        (map (λ (d : CallId × Part). let r : lines.Arriving = record { role = role; id = d.0; part = d.1 } in r) ds)
    ahead e [] all = tt
    ahead e (d ∷ ds) all = ((λ same. all.0 (same_call role e.0 d.0 same)), ahead e ds all.1)

  sides_apart : (es ds : List (CallId × Part))
      → AllByRecursion
      (λ x. AllByRecursion (Elsewhere x) (map (λ (e : CallId × Part). let r : lines.Arriving = record { role = Client; id = e.0; part = e.1 } in r) ds))
      (map (λ (e : CallId × Part). let r : lines.Arriving = record { role = Server; id = e.0; part = e.1 } in r) es)
  sides_apart [] ds = tt
  sides_apart (e ∷ es) ds = (ahead e ds, sides_apart es ds) where
    two : (a b : CallId) → OfServer a ≡ OfClient b → ⊥
    two a b e = cc

    ahead : (e : CallId × Part) (ds : List (CallId × Part))
        → AllByRecursion (Elsewhere (record { role = Server; id = e.0; part = e.1 }))
        (map (λ (e : CallId × Part). let r : lines.Arriving = record { role = Client; id = e.0; part = e.1 } in r) ds)
    ahead e [] = tt
    ahead e (d ∷ ds) = (two e.0 d.0, ahead e ds)

  places_differ : Pairwise Elsewhere (lines.incoming m host)
  places_differ =
      pairwise-filter Elsewhere (λ (x : lines.Arriving). is_host x.part.host host && is_message x.part)
      (lines.arriving Server m.requests ++ lines.arriving Client m.responses)
      (pairwise-append Elsewhere (lines.arriving Server m.requests) (lines.arriving Client m.responses)
      (side_apart Server (entries m.requests) (apart-entries call_total call_same m.requests))
      (side_apart Client (entries m.responses) (apart-entries call_total call_same m.responses)) (sides_apart (entries m.requests) (entries m.responses)))

  -- a message of the lines is one of the host
  back_at : (x : lines.Arriving) → Contains (lines.incoming m host) x → (a : Message) × IsArrivingAt h a (place_of x.role x.id)
  back_at x c = let l = lined m host x c in k.back (place_of x.role x.id) x.part l.stands ((hosts_are x.part.host host).0 l.at) l.message

  lines_differ : (xs : List lines.Arriving) → AllByRecursion (Contains (lines.incoming m host)) xs → Pairwise Elsewhere xs
      → KeysDiffer (λ x. choice_key (lines.message x)) xs
  lines_differ [] all apart = tt
  lines_differ (x ∷ xs) all apart = (ahead x xs all.0 all.1 apart.0, lines_differ xs all.1 apart.1) where
    ahead : (x : lines.Arriving) (ys : List lines.Arriving) → Contains (lines.incoming m host) x
        → AllByRecursion (Contains (lines.incoming m host)) ys → AllByRecursion (Elsewhere x) ys → DiffersFrom (λ y. choice_key (lines.message y)) x ys
    ahead x [] c all apart = tt
    ahead x (y ∷ ys) c all apart =
        let a = back_at x c in
        let b = back_at y all.0 in (
          (λ e. apart.0 (one_place (place_of x.role x.id) (place_of y.role y.id) a.0 b.0 x.part y.part a.1 b.1 (lined m host x c).stands
              (lined m host y all.0).stands (ap (λ (k : ℕ × ℕ). k.1) e))),
          ahead x ys c all.1 apart.1,
        )

  -- ---- the same messages

  to_lines : (x : lines.Arriving) → Contains (map (as_lined m) (arrivals h)) x → Contains (lines.incoming m host) x
  to_lines x c =
      let f = of_map (as_lined m) (arrivals h) x c in
      let s = seen_as f.from f.listed in
      let part = lined_part f.from s in
      subst (Contains (lines.incoming m host)) f.made
      (lined_in m host (as_lined m f.from) (record {
        stands = ap (part_in m) (place_again f.from.place) ∙ s.stands ∙ ap Some (sym part);
        at = ap (λ (p : Part). is_host p.host host) part ∙ (hosts_are s.part.host host).1 s.at;
        message = ap is_message part ∙ s.message;
      }))

  from_lines : (x : lines.Arriving) → Contains (lines.incoming m host) x → Contains (map (as_lined m) (arrivals h)) x
  from_lines x c =
      let l = lined m host x c in
      let b = back_at x c in
      let a : Arriving = record { place = place_of x.role x.id; message = b.0 } in
      subst (Contains (map (as_lined m) (arrivals h))) (same x.role refl l.stands)
      (in_map (as_lined m) (arrivals h) a (stands_arrival h (place_of x.role x.id) b.0 b.1)) where
        by_place : (role : Role) (id : CallId) → (role_at (place_of role id) ≡ role) × (call_at (place_of role id) ≡ id)
        by_place Client id = (refl, refl)
        by_place Server id = (refl, refl)

        same : (role : Role) → x.role ≡ role → part_in m (place_of x.role x.id) ≡ Some x.part
            → (let r : lines.Arriving = record {
              role = role_at (place_of x.role x.id);
              id = call_at (place_of x.role x.id);
              part = unwrap_or (part_in m (place_of x.role x.id)) no_part;
            } in r) ≡ x
        same role r e =
            let b = by_place x.role x.id in
            let p : unwrap_or (part_in m (place_of x.role x.id)) no_part ≡ x.part = ap (λ o. unwrap_or o no_part) e in
            λ i. record { role = b.0 i; id = b.1 i; part = p i }

  chosen_same : (n : ℕ) → chosen lines.message n (lines.incoming m host) ≡ map (as_lined m) (chosen by_rows n (arrivals h))
  chosen_same n =
      let key = λ (x : lines.Arriving). choice_key (lines.message x) in
      let from = λ (x : lines.Arriving). choice.sender (lines.message x) in
      ap (λ (xs : List lines.Arriving). take n (firsts from xs))
      (ordered-same key (lines.incoming m host) (map (as_lined m) (arrivals h))
      (lines_differ (lines.incoming m host) (all_from (Contains (lines.incoming m host)) (lines.incoming m host) (λ x c. c)) places_differ)
      (rows_differ (arrivals h) all_listed (arrivals-keys h k.own)) from_lines to_lines)
      ∙ chosen-map (λ (a : Arriving). choice.sender (by_lines m a)) from (as_lined m) (λ a. refl) (λ (a : Arriving). choice_key (by_lines m a)) key
      (λ a. refl) n (arrivals h)
      ∙ ap (map (as_lined m)) (sym (chosen_alike by_rows (by_lines m) n (arrivals h) senders_same (agrees (arrivals h) all_listed)))

  -- ---- a GRANT of the host is one that the lines allow, where it was not given yet

  pub grant_allowed : (n window : ℕ) (g : Granted Arriving) → Contains (grants by_rows n window (arrivals h)) g → (x : Part)
      → part_in m g.to.place ≡ Some x → x.granted ≡ g.to.message.granted
      → Contains (map lines.told (grants lines.message n window (lines.incoming m host)))
      (record { to = x.peer; role = role_at g.to.place; id = call_at g.to.place; offset = g.offset; prio = g.prio })
  grant_allowed n window g c x at same =
      let is : IsGrant by_rows window (chosen by_rows n (arrivals h)) g = grant-chosen by_rows n window (arrivals h) g c in
      let listed : Contains (arrivals h) g.to = chosen-contains (λ (a : Arriving). choice.sender a.message) (λ a. choice_key a.message) n
      (arrivals h) g.to (at_rank (chosen by_rows n (arrivals h)) is.rank g.to is.chosen) in
      let s = seen_as g.to listed in
      let y : lines.Arriving = as_lined m g.to in
      let here : y.part ≡ x = ap (λ o. unwrap_or o no_part) at in
      let part : s.part ≡ x = some_is s.part x (sym s.stands ∙ at) in
      let long : x.length ≡ g.to.message.length = ap (λ (p : Part). p.length) (sym part) ∙ s.long in
      let got : len x.arrived ≡ g.to.message.arrived = ap (λ (p : Part). len p.arrived) (sym part) ∙ s.arrived in
      let end : new_end window (lines.message y) ≡ g.offset =
      ap (λ (p : Part). new_end window (record { peer = p.peer; length = p.length; arrived = len p.arrived; granted = p.granted; order = p.order })) here
      ∙ (ap (λ (k : ℕ). min k (len x.arrived + window)) long ∙ ap (λ (k : ℕ). min g.to.message.length (k + window)) got) ∙ sym is.offset in
      let rank : slice_get (chosen lines.message n (lines.incoming m host)) is.rank ≡ Some y =
      ap (λ (xs : List lines.Arriving). slice_get xs is.rank) (chosen_same n) ∙ slice_get-map (as_lined m) (chosen by_rows n (arrivals h)) is.rank
      ∙ ap (option_map (as_lined m)) is.chosen in
      let count : length (chosen lines.message n (lines.incoming m host)) ≡ length (chosen by_rows n (arrivals h)) =
      ap length (chosen_same n) ∙ length-map (chosen by_rows n (arrivals h)) (as_lined m) in
      let granted : (lines.message y).granted ≡ g.to.message.granted = ap (λ (p : Part). p.granted) here ∙ same in
      let more : (lines.message y).granted < new_end window (lines.message y) = omega (arith, granted, is.more, end) in
      let there = chosen-grant lines.message n window (lines.incoming m host) is.rank y rank more in
      let told = in_map lines.told (grants lines.message n window (lines.incoming m host)) _ there in
      subst (Contains (map lines.told (grants lines.message n window (lines.incoming m host))))
      (λ i. record {
        to = (here i).peer;
        role = role_at g.to.place;
        id = call_at g.to.place;
        offset = end i;
        prio = (ap (λ (l : ℕ). l - 1 - is.rank) count ∙ sym is.prio) i;
      }) told
