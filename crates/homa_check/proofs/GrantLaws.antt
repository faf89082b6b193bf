-- The incoming messages of a host, and the GRANTs that it may send.
use Rattle.std.proofs.Common.{◌≡◌, ℕ, suc, ◌-◌, Bool, true, false, not, cond, ◌&&◌, ◌||◌, T, Option, Some, List, [], ◌∷◌, ◌++◌, length, map, filter}
use Rattle.std.proofs.Common.{take, refl, sym, ap, ◌∙◌, subst, Less, Equal, Greater, is_eq}
use Rattle.std.specs.Prelude.{◌==◌, nat_lt, if◌then◌else◌}
use Rattle.std.specs.Option.{option_map_or}
use Rattle.std.specs.List.{AllByRecursion, list_any, filter_map, Contains, take-map}
use Rattle.std.specs.List.Sorted.{IsStrictlySortedBy}
use Rattle.std.specs.Ordering.{ordering_reverse, is_lt}
use Rattle.std.specs.declared.cmp.Ordering.{Ordering}
use Rattle.std.proofs.lemmas.Bool.{true≢false}
use Rattle.std.proofs.lemmas.List.{map-append}
use Rattle.std.proofs.lemmas.List.Elements.{filter-append}
use Rattle.std.proofs.lemmas.Map.Keys.{sorted_head, sorted_tail}
use Rattle.core.specs.FinMap.Entries.{find, below_all, is_sorted}
use Rattle.plain_sets.specs.Maps.{entries, get}
use Rattle.plain_sets.specs.Ordered.{ordered, firsts, not_of}
use Rattle.plain_sets.proofs.MapLaws.{get-list, sorted-rises}
use Rattle.plain_sets.proofs.MapMembers.{get-entry}
use Rattle.plain_sets.proofs.OrderSame.{here, there, ordered-map_same}
use Rattle.homa_plain.specs.declared.id.CallId.{CallId}
use Rattle.homa_plain.specs.declared.id.HostId.{HostId}
use Rattle.homa_plain.specs.declared.packet.Role.{Role}
use Rattle.homa_plain.specs.Calls.{is_host, is_call, call_cmp}
use Rattle.homa_plain.proofs.CallOrder.{call_total, call_same, calls_are}
use Rattle.trace_rules.specs.Parts.{Part, Parts, is_message}
use Rattle.homa_plain.specs.Grants.{sender, choice_key, new_end, chosen, grants_from}
use Rattle.trace_rules.specs.Granting.{Arriving, message, arriving, incoming, told, allowed}
use Rattle.trace_rules.specs.Judge.{is_grant}
use Rattle.trace_rules.specs.View.{View}
use Rattle.check_call.specs.declared.choice.Message.{Message}
use Rattle.check_call.specs.Choices.{sender_of, key_of}
use Rattle.homa_check.specs.declared.grant.Grant.{Grant}
use Rattle.check_lines.specs.Traces.{is_incoming_at}
use Rattle.homa_check.specs.Grants.{message_of, plain_grant, is_told_to, is_grant_among}

-- ---- keys in order

less : (o : Ordering) → T (is_lt o) → o ≡ Less
less Less p = refl
less Equal p = absurd p
less Greater p = absurd p

first : (a b : Bool) → T (a && b) → T a
first true b p = tt
first false b p = p

second : (a b : Bool) → T (a && b) → T b
second true b p = p
second false b p = absurd p

-- what is below all of them is none of them
none_above : (x : CallId) (ys : List CallId) → AllByRecursion (λ y. call_cmp x y ≡ Less) ys → list_any (is_call x) ys ≡ false
none_above x [] all = refl
none_above x (y ∷ ys) all = ap (λ o. is_eq o || list_any (is_call x) ys) all.0 ∙ none_above x ys all.1

below_on : (x y : CallId) (ys : List CallId) → call_cmp x y ≡ Less → AllByRecursion (λ z. call_cmp y z ≡ Less) ys → AllByRecursion (λ z. call_cmp x z ≡ Less) ys
below_on x y [] e all = tt
below_on x y (z ∷ ys) e all = (call_total.trans x y z e all.0, below_on x y ys e all.1)

tied : (x : CallId) → is_call x x ≡ true
tied x = (calls_are x x).1 refl

-- the first of a list that is in order isn't among those of one that begins above it
not_in : (x y : CallId) (ys : List CallId) → call_cmp x y ≡ Less → IsStrictlySortedBy call_cmp (y ∷ ys) → list_any (is_call x) (y ∷ ys) ≡ false
not_in x y ys e s = none_above x (y ∷ ys) (e, below_on x y ys e (sorted_head call_cmp y ys s))

turned : (x y : CallId) → call_cmp x y ≡ Greater → call_cmp y x ≡ Less
turned x y e = call_total.antisymm y x ∙ ap ordering_reverse e

-- a call is in both tails or in none
tails : (x : CallId) (xs ys : List CallId) → IsStrictlySortedBy call_cmp (x ∷ xs) → IsStrictlySortedBy call_cmp (x ∷ ys) → (q : CallId)
    → list_any (is_call q) (x ∷ xs) ≡ list_any (is_call q) (x ∷ ys)
    → list_any (is_call q) xs ≡ list_any (is_call q) ys
tails x xs ys s t q =
    elim (is_call q x) as
    (λ b. is_call q x ≡ b → (b || list_any (is_call q) xs) ≡ (b || list_any (is_call q) ys) → list_any (is_call q) xs ≡ list_any (is_call q) ys) [
      | true ↦ λ e _. let is = (calls_are q x).0 e in
          subst (λ (z : CallId). list_any (is_call z) xs ≡ list_any (is_call z) ys) (sym is)
          (none_above x xs (sorted_head call_cmp x xs s) ∙ sym (none_above x ys (sorted_head call_cmp x ys t)))
      | false ↦ λ e h. h
    ] refl

-- two lists in order with the same calls are one
pub same_keys : (xs ys : List CallId) → IsStrictlySortedBy call_cmp xs → IsStrictlySortedBy call_cmp ys
    → ((q : CallId) → list_any (is_call q) xs ≡ list_any (is_call q) ys) → xs ≡ ys
same_keys [] [] s t m = refl
same_keys [] (y ∷ ys) s t m = absurd (true≢false (sym (ap (λ b. b || list_any (is_call y) ys) (tied y)) ∙ sym (m y)))
same_keys (x ∷ xs) [] s t m = absurd (true≢false (sym (ap (λ b. b || list_any (is_call x) xs) (tied x)) ∙ m x))
same_keys (x ∷ xs) (y ∷ ys) s t m =
    elim (call_cmp x y) as (λ o. call_cmp x y ≡ o → x ∷ xs ≡ y ∷ ys) [
      | Less ↦ λ e. absurd (true≢false (sym (ap (λ b. b || list_any (is_call x) xs) (tied x)) ∙ (m x ∙ not_in x y ys e t)))
      | Equal ↦ λ e. let is = call_same x y e in
          let t' = subst (λ (z : CallId). IsStrictlySortedBy call_cmp (z ∷ ys)) (sym is) t in
          let m' = subst (λ (z : CallId). (q : CallId) → list_any (is_call q) (x ∷ xs) ≡ list_any (is_call q) (z ∷ ys)) (sym is) m in
          let rest = same_keys xs ys (sorted_tail call_cmp x xs s) (sorted_tail call_cmp x ys t') (λ q. tails x xs ys s t' q (m' q)) in
          λ i. is i ∷ rest i
      | Greater ↦ λ e. absurd (true≢false (sym (ap (λ b. b || list_any (is_call y) ys) (tied y)) ∙ (sym (m y) ∙ not_in y x xs (turned x y e) s)))
    ] refl

-- ---- the calls of parts that pass a test

abbrev passing : (Part → Bool) → List (CallId × Part) → List CallId
passing p es = map (λ e. e.0) (filter (λ e. p e.1) es)

below_passing : (k : CallId) (p : Part → Bool) (es : List (CallId × Part)) → T (below_all call_cmp k es)
    → AllByRecursion (λ y. call_cmp k y ≡ Less) (passing p es)
below_passing k p [] h = tt
below_passing k p (e ∷ es) h =
    let rest = below_passing k p es (second _ _ h) in
    elim (p e.1) as (λ b. AllByRecursion (λ y. call_cmp k y ≡ Less) (map (λ e. e.0) (cond b (e ∷ filter (λ e. p e.1) es) (filter (λ e. p e.1) es))))
    [ true ↦ (less _ (first _ _ h), rest) | false ↦ rest ]

sorted_passing : (p : Part → Bool) (es : List (CallId × Part)) → T (is_sorted call_cmp es) → IsStrictlySortedBy call_cmp (passing p es)
unfolding IsStrictlySortedBy
sorted_passing p [] h = tt
sorted_passing p (e ∷ es) h =
    let rest = sorted_passing p es (second _ _ h) in
    elim (p e.1) as (λ b. IsStrictlySortedBy call_cmp (map (λ e. e.0) (cond b (e ∷ filter (λ e. p e.1) es) (filter (λ e. p e.1) es))))
    [ true ↦ (below_passing e.0 p es (first _ _ h), rest) | false ↦ rest ]

member_passing : (p : Part → Bool) (es : List (CallId × Part)) (q : CallId) → T (is_sorted call_cmp es)
    → list_any (is_call q) (passing p es) ≡ option_map_or p (find call_cmp q es) false
member_passing p [] q h = refl
member_passing p (e ∷ es) q h =
    let rest = member_passing p es q (second _ _ h) in
    elim (is_call q e.0) as
    (λ b. is_call q e.0 ≡ b → list_any (is_call q) (passing p (e ∷ es)) ≡ option_map_or p (cond b (Some e.1) (find call_cmp q es)) false) [
      | true ↦ λ t.
          let none : list_any (is_call q) (passing p es) ≡ false = subst (λ (z : CallId). list_any (is_call z) (passing p es) ≡ false)
          (sym ((calls_are q e.0).0 t)) (none_above e.0 (passing p es) (below_passing e.0 p es (first _ _ h))) in
          elim (p e.1) as (λ b. list_any (is_call q) (map (λ e. e.0) (cond b (e ∷ filter (λ e. p e.1) es) (filter (λ e. p e.1) es))) ≡ b)
          [ true ↦ ap (λ b. b || list_any (is_call q) (passing p es)) t | false ↦ none ]
      | false ↦ λ t.
          elim (p e.1) as
          (λ b. list_any (is_call q) (map (λ e. e.0) (cond b (e ∷ filter (λ e. p e.1) es) (filter (λ e. p e.1) es))) ≡ option_map_or p
          (find call_cmp q es) false) [ true ↦ ap (λ b. b || list_any (is_call q) (passing p es)) t ∙ rest | false ↦ rest ]
    ] refl

-- ---- lists that are mapped and filtered

pub filter_of_map : {X Y : Type 0} (f : X → Y) (p : Y → Bool) (xs : List X) → filter p (map f xs) ≡ map f (filter (λ x. p (f x)) xs)
filter_of_map f p [] = refl
filter_of_map f p (x ∷ xs) =
    elim (p (f x)) as (λ b. cond b (f x ∷ filter p (map f xs)) (filter p (map f xs)) ≡ map f (cond b (x ∷ filter (λ x. p (f x)) xs) (filter (λ x. p (f x)) xs)))
    [ true ↦ ap (λ l. f x ∷ l) (filter_of_map f p xs) | false ↦ filter_of_map f p xs ]

-- of each entry something is found under its key
found_of : {Y : Type 0} (g : CallId → Option Y) (h : CallId × Part → Y) (p : Part → Bool) (es : List (CallId × Part))
    → ((e : CallId × Part) → Contains es e → g e.0 ≡ Some (h e)) → filter_map g (passing p es) ≡ map h (filter (λ e. p e.1) es)
found_of g h p [] all = refl
found_of g h p (e ∷ es) all =
    let rest = found_of g h p es (λ x c. all x (there e x es c)) in
    elim (p e.1) as
    (λ b. filter_map g (map (λ e. e.0) (cond b (e ∷ filter (λ e. p e.1) es) (filter (λ e. p e.1) es))) ≡ map h
    (cond b (e ∷ filter (λ e. p e.1) es) (filter (λ e. p e.1) es)))
    [ true ↦ rw (all e (here e es)) (ap (λ l. h e ∷ l) rest) | false ↦ rest ]

pub length_of_map : {X Y : Type 0} (f : X → Y) (xs : List X) → length (map f xs) ≡ length xs
length_of_map f [] = refl
length_of_map f (x ∷ xs) = ap suc (length_of_map f xs)

map_map : {X Y Z : Type 0} (g : Y → Z) (f : X → Y) (xs : List X) → map (λ x. g (f x)) xs ≡ map g (map f xs)
map_map g f [] = refl
map_map g f (x ∷ xs) = ap (λ l. g (f x) ∷ l) (map_map g f xs)

-- ---- messages

abbrev is_at_host : HostId → Part → Bool
is_at_host host p = is_host p.host host && is_message p

abbrev arrives : Role → CallId × Part → Arriving
arrives role e = record { role = role; id = e.0; part = e.1 }

-- the messages of one role
pub role_messages : (host : HostId) (role : Role) (ks : List CallId) (m : Parts) (g : CallId → Option Message) → IsStrictlySortedBy call_cmp ks
    → ((q : CallId) → list_any (is_call q) ks ≡ is_incoming_at host (get m q))
    → ((q : CallId) (p : Part) → get m q ≡ Some p → g q ≡ Some (message_of (record { role = role; id = q; part = p })))
    → filter_map g ks ≡ map message_of (filter (λ x. is_host x.part.host host && is_message x.part) (arriving role m))
role_messages host role ks m g s members found =
    let es = entries m in
    let in_order : T (is_sorted call_cmp es) = sorted-rises call_cmp call_total es m.sorted in
    let p = is_at_host host in
    let keys : ks ≡ passing p es = same_keys ks (passing p es) s (sorted_passing p es in_order)
    (λ q. members q ∙ (ap (λ o. option_map_or p o false) (get-list m q) ∙ sym (member_passing p es q in_order))) in
    ap (filter_map g) keys
    ∙ (found_of g (λ e. message_of (arrives role e)) p es (λ e c. found e.0 e.1 (get-entry call_total call_same m e.0 e.1 c))
    ∙ (map_map message_of (arrives role) (filter (λ e. p e.1) es)
    ∙ ap (map message_of) (sym (filter_of_map (arrives role) (λ x. is_host x.part.host host && is_message x.part) es))))

-- all of them
pub both_roles : (host : HostId) (xs ys : List Arriving) (ms ns : List Message)
    → ms ≡ map message_of (filter (λ x. is_host x.part.host host && is_message x.part) xs)
    → ns ≡ map message_of (filter (λ x. is_host x.part.host host && is_message x.part) ys)
    → ms ++ ns ≡ map message_of (filter (λ x. is_host x.part.host host && is_message x.part) (xs ++ ys))
both_roles host xs ys ms ns e f =
    let p : Arriving → Bool = λ x. is_host x.part.host host && is_message x.part in
    ap (λ l. l ++ ns) e
    ∙ (ap (λ l. map message_of (filter p xs) ++ l) f
    ∙ (sym (map-append message_of (filter p xs) (filter p ys)) ∙ ap (map message_of) (sym (filter-append p xs ys))))

-- ---- the choice

firsts-map : {X Y : Type 0} (from : X → ℕ) (from' : Y → ℕ) (f : X → Y) → ((x : X) → from' (f x) ≡ from x) → (xs : List X)
    → firsts from' (map f xs) ≡ map f (firsts from xs)
unfolding firsts
firsts-map from from' f same [] = refl
firsts-map from from' f same (x ∷ xs) =
    ap (λ l. f x ∷ l)
    (ap (not_of from' (from' (f x))) (firsts-map from from' f same xs)
    ∙ (filter_of_map f (λ y. not (from' y == from' (f x))) (firsts from xs)
    ∙ ap (map f) (λ i. filter (λ z. not (same z i == same x i)) (firsts from xs))))

-- the messages that are chosen
pub chosen_is : (k : ℕ) (xs : List Arriving) → take k (firsts sender_of (ordered key_of (map message_of xs))) ≡ map message_of (chosen message k xs)
chosen_is k xs =
    ap (λ l. take k (firsts sender_of l)) (ordered-map_same (λ x. choice_key (message x)) key_of message_of (λ x. refl) xs)
    ∙ (ap (take k) (firsts-map (λ x. sender (message x)) sender_of message_of (λ x. refl) (ordered (λ x. choice_key (message x)) xs))
    ∙ take-map message_of k (firsts (λ x. sender (message x)) (ordered (λ x. choice_key (message x)) xs)))

-- the GRANTs to them
granted_among : (window n r : ℕ) (g : Grant) (xs : List Arriving)
    → is_grant_among window n r g (map message_of xs) ≡ list_any (is_grant (plain_grant g)) (map told (grants_from message window n r xs))
granted_among window n r g [] = refl
granted_among window n r g (x ∷ xs) =
    let rest = granted_among window n (suc r) g xs in
    let end = new_end window (message x) in
    elim (nat_lt x.part.granted end) as (λ b. ((b && is_told_to end (n - 1 - r) g (message_of x)) || is_grant_among window n (suc r) g (map message_of xs))
    ≡ list_any (is_grant (plain_grant g))
    (map told ((if b then record { to = x; offset = end; prio = n - 1 - r } ∷ [] else []) ++ grants_from message window n (suc r) xs)))
    [ true ↦ ap (λ b. is_told_to end (n - 1 - r) g (message_of x) || b) rest | false ↦ rest ]

-- whether a GRANT is one that its host may send
pub granted_is : (v : View) (host : HostId) (g : Grant) (k window : ℕ) (ms : List Message) → v.settings.overcommit ≡ k → v.settings.window ≡ window
    → ms ≡ map message_of (incoming v.now host)
    → is_grant_among window (length (take k (firsts sender_of (ordered key_of ms)))) 0 g (take k (firsts sender_of (ordered key_of ms))) ≡ list_any
    (is_grant (plain_grant g)) (allowed v host)
unfolding allowed
granted_is v host g k window ms a b e =
    let xs = incoming v.now host in
    let cs = chosen message k xs in
    ap (λ l. is_grant_among window (length l) 0 g l) (ap (λ l. take k (firsts sender_of (ordered key_of l))) e ∙ chosen_is k xs)
    ∙ (ap (λ (n : ℕ). is_grant_among window n 0 g (map message_of cs)) (length_of_map message_of cs)
    ∙ (granted_among window (length cs) 0 g cs
    ∙ λ i. list_any (is_grant (plain_grant g)) (map told (let ds = chosen message (sym a i) xs in grants_from message (sym b i) (length ds) 0 ds))))
