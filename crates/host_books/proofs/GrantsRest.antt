-- After a step no GRANT is due: each message that would be chosen is granted as far as it may be.
use Rattle.std.proofs.Common.{◌≡◌, ℕ, zero, suc, ◌-◌, ◌≤◌, Bool, true, false, cond, Option, Some, None, List, [], ◌∷◌, ◌++◌, length, map, refl, sym}
use Rattle.std.proofs.Common.{ap, subst, ◌∙◌, arith, inl, inr}
use Rattle.std.specs.Prelude.{nat_lt}
use Rattle.std.specs.List.{AllByRecursion, Contains}
use Rattle.std.proofs.lemmas.List.{map-append}
use Rattle.std.proofs.lemmas.Bool.Decides.{nat_tests}
use Rattle.plain_sets.specs.Maps.{get}
use Rattle.plain_sets.specs.Ordered.{SendersDiffer}
use Rattle.plain_sets.proofs.OrderSame.{here, at_head, none_in}
use Rattle.homa_plain.specs.declared.id.CallId.{CallId}
use Rattle.homa_plain.specs.declared.packet.Body.TheVariants as body
use Rattle.homa_plain.specs.declared.settings.Settings.{Settings}
use Rattle.homa_plain.specs.Grants.{Message, new_end, grants_from, chosen, grants, sender, choice_key}
use Rattle.homa_plain.specs.SentNext.{least}
use Rattle.homa_plain.specs.Incoming.{Incoming}
use Rattle.homa_plain.specs.Outgoing.{next_range}
use Rattle.homa_plain.specs.Rows.{ClientRow, ServerRow, State, Receiving, Held, Replying, Buried}
use Rattle.homa_plain.specs.Host.{Host, packets_in, peer_cutoffs}
use Rattle.homa_plain.specs.Timers.{Place, OfClient, OfServer}
use Rattle.homa_plain.specs.Sending.{Arriving, arriving_at_client, arriving_at_server, arrivals, granted_part}
use Rattle.homa_plain.specs.SentNext.{Leaving, leaving_key, departures}
use Rattle.homa_plain.specs.Sending.{client_granted, state_granted, server_granted, client_sends, state_sends, response_content}
use Rattle.homa_plain.specs.Work.{Work, now_of}
use Rattle.homa_plain.specs.Steps.{client_is_granted, server_is_granted, grants_at, gives_grants}
use Rattle.homa_plain.specs.SentNext.{request_leaves, response_leaves}
use Rattle.homa_plain.specs.SentNext.{client_leaves, state_leaves, server_leaves, leaves_from, first_leaves, pumped_once, pumps, most_packets}
use Rattle.homa_plain.specs.Steps.{ended}
use Rattle.homa_plain.proofs.ChoiceLaws.{chosen-map}
use Rattle.step_laws.specs.StepLaws.{LeavesOthers}
use Rattle.step_laws.proofs.Places.{IsOne}
use Rattle.step_laws.proofs.Others.{get-set_row, leaves_from-others}
use Rattle.step_laws.proofs.StepEnd.{left}
use Rattle.host_view.specs.Follow.{client_arrival, server_arrival}
use Rattle.host_books.specs.Ends.{grant_to, granted_each}
use Rattle.host_books.specs.Granted.{due_grants}
use Rattle.host_books.proofs.Splits.{at, split}
use Rattle.host_books.proofs.Slots.{at_one}
use Rattle.host_books.proofs.BookThings.{arrival_things}
use Rattle.host_books.proofs.Things.{thing_at, at_thing, one_thing}
use Rattle.host_books.proofs.GrantsEach.{grants_each, grant_leaves, arrival_stays, rest_arrives, chosen_arrive, chosen_differ}

abbrev message_of : Arriving → Message
message_of a = a.message

-- the message that arrives in the row of a place
abbrev arrival : Host → Place → List Arriving
arrival h p = at arrival_things h p

-- where one row alone changes, and its message stays, all messages stay
arrivals_stay : (p : Place) (w v : Work) → LeavesOthers p w v → arrival v.host p ≡ arrival w.host p → arrivals v.host ≡ arrivals w.host
arrivals_stay p w v l e =
    let s = split arrival_things p w.host v.host l.clients l.servers in
    s.new ∙ ap (λ (xs : List Arriving). s.front ++ (xs ++ s.back)) e ∙ sym s.old

-- ---- the pump leaves what arrives as it is

sent_request : (s : Settings) (now : ℕ) (id : CallId) (r : ClientRow) → arriving_at_client id (client_sends s now r).part ≡ arriving_at_client id r.part
sent_request s now id r = by_test (nat_lt r.out.top r.out.length) where
  by_test : (b : Bool) → arriving_at_client id (cond b (record r { heard = now; base = now; count = 0 }) r).part ≡ arriving_at_client id r.part
  by_test true = refl
  by_test false = refl

sent_response : (s : Settings) (now : ℕ) (id : CallId) (state : State) → arriving_at_server id (state_sends s now state) ≡ arriving_at_server id state
sent_response s now id (Receiving service part base count) = refl
sent_response s now id (Held response release) = refl
sent_response s now id (Replying response out order base count) = refl
sent_response s now id (Buried until) = refl

module _ (s : Settings) where
  client_stays : (id : CallId) (o : Option ClientRow) (w v : Work) → client_leaves s id o w ≡ Some v
      → client_arrival id (get v.host.clients id) ≡ client_arrival id o
  client_stays id None w v e = cc
  client_stays id (Some r) w v e =
      let l = left (next_range r.out s.seg) w v (λ range. request_leaves s id r range w) e in
      subst (λ (u : Work). client_arrival id (get u.host.clients id) ≡ arriving_at_client id r.part) l.is
      (ap (client_arrival id) (get-set_row w.host.clients id (Some (client_sends s (now_of w) r))) ∙ sent_request s (now_of w) id r)

  state_stays : (id : CallId) (row : ServerRow) (state : State) (w v : Work) → state_leaves s id row state w ≡ Some v
      → server_arrival id (get v.host.servers id) ≡ server_arrival id (Some row)
  state_stays id row (Replying response out order base count) w v e =
      let l = left (next_range out s.seg) w v
      (λ range. response_leaves s id row (response_content s (peer_cutoffs s w.host id.client).cutoffs response out range) range w) e in
      subst (λ (u : Work). server_arrival id (get u.host.servers id) ≡ arriving_at_server id row.state) l.is
      (ap (server_arrival id) (get-set_row w.host.servers id (Some (record row { state = state_sends s (now_of w) row.state })))
      ∙ sent_response s (now_of w) id row.state)
  state_stays id row state w v e = cc

  server_stays : (id : CallId) (o : Option ServerRow) (w v : Work) → server_leaves s id o w ≡ Some v
      → server_arrival id (get v.host.servers id) ≡ server_arrival id o
  server_stays id None w v e = cc
  server_stays id (Some row) w v e = state_stays id row row.state w v e

  place_stays : (p : Place) (w v : Work) → leaves_from s p w ≡ Some v → arrival v.host p ≡ arrival w.host p
  place_stays (OfClient id) w v e = client_stays id (get w.host.clients id) w v e
  place_stays (OfServer id) w v e = server_stays id (get w.host.servers id) w v e

  first_stays : (o : Option Leaving) (w v : Work) → first_leaves s o w ≡ Some v → arrivals v.host ≡ arrivals w.host
  first_stays None w v e = cc
  first_stays (Some l) w v e = arrivals_stay l.place w v (leaves_from-others s l.place w v e) (place_stays l.place w v e)

  once_stays : (w v : Work) → pumped_once s w ≡ Some v → arrivals v.host ≡ arrivals w.host
  unfolding pumped_once
  once_stays w v e = first_stays (least leaving_key (departures s (now_of w) w.host)) w v e

  -- the pump goes on where a piece was sent
  abbrev goes_on : ℕ → Work → Option Work → Work
  goes_on n w o = elim o [ None ↦ w | Some after ↦ pumps s n after ]

  pumps_stay : (n : ℕ) (w : Work) → arrivals (pumps s n w).host ≡ arrivals w.host
  unfolding pumps
  pumps_stay zero w = refl
  pumps_stay (suc n) w =
      elim (pumped_once s w) as (λ o. pumped_once s w ≡ o → arrivals (goes_on n w o).host ≡ arrivals w.host) [
        | None ↦ λ e. refl
        | Some v ↦ λ e. pumps_stay n v ∙ once_stays w v e
      ] refl

-- ---- a GRANT lifts the granted end of its message, and no more

-- a message with another granted end
abbrev raised : ℕ → Arriving → Arriving
raised offset a = record a { message = record a.message { granted = offset } }

-- a message, whatever its granted end is
abbrev erased : Arriving → Arriving
erased a = raised 0 a

-- as far as the choice lets it be granted, a message is
abbrev IsGranted : Settings → Arriving → Type 0
IsGranted s a = new_end s.window a.message ≤ a.message.granted

one_is : (x y : Arriving) → x ∷ [] ≡ y ∷ [] → x ≡ y
one_is x y e = cc

no_one : (x : Arriving) → [] ≡ x ∷ [] → ⊥
no_one x e = cc

part_raised : (id : CallId) (o : Option Incoming) (a : Arriving) (offset : ℕ) → arriving_at_client id o ≡ a ∷ []
    → arriving_at_client id (granted_part offset o) ≡ raised offset a ∷ []
part_raised id None a offset e = absurd (no_one a e)
part_raised id (Some part) a offset e = ap (λ x. raised offset x ∷ []) (one_is _ a e)

state_raised : (id : CallId) (state : State) (a : Arriving) (now offset : ℕ) → arriving_at_server id state ≡ a ∷ []
    → arriving_at_server id (state_granted now offset state) ≡ raised offset a ∷ []
state_raised id (Receiving service part base count) a now offset e = ap (λ x. raised offset x ∷ []) (one_is _ a e)
state_raised id (Held response release) a now offset e = absurd (no_one a e)
state_raised id (Replying response out order base count) a now offset e = absurd (no_one a e)
state_raised id (Buried until) a now offset e = absurd (no_one a e)

module _ (s : Settings) where
  client_raised : (id : CallId) (o : Option ClientRow) (w : Work) (a : Arriving) (offset prio : ℕ) → client_arrival id o ≡ a ∷ []
      → client_arrival id (get (client_is_granted s id (body.Grant offset prio) offset o w).host.clients id) ≡ raised offset a ∷ []
  client_raised id None w a offset prio e = absurd (no_one a e)
  client_raised id (Some r) w a offset prio e =
      ap (client_arrival id) (get-set_row w.host.clients id (Some (client_granted (now_of w) offset r))) ∙ part_raised id r.part a offset e

  server_raised : (id : CallId) (o : Option ServerRow) (w : Work) (a : Arriving) (offset prio : ℕ) → server_arrival id o ≡ a ∷ []
      → server_arrival id (get (server_is_granted s id (body.Grant offset prio) offset o w).host.servers id) ≡ raised offset a ∷ []
  server_raised id None w a offset prio e = absurd (no_one a e)
  server_raised id (Some row) w a offset prio e =
      ap (server_arrival id) (get-set_row w.host.servers id (Some (server_granted (now_of w) offset row))) ∙ state_raised id row.state a (now_of w) offset e

  place_raised : (p : Place) (w : Work) (a : Arriving) (offset prio : ℕ) → arrival w.host p ≡ a ∷ []
      → arrival (grants_at s p offset prio w).host p ≡ raised offset a ∷ []
  place_raised (OfClient id) w a offset prio e = client_raised id (get w.host.clients id) w a offset prio e
  place_raised (OfServer id) w a offset prio e = server_raised id (get w.host.servers id) w a offset prio e

  -- a message that arrives is the one of its row
  alone : (h : Host) (a : Arriving) → Contains (arrivals h) a → arrival h a.place ≡ a ∷ []
  alone h a c = by_list _ (arrival h a.place) (at_one arrival_things h a.place) (thing_at arrival_things h a.place a c refl) where
    by_list : (number : Option ℕ) (xs : List Arriving) → IsOne (λ (x : Arriving). x.place) (λ x. x.message.order) a.place number xs → Contains xs a
        → xs ≡ a ∷ []
    by_list number [] one d = absurd (none_in a d)
    by_list number (x ∷ []) one d = elim (at_head x a [] d) [ inl e ↦ ap (λ y. y ∷ []) e | inr none ↦ absurd (none_in a none) ]
    by_list number (x ∷ y ∷ xs) one d = absurd one

  -- what became of a message that was granted to, or didn't need it
  record Lifted (a : Arriving) (w v : Work) : Type 0 where
    pub then : Arriving
    pub here : arrival v.host a.place ≡ then ∷ []
    pub same : erased then ≡ erased a
    pub place : then.place ≡ a.place
    pub granted : IsGranted s then

  lifted : (a : Arriving) (prio : ℕ) (w : Work) → Contains (arrivals w.host) a → Lifted a w (grant_to s a prio w)
  lifted a prio w c = by_test (nat_lt a.message.granted (new_end s.window a.message)) refl where
    by_test : (b : Bool) → nat_lt a.message.granted (new_end s.window a.message) ≡ b
        → Lifted a w (cond b (grants_at s a.place (new_end s.window a.message) prio w) w)
    by_test true e = record {
      then = raised (new_end s.window a.message) a;
      here = place_raised a.place w a (new_end s.window a.message) prio (alone w.host a c);
      same = refl;
      place = refl;
      granted = omega arith;
    }
    by_test false e = record { then = a; here = alone w.host a c; same = refl; place = refl; granted = grind (arith, nat_tests, e) }

  -- all messages are those that were, but for granted ends
  all_same : (a : Arriving) (prio : ℕ) (w : Work) → Contains (arrivals w.host) a
      → map erased (arrivals (grant_to s a prio w).host) ≡ map erased (arrivals w.host)
  all_same a prio w c =
      let v = grant_to s a prio w in
      let l = lifted a prio w c in
      let o = grant_leaves s a prio w in
      let p = split arrival_things a.place w.host v.host o.clients o.servers in
      ap (map erased) (p.new ∙ ap (λ (xs : List Arriving). p.front ++ (xs ++ p.back)) l.here)
      ∙ map-append erased p.front (l.then ∷ p.back)
      ∙ ap (λ x. map erased p.front ++ (x ∷ map erased p.back)) l.same
      ∙ sym (map-append erased p.front (a ∷ p.back))
      ∙ sym (ap (map erased) (p.old ∙ ap (λ (xs : List Arriving). p.front ++ (xs ++ p.back)) (alone w.host a c)))

  -- the message of this row is granted as far as it may be
  abbrev IsGrantedAt : Host → Arriving → Type 0
  IsGrantedAt h a = (b : Arriving) × Contains (arrivals h) b × (b.place ≡ a.place) × (erased b ≡ erased a) × IsGranted s b

  -- what is so after GRANTs to these messages
  record Granting (rest : List Arriving) (w v : Work) : Type 0 where
    pub same : map erased (arrivals v.host) ≡ map erased (arrivals w.host)
    pub granted : AllByRecursion (IsGrantedAt v.host) rest
    pub others : (a : Arriving) → AllByRecursion (λ b. a.place ≡ b.place → ⊥) rest → Contains (arrivals w.host) a → Contains (arrivals v.host) a

  granting : (rest : List Arriving) (w : Work) → SendersDiffer (λ (b : Arriving). sender b.message) rest
      → AllByRecursion (λ b. Contains (arrivals w.host) b) rest → Granting rest w (granted_each s rest w)
  granting [] w differ all = record { same = refl; granted = tt; others = λ a ne c. c }
  granting (a ∷ rest) w differ all =
      let v = grant_to s a (length rest) w in
      let l = lifted a (length rest) w all.0 in
      let still = rest_arrives s w a rest (length rest) differ all in
      let g = granting rest v differ.1 (stand v rest still) in
      let there : Contains (arrivals v.host) l.then = arrives v l.then (subst (λ (p : Place). arrival v.host p ≡ l.then ∷ []) (sym l.place) l.here) in
      record {
        same = g.same ∙ all_same a (length rest) w all.0;
        granted = ((l.then, g.others l.then (apart l.then l.place v rest still) there, l.place, l.same, l.granted), g.granted);
        others = λ b ne c. g.others b ne.1 (arrival_stays s a b (length rest) w ne.0 c);
      }
    where
      stand : (v : Work) (bs : List Arriving) → AllByRecursion (λ b. (b.place ≡ a.place → ⊥) × Contains (arrivals v.host) b) bs
          → AllByRecursion (λ b. Contains (arrivals v.host) b) bs
      stand v [] all = tt
      stand v (b ∷ bs) all = (all.0.1, stand v bs all.1)

      apart : (x : Arriving) → x.place ≡ a.place → (v : Work) (bs : List Arriving)
          → AllByRecursion (λ b. (b.place ≡ a.place → ⊥) × Contains (arrivals v.host) b) bs → AllByRecursion (λ b. x.place ≡ b.place → ⊥) bs
      apart x e v [] all = tt
      apart x e v (b ∷ bs) all = (λ is. all.0.0 (sym is ∙ e), apart x e v bs all.1)

      arrives : (v : Work) (x : Arriving) → arrival v.host x.place ≡ x ∷ [] → Contains (arrivals v.host) x
      arrives v x e = at_thing arrival_things v.host x.place x (subst (λ (xs : List Arriving). Contains xs x) (sym e) (here x []))

-- ---- so none is due

module _ (s : Settings) where
  -- the choice doesn't look at granted ends
  chosen_same : (xs ys : List Arriving) → map erased ys ≡ map erased xs
      → map erased (chosen message_of s.overcommit ys) ≡ map erased (chosen message_of s.overcommit xs)
  chosen_same xs ys e =
      sym (blind ys) ∙ ap (chosen message_of s.overcommit) e ∙ blind xs where
        blind : (zs : List Arriving) → chosen message_of s.overcommit (map erased zs) ≡ map erased (chosen message_of s.overcommit zs)
        blind zs = chosen-map (λ (a : Arriving). sender a.message) (λ a. sender a.message) erased (λ a. refl) (λ a. choice_key a.message)
            (λ a. choice_key a.message) (λ a. refl) s.overcommit zs

  heads_same : (x y : Arriving) (xs ys : List Arriving) → x ∷ xs ≡ y ∷ ys → (x ≡ y) × (xs ≡ ys)
  heads_same x y xs ys e = (cc, cc)

  -- what is chosen then was chosen before, so it is granted
  all_granted_to : (h : Host) (cs ds : List Arriving) → map erased ds ≡ map erased cs → AllByRecursion (IsGrantedAt s h) cs
      → AllByRecursion (λ d. Contains (arrivals h) d) ds → AllByRecursion (IsGranted s) ds
  all_granted_to h cs [] e granted all = tt
  all_granted_to h [] (d ∷ ds) e granted all = absurd cc
  all_granted_to h (c ∷ cs) (d ∷ ds) e granted all =
      let both = heads_same (erased d) (erased c) (map erased ds) (map erased cs) e in
      let b = granted.0 in
      let is : b.0 ≡ d = one_thing arrival_things h b.0 d b.1 all.0 (b.2 ∙ sym (ap (λ (x : Arriving). x.place) both.0)) in
      (subst (IsGranted s) is b.4, all_granted_to h cs ds both.1 granted.1 all.1)

  none_from : (n r : ℕ) (ds : List Arriving) → AllByRecursion (IsGranted s) ds → grants_from message_of s.window n r ds ≡ []
  none_from n r [] all = refl
  none_from n r (d ∷ ds) all =
      let no : nat_lt d.message.granted (new_end s.window d.message) ≡ false = grind (arith, nat_tests, all.0) in
      rw no (none_from n (suc r) ds all.1)

  pub grants_rest : (w : Work) → due_grants s (gives_grants s w).host ≡ []
  grants_rest w =
      let cs = chosen message_of s.overcommit (arrivals w.host) in
      subst (λ (v : Work). due_grants s v.host ≡ []) (sym (grants_each s w)) (
      let v = granted_each s cs w in
      let g = granting s cs w (chosen_differ s.overcommit w) (chosen_arrive s.overcommit w) in
      let ds = chosen message_of s.overcommit (arrivals v.host) in
      none_from (length ds) 0 ds (all_granted_to v.host cs ds (chosen_same (arrivals w.host) (arrivals v.host) g.same) g.granted (chosen_arrive s.overcommit v))
      )

  -- each step ends so
  pub ended_rests : (w : Work) → due_grants s (ended s w).host ≡ []
  ended_rests w =
      let v = gives_grants s w in
      ap (λ (xs : List Arriving). grants message_of s.overcommit s.window xs) (pumps_stay s (most_packets - length (packets_in v.told)) v) ∙ grants_rest w
