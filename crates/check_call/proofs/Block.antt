-- The three that the lines may come to, as one of them and the call of the block's delivery.
use Rattle.std.proofs.Common.{◌≡◌, ℕ, ◌+◌, Bool, true, false, ◌&&◌, not, Option, Some, None, List, [], ◌∷◌, length, cond, refl, sym, ap, subst, ◌∙◌, Equal}
use Rattle.std.specs.Prelude.{unwrap_or, nat_lt, if◌then◌else◌}
use Rattle.std.specs.Option.{option_map}
use Rattle.plain_sets.specs.Maps.{Map, get, insert, remove}
use Rattle.plain_sets.proofs.MapLaws.{get-insert, get-remove}
use Rattle.homa_plain.specs.declared.id.CallId.{CallId}
use Rattle.homa_plain.specs.declared.id.HostId.{HostId}
use Rattle.homa_plain.specs.declared.packet.Body.{Body}
use Rattle.homa_plain.specs.declared.packet.Body.TheVariants as body
use Rattle.homa_plain.specs.Wire.{is_client, is_server}
use Rattle.homa_plain.specs.Calls.{is_host, is_call, call_cmp}
use Rattle.trace_rules.specs.Parts.{Part, Parts, opened, made_whole}
use Rattle.trace_rules.specs.View.{Called, Sent, Ends, no_ends, Progress, View, has_run, resends_of, counts}
use Rattle.trace_rules.specs.Seen.{in_each, begun, is_unknown, is_forgotten, heard, counted, to_server, to_client, admitted, delivered, refused, stale}
use Rattle.trace_rules.specs.Seen.{is_delivery_to}
use Rattle.homa_plain.proofs.CallOrder.{call_total, calls_are}
use Rattle.check_call.specs.Spots.{Spot, spot, IsEach, only, counts_at, heard_spot, counted_spot, part_with, request_spot, response_spot}
use Rattle.check_call.specs.Spots.{admitted_spot, delivered_spot, due_if_refused, due_request, due_response, due_with, due_spot, Undo, IsSame, IsBut}
use Rattle.check_call.specs.Spots.{IsUndo, undo_each}
use Rattle.check_call.specs.Steps.{undo_of}
use Rattle.check_call.proofs.Each.{made, by_field, same_both, resends-insert}

-- each spot changes by itself
abbrev Spots : (Progress → Progress) → (CallId → Spot → Spot) → Type 0
Spots f at = (m : Progress) (q : CallId) → spot (f m) q ≡ at q (spot m q)

-- it is enough to show it of one call, and that nothing else changes
by_call : (f : Progress → Progress) (id : CallId) (g : Spot → Spot) (m : Progress) → spot (f m) id ≡ g (spot m id)
    → ((q : CallId) → is_call q id ≡ false → spot (f m) q ≡ spot m q)
    → (q : CallId) → spot (f m) q ≡ only id g q (spot m q)
by_call f id g m here there q =
    elim (is_call q id) as (λ b. is_call q id ≡ b → spot (f m) q ≡ cond b (g (spot m q)) (spot m q))
    [ true ↦ λ t. subst (λ c. spot (f m) c ≡ g (spot m c)) (sym ((calls_are q id).0 t)) here | false ↦ there q ] refl

tied : (id : CallId) → is_call id id ≡ true
tied id = (calls_are id id).1 refl

-- a look-up after an insertion
module _ {X : Type 0} (id : CallId) (x : X) where
  here-insert : (xs : Map call_cmp X) → get (insert xs id x) id ≡ Some x
  here-insert xs = get-insert call_total xs id x id ∙ ap (λ b. cond b (Some x) (get xs id)) (tied id)

  there-insert : (xs : Map call_cmp X) (q : CallId) → is_call q id ≡ false → get (insert xs id x) q ≡ get xs q
  there-insert xs q e = get-insert call_total xs id x q ∙ ap (λ b. cond b (Some x) (get xs q)) e

removed_if : (b : Bool) (parts : Parts) (id q : CallId) (test : Bool) → is_call q id ≡ test
    → get (if b then remove parts id else parts) q ≡ cond test (cond b None (get parts q)) (get parts q)
removed_if true parts id q test e = get-remove call_total parts id q ∙ ap (λ t. cond t None (get parts q)) e
removed_if false parts id q test e = same_both test _

-- ---- a delivery

renewed_if : (b : Bool) (m : Progress) (id q : CallId) (test : Bool) → is_call q id ≡ test
    → resends_of (record m { resends = if b then m.resends else insert m.resends id [] }) q ≡ cond test (cond b (resends_of m q) []) (resends_of m q)
renewed_if true m id q test e = same_both test _
renewed_if false m id q test e = resends-insert m id q [] ∙ ap (λ t. cond t [] (resends_of m q)) e

spot_heard : (p : Sent) (m : Progress) (q : CallId) → spot (heard p m) q ≡ only p.id (heard_spot p) q (spot m q)
spot_heard p m = by_call (heard p) p.id (heard_spot p) m
    (made _ _ (here-insert p.id p.inc m.live) refl (removed_if (nat_lt (unwrap_or (get m.live p.id) 0) p.inc) m.responses p.id p.id true (tied p.id))
    (renewed_if (is_unknown p.body) m p.id p.id true (tied p.id)))
    (λ q e. made _ _ (there-insert p.id p.inc m.live q e) refl (removed_if (nat_lt (unwrap_or (get m.live p.id) 0) p.inc) m.responses p.id q false e)
    (renewed_if (is_unknown p.body) m p.id q false e))

-- a choice that is the same at one call is made there
chosen : (b : Bool) (f : Progress → Progress) (id : CallId) (g : Spot → Spot) (m : Progress) → ((q : CallId) → spot (f m) q ≡ only id g q (spot m q))
    → (q : CallId) → spot (if b then f m else m) q ≡ only id (λ s. if b then g s else s) q (spot m q)
chosen true f id g m is q = is q
chosen false f id g m is q = same_both (is_call q id) _

-- the choice may look at that call's spot
moved_choice : (id : CallId) (b : Spot → Bool) (g : Spot → Spot) (m : Progress) (q : CallId)
    → only id (λ s. if b (spot m id) then g s else s) q (spot m q) ≡ only id (λ s. if b s then g s else s) q (spot m q)
moved_choice id b g m q =
    elim (is_call q id) as
    (λ t. is_call q id ≡ t → cond t (if b (spot m id) then g (spot m q) else spot m q) (spot m q) ≡ cond t
    (if b (spot m q) then g (spot m q) else spot m q) (spot m q))
    [ true ↦ λ e. ap (λ c. if b (spot m c) then g (spot m q) else spot m q) (sym ((calls_are q id).0 e)) | false ↦ λ e. refl ] refl

module _ (v : View) (p : Sent) where
  pub spot_counted : (m : Progress) (q : CallId) → spot (counted v p m) q ≡ only p.id (counted_spot v p) q (spot m q)
  spot_counted m q = chosen (counts v m p) (heard p) p.id (heard_spot p) m (spot_heard p m) q ∙ moved_choice p.id (counts_at v p) (heard_spot p) m q

  due_counted : (m : Progress) → m.due ≡ no_ends → (counted v p m).due ≡ due_if_refused v p (spot m p.id)
  due_counted m e =
      elim (counts v m p) as
      (λ b. (if b then heard p m else m).due ≡ (if b then (record no_ends { forgotten = if is_forgotten p.body then p.id ∷ [] else [] }) else no_ends))
      [ true ↦ ap (λ (d : Ends). record d { forgotten = if is_forgotten p.body then p.id ∷ [] else [] }) e | false ↦ e ]

  came_counted : (m : Progress) → (counted v p m).came ≡ m.came
  came_counted m = elim (counts v m p) as (λ b. (if b then heard p m else m).came ≡ m.came) [ true ↦ refl | false ↦ refl ]

  -- a part takes the bytes
  with_request : (part : Option Part → Part) (m : Progress) → Progress
  with_request part m =
      let after = part (get m.requests p.id) in
      record m { requests = insert m.requests p.id after; due = record m.due { runs = made_whole p.id (get m.requests p.id) after } }

  spot_with_request : (part : Option Part → Part) (m : Progress) (q : CallId)
      → spot (with_request part m) q ≡ only p.id (λ s. record s { request = Some (part s.request) }) q (spot m q)
  unfolding with_request
  spot_with_request part m = by_call (with_request part) p.id (λ s. record s { request = Some (part s.request) }) m
      (made _ _ refl (here-insert p.id (part (get m.requests p.id)) m.requests) refl refl)
      (λ q e. made _ _ refl (there-insert p.id (part (get m.requests p.id)) m.requests q e) refl refl)

  with_response : (part : Option Part → Part) (m : Progress) → Progress
  with_response part m =
      let after = part (get m.responses p.id) in
      record m { responses = insert m.responses p.id after; due = record m.due { dones = made_whole p.id (get m.responses p.id) after } }

  spot_with_response : (part : Option Part → Part) (m : Progress) (q : CallId)
      → spot (with_response part m) q ≡ only p.id (λ s. record s { response = Some (part s.response) }) q (spot m q)
  unfolding with_response
  spot_with_response part m = by_call (with_response part) p.id (λ s. record s { response = Some (part s.response) }) m
      (made _ _ refl refl (here-insert p.id (part (get m.responses p.id)) m.responses) refl)
      (λ q e. made _ _ refl refl (there-insert p.id (part (get m.responses p.id)) m.responses q e) refl)

  spot_request : (offset : ℕ) (o : Option Called) (m : Progress) (q : CallId)
      → spot (to_server v p offset m o) q ≡ only p.id (request_spot v p offset o) q (spot m q)
  unfolding with_request
  spot_request offset None m q = same_both (is_call q p.id) _
  spot_request offset (Some c) m q =
      let part : Option Part → Part = part_with v p offset (opened c.server p.id.client (length c.request) v.settings.unsched) in
      chosen (is_host p.to c.server && not (has_run v c.server p.id)) (with_request part) p.id (λ s. record s { request = Some (part s.request) }) m
      (spot_with_request part m) q

  spot_response : (size offset : ℕ) (m : Progress) (q : CallId) → spot (to_client v p size offset m) q ≡ only p.id (response_spot v p size offset) q (spot m q)
  unfolding with_response
  spot_response size offset m q =
      let part : Option Part → Part = part_with v p offset (opened p.to p.from size v.settings.unsched) in
      chosen (counts v m p) (with_response part) p.id (λ s. record s { response = Some (part s.response) }) m (spot_with_response part m) q
      ∙ moved_choice p.id (counts_at v p) (λ s. record s { response = Some (part s.response) }) m q

  spot_admitted : (what : Body) (m : Progress) (q : CallId) → spot (admitted v p m what) q ≡ only p.id (admitted_spot v p what) q (spot m q)
  spot_admitted (body.Data size offset version service ack) m q =
      elim (is_client p.role) as (λ b. spot (if b then to_server v p offset m (get v.calls p.id) else to_client v p size offset m) q
      ≡ only p.id (λ s. if b then request_spot v p offset (get v.calls p.id) s else response_spot v p size offset s) q (spot m q))
      [ true ↦ spot_request offset (get v.calls p.id) m q | false ↦ spot_response size offset m q ]
  spot_admitted other m q = same_both (is_call q p.id) _

  due_admitted : (what : Body) (m : Progress) → (admitted v p m what).due ≡ due_with v p what m.due (spot m p.id)
  unfolding with_request with_response
  due_admitted (body.Data size offset version service ack) m =
      elim (is_client p.role) as (λ b. (if b then to_server v p offset m (get v.calls p.id) else to_client v p size offset m).due
      ≡ (if b then due_request v p offset (get v.calls p.id) m.due (spot m p.id) else due_response v p size offset m.due (spot m p.id)))
      [ true ↦ by_call_line (get v.calls p.id) | false ↦ by_test (counts v m p) ]
    where
      by_call_line : (o : Option Called) → (to_server v p offset m o).due ≡ due_request v p offset o m.due (spot m p.id)
      by_call_line None = refl
      by_call_line (Some c) = of_test (is_host p.to c.server && not (has_run v c.server p.id)) where
        of_test : (b : Bool) → (if b then with_request (part_with v p offset (opened c.server p.id.client (length c.request) v.settings.unsched)) m else m).due
            ≡ (if b then record m.due {
              runs = made_whole p.id (get m.requests p.id)
                  (part_with v p offset (opened c.server p.id.client (length c.request) v.settings.unsched) (get m.requests p.id));
            } else m.due)
        of_test true = refl
        of_test false = refl

      by_test : (b : Bool) → (if b then with_response (part_with v p offset (opened p.to p.from size v.settings.unsched)) m else m).due
          ≡ (if b then record m.due {
            dones = made_whole p.id (get m.responses p.id)
                (part_with v p offset (opened p.to p.from size v.settings.unsched) (get m.responses p.id));
          } else m.due)
      by_test true = refl
      by_test false = refl
  due_admitted other m = refl

-- ---- the block

-- a block begins
pub undo_begun : (v : View) → IsUndo (begun v) None
undo_begun v = (record { spots = λ q. refl; came = refl; due = refl }, record { spots = λ q. refl; came = refl; due = refl }, refl)

-- two changes of one call
twice : (id : CallId) (f g : Spot → Spot) (q : CallId) (s : Spot) → only id g q (only id f q s) ≡ only id (λ t. g (f t)) q s
twice id f g q s = elim (is_call q id) as (λ b. cond b (g (cond b (f s) s)) (cond b (f s) s) ≡ cond b (g (f s)) s) [ true ↦ refl | false ↦ refl ]

at_itself : (id : CallId) (f : Spot → Spot) (s : Spot) → only id f id s ≡ f s
at_itself id f s = ap (λ b. cond b (f s) s) (tied id)

-- what is taken back is what was there
back : (id : CallId) (f : Spot → Spot) (m : Progress) (q : CallId) (s : Spot) → s ≡ only id f q (spot m q) → spot m q ≡ only id (λ _. spot m id) q s
back id f m q s e =
    elim (is_call q id) as (λ b. is_call q id ≡ b → spot m q ≡ cond b (spot m id) s)
    [ true ↦ λ t. ap (spot m) ((calls_are q id).0 t) | false ↦ λ t. sym (e ∙ ap (λ b. cond b (f (spot m q)) (spot m q)) t) ] refl

swapped : (id : CallId) (f g : Spot → Spot) (m : Progress) (q : CallId) (r s : Spot) → r ≡ only id f q (spot m q) → s ≡ only id g q (spot m q)
    → r ≡ only id (λ _. f (spot m id)) q s
swapped id f g m q r s e h =
    elim (is_call q id) as (λ b. is_call q id ≡ b → r ≡ cond b (f (spot m id)) s) [
      | true ↦ λ t. e ∙ ap (λ b. cond b (f (spot m q)) (spot m q)) t ∙ ap (λ c. f (spot m c)) ((calls_are q id).0 t)
      | false ↦ λ t. e ∙ ap (λ b. cond b (f (spot m q)) (spot m q)) t ∙ sym (h ∙ ap (λ b. cond b (g (spot m q)) (spot m q)) t)
    ] refl

-- a packet is delivered
module _ (v : View) (p : Sent) where
  abbrev fresh : Progress
  fresh = record v.now { came = Some p }

  pub spot_delivered : (q : CallId) → spot (delivered v (Some p)).now q ≡ only p.id (delivered_spot v p) q (spot v.now q)
  spot_delivered q = spot_admitted v p p.body (counted v p fresh) q ∙ ap (only p.id (admitted_spot v p p.body) q) (spot_counted v p fresh q)
      ∙ twice p.id (counted_spot v p) (admitted_spot v p p.body) q (spot v.now q)

  pub due_delivered : v.now.due ≡ no_ends → (delivered v (Some p)).now.due ≡ due_spot v p (spot v.now p.id)
  due_delivered e =
      due_admitted v p p.body (counted v p fresh)
      ∙ ap (λ (d : Ends). due_with v p p.body d (spot (counted v p fresh) p.id)) (due_counted v p fresh e)
      ∙ ap (due_with v p p.body (due_if_refused v p (spot v.now p.id))) (spot_counted v p fresh p.id ∙ at_itself p.id (counted_spot v p) (spot v.now p.id))

  came_admitted : (what : Body) (m : Progress) → (admitted v p m what).came ≡ m.came
  unfolding with_request with_response
  came_admitted (body.Data size offset version service ack) m =
      elim (is_client p.role) as (λ b. (if b then to_server v p offset m (get v.calls p.id) else to_client v p size offset m).came ≡ m.came)
      [ true ↦ of_called (get v.calls p.id) | false ↦ of_test (counts v m p) ]
    where
      of_called : (o : Option Called) → (to_server v p offset m o).came ≡ m.came
      of_called None = refl
      of_called (Some c) = kept (is_host p.to c.server && not (has_run v c.server p.id)) where
        kept : (b : Bool)
            → (if b then with_request v p (part_with v p offset (opened c.server p.id.client (length c.request) v.settings.unsched)) m else m).came ≡ m.came
        kept true = refl
        kept false = refl

      of_test : (b : Bool) → (if b then with_response v p (part_with v p offset (opened p.to p.from size v.settings.unsched)) m else m).came ≡ m.came
      of_test true = refl
      of_test false = refl
  came_admitted other m = refl

  pub undo_delivered : IsUndo v None → v.now.due ≡ no_ends → IsUndo (delivered v (Some p)) (Some (undo_of v p))
  undo_delivered same due = record {
    refused = λ q. swapped p.id (counted_spot v p) (delivered_spot v p) v.now q _ _ (spot_counted v p fresh q) (spot_delivered q);
    stale = λ q. same.1.spots q ∙ back p.id (delivered_spot v p) v.now q _ (spot_delivered q);
    came = came_admitted p.body (counted v p fresh) ∙ came_counted v p fresh;
    came_if_refused = came_counted v p fresh;
    due_if_refused = due_counted v p fresh due;
    came_if_stale = same.1.came ∙ same.2;
    due_if_stale = same.1.due ∙ due;
  }

-- a change of each
module _ (change : Progress → Progress) (at : CallId → Spot → Spot) (each : IsEach change at) where
  only_each : (id : CallId) (s : Spot) (q : CallId) (t : Spot) → at q (only id (λ _. s) q t) ≡ only id (λ _. at id s) q (at q t)
  only_each id s q t =
      elim (is_call q id) as (λ b. is_call q id ≡ b → at q (cond b s t) ≡ cond b (at id s) (at q t))
      [ true ↦ λ e. ap (λ c. at c s) ((calls_are q id).0 e) | false ↦ λ e. refl ] refl

  same_each : (m n : Progress) → IsSame m n → IsSame (change m) (change n)
  same_each m n is = record {
    spots = λ q. each.spots m q ∙ ap (at q) (is.spots q) ∙ sym (each.spots n q);
    came = each.came m ∙ is.came ∙ sym (each.came n);
    due = each.due m ∙ is.due ∙ sym (each.due n);
  }

  pub undo_in_each : (v : View) (o : Option Undo) → IsUndo v o → IsUndo (in_each change v) (option_map (undo_each at) o)
  undo_in_each v None same = (same_each v.if_refused v.now same.0, same_each v.if_stale v.now same.1, each.came v.now ∙ same.2)
  undo_in_each v (Some u) is = record {
    refused = λ q. each.spots v.if_refused q ∙ ap (at q) (is.refused q) ∙ only_each u.packet.id u.refused q (spot v.now q)
        ∙ ap (only u.packet.id (λ _. at u.packet.id u.refused) q) (sym (each.spots v.now q));
    stale = λ q. each.spots v.if_stale q ∙ ap (at q) (is.stale q) ∙ only_each u.packet.id u.stale q (spot v.now q)
        ∙ ap (only u.packet.id (λ _. at u.packet.id u.stale) q) (sym (each.spots v.now q));
    came = each.came v.now ∙ is.came;
    came_if_refused = each.came v.if_refused ∙ is.came_if_refused;
    due_if_refused = each.due v.if_refused ∙ is.due_if_refused;
    came_if_stale = each.came v.if_stale ∙ is.came_if_stale;
    due_if_stale = each.due v.if_stale ∙ is.due_if_stale;
  }

-- refused: the spot of the packet's call is the one that was kept
overwritten : (id : CallId) (r t : Spot) (q : CallId) (s : Spot) → only id (λ _. t) q s ≡ only id (λ _. t) q (only id (λ _. r) q s)
overwritten id r t q s = elim (is_call q id) as (λ b. cond b t s ≡ cond b t (cond b r s)) [ true ↦ refl | false ↦ refl ]

pub undo_refused : (v : View) (u : Undo) → IsBut v u → IsBut (record v { now = v.if_refused }) u
undo_refused v u is = record {
  refused = λ q. is.refused q ∙ overwritten u.packet.id u.refused u.refused q (spot v.now q) ∙ ap (only u.packet.id (λ _. u.refused) q) (sym (is.refused q));
  stale = λ q. is.stale q ∙ overwritten u.packet.id u.refused u.stale q (spot v.now q) ∙ ap (only u.packet.id (λ _. u.stale) q) (sym (is.refused q));
  came = is.came_if_refused;
  came_if_refused = is.came_if_refused;
  due_if_refused = is.due_if_refused;
  came_if_stale = is.came_if_stale;
  due_if_stale = is.due_if_stale;
}

-- stale: nothing was delivered
pub undo_stale : (v : View) (o : Option Undo) → IsUndo v o → IsUndo (stale v) None
undo_stale v None same = (record { spots = λ q. refl; came = refl; due = refl }, record { spots = λ q. refl; came = refl; due = refl }, same.1.came ∙ same.2)
undo_stale v (Some u) is = (record { spots = λ q. refl; came = refl; due = refl }, record { spots = λ q. refl; came = refl; due = refl }, is.came_if_stale)
