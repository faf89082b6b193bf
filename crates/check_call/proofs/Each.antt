-- Each change of what rests on deliveries, call by call.
use Rattle.std.proofs.Common.{◌≡◌, ℕ, ◌+◌, Bool, true, false, ◌&&◌, not, Option, Some, None, List, [], ◌∷◌, length, cond, refl, sym, ap, subst, ◌∙◌, Equal}
use Rattle.std.specs.Prelude.{unwrap_or, if◌then◌else◌}
use Rattle.std.specs.Option.{option_map}
use Rattle.plain_sets.specs.Maps.{get, insert, remove, retain}
use Rattle.plain_sets.proofs.MapLaws.{get-insert, get-retain, get-remove}
use Rattle.homa_plain.specs.declared.id.CallId.{CallId}
use Rattle.homa_plain.specs.declared.id.HostId.{HostId}
use Rattle.homa_plain.specs.declared.packet.Body.{Body}
use Rattle.homa_plain.specs.declared.packet.Body.TheVariants as body
use Rattle.homa_plain.specs.Wire.{is_client, is_server}
use Rattle.homa_plain.specs.Calls.{is_host, is_call, call_cmp}
use Rattle.trace_rules.specs.Parts.{Part, Parts, raised, changed, changed_part}
use Rattle.trace_rules.specs.View.{Sent, Progress, View, own_tick, is_server_of, sent_last, resends_of}
use Rattle.trace_rules.specs.Seen.{renewed, started, finished, dropped, restarted, said}
use Rattle.homa_plain.proofs.CallOrder.{call_total, call_same, calls_are}
use Rattle.check_call.specs.Spots.{Spot, spot, IsEach, only, renewed_spot, started_spot, finished_spot, dropped_spot, told_spot, raised_request}
use Rattle.check_call.specs.Spots.{raised_response, said_spot, restarted_spot}

-- a spot from its four fields
pub made : (a b : Spot) → a.live ≡ b.live → a.request ≡ b.request → a.response ≡ b.response → a.resends ≡ b.resends → a ≡ b
made a b l r s t = λ i. record { live = l i; request = r i; response = s i; resends = t i }

-- a choice of spots, field by field
pub by_field : (b : Bool) (s t : Spot)
    → cond b s t ≡ record {
      live = cond b s.live t.live;
      request = cond b s.request t.request;
      response = cond b s.response t.response;
      resends = cond b s.resends t.resends;
    }
by_field true s t = refl
by_field false s t = refl

pub same_both : {A : Type 0} (b : Bool) (x : A) → x ≡ cond b x x
same_both true x = refl
same_both false x = refl

unwrapped : (b : Bool) (x : List ℕ) (o : Option (List ℕ)) → unwrap_or (cond b (Some x) o) [] ≡ cond b x (unwrap_or o [])
unwrapped true x o = refl
unwrapped false x o = refl

-- the RESENDs with those of one call
pub resends-insert : (m : Progress) (id q : CallId) (ticks : List ℕ)
    → resends_of (record m { resends = insert m.resends id ticks }) q ≡ cond (is_call q id) ticks (resends_of m q)
resends-insert m id q ticks = ap (λ o. unwrap_or o []) (get-insert call_total m.resends id ticks q) ∙ unwrapped (is_call q id) ticks (get m.resends q)

pub each_renewed : (id : CallId) → IsEach (renewed id) (only id renewed_spot)
each_renewed id = record {
  spots = λ m q. made _ _ (same_both (is_call q id) _) (same_both (is_call q id) _) (same_both (is_call q id) _) (resends-insert m id q [])
      ∙ sym (by_field (is_call q id) (renewed_spot (spot m q)) (spot m q));
  came = λ m. refl;
  due = λ m. refl;
}

pub each_started : (id : CallId) → IsEach (started id) (only id started_spot)
each_started id = record {
  spots = λ m q. made _ _ (get-insert call_total m.live id 0 q) (same_both (is_call q id) _) (same_both (is_call q id) _) (resends-insert m id q [])
      ∙ sym (by_field (is_call q id) (started_spot (spot m q)) (spot m q));
  came = λ m. refl;
  due = λ m. refl;
}

pub each_finished : (id : CallId) → IsEach (finished id) (only id finished_spot)
each_finished id = record {
  spots = λ m q. made _ _ (get-remove call_total m.live id q) (same_both (is_call q id) _) (get-remove call_total m.responses id q)
      (same_both (is_call q id) _) ∙ sym (by_field (is_call q id) (finished_spot (spot m q)) (spot m q));
  came = λ m. refl;
  due = λ m. refl;
}

-- a change of nothing
pub each_same : (id : CallId) → IsEach (λ m. m) (λ q s. s)
each_same id = record { spots = λ m q. refl; came = λ m. refl; due = λ m. refl }

-- one of two changes
pub each_cond : (b : Bool) (f g : Progress → Progress) (at by : CallId → Spot → Spot) → IsEach f at → IsEach g by
    → IsEach (λ m. if b then f m else g m) (λ q s. if b then at q s else by q s)
each_cond true f g at by x y = x
each_cond false f g at by x y = y

-- parts of which that of one call is changed
get-changed_part : (change : Part → Part) (parts : Parts) (id q : CallId) (o : Option Part) → get parts id ≡ o
    → get (changed_part change parts id o) q ≡ cond (is_call q id) (option_map change (get parts q)) (get parts q)
get-changed_part change parts id q None e =
    elim (is_call q id) as (λ b. is_call q id ≡ b → get parts q ≡ cond b (option_map change (get parts q)) (get parts q)) [
      | true ↦ λ t. let here : get parts q ≡ None = ap (get parts) ((calls_are q id).0 t) ∙ e in here ∙ sym (ap (option_map change) here)
      | false ↦ λ t. refl
    ] refl
get-changed_part change parts id q (Some p) e =
    get-insert call_total parts id (change p) q
    ∙ elim (is_call q id) as (λ b. is_call q id ≡ b → cond b (Some (change p)) (get parts q) ≡ cond b (option_map change (get parts q)) (get parts q)) [
      | true ↦ λ t. sym (ap (option_map change) (ap (get parts) ((calls_are q id).0 t) ∙ e))
      | false ↦ λ t. refl
    ] refl

get-changed : (change : Part → Part) (parts : Parts) (id q : CallId)
    → get (changed change parts id) q ≡ cond (is_call q id) (option_map change (get parts q)) (get parts q)
get-changed change parts id q = get-changed_part change parts id q (get parts id) refl

each_raised_request : (from to : HostId) (offset : ℕ) (id : CallId)
    → IsEach (λ m. record m { requests = changed (raised from to offset) m.requests id }) (only id (raised_request from to offset))
each_raised_request from to offset id = record {
  spots = λ m q. made _ _ (same_both (is_call q id) _) (get-changed (raised from to offset) m.requests id q) (same_both (is_call q id) _)
      (same_both (is_call q id) _) ∙ sym (by_field (is_call q id) (raised_request from to offset (spot m q)) (spot m q));
  came = λ m. refl;
  due = λ m. refl;
}

each_raised_response : (from to : HostId) (offset : ℕ) (id : CallId)
    → IsEach (λ m. record m { responses = changed (raised from to offset) m.responses id }) (only id (raised_response from to offset))
each_raised_response from to offset id = record {
  spots = λ m q. made _ _ (same_both (is_call q id) _) (same_both (is_call q id) _) (get-changed (raised from to offset) m.responses id q)
      (same_both (is_call q id) _) ∙ sym (by_field (is_call q id) (raised_response from to offset (spot m q)) (spot m q));
  came = λ m. refl;
  due = λ m. refl;
}

-- a RESEND is counted
each_told : (tick : ℕ) (id : CallId) → IsEach (λ m. record m { resends = insert m.resends id (tick ∷ resends_of m id) }) (only id (told_spot tick))
each_told tick id = record {
  spots = λ m q. made _ _ (same_both (is_call q id) _) (same_both (is_call q id) _) (same_both (is_call q id) _)
      (resends-insert m id q (tick ∷ resends_of m id)
      ∙ elim (is_call q id) as (λ b. is_call q id ≡ b → cond b (tick ∷ resends_of m id) (resends_of m q) ≡ cond b (tick ∷ resends_of m q) (resends_of m q))
      [ true ↦ λ t. ap (λ c. tick ∷ resends_of m c) (sym ((calls_are q id).0 t)) | false ↦ λ t. refl ] refl)
      ∙ sym (by_field (is_call q id) (told_spot tick (spot m q)) (spot m q));
  came = λ m. refl;
  due = λ m. refl;
}

-- nothing changes at a call
only_same : (id q : CallId) (s : Spot) → s ≡ only id (λ t. t) q s
only_same id q s = same_both (is_call q id) s

each_nothing : (id : CallId) → IsEach (λ m. m) (only id (λ s. s))
each_nothing id = record { spots = λ m q. only_same id q (spot m q); came = λ m. refl; due = λ m. refl }

-- one change of a call, or another
each_choice : (b : Bool) (id : CallId) (f g : Progress → Progress) (at by : Spot → Spot) → IsEach f (only id at) → IsEach g (only id by)
    → IsEach (λ m. if b then f m else g m) (only id (λ s. if b then at s else by s))
each_choice true id f g at by x y = x
each_choice false id f g at by x y = y

-- a packet is sent
pub each_said : (v : View) (p : Sent) (what : Body) → IsEach (said v p what) (only p.id (said_spot v p what))
each_said v p (body.Grant offset prio) =
    each_choice (is_server p.role) p.id _ _ (raised_request p.from p.to offset) (raised_response p.from p.to offset)
    (each_raised_request p.from p.to offset p.id) (each_raised_response p.from p.to offset p.id)
each_said v p (body.Resend from to prio) =
    each_choice (is_client p.role) p.id _ _ (told_spot (own_tick v p.id.client)) (λ s. s) (each_told (own_tick v p.id.client) p.id) (each_nothing p.id)
each_said v p (body.Data size offset version service ack) =
    each_choice (is_client p.role && not (sent_last v p.id)) p.id _ _ renewed_spot (λ s. s) (each_renewed p.id) (each_nothing p.id)
each_said v p other = each_nothing p.id

-- a server gives up a request
pub each_dropped : (v : View) (host : HostId) (id : CallId) → IsEach (dropped v host id) (only id (λ s. if is_server_of v id host then dropped_spot s else s))
each_dropped v host id =
    each_choice (is_server_of v id host) id (λ m. record m { requests = remove m.requests id }) (λ m. m) dropped_spot (λ s. s)
    (record {
      spots = λ m q. made _ _ (same_both (is_call q id) _) (get-remove call_total m.requests id q) (same_both (is_call q id) _)
          (same_both (is_call q id) _) ∙ sym (by_field (is_call q id) (dropped_spot (spot m q)) (spot m q));
      came = λ m. refl;
      due = λ m. refl;
    })
    (each_nothing id)

-- a host restarts
tied_alike : (p : CallId → Bool) (q x : CallId) → call_cmp q x ≡ Equal → p x ≡ p q
tied_alike p q x e = ap p (sym (call_same q x e))

pub each_restarted : (v : View) (host : HostId) → IsEach (restarted v host) (restarted_spot v host)
each_restarted v host = record {
  spots = λ m q. made _ _
      (get-retain call_total m.live (λ id. not (is_host id.client host)) q (tied_alike (λ id. not (is_host id.client host)) q))
      (get-retain call_total m.requests (λ id. not (is_server_of v id host)) q (tied_alike (λ id. not (is_server_of v id host)) q))
      (get-retain call_total m.responses (λ id. not (is_host id.client host)) q (tied_alike (λ id. not (is_host id.client host)) q))
      refl;
  came = λ m. refl;
  due = λ m. refl;
}
