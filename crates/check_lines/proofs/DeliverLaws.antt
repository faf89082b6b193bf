-- A packet that is delivered.
use Rattle.std.proofs.Common.{◌≡◌, Bool, true, false, cond, ◌&&◌, Option, Some, None, [], ◌∷◌, refl, sym, ap, ◌∙◌, subst}
use Rattle.std.specs.Prelude.{nat_le, if◌then◌else◌}
use Rattle.std.specs.Option.{option_map, option_map_or}
use Rattle.std.proofs.lemmas.Bool.{eq-eqb}
use Rattle.plain_sets.specs.Maps.{get}
use Rattle.homa_plain.specs.declared.id.CallId.{CallId}
use Rattle.homa_plain.specs.declared.packet.Body.{Body}
use Rattle.homa_plain.specs.declared.packet.Body.TheVariants as body
use Rattle.homa_plain.specs.Calls.{is_host, is_call}
use Rattle.homa_plain.specs.Wire.{is_client, is_server}
use Rattle.trace_rules.specs.View.{View, Sent, Ends, no_ends, is_server_of, Called}
use Rattle.trace_rules.specs.Seen.{delivered, is_forgotten}
use Rattle.trace_rules.specs.Parts.{opened, made_whole}
use Rattle.check_call.specs.Spots as spots
use Rattle.check_call.specs.Spots.{spot, Undo, counts_at, counted_spot, delivered_spot, due_if_refused, due_spot}
use Rattle.check_call.specs.Steps.{undo_of}
use Rattle.check_call.proofs.Block.{spot_delivered, due_delivered}
use Rattle.check_call.specs.declared.call.Call.{Call}
use Rattle.check_call.specs.declared.packet.Packet.{Packet}
use Rattle.check_call.specs.Kept.{packet_of, StandsFor, Beside}
use Rattle.check_call.specs.Calls.{IsDelivery, ran_in, ends_of, beside}
use Rattle.check_lines.specs.declared.block.Delivery.{Delivery}
use Rattle.check_lines.specs.declared.trace.Trace.{Trace}
use Rattle.check_lines.specs.Traces.{Keeps, IsDelivered, AreSpots, IsCallAt, IsAbsent, call_at, beside_at, due_of, lives_in, life_in}
use Rattle.check_lines.specs.Changes.{Changes, IsAfter}
use Rattle.check_lines.proofs.KeepLaws.{found_call}
use Rattle.check_lines.proofs.RunLaws.{ran_is}
use Rattle.check_lines.proofs.TakeLaws.{keeps_delivery, keeps_lines}

pub some_is : {A : Type 0} (x y : A) → Some x ≡ Some y → x ≡ y
some_is x y e = cc

pub is_delivery : (v : View) (t : Trace) (c : Call) (k : Packet) (p : Sent) → Keeps v t → v.place ≡ t.place → k ≡ packet_of p
    → call_at t p.id ≡ Some c → IsDelivery v c k p t.place (lives_in t p.id c.server) t.settings.unsched
is_delivery v t c k p keeps place e here =
    let was = found_call v t p.id c keeps here in
    record {
      packet = e;
      called = was.called;
      size = was.size;
      ran = ran_is v t p.id c c.server keeps was ∙ ap (λ b. b && ran_in c (life_in t c.server)) (eq-eqb c.server.0 c.server.0 refl);
      place = place;
      unsched = ap (λ s. s.unsched) keeps.settings;
    }

-- the delivery of a packet changes its call's spot alone
pub delivery_changes : (v : View) (p : Sent) → Changes v (delivered v (Some p)) p.id (delivered_spot v p)
delivery_changes v p = record {
  same = record { settings = refl; tick = refl; leads = refl; firsts = refl; restarts = refl; calls = refl; packets = refl; runs = refl };
  spots = spot_delivered v p;
}

-- ---- a packet of a call that wasn't made

none_counts : (v : View) (p : Sent) (s : spots.Spot) → get v.calls p.id ≡ None → counts_at v p s ≡ false
none_counts v p s e = by_parts (is_server p.role) (is_host p.to p.id.client) (is_server_of v p.id p.from)
    (ap (λ (o : Option Called). option_map_or (λ c. is_host c.server p.from) o false) e) where
      by_parts : (a b c : Bool) → c ≡ false → (a && b && c && option_map_or (λ latest. nat_le latest p.inc) s.live false) ≡ false
      by_parts true true c e = ap (λ x. x && option_map_or (λ latest. nat_le latest p.inc) s.live false) e
      by_parts true false c e = refl
      by_parts false b c e = refl

none_counted : (v : View) (p : Sent) (s : spots.Spot) → get v.calls p.id ≡ None → counted_spot v p s ≡ s
none_counted v p s e = ap (λ b. if b then spots.heard_spot p s else s) (none_counts v p s e)

none_admitted : (v : View) (p : Sent) (what : Body) (s : spots.Spot) → get v.calls p.id ≡ None → spots.admitted_spot v p what s ≡ s
none_admitted v p (body.Data size offset version service ack) s e =
    elim (is_client p.role) as (λ b. (if b then spots.request_spot v p offset (get v.calls p.id) s else spots.response_spot v p size offset s) ≡ s) [
      | true ↦ ap (λ (o : Option Called). spots.request_spot v p offset o s) e
      | false ↦ ap (λ b. if b then record s { response = Some (spots.part_with v p offset (opened p.to p.from size v.settings.unsched) s.response) }
          else s) (none_counts v p s e)
    ]
none_admitted v p other s e = refl

none_due : (v : View) (p : Sent) (what : Body) (due : Ends) (s : spots.Spot) → get v.calls p.id ≡ None → spots.due_with v p what due s ≡ due
none_due v p (body.Data size offset version service ack) due s e =
    elim (is_client p.role) as (λ b. (if b then spots.due_request v p offset (get v.calls p.id) due s else spots.due_response v p size offset due s) ≡ due) [
      | true ↦ ap (λ (o : Option Called). spots.due_request v p offset o due s) e
      | false ↦ ap (λ b. if b then record due
          { dones = made_whole p.id s.response (spots.part_with v p offset (opened p.to p.from size v.settings.unsched) s.response) } else due)
          (none_counts v p s e)
    ]
none_due v p other due s e = refl

pub none_delivered : (v : View) (p : Sent) (s : spots.Spot) → get v.calls p.id ≡ None → delivered_spot v p s ≡ s
none_delivered v p s e = none_admitted v p p.body (counted_spot v p s) e ∙ none_counted v p s e

none_refused_due : (v : View) (p : Sent) (s : spots.Spot) → get v.calls p.id ≡ None → due_if_refused v p s ≡ no_ends
none_refused_due v p s e = ap (λ b. if b then record no_ends { forgotten = if is_forgotten p.body then p.id ∷ [] else [] } else no_ends) (none_counts v p s e)

none_spot_due : (v : View) (p : Sent) (s : spots.Spot) → get v.calls p.id ≡ None → due_spot v p s ≡ no_ends
none_spot_due v p s e = none_due v p p.body (due_if_refused v p s) (counted_spot v p s) e ∙ none_refused_due v p s e

-- each spot stays
still_none : (v : View) (p : Sent) (q : CallId) → get v.calls p.id ≡ None → spot (delivered v (Some p)).now q ≡ spot v.now q
still_none v p q e =
    spot_delivered v p q
    ∙ elim (is_call q p.id) as (λ b. cond b (delivered_spot v p (spot v.now q)) (spot v.now q) ≡ spot v.now q)
    [ true ↦ none_delivered v p (spot v.now q) e | false ↦ refl ]

-- what is kept, where a packet came of a call that wasn't made
pub none_after : (v : View) (t u : Trace) (p : Sent) (d : Delivery) → Keeps v t → v.now.due ≡ no_ends → call_at t p.id ≡ None
    → u ≡ record t { delivery = u.delivery } → u.delivery ≡ Some d
    → d.packet ≡ packet_of p → d.runs ≡ false → d.done ≡ false → d.forgotten ≡ false → IsAfter v (Some p) u
none_after v t u p d keeps due here e is packet runs done forgotten =
    let absent : IsAbsent v p.id = subst (IsCallAt v p.id) here (keeps.calls p.id) in
    let none = absent.called in
    let there : beside_at u p.id ≡ None = ap (λ z. beside_at z p.id) e ∙ ap (option_map (beside p.id.client t.settings.resend)) here in
    record {
      kept = keeps_lines v (delivered v (Some p)) u (delivery_changes v p).same (λ q. still_none v p q none) (keeps_delivery v t u e keeps);
      undo = subst (λ x. IsDelivered u x (Some (undo_of v p))) (sym is) (record {
        packet = packet;
        spots = subst (λ o. AreSpots o d (undo_of v p)) (sym there) (none_counted v p (spot v.now p.id) none ∙ absent.now, absent.now);
        due = none_refused_due v p (spot v.now p.id) none ∙ (λ i. ends_of p.id false false (sym forgotten i));
      });
      due = due_delivered v p due
          ∙ (none_spot_due v p (spot v.now p.id) none ∙ ((λ i. ends_of d.packet.id (sym runs i) (sym done i) (sym forgotten i)) ∙ ap due_of (sym is)));
    }

-- ---- a packet of a call that was made

pub some_after : (v : View) (u : Trace) (p : Sent) (d : Delivery) (b : Beside) → Keeps (delivered v (Some p)) u → v.now.due ≡ no_ends
    → beside_at u p.id ≡ Some b → u.delivery ≡ Some d → d.packet ≡ packet_of p
    → StandsFor b d.refused (counted_spot v p (spot v.now p.id)) → StandsFor b d.stale (spot v.now p.id)
    → due_spot v p (spot v.now p.id) ≡ ends_of p.id d.runs d.done d.forgotten → due_if_refused v p (spot v.now p.id) ≡ ends_of p.id false false d.forgotten
    → IsAfter v (Some p) u
some_after v u p d b keeps due there is packet refused stale ends later =
    record {
      kept = keeps;
      undo = subst (λ x. IsDelivered u x (Some (undo_of v p))) (sym is)
          (record { packet = packet; spots = subst (λ o. AreSpots o d (undo_of v p)) (sym there) (refused, stale); due = later });
      due = due_delivered v p due ∙ (ends ∙ (ap (λ (k : Packet). ends_of k.id d.runs d.done d.forgotten) (sym packet) ∙ ap due_of (sym is)));
    }
