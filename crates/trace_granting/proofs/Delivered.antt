-- The parts of messages behind the line of a delivery: one part may be new, all others stay.
use Rattle.std.proofs.Common.{◌≡◌, ℕ, ◌+◌, ◌<◌, Bool, true, false, not, ◌&&◌, cond, ◌⊎◌, Option, Some, None, length, inl, inr, refl, sym, ap, subst, ◌∙◌, arith}
use Rattle.std.specs.Prelude.{◌==◌, nat_lt, unwrap_or, slice_get}
use Rattle.std.specs.Ordering.{nat_cmp}
use Rattle.std.proofs.lemmas.Bool.{cond_both, and_parts, true≢false, false≢true, false_from_ne_true, eqb-true, cases_Bool}
use Rattle.plain_sets.specs.Maps.{get, insert, remove, len}
use Rattle.plain_sets.proofs.MapLaws.{len-empty}
use Rattle.homa_plain.specs.declared.id.CallId.{CallId}
use Rattle.homa_plain.specs.declared.id.HostId.{HostId}
use Rattle.homa_plain.specs.declared.packet.Role.TheVariants.{Client, Server}
use Rattle.homa_plain.specs.declared.packet.Body.{Body}
use Rattle.homa_plain.specs.declared.packet.Body.TheVariants as body
use Rattle.homa_plain.specs.Wire.{is_client}
use Rattle.homa_plain.specs.Calls.{is_host, is_call}
use Rattle.homa_plain.specs.Entries.{PlainDeliver}
use Rattle.homa_plain.specs.Host.{Host}
use Rattle.trace_rules.specs.Parts.{Part, Parts, opened, grown, made_whole}
use Rattle.homa_plain.specs.Timers.{Place, OfClient, OfServer}
use Rattle.trace_rules.specs.View.{View, Called, Sent, Progress, counts, has_run}
use Rattle.trace_rules.specs.Seen.{seen, begun, heard, counted, admitted, to_server, to_client}
use Rattle.homa_plain.proofs.CallOrder.{calls_are, hosts_are}
use Rattle.trace_steps.proofs.Progress.{get-set, get-gone}
use Rattle.trace_returned.proofs.Deliver.{came_only, begins_by}
use Rattle.trace_granting.proofs.Messages.{part_in}
use Rattle.trace_granting.proofs.Each.{AllParts, EachWay}
use Rattle.trace_granting.proofs.Ages.{AgedPart, part_none, part_raises}

unequal : (n : ℕ) → 0 < n → (n == 0) ≡ false
unequal n k = false_from_ne_true (n == 0) (λ e. absurd (omega (arith, k, eqb-true n 0 e)))

-- a part of which bytes were there keeps its order
grown_order : (place a b : ℕ) (p : Part) → 0 < len p.arrived → (grown place a b p).order ≡ p.order
grown_order place a b p k = ap (λ t. cond t place p.order) (unequal (len p.arrived) k)

-- the first bytes of a part give it its order
first_order : (place a b : ℕ) (host peer : HostId) (size unsched : ℕ) → (grown place a b (opened host peer size unsched)).order ≡ place
first_order place a b host peer size unsched = ap (λ (k : ℕ). cond (k == 0) place 0) (len-empty nat_cmp (Unit {0}))

pub place_other : (q id : CallId) → OfServer q ≡ OfClient id → ⊥
place_other q id e = cc

pub client_place : (q id : CallId) → OfClient q ≡ OfClient id → is_call q id ≡ true
client_place q id e = (calls_are q id).1 cc

module _ (h : Host) (v : View) (host : HostId) (n : ℕ) (p : Sent) (came : slice_get v.packets n ≡ Some p) (to : p.to ≡ host) where
  abbrev base : Progress
  base = came_only v p

  abbrev b : View
  b = begun v

  abbrev un : Progress
  un = counted (begun v) p (came_only v p)

  un_requests : (counted (begun v) p (came_only v p)).requests ≡ v.now.requests
  un_requests = cond_both (counts (begun v) (came_only v p) p) (heard p (came_only v p)) (came_only v p)
      (λ (m : Progress). m.requests ≡ v.now.requests) (λ _. refl) (λ _. refl)

  -- ---- to a server

  module _ (old_row new_row : Type 0) (role : p.role ≡ Client)
      (filled : (c : Called) → get v.calls p.id ≡ Some c → has_run v c.server p.id ≡ false → (y : Part) → get v.now.requests p.id ≡ Some y →
      0 < len y.arrived) where
    abbrev place : Place
    place = OfServer p.id

    abbrev pub NewRequest : Type 0
    NewRequest = get v.now.requests p.id ≡ None

    abbrev P : Place → Option Part → Type 0
    P = AgedPart h v host (OfServer p.id) old_row new_row (Unit {0}) (get v.now.requests p.id ≡ None)

    abbrev All : Progress → Type 0
    All = AllParts P (part_none h v host (OfServer p.id) old_row new_row (Unit {0}) (get v.now.requests p.id ≡ None))
        (part_raises h v host (OfServer p.id) old_row new_row (Unit {0}) (get v.now.requests p.id ≡ None))

    still : (q : Place) → AgedPart h v host (OfServer p.id) old_row new_row (Unit {0}) (get v.now.requests p.id ≡ None) q (part_in v.now q)
    still q = by_part (part_in v.now q) refl where
      by_part : (o : Option Part) → part_in v.now q ≡ o → P q o
      by_part None e = inl refl
      by_part (Some y) e = inr (inl (record { before = y; had = e; part = y; has = refl; order = refl; host_is = refl; why = λ _. tt }))

    base_all : All (came_only v p)
    base_all (OfClient q) = still (OfClient q)
    base_all (OfServer q) = still (OfServer q)

    heard_all : All (heard p (came_only v p))
    heard_all (OfServer q) = still (OfServer q)
    heard_all (OfClient q) =
        cond_both (nat_lt (unwrap_or (get v.now.live p.id) 0) p.inc) (remove v.now.responses p.id) v.now.responses
        (λ (parts : Parts). P (OfClient q) (get parts q))
        (λ _. subst (P (OfClient q)) (sym (get-gone v.now.responses p.id q))
        (cond_both (is_call q p.id) None (get v.now.responses q) (P (OfClient q)) (λ _. inl refl) (λ _. still (OfClient q)))) (λ _. still (OfClient q))

    un_all : All un
    un_all = cond_both (counts (begun v) (came_only v p) p) (heard p (came_only v p)) (came_only v p) All (λ _. heard_all) (λ _. base_all)

    -- the part with the bytes
    grows_part : (c : Called) (a z : ℕ) → get v.calls p.id ≡ Some c → c.server ≡ host → has_run v c.server p.id ≡ false → (o : Option Part)
        → get v.now.requests p.id ≡ o
        → P (OfServer p.id) (Some (grown v.place a z (unwrap_or o (opened c.server p.id.client (length c.request) v.settings.unsched))))
    grows_part c a z called here unrun None e =
        inr (inr (record {
          at = refl;
          why = e;
          part = grown v.place a z (opened c.server p.id.client (length c.request) v.settings.unsched);
          has = refl;
          order = first_order v.place a z c.server p.id.client (length c.request) v.settings.unsched;
          host_is = here;
        }))
    grows_part c a z called here unrun (Some y) e =
        inr (inl (record {
          before = y;
          had = e;
          part = grown v.place a z y;
          has = refl;
          order = grown_order v.place a z y (filled c called unrun y e);
          host_is = refl;
          why = λ _. tt;
        }))

    server_all : (offset : ℕ) (o : Option Called) → get v.calls p.id ≡ o → All (to_server (begun v) p offset un o)
    server_all offset None called = un_all
    server_all offset (Some c) called = cond_both (is_host p.to c.server && not (has_run (begun v) c.server p.id)) _ _ All each (λ _. un_all) where
      after : Part
      after = grown v.place offset (offset + length p.payload)
          (unwrap_or (get (counted (begun v) p (came_only v p)).requests p.id) (opened c.server p.id.client (length c.request) v.settings.unsched))

      here : is_host p.to c.server ≡ true → c.server ≡ host
      here e = sym ((hosts_are p.to c.server).0 e) ∙ to

      unrun : not (has_run v c.server p.id) ≡ true → has_run v c.server p.id ≡ false
      unrun e = by_ran (has_run v c.server p.id) e where
        by_ran : (t : Bool) → not t ≡ true → t ≡ false
        by_ran true e = absurd (false≢true e)
        by_ran false e = refl

      grows : (is_host p.to c.server && not (has_run (begun v) c.server p.id)) ≡ true → P (OfServer p.id) (Some after)
      grows e =
          let k = and_parts (is_host p.to c.server) (not (has_run v c.server p.id)) e in
          subst (λ o. P (OfServer p.id)
          (Some (grown v.place offset (offset + length p.payload)
          (unwrap_or o (opened c.server p.id.client (length c.request) v.settings.unsched))))) (sym (ap (λ (x : Parts). get x p.id) un_requests))
          (grows_part c offset (offset + length p.payload) called (here k.0) (unrun k.1) (get v.now.requests p.id) refl)

      each : (is_host p.to c.server && not (has_run (begun v) c.server p.id)) ≡ true
          → All (record un { requests = insert un.requests p.id after; due = record un.due { runs = made_whole p.id (get un.requests p.id) after } })
      each e (OfClient q) = un_all (OfClient q)
      each e (OfServer q) = subst (P (OfServer q)) (sym (get-set un.requests p.id after q)) (by_call (is_call q p.id) refl) where
        by_call : (t : Bool) → is_call q p.id ≡ t → P (OfServer q) (cond t (Some after) (get un.requests q))
        by_call false f = un_all (OfServer q)
        by_call true f = subst (λ (x : CallId). P (OfServer x) (Some after)) (sym ((calls_are q p.id).0 f)) (grows e)

    admitted_all : (what : Body) → All (admitted (begun v) p un what)
    admitted_all (body.Data size offset version service ack) =
        cond_both (is_client p.role) _ _ All (λ _. server_all offset (get v.calls p.id) refl) (λ e. absurd (true≢false (sym (ap is_client role) ∙ e)))
    admitted_all (body.Grant offset prio) = un_all
    admitted_all (body.Resend from to prio) = un_all
    admitted_all body.Busy = un_all
    admitted_all (body.Cutoffs cutoffs) = un_all
    admitted_all (body.Unknown reason) = un_all
    admitted_all body.NeedAck = un_all
    admitted_all (body.Ack more) = un_all

    pub to_server_parts : EachWay P (part_none h v host (OfServer p.id) old_row new_row (Unit {0}) (get v.now.requests p.id ≡ None))
        (part_raises h v host (OfServer p.id) old_row new_row (Unit {0}) (get v.now.requests p.id ≡ None)) (seen v (PlainDeliver n))
    to_server_parts =
        let z = begins_by v n p came in
        record { now = subst All (sym z.now) (admitted_all p.body); if_refused = subst All (sym z.refused) un_all }

  -- ---- to a client

  -- the packet counts, and is of a later life than all before
  abbrev pub counting : Bool
  counting = counts (begun v) (came_only v p) p

  abbrev pub later : Bool
  later = nat_lt (unwrap_or (get v.now.live p.id) 0) p.inc

  abbrev pub OldResponse : Type 0
  OldResponse = counts (begun v) (came_only v p) p ≡ true → nat_lt (unwrap_or (get v.now.live p.id) 0) p.inc ≡ true → ⊥

  abbrev pub NewResponse : Type 0
  NewResponse = (counts (begun v) (came_only v p) p ≡ true) × ((get v.now.responses p.id ≡ None) ⊎ (nat_lt (unwrap_or (get v.now.live p.id) 0) p.inc ≡ true))

  module _ (old_row new_row : Type 0) (role : p.role ≡ Server) (filled : (y : Part) → get v.now.responses p.id ≡ Some y → 0 < len y.arrived) where
    abbrev R : Place → Option Part → Type 0
    R = AgedPart h v host (OfClient p.id) old_row new_row OldResponse NewResponse

    abbrev Every : Progress → Type 0
    Every = AllParts R (part_none h v host (OfClient p.id) old_row new_row OldResponse NewResponse)
        (part_raises h v host (OfClient p.id) old_row new_row OldResponse NewResponse)

    stays : (q : Place) → (q ≡ OfClient p.id → OldResponse) → AgedPart h v host (OfClient p.id) old_row new_row OldResponse NewResponse q (part_in v.now q)
    stays q why = by_part (part_in v.now q) refl where
      by_part : (o : Option Part) → part_in v.now q ≡ o → R q o
      by_part None e = inl refl
      by_part (Some y) e = inr (inl (record { before = y; had = e; part = y; has = refl; order = refl; host_is = refl; why = why }))

    uncounted_every : counting ≡ false → Every (came_only v p)
    uncounted_every e (OfClient q) = stays (OfClient q) (λ _ c _. true≢false (sym c ∙ e))
    uncounted_every e (OfServer q) = stays (OfServer q) (λ f. absurd (place_other q p.id f))

    heard_every : Every (heard p (came_only v p))
    heard_every (OfServer q) = stays (OfServer q) (λ f. absurd (place_other q p.id f))
    heard_every (OfClient q) =
        cond_both (nat_lt (unwrap_or (get v.now.live p.id) 0) p.inc) (remove v.now.responses p.id) v.now.responses
        (λ (parts : Parts). R (OfClient q) (get parts q))
        (λ _. subst (R (OfClient q)) (sym (get-gone v.now.responses p.id q))
        (cond_both (is_call q p.id) None (get v.now.responses q) (R (OfClient q)) (λ _. inl refl)
        (λ f. stays (OfClient q) (λ g. absurd (true≢false (sym (client_place q p.id g) ∙ f)))))) (λ e. stays (OfClient q) (λ _ _ l. true≢false (sym l ∙ e)))

    un_every : Every un
    un_every = cond_both (counts (begun v) (came_only v p) p) (heard p (came_only v p)) (came_only v p) Every (λ _. heard_every) uncounted_every

    -- what there was before the bytes
    first_part : (a z : ℕ) (size : ℕ) → (o : Option Part) → get un.responses p.id ≡ o → counting ≡ true
        → R (OfClient p.id) (Some (grown v.place a z (unwrap_or o (opened p.to p.from size v.settings.unsched))))
    first_part a z size o is counts = by_later (cases_Bool later) where
      heard_is : un.responses ≡ cond later (remove v.now.responses p.id) v.now.responses
      heard_is = ap (λ t. (cond t (heard p (came_only v p)) (came_only v p)).responses) counts

      fresh : (o : Option Part) → o ≡ None → ((get v.now.responses p.id ≡ None) ⊎ (later ≡ true))
          → R (OfClient p.id) (Some (grown v.place a z (unwrap_or o (opened p.to p.from size v.settings.unsched))))
      fresh o none why = subst (λ x. R (OfClient p.id) (Some (grown v.place a z (unwrap_or x (opened p.to p.from size v.settings.unsched))))) (sym none)
          (inr (inr (record {
            at = refl;
            why = (counts, why);
            part = grown v.place a z (opened p.to p.from size v.settings.unsched);
            has = refl;
            order = first_order v.place a z p.to p.from size v.settings.unsched;
            host_is = to;
          })))

      by_later : (later ≡ true) ⊎ (later ≡ false) → R (OfClient p.id) (Some (grown v.place a z (unwrap_or o (opened p.to p.from size v.settings.unsched))))
      by_later (inl l) =
          fresh o (sym is ∙ ap (λ (x : Parts). get x p.id) (heard_is ∙ ap (λ t. cond t (remove v.now.responses p.id) v.now.responses) l)
          ∙ get-gone v.now.responses p.id p.id ∙ ap (λ t. cond t None (get v.now.responses p.id)) ((calls_are p.id p.id).1 refl)) (inr l)
      by_later (inr l) =
          by_before o (sym (ap (λ (x : Parts). get x p.id) (heard_is ∙ ap (λ t. cond t (remove v.now.responses p.id) v.now.responses) l)) ∙ is) where
            by_before : (o : Option Part) → get v.now.responses p.id ≡ o
                → R (OfClient p.id) (Some (grown v.place a z (unwrap_or o (opened p.to p.from size v.settings.unsched))))
            by_before None e = fresh None refl (inl e)
            by_before (Some y) e =
                inr (inl (record {
                  before = y;
                  had = e;
                  part = grown v.place a z y;
                  has = refl;
                  order = grown_order v.place a z y (filled y e);
                  host_is = refl;
                  why = λ _ _ t. true≢false (sym t ∙ l);
                }))

    client_every : (size offset : ℕ) → Every (to_client (begun v) p size offset un)
    client_every size offset = cond_both (counts (begun v) un p) _ _ Every each (λ _. un_every) where
      after : Part
      after = grown v.place offset (offset + length p.payload)
          (unwrap_or (get (counted (begun v) p (came_only v p)).responses p.id) (opened p.to p.from size v.settings.unsched))

      -- it counted before it was heard too
      counted_before : counts (begun v) un p ≡ true → counting ≡ true
      counted_before e = by_test (cases_Bool counting) where
        by_test : (counting ≡ true) ⊎ (counting ≡ false) → counting ≡ true
        by_test (inl c) = c
        by_test (inr c) = sym (ap (λ t. counts (begun v) (cond t (heard p (came_only v p)) (came_only v p)) p) c) ∙ e

      each : counts (begun v) un p ≡ true
          → Every (record un { responses = insert un.responses p.id after; due = record un.due { dones = made_whole p.id (get un.responses p.id) after } })
      each e (OfServer q) = un_every (OfServer q)
      each e (OfClient q) = subst (R (OfClient q)) (sym (get-set un.responses p.id after q)) (by_call (is_call q p.id) refl) where
        by_call : (t : Bool) → is_call q p.id ≡ t → R (OfClient q) (cond t (Some after) (get un.responses q))
        by_call false f = un_every (OfClient q)
        by_call true f = subst (λ (x : CallId). R (OfClient x) (Some after)) (sym ((calls_are q p.id).0 f))
            (first_part offset (offset + length p.payload) size (get un.responses p.id) refl (counted_before e))

    admitted_every : (what : Body) → Every (admitted (begun v) p un what)
    admitted_every (body.Data size offset version service ack) =
        cond_both (is_client p.role) _ _ Every (λ e. absurd (false≢true (sym (ap is_client role) ∙ e))) (λ _. client_every size offset)
    admitted_every (body.Grant offset prio) = un_every
    admitted_every (body.Resend from to prio) = un_every
    admitted_every body.Busy = un_every
    admitted_every (body.Cutoffs cutoffs) = un_every
    admitted_every (body.Unknown reason) = un_every
    admitted_every body.NeedAck = un_every
    admitted_every (body.Ack more) = un_every

    pub to_client_parts : EachWay R (part_none h v host (OfClient p.id) old_row new_row OldResponse NewResponse)
        (part_raises h v host (OfClient p.id) old_row new_row OldResponse NewResponse) (seen v (PlainDeliver n))
    to_client_parts =
        let z = begins_by v n p came in
        record { now = subst Every (sym z.now) (admitted_every p.body); if_refused = subst Every (sym z.refused) un_every }
