-- What the line of a delivery says: whether the packet counts, and whether its bytes are admitted.
use Rattle.std.proofs.Common.{◌≡◌, ℕ, ◌+◌, Bool, true, false, ◌&&◌, Option, Some, None, length, cond, refl, sym, ap, subst, ◌∙◌, arith}
use Rattle.std.specs.Prelude.{not, nat_lt, nat_le, unwrap_or, slice_get}
use Rattle.std.specs.Option.{option_map_or}
use Rattle.std.proofs.lemmas.Bool.{le-leb}
use Rattle.std.proofs.Math.Bool.{and-false}
use Rattle.plain_sets.specs.Maps.{get, insert, remove}
use Rattle.homa_plain.specs.declared.id.CallId.{CallId}
use Rattle.homa_plain.specs.declared.packet.Role.{Role}
use Rattle.homa_plain.specs.declared.packet.Role.TheVariants.{Client, Server}
use Rattle.homa_plain.specs.declared.packet.Body.{Body}
use Rattle.homa_plain.specs.declared.packet.Body.TheVariants as body
use Rattle.homa_plain.specs.Calls.{is_host, is_call}
use Rattle.homa_plain.specs.Entries.{PlainDeliver}
use Rattle.trace_rules.specs.Parts.{Part, grown, opened, made_whole}
use Rattle.trace_rules.specs.View.{View, Progress, Sent, Called, Ends, no_ends, has_run, counts, is_server_of}
use Rattle.homa_plain.specs.Wire.{is_client, is_server}
use Rattle.trace_rules.specs.Seen.{seen, begun, delivered, heard, counted, to_server, to_client, admitted}
use Rattle.homa_plain.proofs.CallOrder.{calls_are}
use Rattle.trace_steps.proofs.Progress.{IsLevel, AreLevel, level_itself, get-set, get-gone}
use Rattle.step_moves.proofs.Hosts.{turned}
use Rattle.trace_returned.specs.Tales.{tale}
use Rattle.trace_returned.proofs.StillRules.{IsOther}
use Rattle.trace_returned.proofs.Calm.{tale_is}

-- what rests on the deliveries, where the packet changes nothing
abbrev pub came_only : View → Sent → Progress
came_only v p = record v.now { came = Some p; due = no_ends }

-- a block has begun: this is so, or that if its delivery is refused
pub record Begins (u : View) (admits refuses : Progress) : Type 0 where
  pub now : u.now ≡ admits
  pub refused : u.if_refused ≡ refuses
  pub here : u.here ≡ no_ends

pub begins_by : (v : View) (k : ℕ) (p : Sent) → slice_get v.packets k ≡ Some p
    → Begins (seen v (PlainDeliver k)) (admitted (begun v) p (counted (begun v) p (came_only v p)) p.body) (counted (begun v) p (came_only v p))
unfolding seen
begins_by v k p came =
    record {
      now = ap (λ o. (delivered (begun v) o).now) came;
      refused = ap (λ o. (delivered (begun v) o).if_refused) came;
      here = ap (λ o. (delivered (begun v) o).here) came;
    }

begins_at : (u : View) (a b x y : Progress) → a ≡ x → b ≡ y → Begins u a b → Begins u x y
begins_at u a b x y e f k = record { now = k.now ∙ e; refused = k.refused ∙ f; here = k.here }

module _ (v : View) (k : ℕ) (p : Sent) (came : slice_get v.packets k ≡ Some p) where
  base : Progress
  base = came_only v p

  counted_is : (b : Bool) → counts v (came_only v p) p ≡ b → counted (begun v) p (came_only v p) ≡ cond b (heard p (came_only v p)) (came_only v p)
  counted_is b e = ap (λ t. cond t (heard p (came_only v p)) (came_only v p)) e

  uncounted : p.role ≡ Client → counts v (came_only v p) p ≡ false
  uncounted role =
      ap (λ (r : Role). is_server r && is_host p.to p.id.client && is_server_of v p.id p.from && option_map_or (λ latest. nat_le latest p.inc)
      (get v.now.live p.id) false) role

  -- ---- to a server

  -- a packet other than a piece
  pub client_other : p.role ≡ Client → IsOther p.body → Begins (seen v (PlainDeliver k)) (came_only v p) (came_only v p)
  client_other role other =
      begins_at (seen v (PlainDeliver k)) _ _ (came_only v p) (came_only v p)
      (ap (λ m. admitted (begun v) p m p.body) (counted_is false (uncounted role)) ∙ by_body p.body other) (counted_is false (uncounted role))
      (begins_by v k p came) where
        by_body : (what : Body) → IsOther what → admitted (begun v) p (came_only v p) what ≡ came_only v p
        by_body (body.Data size offset version service ack) other = absurd other
        by_body what other = refl

  module _ (size offset version service : ℕ) (ack : Option (ℕ × ℕ)) (what : p.body ≡ body.Data size offset version service ack)
      (role : p.role ≡ Client) (c : Called) (called : get v.calls p.id ≡ Some c) where
    admits : admitted (begun v) p (counted (begun v) p (came_only v p)) p.body ≡ to_server (begun v) p offset (came_only v p) (Some c)
    admits =
        ap (λ m. admitted (begun v) p m p.body) (counted_is false (uncounted role)) ∙ ap (admitted (begun v) p (came_only v p)) what
        ∙ ap (λ (r : Role). cond (is_client r) (to_server (begun v) p offset (came_only v p) (get v.calls p.id))
        (to_client (begun v) p size offset (came_only v p))) role
        ∙ ap (to_server (begun v) p offset (came_only v p)) called

    -- a piece for a call that ran
    pub client_ran : has_run v c.server p.id ≡ true → Begins (seen v (PlainDeliver k)) (came_only v p) (came_only v p)
    client_ran ran =
        begins_at (seen v (PlainDeliver k)) _ _ (came_only v p) (came_only v p)
        (admits ∙ ap (λ b. cond (is_host p.to c.server && not b) new (came_only v p)) ran ∙ ap (λ b. cond b new (came_only v p))
        (and-false (is_host p.to c.server)))
        (counted_is false (uncounted role)) (begins_by v k p came) where
          grows : Part
          grows = grown v.place offset (offset + length p.payload)
              (unwrap_or (get v.now.requests p.id) (opened c.server p.id.client (length c.request) v.settings.unsched))

          new : Progress
          new = record (came_only v p)
              { requests = insert v.now.requests p.id grows; due = record no_ends { runs = made_whole p.id (get v.now.requests p.id) grows } }

    -- the request with the piece
    abbrev pub new_request : Part
    new_request = grown v.place offset (offset + length p.payload)
        (unwrap_or (get v.now.requests p.id) (opened c.server p.id.client (length c.request) v.settings.unsched))

    abbrev pub request_admitted : Progress
    request_admitted =
        record (came_only v p)
        { requests = insert v.now.requests p.id new_request; due = record no_ends { runs = made_whole p.id (get v.now.requests p.id) new_request } }

    pub client_piece : is_host p.to c.server ≡ true → has_run v c.server p.id ≡ false → Begins (seen v (PlainDeliver k)) request_admitted (came_only v p)
    client_piece to unrun =
        begins_at (seen v (PlainDeliver k)) _ _ request_admitted (came_only v p)
        (admits ∙ ap (λ b. cond (is_host p.to c.server && not b) request_admitted (came_only v p)) unrun
        ∙ ap (λ b. cond (b && true) request_admitted (came_only v p)) to) (counted_is false (uncounted role)) (begins_by v k p came)

  -- ---- to a client

  -- a packet that doesn't count
  pub server_uncounted : p.role ≡ Server → counts v (came_only v p) p ≡ false → Begins (seen v (PlainDeliver k)) (came_only v p) (came_only v p)
  server_uncounted role counting =
      begins_at (seen v (PlainDeliver k)) _ _ (came_only v p) (came_only v p)
      (ap (λ m. admitted (begun v) p m p.body) (counted_is false counting) ∙ by_body p.body) (counted_is false counting) (begins_by v k p came) where
        client_is : (size offset : ℕ) → to_client (begun v) p size offset (came_only v p) ≡ came_only v p
        client_is size offset =
            ap (λ b. cond b
            (record (came_only v p) {
              responses = insert v.now.responses p.id (new size offset);
              due = record no_ends { dones = made_whole p.id (get v.now.responses p.id) (new size offset) };
            }) (came_only v p)) counting where
              new : ℕ → ℕ → Part
              new size offset =
                  grown v.place offset (offset + length p.payload) (unwrap_or (get v.now.responses p.id) (opened p.to p.from size v.settings.unsched))

        by_body : (what : Body) → admitted (begun v) p (came_only v p) what ≡ came_only v p
        by_body (body.Data size offset version service ack) =
            ap (λ (r : Role). cond (is_client r) (to_server (begun v) p offset (came_only v p) (get v.calls p.id))
            (to_client (begun v) p size offset (came_only v p))) role ∙ client_is size offset
        by_body what = refl

  -- one that counts
  abbrev pub was_heard : Progress
  was_heard = heard p (came_only v p)

  pub server_other : counts v (came_only v p) p ≡ true → IsOther p.body → Begins (seen v (PlainDeliver k)) was_heard was_heard
  server_other counting other =
      begins_at (seen v (PlainDeliver k)) _ _ was_heard was_heard
      (ap (λ m. admitted (begun v) p m p.body) (counted_is true counting) ∙ by_body p.body other) (counted_is true counting) (begins_by v k p came) where
        by_body : (what : Body) → IsOther what → admitted (begun v) p (heard p (came_only v p)) what ≡ heard p (came_only v p)
        by_body (body.Data size offset version service ack) other = absurd other
        by_body what other = refl

  module _ (size offset version service : ℕ) (ack : Option (ℕ × ℕ)) (what : p.body ≡ body.Data size offset version service ack)
      (role : p.role ≡ Server) (counting : counts v (came_only v p) p ≡ true) where
    -- the response, where an earlier life's was dropped, with the piece
    abbrev pub heard_response : Option Part
    heard_response = get was_heard.responses p.id

    abbrev pub new_response : Part
    new_response = grown v.place offset (offset + length p.payload) (unwrap_or heard_response (opened p.to p.from size v.settings.unsched))

    abbrev pub response_admitted : Progress
    response_admitted =
        record was_heard
        { responses = insert was_heard.responses p.id new_response; due = record was_heard.due { dones = made_whole p.id heard_response new_response } }

    -- it counts still
    still : counts v was_heard p ≡ true
    still = ap (λ o. is_server p.role && is_host p.to p.id.client && is_server_of v p.id p.from && option_map_or
        (λ latest. nat_le latest p.inc) o false) heard_live ∙ ap (λ b. is_server p.role && is_host p.to p.id.client && is_server_of v p.id p.from && b)
        (le-leb p.inc p.inc (omega arith)) ∙ first (is_server p.role) (is_host p.to p.id.client) (is_server_of v p.id p.from)
        (option_map_or (λ latest. nat_le latest p.inc) (get v.now.live p.id) false) counting where
          heard_live : get (heard p (came_only v p)).live p.id ≡ Some p.inc
          heard_live = get-set v.now.live p.id p.inc p.id ∙ ap (λ b. cond b (Some p.inc) (get v.now.live p.id)) ((calls_are p.id p.id).1 refl)

          first : (a b c d : Bool) → (a && b && c && d) ≡ true → (a && b && c && true) ≡ true
          first true true true d e = refl
          first true true false d e = e
          first true false c d e = e
          first false b c d e = e

    pub server_piece : Begins (seen v (PlainDeliver k)) response_admitted was_heard
    server_piece =
        begins_at (seen v (PlainDeliver k)) _ _ response_admitted was_heard
        (ap (λ m. admitted (begun v) p m p.body) (counted_is true counting) ∙ ap (admitted (begun v) p was_heard) what
        ∙ ap (λ (r : Role). cond (is_client r) (to_server (begun v) p offset was_heard (get v.calls p.id))
        (to_client (begun v) p size offset was_heard)) role ∙ ap (λ b. cond b response_admitted was_heard) still)
        (counted_is true counting) (begins_by v k p came)

-- ---- what stays of the other calls

pub record BeginsOf (id : CallId) (v u : View) : Type 0 where
  pub others : (q : CallId) → is_call id q ≡ false → tale u.now q ≡ tale v.now q
  pub level : IsLevel u

level_of : (u : View) (now refused : Progress) → Begins u now refused → AreLevel refused now → IsLevel u
level_of u now refused b k = subst (λ (m : Progress). AreLevel m u.now) (sym b.refused) (subst (AreLevel refused) (sym b.now) k)

module _ (v : View) (p : Sent) (u : View) where
  -- nothing changed
  pub plain_of : Begins u (came_only v p) (came_only v p) → ((q : CallId) → tale u.now q ≡ tale v.now q) × IsLevel u
  plain_of b = ((λ q. ap (λ (m : Progress). tale m q) b.now), level_of u (came_only v p) (came_only v p) b (level_itself (came_only v p)))

  -- a part of the call's request is new
  pub request_of : (new : Part) (due : Ends) → Begins u (record (came_only v p) { requests = insert v.now.requests p.id new; due = due })
      (came_only v p) → BeginsOf p.id v u
  request_of new due b =
      let now : Progress = record (came_only v p) { requests = insert v.now.requests p.id new; due = due } in
      record {
        others = λ q e. ap (λ (m : Progress). tale m q) b.now
            ∙ tale_is _ _ refl (get-set v.now.requests p.id new q ∙ ap (λ t. cond t (Some new) (get v.now.requests q)) (turned p.id q e)) refl;
        level = level_of u now (came_only v p) b (record {
          came = refl;
          live = λ q. refl;
          resends = λ q. refl;
          requests = λ q e. sym (get-set v.now.requests p.id new q ∙ ap (λ t. cond t (Some new) (get v.now.requests q)) (turned p.id q e));
          responses = λ q e. refl;
        });
      }

  pub heard_others : (q : CallId) → is_call p.id q ≡ false → tale (heard p (came_only v p)) q ≡ tale v.now q
  heard_others q e =
      tale_is _ _ (get-set v.now.live p.id p.inc q ∙ ap (λ t. cond t (Some p.inc) (get v.now.live q)) (turned p.id q e)) refl
      (by_test (nat_lt (unwrap_or (get v.now.live p.id) 0) p.inc)) where
        by_test : (b : Bool) → get (cond b (remove v.now.responses p.id) v.now.responses) q ≡ get v.now.responses q
        by_test true = get-gone v.now.responses p.id q ∙ ap (λ t. cond t None (get v.now.responses q)) (turned p.id q e)
        by_test false = refl

  -- the packet was heard
  pub heard_of : Begins u (heard p (came_only v p)) (heard p (came_only v p)) → BeginsOf p.id v u
  heard_of b = record {
    others = λ q e. ap (λ (m : Progress). tale m q) b.now ∙ heard_others q e;
    level = level_of u (heard p (came_only v p)) (heard p (came_only v p)) b (level_itself (heard p (came_only v p)));
  }

  -- and a part of the call's response is new
  pub response_of : (new : Part) (due : Ends)
      → Begins u (record (heard p (came_only v p)) { responses = insert (heard p (came_only v p)).responses p.id new; due = due })
      (heard p (came_only v p)) → BeginsOf p.id v u
  response_of new due b =
      let m : Progress = heard p (came_only v p) in
      let now : Progress = record m { responses = insert m.responses p.id new; due = due } in
      let other =
      (λ (q : CallId) (e : is_call p.id q ≡ false). get-set m.responses p.id new q ∙ ap (λ t. cond t (Some new) (get m.responses q)) (turned p.id q e)) in
      record {
        others = λ q e. ap (λ (x : Progress). tale x q) b.now ∙ tale_is _ _ refl refl (other q e) ∙ heard_others q e;
        level = level_of u now m b (record { came = refl; live = λ q. refl; resends = λ q. refl; requests = λ q e. refl; responses = λ q e. sym (other q e) });
      }
