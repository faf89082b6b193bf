-- What else happens to a call's row at its client: it is made, its timer has come, it grants, it sends a piece of its request.
use Rattle.std.proofs.Common.{◌≡◌, ℕ, ◌+◌, ◌-◌, ◌≤◌, ◌<◌, Bool, true, false, ◌||◌, ◌⊎◌, inl, inr, Option, Some, None, List, [], length, cond, refl}
use Rattle.std.proofs.Common.{sym, ap, subst, arith}
use Rattle.std.specs.Prelude.{nat_lt, nat_le, take, drop, max, slice_range}
use Rattle.std.specs.Option.{MatchOption}
use Rattle.std.proofs.lemmas.Bool.{cond_both, ltb-true, leb-true, and_parts, false≢true}
use Rattle.std.proofs.lemmas.List.{length-take, length-drop}
use Rattle.plain_sets.specs.Ranges.{Range}
use Rattle.homa_plain.specs.declared.id.CallId.{CallId}
use Rattle.homa_plain.specs.declared.id.HostId.{HostId}
use Rattle.homa_plain.specs.declared.packet.Role.TheVariants.{Client}
use Rattle.homa_plain.specs.declared.packet.Body.{Body}
use Rattle.homa_plain.specs.declared.packet.Body.TheVariants as body
use Rattle.homa_plain.specs.declared.settings.Settings.{Settings}
use Rattle.homa_plain.specs.Settings.{patience}
use Rattle.homa_plain.specs.Outgoing.{Outgoing, next, next_range, has_waiting}
use Rattle.homa_plain.specs.Outgoing as outgoing
use Rattle.homa_plain.specs.Rows.{ClientRow}
use Rattle.homa_plain.specs.Rules.{Moment}
use Rattle.homa_plain.specs.Timers.{resend_of, wanted, client_acts}
use Rattle.homa_plain.specs.SentNext.{may_send_request}
use Rattle.homa_plain.specs.Sending.{while_new, client_sends, client_granted, slice}
use Rattle.homa_plain.proofs.OutgoingLaws as out_laws
use Rattle.trace_steps.specs.Stands.{Stand, with_client}
use Rattle.trace_once.specs.Lifetime.{times, CoversRequest, IsMadeTo, Fits, called_by, Lifetime}
use Rattle.step_moves.proofs.Hosts.{some_is}
use Rattle.trace_once.proofs.Later.{made_at}
use Rattle.trace_once.proofs.ClientRules.{AllBare, IsLike, ClientChange, ClientKeeps, gone_change, as_change, unsent_change, ran_expiry}

-- a live call is made to its row's server
pub client_made : (c : Settings) (h : HostId) (v : Stand) (r : ClientRow) → Lifetime (times c) h v → v.client ≡ Some r → IsMadeTo r.server v
client_made c h v r k at = record { service = r.service; request = r.request; called = (k.client r at).called }

module _ (c : Settings) (h : HostId) (v : Stand) where
  -- ---- timers and grants

  resend_bare : (row : Option ClientRow) (o : Option Range) → AllBare row (resend_of c o)
  resend_bare row None = tt
  resend_bare row (Some r) = (tt, tt)

  pub client_acts_keeps : (m : Moment) (id : CallId) (r : ClientRow) → Lifetime (times c) h v → v.client ≡ Some r
      → ClientKeeps (times c) v (client_acts c m id r)
  client_acts_keeps m id r k at =
      cond_both (nat_lt r.count c.tries) _ _ (ClientKeeps (times c) v)
      (λ _.
      let x : ClientRow = record r { count = r.count + 1; base = m.now } in
      record {
        row = as_change (times c) h v r x k at (record { called = refl; long = refl; sent = λ e. e; out = (k.client r at).out }) refl;
        bare = resend_bare (Some x) (wanted c r.part);
      })
      (λ _. record { row = gone_change (times c) h v; bare = tt })

  -- a row is changed, and one packet of its call is sent to its server
  pub record ClientSends (server : HostId) (o : Option ClientRow) (what : Body) (payload : List ℕ) : Type 0 where
    pub row : ClientChange (times c) v o
    pub packet : h ≡ server → Fits (times c) h (with_client v o) v.clock Client what payload

  made_here : (o : Option ClientRow) (r : ClientRow) → Lifetime (times c) h v → v.client ≡ Some r → h ≡ r.server → IsMadeTo h (with_client v o)
  made_here o r k at e = subst (λ (x : HostId). IsMadeTo x (with_client v o)) (sym e) (made_at r.server v (with_client v o) refl (client_made c h v r k at))

  -- a GRANT for the response
  pub client_granted_keeps : (now offset prio : ℕ) (r : ClientRow) → Lifetime (times c) h v → v.client ≡ Some r
      → ClientSends r.server (Some (client_granted now offset r)) (body.Grant offset prio) []
  client_granted_keeps now offset prio r k at =
      let x : ClientRow = client_granted now offset r in
      record {
        row = as_change (times c) h v r x k at (record { called = refl; long = refl; sent = λ e. e; out = (k.client r at).out }) refl;
        packet = λ e. record { past = omega arith; made = made_here (Some x) r k at e; fits = tt };
      }

-- ---- a piece of the request is sent

module _ (c : Settings) (h : HostId) (v : Stand) (q : ClientRow) (range : Range) (now : ℕ) where
  -- the row afterwards
  abbrev gave : ClientRow
  gave = client_sends c now q

  abbrev piece_payload : List ℕ
  piece_payload = slice q.request range

  length-slice : range.from ≤ range.to → range.to ≤ length q.request → length (slice q.request range) ≡ range.to - range.from
  length-slice a b = omega (arith, length-take (range.to - range.from) (drop range.from q.request), length-drop range.from q.request)

  -- the piece is a slice of the request, as the lines have it
  slice_is : range.from ≤ range.to → range.to ≤ length q.request
      → slice q.request range ≡ slice_range q.request range.from (range.from + length (slice q.request range))
  slice_is a b = ap (λ n. take n (drop range.from q.request))
      (let e : range.to - range.from ≡ range.from + length (slice q.request range) - range.from = omega (arith, length-slice a b) in e)

  next_is : next_range q.out c.seg ≡ Some range → (next q.out c.seg).part ≡ outgoing.sent q.out (Some range)
  next_is e = ap (outgoing.sent q.out) e

  gave_out : next_range q.out c.seg ≡ Some range → (gave.out.top ≡ max q.out.top range.to) × (gave.out.length ≡ q.out.length)
  gave_out e = (ap (λ (o : Outgoing). o.top) (next_is e), ap (λ (o : Outgoing). o.length) (next_is e))

  while_new_is : called_by q ≡ called_by (while_new now q)
  while_new_is = cond_both (nat_lt q.out.top q.out.length) _ _ (λ (r : ClientRow). called_by q ≡ called_by r) (λ _. refl) (λ _. refl)

  gave_like : outgoing.IsSound q.out → next_range q.out c.seg ≡ Some range → range.to ≤ q.out.length → IsLike q gave
  gave_like sound e within =
      let o = gave_out e in
      record { called = while_new_is; long = o.1; sent = λ full. omega (arith, full, o.0, o.1, within); out = out_laws.sound-next q.out c.seg sound }

  front_of_next : outgoing.IsSound q.out → 0 < c.seg → next_range q.out c.seg ≡ Some range → outgoing.IsFront q.out c.seg range
  front_of_next sound seg e =
      subst (λ (o : Option Range). MatchOption o (outgoing.IsIdle q.out) (outgoing.IsFront q.out c.seg)) e (out_laws.front-next_range q.out c.seg seg sound)

  -- while the request is new the client counts anew how long it hears nothing
  heard_cases : ((nat_lt q.out.top q.out.length ≡ true) × (gave.heard ≡ now)) ⊎ ((nat_lt q.out.top q.out.length ≡ false) × (gave.heard ≡ q.heard))
  heard_cases = by_test (nat_lt q.out.top q.out.length) refl where
    by_test : (b : Bool) → nat_lt q.out.top q.out.length ≡ b → ((nat_lt q.out.top q.out.length ≡ true) × (gave.heard ≡ now))
        ⊎ ((nat_lt q.out.top q.out.length ≡ false) × (gave.heard ≡ q.heard))
    by_test true e = inl (e, ap (λ b. (cond b (record q { heard = now; base = now; count = 0 }) q).heard) e)
    by_test false e = inr (e, ap (λ b. (cond b (record q { heard = now; base = now; count = 0 }) q).heard) e)

  -- the piece fits, if the record of the call outlives it
  gave_fits : Lifetime (times c) h v → v.client ≡ Some q → 0 < c.seg → next_range q.out c.seg ≡ Some range → (version : ℕ) (ack : Option (ℕ × ℕ))
      → CoversRequest (times c) v v.clock → h ≡ q.server
      → Fits (times c) h (with_client v (Some gave)) v.clock Client (body.Data q.out.length range.from version q.service ack) piece_payload
  gave_fits k at seg e version ack covered same =
      let f = k.client q at in
      let front = front_of_next f.out seg e in
      let within : range.to ≤ q.out.length = omega (arith, front.granted, f.out.within) in
      let size : range.to ≤ length q.request = omega (arith, f.size, within) in
      let long = length-slice (omega (arith, front.some)) size in
      let o = gave_out e in
      let u : Stand = with_client v (Some gave) in
      let made = subst (λ (x : HostId). IsMadeTo x u) (sym same) (record { service = q.service; request = q.request; called = f.called }) in
      record {
        past = omega arith;
        made = made;
        fits = record {
          request = q.request;
          called = subst (λ (x : HostId). v.called ≡ Some (record { server = x; service = q.service; request = q.request })) (sym same) f.called;
          whole = f.size;
          bytes = slice_is (omega (arith, front.some)) size;
          some = omega (arith, long, front.some);
          within = omega (arith, long, within, front.some);
          covered = covered;
          last = λ all y is. subst (λ (z : ClientRow). z.out.top ≡ z.out.length) (some_is gave y is)
              (omega (arith, all, long, front.some, o.0, o.1, f.out.top, within));
        };
      }

  pub client_sends_keeps : Lifetime (times c) h v → v.client ≡ Some q → v.clock ≤ now → now ≤ v.clock + (times c).band → 0 < c.seg
      → may_send_request c now q ≡ true → next_range q.out c.seg ≡ Some range
      → (version : ℕ) (ack : Option (ℕ × ℕ)) → ClientSends c h v q.server (Some gave) (body.Data q.out.length range.from version q.service ack) piece_payload
  client_sends_keeps k at from soon seg may e version ack =
      let f = k.client q at in
      let front = front_of_next f.out seg e in
      let like = gave_like f.out e (omega (arith, front.granted, f.out.within)) in
      elim heard_cases as (λ _. ClientSends c h v q.server (Some gave) (body.Data q.out.length range.from version q.service ack) piece_payload) [
        | inl p ↦
            let unsent = (λ (full : q.out.top ≡ q.out.length). let l : q.out.top < q.out.length = ltb-true q.out.top q.out.length p.0 in
            let no : ⊥ = absurd (omega (arith, l, full)) in no) in
            record {
              row = unsent_change (times c) h v q gave k at like unsent (omega (arith, p.1, soon));
              packet = gave_fits k at seg e version ack (λ y is. absurd (unsent (k.sent (ran_expiry h v v.server y is k.row) q at)));
            }
        | inr p ↦
            let in_time : now ≤ q.heard + patience c =
            leb-true now (q.heard + patience c)
            (or_second (nat_lt q.out.top q.out.length) (nat_le now (q.heard + patience c)) p.0 (and_parts (has_waiting q.out) _ may).1) in
            record {
              row = as_change (times c) h v q gave k at like p.1;
              packet = gave_fits k at seg e version ack (λ y is. omega (arith, in_time, from, k.covered q y at is));
            }
      ] where
        or_second : (a b : Bool) → a ≡ false → (a || b) ≡ true → b ≡ true
        or_second true b e f = absurd (false≢true (sym e))
        or_second false b e f = f
