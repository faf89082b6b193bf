-- What else happens to a call's row at its server: it is acknowledged, its timer has come, it grants, it sends a piece.
use Rattle.std.proofs.Common.{◌≡◌, ℕ, ◌+◌, ◌-◌, ◌*◌, ◌≤◌, true, false, inl, inr, Option, Some, None, List, [], ◌∷◌, length, refl, sym, ap, subst, ◌∙◌, arith}
use Rattle.std.specs.Prelude.{nat_lt}
use Rattle.std.proofs.lemmas.Bool.{cond_both}
use Rattle.plain_sets.specs.Ranges.{Range}
use Rattle.homa_plain.specs.declared.id.CallId.{CallId}
use Rattle.homa_plain.specs.declared.id.HostId.{HostId}
use Rattle.homa_plain.specs.declared.packet.Role.TheVariants.{Server}
use Rattle.homa_plain.specs.declared.packet.Body.{Body}
use Rattle.homa_plain.specs.declared.packet.Body.TheVariants as body
use Rattle.homa_plain.specs.declared.settings.Settings.{Settings}
use Rattle.homa_plain.specs.Settings.{patience}
use Rattle.homa_plain.specs.Settings as settings
use Rattle.homa_plain.specs.Incoming.{Incoming, granted_to, first_gap}
use Rattle.homa_plain.specs.Outgoing.{Outgoing}
use Rattle.homa_plain.specs.Outgoing as outgoing
use Rattle.homa_plain.specs.Rows.{ServerRow, State, Receiving, Held, Replying, Buried}
use Rattle.homa_plain.specs.Rules.{Moment, Posts, leaves}
use Rattle.homa_plain.specs.AtServer.{with_state, replying}
use Rattle.homa_plain.specs.Tombstones.{buried, state_acked, server_acked}
use Rattle.homa_plain.specs.Timers.{state_deadline, resend_of, state_acts, server_acts}
use Rattle.homa_plain.specs.Sending.{state_granted, state_sends}
use Rattle.homa_plain.proofs.OutgoingLaws as out_laws
use Rattle.trace_steps.specs.Stands.{Stand, state_of, with_server}
use Rattle.step_laws.proofs.Own.{runs_said}
use Rattle.trace_once.specs.Lifetime.{times, gone_since, expiry, IsMadeTo, IsOver, HasSentAll, Fits, RowFits, Lifetime}
use Rattle.step_moves.proofs.Hosts.{none_some, some_is}
use Rattle.trace_once.proofs.Later.{made_at, part_at}
use Rattle.trace_once.proofs.ServerRules.{SaysFit, IsSafeExpiry, ServerChange, ServerKeeps, row_made, row_is, live_change, quiet_keeps}
use Rattle.trace_once.proofs.ServerRules.{same_keeps, row_keeps, live_covers, says_live, part_now}
use Rattle.homa_plain.specs.OutgoingChanges as changes

-- a host's own clock in its step: it is within the band, and the host's last tick
pub record IsNow (c : Settings) (v : Stand) (now : ℕ) : Type 0 where
  pub from : v.clock ≤ now
  pub within : now ≤ v.clock + (times c).band
  pub last : v.last ≡ now

module _ (c : Settings) (h : HostId) (v : Stand) where
  -- ---- burials

  -- a call that ran is buried, until a tick that is far enough off
  buried_keeps : (m : Moment) (id : CallId) (until : ℕ) (row : ServerRow) → IsMadeTo h v → Lifetime (times c) h v → v.ran ≡ true
      → IsSafeExpiry (times c) v (until + 1) → ServerKeeps (times c) h v (buried m id until row)
  buried_keeps m id until row made k ran safe =
      quiet_keeps (times c) h v (buried m id until row) refl
      (record { made = made; row = ran; sent = k.sent; expires = λ y is. subst (IsSafeExpiry (times c) v) (some_is (until + 1) y is) safe })
      tt (λ x e. absurd (none_some x e))

  -- by an ACK for one span: no client is live that could send the request again
  acked_burial : (now : ℕ) → v.clock ≤ now → v.client ≡ None → IsSafeExpiry (times c) v (now + settings.span c + 1)
  acked_burial now from over = inr (omega (arith, from), λ r live. absurd (none_some r (sym over ∙ live)))

  -- by silence for two spans and the client's patience
  silent_burial : (now : ℕ) → v.clock ≤ now → IsSafeExpiry (times c) v (now + 2 * settings.span c + patience c + 1)
  silent_burial now from = inr (omega (arith, from), λ r live. omega (arith, from))

  -- ---- acknowledgements

  state_acked_keeps : (m : Moment) (id : CallId) (row : ServerRow) (state : State) → Lifetime (times c) h v → row.state ≡ state
      → v.server ≡ Some row.state → v.clock ≤ m.now → IsOver h v
      → ServerKeeps (times c) h v (state_acked c m id row state)
  state_acked_keeps m id row state k is at from over = by_state state (at ∙ ap (λ (x : State). Some x) is) where
    by_state : (state : State) → v.server ≡ Some state → ServerKeeps (times c) h v (state_acked c m id row state)
    by_state (Held response release) now =
        buried_keeps m id (m.now + settings.span c) row over.0 k (row_is (times c) h v (Some (Held response release)) k now) (acked_burial m.now from over.1)
    by_state (Replying response out order base count) now =
        buried_keeps m id (m.now + settings.span c) row over.0 k (row_is (times c) h v (Some (Replying response out order base count)) k now).0
        (acked_burial m.now from over.1)
    by_state (Receiving service part base count) now = same_keeps (times c) h v m (Some row) over.0 k at
    by_state (Buried until) now = same_keeps (times c) h v m (Some row) over.0 k at

  -- a call that is over is acknowledged
  pub server_acked_keeps : (m : Moment) (id : CallId) (o : Option ServerRow) → Lifetime (times c) h v → v.server ≡ state_of o → v.clock ≤ m.now
      → IsOver h v → ServerKeeps (times c) h v (server_acked c m id o)
  unfolding server_acked
  server_acked_keeps m id None k at from over = same_keeps (times c) h v m None over.0 k at
  server_acked_keeps m id (Some row) k at from over = state_acked_keeps m id row row.state k refl at from over

  -- ---- timers

  says_resend : (o : Option State) (gap : Option Range) → expiry v.ran v.last o ≡ None → IsMadeTo h v
      → SaysFit (times c) h (with_server v o v.ran) v.clock Server (resend_of c gap)
  says_resend o None live made = tt
  says_resend o (Some r) live made = says_live (times c) h v o v.ran (body.Resend r.from r.to (c.overcommit - 1)) made (λ x. x) live

  resend_quiet : (gap : Option Range) → runs_said (resend_of c gap) ≡ false
  resend_quiet None = refl
  resend_quiet (Some r) = refl

  -- the row of a call that has not run goes
  drop_change : IsMadeTo h v → v.ran ≡ false → (v.ran ≡ true → HasSentAll v) → ServerChange (times c) h v None v.ran
  drop_change made none sent = live_change (times c) h v None v.ran made tt sent (ap (λ b. gone_since b v.last) none)

  -- a tombstone goes, after its last tick
  free_change : (until : ℕ) → IsMadeTo h v → Lifetime (times c) h v → v.server ≡ Some (Buried until) → until + 1 ≤ v.last
      → ServerChange (times c) h v None v.ran
  free_change until made k at past =
      let ran : v.ran ≡ true = row_is (times c) h v (Some (Buried until)) k at in
      record {
        made = made;
        row = tt;
        sent = k.sent;
        expires = λ y is. let e : v.last ≡ y =
            some_is v.last y (sym (ap (λ b. gone_since b v.last) ran) ∙ is) in inl (until + 1, ap (expiry v.ran v.last) at, omega (arith, e, past));
      }

  state_acts_keeps : (m : Moment) (id : CallId) (row : ServerRow) (state : State) (due : ℕ) → Lifetime (times c) h v → row.state ≡ state
      → v.server ≡ Some row.state → IsNow c v m.now
      → state_deadline c state ≡ Some due → due ≤ m.now → ServerKeeps (times c) h v (state_acts c m id row state)
  state_acts_keeps m id row state due k is at now deadline past = by_state state (at ∙ ap (λ (x : State). Some x) is) deadline where
    made : IsMadeTo h v
    made = row_made (times c) h v row.state k at

    by_state : (state : State) → v.server ≡ Some state → state_deadline c state ≡ Some due → ServerKeeps (times c) h v (state_acts c m id row state)
    by_state (Receiving service part base count) here deadline =
        let r = row_is (times c) h v (Some (Receiving service part base count)) k here in
        cond_both (nat_lt count c.tries) _ _ (ServerKeeps (times c) h v)
        (λ _.
        row_keeps (times c) h v m (with_state row (Receiving service part m.now (count + 1))) (resend_of c (first_gap part)) made
        (part_now (times c) h v part service m.now (count + 1) r) k.sent refl
        (resend_quiet (first_gap part)) (says_resend (Some (Receiving service part m.now (count + 1))) (first_gap part) refl made))
        (λ _. quiet_keeps (times c) h v _ refl (drop_change made r.0 k.sent) tt (λ x e. absurd (none_some x e)))
    by_state (Held response release) here deadline =
        let ran : v.ran ≡ true = row_is (times c) h v (Some (Held response release)) k here in
        quiet_keeps (times c) h v (replying c m.now response row (leaves m None)) refl
        (live_change (times c) h v (Some (Replying response (outgoing.opened (length response) c.unsched) m.order m.now 0)) v.ran made
        (ran, out_laws.sound-opened (length response) c.unsched) k.sent refl)
        tt (λ x e. refl)
    by_state (Replying response out order base count) here deadline =
        let r = row_is (times c) h v (Some (Replying response out order base count)) k here in
        cond_both (nat_lt count c.tries) _ _ (ServerKeeps (times c) h v)
        (λ _.
        row_keeps (times c) h v m (with_state row (Replying response out order m.now (count + 1))) (Posts body.NeedAck ∷ []) made r k.sent refl
        refl (says_live (times c) h v (Some (Replying response out order m.now (count + 1))) v.ran body.NeedAck made (λ x. x) refl))
        (λ _. buried_keeps m id (m.now + 2 * settings.span c + patience c) row made k r.0 (silent_burial m.now now.from))
    by_state (Buried until) here deadline =
        let e : until + 1 ≡ due = some_is (until + 1) due deadline in
        quiet_keeps (times c) h v _ refl (free_change until made k here (omega (arith, e, past, now.last))) tt (λ x e. absurd (none_some x e))

  -- a row whose deadline has come acts
  pub server_acts_keeps : (m : Moment) (id : CallId) (row : ServerRow) (due : ℕ) → Lifetime (times c) h v → v.server ≡ Some row.state → IsNow c v m.now
      → state_deadline c row.state ≡ Some due → due ≤ m.now → ServerKeeps (times c) h v (server_acts c m id row)
  server_acts_keeps m id row due k at now deadline past = state_acts_keeps m id row row.state due k refl at now deadline past

  -- ---- grants and the pump

  -- a row is changed, and one packet of its call is sent
  pub record ServerSends (o : Option State) (what : Body) (payload : List ℕ) : Type 0 where
    pub change : ServerChange (times c) h v o v.ran
    pub packet : Fits (times c) h (with_server v o v.ran) v.clock Server what payload

  sends_live : (o : Option State) (what : Body) (payload : List ℕ) → IsMadeTo h v → RowFits h (with_server v o v.ran) o
      → (v.ran ≡ true → HasSentAll v) → expiry v.ran v.last o ≡ None
      → Fits (times c) h (with_server v o v.ran) v.clock Server what payload → ServerSends o what payload
  sends_live o what payload made f sent live packet = record { change = live_change (times c) h v o v.ran made f sent live; packet = packet }

  -- a GRANT to the client, for a request that isn't whole
  pub server_granted_keeps : (service : ℕ) (part : Incoming) (now base count offset prio : ℕ) → Lifetime (times c) h v
      → v.server ≡ Some (Receiving service part base count)
      → ServerSends (Some (state_granted now offset (Receiving service part base count))) (body.Grant offset prio) []
  server_granted_keeps service part now base count offset prio k at =
      let state : State = Receiving service (granted_to part offset) now count in
      let made = row_made (times c) h v (Receiving service part base count) k at in
      let r = row_is (times c) h v (Some (Receiving service part base count)) k at in
      let f = part_at h v (with_server v (Some state) v.ran) service part refl (λ e. e) r.1 in
      sends_live (Some state) (body.Grant offset prio) [] made
      (r.0, record { request = f.request; called = f.called; whole = f.whole; bytes = f.bytes; below = f.below; some = f.some; last = f.last }) k.sent refl
      (record {
        past = omega arith;
        made = made_at h v (with_server v (Some state) v.ran) refl made;
        fits = live_covers (times c) h v (Some state) v.ran v.clock refl;
      })

  -- a piece of the response
  pub server_sends_keeps : (now : ℕ) (response : List ℕ) (out : Outgoing) (order base count : ℕ) (size offset version service : ℕ) (payload : List ℕ)
      → Lifetime (times c) h v
      → v.server ≡ Some (Replying response out order base count) → ServerSends (Some (state_sends c now (Replying response out order base count)))
      (body.Data size offset version service None) payload
  server_sends_keeps now response out order base count size offset version service payload k at =
      let state : State = state_sends c now (Replying response out order base count) in
      let made = row_made (times c) h v _ k at in
      let r = row_is (times c) h v (Some (Replying response out order base count)) k at in
      sends_live (Some state) (body.Data size offset version service None) payload made (r.0, out_laws.sound-changed out (changes.Send c.seg) r.1) k.sent refl
      (record {
        past = omega arith;
        made = made_at h v (with_server v (Some state) v.ran) refl made;
        fits = live_covers (times c) h v (Some state) v.ran v.clock refl;
      })
