-- What grants and the pump tell, and what they leave of the host.
use Rattle.std.proofs.Common.{◌≡◌, ℕ, zero, suc, ◌+◌, ◌-◌, Bool, true, false, cond, Option, Some, None, List, [], ◌∷◌, length, refl, subst, arith}
use Rattle.std.specs.Prelude.{nat_lt}
use Rattle.plain_sets.specs.Ranges.{Range}
use Rattle.plain_sets.specs.Maps.{get}
use Rattle.homa_plain.specs.declared.id.CallId.{CallId}
use Rattle.homa_plain.specs.declared.packet.Body.{Body}
use Rattle.homa_plain.specs.declared.packet.Body.TheVariants as body
use Rattle.homa_plain.specs.declared.settings.Settings.{Settings}
use Rattle.homa_plain.specs.Grants.{Granted, grants}
use Rattle.homa_plain.specs.SentNext.{least}
use Rattle.homa_plain.specs.Outgoing.{next_range}
use Rattle.homa_plain.specs.Rows.{ClientRow, ServerRow, State, Replying}
use Rattle.homa_plain.specs.Host.{peer_cutoffs, packets_in}
use Rattle.homa_plain.specs.Timers.{Place, OfClient, OfServer}
use Rattle.homa_plain.specs.Sending.{Arriving, arrivals, response_content}
use Rattle.homa_plain.specs.SentNext.{Leaving, leaving_key, departures}
use Rattle.homa_plain.specs.Work.{Work, now_of}
use Rattle.homa_plain.specs.Steps.{client_is_granted, server_is_granted, grants_at, all_granted, gives_grants}
use Rattle.homa_plain.specs.SentNext.{request_leaves}
use Rattle.homa_plain.specs.SentNext.{response_leaves, client_leaves, state_leaves, server_leaves, leaves_from, first_leaves, pumped_once}
use Rattle.homa_plain.specs.Credit.{if_affordable}
use Rattle.homa_plain.specs.SentNext.{pumps, pump}
use Rattle.homa_plain.specs.Steps.{ended}
use Rattle.homa_plain.proofs.ChoiceLaws.{few-grants}
use Rattle.step_laws.proofs.ToldBy.{Calm, calm_none, calm_then, calm_more}

-- what may be sent is sent, with some range
pub record Left (o : Option Range) (w v : Work) (leave : Range → Work) : Type 0 where
  pub range : Range
  pub next : o ≡ Some range
  pub is : leave range ≡ v

-- where a piece is sent, it was affordable
pub left : (o : Option Range) (w v : Work) (leave : Range → Work) → if_affordable o w leave ≡ Some v → Left o w v leave
left None w v leave e = cc
left (Some range) w v leave e = at (nat_lt w.host.credit (range.to - range.from)) e where
  at : (b : Bool) → cond b None (Some (leave range)) ≡ Some v → Left (Some range) w v leave
  at true f = cc
  at false f = record { range = range; next = refl; is = cc }

module _ (s : Settings) where
  client_granted-calm : (id : CallId) (grant : Body) (offset : ℕ) (o : Option ClientRow) (w : Work) → Calm 1 w (client_is_granted s id grant offset o w)
  client_granted-calm id grant offset None w = calm_more 0 1 w w (omega arith) (calm_none w)
  client_granted-calm id grant offset (Some r) w = record { told = _; grown = refl; few = omega arith; quiet = refl; order = refl; last = refl }

  server_granted-calm : (id : CallId) (grant : Body) (offset : ℕ) (o : Option ServerRow) (w : Work) → Calm 1 w (server_is_granted s id grant offset o w)
  server_granted-calm id grant offset None w = calm_more 0 1 w w (omega arith) (calm_none w)
  server_granted-calm id grant offset (Some row) w = record { told = _; grown = refl; few = omega arith; quiet = refl; order = refl; last = refl }

  pub grants_at-calm : (place : Place) (offset prio : ℕ) (w : Work) → Calm 1 w (grants_at s place offset prio w)
  grants_at-calm (OfClient id) offset prio w = client_granted-calm id (body.Grant offset prio) offset (get w.host.clients id) w
  grants_at-calm (OfServer id) offset prio w = server_granted-calm id (body.Grant offset prio) offset (get w.host.servers id) w

  pub all_granted-calm : (gs : List (Granted Arriving)) (w : Work) → Calm (length gs) w (all_granted s gs w)
  all_granted-calm [] w = calm_none w
  all_granted-calm (g ∷ gs) w =
      let v : Work = grants_at s g.to.place g.offset g.prio w in
      calm_more (1 + length gs) (suc (length gs)) w (all_granted s gs v) (omega arith)
      (calm_then 1 (length gs) w v (all_granted s gs v) (grants_at-calm g.to.place g.offset g.prio w) (all_granted-calm gs v))

  pub gives_grants-calm : (w : Work) → Calm s.overcommit w (gives_grants s w)
  gives_grants-calm w =
      let gs : List (Granted Arriving) = grants (λ (a : Arriving). a.message) s.overcommit s.window (arrivals w.host) in
      calm_more (length gs) s.overcommit w (gives_grants s w) (few-grants (λ (a : Arriving). a.message) s.overcommit s.window (arrivals w.host))
      (all_granted-calm gs w)

  client_leaves-calm : (id : CallId) (o : Option ClientRow) (w v : Work) → client_leaves s id o w ≡ Some v → Calm 1 w v
  client_leaves-calm id None w v e = cc
  client_leaves-calm id (Some r) w v e =
      let l = left (next_range r.out s.seg) w v (λ range. request_leaves s id r range w) e in
      subst (Calm 1 w) l.is (record { told = _; grown = refl; few = omega arith; quiet = refl; order = refl; last = refl })

  state_leaves-calm : (id : CallId) (row : ServerRow) (state : State) (w v : Work) → state_leaves s id row state w ≡ Some v → Calm 1 w v
  state_leaves-calm id row (Replying response out order base count) w v e =
      let l = left (next_range out s.seg) w v
      (λ range. response_leaves s id row (response_content s (peer_cutoffs s w.host id.client).cutoffs response out range) range w) e in
      subst (Calm 1 w) l.is (record { told = _; grown = refl; few = omega arith; quiet = refl; order = refl; last = refl })
  state_leaves-calm id row state w v e = cc

  server_leaves-calm : (id : CallId) (o : Option ServerRow) (w v : Work) → server_leaves s id o w ≡ Some v → Calm 1 w v
  server_leaves-calm id None w v e = cc
  server_leaves-calm id (Some row) w v e = state_leaves-calm id row row.state w v e

  pub leaves_from-calm : (place : Place) (w v : Work) → leaves_from s place w ≡ Some v → Calm 1 w v
  leaves_from-calm (OfClient id) w v e = client_leaves-calm id (get w.host.clients id) w v e
  leaves_from-calm (OfServer id) w v e = server_leaves-calm id (get w.host.servers id) w v e

  first_leaves-calm : (o : Option Leaving) (w v : Work) → first_leaves s o w ≡ Some v → Calm 1 w v
  first_leaves-calm None w v e = cc
  first_leaves-calm (Some l) w v e = leaves_from-calm l.place w v e

  pub pumped_once-calm : (w v : Work) → pumped_once s w ≡ Some v → Calm 1 w v
  unfolding pumped_once
  pumped_once-calm w v e = first_leaves-calm (least leaving_key (departures s (now_of w) w.host)) w v e

  pub pumps-calm : (n : ℕ) (w : Work) → Calm n w (pumps s n w)
  unfolding pumps
  pumps-calm zero w = calm_none w
  pumps-calm (suc n) w =
      elim (pumped_once s w) as (λ o. pumped_once s w ≡ o → Calm (suc n) w (elim o [ None ↦ w | Some after ↦ pumps s n after ])) [
        | None ↦ λ e. calm_more 0 (suc n) w w (omega arith) (calm_none w)
        | Some v ↦ λ e. calm_more (1 + n) (suc n) w (pumps s n v) (omega arith) (calm_then 1 n w v (pumps s n v) (pumped_once-calm w v e) (pumps-calm n v))
      ] refl

  pub pump-calm : (w : Work) → Calm (64 - length (packets_in w.told)) w (pump s w)
  pump-calm w = pumps-calm (64 - length (packets_in w.told)) w

  pub ended-calm : (w : Work) → Calm (s.overcommit + (64 - length (packets_in (gives_grants s w).told))) w (ended s w)
  ended-calm w = calm_then s.overcommit (64 - length (packets_in (gives_grants s w).told)) w (gives_grants s w) (ended s w) (gives_grants-calm w)
      (pump-calm (gives_grants s w))
