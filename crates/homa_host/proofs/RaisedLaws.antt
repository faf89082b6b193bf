-- A message that arrives is granted up to an end, at either side.
use Rattle.std.proofs.Common.{◌≡◌, ℕ, Option, Some, None, IsSome, List, refl, sym, subst, ◌∙◌}
use Rattle.plain_sets.proofs.MapMembers.{same_some}
use Rattle.homa_plain.specs.declared.id.CallId.{CallId}
use Rattle.homa_plain.specs.declared.id.HostId.{HostId}
use Rattle.homa_plain.specs.declared.packet.Body.TheVariants as body
use Rattle.homa_plain.specs.declared.packet.Role.{Role}
use Rattle.homa_plain.specs.Host.{Host, Told}
use Rattle.homa_plain.specs.Rows.{RowsOf}
use Rattle.homa_plain.specs.Sending.{Arriving}
use Rattle.homa_plain.specs.Work.{Work, posts}
use Rattle.homa_plain.specs.Steps.{grants_at}
use Rattle.homa_plain.specs.Timers.{Place}
use Rattle.msg_pool.specs.Pool.{Pool}
use Rattle.homa_in.specs.Part.{Part}
use Rattle.host_places.specs.Placed.{Placed, ArePlaced, StandsAt, spot_at}
use Rattle.host_places.proofs.PlacedLaws.{spot-stands}
use Rattle.host_state.specs.Control.{IsAt}
use Rattle.host_view.specs.declared.outbox.SentFrame.{SentFrame}
use Rattle.homa_host.specs.declared.parts.HostParts.{HostParts}
use Rattle.homa_host.specs.Parts.{host_of}
use Rattle.homa_host.specs.Amid.{Amid}
use Rattle.homa_host.specs.Granting.{IsPartOf}
use Rattle.homa_host.proofs.Begun.{IsRest, at-amid, amid-at}

-- the row at a place of a table has the message that arrives there, as its part in the pool
pub record Arrives {R : Type 0} (rows : RowsOf (Placed R)) (part_of : R → Option Part) (side : CallId → Place) (pool : Pool) (n : ℕ)
    (a : Arriving) : Type 0 where
  pub id : CallId
  pub row : R
  pub part : Part
  pub place : a.place ≡ side id
  pub stands : StandsAt rows id n row
  pub spot : IsSome (spot_at rows n)
  pub has : part_of row ≡ Some part
  pub is : IsPartOf pool a part

-- what there is
pub some_of : {X : Type 0} (o : Option X) → IsSome o → (x : X) × (o ≡ Some x)
some_of None is = cc
some_of (Some x) is = (x, refl)

-- what holds of the row at a place holds of each that stands there
pub one_row : {R : Type 0} (rows : RowsOf (Placed R)) (limit n : ℕ) → ArePlaced limit rows → (P : R → Type 0) (id : CallId) (r : R)
    → StandsAt rows id n r → P r → (q : CallId) (s : R) → StandsAt rows q n s → P s
one_row {R} rows limit n placed P id r stands holds q s there =
    subst (λ (y : CallId × R). P y.1)
    (same_some (id, r) (q, s) (sym (spot-stands limit rows placed id n r stands) ∙ spot-stands limit rows placed q n s there)) holds

-- parts whose host has the granted row are in the midst of the same, but for the GRANT
pub raised_step : (c d : HostParts) (h : Host) (place : Place) (offset : ℕ) (role : Role) (id : CallId) (server : HostId)
    → ((w : Work) (out : List SentFrame) → IsAt w c.control out → IsAt (record { host = h; told = w.told }) d.control out) → IsRest d h
    → ((told : List Told) (prio : ℕ) → grants_at c.control.settings place offset prio (record { host = host_of c; told = told }) ≡ posts
    c.control.settings role id server (body.Grant offset prio) (record { host = h; told = told }))
    → (w : Work) (out : List SentFrame) → Amid w c out
    → (v : Work) × Amid v d out
    × ((prio : ℕ) → grants_at c.control.settings place offset prio w ≡ posts c.control.settings role id server (body.Grant offset prio) v)
raised_step c d h place offset role id server at rest same w out amid = (
  record { host = h; told = w.told },
  amid-at (record { host = h; told = w.told }) d out (at w out (at-amid w c out amid)) rest,
  λ prio. (λ i. grants_at c.control.settings place offset prio (record { host = sym amid.host i; told = w.told })) ∙ same w.told prio,
)
