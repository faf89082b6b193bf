-- What a step is lent, and what it does to that.
use Rattle.std.specs.Prelude.{◌≡◌, ◌≢◌, ◌≤◌, ◌<◌, ◌+◌, ◌^◌, if◌then◌else◌, ℕ, List, []}
use Rattle.std.specs.List.{AllByRecursion}
use Rattle.homa_plain.specs.declared.id.HostId.{HostId}
use Rattle.homa_plain.specs.Host.{Host}
use Rattle.homa_plain.specs.Rules.{Answer}
use Rattle.host_view.specs.declared.mark.Mark.{Mark}
use Rattle.host_view.specs.Marks.{has_ran, IsReply, IsAllowed}
use Rattle.host_view.specs.Seen.{Seen}
use Rattle.homa_host.specs.declared.lent.Lent.{Lent}
use Rattle.homa_plain.specs.Limits.{last_host_tick}

-- a datagram may come to the host from this peer at this tick, and nothing was sent yet
pub record CanCome {S : Type 0} (count : S → ℕ) (h : Seen) (peer : HostId) (tick : ℕ) (lent : Lent S) : Type 0 where
  pub from : peer.0 < h.settings.hosts
  pub other : peer ≢ h.host.id
  pub now : tick ≤ last_host_tick
  pub later : h.host.last ≤ tick
  pub order : h.host.order < 2 ^ 63
  pub served : count lent.service.now < 2 ^ 63
  pub out : lent.out.now ≡ []

-- the references are those that were lent, and what the service may answer was so before
pub record IsSame {S : Type 0} (allows : S → ℕ → ℕ → List ℕ → List ℕ → ℕ → Type 0) (old new : Lent S) : Type 0 where
  pub service : new.service.ghost_name ≡ old.service.ghost_name
  pub out : new.out.ghost_name ≡ old.out.ghost_name
  pub scratch : new.scratch.ghost_name ≡ old.scratch.ghost_name
  pub before : (count number hold : ℕ) (q r : List ℕ) → allows new.service.now count number q r hold → allows old.service.now count number q r hold

-- where the service was asked, by what the step told, it answered once, and was allowed to answer so
pub record IsServed {S : Type 0} (served : S → ℕ) (allows : S → ℕ → ℕ → List ℕ → List ℕ → ℕ → Type 0) (old new : Lent S) (h : Host)
    (marks : List Mark) : Type 0 where
  pub counted : served new.service.now ≡ (if has_ran marks then served old.service.now + 1 else served old.service.now)
  pub answered : (a : Answer) × AllByRecursion (IsReply h a) marks
  pub allowed : AllByRecursion (IsAllowed h (allows old.service.now (served old.service.now)) new.scratch.now) marks

-- the service found no memory: nothing was sent and nothing answered
pub record IsRefused {S : Type 0} (served : S → ℕ) (old new : Lent S) : Type 0 where
  pub none : new.out.now ≡ []
  pub counted : served new.service.now ≡ served old.service.now
