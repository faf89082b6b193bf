-- Two hosts and the frames between them: a host's step, and in which round of the definition they stand.
use Rattle.std.specs.Prelude.{◌≡◌, ◌<◌, ◌≤◌, ◌+◌, ◌*◌, ◌^◌, ℕ, suc, Bool, false, Some, List, [], ◌∷◌, ◌++◌, map, drop, length, slice_get, slice_set}
use Rattle.std.specs.List.{AllByRecursion}
use Rattle.homa_plain.specs.declared.id.HostId.{HostId}
use Rattle.homa_plain.specs.declared.settings.Settings.{Settings}
use Rattle.homa_plain.specs.Packets.{Packet}
use Rattle.homa_plain.specs.Host.{packets_in, entries_from}
use Rattle.homa_plain.specs.Rules.{Answer}
use Rattle.homa_plain.specs.Script.{counting}
use Rattle.homa_plain.specs.Work.{Work}
use Rattle.homa_plain.specs.World.{World, SentPacket}
use Rattle.homa_plain.specs.Quiet.{Round, has_done, round}
use Rattle.host_view.specs.declared.outbox.SentFrame.{SentFrame}
use Rattle.host_view.specs.Seen.{Seen}
use Rattle.host_view.specs.Frames.{frames_of, IsFormed}
use Rattle.quiet_laws.specs.Ends.{IsCalm}

-- the frames are those of these packets, which are well formed
pub record AreFramesOf (s : Settings) (frames : List SentFrame) (packets : List Packet) : Type 0 where
  pub are : frames ≡ frames_of s packets
  pub formed : AllByRecursion (IsFormed s) packets

-- the packets of a world from number n on
abbrev pub packets_from : ℕ → World → List Packet
packets_from n w = map (λ (x : SentPacket). x.packet) (drop n w.packets)

-- ---- a step

-- what the service of the quiet call answers
abbrev pub filled : ℕ → Answer
filled size = record { bytes = counting 0 size; hold = 0 }

-- a step may begin at a host, at this tick of its own clock
pub record MayStep (now : ℕ) (h : Seen) : Type 0 where
  pub last : h.host.last ≤ now
  pub order : h.host.order < 2 ^ 63

-- A host did a step at this tick of its own clock: its frames are under way behind the others, and it is known whether it
-- told that a call was done.
pub record HasStepped (now : ℕ) (id : HostId) (step : Seen → Work) (done : Bool) (hosts new_hosts : List Seen)
    (frames new_frames : List SentFrame) : Type 0 where
  pub before : Seen
  pub at : slice_get hosts id.0 ≡ Some before
  pub after : Seen
  pub hosts_are : new_hosts ≡ slice_set hosts id.0 after
  pub host : after.host ≡ (step before).host
  pub settings : after.settings ≡ before.settings
  pub name : after.host.id ≡ before.host.id
  pub last : after.host.last ≡ now
  pub order : after.host.order ≤ before.host.order + 64
  pub sent : (more : List SentFrame) × (new_frames ≡ frames ++ more) × AreFramesOf before.settings more (packets_in (step before).told)
  pub few : length new_frames ≤ 2 ^ 32
  pub done_is : done ≡ has_done (entries_from 0 (step before).told)

-- ---- rounds

-- a host of this name, which has taken so many steps at most
pub record HostFits (s : Settings) (now steps : ℕ) (id : HostId) (h : Seen) : Type 0 where
  pub settings : h.settings ≡ s
  pub name : h.host.id ≡ id
  pub last : h.host.last ≤ now
  pub order : h.host.order ≤ 64 * steps

-- the hosts from number n on
abbrev pub HostsFit : Settings → ℕ → ℕ → ℕ → List Seen → Type 0
HostsFit s now steps n [] = Unit {0}
HostsFit s now steps n (h ∷ hs) = HostFits s now steps (record { 0 = n }) h × HostsFit s now steps (suc n) hs

-- the most steps up to the end of so many rounds
abbrev pub most_steps : ℕ → ℕ
most_steps rounds = (rounds + 1) * 2 ^ 33

-- the hosts, the clock and the frames that were sent and not delivered are those of this round of the definition
pub record StandFor (s : Settings) (clock : ℕ) (hosts : List Seen) (frames : List SentFrame) (r : Round) : Type 0 where
  pub clock_is : r.world.clock ≡ clock
  pub hosts_are : r.world.hosts ≡ map (λ (h : Seen). h.host) hosts
  pub frames_are : AreFramesOf s frames (packets_from r.delivered r.world)

-- After so many rounds the call is in progress, with so many answers: the hosts and the frames stand for the definition's round of the
-- same number, and the call was done in none up to it.
pub record GoesOn (s : Settings) (n m rounds : ℕ) (hosts : List Seen) (frames : List SentFrame) (answers : ℕ) : Type 0 where
  pub calm : IsCalm s n m
  pub stand : StandFor s rounds hosts frames (round s n m rounds)
  pub not_yet : (r : ℕ) → r ≤ rounds → (round s n m r).done ≡ false
  pub fit : HostsFit s (rounds + s.skew) (most_steps rounds) 0 hosts
  pub served : answers ≤ most_steps rounds
  pub few : length frames ≤ 2 ^ 32
