-- A step of a host to which nothing happened is one of the host before.
use Rattle.std.proofs.Common.{◌≡◌, ℕ, List, ap, subst, ◌∙◌}
use Rattle.std.specs.List.{AllByRecursion}
use Rattle.std.specs.Option.{option_map}
use Rattle.homa_plain.specs.declared.id.HostId.{HostId}
use Rattle.homa_plain.specs.declared.packet.Packet.{Packet as WirePacket}
use Rattle.homa_plain.specs.declared.settings.Settings.{Settings}
use Rattle.homa_plain.specs.Host.{Host, packets_in, entries_from}
use Rattle.homa_plain.specs.Packets.{packet_between}
use Rattle.homa_plain.specs.Rules.{Answer}
use Rattle.homa_plain.specs.Work.{Work}
use Rattle.homa_plain.specs.Steps.{arrival_step}
use Rattle.homa_plain.specs.Wire.{packet_in}
use Rattle.host_view.specs.Frames.{frames_of, IsFormed}
use Rattle.driven_host.specs.Driven.{Driven, IsStill}
use Rattle.late_host.specs.Late.{arrives, HasArrived}

module _ (now : ℕ) (from : HostId) (frame : List ℕ) where
  abbrev step_of : Answer → Settings → Host → Work
  step_of a s h = arrival_step s h now (option_map (λ (r : WirePacket × List ℕ). packet_between from h.id r.0 r.1) (packet_in s.wire frame)) a

  pub same_arrival : (old mid : Driven) → IsStill old mid → (a : Answer) → arrives mid now from frame a ≡ arrives old now from frame a
  same_arrival old mid still a =
      ap (λ h. step_of a mid.host.settings h) still.host ∙ ap (λ s. step_of a s old.host.host) still.settings

  pub same_step : (old mid new : Driven) → IsStill old mid → HasArrived now from frame mid new → HasArrived now from frame old new
  same_step old mid new still arrived =
      let a = arrived.0 in
      let done = arrived.1 in
      let same = same_arrival old mid still a in (
        a,
        record {
          host = done.host ∙ ap (λ (w : Work). w.host) same;
          settings = done.settings ∙ still.settings;
          entries = done.entries ∙ ap (λ (w : Work). entries_from 0 w.told) same;
          posted =
              done.posted ∙ ap (λ s. frames_of s (packets_in (arrives mid now from frame a).told)) still.settings
              ∙ ap (λ (w : Work). frames_of old.host.settings (packets_in w.told)) same;
          formed =
              subst (λ (w : Work). AllByRecursion (IsFormed old.host.settings) (packets_in w.told)) same
              (subst (λ (s : Settings). AllByRecursion (IsFormed s) (packets_in (arrives mid now from frame a).told)) still.settings done.formed);
          sent = done.sent;
        },
      )

pub still_twice : (old mid new : Driven) → IsStill old mid → IsStill mid new → IsStill old new
still_twice old mid new first then = record {
  host = then.host ∙ first.host;
  settings = then.settings ∙ first.settings;
  served = then.served ∙ first.served;
}
