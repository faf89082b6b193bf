-- The parts where a step begins with a packet: its cutoffs are heard, and the rows stay.
use Rattle.std.proofs.Common.{◌≡◌, ◌≤◌, ℕ, List, [], sym, ap, subst, ◌∙◌}
use Rattle.homa_plain.specs.declared.id.HostId.{HostId}
use Rattle.homa_plain.specs.declared.packet.Packet.{Packet as WirePacket}
use Rattle.homa_plain.specs.declared.settings.Settings.{Settings}
use Rattle.homa_plain.specs.Work.{Work, begun}
use Rattle.homa_plain.specs.CutoffsPackets.{hears_cutoffs}
use Rattle.host_view.specs.declared.outbox.SentFrame.{SentFrame}
use Rattle.host_state.specs.Control.{Control, IsSound, IsAt}
use Rattle.homa_host.specs.Parts.{host_of, IsKept}
use Rattle.homa_host.specs.Amid.{Amid}
use Rattle.homa_host.specs.declared.parts.HostParts.{HostParts}
use Rattle.homa_host.proofs.Begun.{GoesOn, kept-control, amid-begun, at-amid, amid-heard}

-- the work of a host in tick `now` that heard what a packet tells of its sender's cutoffs
abbrev pub heard_work : HostParts → HostId → WirePacket → ℕ → Work
heard_work host from packet now = hears_cutoffs host.control.settings from packet.sender packet.body (begun (host_of host) now)

-- a host began a step in tick `now`, and heard what a packet tells of its sender's cutoffs
pub record HasHeard (host : HostParts) (from : HostId) (packet : WirePacket) (now : ℕ) (control : Control) : Type 0 where
  pub on : GoesOn host.control control
  pub last : control.last ≡ now
  pub marks : control.marks ≡ []
  pub kept : IsKept (record host { control = control })
  pub amid : Amid (heard_work host from packet now) (record host { control = control }) []

pub heard_by : (host : HostParts) → IsKept host → (from : HostId) (packet : WirePacket) (now : ℕ) → host.control.last ≤ now → (first heard : Control)
    → first ≡ record host.control { last = now; marks = [] } → heard ≡ record first { peers = heard.peers } → IsSound heard
    → ((w : Work) (frames : List SentFrame) → IsAt w first frames → IsAt (hears_cutoffs first.settings from packet.sender packet.body w) heard frames)
    → HasHeard host from packet now heard
heard_by host kept from packet now later first heard begins hears sound step =
    let is : heard ≡ record host.control { last = now; marks = []; peers = heard.peers } =
    hears ∙ ap (λ (k : Control). record k { peers = heard.peers }) begins in
    let last : heard.last ≡ now = ap (λ (k : Control). k.last) is in
    let on : GoesOn host.control heard = record {
      settings = ap (λ (k : Control). k.settings) is;
      id = ap (λ (k : Control). k.id) is;
      inc = ap (λ (k : Control). k.inc) is;
      last = subst (λ n. host.control.last ≤ n) (sym last) later;
      opened = ap (λ (k : Control). k.tuning.opened) is;
    } in
    let start : Amid (begun (host_of host) now) (record host { control = first }) [] = amid-begun host first now begins in
    let at : IsAt (heard_work host from packet now) heard [] =
    subst (λ (s : Settings). IsAt (hears_cutoffs s from packet.sender packet.body (begun (host_of host) now)) heard [])
    (ap (λ (k : Control). k.settings) begins)
    (step (begun (host_of host) now) [] (at-amid (begun (host_of host) now) (record host { control = first }) [] start)) in
    record {
      on = on;
      last = last;
      marks = ap (λ (k : Control). k.marks) is;
      kept = kept-control host heard on sound kept;
      amid = amid-heard host.control.settings from packet.sender packet.body (begun (host_of host) now) (record host { control = first }) heard [] at start;
    }
