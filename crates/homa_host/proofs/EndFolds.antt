-- How a step ends, piece by piece.
use Rattle.std.proofs.Common.{◌≡◌, ◌<◌, ◌≤◌, ◌+◌, Option, Some, None, List, [], length, refl, sym, ap, subst, ◌∙◌, arith}
use Rattle.std.proofs.lemmas.List.{length-map}
use Rattle.homa_plain.specs.declared.settings.Settings.{Settings}
use Rattle.homa_plain.specs.SentNext.{least}
use Rattle.homa_plain.specs.Host.{Host, packets_in}
use Rattle.homa_plain.specs.SentNext.{Leaving, leaving_key, departures}
use Rattle.homa_plain.specs.Work.{Work}
use Rattle.homa_plain.specs.SentNext.{first_leaves, pumped_once, pump}
use Rattle.host_view.specs.declared.outbox.SentFrame.{SentFrame}
use Rattle.host_view.specs.Frames.{frame_of}
use Rattle.host_view.proofs.Pump as seen_pump
use Rattle.host_books.proofs.PumpOnce.{pump_goes, pump_ends, pump_full}
use Rattle.homa_host.specs.declared.parts.HostParts.{HostParts}
use Rattle.homa_host.specs.Parts.{seen_of, IsKept}
use Rattle.homa_host.specs.Amid.{Amid, WasSent, WasIdle, WasShort, IsPumped}
use Rattle.homa_host.specs.declared.pump.Pumped.{Pumped}
use Rattle.homa_host.specs.declared.pump.Pumped.TheVariants.{Sent, Idle, Short}

-- there are as many frames as packets were sent
pub frames_told : (w : Work) (c : HostParts) (out : List SentFrame) → Amid w c out → length out ≡ length (packets_in w.told)
frames_told w c out a = ap length a.sent ∙ length-map (packets_in w.told) (frame_of c.control.settings)

-- where the pacer holds nothing, nothing is sent
pub none_pumped : (w : Work) (c : HostParts) (out : List SentFrame) → IsKept c → Amid w c out → c.books.pacer.ready ≡ []
    → pumped_once c.control.settings w ≡ None
unfolding pumped_once
none_pumped w c out kept a none =
    ap (λ (g : Host). first_leaves c.control.settings (least leaving_key (departures c.control.settings g.last g)) w) (sym a.host)
    ∙ ap (λ (o : Option Leaving). first_leaves c.control.settings o w) (seen_pump.idle (seen_of c) c.books.pacer.ready kept.booked.ready none)

-- in the midst of the pump: what is left to be pumped comes to the same
abbrev pub IsPumping : HostParts → List SentFrame → HostParts → List SentFrame → Type 0
IsPumping first before c out = (w : Work) → Amid w first before → (v : Work) × (pump first.control.settings w ≡ pump first.control.settings v) × Amid v c out

-- it goes on with a piece that was sent
pub pumps_on : (first : HostParts) (before : List SentFrame) (c d : HostParts) (out more : List SentFrame)
    → c.control.settings ≡ first.control.settings → length out < 64
    → IsPumping first before c out → WasSent c out d more → IsPumping first before d more
pumps_on first before c d out more same room pumping sent w a =
    let p = pumping w a in
    let q = sent.step p.0 p.2 in
    let once : pumped_once first.control.settings p.0 ≡ Some q.0 = subst (λ (s : Settings). pumped_once s p.0 ≡ Some q.0) same q.1 in (
      q.0,
      p.1 ∙ pump_goes first.control.settings p.0 q.0 (omega (arith, frames_told p.0 c out p.2)) once
          (omega (arith, frames_told p.0 c out p.2, frames_told q.0 d more q.2, sent.frames)),
      q.2,
    )

-- and with a message that rests
pub pumps_past : (first : HostParts) (before : List SentFrame) (c d : HostParts) (out more : List SentFrame) → IsPumping first before c out
    → WasIdle c out d more → IsPumping first before d more
pumps_past first before c d out more pumping idle w a = let p = pumping w a in (p.0, p.1, idle.step p.0 p.2)

-- it ends where nothing more is sent
pub pumped_end : (first : HostParts) (before : List SentFrame) (c : HostParts) (out : List SentFrame) → c.control.settings ≡ first.control.settings
    → IsPumping first before c out
    → ((w : Work) → Amid w c out → pumped_once c.control.settings w ≡ None) → (w : Work) → Amid w first before → Amid (pump first.control.settings w) c out
pumped_end first before c out same pumping none w a =
    let p = pumping w a in
    let once : pumped_once first.control.settings p.0 ≡ None = subst (λ (s : Settings). pumped_once s p.0 ≡ None) same (none p.0 p.2) in
    subst (λ (v : Work). Amid v c out) (sym (p.1 ∙ pump_ends first.control.settings p.0 once)) p.2

-- or 64 packets were
pub pumped_full : (first : HostParts) (before : List SentFrame) (c : HostParts) (out : List SentFrame) → 64 ≤ length out → IsPumping first before c out
    → (w : Work) → Amid w first before → Amid (pump first.control.settings w) c out
pumped_full first before c out full pumping w a =
    let p = pumping w a in
    subst (λ (v : Work). Amid v c out) (sym (p.1 ∙ pump_full first.control.settings p.0 (omega (arith, frames_told p.0 c out p.2)))) p.2

-- or the next piece costs too much
pub pumped_short : (first : HostParts) (before : List SentFrame) (c d : HostParts) (out more : List SentFrame)
    → c.control.settings ≡ first.control.settings → IsPumping first before c out → WasShort c out d more
    → (w : Work) → Amid w first before → Amid (pump first.control.settings w) d more
pumped_short first before c d out more same pumping short w a =
    let p = pumping w a in
    let once : pumped_once first.control.settings p.0 ≡ None = subst (λ (s : Settings). pumped_once s p.0 ≡ None) same (short.step p.0 p.2) in
    subst (λ (v : Work). Amid v d more) (sym (p.1 ∙ pump_ends first.control.settings p.0 once)) (short.same p.0 p.2)

-- what each turn of the pump keeps
pub record KeepsPumping (first : HostParts) (before : List SentFrame) (d : HostParts) (more : List SentFrame) : Type 0 where
  pub told : length d.control.marks + length before ≡ length first.control.marks + length more
  pub step : IsPumping first before d more

pub pumping_on : (first : HostParts) (before : List SentFrame) (c d : HostParts) (out more : List SentFrame) (r : Pumped) → (r ≡ Short → ⊥)
    → IsPumped c out d more r → c.control.settings ≡ first.control.settings → length out < 64
    → length c.control.marks + length before ≡ length first.control.marks + length out → IsPumping first before c out → KeepsPumping first before d more
pumping_on first before c d out more Sent not_short sent same room told pumping =
    record { told = omega (arith, sent.frames, sent.told, told); step = pumps_on first before c d out more same room pumping sent }
pumping_on first before c d out more Idle not_short idle same room told pumping =
    record {
      told = omega (arith, ap length idle.frames, ap (λ x. length x.marks) idle.control, told);
      step = pumps_past first before c d out more pumping idle;
    }
pumping_on first before c d out more Short not_short short same room told pumping = absurd (not_short refl)
