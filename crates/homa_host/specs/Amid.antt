-- A host in the midst of a step.
use Rattle.std.specs.Prelude.{◌≡◌, ◌+◌, ◌≤◌, ◌<◌, ℕ, None, Some, List, length}
use Rattle.std.specs.List.{AllByRecursion}
use Rattle.homa_plain.specs.Host.{packets_in}
use Rattle.homa_plain.specs.Work.{Work}
use Rattle.homa_plain.specs.SentNext.{pumped_once}
use Rattle.host_view.specs.declared.outbox.SentFrame.{SentFrame}
use Rattle.host_view.specs.Frames.{frames_of, IsFormed}
use Rattle.host_view.specs.Marks.{marks_from}
use Rattle.homa_host.specs.Parts.{host_of}
use Rattle.homa_host.specs.declared.parts.HostParts.{HostParts}
use Rattle.homa_host.specs.declared.pump.Pumped.{Pumped}
use Rattle.homa_host.specs.declared.pump.Pumped.TheVariants.{Sent, Idle, Short}

-- the plain host is this one, and this was told so far, in these frames
pub record Amid (w : Work) (c : HostParts) (frames : List SentFrame) : Type 0 where
  pub host : host_of c ≡ w.host
  pub marked : c.control.marks ≡ marks_from 0 w.told
  pub sent : frames ≡ frames_of c.control.settings (packets_in w.told)
  pub formed : AllByRecursion (IsFormed c.control.settings) (packets_in w.told)

-- what a move leaves: the settings, the host and its clock; and how much it tells
pub record Steady (marks frames orders : ℕ) (old : HostParts) (before : List SentFrame) (new : HostParts) (after : List SentFrame) : Type 0 where
  pub settings : new.control.settings ≡ old.control.settings
  pub id : new.control.id ≡ old.control.id
  pub last : new.control.last ≡ old.control.last
  pub marks_told : length new.control.marks ≤ length old.control.marks + marks
  pub frames_sent : length after ≤ length before + frames
  pub order : new.order ≤ old.order + orders

-- there is room for so many entries and frames
pub record HasRoom (marks frames : ℕ) (c : HostParts) (out : List SentFrame) : Type 0 where
  pub marks_left : length c.control.marks + marks ≤ 128
  pub frames_left : length out + frames ≤ 64

-- a piece of the message that comes first was sent
pub record WasSent (old : HostParts) (before : List SentFrame) (new : HostParts) (after : List SentFrame) : Type 0 where
  pub step : (w : Work) → Amid w old before → (v : Work) × (pumped_once old.control.settings w ≡ Some v) × Amid v new after
  pub frames : length after ≡ length before + 1
  pub told : length new.control.marks ≡ length old.control.marks + 1
  pub ready : length new.books.pacer.ready ≤ length old.books.pacer.ready

-- the message that came first rests, and the pacer holds one fewer
pub record WasIdle (old : HostParts) (before : List SentFrame) (new : HostParts) (after : List SentFrame) : Type 0 where
  pub step : (w : Work) → Amid w old before → Amid w new after
  pub frames : after ≡ before
  pub control : new.control ≡ old.control
  pub fewer : length new.books.pacer.ready < length old.books.pacer.ready

-- the next piece of the message that comes first costs too much, and the host stays
pub record WasShort (old : HostParts) (before : List SentFrame) (new : HostParts) (after : List SentFrame) : Type 0 where
  pub step : (w : Work) → Amid w old before → pumped_once old.control.settings w ≡ None
  pub same : (w : Work) → Amid w old before → Amid w new after

-- what the pump did with the message that comes first: sent its next piece, found none that may be sent, or too little credit
abbrev pub IsPumped : HostParts → List SentFrame → HostParts → List SentFrame → Pumped → Type 0
IsPumped old before new after Sent = WasSent old before new after
IsPumped old before new after Idle = WasIdle old before new after
IsPumped old before new after Short = WasShort old before new after

-- a step has begun with a call
pub record IsBegun (now orders : ℕ) (old new : HostParts) : Type 0 where
  pub settings : new.control.settings ≡ old.control.settings
  pub id : new.control.id ≡ old.control.id
  pub last : new.control.last ≡ now
  pub marks_told : length new.control.marks ≤ 1
  pub order : new.order ≤ old.order + orders

-- a step has begun with a packet that came
pub record HasCome (now marks frames orders : ℕ) (old new : HostParts) (after : List SentFrame) : Type 0 where
  pub settings : new.control.settings ≡ old.control.settings
  pub id : new.control.id ≡ old.control.id
  pub last : new.control.last ≡ now
  pub marks_told : length new.control.marks ≤ marks
  pub frames_sent : length after ≤ frames
  pub order : new.order ≤ old.order + orders
