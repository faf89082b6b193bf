-- Timeouts by the lines of a trace, and what is so of live calls and of the RESENDs that the lines tell of them.
use Rattle.std.specs.Prelude.{◌≡◌, ◌≤◌, ◌↔◌, ℕ, Bool, true, Some, List, ◌∷◌, length}
use Rattle.plain_sets.specs.Maps.{get}
use Rattle.homa_plain.specs.declared.id.CallId.{CallId}
use Rattle.homa_plain.specs.declared.id.HostId.{HostId}
use Rattle.homa_plain.specs.declared.settings.Settings.{Settings}
use Rattle.homa_plain.specs.declared.entry.Why.TheVariants.{Timeout}
use Rattle.homa_plain.specs.Entries.{PlainEntry, PlainFail}
use Rattle.homa_plain.specs.Outgoing as outgoing
use Rattle.homa_plain.specs.Rows.{ClientRow}
use Rattle.homa_plain.specs.Host.{Host}
use Rattle.homa_plain.specs.World.{World, host_at}
use Rattle.trace_rules.specs.View.{View, sent_last, resends_of}
use Rattle.trace_rules.specs.Laws.{AreSpaced, IsUnanswered}
use Rattle.trace_steps.specs.Level.{IsLevel}
use Rattle.trace_steps.specs.Contents.{called_by}

-- the first half of fails: a call times out only when it is unanswered
abbrev pub TimesOut : View → PlainEntry → Type 0
TimesOut v (PlainFail id Timeout) = IsUnanswered v id
TimesOut v line = Unit {0}

-- a client's row, and the ticks of its RESENDs since the last renewal, the latest first; `all` says whether the last byte of its request was sent
pub record IsFairRow (s : Settings) (last : ℕ) (r : ClientRow) (ticks : List ℕ) (all : Bool) : Type 0 where
  pub sent : (all ≡ true) ↔ (r.out.top ≡ r.out.length)
  pub each : length ticks ≡ r.count
  pub most : r.count ≤ s.tries
  pub spaced : AreSpaced s.resend ticks
  pub after : (t : ℕ) (rest : List ℕ) → ticks ≡ t ∷ rest → t ≤ r.base
  pub base : r.base ≤ last

-- a live call's row at its client, where the client's last tick is this one, and what the lines say of the call
pub record IsLiveRow (s : Settings) (v : View) (last : ℕ) (q : CallId) (r : ClientRow) : Type 0 where
  pub live : get v.now.live q ≡ Some r.seen
  pub called : get v.calls q ≡ Some (called_by r)
  pub size : r.out.length ≡ length r.request
  pub sound : outgoing.IsSound r.out
  pub fair : IsFairRow s last r (resends_of v.now q) (sent_last v q)

-- each row at its client is one
abbrev pub AreLive : Settings → View → HostId → Host → Type 0
AreLive s v id h = (q : CallId) (r : ClientRow) → q.client ≡ id → get h.clients q ≡ Some r → IsLiveRow s v h.last q r

-- so it is of each host; and a refusal of the block's delivery would leave the same live calls and RESENDs
pub record HasFairRows (s : Settings) (w : World) (v : View) : Type 0 where
  pub level : IsLevel v
  pub rows : (id : HostId) (h : Host) → host_at w id ≡ Some h → AreLive s v id h
