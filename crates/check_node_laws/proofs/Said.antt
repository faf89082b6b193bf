-- What each line of a node's trace tells fits its types, and each packet is between the hosts of its call.
use Rattle.std.proofs.Common.{◌≡◌, ◌≤◌, ◌<◌, ◌^◌, ℕ, suc, Some, List, [], ◌∷◌, length, sym, ap, ◌∙◌, subst}
use Rattle.std.specs.List.{AllByRecursion}
use Rattle.plain_sets.specs.Maps.{get}
use Rattle.homa_plain.specs.declared.id.HostId.{HostId}
use Rattle.homa_plain.specs.declared.settings.Settings.{Settings}
use Rattle.homa_plain.specs.Bytes.{IsBytes}
use Rattle.homa_plain.specs.Settings.{IsValid}
use Rattle.homa_plain.specs.Wire.{IsCall, FitsKind}
use Rattle.homa_plain.specs.Entries.{PlainEntry, PlainSettings, PlainCall, PlainDeliver, PlainClock, PlainRestart, PlainInject, PlainShift, PlainFinished}
use Rattle.homa_plain.specs.Entries.{PlainRefused, PlainStalled, PlainJunk, PlainStale, PlainSend, PlainRun, PlainDone, PlainFail, PlainDrop, PlainGaps}
use Rattle.homa_plain.specs.Entries.{PlainBury, PlainFree, PlainFullRows, PlainFullPages, PlainBalance, PlainRecv}
use Rattle.homa_plain.specs.Packets.{Packet, sender_of, receiver_of, send_line}
use Rattle.homa_plain.specs.Host.{Told, Says, Sends, packets_in, entries_from}
use Rattle.trace_rules.specs.Laws.{Holds}
use Rattle.trace_rules.specs.View.{View, Called}
use Rattle.trace_rules.specs.Seen.{seen}
use Rattle.homa_plain.specs.World.{last_tick}
use Rattle.trace_steps.proofs.Lines.{inner_same}
use Rattle.step_moves.proofs.Inner.{said_inner, AllInner, IsSaid}
use Rattle.world_laws.specs.Sound.{IsSent}
use Rattle.node_laws.proofs.Told.{FitsEntry, AllTold}
use Rattle.node_laws.proofs.Inner.{IsAt, AllAt}

-- ---- one line

-- the host of a line has 16 bits
abbrev pub FitsAt : PlainEntry → Type 0
FitsAt (PlainRun host id service request response hold) = host.0 < 2 ^ 16
FitsAt (PlainDrop host id) = host.0 < 2 ^ 16
FitsAt (PlainGaps host id) = host.0 < 2 ^ 16
FitsAt (PlainBury host id until) = host.0 < 2 ^ 16
FitsAt (PlainFree host id) = host.0 < 2 ^ 16
FitsAt (PlainFullRows host id rows limit) = host.0 < 2 ^ 16
FitsAt (PlainFullPages host id need free) = host.0 < 2 ^ 16
FitsAt (PlainBalance host cutoffs) = host.0 < 2 ^ 16
FitsAt (PlainJunk host) = host.0 < 2 ^ 16
FitsAt (PlainStale host at now) = host.0 < 2 ^ 16
FitsAt line = Unit {0}

-- what a line tells beside a call with what its own line says of it
abbrev pub IsSaidLine : PlainEntry → Type 0
IsSaidLine (PlainSettings s) = IsValid s
IsSaidLine (PlainClock now) = now ≤ last_tick
IsSaidLine (PlainCall id server service bytes) = IsCall (id.inc, id.seq) × (service < 256) × IsBytes bytes
IsSaidLine (PlainRecv host from bytes) = (host.0 < 2 ^ 16) × (from.0 < 2 ^ 16) × IsBytes bytes × (length bytes ≤ 1500)
IsSaidLine (PlainSend number from to inc role id level what payload) = (inc < 2 ^ 32) × FitsKind role level what payload × IsBytes payload
IsSaidLine (PlainDeliver packet) = ⊥
IsSaidLine (PlainRestart host inc) = ⊥
IsSaidLine (PlainInject host bytes) = ⊥
IsSaidLine (PlainShift host n) = ⊥
IsSaidLine (PlainFinished n) = ⊥
IsSaidLine (PlainRefused line fault) = ⊥
IsSaidLine (PlainStalled turns now) = ⊥
IsSaidLine line = FitsAt line × FitsEntry line

-- a packet is sent by the one host of its call, to the other one
abbrev pub IsBetween : View → PlainEntry → Type 0
IsBetween v (PlainSend number from to inc role id level what payload) =
    (c : Called) × (get v.calls id ≡ Some c) × (from ≡ sender_of role id c.server) × (to ≡ receiver_of role id c.server)
IsBetween v line = Unit {0}

abbrev pub IsTrue : View → PlainEntry → Type 0
IsTrue v line = IsSaidLine line × IsBetween v line

-- ---- lines within a step

at_fits : (id : HostId) → id.0 < 2 ^ 16 → (host : HostId) → host ≡ id → host.0 < 2 ^ 16
at_fits id few host same = subst (λ (h : HostId). h.0 < 2 ^ 16) (sym same) few

said_line : (v : View) (id : HostId) → id.0 < 2 ^ 16 → (line : PlainEntry) → IsSaid line → IsAt id line → FitsEntry line → IsTrue v line
said_line v id few (PlainRun host q service request response hold) said at fits = ((at_fits id few host at, fits), tt)
said_line v id few (PlainDone q bytes) said at fits = ((tt, fits), tt)
said_line v id few (PlainFail q why) said at fits = ((tt, fits), tt)
said_line v id few (PlainDrop host q) said at fits = ((at_fits id few host at, fits), tt)
said_line v id few (PlainGaps host q) said at fits = ((at_fits id few host at, fits), tt)
said_line v id few (PlainBury host q until) said at fits = ((at_fits id few host at, fits), tt)
said_line v id few (PlainFree host q) said at fits = ((at_fits id few host at, fits), tt)
said_line v id few (PlainFullRows host q rows limit) said at fits = ((at_fits id few host at, fits), tt)
said_line v id few (PlainFullPages host q need free) said at fits = ((at_fits id few host at, fits), tt)
said_line v id few (PlainBalance host cutoffs) said at fits = ((at_fits id few host at, fits), tt)
said_line v id few (PlainJunk host) said at fits = ((at_fits id few host at, fits), tt)
said_line v id few (PlainStale host at' now) said at fits = ((at_fits id few host at, fits), tt)
said_line v id few line said at fits = absurd said

-- a packet's call was made to its server
pub record IsMade (s : Settings) (v : View) (p : Packet) : Type 0 where
  pub sent : IsSent s p
  pub call : Called
  pub called : get v.calls p.id ≡ Some call
  pub server : call.server ≡ p.server

send_is : (s : Settings) (v : View) (k : ℕ) (p : Packet) → IsMade s v p → IsTrue v (send_line k p)
send_is s v k p m = (
  (m.sent.sender.1, m.sent.of_kind, m.sent.bytes),
  (m.call, m.called, ap (sender_of p.role p.id) (sym m.server), ap (receiver_of p.role p.id) (sym m.server)),
)

pub made_on : (s : Settings) (v u : View) (ps : List Packet) → u.calls ≡ v.calls → AllByRecursion (IsMade s v) ps → AllByRecursion (IsMade s u) ps
made_on s v u [] same all = tt
made_on s v u (p ∷ ps) same all = (
  record { sent = all.0.sent; call = all.0.call; called = ap (λ m. get m p.id) same ∙ all.0.called; server = all.0.server },
  made_on s v u ps same all.1,
)

pub inner_true : (s : Settings) (v : View) (id : HostId) → id.0 < 2 ^ 16 → (k : ℕ) (told : List Told) → AllInner told → AllAt id told → AllTold told
    → AllByRecursion (IsMade s v) (packets_in told) → Holds IsTrue v (entries_from k told)
inner_true s v id few k [] inner at fits made = tt
inner_true s v id few k (Says e ∷ told) inner at fits made = (
  said_line v id few e inner.0 at.0 fits.0,
  inner_true s (seen v e) id few k told inner.1 at.1 fits.1 (made_on s v (seen v e) (packets_in told) (inner_same v e (said_inner e inner.0)).calls made),
)
inner_true s v id few k (Sends p ∷ told) inner at fits made =
    let line : PlainEntry = send_line k p in (
      send_is s v k p made.0,
      inner_true s (seen v line) id few (suc k) told inner at fits.1 (made_on s v (seen v line) (packets_in told) (inner_same v line tt).calls made.1),
    )
