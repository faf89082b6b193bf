-- The shape of a trace: which lines may stand where.
use Rattle.std.specs.Prelude.{◌≡◌, ◌≢◌, ℕ, ◌<◌, true, false, Option, None, Some, List, length}
use Rattle.plain_sets.specs.Maps.{contains_key}
use Rattle.homa_plain.specs.declared.id.CallId.{CallId}
use Rattle.homa_plain.specs.declared.id.HostId.{HostId}
use Rattle.homa_plain.specs.Entries.{PlainEntry, PlainSettings, PlainCall, PlainDeliver, PlainSend, PlainRefused, IsCause}
use Rattle.homa_plain.specs.Settings.{IsValid}
use Rattle.homa_plain.specs.Wire.{Between}
use Rattle.trace_rules.specs.Lines.{named}
use Rattle.trace_rules.specs.View.{View}
use Rattle.homa_plain.specs.Limits.{longest_message}

-- a line comes after the first one, and after no last one
pub record IsBehind (v : View) : Type 0 where
  pub first : 0 < v.place
  pub last : v.ended ≡ false

-- a call is new, its request is a message, and its client and its server are two hosts of the run
pub record IsNewCall (v : View) (id : CallId) (server : HostId) (request : List ℕ) : Type 0 where
  pub new_id : contains_key v.calls id ≡ false
  pub message : Between 1 longest_message (length request)
  pub from_host : id.client.0 < v.settings.hosts
  pub to_host : server.0 < v.settings.hosts
  pub differ : id.client.0 ≢ server.0

-- the call that a line names, if it names one, was made before
abbrev pub IsMade : View → Option CallId → Type 0
IsMade v None = Unit {0}
IsMade v (Some id) = contains_key v.calls id ≡ true

-- Shape. The first line and no other is that of the settings. Packets are numbered from 0, and none is delivered before it was sent.
abbrev pub Shape : View → PlainEntry → Type 0
Shape v (PlainSettings settings) = (v.place ≡ 0) × IsValid settings
Shape v (PlainCall id server service bytes) = IsBehind v × IsNewCall v id server bytes
Shape v (PlainDeliver packet) = IsBehind v × (packet < length v.packets)
Shape v (PlainSend number from to inc role id level body payload) = IsBehind v × (number ≡ length v.packets) × IsMade v (Some id)
Shape v (PlainRefused line fault) = IsBehind v × IsCause fault
Shape v line = IsBehind v × IsMade v (named line)
