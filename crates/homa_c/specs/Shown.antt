-- What C is shown, and what it gives.
use Rattle.std.specs.Prelude.{ℕ, Option, Some, None, unwrap_or, List, length, slice_get}
use Rattle.homa_plain.specs.declared.id.CallId.{CallId}
use Rattle.homa_plain.specs.declared.id.HostId.{HostId}
use Rattle.homa_plain.specs.declared.settings.Settings.{Settings}
use Rattle.homa_plain.specs.declared.entry.Why.{Why}
use Rattle.homa_plain.specs.declared.entry.Why.TheVariants.{Timeout, Forgotten}
use Rattle.homa_plain.specs.Entries.{PlainEntry, PlainRun, PlainDone, PlainFail, PlainJunk, PlainStale, PlainFullRows, PlainFullPages, PlainGaps}
use Rattle.homa_plain.specs.Entries.{PlainDrop, PlainBury, PlainFree, PlainCall, PlainSend, PlainBalance}
use Rattle.homa_plain.specs.Wire.{kind}
use Rattle.host_view.specs.Marks.{shown_entries}
use Rattle.homa_host.specs.declared.asked.Asked.{Asked}
use Rattle.driven_host.specs.Driven.{Driven}
use Rattle.homa_c.specs.declared.settings.HomaSettings.{HomaSettings}
use Rattle.homa_c.specs.declared.entries.HomaCall.{HomaCall}
use Rattle.homa_c.specs.declared.entries.HomaAsked.{HomaAsked}
use Rattle.homa_c.specs.declared.entries.HomaEntry.{HomaEntry}
use Rattle.homa_c.specs.declared.entries.HomaMore.{HomaMore}

-- a call
abbrev pub shown_call : CallId → HomaCall
shown_call id = record { client = id.client.0; inc = id.inc; seq = id.seq }

-- the call that C gives
abbrev pub given_call : HomaCall → CallId
given_call id = record { client = record { 0 = id.client }; inc = id.inc; seq = id.seq }

-- a call that asks a service
abbrev pub shown_asked : Asked → HomaAsked
shown_asked asked = record { id = shown_call asked.id; service = asked.number }

-- what the last step of a host told
abbrev pub told_entries : Driven → List PlainEntry
told_entries d = shown_entries d.host d.out d.whole

-- the kind of a failure
abbrev pub shown_why : Why → ℕ
shown_why Timeout = 3
shown_why Forgotten = 4

-- no call
abbrev pub no_call : HomaCall
no_call = record { client = 0; inc = 0; seq = 0 }

-- an entry of a number alone
abbrev pub of_none : ℕ → ℕ → HomaEntry
of_none kind len = record { kind = kind; service = 0; id = no_call; len = len }

-- an entry of a call and a number
abbrev pub of_call : ℕ → CallId → ℕ → HomaEntry
of_call kind id len = record { kind = kind; service = 0; id = shown_call id; len = len }

-- an entry of a call of a service and a number
abbrev pub of_service : ℕ → CallId → ℕ → ℕ → HomaEntry
of_service kind id service len = record { kind = kind; service = service; id = shown_call id; len = len }

-- an entry: its kind, its call, its service, and the bytes of its message, or how many rows or pages it speaks of
abbrev pub shown_entry : PlainEntry → HomaEntry
shown_entry (PlainRun host id service request response hold) = of_service 1 id service (length request)
shown_entry (PlainDone id bytes) = of_call 2 id (length bytes)
shown_entry (PlainFail id why) = of_call (shown_why why) id 0
shown_entry (PlainJunk host) = of_none 5 0
shown_entry (PlainStale host at now) = of_none 6 0
shown_entry (PlainFullRows host id rows limit) = of_call 7 id rows
shown_entry (PlainFullPages host id need free) = of_call 8 id need
shown_entry (PlainGaps host id) = of_call 9 id 0
shown_entry (PlainDrop host id) = of_call 10 id 0
shown_entry (PlainBury host id until) = of_call 11 id 0
shown_entry (PlainFree host id) = of_call 12 id 0
shown_entry (PlainCall id server service bytes) = of_service 13 id service (length bytes)
shown_entry (PlainSend number from to inc role id level body payload) = of_call 14 id (length payload)
shown_entry (PlainBalance host cutoffs) = of_none 15 cutoffs.version
shown_entry entry = of_none 0 0

-- the number of a host, and 65,535 where there is none
abbrev pub shown_peer : Option HostId → ℕ
shown_peer None = 65535
shown_peer (Some host) = host.0

-- what more an entry tells, where this host sent the datagram of the step: the other host, and a number. That is the tick at which a
-- packet was sent or up to which a call is remembered, how many rows there may be, how many pages are free, or the kind of a packet.
abbrev pub shown_more : Option HostId → PlainEntry → HomaMore
shown_more from (PlainRun host id service request response hold) = record { peer = id.client.0; at = 0 }
shown_more from (PlainDone id bytes) = record { peer = shown_peer from; at = 0 }
shown_more from (PlainFail id Forgotten) = record { peer = shown_peer from; at = 0 }
shown_more from (PlainJunk host) = record { peer = shown_peer from; at = 0 }
shown_more from (PlainStale host at now) = record { peer = shown_peer from; at = at }
shown_more from (PlainFullRows host id rows limit) = record { peer = id.client.0; at = limit }
shown_more from (PlainFullPages host id need free) = record { peer = shown_peer from; at = free }
shown_more from (PlainGaps host id) = record { peer = shown_peer from; at = 0 }
shown_more from (PlainDrop host id) = record { peer = id.client.0; at = 0 }
shown_more from (PlainBury host id until) = record { peer = id.client.0; at = until }
shown_more from (PlainFree host id) = record { peer = id.client.0; at = 0 }
shown_more from (PlainCall id server service bytes) = record { peer = server.0; at = 0 }
shown_more from (PlainSend number sender to inc role id level body payload) = record { peer = to.0; at = kind body }
shown_more from entry = record { peer = 65535; at = 0 }

-- the level of a frame, its fourth byte; 0 where it has none
abbrev pub shown_level : List ℕ → ℕ
shown_level frame = unwrap_or (slice_get frame 3) 0

-- the settings that C gives
abbrev pub given_settings : HomaSettings → Settings
given_settings s = record {
  hosts = s.hosts;
  seg = s.seg;
  window = s.window;
  unsched = s.unsched;
  overcommit = s.overcommit;
  rate = s.rate;
  resend = s.resend;
  tries = s.tries;
  life = s.life;
  pages = s.pages;
  calls = s.calls;
  served = s.served;
  rebalance = s.rebalance;
  skew = s.skew;
  wire = s.wire;
}

-- settings for a network of services, with ticks of 100 us to 10 ms
abbrev pub of_services : Settings
of_services = record {
  hosts = 32;
  seg = 1400;
  window = 60000;
  unsched = 10000;
  overcommit = 4;
  rate = 100000;
  resend = 100;
  tries = 20;
  life = 3000;
  pages = 4096;
  calls = 256;
  served = 4096;
  rebalance = 100;
  skew = 10;
  wire = 2;
}
