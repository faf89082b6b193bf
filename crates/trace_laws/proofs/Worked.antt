-- Worked rows: which schedules open a world, and one that is refused at its third line. What is expected was worked out by hand.
use Rattle.std.proofs.Common.{◌≡◌, Some, false, List, [], ◌∷◌, ◌++◌, refl}
use Rattle.std.specs.Prelude.{codes}
use Rattle.core.specs.Str.{is_utf8, chars}
use Rattle.core.specs.Fmt.{digits}
use Rattle.hex.specs.Hex.{decode_pairs, encode_with}
use lib.Utf8.{encode}
use Rattle.plain_sets.specs.Maps.{empty, checked, get, insert, retain, remove, len, keys, values, key_set, insert_all}
use Rattle.plain_sets.specs.Numbers.{with_range, without_range, within, ranges, first_in, missing}
use Rattle.plain_sets.specs.Ordered.{ordered, firsts}
use Rattle.homa_plain.specs.declared.packet.Role.TheVariants.{Client}
use Rattle.homa_plain.specs.declared.event.Event.TheVariants as event
use Rattle.homa_plain.specs.declared.fault.LineFault.TheVariants.{World}
use Rattle.homa_plain.specs.declared.fault.WorldFault.TheVariants.{NoSuchPacket}
use Rattle.homa_plain.specs.Settings.{usual}
use Rattle.homa_plain.specs.Timers.{due}
use Rattle.homa_plain.specs.Cutoffs.{level_of, noted, least_from, bounds}
use Rattle.homa_plain.specs.Entries.{PlainEntry, PlainSettings, PlainCall, PlainRefused}
use Rattle.homa_plain.specs.Script.{opening, opening_from, steps_from, phrase_in, bytes_of_word, most_bytes}
use Rattle.homa_plain.specs.Host.{tuned}
use Rattle.homa_plain.specs.Timers.{client_deadline, server_deadline}
use Rattle.homa_plain.specs.Steps.{asked, served, takes, start_fault, call_step, arrival_step, turn_step}
use Rattle.homa_plain.specs.SentNext.{pumped_once, pumps}
use Rattle.homa_plain.specs.World.{new_world, outcome}
use Rattle.homa_plain.specs.Replay.{bare, carried, replayed, replay, lines}
use Rattle.trace_rules.specs.Judge.{ShapeClause, judged, first_broken}
use Rattle.homa_plain.proofs.TraceLines.{host, call, piece}
use Rattle.trace_steps.specs.Always.{trace}
use Rattle.trace_laws.specs.Replays.{OpensWorld, is_opened}

pub go_opens : OpensWorld (codes "hosts 3\n\ngo\nend")
unfolding is_utf8 chars digits encode opening opening_from steps_from phrase_in
go_opens = refl

pub nothing_opens_none : is_opened (opening most_bytes []) ≡ false
unfolding opening opening_from
nothing_opens_none = refl

-- there is no `go`
pub settings_open_none : is_opened (opening most_bytes (codes "hosts 3\n")) ≡ false
unfolding is_utf8 chars digits encode opening opening_from steps_from phrase_in
settings_open_none = refl

-- there are at least two hosts
pub one_host_opens_none : is_opened (opening most_bytes (codes "hosts 1\ngo\n")) ≡ false
unfolding is_utf8 chars digits encode opening opening_from steps_from phrase_in
one_host_opens_none = refl

-- what is printed then is no trace that obeys the laws: its one line has not the shape
pub unopened_breaks : first_broken (lines (replay (codes "hosts 1\ngo\n") [] 2)) ≡ Some (1, ShapeClause)
unfolding is_utf8 chars digits encode opening opening_from steps_from phrase_in replay judged
unopened_breaks = refl

-- a call, and then a delivery of a packet that wasn't sent
abbrev refused : List PlainEntry
refused =
    PlainSettings usual ∷
    PlainCall (call 0 0) (host 1) 0 (104 ∷ 105 ∷ []) ∷
    piece 0 0 1 Client (call 0 0) 2 0 (104 ∷ 105 ∷ []) ∷
    []

pub refused_lines : lines (replay (codes "go\ncall 0 1 0 6869\ndeliver 1\ntick\n") [] 2) ≡ refused ++ PlainRefused 3 (World NoSuchPacket) ∷ []
unfolding is_utf8 chars digits decode_pairs encode_with encode empty checked get insert retain remove len keys values key_set insert_all with_range
    without_range within ranges first_in missing ordered firsts due level_of noted least_from bounds opening opening_from steps_from phrase_in
    bytes_of_word tuned client_deadline server_deadline asked served takes pumped_once pumps start_fault call_step arrival_step turn_step new_world
    outcome carried replayed replay
refused_lines = refl

-- the trace of its four events is the same, since the world refuses the second one
pub refused_trace : trace usual (1 ∷ 1 ∷ []) 0 2 []
    (record { event = event.Call (host 0) (host 1) 0; bytes = 104 ∷ 105 ∷ [] } ∷ bare (event.Deliver 1) ∷ bare event.Clock ∷ bare
    (event.Turn (host 0)) ∷ []) ≡ refused
unfolding empty checked get insert retain remove len keys values key_set insert_all with_range without_range within ranges first_in missing ordered
    firsts due level_of noted least_from bounds tuned client_deadline server_deadline asked served takes pumped_once pumps start_fault call_step
    arrival_step turn_step new_world outcome carried
refused_trace = refl
