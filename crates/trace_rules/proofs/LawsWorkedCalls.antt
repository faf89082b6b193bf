-- Traces of calls that are answered late, forgotten, refused or lost. They obey the laws.
use Rattle.std.proofs.Common.{◌≡◌, refl, List, [], ◌∷◌, ◌++◌, Some, None}
use Rattle.plain_sets.specs.Maps.{empty, insert, insert_all, remove, retain, checked, get, len, values}
use Rattle.plain_sets.specs.Numbers.{with_range}
use Rattle.plain_sets.specs.Ordered.{ordered, firsts}
use Rattle.homa_plain.specs.declared.packet.Role.TheVariants.{Client, Server}
use Rattle.homa_plain.specs.declared.packet.Body.TheVariants as body
use Rattle.homa_plain.specs.declared.entry.Why.TheVariants.{Timeout, Forgotten}
use Rattle.homa_plain.specs.declared.fault.LineFault.TheVariants.{World}
use Rattle.homa_plain.specs.declared.fault.WorldFault.TheVariants.{Late}
use Rattle.homa_plain.specs.Settings.{usual}
use Rattle.homa_plain.specs.Entries.{PlainEntry, PlainSettings, PlainCall, PlainDeliver, PlainClock, PlainRestart, PlainSend, PlainRun, PlainDone}
use Rattle.homa_plain.specs.Entries.{PlainFail, PlainBury, PlainFree, PlainFullRows, PlainFinished, PlainRefused}
use Rattle.trace_rules.specs.Seen.{seen}
use Rattle.trace_rules.specs.Granting.{allowed}
use Rattle.trace_rules.specs.Judge.{judged, first_broken}
use Rattle.homa_plain.proofs.TraceLines.{host, call, piece, said, clocks}

-- the response is held back: the client asks for it twice
abbrev held_reply : List PlainEntry
held_reply =
    PlainSettings (record usual { tries = 1 }) ∷
    PlainCall (call 0 0) (host 1) 3 (97 ∷ []) ∷
    PlainSend 0 (host 0) (host 1) 1 Client (call 0 0) 7 (body.Data 1 0 0 3 None) (97 ∷ []) ∷
    PlainDeliver 0 ∷
    PlainRun (host 1) (call 0 0) 3 (97 ∷ []) (97 ∷ []) 10 ∷
    clocks 1 4 ++
    said 1 0 1 Client (call 0 0) (body.Resend 0 10000 3) ∷
    PlainDeliver 1 ∷
    said 2 1 0 Server (call 0 0) body.Busy ∷
    PlainDeliver 2 ∷
    clocks 5 4 ++
    said 3 0 1 Client (call 0 0) (body.Resend 0 10000 3) ∷
    PlainDeliver 3 ∷
    said 4 1 0 Server (call 0 0) body.Busy ∷
    PlainDeliver 4 ∷
    clocks 9 2 ++
    piece 5 1 0 Server (call 0 0) 1 0 (97 ∷ []) ∷
    PlainDeliver 5 ∷
    PlainDone (call 0 0) (97 ∷ []) ∷
    PlainFinished 37 ∷
    []

pub held_reply_obeys : first_broken held_reply ≡ None
unfolding empty insert insert_all remove retain checked get len values with_range ordered firsts seen allowed judged
held_reply_obeys = refl

-- the response is lost: the client gives up, and the server forgets the call
abbrev burial : List PlainEntry
burial =
    PlainSettings (record usual { resend = 2; tries = 1; life = 10 }) ∷
    PlainCall (call 0 0) (host 1) 0 (97 ∷ []) ∷
    piece 0 0 1 Client (call 0 0) 1 0 (97 ∷ []) ∷
    PlainDeliver 0 ∷
    PlainRun (host 1) (call 0 0) 0 (97 ∷ []) (97 ∷ []) 0 ∷
    piece 1 1 0 Server (call 0 0) 1 0 (97 ∷ []) ∷
    clocks 1 2 ++
    said 2 0 1 Client (call 0 0) (body.Resend 0 10000 3) ∷
    said 3 1 0 Server (call 0 0) body.NeedAck ∷
    clocks 3 2 ++
    PlainFail (call 0 0) Timeout ∷
    PlainBury (host 1) (call 0 0) 28 ∷
    clocks 5 6 ++
    PlainDeliver 0 ∷
    said 4 1 0 Server (call 0 0) (body.Unknown 1) ∷
    PlainClock 11 ∷
    PlainRefused 10 (World (Late 0 11)) ∷
    []

pub burial_obeys : first_broken burial ≡ None
unfolding empty insert insert_all remove retain checked get len values with_range ordered firsts seen allowed judged
burial_obeys = refl

-- the server forgot the call before its client heard of the response
abbrev run_and_forgotten : List PlainEntry
run_and_forgotten =
    PlainSettings (record usual { resend = 2; tries = 1; life = 10 }) ∷
    PlainCall (call 0 0) (host 1) 0 (97 ∷ []) ∷
    piece 0 0 1 Client (call 0 0) 1 0 (97 ∷ []) ∷
    PlainDeliver 0 ∷
    PlainRun (host 1) (call 0 0) 0 (97 ∷ []) (97 ∷ []) 0 ∷
    piece 1 1 0 Server (call 0 0) 1 0 (97 ∷ []) ∷
    clocks 1 2 ++
    said 2 0 1 Client (call 0 0) (body.Resend 0 10000 3) ∷
    said 3 1 0 Server (call 0 0) body.NeedAck ∷
    PlainDeliver 3 ∷
    said 4 0 1 Client (call 0 0) body.Busy ∷
    clocks 3 2 ++
    said 5 0 1 Client (call 0 0) (body.Resend 0 10000 3) ∷
    PlainBury (host 1) (call 0 0) 28 ∷
    PlainDeliver 5 ∷
    said 6 1 0 Server (call 0 0) (body.Unknown 1) ∷
    PlainDeliver 6 ∷
    PlainFail (call 0 0) Forgotten ∷
    PlainFinished 17 ∷
    []

pub run_and_forgotten_obeys : first_broken run_and_forgotten ≡ None
unfolding empty insert insert_all remove retain checked get len values with_range ordered firsts seen allowed judged
run_and_forgotten_obeys = refl

-- a server restarts between two responses
abbrev restarted_server : List PlainEntry
restarted_server =
    PlainSettings usual ∷
    PlainCall (call 0 0) (host 1) 1 (97 ∷ []) ∷
    PlainSend 0 (host 0) (host 1) 1 Client (call 0 0) 7 (body.Data 1 0 0 1 None) (97 ∷ []) ∷
    PlainCall (call 0 1) (host 1) 1 (98 ∷ []) ∷
    PlainSend 1 (host 0) (host 1) 1 Client (call 0 1) 7 (body.Data 1 0 0 1 None) (98 ∷ []) ∷
    PlainDeliver 0 ∷
    PlainRun (host 1) (call 0 0) 1 (97 ∷ []) (0 ∷ 0 ∷ 0 ∷ 0 ∷ 0 ∷ 0 ∷ 0 ∷ 1 ∷ []) 0 ∷
    piece 2 1 0 Server (call 0 0) 8 0 (0 ∷ 0 ∷ 0 ∷ 0 ∷ 0 ∷ 0 ∷ 0 ∷ 1 ∷ []) ∷
    PlainDeliver 1 ∷
    PlainRun (host 1) (call 0 1) 1 (98 ∷ []) (0 ∷ 0 ∷ 0 ∷ 0 ∷ 0 ∷ 0 ∷ 0 ∷ 2 ∷ []) 0 ∷
    piece 3 1 0 Server (call 0 1) 8 0 (0 ∷ 0 ∷ 0 ∷ 0 ∷ 0 ∷ 0 ∷ 0 ∷ 2 ∷ []) ∷
    PlainDeliver 2 ∷
    PlainDone (call 0 0) (0 ∷ 0 ∷ 0 ∷ 0 ∷ 0 ∷ 0 ∷ 0 ∷ 1 ∷ []) ∷
    PlainRestart (host 1) 2 ∷
    clocks 1 4 ++
    said 4 0 1 Client (call 0 1) (body.Resend 0 10000 3) ∷
    PlainDeliver 4 ∷
    PlainSend 5 (host 1) (host 0) 2 Server (call 0 1) 7 (body.Unknown 0) [] ∷
    PlainDeliver 5 ∷
    PlainSend 6 (host 0) (host 1) 1 Client (call 0 1) 7 (body.Data 1 0 0 1 (Some (1, 0))) (98 ∷ []) ∷
    PlainDeliver 3 ∷
    PlainDeliver 6 ∷
    PlainRun (host 1) (call 0 1) 1 (98 ∷ []) (0 ∷ 0 ∷ 0 ∷ 0 ∷ 0 ∷ 0 ∷ 0 ∷ 1 ∷ []) 0 ∷
    PlainSend 7 (host 1) (host 0) 2 Server (call 0 1) 7 (body.Data 8 0 0 0 None) (0 ∷ 0 ∷ 0 ∷ 0 ∷ 0 ∷ 0 ∷ 0 ∷ 1 ∷ []) ∷
    PlainDeliver 7 ∷
    PlainDone (call 0 1) (0 ∷ 0 ∷ 0 ∷ 0 ∷ 0 ∷ 0 ∷ 0 ∷ 1 ∷ []) ∷
    PlainFinished 23 ∷
    []

pub restarted_server_obeys : first_broken restarted_server ≡ None
unfolding empty insert insert_all remove retain checked get len values with_range ordered firsts seen allowed judged
restarted_server_obeys = refl

-- a server has no room for a second call until it forgets the first
abbrev full_table : List PlainEntry
full_table =
    PlainSettings (record usual { hosts = 3; life = 2; served = 1 }) ∷
    PlainCall (call 0 0) (host 2) 0 (97 ∷ []) ∷
    piece 0 0 2 Client (call 0 0) 1 0 (97 ∷ []) ∷
    PlainCall (call 1 0) (host 2) 0 (98 ∷ []) ∷
    piece 1 1 2 Client (call 1 0) 1 0 (98 ∷ []) ∷
    PlainDeliver 0 ∷
    PlainRun (host 2) (call 0 0) 0 (97 ∷ []) (97 ∷ []) 0 ∷
    piece 2 2 0 Server (call 0 0) 1 0 (97 ∷ []) ∷
    PlainDeliver 1 ∷
    PlainFullRows (host 2) (call 1 0) 1 1 ∷
    PlainDeliver 2 ∷
    PlainDone (call 0 0) (97 ∷ []) ∷
    clocks 1 4 ++
    said 3 1 2 Client (call 1 0) (body.Resend 0 10000 3) ∷
    said 4 2 0 Server (call 0 0) body.NeedAck ∷
    PlainDeliver 4 ∷
    said 5 0 2 Client (call 0 0) (body.Ack []) ∷
    PlainDeliver 5 ∷
    PlainBury (host 2) (call 0 0) 6 ∷
    clocks 5 3 ++
    PlainFree (host 2) (call 0 0) ∷
    PlainClock 8 ∷
    said 6 1 2 Client (call 1 0) (body.Resend 0 10000 3) ∷
    PlainDeliver 6 ∷
    said 7 2 1 Server (call 1 0) (body.Unknown 0) ∷
    PlainDeliver 7 ∷
    piece 8 1 2 Client (call 1 0) 1 0 (98 ∷ []) ∷
    PlainDeliver 8 ∷
    PlainRun (host 2) (call 1 0) 0 (98 ∷ []) (98 ∷ []) 0 ∷
    piece 9 2 1 Server (call 1 0) 1 0 (98 ∷ []) ∷
    PlainFinished 42 ∷
    []

pub full_table_obeys : first_broken full_table ≡ None
unfolding empty insert insert_all remove retain checked get len values with_range ordered firsts seen allowed judged
full_table_obeys = refl

-- clocks that may differ
abbrev skewed_clocks : List PlainEntry
skewed_clocks =
    PlainSettings (record usual { resend = 2; tries = 1; life = 10; skew = 1 }) ∷
    PlainCall (call 0 0) (host 1) 0 (97 ∷ []) ∷
    piece 0 0 1 Client (call 0 0) 1 0 (97 ∷ []) ∷
    PlainDeliver 0 ∷
    PlainRun (host 1) (call 0 0) 0 (97 ∷ []) (97 ∷ []) 0 ∷
    piece 1 1 0 Server (call 0 0) 1 0 (97 ∷ []) ∷
    clocks 1 2 ++
    said 2 0 1 Client (call 0 0) (body.Resend 0 10000 3) ∷
    said 3 1 0 Server (call 0 0) body.NeedAck ∷
    clocks 3 2 ++
    PlainFail (call 0 0) Timeout ∷
    PlainBury (host 1) (call 0 0) 33 ∷
    PlainFinished 14 ∷
    []

pub skewed_clocks_obeys : first_broken skewed_clocks ≡ None
unfolding empty insert insert_all remove retain checked get len values with_range ordered firsts seen allowed judged
skewed_clocks_obeys = refl
