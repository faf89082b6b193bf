-- One call, and texts that come of it by a change. Line and clause were worked out by hand.
use Rattle.std.proofs.Common.{◌≡◌, refl, List, [], ◌∷◌, ◌++◌, drop, Some, None}
use Rattle.plain_sets.specs.Maps.{empty, insert, insert_all, remove, retain, checked, get, len, values}
use Rattle.plain_sets.specs.Numbers.{with_range}
use Rattle.plain_sets.specs.Ordered.{ordered, firsts}
use Rattle.homa_plain.specs.declared.packet.Role.TheVariants.{Client, Server}
use Rattle.homa_plain.specs.declared.fault.LineFault.TheVariants.{World}
use Rattle.homa_plain.specs.declared.fault.WorldFault.TheVariants.{NoSuchPacket, NoMemory}
use Rattle.homa_plain.specs.Settings.{usual}
use Rattle.homa_plain.specs.Entries.{PlainEntry, PlainSettings, PlainCall, PlainDeliver, PlainClock, PlainRun, PlainDone, PlainDrop, PlainFinished}
use Rattle.homa_plain.specs.Entries.{PlainRefused}
use Rattle.trace_rules.specs.Seen.{seen}
use Rattle.trace_rules.specs.Granting.{allowed}
use Rattle.trace_rules.specs.Judge.{ShapeClause, OnceClause, ReturnedClause, HandedUpClause, judged, first_broken}
use Rattle.homa_plain.proofs.TraceLines.{host, call, piece}

-- one call of two bytes, up to its delivery
abbrev opening : List PlainEntry
opening =
    PlainSettings usual ∷
    PlainCall (call 0 0) (host 1) 0 (104 ∷ 105 ∷ []) ∷
    piece 0 0 1 Client (call 0 0) 2 0 (104 ∷ 105 ∷ []) ∷
    PlainDeliver 0 ∷
    []

-- it runs, and its response is delivered
abbrev run_line : PlainEntry
run_line = PlainRun (host 1) (call 0 0) 0 (104 ∷ 105 ∷ []) (104 ∷ 105 ∷ []) 0

-- the response comes
abbrev reply : List PlainEntry
reply =
    piece 1 1 0 Server (call 0 0) 2 0 (104 ∷ 105 ∷ []) ∷
    PlainDeliver 1 ∷
    []

abbrev done_line : PlainEntry
done_line = PlainDone (call 0 0) (104 ∷ 105 ∷ [])

pub one_call : first_broken (opening ++ run_line ∷ reply ++ done_line ∷ PlainFinished 3 ∷ []) ≡ None
unfolding empty insert insert_all remove retain checked get len values with_range ordered firsts seen allowed judged
one_call = refl

-- packets are delivered again: nothing more is due
pub delivered_again : first_broken (opening ++ run_line ∷ reply ++ done_line ∷ PlainDeliver 0 ∷ PlainDeliver 1 ∷ PlainDeliver 0 ∷ PlainFinished 6 ∷ []) ≡ None
unfolding empty insert insert_all remove retain checked get len values with_range ordered firsts seen allowed judged
delivered_again = refl

-- without the `done` line, where its block is closed
pub not_done : first_broken (opening ++ run_line ∷ reply ++ PlainFinished 3 ∷ []) ≡ Some (8, HandedUpClause)
unfolding empty insert insert_all remove retain checked get len values with_range ordered firsts seen allowed judged
not_done = refl

-- without the `run` line: the next block closes its block
pub not_run : first_broken (opening ++ reply ++ done_line ∷ PlainFinished 3 ∷ []) ≡ Some (6, HandedUpClause)
unfolding empty insert insert_all remove retain checked get len values with_range ordered firsts seen allowed judged
not_run = refl

-- an open block is not judged yet
pub block_open : first_broken (opening ++ run_line ∷ reply) ≡ None
unfolding empty insert insert_all remove retain checked get len values with_range ordered firsts seen allowed judged
block_open = refl

-- with the `run` line twice
pub run_twice : first_broken (opening ++ run_line ∷ run_line ∷ reply ++ done_line ∷ PlainFinished 3 ∷ []) ≡ Some (6, OnceClause)
unfolding empty insert insert_all remove retain checked get len values with_range ordered firsts seen allowed judged
run_twice = refl

-- a run at another host
pub run_elsewhere : first_broken (opening ++ PlainRun (host 0) (call 0 0) 0 (104 ∷ 105 ∷ []) (104 ∷ 105 ∷ []) 0 ∷ []) ≡ Some (5, OnceClause)
unfolding empty insert insert_all remove retain checked get len values with_range ordered firsts seen allowed judged
run_elsewhere = refl

-- a run on another request
pub run_otherwise : first_broken (opening ++ PlainRun (host 1) (call 0 0) 0 (104 ∷ 104 ∷ []) (104 ∷ 105 ∷ []) 0 ∷ []) ≡ Some (5, OnceClause)
unfolding empty insert insert_all remove retain checked get len values with_range ordered firsts seen allowed judged
run_otherwise = refl

-- a run of another service
pub run_as_other : first_broken (opening ++ PlainRun (host 1) (call 0 0) 2 (104 ∷ 105 ∷ []) (104 ∷ 105 ∷ []) 0 ∷ []) ≡ Some (5, OnceClause)
unfolding empty insert insert_all remove retain checked get len values with_range ordered firsts seen allowed judged
run_as_other = refl

-- a second `done` line in the block says nothing more
pub done_twice : first_broken (opening ++ run_line ∷ reply ++ done_line ∷ done_line ∷ PlainFinished 3 ∷ []) ≡ None
unfolding empty insert insert_all remove retain checked get len values with_range ordered firsts seen allowed judged
done_twice = refl

-- but one in a later block does: the call is not live any more
pub done_later : first_broken (opening ++ run_line ∷ reply ++ done_line ∷ PlainDeliver 1 ∷ done_line ∷ PlainFinished 4 ∷ []) ≡ Some (11, HandedUpClause)
unfolding empty insert insert_all remove retain checked get len values with_range ordered firsts seen allowed judged
done_later = refl

-- what the call returns is not what its run answered
pub other_answer : first_broken (opening ++ run_line ∷ reply ++ PlainDone (call 0 0) (104 ∷ 104 ∷ []) ∷ PlainFinished 3 ∷ []) ≡ Some (8, ReturnedClause)
unfolding empty insert insert_all remove retain checked get len values with_range ordered firsts seen allowed judged
other_answer = refl

-- a call is done before its response is delivered
pub done_too_early : first_broken (opening ++ run_line ∷ piece 1 1 0 Server (call 0 0) 2 0 (104 ∷ 105 ∷ []) ∷ done_line ∷ []) ≡ Some (7, ReturnedClause)
unfolding empty insert insert_all remove retain checked get len values with_range ordered firsts seen allowed judged
done_too_early = refl

-- a request that reaches another host than the server is not due there, nor at the server
pub to_other_host : first_broken
    (PlainSettings (record usual { hosts = 3 }) ∷ PlainCall (call 0 0) (host 1) 0 (97 ∷ []) ∷ piece 0 0 2 Client (call 0 0) 1 0 (97 ∷ []) ∷
    PlainDeliver 0 ∷ PlainFinished 2 ∷ []) ≡ None
unfolding empty insert insert_all remove retain checked get len values with_range ordered firsts seen allowed judged
to_other_host = refl

-- a line is refused
pub refused : first_broken (opening ++ run_line ∷ reply ++ done_line ∷ PlainRefused 5 (World NoSuchPacket) ∷ []) ≡ None
unfolding empty insert insert_all remove retain checked get len values with_range ordered firsts seen allowed judged
refused = refl

-- but none is for want of memory
pub refused_for_memory : first_broken (opening ++ run_line ∷ reply ++ done_line ∷ PlainRefused 5 (World NoMemory) ∷ []) ≡ Some (9, ShapeClause)
unfolding empty insert insert_all remove retain checked get len values with_range ordered firsts seen allowed judged
refused_for_memory = refl

-- without the settings
pub no_settings : first_broken (drop 1 opening) ≡ Some (1, ShapeClause)
unfolding empty insert insert_all remove retain checked get len values with_range ordered firsts seen allowed judged
no_settings = refl

-- with the settings twice
pub settings_twice : first_broken (PlainSettings usual ∷ opening) ≡ Some (2, ShapeClause)
unfolding empty insert insert_all remove retain checked get len values with_range ordered firsts seen allowed judged
settings_twice = refl

-- with settings that no run may have
pub settings_invalid : first_broken (PlainSettings (record usual { window = 8 }) ∷ drop 1 opening) ≡ Some (1, ShapeClause)
unfolding empty insert insert_all remove retain checked get len values with_range ordered firsts seen allowed judged
settings_invalid = refl

-- a line behind a last line
pub behind_the_end : first_broken (opening ++ run_line ∷ PlainFinished 2 ∷ PlainClock 1 ∷ []) ≡ Some (7, ShapeClause)
unfolding empty insert insert_all remove retain checked get len values with_range ordered firsts seen allowed judged
behind_the_end = refl

-- a packet is delivered that was not sent
pub not_sent : first_broken (opening ++ run_line ∷ PlainDeliver 1 ∷ []) ≡ Some (6, ShapeClause)
unfolding empty insert insert_all remove retain checked get len values with_range ordered firsts seen allowed judged
not_sent = refl

-- a packet has another number than the next one
pub number_left_out : first_broken (opening ++ run_line ∷ piece 2 1 0 Server (call 0 0) 2 0 (104 ∷ 105 ∷ []) ∷ []) ≡ Some (6, ShapeClause)
unfolding empty insert insert_all remove retain checked get len values with_range ordered firsts seen allowed judged
number_left_out = refl

-- a call is made twice
pub made_twice : first_broken (opening ++ run_line ∷ PlainCall (call 0 0) (host 1) 0 (97 ∷ []) ∷ []) ≡ Some (6, ShapeClause)
unfolding empty insert insert_all remove retain checked get len values with_range ordered firsts seen allowed judged
made_twice = refl

-- a line names a call that was not made
pub not_made : first_broken (opening ++ run_line ∷ PlainDrop (host 1) (call 0 1) ∷ []) ≡ Some (6, ShapeClause)
unfolding empty insert insert_all remove retain checked get len values with_range ordered firsts seen allowed judged
not_made = refl

-- a host calls itself
pub to_itself : first_broken (PlainSettings usual ∷ PlainCall (call 1 0) (host 1) 0 (97 ∷ []) ∷ []) ≡ Some (2, ShapeClause)
unfolding empty insert insert_all remove retain checked get len values with_range ordered firsts seen allowed judged
to_itself = refl

-- a call to a host that the run does not have
pub no_such_host : first_broken (PlainSettings usual ∷ PlainCall (call 0 0) (host 2) 0 (97 ∷ []) ∷ []) ≡ Some (2, ShapeClause)
unfolding empty insert insert_all remove retain checked get len values with_range ordered firsts seen allowed judged
no_such_host = refl

-- a call without a byte
pub empty_request : first_broken (PlainSettings usual ∷ PlainCall (call 0 0) (host 1) 0 [] ∷ []) ≡ Some (2, ShapeClause)
unfolding empty insert insert_all remove retain checked get len values with_range ordered firsts seen allowed judged
empty_request = refl
