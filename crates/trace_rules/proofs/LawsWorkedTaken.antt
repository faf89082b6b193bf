-- Deliveries that are taken back by a line of their block. Line and clause were worked out by hand.
use Rattle.std.proofs.Common.{◌≡◌, refl, List, [], ◌∷◌, ◌++◌, Some, None}
use Rattle.plain_sets.specs.Maps.{empty, insert, insert_all, remove, retain, checked, get, len, values}
use Rattle.plain_sets.specs.Numbers.{with_range}
use Rattle.plain_sets.specs.Ordered.{ordered, firsts}
use Rattle.homa_plain.specs.declared.packet.Role.TheVariants.{Client, Server}
use Rattle.homa_plain.specs.declared.packet.Body.TheVariants as body
use Rattle.homa_plain.specs.declared.entry.Why.TheVariants.{Timeout, Forgotten}
use Rattle.homa_plain.specs.Script.{counting}
use Rattle.homa_plain.specs.Settings.{usual}
use Rattle.homa_plain.specs.Entries.{PlainEntry, PlainSettings, PlainCall, PlainDeliver, PlainClock, PlainRestart, PlainStale, PlainRun, PlainFail}
use Rattle.homa_plain.specs.Entries.{PlainDrop, PlainGaps, PlainFullRows, PlainFullPages, PlainFinished}
use Rattle.trace_rules.specs.Seen.{seen}
use Rattle.trace_rules.specs.Granting.{allowed}
use Rattle.trace_rules.specs.Judge.{HandedUpClause, FailsClause, GrantingClause, judged, first_broken}
use Rattle.homa_plain.proofs.TraceLines.{host, call, piece, said, clocks}

-- a request in two pieces
abbrev two_pieces : List PlainEntry
two_pieces =
    PlainSettings (record usual { seg = 4 }) ∷
    PlainCall (call 0 0) (host 1) 0 (counting 0 8) ∷
    piece 0 0 1 Client (call 0 0) 8 0 (counting 0 4) ∷
    piece 1 0 1 Client (call 0 0) 8 4 (counting 4 4) ∷
    []

abbrev run_line : PlainEntry
run_line = PlainRun (host 1) (call 0 0) 0 (counting 0 8) (counting 0 8) 0

-- with both pieces the call runs
pub both_arrive : first_broken (two_pieces ++ PlainDeliver 1 ∷ PlainDeliver 0 ∷ run_line ∷ PlainFinished 3 ∷ []) ≡ None
unfolding empty insert insert_all remove retain checked get len values with_range ordered firsts seen allowed judged
both_arrive = refl

-- a piece that comes twice is no second piece
pub a_repeat : first_broken (two_pieces ++ PlainDeliver 0 ∷ PlainDeliver 0 ∷ run_line ∷ PlainFinished 3 ∷ []) ≡ Some (8, HandedUpClause)
unfolding empty insert insert_all remove retain checked get len values with_range ordered firsts seen allowed judged
a_repeat = refl

-- a line of the block takes its delivery back: nothing is due, the call must not run at once or with the next piece, but when the piece comes again
abbrev IsTakenBack : PlainEntry → Type 0
IsTakenBack answer =
    (first_broken (two_pieces ++ PlainDeliver 1 ∷ PlainDeliver 0 ∷ answer ∷ PlainFinished 3 ∷ []) ≡ None)
    × (first_broken (two_pieces ++ PlainDeliver 1 ∷ PlainDeliver 0 ∷ answer ∷ run_line ∷ PlainFinished 3 ∷ []) ≡ Some (9, HandedUpClause))
    × (first_broken (two_pieces ++ PlainDeliver 1 ∷ answer ∷ PlainDeliver 0 ∷ run_line ∷ PlainFinished 3 ∷ []) ≡ Some (9, HandedUpClause))
    × (first_broken (two_pieces ++ PlainDeliver 1 ∷ answer ∷ PlainDeliver 0 ∷ PlainDeliver 1 ∷ run_line ∷ PlainFinished 4 ∷ []) ≡ None)

-- the server has no room
pub by_full : IsTakenBack (PlainFullRows (host 1) (call 0 0) 1 1)
unfolding empty insert insert_all remove retain checked get len values with_range ordered firsts seen allowed judged
by_full = (refl, refl, refl, refl)

-- it has no pages
pub by_no_pages : IsTakenBack (PlainFullPages (host 1) (call 0 0) 2 1)
unfolding empty insert insert_all remove retain checked get len values with_range ordered firsts seen allowed judged
by_no_pages = (refl, refl, refl, refl)

-- the message would have too many gaps
pub by_gaps : IsTakenBack (PlainGaps (host 1) (call 0 0))
unfolding empty insert insert_all remove retain checked get len values with_range ordered firsts seen allowed judged
by_gaps = (refl, refl, refl, refl)

-- the packet came too late
pub by_stale : IsTakenBack (PlainStale (host 1) 0 99)
unfolding empty insert insert_all remove retain checked get len values with_range ordered firsts seen allowed judged
by_stale = (refl, refl, refl, refl)

-- a request that is given up before its delivery is taken back has nothing of before
pub dropped_too : first_broken
    (two_pieces ++ PlainDeliver 1 ∷ PlainDeliver 1 ∷ PlainDrop (host 1) (call 0 0) ∷ PlainGaps (host 1) (call 0 0) ∷ PlainDeliver 0 ∷ PlainFinished 4
    ∷ []) ≡ None
unfolding empty insert insert_all remove retain checked get len values with_range ordered firsts seen allowed judged
dropped_too = refl

-- a `full` line of another host says nothing of the delivery
pub full_elsewhere : first_broken (two_pieces ++ PlainDeliver 1 ∷ PlainDeliver 0 ∷ PlainFullRows (host 0) (call 0 0) 1 1 ∷ PlainFinished 3 ∷ [])
    ≡ Some (8, HandedUpClause)
unfolding empty insert insert_all remove retain checked get len values with_range ordered firsts seen allowed judged
full_elsewhere = refl

-- what was told before is judged by what the block says at its end
pub run_then_gaps : first_broken (two_pieces ++ PlainDeliver 1 ∷ PlainDeliver 0 ∷ run_line ∷ PlainGaps (host 1) (call 0 0) ∷ PlainFinished 3 ∷ [])
    ≡ Some (9, HandedUpClause)
unfolding empty insert insert_all remove retain checked get len values with_range ordered firsts seen allowed judged
run_then_gaps = refl

-- a request that was given up begins anew
pub given_up : first_broken (two_pieces ++ PlainDeliver 1 ∷ PlainClock 1 ∷ PlainDrop (host 1) (call 0 0) ∷ PlainDeliver 0 ∷ PlainFinished 3 ∷ []) ≡ None
unfolding empty insert insert_all remove retain checked get len values with_range ordered firsts seen allowed judged
given_up = refl

-- and its bytes from before are gone
pub given_up_run : first_broken
    (two_pieces ++ PlainDeliver 1 ∷ PlainClock 1 ∷ PlainDrop (host 1) (call 0 0) ∷ PlainDeliver 0 ∷ run_line ∷ PlainFinished 3 ∷ []) ≡ Some (10, HandedUpClause)
unfolding empty insert insert_all remove retain checked get len values with_range ordered firsts seen allowed judged
given_up_run = refl

-- so they are where the server restarted
pub restarted_between : first_broken (two_pieces ++ PlainDeliver 1 ∷ PlainRestart (host 1) 2 ∷ PlainDeliver 0 ∷ run_line ∷ PlainFinished 3 ∷ [])
    ≡ Some (9, HandedUpClause)
unfolding empty insert insert_all remove retain checked get len values with_range ordered firsts seen allowed judged
restarted_between = refl

-- a request may become whole after its client restarted
pub client_restarted : first_broken (two_pieces ++ PlainDeliver 1 ∷ PlainRestart (host 0) 2 ∷ PlainDeliver 0 ∷ run_line ∷ PlainFinished 3 ∷ []) ≡ None
unfolding empty insert insert_all remove retain checked get len values with_range ordered firsts seen allowed judged
client_restarted = refl

-- a grant of four bytes beyond the eight that have arrived
abbrev grant_of_eight : List PlainEntry
grant_of_eight =
    PlainSettings (record usual { seg = 4; window = 4; unsched = 4 }) ∷
    PlainCall (call 0 0) (host 1) 0 (counting 0 20) ∷
    piece 0 0 1 Client (call 0 0) 20 0 (counting 0 4) ∷
    piece 1 0 1 Client (call 0 0) 20 4 (counting 4 4) ∷
    PlainDeliver 0 ∷
    PlainDeliver 1 ∷
    said 2 1 0 Server (call 0 0) (body.Grant 12 0) ∷
    []

-- it is within the window
pub eight_arrived : first_broken (grant_of_eight ++ PlainFinished 3 ∷ []) ≡ None
unfolding empty insert insert_all remove retain checked get len values with_range ordered firsts seen allowed judged
eight_arrived = refl

-- but not where four of the eight are taken back afterwards
pub beyond_window : first_broken (grant_of_eight ++ PlainGaps (host 1) (call 0 0) ∷ PlainFinished 3 ∷ []) ≡ Some (8, GrantingClause)
unfolding empty insert insert_all remove retain checked get len values with_range ordered firsts seen allowed judged
beyond_window = refl

-- a client that may give up, with packets of version 2
abbrev waiting : List PlainEntry
waiting =
    PlainSettings (record usual { resend = 2; tries = 1; wire = 2 }) ∷
    PlainCall (call 0 0) (host 1) 0 (97 ∷ []) ∷
    piece 0 0 1 Client (call 0 0) 1 0 (97 ∷ []) ∷
    said 1 1 0 Server (call 0 0) body.Busy ∷
    said 2 1 0 Server (call 0 0) (body.Unknown 1) ∷
    clocks 1 2 ++
    said 3 0 1 Client (call 0 0) (body.Resend 0 10000 3) ∷
    clocks 3 2 ++
    []

-- BUSY renews the call
pub fresh_busy : first_broken (waiting ++ PlainDeliver 1 ∷ PlainFail (call 0 0) Timeout ∷ []) ≡ Some (12, FailsClause)
unfolding empty insert insert_all remove retain checked get len values with_range ordered firsts seen allowed judged
fresh_busy = refl

-- but not where it is stale
pub stale_busy : first_broken (waiting ++ PlainDeliver 1 ∷ PlainStale (host 0) 0 4 ∷ PlainFail (call 0 0) Timeout ∷ PlainFinished 5 ∷ []) ≡ None
unfolding empty insert insert_all remove retain checked get len values with_range ordered firsts seen allowed judged
stale_busy = refl

-- a call that failed in the block stays failed: UNKNOWN ends it no more
pub failed_and_stale : first_broken
    (waiting ++ PlainDeliver 0 ∷ PlainFail (call 0 0) Timeout ∷ PlainStale (host 1) 0 4 ∷ PlainDeliver 2 ∷ PlainFinished 6 ∷ []) ≡ None
unfolding empty insert insert_all remove retain checked get len values with_range ordered firsts seen allowed judged
failed_and_stale = refl

-- a stale UNKNOWN ends no call
pub stale_unknown : first_broken (waiting ++ PlainDeliver 2 ∷ PlainStale (host 0) 0 4 ∷ PlainFinished 5 ∷ []) ≡ None
unfolding empty insert insert_all remove retain checked get len values with_range ordered firsts seen allowed judged
stale_unknown = refl

-- and a call that fails because of it breaks the law
pub stale_forgotten : first_broken (waiting ++ PlainDeliver 2 ∷ PlainStale (host 0) 0 4 ∷ PlainFail (call 0 0) Forgotten ∷ PlainFinished 5 ∷ [])
    ≡ Some (14, FailsClause)
unfolding empty insert insert_all remove retain checked get len values with_range ordered firsts seen allowed judged
stale_forgotten = refl

-- a packet comes too late, and the receiver itself refuses it
abbrev stale_packet : List PlainEntry
stale_packet =
    PlainSettings (record usual { life = 1; wire = 2 }) ∷
    PlainCall (call 0 0) (host 1) 0 (97 ∷ []) ∷
    piece 0 0 1 Client (call 0 0) 1 0 (97 ∷ []) ∷
    clocks 1 2 ++
    PlainDeliver 0 ∷
    PlainStale (host 1) 0 2 ∷
    PlainFinished 4 ∷
    []

pub stale_packet_obeys : first_broken stale_packet ≡ None
unfolding empty insert insert_all remove retain checked get len values with_range ordered firsts seen allowed judged
stale_packet_obeys = refl
