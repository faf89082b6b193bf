-- Servers with more than one life, and datagrams of a node. Line and clause were worked out by hand.
use Rattle.std.proofs.Common.{◌≡◌, ℕ, refl, List, [], ◌∷◌, ◌++◌, take, Some, None}
use Rattle.plain_sets.specs.Maps.{empty, insert, insert_all, remove, retain, checked, get, len, values}
use Rattle.plain_sets.specs.Numbers.{with_range}
use Rattle.plain_sets.specs.Ordered.{ordered, firsts}
use Rattle.homa_plain.specs.declared.packet.Role.TheVariants.{Client, Server}
use Rattle.homa_plain.specs.declared.packet.Body.TheVariants as body
use Rattle.homa_plain.specs.Script.{counting}
use Rattle.homa_plain.specs.Settings.{usual}
use Rattle.homa_plain.specs.Entries.{PlainEntry, PlainSettings, PlainCall, PlainDeliver, PlainClock, PlainRestart, PlainSend, PlainRun, PlainDone}
use Rattle.homa_plain.specs.Entries.{PlainFullPages, PlainRecv, PlainFinished}
use Rattle.trace_rules.specs.Seen.{seen}
use Rattle.trace_rules.specs.Granting.{allowed}
use Rattle.trace_rules.specs.Judge.{OnceClause, ReturnedClause, HandedUpClause, judged, first_broken}
use Rattle.homa_plain.proofs.TraceLines.{host, call, piece}
use Rattle.homa_plain.specs.declared.packet.Role.{Role}
use Rattle.homa_plain.specs.Bytes.{number_at, two_at, times}
use Rattle.homa_plain.specs.Wire.{spelling, packet_in, packet_at, packet_of, body_at, tick_at, data_at, ack_at}

-- a call runs once in each of two lives of its server, whose answers differ
abbrev two_lives : List PlainEntry
two_lives =
    PlainSettings (record usual { seg = 4 }) ∷
    PlainCall (call 0 0) (host 1) 0 (counting 0 8) ∷
    piece 0 0 1 Client (call 0 0) 8 0 (counting 0 4) ∷
    piece 1 0 1 Client (call 0 0) 8 4 (counting 4 4) ∷
    PlainDeliver 0 ∷
    PlainDeliver 1 ∷
    PlainRun (host 1) (call 0 0) 0 (counting 0 8) (counting 0 8) 0 ∷
    piece 2 1 0 Server (call 0 0) 8 0 (counting 0 4) ∷
    piece 3 1 0 Server (call 0 0) 8 4 (counting 4 4) ∷
    PlainRestart (host 1) 2 ∷
    PlainDeliver 0 ∷
    PlainDeliver 1 ∷
    PlainRun (host 1) (call 0 0) 0 (counting 0 8) (7 ∷ 6 ∷ 5 ∷ 4 ∷ 3 ∷ 2 ∷ 1 ∷ 0 ∷ []) 0 ∷
    PlainSend 4 (host 1) (host 0) 2 Server (call 0 0) 7 (body.Data 8 0 0 0 None) (7 ∷ 6 ∷ 5 ∷ 4 ∷ []) ∷
    PlainSend 5 (host 1) (host 0) 2 Server (call 0 0) 7 (body.Data 8 4 0 0 None) (3 ∷ 2 ∷ 1 ∷ 0 ∷ []) ∷
    []

abbrev first_answer : List ℕ
first_answer = counting 0 8

abbrev second_answer : List ℕ
second_answer = 7 ∷ 6 ∷ 5 ∷ 4 ∷ 3 ∷ 2 ∷ 1 ∷ 0 ∷ []

-- the response of the first life comes
pub first_life : first_broken (two_lives ++ PlainDeliver 2 ∷ PlainDeliver 3 ∷ PlainDone (call 0 0) first_answer ∷ PlainFinished 8 ∷ []) ≡ None
unfolding empty insert insert_all remove retain checked get len values with_range ordered firsts seen allowed judged
first_life = refl

-- a piece of the first life, and then the response of the second
pub second_life : first_broken
    (two_lives ++ PlainDeliver 2 ∷ PlainDeliver 5 ∷ PlainDeliver 4 ∷ PlainDone (call 0 0) second_answer ∷ PlainFinished 9 ∷ []) ≡ None
unfolding empty insert insert_all remove retain checked get len values with_range ordered firsts seen allowed judged
second_life = refl

-- a piece of each life makes no response
pub mixed : first_broken (two_lives ++ PlainDeliver 2 ∷ PlainDeliver 5 ∷ PlainDone (call 0 0) second_answer ∷ PlainFinished 8 ∷ []) ≡ Some (19, HandedUpClause)
unfolding empty insert insert_all remove retain checked get len values with_range ordered firsts seen allowed judged
mixed = refl

-- an older packet does not count behind a newer one
pub older_ignored : first_broken (two_lives ++ PlainDeliver 5 ∷ PlainDeliver 2 ∷ PlainDone (call 0 0) second_answer ∷ PlainFinished 8 ∷ []) ≡ Some
    (18, ReturnedClause)
unfolding empty insert insert_all remove retain checked get len values with_range ordered firsts seen allowed judged
older_ignored = refl

-- a packet of the second life that is refused counts all the same: what the first life sent is gone
pub refused_counts : first_broken
    (two_lives ++ PlainDeliver 2 ∷ PlainDeliver 4 ∷ PlainFullPages (host 0) (call 0 0) 1 0 ∷ PlainDeliver 3 ∷ PlainFinished 8 ∷ []) ≡ None
unfolding empty insert insert_all remove retain checked get len values with_range ordered firsts seen allowed judged
refused_counts = refl

-- a client that restarted has no use for a response
pub client_restarted : first_broken (two_lives ++ PlainDeliver 2 ∷ PlainRestart (host 0) 2 ∷ PlainDeliver 3 ∷ PlainFinished 8 ∷ []) ≡ None
unfolding empty insert insert_all remove retain checked get len values with_range ordered firsts seen allowed judged
client_restarted = refl

-- the answer of the first life with the packets of the second
pub other_life : first_broken (two_lives ++ PlainDeliver 4 ∷ PlainDeliver 5 ∷ PlainDone (call 0 0) first_answer ∷ PlainFinished 8 ∷ []) ≡ Some
    (18, ReturnedClause)
unfolding empty insert insert_all remove retain checked get len values with_range ordered firsts seen allowed judged
other_life = refl

-- a second run in the second life
pub run_again : first_broken (take 13 two_lives ++ PlainRun (host 1) (call 0 0) 0 (counting 0 8) second_answer 0 ∷ []) ≡ Some (14, OnceClause)
unfolding empty insert insert_all remove retain checked get len values with_range ordered firsts seen allowed judged
run_again = refl

-- a call runs
abbrev ran : List PlainEntry
ran =
    PlainSettings usual ∷
    PlainCall (call 0 0) (host 1) 0 (97 ∷ []) ∷
    piece 0 0 1 Client (call 0 0) 1 0 (97 ∷ []) ∷
    PlainDeliver 0 ∷
    PlainRun (host 1) (call 0 0) 0 (97 ∷ []) (97 ∷ []) 0 ∷
    []

-- the first packet of a host tells the incarnation of its first life
pub first_packet : first_broken
    (ran ++ piece 1 1 0 Server (call 0 0) 1 0 (97 ∷ []) ∷ PlainRestart (host 1) 2 ∷ PlainDeliver 1 ∷ PlainDone (call 0 0) (97 ∷ []) ∷ PlainFinished 3
    ∷ []) ≡ None
unfolding empty insert insert_all remove retain checked get len values with_range ordered firsts seen allowed judged
first_packet = refl

-- but not behind a restart: a life without packets has no incarnation
pub silent_life : first_broken
    (ran ++ PlainRestart (host 1) 2 ∷ piece 1 1 0 Server (call 0 0) 1 0 (97 ∷ []) ∷ PlainDeliver 1 ∷ PlainDone (call 0 0) (97 ∷ []) ∷ []) ≡ Some
    (9, ReturnedClause)
unfolding empty insert insert_all remove retain checked get len values with_range ordered firsts seen allowed judged
silent_life = refl

-- a response without bytes, which no host sends
abbrev no_answer : List PlainEntry
no_answer =
    PlainSettings usual ∷
    PlainCall (call 0 0) (host 1) 0 (97 ∷ []) ∷
    piece 0 0 1 Client (call 0 0) 1 0 (97 ∷ []) ∷
    PlainDeliver 0 ∷
    PlainRun (host 1) (call 0 0) 0 (97 ∷ []) [] 0 ∷
    piece 1 1 0 Server (call 0 0) 0 0 [] ∷
    PlainDeliver 1 ∷
    []

-- it is whole with its first packet
pub empty_done : first_broken (no_answer ++ PlainDone (call 0 0) [] ∷ PlainFinished 2 ∷ []) ≡ None
unfolding empty insert insert_all remove retain checked get len values with_range ordered firsts seen allowed judged
empty_done = refl

pub empty_not_done : first_broken (no_answer ++ PlainFinished 2 ∷ []) ≡ Some (8, HandedUpClause)
unfolding empty insert insert_all remove retain checked get len values with_range ordered firsts seen allowed judged
empty_not_done = refl

-- one call is done with the response of another: its bytes are right, but nothing was due for it
abbrev done_of_other : List PlainEntry
done_of_other =
    PlainSettings usual ∷
    PlainCall (call 0 0) (host 1) 0 (97 ∷ []) ∷
    piece 0 0 1 Client (call 0 0) 1 0 (97 ∷ []) ∷
    PlainCall (call 0 1) (host 1) 0 (98 ∷ []) ∷
    piece 1 0 1 Client (call 0 1) 1 0 (98 ∷ []) ∷
    PlainDeliver 0 ∷
    PlainRun (host 1) (call 0 0) 0 (97 ∷ []) (97 ∷ []) 0 ∷
    piece 2 1 0 Server (call 0 0) 1 0 (97 ∷ []) ∷
    PlainDeliver 1 ∷
    PlainRun (host 1) (call 0 1) 0 (98 ∷ []) (98 ∷ []) 0 ∷
    PlainDeliver 2 ∷
    PlainDone (call 0 1) (98 ∷ []) ∷
    PlainFinished 3 ∷
    []

pub done_of_other_breaks : first_broken done_of_other ≡ Some (13, HandedUpClause)
unfolding empty insert insert_all remove retain checked get len values with_range ordered firsts seen allowed judged
done_of_other_breaks = refl

-- a packet of host 0's first call, as it is spelled in version 1
abbrev frame : Role → List ℕ
frame role = spelling 1 (record { role = role; level = 7; sender = 1; inc = 1; seq = 0; at = 0; body = body.Data 2 0 0 0 None }) (104 ∷ 105 ∷ [])

-- datagrams in place of deliveries
abbrev node : List PlainEntry
node =
    PlainSettings usual ∷
    PlainClock 0 ∷
    PlainCall (call 0 0) (host 1) 0 (104 ∷ 105 ∷ []) ∷
    piece 0 0 1 Client (call 0 0) 2 0 (104 ∷ 105 ∷ []) ∷
    PlainRecv (host 1) (host 0) (frame Client) ∷
    PlainRun (host 1) (call 0 0) 0 (104 ∷ 105 ∷ []) (104 ∷ 105 ∷ []) 0 ∷
    piece 1 1 0 Server (call 0 0) 2 0 (104 ∷ 105 ∷ []) ∷
    PlainClock 1 ∷
    PlainRecv (host 0) (host 1) (frame Server) ∷
    PlainDone (call 0 0) (104 ∷ 105 ∷ []) ∷
    PlainClock 2 ∷
    PlainFinished 3 ∷
    []

pub node_obeys : first_broken node ≡ None
unfolding empty insert insert_all remove retain checked get len values with_range ordered firsts seen allowed judged packet_in packet_at packet_of
    body_at tick_at data_at ack_at times two_at number_at
node_obeys = refl

-- a datagram that is no packet delivers nothing
pub no_packet : first_broken (take 4 node ++ PlainRecv (host 1) (host 0) (0 ∷ frame Client) ∷ PlainFinished 1 ∷ []) ≡ None
unfolding empty insert insert_all remove retain checked get len values with_range ordered firsts seen allowed judged packet_in packet_at packet_of
    body_at tick_at data_at ack_at times two_at number_at
no_packet = refl

-- one that is a packet does
pub a_packet : first_broken (take 5 node ++ PlainFinished 1 ∷ []) ≡ Some (6, HandedUpClause)
unfolding empty insert insert_all remove retain checked get len values with_range ordered firsts seen allowed judged packet_in packet_at packet_of
    body_at tick_at data_at ack_at times two_at number_at
a_packet = refl
