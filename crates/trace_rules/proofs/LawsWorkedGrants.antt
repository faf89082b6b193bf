-- Traces with grants: some obey the laws, some break them. Line and clause were worked out by hand.
use Rattle.std.proofs.Common.{◌≡◌, refl, List, [], ◌∷◌, ◌++◌, take, Some, None}
use Rattle.plain_sets.specs.Maps.{empty, insert, insert_all, remove, retain, checked, get, len, values}
use Rattle.plain_sets.specs.Numbers.{with_range}
use Rattle.plain_sets.specs.Ordered.{ordered, firsts}
use Rattle.homa_plain.specs.declared.packet.Role.TheVariants.{Client, Server}
use Rattle.homa_plain.specs.declared.packet.Body.TheVariants as body
use Rattle.homa_plain.specs.Script.{counting}
use Rattle.homa_plain.specs.Settings.{usual}
use Rattle.homa_plain.specs.Entries.{PlainEntry, PlainSettings, PlainCall, PlainDeliver, PlainRestart, PlainSend, PlainRun, PlainDone, PlainFinished}
use Rattle.trace_rules.specs.Seen.{seen}
use Rattle.trace_rules.specs.Granting.{allowed}
use Rattle.trace_rules.specs.Judge.{GrantingClause, judged, first_broken}
use Rattle.homa_plain.proofs.TraceLines.{host, call, piece, said, clocks}

-- the pieces of a request arrive in reverse order, and the rest is granted
abbrev reverse_order : List PlainEntry
reverse_order =
    PlainSettings (record usual { seg = 4; window = 8; unsched = 8 }) ∷
    PlainCall (call 0 0) (host 1) 0 (counting 0 11) ∷
    piece 0 0 1 Client (call 0 0) 11 0 (counting 0 4) ∷
    piece 1 0 1 Client (call 0 0) 11 4 (counting 4 4) ∷
    PlainDeliver 1 ∷
    said 2 1 0 Server (call 0 0) (body.Grant 11 0) ∷
    PlainDeliver 2 ∷
    PlainSend 3 (host 0) (host 1) 1 Client (call 0 0) 0 (body.Data 11 8 0 0 None) (8 ∷ 9 ∷ 10 ∷ []) ∷
    PlainDeliver 3 ∷
    PlainDeliver 0 ∷
    PlainRun (host 1) (call 0 0) 0 (counting 0 11) (counting 0 11) 0 ∷
    piece 4 1 0 Server (call 0 0) 11 0 (counting 0 4) ∷
    piece 5 1 0 Server (call 0 0) 11 4 (counting 4 4) ∷
    PlainFinished 5 ∷
    []

pub reverse_order_obeys : first_broken reverse_order ≡ None
unfolding empty insert insert_all remove retain checked get len values with_range ordered firsts seen allowed judged
reverse_order_obeys = refl

-- of two messages with as many missing bytes the older one is granted to, and then the one of which fewer are missing
abbrev tie_then_shorter : List PlainEntry
tie_then_shorter =
    PlainSettings (record usual { hosts = 3; seg = 4; window = 8; unsched = 8; overcommit = 1 }) ∷
    PlainCall (call 0 0) (host 2) 0 (counting 0 20) ∷
    piece 0 0 2 Client (call 0 0) 20 0 (counting 0 4) ∷
    piece 1 0 2 Client (call 0 0) 20 4 (counting 4 4) ∷
    PlainCall (call 1 0) (host 2) 0 (counting 0 20) ∷
    piece 2 1 2 Client (call 1 0) 20 0 (counting 0 4) ∷
    piece 3 1 2 Client (call 1 0) 20 4 (counting 4 4) ∷
    PlainDeliver 0 ∷
    said 4 2 0 Server (call 0 0) (body.Grant 12 0) ∷
    PlainDeliver 2 ∷
    PlainDeliver 3 ∷
    said 5 2 1 Server (call 1 0) (body.Grant 16 0) ∷
    PlainFinished 5 ∷
    []

pub tie_then_shorter_obeys : first_broken tie_then_shorter ≡ None
unfolding empty insert insert_all remove retain checked get len values with_range ordered firsts seen allowed judged
tie_then_shorter_obeys = refl

-- three messages of one sender and one of another
abbrev one_for_each_sender : List PlainEntry
one_for_each_sender =
    PlainSettings (record usual { hosts = 3; seg = 4; window = 4; unsched = 4 }) ∷
    PlainCall (call 0 0) (host 2) 0 (counting 0 12) ∷
    piece 0 0 2 Client (call 0 0) 12 0 (counting 0 4) ∷
    PlainCall (call 0 1) (host 2) 0 (counting 0 8) ∷
    piece 1 0 2 Client (call 0 1) 8 0 (counting 0 4) ∷
    PlainCall (call 0 2) (host 2) 0 (counting 0 16) ∷
    piece 2 0 2 Client (call 0 2) 16 0 (counting 0 4) ∷
    PlainCall (call 1 0) (host 2) 0 (counting 0 20) ∷
    piece 3 1 2 Client (call 1 0) 20 0 (counting 0 4) ∷
    PlainDeliver 3 ∷
    said 4 2 1 Server (call 1 0) (body.Grant 8 0) ∷
    PlainDeliver 0 ∷
    said 5 2 0 Server (call 0 0) (body.Grant 8 1) ∷
    PlainDeliver 2 ∷
    PlainDeliver 1 ∷
    said 6 2 0 Server (call 0 1) (body.Grant 8 1) ∷
    PlainFinished 8 ∷
    []

pub one_for_each_sender_obeys : first_broken one_for_each_sender ≡ None
unfolding empty insert insert_all remove retain checked get len values with_range ordered firsts seen allowed judged
one_for_each_sender_obeys = refl

-- a GRANT is lost, and the server asks for the bytes
abbrev lost_grant : List PlainEntry
lost_grant =
    PlainSettings (record usual { seg = 4; window = 4; unsched = 4 }) ∷
    PlainCall (call 0 0) (host 1) 0 (counting 0 8) ∷
    piece 0 0 1 Client (call 0 0) 8 0 (counting 0 4) ∷
    PlainDeliver 0 ∷
    said 1 1 0 Server (call 0 0) (body.Grant 8 0) ∷
    clocks 1 4 ++
    said 2 0 1 Client (call 0 0) (body.Resend 0 4 3) ∷
    said 3 1 0 Server (call 0 0) (body.Resend 4 8 3) ∷
    PlainDeliver 2 ∷
    said 4 1 0 Server (call 0 0) body.Busy ∷
    PlainDeliver 3 ∷
    PlainSend 5 (host 0) (host 1) 1 Client (call 0 0) 3 (body.Data 8 4 0 0 None) (counting 4 4) ∷
    PlainDeliver 5 ∷
    PlainRun (host 1) (call 0 0) 0 (counting 0 8) (counting 0 8) 0 ∷
    piece 6 1 0 Server (call 0 0) 8 0 (counting 0 4) ∷
    PlainFinished 17 ∷
    []

pub lost_grant_obeys : first_broken lost_grant ≡ None
unfolding empty insert insert_all remove retain checked get len values with_range ordered firsts seen allowed judged
lost_grant_obeys = refl

-- a grant of the whole length
abbrev whole_length : List PlainEntry
whole_length =
    PlainSettings (record usual { hosts = 3; seg = 4; window = 8; unsched = 8; overcommit = 1 }) ∷
    PlainCall (call 0 0) (host 2) 0 (counting 0 20) ∷
    piece 0 0 2 Client (call 0 0) 20 0 (counting 0 4) ∷
    piece 1 0 2 Client (call 0 0) 20 4 (counting 4 4) ∷
    PlainCall (call 1 0) (host 2) 0 (counting 0 20) ∷
    piece 2 1 2 Client (call 1 0) 20 0 (counting 0 4) ∷
    piece 3 1 2 Client (call 1 0) 20 4 (counting 4 4) ∷
    PlainDeliver 0 ∷
    said 4 2 0 Server (call 0 0) (body.Grant 12 0) ∷
    PlainDeliver 2 ∷
    PlainDeliver 3 ∷
    said 5 2 1 Server (call 1 0) (body.Grant 20 0) ∷
    PlainFinished 5 ∷
    []

pub whole_length_breaks : first_broken whole_length ≡ Some (12, GrantingClause)
unfolding empty insert insert_all remove retain checked get len values with_range ordered firsts seen allowed judged
whole_length_breaks = refl

-- two messages of one sender, of which the first has a grant
abbrev two_of_one_sender : List PlainEntry
two_of_one_sender =
    PlainSettings (record usual { seg = 4; window = 4; unsched = 4 }) ∷
    PlainCall (call 0 0) (host 1) 0 (counting 0 12) ∷
    piece 0 0 1 Client (call 0 0) 12 0 (counting 0 4) ∷
    PlainCall (call 0 1) (host 1) 0 (counting 0 12) ∷
    piece 1 0 1 Client (call 0 1) 12 0 (counting 0 4) ∷
    PlainDeliver 0 ∷
    said 2 1 0 Server (call 0 0) (body.Grant 8 0) ∷
    PlainDeliver 1 ∷
    []

-- a grant to the second message of a sender
pub second_of_sender : first_broken (two_of_one_sender ++ said 3 1 0 Server (call 0 1) (body.Grant 8 0) ∷ []) ≡ Some (9, GrantingClause)
unfolding empty insert insert_all remove retain checked get len values with_range ordered firsts seen allowed judged
second_of_sender = refl

-- and none to it
pub no_second_grant : first_broken (two_of_one_sender ++ PlainFinished 4 ∷ []) ≡ None
unfolding empty insert insert_all remove retain checked get len values with_range ordered firsts seen allowed judged
no_second_grant = refl

-- a grant that exceeds nothing
pub granted_again : first_broken (two_of_one_sender ++ said 3 1 0 Server (call 0 0) (body.Grant 8 0) ∷ []) ≡ Some (9, GrantingClause)
unfolding empty insert insert_all remove retain checked get len values with_range ordered firsts seen allowed judged
granted_again = refl

-- a grant at another priority
pub other_priority : first_broken (take 6 two_of_one_sender ++ said 2 1 0 Server (call 0 0) (body.Grant 8 1) ∷ []) ≡ Some (7, GrantingClause)
unfolding empty insert insert_all remove retain checked get len values with_range ordered firsts seen allowed judged
other_priority = refl

-- a grant to another offset
pub other_offset : first_broken (take 6 two_of_one_sender ++ said 2 1 0 Server (call 0 0) (body.Grant 7 0) ∷ []) ≡ Some (7, GrantingClause)
unfolding empty insert insert_all remove retain checked get len values with_range ordered firsts seen allowed judged
other_offset = refl

-- a grant to a host that is not the sender
pub other_receiver : first_broken (take 6 two_of_one_sender ++ said 2 1 1 Server (call 0 0) (body.Grant 8 0) ∷ []) ≡ Some (7, GrantingClause)
unfolding empty insert insert_all remove retain checked get len values with_range ordered firsts seen allowed judged
other_receiver = refl

-- a grant to a message of which nothing has arrived
pub no_bytes_yet : first_broken (take 6 two_of_one_sender ++ said 2 1 0 Server (call 0 1) (body.Grant 8 0) ∷ []) ≡ Some (7, GrantingClause)
unfolding empty insert insert_all remove retain checked get len values with_range ordered firsts seen allowed judged
no_bytes_yet = refl

-- a piece without bytes, which no host sends: the other message is the older one, and the one that is chosen
abbrev empty_piece : List PlainEntry
empty_piece =
    PlainSettings (record usual { hosts = 3; seg = 4; window = 4; unsched = 4; overcommit = 1 }) ∷
    PlainCall (call 0 0) (host 2) 0 (counting 0 12) ∷
    piece 0 0 2 Client (call 0 0) 12 0 [] ∷
    piece 1 0 2 Client (call 0 0) 12 0 (counting 0 4) ∷
    PlainCall (call 1 0) (host 2) 0 (counting 0 12) ∷
    piece 2 1 2 Client (call 1 0) 12 0 (counting 0 4) ∷
    PlainDeliver 0 ∷
    PlainDeliver 2 ∷
    said 3 2 1 Server (call 1 0) (body.Grant 8 0) ∷
    PlainDeliver 1 ∷
    []

-- so nothing is granted now
pub older_is_chosen : first_broken (empty_piece ++ PlainFinished 5 ∷ []) ≡ None
unfolding empty insert insert_all remove retain checked get len values with_range ordered firsts seen allowed judged
older_is_chosen = refl

-- and a grant to the younger one breaks the law
pub younger_granted : first_broken (empty_piece ++ said 4 2 0 Server (call 0 0) (body.Grant 8 0) ∷ []) ≡ Some (11, GrantingClause)
unfolding empty insert insert_all remove retain checked get len values with_range ordered firsts seen allowed judged
younger_granted = refl

-- a response is granted
abbrev granted_response : List PlainEntry
granted_response =
    PlainSettings (record usual { seg = 4; window = 4; unsched = 4 }) ∷
    PlainCall (call 0 0) (host 1) 1 (97 ∷ []) ∷
    PlainSend 0 (host 0) (host 1) 1 Client (call 0 0) 7 (body.Data 1 0 0 1 None) (97 ∷ []) ∷
    PlainDeliver 0 ∷
    PlainRun (host 1) (call 0 0) 1 (97 ∷ []) (0 ∷ 0 ∷ 0 ∷ 0 ∷ 0 ∷ 0 ∷ 0 ∷ 1 ∷ []) 0 ∷
    piece 1 1 0 Server (call 0 0) 8 0 (0 ∷ 0 ∷ 0 ∷ 0 ∷ []) ∷
    PlainDeliver 1 ∷
    said 2 0 1 Client (call 0 0) (body.Grant 8 0) ∷
    PlainDeliver 2 ∷
    PlainSend 3 (host 1) (host 0) 1 Server (call 0 0) 0 (body.Data 8 4 0 0 None) (0 ∷ 0 ∷ 0 ∷ 1 ∷ []) ∷
    PlainDeliver 3 ∷
    PlainDone (call 0 0) (0 ∷ 0 ∷ 0 ∷ 0 ∷ 0 ∷ 0 ∷ 0 ∷ 1 ∷ []) ∷
    PlainFinished 4 ∷
    []

pub granted_response_obeys : first_broken granted_response ≡ None
unfolding empty insert insert_all remove retain checked get len values with_range ordered firsts seen allowed judged
granted_response_obeys = refl

-- but not where its client restarted
pub granted_too_late : first_broken (take 7 granted_response ++ PlainRestart (host 0) 2 ∷ said 2 0 1 Client (call 0 0) (body.Grant 8 0) ∷ []) ≡ Some
    (9, GrantingClause)
unfolding empty insert insert_all remove retain checked get len values with_range ordered firsts seen allowed judged
granted_too_late = refl

-- nor as if it was a request
pub granted_as_server : first_broken (take 7 granted_response ++ said 2 0 1 Server (call 0 0) (body.Grant 8 0) ∷ []) ≡ Some (8, GrantingClause)
unfolding empty insert insert_all remove retain checked get len values with_range ordered firsts seen allowed judged
granted_as_server = refl
