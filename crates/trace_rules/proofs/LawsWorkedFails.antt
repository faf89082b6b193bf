-- Calls that fail, in time or not. Line and clause were worked out by hand.
use Rattle.std.proofs.Common.{◌≡◌, refl, List, [], ◌∷◌, ◌++◌, take, Some, None}
use Rattle.plain_sets.specs.Maps.{empty, insert, insert_all, remove, retain, checked, get, len, values}
use Rattle.plain_sets.specs.Numbers.{with_range}
use Rattle.plain_sets.specs.Ordered.{ordered, firsts}
use Rattle.homa_plain.specs.declared.packet.Role.TheVariants.{Client, Server}
use Rattle.homa_plain.specs.declared.packet.Body.TheVariants as body
use Rattle.homa_plain.specs.declared.entry.Why.TheVariants.{Timeout, Forgotten}
use Rattle.homa_plain.specs.Script.{counting}
use Rattle.homa_plain.specs.Settings.{usual}
use Rattle.homa_plain.specs.Entries.{PlainEntry, PlainSettings, PlainCall, PlainDeliver, PlainClock, PlainRestart, PlainShift, PlainFail, PlainFinished}
use Rattle.trace_rules.specs.Seen.{seen}
use Rattle.trace_rules.specs.Granting.{allowed}
use Rattle.trace_rules.specs.Judge.{FailsClause, judged, first_broken}
use Rattle.homa_plain.proofs.TraceLines.{host, call, piece, said, clocks}

-- five RESENDs stay without an answer
abbrev all_lost : List PlainEntry
all_lost =
    PlainSettings usual ∷
    PlainCall (call 0 0) (host 1) 0 (104 ∷ 105 ∷ []) ∷
    piece 0 0 1 Client (call 0 0) 2 0 (104 ∷ 105 ∷ []) ∷
    clocks 1 4 ++
    said 1 0 1 Client (call 0 0) (body.Resend 0 10000 3) ∷
    clocks 5 4 ++
    said 2 0 1 Client (call 0 0) (body.Resend 0 10000 3) ∷
    clocks 9 4 ++
    said 3 0 1 Client (call 0 0) (body.Resend 0 10000 3) ∷
    clocks 13 4 ++
    said 4 0 1 Client (call 0 0) (body.Resend 0 10000 3) ∷
    clocks 17 4 ++
    said 5 0 1 Client (call 0 0) (body.Resend 0 10000 3) ∷
    clocks 21 4 ++
    PlainFail (call 0 0) Timeout ∷
    PlainFinished 73 ∷
    []

pub all_lost_obeys : first_broken all_lost ≡ None
unfolding empty insert insert_all remove retain checked get len values with_range ordered firsts seen allowed judged
all_lost_obeys = refl

-- the client gives up a tick too early
abbrev too_early : List PlainEntry
too_early =
    PlainSettings usual ∷
    PlainCall (call 0 0) (host 1) 0 (104 ∷ 105 ∷ []) ∷
    piece 0 0 1 Client (call 0 0) 2 0 (104 ∷ 105 ∷ []) ∷
    clocks 1 4 ++
    said 1 0 1 Client (call 0 0) (body.Resend 0 10000 3) ∷
    clocks 5 4 ++
    said 2 0 1 Client (call 0 0) (body.Resend 0 10000 3) ∷
    clocks 9 4 ++
    said 3 0 1 Client (call 0 0) (body.Resend 0 10000 3) ∷
    clocks 13 4 ++
    said 4 0 1 Client (call 0 0) (body.Resend 0 10000 3) ∷
    clocks 17 4 ++
    said 5 0 1 Client (call 0 0) (body.Resend 0 10000 3) ∷
    clocks 21 3 ++
    PlainFail (call 0 0) Timeout ∷
    PlainFinished 73 ∷
    []

pub too_early_breaks : first_broken too_early ≡ Some (32, FailsClause)
unfolding empty insert insert_all remove retain checked get len values with_range ordered firsts seen allowed judged
too_early_breaks = refl

-- two RESENDs, each two ticks behind what came before; two are the limit
abbrev two_resends : List PlainEntry
two_resends =
    PlainSettings (record usual { resend = 2; tries = 2 }) ∷
    PlainCall (call 0 0) (host 1) 0 (97 ∷ []) ∷
    piece 0 0 1 Client (call 0 0) 1 0 (97 ∷ []) ∷
    clocks 1 2 ++
    said 1 0 1 Client (call 0 0) (body.Resend 0 10000 3) ∷
    clocks 3 2 ++
    said 2 0 1 Client (call 0 0) (body.Resend 0 10000 3) ∷
    clocks 5 2 ++
    []

-- after two more ticks the client may give up
pub gives_up : first_broken (two_resends ++ PlainFail (call 0 0) Timeout ∷ PlainFinished 6 ∷ []) ≡ None
unfolding empty insert insert_all remove retain checked get len values with_range ordered firsts seen allowed judged
gives_up = refl

-- one RESEND is too few
pub one_resend : first_broken (take 8 two_resends ++ PlainFail (call 0 0) Timeout ∷ []) ≡ Some (9, FailsClause)
unfolding empty insert insert_all remove retain checked get len values with_range ordered firsts seen allowed judged
one_resend = refl

-- and three are too many
pub three_resends : first_broken
    (two_resends ++ said 3 0 1 Client (call 0 0) (body.Resend 0 10000 3) ∷ clocks 7 2 ++ PlainFail (call 0 0) Timeout ∷ []) ≡ Some (15, FailsClause)
unfolding empty insert insert_all remove retain checked get len values with_range ordered firsts seen allowed judged
three_resends = refl

-- the last RESEND is a tick behind the one before it
pub too_close : first_broken
    (take 7 two_resends ++ said 2 0 1 Client (call 0 0) (body.Resend 0 10000 3) ∷ clocks 4 2 ++ PlainFail (call 0 0) Timeout ∷ []) ≡ Some (11, FailsClause)
unfolding empty insert insert_all remove retain checked get len values with_range ordered firsts seen allowed judged
too_close = refl

-- BUSY renews the call
pub renewed_by_busy : first_broken (two_resends ++ said 3 1 0 Server (call 0 0) body.Busy ∷ PlainDeliver 3 ∷ PlainFail (call 0 0) Timeout ∷ []) ≡ Some
    (14, FailsClause)
unfolding empty insert insert_all remove retain checked get len values with_range ordered firsts seen allowed judged
renewed_by_busy = refl

-- UNKNOWN does not, nor what another host sends
pub not_renewed : first_broken
    (two_resends ++ said 3 1 0 Server (call 0 0) (body.Unknown 0) ∷ said 4 0 0 Server (call 0 0) body.Busy ∷ PlainDeliver 3 ∷ PlainDeliver 4 ∷
    PlainFail (call 0 0) Timeout ∷ PlainFinished 8 ∷ []) ≡ None
unfolding empty insert insert_all remove retain checked get len values with_range ordered firsts seen allowed judged
not_renewed = refl

-- the last byte was sent before: sending it again does not renew the call
pub sent_again : first_broken (two_resends ++ piece 3 0 1 Client (call 0 0) 1 0 (97 ∷ []) ∷ PlainFail (call 0 0) Timeout ∷ PlainFinished 6 ∷ []) ≡ None
unfolding empty insert insert_all remove retain checked get len values with_range ordered firsts seen allowed judged
sent_again = refl

-- half of a request is sent, and then a RESEND; one is the limit
abbrev half_sent : List PlainEntry
half_sent =
    PlainSettings (record usual { seg = 4; resend = 2; tries = 1 }) ∷
    PlainCall (call 0 0) (host 1) 0 (counting 0 8) ∷
    piece 0 0 1 Client (call 0 0) 8 0 (counting 0 4) ∷
    clocks 1 2 ++
    said 1 0 1 Client (call 0 0) (body.Resend 0 10000 3) ∷
    clocks 3 2 ++
    []

-- the client may give up
pub half_gives_up : first_broken (half_sent ++ PlainFail (call 0 0) Timeout ∷ []) ≡ None
unfolding empty insert insert_all remove retain checked get len values with_range ordered firsts seen allowed judged
half_gives_up = refl

-- but not behind the rest of the request, which renews the call
pub rest_renews : first_broken (half_sent ++ piece 2 0 1 Client (call 0 0) 8 4 (counting 4 4) ∷ PlainFail (call 0 0) Timeout ∷ []) ≡ Some (10, FailsClause)
unfolding empty insert insert_all remove retain checked get len values with_range ordered firsts seen allowed judged
rest_renews = refl

-- a RESEND at the tick 2 of the client, whose clock is a tick ahead
abbrev ahead : List PlainEntry
ahead =
    PlainSettings (record usual { resend = 2; tries = 1; skew = 1 }) ∷
    PlainCall (call 0 0) (host 1) 0 (97 ∷ []) ∷
    piece 0 0 1 Client (call 0 0) 1 0 (97 ∷ []) ∷
    PlainClock 1 ∷
    said 1 0 1 Client (call 0 0) (body.Resend 0 10000 3) ∷
    PlainClock 2 ∷
    []

-- two ticks later by its own clock, which is two ahead by then, the client may give up
pub by_own_clock : first_broken (ahead ++ PlainShift (host 0) 2 ∷ PlainFail (call 0 0) Timeout ∷ []) ≡ None
unfolding empty insert insert_all remove retain checked get len values with_range ordered firsts seen allowed judged
by_own_clock = refl

-- a shift of the other clock says nothing
pub by_other_clock : first_broken (ahead ++ PlainShift (host 1) 2 ∷ PlainFail (call 0 0) Timeout ∷ []) ≡ Some (8, FailsClause)
unfolding empty insert insert_all remove retain checked get len values with_range ordered firsts seen allowed judged
by_other_clock = refl

-- the server says that it ran and forgot the call, and that it has no record of it
abbrev two_unknown : List PlainEntry
two_unknown =
    PlainSettings usual ∷
    PlainCall (call 0 0) (host 1) 0 (97 ∷ []) ∷
    piece 0 0 1 Client (call 0 0) 1 0 (97 ∷ []) ∷
    said 1 1 0 Server (call 0 0) (body.Unknown 1) ∷
    said 2 1 0 Server (call 0 0) (body.Unknown 0) ∷
    []

-- the first ends the call
pub fails_as_forgotten : first_broken (two_unknown ++ PlainDeliver 1 ∷ PlainFail (call 0 0) Forgotten ∷ PlainFinished 2 ∷ []) ≡ None
unfolding empty insert insert_all remove retain checked get len values with_range ordered firsts seen allowed judged
fails_as_forgotten = refl

-- and has to end it in this block
pub not_failed : first_broken (two_unknown ++ PlainDeliver 1 ∷ PlainClock 1 ∷ PlainFail (call 0 0) Forgotten ∷ []) ≡ Some (7, FailsClause)
unfolding empty insert insert_all remove retain checked get len values with_range ordered firsts seen allowed judged
not_failed = refl

-- the second does not
pub no_record : first_broken (two_unknown ++ PlainDeliver 2 ∷ PlainFail (call 0 0) Forgotten ∷ PlainFinished 2 ∷ []) ≡ Some (8, FailsClause)
unfolding empty insert insert_all remove retain checked get len values with_range ordered firsts seen allowed judged
no_record = refl

-- a call that failed is not live, and does not fail again
pub failed_twice : first_broken (two_unknown ++ PlainDeliver 1 ∷ PlainFail (call 0 0) Forgotten ∷ PlainDeliver 1 ∷ PlainFinished 3 ∷ []) ≡ None
unfolding empty insert insert_all remove retain checked get len values with_range ordered firsts seen allowed judged
failed_twice = refl

-- nor does a call whose client restarted
pub client_restarted : first_broken (two_unknown ++ PlainRestart (host 0) 2 ∷ PlainDeliver 1 ∷ PlainFinished 3 ∷ []) ≡ None
unfolding empty insert insert_all remove retain checked get len values with_range ordered firsts seen allowed judged
client_restarted = refl
