-- Examples of parts of messages, of choices and of cutoffs, computed; each was worked out by hand.
use Rattle.std.proofs.Common.{◌≡◌, zero, suc, ◌+◌, ◌*◌, ℕ, refl, true, false, [], ◌∷◌, Some, None, map}
use Rattle.plain_sets.specs.Maps.{empty, insert_all, retain, checked, get, len, keys, values, key_set}
use Rattle.plain_sets.specs.Ranges.{range}
use Rattle.plain_sets.specs.Numbers.{with_range, without_range, within, ranges, missing, first_in}
use Rattle.plain_sets.specs.Ordered.{ordered, firsts}
use Rattle.homa_plain.specs.declared.id.HostId.{HostId}
use Rattle.homa_plain.specs.Incoming as in_part
use Rattle.homa_plain.specs.Outgoing as out_part
use Rattle.homa_plain.specs.Grants.{Message, grants}
use Rattle.homa_plain.specs.Timers.{due}
use Rattle.homa_plain.specs.Cutoffs.{first_cutoffs, level_of, least_from, bounds, balanced}
use Rattle.homa_plain.specs.Busy as out_busy
use Rattle.homa_plain.specs.OutgoingChanges as out_changes

abbrev host : ℕ → HostId
host n = record { 0 = n }

-- the last two pieces of a message of 11 bytes, the later one first
abbrev two_pieces : in_part.Incoming
two_pieces = in_part.with_bytes (in_part.with_bytes (in_part.opened (host 0) 11 0 100) 8 (8 ∷ 9 ∷ 10 ∷ [])) 4 (4 ∷ 5 ∷ 6 ∷ 7 ∷ [])

-- and the first one
abbrev three_pieces : in_part.Incoming
three_pieces = in_part.with_bytes two_pieces 0 (0 ∷ 1 ∷ 2 ∷ 3 ∷ [])

-- with two pieces the message isn't whole, and its first four bytes are missing
pub not_whole : in_part.is_whole two_pieces ≡ false
unfolding empty insert_all retain checked get len
not_whole = refl

pub gap_in_front : in_part.first_gap two_pieces ≡ Some (range 0 4)
unfolding empty insert_all retain checked get keys key_set with_range ranges missing first_in
gap_in_front = refl

-- with the third piece it is whole
pub whole : in_part.is_whole three_pieces ≡ true
unfolding empty insert_all retain checked get len
whole = refl

pub no_gap : in_part.first_gap three_pieces ≡ None
unfolding empty insert_all retain checked get keys key_set with_range ranges missing first_in
no_gap = refl

pub whole_message : in_part.message three_pieces ≡ 0 ∷ 1 ∷ 2 ∷ 3 ∷ 4 ∷ 5 ∷ 6 ∷ 7 ∷ 8 ∷ 9 ∷ 10 ∷ []
unfolding empty insert_all retain checked get values
whole_message = refl

-- a byte that comes again with another value keeps its first one
pub first_value : in_part.message (in_part.with_bytes (in_part.with_bytes (in_part.opened (host 0) 4 0 100) 1 (5 ∷ 6 ∷ [])) 0 (9 ∷ 9 ∷ 9 ∷ 9 ∷ []))
    ≡ 9 ∷ 5 ∷ 6 ∷ 9 ∷ []
unfolding empty insert_all retain checked get values
first_value = refl

-- every second byte of a message of 200 bytes, n of them
abbrev odd_bytes : ℕ → in_part.Incoming
odd_bytes zero = in_part.opened (host 0) 200 0 200
odd_bytes (suc n) = in_part.with_bytes (odd_bytes n) (2 * n + 1) (7 ∷ [])

-- with bytes 1, 3 and so on up to 125 there are 64 gaps; byte 127 would make a 65th, and byte 126 makes none
pub a_gap_too_many : in_part.leaves_too_many_gaps (odd_bytes 63) 127 (7 ∷ []) ≡ true
unfolding empty insert_all retain checked get keys key_set with_range ranges missing
a_gap_too_many = refl

pub as_many_gaps : in_part.leaves_too_many_gaps (odd_bytes 63) 126 (7 ∷ []) ≡ false
unfolding empty insert_all retain checked get keys key_set with_range ranges missing
as_many_gaps = refl

-- a message that is sent in pieces of at most 4 bytes: 6 bytes need no grant, a grant adds 4, and byte 1 is asked for again
abbrev half_sent : out_part.Outgoing
half_sent = out_changes.changed_by (out_part.opened 11 6) (out_changes.Send 4 ∷ out_changes.Grant 10 3 ∷ [])

pub next_piece : out_part.next_range half_sent 4 ≡ Some (range 4 8)
unfolding empty insert_all retain checked keys with_range without_range ranges
next_piece = refl

pub asked_again : out_part.next_range (out_busy.resend half_sent 1 2 0).part 4 ≡ Some (range 1 2)
unfolding empty insert_all retain checked len keys with_range without_range within ranges
asked_again = refl

-- bytes that wait already aren't queued again
pub busy : (out_busy.resend half_sent 5 9 0).answer ≡ out_busy.Busy
unfolding empty insert_all retain checked len keys with_range without_range within ranges
busy = refl

-- a message of 20 bytes
abbrev of_twenty : ℕ → ℕ → ℕ → Message
of_twenty peer arrived order = record { peer = host peer; length = 20; arrived = arrived; granted = arrived; order = order }

-- of two messages with 16 missing bytes each the older one is granted to
pub older_first : grants (λ m. m) 1 8 (of_twenty 1 4 1 ∷ of_twenty 0 4 0 ∷ []) ≡ record { to = of_twenty 0 4 0; offset = 12; prio = 0 } ∷ []
unfolding ordered firsts
older_first = refl

-- and then the one of which fewer bytes are missing
pub shorter_first : grants (λ m. m) 1 8 (of_twenty 0 4 0 ∷ of_twenty 1 8 1 ∷ []) ≡ record { to = of_twenty 1 8 1; offset = 16; prio = 0 } ∷ []
unfolding ordered firsts
shorter_first = refl

-- three messages of one sender with 8, 4 and 12 missing bytes, and one of another with 16: each sender's first
pub one_for_each_sender : grants (λ m. m) 4 8 (of_twenty 0 12 0 ∷ of_twenty 0 16 1 ∷ of_twenty 0 8 2 ∷ of_twenty 1 4 3 ∷ [])
    ≡ record { to = of_twenty 0 16 1; offset = 20; prio = 1 } ∷ record { to = of_twenty 1 4 3; offset = 12; prio = 0 } ∷ []
unfolding ordered firsts
one_for_each_sender = refl

-- the row with the earliest deadline acts first, and one whose deadline hasn't come doesn't act
pub two_due : due (λ (row : ℕ × ℕ). row) 7 ((7, 2) ∷ (8, 0) ∷ (5, 3) ∷ []) ≡ (5, 3) ∷ (7, 2) ∷ []
unfolding ordered due
two_due = refl

-- the cutoffs of messages of 1 and 3 bytes
pub two_lengths : balanced 4 10000 1 (1 ∷ 3 ∷ []) ≡ record { version = 1; upto = 0 ∷ 0 ∷ 0 ∷ 0 ∷ 1000000 ∷ 3 ∷ 3 ∷ 1 ∷ [] }
unfolding bounds least_from
two_lengths = refl

-- and the levels by these cutoffs
pub four_levels : map (level_of 4 (balanced 4 10000 1 (1 ∷ 3 ∷ []))) (1 ∷ 2 ∷ 3 ∷ 4 ∷ []) ≡ 7 ∷ 6 ∷ 6 ∷ 4 ∷ []
unfolding bounds least_from level_of
four_levels = refl

-- with one level there is nothing to be divided
pub one_level : bounds 7 10000 (5 ∷ []) ≡ 0 ∷ 0 ∷ 0 ∷ 0 ∷ 0 ∷ 0 ∷ 0 ∷ 1000000 ∷ []
unfolding bounds least_from
one_level = refl

-- before any message was counted every message goes at level 7
pub first_level : map (level_of 4 (first_cutoffs 4)) (1 ∷ 1000000 ∷ []) ≡ 7 ∷ 7 ∷ []
unfolding level_of
first_level = refl
