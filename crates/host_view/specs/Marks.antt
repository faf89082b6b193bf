-- The entries of a step as marks, without the bytes that are elsewhere: a request and a response are in their rows,
-- a message that became whole is in the scratch, a packet is in the outbox.
use Rattle.std.specs.Prelude.{◌≡◌, ℕ, suc, Bool, true, false, Option, unwrap_or, List, [], ◌∷◌, map}
use Rattle.std.specs.List.{AllByRecursion}
use Rattle.std.specs.Option.{option_map}
use Rattle.plain_sets.specs.Maps.{get}
use Rattle.homa_plain.specs.declared.id.CallId.{CallId}
use Rattle.homa_plain.specs.Entries.{PlainEntry, PlainCall, PlainJunk, PlainStale, PlainBalance, PlainRun, PlainDone, PlainFail, PlainDrop, PlainGaps}
use Rattle.homa_plain.specs.Entries.{PlainBury, PlainFree, PlainFullRows, PlainFullPages}
use Rattle.homa_plain.specs.Rows.{ClientRow, ServerRow, State, Receiving, Held, Replying, Buried}
use Rattle.homa_plain.specs.Host.{Host, Told, Says, Sends}
use Rattle.homa_plain.specs.Rules.{Answer}
use Rattle.host_view.specs.declared.mark.Mark.{Mark}
use Rattle.host_view.specs.declared.mark.Mark.TheVariants.{Called, Junk, Stale, Balanced, Ran, Done, Failed, Dropped, TooManyGaps, Entombed, Freed}
use Rattle.host_view.specs.declared.mark.Mark.TheVariants.{NoRow, NoPages, Sent}
use Rattle.host_view.specs.declared.outbox.SentFrame.{SentFrame}
use Rattle.host_view.specs.Frames.{frame_line}
use Rattle.host_view.specs.Seen.{Seen}

-- the request of a call that the host made, if it is live
abbrev pub request_of : Host → CallId → List ℕ
request_of h id = unwrap_or (option_map (λ (r : ClientRow). r.request) (get h.clients id)) []

-- the response of a call that the host serves, if the row has it
abbrev pub response_in : State → List ℕ
response_in (Receiving service part base count) = []
response_in (Held response release) = response
response_in (Replying response out order base count) = response
response_in (Buried until) = []

-- the response of this call that the host serves; empty if it has no row
abbrev pub response_of : Host → CallId → List ℕ
response_of h id = unwrap_or (option_map (λ (r : ServerRow). response_in r.state) (get h.servers id)) []

-- the entry of a mark, with the message that became whole
abbrev pub shown : Seen → List SentFrame → List ℕ → Mark → PlainEntry
shown h frames whole (Called id server service) = PlainCall id server service (request_of h.host id)
shown h frames whole Junk = PlainJunk h.host.id
shown h frames whole (Stale at) = PlainStale h.host.id at h.host.last
shown h frames whole (Balanced cutoffs) = PlainBalance h.host.id cutoffs
shown h frames whole (Ran id service hold) = PlainRun h.host.id id service whole (response_of h.host id) hold
shown h frames whole (Done id) = PlainDone id whole
shown h frames whole (Failed id why) = PlainFail id why
shown h frames whole (Dropped id) = PlainDrop h.host.id id
shown h frames whole (TooManyGaps id) = PlainGaps h.host.id id
shown h frames whole (Entombed id until) = PlainBury h.host.id id until
shown h frames whole (Freed id) = PlainFree h.host.id id
shown h frames whole (NoRow id rows limit) = PlainFullRows h.host.id id rows limit
shown h frames whole (NoPages id need free) = PlainFullPages h.host.id id need free
shown h frames whole (Sent n) = frame_line h.settings frames n

-- the entries of a host's last step
abbrev pub shown_entries : Seen → List SentFrame → List ℕ → List PlainEntry
shown_entries h frames whole = map (shown h frames whole) h.marks

-- ---- the service's answer

-- whether a service was asked
abbrev pub has_ran : List Mark → Bool
has_ran [] = false
has_ran (Ran id service hold ∷ marks) = true
has_ran (mark ∷ marks) = has_ran marks

-- if a service was asked, this is its answer
abbrev pub IsReply : Host → Answer → Mark → Type 0
IsReply h a (Ran id service hold) = a ≡ record { bytes = response_of h id; hold = hold }
IsReply h a mark = Unit {0}

-- this is what the service answered in the last step, if it was asked
abbrev pub IsAnswer : Seen → Answer → Type 0
IsAnswer h a = AllByRecursion (IsReply h.host a) h.marks

-- if a service was asked, it was allowed to answer so
abbrev pub IsAllowed : Host → (ℕ → List ℕ → List ℕ → ℕ → Type 0) → List ℕ → Mark → Type 0
IsAllowed h allows whole (Ran id service hold) = allows service whole (response_of h id) hold
IsAllowed h allows whole mark = Unit {0}

-- ---- marks of entries

-- the mark of an entry; an entry that no mark shows has the mark of junk
abbrev pub mark_of : PlainEntry → Mark
mark_of (PlainCall id server service bytes) = Called id server service
mark_of (PlainStale host at now) = Stale at
mark_of (PlainBalance host cutoffs) = Balanced cutoffs
mark_of (PlainRun host id service request response hold) = Ran id service hold
mark_of (PlainDone id bytes) = Done id
mark_of (PlainFail id why) = Failed id why
mark_of (PlainDrop host id) = Dropped id
mark_of (PlainGaps host id) = TooManyGaps id
mark_of (PlainBury host id until) = Entombed id until
mark_of (PlainFree host id) = Freed id
mark_of (PlainFullRows host id rows limit) = NoRow id rows limit
mark_of (PlainFullPages host id need free) = NoPages id need free
mark_of entry = Junk

-- the packets have the numbers from n on
abbrev pub marks_from : ℕ → List Told → List Mark
marks_from n [] = []
marks_from n (Says entry ∷ told) = mark_of entry ∷ marks_from n told
marks_from n (Sends packet ∷ told) = Sent n ∷ marks_from (suc n) told

-- the message that became whole is this one
abbrev pub IsWhole : List ℕ → Told → Type 0
IsWhole whole (Says (PlainRun host id service request response hold)) = request ≡ whole
IsWhole whole (Says (PlainDone id bytes)) = bytes ≡ whole
IsWhole whole told = Unit {0}

-- an entry that was printed is the entry of its mark, whatever the frames
abbrev pub IsShown : Seen → List ℕ → Told → Type 0
IsShown h whole (Says entry) = (frames : List SentFrame) → shown h frames whole (mark_of entry) ≡ entry
IsShown h whole (Sends packet) = Unit {0}
