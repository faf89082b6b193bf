-- What a step's entries say of their host, and the bytes that a host's rows keep.
use Rattle.std.specs.Prelude.{◌≡◌, ℕ, Bool, true}
use Rattle.homa_plain.specs.declared.id.CallId.{CallId}
use Rattle.homa_plain.specs.declared.id.HostId.{HostId}
use Rattle.homa_plain.specs.Entries.{PlainEntry, PlainJunk, PlainStale, PlainBalance, PlainRun, PlainDone, PlainFail, PlainDrop, PlainGaps, PlainBury}
use Rattle.homa_plain.specs.Entries.{PlainFree, PlainFullRows, PlainFullPages}
use Rattle.homa_plain.specs.Host.{Host, Told, Says, Sends}
use Rattle.host_view.specs.Marks.{request_of, response_of}

-- the requests of the calls that a host made, and the responses of those that it serves, stay
pub record KeepsBytes (old new : Host) : Type 0 where
  pub requests : (q : CallId) → request_of new q ≡ request_of old q
  pub responses : (q : CallId) → response_of new q ≡ response_of old q

-- an entry of a step, but for a call's own, is that of its host at its clock; only in full does it tell of a message that is whole
abbrev pub IsOwnEntry : Bool → HostId → ℕ → PlainEntry → Type 0
IsOwnEntry full host now (PlainJunk h) = h ≡ host
IsOwnEntry full host now (PlainStale h at n) = (h ≡ host) × (n ≡ now)
IsOwnEntry full host now (PlainBalance h cutoffs) = h ≡ host
IsOwnEntry full host now (PlainRun h id service request response hold) = (h ≡ host) × (full ≡ true)
IsOwnEntry full host now (PlainDone id bytes) = full ≡ true
IsOwnEntry full host now (PlainFail id why) = Unit {0}
IsOwnEntry full host now (PlainDrop h id) = h ≡ host
IsOwnEntry full host now (PlainGaps h id) = h ≡ host
IsOwnEntry full host now (PlainBury h id until) = h ≡ host
IsOwnEntry full host now (PlainFree h id) = h ≡ host
IsOwnEntry full host now (PlainFullRows h id rows limit) = h ≡ host
IsOwnEntry full host now (PlainFullPages h id need free) = h ≡ host
IsOwnEntry full host now entry = ⊥

-- what a step tells is such an entry, or a packet
abbrev pub IsOwnTold : Bool → HostId → ℕ → Told → Type 0
IsOwnTold full host now (Says entry) = IsOwnEntry full host now entry
IsOwnTold full host now (Sends packet) = Unit {0}
