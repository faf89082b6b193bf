-- What stands where a call can start, and why it can't.
use Rattle.std.proofs.Common.{◌≡◌, ◌==◌, ◌||◌, ℕ, Bool, true, false, Option, Some, None, List, length, refl}
use Rattle.std.specs.Prelude.{◌^◌, if◌then◌else◌, nat_le, nat_lt}
use Rattle.plain_sets.specs.Maps.{len}
use Rattle.homa_plain.specs.declared.id.HostId.{HostId}
use Rattle.homa_plain.specs.declared.fault.StartFault.{StartFault}
use Rattle.homa_plain.specs.declared.fault.StartFault.TheVariants as start
use Rattle.homa_plain.specs.Calls.{is_host}
use Rattle.homa_plain.specs.Host.{pages_for}
use Rattle.homa_plain.specs.Limits.{last_host_tick, longest_message}
use Rattle.homa_plain.specs.Steps.{start_fault}
use Rattle.host_view.specs.Seen.{Seen}
use Rattle.driven_host.specs.declared.faults.StepFault.{StepFault}
use Rattle.driven_host.specs.declared.faults.StepFault.TheVariants.{NoHost, Spent, Back, Empty, TooLong, TooManyPages, CallsFull}
use Rattle.driven_host.specs.Faults.{first_cause, request_fault, call_fault}

-- the tests of a request, in their order
abbrev requested : Bool → Bool → Bool → Bool → Bool → Bool → Bool → Bool → Option StepFault
requested unknown self spent back empty long large full =
    first_cause (if unknown || self then Some NoHost else if spent then Some Spent else if back then Some Back else None) (
    if empty then Some Empty
    else first_cause (if long then Some TooLong else if large then Some TooManyPages else None) (if full then Some CallsFull else None))

-- those of a start
abbrev started : Bool → Bool → Bool → Bool → Bool → Option StartFault
started empty long self full numbers =
    if empty then Some start.Empty
    else if long then Some start.TooLong
    else if self then Some start.SelfCall
    else if full then Some start.CallsFull
    else if numbers then Some start.SeqSpent
    else None

-- behind a request that may be tried only the numbers can be the cause
by_tests : (unknown self spent back empty long large full numbers : Bool) → requested unknown self spent back empty long large full ≡ None
    → (started empty long self full numbers ≡ None → numbers ≡ false)
    × ((fault : StartFault) → started empty long self full numbers ≡ Some fault → numbers ≡ true)
by_tests true self spent back empty long large full numbers none = absurd cc
by_tests false true spent back empty long large full numbers none = absurd cc
by_tests false false true back empty long large full numbers none = absurd cc
by_tests false false false true empty long large full numbers none = absurd cc
by_tests false false false false true long large full numbers none = absurd cc
by_tests false false false false false true large full numbers none = absurd cc
by_tests false false false false false false true full numbers none = absurd cc
by_tests false false false false false false false true numbers none = absurd cc
by_tests false false false false false false false false true none = (λ e. absurd cc, λ fault e. refl)
by_tests false false false false false false false false false none = (λ e. refl, λ fault e. absurd cc)

module _ (h : Seen) (steps : ℕ) (server : HostId) (request : List ℕ) (now : ℕ)
    (none : request_fault h steps server (length request) now ≡ None) where
  tests : (start_fault h.settings h.host server request ≡ None → nat_le 4294967295 h.host.seq ≡ false)
      × ((fault : StartFault) → start_fault h.settings h.host server request ≡ Some fault → nat_le 4294967295 h.host.seq ≡ true)
  unfolding start_fault
  tests = by_tests (nat_le h.settings.hosts server.0) (is_host server h.host.id) (nat_lt last_host_tick now || nat_le (2 ^ 56) steps)
      (nat_lt now h.host.last) (length request == 0) (nat_lt longest_message (length request)) (nat_lt h.settings.pages (pages_for (length request)))
      (nat_le h.settings.calls (len h.host.clients)) (nat_le 4294967295 h.host.seq) none

  -- a call that starts had no cause
  pub no_cause : start_fault h.settings h.host server request ≡ None → call_fault h steps server (length request) now ≡ None
  no_cause starts = rw none (rw (tests.0 starts) refl)

  -- one that doesn't has the numbers as its cause
  pub spent : (fault : StartFault) → start_fault h.settings h.host server request ≡ Some fault
      → call_fault h steps server (length request) now ≡ Some Spent
  spent fault e = rw none (rw (tests.1 fault e) refl)
