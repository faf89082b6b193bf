-- What a row has in the books of its host.
use Rattle.std.specs.Prelude.{◌≡◌, ◌+◌, ℕ, Bool, true, false, is_some, if◌then◌else◌, Option, None, Some, IfSome, List, [], ◌∷◌}
use Rattle.homa_plain.specs.declared.settings.Settings.{Settings}
use Rattle.homa_timers.specs.Armed as armed
use Rattle.homa_grants.specs.Entries as entry
use Rattle.homa_pacer.specs.Pace as pace
use Rattle.host_view.specs.Seen.{Seen, AreArmed, AreEntered, AreReady}
use Rattle.host_books.specs.declared.books.Books.{Books}
use Rattle.host_books.specs.declared.books.Deadline.{Deadline}
use Rattle.host_books.specs.declared.books.Arrival.{Arrival}
use Rattle.host_books.specs.declared.books.Waiting.{Waiting}
use Rattle.host_books.specs.declared.books.Duties.{Duties}
use Rattle.host_books.specs.Granted.{due_grants}

-- a slot's timer, in the book of timers: none or one
abbrev pub timers_in : ℕ → Option Deadline → List armed.Timer
timers_in slot None = []
timers_in slot (Some d) = record { slot = slot; at = d.at; order = d.order } ∷ []

-- a slot's message that arrives, in the book of grants: none or one
abbrev pub entries_in : ℕ → Option Arrival → List entry.Entry
entries_in slot None = []
entries_in slot (Some a) = record { slot = slot; peer = a.peer.0; remaining = a.remaining; order = a.order } ∷ []

-- a slot's message that waits to be sent, in the pacer's book: none or one
abbrev pub ready_in : ℕ → Option Waiting → List pace.Ready
ready_in slot None = []
ready_in slot (Some w) = record { slot = slot; left = w.left; order = w.order } ∷ []

-- whether what arrives may have changed, where it was noted that a slot's message did, if it has one
abbrev pub noted : ℕ → Books → Bool
noted slot b = if b.changed then true else is_some (entry.entry_of slot b.grants.entries)

-- whether what arrives may have changed, once a slot has this message that arrives, or none
abbrev pub changed_by : ℕ → Option Arrival → Books → Bool
changed_by slot None b = noted slot b
changed_by slot (Some a) b = true

-- the order numbers of a slot's things are none of other slots' things
pub record AreOwn (b : Books) (slot : ℕ) (d : Duties) : Type 0 where
  pub timer : IfSome d.timer (λ t. armed.IsOwnOrder slot t.order b.timers.timers)
  pub arrival : IfSome d.arrival (λ a. entry.IsOwnOrder slot a.order b.grants.entries)
  pub waiting : IfSome d.waiting (λ w. pace.IsOwnOrder slot w.order b.pacer.ready)

-- the books have room for so many slots and hosts
pub record HaveRoom (s : Settings) (b : Books) : Type 0 where
  pub timers : b.timers.slots ≡ s.calls + s.served
  pub grants : b.grants.slots ≡ s.calls + s.served
  pub hosts : b.grants.hosts ≡ s.hosts
  pub most : b.grants.most ≡ s.overcommit
  pub pacer : b.pacer.slots ≡ s.calls + s.served
  pub rate : b.pacer.rate ≡ s.rate

-- each book holds exactly what the host's rows need; no GRANT is due where what arrives didn't change since messages were last granted to
pub record AreBooked (h : Seen) (b : Books) : Type 0 where
  pub armed : AreArmed h b.timers.timers
  pub entered : AreEntered h b.grants.entries
  pub ready : AreReady h b.pacer.ready
  pub granted : b.changed ≡ false → due_grants h.settings h.host ≡ []
