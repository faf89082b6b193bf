-- What a row has in the books of its host, and the books of which a slot was given it.
use Rattle.std.specs.Prelude.{ℕ, if◌then◌else◌, Option, None, Some}
use Rattle.std.specs.Option.{option_map}
use Rattle.plain_sets.specs.Maps.{get}
use Rattle.homa_plain.specs.declared.settings.Settings.{Settings}
use Rattle.homa_plain.specs.Incoming.{Incoming, remaining}
use Rattle.homa_plain.specs.Outgoing.{Outgoing, has_waiting, left}
use Rattle.homa_plain.specs.Rows.{ClientRow, ServerRow, State, Receiving, Held, Replying, Buried}
use Rattle.homa_plain.specs.Timers.{Place, OfClient, OfServer, client_deadline, server_deadline}
use Rattle.homa_timers.specs.Armed as armed
use Rattle.homa_grants.specs.Entries as entry
use Rattle.homa_pacer.specs.Pace as pace
use Rattle.host_view.specs.Seen.{Seen}
use Rattle.host_view.specs.Follow.{booked}
use Rattle.host_books.specs.declared.books.Books.{Books}
use Rattle.host_books.specs.declared.books.Deadline.{Deadline}
use Rattle.host_books.specs.declared.books.Arrival.{Arrival}
use Rattle.host_books.specs.declared.books.Waiting.{Waiting}
use Rattle.host_books.specs.declared.books.Duties.{Duties}
use Rattle.host_books.specs.Duties.{timers_in, entries_in, ready_in, changed_by}

-- no timer, no message that arrives, and none that waits to be sent
abbrev pub no_duties : Duties
no_duties = record { timer = None; arrival = None; waiting = None }

-- its timer, unless that rests
abbrev pub timer_duty : ℕ → Option ℕ → Option Deadline
timer_duty order at = option_map (λ t. record { at = t; order = order }) at

-- the message that arrives, if one does
abbrev pub arrival_duty : Option Incoming → Option Arrival
arrival_duty part = option_map (λ (p : Incoming). record { peer = p.peer; remaining = remaining p; order = p.order }) part

-- the message that is sent, if bytes of it wait
abbrev pub waiting_duty : Outgoing → ℕ → Option Waiting
waiting_duty out order = if has_waiting out then Some (record { left = left out; order = order }) else None

-- what a client's row has in the books: its timer, the response that arrives, the request whose bytes wait
abbrev pub client_duty : Settings → ClientRow → Duties
client_duty s r = record { timer = timer_duty r.order (client_deadline s r); arrival = arrival_duty r.part; waiting = waiting_duty r.out r.order }

-- the request that arrives in a state, if one does
abbrev pub arriving : State → Option Incoming
arriving (Receiving service part base count) = Some part
arriving (Held response release) = None
arriving (Replying response out order base count) = None
arriving (Buried until) = None

-- the response that is sent in a state, if bytes of it wait
abbrev pub reply_duty : State → Option Waiting
reply_duty (Receiving service part base count) = None
reply_duty (Held response release) = None
reply_duty (Replying response out order base count) = waiting_duty out order
reply_duty (Buried until) = None

-- what a server's row has in the books: its timer, the request that arrives, the response whose bytes wait
abbrev pub server_duty : Settings → ServerRow → Duties
server_duty s row = record { timer = timer_duty row.order (server_deadline s row); arrival = arrival_duty (arriving row.state); waiting = reply_duty row.state }

-- what a client's row has in the books, if there is one
abbrev pub client_duty_in : Settings → Option ClientRow → Duties
client_duty_in s None = no_duties
client_duty_in s (Some r) = client_duty s r

-- what a server's row has in the books, if there is one
abbrev pub server_duty_in : Settings → Option ServerRow → Duties
server_duty_in s None = no_duties
server_duty_in s (Some row) = server_duty s row

-- what the row at a place has in the books
abbrev pub duty_at : Seen → Place → Duties
duty_at h (OfClient id) = client_duty_in h.settings (get h.host.clients id)
duty_at h (OfServer id) = server_duty_in h.settings (get h.host.servers id)

-- the books, where a slot has these entries and no others
abbrev pub followed : ℕ → Duties → Books → Books
followed slot d b = record {
  timers = record b.timers { timers = booked armed.timer_key (λ t. t.slot) slot (timers_in slot d.timer) b.timers.timers };
  grants = record b.grants { entries = booked entry.entry_key (λ e. e.slot) slot (entries_in slot d.arrival) b.grants.entries };
  pacer = record b.pacer { ready = booked pace.ready_key (λ r. r.slot) slot (ready_in slot d.waiting) b.pacer.ready };
  changed = changed_by slot d.arrival b;
}
