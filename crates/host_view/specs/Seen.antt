-- The model of a host: the plain host, the places of its rows, the entries of its last step; and what its books hold.
use Rattle.std.specs.Prelude.{◌≡◌, ◌+◌, ◌-◌, ℕ, if◌then◌else◌, unwrap_or, List, [], ◌∷◌, ◌++◌, map, Contains}
use Rattle.std.specs.List.{flat_map}
use Rattle.plain_sets.specs.Maps.{get, entries}
use Rattle.plain_sets.specs.Ordered.{ordered}
use Rattle.homa_plain.specs.declared.id.CallId.{CallId}
use Rattle.homa_plain.specs.declared.settings.Settings.{Settings}
use Rattle.homa_plain.specs.Outgoing.{has_waiting, left}
use Rattle.homa_plain.specs.Rows.{ClientRow, ServerRow, State, Replying, RowsOf}
use Rattle.homa_plain.specs.Host.{Host}
use Rattle.homa_plain.specs.Timers.{Place, OfClient, OfServer, Timer, timers}
use Rattle.homa_plain.specs.SentNext.{Leaving, departures}
use Rattle.homa_plain.specs.Sending.{Arriving, arrivals}
use Rattle.host_view.specs.declared.mark.Mark.{Mark}
use Rattle.homa_timers.specs.Armed as armed
use Rattle.homa_grants.specs.Entries as entry
use Rattle.homa_pacer.specs.Pace as pace

-- a host, its settings, the places of its rows, and the marks of its last step
pub record Seen : Type 0 where
  pub settings : Settings
  pub host : Host
  pub client_places : RowsOf ℕ  -- where the row of each call that it made stands
  pub server_places : RowsOf ℕ  -- and of each call that it serves
  pub marks : List Mark  -- what its last step told

-- ---- slots: those of the client's rows, and then those of the server's

-- the slot of the row of a place
abbrev pub slot_of : Seen → Place → ℕ
slot_of h (OfClient id) = unwrap_or (get h.client_places id) 0
slot_of h (OfServer id) = h.settings.calls + unwrap_or (get h.server_places id) 0

-- a row's timer, as the timers' book has it
abbrev pub timer_of : Seen → Timer → armed.Timer
timer_of h t = record { slot = slot_of h t.place; at = t.at; order = t.order }

-- a message that arrives, as the grants' book has it
abbrev pub entry_of : Seen → Arriving → entry.Entry
entry_of h a = record { slot = slot_of h a.place; peer = a.message.peer.0; remaining = a.message.length - a.message.arrived; order = a.message.order }

-- a message that is sent, as the pacer has it
abbrev pub ready_of : Seen → Leaving → pace.Ready
ready_of h l = record { slot = slot_of h l.place; left = l.left; order = l.order }

-- ---- the books

-- the timers' book holds exactly the rows that have a deadline
abbrev pub AreArmed : Seen → List armed.Timer → Type 0
AreArmed h book = book ≡ ordered armed.timer_key (map (timer_of h) (timers h.settings h.host))

-- the grants' book holds exactly the incoming messages that aren't whole
abbrev pub AreEntered : Seen → List entry.Entry → Type 0
AreEntered h book = book ≡ ordered entry.entry_key (map (entry_of h) (arrivals h.host))

-- a request of which bytes wait, whether or not they may be sent now
abbrev pub waiting_at_client : CallId → ClientRow → List Leaving
waiting_at_client id r = if has_waiting r.out then record { place = OfClient id; left = left r.out; order = r.order } ∷ [] else []

-- a response of which bytes wait, whether or not they may be sent now
abbrev pub waiting_at_server : CallId → State → List Leaving
waiting_at_server id (Replying response out order base count) =
    if has_waiting out then record { place = OfServer id; left = left out; order = order } ∷ [] else []
waiting_at_server id state = []

-- all messages of which bytes wait: the requests, and then the responses
abbrev pub waiting : Host → List Leaving
waiting h =
    flat_map (λ (e : CallId × ClientRow). waiting_at_client e.0 e.1) (entries h.clients)
    ++ flat_map (λ (e : CallId × ServerRow). waiting_at_server e.0 e.1.state) (entries h.servers)

-- the pacer holds each message that may be sent at the host's last step, and only messages of which bytes wait
pub record AreReady (h : Seen) (book : List pace.Ready) : Type 0 where
  pub all : (l : Leaving) → Contains (departures h.settings h.host.last h.host) l → Contains book (ready_of h l)
  pub only : (r : pace.Ready) → Contains book r → (l : Leaving) × Contains (waiting h.host) l × (r ≡ ready_of h l)
