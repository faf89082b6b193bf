-- One row of a host changed, and its books follow.
use Rattle.std.specs.Prelude.{◌≡◌, ◌<◌, ◌==◌, ℕ, Bool, true, false, not, filter, IfSome, Option, None, Some, List, [], ◌∷◌, map}
use Rattle.plain_sets.specs.Maps.{get}
use Rattle.plain_sets.specs.Ordered.{placed}
use Rattle.homa_plain.specs.declared.id.CallId.{CallId}
use Rattle.homa_plain.specs.declared.settings.Settings.{Settings}
use Rattle.homa_plain.specs.Rows.{ClientRow, ServerRow, RowsOf}
use Rattle.homa_plain.specs.Host.{Host}
use Rattle.homa_plain.specs.Timers.{Place, OfClient, OfServer, Timer, timer, client_deadline, server_deadline}
use Rattle.homa_plain.specs.Sending.{Arriving, arriving_at_client, arriving_at_server}
use Rattle.homa_plain.specs.SentNext.{Leaving}
use Rattle.step_laws.specs.StepLaws.{is_at_client, is_at_server}
use Rattle.homa_timers.specs.Armed as armed
use Rattle.homa_grants.specs.Entries as entry
use Rattle.homa_pacer.specs.Pace as pace
use Rattle.host_view.specs.Seen.{Seen, slot_of, timer_of, entry_of, ready_of, waiting_at_client, waiting_at_server}

-- each row has a place below the limit, and no two rows have the same place
pub record HasPlaces {R : Type 0} (limit : ℕ) (rows : RowsOf R) (places : RowsOf ℕ) : Type 0 where
  pub stands : (id : CallId) (row : R) → get rows id ≡ Some row → (n : ℕ) × (get places id ≡ Some n) × (n < limit)
  pub apart : (p q : CallId) (n : ℕ) → get places p ≡ Some n → get places q ≡ Some n → p ≡ q

-- each row of a host's calls has such a place, and each row of the calls that it serves
pub record HasSlots (h : Seen) : Type 0 where
  pub clients : HasPlaces h.settings.calls h.host.clients h.client_places
  pub servers : HasPlaces h.settings.served h.host.servers h.server_places

-- whether a place has a row
abbrev pub has_row : Seen → Place → Type 0
has_row h (OfClient id) = (r : ClientRow) × (get h.host.clients id ≡ Some r)
has_row h (OfServer id) = (r : ServerRow) × (get h.host.servers id ≡ Some r)

-- between two moments only the row of one place changes; before and after, that row has this slot, if it is there
pub record ChangesAt (place : Place) (n : ℕ) (old new : Seen) : Type 0 where
  pub settings : new.settings ≡ old.settings
  pub last : new.host.last ≡ old.host.last
  pub clients : (q : CallId) → is_at_client place q ≡ false → get new.host.clients q ≡ get old.host.clients q
  pub servers : (q : CallId) → is_at_server place q ≡ false → get new.host.servers q ≡ get old.host.servers q
  pub client_places : (q : CallId) → is_at_client place q ≡ false → get new.client_places q ≡ get old.client_places q
  pub server_places : (q : CallId) → is_at_server place q ≡ false → get new.server_places q ≡ get old.server_places q
  pub before : has_row old place → slot_of old place ≡ n
  pub after : has_row new place → slot_of new place ≡ n
  pub slots_before : HasSlots old
  pub slots_after : HasSlots new

-- ---- what the row of a place has in each book

-- the timer of a client's row, if there is a row and it has a deadline
abbrev pub client_timer : Settings → CallId → Option ClientRow → List Timer
client_timer s id None = []
client_timer s id (Some r) = timer (OfClient id) r.order (client_deadline s r)

-- the timer of a server's row, if there is a row and it has a deadline
abbrev pub server_timer : Settings → CallId → Option ServerRow → List Timer
server_timer s id None = []
server_timer s id (Some r) = timer (OfServer id) r.order (server_deadline s r)

-- the timer of the row of a place
abbrev pub timer_at : Seen → Place → List Timer
timer_at h (OfClient id) = client_timer h.settings id (get h.host.clients id)
timer_at h (OfServer id) = server_timer h.settings id (get h.host.servers id)

-- the response that arrives in a client's row
abbrev pub client_arrival : CallId → Option ClientRow → List Arriving
client_arrival id None = []
client_arrival id (Some r) = arriving_at_client id r.part

-- the request that arrives in a server's row
abbrev pub server_arrival : CallId → Option ServerRow → List Arriving
server_arrival id None = []
server_arrival id (Some r) = arriving_at_server id r.state

-- the message that arrives in the row of a place
abbrev pub arrival_at : Seen → Place → List Arriving
arrival_at h (OfClient id) = client_arrival id (get h.host.clients id)
arrival_at h (OfServer id) = server_arrival id (get h.host.servers id)

-- the request of a client's row, if bytes of it wait to be sent
abbrev pub client_waiting : CallId → Option ClientRow → List Leaving
client_waiting id None = []
client_waiting id (Some r) = waiting_at_client id r

-- the response of a server's row, if bytes of it wait to be sent
abbrev pub server_waiting : CallId → Option ServerRow → List Leaving
server_waiting id None = []
server_waiting id (Some r) = waiting_at_server id r.state

-- the message of the row of a place, if bytes of it wait to be sent
abbrev pub waiting_at : Seen → Place → List Leaving
waiting_at h (OfClient id) = client_waiting id (get h.host.clients id)
waiting_at h (OfServer id) = server_waiting id (get h.host.servers id)

-- a book in which a slot has this thing, or none
module _ {X : Type 0} (key : X → ℕ × ℕ) (slot : X → ℕ) (n : ℕ) where
  -- takes the entry of this slot out, and puts the thing in at the place of its key
  abbrev pub booked : List X → List X → List X
  booked [] book = filter (λ x. not (slot x == n)) book
  booked (x ∷ xs) book = placed key x (filter (λ x. not (slot x == n)) book)

-- the timers' book with the timer that the row of a place has now
abbrev pub armed_anew : Seen → Place → ℕ → List armed.Timer → List armed.Timer
armed_anew h place n book = booked armed.timer_key (λ t. t.slot) n (map (timer_of h) (timer_at h place)) book

-- the grants' book with the message that arrives in it now
abbrev pub entered_anew : Seen → Place → ℕ → List entry.Entry → List entry.Entry
entered_anew h place n book = booked entry.entry_key (λ e. e.slot) n (map (entry_of h) (arrival_at h place)) book

-- the pacer's book with the message of which bytes wait in it now
abbrev pub readied_anew : Seen → Place → ℕ → List pace.Ready → List pace.Ready
readied_anew h place n book = booked pace.ready_key (λ r. r.slot) n (map (ready_of h) (waiting_at h place)) book
