-- Words for the laws of steps.
use Rattle.std.specs.Prelude.{◌≡◌, ◌<◌, ◌≤◌, ℕ, zero, suc, ◌+◌, Bool, false, Option, None, Some, List, [], ◌∷◌, length}
use Rattle.std.specs.Option.{option_map, option_and_then}
use Rattle.plain_sets.specs.Maps.{get}
use Rattle.plain_sets.specs.Ordered.{first_of}
use Rattle.homa_plain.specs.declared.id.CallId.{CallId}
use Rattle.homa_plain.specs.declared.settings.Settings.{Settings}
use Rattle.homa_plain.specs.Timers.{due}
use Rattle.homa_plain.specs.Entries.{PlainRun}
use Rattle.homa_plain.specs.Calls.{is_call}
use Rattle.homa_plain.specs.Incoming.{Incoming}
use Rattle.homa_plain.specs.Rows.{ClientRow, ServerRow, State, Receiving, Replying}
use Rattle.homa_plain.specs.Host.{Host, Told, Says, packets_in}
use Rattle.homa_plain.specs.Timers.{Place, OfClient, OfServer, Timer, timer_key, timers}
use Rattle.homa_plain.specs.Work.{Work, now_of}
use Rattle.homa_plain.specs.Steps.{acts_at}
use Rattle.homa_plain.specs.SentNext.{most_packets}

-- how many RUNs are told
abbrev pub run_count : List Told → ℕ
run_count [] = 0
run_count (Says (PlainRun host id service request response hold) ∷ told) = suc (run_count told)
run_count (t ∷ told) = run_count told

-- whether a row is that of a call at its client
abbrev pub is_at_client : Place → CallId → Bool
is_at_client (OfClient id) q = is_call q id
is_at_client (OfServer id) q = false

-- whether a row is that of a call at its server
abbrev pub is_at_server : Place → CallId → Bool
is_at_server (OfClient id) q = false
is_at_server (OfServer id) q = is_call q id

-- from one moment of a step to a later one no row changes but that at a place
pub record LeavesOthers (place : Place) (w v : Work) : Type 0 where
  pub clients : (q : CallId) → is_at_client place q ≡ false → get v.host.clients q ≡ get w.host.clients q
  pub servers : (q : CallId) → is_at_server place q ≡ false → get v.host.servers q ≡ get w.host.servers q

-- and here none does
pub record LeavesRows (w v : Work) : Type 0 where
  pub clients : v.host.clients ≡ w.host.clients
  pub servers : v.host.servers ≡ w.host.servers

-- a step of a host sends at most 64 packets, and gives out at most n order numbers
pub record IsBounded (n : ℕ) (h : Host) (w : Work) : Type 0 where
  pub packets : length (packets_in w.told) ≤ most_packets
  pub up : h.order ≤ w.host.order
  pub order : w.host.order ≤ h.order + n

-- ---- order numbers

-- that of a row at a client, also of the request that it sends
abbrev pub client_order : ClientRow → Option ℕ
client_order r = Some r.order

-- that of a row at a server
abbrev pub server_order : ServerRow → Option ℕ
server_order row = Some row.order

-- that of the response that arrives at a client
abbrev pub response_order : ClientRow → Option ℕ
response_order r = option_map (λ (p : Incoming). p.order) r.part

-- that of the message that arrives in a state
abbrev pub arriving_in : State → Option ℕ
arriving_in (Receiving service part base count) = Some part.order
arriving_in state = None

-- that of the request that arrives at a server
abbrev pub request_order : ServerRow → Option ℕ
request_order row = arriving_in row.state

-- that of the message that is sent in a state
abbrev pub leaving_in : State → Option ℕ
leaving_in (Replying response out order base count) = Some order
leaving_in state = None

-- that of the response that a server sends
abbrev pub reply_order : ServerRow → Option ℕ
reply_order row = leaving_in row.state

-- a number of the row at a place, if it has one
abbrev pub number_at : (ClientRow → Option ℕ) → (ServerRow → Option ℕ) → Host → Place → Option ℕ
number_at of_client of_server h (OfClient id) = option_and_then of_client (get h.clients id)
number_at of_client of_server h (OfServer id) = option_and_then of_server (get h.servers id)

-- no two places have the same number, and all numbers are below n
pub record AreOwn (n : ℕ) (number : Place → Option ℕ) : Type 0 where
  pub differ : (p q : Place) (x : ℕ) → number p ≡ Some x → number q ≡ Some x → p ≡ q
  pub below : (p : Place) (x : ℕ) → number p ≡ Some x → x < n

-- the orders of a host's rows differ, and so do those of the messages that arrive at it, and of those that it sends
pub record HasOwnOrders (h : Host) : Type 0 where
  pub rows : AreOwn h.order (number_at client_order server_order h)
  pub arriving : AreOwn h.order (number_at response_order request_order h)
  pub leaving : AreOwn h.order (number_at client_order reply_order h)

-- ---- a turn, row by row

-- a row acts, if there is one
abbrev pub first_acts : Settings → Option Timer → Work → Work
first_acts s None w = w
first_acts s (Some t) w = acts_at s t.place w

-- n times the first row that is due then acts, where one is due
unfoldable pub picked_anew : Settings → ℕ → Work → Work
picked_anew s zero w = w
picked_anew s (suc n) w = picked_anew s n (first_acts s (first_of (due timer_key (now_of w) (timers s w.host))) w)
