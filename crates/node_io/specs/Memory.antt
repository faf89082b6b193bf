-- What a net in memory holds and has told.
use Rattle.std.specs.Prelude.{◌≡◌, ◌↔◌, ◌⊎◌, ◌+◌, ◌-◌, ◌^◌, ℕ, Bool, if◌then◌else◌, Option, Some, List, [], ◌∷◌, ◌++◌, map, min}
use Rattle.std.specs.Prelude.{Contains, Result, IsErr, OnOk, OnErr}
use Rattle.homa_plain.specs.declared.id.HostId.{HostId}
use Rattle.node_runs.specs.Course.{Datagram, Receive}
use Rattle.node_io.specs.declared.memory.MemNet.{MemNet}
use Rattle.node_runs.specs.Acts.{Act}
use Rattle.node_io.specs.Net.{datagram_of, sent_in, given_in}
use Rattle.node_io.specs.Hosts.{set_has}
use Rattle.node_io.specs.Given.{act_of}

-- the hosts that were bound
abbrev pub net_bound : MemNet → HostId → Bool
net_bound net host = set_has net.bound host

-- the hosts that were bound or routed
abbrev pub net_known : MemNet → HostId → Bool
net_known net host = set_has net.known host

-- the datagrams that are queued
abbrev pub net_queue : MemNet → List Datagram
net_queue net = map datagram_of net.queued.items

-- the same, as a net tells it
abbrev pub net_queued : MemNet → Option (List Datagram)
net_queued net = Some (net_queue net)

-- what is queued after a datagram was sent: it goes to a host that was bound
abbrev pub queue_with : MemNet → Datagram → List Datagram
queue_with net d = if net_bound net d.to then net_queue net ++ d ∷ [] else net_queue net

-- what it did
abbrev pub net_acts : MemNet → Option (List Act)
net_acts net = Some (map act_of net.acts.items)

-- the datagrams that it took
abbrev pub net_sent : MemNet → Option (List Datagram)
net_sent net = sent_in (net_acts net)

-- what its receives gave
abbrev pub net_gave : MemNet → Option (List Receive)
net_gave net = given_in (net_acts net)

-- how many faults it had
abbrev pub net_faults : MemNet → ℕ
net_faults net = net.calls.faults.0

-- the numbers of the calls that are to fail
abbrev pub net_fails : MemNet → List ℕ
net_fails net = net.calls.fails.items

-- the number of the next call
abbrev pub net_calls : MemNet → ℕ
net_calls net = net.calls.next

-- for how many sends it still has room
abbrev pub net_sends : MemNet → ℕ
net_sends net = net.sends

-- for how many receives it still has room
abbrev pub net_receives : MemNet → ℕ
net_receives net = net.receives

-- and for how many hosts that are bound or routed
abbrev pub net_places : MemNet → ℕ
net_places net = net.places

-- A call failed exactly where the plan has its number or this holds, for which it can't be done. The next call has the next number.
pub record IsPlanned {A E : Type 0} (r : Result A E) (old new : MemNet) (hindrance : Type 0) : Type 0 where
  pub planned : IsErr r ↔ (Contains (net_fails old) (net_calls old) ⊎ hindrance)
  pub numbered : net_calls new ≡ min (net_calls old + 1) (2 ^ 64 - 1)
  pub plan : net_fails new ≡ net_fails old

-- a call took room for one of its own kind, unless it failed, and none for the two other kinds
pub record TakesRoom {A E : Type 0} (own other third : MemNet → ℕ) (r : Result A E) (old new : MemNet) : Type 0 where
  pub taken : OnOk r (own new + 1 ≡ own old)
  pub err_taken : OnErr r (own new ≡ own old)
  pub same_other : other new ≡ other old
  pub same_third : third new ≡ third old
