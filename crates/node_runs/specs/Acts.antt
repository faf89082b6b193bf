-- What a net is asked and gives while a node runs, in order: the hosts that it binds and routes, the datagrams that it
-- sends, and what each receive gives.
use Rattle.std.specs.Prelude.{ℕ, zero, suc, Option, None, Some, List, [], ◌∷◌, ◌++◌}
use Rattle.homa_plain.specs.declared.id.HostId.{HostId}
use Rattle.homa_plain.specs.Entries.{PlainRecv, PlainSend}
use Rattle.homa_plain.specs.Script.{most_bytes}
use Rattle.node_runs.specs.Script.{Place, Local, Remote, Opening, Opened, Unopened, opening}
use Rattle.node_runs.specs.Course.{Report, Tells, Turning, Datagram, Receive, Run, most_received}

-- a call of a net that didn't fail
pub data Act : Type 0 where
  Bound : (host : HostId) (port : ℕ) → Act
  Routed : (host : HostId) (port : ℕ) → Act
  Sent : (datagram : Datagram) → Act
  Received : (receive : Receive) → Act

-- the datagrams that were sent
abbrev pub sents : List Act → List Datagram
sents [] = []
sents (Sent d ∷ acts) = d ∷ sents acts
sents (act ∷ acts) = sents acts

-- what the receives of these calls gave
abbrev pub gives : List Act → List Receive
gives [] = []
gives (Received r ∷ acts) = r ∷ gives acts
gives (act ∷ acts) = gives acts

-- ---- before the first line

-- the local hosts among these are bound, of which the first has number n
abbrev pub binds : ℕ → List Place → List Act
binds n [] = []
binds n (Local inc port ∷ places) = Bound (record { 0 = n }) port ∷ binds (suc n) places
binds n (Remote port ∷ places) = binds (suc n) places

-- the hosts elsewhere are routed
abbrev pub routes : ℕ → List Place → List Act
routes n [] = []
routes n (Local inc port ∷ places) = routes (suc n) places
routes n (Remote port ∷ places) = Routed (record { 0 = n }) port ∷ routes (suc n) places

-- the local hosts are bound, and then the others are routed, in order of their numbers
abbrev pub connects : List Place → List Act
connects places = binds 0 places ++ routes 0 places

-- a script that isn't opened binds and routes nothing
abbrev pub opened_acts : Opening → List Act
opened_acts (Unopened refusal) = []
opened_acts (Opened setup calls) = connects setup.places

-- ---- while these reports are made

-- one receive less
abbrev pub one_less : ℕ → ℕ
one_less zero = zero
one_less (suc n) = n

-- before its turn a host's last receive gives nothing, unless the host has had all its receives
abbrev pub last_receive : ℕ → HostId → List Act
last_receive zero host = []
last_receive (suc n) host = Received (record { host = host; got = None }) ∷ []

-- What arrives and is sent while these reports are made. A datagram arrives where it is reported, and each packet
-- leaves where it is reported as sent, so that the frames of a step leave right after that step.
-- `left` is how many receives the host still has whose turn comes next, and `sent` is what is still to be sent.
abbrev pub acts_by : ℕ → List Report → List Datagram → List Act
acts_by left [] sent = []
acts_by left (Turning host ∷ reports) sent = last_receive left host ++ acts_by most_received reports sent
acts_by left (Tells (PlainRecv host from bytes) ∷ reports) sent =
    Received (record { host = host; got = Some (record { from = from; bytes = bytes }) }) ∷ acts_by (one_less left) reports sent
acts_by left (Tells (PlainSend number from to inc role id level body payload) ∷ reports) [] = acts_by left reports []
acts_by left (Tells (PlainSend number from to inc role id level body payload) ∷ reports) (d ∷ sent) = Sent d ∷ acts_by left reports sent
acts_by left (Tells entry ∷ reports) sent = acts_by left reports sent

-- what a net is asked and gives in this run of a script
unfoldable pub node_acts : List ℕ → Run → List Act
node_acts bytes run = opened_acts (opening most_bytes bytes) ++ acts_by most_received run.reports run.sent
