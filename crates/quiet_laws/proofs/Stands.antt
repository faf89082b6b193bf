-- How the two hosts stand while a message is in progress: one sends it, the other one gets it.
use Rattle.std.specs.Prelude.{◌≡◌, ◌⊎◌, ℕ, ◌+◌, ◌<◌, ◌≤◌, min, Option, None, Some, List, [], ◌++◌, map, length}
use Rattle.homa_plain.specs.declared.packet.Role.{Role}
use Rattle.homa_plain.specs.declared.packet.Role.TheVariants.{Client, Server}
use Rattle.homa_plain.specs.declared.settings.Settings.{Settings}
use Rattle.homa_plain.specs.Incoming.{Incoming}
use Rattle.homa_plain.specs.Packets.{Packet}
use Rattle.homa_plain.specs.Rows.{ServerRow, Receiving, Replying}
use Rattle.homa_plain.specs.Host.{Host, Sends, packets_in}
use Rattle.homa_plain.specs.Work.{Work}
use Rattle.quiet_laws.specs.Flows.{flows}
use Rattle.quiet_laws.specs.Hosts.{Bits, client_host, server_host, asking, HasFront, AreOurs}
use Rattle.quiet_laws.proofs.Outs.{out_at}
use Rattle.quiet_laws.proofs.Comes.{SeenSoFar}

-- the host's clock at its last step, when it was refilled last, its credit, and from when on its row's timer counts
pub record Times : Type 0 where
  pub last : ℕ
  pub refilled : ℕ
  pub credit : ℕ
  pub base : ℕ

-- the client sends its request
pub record SendsRequest (s : Settings) (n top may : ℕ) (t : Times) (h : Host) : Type 0 where
  pub bits : Bits
  pub request : List ℕ
  pub order : ℕ
  pub prio : ℕ
  pub heard : ℕ
  pub count : ℕ
  pub seen : ℕ
  pub size : length request ≡ n
  pub known : SeenSoFar seen None
  pub last : bits.last ≡ t.last
  pub refilled : bits.refilled ≡ t.refilled
  pub is : h ≡ client_host bits t.credit (asking request order (out_at n s.unsched top may prio) heard t.base count seen None)

-- the server sends its response
pub record SendsResponse (s : Settings) (n top may : ℕ) (t : Times) (h : Host) : Type 0 where
  pub bits : Bits
  pub response : List ℕ
  pub row_order : ℕ
  pub order : ℕ
  pub prio : ℕ
  pub count : ℕ
  pub size : length response ≡ n
  pub last : bits.last ≡ t.last
  pub refilled : bits.refilled ≡ t.refilled
  pub is : h ≡ server_host bits t.credit (Some (record { order = row_order; state = Replying response (out_at n s.unsched top may prio) order t.base count }))

-- what has arrived: nothing, and then there is no part; or a front
abbrev pub Got : Settings → ℕ → ℕ → ℕ → Option Incoming → Type 0
Got s n here given None = (here ≡ 0) × (given ≡ min n s.unsched)
Got s n here given (Some part) = HasFront n here given part

abbrev pub receiving_row : ℕ → ℕ → ℕ → Option Incoming → Option ServerRow
receiving_row order base count None = None
receiving_row order base count (Some part) = Some (record { order = order; state = Receiving 0 part base count })

-- the server gets the request
pub record GetsRequest (s : Settings) (n here given : ℕ) (t : Times) (h : Host) : Type 0 where
  pub bits : Bits
  pub row_order : ℕ
  pub count : ℕ
  pub part : Option Incoming
  pub got : Got s n here given part
  pub last : bits.last ≡ t.last
  pub refilled : bits.refilled ≡ t.refilled
  pub is : h ≡ server_host bits t.credit (receiving_row row_order t.base count part)

-- the client gets the response; its request was sent as a whole
pub record GetsResponse (s : Settings) (n here given : ℕ) (t : Times) (h : Host) : Type 0 where
  pub bits : Bits
  pub request : List ℕ
  pub order : ℕ
  pub prio : ℕ
  pub heard : ℕ
  pub count : ℕ
  pub seen : ℕ
  pub part : Option Incoming
  pub got : Got s n here given part
  pub known : SeenSoFar seen part
  pub last : bits.last ≡ t.last
  pub refilled : bits.refilled ≡ t.refilled
  pub is : h ≡ client_host bits t.credit
      (asking request order (out_at (length request) s.unsched (length request) (length request) prio) heard t.base count seen part)

-- by the role of the message's sender
abbrev pub IsSender : Role → Settings → (n top may : ℕ) → Times → Host → Type 0
IsSender Client = SendsRequest
IsSender Server = SendsResponse

abbrev pub IsReceiver : Role → Settings → (n here given : ℕ) → Times → Host → Type 0
IsReceiver Client = GetsRequest
IsReceiver Server = GetsResponse

-- what a step's end does at the sender: it sends pieces
pub record SenderEnded (role : Role) (s : Settings) (n top may : ℕ) (t : Times) (w v : Work) : Type 0 where
  pub end : ℕ
  pub times : Times
  pub sent : List Packet
  pub host : IsSender role s n end may times v.host
  pub told : v.told ≡ w.told ++ map Sends sent
  pub up : top ≤ end
  pub within : end ≤ may
  pub flow : (given : ℕ) → flows n role top given sent end given
  pub ours : AreOurs s t.last sent
  pub last : times.last ≡ t.last
  pub refilled : times.refilled ≡ t.refilled
  pub later : (times.base ≡ t.base) ⊎ (times.base ≡ t.last)
  pub anew : top < end → times.base ≡ t.last
  pub goes : packets_in w.told ≡ [] → s.seg ≤ t.credit → top < may → top < end

-- and at the receiver: it grants
pub record ReceiverEnded (role : Role) (s : Settings) (n here given : ℕ) (t : Times) (w v : Work) : Type 0 where
  pub now_given : ℕ
  pub times : Times
  pub sent : List Packet
  pub host : IsReceiver role s n here now_given times v.host
  pub told : v.told ≡ w.told ++ map Sends sent
  pub up : given ≤ now_given
  pub within : now_given ≤ n
  pub ahead : 0 < here → min n (here + s.window) ≤ now_given
  pub flow : (top : ℕ) → flows n role top given sent top now_given
  pub ours : AreOurs s t.last sent
  pub last : times.last ≡ t.last
  pub refilled : times.refilled ≡ t.refilled
  pub credit : times.credit ≡ t.credit
  pub later : (times.base ≡ t.base) ⊎ (times.base ≡ t.last)
  pub anew : given < now_given → times.base ≡ t.last
