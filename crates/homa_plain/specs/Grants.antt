-- GRANTs: to how many messages (overcommitment), to which, at which priority, up to where. `Steps` gives them.
use Rattle.std.specs.Prelude.{◌≡◌, ◌<◌, true, Some, slice_get, Contains, ℕ, suc, ◌+◌, ◌-◌, nat_lt, min, if◌then◌else◌, List, [], ◌∷◌}
use Rattle.std.specs.Prelude.{◌++◌, length, take}
use Rattle.plain_sets.specs.Ordered.{is_below, ordered, firsts}
use Rattle.plain_sets.specs.Maps.{len}
use Rattle.homa_plain.specs.declared.id.HostId.{HostId}
use Rattle.homa_plain.specs.Incoming.{Incoming}

-- what the choice sees of an incoming message that isn't whole
pub record Message : Type 0 where
  pub peer : HostId  -- its sender
  pub length : ℕ  -- how many bytes it has
  pub arrived : ℕ  -- how many of them have arrived
  pub granted : ℕ  -- the granted end
  pub order : ℕ  -- messages that were opened earlier have lower numbers

-- what the choice sees of an incoming message
abbrev pub seen : Incoming → Message
seen p = record { peer = p.peer; length = p.length; arrived = len p.bytes; granted = p.granted; order = p.order }

-- the host that sends a message
abbrev pub sender : Message → ℕ
sender m = m.peer.0

-- the key by which messages are chosen: how many bytes are missing, and then the order
abbrev pub choice_key : Message → ℕ × ℕ
choice_key m = (m.length - m.arrived, m.order)

-- the end that is granted to a chosen message: `window` bytes beyond as many as have arrived, at most its length
-- Source: SIGCOMM 2018, "Flow control" (from memory).
abbrev pub new_end : ℕ → Message → ℕ
new_end window m = min m.length (m.arrived + window)

-- a GRANT to a message: bytes below the offset may be sent, at a priority
pub record Granted (X : Type 0) : Type 0 where
  pub to : X
  pub offset : ℕ
  pub prio : ℕ

-- of things in order of a key, the first k with different senders
-- That a sender has one of them is a rule of this project.
abbrev pub chosen_by : {X : Type 0} → (X → ℕ) → (X → ℕ × ℕ) → ℕ → List X → List X
chosen_by from key k xs = take k (firsts from (ordered key xs))

-- things of which each stands for an incoming message
module _ {X : Type 0} (message : X → Message) where
  -- the messages that are granted to: of all in the order of this key, the first k with different senders
  -- Source: SIGCOMM 2018, "Overcommitment" (from memory). One message for each sender is a rule of this project.
  abbrev pub chosen : ℕ → List X → List X
  chosen k xs = chosen_by (λ x. sender (message x)) (λ x. choice_key (message x)) k xs

  -- the GRANTs to n chosen messages, of which the first has rank r: one if its new end exceeds its granted end.
  -- Rank r gives priority n - 1 - r, so that the message with the fewest missing bytes has the highest.
  -- Source: SIGCOMM 2018, "Packet priorities" (from memory).
  abbrev pub grants_from : ℕ → ℕ → ℕ → List X → List (Granted X)
  grants_from window n r [] = []
  grants_from window n r (x ∷ xs) =
      (if nat_lt (message x).granted (new_end window (message x))
      then record { to = x; offset = new_end window (message x); prio = n - 1 - r } ∷ []
      else []) ++ grants_from window n (suc r) xs

  -- the GRANTs of a step, in order of rank
  abbrev pub grants : ℕ → ℕ → List X → List (Granted X)
  grants k window xs = let cs = chosen k xs in grants_from window (length cs) 0 cs

-- y comes before x
abbrev pub IsBefore : {X : Type 0} → (X → ℕ × ℕ) → X → X → Type 0
IsBefore key y x = is_below (key y) (key x) ≡ true

-- one of these things is of x's sender and comes before x
pub record HasAhead {X : Type 0} (from : X → ℕ) (key : X → ℕ × ℕ) (cs : List X) (x : X) : Type 0 where
  pub ahead : X
  pub listed : Contains cs ahead
  pub sender : from ahead ≡ from x
  pub before : IsBefore key ahead x

-- a GRANT is for a chosen message, up to its new end, which exceeds its granted end; its rank gives its priority
pub record IsGrant {X : Type 0} (message : X → Message) (window : ℕ) (cs : List X) (g : Granted X) : Type 0 where
  pub rank : ℕ
  pub chosen : slice_get cs rank ≡ Some g.to
  pub offset : g.offset ≡ new_end window (message g.to)
  pub more : (message g.to).granted < g.offset
  pub prio : g.prio ≡ length cs - 1 - rank
