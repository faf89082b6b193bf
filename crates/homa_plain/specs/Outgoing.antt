-- An outgoing message: which of its bytes wait to be sent, how far it is granted, and how far it was sent. Bytes without a grant:
-- `opened` and `restart`, and for the receiver `Incoming.opened`.
use Rattle.std.specs.Prelude.{◌≡◌, ◌⊎◌, ◌<◌, ◌≤◌, true, false, ℕ, ◌+◌, ◌-◌, Bool, nat_lt, min, max, if◌then◌else◌, Option, Some, None, List, []}
use Rattle.std.specs.Prelude.{◌∷◌, length}
use Rattle.plain_sets.specs.Maps.{len}
use Rattle.plain_sets.specs.Ranges.{Range, range}
use Rattle.plain_sets.specs.Numbers.{Numbers, with_range, without_range, set_of_range, has, IsBelow, ranges}

-- an outgoing message
pub record Outgoing : Type 0 where
  pub length : ℕ  -- how many bytes it has
  pub waiting : Numbers  -- the bytes that wait to be sent, all below the granted end
  pub granted : ℕ  -- the granted end: bytes from this number on may not be sent yet
  pub top : ℕ  -- the greatest end of a range that was sent, 0 before the first
  pub prio : ℕ  -- the priority of its granted bytes
  pub unsched : ℕ  -- how many bytes need no grant

-- the bytes that need no grant wait, and no others
-- Source: SIGCOMM 2018, "Basic sender behavior" (from memory).
abbrev pub restart : Outgoing → Outgoing
restart p = let end = min p.length p.unsched in record p { waiting = set_of_range 0 end; granted = end }

-- a message of n bytes, of which nothing was sent
-- Source: SIGCOMM 2018, "Basic sender behavior" (from memory).
abbrev pub opened : ℕ → ℕ → Outgoing
opened n unsched = record { length = n; waiting = set_of_range 0 (min n unsched); granted = min n unsched; top = 0; prio = 0; unsched = unsched }

-- how many bytes lie above all that were sent; which message goes first depends on it
abbrev pub left : Outgoing → ℕ
left p = p.length - p.top

-- a grant up to a number that is at most the length
abbrev pub grant_up_to : Outgoing → ℕ → ℕ → Outgoing
grant_up_to p end prio =
    if nat_lt p.granted end
    then record p { waiting = with_range p.waiting p.granted end; granted = end; prio = prio }
    else p

-- a grant arrives: the bytes from the granted end to the offset wait too; a grant of no more changes nothing
-- Source: SIGCOMM 2018, "Flow control" (from memory).
abbrev pub grant : Outgoing → ℕ → ℕ → Outgoing
grant p offset prio = grant_up_to p (min offset p.length) prio

-- whether bytes wait
abbrev pub has_waiting : Outgoing → Bool
has_waiting p = nat_lt 0 (len p.waiting)

-- the first part of the first of some ranges, at most seg bytes of it
abbrev pub front_of : List Range → ℕ → Option Range
front_of [] seg = None
front_of (r ∷ rs) seg = Some (range r.from (min r.to (r.from + seg)))

-- the bytes to be sent next
abbrev pub next_range : Outgoing → ℕ → Option Range
next_range p seg = front_of (ranges p.waiting) seg

-- the message when bytes of it were sent
abbrev pub sent : Outgoing → Option Range → Outgoing
sent p None = p
sent p (Some r) = record p { waiting = without_range p.waiting r.from r.to; top = max p.top r.to }

-- the bytes that are sent next, and the message after it
pub record Next : Type 0 where
  pub range : Option Range
  pub part : Outgoing

-- takes the next bytes to be sent: the lowest ones that wait, at most seg in a row
-- A rule of this project.
abbrev pub next : Outgoing → ℕ → Next
next p seg = record { range = next_range p seg; part = sent p (next_range p seg) }

-- what holds of each outgoing message:
-- nothing waits from the granted end on, and at most 64 ranges wait, also after any grant
pub record IsSound (p : Outgoing) : Type 0 where
  pub below : IsBelow p.waiting p.granted
  pub within : p.granted ≤ p.length
  pub top : p.top ≤ p.length
  pub few : length (ranges p.waiting) ≤ 64
  pub room : (end : ℕ) → p.granted < end → length (ranges (with_range p.waiting p.granted end)) ≤ 64

-- r is the first part of the first waiting range: at most seg bytes, and fewer only if the range ends
pub record IsFront (p : Outgoing) (seg : ℕ) (r : Range) : Type 0 where
  pub some : r.from < r.to
  pub few : r.to ≤ r.from + seg
  pub granted : r.to ≤ p.granted
  pub lowest : (x : ℕ) → has p.waiting x ≡ true → r.from ≤ x
  pub wait : (x : ℕ) → r.from ≤ x → x < r.to → has p.waiting x ≡ true
  pub ends : (r.to ≡ r.from + seg) ⊎ (has p.waiting r.to ≡ false)

-- no byte waits
abbrev pub IsIdle : Outgoing → Type 0
IsIdle p = (x : ℕ) → has p.waiting x ≡ false

-- all bytes from a to b - 1 wait
abbrev pub AllWait : Outgoing → ℕ → ℕ → Type 0
AllWait p a b = (x : ℕ) → a ≤ x → x < b → has p.waiting x ≡ true
