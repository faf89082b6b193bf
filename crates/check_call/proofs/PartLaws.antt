-- What changes of a kept part do to the part that it stands for.
use Rattle.std.proofs.Common.{◌≡◌, ℕ, ◌+◌, ◌<◌, ◌≤◌, min, max, arith, Bool, true, false, not, ◌&&◌, ◌||◌, refl, sym, ap, ◌∙◌}
use Rattle.std.specs.Prelude.{if◌then◌else◌, ◌==◌, nat_lt, nat_le}
use Rattle.std.proofs.lemmas.Bool.Decides.{nat_tests}
use Rattle.std.proofs.lemmas.Bool.{eq-eqb}
use Rattle.plain_sets.specs.Maps.{empty, len}
use Rattle.plain_sets.specs.Numbers.{Numbers, with_range}
use Rattle.plain_sets.proofs.NumberLaws.{with_range-nothing}
use Rattle.plain_sets.proofs.MapLaws.{len-empty}
use Rattle.homa_plain.specs.declared.id.HostId.{HostId}
use Rattle.homa_plain.specs.Calls.{is_host}
use Rattle.trace_rules.specs.Parts as plain
use Rattle.trace_rules.specs.Judge.{is_within_at}
use Rattle.check_call.specs.declared.part.Part.{Part}
use Rattle.check_call.specs.Kept.{arrived_of, part_of, IsCounted, IsPlain}

-- the numbers of a part that is plain are those of the set that it keeps
pub plain_arrived : (set : Numbers) (p : Part) → IsPlain p → arrived_of set p ≡ (if p.keeps then set else empty)
plain_arrived set p h = with_range-nothing (if p.keeps then set else empty) p.from p.to h

pub opened_part : (host peer : HostId) (set : Numbers) (length unsched granted : ℕ) → granted ≡ min length unsched
    → part_of host peer set (record { length = length; granted = granted; order = 0; count = 0; keeps = false; from = 0; to = 0 })
    ≡ plain.opened host peer length unsched
opened_part host peer set length unsched granted e =
    λ i. record { host = host; peer = peer; length = length; arrived = with_range-nothing empty 0 0 (omega arith) i; granted = e i; order = 0 }

pub opened_count : 0 ≡ len (with_range empty 0 0)
opened_count = sym (ap len (with_range-nothing empty 0 0 (omega arith)) ∙ len-empty _ _)

pub message_if : (host peer : HostId) (set : Numbers) (p : Part) → IsCounted set p → 0 < p.count
    → not (plain.is_whole (part_of host peer set p)) ≡ plain.is_message (part_of host peer set p)
message_if host peer set p e h = let t : nat_lt 0 (len (arrived_of set p)) ≡ true = grind (arith, nat_tests) in rw t refl

pub grown_part : (host peer : HostId) (set : Numbers) (p q : Part) (place a b : ℕ) → IsCounted set p → q.length ≡ p.length → q.granted ≡ p.granted
    → q.order ≡ (if p.count == 0 then place else p.order)
    → arrived_of set q ≡ with_range (arrived_of set p) a (min b p.length) → part_of host peer set q ≡ plain.grown place a b (part_of host peer set p)
grown_part host peer set p q place a b e l g o r =
    λ i. record { host = host; peer = peer; length = l i; arrived = r i; granted = g i; order = (o ∙ ap (λ (n : ℕ). if n == 0 then place else p.order) e) i }

-- no byte came
pub grown_nothing : (set : Numbers) (p : Part) (a b to : ℕ) → to ≡ min b p.length → to ≤ a → arrived_of set p ≡ with_range (arrived_of set p) a (min b p.length)
grown_nothing set p a b to e h = sym (with_range-nothing (arrived_of set p) a (min b p.length) (omega (arith, e, h)))

pub grown_more : (set : Numbers) (p : Part) (a b to : ℕ) → IsPlain p → to ≡ min b p.length
    → with_range (if p.keeps then set else empty) a to ≡ with_range (arrived_of set p) a (min b p.length)
grown_more set p a b to h e = ap (λ s. with_range s a to) (sym (plain_arrived set p h)) ∙ ap (λ (n : ℕ). with_range (arrived_of set p) a n) e

-- a GRANT between the two hosts
pub raised_part : (host peer : HostId) (set : Numbers) (p : Part) (offset granted : ℕ) → plain.is_message (part_of host peer set p) ≡ true
    → granted ≡ max p.granted offset
    → part_of host peer set (record p { granted = granted }) ≡ plain.raised host peer offset (part_of host peer set p)
raised_part host peer set p offset granted m g =
    (λ i. record (part_of host peer set p) { granted = g i })
    ∙ sym (ap (λ b. if b && is_host peer peer && plain.is_message (part_of host peer set p) then record (part_of host peer set p)
    { granted = max p.granted offset } else part_of host peer set p) (eq-eqb host.0 host.0 refl)
    ∙ ap (λ b. if b && plain.is_message (part_of host peer set p) then record (part_of host peer set p) { granted = max p.granted offset }
    else part_of host peer set p) (eq-eqb peer.0 peer.0 refl)
    ∙ ap (λ b. if b then record (part_of host peer set p) { granted = max p.granted offset } else part_of host peer set p) m)

pub not_raised : (host peer : HostId) (set : Numbers) (p : Part) (offset : ℕ) → plain.is_message (part_of host peer set p) ≡ false
    → part_of host peer set p ≡ plain.raised host peer offset (part_of host peer set p)
not_raised host peer set p offset m =
    sym (ap (λ b. if b && is_host peer peer && plain.is_message (part_of host peer set p) then record (part_of host peer set p)
    { granted = max p.granted offset } else part_of host peer set p) (eq-eqb host.0 host.0 refl)
    ∙ ap (λ b. if b && plain.is_message (part_of host peer set p) then record (part_of host peer set p) { granted = max p.granted offset }
    else part_of host peer set p) (eq-eqb peer.0 peer.0 refl)
    ∙ ap (λ b. if b then record (part_of host peer set p) { granted = max p.granted offset } else part_of host peer set p) m)

pub within_if : (window : ℕ) (p : plain.Part) (m : Bool) → m ≡ plain.is_message p → m ≡ false → not m ≡ is_within_at window p
within_if window p m e h = ap not h ∙ sym (ap (λ b. not b || nat_le p.granted (len p.arrived + window)) (sym e ∙ h))

pub within_else : (window : ℕ) (p : plain.Part) (m : Bool) (r : Bool) → m ≡ plain.is_message p → m ≡ true
    → r ≡ nat_le p.granted (len p.arrived + window) → r ≡ is_within_at window p
within_else window p m r e h l = l ∙ sym (ap (λ b. not b || nat_le p.granted (len p.arrived + window)) (sym e ∙ h))

-- bytes are put into the set
pub settled_part : (host peer : HostId) (old new : Numbers) (p : Part) → new ≡ arrived_of old p
    → part_of host peer new (record p { keeps = true; from = 0; to = 0 }) ≡ part_of host peer old p
settled_part host peer old new p e = λ i. record (part_of host peer old p) { arrived = (with_range-nothing new 0 0 (omega arith) ∙ e) i }

pub settled_count : (old new : Numbers) (p : Part) → new ≡ arrived_of old p → IsCounted old p → p.count ≡ len (with_range new 0 0)
settled_count old new p e h = h ∙ sym (ap len (with_range-nothing new 0 0 (omega arith) ∙ e))
