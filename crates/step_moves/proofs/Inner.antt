-- Lines one after the other, and lines within a step.
use Rattle.std.proofs.Common.{◌≡◌, ℕ, suc, ◌+◌, List, [], ◌∷◌, ◌++◌, length, ap, ◌∙◌, arith}
use Rattle.homa_plain.specs.Entries.{PlainEntry, PlainSettings, PlainCall, PlainDeliver, PlainClock, PlainRestart, PlainInject, PlainShift}
use Rattle.homa_plain.specs.Entries.{PlainSend, PlainRecv, PlainFinished, PlainRefused, PlainStalled}
use Rattle.homa_plain.specs.Packets.{send_line}
use Rattle.homa_plain.specs.Host.{Told, Says, Sends, packets_in, entries_from}

pub entries_from-append : (n : ℕ) (a b : List Told) → entries_from n (a ++ b) ≡ entries_from n a ++ entries_from (n + length (packets_in a)) b
entries_from-append n [] b = ap (λ m. entries_from m b) (let e : n ≡ n + 0 = omega arith in e)
entries_from-append n (Says entry ∷ a) b = ap (λ es. entry ∷ es) (entries_from-append n a b)
entries_from-append n (Sends packet ∷ a) b =
    ap (λ es. send_line n packet ∷ es)
    (entries_from-append (suc n) a b ∙ ap (λ m. entries_from (suc n) a ++ entries_from m b)
    (let e : suc n + length (packets_in a) ≡ n + suc (length (packets_in a)) = omega arith in e))

-- ---- lines within a step: none of an event, and no first or last line

abbrev pub IsInner : PlainEntry → Type 0
IsInner (PlainSettings settings) = ⊥
IsInner (PlainCall id server service bytes) = ⊥
IsInner (PlainDeliver packet) = ⊥
IsInner (PlainClock tick) = ⊥
IsInner (PlainRestart host inc) = ⊥
IsInner (PlainInject host bytes) = ⊥
IsInner (PlainShift host n) = ⊥
IsInner (PlainRecv host from bytes) = ⊥
IsInner (PlainFinished n) = ⊥
IsInner (PlainRefused line fault) = ⊥
IsInner (PlainStalled turns now) = ⊥
IsInner line = Unit {0}

-- a line that a host says: a `send` line comes of a packet
abbrev pub IsSaid : PlainEntry → Type 0
IsSaid (PlainSend number from to inc role id level what payload) = ⊥
IsSaid line = IsInner line

abbrev pub AllInner : List Told → Type 0
AllInner [] = Unit {0}
AllInner (Says entry ∷ told) = IsSaid entry × AllInner told
AllInner (Sends packet ∷ told) = AllInner told

pub inner-append : (a b : List Told) → AllInner a → AllInner b → AllInner (a ++ b)
inner-append [] b x y = y
inner-append (Says entry ∷ a) b x y = (x.0, inner-append a b x.1 y)
inner-append (Sends packet ∷ a) b x y = inner-append a b x y

pub said_inner : (entry : PlainEntry) → IsSaid entry → IsInner entry
said_inner (PlainSend number from to inc role id level what payload) said = tt
said_inner line said = said
