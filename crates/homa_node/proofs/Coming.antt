-- What is known of the calls that are still to be made, and how many steps were done.
use Rattle.std.proofs.Common.{◌≡◌, ◌≢◌, ◌≤◌, ◌<◌, ◌+◌, ℕ, suc, arith, Option, Some, List, [], ◌∷◌, length, refl, sym, subst}
use Rattle.std.specs.Prelude.{map}
use Rattle.std.specs.List.{AllByRecursion}
use Rattle.homa_plain.specs.declared.id.HostId.{HostId}
use Rattle.node_runs.specs.Course.{locals_from}
use Rattle.node_script.specs.declared.setup.Setup.{Setup}
use Rattle.node_script.specs.declared.timed.TimedCall.{TimedCall}
use Rattle.node_script.specs.declared.place.Place.{Place}
use Rattle.node_script.specs.declared.place.Place.TheVariants as place
use Rattle.node_script.specs.Setup.{place_seen}
use Rattle.node_script.specs.Standing.{Standing}
use Rattle.homa_node.specs.declared.ahead.NextCall.{NextCall}
use Rattle.homa_node.specs.declared.ahead.NextCall.TheVariants.{Unread, Call, Ended}
use Rattle.homa_node.specs.Coming.{IsLooked, IsOpenAt, IsIdle, IsAllRead, HasRoom, lines_ahead}

pub looked_of : (a : NextCall) → a ≢ Unread → IsLooked a
looked_of Unread h = h refl
looked_of (Call c) h = tt
looked_of Ended h = tt

-- more steps were done, as many as may be
pub room_on : (most more steps steps2 : ℕ) (a : NextCall) (r : Standing) → HasRoom most steps a r → steps2 ≤ steps + more → HasRoom (most + more) steps2 a r
room_on most more steps steps2 Unread r h l = omega (arith, h, l)
room_on most more steps steps2 (Call c) r h l = omega (arith, h, l)
room_on most more steps steps2 Ended r h l = omega (arith, h, l)

pub room_wide : (most more steps : ℕ) (a : NextCall) (r : Standing) → HasRoom most steps a r → most ≤ more → HasRoom more steps a r
room_wide most more steps Unread r h l = omega (arith, h, l)
room_wide most more steps (Call c) r h l = omega (arith, h, l)
room_wide most more steps Ended r h l = omega (arith, h, l)

-- how many steps were done at most
pub room_most : (s : Setup) (most steps : ℕ) (a : NextCall) (r : Standing) → HasRoom most steps a r → IsOpenAt s a r → steps ≤ most + r.place.limit
room_most s most steps Unread r h o = omega (arith, h, o.within)
room_most s most steps (Call c) r h o = omega (arith, h, o.counted.within)
room_most s most steps Ended r h o = h

-- where no call is due at the end, there is none, and the input was read
pub read_to_end : (s : Setup) (a : NextCall) (r : Standing) (now : ℕ) (left : Option (List ℕ)) → IsOpenAt s a r → IsIdle a now → s.end ≤ now → IsAllRead a left
    → left ≡ Some []
read_to_end s Unread r now left o idle l all = absurd idle
read_to_end s (Call c) r now left o idle l all = absurd (omega (arith, o.early, idle, l))
read_to_end s Ended r now left o idle l all = all

-- the local hosts are hosts, and no more than there are
pub locals_there : (n : ℕ) (places : List Place) (hosts : ℕ) → n + length places ≤ hosts
    → AllByRecursion (λ (h : HostId). h.0 < hosts) (locals_from n (map place_seen places))
locals_there n [] hosts l = tt
locals_there n (place.Local inc port ∷ places) hosts l = (omega (arith, l), locals_there (suc n) places hosts (omega (arith, l)))
locals_there n (place.Remote port ∷ places) hosts l = locals_there (suc n) places hosts (omega (arith, l))

pub locals_few : (n : ℕ) (places : List Place) → length (locals_from n (map place_seen places)) ≤ length places
locals_few n [] = omega arith
locals_few n (place.Local inc port ∷ places) = omega (arith, locals_few (suc n) places)
locals_few n (place.Remote port ∷ places) = omega (arith, locals_few (suc n) places)

-- a line with a call was read
pub room_call : (a : NextCall) (c : TimedCall) (r t : Standing) → a ≡ Unread → r.place.read + 2 ≤ t.place.read → (most steps : ℕ) → HasRoom most steps a r
    → HasRoom most steps (Call c) t
room_call a c r t e l most steps h = let k : HasRoom most steps Unread r = subst (λ x. HasRoom most steps x r) e h in omega (arith, k, l)

pub lines_call : (a : NextCall) (c : TimedCall) (r t : Standing) → a ≡ Unread → r.place.read + 2 ≤ t.place.read → t.place.read ≤ t.place.limit
    → t.place.limit ≡ r.place.limit → lines_ahead (Call c) t < lines_ahead a r
lines_call a c r t e l m same = subst (λ x. lines_ahead (Call c) t < lines_ahead x r) (sym e) (omega (arith, l, m, same))

-- the input ended
pub room_end : (s : Setup) (a : NextCall) (r t : Standing) → a ≡ Unread → IsOpenAt s a r → t.place.limit ≡ r.place.limit → (most steps : ℕ)
    → HasRoom most steps a r → HasRoom most steps Ended t
room_end s a r t e o same most steps h =
    let k : HasRoom most steps Unread r = subst (λ x. HasRoom most steps x r) e h in
    let p : IsOpenAt s Unread r = subst (λ x. IsOpenAt s x r) e o in
    omega (arith, k, p.within, same)

pub lines_end : (a : NextCall) (r t : Standing) → a ≡ Unread → lines_ahead Ended t < lines_ahead a r
lines_end a r t e = subst (λ x. lines_ahead Ended t < lines_ahead x r) (sym e) (omega arith)

-- the next call was taken and started
pub room_taken : (a b : NextCall) (c : TimedCall) (r : Standing) (most steps steps2 : ℕ) → a ≡ Call c → b ≡ Unread → steps2 ≤ steps + 1
    → HasRoom most steps a r → HasRoom most steps2 b r
room_taken a b c r most steps steps2 e f l h =
    let k : HasRoom most steps (Call c) r = subst (λ x. HasRoom most steps x r) e h in
    subst (λ x. HasRoom most steps2 x r) (sym f) (omega (arith, k, l))
