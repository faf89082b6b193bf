-- Small facts of lists and of what a step tells.
use Rattle.std.proofs.Common.{◌≡◌, ℕ, suc, true, false, Some, List, [], ◌∷◌, ◌++◌, length, refl, ap}
use Rattle.std.specs.Prelude.{map}
use Rattle.std.specs.List.{slice_get}
use Rattle.homa_plain.specs.declared.id.CallId.{CallId}
use Rattle.homa_plain.specs.declared.id.HostId.{HostId}
use Rattle.homa_plain.specs.declared.packet.Role.{Role}
use Rattle.homa_plain.specs.declared.settings.Settings.{Settings}
use Rattle.homa_plain.specs.Entries.{PlainEntry, PlainBalance, PlainRun}
use Rattle.homa_plain.specs.Packets.{Packet}
use Rattle.homa_plain.specs.Host.{Told, Says, Sends, packets_in, entries_from}
use Rattle.homa_plain.specs.Steps.{has_run}
use Rattle.homa_plain.specs.Quiet.{has_done}
use Rattle.quiet_laws.specs.Hosts.{AreAside, IsBalance}

-- ---- small facts

pub at_end : {X : Type 0} (xs : List X) (x : X) (ys : List X) → slice_get (xs ++ x ∷ ys) (length xs) ≡ Some x
at_end [] x ys = refl
at_end (y ∷ xs) x ys = at_end xs x ys

pub packets_in-then : (told : List Told) (ps : List Packet) → packets_in (told ++ map Sends ps) ≡ packets_in told ++ ps
packets_in-then [] [] = refl
packets_in-then [] (p ∷ ps) = ap (λ x. p ∷ x) (packets_in-then [] ps)
packets_in-then (Says e ∷ told) ps = packets_in-then told ps
packets_in-then (Sends p ∷ told) ps = ap (λ x. p ∷ x) (packets_in-then told ps)

pub aside_quiet : (role : Role) (s : Settings) (now k : ℕ) (told : List Told) (ps : List Packet) → AreAside role s now told
    → has_done (entries_from k (told ++ map Sends ps)) ≡ false
aside_quiet role s now k [] [] a = refl
aside_quiet role s now k [] (p ∷ ps) a = aside_quiet role s now (suc k) [] ps a
aside_quiet role s now k (Sends p ∷ told) ps a = aside_quiet role s now (suc k) told ps a.3
aside_quiet role s now k (Says e ∷ told) ps a = by e a.0 (aside_quiet role s now k told ps a.1) where
  by : (e : PlainEntry) → IsBalance e → has_done (entries_from k (told ++ map Sends ps)) ≡ false → has_done (e ∷ entries_from k (told ++ map Sends ps)) ≡ false
  by (PlainBalance host cutoffs) i r = r
  by e i r = absurd i

-- no service was asked where only asides and pieces are told; one was where the request became whole
pub aside_no_run : (role : Role) (s : Settings) (now : ℕ) (told : List Told) (ps : List Packet) → AreAside role s now told
    → has_run (told ++ map Sends ps) ≡ false
aside_no_run role s now [] [] a = refl
aside_no_run role s now [] (p ∷ ps) a = aside_no_run role s now [] ps a
aside_no_run role s now (Sends p ∷ told) ps a = aside_no_run role s now told ps a.3
aside_no_run role s now (Says e ∷ told) ps a = by e a.0 (aside_no_run role s now told ps a.1) where
  by : (e : PlainEntry) → IsBalance e → has_run (told ++ map Sends ps) ≡ false → has_run (Says e ∷ told ++ map Sends ps) ≡ false
  by (PlainBalance host cutoffs) i r = r
  by e i r = absurd i

pub aside_run : (role : Role) (s : Settings) (now : ℕ) (told after : List Told) (host : HostId) (id : CallId) (service : ℕ)
    (request response : List ℕ) (hold : ℕ)
    → AreAside role s now told → has_run (told ++ Says (PlainRun host id service request response hold) ∷ after) ≡ true
aside_run role s now [] after host id service request response hold a = refl
aside_run role s now (Sends p ∷ told) after host id service request response hold a = aside_run role s now told after host id service request response hold a.3
aside_run role s now (Says e ∷ told) after host id service request response hold a =
    by e a.0 (aside_run role s now told after host id service request response hold a.1) where
      by : (e : PlainEntry) → IsBalance e → has_run (told ++ Says (PlainRun host id service request response hold) ∷ after) ≡ true
          → has_run (Says e ∷ told ++ Says (PlainRun host id service request response hold) ∷ after) ≡ true
      by (PlainBalance host cutoffs) i r = r
      by e i r = absurd i
