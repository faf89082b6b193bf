-- The numbers of a command's words.
use Rattle.std.proofs.Common.{Bool, true, false, ◌≡◌, ◌≤◌, ◌&&◌, ℕ, Option, None, Some, List, [], ◌∷◌, codes, refl, subst, nat_le, if◌then◌else◌, arith}
use Rattle.std.proofs.lemmas.Bool.Decides.{nat_tests}
use Rattle.std.specs.Str.{bytes_eq}
use Rattle.homa_plain.specs.Bytes.{◌>>=◌}
use Rattle.homa_plain.specs.Entries.{PlainEntry}
use Rattle.homa_plain.specs.Numbers.{number_of}
use Rattle.generated_runs.specs.Rounds.{Generated}
use Rattle.generated_runs.specs.Generated.{generated_settings, schedule_text, summary_text}
use Rattle.homa_generate.specs.Made.{run_of}
use Rattle.homa_top.specs.declared.words.Command.{Command}
use Rattle.homa_top.specs.declared.words.Command.TheVariants.{Replay, Make, Gen, Node, Record, Check, Quiet}
use Rattle.homa_top.specs.declared.exit.ExitStatus.{ExitStatus}
use Rattle.homa_top.specs.Words.{within, number_within, numbered, command_of}
use Rattle.homa_top.specs.Commands.{HasMade}

-- ---- the lengths of a quiet call are within their bounds

abbrev IsSize : ℕ → Type 0
IsSize n = (1 ≤ n) × (n ≤ 1000000)

abbrev AreSizes : Option Command → Type 0
AreSizes None = Unit {0}
AreSizes (Some (Quiet n m)) = IsSize n × IsSize m
AreSizes (Some c) = Unit {0}

abbrev IsSmall : Option ℕ → Type 0
IsSmall None = Unit {0}
IsSmall (Some n) = IsSize n

within_small : (n : ℕ) (b : Bool) → b ≡ (nat_le 1 n && nat_le n 1000000) → IsSmall (if b then Some n else None)
within_small n true e = grind (arith, nat_tests, e)
within_small n false e = tt

number_small : (o : Option ℕ) → IsSmall (o >>= within 1000000)
number_small None = tt
number_small (Some n) = within_small n (nat_le 1 n && nat_le n 1000000) refl

second_sizes : (n : ℕ) (m : Option ℕ) → IsSize n → IsSmall m → AreSizes (m >>= λ m. Some (Quiet n m))
second_sizes n None a b = tt
second_sizes n (Some m) a b = (a, b)

both_sizes : (n m : Option ℕ) → IsSmall n → IsSmall m → AreSizes (n >>= λ n. m >>= λ m. Some (Quiet n m))
both_sizes None m a b = tt
both_sizes (Some n) m a b = second_sizes n m a b

-- of no other command lengths are asked
second_free : (make : ℕ → ℕ → Command) → ((n m : ℕ) → AreSizes (Some (make n m))) → (n : ℕ) (m : Option ℕ) → AreSizes (m >>= λ m. Some (make n m))
second_free make free n None = tt
second_free make free n (Some m) = free n m

both_free : (make : ℕ → ℕ → Command) → ((n m : ℕ) → AreSizes (Some (make n m))) → (n m : Option ℕ) → AreSizes (n >>= λ n. m >>= λ m. Some (make n m))
both_free make free None m = tt
both_free make free (Some n) m = second_free make free n m

by_test : (b : Bool) (x y : Option Command) → AreSizes x → AreSizes y → AreSizes (if b then x else y)
by_test true x y a b = a
by_test false x y a b = b

numbered_sizes : (word first second : List ℕ) → AreSizes (numbered word first second)
numbered_sizes word first second =
    by_test (bytes_eq word (codes "make")) _ _ (both_free Make (λ n m. tt) (number_of first) (number_within 100000 second))
    (by_test (bytes_eq word (codes "gen")) _ _ (both_free Gen (λ n m. tt) (number_of first) (number_within 100000 second))
    (by_test (bytes_eq word (codes "quiet")) _ _
    (both_sizes (number_within 1000000 first) (number_within 1000000 second) (number_small (number_of first)) (number_small (number_of second))) tt))

words_sizes : (words : List (List ℕ)) → AreSizes (command_of words)
words_sizes [] = tt
words_sizes (word ∷ []) =
    by_test (bytes_eq word (codes "replay")) (Some Replay) _ tt
    (by_test (bytes_eq word (codes "node")) (Some Node) _ tt
    (by_test (bytes_eq word (codes "record")) (Some Record) _ tt (by_test (bytes_eq word (codes "check")) (Some Check) None tt tt)))
words_sizes (word ∷ first ∷ []) = tt
words_sizes (word ∷ first ∷ second ∷ []) = numbered_sizes word first second
words_sizes (word ∷ first ∷ second ∷ third ∷ more) = tt

pub quiet_sizes : (words : List (List ℕ)) (n m : ℕ) → command_of words ≡ Some (Quiet n m) → IsSize n × IsSize m
quiet_sizes words n m is = subst AreSizes is (words_sizes words)

-- ---- a command has one seed and one number of calls

module _ (old new : Option (List ℕ)) (allowed : List PlainEntry → Type 0) where
  pub same_make : (seed calls n m boxes : ℕ) (status : ExitStatus) → Some (Make seed calls) ≡ Some (Make n m)
      → HasMade (run_of seed calls boxes) (schedule_text generated_settings) old new allowed status
      → HasMade (run_of n m boxes) (schedule_text generated_settings) old new allowed status
  same_make seed calls n m boxes status is made =
      subst (λ (x : ℕ × ℕ). HasMade (run_of x.0 x.1 boxes) (schedule_text generated_settings) old new allowed status) (pair is) made where
        pair : Some (Make seed calls) ≡ Some (Make n m) → ◌≡◌ {A = ℕ × ℕ} (seed, calls) (n, m)
        pair e = cc

  pub same_gen : (seed calls n m boxes : ℕ) (status : ExitStatus) → Some (Gen seed calls) ≡ Some (Gen n m)
      → HasMade (run_of seed calls boxes) (λ g. summary_text g.told) old new allowed status
      → HasMade (run_of n m boxes) (λ g. summary_text g.told) old new allowed status
  same_gen seed calls n m boxes status is made =
      subst (λ (x : ℕ × ℕ). HasMade (run_of x.0 x.1 boxes) (λ (g : Generated). summary_text g.told) old new allowed status) (pair is) made where
        pair : Some (Gen seed calls) ≡ Some (Gen n m) → ◌≡◌ {A = ℕ × ℕ} (seed, calls) (n, m)
        pair e = cc
