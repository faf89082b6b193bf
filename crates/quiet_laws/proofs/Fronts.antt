-- An incoming message of which a front has arrived.
use Rattle.std.proofs.Common.{◌≡◌, ℕ, suc, ◌+◌, false, List, [], ◌∷◌, length, refl, sym, ap, ◌∙◌, arith}
use Rattle.std.specs.Prelude.{nat_lt, ◌==◌, min}
use Rattle.std.proofs.lemmas.Bool.{le-ltb}
use Rattle.plain_sets.specs.Ranges.{is_between}
use Rattle.plain_sets.specs.Maps as maps
use Rattle.plain_sets.specs.Maps.{Map, empty, len, key_set, retain}
use Rattle.plain_sets.specs.Numbers.{with_range, gaps}
use Rattle.plain_sets.proofs.NumberLaws.{with_range-again, with_range-nothing}
use Rattle.plain_sets.proofs.MoreCounts.{gaps-one_range}
use Rattle.plain_sets.proofs.CountLaws.{len-set_of_range}
use Rattle.plain_sets.proofs.KeySets.{len-key_set, key_set-insert_all}
use Rattle.homa_plain.specs.declared.id.HostId.{HostId}
use Rattle.homa_plain.specs.Incoming.{Incoming, opened, with_bytes, first_known, leaves_too_many_gaps, is_whole, granted_to}
use Rattle.quiet_laws.specs.Hosts.{HasFront}

pub length-first_known : (known : _) (a : ℕ) (xs : List ℕ) → length (first_known known a xs) ≡ length xs
length-first_known known a [] = refl
length-first_known known a (x ∷ xs) = ap suc (length-first_known known (suc a) xs)

-- nothing has arrived of one that was just opened
pub front_opened : (peer : HostId) (n order unsched : ℕ) → HasFront n 0 (min n unsched) (opened peer n order unsched)
unfolding key_set empty maps.checked
front_opened peer n order unsched = record { length = refl; granted = refl; keys = sym (with_range-nothing empty 0 0 (omega arith)) }

module _ (n here given : ℕ) (p : Incoming) (f : HasFront n here given p) where
  pub front_len : len p.bytes ≡ here
  front_len = sym (len-key_set p.bytes) ∙ ap len f.keys ∙ len-set_of_range 0 here ∙ omega arith

  -- the next piece makes the front longer
  pub front_more : (piece : List ℕ) → HasFront n (here + length piece) given (with_bytes p here piece)
  front_more piece =
      let known : _ = retain p.bytes (is_between here (here + length piece)) in
      record {
        length = f.length;
        granted = f.granted;
        keys = key_set-insert_all p.bytes here (first_known known here piece)
            ∙ ap (λ l. with_range (key_set p.bytes) here (here + l)) (length-first_known known here piece)
            ∙ ap (λ t. with_range t here (here + length piece)) f.keys
            ∙ with_range-again empty 0 here (here + length piece) (omega arith) (omega arith);
      }

  -- it never has many gaps
  pub front_few : nat_lt 64 (length (gaps (key_set p.bytes) p.length)) ≡ false
  front_few = le-ltb 64 _ (rw f.keys (omega (arith, gaps-one_range 0 here p.length)))

  pub front_whole : is_whole p ≡ (here == n)
  front_whole = ap (λ x. x == p.length) front_len ∙ ap (λ x. here == x) f.length

  pub front_granted : (offset : ℕ) → HasFront n here offset (granted_to p offset)
  front_granted offset = record { length = f.length; granted = refl; keys = f.keys }

pub front_gaps : (n here given : ℕ) (p : Incoming) (f : HasFront n here given p) (piece : List ℕ) → leaves_too_many_gaps p here piece ≡ false
front_gaps n here given p f piece = front_few n (here + length piece) given (with_bytes p here piece) (front_more n here given p f piece)
