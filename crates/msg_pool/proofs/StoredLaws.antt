-- The bytes of a block, of which some pages are stored up to an end.
use Rattle.std.proofs.Common.{◌≡◌, ◌≢◌, ℕ, zero, suc, ◌+◌, ◌*◌, ◌/◌, ◌%◌, ◌<◌, ◌≤◌, max, List, [], ◌∷◌, ◌++◌, length, refl, sym, ap, ◌∙◌, arith, slice_index}
use Rattle.std.proofs.Common.{replicate, inl, inr, ◌⊎◌}
use Rattle.std.specs.Prelude.{nat_lt, if◌then◌else◌}
use Rattle.std.proofs.lemmas.Bool.{cases_lt, cases_eq}
use Rattle.std.proofs.lemmas.Bool.Decides.{nat_tests}
use Rattle.msg_pool.specs.Pages.{values_from}
use Rattle.msg_pool.specs.Stored.{byte_of, bytes_in}
use Rattle.msg_pool.proofs.BytesLaws.{zero-replicate, length-values, get-values}

-- zeros behind a list change no number
pub get-padded : (stored : List ℕ) (n k : ℕ) → slice_index (stored ++ replicate n 0) k ≡ slice_index stored k
get-padded [] n k = zero-replicate n k
get-padded (x ∷ stored) n zero = refl
get-padded (x ∷ stored) n (suc k) = get-padded stored n k

-- no number stands behind the last one
pub get-behind : (xs : List ℕ) (i : ℕ) → length xs ≤ i → slice_index xs i ≡ 0
get-behind [] i h = refl
get-behind (x ∷ xs) zero h = absurd (omega arith)
get-behind (x ∷ xs) (suc i) h = get-behind xs i (omega arith)

-- a byte below the end of its page
pub byte-below : (stored ends : List ℕ) (i : ℕ) → i % 4096 < slice_index ends (i / 4096) → byte_of stored ends i ≡ slice_index stored i
byte-below stored ends i h = grind (arith, nat_tests)

-- a byte from there on
pub byte-past : (stored ends : List ℕ) (i : ℕ) → slice_index ends (i / 4096) ≤ i % 4096 → byte_of stored ends i ≡ 0
byte-past stored ends i h = grind (arith, nat_tests)

-- the block has as many bytes as were asked for
pub length-bytes_in : (stored ends : List ℕ) (len : ℕ) → length (bytes_in stored ends len) ≡ len
unfolding bytes_in
length-bytes_in stored ends len = length-values _ 0 len

-- a byte of the block
pub get-bytes_in : (stored ends : List ℕ) (len i : ℕ) → i < len → slice_index (bytes_in stored ends len) i ≡ byte_of stored ends i
unfolding bytes_in
get-bytes_in stored ends len i h = get-values (byte_of stored ends) 0 len i h ∙ ap (byte_of stored ends) (omega arith)

-- blocks with the same byte
pub same_byte : (stored ends stored' ends' : List ℕ) (len i : ℕ) → byte_of stored' ends' i ≡ byte_of stored ends i
    → slice_index (bytes_in stored' ends' len) i ≡ slice_index (bytes_in stored ends len) i
same_byte stored ends stored' ends' len i e =
    elim (cases_lt i len) [
      | inl h ↦ get-bytes_in stored' ends' len i h ∙ e ∙ sym (get-bytes_in stored ends len i h)
      | inr h ↦ get-behind (bytes_in stored' ends' len) i (omega (arith, length-bytes_in stored' ends' len))
          ∙ sym (get-behind (bytes_in stored ends len) i (omega (arith, length-bytes_in stored ends len)))
    ]

all_zero : (f : ℕ → ℕ) → ((i : ℕ) → f i ≡ 0) → (at count : ℕ) → values_from f at count ≡ replicate count 0
all_zero f none at zero = refl
all_zero f none at (suc count) = λ i. none at i ∷ all_zero f none (suc at) count i

-- a block of which no page is stored
pub none_stored : (len : ℕ) → bytes_in [] [] len ≡ replicate len 0
unfolding bytes_in
none_stored len = all_zero (byte_of [] []) (λ i. byte-past [] [] i (omega arith)) 0 len

-- where a byte is
pub page_of : (page k : ℕ) → k < 4096 → (page * 4096 + k) / 4096 ≡ page
page_of page k h = omega arith

pub place_in : (page k : ℕ) → k < 4096 → (page * 4096 + k) % 4096 ≡ k
place_in page k h = omega arith

-- what was written to a page: first zeros from its end to the piece, then the piece, and where its bytes end then
pub record IsWritten (old gap now ends ends' piece : List ℕ) (page place upto : ℕ) : Type 0 where
  pub fits : place + length piece ≤ 4096
  pub at_first : slice_index ends page ≡ upto
  pub at_last : slice_index ends' page ≡ max upto (place + length piece)
  pub elsewhere : (q : ℕ) → q ≢ page → slice_index ends' q ≡ slice_index ends q
  pub zeros : (k : ℕ) → upto ≤ k → k < place → slice_index gap (page * 4096 + k) ≡ 0
  pub below : (i : ℕ) → i < page * 4096 + upto → slice_index gap i ≡ slice_index old i
  pub behind : (i : ℕ) → page * 4096 + place ≤ i → slice_index gap i ≡ slice_index old i
  pub put : (k : ℕ) → k < length piece → slice_index now (page * 4096 + place + k) ≡ slice_index piece k
  pub before : (i : ℕ) → i < page * 4096 + place → slice_index now i ≡ slice_index gap i
  pub after : (i : ℕ) → page * 4096 + place + length piece ≤ i → slice_index now i ≡ slice_index gap i

module _ (old gap now ends ends' piece : List ℕ) (page place upto : ℕ) (w : IsWritten old gap now ends ends' piece page place upto) where
  -- a byte of the piece
  pub piece_written : (k : ℕ) → k < length piece → byte_of now ends' (page * 4096 + (place + k)) ≡ slice_index piece k
  piece_written k h =
      let f = w.fits in
      let e = w.at_last in
      let p = page_of page (place + k) (omega arith) in
      let at = ap (slice_index ends') p in
      byte-below now ends' (page * 4096 + (place + k)) (omega arith) ∙ (ap (slice_index now) (omega arith) ∙ w.put k h)

  -- a byte of another page
  elsewhere : (i : ℕ) → i / 4096 ≢ page → slice_index now i ≡ slice_index old i
  elsewhere i ne =
      let f = w.fits in
      elim (cases_lt i (page * 4096)) [
        | inl l ↦ w.before i (omega arith) ∙ w.below i (omega arith)
        | inr h ↦ w.after i (omega arith) ∙ w.behind i (omega arith)
      ]

  -- a byte of this page below its end
  stays_below : (i : ℕ) → i / 4096 ≡ page → i % 4096 < upto → (i < page * 4096 + place) ⊎ (page * 4096 + place + length piece ≤ i)
      → slice_index now i ≡ slice_index old i
  stays_below i e l (inl low) = w.before i low ∙ w.below i (omega arith)
  stays_below i e l (inr high) = w.after i high ∙ w.behind i (omega arith)

  -- a byte of this page that was zero
  stays_zero : (i : ℕ) → i / 4096 ≡ page → upto ≤ i % 4096 → (i < page * 4096 + place) ⊎ (page * 4096 + place + length piece ≤ i) → byte_of now ends' i ≡ 0
  stays_zero i e g (inl low) =
      let at = ap (slice_index ends') e in
      let e' = w.at_last in
      byte-below now ends' i (omega arith)
      ∙ (w.before i low ∙ (ap (slice_index gap) (omega arith) ∙ w.zeros (i % 4096) g (omega arith)))
  stays_zero i e g (inr high) =
      let at = ap (slice_index ends') e in
      let e' = w.at_last in
      byte-past now ends' i (omega arith)

  -- each other byte
  pub rest_stays : (i : ℕ) → (i < page * 4096 + place) ⊎ (page * 4096 + place + length piece ≤ i) → byte_of now ends' i ≡ byte_of old ends i
  rest_stays i out =
      elim (cases_eq (i / 4096) page) [
        | inl e ↦ elim (cases_lt (i % 4096) upto) [
          | inl l ↦
              let at = ap (slice_index ends') e in
              let at_old = ap (slice_index ends) e in
              let e' = w.at_last in
              let was = w.at_first in
              byte-below now ends' i (omega arith) ∙ (stays_below i e l out ∙ sym (byte-below old ends i (omega arith)))
          | inr g ↦
              let at_old = ap (slice_index ends) e in
              let was = w.at_first in
              stays_zero i e g out ∙ sym (byte-past old ends i (omega arith))
        ]
        | inr ne ↦ λ j. if nat_lt (i % 4096) (w.elsewhere (i / 4096) ne j) then elsewhere i ne j else 0
      ]

-- numbers alike, bytes alike
pub alike : (stored ends stored' ends' : List ℕ) → ((i : ℕ) → slice_index stored' i ≡ slice_index stored i)
    → ((q : ℕ) → slice_index ends' q ≡ slice_index ends q) → (i : ℕ) → byte_of stored' ends' i ≡ byte_of stored ends i
alike stored ends stored' ends' s e i = λ j. if nat_lt (i % 4096) (e (i / 4096) j) then s i j else 0

-- a byte of what is seen of a block
pub byte_seen : (stored ends seen : List ℕ) (pages page k : ℕ) → bytes_in stored ends (pages * 4096) ≡ seen → page * 4096 + 4096 ≤ length seen → k < 4096
    → slice_index seen (page * 4096 + k) ≡ byte_of stored ends (page * 4096 + k)
byte_seen stored ends seen pages page k view fits h =
    let whole = length-bytes_in stored ends (pages * 4096) in
    let same = ap length view in
    sym (ap (λ (b : List ℕ). slice_index b (page * 4096 + k)) view)
    ∙ get-bytes_in stored ends (pages * 4096) (page * 4096 + k) (omega (arith, fits, whole, same))
