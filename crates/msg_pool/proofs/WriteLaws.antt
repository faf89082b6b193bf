-- One piece of a write over a chain of pages.
use Rattle.std.proofs.Common.{◌≡◌, ◌≢◌, ℕ, ◌+◌, ◌-◌, ◌*◌, ◌<◌, ◌≤◌, min, max, inl, inr, sym, ap, ◌∙◌, arith, below_more}
use Rattle.std.proofs.lemmas.Bool.{cases_eq, cases_lt}

-- what was written by a piece: the bytes from `from` to `to` - 1 of the chain, all in its i-th page, `here`
pub record IsPiece (page source : ℕ → ℕ) (old now : ℕ → ℕ → ℕ) (here i offset end from to : ℕ) : Type 0 where
  pub is_here : here ≡ page i
  pub is_from : from ≡ max offset (i * 4096)
  pub is_to : to ≡ min end (i * 4096 + 4096)
  pub order : from ≤ to
  pub put : (k : ℕ) → k < to - from → now here (from - i * 4096 + k) ≡ source (from - offset + k)
  pub before : (k : ℕ) → k < from - i * 4096 → now here k ≡ old here k
  pub behind : (k : ℕ) → from - i * 4096 + (to - from) ≤ k → now here k ≡ old here k
  pub others : (q k : ℕ) → k < 4096 → q ≢ here → now q k ≡ old q k

module _ (page source : ℕ → ℕ) (first old now : ℕ → ℕ → ℕ) (here i offset end from to : ℕ) (piece : IsPiece page source old now here i offset end from to) where
  -- a byte of the piece
  in_piece : (k : ℕ) → k < 4096 → offset ≤ i * 4096 + k → i * 4096 + k < end → now (page i) k ≡ source (i * 4096 + k - offset)
  in_piece k h low high =
      let f = piece.is_from in
      let t = piece.is_to in
      let p : k ≡ from - i * 4096 + (k - (from - i * 4096)) = omega arith in
      let s : from - offset + (k - (from - i * 4096)) ≡ i * 4096 + k - offset = omega arith in
      let l : k - (from - i * 4096) < to - from = omega arith in
      ap (λ q. now q k) (sym piece.is_here) ∙ ap (now here) p ∙ piece.put (k - (from - i * 4096)) l ∙ ap source s

  -- what was written to earlier pages stays, and the piece is written
  pub written : ((j : ℕ) → j < i → page j ≢ page i)
      → ((j k : ℕ) → j < i → k < 4096 → offset ≤ j * 4096 + k → j * 4096 + k < end → old (page j) k ≡ source (j * 4096 + k - offset))
      → (j k : ℕ) → j < i + 1 → k < 4096 → offset ≤ j * 4096 + k → j * 4096 + k < end → now (page j) k ≡ source (j * 4096 + k - offset)
  written apart had j k h =
      let P : ℕ → Type 0 = λ j. k < 4096 → offset ≤ j * 4096 + k → j * 4096 + k < end → now (page j) k ≡ source (j * 4096 + k - offset) in
      below_more P i (λ j l small low high. piece.others (page j) k small (λ e. apart j l (e ∙ piece.is_here)) ∙ had j k l small low high) (in_piece k) j h

  -- a byte of the page that isn't in the piece stays
  around : (k : ℕ) → (offset ≤ i * 4096 + k → i * 4096 + k < end → here ≢ page i) → k < 4096 → now here k ≡ old here k
  around k out small =
      elim (cases_lt k (from - i * 4096)) [
        | inl l ↦ piece.before k l
        | inr low ↦ elim (cases_lt k (from - i * 4096 + (to - from))) [
          | inl l ↦
              let f = piece.is_from in
              let t = piece.is_to in
              absurd (out (omega arith) (omega arith) piece.is_here)
          | inr high ↦ piece.behind k high
        ]
      ]

  -- what isn't written stays
  pub kept : ((q k : ℕ) → k < 4096 → ((j : ℕ) → j < i → offset ≤ j * 4096 + k → j * 4096 + k < end → q ≢ page j) → old q k ≡ first q k)
      → (q k : ℕ) → k < 4096 → ((j : ℕ) → j < i + 1 → offset ≤ j * 4096 + k → j * 4096 + k < end → q ≢ page j) → now q k ≡ first q k
  kept had q k h out =
      let stays : old q k ≡ first q k = had q k h (λ j l. out j (omega arith)) in
      elim (cases_eq q here) [
        | inl e ↦ ap (λ q. now q k) e ∙ around k (λ low high f. out i (omega arith) low high (e ∙ f)) h ∙ ap (λ q. old q k) (sym e) ∙ stays
        | inr ne ↦ piece.others q k h ne ∙ stays
      ]
