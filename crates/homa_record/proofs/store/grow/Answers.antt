use Rattle.std.proofs.Common.{◌≡◌, ◌≤◌, ◌<◌, ◌⊎◌, inl, inr, ℕ, List, length, get_or, sym, ◌∙◌, arith, rules}
use Rattle.std.proofs.lemmas.List.{get_or_past}
use Rattle.homa_record.proofs.store.grow.Goals as goal

-- a list of numbers that is filled up with 0 is the same at each place
filled : (old new : List ℕ) (n : ℕ) → length old < n → length new ≡ n → ((k d : ℕ) → k < n → k < length old → get_or new k d ≡ get_or old k d)
    → ((k d : ℕ) → length old ≤ k → k < n → get_or new k d ≡ 0)
    → (b : ℕ) → get_or new b 0 ≡ get_or old b 0
filled old new n few len same more b = elim (below b (length old)) [
  | inl h ↦ same b 0 (omega (arith, h, few)) h
  | inr h ↦ by_end h (below b n)
] where
  below : (i m : ℕ) → (i < m) ⊎ (m ≤ i)
  below i m = grind arith

  by_end : length old ≤ b → (b < n) ⊎ (n ≤ b) → get_or new b 0 ≡ get_or old b 0
  by_end h (inl l) = more b 0 h l ∙ sym (get_or_past old b 0 h)
  by_end h (inr l) = get_or_past new b 0 (omega (arith, len, l)) ∙ sym (get_or_past old b 0 h)

pub returns-in_ok-resize-clause-same : goal.returns-in_ok-resize-clause-same
returns-in_ok-resize-clause-same c =
    let old = c.args.heads.now in
    let len : old.len ≡ length old.items = search rules in
    let new : c.resize.new.self.len ≡ length c.resize.new.self.items = search rules in
    let e = c.in_ok-resize.ensures in
    filled old.items c.resize.new.self.items 65521 (omega (arith, len, c.if-len-lt-BUCKETS.true, c.len.ensures)) (omega (arith, new, e.len))
    (λ k d l h. e.by_index.0 k d l (omega (arith, len, h))) (λ k d h l. e.by_index.1 k d (search rules) (omega (arith, len, h)) l)
