-- The bytes that count are copied, and zeros follow them.
use Rattle.std.proofs.Common.{arith, List, ℕ, ◌+◌, ◌*◌, inl, inr, length, min, sym, ap, ◌∙◌, ◌≡◌, slice_index}
use Rattle.std.proofs.lemmas.Bool.{cases_lt}
use Rattle.msg_pool.proofs.StoredLaws.{byte-below, byte-past, byte_seen, page_of}
use Rattle.msg_pool.proofs.block.Block.copy_piece.Goals as goal

pub copy_stored-requires : goal.copy_stored-requires
copy_stored-requires c =
    let kept = c.self.invariant in
    let ends_len = ap length c.deref.ensures.value in
    let stored_len = ap length c.deref-2.ensures.value in
    record {
      page = λ h. let l = c.counted-counted.ensures.stored h in omega (arith, l, ends_len, stored_len, kept.whole);
      fits = omega (arith, c.count_from-count.ensures, c.counted-counted.ensures.counted, c.requires.from);
      within = omega (arith, c.count_from-count.ensures, c.counted-counted.ensures.counted);
    }

pub zero_part-requires : goal.zero_part-requires
zero_part-requires c = record {
  order = omega (arith, c.counted-counted.ensures.counted);
  within = omega (arith, c.count_from-count.ensures, c.requires.from, c.copy_stored.ensures.len);
}

pub returns-clause-copied : goal.returns-clause-copied
returns-clause-copied c k h l =
    let block = c.self.inside in
    let ends = block.ends.items in
    let i = c.args.page * 4096 + k in
    let there = byte_seen block.stored.items ends c.args.self.now block.pages c.args.page k c.self.view_is c.requires.page h in
    let here = ap (slice_index ends) (page_of c.args.page k h) in
    let some : c.counted-counted.result ≡ min c.count_from-count.result (slice_index ends c.args.page) =
    c.counted-counted.ensures.counted ∙ ap (λ (es : List ℕ). min c.count_from-count.result (slice_index es c.args.page)) c.deref.ensures.value in
    elim (cases_lt k c.counted-counted.result) [
      | inl few ↦
          c.zero_part.ensures.before (c.args.from + k) (omega arith)
          ∙ (c.copy_stored.ensures.copied k few
          ∙ (ap (λ (b : List ℕ). slice_index b i) c.deref-2.ensures.value
          ∙ sym (there ∙ byte-below block.stored.items ends i (omega (arith, here, some)))))
      | inr past ↦
          c.zero_part.ensures.zeros (c.args.from + k) (omega arith) (omega (arith, c.count_from-count.ensures))
          ∙ sym (there ∙ byte-past block.stored.items ends i (omega (arith, here, some, c.count_from-count.ensures)))
    ]

pub returns-clause-before : goal.returns-clause-before
returns-clause-before c k h = c.zero_part.ensures.before k (omega arith) ∙ c.copy_stored.ensures.before k h
