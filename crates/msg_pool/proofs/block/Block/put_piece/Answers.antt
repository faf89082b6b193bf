-- The page is stored, with the piece.
use Rattle.std.proofs.Common.{arith, List, ℕ, ◌+◌, ◌*◌, ◌<◌, ◌≤◌, ◌⊎◌, inl, inr, length, max, sym, ap, ◌∙◌, ◌≡◌, slice_index}
use Rattle.std.proofs.lemmas.Bool.{cases_lt}
use Rattle.std.proofs.lemmas.Grind.{get_or_default_zero}
use Rattle.msg_pool.specs.Stored.{bytes_in}
use Rattle.msg_pool.proofs.StoredLaws.{IsWritten, alike, get-bytes_in, length-bytes_in, piece_written, rest_stays, same_byte}
use Rattle.msg_pool.proofs.block.Block.put_piece.Goals as goal

pub store_page-requires : goal.store_page-requires
store_page-requires c =
    let block = c.self.inside in
    let kept = c.self.invariant in
    let whole = length-bytes_in block.stored.items block.ends.items (block.pages * 4096) in
    let view : length (bytes_in block.stored.items block.ends.items (block.pages * 4096)) ≡ length c.args.self.now = ap length c.self.view_is in
    record {
      room = omega (arith, c.requires.page, whole, view, kept.room);
      room_of_ends = omega (arith, c.requires.page, whole, view, kept.room_of_ends);
      whole = omega (arith, kept.whole, block.stored.ok.0, block.ends.ok.0);
    }

-- the page is one of the block
fits : (c : goal.After-raise_end) → c.args.page * 4096 + 4096 ≤ c.self.inside.pages * 4096
fits c =
    let block = c.self.inside in
    let whole = length-bytes_in block.stored.items block.ends.items (block.pages * 4096) in
    let view : length (bytes_in block.stored.items block.ends.items (block.pages * 4096)) ≡ length c.args.self.now = ap length c.self.view_is in
    omega (arith, c.requires.page, whole, view)

pub invariant_of-self : goal.invariant_of-self
invariant_of-self c =
    let block = c.self.inside in
    let kept = c.self.invariant in
    let ends = c.raise_end.new.ends in
    let stored = c.put_stored.new.stored in
    let stored_len = omega-len c in
    let ends_len : length ends.items ≡ max (length block.ends.items) (c.args.page + 1) =
    omega (arith, ends.ok.0, c.raise_end.ensures.len, c.store_page.ensures.len, block.ends.ok.0) in
    record {
      whole = stored_len;
      within = omega (arith, ends_len, kept.within, fits c);
      room = omega (arith, kept.room, c.put_stored.ensures.capacity, c.zero_gap.ensures.capacity, c.store_page.ensures.capacity);
      room_of_ends = omega (arith, kept.room_of_ends, c.raise_end.ensures.capacity, c.store_page.ensures.capacity_of_ends);
    }
  where
    omega-len : (c : goal.After-raise_end) → length c.put_stored.new.stored.items ≡ length c.raise_end.new.ends.items * 4096
    omega-len c =
        omega (
          arith,
          c.put_stored.new.stored.ok.0,
          c.put_stored.ensures.len,
          c.zero_gap.ensures.len,
          c.store_page.ensures.whole,
          c.raise_end.ensures.len,
          c.raise_end.new.ends.ok.0,
        )

-- what was written
written : (c : goal.After-raise_end)
    → IsWritten c.store_page.new.stored.items c.zero_gap.new.stored.items c.put_stored.new.stored.items c.store_page.new.ends.items
    c.raise_end.new.ends.items c.args.piece.now c.args.page c.args.place c.index.result.now
written c =
    let ends = c.store_page.new.ends in
    let within : c.args.page < length ends.items = omega (arith, ends.ok.0, c.store_page.ensures.len) in
    let at_first : slice_index ends.items c.args.page ≡ c.index.result.now =
    sym (c.index.ensures ∙ get_or_default_zero ends.items c.args.page c.index.result.now within) in
    record {
      fits = c.requires.fits;
      at_first = at_first;
      at_last = c.raise_end.ensures.end ∙ ap (λ n. max n (c.args.place + length c.args.piece.now)) at_first;
      elsewhere = c.raise_end.ensures.others;
      zeros = c.zero_gap.ensures.zeros;
      below = c.zero_gap.ensures.below;
      behind = c.zero_gap.ensures.behind;
      put = c.put_stored.ensures.put;
      before = c.put_stored.ensures.before;
      after = c.put_stored.ensures.after;
    }

-- each byte beside the piece stays
rest : (c : goal.After-raise_end) (i : ℕ)
    → (i < c.args.page * 4096 + c.args.place) ⊎ (c.args.page * 4096 + c.args.place + length c.args.piece.now ≤ i)
    → slice_index (bytes_in c.put_stored.new.stored.items c.raise_end.new.ends.items (c.self.inside.pages * 4096)) i
    ≡ slice_index c.args.self.now i
rest c i out =
    let block = c.self.inside in
    let stored = c.store_page.new.stored.items in
    let ends = c.store_page.new.ends.items in
    same_byte block.stored.items block.ends.items c.put_stored.new.stored.items c.raise_end.new.ends.items (block.pages * 4096) i
    (rest_stays stored c.zero_gap.new.stored.items c.put_stored.new.stored.items ends c.raise_end.new.ends.items c.args.piece.now c.args.page
    c.args.place c.index.result.now (written c) i out
    ∙ alike block.stored.items block.ends.items stored ends c.store_page.ensures.bytes c.store_page.ensures.ends i)
    ∙ ap (λ (b : List ℕ). slice_index b i) c.self.view_is

pub returns-clause-len : goal.returns-clause-len
returns-clause-len c =
    let block = c.self.inside in
    let view : length (bytes_in block.stored.items block.ends.items (block.pages * 4096)) ≡ length c.args.self.now = ap length c.self.view_is in
    length-bytes_in c.put_stored.new.stored.items c.raise_end.new.ends.items (block.pages * 4096)
    ∙ (sym (length-bytes_in block.stored.items block.ends.items (block.pages * 4096)) ∙ view)

pub returns-clause-put : goal.returns-clause-put
returns-clause-put c k h =
    get-bytes_in c.put_stored.new.stored.items c.raise_end.new.ends.items (c.self.inside.pages * 4096) (c.args.page * 4096 + (c.args.place + k))
    (omega (arith, fits c, c.requires.fits))
    ∙ piece_written c.store_page.new.stored.items c.zero_gap.new.stored.items c.put_stored.new.stored.items c.store_page.new.ends.items
    c.raise_end.new.ends.items c.args.piece.now c.args.page c.args.place c.index.result.now (written c) k h

pub returns-clause-before : goal.returns-clause-before
returns-clause-before c k h = rest c (c.args.page * 4096 + k) (inl (omega arith))

pub returns-clause-behind : goal.returns-clause-behind
returns-clause-behind c k h = rest c (c.args.page * 4096 + k) (inr (omega arith))

pub returns-clause-others : goal.returns-clause-others
returns-clause-others c q k h ne =
    elim (cases_lt q c.args.page) [
      | inl l ↦ rest c (q * 4096 + k) (inl (omega arith))
      | inr g ↦ rest c (q * 4096 + k) (inr (omega (arith, c.requires.fits)))
    ]
