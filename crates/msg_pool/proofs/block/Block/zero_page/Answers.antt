-- No byte of the page counts.
use Rattle.std.proofs.Common.{arith, List, ℕ, ◌+◌, ◌*◌, ◌/◌, ◌%◌, length, sym, ap, ◌∙◌, ◌≡◌, slice_index}
use Rattle.std.specs.Prelude.{nat_lt, if◌then◌else◌}
use Rattle.msg_pool.specs.Stored.{bytes_in}
use Rattle.msg_pool.proofs.StoredLaws.{byte-past, get-bytes_in, length-bytes_in, page_of, same_byte}
use Rattle.msg_pool.proofs.block.Block.zero_page.Goals as goal

pub invariant_of-self : goal.invariant_of-self
invariant_of-self c =
    let kept = c.self.invariant in
    let len : length c.end_at_first.new.ends.items ≡ length c.self.inside.ends.items =
    omega (arith, c.end_at_first.new.ends.ok.0, c.end_at_first.ensures.len, c.self.inside.ends.ok.0) in
    record {
      whole = omega (arith, len, kept.whole);
      within = omega (arith, len, kept.within);
      room = kept.room;
      room_of_ends = omega (arith, kept.room_of_ends, c.end_at_first.ensures.capacity);
    }

pub returns-clause-len : goal.returns-clause-len
returns-clause-len c =
    let block = c.self.inside in
    let view : length (bytes_in block.stored.items block.ends.items (block.pages * 4096)) ≡ length c.args.self.now = ap length c.self.view_is in
    length-bytes_in block.stored.items c.end_at_first.new.ends.items (block.pages * 4096)
    ∙ (sym (length-bytes_in block.stored.items block.ends.items (block.pages * 4096)) ∙ view)

pub returns-clause-zeros : goal.returns-clause-zeros
returns-clause-zeros c k h =
    let block = c.self.inside in
    let ends = c.end_at_first.new.ends.items in
    let whole = length-bytes_in block.stored.items block.ends.items (block.pages * 4096) in
    let view : length (bytes_in block.stored.items block.ends.items (block.pages * 4096)) ≡ length c.args.self.now = ap length c.self.view_is in
    let here = ap (slice_index ends) (page_of c.args.page k h) ∙ c.end_at_first.ensures.none in
    get-bytes_in block.stored.items ends (block.pages * 4096) (c.args.page * 4096 + k) (omega (arith, c.requires, whole, view))
    ∙ byte-past block.stored.items ends (c.args.page * 4096 + k) (omega (arith, here))

pub returns-clause-others : goal.returns-clause-others
returns-clause-others c q k h ne =
    let block = c.self.inside in
    let i = q * 4096 + k in
    let there = c.end_at_first.ensures.others (i / 4096) (λ e. ne (sym (page_of q k h) ∙ e)) in
    same_byte block.stored.items block.ends.items block.stored.items c.end_at_first.new.ends.items (block.pages * 4096) i
    (λ j. if nat_lt (i % 4096) (there j) then slice_index block.stored.items i else 0)
    ∙ ap (λ (b : List ℕ). slice_index b i) c.self.view_is
