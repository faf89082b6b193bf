-- A piece of the write is done, and what it doesn't touch stays.
use Rattle.std.proofs.Common.{arith, ◌≡◌, ◌≢◌, ℕ, ◌+◌, ◌<◌, ◌≤◌, length, slice_index}
use Rattle.std.proofs.lemmas.Grind.{common_steps}
use Rattle.msg_pool.specs.Pages.{pages_for, byte_at, page_at}
use Rattle.msg_pool.proofs.WriteLaws.{IsPiece, written, kept}
use Rattle.msg_pool.proofs.pages.write_chain.Goals as goal

pub loop-i-preserved : goal.loop-i-preserved
loop-i-preserved c =
    let page : ℕ → ℕ = page_at c.args.next.now c.args.first in
    let source : ℕ → ℕ = slice_index c.args.bytes.now in
    let order : c.max-from.result ≤ c.min-to.result = omega (arith, c.max-from.ensures, c.min-to.ensures) in
    let piece : IsPiece page source (byte_at c.loop-i.block) (byte_at c.put_piece.new.self) c.loop-i.page c.loop-i.i c.args.offset
    (c.args.offset + length c.args.bytes.now) c.max-from.result c.min-to.result =
    record {
      is_here = c.loop-i.invariant.page;
      is_from = c.max-from.ensures;
      is_to = c.min-to.ensures;
      order = order;
      put = λ k h. grind (arith, common_steps, c.put_piece.ensures.put k);
      before = c.put_piece.ensures.before;
      behind = λ k h. c.put_piece.ensures.behind k (grind (arith, common_steps));
      others = c.put_piece.ensures.others;
    } in
    let below : c.loop-i.i < pages_for (c.args.offset + length c.args.bytes.now) = grind (arith, c.loop-i-test.true, c.div_ceil-i-end.ensures) in
    let apart : (j : ℕ) → j < c.loop-i.i → page j ≢ page c.loop-i.i = λ j l e.
    let s : j ≡ c.loop-i.i = c.requires.apart j c.loop-i.i (omega arith) below e in
    absurd (omega arith) in
    record {
      page = grind (arith, common_steps, c.loop-i.invariant.page);
      len = grind (arith, common_steps);
      written = written page source (byte_at c.args.block.now) _ _ _ _ _ _ _ _ piece apart c.loop-i.invariant.written;
      kept = kept page source (byte_at c.args.block.now) _ _ _ _ _ _ _ _ piece c.loop-i.invariant.kept;
    }
