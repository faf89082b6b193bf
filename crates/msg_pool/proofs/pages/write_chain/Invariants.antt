use Rattle.std.proofs.Common.{◌≡◌, ◌≢◌, ℕ, ◌+◌, ◌-◌, ◌*◌, ◌<◌, ◌≤◌, length, slice_index}
use Rattle.msg_pool.specs.Pages.{page_at, byte_at}
use Rattle.msg_pool.proofs.pages.write_chain.Given as goal

abbrev pub invariant-loop-i : goal.invariant-loop-i
invariant-loop-i l = record {
  page : l.page ≡ page_at l.next l.first l.i;
  len : length l.block ≡ length l.initial.block;
  written : (i k : ℕ) → i < l.i → k < 4096 → l.offset ≤ i * 4096 + k → i * 4096 + k < l.end
      → byte_at l.block (page_at l.next l.first i) k ≡ slice_index l.bytes (i * 4096 + k - l.offset);
  kept : (q k : ℕ) → k < 4096 → ((i : ℕ) → i < l.i → l.offset ≤ i * 4096 + k → i * 4096 + k < l.end → q ≢ page_at l.next l.first i)
      → byte_at l.block q k ≡ byte_at l.initial.block q k;
}
