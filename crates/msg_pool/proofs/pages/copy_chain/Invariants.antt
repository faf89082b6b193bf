use Rattle.std.proofs.Common.{◌≡◌, ℕ, ◌+◌, ◌*◌, ◌<◌, length, slice_index}
use Rattle.msg_pool.specs.Pages.{page_at, byte_at}
use Rattle.msg_pool.proofs.pages.copy_chain.Given as goal

abbrev pub invariant-loop-i : goal.invariant-loop-i
invariant-loop-i l = record {
  page : l.page ≡ page_at l.next l.first l.i;
  copied : (i k : ℕ) → i < l.i → k < 4096 → i * 4096 + k < length l.out → slice_index l.out (i * 4096 + k) ≡ byte_at l.block (page_at l.next l.first i) k;
}
