use Rattle.std.proofs.Common.{◌≡◌, ◌≢◌, ℕ, ◌<◌, length}
use Rattle.msg_pool.specs.Pages.{page_at, byte_at}
use Rattle.msg_pool.proofs.pages.zero_chain.Given as goal

abbrev pub invariant-loop : goal.invariant-loop
invariant-loop l = record {
  page : l.page ≡ page_at l.next l.first l.counter;
  len : length l.block ≡ length l.initial.block;
  zeros : (i k : ℕ) → i < l.counter → k < 4096 → byte_at l.block (page_at l.next l.first i) k ≡ 0;
  kept : (q k : ℕ) → k < 4096 → ((i : ℕ) → i < l.counter → q ≢ page_at l.next l.first i) → byte_at l.block q k ≡ byte_at l.initial.block q k;
}
