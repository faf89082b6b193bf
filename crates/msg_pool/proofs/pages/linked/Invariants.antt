use Rattle.std.proofs.Common.{◌≡◌, ℕ, ◌+◌, ◌<◌, vec_len, slice_index}
use Rattle.msg_pool.proofs.pages.linked.Given as goal

abbrev pub invariant-loop-page : goal.invariant-loop-page
invariant-loop-page l = record {
  len : vec_len l.next ≡ l.page;
  linked : (k : ℕ) → k < l.page → slice_index l.next.items k ≡ k + 1;
}
