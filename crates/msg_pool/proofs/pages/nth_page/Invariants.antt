use Rattle.std.proofs.Common.{◌≡◌}
use Rattle.msg_pool.specs.Pages.{page_at}
use Rattle.msg_pool.proofs.pages.nth_page.Given as goal

abbrev pub invariant-loop : goal.invariant-loop
invariant-loop l = l.page ≡ page_at l.next l.first l.counter
