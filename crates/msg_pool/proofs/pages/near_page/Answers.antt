-- A page behind the last one that was looked for is one of the same chain.
use Rattle.std.proofs.Common.{arith, ◌≡◌, ℕ, ◌+◌, ◌<◌, ◌≤◌, ◌-◌, List, length, sym, ap, subst, ◌∙◌}
use Rattle.msg_pool.specs.declared.pages.Near.{Near}
use Rattle.msg_pool.specs.Pages.{page_at}
use Rattle.msg_pool.specs.Near.{IsNear}
use Rattle.msg_pool.proofs.ChainLaws.{page_at-plus}
use Rattle.msg_pool.proofs.pages.near_page.Goals as goal

-- a page behind it
behind : (next : List ℕ) (near : Near) (first i : ℕ) → IsNear next near → near.first ≡ first → page_at next near.page i ≡ page_at next first (near.steps + i)
behind next near first i is same = ap (λ p. page_at next p i) (sym is ∙ ap (λ f. page_at next f near.steps) same) ∙ sym (page_at-plus next first near.steps i)

-- and the one that is looked for
there : (next : List ℕ) (near : Near) (first steps : ℕ) → IsNear next near → near.first ≡ first → near.steps ≤ steps
    → page_at next near.page (steps - near.steps) ≡ page_at next first steps
there next near first steps is same low = behind next near first (steps - near.steps) is same ∙ ap (page_at next first) (omega arith)

pub nth_page-page-requires : goal.nth_page-page-requires
nth_page-page-requires c =
    λ i h. subst (λ p. p < length c.args.next.now) (sym (behind c.args.next.now c.args.near.now c.args.first i c.requires.near c.if-near-first.true))
    (c.requires.chain (c.args.near.now.steps + i) (omega arith))

pub returns-then-near-steps-clause-page : goal.returns-then-near-steps-clause-page
returns-then-near-steps-clause-page c =
    c.nth_page-page.ensures ∙ there c.args.next.now c.args.near.now c.args.first c.args.steps c.requires.near c.if-near-first.true c.if-near-steps.true

pub returns-then-near-steps-clause-near : goal.returns-then-near-steps-clause-near
returns-then-near-steps-clause-near c = sym (returns-then-near-steps-clause-page c)
