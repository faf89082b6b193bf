-- The page that was found last.
use Rattle.std.specs.Prelude.{◌≡◌, ℕ, List}
use Rattle.msg_pool.specs.declared.pages.Near.{Near}
use Rattle.msg_pool.specs.Pages.{page_at}

-- the page is so many steps after the first one of its chain
abbrev pub IsNear : List ℕ → Near → Type 0
IsNear next near = page_at next near.first near.steps ≡ near.page
