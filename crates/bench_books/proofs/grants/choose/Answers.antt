use Rattle.std.proofs.Common.{ℕ, List, Option, IsSome, IfSome, ap, sym, subst, ◌∙◌}
use Rattle.std.specs.List.{slice_get}
use Rattle.homa_grants.specs.Entries.{entry_of}
use Rattle.bench_books.proofs.Fills.{chosen_found}
use Rattle.bench_books.proofs.grants.choose.Goals as goal

pub returns : goal.returns
returns c =
    let is = c.copied.ensures ∙ c.first.ensures.value ∙ ap (λ (s : List ℕ). slice_get s 0) (c.as_slice.ensures.value ∙ c.choose.ensures.chosen) in
    subst (λ (o : Option ℕ). IfSome o (λ slot. IsSome (entry_of slot c.args.book.now.entries))) (sym is)
    (chosen_found c.args.book.now.most c.args.book.now.entries)
