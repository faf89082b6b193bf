use Rattle.std.proofs.Common.{ℕ, ◌∙◌, refl, sym, ap, subst, arith}
use Rattle.std.specs.Prelude.{is_some}
use Rattle.check_lines.specs.Traces.{IsPlaceIn}
use Rattle.check_lines.proofs.Places.{place_found, place_none, call_at_place, some_call}
use Rattle.check_lines.proofs.trace.Trace.find.Goals as goal

pub returns-in_err-at-clause-none : goal.returns-in_err-at-clause-none
returns-in_err-at-clause-none c =
    let none =
    place_none _ c.args.self.now.ids.keys c.args.self.now.calls.items c.args.id (λ k. refl) (sym c.index_of.ensures ∙ c.in_err-at.was) in
    rw c.from_residual.ensures none

pub returns-then-at-len-clause-some : goal.returns-then-at-len-clause-some
returns-then-at-len-clause-some c =
    let ks = c.args.self.now.ids.keys in
    let cs = c.args.self.now.calls.items in
    let f = place_found _ ks cs c.args.id c.in_ok-at.at (λ k. refl) (sym c.index_of.ensures ∙ c.in_ok-at.was) in
    let place : IsPlaceIn ks cs c.args.id c.in_ok-at.at =
    subst (λ (n : ℕ). IsPlaceIn ks cs c.args.id n) (sym (f.at ∙ omega arith)) (f.place (omega (arith, f.at, c.if-at-len.true, c.len.ensures))) in
    (place, call_at_place ks cs c.args.id c.in_ok-at.at place)

pub returns-else-at-len-clause-none : goal.returns-else-at-len-clause-none
returns-else-at-len-clause-none c =
    let ks = c.args.self.now.ids.keys in
    let cs = c.args.self.now.calls.items in
    let f = place_found _ ks cs c.args.id c.in_ok-at.at (λ k. refl) (sym c.index_of.ensures ∙ c.in_ok-at.was) in
    f.beyond (omega (arith, f.at, c.if-at-len.false, c.len.ensures))

pub returns-in_err-at-clause-found : goal.returns-in_err-at-clause-found
returns-in_err-at-clause-found c =
    ap is_some c.from_residual.ensures
    ∙ sym (ap is_some
    (place_none _ c.args.self.now.ids.keys c.args.self.now.calls.items c.args.id (λ k. refl) (sym c.index_of.ensures ∙ c.in_err-at.was)))

pub returns-then-at-len-clause-found : goal.returns-then-at-len-clause-found
returns-then-at-len-clause-found c =
    let ks = c.args.self.now.ids.keys in
    let cs = c.args.self.now.calls.items in
    let f = place_found _ ks cs c.args.id c.in_ok-at.at (λ k. refl) (sym c.index_of.ensures ∙ c.in_ok-at.was) in
    sym (some_call ks cs c.args.id f.n (f.place (omega (arith, f.at, c.if-at-len.true, c.len.ensures))))

pub returns-else-at-len-clause-found : goal.returns-else-at-len-clause-found
returns-else-at-len-clause-found c =
    let ks = c.args.self.now.ids.keys in
    let cs = c.args.self.now.calls.items in
    let f = place_found _ ks cs c.args.id c.in_ok-at.at (λ k. refl) (sym c.index_of.ensures ∙ c.in_ok-at.was) in
    sym (ap is_some (f.beyond (omega (arith, f.at, c.if-at-len.false, c.len.ensures))))
