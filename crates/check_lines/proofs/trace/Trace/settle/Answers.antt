use Rattle.std.proofs.Common.{◌≡◌, ◌∙◌, arith, refl, sym, ap, subst, Some}
use Rattle.std.specs.Prelude.{slice_get}
use Rattle.std.proofs.Math.ListN.{length-set}
use Rattle.std.proofs.lemmas.Option.{slice_get-get_or}
use Rattle.check_call.specs.declared.call.Lives.{Lives}
use Rattle.check_call.specs.Calls.{spot_in, IsSettled}
use Rattle.check_lines.specs.Traces.{call_at, lives_in}
use Rattle.check_lines.proofs.Places.{place_within, call_at_place, place_stays}
use Rattle.check_lines.proofs.TakeLaws.{settled_call, replaced_keeps, here_now}
use Rattle.check_lines.proofs.trace.Trace.settle.Goals as goal

pub index-requires : goal.index-requires
index-requires c = omega (arith, place_within c.args.self.now.ids.keys c.args.self.now.calls.items c.args.id c.args.at c.requires, c.args.self.now.calls.ok)

pub index_mut-requires : goal.index_mut-requires
index_mut-requires c = omega (arith, place_within c.args.self.now.ids.keys c.args.self.now.calls.items c.args.id c.args.at c.requires, c.args.self.now.calls.ok)

pub returns-clause-kept : goal.returns-clause-kept
returns-clause-kept c v keeps =
    let t = c.args.self.now in
    let id = c.args.id in
    let x = c.index_mut.result.now in
    let y = c.index.result.now in
    let within = place_within t.ids.keys t.calls.items id c.args.at c.requires in
    let here : call_at t id ≡ Some x = call_at_place t.ids.keys t.calls.items id c.args.at c.requires
    ∙ (slice_get-get_or t.calls.items c.args.at x within ∙ ap (λ z. Some z) (sym c.index_mut.ensures.value)) in
    let seen : slice_get t.calls.items c.args.at ≡ Some y = slice_get-get_or t.calls.items c.args.at y within ∙ ap (λ z. Some z) (sym c.index.ensures) in
    let there : slice_get t.calls.items c.args.at ≡ Some x =
    slice_get-get_or t.calls.items c.args.at x within ∙ ap (λ z. Some z) (sym c.index_mut.ensures.value) in
    let same : y ≡ x = cc in
    let lives : c.lives-lives.result ≡ lives_in t id x.server = c.lives-lives.ensures ∙ ap (λ z. lives_in t id z.server) same in
    let e = c.in_ok-settle.ensures in
    replaced_keeps v t _ id c.args.at c.settle.new.self keeps c.requires
    (settled_call v t id x c.settle.new.self c.lives-lives.result keeps here lives e.rest e.spot) refl refl
    (length-set t.calls.items c.args.at c.settle.new.self)

pub returns-clause-settled : goal.returns-clause-settled
returns-clause-settled c =
    let t = c.args.self.now in
    let id = c.args.id in
    let d = c.settle.new.self in
    let x = c.index_mut.result.now in
    let y = c.index.result.now in
    let within = place_within t.ids.keys t.calls.items id c.args.at c.requires in
    let seen : slice_get t.calls.items c.args.at ≡ Some y = slice_get-get_or t.calls.items c.args.at y within ∙ ap (λ z. Some z) (sym c.index.ensures) in
    let there : slice_get t.calls.items c.args.at ≡ Some x =
    slice_get-get_or t.calls.items c.args.at x within ∙ ap (λ z. Some z) (sym c.index_mut.ensures.value) in
    let same : y ≡ x = cc in
    let e = c.in_ok-settle.ensures in
    let lives : c.lives-lives.result ≡ lives_in t id d.server =
    c.lives-lives.ensures ∙ (ap (λ z. lives_in t id z.server) same ∙ ap (λ z. lives_in t id z.server) (sym e.rest)) in
    rw (here_now t id c.args.at d c.requires) (subst (λ (l : Lives). IsSettled c.args.role (spot_in d l)) lives e.settled)

pub returns-clause-place : goal.returns-clause-place
returns-clause-place c = place_stays c.args.self.now.ids.keys c.args.self.now.calls.items c.args.id c.args.at c.args.at c.settle.new.self c.requires
