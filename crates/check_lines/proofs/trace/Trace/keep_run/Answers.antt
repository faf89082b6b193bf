use Rattle.std.proofs.Common.{◌≡◌, ◌∙◌, ◌∷◌, ℕ, List, Option, refl, sym, ap, Some}
use Rattle.std.specs.Prelude.{slice_get, unwrap_or}
use Rattle.std.proofs.lemmas.Option.{slice_get-get_or}
use Rattle.check_call.specs.declared.call.Call.{Call}
use Rattle.check_call.specs.declared.call.Run.{Run}
use Rattle.check_lines.specs.Traces.{call_at, kept_or}
use Rattle.check_lines.proofs.Places.{place_within, call_at_place}
use Rattle.check_lines.proofs.StartLaws.{set_call, run_keeps, run_here, run_sets}
use Rattle.check_lines.proofs.trace.Trace.keep_run.Goals as goal

pub returns-in_ok-insert-in-Some-clause-kept : goal.returns-in_ok-insert-in-Some-clause-kept
returns-in_ok-insert-in-Some-clause-kept c v keeps server =
    let t = c.args.self.now in
    let id = c.args.id in
    let at = c.in-Some.at in
    let place = c.in-Some.ensures.some.0 in
    let x = c.index_mut.result.now in
    let here : call_at t id ≡ Some x = call_at_place t.ids.keys t.calls.items id at place
    ∙ (slice_get-get_or t.calls.items at x (place_within t.ids.keys t.calls.items id at place) ∙ ap (λ z. Some z) (sym c.index_mut.ensures.value)) in
    let y = c.index.result.now in
    let within = place_within t.ids.keys t.calls.items id at place in
    let at_y : slice_get t.calls.items at ≡ Some y = slice_get-get_or t.calls.items at y within ∙ ap (λ z. Some z) (sym c.index.ensures) in
    let at_x : slice_get t.calls.items at ≡ Some x = slice_get-get_or t.calls.items at x within ∙ ap (λ z. Some z) (sym c.index_mut.ensures.value) in
    let same : x ≡ y = ap (λ (o : Option Call). unwrap_or o x) (sym at_x ∙ at_y) in
    let own = c.in_ok-response-in-Some.response in
    let kept : kept_or x.request.items own ≡ c.args.response.now =
    ap (λ (z : Call). kept_or z.request.items own) same
    ∙ (ap (λ (l : List ℕ). kept_or l own) (sym c.deref.ensures.value) ∙ c.in_ok-response-in-Some.ensures) in
    let d : Call = record x { runs = c.insert.new.self } in
    let run : Run = record { life = c.life-life.result; response = c.in_ok-response-in-Some.response } in
    run_keeps v t id c.args.host c.args.response.now keeps _ at d place
    (run_here v t id c.args.host c.args.response.now keeps x d run here server c.life-life.ensures kept refl
    (c.in_ok-insert-in-Some.ensures.items ∙ ap (λ rs. run ∷ rs) c.reserve_exact.ensures.items)) refl refl

pub returns-in_ok-insert-in-Some-clause-sets : goal.returns-in_ok-insert-in-Some-clause-sets
returns-in_ok-insert-in-Some-clause-sets c =
    let t = c.args.self.now in
    let id = c.args.id in
    let at = c.in-Some.at in
    let place = c.in-Some.ensures.some.0 in
    let x = c.index_mut.result.now in
    let here : call_at t id ≡ Some x = call_at_place t.ids.keys t.calls.items id at place
    ∙ (slice_get-get_or t.calls.items at x (place_within t.ids.keys t.calls.items id at place) ∙ ap (λ z. Some z) (sym c.index_mut.ensures.value)) in
    let d : Call = record x { runs = c.insert.new.self } in
    run_sets t (set_call t at d) id at x d place here (λ client gap. refl) refl refl refl
