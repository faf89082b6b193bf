use Rattle.std.proofs.Common.{◌≡◌, arith, Some, sym, ap, ◌∙◌, subst}
use Rattle.std.specs.Prelude.{slice_get, slice_set}
use Rattle.std.proofs.lemmas.Option.{slice_get-get_or}
use Rattle.check_call.specs.declared.call.Call.{Call}
use Rattle.check_lines.specs.Traces.{lives_in, call_in}
use Rattle.check_lines.specs.Changes.{call_or}
use Rattle.check_lines.proofs.Places.{place_within, call_changed}
use Rattle.check_lines.proofs.trace.Trace.put.Goals as goal

pub index-requires : goal.index-requires
index-requires c = omega (arith, place_within c.args.self.now.ids.keys c.args.self.now.calls.items c.args.id c.args.at c.requires, c.args.self.now.calls.ok)

pub index_mut-requires : goal.index_mut-requires
index_mut-requires c = omega (arith, place_within c.args.self.now.ids.keys c.args.self.now.calls.items c.args.id c.args.at c.requires, c.args.self.now.calls.ok)

pub returns-clause-calls : goal.returns-clause-calls
returns-clause-calls c q =
    let t = c.args.self.now in
    let ks = t.ids.keys in
    let cs = t.calls.items in
    let old = c.index_mut.result.now in
    let within = place_within ks cs c.args.id c.args.at c.requires in
    let here : slice_get cs c.args.at ≡ Some old = slice_get-get_or cs c.args.at old within ∙ ap (λ x. Some x) (sym c.index_mut.ensures.value) in
    let seen : slice_get cs c.args.at ≡ Some c.index.result.now =
    slice_get-get_or cs c.args.at c.index.result.now within ∙ ap (λ x. Some x) (sym c.index.ensures) in
    let same : c.index.result.now ≡ old = cc in
    let change = λ (d : Call). record d { lives = lives_in t c.args.id d.server; spot = c.args.spot } in
    let new : change old ≡ c.keep.new.self =
    (λ i. record old { lives = sym (c.lives-lives.ensures ∙ ap (λ x. lives_in t c.args.id x.server) same) i; spot = c.args.spot }) ∙ sym c.keep.ensures in
    subst (λ (d : Call). call_in ks (slice_set cs c.args.at d) q ≡ call_or c.args.id change (call_in ks cs) q) new
    (call_changed ks cs c.args.id c.args.at old change q c.requires here)
