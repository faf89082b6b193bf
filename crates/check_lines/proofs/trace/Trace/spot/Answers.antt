use Rattle.std.proofs.Common.{◌≡◌, arith, Some, sym, ap, ◌∙◌}
use Rattle.std.proofs.lemmas.Option.{slice_get-get_or}
use Rattle.check_call.specs.Calls.{spot_in}
use Rattle.check_lines.specs.Traces.{call_at}
use Rattle.check_lines.proofs.Places.{place_within, call_at_place}
use Rattle.check_lines.proofs.trace.Trace.spot.Goals as goal

pub index-call-requires : goal.index-call-requires
index-call-requires c =
    omega (arith, place_within c.args.self.now.ids.keys c.args.self.now.calls.items c.args.id c.args.at c.requires, c.args.self.now.calls.ok)

pub returns : goal.returns
returns c =
    let t = c.args.self.now in
    let x = c.index-call.result.now in
    let here : call_at t c.args.id ≡ Some x =
    call_at_place t.ids.keys t.calls.items c.args.id c.args.at c.requires
    ∙ (slice_get-get_or t.calls.items c.args.at x (place_within t.ids.keys t.calls.items c.args.id c.args.at c.requires)
    ∙ ap (λ y. Some y) (sym c.index-call.ensures)) in
    rw here (c.spot_in.ensures ∙ ap (spot_in x) c.lives.ensures)
