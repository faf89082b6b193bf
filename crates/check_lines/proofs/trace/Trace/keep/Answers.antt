use Rattle.std.proofs.Common.{◌≡◌, arith, Some, refl, sym, ap, ◌∙◌, subst, length}
use Rattle.std.proofs.lemmas.Option.{slice_get-get_or}
use Rattle.check_call.specs.Spots.{spot}
use Rattle.check_call.specs.declared.call.Call.{Call}
use Rattle.check_call.specs.declared.spot.Spot.{Spot}
use Rattle.check_call.specs.Kept.{StandsFor, is_incoming}
use Rattle.check_call.specs.Calls.{spot_in, beside}
use Rattle.check_lines.specs.Traces.{call_at, host_at, lives_in, asked_of, awaited_of}
use Rattle.check_lines.specs.Changes.{SameHosts, Notes}
use Rattle.check_lines.proofs.Places.{place_within, call_at_place}
use Rattle.check_lines.proofs.KeepLaws.{kept_with, asked_before, awaited_before, stands_now, same_sets}
use Rattle.check_lines.proofs.trace.Trace.keep.Goals as goal

pub index-requires : goal.index-requires
index-requires c = omega (arith, place_within c.args.self.now.ids.keys c.args.self.now.calls.items c.args.id c.args.at c.requires, c.args.self.now.calls.ok)

pub returns-clause-kept : goal.returns-clause-kept
returns-clause-kept c v w f keeps ch stands =
    let t = c.args.self.now in
    let id = c.args.id in
    let p = c.put.new.self in
    let u = c.note.new.self in
    let x = c.index.result.now in
    let here : call_at t id ≡ Some x =
    call_at_place t.ids.keys t.calls.items id c.args.at c.requires
    ∙ (slice_get-get_or t.calls.items c.args.at x (place_within t.ids.keys t.calls.items id c.args.at c.requires) ∙ ap (λ y. Some y) (sym c.index.ensures)) in
    let before : c.spot-before.result ≡ spot_in x (lives_in t id x.server) = rw here at c.spot-before.ensures in
    let st : StandsFor (beside id.client t.settings.resend x) c.args.spot (f (spot v.now id)) = rw here at stands in
    let was = subst (λ (k : Spot). StandsFor (beside id.client t.settings.resend x) k (spot v.now id)) (sym before) (stands_now v t id x keeps here) in
    let rest = c.put.ensures.rest in
    let notes = subst (λ z. Notes z u id x.server (is_incoming (f (spot v.now id)).request) (is_incoming (f (spot v.now id)).response)) rest
    (c.in_ok-note.ensures.lists (beside id.client t.settings.resend x) (beside id.client t.settings.resend x) (spot v.now id) (f (spot v.now id)) was st
    (ap (λ z. asked_of (host_at z x.server) id) rest ∙ asked_before v t id x keeps here)
    (ap (λ z. awaited_of (host_at z id.client) id) rest ∙ awaited_before v t id x keeps here)) in
    let hosts = subst (λ z. SameHosts z u) rest c.in_ok-note.ensures.hosts in
    let more = c.in_ok-note.ensures.rest in
    kept_with v w t u id x c.args.spot f keeps here ch st
    (λ q. ap (λ z. call_at z q) more ∙ c.put.ensures.calls q)
    (ap (λ z. length z.calls.items) more ∙ c.put.ensures.len)
    (record { lead = hosts.lead; first = hosts.first; restarts = hosts.restarts })
    (record { asked = notes.asked; awaited = notes.awaited })
    (record {
      ids = ap (λ z. z.ids) more ∙ ap (λ z. z.ids) rest;
      settings = ap (λ z. z.settings) more ∙ ap (λ z. z.settings) rest;
      place = ap (λ z. z.place) more ∙ ap (λ z. z.place) rest;
      ended = ap (λ z. z.ended) more ∙ ap (λ z. z.ended) rest;
      tick = ap (λ z. z.tick) more ∙ ap (λ z. z.tick) rest;
      packets = ap (λ z. z.packets) more ∙ ap (λ z. z.packets) rest;
      here = ap (λ z. z.here) more ∙ ap (λ z. z.here) rest;
      delivery = ap (λ z. z.delivery) more ∙ ap (λ z. z.delivery) rest;
    })

pub returns-clause-sets : goal.returns-clause-sets
returns-clause-sets c =
    let t = c.args.self.now in
    let more = c.in_ok-note.ensures.rest in
    same_sets t c.note.new.self c.args.id (λ (d : Call). record d { lives = lives_in t c.args.id d.server; spot = c.args.spot }) (λ client gap d. refl)
    (ap (λ z. z.settings) more ∙ ap (λ z. z.settings) c.put.ensures.rest) (λ q. ap (λ z. call_at z q) more ∙ c.put.ensures.calls q)
