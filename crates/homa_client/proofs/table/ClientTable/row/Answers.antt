-- The row's facts, with its call.
use Rattle.std.proofs.Common.{◌≡◌, ◌∙◌, sym, ap, subst}
use Rattle.std.specs.Option.{option_map}
use Rattle.plain_sets.proofs.MapMembers.{same_some}
use Rattle.homa_plain.specs.declared.id.CallId.{CallId}
use Rattle.host_places.proofs.PlacedLaws.{spot-stands}
use Rattle.homa_client.specs.Held.{HeldRow}
use Rattle.homa_client.specs.Gives.{facts}
use Rattle.homa_client.specs.AtTable.{IsOwnCall}
use Rattle.homa_client.proofs.table.ClientTable.row.Goals as goal

pub returns-clause-facts : goal.returns-clause-facts
returns-clause-facts c = λ id r stands.
    let spot = spot-stands c.args.self.now.settings.calls c.args.self.now.rows c.call_at-id.ensures.placed id c.args.slot r stands in
    let same : c.call_at-id.result ≡ id = same_some _ id (sym c.call_at-id.ensures.call ∙ ap (option_map (λ (s : CallId × HeldRow). s.0)) spot) in
    c.facts.ensures.facts ∙ ap (λ (q : CallId). facts q c.row_at.result.now) same ∙ ap (facts id) (c.row_at.ensures id r stands)

pub returns-clause-own : goal.returns-clause-own
returns-clause-own c = λ id r stands.
    let spot = spot-stands c.args.self.now.settings.calls c.args.self.now.rows c.call_at-id.ensures.placed id c.args.slot r stands in
    let same : c.call_at-id.result ≡ id = same_some _ id (sym c.call_at-id.ensures.call ∙ ap (option_map (λ (s : CallId × HeldRow). s.0)) spot) in
    subst (IsOwnCall c.args.self.now.host c.args.self.now.inc c.args.self.now.seq) same c.call_at-id.ensures.own
