use Rattle.std.proofs.Common.{ap, sym, refl, ◌∙◌, map, None, Some}
use Rattle.std.specs.Option.{option_map}
use Rattle.node_runs.specs.Script.{places_in}
use Rattle.node_script.specs.Setup.{naming_seen}
use Rattle.node_script.specs.Heads.{places_seen}
use Rattle.node_script.proofs.Heads.{setup_due}
use Rattle.node_script.proofs.head.Head.setup.Goals as goal

pub returns-in_default-clause-setup : goal.returns-in_default-clause-setup
returns-in_default-clause-setup c =
    let h = c.args.self.now in
    let places = ap (option_map places_seen) (sym c.in_default.is)
    ∙ (c.in_ok-places.ensures.given ∙ ap (λ ns. places_in h.settings.hosts (map naming_seen ns)) c.deref.ensures.value) in
    λ head is. setup_due h head c.in_ok-check.field-0 None h.end h.turns is c.in_ok-check.ensures.fault
    (c.in_ok-check.ensures.valid.0 refl).in_range.1 places refl refl

pub returns-in_default-end-clause-setup : goal.returns-in_default-end-clause-setup
returns-in_default-end-clause-setup c =
    let h = c.args.self.now in
    let places = ap (option_map places_seen) (sym c.in-Some.is)
    ∙ (c.in_ok-places.ensures.given ∙ ap (λ ns. places_in h.settings.hosts (map naming_seen ns)) c.deref.ensures.value) in
    λ head is. setup_due h head c.in_ok-check.field-0 (Some (places_seen c.in-Some.places)) None h.turns is c.in_ok-check.ensures.fault
    (c.in_ok-check.ensures.valid.0 refl).in_range.1 places (sym c.in_default-end.is) refl

pub returns-in_default-turns-clause-setup : goal.returns-in_default-turns-clause-setup
returns-in_default-turns-clause-setup c =
    let h = c.args.self.now in
    let places = ap (option_map places_seen) (sym c.in-Some.is)
    ∙ (c.in_ok-places.ensures.given ∙ ap (λ ns. places_in h.settings.hosts (map naming_seen ns)) c.deref.ensures.value) in
    λ head is. setup_due h head c.in_ok-check.field-0 (Some (places_seen c.in-Some.places)) (Some c.in-Some-end.end) None is c.in_ok-check.ensures.fault
    (c.in_ok-check.ensures.valid.0 refl).in_range.1 places (sym c.in-Some-end.is) (sym c.in_default-turns.is)

pub returns-clause-setup : goal.returns-clause-setup
returns-clause-setup c =
    let h = c.args.self.now in
    let places = ap (option_map places_seen) (sym c.in-Some.is)
    ∙ (c.in_ok-places.ensures.given ∙ ap (λ ns. places_in h.settings.hosts (map naming_seen ns)) c.deref.ensures.value) in
    λ head is. setup_due h head c.in_ok-check.field-0 (Some (places_seen c.in-Some.places)) (Some c.in-Some-end.end)
    (Some c.in-Some-turns.turns) is c.in_ok-check.ensures.fault (c.in_ok-check.ensures.valid.0 refl).in_range.1 places (sym c.in-Some-end.is)
    (sym c.in-Some-turns.is)
