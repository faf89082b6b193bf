use Rattle.std.proofs.Common.{arith, ap, sym, ◌∙◌, ◌-◌, ◌+◌, ◌∷◌, [], map, length}
use Rattle.std.proofs.lemmas.List.{map-append, length-append}
use Rattle.std.proofs.lemmas.List.Elements.{All-push}
use Rattle.node_script.specs.Setup.{place_seen}
use Rattle.node_script.specs.Heads.{IsPlaced, places_seen}
use Rattle.node_script.proofs.Placing.{places_on, places_not}
use Rattle.node_script.proofs.head.places_from.Goals as goal

pub returns-in_default-clause-given : goal.returns-in_default-clause-given
returns-in_default-clause-given c =
    let l = c.loop-host in
    sym (l.invariant.given ∙ places_not (places_seen l.places) l.host (c.args.hosts - l.host) (c.args.hosts - (l.host + 1)) _
    (omega (arith, c.loop-host-test.true)) c.in_default.ensures.given)

pub loop-host-preserved : goal.loop-host-preserved
loop-host-preserved c =
    let l = c.loop-host in
    let items = c.in_ok-push.ensures.items in
    let more = length-append l.places.items (c.in-Some.place ∷ []) in
    record {
      given = l.invariant.given
          ∙ places_on (places_seen l.places) (places_seen c.push.new.self) l.host (l.host + 1) (c.args.hosts - l.host) (c.args.hosts - (l.host + 1)) _
          (place_seen c.in-Some.place) (omega arith) (omega (arith, c.loop-host-test.true))
          (ap (map place_seen) items ∙ map-append place_seen l.places.items (c.in-Some.place ∷ [])) c.in-Some.ensures.given;
      placed = rw items (All-push IsPlaced l.places.items c.in-Some.place l.invariant.placed c.in-Some.ensures.placed);
      count = omega (arith, ap length items, more, l.invariant.count);
    }
