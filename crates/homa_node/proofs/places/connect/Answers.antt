use Rattle.std.proofs.Common.{◌≡◌, ◌<◌, ℕ, length, ap, subst, ◌∙◌, arith}
use Rattle.std.specs.Prelude.{◌||◌}
use Rattle.std.proofs.lemmas.Result.{MatchResult-from_err}
use Rattle.homa_io.specs.Outside.{HasRisen}
use Rattle.homa_plain.specs.Calls.{is_host}
use Rattle.node_script.specs.declared.place.Place.TheVariants.{Local, Remote}
use Rattle.homa_node.proofs.Connecting.{place_at, is_here, is_there, here_below, is_more, is_no_more, is_more_behind}
use Rattle.homa_node.proofs.Connects.{one_at, at_same, not_here, not_there, is_bound, never_bound, is_routed, never_routed, front_bound, front_routed}
use Rattle.homa_node.proofs.places.connect.Goals as goal
use Rattle.homa_node.proofs.places.connect.Goals.{in-Local+in_ok-bind, in_default, in-Remote+in_ok-route, in_default-places}

pub returns-in_err-bind-clause-err_acts : goal.returns-in_err-bind-clause-err_acts
returns-in_err-bind-clause-err_acts g c =
    MatchResult-from_err _ _ _ c.from_residual.ensures.0
    (λ _. front_bound c.args.places.now c.loop-host.host _ (g.N.Net.acts c.loop-host.net) _ c.loop-host.invariant.acts c.in_err-bind.ensures.learned.err_acts)

pub loop-host-preserved : goal.loop-host-preserved
loop-host-preserved g c =
    let ps = c.args.places.now in
    let i = c.loop-host.host in
    let l = c.loop-host.invariant in
    let inside : i < length ps = omega (arith, c.loop-host-test.true, c.loop-host.auto.host-end) in
    elim c.match-places-host.branch [
      | in-Local+in_ok-bind w ↦
          let at : one_at ps i ≡ Local w.in-Local.inc w.in-Local.port = w.in-Local.is in
          let e = w.in_ok-bind.ensures.learned in
          rw w.net-is (record {
            known = λ h. e.known h ∙ ap (λ b. b || is_host h (record { 0 = i })) (l.known h)
                ∙ is_more (λ x. is_here (place_at ps x)) i h.0 (ap is_here (at_same ps i inside ∙ at));
            acts = is_bound ps i w.in-Local.inc w.in-Local.port _ (g.N.Net.acts c.loop-host.net) _ inside at l.acts e.acts;
            sent = e.sent ∙ l.sent;
            gave = e.gave ∙ l.gave;
            quiet = e.counted.quiet ∙ l.quiet;
          })
      | in_default w ↦ rw w.net-is (record {
        known = λ h. l.known h ∙ is_no_more (λ x. is_here (place_at ps x)) i h.0
            (ap is_here (at_same ps i inside) ∙ not_here (one_at ps i) (λ inc port. w.in_default.not-Local inc port));
        acts = never_bound ps i _ _ inside (λ inc port. w.in_default.not-Local inc port) l.acts;
        sent = l.sent;
        gave = l.gave;
        quiet = l.quiet;
      })
    ]

pub returns-in_err-route-clause-err_acts : goal.returns-in_err-route-clause-err_acts
returns-in_err-route-clause-err_acts g c =
    MatchResult-from_err _ _ _ c.from_residual-in_err-route.ensures.0
    (λ _. front_routed c.args.places.now c.loop-other.other _ (g.N.Net.acts c.loop-other.net) _ c.loop-other.invariant.acts
    c.in_err-route.ensures.learned.err_acts)

pub loop-other-preserved : goal.loop-other-preserved
loop-other-preserved g c =
    let ps = c.args.places.now in
    let i = c.loop-other.other in
    let l = c.loop-other.invariant in
    let inside : i < length ps = omega (arith, c.loop-other-test.true, c.loop-other.auto.other-end) in
    elim c.match-places-other.branch [
      | in-Remote+in_ok-route w ↦
          let at : one_at ps i ≡ Remote w.in-Remote.port = w.in-Remote.is in
          let e = w.in_ok-route.ensures.learned in
          rw w.net-is (record {
            known = λ h. e.known h ∙ ap (λ b. b || is_host h (record { 0 = i })) (l.known h)
                ∙ is_more_behind (here_below ps (length ps) h.0) (λ x. is_there (place_at ps x)) i h.0 (ap is_there (at_same ps i inside ∙ at));
            acts = is_routed ps i w.in-Remote.port _ (g.N.Net.acts c.loop-other.net) _ inside at l.acts e.acts;
            sent = e.sent ∙ l.sent;
            gave = e.gave ∙ l.gave;
            quiet = e.counted.quiet ∙ l.quiet;
          })
      | in_default-places w ↦ rw w.net-is (record {
        known = λ h. l.known h ∙ ap (λ b. here_below ps (length ps) h.0 || b) (is_no_more (λ x. is_there (place_at ps x)) i h.0
            (ap is_there (at_same ps i inside) ∙ not_there (one_at ps i) (λ port. w.in_default-places.not-Remote port)));
        acts = never_routed ps i _ _ inside (λ port. w.in_default-places.not-Remote port) l.acts;
        sent = l.sent;
        gave = l.gave;
        quiet = l.quiet;
      })
    ]

pub returns-in_err-bind-clause-sent : goal.returns-in_err-bind-clause-sent
returns-in_err-bind-clause-sent g c = c.in_err-bind.ensures.learned.sent ∙ c.loop-host.invariant.sent

pub returns-in_err-bind-clause-gave : goal.returns-in_err-bind-clause-gave
returns-in_err-bind-clause-gave g c = c.in_err-bind.ensures.learned.gave ∙ c.loop-host.invariant.gave

pub returns-in_err-bind-clause-risen : goal.returns-in_err-bind-clause-risen
returns-in_err-bind-clause-risen g c =
    MatchResult-from_err _ _ _ c.from_residual.ensures.0
    (λ _. subst (λ (k : ℕ). HasRisen k (g.N.Net.faults c.bind.new.self)) c.loop-host.invariant.quiet c.in_err-bind.ensures.learned.counted.risen)

pub returns-in_err-bind-clause-never_falls : goal.returns-in_err-bind-clause-never_falls
returns-in_err-bind-clause-never_falls g c = omega (arith, c.loop-host.invariant.quiet, c.in_err-bind.ensures.learned.counted.never_falls)

pub returns-in_err-route-clause-sent : goal.returns-in_err-route-clause-sent
returns-in_err-route-clause-sent g c = c.in_err-route.ensures.learned.sent ∙ c.loop-other.invariant.sent

pub returns-in_err-route-clause-gave : goal.returns-in_err-route-clause-gave
returns-in_err-route-clause-gave g c = c.in_err-route.ensures.learned.gave ∙ c.loop-other.invariant.gave

pub returns-in_err-route-clause-risen : goal.returns-in_err-route-clause-risen
returns-in_err-route-clause-risen g c =
    MatchResult-from_err _ _ _ c.from_residual-in_err-route.ensures.0
    (λ _. subst (λ (k : ℕ). HasRisen k (g.N.Net.faults c.route.new.self)) c.loop-other.invariant.quiet c.in_err-route.ensures.learned.counted.risen)

pub returns-in_err-route-clause-never_falls : goal.returns-in_err-route-clause-never_falls
returns-in_err-route-clause-never_falls g c = omega (arith, c.loop-other.invariant.quiet, c.in_err-route.ensures.learned.counted.never_falls)
