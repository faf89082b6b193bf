-- The call is drawn, and skipped or made.
use Rattle.std.proofs.Common.{◌≡◌, ◌∙◌, true, false, nat_le, refl, sym, ap}
use Rattle.std.proofs.lemmas.Bool.{le-leb, lt-leb}
use Rattle.std.proofs.lemmas.Result.{MatchResult-from_err}
use Rattle.homa_plain.specs.declared.settings.Settings.{Settings}
use Rattle.homa_fabric.specs.Draws.{plain_traffic}
use Rattle.homa_generate.proofs.Goings.{then_gone, then_stopped, id_extends}
use Rattle.homa_generate.proofs.Extending.{line_extends}
use Rattle.homa_generate.proofs.MoreRounds.{call_skipped, call_drawn, call_line}
use Rattle.homa_generate.proofs.rounds.call.Goals as goal

pub returns-then-setup-live-clause-gone : goal.returns-then-setup-live-clause-gone
returns-then-setup-live-clause-gone g c = λ r at.
    let s = g.P.ReplayWorld.settings c.args.world.now in
    let t = c.traffic-traffic in
    let full : nat_le s.calls c.live.result ≡ true =
    ap (λ (o : Settings). nat_le o.calls c.live.result) (sym c.requires.ready.settings) ∙ le-leb _ _ c.if-setup-live.true in
    call_skipped s r _ _ _ _ at (plain_traffic t.result) t.new.self.fabric.random _ c.live.result c.requires.ready.hosts t.ensures.drawn
    t.ensures.destinations refl refl refl refl (c.live.ensures r.world at.world) full

pub returns-in_err-play-clause-stopped : goal.returns-in_err-play-clause-stopped
returns-in_err-play-clause-stopped g c =
    let s = g.P.ReplayWorld.settings c.args.world.now in
    let t = c.traffic-traffic in
    let some : nat_le s.calls c.live.result ≡ false =
    ap (λ (o : Settings). nat_le o.calls c.live.result) (sym c.requires.ready.settings) ∙ lt-leb _ _ c.if-setup-live.false in
    MatchResult-from_err _ _ _ c.from_residual.ensures.0
    (λ _ r at.
    then_stopped s _ _ (λ x. x) (λ (o : Settings). call_line o (plain_traffic t.result)) r _ _ _ _ _ _ refl id_extends (λ x. line_extends s _ x)
    (call_drawn s r _ _ _ _ at (plain_traffic t.result) t.new.self.fabric.random _ c.live.result c.requires.ready.hosts t.ensures.drawn
    t.ensures.destinations refl refl refl refl (c.live.ensures r.world at.world) some) c.in_err-play.ensures.stopped)

pub returns-clause-gone : goal.returns-clause-gone
returns-clause-gone g c = λ r at.
    let s = g.P.ReplayWorld.settings c.args.world.now in
    let t = c.traffic-traffic in
    let some : nat_le s.calls c.live.result ≡ false =
    ap (λ (o : Settings). nat_le o.calls c.live.result) (sym c.requires.ready.settings) ∙ lt-leb _ _ c.if-setup-live.false in
    then_gone s _ _ (λ x. x) (λ (o : Settings). call_line o (plain_traffic t.result)) r _ _ _ _ _ _ _ _ refl
    (call_drawn s r _ _ _ _ at (plain_traffic t.result) t.new.self.fabric.random _ c.live.result c.requires.ready.hosts t.ensures.drawn
    t.ensures.destinations refl refl refl refl (c.live.ensures r.world at.world) some) c.in_ok-play.ensures.gone
