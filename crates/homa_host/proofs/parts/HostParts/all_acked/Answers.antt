use Rattle.std.proofs.Common.{◌≡◌, ◌+◌, drop, ap, subst, ◌∙◌, refl, arith}
use Rattle.std.proofs.lemmas.List.{drop_more, drop_all}
use Rattle.homa_plain.specs.declared.id.CallId.{CallId}
use Rattle.homa_plain.specs.Packets.{calls_of}
use Rattle.homa_host.proofs.Acking.{IsAcking, acking_on, acking_done, at_call}
use Rattle.homa_host.proofs.parts.HostParts.all_acked.Goals as goal

pub loop-inc-init : goal.loop-inc-init
loop-inc-init c = record {
  kept = c.requires.kept;
  steady = record { settings = refl; id = refl; last = refl; marks_told = omega arith; frames_sent = omega arith; order = omega arith };
  others = λ q all. refl;
  rest = λ w frames amid. (w, amid, refl);
}

pub loop-inc-preserved : goal.loop-inc-preserved
loop-inc-preserved c =
    let inv = c.loop-inc.invariant in
    let s = c.server_acked.ensures.steady in
    let more = ap (calls_of c.args.client) (drop_more c.args.calls.now c.loop-inc.inc-index (0, 0) c.loop-inc-test.true) in
    record {
      kept = c.server_acked.ensures.kept;
      steady = record {
        settings = s.settings ∙ inv.steady.settings;
        id = s.id ∙ inv.steady.id;
        last = s.last ∙ inv.steady.last;
        marks_told = omega (arith, s.marks_told, inv.steady.marks_told);
        frames_sent = omega arith;
        order = omega (arith, s.order, inv.steady.order);
      };
      others = λ q all. c.server_acked.ensures.others q
          (at_call (λ (id : CallId). q ≡ id → ⊥) c.args.client c.args.calls.now c.loop-inc.inc-index c.loop-inc-test.true all) ∙ inv.others q all;
      rest = acking_on c.args.self.now c.loop-inc.self c.server_acked.new.self
          (calls_of c.args.client c.args.calls.now) (calls_of c.args.client (drop (c.loop-inc.inc-index + 1) c.args.calls.now)) _ inv.steady.settings
          (subst (IsAcking c.args.self.now (calls_of c.args.client c.args.calls.now) c.loop-inc.self) more inv.rest)
          c.server_acked.ensures.step;
    }

pub returns-clause-step : goal.returns-clause-step
returns-clause-step c =
    let inv = c.loop-inc.invariant in
    let end = ap (calls_of c.args.client) (drop_all c.loop-inc.inc-index c.args.calls.now c.loop-inc-test.false) in
    acking_done c.args.self.now c.loop-inc.self (calls_of c.args.client c.args.calls.now)
    (subst (IsAcking c.args.self.now (calls_of c.args.client c.args.calls.now) c.loop-inc.self) end inv.rest)
