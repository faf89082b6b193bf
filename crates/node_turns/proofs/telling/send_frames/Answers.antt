use Rattle.std.proofs.Common.{◌<◌, ℕ, length, subst, arith, ◌∙◌}
use Rattle.std.proofs.lemmas.Result.{MatchResult-from_err}
use Rattle.homa_io.specs.Outside.{HasRisen}
use Rattle.node_turns.specs.Acting.{frame_datagram, frame_act}
use Rattle.node_runs.specs.Acts.{Sent}
use Rattle.node_turns.proofs.Lists.{front_sent}
use Rattle.node_turns.proofs.Frames.{frame_sent}
use Rattle.node_turns.proofs.telling.send_frames.Goals as goal

pub returns-in_err-send-clause-err : goal.returns-in_err-send-clause-err
returns-in_err-send-clause-err g c =
    MatchResult-from_err _ _ _ c.from_residual.ensures.0
    (λ _. front_sent frame_datagram (g.H.LoopHosts.frames c.args.hosts.now) c.loop-i.i _ _ _ c.loop-i.invariant.sent c.in_err-send.ensures.err)

pub returns-in_err-send-clause-err_acts : goal.returns-in_err-send-clause-err_acts
returns-in_err-send-clause-err_acts g c =
    MatchResult-from_err _ _ _ c.from_residual.ensures.0
    (λ _. front_sent frame_act (g.H.LoopHosts.frames c.args.hosts.now) c.loop-i.i _ _ _ c.loop-i.invariant.acts c.in_err-send.ensures.err_acts)

pub loop-i-preserved : goal.loop-i-preserved
loop-i-preserved g c =
    let e = c.in_ok-send.ensures in
    let inside : c.loop-i.i < length c.outbox-outbox.result.now = omega (arith, c.loop-i-test.true, c.len-i-end.ensures.len) in
    record {
      sent = frame_sent (λ d. d) c.outbox-outbox.result.now
          (g.H.LoopHosts.frames c.args.hosts.now) c.loop-i.i _ _ _ _ _ _ c.outbox-outbox.ensures inside c.sender.ensures c.receiver.ensures c.bytes.ensures
          c.loop-i.invariant.sent e.sent;
      acts = frame_sent Sent c.outbox-outbox.result.now
          (g.H.LoopHosts.frames c.args.hosts.now) c.loop-i.i _ _ _ _ _ _ c.outbox-outbox.ensures inside c.sender.ensures c.receiver.ensures c.bytes.ensures
          c.loop-i.invariant.acts e.acts;
      gave = e.gave ∙ c.loop-i.invariant.gave;
      known = e.known ∙ c.loop-i.invariant.known;
      quiet = e.counted.quiet ∙ c.loop-i.invariant.quiet;
    }

pub returns-in_err-send-clause-risen : goal.returns-in_err-send-clause-risen
returns-in_err-send-clause-risen g c =
    MatchResult-from_err _ _ _ c.from_residual.ensures.0
    (λ _. subst (λ (k : ℕ). HasRisen k (g.N.Net.faults c.send.new.self)) c.loop-i.invariant.quiet c.in_err-send.ensures.counted.risen)

pub returns-in_err-send-clause-never_falls : goal.returns-in_err-send-clause-never_falls
returns-in_err-send-clause-never_falls g c = omega (arith, c.loop-i.invariant.quiet, c.in_err-send.ensures.counted.never_falls)
