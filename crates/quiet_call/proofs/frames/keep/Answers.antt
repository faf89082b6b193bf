use Rattle.std.proofs.Common.{ap, ◌∙◌, arith, ◌++◌, ◌∷◌, [], take, append_assoc}
use Rattle.quiet_call.proofs.Keeping.{frame_with, one_kept}
use Rattle.quiet_call.proofs.frames.keep.Goals as goal

pub loop-i-preserved : goal.loop-i-preserved
loop-i-preserved c =
    let fs = c.args.outbox.now in
    let from = c.sender-from.result in
    let to = c.receiver-to.result in
    c.in_ok-push.ensures.items ∙ ap (λ xs. xs ++ frame_with from to c.in_ok-bytes.bytes.items ∷ []) c.loop-i.invariant
    ∙ ap (λ bytes. (c.args.under_way.now.items ++ take c.loop-i.i fs) ++ frame_with from to bytes ∷ []) c.in_ok-bytes.ensures.items
    ∙ append_assoc c.args.under_way.now.items (take c.loop-i.i fs) (frame_with from to c.bytes.result.now ∷ [])
    ∙ ap (λ gs. c.args.under_way.now.items ++ gs)
    (one_kept fs c.loop-i.i from to c.bytes.result.now (omega (arith, c.loop-i-test.true, c.len-i-end.ensures.len)) c.sender-from.ensures
    c.receiver-to.ensures c.bytes.ensures)
