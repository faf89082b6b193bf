use Rattle.std.proofs.Common.{[], refl}
use Rattle.homa_replay.specs.Progress.{replay_of}
use Rattle.homa_replay.proofs.Exits.{err_if}
use Rattle.homa_replay.proofs.Composed.{parts_none}
use Rattle.homa_replay.proofs.replays.replay.Goals as goal

pub returns-in_err-room-clause-part : goal.returns-in_err-room-clause-part
returns-in_err-room-clause-part g c =
    let o = g.P.OpenWorld in
    err_if _ _ _ c.from_residual.ensures.1
    (parts_none (replay_of (o.many c.args.boxes)) _ _ (o.are_allowed c.args.boxes) _ (g.met.P.OpenWorld.unasked c.args.boxes [] refl))
