use Rattle.std.proofs.Common.{sym, ◌∙◌, refl, true}
use Rattle.homa_replay.proofs.Plays.{none_cut, one_played, one_refused, one_cut}
use Rattle.homa_replay.proofs.Playing.{plays_all, plays_refused, plays_cut}
use Rattle.homa_replay.proofs.lines.play.Goals as goal

pub returns-in_err-put_entries-clause-plays : goal.returns-in_err-put_entries-clause-plays
returns-in_err-put_entries-clause-plays g c =
    plays_cut _ _ c.from_residual.ensures.1
    (λ w h. one_cut _ _ _ _ _ _ _ _ _ (c.in_default.ensures.done w h) (g.met.P.ReplayWorld.allows_none c.apply.new.self) c.in_err-put_entries.ensures.err)

pub returns-clause-plays : goal.returns-clause-plays
returns-clause-plays g c = plays_all (λ w h. one_played _ _ _ _ _ _ _ _ _ (c.in_default.ensures.done w h) c.in_ok-put_entries.ensures.ok)

pub returns-in-Err-clause-plays : goal.returns-in-Err-clause-plays
returns-in-Err-clause-plays g c =
    let real = sym c.is_memory.ensures ∙ c.if-is_memory.false in
    plays_refused c.in-Err.fault real
    (λ w h. one_refused _ w _ _ _ _ c.in-Err.fault ((c.in-Err.ensures.fault w h).refused real) (g.met.P.ReplayWorld.allows_none c.args.world.now) refl)

pub returns-then-is_memory-clause-plays : goal.returns-then-is_memory-clause-plays
returns-then-is_memory-clause-plays g c =
    plays_cut _ _ refl (λ w h. none_cut _ w _ _ _ _ true (g.met.P.ReplayWorld.allows_none c.args.world.now) refl)
