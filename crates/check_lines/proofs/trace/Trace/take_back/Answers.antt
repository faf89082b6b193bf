use Rattle.std.proofs.lemmas.Result.{on_ok_weaker}
use Rattle.check_lines.proofs.TakeLaws.{put_back, none_back}
use Rattle.check_call.specs.Spots.{spot}
use Rattle.check_lines.proofs.trace.Trace.take_back.Goals as goal

pub returns-in-Some-clause-kept : goal.returns-in-Some-clause-kept
returns-in-Some-clause-kept c =
    on_ok_weaker c.keep.result
    (λ k v w f keeps ch back. k v w f keeps ch (put_back c.args.self.now c.args.id c.args.kept (f (spot v.now c.args.id)) back)) c.keep.ensures.kept

pub returns-in-None-clause-kept : goal.returns-in-None-clause-kept
returns-in-None-clause-kept c v w f keeps ch back = none_back v w c.args.self.now c.args.id c.args.kept f keeps ch c.in-None.ensures.none back
