use Rattle.std.proofs.Common.{◌∙◌, ap}
use Rattle.msg_pool.specs.Pool.{without}
use Rattle.homa_in.proofs.MoveLaws.{given}
use Rattle.homa_in.proofs.putting.close_part.Goals as goal

pub returns : goal.returns
returns c = given _ _ _ c.requires (c.give.ensures.given ∙ ap (without c.args.pool.now) c.close.ensures) c.give.ensures.within
