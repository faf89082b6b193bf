-- If the pages for the message are free, the piece is the whole message.
use Rattle.std.proofs.Common.{length, refl, sym, ◌∙◌}
use Rattle.homa_plain.specs.Host.{pages_for}
use Rattle.msg_pool.specs.Pool.{free_pages}
use Rattle.homa_in.proofs.PutLaws.{enough_if, message_at_once, whole_at_once}
use Rattle.homa_in.proofs.putting.open_whole.Goals as goal

pub returns-in-Ok : goal.returns-in-Ok
returns-in-Ok c = λ peer order unsched. record {
  enough = enough_if (pages_for (length c.args.bytes.now)) (free_pages c.args.pool.now) c.in-Ok.ensures.full.1;
  whole = whole_at_once peer order unsched c.args.bytes.now;
  message = c.set.ensures ∙ sym (message_at_once peer (length c.args.bytes.now) order unsched c.args.bytes.now);
  same_pool = refl;
  no_part = refl;
}
