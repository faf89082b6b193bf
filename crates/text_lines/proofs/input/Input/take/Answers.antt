use Rattle.text_lines.proofs.Taking.{part_rest}
use Rattle.text_lines.proofs.input.Input.take.Goals as goal

pub returns : goal.returns
returns c =
    let self = c.args.self.now in
    part_rest self.buf.items self.start self.end c.args.n c.requires
