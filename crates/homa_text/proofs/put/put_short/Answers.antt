use Rattle.homa_text.proofs.put.put_short.Goals as goal

pub returns : goal.returns
returns g c = rw (c.as_slice.ensures.value, c.piece_line.ensures, c.new-text.ensures) at c.write_all.ensures
