use Rattle.homa_text.proofs.put.put_call.Goals as goal

pub returns : goal.returns
returns g c = rw (c.as_slice.ensures.value, c.call_line.ensures, c.new-text.ensures) at c.write_all.ensures
