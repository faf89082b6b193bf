use Rattle.homa_text.proofs.put.put_run.Goals as goal

pub returns : goal.returns
returns g c = rw (c.as_slice.ensures.value, c.run_line.ensures, c.new-text.ensures) at c.write_all.ensures
