use Rattle.homa_text.proofs.put.put_grant.Goals as goal

pub returns : goal.returns
returns g c = rw (c.as_slice.ensures.value, c.grant_line.ensures c.args.level c.args.payload.now, c.new-text.ensures) at c.write_all.ensures
