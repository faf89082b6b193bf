use Rattle.homa_text.proofs.fault_words.push_two.Goals as goal

pub returns : goal.returns
returns c = c.push_all.ensures.texts
