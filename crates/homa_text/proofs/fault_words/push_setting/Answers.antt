use Rattle.homa_text.proofs.fault_words.push_setting.Goals as goal

pub returns-in-OutOfRange : goal.returns-in-OutOfRange
returns-in-OutOfRange c = rw (c.in-OutOfRange.is, ← c.name_text.ensures) c.push_all.ensures.texts

pub returns-in-RateUnderSeg : goal.returns-in-RateUnderSeg
returns-in-RateUnderSeg c = rw c.in-RateUnderSeg.is c.push_all-in-RateUnderSeg.ensures.texts
