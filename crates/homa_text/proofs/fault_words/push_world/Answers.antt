use Rattle.homa_text.proofs.fault_words.push_world.Goals as goal

pub returns-in-NoSuchHost : goal.returns-in-NoSuchHost
returns-in-NoSuchHost c = rw c.in-NoSuchHost.is c.push_all.ensures.texts

pub returns-in-NoSuchPacket : goal.returns-in-NoSuchPacket
returns-in-NoSuchPacket c = rw c.in-NoSuchPacket.is c.push_all-in-NoSuchPacket.ensures.texts
