use Rattle.check_call.proofs.spot.is_message.Goals as goal

pub returns-in-Some : goal.returns-in-Some
returns-in-Some c host peer set h = rw c.in-Some.is (c.is_message.ensures host peer set (rw c.in-Some.is at h))
