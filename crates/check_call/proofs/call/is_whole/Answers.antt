use Rattle.check_call.proofs.call.is_whole.Goals as goal

pub returns-in-Some : goal.returns-in-Some
returns-in-Some c host peer set h = rw c.in-Some.is (c.is_whole.ensures host peer set (rw c.in-Some.is at h))
