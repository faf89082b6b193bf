-- What the code returns for a RESEND.
use Rattle.homa_plain.specs.Busy.{Answer, Busy, Queued}
use Rattle.homa_out.specs.declared.busy.Resent.{Resent}
use Rattle.homa_out.specs.declared.busy.Resent.TheVariants.{Queued as ToldQueued, Busy as ToldBusy}

-- the code's answer has the name of the definition's
abbrev pub answered : Answer → Resent
answered Busy = ToldBusy
answered Queued = ToldQueued
