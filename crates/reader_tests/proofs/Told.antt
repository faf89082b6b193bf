-- What is read has a line: no entry of want of memory is read.
use Rattle.std.proofs.Common.{ℕ}
use Rattle.homa_plain.specs.declared.fault.LineFault.{LineFault}
use Rattle.homa_plain.specs.declared.fault.LineFault.TheVariants.{Script, World}
use Rattle.homa_plain.specs.declared.fault.WorldFault.TheVariants as fault
use Rattle.homa_plain.specs.Entries.{PlainEntry, PlainRefused, IsCause}
use Rattle.homa_plain.specs.Entries.{PlainSettings, PlainCall, PlainDeliver, PlainClock, PlainRestart, PlainInject, PlainShift, PlainJunk, PlainStale}
use Rattle.homa_plain.specs.Entries.{PlainSend, PlainRun, PlainDone, PlainFail, PlainDrop, PlainGaps, PlainBury, PlainFree, PlainFullRows}
use Rattle.homa_plain.specs.Entries.{PlainFullPages, PlainBalance, PlainRecv, PlainFinished, PlainStalled}
use Rattle.homa_plain.specs.Told.{HasLine}
use Rattle.check_reader.specs.Told.{Fits, FitsFault}

cause : (why : LineFault) → FitsFault why → IsCause why
cause (Script why) fits = tt
cause (World fault.NoSuchHost) fits = tt
cause (World fault.NoSuchPacket) fits = tt
cause (World (fault.Late sent now)) fits = tt
cause (World (fault.Start why)) fits = tt
cause (World fault.NoSpare) fits = tt
cause (World fault.ClockEnd) fits = tt
cause (World fault.Decodes) fits = tt
cause (World fault.NoMemory) fits = fits
cause (World (fault.OutOfBand n most)) fits = tt
cause (World (fault.Back last now)) fits = tt

pub has_line : (e : PlainEntry) → Fits e → HasLine e
has_line (PlainSettings settings) fits = tt
has_line (PlainCall id server service bytes) fits = tt
has_line (PlainDeliver packet) fits = tt
has_line (PlainClock tick) fits = tt
has_line (PlainRestart host inc) fits = tt
has_line (PlainInject host bytes) fits = tt
has_line (PlainShift host n) fits = tt
has_line (PlainJunk host) fits = tt
has_line (PlainStale host at now) fits = tt
has_line (PlainSend number from to inc role id level what payload) fits = tt
has_line (PlainRun host id service request response hold) fits = tt
has_line (PlainDone id bytes) fits = tt
has_line (PlainFail id why) fits = tt
has_line (PlainDrop host id) fits = tt
has_line (PlainGaps host id) fits = tt
has_line (PlainBury host id until) fits = tt
has_line (PlainFree host id) fits = tt
has_line (PlainFullRows host id rows limit) fits = tt
has_line (PlainFullPages host id need free) fits = tt
has_line (PlainBalance host cutoffs) fits = tt
has_line (PlainRecv host from bytes) fits = tt
has_line (PlainFinished n) fits = tt
has_line (PlainStalled turns now) fits = tt
has_line (PlainRefused line why) fits = cause why fits.1
