-- Credit: how many bytes of messages a host may still send in a tick.
use Rattle.std.specs.Prelude.{ℕ, ◌-◌, nat_lt, if◌then◌else◌, Option, None, Some}
use Rattle.plain_sets.specs.Ranges.{Range}
use Rattle.homa_plain.specs.declared.settings.Settings.{Settings}
use Rattle.homa_plain.specs.Host.{Host}
use Rattle.homa_plain.specs.Work.{Work}

-- fills the credit up to `rate` at the first turn of a tick of the host's own clock; a turn at tick 0 doesn't
-- A rule of this project.
abbrev pub refilled : Settings → Host → Host
refilled s h = if nat_lt h.refilled h.last then record h { credit = s.rate; refilled = h.last } else h

-- uses so many bytes of the credit
abbrev pub spent : ℕ → Work → Work
spent n w = record w { host = record w.host { credit = w.host.credit - n } }

-- a message's next piece, if the credit is enough for it
abbrev pub if_affordable : Option Range → Work → (Range → Work) → Option Work
if_affordable None w leave = None
if_affordable (Some range) w leave = if nat_lt w.host.credit (range.to - range.from) then None else Some (leave range)
