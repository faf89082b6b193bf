-- What a quiet call in the code has.
use Rattle.std.specs.Prelude.{◌≡◌, ◌+◌, ℕ, List, [], ◌∷◌}
use Rattle.plain_sets.specs.Maps.{empty}
use Rattle.homa_plain.specs.declared.id.HostId.{HostId}
use Rattle.homa_plain.specs.declared.settings.Settings.{Settings}
use Rattle.homa_plain.specs.Host.{new_host}
use Rattle.homa_plain.specs.Quiet.{Round, round}
use Rattle.host_view.specs.declared.outbox.SentFrame.{SentFrame}
use Rattle.host_view.specs.Seen.{Seen}
use Rattle.quiet_laws.specs.Hosts.{client_id, server_id}
use Rattle.quiet_call.specs.declared.filler.Filler.{Filler}
use Rattle.quiet_call.specs.declared.call.QuietCall.{QuietCall}
use Rattle.quiet_call.specs.Stepped.{GoesOn}

-- the two hosts
abbrev pub hosts_of : QuietCall → List Seen
hosts_of q = q.hosts.items

-- the frames that were sent and not delivered
abbrev pub frames_of : QuietCall → List SentFrame
frames_of q = q.under_way.items

-- how many bytes a service answers with
abbrev pub size_of : Filler → ℕ
size_of f = f.size

-- how many answers a service gave
abbrev pub served_by : Filler → ℕ
served_by f = f.served

-- how many bytes the request has
abbrev pub asked : QuietCall → ℕ
asked q = q.request

-- how many bytes the response has
abbrev pub answered : QuietCall → ℕ
answered q = size_of q.filler

-- how many answers there were
abbrev pub answers : QuietCall → ℕ
answers q = served_by q.filler

-- the settings of both hosts
abbrev pub settings_of : QuietCall → Settings
settings_of q = q.settings

-- after how many rounds it is: each has one tick
abbrev pub rounds_of : QuietCall → ℕ
rounds_of q = q.clock

-- each host's own clock
abbrev pub own_clock : QuietCall → ℕ
own_clock q = q.clock + q.settings.skew

-- it is the same call
pub record IsSameCall (old new : QuietCall) : Type 0 where
  pub settings : new.settings ≡ old.settings
  pub asked : asked new ≡ asked old
  pub answered : answered new ≡ answered old

-- the definition's rounds of this call
abbrev pub round_of : QuietCall → ℕ → Round
round_of q r = round q.settings (asked q) (answered q) r

-- the call is in progress, after as many rounds as its clock says
abbrev pub CallGoesOn : QuietCall → Type 0
CallGoesOn q = GoesOn q.settings (asked q) (answered q) q.clock (hosts_of q) (frames_of q) (answers q)

-- a host that has done nothing
abbrev pub opened : Settings → HostId → Seen
opened s id = record { settings = s; host = new_host s id 1 0; client_places = empty; server_places = empty; marks = [] }

-- neither host has done anything
pub record IsOpened (q : QuietCall) : Type 0 where
  pub hosts : hosts_of q ≡ opened q.settings client_id ∷ opened q.settings server_id ∷ []
  pub frames : frames_of q ≡ []
  pub answers : answers q ≡ 0
  pub clock : q.clock ≡ 0
