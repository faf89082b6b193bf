-- No GRANT is due once those of a step were given.
use Rattle.std.proofs.Common.{◌≡◌, false, List, [], ◌∙◌}
use Rattle.homa_plain.specs.declared.settings.Settings.{Settings}
use Rattle.homa_plain.specs.Work.{Work}
use Rattle.homa_plain.specs.Steps.{gives_grants}
use Rattle.host_view.specs.declared.outbox.SentFrame.{SentFrame}
use Rattle.host_books.specs.Granted.{due_grants}
use Rattle.host_books.proofs.GrantsRest.{grants_rest}
use Rattle.homa_host.specs.Parts.{host_of, IsKept}
use Rattle.homa_host.specs.Amid.{Amid}
use Rattle.homa_host.specs.declared.parts.HostParts.{HostParts}
use Rattle.homa_host.proofs.ClientStays.{kept_books}

-- so it may be noted that what arrives didn't change since
pub settled_kept : (s : Settings) (w : Work) (p : HostParts) (out : List SentFrame) → IsKept p → p.control.settings ≡ s → Amid (gives_grants s w) p out
    → IsKept (record p { books = record p.books { changed = false } })
settled_kept s w p out kept settings amid =
    let room = kept.room in
    let booked = kept.booked in
    let none : due_grants p.control.settings (host_of p) ≡ [] = (λ i. due_grants (settings i) (amid.host i)) ∙ grants_rest s w in
    kept_books p (record p.books { changed = false }) kept
    (record { timers = room.timers; grants = room.grants; hosts = room.hosts; most = room.most; pacer = room.pacer; rate = room.rate })
    (record { armed = booked.armed; entered = booked.entered; ready = booked.ready; granted = λ _. none })
