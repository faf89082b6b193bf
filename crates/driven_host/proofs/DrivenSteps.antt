-- What a step leaves of a driven host's numbers.
use Rattle.std.proofs.Common.{◌≡◌, ◌<◌, ◌≤◌, ◌+◌, ◌^◌, ℕ, Bool, true, false, List, [], Result, Ok, Err, ap, ◌∙◌, arith}
use Rattle.std.specs.Prelude.{if◌then◌else◌, OnOk, OnErr}
use Rattle.homa_plain.specs.declared.id.HostId.{HostId}
use Rattle.homa_plain.specs.Rules.{Answer}
use Rattle.homa_plain.specs.Work.{Work}
use Rattle.host_view.specs.declared.outbox.SentFrame.{SentFrame}
use Rattle.host_view.specs.Seen.{Seen}
use Rattle.host_view.specs.Marks.{IsAnswer}
use Rattle.host_view.specs.Done.{IsDone, HoldsSent}
use Rattle.homa_host.specs.Public.{IsSameHost}
use Rattle.driven_host.specs.Driven.{IsKept}

-- where nothing was told, no packet was
pub none_sent : (h : Seen) (out : List SentFrame) → h.marks ≡ [] → HoldsSent h out
none_sent h out e n has = grind (arith, e, has)

-- after a step
pub stepped : (h g : Seen) (served served_then : ℕ) (out sent : List SentFrame) (id : HostId) (hosts steps : ℕ)
    → IsKept h served out id hosts steps → steps < 2 ^ 56 → IsSameHost h g → served_then ≤ served + 1 → HoldsSent g sent
    → IsKept g served_then sent id hosts (steps + 1)
stepped h g served served_then out sent id hosts steps kept few same more holds = record {
  name = same.id ∙ kept.name;
  hosts_are = ap (λ s. s.hosts) same.settings ∙ kept.hosts_are;
  order = omega (arith, same.order, kept.order);
  served_few = omega (arith, more, kept.served_few);
  few = omega (arith, few);
  sent = holds;
}

-- the packets of a call's step are held, and where it can't start, nothing was told
pub called : {T E : Type 0} (r : Result T E) (h g : Seen) (step : Work) (sent : List SentFrame)
    → OnOk r ((whole : List ℕ) → IsDone h step g sent whole) → OnErr r (g ≡ record h { marks = [] }) → HoldsSent g sent
called (Ok x) h g step sent done same = (done []).sent
called (Err e) h g step sent done same = none_sent g sent (ap (λ s. s.marks) same)

-- the same of a delivery, with what the service answered
pub delivered : {T E : Type 0} (r : Result T E) (h g : Seen) (step : Answer → Work) (sent : List SentFrame) (whole : List ℕ)
    → OnOk r ((a : Answer) × IsAnswer g a) → OnOk r ((a : Answer) → IsAnswer g a → IsDone h (step a) g sent whole)
    → OnErr r (g ≡ record h { marks = [] }) → HoldsSent g sent
delivered (Ok x) h g step sent whole answered done same = (done answered.0 answered.1).sent
delivered (Err e) h g step sent whole answered done same = none_sent g sent (ap (λ s. s.marks) same)

-- a service is asked once at most
pub asked_once : {T E : Type 0} (r : Result T E) (ran : Bool) (served served_then : ℕ)
    → OnOk r (served_then ≡ (if ran then served + 1 else served)) → OnErr r (served_then ≡ served) → served_then ≤ served + 1
asked_once (Ok x) true served served_then e same = omega (arith, e)
asked_once (Ok x) false served served_then e same = omega (arith, e)
asked_once (Err e) ran served served_then e' same = omega (arith, same)
