-- An asking host is at rest between two steps.
use Rattle.std.proofs.Common.{◌≡◌, ◌≤◌, ℕ, Option, List, [], Result, Ok, Err, length, sym, ap, subst, ◌∙◌, arith}
use Rattle.std.specs.Prelude.{OnOk, OnErr}
use Rattle.std.proofs.Math.Seq.{take-nil}
use Rattle.plain_sets.specs.Maps as maps
use Rattle.plain_sets.specs.Maps.{empty}
use Rattle.plain_sets.specs.Ordered.{ordered, firsts}
use Rattle.homa_plain.specs.declared.id.HostId.{HostId}
use Rattle.homa_plain.specs.declared.settings.Settings.{Settings}
use Rattle.homa_plain.specs.Grants.{grants_from}
use Rattle.homa_plain.specs.Host.{Host}
use Rattle.homa_plain.specs.Packets.{Packet}
use Rattle.homa_plain.specs.Rules.{Answer}
use Rattle.homa_plain.specs.Sending.{Arriving}
use Rattle.homa_plain.specs.Work.{Work, begun}
use Rattle.homa_plain.specs.Credit.{refilled}
use Rattle.homa_plain.specs.Steps.{acts, starts, comes, call_step, arrival_step, turn_step}
use Rattle.host_view.specs.declared.outbox.SentFrame.{SentFrame}
use Rattle.host_view.specs.Seen.{Seen}
use Rattle.host_view.specs.Marks.{IsAnswer}
use Rattle.host_view.specs.Done.{IsDone}
use Rattle.driven_host.specs.Asking.{opened}
use Rattle.host_books.specs.Granted.{due_grants}
use Rattle.host_books.proofs.GrantsRest.{ended_rests}
use Rattle.driven_host.specs.Turns.{IsAtRest}

-- ---- no GRANT is due

-- of a host without calls
pub opened_rests : (h : Seen) (s : Settings) (id : HostId) (inc last : ℕ) → h ≡ (opened s id inc last).host → last ≤ 1000000002000 → IsAtRest h
unfolding empty maps.checked ordered firsts
opened_rests h s id inc last is le = subst IsAtRest (sym is) (record {
  clock = le;
  granted = ap (λ cs. grants_from (λ (a : Arriving). a.message) s.window (length cs) 0 cs) (take-nil {A = Arriving} s.overcommit);
})

-- after each step
pub call_rests : (s : Settings) (h : Host) (now : ℕ) (server : HostId) (number : ℕ) (request : List ℕ)
    → due_grants s (call_step s h now server number request).host ≡ []
unfolding call_step
call_rests s h now server number request = ended_rests s (starts s server number request (begun h now))

pub arrival_rests : (s : Settings) (h : Host) (now : ℕ) (packet : Option Packet) (a : Answer) → due_grants s (arrival_step s h now packet a).host ≡ []
unfolding arrival_step
arrival_rests s h now packet a = ended_rests s (comes s packet a (begun h now))

pub turn_rests : (s : Settings) (h : Host) (now : ℕ) → due_grants s (turn_step s h now).host ≡ []
unfolding turn_step
turn_rests s h now = ended_rests s (acts s (begun (refilled s (record h { last = now })) now))

-- ---- the host that is seen

module _ (h g : Seen) (frames : List SentFrame) (now : ℕ) (le : now ≤ 1000000002000) where
  -- a step that was done
  pub after : (step : Work) (whole : List ℕ) → due_grants h.settings step.host ≡ [] → IsDone h step g frames whole → g.host.last ≡ now → IsAtRest g
  after step whole none done last = record { clock = omega (arith, le, last); granted = (λ i. due_grants (done.settings i) (done.host i)) ∙ none }

  -- nothing happened
  still : g ≡ record h { marks = [] } → IsAtRest h → IsAtRest g
  still same rest = record {
    clock = subst (λ (x : Seen). x.host.last ≤ 1000000002000) (sym same) rest.clock;
    granted = ap (λ (x : Seen). due_grants x.settings x.host) same ∙ rest.granted;
  }

  -- a call, which may not start
  pub after_call : {T E : Type 0} (r : Result T E) (step : Work) → due_grants h.settings step.host ≡ []
      → OnOk r ((whole : List ℕ) → IsDone h step g frames whole) → OnOk r (g.host.last ≡ now)
      → OnErr r (g ≡ record h { marks = [] }) → IsAtRest h → IsAtRest g
  after_call (Ok x) step none done last same rest = after step [] none (done []) last
  after_call (Err e) step none done last same rest = still same rest

  -- a delivery, which may ask
  pub after_delivery : {T E : Type 0} (r : Result T E) (step : Answer → Work) (whole : List ℕ)
      → ((a : Answer) → due_grants h.settings (step a).host ≡ []) → OnOk r ((a : Answer) × IsAnswer g a)
      → OnOk r ((a : Answer) → IsAnswer g a → IsDone h (step a) g frames whole) → OnOk r (g.host.last ≡ now) → OnErr r (g ≡ record h { marks = [] })
      → IsAtRest h → IsAtRest g
  after_delivery (Ok x) step whole none answered done last same rest = after (step answered.0) whole (none answered.0) (done answered.0 answered.1) last
  after_delivery (Err e) step whole none answered done last same rest = still same rest
