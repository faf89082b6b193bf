-- A call and a turn, which ask no box.
use Rattle.std.proofs.Common.{◌≡◌, ◌≢◌, ◌<◌, ◌≤◌, ℕ, ◌+◌, ◌^◌, Bool, true, false, Option, Some, None, List, [], ◌++◌, length, sym, ap, subst, ◌∙◌, arith}
use Rattle.std.specs.Prelude.{map, slice_get, is_some, IfSome, ◌==◌, nat_lt, nat_le, if◌then◌else◌}
use Rattle.homa_plain.specs.declared.id.HostId.{HostId}
use Rattle.homa_plain.specs.declared.settings.Settings.{Settings}
use Rattle.homa_plain.specs.declared.event.Event.{Event}
use Rattle.homa_plain.specs.declared.event.Event.TheVariants as event
use Rattle.homa_plain.specs.declared.fault.StartFault.{StartFault}
use Rattle.homa_plain.specs.declared.fault.StartFault.TheVariants.{Empty, TooLong, SelfCall, CallsFull, SeqSpent}
use Rattle.homa_plain.specs.declared.fault.WorldFault.TheVariants as fault_word
use Rattle.plain_sets.specs.Maps.{len}
use Rattle.homa_plain.specs.Calls.{is_host}
use Rattle.homa_plain.proofs.CallOrder.{hosts_are}
use Rattle.homa_plain.specs.Host.{Host}
use Rattle.homa_plain.specs.Work.{Work}
use Rattle.homa_plain.specs.Steps.{has_run, turn_step, call_step, start_fault}
use Rattle.homa_plain.specs.World.{World, Done, outcome, own_clock}
use Rattle.host_view.specs.Seen.{Seen}
use Rattle.homa_service.specs.Table.{place_of}
use Rattle.step_moves.proofs.Timed.{resend_of}
use Rattle.step_laws.proofs.OneAnswer as one
use Rattle.event_laws.proofs.Names.{call_named, turn_named}
use Rattle.event_laws.proofs.Apart.{call_apart, turn_apart}
use Rattle.event_laws.proofs.Events as events
use Rattle.event_laws.specs.Named.{IsOwnStep}
use Rattle.homa_plain.specs.Answers.{answering}
use Rattle.event_laws.specs.Stepping.{stepped_world, step_told, IsStepBy}
use Rattle.host_table.specs.declared.stage.Stage.{Stage}
use Rattle.host_table.specs.Staged.{hosts_of, frames_of, seats_of, spares_of, HasStepped}
use Rattle.homa_plain.specs.Answers.{shown}
use Rattle.node_turns.specs.Acting.{IsRefused}
use Rattle.node_hosts.specs.declared.parts.Last.TheVariants as last
use Rattle.node_hosts.specs.declared.parts.NodeParts.{NodeParts}
use Rattle.box_laws.specs.Boxes.{Allows, counted, all_counted, may_tell}
use Rattle.node_hosts.specs.Standing.{StandsFor, SeatFits, IsKept, Steps, told_of, may_tell_of}
use Rattle.box_laws.proofs.BoxLaws.{quiet_tell}
use Rattle.box_laws.proofs.ShownLaws.{none_shown}
use Rattle.node_hosts.proofs.StepLaws.{found, of_some, if_some, host_there, clock_there, within, fits_there, seat_later}
use Rattle.node_hosts.proofs.StepLaws.{after, stands_after, sent_after, numbers_after, told_after, kept_after}

-- a step of a host by its own settings and clock
step_by : (s t : Settings) (m now : ℕ) (p : World) (id : HostId) (e : Event) (bytes : List ℕ) (step : Settings → ℕ → Work) → s ≡ t → m ≡ now
    → IsStepBy [] s p id e bytes [] (step s m) → IsStepBy [] s p id e bytes [] (step t now)
step_by s t m now p id e bytes step same clock is =
    subst (λ n. IsStepBy [] s p id e bytes [] (step t n)) clock (subst (λ q. IsStepBy [] s p id e bytes [] (step q m)) same is)

module _ {S : Type 0} (served : S → ℕ) (allows : Allows S) (n : NodeParts S) (kept : IsKept served n)
    (now : ℕ) (id : HostId) (h : Seen) (step : Work) (st : Stage S) (at : slice_get (hosts_of n.stage) id.0 ≡ Some h)
    (stepped : HasStepped now id h step n.stage st)
    (own : IsOwnStep id step) (quiet : has_run step.told ≡ false) (seats : seats_of st ≡ seats_of n.stage) (spares : spares_of st ≡ spares_of n.stage) where
  pub quiet_step : (e : Event) (bytes : List ℕ) → ((p : World) → StandsFor n p → IsStepBy [] n.settings p id e bytes [] step)
      → Steps served allows n (after served n kept now id h step st at stepped) (λ v. outcome n.settings v e bytes) []
  quiet_step e bytes event p stands =
      let m : NodeParts S = after served n kept now id h step st at stepped in
      let told : told_of m ≡ step_told p [] step = told_after served n kept now id h step st at stepped p stands own.said in
      record {
        next = stepped_world p id step;
        stood = stands_after served n kept now id h step st at stepped p stands;
        done = λ later.
            ap (λ given. outcome n.settings (answering (given ++ later) p) e bytes) (ap shown told ∙ none_shown (length p.packets) step.told quiet)
            ∙ event p stands later ∙ ap (λ t. Done (record { world = answering later (stepped_world p id step); told = t })) (sym told);
        sent = sent_after served n kept now id h step st at stepped p;
        numbers = numbers_after served n kept now id h step st at stepped own.said;
        allowed = λ more may.
            subst (λ t. may_tell_of served allows n (t ++ more)) (sym told)
            (quiet_tell allows (map (counted served) (spares_of n.stage)) (all_counted served (seats_of n.stage))
            (length p.packets) step.told more own.said quiet
            (subst (λ xs. may_tell allows (all_counted served (seats_of n.stage)) (map (counted served) xs) more) spares
            (subst (λ xs. may_tell allows (all_counted served xs) (map (counted served) (spares_of st)) more) seats may)));
      }

  pub quiet_seats : (i : ℕ) → i < n.settings.hosts → SeatFits served (n.steps + 1) (place_of (seats_of st) i)
  quiet_seats i l = subst (λ xs. SeatFits served (n.steps + 1) (place_of xs i)) (sym seats)
      (seat_later served n.steps (n.steps + 1) (place_of (seats_of n.stage) i) (omega (arith)) (kept.seats i l))

-- a call that starts is of another host
not_self : (s : Settings) (h : Host) (id server : HostId) (request : List ℕ) → h.id ≡ id → start_fault s h server request ≡ None → server ≢ id
unfolding start_fault
not_self s h id server request name none same =
    by_tests (length request == 0) (nat_lt 1000000 (length request)) (is_host server h.id)
    (if nat_le s.calls (len h.clients) then Some CallsFull else if nat_le 4294967295 h.seq then Some SeqSpent else None)
    ((hosts_are server h.id).1 (same ∙ sym name)) none where
      by_tests : (a b c : Bool) (o : Option StartFault) → c ≡ true
          → (if a then Some Empty else if b then Some TooLong else if c then Some SelfCall else o) ≡ None → ⊥
      by_tests true b c o self e = cc
      by_tests false true c o self e = cc
      by_tests false false true o self e = cc
      by_tests false false false o self e = cc

module _ {S : Type 0} (served : S → ℕ) (allows : Allows S) (old n new : NodeParts S) (kept : IsKept served n) (few : n.steps < 2 ^ 57)
    (room : n ≡ record old { last = last.Nothing })
    (now : ℕ) (id : HostId) (clock : now ≡ n.clock + n.settings.skew) (l : id.0 < n.settings.hosts) (st : Stage S)
    (done : new ≡ record n { stage = st; last = last.Stepped id n.sent; sent = n.sent + length (frames_of st); steps = n.steps + 1 })
    (frames : length (frames_of st) ≤ 64) (seats : seats_of st ≡ seats_of n.stage) (spares : spares_of st ≡ spares_of n.stage) where
  pub turned : IfSome (slice_get (hosts_of n.stage) id.0) (λ h. HasStepped now id h (turn_step h.settings h.host now) n.stage st)
      → Steps served allows old new (λ v. outcome old.settings v (event.Turn id) []) [] × IsKept served new
  turned did =
      let r = found (hosts_of n.stage) id.0 (within served n kept id l) in
      let stepped : HasStepped now id r.h (turn_step r.h.settings r.h.host now) n.stage st =
      of_some (λ h. HasStepped now id h (turn_step h.settings h.host now) n.stage st) (slice_get (hosts_of n.stage) id.0) r.h r.at did in
      let f = fits_there served n kept id r.h r.at in
      let resend : 1 ≤ r.h.settings.resend = subst (λ (s : Settings). 1 ≤ s.resend) (sym f.settings) (resend_of n.settings kept.valid) in
      let step : Work = turn_step r.h.settings r.h.host now in
      let own = turn_named r.h.settings id resend r.h.host now f.name in
      let apart = turn_apart r.h.settings id resend r.h.host now f.name f.apart in
      let quiet = one.turn_unasked r.h.settings r.h.host now in (
        subst (λ m. Steps served allows m new (λ v. outcome m.settings v (event.Turn id) []) []) room
            (subst (λ x. Steps served allows n x (λ v. outcome n.settings v (event.Turn id) []) []) (sym done)
            (quiet_step served allows n kept now id r.h step st r.at stepped own quiet seats spares (event.Turn id) []
            (λ p stands. step_by n.settings r.h.settings (own_clock p id) now p id (event.Turn id) [] (λ s m. turn_step s r.h.host m) (sym f.settings)
            (clock_there n id p stands l now clock)
            (events.turn_done n.settings p id r.h.host (host_there n id p stands r.h r.at))))),
        subst (IsKept served) (sym done)
            (kept_after served n kept now id r.h step st r.at stepped own apart frames few (omega (arith, clock))
            (quiet_seats served allows n kept now id r.h step st r.at stepped own quiet seats spares)),
      )

  pub called : (server : HostId) (number : ℕ) (request bytes : List ℕ) → request ≡ bytes → server.0 < n.settings.hosts
      → IfSome (slice_get (hosts_of n.stage) id.0) (λ h. HasStepped now id h (call_step h.settings h.host now server number request) n.stage st)
      → IfSome (slice_get (hosts_of n.stage) id.0) (λ h. start_fault h.settings h.host server request ≡ None)
      → Steps served allows old new (λ v. outcome old.settings v (event.Call id server number) bytes) [] × IsKept served new
  called server number request bytes as_given m did fine =
      let r = found (hosts_of n.stage) id.0 (within served n kept id l) in
      let other = found (hosts_of n.stage) server.0 (within served n kept server m) in
      let stepped : HasStepped now id r.h (call_step r.h.settings r.h.host now server number request) n.stage st =
      of_some (λ h. HasStepped now id h (call_step h.settings h.host now server number request) n.stage st)
      (slice_get (hosts_of n.stage) id.0) r.h r.at did in
      let f = fits_there served n kept id r.h r.at in
      let none : start_fault r.h.settings r.h.host server request ≡ None =
      of_some (λ h. start_fault h.settings h.host server request ≡ None) (slice_get (hosts_of n.stage) id.0) r.h r.at fine in
      let step : Work = call_step r.h.settings r.h.host now server number request in
      let own = call_named r.h.settings id r.h.host now server number request f.name in
      let apart =
      call_apart r.h.settings id r.h.host now server number request f.name f.apart (not_self r.h.settings r.h.host id server request f.name.name none) in
      let quiet = one.call_unasked r.h.settings r.h.host now server number request in (
        subst (λ m. Steps served allows m new (λ v. outcome m.settings v (event.Call id server number) bytes) []) room
            (subst (λ x. Steps served allows n x (λ v. outcome n.settings v (event.Call id server number) bytes) []) (sym done)
            (subst (λ b. Steps served allows n (after served n kept now id r.h step st r.at stepped)
            (λ v. outcome n.settings v (event.Call id server number) b) []) as_given
            (quiet_step served allows n kept now id r.h step st r.at stepped own quiet seats spares (event.Call id server number) request
            (λ p stands. step_by n.settings r.h.settings (own_clock p id) now p id (event.Call id server number) request
            (λ s m. call_step s r.h.host m server number request) (sym f.settings) (clock_there n id p stands l now clock)
            (events.call_done n.settings p id server number request r.h.host (ap is_some (host_there n server p stands other.h other.at))
            (host_there n id p stands r.h r.at) (ap (λ (s : Settings). start_fault s r.h.host server request) (sym f.settings) ∙ none)))))),
        subst (IsKept served) (sym done)
            (kept_after served n kept now id r.h step st r.at stepped own apart frames few (omega (arith, clock))
            (quiet_seats served allows n kept now id r.h step st r.at stepped own quiet seats spares)),
      )

module _ {S : Type 0} (served : S → ℕ) (n : NodeParts S) (kept : IsKept served n) where
  -- a host's number is among those of another host's settings
  pub known_there : (id : HostId) (m : ℕ) → id.0 < n.settings.hosts → m < n.settings.hosts
      → IfSome (slice_get (hosts_of n.stage) id.0) (λ h. m < h.settings.hosts)
  known_there id m l k =
      let r = found (hosts_of n.stage) id.0 (within served n kept id l) in
      let same : r.h.settings.hosts ≡ n.settings.hosts = ap (λ (s : Settings). s.hosts) (fits_there served n kept id r.h r.at).settings in
      if_some (λ h. m < h.settings.hosts) (slice_get (hosts_of n.stage) id.0) r.h r.at (omega (arith, k, same))

  -- why a call can't start
  pub start_refused : (client server : HostId) (number : ℕ) (request bytes : List ℕ) (fault : StartFault) → request ≡ bytes
      → client.0 < n.settings.hosts → server.0 < n.settings.hosts
      → IfSome (slice_get (hosts_of n.stage) client.0) (λ h. start_fault h.settings h.host server request ≡ Some fault) → (p : World) → StandsFor n p
      → IsRefused n.settings p (event.Call client server number) bytes (fault_word.Start fault)
  start_refused client server number request bytes fault as_given l m why p stands =
      let r = found (hosts_of n.stage) client.0 (within served n kept client l) in
      let other = found (hosts_of n.stage) server.0 (within served n kept server m) in
      let f = fits_there served n kept client r.h r.at in
      subst (λ b. IsRefused n.settings p (event.Call client server number) b (fault_word.Start fault)) as_given
      (events.start_refused n.settings p client server number request r.h.host fault (ap is_some (host_there n server p stands other.h other.at))
      (host_there n client p stands r.h r.at)
      (ap (λ (s : Settings). start_fault s r.h.host server request) (sym f.settings)
      ∙ of_some (λ h. start_fault h.settings h.host server request ≡ Some fault) (slice_get (hosts_of n.stage) client.0) r.h r.at why))
