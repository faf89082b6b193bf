use Rattle.std.proofs.Common.{sym, ap, subst, ◌∙◌, Option, IfSome}
use Rattle.homa_timers.specs.Armed as armed
use Rattle.homa_pacer.specs.Pace as pace
use Rattle.host_view.specs.Follow.{booked}
use Rattle.host_books.specs.declared.books.Books.{Books}
use Rattle.host_books.specs.declared.books.Waiting.{Waiting}
use Rattle.host_books.specs.Duties.{noted, timers_in, ready_in}
use Rattle.homa_host.proofs.parts.client_goes_on.Goals as goal

pub follow_waiting-requires-clause-own : goal.follow_waiting-requires-clause-own
follow_waiting-requires-clause-own c =
    let m = c.requires.may in
    let own = subst (λ (o : Option Waiting). IfSome o (λ w. pace.IsOwnOrder c.args.place w.order c.args.books.now.pacer.ready))
    (sym (c.client_waiting.ensures m.id m.row m.pool m.stands m.inside)) m.own.waiting in
    let is = λ (b : Books). IfSome c.client_waiting.result (λ w. pace.IsOwnOrder c.args.place w.order b.pacer.ready) in
    subst is (sym c.note_arrival.ensures) (subst is (sym c.follow_timer.ensures) own)

pub returns : goal.returns
returns c id r pool stands inside =
    let old = c.args.books.now in
    let n = c.args.place in
    let timer = c.client_timer.ensures id r pool stands inside in
    let waiting = c.client_waiting.ensures id r pool stands inside in
    c.follow_waiting.ensures
    ∙ ap (λ (b : Books). record b {
      pacer = record b.pacer { ready = booked pace.ready_key (λ (w : pace.Ready). w.slot) n (ready_in n c.client_waiting.result) b.pacer.ready };
    }) (c.note_arrival.ensures ∙ ap (λ (b : Books). record b { changed = noted n b }) c.follow_timer.ensures)
    ∙ (λ i. record old {
      timers = record old.timers { timers = booked armed.timer_key (λ (t : armed.Timer). t.slot) n (timers_in n (timer i)) old.timers.timers };
      pacer = record old.pacer { ready = booked pace.ready_key (λ (w : pace.Ready). w.slot) n (ready_in n (waiting i)) old.pacer.ready };
      changed = noted n old;
    })
