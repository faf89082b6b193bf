-- The clock goes on by any number of ticks, or stands, with one line: all stays so, and the law holds at the line.
use Rattle.std.proofs.Common.{◌≡◌, ℕ, ◌+◌, ◌≤◌, inl, refl, sym, ap, subst, ◌∙◌, arith}
use Rattle.plain_sets.specs.Maps.{get}
use Rattle.homa_plain.specs.declared.id.CallId.{CallId}
use Rattle.homa_plain.specs.declared.id.HostId.{HostId}
use Rattle.homa_plain.specs.declared.settings.Settings.{Settings}
use Rattle.homa_plain.specs.Entries.{PlainEntry, PlainClock}
use Rattle.trace_rules.specs.View.{View}
use Rattle.trace_rules.specs.Seen.{seen}
use Rattle.homa_plain.specs.World.{World}
use Rattle.trace_steps.specs.Told.{IsTold}
use Rattle.trace_steps.proofs.Runs.{ran_same, unrun_same}
use Rattle.trace_steps.specs.Stands.{Stand, stand}
use Rattle.trace_steps.proofs.Frame.{stand_is}
use Rattle.trace_once.specs.Lifetime.{times}
use Rattle.trace_once.specs.Kept.{IsKept}
use Rattle.trace_once.proofs.Later.{at, later_at, lifetime_at}
use Rattle.trace_once.proofs.Goes.{Goes, AllGo}
use Rattle.trace_once.proofs.Between.{kept_later}
use Rattle.trace_once.proofs.Restarted.{clock_calls, still_stand}
use Rattle.trace_fails.proofs.FairLaw.{ticked_fair}
use Rattle.trace_returned.proofs.Beginning.{closed_line, clock_fresh, line_true}
use Rattle.trace_granting.proofs.Window.{parts_within}
use Rattle.trace_granting.proofs.GrantLaw.{line_has, clock_parts, line_place, line_settings}
use Rattle.trace_laws.proofs.ShapedLines.{line_behind}
use Rattle.node_trace_laws.proofs.Lawful.{IsLawful, IsObeyed}

module _ (s : Settings) (w : World) (v : View) (t : ℕ) (onward : w.clock ≤ t) where
  abbrev risen : World
  risen = record w { clock = t }

  abbrev line : PlainEntry
  line = PlainClock t

  told : IsTold s w v → IsTold s (record w { clock = t }) (seen v (PlainClock t))
  unfolding seen
  told k = record {
    valid = k.valid;
    settings = k.settings;
    tick = refl;
    leads = k.leads;
    packets = k.packets;
    names = k.names;
    lives = λ id h is. let l = k.lives id h is in record { first = l.first; now = l.now; later = l.later; told = l.told; sent = l.sent };
    lived = k.lived;
    clocks = record { lead = k.clocks.lead; last = λ id h is. omega (arith, k.clocks.last id h is, onward); each = k.clocks.each };
    dated = k.dated;
  }

  kept : IsKept s w v → IsKept s (record w { clock = t }) (seen v (PlainClock t))
  kept k = kept_later s w v (record w { clock = t }) (seen v (PlainClock t)) k goes refl (λ n m. inl refl) where
    now : (q : CallId) (n : HostId) → stand (record w { clock = t }) (seen v (PlainClock t)) q n ≡ at (stand w v q n) t (stand w v q n).last (stand w v q n).old
    now q n = stand_is _ _ refl refl refl (ap (λ c. get c q) (clock_calls v t)) refl refl
        (ran_same v (seen v (PlainClock t)) n q (unrun_same v (PlainClock t) tt))

    goes : AllGo s (stand w v) (stand (record w { clock = t }) (seen v (PlainClock t)))
    goes q n =
        let old : Stand = stand w v q n in
        subst (Goes (times s) n old) (sym (now q n)) (record {
          later = later_at (times s) old t old.last old.old onward (omega arith) (λ e. e);
          kept = lifetime_at (times s) old t old.last old.old onward (omega arith) (λ e. e) n (omega (arith, (k.calls q n).last, onward)) (k.calls q n);
        })

  pub risen_lawful : IsLawful s w v → IsLawful s (record w { clock = t }) (seen v (PlainClock t))
  risen_lawful k = record {
    so = (
      told k.so.0,
      kept k.so.1,
      line_true s w (record w { clock = t }) v (PlainClock t) tt tt (clock_fresh v t) refl
          (λ q m. (
            t,
            (stand w v q m).last,
            (stand w v q m).old,
            ap (λ (x : Stand). at x t x.last x.old)
                (still_stand w v (PlainClock t) tt (clock_calls v t) q m),
          )) k.so.2,
      λ q c f. k.so.3 q c (ap (λ m. get m q) (sym (clock_calls v t)) ∙ f),
    );
    fair = ticked_fair s w v t k.fair;
    grants = line_has s w (record w { clock = t }) v (seen v (PlainClock t)) refl (clock_parts v t) (let next : (seen v (PlainClock t)).place ≡ v.place + 1 =
        line_place v (PlainClock t) in omega (arith, next)) k.grants;
    many = k.many;
    behind = line_behind v (PlainClock t) refl k.behind;
  }

  pub risen_obeyed : IsLawful s w v → IsObeyed v (PlainClock t)
  risen_obeyed k = record {
    shape = λ cause. (k.behind, tt);
    once = tt;
    returned = tt;
    closed = closed_line v (PlainClock t) k.so.2.closed;
    times_out = tt;
    granting = parts_within s.window (seen v (PlainClock t)) (ap (λ (x : Settings). x.window) ((line_settings v).2 t ∙ (k.so.0).settings))
        (risen_lawful k).grants.within_all;
  }
