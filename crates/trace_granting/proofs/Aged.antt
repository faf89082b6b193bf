-- The messages of a host in the midst of its step: which of two came first is the same by its numbers and by the lines.
use Rattle.std.proofs.Common.{◌≡◌, ℕ, ◌<◌, Option, Some, None, length, inl, inr, refl, arith}
use Rattle.homa_plain.specs.declared.id.HostId.{HostId}
use Rattle.homa_plain.specs.declared.settings.Settings.{Settings}
use Rattle.trace_rules.specs.Parts.{Part}
use Rattle.homa_plain.specs.Host.{Host, entries_from}
use Rattle.homa_plain.specs.Timers.{Place, OfClient}
use Rattle.homa_plain.specs.Work.{Work}
use Rattle.homa_plain.specs.Steps.{next_id, ended}
use Rattle.trace_rules.specs.View.{View}
use Rattle.trace_rules.specs.Laws.{Holds}
use Rattle.trace_rules.specs.Granting.{Granting}
use Rattle.homa_plain.specs.World.{World}
use Rattle.step_laws.specs.StepLaws.{HasOwnOrders}
use Rattle.trace_steps.specs.Stands.{put, said_so_far}
use Rattle.trace_once.specs.Kept.{IsKept}
use Rattle.trace_returned.specs.Tales.{IsTrue}
use Rattle.trace_granting.proofs.Messages.{part_in}
use Rattle.trace_granting.proofs.Window.{PartsWithin}
use Rattle.trace_granting.proofs.GrantFold.{IsLawful, IsReady, ended_lawful}
use Rattle.trace_granting.proofs.Ready.{matched_of, granted_of, peers_of}
use Rattle.trace_granting.proofs.Each.{IsNow, now_ended}
use Rattle.trace_granting.proofs.Ages.{number, IsInOrder, AgedNumber, AgedPart, number_none, part_none, part_raises, order_here, order_elsewhere}
use Rattle.trace_granting.proofs.Ages.{placed_later}

-- of a host's messages, and of those of all others, against the lines before its step
pub record IsAged (w : World) (v : View) (host : HostId) (before : View) (work : Work) : Type 0 where
  pub order : IsInOrder host work.host (said_so_far w v work).now
  pub elsewhere : (n : HostId) (g : Host) → (n ≡ host → ⊥) → IsInOrder n g before.now → IsInOrder n g (said_so_far w v work).now
  pub placed : (q : Place) (y : Part) → part_in (said_so_far w v work).now q ≡ Some y → y.order < (said_so_far w v work).place

-- a host before its step, and the lines
pub record IsSet (v : View) (host : HostId) (h : Host) : Type 0 where
  pub order : IsInOrder host h v.now
  pub below : (q : Place) (a : ℕ) → number h q ≡ Some a → a < h.order
  pub placed : (q : Place) (y : Part) → part_in v.now q ≡ Some y → y.order < v.place

-- no message is new
abbrev pub OldNumber : Host → View → HostId → Place → Option ℕ → Type 0
OldNumber h v host = AgedNumber h v host (OfClient (next_id h)) (Unit {0}) ⊥ (Unit {0}) ⊥

abbrev pub OldPart : Host → View → HostId → Place → Option Part → Type 0
OldPart h v host = AgedPart h v host (OfClient (next_id h)) (Unit {0}) ⊥ (Unit {0}) ⊥

abbrev pub IsOld : Settings → World → View → HostId → Host → View → Work → Type 0
IsOld s w v host h before =
    IsNow s w v host before.place (OldNumber h before host) (number_none h before host (OfClient (next_id h)) (Unit {0}) ⊥ (Unit {0}) ⊥)
    (OldPart h before host) (part_none h before host (OfClient (next_id h)) (Unit {0}) ⊥ (Unit {0}) ⊥)
    (part_raises h before host (OfClient (next_id h)) (Unit {0}) ⊥ (Unit {0}) ⊥)

pub old_number : (h : Host) (v : View) (host : HostId) (q : Place) → OldNumber h v host q (number h q)
old_number h v host q = inr (inl (refl, λ _. tt))

pub old_part : (h : Host) (v : View) (host : HostId) (q : Place) → OldPart h v host q (part_in v.now q)
old_part h v host q = by_part (part_in v.now q) refl where
  by_part : (o : Option Part) → part_in v.now q ≡ o → OldPart h v host q o
  by_part None e = inl refl
  by_part (Some y) e = inr (inl (record { before = y; had = e; part = y; has = refl; order = refl; host_is = refl; why = λ _. tt }))

module _ (s : Settings) (w : World) (v : View) (host : HostId) where
  pub old_aged : (h : Host) (before : View) (work : Work) → IsSet before host h → IsOld s w v host h before work → IsAged w v host before work
  old_aged h before work k old =
      let u : View = said_so_far w v work in
      record {
        order = order_here h before host (OfClient (next_id h)) (Unit {0}) ⊥ (Unit {0}) ⊥ k.order k.below k.placed work.host u.now old.numbers
            old.parts (λ _ bad. absurd bad) (λ bad. absurd bad);
        elsewhere = λ n g apart same. order_elsewhere h before host (OfClient (next_id h)) (Unit {0}) ⊥ (Unit {0}) ⊥ n g u.now apart same old.parts;
        placed = placed_later h before host (OfClient (next_id h)) (Unit {0}) ⊥ (Unit {0}) ⊥ k.placed u.now u.place old.late (λ bad. absurd bad) old.parts;
      }

  -- what the end of a step does
  pub record Ends (before : View) (work : Work) : Type 0 where
    pub holds : Holds Granting v (entries_from (length w.packets) work.told)
    pub within : PartsWithin s.window (said_so_far w v work).now
    pub aged : IsAged w v host before work

  module _ (stands : host.0 < length w.hosts) (before : View) (work : Work) (own : HasOwnOrders work.host)
      (kept : IsKept s (put w host work) (said_so_far w v work)) (same : IsTrue s (put w host work) (said_so_far w v work))
      (lawful : IsLawful s w v host work) (aged : IsAged w v host before work) where
    abbrev u : View
    u = said_so_far w v work

    ready : IsReady s w v host work
    ready = record {
      lawful = lawful;
      matched = matched_of s w v host work stands lawful.own kept same own aged.order;
      granted = granted_of s w v host work stands lawful.own kept same;
      peers = peers_of s w v host work stands lawful.own kept same;
    }

    start : IsOld s w v host work.host (said_so_far w v work) work
    start = record {
      numbers = λ q. old_number work.host u host q;
      parts = λ q. old_part work.host u host q;
      name = lawful.name;
      own = lawful.own;
      late = omega arith;
    }

    pub step_ends : Ends before (ended s work)
    step_ends =
        let last = now_ended s w v host (said_so_far w v work).place (OldNumber work.host (said_so_far w v work) host)
        (number_none work.host (said_so_far w v work) host (OfClient (next_id work.host)) (Unit {0}) ⊥ (Unit {0}) ⊥)
        (OldPart work.host (said_so_far w v work) host)
        (part_none work.host (said_so_far w v work) host (OfClient (next_id work.host)) (Unit {0}) ⊥ (Unit {0}) ⊥)
        (part_raises work.host (said_so_far w v work) host (OfClient (next_id work.host)) (Unit {0}) ⊥ (Unit {0}) ⊥) work start in
        let a = old_aged work.host (said_so_far w v work) (ended s work)
        (record { order = aged.order; below = λ q a e. own.arriving.below q a e; placed = aged.placed }) last in
        let l = ended_lawful s w v host work ready in
        record {
          holds = l.holds;
          within = l.near.now;
          aged = record { order = a.order; elsewhere = λ n g apart same. a.elsewhere n g apart (aged.elsewhere n g apart same); placed = a.placed };
        }
