-- The lifetime invariant in the midst of a host's step, and a move of it.
use Rattle.std.proofs.Common.{◌≡◌, ℕ, ◌<◌, Bool, true, false, Option, Some, List, [], length, refl, sym, subst, ◌∙◌}
use Rattle.std.specs.Prelude.{slice_get, slice_set, slice_index_or}
use Rattle.std.specs.List.{AllByRecursion}
use Rattle.plain_sets.specs.Maps.{get}
use Rattle.homa_plain.specs.declared.id.CallId.{CallId}
use Rattle.homa_plain.specs.declared.id.HostId.{HostId}
use Rattle.homa_plain.specs.declared.settings.Settings.{Settings}
use Rattle.homa_plain.specs.Calls.{is_host}
use Rattle.homa_plain.specs.Rows.{ClientRow, ServerRow, RowsOf}
use Rattle.homa_plain.specs.Host.{Host, Told, packets_in, entries_from, finished_at}
use Rattle.homa_plain.specs.Work.{Work}
use Rattle.trace_rules.specs.View.{View}
use Rattle.trace_rules.specs.Laws.{Holds, Once}
use Rattle.homa_plain.specs.World.{World, stamped}
use Rattle.homa_plain.proofs.CallOrder.{hosts_are}
use Rattle.step_laws.proofs.Places.{all-append}
use Rattle.trace_steps.specs.Stands.{put, said_so_far, amid}
use Rattle.step_moves.specs.Worlds.{at_host}
use Rattle.step_moves.proofs.Moves.{IsMove}
use Rattle.step_moves.proofs.Hosts.{there, elsewhere, apart}
use Rattle.trace_steps.proofs.Frame.{next_number, move_packets}
use Rattle.trace_once.specs.Lifetime.{IsOver}
use Rattle.trace_once.specs.Kept.{PacketFits, call_of, IsKept}
use Rattle.trace_once.proofs.OnceLines.{once_append}
use Rattle.trace_once.proofs.Goes.{AllGo, packets_later, lists_later}

-- a host's rows as a client are of its own calls
abbrev pub AreOwn : HostId → RowsOf ClientRow → Type 0
AreOwn host rows = (id : CallId) (r : ClientRow) → get rows id ≡ Some r → id.client ≡ host

module _ (s : Settings) (w : World) (v : View) (host : HostId) (now : ℕ) where
  -- all is so that is so between two steps, at this tick of the host; and once held at each line so far
  pub record IsAmid (work : Work) : Type 0 where
    pub kept : IsKept s (put w host work) (said_so_far w v work)
    pub name : work.host.id ≡ host
    pub last : work.host.last ≡ now
    pub own : AreOwn host work.host.clients
    pub once : Holds Once v (entries_from (length w.packets) work.told)

  -- what comes of a move
  pub record Came (work new : Work) : Type 0 where
    pub goes : AllGo s (amid w v host work) (amid w v host new)
    pub amid : IsAmid new

  -- calls of this host's lists of finished calls are over
  abbrev pub AreOver : Work → (HostId → List (ℕ × ℕ)) → Type 0
  AreOver work calls = (m : HostId) → AllByRecursion (λ (c : ℕ × ℕ). IsOver m (amid w v host work (call_of host c) m)) (calls m)

  module _ (stands : host.0 < length w.hosts) where
    -- those of the host that acts
    pub own_lists : (work : Work) → IsAmid work → AreOver work (finished_at work.host)
    own_lists work k m =
        subst (λ o. AllByRecursion (λ (c : ℕ × ℕ). IsOver m (amid w v host work (call_of host c) m)) (at_host [] (λ h. finished_at h m) o))
        (there w.hosts host.0 work.host stands) (k.kept.finished host m)

    pub lists_still : (work new : Work) → IsAmid work → AllGo s (amid w v host work) (amid w v host new) → new.host.finished ≡ work.host.finished
        → AreOver new (finished_at new.host)
    lists_still work new k goes same m =
        subst (λ (f : List (List (ℕ × ℕ))). AllByRecursion (λ (c : ℕ × ℕ). IsOver m (amid w v host new (call_of host c) m)) (slice_index_or f m.0 []))
        (sym same)
        (lists_later s (amid w v host work) (amid w v host new) goes host m (finished_at work.host m) (own_lists work k m))

    module _ (work new : Work) (told : List Told) (clients : RowsOf ClientRow) (servers : RowsOf ServerRow) (move : IsMove work new told clients servers) where
      all_lists : IsAmid work → AllGo s (amid w v host work) (amid w v host new) → AreOver new (finished_at new.host)
          → (n m : HostId)
          → AllByRecursion (λ (c : ℕ × ℕ). IsOver m (amid w v host new (call_of n c) m))
          (at_host [] (λ h. finished_at h m) (slice_get (slice_set w.hosts host.0 new.host) n.0))
      all_lists k goes over n m = by_host (is_host host n) refl where
        lists : HostId → Option Host → Type 0
        lists x o = AllByRecursion (λ (c : ℕ × ℕ). IsOver m (amid w v host new (call_of x c) m)) (at_host [] (λ h. finished_at h m) o)

        by_host : (b : Bool) → is_host host n ≡ b → lists n (slice_get (slice_set w.hosts host.0 new.host) n.0)
        by_host true e = subst (λ (x : HostId). lists x (slice_get (slice_set w.hosts host.0 new.host) x.0)) ((hosts_are host n).0 e)
            (subst (lists host) (sym (there w.hosts host.0 new.host stands)) (over m))
        by_host false e =
            subst (lists n) (elsewhere w.hosts host.0 n.0 work.host (apart host n e) ∙ sym (elsewhere w.hosts host.0 n.0 new.host (apart host n e)))
            (lists_later s (amid w v host work) (amid w v host new) goes n m
            (at_host [] (λ h. finished_at h m) (slice_get (slice_set w.hosts host.0 work.host) n.0)) (k.kept.finished n m))

      -- a move keeps all, where every call goes on, its packets fit, its host's lists are right, and once holds at its lines
      pub moved : IsAmid work → AllGo s (amid w v host work) (amid w v host new)
          → AllByRecursion (PacketFits s (amid w v host new)) (stamped w.clock (packets_in told))
          → AreOver new (finished_at new.host) → AreOwn host clients
          → Holds Once (said_so_far w v work) (entries_from (next_number w v host work new told clients servers move) told) → Came work new
      moved k goes fits over own once = record {
        goes = goes;
        amid = record {
          kept = record {
            calls = λ q n. (goes q n).kept;
            packets = subst (AllByRecursion (PacketFits s (amid w v host new))) (sym (move_packets w v host work new told clients servers move))
                (all-append (PacketFits s (amid w v host new)) (put w host work).packets (stamped w.clock (packets_in told))
                (packets_later s (amid w v host work) (amid w v host new) goes (put w host work).packets k.kept.packets) fits);
            finished = all_lists k goes over;
          };
          name = move.id ∙ k.name;
          last = move.last ∙ k.last;
          own = subst (AreOwn host) (sym move.at_clients) own;
          once = subst (λ (t : List Told). Holds Once v (entries_from (length w.packets) t)) (sym move.grown)
              (once_append v (length w.packets) work.told told k.once once);
        };
      }
