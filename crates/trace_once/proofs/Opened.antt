-- In a world that is just opened nothing is so of any call.
use Rattle.std.proofs.Common.{◌≡◌, ℕ, zero, suc, false, None, List, [], ◌∷◌, refl, sym, ap, subst, ◌∙◌, arith}
use Rattle.std.specs.Prelude.{slice_get}
use Rattle.std.specs.List.{AllByRecursion}
use Rattle.std.proofs.lemmas.Bool.{false≢true}
use Rattle.plain_sets.specs.Maps.{get}
use Rattle.plain_sets.proofs.MapLaws.{get-empty}
use Rattle.homa_plain.specs.declared.id.HostId.{HostId}
use Rattle.homa_plain.specs.declared.settings.Settings.{Settings}
use Rattle.homa_plain.specs.Calls.{call_cmp}
use Rattle.homa_plain.specs.Entries.{PlainSettings}
use Rattle.homa_plain.specs.Host.{Host, new_host, finished_at}
use Rattle.homa_plain.specs.Rules.{Answer}
use Rattle.trace_rules.specs.View.{View, at_start}
use Rattle.trace_rules.specs.Seen.{seen}
use Rattle.homa_plain.specs.World.{World, new_hosts, new_world}
use Rattle.trace_steps.specs.Stands.{Stand, state_of, stand}
use Rattle.step_moves.specs.Worlds.{at_host}
use Rattle.trace_once.specs.Lifetime.{Times, times, took_part, IsOver, RowFits, Lifetime}
use Rattle.trace_once.specs.Kept.{call_of, IsKept}
use Rattle.step_moves.proofs.Hosts.{none_some}
use Rattle.trace_once.proofs.Restarted.{none_finished}

-- a call that wasn't made, at a host that has done nothing
nothing_yet : (s : Times) (n : HostId) (v : Stand) → v.last ≡ 0 → v.called ≡ None → v.client ≡ None → v.server ≡ None → v.ran ≡ false → Lifetime s n v
nothing_yet s n v last called client server ran = record {
  last = omega (arith, last);
  named = λ c e. absurd (none_some c (sym called ∙ e));
  client = λ r e. absurd (none_some r (sym client ∙ e));
  made = λ e. absurd (false≢true (sym (ap (took_part v.ran) server ∙ ran) ∙ e));
  row = subst (RowFits n v) (sym server) tt;
  sent = λ e. absurd (false≢true (sym ran ∙ e));
  covered = λ r y e is. absurd (none_some r (sym client ∙ e));
}

-- what each new host has of something
pub new_at : {A : Type 0} (none : A) (f : Host → A) (s : Settings) (incs : List ℕ) (k n : ℕ)
    → ((id : HostId) (inc : ℕ) → f (new_host s id inc 0) ≡ none) → at_host none f (slice_get (new_hosts s k incs) n) ≡ none
new_at none f s [] k n same = refl
new_at none f s (inc ∷ incs) k zero same = same _ inc
new_at none f s (inc ∷ incs) k (suc n) same = new_at none f s incs (suc k) n same

pub opened_kept : (s : Settings) (incs : List ℕ) (clock boxes : ℕ) (answers : List Answer)
    → IsKept s (new_world s incs clock boxes answers) (seen (at_start clock) (PlainSettings s))
unfolding new_world seen
opened_kept s incs clock boxes answers = record {
  calls = λ q n. nothing_yet (times s) n (stand w v q n)
      (new_at 0 (λ h. h.last) s incs 0 n.0 (λ _ _. refl)) (get-empty call_cmp q)
      (new_at None (λ h. get h.clients q) s incs 0 q.client.0 (λ _ _. get-empty call_cmp q))
      (new_at None (λ h. state_of (get h.servers q)) s incs 0 n.0 (λ _ _. ap state_of (get-empty call_cmp q))) refl;
  packets = tt;
  finished = λ n m. subst (λ (cs : List (ℕ × ℕ)). AllByRecursion (λ (c : ℕ × ℕ). IsOver m (stand w v (call_of n c) m)) cs)
      (sym (new_at [] (λ h. finished_at h m) s incs 0 n.0 (λ _ _. none_finished s.hosts m.0))) tt;
} where
  w : World
  w = new_world s incs clock boxes answers

  v : View
  v = seen (at_start clock) (PlainSettings s)
