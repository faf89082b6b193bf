-- The names of hosts and of their calls, and hosts that were opened.
use Rattle.std.proofs.Common.{◌≡◌, ℕ, zero, suc, ◌+◌, Bool, true, false, Option, Some, List, [], ◌∷◌, length, refl, sym, ap, ◌∙◌, arith}
use Rattle.std.specs.Prelude.{slice_get}
use Rattle.plain_sets.specs.Maps.{get}
use Rattle.homa_plain.specs.declared.id.CallId.{CallId}
use Rattle.homa_plain.specs.declared.id.HostId.{HostId}
use Rattle.homa_plain.specs.declared.settings.Settings.{Settings}
use Rattle.homa_plain.specs.Calls.{is_call}
use Rattle.homa_plain.specs.Rows.{ClientRow, RowsOf, set_row}
use Rattle.homa_plain.specs.Host.{Host, new_host}
use Rattle.homa_plain.specs.World.{new_hosts}
use Rattle.homa_plain.proofs.CallOrder.{calls_are}
use Rattle.step_laws.proofs.Others.{set_row-others}
use Rattle.step_moves.proofs.Hosts.{none_some, some_is}

-- the rows of a client of which one is set are of its own calls, if that one is
pub own_set : (host : HostId) (rows : RowsOf ClientRow) (id : CallId) (o : Option ClientRow) → id.client ≡ host
    → ((q : CallId) (r : ClientRow) → get rows q ≡ Some r → q.client ≡ host)
    → (q : CallId) (r : ClientRow) → get (set_row rows id o) q ≡ Some r → q.client ≡ host
own_set host rows id o mine all q r is = by_call (is_call q id) refl where
  by_call : (b : Bool) → is_call q id ≡ b → q.client ≡ host
  by_call true e = ap (λ (x : CallId). x.client) ((calls_are q id).0 e) ∙ mine
  by_call false e = all q r (sym (set_row-others rows id o q e) ∙ is)

-- a host that was opened
pub record IsNew (s : Settings) (number : ℕ) (h : Host) : Type 0 where
  pub inc : ℕ
  pub is : h ≡ new_host s (record { 0 = number }) inc 0

pub hosts_new : (s : Settings) (n : ℕ) (incs : List ℕ) (i : ℕ) (h : Host) → slice_get (new_hosts s n incs) i ≡ Some h → IsNew s (n + i) h
hosts_new s n [] i h e = absurd (none_some h e)
hosts_new s n (inc ∷ incs) zero h e = let same : n ≡ n + 0 = omega arith in
    record { inc = inc; is = sym (some_is (new_host s (record { 0 = n }) inc 0) h e) ∙ ap (λ (m : ℕ). new_host s (record { 0 = m }) inc 0) same }
hosts_new s n (inc ∷ incs) (suc i) h e = let r = hosts_new s (suc n) incs i h e in let same : suc n + i ≡ n + suc i =
    omega arith in record { inc = r.inc; is = r.is ∙ ap (λ (m : ℕ). new_host s (record { 0 = m }) r.inc 0) same }

pub length-new : (s : Settings) (n : ℕ) (incs : List ℕ) → length (new_hosts s n incs) ≡ length incs
length-new s n [] = refl
length-new s n (inc ∷ incs) = ap suc (length-new s (suc n) incs)
