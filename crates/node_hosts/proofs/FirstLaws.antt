-- The hosts with which a node begins.
use Rattle.std.proofs.Common.{◌≡◌, ◌<◌, ◌≤◌, ℕ, zero, suc, ◌+◌, Some, None, List, [], ◌∷◌, length, refl, sym, ap, subst, ◌∙◌, arith}
use Rattle.std.specs.Prelude.{map, take, drop, replicate, slice_get}
use Rattle.std.specs.List.{AllByRecursion}
use Rattle.plain_sets.proofs.MapLaws.{get-empty}
use Rattle.homa_plain.specs.declared.id.HostId.{HostId}
use Rattle.homa_plain.specs.declared.settings.Settings.{Settings}
use Rattle.homa_plain.specs.Settings.{IsValid}
use Rattle.homa_plain.specs.Host.{Host, new_host}
use Rattle.homa_plain.specs.World.{new_world, new_hosts}
use Rattle.homa_service.specs.Table.{place_of}
use Rattle.host_table.specs.Staged.{Known, known_of, known_in, known_first, seats_of, spares_of}
use Rattle.homa_node.specs.Served.{IsFirstIn}
use Rattle.node_hosts.specs.declared.parts.Last.TheVariants as last
use Rattle.node_hosts.specs.declared.parts.NodeParts.{NodeParts}
use Rattle.homa_plain.specs.Entries.{PlainEntry, PlainSettings}
use Rattle.box_laws.specs.Boxes.{Allows, counted, all_counted, may_tell}
use Rattle.box_laws.specs.First.{AreAllowed}
use Rattle.node_hosts.specs.Standing.{StandsFor, HostFits, SeatFits, IsKept, IsLast, may_tell_of}

none_some : {X : Type 0} (x : X) → None ≡ Some x → ⊥
none_some x e = cc

hosts_of_known : (s : Settings) (hosts : List Host) → map (λ (k : Known). k.host) (map (known_in s) hosts) ≡ hosts
hosts_of_known s [] = refl
hosts_of_known s (h ∷ hosts) = ap (λ hs. h ∷ hs) (hosts_of_known s hosts)

length-new : (s : Settings) (m : ℕ) (incs : List ℕ) → length (new_hosts s m incs) ≡ length incs
length-new s m [] = refl
length-new s m (inc ∷ incs) = ap suc (length-new s (suc m) incs)

length-known : (s : Settings) (m : ℕ) (incs : List ℕ) → length (map (known_in s) (new_hosts s m incs)) ≡ length incs
length-known s m [] = refl
length-known s m (inc ∷ incs) = ap suc (length-known s (suc m) incs)

-- a host that has done nothing
pub record IsNew (s : Settings) (id : HostId) (k : Known) : Type 0 where
  pub inc : ℕ
  pub is : known_in s (new_host s id inc 0) ≡ k

host_is : (s : Settings) (m : ℕ) (incs : List ℕ) (i : ℕ) (k : Known) → slice_get (map (known_in s) (new_hosts s m incs)) i ≡ Some k
    → IsNew s (record { 0 = m + i }) k
host_is s m [] i k e = absurd (none_some k e)
host_is s m (inc ∷ incs) zero k e =
    record {
      inc = inc;
      is = ap (λ x. known_in s (new_host s (record { 0 = x }) inc 0)) (omega (arith))
          ∙ some_is (known_in s (new_host s (record { 0 = m }) inc 0)) k e;
    } where
      some_is : (x y : Known) → Some x ≡ Some y → x ≡ y
      some_is x y e = cc
host_is s m (inc ∷ incs) (suc i) k e =
    let r = host_is s (suc m) incs i k e in
    record { inc = r.inc; is = ap (λ x. known_in s (new_host s (record { 0 = x }) r.inc 0)) (omega (arith)) ∙ r.is }

module _ {S : Type 0} (served : S → ℕ) (n : NodeParts S) (s : Settings) (incs : List ℕ) (boxes : List S) (valid : IsValid s)
    (count : length incs ≡ s.hosts) (enough : s.hosts ≤ length boxes) (unasked : AllByRecursion (λ box. served box ≡ 0) boxes)
    (start : n.clock ≡ 0) (settings : n.settings ≡ s) (hosts : known_of n.stage ≡ known_first s incs)
    (seats : seats_of n.stage ≡ map Some (take s.hosts boxes)) (sent : n.sent ≡ 0) (none : n.last ≡ last.Nothing) where
  pub first_stands : IsFirstIn s incs (StandsFor n)
  unfolding new_world
  first_stands = record {
    first = new_world s incs 0 0 [];
    stood = record {
      clock = sym start;
      hosts = sym (ap (map (λ (k : Known). k.host)) hosts ∙ hosts_of_known s (new_hosts s 0 incs));
      count = length-new s 0 incs ∙ count ∙ sym (ap (λ (t : Settings). t.hosts) settings);
      leads = ap (λ m. replicate m s.skew) count ∙ ap (λ (t : Settings). replicate t.hosts t.skew) (sym settings);
      packets = sym sent;
    };
    is_first = λ answers. refl;
  }

  fresh_fits : (id : HostId) (k : Known) → IsNew s id k → HostFits n.settings (n.clock + n.settings.skew) n.steps id k
  fresh_fits id k r = subst (HostFits n.settings (n.clock + n.settings.skew) n.steps id) r.is (record {
    settings = sym settings;
    name = record { name = refl; own = λ q x e. absurd (none_some x (sym (get-empty _ q) ∙ e)) };
    apart = record { clients = λ q x e. absurd (none_some x (sym (get-empty _ q) ∙ e)); servers = λ q row e. absurd (none_some row (sym (get-empty _ q) ∙ e)) };
    last = omega (arith);
    order = omega (arith);
  })

  seat_fits : (m i : ℕ) (xs : List S) → i < m → m ≤ length xs → AllByRecursion (λ box. served box ≡ 0) xs
      → SeatFits served n.steps (place_of (map Some (take m xs)) i)
  seat_fits zero i xs l e all = absurd (omega (arith, l))
  seat_fits (suc m) i [] l e all = absurd (omega (arith, e))
  seat_fits (suc m) zero (x ∷ xs) l e all = record { seat = x; is = refl; count = omega (arith, all.0) }
  seat_fits (suc m) (suc i) (x ∷ xs) l e all = seat_fits m i xs (omega (arith, l)) (omega (arith, e)) all.1

  here : (id : HostId) (k : Known) → IsNew s (record { 0 = 0 + id.0 }) k → IsNew s id k
  here id k r =
      let e : 0 + id.0 ≡ id.0 = omega (arith) in record { inc = r.inc; is = ap (λ m. known_in s (new_host s (record { 0 = m }) r.inc 0)) (sym e) ∙ r.is }

  pub first_kept : IsKept served n
  first_kept =
      let m : n.settings.hosts ≡ s.hosts = ap (λ (t : Settings). t.hosts) settings in
      record {
        valid = subst IsValid (sym settings) valid;
        clock = omega (arith, start);
        hosts = ap length hosts ∙ length-known s 0 incs ∙ count ∙ sym m;
        each = λ id k at. fresh_fits id k (here id k (host_is s 0 incs id.0 k (sym (ap (λ ks. slice_get ks id.0) hosts) ∙ at)));
        seats = λ i l. subst (λ xs. SeatFits served n.steps (place_of xs i)) (sym seats) (seat_fits s.hosts i boxes (omega (arith, l, m)) enough unasked);
        sent = omega (arith, sent);
        last = subst (IsLast n) (sym none) tt;
      }

module _ {S : Type 0} (served : S → ℕ) (allows : Allows S) (n : NodeParts S) (s : Settings) (boxes : List S) where
  pub first_allows : seats_of n.stage ≡ map Some (take s.hosts boxes) → spares_of n.stage ≡ drop s.hosts boxes → (told : List PlainEntry)
      → may_tell_of served allows n told → AreAllowed served allows boxes (PlainSettings s ∷ told)
  first_allows seats spares told may =
      subst (λ xs. may_tell allows (all_counted served (map Some (take s.hosts boxes))) (map (counted served) xs) told) spares
      (subst (λ xs. may_tell allows (all_counted served xs) (map (counted served) (spares_of n.stage)) told) seats may)
