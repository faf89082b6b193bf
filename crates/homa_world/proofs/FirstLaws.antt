-- The worlds with which a replay begins.
use Rattle.std.proofs.Common.{◌≡◌, ◌<◌, ◌≤◌, ℕ, zero, suc, ◌+◌, ◌-◌, ◌*◌, Some, None, List, [], ◌∷◌, length, refl, sym, ap, subst, ◌∙◌, arith}
use Rattle.std.specs.Prelude.{map, take, drop, replicate, slice_get, slice_index_or}
use Rattle.std.specs.List.{AllByRecursion}
use Rattle.std.proofs.lemmas.List.{length-map}
use Rattle.plain_sets.proofs.MapLaws.{get-empty}
use Rattle.homa_plain.specs.declared.id.HostId.{HostId}
use Rattle.homa_plain.specs.declared.settings.Settings.{Settings}
use Rattle.homa_plain.specs.Settings.{IsValid, band}
use Rattle.homa_plain.specs.Host.{Host, new_host}
use Rattle.homa_plain.specs.Entries.{PlainEntry, PlainSettings}
use Rattle.homa_plain.specs.World.{new_world, new_hosts}
use Rattle.homa_service.specs.Table.{place_of}
use Rattle.world_packets.specs.All.{kept_all, settings_of}
use Rattle.host_table.specs.Staged.{Known, known_of, known_in, first_known, seats_of, spares_of}
use Rattle.homa_world.specs.declared.parts.Last.TheVariants as last
use Rattle.homa_world.specs.declared.parts.WorldParts.{WorldParts}
use Rattle.homa_world.specs.First.{IsFirstAt}
use Rattle.box_laws.specs.First.{AreAllowed}
use Rattle.box_laws.specs.Boxes.{Allows, counted, all_counted, may_tell}
use Rattle.homa_world.specs.Packed.{AreShownBy, IsFromHost}
use Rattle.homa_world.specs.Standing.{StandsFor, HostFits, SeatFits, IsKept, IsLast, may_tell_of}

-- ---- lists

length-replicate : {A : Type 0} (n : ℕ) (x : A) → length (replicate n x) ≡ n
length-replicate zero x = refl
length-replicate (suc n) x = ap suc (length-replicate n x)

length-take : {A : Type 0} (n : ℕ) (xs : List A) → n ≤ length xs → length (take n xs) ≡ n
length-take zero xs l = refl
length-take (suc n) [] l = absurd (omega (arith, l))
length-take (suc n) (x ∷ xs) l = ap suc (length-take n xs (omega (arith, l)))

length-drop : {A : Type 0} (n : ℕ) (xs : List A) → length (drop n xs) ≡ length xs - n
length-drop zero xs = let e : length xs ≡ length xs - 0 = omega (arith) in e
length-drop (suc n) [] = let e : 0 ≡ 0 - suc n = omega (arith) in e
length-drop (suc n) (x ∷ xs) = let e : length xs - n ≡ suc (length xs) - suc n = omega (arith) in length-drop n xs ∙ e

drop-all : {A : Type 0} (P : A → Type 0) (n : ℕ) (xs : List A) → AllByRecursion P xs → AllByRecursion P (drop n xs)
drop-all P zero xs all = all
drop-all P (suc n) [] all = tt
drop-all P (suc n) (x ∷ xs) all = drop-all P n xs all.1

all_leads : (n skew i : ℕ) → slice_index_or (replicate n skew) i 0 ≤ 2 * skew
all_leads zero skew i = omega (arith)
all_leads (suc n) skew zero = omega (arith)
all_leads (suc n) skew (suc i) = all_leads n skew i

-- ---- hosts

hosts_of_known : (s : Settings) (hosts : List Host) → map (λ (k : Known). k.host) (map (known_in s) hosts) ≡ hosts
hosts_of_known s [] = refl
hosts_of_known s (h ∷ hosts) = ap (λ hs. h ∷ hs) (hosts_of_known s hosts)

host_is : (s : Settings) (m n i : ℕ) (k : Known) → slice_get (map (known_in s) (new_hosts s m (replicate n 1))) i ≡ Some k
    → known_in s (new_host s (record { 0 = m + i }) 1 0) ≡ k
host_is s m zero i k e = absurd (no e) where
  no : None ≡ Some k → ⊥
  no e = cc
host_is s m (suc n) zero k e =
    ap (λ x. known_in s (new_host s (record { 0 = x }) 1 0)) (omega (arith)) ∙ some_is (known_in s (new_host s (record { 0 = m }) 1 0)) k e where
      some_is : (x y : Known) → Some x ≡ Some y → x ≡ y
      some_is x y e = cc
host_is s m (suc n) (suc i) k e = ap (λ x. known_in s (new_host s (record { 0 = x }) 1 0)) (omega (arith)) ∙ host_is s (suc m) n i k e

length-hosts : (s : Settings) (m n : ℕ) → length (map (known_in s) (new_hosts s m (replicate n 1))) ≡ n
length-hosts s m zero = refl
length-hosts s m (suc n) = ap suc (length-hosts s (suc m) n)

none_some : {X : Type 0} (x : X) → None ≡ Some x → ⊥
none_some x e = cc

-- ---- a world in which nothing has happened

module _ {S : Type 0} (served : S → ℕ) (w : WorldParts S) (s : Settings) (boxes : List S) (valid : IsValid s) (enough : s.hosts ≤ length boxes)
    (at_most : length boxes ≤ 1000000) (unasked : AllByRecursion (λ box. served box ≡ 0) boxes)
    (start : w.clock ≤ 1000000000000) (settings : w.settings ≡ s) (leads : w.leads.items ≡ replicate s.hosts s.skew)
    (hosts : known_of w.stage ≡ first_known s s.hosts) (seats : seats_of w.stage ≡ map Some (take s.hosts boxes))
    (spares : spares_of w.stage ≡ drop s.hosts boxes) (packets : kept_all w.packets ≡ []) (packets_settings : settings_of w.packets ≡ s)
    (none : w.last ≡ last.Nothing) where
  spare_count : length (spares_of w.stage) ≡ length boxes - s.hosts
  spare_count = ap length spares ∙ length-drop s.hosts boxes

  pub first_stands : IsFirstAt s w.clock (length boxes) (StandsFor w)
  unfolding new_world
  first_stands = record {
    first = new_world s (replicate s.hosts 1) w.clock (length boxes) [];
    stood = record {
      clock = refl;
      hosts = sym (ap (map (λ (k : Known). k.host)) hosts ∙ hosts_of_known s (new_hosts s 0 (replicate s.hosts 1)));
      leads = ap (λ n. replicate n s.skew) (length-replicate s.hosts 1) ∙ sym leads;
      packets = subst (AreShownBy w.settings w.clock []) (sym packets) tt;
      spares = ap (λ n. length boxes - n) (length-replicate s.hosts 1) ∙ sym spare_count;
    };
    is_first = λ answers. refl;
  }

  fresh_fits : (id : HostId) → HostFits w.settings (w.clock + slice_index_or w.leads.items id.0 0) w.applied (length (spares_of w.stage)) id
      (known_in s (new_host s id 1 0))
  fresh_fits id = record {
    settings = sym settings;
    name = record { name = refl; own = λ q r e. absurd (none_some r (sym (get-empty _ q) ∙ e)) };
    apart = record { clients = λ q r e. absurd (none_some r (sym (get-empty _ q) ∙ e)); servers = λ q row e. absurd (none_some row (sym (get-empty _ q) ∙ e)) };
    last = omega (arith);
    order = omega (arith);
    inc = omega (arith);
    lives = omega (arith, spare_count, at_most, valid.in_range.0);
  }

  seat_fits : (n i : ℕ) (xs : List S) → i < n → n ≤ length xs → AllByRecursion (λ box. served box ≡ 0) xs
      → SeatFits served w.applied (place_of (map Some (take n xs)) i)
  seat_fits zero i xs l m all = absurd (omega (arith, l))
  seat_fits (suc n) i [] l m all = absurd (omega (arith, m))
  seat_fits (suc n) zero (x ∷ xs) l m all = record { seat = x; is = refl; count = omega (arith, all.0) }
  seat_fits (suc n) (suc i) (x ∷ xs) l m all = seat_fits n i xs (omega (arith, l)) (omega (arith, m)) all.1

  here : (id : HostId) → known_in s (new_host s id 1 0) ≡ known_in s (new_host s (record { 0 = 0 + id.0 }) 1 0)
  here id = let e : id.0 ≡ 0 + id.0 = omega (arith) in ap (λ n. known_in s (new_host s (record { 0 = n }) 1 0)) e

  not_asked : (xs : List S) → AllByRecursion (λ box. served box ≡ 0) xs → AllByRecursion (λ box. served box ≤ w.applied) xs
  not_asked [] all = tt
  not_asked (x ∷ xs) all = (omega (arith, all.0), not_asked xs all.1)

  pub first_kept : IsKept served w
  first_kept =
      let n : w.settings.hosts ≡ s.hosts = ap (λ (t : Settings). t.hosts) settings in
      record {
        valid = subst IsValid (sym settings) valid;
        clock = start;
        hosts = ap length hosts ∙ length-hosts s 0 s.hosts ∙ sym n;
        leads = ap length leads ∙ length-replicate s.hosts s.skew ∙ sym n;
        lead = λ i. subst (λ ls. slice_index_or ls i 0 ≤ band w.settings) (sym leads)
            (subst (λ t. slice_index_or (replicate s.hosts s.skew) i 0 ≤ band t) (sym settings) (all_leads s.hosts s.skew i));
        each = λ id k at. subst (HostFits w.settings (w.clock + slice_index_or w.leads.items id.0 0) w.applied (length (spares_of w.stage)) id)
            (here id ∙ host_is s 0 s.hosts id.0 k (sym (ap (λ ks. slice_get ks id.0) hosts) ∙ at)) (fresh_fits id);
        places = ap length seats ∙ length-map (take s.hosts boxes) Some ∙ length-take s.hosts boxes enough ∙ sym n;
        seats = λ i l. subst (λ xs. SeatFits served w.applied (place_of xs i)) (sym seats) (seat_fits s.hosts i boxes (omega (arith, l, n)) enough unasked);
        spares = subst (AllByRecursion (λ seat. served seat ≤ w.applied)) (sym spares)
            (not_asked (drop s.hosts boxes) (drop-all (λ box. served box ≡ 0) s.hosts boxes unasked));
        packets = packets_settings ∙ sym settings;
        few = omega (arith, ap length packets);
        froms = subst (AllByRecursion (IsFromHost w.settings.hosts)) (sym packets) tt;
        last = subst (IsLast w) (sym none) tt;
      }

module _ {S : Type 0} (served : S → ℕ) (allows : Allows S) (w : WorldParts S) (s : Settings) (boxes : List S) where
  pub first_allows : seats_of w.stage ≡ map Some (take s.hosts boxes) → spares_of w.stage ≡ drop s.hosts boxes → (told : List PlainEntry)
      → may_tell_of served allows w told → AreAllowed served allows boxes (PlainSettings s ∷ told)
  first_allows seats spares told may =
      subst (λ xs. may_tell allows (all_counted served (map Some (take s.hosts boxes))) (map (counted served) xs) told) spares
      (subst (λ xs. may_tell allows (all_counted served xs) (map (counted served) (spares_of w.stage)) told) seats may)
