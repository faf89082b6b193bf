-- A host's clock that is set, and a host that restarts.
use Rattle.std.proofs.Common.{◌≡◌, ◌<◌, ◌≤◌, ℕ, zero, suc, ◌+◌, ◌-◌, Bool, true, false, Some, None, List, [], ◌∷◌, length, refl, sym, ap, subst, ◌∙◌, arith}
use Rattle.std.specs.Prelude.{map, take, slice_get, slice_set, slice_index_or}
use Rattle.std.specs.List.{AllByRecursion}
use Rattle.std.specs.Option.{option_map}
use Rattle.std.specs.Vec.{with_item}
use Rattle.std.proofs.lemmas.List.{map-set, length-map}
use Rattle.homa_plain.specs.declared.id.HostId.{HostId}
use Rattle.homa_plain.specs.declared.event.Event.TheVariants as event
use Rattle.homa_plain.specs.declared.fault.WorldFault.{WorldFault}
use Rattle.homa_plain.specs.declared.fault.WorldFault.TheVariants as fault
use Rattle.homa_plain.specs.Settings.{band}
use Rattle.homa_plain.specs.Calls.{is_host}
use Rattle.homa_plain.specs.Host.{new_host}
use Rattle.homa_plain.proofs.CallOrder.{hosts_are}
use Rattle.step_moves.proofs.Hosts.{there, elsewhere, length-set, within, apart as apart_of}
use Rattle.host_view.specs.Seen.{Seen}
use Rattle.homa_service.specs.Table.{place_of, last_of, front_of}
use Rattle.homa_replay.specs.ReplayWorld.{IsNotApplied}
use Rattle.homa_plain.specs.Entries.{is_memory}
use Rattle.plain_sets.proofs.MapLaws.{get-empty}
use Rattle.event_laws.specs.Stepping.{IsRefusal, restarted_world, shifted_world}
use Rattle.event_laws.proofs.Events as events
use Rattle.host_table.specs.declared.stage.Stage.{Stage}
use Rattle.homa_world.specs.declared.parts.Last.TheVariants as last
use Rattle.homa_world.specs.declared.parts.WorldParts.{WorldParts}
use Rattle.box_laws.specs.Boxes.{Allows, counted, all_counted, may_tell}
use Rattle.host_table.specs.Staged.{Known, known, known_of, hosts_of, seats_of, spares_of}
use Rattle.host_table.specs.Restarted.{IsAny, HasRestarted, HasNoSpare}
use Rattle.homa_world.specs.Standing.{HostFits, SeatFits, IsKept, Applies, Refuses}
use Rattle.host_table.proofs.StageLaws.{map_at}
use Rattle.homa_world.proofs.KeptLaws.{fits_later, seat_later, spares_later, refused_by}
use Rattle.homa_world.proofs.EventLaws.{host_there}

-- ---- lists

index_there : {A : Type 0} (xs : List A) (i : ℕ) (x none : A) → i < length xs → slice_index_or (slice_set xs i x) i none ≡ x
index_there [] i x none l = absurd (omega (arith, l))
index_there (y ∷ xs) zero x none l = refl
index_there (y ∷ xs) (suc i) x none l = index_there xs i x none (omega (arith, l))

index_elsewhere : {A : Type 0} (xs : List A) (i n : ℕ) (x none : A) → (n ≡ i → ⊥) → slice_index_or (slice_set xs i x) n none ≡ slice_index_or xs n none
index_elsewhere [] i n x none e = refl
index_elsewhere (y ∷ xs) zero zero x none e = absurd (e refl)
index_elsewhere (y ∷ xs) zero (suc n) x none e = refl
index_elsewhere (y ∷ xs) (suc i) zero x none e = refl
index_elsewhere (y ∷ xs) (suc i) (suc n) x none e = index_elsewhere xs i n x none (λ k. e (ap suc k))

below_set : (xs : List ℕ) (i n most : ℕ) → n ≤ most → ((j : ℕ) → slice_index_or xs j 0 ≤ most) → (j : ℕ) → slice_index_or (slice_set xs i n) j 0 ≤ most
below_set [] i n most l all j = all j
below_set (x ∷ xs) zero n most l all zero = l
below_set (x ∷ xs) zero n most l all (suc j) = all (suc j)
below_set (x ∷ xs) (suc i) n most l all zero = all zero
below_set (x ∷ xs) (suc i) n most l all (suc j) = below_set xs i n most l (λ k. all (suc k)) j

get-map : {A B : Type 0} (f : A → B) (xs : List A) (i : ℕ) → slice_get (map f xs) i ≡ option_map f (slice_get xs i)
get-map f [] i = refl
get-map f (x ∷ xs) zero = refl
get-map f (x ∷ xs) (suc i) = get-map f xs i

take-map : {A B : Type 0} (f : A → B) (n : ℕ) (xs : List A) → take n (map f xs) ≡ map f (take n xs)
take-map f zero xs = refl
take-map f (suc n) [] = refl
take-map f (suc n) (x ∷ xs) = ap (λ ys. f x ∷ ys) (take-map f n xs)

last-map : {A B : Type 0} (f : A → B) (xs : List A) → last_of (map f xs) ≡ option_map f (last_of xs)
last-map f xs = ap (λ n. slice_get (map f xs) (n - 1)) (length-map xs f) ∙ get-map f xs (length xs - 1)

front-map : {A B : Type 0} (f : A → B) (xs : List A) → front_of (map f xs) ≡ map f (front_of xs)
front-map f xs = ap (λ n. take (n - 1) (map f xs)) (length-map xs f) ∙ take-map f (length xs - 1) xs

take-length : {A : Type 0} (n : ℕ) (xs : List A) → n ≤ length xs → length (take n xs) ≡ n
take-length zero xs l = refl
take-length (suc n) [] l = absurd (omega (arith, l))
take-length (suc n) (x ∷ xs) l = ap suc (take-length n xs (omega (arith, l)))

front-length : {A : Type 0} (xs : List A) → IsAny xs → length xs ≡ suc (length (front_of xs))
front-length [] any = absurd any
front-length (x ∷ xs) any =
    let e : length (front_of (x ∷ xs)) ≡ suc (length xs) - 1 = take-length (suc (length xs) - 1) (x ∷ xs) (omega (arith)) in omega (arith, e)

take-all : {A : Type 0} (P : A → Type 0) (n : ℕ) (xs : List A) → AllByRecursion P xs → AllByRecursion P (take n xs)
take-all P zero xs all = tt
take-all P (suc n) [] all = tt
take-all P (suc n) (x ∷ xs) all = (all.0, take-all P n xs all.1)

pub same_last : (x y : Seen) → Some x ≡ Some y → x.host.last ≡ y.host.last
same_last x y e = cc

-- ---- a clock is set

module _ {S : Type 0} (served : S → ℕ) (allows : Allows S) (w : WorldParts S) (id : HostId) (n : ℕ) (h : Seen)
    (at : slice_get (hosts_of w.stage) id.0 ≡ Some h) where
  abbrev shifted : WorldParts S
  shifted = record w { leads = with_item w.leads id.0 n; last = last.Shifted id n; applied = w.applied + 1 }

  pub shift_kept : IsKept served w → n ≤ band w.settings → h.host.last ≤ w.clock + n → IsKept served shifted
  shift_kept k l later = record {
    valid = k.valid;
    clock = k.clock;
    hosts = k.hosts;
    leads = length-set w.leads.items id.0 n ∙ k.leads;
    lead = below_set w.leads.items id.0 n (band w.settings) l k.lead;
    each = each;
    places = k.places;
    seats = λ i l. seat_later served w.applied (w.applied + 1) (place_of (seats_of w.stage) i) (omega (arith)) (k.seats i l);
    spares = spares_later served w.applied (w.applied + 1) (spares_of w.stage) (omega (arith)) k.spares;
    packets = k.packets;
    few = omega (arith, k.few);
    froms = k.froms;
    last = tt;
  } where
    inside : id.0 < length w.leads.items
    inside = omega (arith, within (hosts_of w.stage) id.0 h at, length-map (hosts_of w.stage) known, k.hosts, k.leads)

    each : (m : HostId) (q : Known) → slice_get (known_of w.stage) m.0 ≡ Some q
        → HostFits w.settings (w.clock + slice_index_or (slice_set w.leads.items id.0 n) m.0 0) (w.applied + 1) (length (spares_of w.stage)) m q
    each m q is = by_host (is_host m id) refl where
      f : HostFits w.settings (w.clock + slice_index_or w.leads.items m.0 0) w.applied (length (spares_of w.stage)) m q
      f = k.each m q is

      by_host : (b : Bool) → is_host m id ≡ b → HostFits w.settings (w.clock + slice_index_or (slice_set w.leads.items id.0 n) m.0 0) (w.applied + 1)
          (length (spares_of w.stage)) m q
      by_host true e =
          let one : m.0 ≡ id.0 = ap (λ (x : HostId). x.0) ((hosts_are m id).0 e) in
          let q_is : q.host.last ≡ h.host.last =
          same q (known h) (sym is ∙ ap (slice_get (known_of w.stage)) one ∙ map_at known (hosts_of w.stage) id.0 h at) in
          let lead : slice_index_or (slice_set w.leads.items id.0 n) m.0 0 ≡ n =
          ap (λ j. slice_index_or (slice_set w.leads.items id.0 n) j 0) one ∙ index_there w.leads.items id.0 n 0 inside in
          record {
            settings = f.settings;
            name = f.name;
            apart = f.apart;
            last = omega (arith, q_is, lead, later);
            order = omega (arith, f.order);
            inc = f.inc;
            lives = f.lives;
          } where
            same : (x y : Known) → Some x ≡ Some y → x.host.last ≡ y.host.last
            same x y e = cc
      by_host false e =
          fits_later w.settings (w.clock + slice_index_or w.leads.items m.0 0) (w.clock + slice_index_or (slice_set w.leads.items id.0 n) m.0 0)
          w.applied (w.applied + 1) (length (spares_of w.stage)) m q
          (omega (arith, index_elsewhere w.leads.items id.0 m.0 n 0 (λ same. apart_of m id e (sym same)))) (omega (arith)) f

  pub shift_applies : n ≤ band w.settings → h.host.last ≤ w.clock + n → Applies served allows w shifted (record { event = event.Shift id n; bytes = [] })
  shift_applies l later p stands = record {
    next = shifted_world p id n;
    stood = record {
      clock = stands.clock;
      hosts = stands.hosts;
      leads = ap (λ ls. slice_set ls id.0 n) stands.leads;
      packets = stands.packets;
      spares = stands.spares;
    };
    done = λ more. events.shift_done w.settings p id n h.host (host_there w id h p stands at) l (omega (arith, later, stands.clock)) more;
    allowed = λ more may. (tt, may);
  }

  pub beyond : band w.settings < n → Refuses w (record { event = event.Shift id n; bytes = [] }) (fault.OutOfBand n (band w.settings))
  beyond l p stands = refused_by w.settings p (event.Shift id n) [] (fault.OutOfBand n (band w.settings)) refl
      (events.out_of_band w.settings p id n h.host (host_there w id h p stands at) l)

  pub back : n ≤ band w.settings → w.clock + n < h.host.last
      → Refuses w (record { event = event.Shift id n; bytes = [] }) (fault.Back h.host.last (w.clock + n))
  back l before p stands =
      refused_by w.settings p (event.Shift id n) [] (fault.Back h.host.last (w.clock + n)) refl
      (subst (λ c. IsRefusal w.settings p (event.Shift id n) [] (fault.Back h.host.last (c + n))) stands.clock
      (events.goes_back w.settings p id n h.host (host_there w id h p stands at) l (omega (arith, before, stands.clock))))

-- ---- a host restarts

module _ {S : Type 0} (served : S → ℕ) (allows : Allows S) (w : WorldParts S) (id : HostId) (h : Seen) (at : slice_get (hosts_of w.stage) id.0 ≡ Some h) where
  abbrev fresh : Known
  fresh = record { settings = w.settings; host = new_host w.settings id (h.host.inc + 1) h.host.last }

  module _ (kept : IsKept served w) where
    known_at : slice_get (known_of w.stage) id.0 ≡ Some (known h)
    known_at = map_at known (hosts_of w.stage) id.0 h at

    fits : HostFits w.settings (w.clock + slice_index_or w.leads.items id.0 0) w.applied (length (spares_of w.stage)) id (known h)
    fits = kept.each id (known h) known_at

    pub next_life : h.host.inc + length (spares_of w.stage) ≤ 1000001
    next_life = fits.lives

    pub clock_fits : h.host.last ≤ 1000000002000
    clock_fits = omega (arith, fits.last, kept.clock, kept.lead id.0, kept.valid.in_range.2.2.2.2.2.2.2.2.2.2.2.2.2.1)

    pub seat_there : SeatFits served w.applied (place_of (seats_of w.stage) id.0)
    seat_there = kept.seats id.0 (omega (arith, within (hosts_of w.stage) id.0 h at, length-map (hosts_of w.stage) known, kept.hosts))

  -- where there is no spare box, or no memory
  pub not_restarted : (why : WorldFault) → HasNoSpare w.stage why → Refuses w (record { event = event.Restart id; bytes = [] }) why
  not_restarted why none p stands = by_memory (is_memory why) refl where
    none_left : spares_of w.stage ≡ [] → p.spares ≡ 0
    none_left e = stands.spares ∙ ap length e

    no : true ≡ false → ⊥
    no e = cc

    by_memory : (b : Bool) → is_memory why ≡ b → IsNotApplied w.settings p (record { event = event.Restart id; bytes = [] }) why
    by_memory true e = record { refused = λ f. absurd (no (sym e ∙ f)); memory = λ m. refl }
    by_memory false e =
        let r = none e in
        subst (IsNotApplied w.settings p (record { event = event.Restart id; bytes = [] })) (sym r.0)
        (refused_by w.settings p (event.Restart id) [] fault.NoSpare refl
        (events.no_spare w.settings p id h.host (host_there w id h p stands at) (none_left r.1)))

  -- nothing is told any more of the last event
  pub still_kept : (st : Stage S) → known_of st ≡ known_of w.stage → seats_of st ≡ seats_of w.stage → spares_of st ≡ spares_of w.stage
      → IsKept served w → IsKept served (record w { stage = st; last = last.Nothing })
  still_kept st known seats spares k = record {
    valid = k.valid;
    clock = k.clock;
    hosts = ap length known ∙ k.hosts;
    leads = k.leads;
    lead = k.lead;
    each = λ m q is. subst (λ n. HostFits w.settings (w.clock + slice_index_or w.leads.items m.0 0) w.applied n m q) (sym (ap length spares))
        (k.each m q (sym (ap (λ ks. slice_get ks m.0) known) ∙ is));
    places = ap length seats ∙ k.places;
    seats = λ i l. subst (λ xs. SeatFits served w.applied (place_of xs i)) (sym seats) (k.seats i l);
    spares = subst (AllByRecursion (λ seat. served seat ≤ w.applied)) (sym spares) k.spares;
    packets = k.packets;
    few = k.few;
    froms = k.froms;
    last = tt;
  }

  module _ (st : Stage S) (did : HasRestarted id fresh w.stage st) where
    abbrev restarted : WorldParts S
    restarted = record w { stage = st; last = last.Restarted id (h.host.inc + 1); applied = w.applied + 1 }

    fewer : length (spares_of w.stage) ≡ suc (length (spares_of st))
    fewer = front-length (spares_of w.stage) did.some ∙ ap (λ xs. suc (length xs)) (sym did.spares)

    pub restart_applies : Applies served allows w restarted (record { event = event.Restart id; bytes = [] })
    restart_applies p stands = record {
      next = restarted_world w.settings p id h.host (length (spares_of st));
      stood = record {
        clock = stands.clock;
        hosts = ap (λ hs. slice_set hs id.0 (new_host w.settings id (h.host.inc + 1) h.host.last)) stands.hosts
            ∙ sym (map-set (λ (k : Known). k.host) (known_of w.stage) id.0 fresh) ∙ ap (map (λ (k : Known). k.host)) (sym did.known);
        leads = stands.leads;
        packets = stands.packets;
        spares = refl;
      };
      done = λ more. events.restart_done w.settings p id h.host (length (spares_of st)) (host_there w id h p stands at) (stands.spares ∙ fewer) more;
      allowed = λ more may. (
        tt,
        subst (λ xs. may_tell allows xs (front_of (map (counted served) (spares_of w.stage))) more) seats
            (subst (λ xs. may_tell allows (all_counted served (seats_of st)) xs more) spares may),
      );
    } where
      seats : all_counted served (seats_of st) ≡ slice_set (all_counted served (seats_of w.stage)) id.0 (last_of (map (counted served) (spares_of w.stage)))
      seats = ap (all_counted served) did.seats ∙ map-set (option_map (counted served)) (seats_of w.stage) id.0 (last_of (spares_of w.stage))
          ∙ ap (slice_set (all_counted served (seats_of w.stage)) id.0) (sym (last-map (counted served) (spares_of w.stage)))

      spares : map (counted served) (spares_of st) ≡ front_of (map (counted served) (spares_of w.stage))
      spares = ap (map (counted served)) did.spares ∙ sym (front-map (counted served) (spares_of w.stage))

    pub restart_kept : IsKept served w → IsKept served restarted
    restart_kept k = record {
      valid = k.valid;
      clock = k.clock;
      hosts = ap length did.known ∙ length-set (known_of w.stage) id.0 fresh ∙ k.hosts;
      leads = k.leads;
      lead = k.lead;
      each = λ m q is. each m q (sym (ap (λ ks. slice_get ks m.0) did.known) ∙ is);
      places = ap length did.seats ∙ length-set (seats_of w.stage) id.0 (last_of (spares_of w.stage)) ∙ k.places;
      seats = λ i l. subst (λ xs. SeatFits served (w.applied + 1) (place_of xs i)) (sym did.seats) (seats i l);
      spares = subst (AllByRecursion (λ seat. served seat ≤ w.applied + 1)) (sym did.spares)
          (take-all (λ seat. served seat ≤ w.applied + 1) (length (spares_of w.stage) - 1) (spares_of w.stage) later);
      packets = k.packets;
      few = omega (arith, k.few);
      froms = k.froms;
      last = tt;
    } where
      f : HostFits w.settings (w.clock + slice_index_or w.leads.items id.0 0) w.applied (length (spares_of w.stage)) id (known h)
      f = fits k

      later : AllByRecursion (λ seat. served seat ≤ w.applied + 1) (spares_of w.stage)
      later = spares_later served w.applied (w.applied + 1) (spares_of w.stage) (omega (arith)) k.spares

      last_fits : (xs : List S) → IsAny xs → AllByRecursion (λ seat. served seat ≤ w.applied + 1) xs → SeatFits served (w.applied + 1) (last_of xs)
      last_fits [] any all = absurd any
      last_fits (x ∷ []) any all = record { seat = x; is = refl; count = all.0 }
      last_fits (x ∷ y ∷ xs) any all =
          let r = last_fits (y ∷ xs) tt all.1 in
          let one : suc (suc (length xs)) - 1 ≡ suc (suc (length xs) - 1) = omega (arith) in
          record { seat = r.seat; is = ap (slice_get (x ∷ y ∷ xs)) one ∙ r.is; count = r.count }

      seats : (i : ℕ) → i < w.settings.hosts → SeatFits served (w.applied + 1) (place_of (slice_set (seats_of w.stage) id.0 (last_of (spares_of w.stage))) i)
      seats i l = by_place (is_host (record { 0 = i }) id) refl where
        by_place : (b : Bool) → is_host (record { 0 = i }) id ≡ b
            → SeatFits served (w.applied + 1) (place_of (slice_set (seats_of w.stage) id.0 (last_of (spares_of w.stage))) i)
        by_place true e =
            let one : i ≡ id.0 = ap (λ (x : HostId). x.0) ((hosts_are (record { 0 = i }) id).0 e) in
            subst (SeatFits served (w.applied + 1))
            (sym (ap (λ j. place_of (slice_set (seats_of w.stage) id.0 (last_of (spares_of w.stage))) j) one ∙ index_there (seats_of w.stage) id.0
            (last_of (spares_of w.stage)) None (omega (arith, one, l, k.places))))
            (last_fits (spares_of w.stage) did.some later)
        by_place false e =
            subst (SeatFits served (w.applied + 1))
            (sym (index_elsewhere (seats_of w.stage) id.0 i (last_of (spares_of w.stage)) None (λ same. apart_of (record { 0 = i }) id e (sym same))))
            (seat_later served w.applied (w.applied + 1) (place_of (seats_of w.stage) i) (omega (arith)) (k.seats i l))

      none : {X : Type 0} (x : X) → None ≡ Some x → ⊥
      none x e = cc

      fresh_fits : HostFits w.settings (w.clock + slice_index_or w.leads.items id.0 0) (w.applied + 1) (length (spares_of st)) id fresh
      fresh_fits = record {
        settings = refl;
        name = record { name = refl; own = λ q r e. absurd (none r (sym (get-empty _ q) ∙ e)) };
        apart = record { clients = λ q r e. absurd (none r (sym (get-empty _ q) ∙ e)); servers = λ q row e. absurd (none row (sym (get-empty _ q) ∙ e)) };
        last = f.last;
        order = omega (arith);
        inc = omega (arith);
        lives = omega (arith, f.lives, fewer);
      }

      each : (m : HostId) (q : Known) → slice_get (slice_set (known_of w.stage) id.0 fresh) m.0 ≡ Some q
          → HostFits w.settings (w.clock + slice_index_or w.leads.items m.0 0) (w.applied + 1) (length (spares_of st)) m q
      each m q is = by_host (is_host m id) refl where
        by_host : (b : Bool) → is_host m id ≡ b → HostFits w.settings (w.clock + slice_index_or w.leads.items m.0 0) (w.applied + 1) (length (spares_of st)) m q
        by_host true e =
            let one : m ≡ id = (hosts_are m id).0 e in
            let q_is : fresh ≡ q =
            same fresh q (sym
            (there (known_of w.stage) id.0 fresh (omega (arith, within (hosts_of w.stage) id.0 h at, length-map (hosts_of w.stage) known)))
            ∙ ap (λ (x : HostId). slice_get (slice_set (known_of w.stage) id.0 fresh) x.0) (sym one) ∙ is) in
            subst (λ (x : HostId). HostFits w.settings (w.clock + slice_index_or w.leads.items x.0 0) (w.applied + 1) (length (spares_of st)) x q) (sym one)
            (subst (HostFits w.settings (w.clock + slice_index_or w.leads.items id.0 0) (w.applied + 1) (length (spares_of st)) id) q_is fresh_fits) where
              same : (x y : Known) → Some x ≡ Some y → x ≡ y
              same x y e = cc
        by_host false e =
            let g = kept_other m q (sym (elsewhere (known_of w.stage) id.0 m.0 fresh (λ same. apart_of m id e (sym same))) ∙ is) in
            record {
              settings = g.settings;
              name = g.name;
              apart = g.apart;
              last = g.last;
              order = omega (arith, g.order);
              inc = g.inc;
              lives = omega (arith, g.lives, fewer);
            } where
              kept_other : (m : HostId) (q : Known) → slice_get (known_of w.stage) m.0 ≡ Some q
                  → HostFits w.settings (w.clock + slice_index_or w.leads.items m.0 0) w.applied (length (spares_of w.stage)) m q
              kept_other m q is = k.each m q is

  -- by the numbers that were read
  abbrev restarts : Stage S → ℕ → WorldParts S
  restarts st inc = record w { stage = st; last = last.Restarted id inc; applied = w.applied + 1 }

  abbrev at_life : ℕ → ℕ → Known
  at_life inc then = record { settings = w.settings; host = new_host w.settings id inc then }

  pub restart_both : (st : Stage S) (inc then : ℕ) → inc ≡ h.host.inc + 1 → then ≡ h.host.last → HasRestarted id (at_life inc then) w.stage st → IsKept served w
      → (Applies served allows w (restarts st inc) (record { event = event.Restart id; bytes = [] })) × IsKept served (restarts st inc)
  restart_both st inc then e f did k =
      let read : HasRestarted id fresh w.stage st =
      subst (λ i. HasRestarted id (at_life i h.host.last) w.stage st) e (subst (λ t. HasRestarted id (at_life inc t) w.stage st) f did) in
      subst (λ i. (Applies served allows w (restarts st i) (record { event = event.Restart id; bytes = [] })) × IsKept served (restarts st i)) (sym e)
      (restart_applies st read, restart_kept st read k)
