-- What is so between two events stays so.
use Rattle.std.proofs.Common.{true, false, ◌≡◌, ◌≢◌, ◌≤◌, ℕ, zero, suc, ◌+◌, Option, Some, List, [], ◌∷◌, length, refl, sym, ap, subst, ◌∙◌, arith}
use Rattle.std.specs.Prelude.{slice_set, slice_index_or}
use Rattle.std.specs.List.{AllByRecursion}
use Rattle.homa_plain.specs.declared.id.HostId.{HostId}
use Rattle.homa_plain.specs.declared.settings.Settings.{Settings}
use Rattle.homa_plain.specs.declared.event.Event.{Event}
use Rattle.homa_plain.specs.declared.fault.WorldFault.{WorldFault}
use Rattle.homa_plain.specs.declared.fault.WorldFault.TheVariants as fault
use Rattle.homa_replay.specs.ReplayWorld.{IsNotApplied, takes_memory}
use Rattle.homa_plain.specs.Entries.{is_memory}
use Rattle.event_laws.specs.Stepping.{IsRefusal}
use Rattle.homa_plain.specs.World.{World as PlainWorld, last_tick}
use Rattle.homa_service.specs.Table.{place_of}
use Rattle.world_packets.specs.declared.packets.Packets.{Packets}
use Rattle.world_packets.specs.Kept.{AllAged}
use Rattle.world_packets.specs.All.{kept_all, settings_of}
use Rattle.world_laws.proofs.Sent.{read}
use Rattle.homa_world.specs.declared.parts.Last.TheVariants as last
use Rattle.homa_world.specs.declared.parts.WorldParts.{WorldParts}
use Rattle.host_table.specs.Staged.{Known, seats_of, spares_of}
use Rattle.homa_world.specs.Standing.{StandsFor, HostFits, SeatFits, IsKept}
use Rattle.homa_world.proofs.PackedLaws.{shown_later, shown_aged, froms_aged, aged_length}

pub fits_later : (s : Settings) (now later a b n : ℕ) (id : HostId) (k : Known) → now ≤ later → a ≤ b → HostFits s now a n id k → HostFits s later b n id k
fits_later s now later a b n id k l m f = record {
  settings = f.settings;
  name = f.name;
  apart = f.apart;
  last = omega (arith, f.last, l);
  order = omega (arith, f.order, m);
  inc = f.inc;
  lives = f.lives;
}

module _ {S : Type 0} (served : S → ℕ) where
  pub seat_later : (a b : ℕ) (o : Option S) → a ≤ b → SeatFits served a o → SeatFits served b o
  seat_later a b o l f = record { seat = f.seat; is = f.is; count = omega (arith, f.count, l) }

  pub set_fits : (a : ℕ) (xs : List (Option S)) (i j : ℕ) (x : S) → served x ≤ a → SeatFits served a (place_of xs j)
      → SeatFits served a (place_of (slice_set xs i (Some x)) j)
  set_fits a [] i j x l f = f
  set_fits a (y ∷ xs) zero zero x l f = record { seat = x; is = refl; count = l }
  set_fits a (y ∷ xs) zero (suc j) x l f = f
  set_fits a (y ∷ xs) (suc i) zero x l f = f
  set_fits a (y ∷ xs) (suc i) (suc j) x l f = set_fits a xs i j x l f

  pub spares_later : (a b : ℕ) (xs : List S) → a ≤ b → AllByRecursion (λ seat. served seat ≤ a) xs → AllByRecursion (λ seat. served seat ≤ b) xs
  spares_later a b [] l all = tt
  spares_later a b (x ∷ xs) l all = (omega (arith, all.0, l), spares_later a b xs l all.1)

  -- a tick
  abbrev ticked : WorldParts S → WorldParts S
  ticked w = record w { clock = w.clock + 1; last = last.Ticked; applied = w.applied + 1 }

  pub tick_kept : (w : WorldParts S) → IsKept served w → w.clock ≢ last_tick → IsKept served (ticked w)
  tick_kept w k before = record {
    valid = k.valid;
    clock = omega (arith, k.clock, before);
    hosts = k.hosts;
    leads = k.leads;
    lead = k.lead;
    each = λ id h at. fits_later w.settings (w.clock + slice_index_or w.leads.items id.0 0) (w.clock + 1 + slice_index_or w.leads.items id.0 0)
        w.applied (w.applied + 1) (length (spares_of w.stage)) id h (omega (arith)) (omega (arith)) (k.each id h at);
    places = k.places;
    seats = λ i l. seat_later w.applied (w.applied + 1) (place_of (seats_of w.stage) i) (omega (arith)) (k.seats i l);
    spares = spares_later w.applied (w.applied + 1) (spares_of w.stage) (omega (arith)) k.spares;
    packets = k.packets;
    few = omega (arith, k.few);
    froms = k.froms;
    last = tt;
  }

  pub tick_stands : (w : WorldParts S) (p : PlainWorld) → StandsFor w p → StandsFor (ticked w) (record p { clock = p.clock + 1 })
  tick_stands w p st = record {
    clock = ap (λ n. n + 1) st.clock;
    hosts = st.hosts;
    leads = st.leads;
    packets = shown_later w.settings w.clock (w.clock + 1) (omega (arith)) p.packets (kept_all w.packets) st.packets;
    spares = st.spares;
  }

-- ---- refusals

pub refused_by : (s : Settings) (w : PlainWorld) (e : Event) (bytes : List ℕ) (fault : WorldFault) → is_memory fault ≡ false
    → IsRefusal s w e bytes fault → IsNotApplied s w (record { event = e; bytes = bytes }) fault
refused_by s w e bytes fault known r = record { refused = λ _ later. r later; memory = λ m. absurd (no (sym known ∙ m)) } where
  no : false ≡ true → ⊥
  no e = cc

pub no_memory : (s : Settings) (w : PlainWorld) (e : Event) (bytes : List ℕ) → takes_memory e ≡ true
    → IsNotApplied s w (record { event = e; bytes = bytes }) fault.NoMemory
no_memory s w e bytes other = record { refused = λ m. absurd (no m); memory = λ _. other } where
  no : true ≡ false → ⊥
  no e = cc

-- ---- packets that became too old

module _ {S : Type 0} (served : S → ℕ) where
  -- packets that became too old by now, and nothing that is told
  abbrev aged : WorldParts S → Packets → WorldParts S
  aged w packets = record w { packets = packets; last = last.Nothing }

  pub room_kept : (w : WorldParts S) (packets : Packets) → AllAged (settings_of w.packets) w.clock (kept_all w.packets) (kept_all packets)
      → settings_of packets ≡ settings_of w.packets → IsKept served w → IsKept served (aged w packets)
  room_kept w packets a same k =
      let shorter : length (kept_all packets) ≡ length (kept_all w.packets) =
      aged_length (settings_of w.packets) w.clock (kept_all w.packets) (kept_all packets) a in
      record {
        valid = k.valid;
        clock = k.clock;
        hosts = k.hosts;
        leads = k.leads;
        lead = k.lead;
        each = k.each;
        places = k.places;
        seats = k.seats;
        spares = k.spares;
        packets = same ∙ k.packets;
        few = omega (arith, k.few, shorter);
        froms = froms_aged (settings_of w.packets) w.settings.hosts w.clock k.clock (kept_all w.packets) (kept_all packets) a k.froms;
        last = tt;
      }

  pub room_stands : (w : WorldParts S) (packets : Packets) → settings_of w.packets ≡ w.settings
      → AllAged (settings_of w.packets) w.clock (kept_all w.packets) (kept_all packets) → (p : PlainWorld) → StandsFor w p → StandsFor (aged w packets) p
  room_stands w packets same a p st = record {
    clock = st.clock;
    hosts = st.hosts;
    leads = st.leads;
    packets = shown_aged w.settings (read w.settings) w.clock p.packets (kept_all w.packets) (kept_all packets)
        (subst (λ s. AllAged s w.clock (kept_all w.packets) (kept_all packets)) same a) st.packets;
    spares = st.spares;
  }
