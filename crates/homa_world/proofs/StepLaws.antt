-- A step of a host is an event of the world.
use Rattle.std.proofs.Common.{◌≡◌, ◌≢◌, ◌<◌, ◌≤◌, ℕ, zero, suc, ◌+◌, ◌^◌, Bool, true, false, Some, None, List, [], ◌∷◌, ◌++◌, length, refl, sym, ap}
use Rattle.std.proofs.Common.{subst, ◌∙◌, arith}
use Rattle.std.specs.Prelude.{map, slice_get, slice_set, slice_index_or}
use Rattle.std.specs.List.{AllByRecursion}
use Rattle.std.proofs.lemmas.List.{map-set, length-map, length-append}
use Rattle.homa_plain.specs.declared.id.HostId.{HostId}
use Rattle.homa_plain.specs.declared.settings.Settings.{Settings}
use Rattle.homa_plain.specs.Entries.{PlainEntry, PlainSend}
use Rattle.homa_plain.specs.Packets.{Packet, sender, receiver, wire_packet}
use Rattle.homa_plain.specs.Host.{Told, Says, Sends, packets_in, entries_from}
use Rattle.homa_plain.specs.Work.{Work}
use Rattle.homa_plain.specs.World.{World as PlainWorld, stamped}
use Rattle.homa_plain.proofs.WireLengths.{spelling_fits, longest_fits}
use Rattle.host_view.specs.Seen.{Seen}
use Rattle.host_view.specs.Frames.{frames_of, IsFormed}
use Rattle.homa_service.specs.Table.{place_of}
use Rattle.world_packets.specs.declared.packets.Packets.{Packets}
use Rattle.world_packets.specs.All.{kept_all, settings_of}
use Rattle.step_laws.proofs.Places.{all-append}
use Rattle.step_moves.proofs.Hosts.{there, elsewhere, length-set, apart as apart_of}
use Rattle.homa_plain.proofs.CallOrder.{hosts_are}
use Rattle.homa_plain.specs.Calls.{is_host}
use Rattle.step_moves.specs.Worlds.{HasOwnName}
use Rattle.event_laws.specs.Named.{IsOwnStep, IsOfStep, numbered}
use Rattle.event_laws.specs.Apart.{IsApart, IsApartStep}
use Rattle.event_laws.specs.Stepping.{stepped_world, step_told}
use Rattle.event_laws.proofs.Names.{renumber}
use Rattle.host_table.specs.declared.stage.Stage.{Stage}
use Rattle.homa_world.specs.declared.parts.First.{First}
use Rattle.homa_world.specs.declared.parts.Last.TheVariants as last
use Rattle.homa_world.specs.declared.parts.WorldParts.{WorldParts}
use Rattle.host_table.specs.Staged.{Known, known, known_of, hosts_of, seats_of, spares_of, HasStepped}
use Rattle.homa_world.specs.Packed.{frame_kept, IsShort, IsFromHost, AreShownBy}
use Rattle.host_table.specs.Left.{IsFew, HasLeft, entries_of}
use Rattle.homa_world.specs.Standing.{StandsFor, HostFits, SeatFits, IsKept, first_told, told_of}
use Rattle.host_table.proofs.StageLaws.{map_at}
use Rattle.homa_world.proofs.PackedLaws.{shown_more, shown_sent, shown_length, froms_sent}
use Rattle.homa_world.proofs.KeptLaws.{fits_later, spares_later}

-- ---- frames

-- the frames of well-formed packets are short
pub short_all : (s : Settings) (ps : List Packet) → AllByRecursion (IsFormed s) ps → AllByRecursion IsShort (frames_of s ps)
short_all s [] all = tt
short_all s (p ∷ ps) all = (omega (arith, spelling_fits s.wire (wire_packet p) p.payload all.0, longest_fits s.wire), short_all s ps all.1)

few_from : (n : ℕ) (told : List Told) → AllByRecursion IsOfStep told → n + length (packets_in told) ≤ 64 → AllByRecursion IsFew (entries_from n told)
few_from n [] said l = tt
few_from n (Says entry ∷ told) said l = (few_said entry said.0, few_from n told said.1 l) where
  few_said : (entry : PlainEntry) → IsOfStep (Says entry) → IsFew entry
  few_said entry said = by_entry entry said where
    by_entry : (entry : PlainEntry) → IsOfStep (Says entry) → IsFew entry
    by_entry (PlainSend number from to inc role id level what payload) said = absurd said
    by_entry entry said = tt
few_from n (Sends p ∷ told) said l = (omega (arith, l), few_from (suc n) told said.1 (omega (arith, l)))

both_all : (id : HostId) (hosts : ℕ) (ps : List Packet) → id.0 < hosts → AllByRecursion (λ (p : Packet). sender p ≡ id) ps
    → AllByRecursion (λ (p : Packet). receiver p ≢ id) ps
    → AllByRecursion (λ (p : Packet). ((sender p).0 < hosts) × (sender p ≢ receiver p)) ps
both_all id hosts [] l by apart = tt
both_all id hosts (p ∷ ps) l by apart = ((subst (λ (x : HostId). x.0 < hosts) (sym by.0) l, λ e. apart.0 (sym e ∙ by.0)), both_all id hosts ps l by.1 apart.1)

-- ---- a step

module _ {S : Type 0} (served : S → ℕ) (mid : WorldParts S) (kept : IsKept served mid)
    (now : ℕ) (id : HostId) (h : Seen) (step : Work) (st : Stage S) (at : slice_get (hosts_of mid.stage) id.0 ≡ Some h)
    (stepped : HasStepped now id h step mid.stage st) where
  pub known_at : slice_get (known_of mid.stage) id.0 ≡ Some (known h)
  known_at = map_at known (hosts_of mid.stage) id.0 h at

  pub fits : HostFits mid.settings (mid.clock + slice_index_or mid.leads.items id.0 0) mid.applied (length (spares_of mid.stage)) id (known h)
  fits = kept.each id (known h) known_at

  pub short_frames : AllByRecursion IsShort st.outbox
  short_frames = subst (AllByRecursion IsShort) (sym stepped.done.posted) (short_all h.settings (packets_in step.told) stepped.done.formed)

  known_after : known_of st ≡ slice_set (known_of mid.stage) id.0 (known stepped.after)
  known_after = ap (map known) stepped.hosts ∙ map-set known (hosts_of mid.stage) id.0 stepped.after

  module _ (packets : Packets) (first : First) (like : WorldParts S)
      (sent : kept_all packets ≡ kept_all mid.packets ++ map (frame_kept mid.clock) st.outbox) (same : settings_of packets ≡ settings_of mid.packets) where
    abbrev after : WorldParts S
    after = record mid {
      stage = st;
      packets = packets;
      injected = like.injected;
      last = last.Stepped id first (length (kept_all mid.packets));
      applied = mid.applied + 1;
    }

    pub stands_after : (p : PlainWorld) → StandsFor mid p → length (spares_of st) ≡ length (spares_of mid.stage) → StandsFor after (stepped_world p id step)
    stands_after p stands spares = record {
      clock = stands.clock;
      hosts =
          ap (λ hs. slice_set hs id.0 step.host) stands.hosts ∙ ap (slice_set (map (λ (k : Known). k.host) (known_of mid.stage)) id.0) (sym stepped.done.host)
          ∙ sym (map-set (λ (k : Known). k.host) (known_of mid.stage) id.0 (known stepped.after)) ∙ ap (map (λ (k : Known). k.host)) (sym known_after);
      leads = stands.leads;
      packets = subst (AreShownBy mid.settings mid.clock (p.packets ++ stamped p.clock (packets_in step.told))) (sym sent)
          (shown_more mid.settings mid.clock p.packets (stamped p.clock (packets_in step.told)) (kept_all mid.packets)
          (map (frame_kept mid.clock) st.outbox) stands.packets frames);
      spares = stands.spares ∙ sym spares;
    } where
      of_host : AreShownBy h.settings mid.clock (stamped mid.clock (packets_in step.told))
          (map (frame_kept mid.clock) (frames_of h.settings (packets_in step.told)))
      of_host = shown_sent h.settings mid.clock mid.clock (packets_in step.told) stepped.done.formed

      frames : AreShownBy mid.settings mid.clock (stamped p.clock (packets_in step.told)) (map (frame_kept mid.clock) st.outbox)
      frames =
          subst (λ n. AreShownBy mid.settings mid.clock (stamped n (packets_in step.told)) (map (frame_kept mid.clock) st.outbox)) (sym stands.clock)
          (subst (λ fs. AreShownBy mid.settings mid.clock (stamped mid.clock (packets_in step.told)) (map (frame_kept mid.clock) fs)) (sym stepped.done.posted)
          (subst (λ s. AreShownBy s mid.clock (stamped mid.clock (packets_in step.told))
          (map (frame_kept mid.clock) (frames_of h.settings (packets_in step.told)))) fits.settings of_host))

    inside : id.0 < length (hosts_of mid.stage)
    inside = within (hosts_of mid.stage) id.0 at where
      within : (xs : List Seen) (i : ℕ) → slice_get xs i ≡ Some h → i < length xs
      within [] i e = absurd (no e) where
        no : None ≡ Some h → ⊥
        no e = cc
      within (x ∷ xs) zero e = omega (arith)
      within (x ∷ xs) (suc i) e = let l : i < length xs = within xs i e in omega (arith, l)

    here_after : slice_get (hosts_of st) id.0 ≡ Some stepped.after
    here_after = ap (λ hs. slice_get hs id.0) stepped.hosts ∙ at_set (hosts_of mid.stage) id.0 inside where
      at_set : (xs : List Seen) (i : ℕ) → i < length xs → slice_get (slice_set xs i stepped.after) i ≡ Some stepped.after
      at_set [] i l = absurd (omega (arith, l))
      at_set (x ∷ xs) zero l = refl
      at_set (x ∷ xs) (suc i) l = at_set xs i (omega (arith, l))

    pub told_after : (p : PlainWorld) → StandsFor mid p → AllByRecursion IsOfStep step.told
        → told_of after ≡ step_told p (first_told id first like.injected.items) step
    told_after p stands said =
        ap (λ o. first_told id first like.injected.items ++ map (numbered (length (kept_all mid.packets))) (entries_of st o)) here_after
        ∙ ap (λ es. first_told id first like.injected.items ++ map (numbered (length (kept_all mid.packets))) es) stepped.done.entries
        ∙ ap (λ es. first_told id first like.injected.items ++ es) (sym (renumber (length (kept_all mid.packets)) step.told said))
        ∙ ap (λ n. first_told id first like.injected.items ++ entries_from n step.told)
        (sym (shown_length mid.settings mid.clock p.packets (kept_all mid.packets) stands.packets))

    pub kept_after : IsOwnStep id step → IsApartStep id step → length st.outbox ≤ 64 → length (kept_all mid.packets) + 64 < 2 ^ 64
        → now ≤ mid.clock + slice_index_or mid.leads.items id.0 0 → length (seats_of st) ≡ length (seats_of mid.stage)
        → ((i : ℕ) → i < mid.settings.hosts → SeatFits served (mid.applied + 1) (place_of (seats_of st) i)) → spares_of st ≡ spares_of mid.stage
        → IsKept served after
    kept_after own apart few room clock places seats spares =
        let frames : length (packets_in step.told) ≡ length st.outbox = sym (ap length stepped.done.posted ∙ length-map (packets_in step.told) _) in
        let many : length (kept_all packets) ≡ length (kept_all mid.packets) + length st.outbox =
        ap length sent ∙ length-both (kept_all mid.packets) (map (frame_kept mid.clock) st.outbox) ∙ ap (λ n. length (kept_all mid.packets) + n)
        (length-map st.outbox (frame_kept mid.clock)) in
        record {
          valid = kept.valid;
          clock = kept.clock;
          hosts = ap length known_after ∙ length-set (known_of mid.stage) id.0 (known stepped.after) ∙ kept.hosts;
          leads = kept.leads;
          lead = kept.lead;
          each = λ n k is. each n k (sym (ap (λ ks. slice_get ks n.0) known_after) ∙ is);
          places = places ∙ kept.places;
          seats = seats;
          spares = subst (AllByRecursion (λ seat. served seat ≤ mid.applied + 1)) (sym spares)
              (spares_later served mid.applied (mid.applied + 1) (spares_of mid.stage) (omega (arith)) kept.spares);
          packets = same ∙ kept.packets;
          few = omega (arith, kept.few, many, few);
          froms = subst (AllByRecursion (IsFromHost mid.settings.hosts)) (sym sent)
              (all-append (IsFromHost mid.settings.hosts) (kept_all mid.packets) (map (frame_kept mid.clock) st.outbox) kept.froms new_froms);
          last = (
            room,
            subst (HasLeft st) (sym here_after)
                (stepped.done.sent, subst (AllByRecursion IsFew) (sym stepped.done.entries) (few_from 0 step.told own.said (omega (arith, frames, few)))),
          );
        } where
          length-both : {A : Type 0} (xs ys : List A) → length (xs ++ ys) ≡ length xs + length ys
          length-both xs ys = length-append xs ys

          new_froms : AllByRecursion (IsFromHost mid.settings.hosts) (map (frame_kept mid.clock) st.outbox)
          new_froms = subst (λ fs. AllByRecursion (IsFromHost mid.settings.hosts) (map (frame_kept mid.clock) fs)) (sym stepped.done.posted)
              (froms_sent h.settings mid.settings.hosts mid.clock (packets_in step.told)
              (both_all id mid.settings.hosts (packets_in step.told) in_range own.by apart.sent)) where
                in_range : id.0 < mid.settings.hosts
                in_range = omega (arith, inside, length-map (hosts_of mid.stage) known, kept.hosts)

          fits_after : HostFits mid.settings (mid.clock + slice_index_or mid.leads.items id.0 0) (mid.applied + 1) (length (spares_of st)) id
              (known stepped.after)
          fits_after =
              let n : length (spares_of st) ≡ length (spares_of mid.stage) = ap length spares in
              record {
                settings = stepped.same.settings ∙ fits.settings;
                name = subst (HasOwnName id) (sym stepped.done.host) own.name;
                apart = subst (IsApart id) (sym stepped.done.host) apart.apart;
                last = omega (arith, stepped.last, clock);
                order = omega (arith, stepped.same.order, fits.order);
                inc = omega (arith, stepped.same.inc, fits.inc);
                lives = omega (arith, stepped.same.inc, fits.lives, n);
              }

          each : (n : HostId) (k : Known) → slice_get (slice_set (known_of mid.stage) id.0 (known stepped.after)) n.0 ≡ Some k
              → HostFits mid.settings (mid.clock + slice_index_or mid.leads.items n.0 0) (mid.applied + 1) (length (spares_of st)) n k
          each n k is = by_host (is_host n id) refl where
            by_host : (b : Bool) → is_host n id ≡ b → HostFits mid.settings (mid.clock + slice_index_or mid.leads.items n.0 0) (mid.applied + 1)
                (length (spares_of st)) n k
            by_host true e =
                let one : n ≡ id = (hosts_are n id).0 e in
                let k_is : known stepped.after ≡ k =
                some_is (known stepped.after) k
                (sym (there (known_of mid.stage) id.0 (known stepped.after) (omega (arith, inside, length-map (hosts_of mid.stage) known)))
                ∙ ap (λ (m : HostId). slice_get (slice_set (known_of mid.stage) id.0 (known stepped.after)) m.0) (sym one) ∙ is) in
                subst (λ (m : HostId). HostFits mid.settings (mid.clock + slice_index_or mid.leads.items m.0 0) (mid.applied + 1)
                (length (spares_of st)) m k) (sym one)
                (subst (HostFits mid.settings (mid.clock + slice_index_or mid.leads.items id.0 0) (mid.applied + 1) (length (spares_of st)) id) k_is
                fits_after) where
                  some_is : (x y : Known) → Some x ≡ Some y → x ≡ y
                  some_is x y e = cc
            by_host false e =
                let old : slice_get (known_of mid.stage) n.0 ≡ Some k =
                sym (elsewhere (known_of mid.stage) id.0 n.0 (known stepped.after) (λ same. apart_of n id e (sym same))) ∙ is in
                fits_later mid.settings (mid.clock + slice_index_or mid.leads.items n.0 0) (mid.clock + slice_index_or mid.leads.items n.0 0)
                mid.applied (mid.applied + 1) (length (spares_of st)) n k (omega (arith)) (omega (arith))
                (subst (λ m. HostFits mid.settings (mid.clock + slice_index_or mid.leads.items n.0 0) mid.applied m n k) (sym (ap length spares))
                (kept.each n k old))
