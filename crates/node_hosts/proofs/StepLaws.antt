-- A step of a host, from the node's hosts before to those after.
use Rattle.std.proofs.Common.{◌≡◌, ◌<◌, ◌≤◌, ℕ, zero, suc, ◌+◌, ◌^◌, Bool, true, false, Option, Some, None, List, [], ◌∷◌, ◌++◌, length, refl, sym}
use Rattle.std.proofs.Common.{ap, subst, ◌∙◌, arith}
use Rattle.std.specs.Prelude.{map, replicate, slice_get, slice_set, slice_index_or, IfSome}
use Rattle.std.specs.List.{AllByRecursion}
use Rattle.std.proofs.lemmas.List.{map-set, map-append, length-map, length-append}
use Rattle.homa_plain.specs.declared.id.HostId.{HostId}
use Rattle.homa_plain.specs.declared.settings.Settings.{Settings}
use Rattle.homa_plain.specs.Entries.{PlainEntry, PlainSend}
use Rattle.homa_plain.specs.Packets.{Packet, sender, receiver, datagram}
use Rattle.homa_plain.specs.Host.{Told, Says, Sends, packets_in, entries_from}
use Rattle.homa_plain.specs.Work.{Work}
use Rattle.homa_plain.specs.World.{World, SentPacket, stamped, host_at, own_clock}
use Rattle.host_view.specs.Seen.{Seen}
use Rattle.host_view.specs.Frames.{frames_of}
use Rattle.homa_service.specs.Table.{place_of}
use Rattle.step_moves.proofs.Hosts.{there, elsewhere, length-set, apart as apart_of}
use Rattle.homa_plain.proofs.CallOrder.{hosts_are}
use Rattle.homa_plain.specs.Calls.{is_host}
use Rattle.step_moves.specs.Worlds.{HasOwnName}
use Rattle.event_laws.specs.Named.{IsOwnStep, IsOfStep, numbered}
use Rattle.event_laws.specs.Apart.{IsApart, IsApartStep}
use Rattle.event_laws.specs.Stepping.{stepped_world}
use Rattle.event_laws.proofs.Names.{renumber}
use Rattle.node_io.specs.Observer.{IsSeen}
use Rattle.host_table.specs.declared.stage.Stage.{Stage}
use Rattle.host_table.specs.Staged.{Known, known, known_of, hosts_of, seats_of, MayStep, HasStepped}
use Rattle.host_table.specs.Left.{IsFew, HasLeft, entries_of}
use Rattle.host_table.proofs.StageLaws.{map_at}
use Rattle.host_table.proofs.EntryLaws.{at_index}
use Rattle.node_runs.specs.Course.{Tells, datagrams}
use Rattle.node_turns.specs.Told.{numbers_of}
use Rattle.node_turns.specs.Acting.{frame_datagram, IsOwn}
use Rattle.node_hosts.specs.declared.parts.Last.{Last}
use Rattle.node_hosts.specs.declared.parts.Last.TheVariants as last
use Rattle.node_hosts.specs.declared.parts.NodeParts.{NodeParts}
use Rattle.node_hosts.specs.Standing.{StandsFor, HostFits, SeatFits, IsKept, IsLast, told_of, told_by}
use Rattle.node_hosts.proofs.SeenLaws.{IsOfHost, marks_of, all_seen, all_own, numbers_told}

-- what stands at a place of a list
pub record IsAt (xs : List Seen) (i : ℕ) : Type 0 where
  pub h : Seen
  pub at : slice_get xs i ≡ Some h

pub found : (xs : List Seen) (i : ℕ) → i < length xs → IsAt xs i
found [] i l = absurd (omega (arith, l))
found (x ∷ xs) zero l = record { h = x; at = refl }
found (x ∷ xs) (suc i) l = let r = found xs i (omega (arith, l)) in record { h = r.h; at = r.at }

pub of_some : {A : Type 0} (P : A → Type 0) (o : Option A) (x : A) → o ≡ Some x → IfSome o P → P x
of_some P o x e p = subst (λ o. IfSome o P) e p

pub if_some : {A : Type 0} (P : A → Type 0) (o : Option A) (x : A) → o ≡ Some x → P x → IfSome o P
if_some P o x e p = subst (λ o. IfSome o P) (sym e) p

few_from : (n : ℕ) (told : List Told) → AllByRecursion IsOfStep told → n + length (packets_in told) ≤ 64 → AllByRecursion IsFew (entries_from n told)
few_from n [] said l = tt
few_from n (Says entry ∷ told) said l = (few_said entry said.0, few_from n told said.1 l) where
  few_said : (entry : PlainEntry) → IsOfStep (Says entry) → IsFew entry
  few_said entry said = by_entry entry said where
    by_entry : (entry : PlainEntry) → IsOfStep (Says entry) → IsFew entry
    by_entry (PlainSend number from to inc role id level what payload) said = absurd said
    by_entry entry said = tt
few_from n (Sends p ∷ told) said l = (omega (arith, l), few_from (suc n) told said.1 (omega (arith, l)))

-- packets that are sent are their frames
sent_as : (s : Settings) (tick : ℕ) (ps : List Packet)
    → map (λ (p : SentPacket). record { from = sender p.packet; to = receiver p.packet; bytes = datagram s p.packet }) (stamped tick ps)
    ≡ map frame_datagram (frames_of s ps)
sent_as s tick [] = refl
sent_as s tick (p ∷ ps) = ap (λ ds. record { from = sender p; to = receiver p; bytes = datagram s p } ∷ ds) (sent_as s tick ps)

lead_at : (n skew i : ℕ) → i < n → slice_index_or (replicate n skew) i 0 ≡ skew
lead_at zero skew i l = absurd (omega (arith, l))
lead_at (suc n) skew zero l = refl
lead_at (suc n) skew (suc i) l = lead_at n skew i (omega (arith, l))

module _ {S : Type 0} (n : NodeParts S) (id : HostId) (p : World) (stands : StandsFor n p) where
  pub host_there : (h : Seen) → slice_get (hosts_of n.stage) id.0 ≡ Some h → host_at p id ≡ Some h.host
  host_there h at =
      ap (λ hs. slice_get hs id.0) stands.hosts ∙ map_at (λ (k : Known). k.host) (known_of n.stage) id.0 (known h) (map_at known (hosts_of n.stage) id.0 h at)

  pub clock_there : id.0 < n.settings.hosts → (now : ℕ) → now ≡ n.clock + n.settings.skew → own_clock p id ≡ now
  clock_there l now e = ap (λ m. m + slice_index_or p.leads id.0 0) stands.clock ∙ ap (λ ls. n.clock + slice_index_or ls id.0 0) stands.leads
      ∙ ap (λ m. n.clock + m) (lead_at n.settings.hosts n.settings.skew id.0 l) ∙ sym e

module _ {S : Type 0} (served : S → ℕ) (n : NodeParts S) (kept : IsKept served n) (id : HostId) where
  pub within : id.0 < n.settings.hosts → id.0 < length (hosts_of n.stage)
  within l = omega (arith, l, length-map (hosts_of n.stage) known, kept.hosts)

  pub fits_there : (h : Seen) → slice_get (hosts_of n.stage) id.0 ≡ Some h → HostFits n.settings (n.clock + n.settings.skew) n.steps id (known h)
  fits_there h at = kept.each id (known h) (map_at known (hosts_of n.stage) id.0 h at)

  -- a host may take a step by its own clock
  pub may_step : n.steps < 2 ^ 57 → (now : ℕ) → now ≡ n.clock + n.settings.skew → id.0 < n.settings.hosts
      → IfSome (slice_get (hosts_of n.stage) id.0) (MayStep now)
  may_step few now clock l =
      let r = found (hosts_of n.stage) id.0 (within l) in
      let f = fits_there r.h r.at in
      if_some (MayStep now) (slice_get (hosts_of n.stage) id.0) r.h r.at (record { last = omega (arith, f.last, clock); order = omega (arith, f.order, few) })

-- a host's own clock isn't past its last tick
pub skew_fits : {S : Type 0} (served : S → ℕ) (n : NodeParts S) → IsKept served n → n.clock + n.settings.skew ≤ 1000000002000
skew_fits served n kept = omega (arith, kept.clock, kept.valid.in_range.2.2.2.2.2.2.2.2.2.2.2.2.2.1)

fits_later : (s : Settings) (now later a b : ℕ) (id : HostId) (k : Known) → now ≤ later → a ≤ b → HostFits s now a id k → HostFits s later b id k
fits_later s now later a b id k l m f =
    record { settings = f.settings; name = f.name; apart = f.apart; last = omega (arith, f.last, l); order = omega (arith, f.order, m) }

module _ {S : Type 0} (served : S → ℕ) where
  pub seat_later : (a b : ℕ) (o : Option S) → a ≤ b → SeatFits served a o → SeatFits served b o
  seat_later a b o l f = record { seat = f.seat; is = f.is; count = omega (arith, f.count, l) }

  pub set_fits : (a : ℕ) (xs : List (Option S)) (i j : ℕ) (x : S) → served x ≤ a → SeatFits served a (place_of xs j)
      → SeatFits served a (place_of (slice_set xs i (Some x)) j)
  set_fits a [] i j x l f = f
  set_fits a (y ∷ xs) zero zero x l f = record { seat = x; is = refl; count = l }
  set_fits a (y ∷ xs) zero (suc j) x l f = f
  set_fits a (y ∷ xs) (suc i) zero x l f = f
  set_fits a (y ∷ xs) (suc i) (suc j) x l f = set_fits a xs i j x l f

  -- nothing is told
  pub resting : (n : NodeParts S) → IsKept served n → IsKept served (record n { last = last.Nothing })
  resting n k = record { valid = k.valid; clock = k.clock; hosts = k.hosts; each = k.each; seats = k.seats; sent = k.sent; last = tt }

  -- the clock stands later
  pub later_kept : (n : NodeParts S) (now : ℕ) → n.clock ≤ now → now ≤ 1000000000000 → IsKept served n → IsKept served (record n { clock = now })
  later_kept n now l most k = record {
    valid = k.valid;
    clock = most;
    hosts = k.hosts;
    each = λ id h at. fits_later n.settings (n.clock + n.settings.skew) (now + n.settings.skew) n.steps n.steps id h (omega (arith, l))
        (omega (arith)) (k.each id h at);
    seats = k.seats;
    sent = k.sent;
    last = still n.last k.last;
  } where
    still : (l : Last) → IsLast n l → IsLast (record n { clock = now }) l
    still last.Nothing is = tt
    still (last.Stepped host base) is = is

-- an entry of the last step may be told to any observer
pub seen_at : {S : Type 0} (n : NodeParts S) (host : HostId) (base i : ℕ) (e x : PlainEntry) → IsLast n (last.Stepped host base)
    → slice_get (entries_of n.stage (slice_get (hosts_of n.stage) host.0)) i ≡ Some e → x ≡ numbered base e → IsSeen x
seen_at n host base i e x is at same =
    subst IsSeen (sym same)
    (at_index IsSeen (told_by n (last.Stepped host base)) i (numbered base e) is.2
    (map_at (numbered base) (entries_of n.stage (slice_get (hosts_of n.stage) host.0)) i e at))

-- and it doesn't tell that a datagram comes
pub own_at : {S : Type 0} (n : NodeParts S) (host : HostId) (base i : ℕ) (e x : PlainEntry) → IsLast n (last.Stepped host base)
    → slice_get (entries_of n.stage (slice_get (hosts_of n.stage) host.0)) i ≡ Some e → x ≡ numbered base e → IsOwn x
own_at n host base i e x is at same =
    subst IsOwn (sym same) (at_index IsOwn (told_by n (last.Stepped host base)) i (numbered base e) is.3
    (map_at (numbered base) (entries_of n.stage (slice_get (hosts_of n.stage) host.0)) i e at))

-- nor does any other of them
own_by : {S : Type 0} (n : NodeParts S) (l : Last) → IsLast n l → AllByRecursion IsOwn (told_by n l)
own_by n last.Nothing is = tt
own_by n (last.Stepped host base) is = is.3

pub own_told : {S : Type 0} (served : S → ℕ) (n : NodeParts S) → IsKept served n → AllByRecursion IsOwn (told_of n)
own_told served n kept = own_by n n.last kept.last

-- ---- a step

module _ {S : Type 0} (served : S → ℕ) (n : NodeParts S) (kept : IsKept served n)
    (now : ℕ) (id : HostId) (h : Seen) (step : Work) (st : Stage S) (at : slice_get (hosts_of n.stage) id.0 ≡ Some h)
    (stepped : HasStepped now id h step n.stage st) where
  abbrev pub after : NodeParts S
  after = record n { stage = st; last = last.Stepped id n.sent; sent = n.sent + length st.outbox; steps = n.steps + 1 }

  fits : HostFits n.settings (n.clock + n.settings.skew) n.steps id (known h)
  fits = fits_there served n kept id h at

  known_after : known_of st ≡ slice_set (known_of n.stage) id.0 (known stepped.after)
  known_after = ap (map known) stepped.hosts ∙ map-set known (hosts_of n.stage) id.0 stepped.after

  frames : length (packets_in step.told) ≡ length st.outbox
  frames = sym (ap length stepped.done.posted ∙ length-map (packets_in step.told) _)

  pub stands_after : (p : World) → StandsFor n p → StandsFor after (stepped_world p id step)
  stands_after p stands = record {
    clock = stands.clock;
    hosts = ap (λ hs. slice_set hs id.0 step.host) stands.hosts ∙ ap (slice_set (map (λ (k : Known). k.host) (known_of n.stage)) id.0) (sym stepped.done.host)
        ∙ sym (map-set (λ (k : Known). k.host) (known_of n.stage) id.0 (known stepped.after)) ∙ ap (map (λ (k : Known). k.host)) (sym known_after);
    count = length-set p.hosts id.0 step.host ∙ stands.count;
    leads = stands.leads;
    packets = length-append p.packets (stamped p.clock (packets_in step.told)) ∙ ap (λ m. m + length (stamped p.clock (packets_in step.told))) stands.packets
        ∙ ap (λ m. n.sent + m) (length-map (packets_in step.told) _ ∙ frames);
  }

  pub sent_after : (p : World) → datagrams n.settings (stepped_world p id step) ≡ datagrams n.settings p ++ map frame_datagram st.outbox
  sent_after p =
      map-append (λ (q : SentPacket). record { from = sender q.packet; to = receiver q.packet; bytes = datagram n.settings q.packet }) p.packets
      (stamped p.clock (packets_in step.told))
      ∙ ap (λ ds. datagrams n.settings p ++ ds)
      (sent_as n.settings p.clock (packets_in step.told) ∙ ap (λ s. map frame_datagram (frames_of s (packets_in step.told))) (sym fits.settings)
      ∙ ap (map frame_datagram) (sym stepped.done.posted))

  inside : id.0 < length (hosts_of n.stage)
  inside = here (hosts_of n.stage) id.0 at where
    here : (xs : List Seen) (i : ℕ) → slice_get xs i ≡ Some h → i < length xs
    here [] i e = absurd (no e) where
      no : None ≡ Some h → ⊥
      no e = cc
    here (x ∷ xs) zero e = omega (arith)
    here (x ∷ xs) (suc i) e = let l : i < length xs = here xs i e in omega (arith, l)

  here_after : slice_get (hosts_of st) id.0 ≡ Some stepped.after
  here_after = ap (λ hs. slice_get hs id.0) stepped.hosts ∙ at_set (hosts_of n.stage) id.0 inside where
    at_set : (xs : List Seen) (i : ℕ) → i < length xs → slice_get (slice_set xs i stepped.after) i ≡ Some stepped.after
    at_set [] i l = absurd (omega (arith, l))
    at_set (x ∷ xs) zero l = refl
    at_set (x ∷ xs) (suc i) l = at_set xs i (omega (arith, l))

  -- the entries, with the numbers from here on
  entries_after : AllByRecursion IsOfStep step.told → told_of after ≡ entries_from n.sent step.told
  entries_after said =
      ap (λ o. map (numbered n.sent) (entries_of st o)) here_after
      ∙ ap (map (numbered n.sent)) stepped.done.entries
      ∙ sym (renumber n.sent step.told said)

  pub told_after : (p : World) → StandsFor n p → AllByRecursion IsOfStep step.told → told_of after ≡ entries_from (length p.packets) step.told
  told_after p stands said = entries_after said ∙ ap (λ m. entries_from m step.told) (sym stands.packets)

  -- each frame's packet is told once
  pub numbers_after : AllByRecursion IsOfStep step.told → length st.outbox ≡ length (numbers_of (map Tells (told_of after)))
  numbers_after said =
      sym frames ∙ numbers_told n.sent step.told said ∙ ap (λ es. length (numbers_of (map Tells es))) (sym (entries_after said))

  pub kept_after : IsOwnStep id step → IsApartStep id step → length st.outbox ≤ 64 → n.steps < 2 ^ 57 → now ≤ n.clock + n.settings.skew
      → ((i : ℕ) → i < n.settings.hosts → SeatFits served (n.steps + 1) (place_of (seats_of st) i)) → IsKept served after
  kept_after own apart few room clock seats = record {
    valid = kept.valid;
    clock = kept.clock;
    hosts = ap length known_after ∙ length-set (known_of n.stage) id.0 (known stepped.after) ∙ kept.hosts;
    each = λ m k is. each m k (sym (ap (λ ks. slice_get ks m.0) known_after) ∙ is);
    seats = seats;
    sent = omega (arith, kept.sent, few);
    last = (
      omega (arith, kept.sent, room),
      subst (HasLeft st) (sym here_after)
          (stepped.done.sent, subst (AllByRecursion IsFew) (sym stepped.done.entries) (few_from 0 step.told own.said (omega (arith, frames, few)))),
      subst (AllByRecursion IsSeen) (sym (entries_after own.said)) (all_seen h.settings n.sent 0 step.told stepped.done.formed own.said of_host),
      subst (AllByRecursion IsOwn) (sym (entries_after own.said)) (all_own n.sent 0 step.told of_host),
    );
  } where
    of_host : AllByRecursion IsOfHost (entries_from 0 step.told)
    of_host = subst (AllByRecursion IsOfHost) stepped.done.entries (marks_of stepped.after st.outbox st.scratch stepped.after.marks)

    fits_after : HostFits n.settings (n.clock + n.settings.skew) (n.steps + 1) id (known stepped.after)
    fits_after = record {
      settings = stepped.same.settings ∙ fits.settings;
      name = subst (HasOwnName id) (sym stepped.done.host) own.name;
      apart = subst (IsApart id) (sym stepped.done.host) apart.apart;
      last = omega (arith, stepped.last, clock);
      order = omega (arith, stepped.same.order, fits.order);
    }

    each : (m : HostId) (k : Known) → slice_get (slice_set (known_of n.stage) id.0 (known stepped.after)) m.0 ≡ Some k
        → HostFits n.settings (n.clock + n.settings.skew) (n.steps + 1) m k
    each m k is = by_host (is_host m id) refl where
      by_host : (b : Bool) → is_host m id ≡ b → HostFits n.settings (n.clock + n.settings.skew) (n.steps + 1) m k
      by_host true e =
          let one : m ≡ id = (hosts_are m id).0 e in
          let k_is : known stepped.after ≡ k =
          some_is (known stepped.after) k
          (sym (there (known_of n.stage) id.0 (known stepped.after) (omega (arith, inside, length-map (hosts_of n.stage) known)))
          ∙ ap (λ (q : HostId). slice_get (slice_set (known_of n.stage) id.0 (known stepped.after)) q.0) (sym one) ∙ is) in
          subst (λ (q : HostId). HostFits n.settings (n.clock + n.settings.skew) (n.steps + 1) q k) (sym one)
          (subst (HostFits n.settings (n.clock + n.settings.skew) (n.steps + 1) id) k_is fits_after) where
            some_is : (x y : Known) → Some x ≡ Some y → x ≡ y
            some_is x y e = cc
      by_host false e =
          let old : slice_get (known_of n.stage) m.0 ≡ Some k =
          sym (elsewhere (known_of n.stage) id.0 m.0 (known stepped.after) (λ same. apart_of m id e (sym same))) ∙ is in
          fits_later n.settings (n.clock + n.settings.skew) (n.clock + n.settings.skew) n.steps (n.steps + 1) m k (omega (arith)) (omega (arith))
          (kept.each m k old)
