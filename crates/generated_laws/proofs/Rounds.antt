-- A round of a run: its tick, what each host is handed, and its calls.
use Rattle.std.proofs.Common.{◌≡◌, ℕ, zero, suc, ◌+◌, ◌-◌, ◌*◌, ◌<◌, ◌≤◌, ◌%◌, Bool, true, false, Option, Some, None, List, [], ◌++◌, length}
use Rattle.std.proofs.Common.{refl, sym, ap, ◌∙◌, subst, arith}
use Rattle.std.specs.Prelude.{nat_le, nat_lt, ◌==◌, ◌&&◌, is_some, map, slice_get}
use Rattle.std.specs.Option.{IfSome}
use Rattle.std.proofs.lemmas.Bool.{cond_both, true≢false, eq-eqb}
use Rattle.std.proofs.lemmas.Bool.Decides.{nat_tests}
use Rattle.std.proofs.lemmas.Nat.{mod_below}
use Rattle.std.proofs.Math.Nat.{mod-eq_of_lt, add-mod_left}
use Rattle.std.proofs.lemmas.List.{length-map}
use Rattle.plain_sets.specs.Maps.{len}
use Rattle.rand_pcg.specs.Lcg.{Lcg}
use Rattle.rand_pcg.specs.Pcg.{pcg32}
use Rattle.homa_plain.specs.declared.settings.Settings.{Settings}
use Rattle.homa_plain.specs.declared.event.Event.TheVariants as event
use Rattle.homa_plain.specs.Host.{Host}
use Rattle.homa_plain.specs.Script.{GivenEvent, GivenTicks, counting}
use Rattle.homa_plain.specs.World.{World, SentPacket, host_at, last_tick}
use Rattle.generated_runs.specs.Draws.{Traffic, draw, sized, next_traffic}
use Rattle.generated_runs.specs.Fabric.{Destination, Handed, idle, destination, refilled}
use Rattle.generated_runs.specs.Rounds.{Generated, with_line, host_round, hosts_round, most_handed, live_at, with_call, calls_round, calls_a_round}
use Rattle.generated_runs.specs.Rounds.{round_begun, next_round}
use Rattle.generated_runs.proofs.Going.{handed_to, after_handed, by_number, host_step, host_none, hosts_step, hosts_none}
use Rattle.generated_runs.proofs.Going.{by_left, calls_step, calls_none, round_is}
use Rattle.generated_runs.proofs.Counting.{length-counting}
use Rattle.step_moves.proofs.Hosts.{length-set, within}
use Rattle.generated_laws.specs.Unrefused.{IsRunLine}
use Rattle.generated_laws.proofs.Listed.{set_at, set_here, map_at, there_is, get_front}
use Rattle.generated_laws.proofs.Peopled.{calls_more}
use Rattle.generated_laws.proofs.Events.{IsDeliverable, one_run, tick_run, most_turns, turns_within, delivery_happens, call_happens}
use Rattle.generated_laws.proofs.Ways.{IsWay, AreWays, idle_way}
use Rattle.generated_laws.proofs.Handing.{pending, left_to, IsHanded, next_handed}
use Rattle.generated_laws.proofs.Lines.{IsSound, line_taken}

-- settings of a run
pub record IsFit (s : Settings) : Type 0 where
  pub two : 2 ≤ s.hosts
  pub most : s.hosts ≤ 32
  pub resend : 1 ≤ s.resend
  pub overcommit : s.overcommit ≤ 7

-- between hosts nothing is to be handed over a second time
pub record IsCalm (s : Settings) (first : World) (calls clock : ℕ) (g : Generated) : Type 0 where
  pub sound : IsSound s first calls g
  pub calm : (i : ℕ) → (destination g.fabric i).again ≡ None
  pub at : g.world.clock ≡ clock

-- ---- what one host is handed

-- in the midst of a host's round
record IsAmid (s : Settings) (first : World) (calls clock n to : ℕ) (g : Generated) : Type 0 where
  sound : IsSound s first calls g
  others : (i : ℕ) → (i ≡ to → ⊥) → (destination g.fabric i).again ≡ None
  may : IfSome (destination g.fabric to).again (IsDeliverable s g.world)
  few : left_to (destination g.fabric to) ≤ n
  at : g.world.clock ≡ clock

still_may : (s : Settings) (old new : World) (more : List SentPacket) → new.packets ≡ old.packets ++ more → new.clock ≡ old.clock → (o : Option ℕ)
    → IfSome o (IsDeliverable s old) → IfSome o (IsDeliverable s new)
still_may s old new more grown at None may = tt
still_may s old new more grown at (Some number) may = record {
  sent = may.sent;
  at = ap (λ (ps : List SentPacket). slice_get ps number) grown ∙ get_front old.packets more number may.sent may.at;
  fresh = ap (λ (t : ℕ). s.wire == 1 && nat_lt (may.sent.tick + s.life) t) at ∙ may.fresh;
}

none_left : (o : Option ℕ) (b : ℕ) → 2 * b + pending o ≤ 0 → o ≡ None
none_left None b e = refl
none_left (Some number) b e = absurd (omega (arith, e))

module _ (s : Settings) (fit : IsFit s) (first : World) (calls clock : ℕ) where
  host_calm : (n to : ℕ) (g : Generated) → to < s.hosts → IsAmid s first calls clock n to g → IsCalm s first calls clock (host_round n s to g)
  host_calm zero to g l k =
      rw (host_none s to g) (record { sound = k.sound; calm = λ i. by_place i (i == to) refl; at = k.at }) where
        by_place : (i : ℕ) (t : Bool) → (i == to) ≡ t → (destination g.fabric i).again ≡ None
        by_place i true e =
            let same : i ≡ to = grind (arith, nat_tests, e) in
            ap (λ (m : ℕ). (destination g.fabric m).again) same ∙ none_left (destination g.fabric to).again (destination g.fabric to).budget k.few
        by_place i false e = k.others i (λ f. true≢false (sym (eq-eqb i to f) ∙ e))
  host_calm (suc n) to g l k =
      rw (host_step n s to g) (by_handed (λ g2 amid. host_calm n to g2 l amid) (handed_to s to g).number refl) where
        d : Destination
        d = destination g.fabric to

        h : Handed
        h = handed_to s to g

        it : IsHanded s g.world d h
        it = next_handed s g.world d g.fabric.random (k.sound.ways to) k.may

        after : Generated
        after = after_handed s to g

        here : destination after.fabric to ≡ h.to
        here = set_here g.fabric.destinations to h.to idle (omega (arith, l, k.sound.each))

        ways : AreWays after.world.packets after.fabric
        ways i = set_at (IsWay g.world.packets) g.fabric.destinations to i h.to idle (λ _. it.way) (k.sound.ways i)

        each : length after.fabric.destinations ≡ s.hosts
        each = length-set g.fabric.destinations to h.to ∙ k.sound.each

        sound : IsSound s first calls after
        sound = record {
          taken = record { world = k.sound.taken.world; told = k.sound.taken.told; none = k.sound.taken.none };
          world = k.sound.world;
          ways = ways;
          each = each;
          total = k.sound.total;
          lines = k.sound.lines;
          few = k.sound.few;
        }

        others : (i : ℕ) → (i ≡ to → ⊥) → (destination after.fabric i).again ≡ None
        others i e = set_at (λ (x : Destination). x.again ≡ None) g.fabric.destinations to i h.to idle (λ f. absurd (e f)) (k.others i e)

        by_handed : ((g2 : Generated) → IsAmid s first calls clock n to g2 → IsCalm s first calls clock (host_round n s to g2))
            → (o : Option ℕ) → h.number ≡ o → IsCalm s first calls clock (by_number n s to after o)
        by_handed on None e = record { sound = sound; calm = λ i. by_place i (i == to) refl; at = k.at } where
          by_place : (i : ℕ) (t : Bool) → (i == to) ≡ t → (destination after.fabric i).again ≡ None
          by_place i true f =
              let same : i ≡ to = grind (arith, nat_tests, f) in
              ap (λ (m : ℕ). (destination after.fabric m).again) same ∙ (ap (λ (x : Destination). x.again) here ∙ it.ended e)
          by_place i false f = others i (λ q. true≢false (sym (eq-eqb i to q) ∙ f))
        by_handed on (Some number) e =
            let may : IsDeliverable s after.world number = subst (λ (o : Option ℕ). IfSome o (IsDeliverable s g.world)) e it.given in
            let happens = delivery_happens s s.hosts after.world fit.overcommit after.made sound.world number may in
            let run = one_run s s.hosts after.made after.world.clock after.world (record { event = event.Deliver number; bytes = [] }) happens in
            let line = GivenEvent (event.Deliver number) [] in
            let next = line_taken s first calls after.world.clock 64 after line sound
            (within after.world.packets number may.sent may.at, refl) run (omega arith) in
            let g2 = with_line s line after in
            let less : left_to h.to < left_to d = it.less (ap is_some e) in
            on g2 (record {
              sound = next.sound;
              others = λ i f. next.again i ∙ others i f;
              may = subst (λ (o : Option ℕ). IfSome o (IsDeliverable s g2.world)) (sym (next.again to ∙ ap (λ (x : Destination). x.again) here))
                  (still_may s after.world g2.world next.more next.grown next.at h.to.again it.again);
              few = omega (
                arith,
                less,
                k.few,
                next.budget to,
                ap (λ (x : Destination). x.budget) here,
                ap (λ (x : Destination). pending x.again) here,
                ap pending (next.again to),
              );
              at = next.at ∙ k.at;
            })

  amid_of : (to : ℕ) (g : Generated) → IsCalm s first calls clock g → IsAmid s first calls clock most_handed to g
  amid_of to g k = record {
    sound = k.sound;
    others = λ i _. k.calm i;
    may = subst (λ (o : Option ℕ). IfSome o (IsDeliverable s g.world)) (sym (k.calm to)) tt;
    few = omega (arith, (k.sound.ways to).budget, ap pending (k.calm to));
    at = k.at;
  }

  -- each host from number `to` on
  pub hosts_calm : (n to : ℕ) (g : Generated) → to + n ≤ s.hosts → IsCalm s first calls clock g → IsCalm s first calls clock (hosts_round s to n g)
  hosts_calm zero to g l k = rw (hosts_none s to g) k
  hosts_calm (suc n) to g l k =
      rw (hosts_step s to n g)
      (hosts_calm n (suc to) (host_round most_handed s to g) (omega (arith, l)) (host_calm most_handed to g (omega (arith, l)) (amid_of to g k)))

-- ---- the calls that are drawn

-- the server is another host than the client
other_host : (n c d : ℕ) → c < n → d < n - 1 → (c + 1 + d) % n ≡ c → ⊥
other_host n c d l m e = by_test (nat_lt (c + 1 + d) n) refl where
  by_test : (t : Bool) → nat_lt (c + 1 + d) n ≡ t → ⊥
  by_test true f =
      let below : c + 1 + d < n = grind (arith, nat_tests, f) in
      let same : (c + 1 + d) % n ≡ c + 1 + d = mod-eq_of_lt below in
      let back : c + 1 + d ≡ c = sym same ∙ e in
      omega (arith, back)
  by_test false f =
      let above : n ≤ c + 1 + d = grind (arith, nat_tests, f) in
      let split : c + 1 + d ≡ n + (c + 1 + d - n) = omega (arith, above) in
      let below : c + 1 + d - n < n = omega (arith, above, l, m) in
      let whole : (c + 1 + d) % n ≡ (n + (c + 1 + d - n)) % n = ap (λ (x : ℕ). x % n) split in
      let turn : (n + (c + 1 + d - n)) % n ≡ (c + 1 + d - n) % n = add-mod_left n (c + 1 + d - n) in
      let same : (c + 1 + d - n) % n ≡ c + 1 + d - n = mod-eq_of_lt below in
      let back : c + 1 + d - n ≡ c = sym same ∙ (sym turn ∙ (sym whole ∙ e)) in
      omega (arith, back, above, l, m)

-- a call that may be made
record IsTraffic (hosts : ℕ) (t : Traffic) : Type 0 where
  client : t.client.0 < hosts
  server : t.server.0 < hosts
  service : t.service < 4
  other : t.server.0 ≡ t.client.0 → ⊥
  some : 0 < t.size
  long : t.size ≤ 1000000

sized_within : (k : ℕ) (random : Lcg) → (0 < (sized k random).0) × ((sized k random).0 ≤ 1000000)
sized_within k random =
    cond_both (nat_lt k 70) _ _ (λ (x : ℕ × Lcg). (0 < x.0) × (x.0 ≤ 1000000))
    (λ _. (omega arith, omega (arith, mod_below (pcg32 random).0 1000 (omega arith))))
    (λ _. cond_both (nat_lt k 95) _ _ (λ (x : ℕ × Lcg). (0 < x.0) × (x.0 ≤ 1000000))
    (λ _. (omega arith, omega (arith, mod_below (pcg32 random).0 10000 (omega arith))))
    (λ _. (omega arith, omega (arith, mod_below (pcg32 random).0 90000 (omega arith)))))

is_traffic : (hosts : ℕ) (random : Lcg) → 2 ≤ hosts → IsTraffic hosts (next_traffic hosts random).0
unfolding next_traffic
is_traffic hosts random two =
    let client = draw hosts random in
    let server = draw (hosts - 1) client.1 in
    let service = draw 4 server.1 in
    let kind = draw 100 service.1 in
    let size = sized_within kind.0 kind.1 in
    let here : client.0 < hosts = mod_below _ hosts (omega arith) in
    let there : server.0 < hosts - 1 = mod_below _ (hosts - 1) (omega arith) in
    record {
      client = here;
      server = mod_below (client.0 + 1 + server.0) hosts (omega arith);
      service = mod_below _ 4 (omega arith);
      other = other_host hosts client.0 server.0 here there;
      some = size.0;
      long = size.1;
    }

module _ (s : Settings) (fit : IsFit s) (first : World) (calls clock : ℕ) (most : calls ≤ 4294967295) where
  call_calm : (g : Generated) (t : Traffic) → IsTraffic s.hosts t → (g.left ≡ 0 → ⊥) → IsCalm s first calls clock g
      → IsCalm s first calls clock (with_call s t g)
  call_calm g t fits some k =
      let counted : Generated = record g { made = g.made + 1; left = g.left - 1 } in
      let line = GivenEvent (event.Call t.client t.server t.service) (counting 0 t.size) in
      let total : g.made + 1 + (g.left - 1) ≡ calls = omega (arith, k.sound.total, some_left g.left some) in
      let there = there_is g.world.hosts t.client.0 (omega (arith, fits.client, k.sound.world.many)) in
      let sound : IsSound s first calls counted = record {
        taken = record { world = k.sound.taken.world; told = k.sound.taken.told; none = k.sound.taken.none };
        world = calls_more s.hosts g.made (g.made + 1) g.world (omega arith) k.sound.world;
        ways = k.sound.ways;
        each = k.sound.each;
        total = total;
        lines = k.sound.lines;
        few = k.sound.few;
      } in
      cond_both (nat_le s.calls (live_at (host_at g.world t.client))) counted (with_line s line counted) (IsCalm s first calls clock)
      (λ _. record { sound = sound; calm = k.calm; at = k.at })
      (λ free.
      let room : nat_le s.calls (len (there.0).clients) ≡ false = ap (λ (o : Option Host). nat_le s.calls (live_at o)) (sym there.1) ∙ free in
      let size = length-counting 0 t.size in
      let happens = call_happens s s.hosts g.world fit.overcommit g.made k.sound.world (omega (arith, most, k.sound.total, some_left g.left some))
      t.client t.server t.service
      (counting 0 t.size) fits.server fits.other (omega (arith, size, fits.some)) (omega (arith, size, fits.long)) there.0 there.1 room in
      let run = one_run s s.hosts (g.made + 1) g.world.clock g.world
      (record { event = event.Call t.client t.server t.service; bytes = counting 0 t.size }) happens in
      let is : IsRunLine s.hosts (length g.world.packets) line =
      (fits.client, fits.server, fits.service, omega (arith, size, fits.long), ap (counting 0) (sym size)) in
      let next = line_taken s first calls g.world.clock 64 counted line sound is run (omega arith) in
      record { sound = next.sound; calm = λ i. next.again i ∙ k.calm i; at = next.at ∙ k.at }) where
        some_left : (n : ℕ) → (n ≡ 0 → ⊥) → 1 ≤ n
        some_left zero some = absurd (some refl)
        some_left (suc n) some = omega arith

  pub calls_calm : (n : ℕ) (g : Generated) → IsCalm s first calls clock g → IsCalm s first calls clock (calls_round n s g)
  calls_calm zero g k = rw (calls_none s g) k
  calls_calm (suc n) g k = rw (calls_step n s g) (by_none (λ g2 k2. calls_calm n g2 k2) (g.left == 0) refl) where
    by_none : ((g2 : Generated) → IsCalm s first calls clock g2 → IsCalm s first calls clock (calls_round n s g2)) → (t : Bool) → (g.left == 0) ≡ t
        → IsCalm s first calls clock (by_left n s g t)
    by_none on true e = k
    by_none on false e =
        let t = next_traffic s.hosts g.fabric.random in
        let drawn : Generated = record g { fabric = record g.fabric { random = t.1 } } in
        let same : IsCalm s first calls clock drawn = record {
          sound = record {
            taken = record { world = k.sound.taken.world; told = k.sound.taken.told; none = k.sound.taken.none };
            world = k.sound.world;
            ways = k.sound.ways;
            each = k.sound.each;
            total = k.sound.total;
            lines = k.sound.lines;
            few = k.sound.few;
          };
          calm = k.calm;
          at = k.at;
        } in
        on (with_call s t.0 drawn)
        (call_calm drawn t.0 (is_traffic s.hosts g.fabric.random fit.two) (λ f. true≢false (sym (eq-eqb g.left 0 f) ∙ e)) same)

-- ---- a whole round

-- a round goes on by a tick
pub round_calm : (s : Settings) (first : World) (calls clock : ℕ) → calls ≤ 4294967295 → IsFit s → clock < last_tick
    → (g : Generated) → IsCalm s first calls clock g → IsCalm s first calls (clock + 1) (next_round s g)
round_calm s first calls clock most fit early g k =
    let run = tick_run s s.hosts g.made fit.overcommit fit.resend g.world (omega (arith, k.at, early)) k.sound.world in
    let few = turns_within s.hosts fit.most in
    let next = line_taken s first calls (g.world.clock + 1) (most_turns s.hosts + 64) g (GivenTicks 1) k.sound refl run (omega (arith, few, fit.most)) in
    let ticked = with_line s (GivenTicks 1) g in
    let begun = round_begun ticked in
    let many : length (map refilled ticked.fabric.destinations) ≡ s.hosts = length-map ticked.fabric.destinations refilled ∙ next.sound.each in
    let calm : IsCalm s first calls (clock + 1) begun = record {
      sound = record {
        taken = record { world = next.sound.taken.world; told = next.sound.taken.told; none = next.sound.taken.none };
        world = next.sound.world;
        ways = λ i. map_at (IsWay ticked.world.packets) (IsWay ticked.world.packets) refilled ticked.fabric.destinations i idle
            (λ d way. record { levels = way.levels; budget = omega arith }) (idle_way ticked.world.packets) (next.sound.ways i);
        each = many;
        total = next.sound.total;
        lines = next.sound.lines;
        few = next.sound.few;
      };
      calm = λ i. map_at (λ (d : Destination). d.again ≡ None) (λ (d : Destination). d.again ≡ None) refilled ticked.fabric.destinations i idle
          (λ d e. e) refl (next.again i ∙ k.calm i);
      at = next.at ∙ ap (λ (t : ℕ). t + 1) k.at;
    } in
    rw (round_is s g) (calls_calm s fit first calls (clock + 1) most calls_a_round (hosts_round s 0 s.hosts begun)
    (hosts_calm s fit first calls (clock + 1) s.hosts 0 begun (omega arith) calm))
