-- A line of a run whose events are all carried out.
use Rattle.std.proofs.Common.{◌≡◌, ℕ, ◌+◌, ◌*◌, ◌≤◌, None, List, [], ◌∷◌, ◌++◌, length, refl, sym, ap, ◌∙◌, subst, arith, length-append}
use Rattle.std.specs.Prelude.{drop}
use Rattle.std.specs.List.{AllByRecursion, flat_map}
use Rattle.std.proofs.Math.Seq.{drop-append_seam}
use Rattle.std.proofs.lemmas.List.{append-nil}
use Rattle.std.proofs.lemmas.Grind.{flat_map-append}
use Rattle.homa_plain.specs.declared.settings.Settings.{Settings}
use Rattle.homa_plain.specs.Entries.{PlainEntry}
use Rattle.homa_plain.specs.declared.event.Event.TheVariants as event
use Rattle.homa_plain.specs.Script.{Given, GivenEvent, GivenTicks}
use Rattle.homa_plain.specs.World.{World, SentPacket}
use Rattle.homa_plain.specs.Replay.{Happening, carried, events_of}
use Rattle.generated_runs.specs.Fabric.{destination}
use Rattle.generated_runs.specs.Rounds.{Generated, all_sent, with_line}
use Rattle.generated_runs.proofs.Carried.{joined}
use Rattle.step_laws.proofs.Places.{all-append}
use Rattle.generated_laws.specs.Unrefused.{IsRunLine}
use Rattle.generated_laws.proofs.Peopled.{IsPeopled}
use Rattle.generated_laws.proofs.Events.{HasRun}
use Rattle.generated_laws.proofs.Ways.{AreWays, HasEntered, new_entered}

-- the events of the lines make the run's world and tell what it told, and none is refused
pub record IsTaken (s : Settings) (first : World) (g : Generated) : Type 0 where
  pub world : (carried s first (flat_map (events_of s.hosts) g.lines)).world ≡ g.world
  pub told : (carried s first (flat_map (events_of s.hosts) g.lines)).told ≡ g.told
  pub none : (carried s first (flat_map (events_of s.hosts) g.lines)).fault ≡ None

-- what is so of a run of so many calls between its parts
pub record IsSound (s : Settings) (first : World) (calls : ℕ) (g : Generated) : Type 0 where
  pub taken : IsTaken s first g
  pub world : IsPeopled s.hosts g.made g.world
  pub ways : AreWays g.world.packets g.fabric
  pub each : length g.fabric.destinations ≡ s.hosts
  pub total : g.made + g.left ≡ calls
  pub lines : AllByRecursion (IsRunLine s.hosts (length g.world.packets)) g.lines
  pub few : length g.world.packets ≤ 2112 * length g.lines  -- a line is 33 events at most, and each of them sends at most 64 packets

-- a line more is taken
taken_line : (s : Settings) (first : World) (g : Generated) (line : Given) → IsTaken s first g
    → (carried s g.world (events_of s.hosts line)).fault ≡ None → IsTaken s first (with_line s line g)
taken_line s first g line k none =
    let a = flat_map (events_of s.hosts) g.lines in
    let b = events_of s.hosts line in
    let split : flat_map (events_of s.hosts) (g.lines ++ line ∷ []) ≡ a ++ b =
    flat_map-append (events_of s.hosts) g.lines (line ∷ []) ∙ ap (λ (es : List Happening). a ++ es) (append-nil b) in
    let join = joined s first a b k.none in
    let run = (λ (es : List Happening). carried s first es) in
    let rest = (λ (w : World). carried s w b) in
    record {
      world = ap (λ (es : List Happening). (run es).world) split ∙ (join.world ∙ ap (λ (w : World). (rest w).world) k.world);
      told = ap (λ (es : List Happening). (run es).told) split ∙ (join.told
          ∙ (ap (λ (l : List PlainEntry). l ++ (rest (carried s first a).world).told) k.told ∙ ap (λ (w : World). g.told ++ (rest w).told) k.world));
      none = ap (λ (es : List Happening). (run es).fault) split ∙ (join.fault ∙ (ap (λ (w : World). (rest w).fault) k.world ∙ none));
    }

-- what was to be handed over, and how much, stays for each host; the clock is this one
pub record HasTaken (s : Settings) (first : World) (calls clock : ℕ) (old new : Generated) : Type 0 where
  pub sound : IsSound s first calls new
  pub again : (i : ℕ) → (destination new.fabric i).again ≡ (destination old.fabric i).again
  pub budget : (i : ℕ) → (destination new.fabric i).budget ≡ (destination old.fabric i).budget
  pub more : List SentPacket
  pub grown : new.world.packets ≡ old.world.packets ++ more
  pub at : new.world.clock ≡ clock
  pub made : new.made ≡ old.made

line_more : (hosts a b : ℕ) (given : Given) → a ≤ b → IsRunLine hosts a given → IsRunLine hosts b given
line_more hosts a b (GivenTicks n) l is = is
line_more hosts a b (GivenEvent (event.Deliver number) bytes) l is = (omega (arith, l, is.0), is.1)
line_more hosts a b (GivenEvent (event.Call client server service) bytes) l is = is
line_more hosts a b (GivenEvent event.Clock bytes) l is = absurd is
line_more hosts a b (GivenEvent (event.Turn host) bytes) l is = absurd is
line_more hosts a b (GivenEvent (event.Restart host) bytes) l is = absurd is
line_more hosts a b (GivenEvent (event.Inject host) bytes) l is = absurd is
line_more hosts a b (GivenEvent (event.Shift host n) bytes) l is = absurd is

lines_more : (hosts a b : ℕ) (lines : List Given) → a ≤ b → AllByRecursion (IsRunLine hosts a) lines → AllByRecursion (IsRunLine hosts b) lines
lines_more hosts a b [] l all = tt
lines_more hosts a b (given ∷ lines) l all = (line_more hosts a b given l all.0, lines_more hosts a b lines l all.1)

-- a line whose events are carried out
pub line_taken : (s : Settings) (first : World) (calls clock most : ℕ) (g : Generated) (line : Given) → IsSound s first calls g
    → IsRunLine s.hosts (length g.world.packets) line → HasRun s.hosts g.made clock most g.world (carried s g.world (events_of s.hosts line))
    → most ≤ 2112 → HasTaken s first calls clock g (with_line s line g)
line_taken s first calls clock most g line k is h within =
    let run = carried s g.world (events_of s.hosts line) in
    let before = length g.world.packets in
    let fresh : drop before run.world.packets ≡ h.more = ap (drop before) h.grown ∙ drop-append_seam g.world.packets h.more in
    let entered = new_entered s g.world.packets h.more g.fabric k.ways in
    let same : HasEntered run.world.packets g.fabric (all_sent s before (drop before run.world.packets) g.fabric) =
    subst (λ (xs : List SentPacket). HasEntered run.world.packets g.fabric (all_sent s before xs g.fabric)) (sym fresh)
    (subst (λ (ps : List SentPacket). HasEntered ps g.fabric (all_sent s before h.more g.fabric)) (sym h.grown) entered) in
    let count : length run.world.packets ≡ before + length h.more = ap length h.grown ∙ length-append g.world.packets h.more in
    let up : before ≤ length run.world.packets = omega (arith, count) in
    record {
      sound = record {
        taken = taken_line s first g line k.taken h.none;
        world = h.world;
        ways = same.ways;
        each = same.length ∙ k.each;
        total = k.total;
        lines = all-append (IsRunLine s.hosts (length run.world.packets)) g.lines (line ∷ [])
            (lines_more s.hosts before (length run.world.packets) g.lines up k.lines) (line_more s.hosts before (length run.world.packets) line up is, tt);
        few = omega (arith, count, k.few, h.few, within, length-append g.lines (line ∷ []));
      };
      again = same.again;
      budget = same.budget;
      more = h.more;
      grown = h.grown;
      at = h.at;
      made = refl;
    }
