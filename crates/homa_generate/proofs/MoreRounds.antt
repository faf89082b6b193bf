-- The hosts in order, calls, and rounds.
use Rattle.std.proofs.Common.{◌≡◌, ℕ, suc, ◌+◌, ◌-◌, ◌==◌, nat_le, Bool, true, false, if◌then◌else◌, List, map, refl, sym, ap, ◌∙◌, arith}
use Rattle.homa_plain.specs.declared.settings.Settings.{Settings}
use Rattle.homa_plain.specs.declared.event.Event.TheVariants as event
use Rattle.homa_plain.specs.Entries.{PlainEntry}
use Rattle.homa_plain.specs.Rules.{Answer}
use Rattle.homa_plain.specs.Script.{GivenEvent, GivenTicks, counting}
use Rattle.homa_plain.specs.World.{World, host_at}
use Rattle.rand_pcg.specs.Lcg.{Lcg}
use Rattle.generated_runs.specs.Draws.{Traffic, next_traffic}
use Rattle.generated_runs.specs.Fabric.{Destination, Fabric, refilled}
use Rattle.generated_runs.specs.Rounds.{Generated, with_line, live_at, with_call, host_round, hosts_round, most_handed, calls_round, calls_a_round}
use Rattle.generated_runs.specs.Rounds.{round_begun, next_round, is_over, rounds}
use Rattle.generated_runs.proofs.Going.{hosts_step, hosts_none, by_left, calls_step, calls_none, round_is, by_end, rounds_step, rounds_none}
use Rattle.homa_generate.specs.Going.{answered, Holds, IsAt, HasGone}
use Rattle.homa_generate.specs.Steps.{one_call}
use Rattle.homa_generate.proofs.Goings.{gone_on, gone_beside, gone_as, then_gone}
use Rattle.homa_generate.proofs.Extending.{after_begun, after_tick}

module _ (s : Settings) (all : Generated → Generated) (g : Generated) (a b : Holds) (st : World → Type 0) (p q : List PlainEntry → Type 0) where
  -- the next host
  pub next_host : (to n k : ℕ) → n ≡ suc k → HasGone all (hosts_round s to n) g a b st p q
      → HasGone all (λ x. hosts_round s (to + 1) k (host_round most_handed s to x)) g a b st p q
  next_host to n k is first =
      let more : suc to ≡ to + 1 = omega arith in
      gone_as all (hosts_round s to n) (λ x. hosts_round s (to + 1) k (host_round most_handed s to x)) g a b st p q first
      (λ answers. ap (λ (m : ℕ). hosts_round s to m (answered answers first.next)) is
      ∙ hosts_step s to k (answered answers first.next)
      ∙ ap (λ (m : ℕ). hosts_round s m k (host_round most_handed s to (answered answers first.next))) more)

  -- no further host
  pub no_host : (to n : ℕ) → n ≡ 0 → HasGone all (hosts_round s to n) g a b st p q → HasGone all (λ x. x) g a b st p q
  no_host to n none first =
      gone_as all (hosts_round s to n) (λ x. x) g a b st p q first
      (λ answers. ap (λ (m : ℕ). hosts_round s to m (answered answers first.next)) none ∙ hosts_none s to (answered answers first.next))

  left_is : (n k : ℕ) (none : Bool) (x : Generated) → n ≡ suc k → (x.left == 0) ≡ none → calls_round n s x ≡ by_left k s x none
  left_is n k none x is left = ap (λ (m : ℕ). calls_round m s x) is ∙ calls_step k s x ∙ ap (by_left k s x) left

  -- a further call
  pub next_call : (n k : ℕ) → n ≡ suc k → (b.left == 0) ≡ false → HasGone all (calls_round n s) g a b st p q
      → HasGone all (λ x. calls_round k s (one_call s x)) g a b st p q
  next_call n k is some first =
      gone_as all (calls_round n s) (λ x. calls_round k s (one_call s x)) g a b st p q first
      (λ answers. left_is n k false (answered answers first.next) is (ap (λ (l : ℕ). l == 0) (sym first.stood.left) ∙ some))

  -- no call is left
  pub no_call : (n k : ℕ) → n ≡ suc k → (b.left == 0) ≡ true → HasGone all (calls_round n s) g a b st p q → HasGone all (λ x. x) g a b st p q
  no_call n k is none first =
      gone_as all (calls_round n s) (λ x. x) g a b st p q first
      (λ answers. left_is n k true (answered answers first.next) is (ap (λ (l : ℕ). l == 0) (sym first.stood.left) ∙ none))

  -- as many calls were made as in a round
  pub calls_spent : (n : ℕ) → n ≡ 0 → HasGone all (calls_round n s) g a b st p q → HasGone all (λ x. x) g a b st p q
  calls_spent n none first =
      gone_as all (calls_round n s) (λ x. x) g a b st p q first
      (λ answers. ap (λ (m : ℕ). calls_round m s (answered answers first.next)) none ∙ calls_none s (answered answers first.next))

  -- the next round
  pub next_rounds : (n k : ℕ) → n ≡ suc k → HasGone all (rounds n s) g a b st p q
      → HasGone all (λ x. by_end k s (next_round s x) (is_over (next_round s x))) g a b st p q
  next_rounds n k is first =
      gone_as all (rounds n s) (λ x. by_end k s (next_round s x) (is_over (next_round s x))) g a b st p q first
      (λ answers. ap (λ (m : ℕ). rounds m s (answered answers first.next)) is ∙ rounds_step k s (answered answers first.next))

  -- the run is over, or goes on
  pub run_over : (k : ℕ) (first : HasGone all (λ x. by_end k s x (is_over x)) g a b st p q) → is_over first.next ≡ true → HasGone all (λ x. x) g a b st p q
  run_over k first over =
      gone_as all (λ x. by_end k s x (is_over x)) (λ x. x) g a b st p q first (λ answers. ap (by_end k s (answered answers first.next)) over)

  pub run_on : (k : ℕ) (first : HasGone all (λ x. by_end k s x (is_over x)) g a b st p q) → is_over first.next ≡ false → HasGone all (rounds k s) g a b st p q
  run_on k first over =
      gone_as all (λ x. by_end k s x (is_over x)) (rounds k s) g a b st p q first (λ answers. ap (by_end k s (answered answers first.next)) over)

  -- as many rounds were done as may be
  pub rounds_spent : (n : ℕ) → n ≡ 0 → HasGone all (rounds n s) g a b st p q → HasGone all (λ x. x) g a b st p q
  rounds_spent n none first =
      gone_as all (rounds n s) (λ x. x) g a b st p q first
      (λ answers. ap (λ (m : ℕ). rounds m s (answered answers first.next)) none ∙ rounds_none s (answered answers first.next))

-- a round begins
pub round_opens : (s : Settings) (g : Generated) (a : Holds) (st : World → Type 0) (p : List PlainEntry → Type 0) → IsAt a st g
    → HasGone (next_round s) (λ x. after_tick s (with_line s (GivenTicks 1) x)) g a a st p p
round_opens s g a st p at = gone_beside (next_round s) (λ x. after_tick s (with_line s (GivenTicks 1) x)) g g a a st p at refl refl refl refl
    (λ answers. round_is s (answered answers g))

-- the hosts are to be gone over
pub hosts_open : (s : Settings) (g : Generated) (a : Holds) (st : World → Type 0) (p : List PlainEntry → Type 0) → IsAt a st g
    → HasGone (hosts_round s 0 s.hosts) (hosts_round s 0 (s.hosts - 0)) g a a st p p
hosts_open s g a st p at =
    let all : s.hosts ≡ s.hosts - 0 = omega arith in
    gone_beside (hosts_round s 0 s.hosts) (hosts_round s 0 (s.hosts - 0)) g g a a st p at refl refl refl refl
    (λ answers. ap (λ (n : ℕ). hosts_round s 0 n (answered answers g)) all)

fabric_of : (f : Fabric) (destinations : List Destination) (random : Lcg) → f.destinations ≡ destinations → f.random ≡ random
    → f ≡ record { destinations = destinations; random = random }
fabric_of f destinations random d r =
    ap (λ (l : List Destination). record { destinations = l; random = f.random }) d ∙ ap (λ (x : Lcg). record { destinations = destinations; random = x }) r

-- each host has its budget
pub budgets_set : (s : Settings) (all : Generated → Generated) (g : Generated) (a b c : Holds) (st : World → Type 0) (p q : List PlainEntry → Type 0)
    → HasGone all (after_tick s) g a b st p q
    → c.fabric.destinations ≡ map refilled b.fabric.destinations → c.fabric.random ≡ b.fabric.random → c.left ≡ b.left → c.counts ≡ b.counts
    → c.taken ≡ b.taken → HasGone all (after_begun s) g a c st p q
budgets_set s all g a b c st p q first destinations random left counts taken =
    gone_on all (after_tick s) (after_begun s) g a b c st st p q q first
    (gone_beside (after_tick s) (after_begun s) first.next (round_begun first.next) b c st q
    (record {
      world = first.stood.world;
      fabric = fabric_of c.fabric (map refilled b.fabric.destinations) b.fabric.random destinations random
          ∙ ap (λ (f : Fabric). record { destinations = map refilled f.destinations; random = f.random }) first.stood.fabric;
      left = left ∙ first.stood.left;
    })
    refl refl counts taken (λ answers. refl))

-- the tick is done, and each host has its budget
pub round_ticked : (s : Settings) (g : Generated) (a b c : Holds) (st su : World → Type 0) (p q : List PlainEntry → Type 0) → IsAt a st g
    → ((x : Generated) → IsAt a st x → HasGone (with_line s (GivenTicks 1)) (λ y. y) x a b su p q)
    → c.fabric.destinations ≡ map refilled b.fabric.destinations → c.fabric.random ≡ b.fabric.random → c.left ≡ b.left → c.counts ≡ b.counts
    → c.taken ≡ b.taken → HasGone (next_round s) (after_begun s) g a c su p q
round_ticked s g a b c st su p q at ticks destinations random left counts taken =
    budgets_set s (next_round s) g a b c su p q
    (then_gone s s (next_round s) (after_tick s) (λ (o : Settings). with_line o (GivenTicks 1)) g a a b st su p p q refl (round_opens s g a st p at) ticks)
    destinations random left counts taken

-- and each host was handed what it is handed in a round
pub round_handed : (s t : Settings) (g : Generated) (a b c : Holds) (st su : World → Type 0) (p q r : List PlainEntry → Type 0) → t ≡ s
    → HasGone (next_round s) (after_begun s) g a b st p q
    → ((x : Generated) → IsAt b st x → HasGone (hosts_round t 0 t.hosts) (λ y. y) x b c su q r)
    → HasGone (next_round s) (calls_round calls_a_round s) g a c su p r
round_handed s t g a b c st su p q r same first hands =
    then_gone s t (next_round s) (calls_round calls_a_round s) (λ (o : Settings). hosts_round o 0 o.hosts) g a b c st su p q r same first hands

-- ---- a call

-- the run with the draws of a call, which counts
abbrev pub drawn_call : Traffic × Lcg → Generated → Generated
drawn_call t g = record g { fabric = record g.fabric { random = t.1 }; made = g.made + 1; left = g.left - 1 }

abbrev pub call_line : Settings → Traffic → Generated → Generated
call_line s t = with_line s (GivenEvent (event.Call t.client t.server t.service) (counting 0 t.size))

module _ (s : Settings) (g : Generated) (a b : Holds) (st : World → Type 0) (p : List PlainEntry → Type 0) (at : IsAt a st g) (t : Traffic)
    (random : Lcg) (hosts live : ℕ)
    (many : hosts ≡ s.hosts) (drawn : (t, random) ≡ next_traffic hosts a.fabric.random) (destinations : b.fabric.destinations ≡ a.fabric.destinations)
    (rest : b.fabric.random ≡ random)
    (left : b.left ≡ a.left - 1) (counts : b.counts ≡ a.counts) (taken : b.taken ≡ a.taken) (live_is : live ≡ live_at (host_at g.world t.client)) where
  drawn_is : next_traffic s.hosts g.fabric.random ≡ (t, random)
  drawn_is = sym (drawn ∙ ap (λ (n : ℕ). next_traffic n a.fabric.random) many ∙ ap (λ (f : Fabric). next_traffic s.hosts f.random) at.fabric)

  stood_drawn : IsAt b st (drawn_call (t, random) g)
  stood_drawn = record {
    world = at.world;
    fabric = fabric_of b.fabric a.fabric.destinations random destinations rest
        ∙ ap (λ (f : Fabric). record { destinations = f.destinations; random = random }) at.fabric;
    left = left ∙ ap (λ (n : ℕ). n - 1) at.left;
  }

  call_is : (skips : Bool) → nat_le s.calls live ≡ skips → (answers : List Answer)
      → one_call s (answered answers g)
      ≡ (if skips then answered answers (drawn_call (t, random) g) else call_line s t (answered answers (drawn_call (t, random) g)))
  call_is skips test answers =
      ap (λ (d : Traffic × Lcg). with_call s d.0 (record (answered answers g) { fabric = record g.fabric { random = d.1 } })) drawn_is
      ∙ ap (λ (b : Bool). if b then answered answers (drawn_call (t, random) g) else call_line s t (answered answers (drawn_call (t, random) g)))
      (ap (nat_le s.calls) (sym live_is) ∙ test)

  -- it isn't made
  pub call_skipped : nat_le s.calls live ≡ true → HasGone (one_call s) (λ x. x) g a b st p p
  call_skipped test = gone_beside (one_call s) (λ x. x) g (drawn_call (t, random) g) a b st p stood_drawn refl refl counts taken (call_is true test)

  -- it is to be made
  pub call_drawn : nat_le s.calls live ≡ false → HasGone (one_call s) (call_line s t) g a b st p p
  call_drawn test = gone_beside (one_call s) (call_line s t) g (drawn_call (t, random) g) a b st p stood_drawn refl refl counts taken (call_is false test)
