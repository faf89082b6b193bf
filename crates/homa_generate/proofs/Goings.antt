-- A generated run goes on, step by step.
use Rattle.std.proofs.Common.{Bool, ◌≡◌, ◌≤◌, ℕ, Option, Some, List, [], ◌∷◌, ◌++◌, length, drop, refl, sym, ap, ◌∙◌, subst, append_assoc}
use Rattle.std.specs.List.{flat_map, slice_get}
use Rattle.std.proofs.lemmas.List.{append-nil, append_cancel_left}
use Rattle.std.proofs.lemmas.Grind.{flat_map-append}
use Rattle.homa_io.specs.Outside.{appended, TookFront}
use Rattle.homa_plain.specs.declared.settings.Settings.{Settings}
use Rattle.homa_plain.specs.Entries.{PlainEntry}
use Rattle.homa_plain.specs.Rules.{Answer}
use Rattle.homa_plain.specs.Script.{Given}
use Rattle.homa_plain.specs.World.{World, SentPacket}
use Rattle.homa_plain.specs.Replay.{carried, events_of}
use Rattle.homa_plain.specs.Answers.{shown, answering}
use Rattle.homa_replay.proofs.Streams.{shown_parts}
use Rattle.homa_replay.proofs.Fronts.{nothing_appended, wrote_more, front_after, front_wide, front_same}
use Rattle.generated_runs.specs.Rounds.{Generated, all_sent, with_line}
use Rattle.generated_runs.specs.Generated.{given_text}
use Rattle.homa_generate.specs.Counts.{counted}
use Rattle.homa_generate.specs.Carried.{IsCarried}
use Rattle.homa_generate.specs.GenerateWorld.{AreNew}
use Rattle.homa_generate.specs.Going.{answered, Holds, IsAt, HasGone, IsFirstTold, HasStopped}
use Rattle.homa_generate.proofs.CountLaws.{counted-append}
use Rattle.homa_generate.proofs.Fresh.{IsSentNow, IsMadeLine, line_now}

-- the text of lines
abbrev pub text : List Given → List ℕ
text lines = flat_map given_text lines

-- lines and entries are added, and none is changed
pub record IsLonger (lines : List Given) (told : List PlainEntry) (next : List Given) (then : List PlainEntry) : Type 0 where
  pub more : List Given
  pub has : next ≡ lines ++ more
  pub further : List PlainEntry
  pub tells : then ≡ told ++ further

abbrev pub Extends : (Generated → Generated) → Type 0
Extends f = (g : Generated) → IsLonger g.lines g.told (f g).lines (f g).told

pub longer_self : (a : List Given) (t : List PlainEntry) → IsLonger a t a t
longer_self a t = record { more = []; has = sym (append-nil a); further = []; tells = sym (append-nil t) }

pub longer_on : (a b c : List Given) (t u v : List PlainEntry) → IsLonger a t b u → IsLonger b u c v → IsLonger a t c v
longer_on a b c t u v p q = record {
  more = p.more ++ q.more;
  has = q.has ∙ (ap (λ (l : List Given). l ++ q.more) p.has ∙ append_assoc a p.more q.more);
  further = p.further ++ q.further;
  tells = q.tells ∙ (ap (λ (l : List PlainEntry). l ++ q.further) p.tells ∙ append_assoc t p.further q.further);
}

pub id_extends : Extends (λ g. g)
id_extends g = longer_self g.lines g.told

-- ---- going on

-- the fabric and the number of calls change alone
pub gone_beside : (f h : Generated → Generated) (g next : Generated) (a b : Holds) (st : World → Type 0) (p : List PlainEntry → Type 0)
    → IsAt b st next → next.told ≡ g.told → next.lines ≡ g.lines → b.counts ≡ a.counts → b.taken ≡ a.taken
    → ((answers : List Answer) → f (answered answers g) ≡ h (answered answers next)) → HasGone f h g a b st p p
gone_beside f h g next a b st p stood told lines counts taken same = record {
  next = next;
  stood = stood;
  told = [];
  lines = [];
  tells = told ∙ sym (append-nil g.told);
  has = lines ∙ sym (append-nil g.lines);
  counts = counts;
  printed = taken ∙ nothing_appended a.taken;
  allowed = λ more k. k;
  same = same;
}

-- nothing happens
pub gone_none : (f : Generated → Generated) (g : Generated) (a : Holds) (st : World → Type 0) (p : List PlainEntry → Type 0) → IsAt a st g
    → HasGone f f g a a st p p
gone_none f g a st p stood = gone_beside f f g g a a st p stood refl refl refl refl (λ answers. refl)

-- one step and then another
pub gone_on : (f h k : Generated → Generated) (g : Generated) (a b c : Holds) (st su : World → Type 0) (p q r : List PlainEntry → Type 0)
    (first : HasGone f h g a b st p q) → HasGone h k first.next b c su q r → HasGone f k g a c su p r
gone_on f h k g a b c st su p q r first second = record {
  next = second.next;
  stood = second.stood;
  told = first.told ++ second.told;
  lines = first.lines ++ second.lines;
  tells = second.tells ∙ (ap (λ (l : List PlainEntry). l ++ second.told) first.tells ∙ append_assoc g.told first.told second.told);
  has = second.has ∙ (ap (λ (l : List Given). l ++ second.lines) first.has ∙ append_assoc g.lines first.lines second.lines);
  counts = second.counts ∙ (ap (λ (l : List ℕ). counted l second.told) first.counts ∙ sym (counted-append a.counts first.told second.told));
  printed = wrote_more a.taken b.taken c.taken (text first.lines) (text second.lines) first.printed second.printed
      ∙ ap (λ (l : List ℕ). appended a.taken l) (sym (flat_map-append given_text first.lines second.lines));
  allowed = λ more x. subst p (sym (append_assoc first.told second.told more)) (first.allowed (second.told ++ more) (second.allowed more x));
  same = λ later. ap (λ (l : List Answer). f (answered l g)) (shown_parts first.told second.told later)
      ∙ (first.same (shown second.told ++ later) ∙ second.same later);
}

-- the same step of other parts
gone_with : (f h all rest : Generated → Generated) (g : Generated) (a b : Holds) (st : World → Type 0) (p q : List PlainEntry → Type 0)
    (first : HasGone f h g a b st p q) → ((later : List Answer) → all (answered (shown first.told ++ later) g) ≡ rest (answered later first.next))
    → HasGone all rest g a b st p q
gone_with f h all rest g a b st p q first same = record {
  next = first.next;
  stood = first.stood;
  told = first.told;
  lines = first.lines;
  tells = first.tells;
  has = first.has;
  counts = first.counts;
  printed = first.printed;
  allowed = first.allowed;
  same = same;
}

-- the step of a part is one of the whole
pub gone_under : (over f h : Generated → Generated) (g : Generated) (a b : Holds) (st : World → Type 0) (p q : List PlainEntry → Type 0)
    → HasGone f h g a b st p q → HasGone (λ x. over (f x)) (λ x. over (h x)) g a b st p q
gone_under over f h g a b st p q first = gone_with f h (λ x. over (f x)) (λ x. over (h x)) g a b st p q first (λ later. ap over (first.same later))

-- the same under another name
pub gone_as : (f h k : Generated → Generated) (g : Generated) (a b : Holds) (st : World → Type 0) (p q : List PlainEntry → Type 0)
    (first : HasGone f h g a b st p q) → ((answers : List Answer) → h (answered answers first.next) ≡ k (answered answers first.next))
    → HasGone f k g a b st p q
gone_as f h k g a b st p q first same = gone_with f h f k g a b st p q first (λ later. first.same later ∙ same later)

-- ---- a line

-- it was printed, carried out, and its packets entered the fabric
pub line_gone : (s : Settings) (line : Given) (done : Bool) (g : Generated) (a b : Holds) (st su : World → Type 0) (p q : List PlainEntry → Type 0)
    (first : ℕ) → IsAt a st g → b.left ≡ a.left → b.taken ≡ appended a.taken (given_text line)
    → first ≡ length g.world.packets → s.wire ≡ 1 → IsMadeLine line
    → ((w : World) → st w → IsCarried s w (events_of s.hosts line) su a.counts b.counts p q done)
    → ((w : World) → su w → AreNew s w first → b.fabric ≡ all_sent s first (drop first w.packets) a.fabric)
    → HasGone (with_line s line) (λ x. x) g a b su p q
line_gone s line done g a b st su p q first stood left printed count version made_line carries enters =
    let c = carries g.world stood.world in
    let begun : World = answering (shown c.told ++ []) g.world in
    let fresh : AreNew s c.next first = record {
      version = version;
      now = subst (λ (k : ℕ). (n : ℕ) (sent : SentPacket) → k ≤ n → slice_get c.next.packets n ≡ Some sent → sent.tick ≡ c.next.clock) (sym count)
          (subst (λ (w : World). IsSentNow begun w) (c.world []) (line_now s begun line made_line));
    } in
    let before = length g.world.packets in
    let made : World → List PlainEntry → Generated = λ w told.
    record {
      world = w;
      told = g.told ++ told;
      lines = g.lines ++ line ∷ [];
      fabric = all_sent s before (drop before w.packets) g.fabric;
      made = g.made;
      left = g.left;
    } in
    record {
      next = made c.next c.told;
      stood = record {
        world = c.stood;
        fabric = enters c.next c.stood fresh
            ∙ (ap (λ (n : ℕ). all_sent s n (drop n c.next.packets) a.fabric) count ∙ ap (all_sent s before (drop before c.next.packets)) stood.fabric);
        left = left ∙ stood.left;
      };
      told = c.told;
      lines = line ∷ [];
      tells = refl;
      has = refl;
      counts = c.counts;
      printed = printed ∙ ap (λ (l : List ℕ). appended a.taken l) (sym (append-nil (given_text line)));
      allowed = c.allowed;
      same = λ later. ap (λ (w : World). made w (carried s (answering (shown c.told ++ later) g.world) (events_of s.hosts line)).told) (c.world later)
          ∙ ap (made (answering later c.next)) (c.tells later);
    }

-- ---- stopping

-- a step was done, and then it stopped
pub stopped_on : (f h : Generated → Generated) (g : Generated) (a b : Holds) (new : Option (List ℕ)) (st : World → Type 0)
    (p q : List PlainEntry → Type 0) (first : HasGone f h g a b st p q) → Extends h → HasStopped h first.next b.taken new q → HasStopped f g a.taken new p
stopped_on f h g a b new st p q first extends stopped = record {
  told = first.told ++ stopped.told;
  allowed = first.allowed stopped.told stopped.allowed;
  is_first = λ later.
      let end = answered (shown stopped.told ++ later) first.next in
      let runs : f (answered (shown (first.told ++ stopped.told) ++ later) g) ≡ h end =
      ap (λ (l : List Answer). f (answered l g)) (shown_parts first.told stopped.told later) ∙ first.same (shown stopped.told ++ later) in
      let inner = stopped.is_first later in
      record {
        rest = inner.rest;
        tells = ap (λ (x : Generated). x.told) runs
            ∙ (inner.tells
            ∙ (ap (λ (l : List PlainEntry). l ++ (stopped.told ++ inner.rest)) first.tells
            ∙ (append_assoc g.told first.told (stopped.told ++ inner.rest)
            ∙ ap (λ (l : List PlainEntry). g.told ++ l) (sym (append_assoc first.told stopped.told inner.rest)))));
      };
  front = λ later lines is.
      let end = answered (shown stopped.told ++ later) first.next in
      let more = extends end in
      let runs : f (answered (shown (first.told ++ stopped.told) ++ later) g) ≡ h end =
      ap (λ (l : List Answer). f (answered l g)) (shown_parts first.told stopped.told later) ∙ first.same (shown stopped.told ++ later) in
      let all : lines ≡ first.lines ++ more.more =
      append_cancel_left g.lines lines (first.lines ++ more.more)
      (sym is ∙ (ap (λ (x : Generated). x.lines) runs
      ∙ (more.has ∙ (ap (λ (l : List Given). l ++ more.more) first.has ∙ append_assoc g.lines first.lines more.more)))) in
      front_same a.taken new (text first.lines ++ text more.more) (text lines) (sym (ap text all ∙ flat_map-append given_text first.lines more.more))
      (front_after a.taken b.taken new (text first.lines) (text more.more) first.printed (stopped.front later more.more more.has));
}

-- it stopped in a part
pub stopped_under : (over f : Generated → Generated) (g : Generated) (old new : Option (List ℕ)) (p : List PlainEntry → Type 0) → Extends over
    → Extends f → HasStopped f g old new p → HasStopped (λ x. over (f x)) g old new p
stopped_under over f g old new p extends part stopped = record {
  told = stopped.told;
  allowed = stopped.allowed;
  is_first = λ later.
      let inner = stopped.is_first later in
      let more = extends (f (answered (shown stopped.told ++ later) g)) in
      record {
        rest = inner.rest ++ more.further;
        tells = more.tells
            ∙ (ap (λ (l : List PlainEntry). l ++ more.further) inner.tells
            ∙ (append_assoc g.told (stopped.told ++ inner.rest) more.further
            ∙ ap (λ (l : List PlainEntry). g.told ++ l) (append_assoc stopped.told inner.rest more.further)));
      };
  front = λ later lines is.
      let start = answered (shown stopped.told ++ later) g in
      let one = part start in
      let more = extends (f start) in
      let all : lines ≡ one.more ++ more.more =
      append_cancel_left g.lines lines (one.more ++ more.more)
      (sym is ∙ (more.has ∙ (ap (λ (l : List Given). l ++ more.more) one.has ∙ append_assoc g.lines one.more more.more))) in
      front_same old new (text one.more ++ text more.more) (text lines) (sym (ap text all ∙ flat_map-append given_text one.more more.more))
      (front_wide old new (text one.more) (text more.more) (stopped.front later one.more one.has));
}

-- it stopped under another name
pub stopped_as : (f h : Generated → Generated) (g : Generated) (old new : Option (List ℕ)) (p : List PlainEntry → Type 0)
    → ((answers : List Answer) → h (answered answers g) ≡ f (answered answers g)) → HasStopped f g old new p → HasStopped h g old new p
stopped_as f h g old new p same stopped = record {
  told = stopped.told;
  allowed = stopped.allowed;
  is_first = λ later. subst (λ (x : Generated). IsFirstTold x g.told stopped.told) (sym (same (shown stopped.told ++ later))) (stopped.is_first later);
  front = λ later lines is. stopped.front later lines (ap (λ (x : Generated). x.lines) (sym (same (shown stopped.told ++ later))) ∙ is);
}

-- it stopped in a line, of which a front was printed
pub line_stopped : (s : Settings) (line : Given) (g : Generated) (old new : Option (List ℕ)) (p : List PlainEntry → Type 0) → p []
    → TookFront old new (given_text line) → HasStopped (with_line s line) g old new p
line_stopped s line g old new p none front = record {
  told = [];
  allowed = none;
  is_first = λ later. record { rest = (carried s (answering later g.world) (events_of s.hosts line)).told; tells = refl };
  front = λ later lines is.
      let one : line ∷ [] ≡ lines = append_cancel_left g.lines (line ∷ []) lines is in
      front_same old new (given_text line ++ []) (text lines) (ap text one) (front_wide old new (given_text line) [] front);
}

-- ---- a step of a part, as the code does it, where the settings stayed

-- behind what was done, one step more
pub then_gone : (s t : Settings) (all over : Generated → Generated) (part : Settings → Generated → Generated) (g : Generated) (a b c : Holds)
    (st su : World → Type 0) (p q r : List PlainEntry → Type 0) → t ≡ s → HasGone all (λ x. over (part s x)) g a b st p q
    → ((x : Generated) → IsAt b st x → HasGone (part t) (λ y. y) x b c su q r) → HasGone all over g a c su p r
then_gone s t all over part g a b c st su p q r same first next =
    let second : HasGone (part s) (λ y. y) first.next b c su q r =
    subst (λ (o : Settings). HasGone (part o) (λ y. y) first.next b c su q r) same (next first.next first.stood) in
    gone_on all (λ x. over (part s x)) over g a b c st su p q r first (gone_under over (part s) (λ y. y) first.next b c su q r second)

-- or it stopped there
pub then_stopped : (s t : Settings) (all over : Generated → Generated) (part : Settings → Generated → Generated) (g : Generated) (a b : Holds)
    (new : Option (List ℕ)) (st : World → Type 0) (p q : List PlainEntry → Type 0) → t ≡ s → Extends over → Extends (part s)
    → HasGone all (λ x. over (part s x)) g a b st p q → ((x : Generated) → IsAt b st x → HasStopped (part t) x b.taken new q) → HasStopped all g a.taken new p
then_stopped s t all over part g a b new st p q same over_extends part_extends first next =
    let second : HasStopped (part s) first.next b.taken new q =
    subst (λ (o : Settings). HasStopped (part o) first.next b.taken new q) same (next first.next first.stood) in
    let both : Extends (λ x. over (part s x)) =
    λ x. longer_on x.lines (part s x).lines (over (part s x)).lines x.told (part s x).told (over (part s x)).told (part_extends x)
    (over_extends (part s x)) in
    stopped_on all (λ x. over (part s x)) g a b new st p q first both (stopped_under over (part s) first.next b.taken new q over_extends part_extends second)
