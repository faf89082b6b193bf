-- How far a replay has come, and how it ends.
use Rattle.std.proofs.Common.{◌≡◌, ◌⊎◌, inl, inr, ℕ, Bool, true, false, not, Option, Some, List, [], ◌++◌, refl, sym, ap, ◌∙◌, subst, append_assoc}
use mathlib.Core.Path.{fun_ext}
use Rattle.std.specs.List.{flat_map}
use Rattle.std.proofs.lemmas.List.{append-nil}
use Rattle.homa_io.specs.Outside.{appended}
use Rattle.homa_plain.specs.Entries.{PlainEntry}
use Rattle.homa_plain.specs.Text.{line_text}
use Rattle.homa_plain.specs.Rules.{Answer}
use Rattle.homa_plain.specs.Replay.{Replay, End, with_told, last_entry}
use Rattle.script_lines.specs.Read.{IsRead, IsCut}
use Rattle.script_lines.proofs.ReadParts.{none_left, read_start, read_on, read_map, read_whole}
use Rattle.homa_plain.specs.Answers.{shown}
use Rattle.homa_replay.specs.Stream.{ending, is_refusal}
use Rattle.homa_replay.specs.Lines.{text_of, IsFront}
use Rattle.homa_replay.specs.Progress.{Whole, IsFar, IsPrinted, IsStopped, AreFar, ArePrinted, AreParts}
use Rattle.homa_replay.proofs.Fronts.{nothing_appended, wrote_more}
use Rattle.homa_replay.proofs.Streams.{shown-append, shown_parts, told_parts}
use Rattle.homa_replay.proofs.Plays.{text-with_told, printed_more, allowed_more, front_of, front_begins, front_behind}

-- what was read is also this of what was due
read_as : {A : Type 0} (bytes : List ℕ) (left : Option (List ℕ)) (due now due2 now2 : List ℕ → A) → IsRead bytes left due now
    → ((more : List ℕ) → due2 more ≡ due more) → ((more : List ℕ) → now more ≡ now2 more) → IsRead bytes left due2 now2
read_as bytes left due now due2 now2 d e f = record {
  came = d.came;
  rest = d.rest;
  split = d.split;
  has_left = d.has_left;
  ended = d.ended;
  nothing = d.nothing;
  same = λ more k. e (d.came ++ more) ∙ (d.same more k ∙ f more);
}

-- nothing came yet
pub far_start : (whole : Whole) (bytes : List ℕ) (left old : Option (List ℕ)) (p : List PlainEntry → Type 0) → left ≡ Some bytes
    → IsFar whole bytes left old old p p whole
far_start whole bytes left old p e = record {
  told = [];
  printed = nothing_appended old;
  allowed = λ more h. h;
  read = read_start bytes left (λ more later. whole more later) e;
}

module _ (whole : Whole) (bytes : List ℕ) (left old taken : Option (List ℕ)) (p q : List PlainEntry → Type 0) where
  -- a line came
  pub far_read : {X : Type 0} (g : X → List Answer → Replay) (h h2 : List ℕ → X) (left2 : Option (List ℕ))
      → IsFar whole bytes left old taken p q (λ more later. g (h more) later)
      → ((rest : List ℕ) → left ≡ Some rest → IsRead rest left2 h h2) → IsFar whole bytes left2 old taken p q (λ more later. g (h2 more) later)
  far_read {X} g h h2 left2 d f = record {
    told = d.told;
    printed = d.printed;
    allowed = d.allowed;
    read = read_on bytes left left2 (λ more later. whole more (shown d.told ++ later)) (λ more later. with_told d.told (g (h more) later))
        (λ more later. with_told d.told (g (h2 more) later)) d.read
        (λ rest e. read_map rest left2 h h2 (λ (x : X) (later : List Answer). with_told d.told (g x later)) (f rest e));
  }

  -- what is due is also this
  pub far_to : (due due2 : Whole) → IsFar whole bytes left old taken p q due
      → ((more : List ℕ) (later : List Answer) → due more later ≡ due2 more later) → IsFar whole bytes left old taken p q due2
  far_to due due2 d f = record {
    told = d.told;
    printed = d.printed;
    allowed = d.allowed;
    read = read_as bytes left (λ more later. whole more (shown d.told ++ later)) (λ more later. with_told d.told (due more later))
        (λ more later. whole more (shown d.told ++ later)) (λ more later. with_told d.told (due2 more later)) d.read
        (λ more. refl) (λ more. fun_ext (λ later. ap (λ (r : Replay). with_told d.told r) (f more later)));
  }

  -- what was due next was told and printed
  pub far_told : (new : Option (List ℕ)) (r : List PlainEntry → Type 0) (due next : Whole) (t : List PlainEntry) → IsFar whole bytes left old taken p q due
      → new ≡ appended taken (flat_map line_text t) → ((more : List PlainEntry) → r more → q (t ++ more))
      → ((more : List ℕ) (later : List Answer) → due more (shown t ++ later) ≡ with_told t (next more later)) → IsFar whole bytes left old new p r next
  far_told new r due next t d e a f = record {
    told = d.told ++ t;
    printed = printed_more old taken new d.told t d.printed e;
    allowed = allowed_more p q r d.told t d.allowed a;
    read = read_as bytes left (λ more later. whole more (shown d.told ++ (shown t ++ later))) (λ more later. with_told d.told (due more (shown t ++ later)))
        (λ more later. whole more (shown (d.told ++ t) ++ later)) (λ more later. with_told (d.told ++ t) (next more later))
        (read_map {A = List Answer → Replay} {B = List Answer → Replay} bytes left (λ more later. whole more (shown d.told ++ later))
        (λ more later. with_told d.told (due more later)) (λ (w : List Answer → Replay) (later : List Answer). w (shown t ++ later)) d.read)
        (λ more. fun_ext (λ later. ap (λ (l : List Answer). whole more l) (shown_parts d.told t later)))
        (λ more. fun_ext (λ later. ap (λ (x : Replay). with_told d.told x) (f more later) ∙ told_parts d.told t (next more later)));
  }

  -- the end was due, and was printed
  pub far_end : (new : Option (List ℕ)) (end : End) (accepted : Bool) → IsFar whole bytes left old taken p q (λ more later. ending end) → q []
      → new ≡ appended taken (line_text (last_entry end)) → is_refusal end ≡ not accepted → IsPrinted whole bytes old new p accepted
  far_end new end accepted d none e verdict =
      let all : whole bytes (shown d.told ++ []) ≡ with_told d.told (ending end)
      = ap (λ (w : List Answer → Replay). w [])
      (read_whole bytes left (λ more later. whole more (shown d.told ++ later)) (λ more later. with_told d.told (ending end)) d.read) in
      let last : line_text (last_entry end) ≡ text_of (ending end) = sym (append-nil (line_text (last_entry end))) in
      record {
        answers = shown d.told ++ [];
        text = wrote_more old taken new (flat_map line_text d.told) (line_text (last_entry end)) d.printed e
            ∙ (ap (λ (l : List ℕ). appended old (flat_map line_text d.told ++ l)) last
            ∙ ap (λ (l : List ℕ). appended old l) (sym (text-with_told d.told (ending end)) ∙ sym (ap text_of all)));
        shows = ap (λ (r : Replay). shown r.told) all ∙ shown-append d.told [];
        allowed = subst p (sym (ap (λ (r : Replay). r.told) all)) (d.allowed [] none);
        verdict = ap (λ (r : Replay). is_refusal r.end) all ∙ verdict;
      }

  -- a front of what is due was printed, where some more bytes may have come
  front_by : (new : Option (List ℕ)) (due : Whole) (t : List PlainEntry) (extra : List ℕ) → (d : IsFar whole bytes left old taken p q due)
      → ((more : List ℕ) (later : List Answer) → IsFront (due (extra ++ more) (shown t ++ later)) t taken new)
      → (more : List ℕ) (later : List Answer) → (d.read.ended ≡ true → extra ++ more ≡ [])
      → IsFront (whole ((d.read.came ++ extra) ++ more) (shown (d.told ++ t) ++ later)) (d.told ++ t) old new
  front_by new due t extra d f more later k =
      let same = ap (λ (w : List Answer → Replay). w (shown t ++ later)) (d.read.same (extra ++ more) k) in
      front_of old new (d.told ++ t) (with_told d.told (due (extra ++ more) (shown t ++ later))) _
      (sym same
      ∙ (ap (λ (l : List ℕ). whole l (shown d.told ++ (shown t ++ later))) (sym (append_assoc d.read.came extra more))
      ∙ ap (λ (l : List Answer). whole ((d.read.came ++ extra) ++ more) l) (sym (shown_parts d.told t later))))
      (front_behind old taken new d.told t (due (extra ++ more) (shown t ++ later)) d.printed (f more later))

-- of all that may come, or of all that came
front_either : (ended : Bool) (rest extra : List ℕ) (front : List ℕ → List Answer → Type 0) → (ended ≡ true → extra ++ rest ≡ [])
    → ((more : List ℕ) (later : List Answer) → (ended ≡ true → extra ++ more ≡ []) → front more later)
    → ((more : List ℕ) (later : List Answer) → front more later) ⊎ ((rest ≡ []) × ((later : List Answer) → front [] later))
front_either false rest extra front e f = inl (λ more later. f more later (λ k. absurd cc))
front_either true rest extra front e f =
    let none = none_left extra rest (e refl) in
    inr (none.1, λ later. f [] later (λ k. append-nil extra ∙ none.0))

either_map : {A B C D : Type 0} → (A → C) → (B → D) → A ⊎ B → C ⊎ D
either_map f g (inl a) = inl (f a)
either_map f g (inr b) = inr (g b)

module _ (whole : Whole) (bytes : List ℕ) (left left2 old taken : Option (List ℕ)) (p q : List PlainEntry → Type 0) where
  -- a front of what is due was printed, and then it stops
  pub far_part : (new : Option (List ℕ)) (due : Whole) (t : List PlainEntry) (extra rest : List ℕ) (all : Bool)
      → (d : IsFar whole bytes left old taken p q due) → d.read.rest ≡ extra ++ rest → left2 ≡ Some rest → q t
      → (all ≡ true → new ≡ appended taken (flat_map line_text t))
      → ((more : List ℕ) (later : List Answer) → IsFront (due (extra ++ more) (shown t ++ later)) t taken new) → IsStopped whole bytes left2 old new p all
  far_part new due t extra rest all d e h a put f =
      let front : List ℕ → List Answer
      → Type 0 = λ more later. IsFront (whole ((d.read.came ++ extra) ++ more) (shown (d.told ++ t) ++ later)) (d.told ++ t) old new in
      record {
        came = d.read.came ++ extra;
        rest = rest;
        split = d.read.split ∙ (ap (λ (l : List ℕ). d.read.came ++ l) e ∙ sym (append_assoc d.read.came extra rest));
        has_left = h;
        part = record {
          told = d.told ++ t;
          allowed = d.allowed t a;
          printed = λ k. printed_more old taken new d.told t d.printed (put k);
          front = either_map (λ g. g)
              (λ g. (
                g.0,
                λ later. front_of old new (d.told ++ t) _ _
                    (ap (λ (l : List ℕ). whole l (shown (d.told ++ t) ++ later)) (append-nil (d.read.came ++ extra))) (g.1 later),
              ))
              (front_either d.read.ended rest extra front (λ k. sym e ∙ d.read.nothing k)
              (λ more later k. front_by whole bytes left old taken p q new due t extra d f more later k));
        };
      }

-- ---- whatever the source had at first

module _ (whole : Whole) (first left old taken : Option (List ℕ)) (p q : List PlainEntry → Type 0) where
  pub fars_read : {X : Type 0} (g : X → List Answer → Replay) (h h2 : List ℕ → X) (left2 : Option (List ℕ))
      → AreFar whole first left old taken p q (λ more later. g (h more) later)
      → ((rest : List ℕ) → left ≡ Some rest → IsRead rest left2 h h2) → AreFar whole first left2 old taken p q (λ more later. g (h2 more) later)
  fars_read g h h2 left2 d f = λ bytes e. far_read whole bytes left old taken p q g h h2 left2 (d bytes e) f

  pub fars_told : (new : Option (List ℕ)) (r : List PlainEntry → Type 0) (due next : Whole) (t : List PlainEntry) → AreFar whole first left old taken p q due
      → new ≡ appended taken (flat_map line_text t) → ((more : List PlainEntry) → r more → q (t ++ more))
      → ((more : List ℕ) (later : List Answer) → due more (shown t ++ later) ≡ with_told t (next more later)) → AreFar whole first left old new p r next
  fars_told new r due next t d e a f = λ bytes h. far_told whole bytes left old taken p q new r due next t (d bytes h) e a f

  pub fars_end : (new : Option (List ℕ)) (end : End) (accepted : Bool) → AreFar whole first left old taken p q (λ more later. ending end) → q []
      → new ≡ appended taken (line_text (last_entry end)) → is_refusal end ≡ not accepted → ArePrinted whole first old new p accepted
  fars_end new end accepted d none e verdict = λ bytes h. far_end whole bytes left old taken p q new end accepted (d bytes h) none e verdict

  -- it stops where it is
  pub fars_part : (new : Option (List ℕ)) (due : Whole) (t : List PlainEntry) (all : Bool) → AreFar whole first left old taken p q due → q t
      → (all ≡ true → new ≡ appended taken (flat_map line_text t))
      → ((more : List ℕ) (later : List Answer) → IsFront (due more (shown t ++ later)) t taken new) → AreParts whole first left old new p all
  fars_part new due t all d a put f = λ bytes e. let far =
      d bytes e in far_part whole bytes left left old taken p q new due t [] far.read.rest all far refl far.read.has_left a put f

  -- it stops after some bytes
  pub fars_cut : (due : Whole) (left2 : Option (List ℕ)) (all : Bool) → AreFar whole first left old taken p q due → q []
      → ((rest : List ℕ) → left ≡ Some rest → IsCut rest left2) → AreParts whole first left2 old taken p all
  fars_cut due left2 all d none f = λ bytes e.
      let far = d bytes e in
      let cut = f far.read.rest far.read.has_left in
      far_part whole bytes left left2 old taken p q taken due [] cut.came cut.rest all far cut.split cut.has_left none
      (λ _. nothing_appended taken) (λ more later. front_begins taken (due (cut.came ++ more) later))
