-- How far a replay has come, from a source and to a sink that can tell, and how it ends.
use Rattle.std.specs.Prelude.{◌≡◌, ◌⊎◌, ℕ, Bool, true, not, Option, Some, List, [], ◌++◌}
use Rattle.std.specs.List.{flat_map}
use Rattle.homa_io.specs.Outside.{appended}
use Rattle.homa_plain.specs.declared.settings.Settings.{Settings}
use Rattle.homa_plain.specs.Entries.{PlainEntry}
use Rattle.homa_plain.specs.Text.{line_text}
use Rattle.homa_plain.specs.Rules.{Answer}
use Rattle.homa_plain.specs.World.{World}
use Rattle.homa_plain.specs.Replay.{Replay, replay, replayed, with_told}
use Rattle.script_lines.specs.Place.{Place}
use Rattle.homa_script.specs.Steps.{steps_left}
use Rattle.script_lines.specs.Read.{IsRead}
use Rattle.homa_plain.specs.Answers.{shown, answering}
use Rattle.homa_replay.specs.Stream.{is_refusal}
use Rattle.homa_replay.specs.Lines.{text_of, IsFront}

-- the replay of the bytes that come, with these answers
abbrev pub Whole : Type 0
Whole = List ℕ → List Answer → Replay

-- the replay of a schedule, with so many boxes
abbrev pub replay_of : ℕ → Whole
replay_of boxes bytes answers = replay bytes answers boxes

-- no service was asked
abbrev pub is_unasked : List PlainEntry → Type 0
is_unasked told = shown told ≡ []

-- what is left of a replay in a world in which so many events were carried out, where a reader of its schedule stands in this place
abbrev pub left_at : Settings → World → ℕ → Place → Whole
left_at s w events place more later = let steps = steps_left place more in replayed s (answering later w) events steps.steps steps.refused

-- Of the bytes that the source had some came. This was told and printed, which the boxes allow; `after` says which entries they
-- allow from then on. Whatever comes (nothing, where the end was seen) and whatever is answered later, the rest of the replay is what is due for it.
pub record IsFar (whole : Whole) (bytes : List ℕ) (left old taken : Option (List ℕ)) (before after : List PlainEntry → Type 0) (due : Whole) : Type 0 where
  pub told : List PlainEntry
  pub printed : taken ≡ appended old (flat_map line_text told)
  pub allowed : (more : List PlainEntry) → after more → before (told ++ more)
  pub read : IsRead {A = List Answer → Replay} bytes left (λ more later. whole more (shown told ++ later)) (λ more later. with_told told (due more later))

-- The replay of these bytes was printed whole. Its `run` lines show these answers, which the boxes allow; no line is refused exactly where it is accepted.
pub record IsPrinted (whole : Whole) (bytes : List ℕ) (old new : Option (List ℕ)) (before : List PlainEntry → Type 0) (accepted : Bool) : Type 0 where
  pub answers : List Answer
  pub text : new ≡ appended old (text_of (whole bytes answers))
  pub shows : shown (whole bytes answers).told ≡ answers
  pub allowed : before (whole bytes answers).told
  pub verdict : is_refusal (whole bytes answers).end ≡ not accepted

-- These lines were told, which the boxes allow. They are a prefix of what the replay tells, and a prefix of its text
-- was printed. That is so of every input that begins with the bytes that came, where the services answered as they
-- show, and whatever these answer later. Or nothing more is left, and it is the replay of what came. Where `all` says
-- so, these lines were printed, and no more.
pub record IsPart (whole : Whole) (came rest : List ℕ) (old new : Option (List ℕ)) (before : List PlainEntry → Type 0) (all : Bool) : Type 0 where
  pub told : List PlainEntry
  pub allowed : before told
  pub printed : all ≡ true → new ≡ appended old (flat_map line_text told)
  pub front : ((more : List ℕ) (later : List Answer) → IsFront (whole (came ++ more) (shown told ++ later)) told old new)
      ⊎ ((rest ≡ []) × ((later : List Answer) → IsFront (whole came (shown told ++ later)) told old new))

-- Some of the bytes came, the rest is left, and a front of the replay was printed.
pub record IsStopped (whole : Whole) (bytes : List ℕ) (left old new : Option (List ℕ)) (before : List PlainEntry → Type 0) (all : Bool) : Type 0 where
  pub came : List ℕ
  pub rest : List ℕ
  pub split : bytes ≡ came ++ rest
  pub has_left : left ≡ Some rest
  pub part : IsPart whole came rest old new before all

-- whatever the source had at first, where it can tell: the replay of it has come so far
abbrev pub AreFar : Whole → Option (List ℕ) → Option (List ℕ) → Option (List ℕ) → Option (List ℕ) → (List PlainEntry → Type 0)
    → (List PlainEntry → Type 0) → Whole → Type 0
AreFar whole first left old taken before after due = (bytes : List ℕ) → first ≡ Some bytes → IsFar whole bytes left old taken before after due

-- whatever the source had at first, where it can tell: the replay of it was printed whole
abbrev pub ArePrinted : Whole → Option (List ℕ) → Option (List ℕ) → Option (List ℕ) → (List PlainEntry → Type 0) → Bool → Type 0
ArePrinted whole first old new before accepted = (bytes : List ℕ) → first ≡ Some bytes → IsPrinted whole bytes old new before accepted

-- whatever the source had at first, where it can tell: a front of the replay of it was printed
abbrev pub AreParts : Whole → Option (List ℕ) → Option (List ℕ) → Option (List ℕ) → Option (List ℕ) → (List PlainEntry → Type 0) → Bool → Type 0
AreParts whole first left old new before all = (bytes : List ℕ) → first ≡ Some bytes → IsStopped whole bytes left old new before all
