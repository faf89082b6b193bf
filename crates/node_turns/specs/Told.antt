-- What an observer tells of reports, one after another, and what a net did meanwhile.
use Rattle.std.specs.Prelude.{◌≡◌, ◌≤◌, ◌⊎◌, ℕ, Bool, true, false, Option, None, Some, List, [], ◌∷◌, ◌++◌, length, take}
use Rattle.std.specs.List.{AllByRecursion}
use Rattle.homa_plain.specs.declared.id.HostId.{HostId}
use Rattle.homa_plain.specs.Entries.{PlainRecv}
use Rattle.homa_io.specs.Outside.{appended, TookFront}
use Rattle.node_runs.specs.Course.{Report, Tells, Turning, Datagram}
use Rattle.node_runs.specs.Acts.{Act, sents, acts_by}
use Rattle.node_runs.specs.Recorder.{Notes}
use Rattle.node_runs.specs.Texts.{sent_number}

-- a list with these at its end, where it is told
abbrev pub listed : {A : Type 0} → Option (List A) → List A → Option (List A)
listed None xs = None
listed (Some old) xs = Some (old ++ xs)

-- it has these at its end, where it is told
abbrev pub Listed : {A : Type 0} → Option (List A) → Option (List A) → List A → Type 0
Listed old new xs = new ≡ listed old xs

-- what was told is the old and a front of these, where it is told
pub record ListedFront {A : Type 0} (old new : Option (List A)) (xs : List A) : Type 0 where
  pub front : List A
  pub rest : List A
  pub split : front ++ rest ≡ xs
  pub is : new ≡ listed old front

-- the numbers of the packets that reports tell as sent
abbrev pub numbers_of : List Report → List ℕ
numbers_of [] = []
numbers_of (report ∷ reports) = sent_number report ++ numbers_of reports

-- ---- what a net did

-- where a node is with its receives: the host whose turn comes next may have so many more, or has its turn next
pub data Stage : Type 0 where
  Hears : (left : ℕ) → Stage
  Turns : (host : HostId) → Stage

abbrev pub left_of : Stage → ℕ
left_of (Hears left) = left
left_of (Turns host) = 0

-- what may be told next: where a host has its turn next, that is told first
abbrev pub IsNext : Stage → List Report → Type 0
IsNext (Hears left) reports = Unit {0}
IsNext (Turns host) [] = ⊥
IsNext (Turns host) (Turning other ∷ reports) = host ≡ other
IsNext (Turns host) (Tells entry ∷ reports) = ⊥

-- A net did this while these reports were told, and nothing else: what comes and goes by the reports, in this order, whatever is told behind them.
pub record HasDone (old new : Option (List Act)) (from to : Stage) (reports : List Report) : Type 0 where
  pub acts : List Act
  pub is : new ≡ listed old acts
  pub numbers : length (sents acts) ≡ length (numbers_of reports)
  pub next : (more : List Report) → IsNext to more → IsNext from (reports ++ more)
  pub order : (more : List Report) (later : List Datagram) → IsNext to more
      → acts_by (left_of from) (reports ++ more) (sents acts ++ later) ≡ acts ++ acts_by (left_of to) more later

-- a list that begins with another one
pub record BeginsWith {A : Type 0} (whole front : List A) : Type 0 where
  pub rest : List A
  pub split : whole ≡ front ++ rest

-- a net did the first of it
pub record HasDoneFront (old new : Option (List Act)) (from : Stage) (reports : List Report) : Type 0 where
  pub acts : List Act
  pub is : new ≡ listed old acts
  pub next : (more : List Report) → IsNext from (reports ++ more)
  pub order : (more : List Report) (later : List Datagram) → BeginsWith (acts_by (left_of from) (reports ++ more) (sents acts ++ later)) acts

-- a report that stands within a step: neither that a datagram comes, nor that a turn begins
abbrev pub IsWithin : Report → Type 0
IsWithin (Tells (PlainRecv host from bytes)) = ⊥
IsWithin (Tells entry) = Unit {0}
IsWithin (Turning host) = ⊥

-- these are of one step: it is begun by the first of them
abbrev pub AreOfOneStep : List Report → Type 0
AreOfOneStep [] = Unit {0}
AreOfOneStep (report ∷ reports) = AllByRecursion IsWithin reports

-- where what isn't told begins with a datagram that comes, nothing was sent behind what was told
abbrev pub IsHeld : List Report → ℕ → ℕ → Type 0
IsHeld (Tells (PlainRecv host from bytes) ∷ reports) told taken = taken ≡ told
IsHeld reports told taken = Unit {0}

-- ---- what was told

-- some report is strange
pub record SomeStrange (strange : Notes → Report → Bool) : Type 0 where
  pub notes : Notes
  pub report : Report
  pub is : strange notes report ≡ true

module _ (told : Notes → Report → List ℕ) (kept : Notes → Report → Notes) (strange : Notes → Report → Bool) where
  -- the text of reports
  abbrev pub text_by : Notes → List Report → List ℕ
  text_by notes [] = []
  text_by notes (report ∷ reports) = told notes report ++ text_by (kept notes report) reports

  -- the notes behind them
  abbrev pub notes_by : Notes → List Report → Notes
  notes_by notes [] = notes
  notes_by notes (report ∷ reports) = notes_by (kept notes report) reports

  -- none of them is strange
  abbrev pub AreUsual : Notes → List Report → Type 0
  AreUsual notes [] = Unit {0}
  AreUsual notes (report ∷ reports) = (strange notes report ≡ false) × AreUsual (kept notes report) reports

  -- these were told, and none is strange
  pub record AreTold (old : Option (List ℕ)) (notes : Notes) (new : Option (List ℕ)) (later : Notes) (reports : List Report) : Type 0 where
    pub text : new ≡ appended old (text_by notes reports)
    pub noted : later ≡ notes_by notes reports
    pub usual : AreUsual notes reports

  -- a front of the first of these was told, where there is one
  abbrev pub BeginsNext : Option (List ℕ) → Notes → Option (List ℕ) → List Report → Type 0
  BeginsNext old notes new [] = new ≡ old
  BeginsNext old notes new (report ∷ reports) = TookFront old new (told notes report)

  -- the first of these were told, none of which is strange, and a front of the next
  pub record AreFront (old : Option (List ℕ)) (notes : Notes) (new : Option (List ℕ)) (reports : List Report) : Type 0 where
    pub before : List Report
    pub after : List Report
    pub split : reports ≡ before ++ after
    pub usual : AreUsual notes before
    pub next : BeginsNext (appended old (text_by notes before)) (notes_by notes before) new after

  -- the last of these is strange, and no other; all were told
  pub record AreStrange (old : Option (List ℕ)) (notes : Notes) (new : Option (List ℕ)) (reports : List Report) : Type 0 where
    pub before : List Report
    pub last : Report
    pub split : reports ≡ before ++ last ∷ []
    pub usual : AreUsual notes before
    pub unusual : strange (notes_by notes before) last ≡ true
    pub text : new ≡ appended old (text_by notes before ++ told (notes_by notes before) last)

  -- these were told, none is strange, and the net did what comes and goes by them
  pub record AreDone (old : Option (List ℕ)) (notes : Notes) (new : Option (List ℕ)) (later : Notes) (did0 did1 : Option (List Act)) (from to : Stage)
      (reports : List Report) : Type 0 where
    pub told_all : AreTold old notes new later reports
    pub done : HasDone did0 did1 from to reports

  -- The first of these were told, and a front of the next; the net did the first of what comes and goes by them. What wasn't told is of one step, so
  -- that no other was begun behind it; and a packet is told as sent, even by a front of its line, only where its datagram was taken.
  pub record AreBroken (old : Option (List ℕ)) (notes : Notes) (new : Option (List ℕ)) (did0 did1 : Option (List Act)) (from : Stage)
      (reports : List Report) : Type 0 where
    pub front : AreFront old notes new reports
    pub done : HasDoneFront did0 did1 from reports
    pub one : AreOfOneStep front.after
    pub held : IsHeld front.after (length (numbers_of front.before)) (length (sents done.acts))
    pub ahead : ((length (numbers_of (front.before ++ take 1 front.after)) ≤ length (sents done.acts)))
        ⊎ ((length (numbers_of front.before) ≤ length (sents done.acts)) × (new ≡ appended old (text_by notes front.before)))

  -- the last of these is strange, and no other; all were told, and the net did what comes and goes by them
  pub record AreHalted (old : Option (List ℕ)) (notes : Notes) (new : Option (List ℕ)) (did0 did1 : Option (List Act)) (from : Stage)
      (reports : List Report) : Type 0 where
    pub strange_one : AreStrange old notes new reports
    pub done : HasDoneFront did0 did1 from reports
    pub numbers : length (sents done.acts) ≡ length (numbers_of reports)
