-- As what the entries of the last event are counted: by the entry that no mark shows, and by the marks of a step.
use Rattle.std.specs.Prelude.{◌≡◌, ℕ, Option, None, Some, List, [], ◌∷◌, map, Contains}
use Rattle.host_view.specs.declared.mark.Mark.{Mark}
use Rattle.host_view.specs.declared.outbox.SentFrame.{SentFrame}
use Rattle.host_view.specs.Marks.{shown}
use Rattle.host_view.specs.Seen.{Seen}
use Rattle.homa_host.specs.Public.{IsHeld}
use Rattle.host_table.specs.Staged.{frames_of}
use Rattle.homa_world.specs.declared.kinds.LineKind.{LineKind}
use Rattle.homa_world.specs.declared.kinds.LineKind.TheVariants as line
use Rattle.homa_world.specs.declared.parts.First.{First}
use Rattle.homa_world.specs.declared.parts.First.TheVariants as first
use Rattle.homa_world.specs.declared.parts.Last.{Last}
use Rattle.homa_world.specs.declared.parts.Last.TheVariants as last
use Rattle.homa_world.specs.declared.parts.WorldParts.{WorldParts}
use Rattle.homa_world.specs.Kinds.{kind_of}
use Rattle.homa_world.specs.Standing.{told_by}

-- those of these kinds that are counted
abbrev pub counted_kinds : List (Option LineKind) → List LineKind
counted_kinds [] = []
counted_kinds (None ∷ kinds) = counted_kinds kinds
counted_kinds (Some kind ∷ kinds) = kind ∷ counted_kinds kinds

-- the kind of the line of what stands before a step's entries, if it is counted
abbrev pub kind_before : First → Option LineKind
kind_before (first.Delivered packet) = Some line.Deliver
kind_before other = None

-- the kind of the line of the event's entry that no mark shows, if it is counted
abbrev pub unmarked_kind : Last → Option LineKind
unmarked_kind last.Ticked = Some line.Clock
unmarked_kind (last.Stepped host first base) = kind_before first
unmarked_kind other = None

-- the packet of this mark stands among these frames, if it is a packet's
abbrev pub Stands : List SentFrame → Mark → Type 0
Stands frames m = (h : Seen) × IsHeld h frames m

-- it is the kind of the line of the entry that this mark shows, if that is counted
abbrev pub IsKindOf : List SentFrame → Mark → Option LineKind → Type 0
IsKindOf frames m k = (h : Seen) (whole : List ℕ) → IsHeld h frames m → k ≡ kind_of (shown h frames whole m)

-- Beside the entry that no mark shows, the entries of an event that was this one are counted as the kinds of these marks.
pub record AreMarksOf {S : Type 0} (w : WorldParts S) (l : Last) (marks : List Mark) : Type 0 where
  pub kind : Mark → Option LineKind
  pub stand : (m : Mark) → Contains marks m → Stands (frames_of w.stage) m
  pub kinds : (m : Mark) (k : Option LineKind) → Contains marks m → IsKindOf (frames_of w.stage) m k → k ≡ kind m
  pub counted : counted_kinds (unmarked_kind l ∷ map kind marks) ≡ counted_kinds (map kind_of (told_by w l))
