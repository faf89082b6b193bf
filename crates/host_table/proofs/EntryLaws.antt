-- The entries of a world's last event.
use Rattle.std.proofs.Common.{◌≡◌, ◌<◌, ℕ, zero, suc, Option, Some, None, List, [], ◌∷◌, length, get_or, refl, subst}
use Rattle.std.specs.Prelude.{map, slice_get}
use Rattle.std.specs.List.{AllByRecursion}
use Rattle.std.proofs.lemmas.Option.{slice_get_read}
use Rattle.plain_sets.proofs.MapMembers.{same_some}
use Rattle.homa_plain.specs.declared.packet.Packet.{Packet as WirePacket}
use Rattle.host_view.specs.declared.mark.Mark.{Mark}
use Rattle.host_view.specs.declared.mark.Mark.TheVariants as mark
use Rattle.host_view.specs.declared.outbox.SentFrame.{SentFrame}
use Rattle.host_view.specs.Frames.{read_line, line_of, packet_of}
use Rattle.host_view.specs.Marks.{shown}
use Rattle.host_view.specs.Seen.{Seen}
use Rattle.homa_plain.specs.Told.{HasLine}
use Rattle.host_table.specs.declared.stage.Stage.{Stage}
use Rattle.host_table.specs.Left.{HasLeft}

-- what holds of all holds of each
pub at_index : {X : Type 0} (P : X → Type 0) (xs : List X) (i : ℕ) (x : X) → AllByRecursion P xs → slice_get xs i ≡ Some x → P x
at_index P [] i x all e = cc
at_index P (y ∷ ys) zero x all e = subst P (same_some y x e) all.0
at_index P (y ∷ ys) (suc i) x all e = at_index P ys i x all.1 e

-- each entry of a step has a line
read_has : (n : ℕ) (f : SentFrame) (o : Option (WirePacket × List ℕ)) → HasLine (read_line n f o)
read_has n f None = tt
read_has n f (Some r) = tt

line_has : (h : Seen) (n : ℕ) (o : Option SentFrame) → HasLine (line_of h.settings n o)
line_has h n None = tt
line_has h n (Some f) = read_has n f (packet_of h.settings f)

shown_has : (h : Seen) (frames : List SentFrame) (whole : List ℕ) (m : Mark) → HasLine (shown h frames whole m)
shown_has h frames whole (mark.Sent n) = line_has h n (slice_get frames n)
shown_has h frames whole (mark.Called id server service) = tt
shown_has h frames whole mark.Junk = tt
shown_has h frames whole (mark.Stale at) = tt
shown_has h frames whole (mark.Balanced cutoffs) = tt
shown_has h frames whole (mark.Ran id service hold) = tt
shown_has h frames whole (mark.Done id) = tt
shown_has h frames whole (mark.Failed id why) = tt
shown_has h frames whole (mark.Dropped id) = tt
shown_has h frames whole (mark.TooManyGaps id) = tt
shown_has h frames whole (mark.Entombed id until) = tt
shown_has h frames whole (mark.Freed id) = tt
shown_has h frames whole (mark.NoRow id rows limit) = tt
shown_has h frames whole (mark.NoPages id need free) = tt

pub lines : (h : Seen) (frames : List SentFrame) (whole : List ℕ) (marks : List Mark) → AllByRecursion HasLine (map (shown h frames whole) marks)
lines h frames whole [] = tt
lines h frames whole (m ∷ ms) = (shown_has h frames whole m, lines h frames whole ms)

-- what a host left, where it is read
pub left_read : {S : Type 0} (st : Stage S) (xs : List Seen) (i : ℕ) (x : Seen) → i < length xs → x ≡ get_or xs i x → HasLeft st (slice_get xs i)
    → HasLeft st (Some x)
left_read st xs i x within is = subst (HasLeft st) (slice_get_read xs (length xs) i x refl within is)
