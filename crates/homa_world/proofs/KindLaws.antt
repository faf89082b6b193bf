-- As what the entries of a step are counted, by their marks and by their datagrams.
use Rattle.std.proofs.Common.{◌≡◌, ◌<◌, ℕ, Option, Some, None, List, [], ◌∷◌, ◌++◌, length, map, slice_get, IfSome, IsSome, Contains}
use Rattle.std.proofs.Common.{option_and_then, refl, sym, ap, subst, ◌∙◌, arith, true≢false}
use Rattle.std.proofs.lemmas.Option.{slice_get_within}
use Rattle.homa_plain.specs.declared.id.HostId.{HostId}
use Rattle.homa_plain.specs.declared.packet.Packet.{Packet}
use Rattle.homa_plain.specs.declared.packet.Body.{Body}
use Rattle.homa_plain.specs.declared.packet.Body.TheVariants as body
use Rattle.homa_plain.specs.Bytes.{IsBytes}
use Rattle.homa_plain.specs.Wire.{kind, packet_in}
use Rattle.homa_plain.specs.Entries.{PlainEntry, PlainSend}
use Rattle.homa_plain.proofs.WireLaws.{read_is_spelled}
use Rattle.event_laws.specs.Named.{numbered}
use Rattle.host_view.specs.declared.mark.Mark.{Mark}
use Rattle.host_view.specs.declared.mark.Mark.TheVariants as mark
use Rattle.host_view.specs.declared.outbox.SentFrame.{SentFrame}
use Rattle.host_view.specs.Done.{HoldsSent}
use Rattle.host_view.specs.Frames.{packet_of, read_line, line_of}
use Rattle.host_view.specs.Marks.{shown}
use Rattle.host_view.specs.Seen.{Seen}
use Rattle.homa_host.specs.Public.{IsHeld}
use Rattle.host_table.specs.Left.{entries_of, HasLeft}
use Rattle.host_table.specs.Staged.{hosts_of, frames_of, whole_of}
use Rattle.homa_world.specs.declared.kinds.LineKind.{LineKind}
use Rattle.homa_world.specs.declared.kinds.LineKind.TheVariants as line
use Rattle.homa_world.specs.declared.parts.First.{First}
use Rattle.homa_world.specs.declared.parts.First.TheVariants as first
use Rattle.homa_world.specs.declared.parts.Last.{Last}
use Rattle.homa_world.specs.declared.parts.Last.TheVariants as last
use Rattle.homa_world.specs.declared.parts.WorldParts.{WorldParts}
use Rattle.homa_world.specs.Kinds.{kind_of, packet_kind, kind_numbered}
use Rattle.homa_world.specs.Standing.{first_told, told_by}
use Rattle.homa_world.specs.Counting.{counted_kinds, kind_before, unmarked_kind, AreMarksOf}

-- ---- by a datagram

-- a kind's number names it
named : (b : Body) → kind_numbered (kind b) ≡ Some (packet_kind b)
named (body.Data size offset version service ack) = refl
named (body.Grant offset prio) = refl
named (body.Resend from to prio) = refl
named body.Busy = refl
named (body.Cutoffs c) = refl
named (body.Unknown reason) = refl
named body.NeedAck = refl
named (body.Ack more) = refl

-- the second byte of a packet's datagram is its kind's number
second_byte : (wire : ℕ) (bytes : List ℕ) (p : Packet) (payload : List ℕ) → IsBytes bytes → packet_in wire bytes ≡ Some (p, payload)
    → slice_get bytes 1 ≡ Some (kind p.body)
second_byte wire bytes p payload fits read = ap (λ (b : List ℕ). slice_get b 1) (read_is_spelled wire bytes p payload fits read).1

some_is : {A : Type 0} (x y : A) → Some x ≡ Some y → x ≡ y
some_is x y e = cc

-- so the second byte names the packet's kind
pub kind_at : (wire : ℕ) (bytes : List ℕ) (p : Packet) (payload : List ℕ) (n : ℕ) (k : Option LineKind) → IsBytes bytes
    → packet_in wire bytes ≡ Some (p, payload) → slice_get bytes 1 ≡ Some n → k ≡ kind_numbered n → k ≡ Some (packet_kind p.body)
kind_at wire bytes p payload n k fits read at is =
    is ∙ ap kind_numbered (some_is n (kind p.body) (sym at ∙ second_byte wire bytes p payload fits read)) ∙ named p.body

-- a packet's datagram has a second byte
pub no_second : (wire : ℕ) (bytes : List ℕ) (p : Packet) (payload : List ℕ) → IsBytes bytes → packet_in wire bytes ≡ Some (p, payload)
    → slice_get bytes 1 ≡ None → ⊥
no_second wire bytes p payload fits read at = no (sym at ∙ second_byte wire bytes p payload fits read) where
  no : {n : ℕ} → None ≡ Some n → ⊥
  no e = cc

-- ---- by a mark

module _ (h : Seen) (frames : List SentFrame) where
  -- a mark of the last step is held
  pub held : (m : Mark) → HoldsSent h frames → Contains h.marks m → IsHeld h frames m
  held (mark.Sent n) sent there = sent n there
  held m sent there = tt

  -- the frame of a mark that is held stands in the outbox
  pub held_within : (n : ℕ) → IsHeld h frames (mark.Sent n) → n < length frames
  held_within n is = by (slice_get frames n) refl is where
    by : (o : Option SentFrame) → slice_get frames n ≡ o → IsSome (option_and_then (packet_of h.settings) o) → n < length frames
    by None at is = absurd (true≢false (sym is))
    by (Some f) at is = slice_get_within frames n f at

  -- the kind of a frame's line
  pub frame_kind : (n : ℕ) (bytes whole : List ℕ) (k : Option LineKind) → IfSome (slice_get frames n) (λ f. bytes ≡ f.frame)
      → ((wire : ℕ) (p : Packet) (payload : List ℕ) → packet_in wire bytes ≡ Some (p, payload) → k ≡ Some (packet_kind p.body))
      → IsHeld h frames (mark.Sent n) → k ≡ kind_of (shown h frames whole (mark.Sent n))
  frame_kind n bytes whole k same says is = by (slice_get frames n) same is where
    read : (f : SentFrame) (r : Option (Packet × List ℕ)) → bytes ≡ f.frame → packet_of h.settings f ≡ r → IsSome r → k ≡ kind_of (read_line n f r)
    read f None same e is = absurd (true≢false (sym is))
    read f (Some r) same e is = says h.settings.wire r.0 r.1 (ap (packet_in h.settings.wire) same ∙ e)

    by : (o : Option SentFrame) → IfSome o (λ f. bytes ≡ f.frame) → IsSome (option_and_then (packet_of h.settings) o) → k ≡ kind_of (line_of h.settings n o)
    by None same is = absurd (true≢false (sym is))
    by (Some f) same is = read f (packet_of h.settings f) same refl is

-- ---- of a host's last step

-- a packet's number has no say in the kind of its line
kind-numbered : (n : ℕ) (e : PlainEntry) → kind_of (numbered n e) ≡ kind_of e
kind-numbered n (PlainSend number from to inc role id level what payload) = refl
kind-numbered n e = refl

-- the kinds of a step's entries, with their numbers
kinds_numbered : (base : ℕ) (entry : Mark → PlainEntry) (marks : List Mark)
    → map (λ (m : Mark). kind_of (entry m)) marks ≡ map kind_of (map (numbered base) (map entry marks))
kinds_numbered base entry [] = refl
kinds_numbered base entry (m ∷ marks) =
    let rest = map (λ (x : Mark). kind_of (entry x)) marks in
    ap (λ (k : Option LineKind). k ∷ rest) (sym (kind-numbered base (entry m)))
    ∙ ap (λ (ks : List (Option LineKind)). kind_of (numbered base (entry m)) ∷ ks) (kinds_numbered base entry marks)

-- what stands before them is counted too
counted_before : (host : HostId) (f : First) (bytes : List ℕ) (kinds : List (Option LineKind)) (es : List PlainEntry) → kinds ≡ map kind_of es
    → counted_kinds (kind_before f ∷ kinds) ≡ counted_kinds (map kind_of (first_told host f bytes ++ es))
counted_before host first.Nothing bytes kinds es e = ap counted_kinds e
counted_before host (first.Delivered packet) bytes kinds es e = ap (λ (ks : List (Option LineKind)). line.Deliver ∷ counted_kinds ks) e
counted_before host first.Injected bytes kinds es e = ap counted_kinds e

module _ {S : Type 0} (w : WorldParts S) where
  -- the marks that a host's last step left
  pub left_marks : (host : HostId) (f : First) (base : ℕ) (o : Option Seen) (marks : List Mark) → slice_get (hosts_of w.stage) host.0 ≡ o → HasLeft w.stage o
      → IfSome o (λ h. marks ≡ h.marks) → AreMarksOf w (last.Stepped host f base) marks
  left_marks host f base None marks at left same = absurd left
  left_marks host f base (Some h) marks at left same =
      let frames = frames_of w.stage in
      let entry = shown h frames (whole_of w.stage) in
      let holds : (m : Mark) → Contains marks m → IsHeld h frames m = λ m there. held h frames m left.0 (subst (λ ms. Contains ms m) same there) in
      let told = ap (λ ms. map (numbered base) (map entry ms)) same
      ∙ ap (λ x. map (numbered base) (entries_of w.stage x)) (sym at) in
      record {
        kind = λ m. kind_of (entry m);
        stand = λ m there. (h, holds m there);
        kinds = λ m k there is. is h (whole_of w.stage) (holds m there);
        counted = counted_before host f w.injected.items (map (λ (m : Mark). kind_of (entry m)) marks) _
            (kinds_numbered base entry marks ∙ ap (map kind_of) told);
      }

  -- other events have none
  none_marked : {l : Last} → counted_kinds (unmarked_kind l ∷ []) ≡ counted_kinds (map kind_of (told_by w l)) → AreMarksOf w l []
  none_marked same = record {
    kind = λ _. None;
    stand = λ m there. absurd (omega (arith, there.1));
    kinds = λ m k there is. absurd (omega (arith, there.1));
    counted = same;
  }

  pub no_marks : (l : Last) → ((host : HostId) (f : First) (base : ℕ) → l ≡ last.Stepped host f base → ⊥) → AreMarksOf w l []
  no_marks last.Nothing not = none_marked refl
  no_marks last.Ticked not = none_marked refl
  no_marks (last.Restarted host inc) not = none_marked refl
  no_marks (last.Shifted host n) not = none_marked refl
  no_marks (last.Stepped host f base) not = absurd (not host f base refl)
