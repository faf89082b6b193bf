-- What holds of each row stays so.
use Rattle.std.proofs.Common.{◌≡◌, ◌<◌, ◌≤◌, ◌^◌, ℕ, List, length, ltb, Option, Some, None, refl, ◌∙◌, arith, min}
use Rattle.std.proofs.lemmas.Bool.{cond_both}
use Rattle.plain_sets.specs.Ranges.{Range}
use Rattle.homa_plain.specs.Outgoing.{Outgoing, opened, grant, next, next_range, sent, IsSound}
use Rattle.homa_plain.specs.Busy.{resend, is_busy, Resent}
use Rattle.homa_plain.proofs.OutgoingLaws.{sound-opened, sound-grant, sound-resend, sound-next}
use Rattle.homa_server.specs.Held.{IsReplied, IsResponse}

pub kept-opened : (response : List ℕ) (unsched now : ℕ) → IsResponse response → now < 2 ^ 63 → IsReplied response (opened (length response) unsched) now
kept-opened response unsched now is late =
    record { message = is; long = refl; sound = sound-opened (length response) unsched; prio = omega arith; early = late }

module _ (response : List ℕ) (out : Outgoing) (base now : ℕ) (is : IsReplied response out base) (late : now < 2 ^ 63) where
  -- another part of the same length
  with_out : (after : Outgoing) → IsSound after → after.length ≡ out.length → after.prio ≤ 7 → IsReplied response after now
  with_out after sound long prio = record { message = is.message; long = long ∙ is.long; sound = sound; prio = prio; early = late }

  pub kept-same : IsReplied response out now
  kept-same = with_out out is.sound refl is.prio

  pub kept-grant : (offset prio : ℕ) → prio ≤ 7 → IsReplied response (grant out offset prio) now
  kept-grant offset prio low = with_out (grant out offset prio) (sound-grant out offset prio is.sound)
      (cond_both (ltb out.granted (min offset out.length)) _ _ (λ (p : Outgoing). p.length ≡ out.length) (λ _. refl) (λ _. refl))
      (cond_both (ltb out.granted (min offset out.length)) _ _ (λ (p : Outgoing). p.prio ≤ 7) (λ _. low) (λ _. is.prio))

  pub kept-resend : (from to prio : ℕ) → prio ≤ 7 → IsReplied response (resend out from to prio).part now
  kept-resend from to prio low = with_out (resend out from to prio).part (sound-resend out from to prio is.sound)
      (cond_both (is_busy out from (min to out.length)) _ _ (λ (r : Resent). r.part.length ≡ out.length) (λ _. refl) (λ _. refl))
      (cond_both (is_busy out from (min to out.length)) _ _ (λ (r : Resent). r.part.prio ≤ 7) (λ _. is.prio) (λ _. low))

-- bytes of a response are sent
pub kept-next : (response : List ℕ) (out : Outgoing) (base now seg : ℕ) → IsReplied response out base → now < 2 ^ 63
    → IsReplied response (next out seg).part now
kept-next response out base now seg is late = at (next_range out seg) (sound-next out seg is.sound) where
  at : (r : Option Range) → IsSound (sent out r) → IsReplied response (sent out r) now
  at None sound = with_out response out base now is late out sound refl is.prio
  at (Some r) sound = with_out response out base now is late (sent out (Some r)) sound refl is.prio
