-- A turn of each host, while a message is in progress and no timer is due.
use Rattle.std.proofs.Common.{◌≡◌, ℕ, ◌+◌, ◌<◌, ◌≤◌, Option, Some, None, [], length, refl, sym, ap, subst, ◌∙◌, arith, cond}
use Rattle.std.proofs.lemmas.Bool.{lt-ltb}
use Rattle.homa_plain.specs.declared.packet.Role.{Role}
use Rattle.homa_plain.specs.declared.packet.Role.TheVariants.{Client, Server}
use Rattle.homa_plain.specs.declared.settings.Settings.{Settings}
use Rattle.homa_plain.specs.Incoming.{Incoming}
use Rattle.homa_plain.specs.Rows.{Replying}
use Rattle.homa_plain.specs.Host.{Host}
use Rattle.homa_plain.specs.Work.{begun}
use Rattle.homa_plain.specs.Credit.{refilled}
use Rattle.homa_plain.specs.Steps.{acts, ended, turn_step}
use Rattle.quiet_laws.specs.Hosts.{Bits, client_host, server_host, asking}
use Rattle.quiet_laws.proofs.Outs.{out_at}
use Rattle.quiet_laws.proofs.Turns.{client_waits, server_waits, replier_waits, nobody_waits}
use Rattle.quiet_laws.proofs.Stands.{receiving_row, Times, GetsRequest, Got, IsSender, IsReceiver, SenderEnded, ReceiverEnded}
use Rattle.quiet_laws.proofs.Ended.{sender_ends, receiver_ends}

-- after a tick: the credit is full
abbrev pub ticked : Settings → ℕ → Times → Times
ticked s now t = record t { last = now; refilled = now; credit = s.rate }

abbrev pub bits_at : ℕ → Bits → Bits
bits_at now b = record b { last = now; refilled = now }

-- what a turn begins with
pub record Turned (P : Host → Type 0) (s : Settings) (h : Host) (now : ℕ) : Type 0 where
  pub host : Host
  pub is : acts s (begun (refilled s (record h { last = now })) now) ≡ record { host = host; told = [] }
  pub stands : P host

filled : (s : Settings) (h : Host) (now : ℕ) → h.refilled < now
    → begun (refilled s (record h { last = now })) now ≡ record { host = record h { last = now; refilled = now; credit = s.rate }; told = [] }
filled s h now e = ap (λ t. begun (cond t (record h { last = now; credit = s.rate; refilled = now }) (record h { last = now })) now) (lt-ltb h.refilled now e)

module _ (s : Settings) (n top may : ℕ) (t : Times) (now : ℕ) (later : t.refilled < now) (early : now < t.base + s.resend) where
  sender_turned : (role : Role) (h : Host) → IsSender role s n top may t h → Turned (IsSender role s n top may (ticked s now t)) s h now
  sender_turned Client h a =
      let row : _ = asking a.request a.order (out_at n s.unsched top may a.prio) a.heard t.base a.count a.seen None in
      record {
        host = client_host (bits_at now a.bits) s.rate row;
        is = ap (λ x. acts s (begun (refilled s (record x { last = now })) now)) a.is
            ∙ ap (acts s) (filled s (client_host a.bits t.credit row) now (omega (arith, later, a.refilled)))
            ∙ client_waits s (bits_at now a.bits) s.rate [] a.request a.order (out_at n s.unsched top may a.prio) a.heard t.base a.count a.seen None early;
        stands = record {
          bits = bits_at now a.bits;
          request = a.request;
          order = a.order;
          prio = a.prio;
          heard = a.heard;
          count = a.count;
          seen = a.seen;
          size = a.size;
          known = a.known;
          last = refl;
          refilled = refl;
          is = refl;
        };
      }
  sender_turned Server h a =
      let row : _ = record { order = a.row_order; state = Replying a.response (out_at n s.unsched top may a.prio) a.order t.base a.count } in
      record {
        host = server_host (bits_at now a.bits) s.rate (Some row);
        is = ap (λ x. acts s (begun (refilled s (record x { last = now })) now)) a.is
            ∙ ap (acts s) (filled s (server_host a.bits t.credit (Some row)) now (omega (arith, later, a.refilled)))
            ∙ replier_waits s (bits_at now a.bits) s.rate [] a.row_order a.response (out_at n s.unsched top may a.prio) a.order t.base a.count early;
        stands = record {
          bits = bits_at now a.bits;
          response = a.response;
          row_order = a.row_order;
          order = a.order;
          prio = a.prio;
          count = a.count;
          size = a.size;
          last = refl;
          refilled = refl;
          is = refl;
        };
      }

  pub sender_turn : (role : Role) → 1 ≤ s.seg → top ≤ may → may ≤ n → (h : Host) → IsSender role s n top may t h
      → (c : Turned (IsSender role s n top may (ticked s now t)) s h now) × SenderEnded role s n top may (ticked s now t)
      (record { host = c.host; told = [] }) (turn_step s h now)
  unfolding turn_step
  sender_turn role some sent within h a =
      let c = sender_turned role h a in (
        c,
        subst (λ w. SenderEnded role s n top may (ticked s now t) (record { host = c.host; told = [] }) (ended s w))
            {x = record { host = c.host; told = [] }} (sym c.is)
            (sender_ends s n top may (ticked s now t) some sent within role [] c.host c.stands),
      )

module _ (s : Settings) (n here given : ℕ) (t : Times) (now : ℕ) (later : t.refilled < now) (early : now < t.base + s.resend) where
  receiver_turned : (role : Role) (h : Host) → IsReceiver role s n here given t h → Turned (IsReceiver role s n here given (ticked s now t)) s h now
  receiver_turned Client h a = by a.part a.got a.is where
    by : (part : Option Incoming) → Got s n here given part → h ≡ server_host a.bits t.credit (receiving_row a.row_order t.base a.count part)
        → Turned (GetsRequest s n here given (ticked s now t)) s h now
    by None g e = record {
      host = server_host (bits_at now a.bits) s.rate None;
      is = ap (λ x. acts s (begun (refilled s (record x { last = now })) now)) e
          ∙ ap (acts s) (filled s (server_host a.bits t.credit None) now (omega (arith, later, a.refilled)))
          ∙ nobody_waits s (bits_at now a.bits) s.rate [];
      stands = record { bits = bits_at now a.bits; row_order = a.row_order; count = a.count; part = None; got = g; last = refl; refilled = refl; is = refl };
    }
    by (Some part) f e = record {
      host = server_host (bits_at now a.bits) s.rate (receiving_row a.row_order t.base a.count (Some part));
      is = ap (λ x. acts s (begun (refilled s (record x { last = now })) now)) e
          ∙ ap (acts s) (filled s (server_host a.bits t.credit (receiving_row a.row_order t.base a.count (Some part))) now (omega (arith, later, a.refilled)))
          ∙ server_waits s (bits_at now a.bits) s.rate [] a.row_order 0 part t.base a.count early;
      stands =
          record { bits = bits_at now a.bits; row_order = a.row_order; count = a.count; part = Some part; got = f; last = refl; refilled = refl; is = refl };
    }
  receiver_turned Server h a =
      let out = out_at (length a.request) s.unsched (length a.request) (length a.request) a.prio in
      record {
        host = client_host (bits_at now a.bits) s.rate (asking a.request a.order out a.heard t.base a.count a.seen a.part);
        is = ap (λ x. acts s (begun (refilled s (record x { last = now })) now)) a.is
            ∙ ap (acts s) (filled s (client_host a.bits t.credit (asking a.request a.order out a.heard t.base a.count a.seen a.part)) now
            (omega (arith, later, a.refilled)))
            ∙ client_waits s (bits_at now a.bits) s.rate [] a.request a.order out a.heard t.base a.count a.seen a.part early;
        stands = record {
          bits = bits_at now a.bits;
          request = a.request;
          order = a.order;
          prio = a.prio;
          heard = a.heard;
          count = a.count;
          seen = a.seen;
          part = a.part;
          got = a.got;
          known = a.known;
          last = refl;
          refilled = refl;
          is = refl;
        };
      }

  pub receiver_turn : (role : Role) → 1 ≤ s.overcommit → here < n → given ≤ n → (h : Host) → IsReceiver role s n here given t h
      → (c : Turned (IsReceiver role s n here given (ticked s now t)) s h now) × ReceiverEnded role s n here given (ticked s now t)
      (record { host = c.host; told = [] }) (turn_step s h now)
  unfolding turn_step
  receiver_turn role some short within h a =
      let c = receiver_turned role h a in (
        c,
        subst (λ w. ReceiverEnded role s n here given (ticked s now t) (record { host = c.host; told = [] }) (ended s w))
            {x = record { host = c.host; told = [] }} (sym c.is)
            (receiver_ends s n here given (ticked s now t) some short within role [] c.host c.stands),
      )
