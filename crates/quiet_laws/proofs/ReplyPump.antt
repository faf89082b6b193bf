-- The server's pump, while the response is in progress.
use Rattle.std.proofs.Common.{◌≡◌, ℕ, ◌+◌, ◌-◌, ◌<◌, ◌≤◌, Bool, true, false, Some, None, List, [], ◌∷◌, ◌++◌, length, refl, ap, subst, ◌∙◌, arith, cond}
use Rattle.std.specs.Prelude.{nat_lt}
use Rattle.std.proofs.lemmas.Bool.{le-ltb, lt-ltb}
use Rattle.plain_sets.specs.Maps as maps
use Rattle.plain_sets.specs.Maps.{empty, insert, get, entries}
use Rattle.plain_sets.specs.Ordered.{ordered}
use Rattle.plain_sets.specs.Ranges.{Range, range}
use Rattle.homa_plain.specs.declared.packet.Role.TheVariants.{Server}
use Rattle.homa_plain.specs.declared.settings.Settings.{Settings}
use Rattle.homa_plain.specs.Packets.{Packet}
use Rattle.homa_plain.specs.SentNext.{least}
use Rattle.homa_plain.specs.Outgoing.{Outgoing}
use Rattle.homa_plain.specs.Rows.{ServerRow, Replying}
use Rattle.homa_plain.specs.Host.{Told, Sends, peer_cutoffs}
use Rattle.homa_plain.specs.Timers.{OfServer}
use Rattle.homa_plain.specs.SentNext.{Leaving, leaving_key}
use Rattle.homa_plain.specs.Sending.{response_content}
use Rattle.homa_plain.specs.Work.{Work, packet_from}
use Rattle.homa_plain.specs.SentNext.{first_leaves, response_leaves, pumped_once}
use Rattle.homa_plain.specs.Credit.{if_affordable}
use Rattle.quiet_laws.specs.Flows.{flows}
use Rattle.quiet_laws.specs.Hosts.{the_call, server_id, client_id, Bits, server_host}
use Rattle.quiet_laws.proofs.Pump.{Pumps}
use Rattle.quiet_laws.proofs.Pumping.{length-slice}
use Rattle.quiet_laws.proofs.Outs.{out_at, end_at, waits_at, range_at, next_at}

module _ (s : Settings) (n : ℕ) (response : List ℕ) (size : length response ≡ n) (b : Bits) (row_order order may prio count : ℕ) where
  abbrev pub answering : Outgoing → ℕ → ServerRow
  answering out base = record { order = row_order; state = Replying response out order base count }

  -- the server in the midst of its step
  abbrev pub replies : (credit top base : ℕ) → Unit {0} → List Told → Work
  replies credit top base x told = record { host = server_host b credit (Some (answering (out_at n s.unsched top may prio) base)); told = told }

  abbrev leaving : ℕ → Leaving
  leaving top = record { place = OfServer the_call; left = n - top; order = order }

  abbrev pub reply_piece : (credit top base : ℕ) → Unit {0} → List Told → Packet
  reply_piece credit top base x told =
      let w : Work = replies credit top base x told in
      packet_from s w.host Server the_call server_id
      (response_content s (peer_cutoffs s w.host client_id).cutoffs response (out_at n s.unsched top may prio) (range top (end_at top may s.seg)))

  picked : (credit top base : ℕ) (x : Unit {0}) (told : List Told) (t : Bool) → nat_lt top may ≡ t
      → pumped_once s (replies credit top base x told) ≡ first_leaves s (least leaving_key (cond t (leaving top ∷ []) [] ++ []))
      (replies credit top base x told)
  unfolding pumped_once ordered get insert empty maps.checked
  picked credit top base x told t e =
      ap (λ u. first_leaves s (least leaving_key (cond u (leaving top ∷ []) [] ++ [])) (replies credit top base x told)) (waits_at n s.unsched top may prio ∙ e)

  abbrev leave : (credit top base : ℕ) → Unit {0} → List Told → Range → Work
  leave credit top base x told r =
      let w : Work = replies credit top base x told in
      response_leaves s the_call (answering (out_at n s.unsched top may prio) base)
      (response_content s (peer_cutoffs s w.host client_id).cutoffs response (out_at n s.unsched top may prio) r) r w

  offered : (credit top base : ℕ) (x : Unit {0}) (told : List Told) → top < may
      → pumped_once s (replies credit top base x told) ≡ cond (nat_lt credit (end_at top may s.seg - top)) None
      (Some (leave credit top base x told (range top (end_at top may s.seg))))
  unfolding ordered get insert empty maps.checked
  offered credit top base x told h =
      picked credit top base x told true (lt-ltb top may h)
      ∙ ap (λ o. if_affordable o (replies credit top base x told) (leave credit top base x told)) (range_at n s.unsched top may prio s.seg h)

  left_is : (credit top base : ℕ) (x : Unit {0}) (told : List Told) → top < may
      → leave credit top base x told (range top (end_at top may s.seg)) ≡ replies (credit - (end_at top may s.seg - top))
      (end_at top may s.seg) b.last x (told ++ Sends (reply_piece credit top base x told) ∷ [])
  unfolding insert empty maps.checked
  left_is credit top base x told h =
      ap (λ o. record {
        host = server_host b (credit - (end_at top may s.seg - top)) (Some (answering o b.last));
        told = told ++ Sends (reply_piece credit top base x told) ∷ [];
      }) (next_at n s.unsched top may prio s.seg h)

  pub server_pumps : 1 ≤ s.seg → may ≤ n → Pumps s n may b.last Server (Unit {0}) replies reply_piece (λ x. x)
  unfolding ordered
  server_pumps some within = record {
    rests = λ credit top base x told h. picked credit top base x told false (le-ltb top may h);
    short = λ credit top base x told h c. offered credit top base x told h
        ∙ ap (λ t. cond t None (Some (leave credit top base x told (range top (end_at top may s.seg))))) (lt-ltb credit _ c);
    sends = λ credit top base x told h c. offered credit top base x told h
        ∙ ap (λ t. cond t None (Some (leave credit top base x told (range top (end_at top may s.seg))))) (le-ltb credit _ c)
        ∙ ap Some (left_is credit top base x told h);
    is_piece = λ credit top base x told h. record {
      flow = λ given ps last f.
          let end : ℕ = end_at top may s.seg in
          let p : Packet = reply_piece credit top base x told in
          let long : length p.payload ≡ end - top = length-slice response (range top end) (omega (arith, size, within)) in (
            refl,
            refl,
            refl,
            refl,
            refl,
            omega (arith, long, h, some),
            subst (λ z. flows n Server z given ps last given) {x = end} {y = top + length p.payload} (omega (arith, long, h, some)) f,
          );
    };
    ours = λ credit top base x told. (record { id = refl; server = refl; inc = refl; at = refl }, tt);
  }
