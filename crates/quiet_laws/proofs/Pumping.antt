-- The client's pump, while the request is in progress.
use Rattle.std.proofs.Common.{◌≡◌, ℕ, ◌+◌, ◌-◌, ◌*◌, ◌<◌, ◌≤◌, true, false, ◌&&◌, ◌||◌, Some, None, List, [], ◌∷◌, ◌++◌, length, drop, refl, ap}
use Rattle.std.proofs.Common.{subst, ◌∙◌, arith, cond}
use Rattle.std.specs.Prelude.{nat_lt, nat_le, min}
use Rattle.std.proofs.lemmas.Bool.{le-ltb, lt-ltb}
use Rattle.std.proofs.lemmas.List.{length-take, length-drop}
use Rattle.plain_sets.specs.Maps as maps
use Rattle.plain_sets.specs.Maps.{empty, insert, get, entries}
use Rattle.plain_sets.specs.Ordered.{ordered}
use Rattle.plain_sets.specs.Ranges.{Range, range}
use Rattle.homa_plain.specs.declared.packet.Role.TheVariants.{Client}
use Rattle.homa_plain.specs.declared.settings.Settings.{Settings}
use Rattle.homa_plain.specs.Packets.{Packet}
use Rattle.homa_plain.specs.SentNext.{least}
use Rattle.homa_plain.specs.Outgoing.{next}
use Rattle.homa_plain.specs.Rows.{ClientRow}
use Rattle.homa_plain.specs.Host.{Told, Sends, peer_cutoffs}
use Rattle.homa_plain.specs.Timers.{OfClient}
use Rattle.homa_plain.specs.SentNext.{Leaving, leaving_key}
use Rattle.homa_plain.specs.Sending.{slice, request_content}
use Rattle.homa_plain.specs.Work.{Work, packet_from}
use Rattle.homa_plain.specs.SentNext.{first_leaves, request_leaves, pumped_once}
use Rattle.homa_plain.specs.Credit.{if_affordable}
use Rattle.quiet_laws.specs.Flows.{flows}
use Rattle.quiet_laws.specs.Hosts.{the_call, server_id, Bits, client_host, asking}
use Rattle.quiet_laws.proofs.Pump.{Pumps}
use Rattle.quiet_laws.proofs.Outs.{out_at, end_at, waits_at, range_at, next_at}

pub length-slice : (xs : List ℕ) (r : Range) → r.to ≤ length xs → length (slice xs r) ≡ r.to - r.from
length-slice xs r h = length-take (r.to - r.from) (drop r.from xs) ∙ ap (λ l. min (r.to - r.from) l) (length-drop r.from xs) ∙ omega (arith, h)

module _ (s : Settings) (n : ℕ) (request : List ℕ) (size : length request ≡ n) (b : Bits) where
  -- the client in the midst of its step
  abbrev pub sending : (credit order top may prio heard base count seen : ℕ) → List Told → Work
  sending credit order top may prio heard base count seen told =
      record { host = client_host b credit (asking request order (out_at n s.unsched top may prio) heard base count seen None); told = told }

  abbrev leaving : ℕ → ℕ → Leaving
  leaving order top = record { place = OfClient the_call; left = n - top; order = order }

  -- nothing waits
  once_rests : (credit order top may prio heard base count seen : ℕ) (told : List Told) → may ≤ top
      → pumped_once s (sending credit order top may prio heard base count seen told) ≡ None
  unfolding pumped_once ordered get insert empty maps.checked
  once_rests credit order top may prio heard base count seen told h =
      let w : Work = sending credit order top may prio heard base count seen told in
      let none : nat_lt top may ≡ false = le-ltb top may h in
      ap (λ t. first_leaves s
      (least leaving_key ((cond (t && (nat_lt top n || nat_le b.last (heard + s.resend * (s.tries + 1)))) (leaving order top ∷ []) [] ++ []) ++ [])) w)
      (waits_at n s.unsched top may prio ∙ none)

  -- the piece that is sent next
  abbrev pub piece : (credit order top may prio heard base count seen : ℕ) → List Told → Packet
  piece credit order top may prio heard base count seen told =
      let w : Work = sending credit order top may prio heard base count seen told in
      packet_from s w.host Client the_call server_id
      (request_content s (peer_cutoffs s w.host server_id).cutoffs None
      (asking request order (out_at n s.unsched top may prio) heard base count seen None) (range top (end_at top may s.seg)))

  abbrev pub after_piece : (credit order top may prio heard base count seen : ℕ) → List Told → Work
  after_piece credit order top may prio heard base count seen told =
      sending (credit - (end_at top may s.seg - top)) order (end_at top may s.seg) may prio b.last b.last 0 seen
      (told ++ Sends (piece credit order top may prio heard base count seen told) ∷ [])

  once_sends : (credit order top may prio heard base count seen : ℕ) (told : List Told) → top < may → may ≤ n → end_at top may s.seg - top ≤ credit
      → pumped_once s (sending credit order top may prio heard base count seen told) ≡ Some (after_piece credit order top may prio heard base count seen told)
  unfolding pumped_once ordered get insert empty maps.checked
  once_sends credit order top may prio heard base count seen told h within enough =
      let w : Work = sending credit order top may prio heard base count seen told in
      let r : ClientRow = asking request order (out_at n s.unsched top may prio) heard base count seen None in
      let leave : Range → Work = λ x. request_leaves s the_call r x w in
      let end : ℕ = end_at top may s.seg in
      let new : nat_lt top n ≡ true = lt-ltb top n (omega (arith, h, within)) in
      ap (λ t. first_leaves s
      (least leaving_key ((cond (t && (nat_lt top n || nat_le b.last (heard + s.resend * (s.tries + 1)))) (leaving order top ∷ []) [] ++ []) ++ [])) w)
      (waits_at n s.unsched top may prio ∙ lt-ltb top may h)
      ∙ ap (λ t. first_leaves s
      (least leaving_key ((cond (t || nat_le b.last (heard + s.resend * (s.tries + 1))) (leaving order top ∷ []) [] ++ []) ++ [])) w) new
      ∙ ap (λ o. if_affordable o w leave) (range_at n s.unsched top may prio s.seg h)
      ∙ ap (λ t. cond t None (Some (leave (range top end)))) (le-ltb credit (end - top) enough)
      ∙ ap (λ x. Some
      (record { host = client_host b (credit - (end - top)) x; told = told ++ Sends (piece credit order top may prio heard base count seen told) ∷ [] }))
      (ap (λ t. record (cond t (record r { heard = b.last; base = b.last; count = 0 }) r) { out = (next (out_at n s.unsched top may prio) s.seg).part }) new
      ∙ ap (λ o. asking request order o b.last b.last 0 seen None) (next_at n s.unsched top may prio s.seg h))

  -- the credit is too small
  once_short : (credit order top may prio heard base count seen : ℕ) (told : List Told) → top < may → may ≤ n → credit < end_at top may s.seg - top
      → pumped_once s (sending credit order top may prio heard base count seen told) ≡ None
  unfolding pumped_once ordered get insert empty maps.checked
  once_short credit order top may prio heard base count seen told h within short =
      let w : Work = sending credit order top may prio heard base count seen told in
      let r : ClientRow = asking request order (out_at n s.unsched top may prio) heard base count seen None in
      let leave : Range → Work = λ x. request_leaves s the_call r x w in
      let end : ℕ = end_at top may s.seg in
      ap (λ t. first_leaves s
      (least leaving_key ((cond (t && (nat_lt top n || nat_le b.last (heard + s.resend * (s.tries + 1)))) (leaving order top ∷ []) [] ++ []) ++ [])) w)
      (waits_at n s.unsched top may prio ∙ lt-ltb top may h)
      ∙ ap (λ t. first_leaves s
      (least leaving_key ((cond (t || nat_le b.last (heard + s.resend * (s.tries + 1))) (leaving order top ∷ []) [] ++ []) ++ [])) w)
      (lt-ltb top n (omega (arith, h, within)))
      ∙ ap (λ o. if_affordable o w leave) (range_at n s.unsched top may prio s.seg h)
      ∙ ap (λ t. cond t None (Some (leave (range top end)))) (lt-ltb credit (end - top) short)

  pub client_pumps : (order may prio seen : ℕ) → 1 ≤ s.seg → may ≤ n
      → Pumps s n may b.last Client (ℕ × ℕ) (λ credit top base x told. sending credit order top may prio x.0 base x.1 seen told)
      (λ credit top base x told. piece credit order top may prio x.0 base x.1 seen told) (λ x. (b.last, 0))
  client_pumps order may prio seen some within = record {
    rests = λ credit top base x told h. once_rests credit order top may prio x.0 base x.1 seen told h;
    short = λ credit top base x told h. once_short credit order top may prio x.0 base x.1 seen told h within;
    sends = λ credit top base x told h. once_sends credit order top may prio x.0 base x.1 seen told h within;
    is_piece = λ credit top base x told h. record {
      flow = λ given ps last f.
          let end : ℕ = end_at top may s.seg in
          let p : Packet = piece credit order top may prio x.0 base x.1 seen told in
          let long : length p.payload ≡ end - top = length-slice request (range top end) (omega (arith, size, within)) in (
            refl,
            refl,
            refl,
            refl,
            refl,
            omega (arith, long, h, some),
            subst (λ z. flows n Client z given ps last given) {x = end} {y = top + length p.payload} (omega (arith, long, h, some)) f,
          );
    };
    ours = λ credit top base x told. (record { id = refl; server = refl; inc = refl; at = refl }, tt);
  }
