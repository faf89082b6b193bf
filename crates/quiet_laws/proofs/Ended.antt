-- What the end of a step does: grants, and then the pump.
use Rattle.std.proofs.Common.{◌≡◌, ℕ, zero, suc, ◌+◌, ◌-◌, ◌*◌, ◌&&◌, ◌||◌, ◌<◌, ◌≤◌, ◌⊎◌, inl, inr, true, false, Option, Some, None, List, [], ◌∷◌}
use Rattle.std.proofs.Common.{◌++◌, length, refl, sym, ap, subst, ◌∙◌, arith, cond}
use Rattle.std.specs.Prelude.{nat_lt, nat_le, min, map}
use Rattle.std.proofs.lemmas.Bool.{le-ltb, lt-ltb, cases_lt}
use Rattle.std.proofs.lemmas.List.{append-nil}
use Rattle.plain_sets.specs.Maps as maps
use Rattle.plain_sets.specs.Maps.{empty, insert, get, entries}
use Rattle.plain_sets.specs.Ordered.{ordered}
use Rattle.homa_plain.specs.declared.packet.Role.{Role}
use Rattle.homa_plain.specs.declared.packet.Role.TheVariants.{Client, Server}
use Rattle.homa_plain.specs.declared.settings.Settings.{Settings}
use Rattle.homa_plain.specs.Incoming.{Incoming, granted_to}
use Rattle.homa_plain.specs.Packets.{Packet}
use Rattle.homa_plain.specs.Host.{Host, Told, Sends, packets_in}
use Rattle.homa_plain.specs.SentNext.{least}
use Rattle.homa_plain.specs.Timers.{OfClient}
use Rattle.homa_plain.specs.SentNext.{leaving_key}
use Rattle.homa_plain.specs.Work.{Work}
use Rattle.homa_plain.specs.SentNext.{first_leaves, pumps, pumped_once, pump}
use Rattle.homa_plain.specs.Steps.{gives_grants, ended}
use Rattle.quiet_laws.specs.Hosts.{the_call, Bits, client_host, server_host, asking, HasFront, AreOurs}
use Rattle.quiet_laws.proofs.Outs.{out_at, waits_at}
use Rattle.quiet_laws.proofs.Fronts.{front_len, front_granted}
use Rattle.quiet_laws.proofs.Pump.{pumped}
use Rattle.quiet_laws.proofs.Pumping.{sending, client_pumps}
use Rattle.quiet_laws.proofs.ReplyPump.{replies, server_pumps}
use Rattle.quiet_laws.proofs.Granting.{client_gives_none, grant_packet, server_gives_by, client_gives_by, server_gives_none, server_gives_nobody}
use Rattle.quiet_laws.proofs.Granting.{response_grant}
use Rattle.quiet_laws.proofs.Comes.{SeenSoFar, Once}
use Rattle.quiet_laws.proofs.Stands.{Times, SendsRequest, SendsResponse, GetsRequest, GetsResponse, Got, IsSender, IsReceiver, SenderEnded}
use Rattle.quiet_laws.proofs.Stands.{ReceiverEnded, receiving_row}

module _ (s : Settings) (n top may : ℕ) (t : Times) (some : 1 ≤ s.seg) (sent_so_far : top ≤ may) (within : may ≤ n) where
  request_ends : (told : List Told) (h : Host) → SendsRequest s n top may t h
      → SenderEnded Client s n top may t (record { host = h; told = told }) (ended s (record { host = h; told = told }))
  request_ends told h a =
      let w : Work = sending s n a.request a.size a.bits t.credit a.order top may a.prio a.heard t.base a.count a.seen told in
      let k : ℕ = 64 - length (packets_in told) in
      let p = pumped s n may a.bits.last Client (ℕ × ℕ) _ _ _ (client_pumps s n a.request a.size a.bits a.order may a.prio a.seen some within) some k
      t.credit top t.base (a.heard, a.count) told sent_so_far in
      let is : ended s (record { host = h; told = told }) ≡ sending s n a.request a.size a.bits p.credit a.order p.end may a.prio p.rest.0 p.timer
      p.rest.1 a.seen (told ++ map Sends p.sent) =
      ap (λ x. ended s (record { host = x; told = told })) a.is
      ∙ ap (λ x. pump s x)
      (client_gives_none s a.bits t.credit told a.request a.order (out_at n s.unsched top may a.prio) a.heard t.base a.count a.seen) ∙ p.is in
      record {
        end = p.end;
        times = record { last = t.last; refilled = t.refilled; credit = p.credit; base = p.timer };
        sent = p.sent;
        host = record {
          bits = a.bits;
          request = a.request;
          order = a.order;
          prio = a.prio;
          heard = p.rest.0;
          count = p.rest.1;
          seen = a.seen;
          size = a.size;
          known = a.known;
          last = a.last;
          refilled = a.refilled;
          is = ap (λ (x : Work). x.host) is;
        };
        told = ap (λ (x : Work). x.told) is;
        up = p.up;
        within = p.within;
        flow = p.flow;
        ours = subst (λ x. AreOurs s x p.sent) a.last p.ours;
        last = refl;
        refilled = refl;
        later = subst (λ x. (p.timer ≡ t.base) ⊎ (p.timer ≡ x)) a.last p.later;
        anew = λ x. p.anew x ∙ a.last;
        goes = λ none enough waits. p.goes (rw none (omega arith)) enough waits;
      }

  response_ends : (told : List Told) (h : Host) → SendsResponse s n top may t h
      → SenderEnded Server s n top may t (record { host = h; told = told }) (ended s (record { host = h; told = told }))
  response_ends told h a =
      let k : ℕ = 64 - length (packets_in told) in
      let p = pumped s n may a.bits.last Server (Unit {0}) _ _ _
      (server_pumps s n a.response a.size a.bits a.row_order a.order may a.prio a.count some within) some k t.credit top t.base tt told sent_so_far in
      let is : ended s (record { host = h; told = told }) ≡ replies s n a.response a.size a.bits a.row_order a.order may a.prio a.count p.credit p.end
      p.timer p.rest (told ++ map Sends p.sent) =
      ap (λ x. ended s (record { host = x; told = told })) a.is
      ∙ ap (λ x. pump s x)
      (server_gives_none s a.bits t.credit told a.row_order a.order t.base a.count a.response (out_at n s.unsched top may a.prio)) ∙ p.is in
      record {
        end = p.end;
        times = record { last = t.last; refilled = t.refilled; credit = p.credit; base = p.timer };
        sent = p.sent;
        host = record {
          bits = a.bits;
          response = a.response;
          row_order = a.row_order;
          order = a.order;
          prio = a.prio;
          count = a.count;
          size = a.size;
          last = a.last;
          refilled = a.refilled;
          is = ap (λ (x : Work). x.host) is;
        };
        told = ap (λ (x : Work). x.told) is;
        up = p.up;
        within = p.within;
        flow = p.flow;
        ours = subst (λ x. AreOurs s x p.sent) a.last p.ours;
        last = refl;
        refilled = refl;
        later = subst (λ x. (p.timer ≡ t.base) ⊎ (p.timer ≡ x)) a.last p.later;
        anew = λ x. p.anew x ∙ a.last;
        goes = λ none enough waits. p.goes (rw none (omega arith)) enough waits;
      }

  pub sender_ends : (role : Role) (told : List Told) (h : Host) → IsSender role s n top may t h
      → SenderEnded role s n top may t (record { host = h; told = told }) (ended s (record { host = h; told = told }))
  sender_ends Client = request_ends
  sender_ends Server = response_ends

-- ---- the receiver

pumps_none : (s : Settings) (k : ℕ) (w : Work) → pumped_once s w ≡ None → pumps s k w ≡ w
unfolding pumps
pumps_none s zero w e = refl
pumps_none s (suc k) w e = ap (λ o. elim o as (λ _. Work) [ None ↦ w | Some after ↦ pumps s k after ]) e

module _ (s : Settings) (some : 1 ≤ s.overcommit) where
  receiving_rests : (b : Bits) (credit row_order base count : ℕ) (part : Option Incoming) (told : List Told)
      → pumped_once s (record { host = server_host b credit (receiving_row row_order base count part); told = told }) ≡ None
  unfolding pumped_once ordered get insert empty maps.checked
  receiving_rests b credit row_order base count None told = refl
  receiving_rests b credit row_order base count (Some part) told = refl

  getting_rests : (b : Bits) (credit : ℕ) (request : List ℕ) (order n prio heard base count seen : ℕ) (part : Option Incoming) (told : List Told)
      → pumped_once s
      (record { host = client_host b credit (asking request order (out_at n s.unsched n n prio) heard base count seen part); told = told }) ≡ None
  unfolding pumped_once ordered get insert empty maps.checked
  getting_rests b credit request order n prio heard base count seen part told =
      let w : Work = record { host = client_host b credit (asking request order (out_at n s.unsched n n prio) heard base count seen part); told = told } in
      ap (λ u. first_leaves s
      (least leaving_key
      ((cond (u && (nat_lt n n || nat_le b.last (heard + s.resend * (s.tries + 1))))
      (record { place = OfClient the_call; left = n - n; order = order } ∷ []) [] ++ []) ++ [])) w)
      (waits_at n s.unsched n n prio ∙ le-ltb n n (omega arith))

module _ (s : Settings) (n here given : ℕ) (t : Times) (some : 1 ≤ s.overcommit) (short : here < n) (within : given ≤ n) where
  request_got : (told : List Told) (h : Host) → GetsRequest s n here given t h
      → ReceiverEnded Client s n here given t (record { host = h; told = told }) (ended s (record { host = h; told = told }))
  request_got told h a = by a.part a.got a.is where
    ends_still : (part : Option Incoming) → Got s n here given part → (0 < here → min n (here + s.window) ≤ given)
        → h ≡ server_host a.bits t.credit (receiving_row a.row_order t.base a.count part)
        → gives_grants s (record { host = server_host a.bits t.credit (receiving_row a.row_order t.base a.count part); told = told })
        ≡ record { host = server_host a.bits t.credit (receiving_row a.row_order t.base a.count part); told = told }
        → ReceiverEnded Client s n here given t (record { host = h; told = told }) (ended s (record { host = h; told = told }))
    ends_still part got far e none =
        let w : Work = record { host = server_host a.bits t.credit (receiving_row a.row_order t.base a.count part); told = told } in
        let is : ended s (record { host = h; told = told }) ≡ w =
        ap (λ x. ended s (record { host = x; told = told })) e ∙ ap (λ x. pump s x) none
        ∙ pumps_none s _ w (receiving_rests s some a.bits t.credit a.row_order t.base a.count part told) in
        record {
          now_given = given;
          times = t;
          sent = [];
          host = record {
            bits = a.bits;
            row_order = a.row_order;
            count = a.count;
            part = part;
            got = got;
            last = a.last;
            refilled = a.refilled;
            is = ap (λ (x : Work). x.host) is;
          };
          told = ap (λ (x : Work). x.told) is ∙ sym (append-nil told);
          up = omega arith;
          within = within;
          ahead = far;
          flow = λ top. (refl, refl);
          ours = tt;
          last = refl;
          refilled = refl;
          credit = refl;
          later = inl refl;
          anew = λ x. absurd (omega (arith, x));
        }

    ends_granted : (part : Incoming) → HasFront n here given part → given < min n (here + s.window)
        → h ≡ server_host a.bits t.credit (receiving_row a.row_order t.base a.count (Some part))
        → ReceiverEnded Client s n here given t (record { host = h; told = told }) (ended s (record { host = h; told = told }))
    ends_granted part f more e =
        let w : Work = record { host = server_host a.bits t.credit (receiving_row a.row_order t.base a.count (Some part)); told = told } in
        let end : ℕ = min part.length (maps.len part.bytes + s.window) in
        let end_is : end ≡ min n (here + s.window) =
        ap (λ x. min x (maps.len part.bytes + s.window)) f.length ∙ ap (λ x. min n (x + s.window)) (front_len n here given part f) in
        let p : Packet = grant_packet s some a.bits t.credit a.row_order 0 t.base a.count part told in
        let v : Work = record {
          host = server_host a.bits t.credit (receiving_row a.row_order a.bits.last a.count (Some (granted_to part end)));
          told = told ++ Sends p ∷ [];
        } in
        let is : ended s (record { host = h; told = told }) ≡ v =
        ap (λ x. ended s (record { host = x; told = told })) e
        ∙ ap (λ x. pump s x)
        (server_gives_by s some a.bits t.credit a.row_order 0 t.base a.count part told true
        (lt-ltb part.granted end (rw f.granted (omega (arith, end_is, more)))))
        ∙ pumps_none s _ v (receiving_rests s some a.bits t.credit a.row_order a.bits.last a.count (Some (granted_to part end)) (told ++ Sends p ∷ [])) in
        record {
          now_given = end;
          times = record t { base = a.bits.last };
          sent = p ∷ [];
          host = record {
            bits = a.bits;
            row_order = a.row_order;
            count = a.count;
            part = Some (granted_to part end);
            got = front_granted n here given part f end;
            last = a.last;
            refilled = a.refilled;
            is = ap (λ (x : Work). x.host) is;
          };
          told = ap (λ (x : Work). x.told) is;
          up = omega (arith, more, end_is);
          within = omega (arith, end_is);
          ahead = λ x. omega (arith, end_is);
          flow = λ top. (refl, omega (arith, more, end_is), omega (arith, end_is), (refl, refl));
          ours = subst (λ x. AreOurs s x (p ∷ [])) {x = a.bits.last} a.last (record { id = refl; server = refl; inc = refl; at = refl }, tt);
          last = refl;
          refilled = refl;
          credit = refl;
          later = inr a.last;
          anew = λ x. a.last;
        }

    by : (part : Option Incoming) → Got s n here given part → h ≡ server_host a.bits t.credit (receiving_row a.row_order t.base a.count part)
        → ReceiverEnded Client s n here given t (record { host = h; told = told }) (ended s (record { host = h; told = told }))
    by None g e = ends_still None g (λ x. absurd (omega (arith, x, g.0))) e (server_gives_nobody s a.bits t.credit told)
    by (Some part) f e = elim (cases_lt given (min n (here + s.window))) [
      | inl more ↦ ends_granted part f more e
      | inr enough ↦ ends_still (Some part) f (λ x. enough) e
          (server_gives_by s some a.bits t.credit a.row_order 0 t.base a.count part told false
          (le-ltb part.granted (min part.length (maps.len part.bytes + s.window)) (rw f.length (rw f.granted (rw (front_len n here given part f) enough)))))
    ]

seen_on : {seen : ℕ} {p q : Incoming} → SeenSoFar seen (Some p) → SeenSoFar seen (Some q)
seen_on Once = Once

module _ (s : Settings) (n here given : ℕ) (t : Times) (some : 1 ≤ s.overcommit) (short : here < n) (within : given ≤ n) where
  response_got : (told : List Told) (h : Host) → GetsResponse s n here given t h
      → ReceiverEnded Server s n here given t (record { host = h; told = told }) (ended s (record { host = h; told = told }))
  response_got told h a = by a.part a.got a.known a.is where
    ends_still : (part : Option Incoming) → Got s n here given part → SeenSoFar a.seen part → (0 < here → min n (here + s.window) ≤ given)
        → h ≡ client_host a.bits t.credit
        (asking a.request a.order (out_at (length a.request) s.unsched (length a.request) (length a.request) a.prio) a.heard t.base a.count a.seen part)
        → gives_grants s
        (record {
          host = client_host a.bits t.credit
              (asking a.request a.order (out_at (length a.request) s.unsched (length a.request) (length a.request) a.prio) a.heard t.base a.count a.seen
              part);
          told = told;
        })
        ≡ record {
          host = client_host a.bits t.credit
              (asking a.request a.order (out_at (length a.request) s.unsched (length a.request) (length a.request) a.prio) a.heard t.base a.count a.seen part);
          told =
              told;
        }
        → ReceiverEnded Server s n here given t (record { host = h; told = told }) (ended s (record { host = h; told = told }))
    ends_still part got known far e none =
        let w : Work = record {
          host = client_host a.bits t.credit
              (asking a.request a.order (out_at (length a.request) s.unsched (length a.request) (length a.request) a.prio) a.heard t.base a.count a.seen part);
          told =
              told;
        } in
        let is : ended s (record { host = h; told = told }) ≡ w =
        ap (λ x. ended s (record { host = x; told = told })) e ∙ ap (λ x. pump s x) none
        ∙ pumps_none s _ w (getting_rests s some a.bits t.credit a.request a.order (length a.request) a.prio a.heard t.base a.count a.seen part told) in
        record {
          now_given = given;
          times = t;
          sent = [];
          host = record {
            bits = a.bits;
            request = a.request;
            order = a.order;
            prio = a.prio;
            heard = a.heard;
            count = a.count;
            seen = a.seen;
            known = known;
            part = part;
            got = got;
            last = a.last;
            refilled = a.refilled;
            is = ap (λ (x : Work). x.host) is;
          };
          told = ap (λ (x : Work). x.told) is ∙ sym (append-nil told);
          up = omega arith;
          within = within;
          ahead = far;
          flow = λ top. (refl, refl);
          ours = tt;
          last = refl;
          refilled = refl;
          credit = refl;
          later = inl refl;
          anew = λ x. absurd (omega (arith, x));
        }

    ends_granted : (part : Incoming) → HasFront n here given part → SeenSoFar a.seen (Some part) → given < min n (here + s.window)
        → h ≡ client_host a.bits t.credit
        (asking a.request a.order (out_at (length a.request) s.unsched (length a.request) (length a.request) a.prio) a.heard t.base a.count a.seen (Some part))
        → ReceiverEnded Server s n here given t (record { host = h; told = told }) (ended s (record { host = h; told = told }))
    ends_granted part f known more e =
        let w : Work = record {
          host = client_host a.bits t.credit
              (asking a.request a.order (out_at (length a.request) s.unsched (length a.request) (length a.request) a.prio) a.heard t.base a.count
              a.seen (Some part));
          told =
              told;
        } in
        let end : ℕ = min part.length (maps.len part.bytes + s.window) in
        let end_is : end ≡ min n (here + s.window) =
        ap (λ x. min x (maps.len part.bytes + s.window)) f.length ∙ ap (λ x. min n (x + s.window)) (front_len n here given part f) in
        let p : Packet =
        response_grant s some a.bits t.credit a.request a.order (out_at (length a.request) s.unsched (length a.request) (length a.request) a.prio)
        a.heard t.base a.count a.seen part told in
        let v : Work = record {
          host = client_host a.bits t.credit
              (asking a.request a.order (out_at (length a.request) s.unsched (length a.request) (length a.request) a.prio) a.heard a.bits.last a.count
              a.seen (Some (granted_to part end)));
          told =
              told ++ Sends p ∷ [];
        } in
        let is : ended s (record { host = h; told = told }) ≡ v =
        ap (λ x. ended s (record { host = x; told = told })) e
        ∙ ap (λ x. pump s x)
        (client_gives_by s some a.bits t.credit a.request a.order (out_at (length a.request) s.unsched (length a.request) (length a.request) a.prio)
        a.heard t.base a.count a.seen part told true (lt-ltb part.granted end (rw f.granted (omega (arith, end_is, more)))))
        ∙ pumps_none s _ v
        (getting_rests s some a.bits t.credit a.request a.order (length a.request) a.prio a.heard a.bits.last a.count a.seen
        (Some (granted_to part end)) (told ++ Sends p ∷ [])) in
        record {
          now_given = end;
          times = record t { base = a.bits.last };
          sent = p ∷ [];
          host = record {
            bits = a.bits;
            request = a.request;
            order = a.order;
            prio = a.prio;
            heard = a.heard;
            count = a.count;
            seen = a.seen;
            known = seen_on known;
            part =
                Some (granted_to part end);
            got = front_granted n here given part f end;
            last = a.last;
            refilled = a.refilled;
            is = ap (λ (x : Work). x.host) is;
          };
          told = ap (λ (x : Work). x.told) is;
          up = omega (arith, more, end_is);
          within = omega (arith, end_is);
          ahead = λ x. omega (arith, end_is);
          flow = λ top. (refl, omega (arith, more, end_is), omega (arith, end_is), (refl, refl));
          ours = subst (λ x. AreOurs s x (p ∷ [])) {x = a.bits.last} a.last (record { id = refl; server = refl; inc = refl; at = refl }, tt);
          last = refl;
          refilled = refl;
          credit = refl;
          later = inr a.last;
          anew = λ x. a.last;
        }

    by : (part : Option Incoming) → Got s n here given part → SeenSoFar a.seen part
        → h ≡ client_host a.bits t.credit
        (asking a.request a.order (out_at (length a.request) s.unsched (length a.request) (length a.request) a.prio) a.heard t.base a.count a.seen part)
        → ReceiverEnded Server s n here given t (record { host = h; told = told }) (ended s (record { host = h; told = told }))
    by None g known e = ends_still None g known (λ x. absurd (omega (arith, x, g.0))) e
        (client_gives_none s a.bits t.credit told a.request a.order (out_at (length a.request) s.unsched (length a.request) (length a.request) a.prio)
        a.heard t.base a.count a.seen)
    by (Some part) f known e = elim (cases_lt given (min n (here + s.window))) [
      | inl more ↦ ends_granted part f known more e
      | inr enough ↦ ends_still (Some part) f known (λ x. enough) e
          (client_gives_by s some a.bits t.credit a.request a.order (out_at (length a.request) s.unsched (length a.request) (length a.request) a.prio)
          a.heard t.base a.count a.seen part told false
          (le-ltb part.granted (min part.length (maps.len part.bytes + s.window)) (rw f.length (rw f.granted (rw (front_len n here given part f) enough)))))
    ]

  pub receiver_ends : (role : Role) (told : List Told) (h : Host) → IsReceiver role s n here given t h
      → ReceiverEnded role s n here given t (record { host = h; told = told }) (ended s (record { host = h; told = told }))
  receiver_ends Client = request_got s n here given t some short within
  receiver_ends Server = response_got
