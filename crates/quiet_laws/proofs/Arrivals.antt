-- A whole step of a host, where a packet of the message in progress comes.
use Rattle.std.proofs.Common.{◌≡◌, ℕ, zero, suc, ◌+◌, ◌<◌, ◌≤◌, false, Option, Some, None, List, [], ◌++◌, length, refl, sym, ap, subst, ◌∙◌, arith}
use Rattle.homa_plain.specs.declared.packet.Role.{Role}
use Rattle.homa_plain.specs.declared.packet.Role.TheVariants.{Client, Server}
use Rattle.homa_plain.specs.declared.packet.Body.TheVariants as body
use Rattle.homa_plain.specs.declared.packet.Cutoffs.{Cutoffs}
use Rattle.homa_plain.specs.declared.settings.Settings.{Settings}
use Rattle.homa_plain.specs.Incoming.{Incoming, with_bytes}
use Rattle.homa_plain.specs.Incoming as incoming
use Rattle.homa_plain.specs.Outgoing.{Outgoing}
use Rattle.homa_plain.specs.Rows.{Replying}
use Rattle.std.proofs.lemmas.List.{append-nil}
use Rattle.homa_plain.specs.Rules.{Answer}
use Rattle.homa_plain.specs.Host.{Host, Told, pages_for}
use Rattle.homa_plain.specs.Work.{Work, begun}
use Rattle.homa_plain.specs.OldPackets.{is_stale}
use Rattle.homa_plain.specs.Steps.{comes, ended, arrival_step}
use Rattle.quiet_laws.specs.Flows.{other}
use Rattle.quiet_laws.specs.Hosts.{client_id, server_id, at_tick, client_host, server_host, asking, ours, HasFront, AreAside}
use Rattle.quiet_laws.proofs.Outs.{out_at, granted_at}
use Rattle.quiet_laws.proofs.Fronts.{front_opened, front_more}
use Rattle.quiet_laws.proofs.Comes.{SeenSoFar, Once, client_granted, server_granted, client_hears, server_hears}
use Rattle.quiet_laws.proofs.ServerData.{request_piece, next_more, first_more}
use Rattle.quiet_laws.proofs.ClientData.{response_piece_of, to_part, to_none, more_comes}
use Rattle.quiet_laws.proofs.Stands.{receiving_row, Times, SendsRequest, SendsResponse, GetsRequest, GetsResponse, Got, IsSender, IsReceiver}
use Rattle.quiet_laws.proofs.Stands.{SenderEnded, ReceiverEnded}
use Rattle.quiet_laws.proofs.Ended.{sender_ends, receiver_ends}

-- the row's timer begins anew
abbrev pub touched : ℕ → Times → Times
touched now t = record t { last = now; base = now }

-- before the step's end: this host, and what was told
pub record Came (role : Role) (P : Host → Type 0) (s : Settings) (now : ℕ) (w : Work) : Type 0 where
  pub host : Host
  pub told : List Told
  pub is : w ≡ record { host = host; told = told }
  pub stands : P host
  pub few : AreAside role s now told

module _ (s : Settings) (n top may : ℕ) (t : Times) (now : ℕ) (answer : Answer) (at level : ℕ) (payload : List ℕ) (offset prio : ℕ)
    (sent : top ≤ may) (more : may < offset) (within : offset ≤ n) where
  grant_came : (role : Role) → is_stale s now (ours (other role) at level (body.Grant offset prio) payload) ≡ false → (h : Host) → IsSender role s n top may t h
      → Came (other role) (IsSender role s n top offset (touched now t)) s now
      (comes s (Some (ours (other role) at level (body.Grant offset prio) payload)) answer (begun h now))
  grant_came Client fresh h a = record {
    host = client_host (at_tick now a.bits) t.credit (asking a.request a.order (out_at n s.unsched top offset prio) now now 0 1 None);
    told = [];
    is = ap (λ x. comes s (Some (ours Server at level (body.Grant offset prio) payload)) answer (begun x now)) a.is
        ∙ client_granted s a.bits t.credit now answer at level payload a.request a.order (out_at n s.unsched top may a.prio) a.heard t.base a.count
        a.seen None a.known offset prio fresh
        ∙ ap (λ o. record { host = client_host (at_tick now a.bits) t.credit (asking a.request a.order o now now 0 1 None); told = [] })
        (granted_at n s.unsched top may a.prio offset prio sent more within);
    stands = record {
      bits = at_tick now a.bits;
      request = a.request;
      order = a.order;
      prio = prio;
      heard = now;
      count = 0;
      seen = 1;
      size = a.size;
      known = Once;
      last = refl;
      refilled = a.refilled;
      is = refl;
    };
    few = tt;
  }
  grant_came Server fresh h a = record {
    host = server_host (at_tick now a.bits) t.credit
        (Some (record { order = a.row_order; state = Replying a.response (out_at n s.unsched top offset prio) a.order now 0 }));
    told = [];
    is = ap (λ x. comes s (Some (ours Client at level (body.Grant offset prio) payload)) answer (begun x now)) a.is
        ∙ server_granted s a.bits t.credit now answer at level payload a.row_order a.response (out_at n s.unsched top may a.prio) a.order t.base
        a.count offset prio fresh
        ∙ ap (λ o. record {
          host = server_host (at_tick now a.bits) t.credit (Some (record { order = a.row_order; state = Replying a.response o a.order now 0 }));
          told = [];
        }) (granted_at n s.unsched top may a.prio offset prio sent more within);
    stands = record {
      bits = at_tick now a.bits;
      response = a.response;
      row_order = a.row_order;
      order = a.order;
      prio = prio;
      count = 0;
      size = a.size;
      last = refl;
      refilled = a.refilled;
      is = refl;
    };
    few = tt;
  }

  -- a GRANT comes: the sender may send more, and does
  pub grant_step : (role : Role) → 1 ≤ s.seg → is_stale s now (ours (other role) at level (body.Grant offset prio) payload) ≡ false → (h : Host)
      → IsSender role s n top may t h
      → (c : Came (other role) (IsSender role s n top offset (touched now t)) s now
      (comes s (Some (ours (other role) at level (body.Grant offset prio) payload)) answer (begun h now)))
      × SenderEnded role s n top offset (touched now t) (record { host = c.host; told = c.told })
      (arrival_step s h now (Some (ours (other role) at level (body.Grant offset prio) payload)) answer)
  unfolding arrival_step
  grant_step role some fresh h a =
      let c = grant_came role fresh h a in (
        c,
        subst (λ w. SenderEnded role s n top offset (touched now t) (record { host = c.host; told = c.told }) (ended s w))
            {x = record { host = c.host; told = c.told }} (sym c.is)
            (sender_ends s n top offset (touched now t) some (omega (arith, sent, more)) within role c.told c.host c.stands),
      )

module _ (s : Settings) (n here given : ℕ) (t : Times) (now : ℕ) (answer : Answer) (at level version : ℕ) (payload : List ℕ)
    (more : here + length payload < n) (pages : pages_for n ≤ s.pages) (rows : 1 ≤ s.served) where
  data_came : (role : Role) → is_stale s now (ours role at level (body.Data n here version 0 None) payload) ≡ false → (h : Host)
      → IsReceiver role s n here given t h
      → Came (other role) (IsReceiver role s n (here + length payload) given (touched now t)) s now
      (comes s (Some (ours role at level (body.Data n here version 0 None) payload)) answer (begun h now))
  data_came Client fresh h a = by a.part a.got a.is where
    by : (part : Option Incoming) → Got s n here given part → h ≡ server_host a.bits t.credit (receiving_row a.row_order t.base a.count part)
        → Came Server (GetsRequest s n (here + length payload) given (touched now t)) s now
        (comes s (Some (request_piece at level n here version payload)) answer (begun h now))
    by (Some part) f e =
        let d = next_more s a.bits t.credit now answer at level n here given version payload fresh a.row_order t.base a.count part f more in
        record {
          host = server_host d.bits t.credit (receiving_row a.row_order now 0 (Some (with_bytes part here payload)));
          told = d.aside ++ [];
          is = ap (λ x. comes s (Some (request_piece at level n here version payload)) answer (begun x now)) e ∙ d.is;
          stands = record {
            bits = d.bits;
            row_order = a.row_order;
            count = 0;
            part = Some (with_bytes part here payload);
            got = front_more n here given part f payload;
            last = d.last;
            refilled = d.refilled ∙ a.refilled;
            is = refl;
          };
          few = subst (AreAside Server s now) (sym (append-nil d.aside)) d.few;
        }
    by None g e =
        let part : Incoming = incoming.opened client_id n a.bits.order s.unsched in
        let f : HasFront n here given part =
        subst (λ x. HasFront n x given part) (sym g.0) (subst (λ x. HasFront n 0 x part) (sym g.1) (front_opened client_id n a.bits.order s.unsched)) in
        let d = first_more s a.bits t.credit now answer at level n here given version payload fresh g.0 rows pages f more in
        record {
          host = server_host d.bits t.credit (receiving_row a.bits.order now 0 (Some (with_bytes part here payload)));
          told = d.aside ++ [];
          is = ap (λ x. comes s (Some (request_piece at level n here version payload)) answer (begun x now)) e ∙ d.is;
          stands = record {
            bits = d.bits;
            row_order = a.bits.order;
            count = 0;
            part = Some (with_bytes part here payload);
            got = front_more n here given part f payload;
            last = d.last;
            refilled = d.refilled ∙ a.refilled;
            is = refl;
          };
          few = subst (AreAside Server s now) (sym (append-nil d.aside)) d.few;
        }
  data_came Server fresh h a = by a.part a.got a.known a.is where
    full : Outgoing
    full = out_at (length a.request) s.unsched (length a.request) (length a.request) a.prio

    by : (part : Option Incoming) → Got s n here given part → SeenSoFar a.seen part
        → h ≡ client_host a.bits t.credit (asking a.request a.order full a.heard t.base a.count a.seen part)
        → Came Client (GetsResponse s n (here + length payload) given (touched now t)) s now
        (comes s (Some (response_piece_of at level n here version payload)) answer (begun h now))
    by (Some part) f known e = from_part a.seen known e where
      from_part : (seen : ℕ) → SeenSoFar seen (Some part)
          → h ≡ client_host a.bits t.credit (asking a.request a.order full a.heard t.base a.count seen (Some part))
          → Came Client (GetsResponse s n (here + length payload) given (touched now t)) s now
          (comes s (Some (response_piece_of at level n here version payload)) answer (begun h now))
      from_part zero x e = elim x [ ]
      from_part (suc (suc _)) x e = elim x [ ]
      from_part (suc zero) Once e =
          let d = more_comes s a.bits t.credit now answer at level n here given version payload a.request a.order full a.heard t.base a.count fresh 1
          (Some part) part None a.bits.order f
          (to_part s a.bits t.credit now answer at level n here given version payload a.request a.order full a.heard t.base a.count fresh part f) more in
          record {
            host = client_host d.bits t.credit (asking a.request a.order full now now 0 1 (Some (with_bytes part here payload)));
            told = d.aside;
            is = ap (λ x. comes s (Some (response_piece_of at level n here version payload)) answer (begun x now)) e ∙ d.is;
            stands = record {
              bits = d.bits;
              request = a.request;
              order = a.order;
              prio = a.prio;
              heard = now;
              count = 0;
              seen = 1;
              part = Some (with_bytes part here payload);
              got =
                  front_more n here given part f payload;
              known = Once;
              last = d.last;
              refilled = d.refilled ∙ a.refilled;
              is = refl;
            };
            few = d.few;
          }
    by None g known e =
        let part : Incoming = incoming.opened server_id n a.bits.order s.unsched in
        let f : HasFront n here given part =
        subst (λ x. HasFront n x given part) (sym g.0) (subst (λ x. HasFront n 0 x part) (sym g.1) (front_opened server_id n a.bits.order s.unsched)) in
        let d = more_comes s a.bits t.credit now answer at level n here given version payload a.request a.order full a.heard t.base a.count fresh
        a.seen None part (Some n) (a.bits.order + 1) f
        (to_none s a.bits t.credit now answer at level n here given version payload a.request a.order full a.heard t.base a.count fresh a.seen known
        pages f) more in
        record {
          host = client_host d.bits t.credit (asking a.request a.order full now now 0 1 (Some (with_bytes part here payload)));
          told = d.aside;
          is = ap (λ x. comes s (Some (response_piece_of at level n here version payload)) answer (begun x now)) e ∙ d.is;
          stands = record {
            bits = d.bits;
            request = a.request;
            order = a.order;
            prio = a.prio;
            heard = now;
            count = 0;
            seen = 1;
            part = Some (with_bytes part here payload);
            got =
                front_more n here given part f payload;
            known = Once;
            last = d.last;
            refilled = d.refilled ∙ a.refilled;
            is = refl;
          };
          few = d.few;
        }

  -- a piece comes with which the message isn't whole: the receiver may grant
  pub data_step : (role : Role) → 1 ≤ s.overcommit → given ≤ n → is_stale s now (ours role at level (body.Data n here version 0 None) payload) ≡ false
      → (h : Host) → IsReceiver role s n here given t h
      → (c : Came (other role) (IsReceiver role s n (here + length payload) given (touched now t)) s now
      (comes s (Some (ours role at level (body.Data n here version 0 None) payload)) answer (begun h now)))
      × ReceiverEnded role s n (here + length payload) given (touched now t) (record { host = c.host; told = c.told })
      (arrival_step s h now (Some (ours role at level (body.Data n here version 0 None) payload)) answer)
  unfolding arrival_step
  data_step role some within fresh h a =
      let c = data_came role fresh h a in (
        c,
        subst (λ w. ReceiverEnded role s n (here + length payload) given (touched now t) (record { host = c.host; told = c.told }) (ended s w))
            {x = record { host = c.host; told = c.told }} (sym c.is)
            (receiver_ends s n (here + length payload) given (touched now t) some more within role c.told c.host c.stands),
      )

-- CUTOFFS come
module _ (s : Settings) (t : Times) (now : ℕ) (answer : Answer) (at level : ℕ) (payload : List ℕ) (cutoffs : Cutoffs) where
  pub cutoffs_to_asker : (n top may : ℕ) → is_stale s now (ours Server at level (body.Cutoffs cutoffs) payload) ≡ false → (h : Host)
      → SendsRequest s n top may t h
      → Came Server (SendsRequest s n top may (record t { last = now })) s now
      (comes s (Some (ours Server at level (body.Cutoffs cutoffs) payload)) answer (begun h now))
  cutoffs_to_asker n top may fresh h a = record {
    host = _;
    told = [];
    is = ap (λ x. comes s (Some (ours Server at level (body.Cutoffs cutoffs) payload)) answer (begun x now)) a.is
        ∙ client_hears s a.bits t.credit now answer at level payload cutoffs a.request a.order (out_at n s.unsched top may a.prio) a.heard t.base
        a.count a.seen None a.known fresh;
    stands = record {
      bits = _;
      request = a.request;
      order = a.order;
      prio = a.prio;
      heard = now;
      count = 0;
      seen = 1;
      size = a.size;
      known = Once;
      last = refl;
      refilled = a.refilled;
      is = refl;
    };
    few = tt;
  }

  pub cutoffs_to_getter : (n here given : ℕ) → is_stale s now (ours Server at level (body.Cutoffs cutoffs) payload) ≡ false → (h : Host)
      → GetsResponse s n here given t h
      → Came Client (GetsResponse s n here given (record t { last = now })) s now
      (comes s (Some (ours Server at level (body.Cutoffs cutoffs) payload)) answer (begun h now))
  cutoffs_to_getter n here given fresh h a = record {
    host = _;
    told = [];
    is = ap (λ x. comes s (Some (ours Server at level (body.Cutoffs cutoffs) payload)) answer (begun x now)) a.is
        ∙ client_hears s a.bits t.credit now answer at level payload cutoffs a.request a.order
        (out_at (length a.request) s.unsched (length a.request) (length a.request) a.prio) a.heard t.base a.count a.seen a.part a.known fresh;
    stands = record {
      bits = _;
      request = a.request;
      order = a.order;
      prio = a.prio;
      heard = now;
      count = 0;
      seen = 1;
      part = a.part;
      got = a.got;
      known = Once;
      last = refl;
      refilled = a.refilled;
      is = refl;
    };
    few = tt;
  }

  pub cutoffs_to_replier : (n top may : ℕ) → is_stale s now (ours Client at level (body.Cutoffs cutoffs) payload) ≡ false → (h : Host)
      → SendsResponse s n top may t h
      → Came Client (SendsResponse s n top may (touched now t)) s now
      (comes s (Some (ours Client at level (body.Cutoffs cutoffs) payload)) answer (begun h now))
  cutoffs_to_replier n top may fresh h a = record {
    host = _;
    told = [];
    is = ap (λ x. comes s (Some (ours Client at level (body.Cutoffs cutoffs) payload)) answer (begun x now)) a.is
        ∙ server_hears s a.bits t.credit now answer at level payload cutoffs a.row_order a.response (out_at n s.unsched top may a.prio) a.order t.base
        a.count fresh;
    stands = record {
      bits = _;
      response = a.response;
      row_order = a.row_order;
      order = a.order;
      prio = a.prio;
      count = 0;
      size = a.size;
      last = refl;
      refilled = a.refilled;
      is = refl;
    };
    few = tt;
  }
