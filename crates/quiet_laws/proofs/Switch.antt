-- The request is whole: the server sends its response from then on. And the response is whole: the call is done.
use Rattle.std.proofs.Common.{◌≡◌, ℕ, suc, ◌+◌, ◌≤◌, ◌⊎◌, inl, inr, true, false, Option, Some, None, List, [], ◌∷◌, ◌++◌, length, refl, sym, ap}
use Rattle.std.proofs.Common.{subst, ◌∙◌, arith}
use Rattle.std.specs.Prelude.{min}
use Rattle.homa_plain.specs.declared.packet.Role.{Role}
use Rattle.homa_plain.specs.declared.packet.Role.TheVariants.{Client, Server}
use Rattle.homa_plain.specs.declared.packet.Body.{Body}
use Rattle.homa_plain.specs.declared.packet.Body.TheVariants as body
use Rattle.homa_plain.specs.declared.settings.Settings.{Settings}
use Rattle.homa_plain.specs.Entries.{PlainEntry, PlainRun, PlainDone}
use Rattle.homa_plain.specs.Quiet.{has_done}
use Rattle.homa_plain.specs.Incoming.{Incoming, with_bytes, message}
use Rattle.homa_plain.specs.Incoming as incoming
use Rattle.homa_plain.specs.Packets.{Packet}
use Rattle.homa_plain.specs.Rules.{Answer}
use Rattle.homa_plain.specs.Host.{Host, Told, Says, Sends, packets_in, entries_from, pages_for}
use Rattle.homa_plain.specs.Work.{Work, begun}
use Rattle.homa_plain.specs.OldPackets.{is_stale}
use Rattle.homa_plain.specs.Steps.{comes}
use Rattle.quiet_laws.specs.Flows.{other, ahead, flows}
use Rattle.quiet_laws.specs.Hosts.{the_call, client_id, server_id, server_host, HasFront, AreAside, IsCutoffs}
use Rattle.quiet_laws.proofs.Fronts.{front_opened}
use Rattle.quiet_laws.proofs.Flowing.{flows_grow}
use Rattle.quiet_laws.proofs.ServerData.{request_piece, next_last, first_last}
use Rattle.quiet_laws.proofs.Stands.{receiving_row, Times, SendsResponse, GetsRequest, Got}
use Rattle.quiet_laws.proofs.Arrivals.{touched}

-- what is told beside a piece is nothing but CUTOFFS
pub aside_flows : (role : Role) (s : Settings) (now n x y : ℕ) (told : List Told) → AreAside (other role) s now told → flows n role x y (packets_in told) x y
aside_flows role s now n x y [] a = (refl, refl)
aside_flows role s now n x y (Says e ∷ told) a = aside_flows role s now n x y told a.1
aside_flows role s now n x y (Sends p ∷ told) a = by p.body a.2 (inl a.1) (aside_flows role s now n x y told a.3) where
  by : (b : Body) → IsCutoffs b → (p.role ≡ other role) ⊎ (role ≡ Server) → flows n role x y (packets_in told) x y
      → ahead n role x y p b (λ u v. flows n role u v (packets_in told) x y)
  by (body.Cutoffs cutoffs) i r f = (r, f)
  by (body.Data size offset version service ack) i r f = absurd i
  by (body.Grant offset prio) i r f = absurd i
  by (body.Resend from to prio) i r f = absurd i
  by body.Busy i r f = absurd i
  by (body.Unknown reason) i r f = absurd i
  by body.NeedAck i r f = absurd i
  by (body.Ack more) i r f = absurd i

-- where all of the request was sent, and all of it has arrived, nothing but CUTOFFS is left of it under way; these may stand before the response
pub left_behind : (n may given m x y : ℕ) (ps : List Packet) → n ≤ may → flows n Client n may ps n given → flows m Server x y ps x y
left_behind n may given m x y [] all f = (refl, refl)
left_behind n may given m x y (p ∷ ps) all f = by p.body (left_behind n may given m x y ps all) f where
  by : (b : Body) → (flows n Client n may ps n given → flows m Server x y ps x y) → ahead n Client n may p b (λ u v. flows n Client u v ps n given)
      → ahead m Server x y p b (λ u v. flows m Server u v ps x y)
  by (body.Cutoffs cutoffs) go a = (inr refl, go a.1)
  by (body.Data size offset version service ack) go a = absurd (omega (arith, a.5, (flows_grow n Client ps _ _ n given a.6).0))
  by (body.Grant offset prio) go a = absurd (omega (arith, a.1, a.2, all))
  by (body.Resend from to prio) go a = absurd a
  by body.Busy go a = absurd a
  by (body.Unknown reason) go a = absurd a
  by body.NeedAck go a = absurd a
  by (body.Ack more) go a = absurd a

-- the piece that makes the request whole
pub record Ran (s : Settings) (m now : ℕ) (t : Times) (w : Work) : Type 0 where
  pub host : Host
  pub aside : List Told
  pub request : List ℕ
  pub response : List ℕ
  pub is : w ≡ record { host = host; told = aside ++ Says (PlainRun server_id the_call 0 request response 0) ∷ [] }
  pub stands : SendsResponse s m 0 (min m s.unsched) (touched now t) host
  pub few : AreAside Server s now aside

module _ (s : Settings) (n here given : ℕ) (t : Times) (now : ℕ) (response : List ℕ) (at level version : ℕ) (payload : List ℕ)
    (whole : here + length payload ≡ n) (pages : pages_for n ≤ s.pages) (rows : 1 ≤ s.served) where
  pub request_runs : is_stale s now (request_piece at level n here version payload) ≡ false → (h : Host) → GetsRequest s n here given t h
      → Ran s (length response) now t (comes s (Some (request_piece at level n here version payload)) (record { bytes = response; hold = 0 }) (begun h now))
  request_runs fresh h a = by a.part a.got a.is where
    answer : Answer
    answer = record { bytes = response; hold = 0 }

    by : (part : Option Incoming) → Got s n here given part → h ≡ server_host a.bits t.credit (receiving_row a.row_order t.base a.count part)
        → Ran s (length response) now t (comes s (Some (request_piece at level n here version payload)) answer (begun h now))
    by (Some part) f e =
        let d = next_last s a.bits t.credit now answer at level n here given version payload fresh a.row_order t.base a.count part f whole refl in
        record {
          host = _;
          aside = d.aside;
          request = _;
          response = _;
          is = ap (λ x. comes s (Some (request_piece at level n here version payload)) answer (begun x now)) e ∙ d.is;
          stands = record {
            bits = d.bits;
            response = response;
            row_order = a.row_order;
            order = a.bits.order;
            prio = 0;
            count = 0;
            size = refl;
            last = d.last;
            refilled = d.refilled ∙ a.refilled;
            is = refl;
          };
          few = d.few;
        }
    by None g e =
        let part : Incoming = incoming.opened client_id n a.bits.order s.unsched in
        let f : HasFront n here given part =
        subst (λ x. HasFront n x given part) (sym g.0) (subst (λ x. HasFront n 0 x part) (sym g.1) (front_opened client_id n a.bits.order s.unsched)) in
        let d = first_last s a.bits t.credit now answer at level n here given version payload fresh g.0 rows pages f whole refl in
        record {
          host = _;
          aside = d.aside;
          request = _;
          response = _;
          is = ap (λ x. comes s (Some (request_piece at level n here version payload)) answer (begun x now)) e ∙ d.is;
          stands = record {
            bits = d.bits;
            response = response;
            row_order = a.bits.order;
            order = a.bits.order + 1;
            prio = 0;
            count = 0;
            size = refl;
            last = d.last;
            refilled = d.refilled ∙ a.refilled;
            is = refl;
          };
          few = d.few;
        }

-- what is told of a done call tells that it is done
pub done_is_told : (k : ℕ) (before after : List Told) (bytes : List ℕ) → has_done (entries_from k (before ++ Says (PlainDone the_call bytes) ∷ after)) ≡ true
done_is_told k [] after bytes = refl
done_is_told k (Sends p ∷ before) after bytes = done_is_told (suc k) before after bytes
done_is_told k (Says e ∷ before) after bytes = by e (done_is_told k before after bytes) where
  by : (e : PlainEntry) → has_done (entries_from k (before ++ Says (PlainDone the_call bytes) ∷ after)) ≡ true
      → has_done (e ∷ entries_from k (before ++ Says (PlainDone the_call bytes) ∷ after)) ≡ true
  by (PlainDone id b) r = refl
  by e r = r
