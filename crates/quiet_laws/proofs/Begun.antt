-- The first round: the call is made, and its first pieces are sent.
use Rattle.std.proofs.Common.{◌≡◌, ℕ, ◌≤◌, Some, None, List, [], length, refl, ap, ◌∙◌, arith, cond}
use Rattle.std.specs.Prelude.{nat_lt, nat_le, min, replicate}
use Rattle.std.proofs.lemmas.Bool.{le-ltb, lt-leb, ne_eqb}
use Rattle.plain_sets.specs.Maps as maps
use Rattle.plain_sets.specs.Maps.{empty, insert, get, entries}
use Rattle.homa_plain.specs.declared.settings.Settings.{Settings}
use Rattle.homa_plain.specs.declared.fault.StartFault.TheVariants.{Empty, TooLong, CallsFull}
use Rattle.homa_plain.specs.declared.packet.Role.TheVariants.{Client}
use Rattle.homa_plain.specs.Outgoing as outgoing
use Rattle.homa_plain.specs.Host.{Host, new_host}
use Rattle.homa_plain.specs.Steps.{start_fault, call_step, starts}
use Rattle.homa_plain.specs.Work.{begun}
use Rattle.quiet_laws.specs.Hosts.{asking, client_id, server_id, Bits, client_host, server_host}
use Rattle.quiet_laws.proofs.Comes.{Never}
use Rattle.quiet_laws.proofs.Stands.{Times, SendsRequest, GetsRequest, SenderEnded}
use Rattle.quiet_laws.proofs.Ended.{sender_ends}

module _ (s : Settings) (two : s.hosts ≡ 2) (n : ℕ) (request : List ℕ) (size : length request ≡ n) (some : 1 ≤ n) (few : n ≤ 1000000)
    (calls : 1 ≤ s.calls) (now : ℕ) where
  abbrev h0 : Host
  h0 = new_host s client_id 1 0

  pub no_fault : start_fault s h0 server_id request ≡ None
  unfolding start_fault empty maps.checked maps.len
  no_fault =
      ap (λ t. cond t (Some Empty) (cond (nat_lt 1000000 (length request)) (Some TooLong) (cond (nat_le s.calls 0) (Some CallsFull) None)))
      (ne_eqb (length request) 0 (λ e. absurd (omega (arith, e, size, some))))
      ∙ ap (λ t. cond t (Some TooLong) (cond (nat_le s.calls 0) (Some CallsFull) None)) (le-ltb 1000000 (length request) (omega (arith, size, few)))
      ∙ ap (λ t. cond t (Some CallsFull) None) (lt-leb s.calls 0 calls)

  abbrev pub times : Times
  times = record { last = now; refilled = 0; credit = s.rate; base = now }

  abbrev first_bits : Bits
  first_bits = record { order = 1; refilled = 0; last = now; tuning = h0.tuning; peers = h0.peers }

  abbrev nobody : List (ℕ × ℕ)
  nobody = []

  pub request_stands : SendsRequest s n 0 (min n s.unsched) times (starts s server_id 0 request (begun h0 now)).host
  unfolding insert empty maps.checked
  request_stands = record {
    bits = first_bits;
    request = request;
    order = 0;
    prio = 0;
    heard = now;
    count = 0;
    seen = 0;
    size = size;
    known = Never;
    last = refl;
    refilled = refl;
    is = ap (λ f. record (client_host first_bits s.rate (asking request 0 (outgoing.opened (length request) s.unsched) now now 0 0 None))
        { finished = f }) (ap (λ k. replicate k nobody) two)
        ∙ ap (λ l. client_host first_bits s.rate (asking request 0 (outgoing.opened l s.unsched) now now 0 0 None)) size;
  }

  -- the call's step: the first pieces are sent
  pub call_goes : 1 ≤ s.seg → SenderEnded Client s n 0 (min n s.unsched) times (starts s server_id 0 request (begun h0 now))
      (call_step s h0 now server_id 0 request)
  unfolding call_step
  call_goes seg = sender_ends s n 0 (min n s.unsched) times seg (omega arith) (omega arith) Client (starts s server_id 0 request (begun h0 now)).told
      (starts s server_id 0 request (begun h0 now)).host request_stands

  abbrev h1 : Host
  h1 = new_host s server_id 1 0

  pub server_stands : GetsRequest s n 0 (min n s.unsched) (record { last = 0; refilled = 0; credit = s.rate; base = now }) h1
  unfolding empty maps.checked
  server_stands = record {
    bits = record { order = 0; refilled = 0; last = 0; tuning = h1.tuning; peers = h1.peers };
    row_order = 0;
    count = 0;
    part = None;
    got = (refl, refl);
    last = refl;
    refilled = refl;
    is = ap (λ f. record (server_host (record { order = 0; refilled = 0; last = 0; tuning = h1.tuning; peers = h1.peers }) s.rate None)
        { finished = f }) (ap (λ k. replicate k nobody) two);
  }
