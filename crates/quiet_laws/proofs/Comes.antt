-- What a packet of the quiet call does to its receiver, before the step's grants and pump.
use Rattle.std.proofs.Common.{◌≡◌, ℕ, zero, suc, Bool, true, false, Option, Some, None, List, [], ◌∷◌, refl, ap, ◌∙◌, cond}
use Rattle.std.specs.Prelude.{slice_set}
use Rattle.plain_sets.specs.Maps as maps
use Rattle.plain_sets.specs.Maps.{empty, insert, get, entries}
use Rattle.homa_plain.specs.declared.packet.Role.TheVariants.{Client, Server}
use Rattle.homa_plain.specs.declared.packet.Body.TheVariants as body
use Rattle.homa_plain.specs.declared.packet.Cutoffs.{Cutoffs}
use Rattle.homa_plain.specs.declared.id.HostId.{HostId}
use Rattle.homa_plain.specs.declared.settings.Settings.{Settings}
use Rattle.homa_plain.specs.Incoming.{Incoming}
use Rattle.homa_plain.specs.Packets.{Packet}
use Rattle.homa_plain.specs.Outgoing.{Outgoing, grant}
use Rattle.homa_plain.specs.Rows.{ClientRow, ServerRow, Replying}
use Rattle.homa_plain.specs.Host.{Host, Says, PeerCutoffs, peer_cutoffs}
use Rattle.homa_plain.specs.Rules.{Answer}
use Rattle.homa_plain.specs.AtClient.{client_gets}
use Rattle.homa_plain.specs.AtServer.{server_gets}
use Rattle.homa_plain.specs.Entries.{PlainStale}
use Rattle.homa_plain.specs.Work.{Work, now_of, tells, begun}
use Rattle.homa_plain.specs.Steps.{comes, takes, asked, served, moment}
use Rattle.homa_plain.specs.OldPackets.{is_stale}
use Rattle.homa_plain.specs.CutoffsPackets.{is_newer, hears_cutoffs}
use Rattle.quiet_laws.specs.Hosts.{the_call, server_id, client_id, Bits, server_host, client_host, asking, ours, at_tick}

-- a packet that isn't too old is taken
pub fresh_taken : (s : Settings) (p : Packet) (answer : Answer) (w : Work) → is_stale s (now_of w) p ≡ false → comes s (Some p) answer w ≡ takes s p answer w
fresh_taken s p answer w fresh = ap (λ t. cond t (tells (Says (PlainStale w.host.id p.at (now_of w)) ∷ []) w) (takes s p answer w)) fresh

-- the server was heard of: its incarnation is 1, and of an earlier one no byte has come
pub data SeenSoFar : ℕ → Option Incoming → Type 0 where
  Never : SeenSoFar 0 None
  Once : {part : Option Incoming} → SeenSoFar 1 part

module _ (s : Settings) (b : Bits) (credit now : ℕ) (answer : Answer) (at level : ℕ) (payload : List ℕ) (request : List ℕ) (order : ℕ)
    (out : Outgoing) (heard base count : ℕ) where
  abbrev pub asks : (seen : ℕ) → Option Incoming → ClientRow
  asks seen part = asking request order out heard base count seen part

  -- a GRANT to the request
  pub client_granted : (seen : ℕ) (part : Option Incoming) → SeenSoFar seen part → (offset prio : ℕ)
      → is_stale s now (ours Server at level (body.Grant offset prio) payload) ≡ false
      → comes s (Some (ours Server at level (body.Grant offset prio) payload)) answer (begun (client_host b credit (asks seen part)) now)
      ≡ record { host = client_host (at_tick now b) credit (asking request order (grant out offset prio) now now 0 1 part); told = [] }
  unfolding takes asked client_gets get insert empty maps.checked
  client_granted seen part known offset prio fresh =
      let p : Packet = ours Server at level (body.Grant offset prio) payload in
      let w : Work = begun (client_host b credit (asks seen part)) now in
      fresh_taken s p answer w fresh ∙ by seen part known where
        by : (seen : ℕ) (part : Option Incoming) → SeenSoFar seen part
            → takes s (ours Server at level (body.Grant offset prio) payload) answer (begun (client_host b credit (asks seen part)) now)
            ≡ record { host = client_host (at_tick now b) credit (asking request order (grant out offset prio) now now 0 1 part); told = [] }
        by zero None Never = refl
        by zero (Some _) x = elim x [ ]
        by (suc (suc _)) part x = elim x [ ]
        by (suc zero) part Once = refl

module _ (s : Settings) (b : Bits) (credit now : ℕ) (answer : Answer) (at level : ℕ) (payload : List ℕ) (row_order : ℕ) (response : List ℕ)
    (out : Outgoing) (order base count : ℕ) where
  abbrev pub replied : Outgoing → ℕ → ℕ → ServerRow
  replied out base count = record { order = row_order; state = Replying response out order base count }

  -- a GRANT to the response
  pub server_granted : (offset prio : ℕ) → is_stale s now (ours Client at level (body.Grant offset prio) payload) ≡ false
      → comes s (Some (ours Client at level (body.Grant offset prio) payload)) answer (begun (server_host b credit (Some (replied out base count))) now)
      ≡ record { host = server_host (at_tick now b) credit (Some (replied (grant out offset prio) now 0)); told = [] }
  unfolding takes served server_gets get insert empty maps.checked
  server_granted offset prio fresh =
      let p : Packet = ours Client at level (body.Grant offset prio) payload in
      let w : Work = begun (server_host b credit (Some (replied out base count))) now in
      fresh_taken s p answer w fresh

-- CUTOFFS: those of the peer may be taken up
module _ (s : Settings) (peer : HostId) (cutoffs : Cutoffs) where
  abbrev pub newer_peers : Host → List PeerCutoffs
  newer_peers h = cond (is_newer 1 cutoffs (peer_cutoffs s h peer)) (slice_set h.peers peer.0 (record { inc = 1; cutoffs = cutoffs })) h.peers

  pub heard_cutoffs : (w : Work) → hears_cutoffs s peer 1 (body.Cutoffs cutoffs) w ≡ record w { host = record w.host { peers = newer_peers w.host } }
  heard_cutoffs w = by (is_newer 1 cutoffs (peer_cutoffs s w.host peer)) where
    by : (t : Bool) → cond t (record w { host = record w.host { peers = slice_set w.host.peers peer.0 (record { inc = 1; cutoffs = cutoffs }) } }) w
        ≡ record w { host = record w.host { peers = cond t (slice_set w.host.peers peer.0 (record { inc = 1; cutoffs = cutoffs })) w.host.peers } }
    by true = refl
    by false = refl

module _ (s : Settings) (b : Bits) (credit now : ℕ) (answer : Answer) (at level : ℕ) (payload : List ℕ) (cutoffs : Cutoffs) where
  abbrev cutoffs_to_client : Packet
  cutoffs_to_client = ours Server at level (body.Cutoffs cutoffs) payload

  -- CUTOFFS at the client leave the timer
  pub client_hears : (request : List ℕ) (order : ℕ) (out : Outgoing) (heard base count seen : ℕ) (part : Option Incoming) → SeenSoFar seen part
      → is_stale s now cutoffs_to_client ≡ false
      → let h : Host = client_host (at_tick now b) credit (asking request order out heard base count seen part) in
      comes s (Some cutoffs_to_client) answer (begun (client_host b credit (asking request order out heard base count seen part)) now)
      ≡ record {
        host = client_host (record b { last = now; peers = newer_peers s server_id cutoffs h }) credit
            (asking request order out now base 0 1 part);
        told = [];
      }
  unfolding takes asked client_gets get insert empty maps.checked
  client_hears request order out heard base count seen part known fresh =
      let w : Work = begun (client_host b credit (asking request order out heard base count seen part)) now in
      fresh_taken s cutoffs_to_client answer w fresh
      ∙ ap (λ v. asked s the_call server_id (client_gets s (moment s the_call v) cutoffs_to_client (get v.host.clients the_call)) v)
      (heard_cutoffs s server_id cutoffs w)
      ∙ by seen part known where
        by : (seen : ℕ) (part : Option Incoming) → SeenSoFar seen part
            → let v : Work =
            record {
              host = client_host
                  (record b {
                    last = now;
                    peers = newer_peers s server_id cutoffs (client_host (at_tick now b) credit (asking request order out heard base count seen part));
                  }) credit (asking request order out heard base count seen part);
              told =
                  [];
            } in
            asked s the_call server_id (client_gets s (moment s the_call v) cutoffs_to_client (get v.host.clients the_call)) v
            ≡ record {
              host = client_host
                  (record b {
                    last = now;
                    peers = newer_peers s server_id cutoffs (client_host (at_tick now b) credit (asking request order out heard base count seen part));
                  }) credit (asking request order out now base 0 1 part);
              told =
                  [];
            }
        by zero None Never = refl
        by zero (Some _) x = elim x [ ]
        by (suc (suc _)) part x = elim x [ ]
        by (suc zero) part Once = refl

  abbrev cutoffs_to_server : Packet
  cutoffs_to_server = ours Client at level (body.Cutoffs cutoffs) payload

  -- CUTOFFS at the server begin the timer of a response anew
  pub server_hears : (row_order : ℕ) (response : List ℕ) (out : Outgoing) (order base count : ℕ) → is_stale s now cutoffs_to_server ≡ false
      → let row : ServerRow = record { order = row_order; state = Replying response out order base count } in
      comes s (Some cutoffs_to_server) answer (begun (server_host b credit (Some row)) now)
      ≡ record {
        host = server_host (record b { last = now; peers = newer_peers s client_id cutoffs (server_host (at_tick now b) credit (Some row)) })
            credit (Some (record { order = row_order; state = Replying response out order now 0 }));
        told = [];
      }
  unfolding takes served server_gets get insert empty maps.checked
  server_hears row_order response out order base count fresh =
      let w : Work = begun (server_host b credit (Some (record { order = row_order; state = Replying response out order base count }))) now in
      fresh_taken s cutoffs_to_server answer w fresh
      ∙ ap (λ v. served s the_call (server_gets s (moment s the_call v) cutoffs_to_server answer (get v.host.servers the_call)) v)
      (heard_cutoffs s client_id cutoffs w)
