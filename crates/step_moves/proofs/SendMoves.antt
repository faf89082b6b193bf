-- The moves that send one packet of a row's call, a GRANT or a piece of a message, and those beside the rows.
use Rattle.std.proofs.Common.{◌≡◌, ℕ, Some, [], ◌∷◌, refl, sym}
use Rattle.std.proofs.lemmas.List.{append-nil}
use Rattle.std.proofs.lemmas.Bool.{cond_both}
use Rattle.plain_sets.specs.Ranges.{Range}
use Rattle.homa_plain.specs.declared.id.CallId.{CallId}
use Rattle.homa_plain.specs.declared.id.HostId.{HostId}
use Rattle.homa_plain.specs.declared.packet.Role.TheVariants.{Client, Server}
use Rattle.homa_plain.specs.declared.packet.Body.{Body}
use Rattle.homa_plain.specs.declared.packet.Body.TheVariants as body
use Rattle.homa_plain.specs.declared.settings.Settings.{Settings}
use Rattle.homa_plain.specs.Entries.{PlainEntry}
use Rattle.homa_plain.specs.Packets.{Packet}
use Rattle.homa_plain.specs.Rows.{ClientRow, ServerRow, set_row}
use Rattle.homa_plain.specs.Host.{Says, Sends, peer_cutoffs, finished_at}
use Rattle.homa_plain.specs.Sending.{Content, client_granted, server_granted, client_sends, state_sends, request_content}
use Rattle.homa_plain.specs.Work.{Work, now_of, tells, bare, packet_from}
use Rattle.homa_plain.specs.CutoffsPackets.{is_newer, hears_cutoffs}
use Rattle.homa_plain.specs.Steps.{client_is_granted, server_is_granted}
use Rattle.homa_plain.specs.FiveAcks.{oldest}
use Rattle.homa_plain.specs.SentNext.{request_leaves, response_leaves}
use Rattle.step_moves.proofs.Inner.{IsSaid}
use Rattle.step_moves.proofs.Moves.{IsMove, from_host}

module _ (s : Settings) (id : CallId) (w : Work) where
  -- ---- GRANTs

  abbrev pub server_grant : ℕ → ℕ → Packet
  server_grant offset prio = packet_from s w.host Server id w.host.id (bare (body.Grant offset prio))

  pub server_granted-move : (offset prio : ℕ) (row : ServerRow)
      → IsMove w (server_is_granted s id (body.Grant offset prio) offset (Some row) w) (Sends (server_grant offset prio) ∷ []) w.host.clients
      (set_row w.host.servers id (Some (server_granted (now_of w) offset row)))
  server_granted-move offset prio row =
      record {
        grown = refl;
        inner = tt;
        sent = (from_host s w.host Server id w.host.id (bare (body.Grant offset prio)) refl, tt);
        id = refl;
        inc = refl;
        seq = refl;
        last = refl;
        at_clients = refl;
        at_servers = refl;
      }

  abbrev pub client_grant : ℕ → ℕ → ClientRow → Packet
  client_grant offset prio r = packet_from s w.host Client id r.server (bare (body.Grant offset prio))

  pub client_granted-move : (offset prio : ℕ) (r : ClientRow) → id.client ≡ w.host.id
      → IsMove w (client_is_granted s id (body.Grant offset prio) offset (Some r) w) (Sends (client_grant offset prio r) ∷ [])
      (set_row w.host.clients id (Some (client_granted (now_of w) offset r))) w.host.servers
  client_granted-move offset prio r mine =
      record {
        grown = refl;
        inner = tt;
        sent = (from_host s w.host Client id r.server (bare (body.Grant offset prio)) mine, tt);
        id = refl;
        inc = refl;
        seq = refl;
        last = refl;
        at_clients = refl;
        at_servers = refl;
      }

  -- ---- pieces

  abbrev pub response_piece : Content → Packet
  response_piece content = packet_from s w.host Server id w.host.id content

  pub response_leaves-move : (row : ServerRow) (content : Content) (range : Range)
      → IsMove w (response_leaves s id row content range w) (Sends (response_piece content) ∷ []) w.host.clients
      (set_row w.host.servers id (Some (record row { state = state_sends s (now_of w) row.state })))
  response_leaves-move row content range =
      record {
        grown = refl;
        inner = tt;
        sent = (from_host s w.host Server id w.host.id content refl, tt);
        id = refl;
        inc = refl;
        seq = refl;
        last = refl;
        at_clients = refl;
        at_servers = refl;
      }

  abbrev pub request_piece : ClientRow → Range → Packet
  request_piece r range =
      packet_from s w.host Client id r.server (request_content s (peer_cutoffs s w.host r.server).cutoffs (oldest (finished_at w.host r.server)) r range)

  pub request_leaves-move : (r : ClientRow) (range : Range) → id.client ≡ w.host.id
      → IsMove w (request_leaves s id r range w) (Sends (request_piece r range) ∷ []) (set_row w.host.clients id (Some (client_sends s (now_of w) r)))
      w.host.servers
  request_leaves-move r range mine = record {
    grown = refl;
    inner = tt;
    sent = (
      from_host s w.host Client id r.server
          (request_content s (peer_cutoffs s w.host r.server).cutoffs (oldest (finished_at w.host r.server)) r range) mine,
      tt,
    );
    id = refl;
    inc = refl;
    seq = refl;
    last = refl;
    at_clients = refl;
    at_servers = refl;
  }

-- ---- beside the rows

-- nothing
pub none-move : (w : Work) → IsMove w w [] w.host.clients w.host.servers
none-move w =
    record { grown = sym (append-nil w.told); inner = tt; sent = tt; id = refl; inc = refl; seq = refl; last = refl; at_clients = refl; at_servers = refl }

-- a line is said, and no more
pub says-move : (entry : PlainEntry) (w : Work) → IsSaid entry → IsMove w (tells (Says entry ∷ []) w) (Says entry ∷ []) w.host.clients w.host.servers
says-move entry w said =
    record { grown = refl; inner = (said, tt); sent = tt; id = refl; inc = refl; seq = refl; last = refl; at_clients = refl; at_servers = refl }

-- a peer tells its cutoffs
pub hears-move : (s : Settings) (peer : HostId) (inc : ℕ) (what : Body) (w : Work) → IsMove w (hears_cutoffs s peer inc what w) [] w.host.clients w.host.servers
hears-move s peer inc (body.Cutoffs cutoffs) w =
    cond_both (is_newer inc cutoffs (peer_cutoffs s w.host peer)) _ _ (λ (new : Work). IsMove w new [] w.host.clients w.host.servers)
    (λ _. record {
      grown = sym (append-nil w.told);
      inner = tt;
      sent = tt;
      id = refl;
      inc = refl;
      seq = refl;
      last = refl;
      at_clients = refl;
      at_servers = refl;
    }) (λ _. none-move w)
hears-move s peer inc what w = none-move w

pub hears-finished : (s : Settings) (peer : HostId) (inc : ℕ) (what : Body) (w : Work) → (hears_cutoffs s peer inc what w).host.finished ≡ w.host.finished
hears-finished s peer inc (body.Cutoffs cutoffs) w =
    cond_both (is_newer inc cutoffs (peer_cutoffs s w.host peer)) _ _ (λ (new : Work). new.host.finished ≡ w.host.finished) (λ _. refl) (λ _. refl)
hears-finished s peer inc what w = refl
