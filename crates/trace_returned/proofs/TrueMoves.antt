-- A move keeps what the lines say of messages: where it does so for its own call, it does so for all.
use Rattle.std.proofs.Common.{◌≡◌, ℕ, ◌+◌, ◌<◌, Bool, true, false, ◌&&◌, ◌||◌, Option, Some, None, List, [], ◌∷◌, ◌++◌, length, refl, sym, ap, subst}
use Rattle.std.proofs.Common.{◌∙◌, append_assoc}
use Rattle.std.specs.Option.{option_map}
use Rattle.std.specs.List.{AllByRecursion}
use Rattle.homa_plain.specs.declared.id.CallId.{CallId}
use Rattle.homa_plain.specs.declared.id.HostId.{HostId}
use Rattle.homa_plain.specs.declared.packet.Role.TheVariants.{Client, Server}
use Rattle.homa_plain.specs.declared.settings.Settings.{Settings}
use Rattle.homa_plain.specs.Calls.{is_host, is_call}
use Rattle.homa_plain.specs.Entries.{PlainEntry}
use Rattle.homa_plain.specs.Incoming.{Incoming}
use Rattle.trace_rules.specs.Parts.{Part}
use Rattle.homa_plain.specs.Packets.{Packet}
use Rattle.homa_plain.specs.Rows.{ClientRow, ServerRow, RowsOf, set_row}
use Rattle.homa_plain.specs.Host.{Told, packets_in, entries_from}
use Rattle.homa_plain.specs.Rules.{Did}
use Rattle.homa_plain.specs.Work.{Work, said}
use Rattle.homa_plain.specs.Steps.{served, asked}
use Rattle.trace_rules.specs.View.{View}
use Rattle.trace_rules.specs.Seen.{seen, seen_all}
use Rattle.trace_rules.specs.Laws.{Holds, Once}
use Rattle.homa_plain.specs.World.{World, stamped}
use Rattle.homa_plain.proofs.CallOrder.{calls_are, hosts_are}
use Rattle.step_laws.proofs.Places.{all-append}
use Rattle.trace_steps.proofs.Lines.{seen-told}
use Rattle.step_moves.proofs.Inner.{entries_from-append}
use Rattle.step_laws.proofs.Own.{AllOwn, IsQuiet, runs_said}
use Rattle.step_moves.proofs.Moves.{IsMove, notes_told, reply_told, served_put, served_noted, served_told, served_packets, served-move, finishes_told}
use Rattle.step_moves.proofs.AskedMove.{asked_put, asked_noted, asked_said, asked_told, asked_packets, asked-move}
use Rattle.trace_steps.proofs.OwnRuns.{served-runs, asked-runs}
use Rattle.trace_steps.proofs.Progress.{IsLevel}
use Rattle.trace_steps.specs.Stands.{Stand, state_of, with_client, with_server, put, said_so_far, amid}
use Rattle.trace_steps.specs.Contents.{replies, Replies}
use Rattle.step_moves.proofs.Hosts.{some_is}
use Rattle.trace_steps.proofs.Frame.{move_said, move_packets}
use Rattle.trace_once.specs.Lifetime.{times, IsMadeTo}
use Rattle.trace_once.proofs.ServerRules.{ServerKeeps}
use Rattle.trace_once.proofs.ClientRules.{ClientKeeps}
use Rattle.trace_once.proofs.Acks.{GoesWhenDone}
use Rattle.trace_once.proofs.Amid.{IsAmid}
use Rattle.trace_once.proofs.ServedCame.{served_stand}
use Rattle.trace_once.proofs.AskedCame.{asked_stand}
use Rattle.trace_returned.specs.Tales.{Tale, tale, IsTruthful, IsSameRequest, IsSamePiece, IsSameResponse, IsSame, IsClosed, IsTrue}
use Rattle.trace_returned.proofs.ReplyLines.{lines_reply, lines_truthful}
use Rattle.trace_returned.proofs.StillRules.{IsCalmBody, StillServed, StillAsked, Awaited, awaited, awaiting}
use Rattle.trace_returned.proofs.Calm.{closed_same, told_replies, IsCalmTold, calm_append, calm_notes, calm_reply, calm_finishes, calm_said}
use Rattle.trace_returned.proofs.Calm.{calm_quiet, SameSaid, calm_view, calm_truthful}

-- ---- a call of which nothing changes

-- a law that holds at lines holds at the later ones
holds_back : (law : View → PlainEntry → Type 0) (v : View) (a b : List PlainEntry) → Holds law v (a ++ b) → Holds law (seen_all v a) b
holds_back law v [] b h = h
holds_back law v (line ∷ a) b h = holds_back law (seen v line) a b h.1

piece_later : (s : Settings) (u : View) (lines : List PlainEntry) (q : CallId) (server : HostId) (inc : ℕ) (p : Option Incoming) (o : Option Part)
    → Holds Once u lines → IsSamePiece s u q server inc p o → IsSamePiece s (seen_all u lines) q server inc p o
piece_later s u lines q server inc None o once k = k
piece_later s u lines q server inc (Some p) None once k = k
piece_later s u lines q server inc (Some p) (Some o) once k = (k.0, lines_reply u lines q server inc k.0 once k.1, k.2, k.3)

pub response_later : (s : Settings) (u : View) (lines : List PlainEntry) (q : CallId) (r : Option ClientRow) (o : Option Part) → Holds Once u lines
    → IsSameResponse s u q r o → IsSameResponse s (seen_all u lines) q r o
response_later s u lines q None o once k = k
response_later s u lines q (Some r) o once k = piece_later s u lines q r.server r.seen r.part o once k

-- the same call, by the same lines of it
pub same_stays : (s : Settings) (u : View) (lines : List PlainEntry) (q : CallId) (n : HostId) (x y : Stand) (t : Tale) → Holds Once u lines → y ≡ x
    → t ≡ tale u.now q → replies (seen_all u lines) n q ≡ replies u n q
    → IsSame s u q n x (tale u.now q) → IsSame s (seen_all u lines) q n y t
same_stays s u lines q n x y t once stand told gave k =
    subst (λ z. IsSame s (seen_all u lines) q n z t) (sym stand) (subst (IsSame s (seen_all u lines) q n x) (sym told) (record {
      live = k.live;
      request = k.request;
      unmade = k.unmade;
      response = response_later s u lines q x.client (tale u.now q).response once k.response;
      replies = subst (λ xs. Replies xs x.server) (sym gave) k.replies;
    }))

-- ---- a move

module _ (s : Settings) (w : World) (v : View) (host : HostId) (work new : Work) (told : List Told) (clients : RowsOf ClientRow)
    (servers : RowsOf ServerRow) (move : IsMove work new told clients servers) where
  -- the lines of the move, behind those before it
  abbrev pub lines_of : List PlainEntry
  lines_of = entries_from (length w.packets + length (packets_in work.told)) told

  pub once_of : (now : ℕ) → IsAmid s w v host now new → Holds Once (said_so_far w v work) lines_of
  once_of now k =
      holds_back Once v (entries_from (length w.packets) work.told) lines_of
      (subst (Holds Once v) (ap (entries_from (length w.packets)) move.grown ∙ entries_from-append (length w.packets) work.told told) k.once)

  -- all is true behind it, where it is so of each call, and of the packets that it sends
  pub true_move : (now : ℕ) → IsAmid s w v host now new → AllByRecursion (IsTruthful (said_so_far w v work)) (put w host work).packets
      → ((q : CallId) (n : HostId) → IsSame s (seen_all (said_so_far w v work) lines_of) q n (amid w v host new q n)
      (tale (seen_all (said_so_far w v work) lines_of).now q))
      → AllByRecursion (IsTruthful (seen_all (said_so_far w v work) lines_of)) (stamped w.clock (packets_in told))
      → IsLevel (seen_all (said_so_far w v work) lines_of) → IsClosed (seen_all (said_so_far w v work) lines_of)
      → IsTrue s (put w host new) (said_so_far w v new)
  true_move now k before same fits level closed =
      let u : View = said_so_far w v work in
      let after : View = seen_all u lines_of in
      let is : said_so_far w v new ≡ after = move_said w v host work new told clients servers move in
      record {
        same = λ q n. subst (λ (y : View). IsSame s y q n (amid w v host new q n) (tale y.now q)) (sym is) (same q n);
        packets = subst (λ (y : View). AllByRecursion (IsTruthful y) (put w host new).packets) (sym is)
            (subst (AllByRecursion (IsTruthful after)) (sym (move_packets w v host work new told clients servers move))
            (all-append (IsTruthful after) (put w host work).packets (stamped w.clock (packets_in told))
            (lines_truthful u lines_of (once_of now k) (put w host work).packets before) fits));
        level = subst IsLevel (sym is) level;
        closed = subst IsClosed (sym is) closed;
      }

-- ---- a rule at a server is carried out

module _ (s : Settings) (w : World) (v : View) (host : HostId) (now : ℕ) (stands : host.0 < length w.hosts) (work : Work) (id : CallId) (did : Did ServerRow)
    (k : IsAmid s w v host now work) (own : AllOwn work.host.id id did.says) (d : ServerKeeps (times s) host (amid w v host work id host) did)
    (after : IsAmid s w v host now (served s id did work)) where
  abbrev told : List Told
  told = served_told s id did work

  abbrev pub served_lines : List PlainEntry
  served_lines = entries_from (length w.packets + length (packets_in work.told)) (served_told s id did work)

  move : IsMove work (served s id did work) (served_told s id did work) work.host.clients (set_row work.host.servers id did.row)
  move = served-move s id did work own

  pub served_once : Holds Once (said_so_far w v work) served_lines
  served_once =
      once_of s w v host work (served s id did work) (served_told s id did work) work.host.clients (set_row work.host.servers id did.row) move now after

  pub served_gave : (q : CallId) (n : HostId) → (runs_said did.says && (is_call id q && is_host host n)) ≡ false
      → replies (seen_all (said_so_far w v work) served_lines) n q ≡ replies (said_so_far w v work) n q
  served_gave q n quiet =
      told_replies (said_so_far w v work) (length w.packets + length (packets_in work.told)) (served_told s id did work) n q move.inner
      (served-runs s n q id did work own ∙ ap (λ (x : HostId). runs_said did.says && (is_call id q && is_host x n)) k.name ∙ quiet)

  and_none : (b : Bool) → (b && false) ≡ false
  and_none true = refl
  and_none false = refl

  -- another call, or the call at another host, stands as it did
  pub served_other : (q : CallId) (n : HostId) → (is_call id q && is_host host n) ≡ false → amid w v host (served s id did work) q n ≡ amid w v host work q n
  served_other q n e =
      served_stand s w v host now stands work id did k own d q n false e
      ∙ ap (λ b. with_server (amid w v host work q n) (amid w v host work q n).server (b || (amid w v host work q n).ran)) (and_none (runs_said did.says))

  pub served_here : amid w v host (served s id did work) id host ≡ with_server (amid w v host work id host) (state_of did.row)
      ((runs_said did.says && true) || (amid w v host work id host).ran)
  served_here = served_stand s w v host now stands work id did k own d id host true
      (ap (λ b. b && is_host host host) ((calls_are id id).1 refl) ∙ (hosts_are host host).1 refl)

  -- all is true, where it is of the call itself
  pub served_true : AllByRecursion (IsTruthful (said_so_far w v work)) (put w host work).packets
      → ((q : CallId) (n : HostId) → is_call id q ≡ false → IsSame s (said_so_far w v work) q n (amid w v host work q n) (tale (said_so_far w v work).now q))
      → ((q : CallId) → is_call id q ≡ false → tale (seen_all (said_so_far w v work) served_lines).now q ≡ tale (said_so_far w v work).now q)
      → ((n : HostId) → IsSame s (seen_all (said_so_far w v work) served_lines) id n (amid w v host (served s id did work) id n)
      (tale (seen_all (said_so_far w v work) served_lines).now id))
      → AllByRecursion (IsTruthful (seen_all (said_so_far w v work) served_lines)) (stamped w.clock (packets_in (served_told s id did work)))
      → IsLevel (seen_all (said_so_far w v work) served_lines) → IsClosed (seen_all (said_so_far w v work) served_lines)
      → IsTrue s (put w host (served s id did work)) (said_so_far w v (served s id did work))
  served_true packets others tales itself fits level closed =
      true_move s w v host work (served s id did work) (served_told s id did work) work.host.clients (set_row work.host.servers id did.row) move now
      after packets (λ q n. by_call q n (is_call id q) refl) fits level closed where
        u : View
        u = said_so_far w v work

        by_call : (q : CallId) (n : HostId) (b : Bool) → is_call id q ≡ b
            → IsSame s (seen_all (said_so_far w v work) served_lines) q n (amid w v host (served s id did work) q n)
            (tale (seen_all (said_so_far w v work) served_lines).now q)
        by_call q n true e =
            subst (λ (x : CallId). IsSame s (seen_all (said_so_far w v work) served_lines) x n (amid w v host (served s id did work) x n)
            (tale (seen_all (said_so_far w v work) served_lines).now x)) ((calls_are id q).0 e) (itself n)
        by_call q n false e =
            let off : (is_call id q && is_host host n) ≡ false = ap (λ b. b && is_host host n) e in
            same_stays s (said_so_far w v work) served_lines q n (amid w v host work q n) (amid w v host (served s id did work) q n) _ served_once
            (served_other q n off) (tales q e)
            (served_gave q n (ap (λ b. runs_said did.says && b) off ∙ and_none (runs_said did.says))) (others q n e)

  -- what the lines say before those of the rule itself
  abbrev pub served_front : List Told
  served_front = notes_told s did.opened (served_put s id did work) ++ reply_told s Server id work.host.id did.version (served_noted s id did work)

  abbrev pub before_served : View
  before_served = seen_all (said_so_far w v work) (entries_from (length w.packets + length (packets_in work.told)) served_front)

  pub served_before : IsLevel (said_so_far w v work) → SameSaid (said_so_far w v work) before_served
  served_before level =
      calm_view (said_so_far w v work) (length w.packets + length (packets_in work.told)) served_front
      (calm_append (notes_told s did.opened (served_put s id did work)) (reply_told s Server id work.host.id did.version (served_noted s id did work))
      (calm_notes s did.opened (served_put s id did work)) (calm_reply s Server id work.host.id did.version (served_noted s id did work))) level

  pub served_split : seen_all (said_so_far w v work) served_lines ≡ seen_all before_served
      (entries_from (length w.packets + length (packets_in work.told) + length (packets_in served_front)) (said s work.host Server id work.host.id did.says))
  served_split =
      ap (λ (t : List Told). seen_all (said_so_far w v work) (entries_from (length w.packets + length (packets_in work.told)) t))
      (sym (append_assoc (notes_told s did.opened (served_put s id did work))
      (reply_told s Server id work.host.id did.version (served_noted s id did work)) (said s work.host Server id work.host.id did.says)))
      ∙ seen-told (said_so_far w v work) (length w.packets + length (packets_in work.told)) served_front (said s work.host Server id work.host.id did.says)

  -- the packets are plain where those of the rule are
  pub served_fits : AllByRecursion (λ (p : Packet). IsCalmBody p.body) (packets_in (said s work.host Server id work.host.id did.says))
      → AllByRecursion (IsTruthful (seen_all (said_so_far w v work) served_lines)) (stamped w.clock (packets_in (served_told s id did work)))
  served_fits plain =
      calm_truthful (seen_all (said_so_far w v work) served_lines) w.clock (packets_in (served_told s id did work))
      (subst (AllByRecursion (λ (p : Packet). IsCalmBody p.body)) (sym (served_packets s id did work))
      (all-append (λ (p : Packet). IsCalmBody p.body) (packets_in (reply_told s Server id work.host.id did.version (served_noted s id did work)))
      (packets_in (said s work.host Server id work.host.id did.says))
      (calm_reply s Server id work.host.id did.version (served_noted s id did work)).plain plain))

  -- a rule that leaves what has arrived
  pub served_still : StillServed (amid w v host work id host).server did → IsTrue s (put w host work) (said_so_far w v work)
      → IsTrue s (put w host (served s id did work)) (said_so_far w v (served s id did work))
  served_still still t =
      served_true t.packets (λ q n e. t.same q n) (λ q e. view.tales q) itself
      (calm_truthful (seen_all (said_so_far w v work) served_lines) w.clock (packets_in (served_told s id did work)) calm.plain) view.level
      (closed_same (said_so_far w v work) (seen_all (said_so_far w v work) served_lines) view.block t.closed) where
        calm : IsCalmTold (served_told s id did work)
        calm = calm_append (notes_told s did.opened (served_put s id did work))
            (reply_told s Server id work.host.id did.version (served_noted s id did work) ++ said s work.host Server id work.host.id did.says)
            (calm_notes s did.opened (served_put s id did work))
            (calm_append (reply_told s Server id work.host.id did.version (served_noted s id did work))
            (said s work.host Server id work.host.id did.says) (calm_reply s Server id work.host.id did.version (served_noted s id did work))
            (calm_said s work.host Server id work.host.id did.says still.calm))

        view : SameSaid (said_so_far w v work) (seen_all (said_so_far w v work) served_lines)
        view = calm_view (said_so_far w v work) (length w.packets + length (packets_in work.told)) (served_told s id did work) calm t.level

        quiet : runs_said did.says ≡ false
        quiet = calm_quiet did.says still.calm

        itself : (n : HostId) → IsSame s (seen_all (said_so_far w v work) served_lines) id n (amid w v host (served s id did work) id n)
            (tale (seen_all (said_so_far w v work) served_lines).now id)
        itself n = by_host (is_host host n) refl where
          gave : replies (seen_all (said_so_far w v work) served_lines) n id ≡ replies (said_so_far w v work) n id
          gave = served_gave id n (ap (λ b. b && (is_call id id && is_host host n)) quiet)

          by_host : (b : Bool) → is_host host n ≡ b
              → IsSame s (seen_all (said_so_far w v work) served_lines) id n (amid w v host (served s id did work) id n)
              (tale (seen_all (said_so_far w v work) served_lines).now id)
          by_host false e =
              let off : (is_call id id && is_host host n) ≡ false = ap (λ b. is_call id id && b) e ∙ and_none (is_call id id) in
              same_stays s (said_so_far w v work) served_lines id n (amid w v host work id n) (amid w v host (served s id did work) id n) _
              served_once (served_other id n off) (view.tales id) gave (t.same id n)
          by_host true e =
              let here : host ≡ n = (hosts_are host n).0 e in
              let old : Stand = amid w v host work id host in
              let old_same : IsSame s (said_so_far w v work) id host (amid w v host work id host) (tale (said_so_far w v work).now id) = t.same id host in
              let changed : IsSame s (said_so_far w v work) id host
              (with_server (amid w v host work id host) (state_of did.row) (amid w v host work id host).ran) (tale (said_so_far w v work).now id) =
              record {
                live = old_same.live;
                request = λ c made at.
                    subst (λ o. IsSameRequest s id.client c (amid w v host work id host).ran o (tale (said_so_far w v work).now id).request)
                    (sym still.part) (old_same.request c made at);
                unmade = old_same.unmade;
                response = old_same.response;
                replies = still.replies (replies (said_so_far w v work) host id) old_same.replies;
              } in
              let stand : amid w v host (served s id did work) id host ≡ with_server (amid w v host work id host) (state_of did.row)
              (amid w v host work id host).ran =
              served_here ∙ ap (λ b. with_server (amid w v host work id host) (state_of did.row) ((b && true) || (amid w v host work id host).ran)) quiet in
              subst (λ (x : HostId). IsSame s (seen_all (said_so_far w v work) served_lines) id x (amid w v host (served s id did work) id x)
              (tale (seen_all (said_so_far w v work) served_lines).now id)) here
              (same_stays s (said_so_far w v work) served_lines id host _ (amid w v host (served s id did work) id host) _ served_once stand
              (view.tales id)
              (subst (λ (x : HostId). replies (seen_all (said_so_far w v work) served_lines) x id ≡ replies (said_so_far w v work) x id)
              (sym here) gave) changed)

-- ---- a rule at a client is carried out

seen_of : (o : Option ClientRow) → option_map (λ (r : ClientRow). r.seen) o ≡ option_map (λ (a : Awaited). a.seen) (awaiting o)
seen_of None = refl
seen_of (Some r) = refl

-- what the lines speak of in a row
pub response_awaited : (s : Settings) (u : View) (q : CallId) (o x : Option ClientRow) (t : Option Part) → awaiting x ≡ awaiting o
    → IsSameResponse s u q o t → IsSameResponse s u q x t
response_awaited s u q None None t e k = k
response_awaited s u q None (Some x) t e k = cc
response_awaited s u q (Some r) None t e k = cc
response_awaited s u q (Some r) (Some x) t e k = subst (λ (a : Awaited). IsSamePiece s u q a.server a.seen a.part t) (sym (some_is (awaited x) (awaited r) e)) k

pub live_awaited : (o x : Option ClientRow) → awaiting x ≡ awaiting o → option_map (λ (r : ClientRow). r.seen) o ≡ option_map (λ (r : ClientRow). r.seen) x
live_awaited o x e = seen_of o ∙ ap (option_map (λ (a : Awaited). a.seen)) (sym e) ∙ sym (seen_of x)

module _ (s : Settings) (w : World) (v : View) (host : HostId) (now : ℕ) (stands : host.0 < length w.hosts) (work : Work) (id : CallId)
    (server : HostId) (did : Did ClientRow)
    (k : IsAmid s w v host now work) (mine : id.client ≡ host) (quiet : IsQuiet id did) (done : GoesWhenDone did)
    (made : IsMadeTo server (amid w v host work id server)) (d : (n : HostId) → ClientKeeps (times s) (amid w v host work id n) did)
    (after : IsAmid s w v host now (asked s id server did work)) where
  abbrev pub asked_lines : List PlainEntry
  asked_lines = entries_from (length w.packets + length (packets_in work.told)) (asked_told s id server did work)

  asked_moves : IsMove work (asked s id server did work) (asked_told s id server did work) (set_row work.host.clients id did.row) work.host.servers
  asked_moves = asked-move s id server did work (mine ∙ sym k.name) quiet.0

  pub asked_once : Holds Once (said_so_far w v work) asked_lines
  asked_once = once_of s w v host work (asked s id server did work) (asked_told s id server did work)
      (set_row work.host.clients id did.row) work.host.servers asked_moves now after

  pub asked_gave : (q : CallId) (n : HostId) → replies (seen_all (said_so_far w v work) asked_lines) n q ≡ replies (said_so_far w v work) n q
  asked_gave q n = told_replies (said_so_far w v work) (length w.packets + length (packets_in work.told))
      (asked_told s id server did work) n q asked_moves.inner (asked-runs s n q id server did work quiet.0 quiet.1)

  pub asked_here : (n : HostId) → amid w v host (asked s id server did work) id n ≡ with_client (amid w v host work id n) did.row
  asked_here n = asked_stand s w v host now stands work id server did k mine quiet done made d id n true ((calls_are id id).1 refl)

  -- all is true, where it is of the call itself
  pub asked_true : AllByRecursion (IsTruthful (said_so_far w v work)) (put w host work).packets
      → ((q : CallId) (n : HostId) → is_call id q ≡ false → IsSame s (said_so_far w v work) q n (amid w v host work q n) (tale (said_so_far w v work).now q))
      → ((q : CallId) → is_call id q ≡ false → tale (seen_all (said_so_far w v work) asked_lines).now q ≡ tale (said_so_far w v work).now q)
      → ((n : HostId) → IsSame s (seen_all (said_so_far w v work) asked_lines) id n (with_client (amid w v host work id n) did.row)
      (tale (seen_all (said_so_far w v work) asked_lines).now id))
      → AllByRecursion (IsTruthful (seen_all (said_so_far w v work) asked_lines)) (stamped w.clock (packets_in (asked_told s id server did work)))
      → IsLevel (seen_all (said_so_far w v work) asked_lines) → IsClosed (seen_all (said_so_far w v work) asked_lines)
      → IsTrue s (put w host (asked s id server did work)) (said_so_far w v (asked s id server did work))
  asked_true packets others tales itself fits level closed =
      true_move s w v host work (asked s id server did work) (asked_told s id server did work)
      (set_row work.host.clients id did.row) work.host.servers asked_moves now after packets (λ q n. by_call q n (is_call id q) refl) fits level closed where
        by_call : (q : CallId) (n : HostId) (b : Bool) → is_call id q ≡ b
            → IsSame s (seen_all (said_so_far w v work) asked_lines) q n (amid w v host (asked s id server did work) q n)
            (tale (seen_all (said_so_far w v work) asked_lines).now q)
        by_call q n true e =
            subst (λ (x : CallId). IsSame s (seen_all (said_so_far w v work) asked_lines) x n (amid w v host (asked s id server did work) x n)
            (tale (seen_all (said_so_far w v work) asked_lines).now x)) ((calls_are id q).0 e)
            (subst (λ x. IsSame s (seen_all (said_so_far w v work) asked_lines) id n x (tale (seen_all (said_so_far w v work) asked_lines).now id))
            (sym (asked_here n)) (itself n))
        by_call q n false e =
            same_stays s (said_so_far w v work) asked_lines q n (amid w v host work q n) (amid w v host (asked s id server did work) q n) _ asked_once
            (asked_stand s w v host now stands work id server did k mine quiet done made d q n false e) (tales q e) (asked_gave q n) (others q n e)

  -- what the lines say before those of the rule itself, and behind them
  abbrev pub asked_front : List Told
  asked_front = notes_told s did.opened (asked_put s id server did work) ++ reply_told s Client id server did.version (asked_noted s id server did work)

  abbrev pub before_asked : View
  before_asked = seen_all (said_so_far w v work) (entries_from (length w.packets + length (packets_in work.told)) asked_front)

  pub asked_before : IsLevel (said_so_far w v work) → SameSaid (said_so_far w v work) before_asked
  asked_before level =
      calm_view (said_so_far w v work) (length w.packets + length (packets_in work.told)) asked_front
      (calm_append (notes_told s did.opened (asked_put s id server did work))
      (reply_told s Client id server did.version (asked_noted s id server did work)) (calm_notes s did.opened (asked_put s id server did work))
      (calm_reply s Client id server did.version (asked_noted s id server did work))) level

  abbrev pub said_asked : View
  said_asked = seen_all before_asked
      (entries_from (length w.packets + length (packets_in work.told) + length (packets_in asked_front)) (said s work.host Client id server did.says))

  abbrev pub asked_ends : List Told
  asked_ends = finishes_told s id server did.finished (asked_said s id server did work)

  pub asked_split : seen_all (said_so_far w v work) asked_lines
      ≡ seen_all said_asked
      (entries_from
      (length w.packets + length (packets_in work.told) + length (packets_in asked_front) + length
      (packets_in (said s work.host Client id server did.says))) asked_ends)
  asked_split =
      let n : ℕ = length w.packets + length (packets_in work.told) in
      let says : List Told = said s work.host Client id server did.says in
      ap (λ (t : List Told). seen_all (said_so_far w v work) (entries_from n t))
      (sym (append_assoc (notes_told s did.opened (asked_put s id server did work))
      (reply_told s Client id server did.version (asked_noted s id server did work)) (says ++ asked_ends)))
      ∙ seen-told (said_so_far w v work) n asked_front (says ++ asked_ends) ∙ seen-told before_asked (n + length (packets_in asked_front)) says asked_ends

  pub asked_after : IsLevel said_asked
      → SameSaid said_asked
      (seen_all said_asked
      (entries_from
      (length w.packets + length (packets_in work.told) + length (packets_in asked_front) + length
      (packets_in (said s work.host Client id server did.says))) asked_ends))
  asked_after level =
      calm_view said_asked
      (length w.packets + length (packets_in work.told) + length (packets_in asked_front) + length
      (packets_in (said s work.host Client id server did.says))) asked_ends (calm_finishes s id server did.finished (asked_said s id server did work)) level

  -- a client's packets carry no reply
  pub asked_fits : AllByRecursion (λ (p : Packet). IsCalmBody p.body) (packets_in (said s work.host Client id server did.says))
      → AllByRecursion (IsTruthful (seen_all (said_so_far w v work) asked_lines)) (stamped w.clock (packets_in (asked_told s id server did work)))
  asked_fits plain =
      let calm = (λ (p : Packet). IsCalmBody p.body) in
      let reply = packets_in (reply_told s Client id server did.version (asked_noted s id server did work)) in
      let says = packets_in (said s work.host Client id server did.says) in
      calm_truthful (seen_all (said_so_far w v work) asked_lines) w.clock (packets_in (asked_told s id server did work))
      (subst (AllByRecursion (λ (p : Packet). IsCalmBody p.body)) (sym (asked_packets s id server did work))
      (all-append (λ (p : Packet). IsCalmBody p.body) reply (says ++ packets_in asked_ends)
      (calm_reply s Client id server did.version (asked_noted s id server did work)).plain
      (all-append (λ (p : Packet). IsCalmBody p.body) says (packets_in asked_ends) plain
      (calm_finishes s id server did.finished (asked_said s id server did work)).plain)))

  -- a rule that leaves what has arrived at a row, which may have heard of a packet right before
  pub asked_still : (o : Option ClientRow) → StillAsked o did → AllByRecursion (IsTruthful (said_so_far w v work)) (put w host work).packets
      → ((q : CallId) (n : HostId) → is_call id q ≡ false → IsSame s (said_so_far w v work) q n (amid w v host work q n) (tale (said_so_far w v work).now q))
      → ((n : HostId) → IsSame s (said_so_far w v work) id n (with_client (amid w v host work id n) o) (tale (said_so_far w v work).now id))
      → IsLevel (said_so_far w v work) → IsClosed (said_so_far w v work)
      → IsTrue s (put w host (asked s id server did work)) (said_so_far w v (asked s id server did work))
  asked_still o still packets others itself level closed =
      asked_true packets others (λ q e. view.tales q) now_same
      (calm_truthful (seen_all (said_so_far w v work) asked_lines) w.clock (packets_in (asked_told s id server did work)) calm.plain) view.level
      (closed_same (said_so_far w v work) (seen_all (said_so_far w v work) asked_lines) view.block closed) where
        noted : List Told
        noted = notes_told s did.opened (asked_put s id server did work)

        calm : IsCalmTold (asked_told s id server did work)
        calm = calm_append (notes_told s did.opened (asked_put s id server did work)) _ (calm_notes s did.opened (asked_put s id server did work))
            (calm_append (reply_told s Client id server did.version (asked_noted s id server did work)) _
            (calm_reply s Client id server did.version (asked_noted s id server did work))
            (calm_append (said s work.host Client id server did.says) _ (calm_said s work.host Client id server did.says still.calm)
            (calm_finishes s id server did.finished (asked_said s id server did work))))

        view : SameSaid (said_so_far w v work) (seen_all (said_so_far w v work) asked_lines)
        view = calm_view (said_so_far w v work) (length w.packets + length (packets_in work.told)) (asked_told s id server did work) calm level

        now_same : (n : HostId) → IsSame s (seen_all (said_so_far w v work) asked_lines) id n (with_client (amid w v host work id n) did.row)
            (tale (seen_all (said_so_far w v work) asked_lines).now id)
        now_same n =
            let old = itself n in
            let changed : IsSame s (said_so_far w v work) id n (with_client (amid w v host work id n) did.row) (tale (said_so_far w v work).now id) = record {
              live = old.live ∙ live_awaited o did.row still.row;
              request = old.request;
              unmade = old.unmade;
              response = response_awaited s (said_so_far w v work) id o did.row (tale (said_so_far w v work).now id).response still.row old.response;
              replies = old.replies;
            } in
            same_stays s (said_so_far w v work) asked_lines id n _ _ _ asked_once refl (view.tales id) (asked_gave id n) changed
