-- The block of a response's piece: it is refused, it is taken, or the call is done, as the lines say.
use Rattle.std.proofs.Common.{◌≡◌, ℕ, ◌+◌, ◌<◌, true, false, Option, Some, None, List, [], ◌∷◌, length, refl, sym, ap, subst, ◌∙◌}
use Rattle.std.specs.Option.{option_map, option_map_or}
use Rattle.std.specs.List.{AllByRecursion}
use Rattle.plain_sets.specs.Maps.{get}
use Rattle.homa_plain.specs.declared.id.CallId.{CallId}
use Rattle.homa_plain.specs.declared.id.HostId.{HostId}
use Rattle.homa_plain.specs.declared.packet.Role.TheVariants.{Client}
use Rattle.homa_plain.specs.declared.settings.Settings.{Settings}
use Rattle.homa_plain.specs.Calls.{is_call}
use Rattle.homa_plain.specs.Entries.{PlainEntry, PlainDone, PlainGaps, PlainFullPages}
use Rattle.homa_plain.specs.Packets.{Packet}
use Rattle.trace_rules.specs.Parts.{Part, made_whole}
use Rattle.trace_rules.specs.Parts as parts
use Rattle.homa_plain.specs.Rows.{ClientRow}
use Rattle.homa_plain.specs.Host.{packets_in, entries_from}
use Rattle.homa_plain.specs.Rules.{Say, Tells, Did}
use Rattle.homa_plain.specs.Work.{Work, said}
use Rattle.homa_plain.specs.Steps.{asked}
use Rattle.trace_rules.specs.View.{View, Progress, Sent, Ends, no_ends}
use Rattle.trace_rules.specs.Laws.{Holds, Once}
use Rattle.trace_rules.specs.Seen.{seen, seen_all, is_delivery_to}
use Rattle.homa_plain.specs.World.{World}
use Rattle.step_laws.proofs.Own.{IsQuiet}
use Rattle.step_moves.proofs.Moves.{notes_told, reply_told}
use Rattle.step_moves.proofs.AskedMove.{asked_put, asked_noted}
use Rattle.trace_steps.proofs.Progress.{IsLevel, AreLevel, level_itself}
use Rattle.trace_steps.specs.Stands.{with_client, put, said_so_far, amid}
use Rattle.trace_steps.specs.Contents.{Replies}
use Rattle.trace_once.specs.Lifetime.{times, IsMadeTo}
use Rattle.trace_once.proofs.ClientRules.{ClientKeeps}
use Rattle.trace_once.proofs.Acks.{GoesWhenDone}
use Rattle.trace_once.proofs.Amid.{IsAmid}
use Rattle.trace_returned.specs.Tales.{Tale, tale, IsReplyOf, IsTruthful, IsSameRequest, IsSameResponse, IsSame, IsClosed, IsTrue, receiving}
use Rattle.trace_returned.proofs.ReplyLines.{lines_reply}
use Rattle.trace_returned.proofs.StillRules.{IsCalmBody, awaiting}
use Rattle.trace_returned.proofs.Pieces.{StaysLive, ResponseTaken, Gapped, Unpaged, Taken, Done}
use Rattle.trace_returned.proofs.Deliver.{Begins}
use Rattle.trace_returned.proofs.Calm.{closed_same}
use Rattle.trace_returned.proofs.OwnMoves.{done_ended, done_block}
use Rattle.trace_returned.proofs.TrueMoves.{response_later, response_awaited, live_awaited, asked_front, asked_lines, asked_once, asked_gave}
use Rattle.trace_returned.proofs.TrueMoves.{asked_true, before_asked, asked_before, said_asked, asked_split, asked_after, asked_fits}
use Rattle.trace_returned.proofs.RequestBlock.{SameProgress, front_progress, notes_progress, reply_progress, TakenBack, gaps_back, pages_back}
use Rattle.trace_returned.proofs.RequestBlock.{comes_to, made_is}

module _ (s : Settings) (w : World) (v : View) (host : HostId) (now : ℕ) (stands : host.0 < length w.hosts) (work : Work) (id : CallId)
    (server : HostId) (did : Did ClientRow)
    (k : IsAmid s w v host now work) (mine : id.client ≡ host) (quiet : IsQuiet id did) (done : GoesWhenDone did)
    (made : IsMadeTo server (amid w v host work id server)) (d : (n : HostId) → ClientKeeps (times s) (amid w v host work id n) did)
    (after : IsAmid s w v host now (asked s id server did work)) where
  -- the view, and that behind the move
  abbrev u : View
  u = said_so_far w v work

  abbrev lines : List PlainEntry
  lines = asked_lines s w v host now stands work id server did k mine quiet done made d after

  abbrev front : View
  front = before_asked s w v host now stands work id server did k mine quiet done made d after

  front_same : SameProgress u front
  front_same =
      front_progress s u (length w.packets + length (packets_in work.told)) (notes_told s did.opened (asked_put s id server did work))
      (reply_told s Client id server did.version (asked_noted s id server did work))
      (notes_progress s u (length w.packets + length (packets_in work.told)) did.opened (asked_put s id server did work))
      (λ x m. reply_progress s x m Client id server did.version (asked_noted s id server did work))

  -- all is true where it is so behind the verdict's line
  verdict_true : (says : List Say) → did.says ≡ says
      → AllByRecursion (λ (p : Packet). IsCalmBody p.body) (packets_in (said s work.host Client id server says)) → (mid : View)
      → seen_all front
      (entries_from
      (length w.packets + length (packets_in work.told) + length
      (packets_in (asked_front s w v host now stands work id server did k mine quiet done made d after))) (said s work.host Client id server says)) ≡ mid
      → AllByRecursion (IsTruthful u) (put w host work).packets
      → ((q : CallId) (n : HostId) → is_call id q ≡ false → IsSame s u q n (amid w v host work q n) (tale u.now q)) → IsLevel mid
      → ((q : CallId) → is_call id q ≡ false → tale mid.now q ≡ tale u.now q) → (t : Tale) → tale mid.now id ≡ t
      → ((n : HostId) → IsSame s (seen_all u lines) id n (with_client (amid w v host work id n) did.row) t) → IsClosed mid
      → IsTrue s (put w host (asked s id server did work)) (said_so_far w v (asked s id server did work))
  verdict_true says is plain mid mid_is packets others level tales t told itself closed =
      let said_is : said_asked s w v host now stands work id server did k mine quiet done made d after ≡ mid =
      ap (λ (x : List Say). seen_all front
      (entries_from
      (length w.packets + length (packets_in work.told) + length
      (packets_in (asked_front s w v host now stands work id server did k mine quiet done made d after))) (said s work.host Client id server x))) is
      ∙ mid_is in
      let behind = asked_after s w v host now stands work id server did k mine quiet done made d after (subst IsLevel (sym said_is) level) in
      let split = asked_split s w v host now stands work id server did k mine quiet done made d after in
      let each = (λ (q : CallId). ap (λ (x : View). tale x.now q) split ∙ behind.tales q ∙ ap (λ (x : View). tale x.now q) said_is) in
      asked_true s w v host now stands work id server did k mine quiet done made d after packets others (λ q e. each q ∙ tales q e)
      (λ n. subst (IsSame s (seen_all u lines) id n (with_client (amid w v host work id n) did.row)) (sym (each id ∙ told)) (itself n))
      (asked_fits s w v host now stands work id server did k mine quiet done made d after
      (subst (λ (x : List Say). AllByRecursion (λ (p : Packet). IsCalmBody p.body) (packets_in (said s work.host Client id server x))) (sym is) plain))
      (subst IsLevel (sym split) behind.level)
      (subst IsClosed (sym split)
      (closed_same (said_asked s w v host now stands work id server did k mine quiet done made d after) _ behind.block (subst IsClosed (sym said_is) closed)))

  -- what was so when the piece came to the row that heard of it: the part that the lines had of the response, and have with the piece
  pub record Answers (p : Sent) (r : ClientRow) (response : List ℕ) (admits refuses : Progress) (old : Option Part) (new : Part) : Type 0 where
    pub begins : Begins u admits refuses
    pub level : IsLevel u
    pub came : (admits.came ≡ Some p) × (p.id ≡ id) × (p.to ≡ id.client)
    pub due : (refuses.due ≡ no_ends) × (admits.due ≡ record no_ends { dones = made_whole id old new })
    pub before : tale refuses id ≡ record { live = Some r.seen; request = get u.now.requests id; response = old }
    pub admitted : tale admits id ≡ record { live = Some r.seen; request = get u.now.requests id; response = Some new }
    pub others : (q : CallId) → is_call id q ≡ false → tale refuses q ≡ tale u.now q
    pub itself : (n : HostId)
        → IsSame s u id n (with_client (amid w v host work id n) (Some r)) (record { live = Some r.seen; request = get u.now.requests id; response = old })
    pub else_same : (q : CallId) (n : HostId) → is_call id q ≡ false → IsSame s u q n (amid w v host work q n) (tale u.now q)
    pub packets : AllByRecursion (IsTruthful u) (put w host work).packets
    pub reply : IsReplyOf u id r.server r.seen response
    pub missing : option_map_or parts.is_whole old false ≡ false
    pub peer : new.peer ≡ r.server

  module _ (p : Sent) (r : ClientRow) (response : List ℕ) (admits refuses : Progress) (old : Option Part) (new : Part)
      (z : Answers p r response admits refuses old new) where
    once : Holds Once u lines
    once = asked_once s w v host now stands work id server did k mine quiet done made d after

    -- the call with its row as the rule leaves it
    with_rest : (n : HostId) (t : Tale) → t.live ≡ option_map (λ (x : ClientRow). x.seen) did.row → t.request ≡ get u.now.requests id
        → IsSameResponse s (seen_all u lines) id did.row t.response
        → IsSame s (seen_all u lines) id n (with_client (amid w v host work id n) did.row) t
    with_rest n t live request response =
        let o = z.itself n in
        record {
          live = live;
          request = λ c called at. subst (IsSameRequest s id.client c (amid w v host work id n).ran (receiving (amid w v host work id n).server))
              (sym request) (o.request c called at);
          unmade = λ f. request ∙ o.unmade f;
          response = response;
          replies = subst (λ xs. Replies xs (amid w v host work id n).server)
              (sym (asked_gave s w v host now stands work id server did k mine quiet done made d after id n)) o.replies;
        }

    -- it is refused
    taken_back : (line : PlainEntry) → did.says ≡ Tells line ∷ [] → TakenBack front (seen front line) → (x : ClientRow) → did.row ≡ Some x
        → StaysLive r x → x.part ≡ r.part
        → IsTrue s (put w host (asked s id server did work)) (said_so_far w v (asked s id server did work))
    taken_back line says back x row stays part =
        let mid : View = seen front line in
        let progress : mid.now ≡ refuses = back.now ∙ front_same.refused ∙ z.begins.refused in
        let refusal : mid.if_refused ≡ refuses = back.refused ∙ front_same.refused ∙ z.begins.refused in
        let here_is : mid.here ≡ no_ends = back.here ∙ front_same.here ∙ z.begins.here in
        let due_is : mid.now.due ≡ no_ends = ap (λ (m : Progress). m.due) progress ∙ z.due.0 in
        let t0 : Tale = record { live = Some r.seen; request = get u.now.requests id; response = old } in
        let same : awaiting did.row ≡ awaiting (Some r) =
        ap awaiting row ∙ (λ i. Some (record { server = stays.server i; seen = stays.seen i; part = part i })) in
        verdict_true (Tells line ∷ []) says tt mid refl z.packets z.else_same
        (subst (λ (m : Progress). AreLevel m mid.now) (sym refusal) (subst (AreLevel refuses) (sym progress) (level_itself refuses)))
        (λ q e. ap (λ (m : Progress). tale m q) progress ∙ z.others q e) t0 (ap (λ (m : Progress). tale m id) progress ∙ z.before)
        (λ n. with_rest n t0 (live_awaited (Some r) did.row same) refl
        (response_awaited s (seen_all u lines) id (Some r) did.row old same (response_later s u lines id (Some r) old once (z.itself n).response)))
        (record {
          runs = ap (λ (y : Ends). y.runs) here_is ∙ ap (λ (y : Ends). y.runs) (sym due_is);
          dones = ap (λ (y : Ends). y.dones) here_is ∙ ap (λ (y : Ends). y.dones) (sym due_is);
          forgotten = ap (λ (y : Ends). y.forgotten) here_is ∙ ap (λ (y : Ends). y.forgotten) (sym due_is);
        })

    delivered_here : is_delivery_to front id.client id ≡ true
    delivered_here = comes_to front p id.client id (ap (λ (m : Progress). m.came) (front_same.now ∙ z.begins.now) ∙ z.came.0) z.came.1 z.came.2

    -- it is taken, or makes the response whole
    pub response_comes : ResponseTaken s id response did r new
        → IsTrue s (put w host (asked s id server did work)) (said_so_far w v (asked s id server did work))
    response_comes (Gapped says x row stays part) = taken_back (PlainGaps id.client id) says (gaps_back front id.client id delivered_here) x row stays part
    response_comes (Unpaged n m says x row stays part) =
        taken_back (PlainFullPages id.client id n m) says (pages_back front id.client id n m delivered_here) x row stays part
    response_comes (Taken says x part row stays has same) =
        let before = asked_before s w v host now stands work id server did k mine quiet done made d after z.level in
        let progress : front.now ≡ admits = front_same.now ∙ z.begins.now in
        let here_is : front.here ≡ no_ends = front_same.here ∙ z.begins.here in
        let due_is : front.now.due ≡ no_ends = ap (λ (m : Progress). m.due) progress ∙ z.due.1
        ∙ ap (λ xs. let e : Ends = record no_ends { dones = xs } in e) (made_is id old new false z.missing same.missing) in
        let t1 : Tale = record { live = Some r.seen; request = get u.now.requests id; response = Some new } in
        let row_is : awaiting did.row ≡ Some (record { server = r.server; seen = r.seen; part = Some part }) =
        ap awaiting row ∙ (λ i. Some (record { server = stays.server i; seen = stays.seen i; part = has i })) in
        let grown_row : ClientRow = record r { part = Some part } in
        let reply = lines_reply u lines id r.server r.seen response once z.reply in
        verdict_true [] says tt front refl z.packets z.else_same before.level (λ q e. before.tales q) t1
        (ap (λ (m : Progress). tale m id) progress ∙ z.admitted)
        (λ n. with_rest n t1 (live_awaited (Some grown_row) did.row row_is) refl
        (response_awaited s (seen_all u lines) id (Some grown_row) did.row (Some new) row_is (response, reply, same, z.peer)))
        (record {
          runs = ap (λ (y : Ends). y.runs) here_is ∙ ap (λ (y : Ends). y.runs) (sym due_is);
          dones = ap (λ (y : Ends). y.dones) here_is ∙ ap (λ (y : Ends). y.dones) (sym due_is);
          forgotten = ap (λ (y : Ends). y.forgotten) here_is ∙ ap (λ (y : Ends). y.forgotten) (sym due_is);
        })
    response_comes (Done says gone whole) =
        let before = asked_before s w v host now stands work id server did k mine quiet done made d after z.level in
        let mid : View = seen front (PlainDone id response) in
        let block = done_block front id response in
        let progress : front.now ≡ admits = front_same.now ∙ z.begins.now in
        let here_is : mid.here ≡ record no_ends { dones = id ∷ [] } =
        block.0 ∙ ap (λ (e : Ends). let f : Ends = record e { dones = id ∷ e.dones } in f) (front_same.here ∙ z.begins.here) in
        let due_is : mid.now.due ≡ record no_ends { dones = id ∷ [] } =
        block.1 ∙ ap (λ (m : Progress). m.due) progress ∙ z.due.1 ∙ ap (λ xs. let e : Ends = record no_ends { dones = xs } in e)
        (made_is id old new true z.missing whole) in
        let t1 : Tale = record { live = None; request = get front.now.requests id; response = None } in
        verdict_true (Tells (PlainDone id response) ∷ []) says tt mid refl z.packets z.else_same (done_ended front id response before.level).level
        (λ q e. (done_ended front id response before.level).others q e ∙ before.tales q) t1 (done_ended front id response before.level).itself
        (λ n. with_rest n t1 (ap (option_map (λ (x : ClientRow). x.seen)) (sym gone)) (ap (λ (x : Tale). x.request) (before.tales id))
        (subst (λ o. IsSameResponse s (seen_all u lines) id o None) (sym gone) refl))
        (record {
          runs = ap (λ (y : Ends). y.runs) here_is ∙ ap (λ (y : Ends). y.runs) (sym due_is);
          dones = ap (λ (y : Ends). y.dones) here_is ∙ ap (λ (y : Ends). y.dones) (sym due_is);
          forgotten = ap (λ (y : Ends). y.forgotten) here_is ∙ ap (λ (y : Ends). y.forgotten) (sym due_is);
        })
