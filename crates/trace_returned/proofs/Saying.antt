-- What is so in the midst of a step, and a move of it: lines that say of no call that it is done keep returned.
use Rattle.std.proofs.Common.{◌≡◌, ℕ, suc, ◌+◌, ◌<◌, false, Some, List, [], ◌∷◌, ◌++◌, length, refl, sym, ap, subst, ◌∙◌, append_assoc}
use Rattle.std.proofs.lemmas.Bool.{false≢true}
use Rattle.plain_sets.specs.Maps.{get}
use Rattle.homa_plain.specs.declared.id.CallId.{CallId}
use Rattle.homa_plain.specs.declared.id.HostId.{HostId}
use Rattle.homa_plain.specs.declared.packet.Role.{Role}
use Rattle.homa_plain.specs.declared.packet.Role.TheVariants.{Client, Server}
use Rattle.homa_plain.specs.declared.settings.Settings.{Settings}
use Rattle.homa_plain.specs.Entries.{PlainEntry, PlainDone, PlainBury, PlainFree, PlainSettings, PlainCall, PlainDeliver, PlainClock, PlainRestart}
use Rattle.homa_plain.specs.Entries.{PlainInject, PlainShift, PlainRecv, PlainFinished, PlainRefused, PlainStalled}
use Rattle.trace_rules.specs.Lines.{closes}
use Rattle.homa_plain.specs.Packets.{send_line}
use Rattle.homa_plain.specs.Rows.{ClientRow, ServerRow, RowsOf, set_row}
use Rattle.homa_plain.specs.Host.{Host, Told, Says, Sends, packets_in, entries_from}
use Rattle.homa_plain.specs.Rules.{Say, Tells, Posts, Did}
use Rattle.homa_plain.specs.Work.{Work, said}
use Rattle.homa_plain.specs.Steps.{served, asked}
use Rattle.trace_rules.specs.View.{View, Called}
use Rattle.trace_rules.specs.Seen.{seen, seen_all}
use Rattle.trace_rules.specs.Laws.{Holds, Returned}
use Rattle.homa_plain.specs.World.{World}
use Rattle.trace_steps.specs.Told.{IsTold}
use Rattle.trace_steps.proofs.Lines.{holds-append}
use Rattle.step_moves.proofs.Inner.{said_inner, AllInner, IsInner, entries_from-append}
use Rattle.step_laws.proofs.Own.{AllOwn}
use Rattle.step_moves.proofs.Moves.{IsMove, notes_told, reply_told, served_put, served_noted, served_told, served-move, finishes_told}
use Rattle.step_moves.proofs.AskedMove.{asked_put, asked_noted, asked_said, asked_told, asked-move}
use Rattle.trace_steps.specs.Stands.{put, said_so_far}
use Rattle.trace_steps.proofs.Frame.{move_called}
use Rattle.trace_steps.proofs.ToldMoves.{told_move}
use Rattle.trace_once.proofs.Amid.{IsAmid}
use Rattle.trace_returned.specs.Tales.{IsTrue}
use Rattle.trace_returned.specs.Closing.{Closed}
use Rattle.trace_returned.proofs.StillRules.{AllCalm}
use Rattle.trace_returned.proofs.Calm.{IsSteady, AllSteady, calm_notes, calm_reply, calm_finishes}

-- ---- lines that say of no call that it is done

abbrev pub IsUndone : PlainEntry → Type 0
IsUndone (PlainDone id bytes) = ⊥
IsUndone line = Unit {0}

abbrev pub AllUndone : List Told → Type 0
AllUndone [] = Unit {0}
AllUndone (Says entry ∷ told) = IsUndone entry × AllUndone told
AllUndone (Sends p ∷ told) = AllUndone told

abbrev pub AreUndone : List Say → Type 0
AreUndone [] = Unit {0}
AreUndone (Tells entry ∷ says) = IsUndone entry × AreUndone says
AreUndone (Posts what ∷ says) = AreUndone says

undone_line : (v : View) (line : PlainEntry) → IsUndone line → Returned v line
undone_line v (PlainDone id bytes) e = absurd e
undone_line v line e = tt

pub undone_holds : (v : View) (n : ℕ) (told : List Told) → AllUndone told → Holds Returned v (entries_from n told)
undone_holds v n [] e = tt
undone_holds v n (Says entry ∷ told) e = (undone_line v entry e.0, undone_holds (seen v entry) n told e.1)
undone_holds v n (Sends p ∷ told) e = (tt, undone_holds (seen v (send_line n p)) (suc n) told e)

pub undone_append : (a b : List Told) → AllUndone a → AllUndone b → AllUndone (a ++ b)
undone_append [] b x y = y
undone_append (Says entry ∷ a) b x y = (x.0, undone_append a b x.1 y)
undone_append (Sends p ∷ a) b x y = undone_append a b x y

steady_line : (entry : PlainEntry) → IsSteady entry → IsUndone entry
steady_line (PlainDone id bytes) e = absurd e
steady_line entry e = tt

pub steady_undone : (told : List Told) → AllSteady told → AllUndone told
steady_undone [] e = tt
steady_undone (Says entry ∷ told) e = (steady_line entry e.0, steady_undone told e.1)
steady_undone (Sends p ∷ told) e = steady_undone told e

pub said_undone : (s : Settings) (h : Host) (role : Role) (id : CallId) (server : HostId) (says : List Say) → AreUndone says
    → AllUndone (said s h role id server says)
said_undone s h role id server [] e = tt
said_undone s h role id server (Tells entry ∷ says) e = (e.0, said_undone s h role id server says e.1)
said_undone s h role id server (Posts what ∷ says) e = said_undone s h role id server says e

pub calm_undone : (says : List Say) → AllCalm says → AreUndone says
calm_undone [] e = tt
calm_undone (Tells (PlainBury host id until) ∷ says) e = (tt, calm_undone says e)
calm_undone (Tells (PlainFree host id) ∷ says) e = (tt, calm_undone says e)
calm_undone (Tells entry ∷ says) e = absurd e
calm_undone (Posts what ∷ says) e = calm_undone says e.1

-- ---- lines within a step close no block

open_line : (v : View) (line : PlainEntry) → IsInner line → Closed v line
open_line v line inner e = absurd (false≢true (sym (by_line line inner) ∙ e)) where
  by_line : (line : PlainEntry) → IsInner line → closes line ≡ false
  by_line (PlainSettings settings) inner = absurd inner
  by_line (PlainCall id server service bytes) inner = absurd inner
  by_line (PlainDeliver packet) inner = absurd inner
  by_line (PlainClock tick) inner = absurd inner
  by_line (PlainRestart host inc) inner = absurd inner
  by_line (PlainInject host bytes) inner = absurd inner
  by_line (PlainShift host n) inner = absurd inner
  by_line (PlainRecv host from bytes) inner = absurd inner
  by_line (PlainFinished n) inner = absurd inner
  by_line (PlainRefused line fault) inner = absurd inner
  by_line (PlainStalled turns now) inner = absurd inner
  by_line line inner = refl

pub inner_closed : (v : View) (n : ℕ) (told : List Told) → AllInner told → Holds Closed v (entries_from n told)
inner_closed v n [] inner = tt
inner_closed v n (Says entry ∷ told) inner = (open_line v entry (said_inner entry inner.0), inner_closed (seen v entry) n told inner.1)
inner_closed v n (Sends p ∷ told) inner = (open_line v (send_line n p) tt, inner_closed (seen v (send_line n p)) (suc n) told inner)

-- ---- in the midst of a step

module _ (s : Settings) (w : World) (v : View) (host : HostId) (now : ℕ) (stands : host.0 < length w.hosts) where
  -- returned held at each line so far, each call that the lines tell was made to a host that stands, and closed blocks had what was due
  abbrev pub HasSaid : Work → Type 0
  HasSaid work =
      Holds Returned v (entries_from (length w.packets) work.told)
      × ((q : CallId) (c : Called) → get (said_so_far w v work).calls q ≡ Some c → c.server.0 < length w.hosts)
      × Holds Closed v (entries_from (length w.packets) work.told)

  -- all is so that is so between two steps
  pub record IsSaying (work : Work) : Type 0 where
    pub amid : IsAmid s w v host now work
    pub told : IsTold s (put w host work) (said_so_far w v work)
    pub same : IsTrue s (put w host work) (said_so_far w v work)
    pub returned : HasSaid work

  -- a move
  pub returned_move : (work new : Work) (told : List Told) (clients : RowsOf ClientRow) (servers : RowsOf ServerRow)
      → IsMove work new told clients servers → HasSaid work
      → Holds Returned (said_so_far w v work) (entries_from (length w.packets + length (packets_in work.told)) told) → HasSaid new
  returned_move work new told clients servers move k holds = (
    subst (Holds Returned v) (sym (ap (entries_from (length w.packets)) move.grown ∙ entries_from-append (length w.packets) work.told told))
        (holds-append Returned v (entries_from (length w.packets) work.told) (entries_from (length w.packets + length (packets_in work.told)) told) k.0 holds),
    λ q c e. k.1 q c (sym (move_called w v host work new told clients servers move q) ∙ e),
    subst (Holds Closed v) (sym (ap (entries_from (length w.packets)) move.grown ∙ entries_from-append (length w.packets) work.told told))
        (holds-append Closed v (entries_from (length w.packets) work.told) (entries_from (length w.packets + length (packets_in work.told)) told) k.2
        (inner_closed (said_so_far w v work) (length w.packets + length (packets_in work.told)) told move.inner)),
  )

  pub moved_saying : (work new : Work) (told : List Told) (clients : RowsOf ClientRow) (servers : RowsOf ServerRow)
      → IsMove work new told clients servers → IsTold s (put w host work) (said_so_far w v work)
      → HasSaid work → IsAmid s w v host now new → IsTrue s (put w host new) (said_so_far w v new)
      → Holds Returned (said_so_far w v work) (entries_from (length w.packets + length (packets_in work.told)) told) → IsSaying new
  moved_saying work new told clients servers move told_before returned after same holds = record {
    amid = after;
    told = told_move s w v host work new told clients servers move stands
        (λ q r is. after.own q r (ap (λ (rows : RowsOf ClientRow). get rows q) move.at_clients ∙ is)) told_before;
    same = same;
    returned = returned_move work new told clients servers move returned holds;
  }

  -- a rule at a server
  pub served_saying : (work : Work) (id : CallId) (did : Did ServerRow) → AllOwn work.host.id id did.says
      → IsTold s (put w host work) (said_so_far w v work) → HasSaid work
      → IsAmid s w v host now (served s id did work) → IsTrue s (put w host (served s id did work)) (said_so_far w v (served s id did work))
      → AreUndone did.says → IsSaying (served s id did work)
  served_saying work id did own told_before returned after same undone =
      let notes = notes_told s did.opened (served_put s id did work) in
      let reply = reply_told s Server id work.host.id did.version (served_noted s id did work) in
      let says = said s work.host Server id work.host.id did.says in
      moved_saying work (served s id did work) (served_told s id did work) work.host.clients (set_row work.host.servers id did.row)
      (served-move s id did work own) told_before returned after same
      (undone_holds (said_so_far w v work) (length w.packets + length (packets_in work.told)) (served_told s id did work)
      (undone_append notes (reply ++ says) (steady_undone notes (calm_notes s did.opened (served_put s id did work)).steady)
      (undone_append reply says (steady_undone reply (calm_reply s Server id work.host.id did.version (served_noted s id did work)).steady)
      (said_undone s work.host Server id work.host.id did.says undone))))

  -- a rule at a client, which may say that its call is done
  abbrev pub done_view : Work → CallId → HostId → Did ClientRow → View
  done_view work id server did =
      seen_all (said_so_far w v work)
      (entries_from (length w.packets + length (packets_in work.told))
      (notes_told s did.opened (asked_put s id server did work) ++ reply_told s Client id server did.version (asked_noted s id server did work)))

  pub asked_saying : (work : Work) (id : CallId) (server : HostId) (did : Did ClientRow) → id.client ≡ work.host.id → AllOwn id.client id did.says
      → IsTold s (put w host work) (said_so_far w v work)
      → HasSaid work → IsAmid s w v host now (asked s id server did work)
      → IsTrue s (put w host (asked s id server did work)) (said_so_far w v (asked s id server did work))
      → ((n : ℕ) → Holds Returned (done_view work id server did) (entries_from n (said s work.host Client id server did.says)))
      → IsSaying (asked s id server did work)
  asked_saying work id server did mine own told_before returned after same holds =
      let number : ℕ = length w.packets + length (packets_in work.told) in
      let u : View = said_so_far w v work in
      let notes = notes_told s did.opened (asked_put s id server did work) in
      let reply = reply_told s Client id server did.version (asked_noted s id server did work) in
      let says = said s work.host Client id server did.says in
      let ends = finishes_told s id server did.finished (asked_said s id server did work) in
      let front_holds =
      undone_holds u number (notes ++ reply)
      (undone_append notes reply (steady_undone notes (calm_notes s did.opened (asked_put s id server did work)).steady)
      (steady_undone reply (calm_reply s Client id server did.version (asked_noted s id server did work)).steady)) in
      let front : View = done_view work id server did in
      let at : ℕ = number + length (packets_in (notes ++ reply)) in
      let mid : View = seen_all front (entries_from at says) in
      let back = holds_told front at says ends (holds at)
      (undone_holds mid (at + length (packets_in says)) ends
      (steady_undone ends (calm_finishes s id server did.finished (asked_said s id server did work)).steady)) in
      moved_saying work (asked s id server did work) (asked_told s id server did work) (set_row work.host.clients id did.row) work.host.servers
      (asked-move s id server did work mine own) told_before returned after same
      (subst (λ (t : List Told). Holds Returned u (entries_from number t)) (append_assoc notes reply (says ++ ends))
      (holds_told u number (notes ++ reply) (says ++ ends) front_holds back)) where
        holds_told : (x : View) (n : ℕ) (a b : List Told) → Holds Returned x (entries_from n a)
            → Holds Returned (seen_all x (entries_from n a)) (entries_from (n + length (packets_in a)) b) → Holds Returned x (entries_from n (a ++ b))
        holds_told x n a b first second =
            subst (Holds Returned x) (sym (entries_from-append n a b))
            (holds-append Returned x (entries_from n a) (entries_from (n + length (packets_in a)) b) first second)

  -- one that says of no call that it is done
  pub undone_saying : (work : Work) (id : CallId) (server : HostId) (did : Did ClientRow) → id.client ≡ work.host.id → AllOwn id.client id did.says
      → IsTold s (put w host work) (said_so_far w v work)
      → HasSaid work → IsAmid s w v host now (asked s id server did work)
      → IsTrue s (put w host (asked s id server did work)) (said_so_far w v (asked s id server did work))
      → AreUndone did.says → IsSaying (asked s id server did work)
  undone_saying work id server did mine own told_before returned after same undone =
      asked_saying work id server did mine own told_before returned after same
      (λ n. undone_holds (done_view work id server did) n (said s work.host Client id server did.says)
      (said_undone s work.host Client id server did.says undone))
