use Rattle.std.proofs.Common.{◌≡◌, refl, sym, subst, true, false, ◌&&◌, ◌==◌, not, length, Option}
use Rattle.homa_plain.specs.declared.entry.Entry.{Entry}
use Rattle.homa_plain.specs.declared.entry.Entry.TheVariants as entry
use Rattle.homa_plain.specs.Entries.{plain, PlainGaps, PlainFullRows, PlainFullPages}
use Rattle.trace_rules.specs.Lines.{is_event}
use Rattle.trace_rules.specs.Judge.{has_shape, runs_once, is_behind}
use Rattle.trace_rules.specs.View.{View, Sent, has_run}
use Rattle.check_call.specs.Spots.{Undo}
use Rattle.check_call.specs.Tested.{IsOther}
use Rattle.check_call.specs.declared.packet.Packet.{Packet}
use Rattle.check_call.specs.Kept.{packet_of}
use Rattle.check_lines.specs.Changes.{Ready, Takes}
use Rattle.check_lines.proofs.LineLaws.{made_by, server_by, other_line, send_line, stale_line, gaps_line}
use Rattle.check_lines.proofs.trace.Trace.take_inner.Goals as goal

pub returns-in_ok-done-in-Done-clause-taken : goal.returns-in_ok-done-in-Done-clause-taken
returns-in_ok-done-in-Done-clause-taken c v o r other shape once =
    let t = c.args.self.now in
    let s = subst (λ (e : Entry). has_shape v (plain e) ≡ true) c.in-Done.is shape in
    let e = c.in_ok-done-in-Done.ensures in
    subst (λ (x : Entry). Takes v o (plain x) c.done.new.self) (sym c.in-Done.is)
    (e.taken v o c.in-Done.bytes.now r (made_by v t c.in-Done.id (is_behind v) r.kept s))

pub returns-in_ok-fail-in-Fail-clause-taken : goal.returns-in_ok-fail-in-Fail-clause-taken
returns-in_ok-fail-in-Fail-clause-taken c v o r other shape once =
    let t = c.args.self.now in
    let s = subst (λ (e : Entry). has_shape v (plain e) ≡ true) c.in-Fail.is shape in
    let e = c.in_ok-fail-in-Fail.ensures in
    subst (λ (x : Entry). Takes v o (plain x) c.fail.new.self) (sym c.in-Fail.is) (e.taken v o r (made_by v t c.in-Fail.id (is_behind v) r.kept s))

pub returns-in_ok-give_up-in-Drop-clause-taken : goal.returns-in_ok-give_up-in-Drop-clause-taken
returns-in_ok-give_up-in-Drop-clause-taken c v o r other shape once =
    let t = c.args.self.now in
    let s = subst (λ (e : Entry). has_shape v (plain e) ≡ true) c.in-Drop.is shape in
    let e = c.in_ok-give_up-in-Drop.ensures in
    subst (λ (x : Entry). Takes v o (plain x) c.give_up.new.self) (sym c.in-Drop.is) (e.taken v o r (made_by v t c.in-Drop.id (is_behind v) r.kept s))

pub returns-in_ok-run-in-Run-clause-taken : goal.returns-in_ok-run-in-Run-clause-taken
returns-in_ok-run-in-Run-clause-taken c v o r other shape once =
    let t = c.args.self.now in
    let s = subst (λ (e : Entry). has_shape v (plain e) ≡ true) c.in-Run.is shape in
    let e = c.in_ok-run-in-Run.ensures in
    subst (λ (x : Entry). Takes v o (plain x) c.run.new.self) (sym c.in-Run.is)
    (e.taken v o c.in-Run.service c.in-Run.request.now c.in-Run.hold r
    (server_by v c.in-Run.id c.in-Run.host c.in-Run.service c.in-Run.request.now (not (has_run v c.in-Run.host c.in-Run.id))
    (subst (λ (x : Entry). runs_once v (plain x) ≡ true) c.in-Run.is once)))

pub returns-in_ok-forget-in-Stale-clause-taken : goal.returns-in_ok-forget-in-Stale-clause-taken
returns-in_ok-forget-in-Stale-clause-taken c v o r other shape once =
    let t = c.args.self.now in
    let s = subst (λ (e : Entry). has_shape v (plain e) ≡ true) c.in-Stale.is shape in
    let e = c.in_ok-forget-in-Stale.ensures in
    subst (λ (x : Entry). Takes v o (plain x) c.forget.new.self) (sym c.in-Stale.is)
    (stale_line v o t c.forget.new.self c.in-Stale.host c.in-Stale.at c.in-Stale.now r (e.kept v o r) e.delivery e.count.here)

pub returns-in_ok-refuse-in-Gaps-clause-taken : goal.returns-in_ok-refuse-in-Gaps-clause-taken
returns-in_ok-refuse-in-Gaps-clause-taken c v o r other shape once =
    let t = c.args.self.now in
    let s = subst (λ (e : Entry). has_shape v (plain e) ≡ true) c.in-Gaps.is shape in
    let e = c.in_ok-refuse-in-Gaps.ensures in
    subst (λ (x : Entry). Takes v o (plain x) c.refuse.new.self) (sym c.in-Gaps.is)
    (gaps_line v o t c.refuse.new.self (PlainGaps c.in-Gaps.host c.in-Gaps.id) c.in-Gaps.host c.in-Gaps.id refl refl r (e.kept v o r)
    (e.delivered v o r) (e.due v o r) e.count.here)

pub returns-in_ok-refuse-in-FullRows-clause-taken : goal.returns-in_ok-refuse-in-FullRows-clause-taken
returns-in_ok-refuse-in-FullRows-clause-taken c v o r other shape once =
    let t = c.args.self.now in
    let s = subst (λ (e : Entry). has_shape v (plain e) ≡ true) c.in-FullRows.is shape in
    let e = c.in_ok-refuse-in-FullRows.ensures in
    subst (λ (x : Entry). Takes v o (plain x) c.refuse-in-FullRows.new.self) (sym c.in-FullRows.is)
    (gaps_line v o t c.refuse-in-FullRows.new.self (PlainFullRows c.in-FullRows.host c.in-FullRows.id c.in-FullRows.rows c.in-FullRows.limit)
    c.in-FullRows.host c.in-FullRows.id refl refl r (e.kept v o r) (e.delivered v o r) (e.due v o r) e.count.here)

pub returns-in_ok-refuse-in-FullPages-clause-taken : goal.returns-in_ok-refuse-in-FullPages-clause-taken
returns-in_ok-refuse-in-FullPages-clause-taken c v o r other shape once =
    let t = c.args.self.now in
    let s = subst (λ (e : Entry). has_shape v (plain e) ≡ true) c.in-FullPages.is shape in
    let e = c.in_ok-refuse-in-FullPages.ensures in
    subst (λ (x : Entry). Takes v o (plain x) c.refuse-in-FullPages.new.self) (sym c.in-FullPages.is)
    (gaps_line v o t c.refuse-in-FullPages.new.self (PlainFullPages c.in-FullPages.host c.in-FullPages.id c.in-FullPages.need c.in-FullPages.free)
    c.in-FullPages.host c.in-FullPages.id refl refl r (e.kept v o r) (e.delivered v o r) (e.due v o r) e.count.here)

pub returns-in_ok-send-in-Send-clause-taken : goal.returns-in_ok-send-in-Send-clause-taken
returns-in_ok-send-in-Send-clause-taken c v o r other shape once =
    let t = c.args.self.now in
    let a = c.in-Send in
    let s = subst (λ (e : Entry). has_shape v (plain e) ≡ true) a.is shape in
    let e = c.in_ok-send-in-Send.ensures in
    let p : Sent = record { from = a.from; to = a.to; inc = a.inc; role = a.role; id = a.id; body = a.body; payload = a.payload.now } in
    let made = made_by v t a.id (is_behind v && a.number == length v.packets) r.kept s in
    let k : Packet = record { from = a.from; to = a.to; inc = a.inc; role = a.role; id = a.id; piece = c.of.result } in
    let is : k ≡ packet_of p = λ i. record { from = a.from; to = a.to; inc = a.inc; role = a.role; id = a.id; piece = c.of.ensures i } in
    subst (λ (x : Entry). Takes v o (plain x) c.send.new.self) (sym a.is)
    (send_line v o t c.send.new.self p a.number a.level r (e.kept v p r.kept made is refl) (e.block v p o r.kept made is refl r.delivered) e.due e.count.here)

-- the line of no event says nothing of what is kept
others : (c : goal.In_default) (v : View) (o : Option Undo) → Ready v o c.args.self.now → IsOther (plain c.args.line.now) → (x : Entry)
    → c.args.line.now ≡ x → Takes v o (plain x) c.args.self.now
others c v o r other (entry.Settings a) e = absurd (subst (λ (y : Entry). IsOther (plain y)) e other)
others c v o r other (entry.Call a b d f) e = let h : true ≡ false = subst (λ (y : Entry). is_event (plain y) ≡ false) e c.requires in absurd cc
others c v o r other (entry.Deliver a) e = let h : true ≡ false = subst (λ (y : Entry). is_event (plain y) ≡ false) e c.requires in absurd cc
others c v o r other (entry.Recv a b d) e = let h : true ≡ false = subst (λ (y : Entry). is_event (plain y) ≡ false) e c.requires in absurd cc
others c v o r other (entry.Clock a) e = let h : true ≡ false = subst (λ (y : Entry). is_event (plain y) ≡ false) e c.requires in absurd cc
others c v o r other (entry.Restart a b) e = let h : true ≡ false = subst (λ (y : Entry). is_event (plain y) ≡ false) e c.requires in absurd cc
others c v o r other (entry.Inject a b) e = let h : true ≡ false = subst (λ (y : Entry). is_event (plain y) ≡ false) e c.requires in absurd cc
others c v o r other (entry.Shift a b) e = let h : true ≡ false = subst (λ (y : Entry). is_event (plain y) ≡ false) e c.requires in absurd cc
others c v o r other (entry.Send a b d f g h i j k) e = absurd (c.in_default.not-Send a b d f g h i j k e)
others c v o r other (entry.Run a b d f g h) e = absurd (c.in_default.not-Run a b d f g h e)
others c v o r other (entry.Done a b) e = absurd (c.in_default.not-Done a b e)
others c v o r other (entry.Fail a b) e = absurd (c.in_default.not-Fail a b e)
others c v o r other (entry.Drop a b) e = absurd (c.in_default.not-Drop a b e)
others c v o r other (entry.Stale a b d) e = absurd (c.in_default.not-Stale a b d e)
others c v o r other (entry.Gaps a b) e = absurd (c.in_default.not-Gaps a b e)
others c v o r other (entry.FullRows a b d f) e = absurd (c.in_default.not-FullRows a b d f e)
others c v o r other (entry.FullPages a b d f) e = absurd (c.in_default.not-FullPages a b d f e)
others c v o r other x e = other_line v o c.args.self.now (plain x) refl refl r

pub returns-in_default : goal.returns-in_default
returns-in_default c = record {
  taken = λ v o r other shape once. others c v o r other c.args.line.now refl;
  numbers = record { place = refl; ended = refl };
}
