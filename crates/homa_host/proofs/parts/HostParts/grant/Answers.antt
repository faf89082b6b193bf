-- The message of a slot is granted to.
use Rattle.std.proofs.Common.{◌≡◌, ◌<◌, ◌++◌, ◌∷◌, ℕ, cond, [], length, option_copied, refl, sym, ap, subst, ◌∙◌, arith}
use Rattle.std.specs.Prelude.{IsSomeAnd}
use Rattle.std.proofs.lemmas.List.{length-append}
use Rattle.std.proofs.lemmas.Bool.{lt-ltb}
use Rattle.homa_plain.specs.declared.packet.Body.TheVariants as body
use Rattle.homa_plain.specs.declared.settings.Settings.{Settings}
use Rattle.homa_plain.specs.Grants.{new_end}
use Rattle.homa_plain.specs.Sending.{Arriving}
use Rattle.homa_plain.specs.Work.{Work, posts}
use Rattle.homa_plain.specs.Steps.{grants_at}
use Rattle.host_state.specs.Control.{Control, IsAt}
use Rattle.host_view.specs.declared.mark.Mark.{Mark}
use Rattle.host_books.specs.Ends.{grant_to}
use Rattle.homa_host.specs.declared.parts.HostParts.{HostParts}
use Rattle.homa_host.specs.Parts.{IsKept}
use Rattle.homa_host.specs.Amid.{Amid}
use Rattle.homa_host.specs.Granting.{ArrivesAt, IsPartOf}
use Rattle.homa_host.proofs.Begun.{kept-control, sound-begun, at-amid, amid-at, rest-amid}
use Rattle.homa_host.proofs.ClientStays.{changes_none}
use Rattle.homa_host.proofs.parts.HostParts.grant.Goals as goal
use Rattle.homa_host.proofs.parts.HostParts.grant.Goals.{In-Some}

-- a message is granted to where its new end exceeds its granted one
grant_some : (s : Settings) (a : Arriving) (prio offset : ℕ) (w : Work) → new_end s.window a.message ≡ offset → a.message.granted < offset
    → grant_to s a prio w ≡ grants_at s a.place offset prio w
grant_some s a prio offset w ends l =
    ap (λ b. cond b (grants_at s a.place (new_end s.window a.message) prio w) w) (lt-ltb a.message.granted (new_end s.window a.message) (omega (arith, ends)))
    ∙ ap (λ n. grants_at s a.place n prio w) ends

-- parts whose control told one more entry
kept_told : (p : HostParts) (c : Control) (m : Mark) → c ≡ record p.control { marks = p.control.marks ++ m ∷ [] } → length p.control.marks < 128
    → IsKept p → IsKept (record p { control = c })
kept_told p c m e room kept =
    let marks = p.control.marks ++ m ∷ [] in
    subst (λ (k : Control). IsKept (record p { control = k })) (sym e)
    (kept-control p (record p.control { marks = marks }) (record { settings = refl; id = refl; inc = refl; last = omega arith; opened = refl })
    (sound-begun p.control p.control.last marks kept.control.last (omega (arith, length-append p.control.marks (m ∷ []))) kept.control) kept)

-- the part in the row is that of the message
part_of : (c : In-Some) (a : Arriving) → ArrivesAt c.args.self.now c.args.slot a → IsPartOf c.args.self.now.pool a c.in-Some.part.now
part_of c a is = subst (λ o. IsSomeAnd o (IsPartOf c.args.self.now.pool a)) (ap option_copied c.in-Some.is) (c.incoming.ensures a is)

pub returns-then-offset-granted-clause-changes : goal.returns-then-offset-granted-clause-changes
returns-then-offset-granted-clause-changes c = λ a is. changes_none c.args.self.now c.requires.kept a.place c.args.slot is.at

pub returns-clause-kept : goal.returns-clause-kept
returns-clause-kept c =
    kept_told c.raise-role.new.self c.post.new.self _ c.post.ensures.marks
    (omega (arith, c.requires.room.marks_left, ap (λ (k : Control). length k.marks) c.raise-role.ensures.control)) c.raise-role.ensures.kept

pub returns-clause-step : goal.returns-clause-step
returns-clause-step c = λ a w is amid.
    let h = c.args.self.now in
    let s = h.control.settings in
    let mid = c.raise-role.new.self in
    let to = c.raise-role.result in
    let offset = c.new_end_of-offset.result in
    let part = part_of (goal.at.returns-clause-step c).In-Some a is in
    let ends : new_end s.window a.message ≡ offset =
    sym (c.new_end_of-offset.ensures.end h.pool part.inside ∙ (λ i. new_end (c.settings.ensures.settings i).window (sym part.message i))) in
    let more : a.message.granted < offset = omega (arith, ap (λ m. m.granted) part.message, c.granted.ensures.value, c.if-offset-granted.false) in
    let r = (c.raise-role.ensures.raised a is).step w c.args.out.now amid in
    let rest = rest-amid r.0 mid c.args.out.now r.1 in
    let posted = subst (λ (k : Settings). IsAt (posts k to.0 to.1 to.2 (body.Grant offset c.args.prio) r.0) c.post.new.self c.post.new.out)
    (ap (λ (k : Control). k.settings) c.raise-role.ensures.control)
    (c.post.ensures.step r.0 (at-amid r.0 mid c.args.out.now r.1)) in
    subst (λ (v : Work). Amid v (record mid { control = c.post.new.self }) c.post.new.out)
    (sym (grant_some s a c.args.prio offset w ends more ∙ r.2 c.args.prio))
    (amid-at (posts s to.0 to.1 to.2 (body.Grant offset c.args.prio) r.0) (record mid { control = c.post.new.self }) c.post.new.out posted
    (record { seq = rest.seq; order = rest.order; credit = rest.credit; refilled = rest.refilled; clients = rest.clients; servers = rest.servers }))
