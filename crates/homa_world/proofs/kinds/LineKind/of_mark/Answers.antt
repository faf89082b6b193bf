-- A packet's kind is read from its frame.
use Rattle.std.proofs.Common.{◌≡◌, sym, subst}
use Rattle.host_view.specs.declared.mark.Mark.{Mark}
use Rattle.host_view.specs.Marks.{shown}
use Rattle.homa_host.specs.Public.{IsHeld}
use Rattle.homa_world.specs.Kinds.{kind_of}
use Rattle.homa_world.proofs.KindLaws.{frame_kind}
use Rattle.homa_world.proofs.kinds.LineKind.of_mark.Goals as goal

pub returns-in-Sent : goal.returns-in-Sent
returns-in-Sent c = λ h whole is.
    let out = c.args.out.now in
    let kind = c.of_datagram.result in
    let held = subst (λ (m : Mark). IsHeld h out m) c.in-Sent.is is in
    subst (λ (m : Mark). kind ≡ kind_of (shown h out whole m)) (sym c.in-Sent.is)
    (frame_kind h out c.in-Sent.number c.bytes.result.now whole kind c.bytes.ensures c.of_datagram.ensures held)
