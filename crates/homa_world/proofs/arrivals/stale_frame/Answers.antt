use Rattle.std.proofs.Common.{refl, ap, ◌∙◌, arith, []}
use Rattle.homa_plain.specs.declared.packet.Role.TheVariants.{Client}
use Rattle.homa_plain.specs.declared.packet.Body.TheVariants as body
use Rattle.homa_plain.specs.declared.packet.Packet.{Packet}
use Rattle.homa_plain.specs.Wire.{packet_in, spelling, IsWellFormed}
use Rattle.homa_plain.proofs.WireLaws.{spelled_is_read}
use Rattle.homa_world.proofs.arrivals.stale_frame.Goals as goal

pub returns : goal.returns
returns c =
    let packet : Packet = record { role = Client; level = 7; sender = 1; inc = 1; seq = 0; at = c.args.at; body = body.Busy } in
    let formed : IsWellFormed 2 packet [] =
    record {
      version = (omega (arith), omega (arith));
      sender = (omega (arith), omega (arith));
      call = (omega (arith), omega (arith), omega (arith));
      tick = c.requires;
      of_kind = (refl, refl);
      bytes = λ _. omega (arith);
    } in
    ((packet, []), ap (packet_in 2) c.encode.ensures ∙ spelled_is_read 2 (spelling 2 packet []) packet [] (formed, refl), refl)
