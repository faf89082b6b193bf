use Rattle.std.proofs.Common.{rules, sym, ◌∙◌}
use Rattle.homa_wire.specs.declared.header.Header.{Header}
use Rattle.homa_wire.proofs.Headers.{header_fits, header_fails}
use Rattle.homa_wire.proofs.header.read_fields.Goals as goal

pub returns-then-not-is_header : goal.returns-then-not-is_header
returns-then-not-is_header c =
    let h : Header = record {
      kind = c.args.kind;
      role = c.in_ok-role.role;
      level = c.args.level;
      sender = c.in_ok-sender.sender;
      inc = c.in_ok-inc.inc;
      seq = c.in_ok-inc.seq;
      at = c.in_ok-at.at;
    } in
    header_fails c.args.wire c.args.role c.args.bytes.now h c.in_ok-at.rest.now (record {
      first = c.in_ok-sender.rest.now;
      second = c.in_ok-inc.rest.now;
      role = c.in_ok-role.ensures;
      sender = first_of (cc c.in_ok-sender.ensures, search (rules, c.in_ok-sender.ensures));
      call = first_of (cc c.in_ok-inc.ensures, search (rules, c.in_ok-inc.ensures));
      tick = first_of (cc c.in_ok-at.ensures, search (rules, c.in_ok-at.ensures));
    }) (sym c.is_header.ensures ∙ c.if-not-is_header.true)

pub returns : goal.returns
returns c =
    let h : Header = record {
      kind = c.args.kind;
      role = c.in_ok-role.role;
      level = c.args.level;
      sender = c.in_ok-sender.sender;
      inc = c.in_ok-inc.inc;
      seq = c.in_ok-inc.seq;
      at = c.in_ok-at.at;
    } in
    header_fits c.args.wire c.args.role c.args.bytes.now h c.in_ok-at.rest.now (record {
      first = c.in_ok-sender.rest.now;
      second = c.in_ok-inc.rest.now;
      role = c.in_ok-role.ensures;
      sender = first_of (cc c.in_ok-sender.ensures, search (rules, c.in_ok-sender.ensures));
      call = first_of (cc c.in_ok-inc.ensures, search (rules, c.in_ok-inc.ensures));
      tick = first_of (cc c.in_ok-at.ensures, search (rules, c.in_ok-at.ensures));
    }) (sym c.is_header.ensures ∙ c.if-not-is_header.false)
