use Rattle.std.proofs.Common.{◌∙◌, ◌++◌, ◌∷◌, [], refl, ap, false, true, Some, None}
use Rattle.std.specs.Prelude.{if◌then◌else◌}
use Rattle.check_call.specs.declared.call.Call.{Call}
use Rattle.check_lines.proofs.Places.{same_id}
use Rattle.check_lines.proofs.StartLaws.{start_keeps, new_call, not_among, absent_call}
use Rattle.check_lines.proofs.trace.Trace.start.Goals as goal

pub returns-clause-kept : goal.returns-clause-kept
returns-clause-kept c v keeps fresh =
    let t = c.args.self.now in
    let id = c.args.id in
    let bytes = c.args.bytes.now in
    let d : Call = record {
      server = c.args.server;
      service = c.args.service;
      request = c.in_ok-from_slice.field-0;
      size = c.min.result;
      sent_last = false;
      runs = c.new.result;
      lives = c.lives-lives.result;
      spot =
          record { live = Some 0; request = None; response = None; resends = record { count = 0; latest = record { tick = 0; lead = 0 }; are_spaced = true } };
      asked = c.empty.result;
      answered = c.empty-2.result;
    } in
    let is = new_call v id c.args.server bytes fresh in
    let none = absent_call v t id bytes keeps is in
    start_keeps v t id c.args.server c.args.service bytes keeps is _ d
    (record {
      server_is = refl;
      service_is = refl;
      request_is = c.in_ok-from_slice.ensures.items;
      size = c.min.ensures;
      sent = refl;
      runs = c.new.ensures.items;
      lives = c.lives-lives.ensures;
      spot_is = refl;
    })
    refl
    (c.in_ok-insert.ensures.keys ∙ ap (λ b. if b then t.ids.keys else t.ids.keys ++ id ∷ [])
    (not_among _ t.ids.keys t.calls.items id (same_id id) keeps.aligned none))
    c.in_ok-push.ensures.items
