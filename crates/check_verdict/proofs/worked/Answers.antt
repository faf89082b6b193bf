use Rattle.check_verdict.proofs.Texts as rows
use Rattle.check_verdict.proofs.worked.Goals as goal

pub returns : goal.returns
returns c = record {
  nothing = rows.nothing;
  one_call = rows.one_call;
  no_settings = rows.no_settings;
  run_twice = rows.run_twice;
  another_answer = rows.another_answer;
  done_is_missing = rows.done_is_missing;
  grant_too_far = rows.grant_too_far;
  timeout_too_early = rows.timeout_too_early;
  late_packet = rows.late_packet;
  burial_to_its_end =
      rows.burial_to_its_end;
  server_restarts = rows.server_restarts;
  server_is_full = rows.server_is_full;
  node = rows.node;
  stale_packet = rows.stale_packet;
}
