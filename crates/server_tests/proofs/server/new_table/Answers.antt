use Rattle.std.proofs.Common.{subst, sym}
use Rattle.msg_pool.specs.Pool.{Pool}
use Rattle.homa_in.specs.Pooled.{AreIn}
use Rattle.homa_server.specs.Table.{Servers, request_at}
use Rattle.homa_server.proofs.ArrivingLaws.{if_ok}
use Rattle.homa_server.proofs.TableLaws.{requests-empty}
use Rattle.server_tests.proofs.server.new_table.Goals as goal

pub returns : goal.returns
returns c = if_ok c.open.result _ _ (λ t e pool. subst (λ (v : Servers). AreIn pool (request_at v.rows)) (sym e) (requests-empty pool)) c.open.ensures
