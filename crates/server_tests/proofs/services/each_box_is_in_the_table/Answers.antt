-- A replaced host has a seat again.
use Rattle.homa_service.specs.Table.{places, spares}
use Rattle.homa_service.proofs.TableLaws.{full-replaced}
use Rattle.server_tests.proofs.services.each_box_is_in_the_table.Goals as goal

pub loop-left-preserved : goal.loop-left-preserved
loop-left-preserved g c =
    full-replaced c.replace.result (places c.loop-left.table) (places c.replace.new.self) (spares c.loop-left.table) 1
    c.replace.ensures.none c.replace.ensures.places c.replace.ensures.err_places c.loop-left.invariant
