use Rattle.boardfile.proofs.Lends.{records_more}
use Rattle.boardfile.proofs.writer.put_records.Goals as goal

pub loop-index-preserved : goal.loop-index-preserved
loop-index-preserved c = records_more c.args.events.now _ c.args.buf.now c.loop-index.buf c.put.new.buf c.loop-index.index c.loop-index-test.true c.loop-index.invariant (rw c.encode.ensures at c.put.ensures)
