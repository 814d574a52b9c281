use Rattle.words.proofs.Lines.{lines_more}
use Rattle.words.proofs.listing.add_events.Goals as goal

pub loop-index-preserved : goal.loop-index-preserved
loop-index-preserved c =
    lines_more c.args.events.now _ c.loop-index.index _ _ _ c.loop-index-test.true c.loop-index.invariant c.in_ok-add_event.ensures
