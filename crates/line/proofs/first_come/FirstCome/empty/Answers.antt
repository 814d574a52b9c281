use Rattle.line.specs.ArrivalsLemmas.{queue_none}
use Rattle.line.specs.FirstComeLemmas.{facts}
use Rattle.line.proofs.first_come.FirstCome.empty.Goals as goal

pub invariant_of-result : goal.invariant_of-result
invariant_of-result c =
    let s = c.args.size in
    let f = facts s.clients s.places _ _ c.new.ensures (queue_none _ _ s.few s.some s.fitting) in
    record { placed = f.placed; known = f.known }
