use Rattle.std.proofs.Common.{sym, refl}
use Rattle.line.specs.FirstComeLemmas.{queue, facts, queue_rest, queue_take}
use Rattle.line.proofs.first_come.FirstComeLine.take.Goals as goal

pub invariant_of-self : goal.invariant_of-self
invariant_of-self c =
    let l = c.args.self.now in
    let f = facts _ _ _ _ c.take.ensures.moves (queue_rest _ _ _ (queue l)) in
    record { placed = f.placed; known = f.known }

pub returns-clause-moves : goal.returns-clause-moves
returns-clause-moves c = let l = c.args.self.now in queue_take l c.take.result _ refl (sym c.if-is_empty.ensures) c.take.ensures.answer c.take.ensures.moves
