use Rattle.std.proofs.Common.{◌≡◌, [], ◌∷◌, ◌++◌, arith}
use Rattle.std.proofs.lemmas.Bool.Decides.{nat_tests}
use Rattle.std.proofs.lemmas.Grind.{common_steps}
use Rattle.pending.specs.Lists.{order}
use Rattle.pending.proofs.Lists.{once}
use Rattle.line.specs.FirstCome.{arrivals}
use Rattle.line.specs.ArrivalsLemmas.{Queue, queue_waiting, queue_push, queue_put}
use Rattle.line.specs.FirstComeLemmas.{queue, facts}
use Rattle.line.proofs.first_come.FirstCome.join.Goals as goal
use Rattle.line.proofs.first_come.FirstCome.join.Goals.{After-add}

-- the queue after the add
grown : (c : After-add) → order c.add.new.self ≡ arrivals c.args.self.now ++ c.args.client ∷ []
grown c = grind (arith, common_steps)

after : (c : After-add) → Queue c.args.self.now.size.clients c.args.self.now.size.places (arrivals c.args.self.now ++ c.args.client ∷ [])
after c =
    let l = c.args.self.now in
    let w = queue_waiting l.size.clients (arrivals l) (once l.queue) l.known in
    let free = c.requires.free in
    queue_push _ _ _ (arrivals l) (queue l) c.requires.known c.requires.absent (grind (arith, nat_tests))

pub invariant_of-self : goal.invariant_of-self
invariant_of-self c = let f = facts _ _ _ _ (grown c) (after c) in record { placed = f.placed; known = f.known }

pub returns : goal.returns
returns c =
    let at = (goal.at.returns c).After-add in
    let e = grown at in
    record { moves = rw e (queue_put _ _ _ (arrivals c.args.self.now) (after at)); exact = e }
