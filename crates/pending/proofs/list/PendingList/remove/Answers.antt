use Rattle.std.proofs.Common.{◌≡◌, ◌-◌, ◌≢◌, length, get_or, set, sym, ap, ◌∙◌, arith}
use Rattle.std.proofs.lemmas.Grind.{common_steps}
use Rattle.pending.specs.Orders.{rest}
use Rattle.pending.specs.Lists.{order}
use Rattle.pending.proofs.Stores.{Popped, stands, popped, facts, chain_is, list_oldest}
use Rattle.pending.proofs.list.PendingList.remove.Goals as goal
use Rattle.pending.proofs.list.PendingList.remove.Goals.{After-tail_behind-self}

-- the store without its first number
after : (g : _) (c : After-tail_behind-self g)
    → Popped c.args.self.now.head (order c.args.self.now) c.unlink-self.result c.tail_behind-self.result c.unlink-self.new.next (c.args.self.now.len - 1)
after g c =
    let p = c.args.self.now in
    let k = g.K.Key.code c.args.first.now in
    let o = list_oldest p in
    let e : k ≡ p.head = grind (arith, common_steps, o, c.requires) in
    let b : p.head ≢ 255 = grind (arith, common_steps, o, c.requires) in
    popped _ _ _ _ _ (omega arith) (stands p) b _ _ _ (c.unlink-self.ensures.answer ∙ ap (λ n. get_or p.next n 0) e) (c.unlink-self.ensures.moves ∙ ap (λ n. set p.next n 255) e) c.tail_behind-self.ensures

pub overflow_sub-self : goal.overflow_sub-self
overflow_sub-self g c = omega (arith, (stands c.args.self.now).counts, ap length (after g c).order)

pub invariant_of-self : goal.invariant_of-self
invariant_of-self g c = facts (after g c).left

pub returns : goal.returns
returns g c =
    let a = after g (goal.at.returns g c).After-tail_behind-self in
    chain_is a.left ∙ sym (ap rest a.order)
