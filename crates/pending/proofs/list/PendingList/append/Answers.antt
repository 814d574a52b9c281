use Rattle.std.proofs.Common.{◌≡◌, ◌+◌, ◌<◌, false, [], ◌∷◌, ◌++◌, length, ap, arith, ◌∙◌}
use Rattle.pending.specs.Numbers.{has}
use Rattle.pending.specs.Lists.{order}
use Rattle.pending.proofs.Stores.{Stands, stands, stands_first, stands_push, facts, chain_is, room}
use Rattle.pending.proofs.list.PendingList.append.Goals as goal
use Rattle.pending.proofs.list.PendingList.append.Goals.{then-last, else-last, Joined-last}

pub overflow_add-self : goal.overflow_add-self
overflow_add-self g c =
    let p = c.args.self.now in
    omega (arith, room _ (order p) (g.met.K.Key.below c.args.key.now) c.requires (stands p))

-- both ways leave a store for the list with one more
after : (g : _) (c : Joined-last g)
    → Stands c.if-last.self.1.0 c.number-number.result c.if-last.self.1.1.1.0 (c.args.self.now.len + 1) (order c.args.self.now ++ c.number-number.result ∷ [])
after g c =
    let p = c.args.self.now in
    let s = stands p in
    let n : length p.next ≡ 255 = omega arith in
    let k = c.number-number.result in
    let e : k ≡ g.K.Key.code c.args.key.now = c.number-number.ensures in
    let b : k < 255 = omega (arith, g.met.K.Key.below c.args.key.now) in
    let h : has k (order p) ≡ false = rw e c.requires in
    elim c.if-last.branch [
      | then-last w ↦ rw w.self-is (stands_first _ _ k _ _ _ b s w.if-last.true)
      | else-last w ↦ rw w.self-is (stands_push _ _ k _ _ _ n b h s w.if-last.false)
    ]

pub invariant_of-self : goal.invariant_of-self
invariant_of-self g c = facts (after g c)

pub returns : goal.returns
returns g c = chain_is (after g (goal.at.returns g c).Joined-last) ∙ ap (λ k. order c.args.self.now ++ k ∷ []) c.number-number.ensures
