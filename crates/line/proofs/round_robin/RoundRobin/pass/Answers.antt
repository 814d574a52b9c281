use Rattle.std.proofs.Common.{◌≡◌, ◌-◌, ◌*◌, ◌%◌, ◌^◌, ◌<◌, refl, ap, arith}
use Rattle.std.specs.Prelude.{bit_and}
use Rattle.line.specs.Turns.{bit, turns_before, without_bit}
use Rattle.line.specs.Least.{least_some}
use Rattle.line.specs.TurnsLemmas.{round_clear, round_took}
use Rattle.line.specs.RoundRobinLemmas.{round, facts, shifted, least}
use Rattle.line.proofs.round_robin.RoundRobin.pass.Goals as goal
use Rattle.line.proofs.round_robin.RoundRobin.pass.Goals.{Start}

inside : (c : Start) → c.args.next < c.args.self.now.clients
inside c = let l = c.args.self.now in (least_some (bit l.word) (turns_before l.clients l.last) l.clients _ c.requires).inside

-- the word with its bit cleared
gone : (c : Start) → bit_and c.args.self.now.word (4294967295 - 1 * 2 ^ c.args.next % 4294967296) ≡ without_bit c.args.self.now.word c.args.next
gone c = let l = c.args.self.now in ap (λ m. bit_and l.word (4294967295 - m)) (shifted c.args.next (omega (arith, l.few, inside c)))

pub overflow_shl-self : goal.overflow_shl-self
overflow_shl-self c = omega (arith, c.args.self.now.few, inside c)

pub invariant_of-self : goal.invariant_of-self
invariant_of-self c = facts _ _ _ _ (gone c) (round_clear _ _ _ (round c.args.self.now) c.args.next (inside c))

pub returns : goal.returns
returns c =
    let l = c.args.self.now in
    let e = gone (goal.at.returns c).Start in
    record { least = least l _ c.requires; moves = rw e (round_took _ _ _ (round l) c.args.next c.requires); word = e; last = refl }
