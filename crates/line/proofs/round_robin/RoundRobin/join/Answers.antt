use Rattle.std.proofs.Common.{◌≡◌, ◌*◌, ◌%◌, ◌^◌, refl, ap, arith}
use Rattle.std.specs.Prelude.{bit_or}
use Rattle.line.specs.Turns.{with_bit}
use Rattle.line.specs.TurnsLemmas.{round_set, round_put}
use Rattle.line.specs.RoundRobinLemmas.{round, facts, shifted}
use Rattle.line.proofs.round_robin.RoundRobin.join.Goals as goal
use Rattle.line.proofs.round_robin.RoundRobin.join.Goals.{Start}

-- the word with the client's bit set
grown : (c : Start) → bit_or c.args.self.now.word (1 * 2 ^ c.args.client % 4294967296) ≡ with_bit c.args.self.now.word c.args.client
grown c = let l = c.args.self.now in ap (bit_or l.word) (shifted c.args.client (omega (arith, l.few, c.requires)))

pub invariant_of-self : goal.invariant_of-self
invariant_of-self c = facts _ _ _ _ (grown c) (round_set _ _ _ (round c.args.self.now) c.args.client c.requires)

pub returns : goal.returns
returns c =
    let l = c.args.self.now in
    let e = grown (goal.at.returns c).Start in
    record {
      moves = rw e (round_put _ _ _ (round l) c.args.client c.requires);
      word = e;
      last = refl;
    }
