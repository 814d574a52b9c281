use Rattle.std.proofs.Common.{sym}
use Rattle.line.specs.RoundRobinLemmas.{round}
use Rattle.line.specs.TurnsLemmas.{next_later, next_first, next_nobody}
use Rattle.line.proofs.round_robin.RoundRobin.next_client.Goals as goal

pub returns-then-later-ne0 : goal.returns-then-later-ne0
returns-then-later-ne0 c = sym (next_later _ _ _ (round c.args.self.now) c.if-later-ne0.true)

pub returns-then-self-ne0 : goal.returns-then-self-ne0
returns-then-self-ne0 c = sym (next_first _ _ _ (round c.args.self.now) c.if-later-ne0.false c.if-self-ne0.true)

pub returns : goal.returns
returns c = sym (next_nobody _ _ _ (round c.args.self.now) c.if-self-ne0.false)
