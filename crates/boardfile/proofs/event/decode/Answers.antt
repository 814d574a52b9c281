use Rattle.std.proofs.Common.{arith}
use Rattle.std.proofs.lemmas.Grind.{common_steps}
use Rattle.boardfile.proofs.event.decode.Goals as goal

pub returns-in-3-clause-layout : goal.returns-in-3-clause-layout
returns-in-3-clause-layout c = grind (arith, common_steps)
