use Rattle.line.proofs.Examples.{turns_example}
use Rattle.line_tests.proofs.example.round_robin.Goals as goal

pub returns : goal.returns
returns c = turns_example
