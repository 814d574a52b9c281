-- The example of round robin, by computing. Assumes nothing.
use Rattle.std.proofs.Common.{refl}
use Rattle.line.specs.Turns.{bit, turns_before, least}
use Rattle.line.specs.Examples.{TurnsExample}

pub turns_example : TurnsExample
unfolding bit turns_before least
turns_example = record { first = refl; then = refl }
