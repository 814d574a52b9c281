-- Refusals of the same number and value are equal. Assumes nothing.
use Rattle.std.specs.Prelude.{◌≡◌, Decides}
use Rattle.std.proofs.Common.{arith}
use Rattle.std.proofs.lemmas.Grind.{common_steps}
use Rattle.calls.specs.declared.refusal.Refusal.{Refusal}
use Rattle.calls.specs.Refusals.{refusal_eq}

pub refusal_eq_decides : (x y : Refusal) → Decides (refusal_eq x y) (x ≡ y)
refusal_eq_decides x y = grind (arith, common_steps)
