-- Numbers that stand for something only if they are small enough.
-- number_below: the number, if it is below n.
use Rattle.std.specs.Prelude.{ℕ, cond, Some, None, Option, nat_lt}

abbrev pub number_below : ℕ → ℕ → Option ℕ
number_below n c = cond (nat_lt c n) (Some c) None
