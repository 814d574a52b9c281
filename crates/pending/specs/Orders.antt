-- What the calls of a once-pending list do to its order: the numbers of its keys, the oldest first.
-- is_empty: there is none.
-- add_answer, added: what adding k answers, and the order after it. A pending key is refused.
-- oldest, rest: what taking yields, and the order after it.
use Rattle.std.specs.Prelude.{ℕ, Bool, cond, not, List, [], ◌∷◌, ◌++◌, is_some, Some, None, Ok, Err, Option, Result}
use Rattle.calls.specs.declared.refusal.Refusal.{Refusal}
use Rattle.calls.specs.declared.refusal.Refusal.TheVariants.{AlreadyPending}
use Rattle.pending.specs.Numbers.{has}

abbrev pub add_answer : ℕ → List ℕ → Result (Unit {0}) Refusal
add_answer k xs = cond (has k xs) (Err AlreadyPending) (Ok tt)

abbrev pub added : ℕ → List ℕ → List ℕ
added k xs = cond (has k xs) xs (xs ++ k ∷ [])

abbrev pub oldest : List ℕ → Option ℕ
oldest [] = None
oldest (x ∷ xs) = Some x

abbrev pub is_empty : List ℕ → Bool
is_empty xs = not (is_some (oldest xs))

abbrev pub rest : List ℕ → List ℕ
rest [] = []
rest (x ∷ xs) = xs
