-- First come, first served: a list of the waiting clients, in their order of arrival.
-- in_front: how many stand in front of c.
-- arrivals_view: what a line with such a list means, for n clients with k places.
-- arrived: the list after a put, by its answer.
use Rattle.std.specs.Prelude.{ℕ, suc, ◌-◌, cond, List, [], ◌∷◌, ◌++◌, Ok, Err, Result, ◌==◌}
use Rattle.calls.specs.declared.refusal.Refusal.{Refusal}
use Rattle.pending.specs.Numbers.{has}
use Rattle.pending.specs.Orders.{oldest}
use Rattle.line.specs.Lines.{LineView}

unfoldable pub in_front : ℕ → List ℕ → ℕ
in_front c [] = 0
in_front c (x ∷ xs) = cond (c == x) 0 (suc (in_front c xs))

abbrev pub arrivals_view : ℕ → ℕ → List ℕ → LineView
arrivals_view n k xs = record {
  size = record { clients = n; places = k; bound = k - 1 };
  waits = λ c. has c xs;
  patience = λ c. in_front c xs;
  next = oldest xs;
}

abbrev pub arrived : Result (Unit {0}) Refusal → ℕ → List ℕ → List ℕ
arrived (Ok _) c xs = xs ++ c ∷ []
arrived (Err _) c xs = xs
