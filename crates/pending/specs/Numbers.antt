-- Lists of numbers.
-- has: is it in the list?
-- distinct: no number stands twice.
-- below: each is less than n.
-- ends: the last one, or d where there is none.
use Rattle.std.specs.Prelude.{ℕ, Bool, true, false, not, ◌&&◌, ◌||◌, List, [], ◌∷◌, ◌==◌, nat_lt}

unfoldable pub has : ℕ → List ℕ → Bool
has k [] = false
has k (x ∷ xs) = k == x || has k xs

unfoldable pub distinct : List ℕ → Bool
distinct [] = true
distinct (x ∷ xs) = not (has x xs) && distinct xs

unfoldable pub below : ℕ → List ℕ → Bool
below n [] = true
below n (x ∷ xs) = nat_lt x n && below n xs

unfoldable pub ends : ℕ → List ℕ → ℕ
ends d [] = d
ends d (x ∷ xs) = ends x xs
