-- What a head, a tail and a table of next numbers stand for. 255 stands for no number.
-- walk: the numbers met from one on, each by the table from the one before, at most so many.
-- chain: all that are met from the head on.
-- linked: exactly these numbers are met, in this order, and then none.
-- Linked, Distinct, Ended, Clear, Counted: what a store keeps. Its chain comes to an end; no number is met twice; the tail is the last one;
--   the next number of one that is not met is 255; and so many are met.
use Rattle.std.specs.Prelude.{◌≡◌, ℕ, zero, suc, ◌<◌, Bool, true, false, cond, ◌&&◌, List, [], ◌∷◌, length, ◌==◌, nat_lt, slice_index}
use Rattle.pending.specs.Numbers.{has, distinct, ends}

unfoldable pub walk : ℕ → ℕ → List ℕ → List ℕ
walk zero at next = []
walk (suc more) at next = cond (nat_lt at 255) (at ∷ walk more (slice_index next at) next) []

abbrev pub chain : ℕ → List ℕ → List ℕ
chain head next = walk 255 head next

unfoldable pub linked : List ℕ → ℕ → List ℕ → Bool
linked next at [] = at == 255
linked next at (x ∷ xs) = x == at && (nat_lt x 255 && linked next (slice_index next x) xs)

abbrev pub Linked : ℕ → List ℕ → Type 0
Linked head next = linked next head (chain head next) ≡ true

abbrev pub Distinct : ℕ → List ℕ → Type 0
Distinct head next = distinct (chain head next) ≡ true

abbrev pub Ended : ℕ → ℕ → List ℕ → Type 0
Ended head tail next = ends 255 (chain head next) ≡ tail

abbrev pub Clear : ℕ → List ℕ → Type 0
Clear head next = (k : ℕ) → k < 255 → has k (chain head next) ≡ false → slice_index next k ≡ 255

abbrev pub Counted : ℕ → ℕ → List ℕ → Type 0
Counted len head next = len ≡ length (chain head next)
