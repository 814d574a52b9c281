-- The one of least patience among those who wait. Assumes nothing.
use Rattle.std.specs.Prelude.{◌≡◌, ℕ, zero, suc, ◌<◌, ◌≤◌, Bool, true, false, ◌≢◌, Some, None, Option, refl}
use Rattle.std.proofs.Common.{arith}
use Rattle.std.proofs.Math.Path.{subst}
use Rattle.std.proofs.lemmas.Bool.{both_ways}
use Rattle.line.specs.Turns.{least}
use Rattle.std.proofs.lemmas.Grind.{common_steps}

module _ (waits : ℕ → Bool) (patience : ℕ → ℕ) where
  pub record Found (n g : ℕ) : Type 0 where
    pub inside : g < n
    pub here : waits g ≡ true
    pub first : (d : ℕ) → d < n → waits d ≡ true → patience g ≤ patience d

  -- what is found below n: nobody waits there, or the one of least patience
  abbrev pub Least : ℕ → Option ℕ → Type 0
  Least n None = (d : ℕ) → d < n → waits d ≡ false
  Least n (Some g) = Found n g

  pub least_law : (n : ℕ) → Least n (least waits patience n)
  unfolding least
  least_law zero = λ d l. absurd (omega arith)
  least_law (suc n) = let r = least_law n in grind (arith, common_steps)

  pub least_some : (n g : ℕ) → least waits patience n ≡ Some g → Found n g
  least_some n g e = subst (Least n) e (least_law n)

  pub least_none : (n : ℕ) → least waits patience n ≡ None → (d : ℕ) → d < n → waits d ≡ false
  least_none n e = subst (Least n) e (least_law n)

  -- nobody else can be found than who waits with less patience than every other
  only : (n g : ℕ) (o : Option ℕ) → Least n o → g < n → waits g ≡ true → ((d : ℕ) → d ≢ g → waits d ≡ true → patience g < patience d) → o ≡ Some g
  only n g None h l w s = absurd (both_ways (waits g) (h g l) w)
  only n g (Some d) h l w s = grind (arith, common_steps)

  pub least_is : (n g : ℕ) → g < n → waits g ≡ true → ((d : ℕ) → d ≢ g → waits d ≡ true → patience g < patience d) → least waits patience n ≡ Some g
  least_is n g = only n g _ (least_law n)

  nobody : (n : ℕ) (o : Option ℕ) → Least n o → ((d : ℕ) → waits d ≡ false) → o ≡ None
  nobody n None h s = refl
  nobody n (Some g) h s = absurd (both_ways (waits g) (s g) h.here)

  pub least_nobody : (n : ℕ) → ((d : ℕ) → waits d ≡ false) → least waits patience n ≡ None
  least_nobody n = nobody n _ (least_law n)
