-- Laws of lists of numbers. Assumes nothing.
use Rattle.std.proofs.Common.{◌≡◌, ℕ, zero, suc, ◌+◌, ◌<◌, ◌≤◌, true, false, cond, not, ◌&&◌, ◌||◌, eqb, ltb, List, [], ◌∷◌, ◌++◌, length, refl, ap, ◌∙◌, ⊎_elim, arith}
use Rattle.std.proofs.lemmas.Bool.Decides.{nat_tests}
use Rattle.std.proofs.lemmas.Bool.{and_parts, and_from, or_parts, or_right, not-true, eqb-true, ltb-true, lt-ltb, cond-true, cond-false, cases_Bool}
use Rattle.pending.specs.Numbers.{has, distinct, below, ends}
use Rattle.std.proofs.lemmas.Grind.{common_steps}

-- ---- one more at the end
pub has_push : (k y : ℕ) (xs : List ℕ) → has k (xs ++ y ∷ []) ≡ (has k xs || eqb k y)
unfolding has
has_push k y [] = grind (arith, nat_tests)
has_push k y (x ∷ xs) = let r = has_push k y xs in grind (arith, nat_tests)

pub distinct_push : (k : ℕ) (xs : List ℕ) → distinct xs ≡ true → has k xs ≡ false → distinct (xs ++ k ∷ []) ≡ true
unfolding distinct has
distinct_push k [] d h = refl
distinct_push k (x ∷ xs) d h =
    let p = and_parts (not (has x xs)) _ d in
    let q = or_parts (eqb k x) _ h in
    let e = has_push x k xs in
    let r = distinct_push k xs p.1 q.1 in
    grind (arith, nat_tests)

pub below_push : (n k : ℕ) (xs : List ℕ) → below n xs ≡ true → k < n → below n (xs ++ k ∷ []) ≡ true
unfolding below
below_push n k [] b l = and_from (ltb k n) _ (lt-ltb k n l) refl
below_push n k (x ∷ xs) b l = let r = below_push n k xs in grind (arith, common_steps)

pub ends_push : (d k : ℕ) (xs : List ℕ) → ends d (xs ++ k ∷ []) ≡ k
unfolding ends
ends_push d k [] = refl
ends_push d k (x ∷ xs) = ends_push x k xs

-- ---- the last one
pub has_ends : (y : ℕ) (ys : List ℕ) → has (ends y ys) (y ∷ ys) ≡ true
unfolding has ends
has_ends y [] = grind (arith, nat_tests)
has_ends y (z ∷ zs) = or_right (eqb (ends z zs) y) _ (has_ends z zs)

pub ends_below : (n y : ℕ) (ys : List ℕ) → below n (y ∷ ys) ≡ true → ends y ys < n
unfolding below ends
ends_below n y [] b = ltb-true y n (and_parts (ltb y n) _ b).0
ends_below n y (z ∷ zs) b = ends_below n z zs (and_parts (ltb y n) _ b).1

-- ---- distinct numbers below n are at most n
unfoldable without : ℕ → List ℕ → List ℕ
without k [] = []
without k (x ∷ xs) = cond (eqb k x) (without k xs) (x ∷ without k xs)

has_without : (j k : ℕ) (xs : List ℕ) → has j (without k xs) ≡ (has j xs && not (eqb j k))
unfolding has without
has_without j k [] = refl
has_without j k (x ∷ xs) = let r = has_without j k xs in grind (arith, nat_tests)

without_none : (k : ℕ) (xs : List ℕ) → has k xs ≡ false → without k xs ≡ xs
unfolding has without
without_none k [] h = refl
without_none k (x ∷ xs) h = let r = without_none k xs in grind (arith, common_steps)

distinct_without : (k : ℕ) (xs : List ℕ) → distinct xs ≡ true → distinct (without k xs) ≡ true
unfolding distinct without
distinct_without k [] d = refl
distinct_without k (x ∷ xs) d =
    let p = and_parts (not (has x xs)) _ d in
    let r = distinct_without k xs p.1 in
    let e = has_without x k xs in
    grind (arith, nat_tests)

length_without : (k : ℕ) (xs : List ℕ) → distinct xs ≡ true → length xs ≤ length (without k xs) + 1
unfolding distinct without
length_without k [] d = omega arith
length_without k (x ∷ xs) d =
    let p = and_parts (not (has x xs)) _ d in
    ⊎_elim
    (λ e.
    let w : without k xs ≡ xs = without_none k xs (rw (eqb-true k x e) (not-true _ p.0)) in
    let c : without k (x ∷ xs) ≡ xs = cond-true (eqb k x) _ _ e ∙ w in
    omega (arith, ap length c))
    (λ e.
    let c : without k (x ∷ xs) ≡ x ∷ without k xs = cond-false (eqb k x) _ _ e in
    omega (arith, ap length c, length_without k xs p.1))
    (cases_Bool (eqb k x))

below_without : (n : ℕ) (xs : List ℕ) → below (suc n) xs ≡ true → below n (without n xs) ≡ true
unfolding below without
below_without n [] b = refl
below_without n (x ∷ xs) b = let r = below_without n xs in grind (arith, common_steps)

pub length_below : (n : ℕ) (xs : List ℕ) → distinct xs ≡ true → below n xs ≡ true → length xs ≤ n
unfolding below
length_below zero [] d b = omega arith
length_below zero (x ∷ xs) d b = grind (arith, common_steps)
length_below (suc n) xs d b = omega (arith, length_without n xs d, length_below n (without n xs) (distinct_without n xs d) (below_without n xs b))
