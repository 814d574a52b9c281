-- How many wait. Assumes nothing.
use Rattle.std.specs.Prelude.{◌≡◌, ℕ, zero, suc, ◌<◌, ◌≤◌, Bool, true, false, cond, ◌||◌, ◌≢◌, nat_eq, refl}
use Rattle.std.proofs.Common.{ap, ◌∙◌, ⊎_elim, arith}
use Rattle.std.proofs.lemmas.Bool.Decides.{nat_tests}
use Rattle.std.proofs.lemmas.Bool.{cond-true, cond-false, cases_eq, eq-eqb, ne_eqb, or_right}
use Rattle.line.specs.Lines.{waiting}
use Rattle.std.proofs.lemmas.Grind.{common_steps}

pub nobody_waits : (p : ℕ → Bool) (n : ℕ) → ((c : ℕ) → p c ≡ false) → waiting p n ≡ 0
unfolding waiting
nobody_waits p zero h = refl
nobody_waits p (suc n) h = let r = nobody_waits p n in grind (arith, common_steps)

pub same_wait : (p q : ℕ → Bool) (n : ℕ) → ((c : ℕ) → c < n → p c ≡ q c) → waiting p n ≡ waiting q n
unfolding waiting
same_wait p q zero h = refl
same_wait p q (suc n) h = let r = same_wait p q n in grind (arith, common_steps)

-- x waits too, and nobody else starts or stops
pub one_more : (p q : ℕ → Bool) (x n : ℕ) → x < n → p x ≡ false → q x ≡ true → ((c : ℕ) → c ≢ x → q c ≡ p c) → waiting q n ≡ suc (waiting p n)
unfolding waiting
one_more p q x zero l f t o = absurd (omega arith)
one_more p q x (suc n) l f t o = ⊎_elim
    (λ (e : n ≡ x).
    let i : cond {A = ℕ} (p n) 1 0 ≡ 0 = cond-false (p n) 1 0 (ap p e ∙ f) in
    let j : cond {A = ℕ} (q n) 1 0 ≡ 1 = cond-true (q n) 1 0 (ap q e ∙ t) in
    omega (arith, i, j, same_wait q p n (λ c m. o c (λ g. omega arith))))
    (λ (e : n ≢ x).
    let i : cond {A = ℕ} (q n) 1 0 ≡ cond (p n) 1 0 = ap (λ b. cond {A = ℕ} b 1 0) (o n e) in
    omega (arith, i, one_more p q x n (omega (arith, e)) f t o))
    (cases_eq n x)

one_at_most : (b : Bool) → cond {A = ℕ} b 1 0 ≤ 1
one_at_most true = omega arith
one_at_most false = omega arith

pub at_most : (p : ℕ → Bool) (n : ℕ) → waiting p n ≤ n
unfolding waiting
at_most p zero = omega arith
at_most p (suc n) = omega (arith, at_most p n, one_at_most (p n))

-- one does not wait: fewer than n do
pub one_free : (p : ℕ → Bool) (x n : ℕ) → x < n → p x ≡ false → waiting p n < n
one_free p x n l f =
    let q : ℕ → Bool = λ c. p c || nat_eq c x in
    omega (arith, at_most q n, one_more p q x n l f (or_right (p x) _ (eq-eqb x x refl)) (λ c e. grind (arith, nat_tests, ne_eqb c x e)))
