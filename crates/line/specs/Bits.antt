-- The bits of a word. Assumes nothing.
use Rattle.std.specs.Prelude.{◌≡◌, ℕ, zero, suc, ◌+◌, ◌-◌, ◌/◌, ◌%◌, ◌^◌, ◌<◌, ◌≤◌, true, false, cond, not, ◌≢◌, ◌&&◌, ◌||◌, ◌==◌, bit_and, bit_or, nat_eq, refl}
use Rattle.std.proofs.Common.{sym, ap, subst, ◌∙◌, ⊎_elim, arith, w32}
use Rattle.std.specs.Int.{bit_at}
use Rattle.std.specs.Int.Count.{count_trailing_zeros, ones}
use Rattle.std.proofs.lemmas.Bool.Decides.{nat_tests}
use Rattle.std.proofs.lemmas.Bool.{cases_eq, cases_lt}
use Rattle.std.proofs.lemmas.Nat.{mod_below, pow_below, pow_pos, shr-shr, shr_split, shr_below, ones_cat}
use Rattle.std.proofs.lemmas.Nat.Bits.{bit_at_and, bit_at_or, shr_and_one, bit_at-pow_same, bit_at-pow_other, bit_at_not, bit_at-lt, bit_at_above, bit_at_cat_low}
use Rattle.line.specs.Lines.{waiting}
use Rattle.line.specs.Turns.{bit, with_bit, without_bit}
use Rattle.line.specs.Waiting.{same_wait}
use Rattle.std.proofs.lemmas.Grind.{common_steps}

-- ---- a word of n bits has none above
pub bit_high : (w n d : ℕ) → w < 2 ^ n → n ≤ d → bit w d ≡ false
unfolding bit
bit_high w n d h l = ap (λ b. nat_eq b 1) (bit_at_above w n d h l)

pub bit_below : (w n c : ℕ) → w < 2 ^ n → bit w c ≡ true → c < n
bit_below w n c h b = ⊎_elim (λ l. l) (λ (l : n ≤ c). let f = bit_high w n c h l in absurd (grind (arith, nat_tests))) (cases_lt c n)

pub bit_none : (c : ℕ) → bit 0 c ≡ false
bit_none c = bit_high 0 c c (pow_pos c) (omega arith)

-- ---- what is done to words, bit by bit
bit_of_or : (a b d : ℕ) → bit (bit_or a b) d ≡ (bit a d || bit b d)
unfolding bit
bit_of_or a b d = let o = bit_at_or a b d in let p = bit_at-lt a d in let q = bit_at-lt b d in grind (arith, nat_tests)

bit_of_and : (a b d : ℕ) → bit (bit_and a b) d ≡ (bit a d && bit b d)
unfolding bit
bit_of_and a b d = let o = bit_at_and a b d in let p = bit_at-lt a d in let q = bit_at-lt b d in grind (arith, nat_tests)

bit_not : (x d : ℕ) → x < 2 ^ 32 → d < 32 → bit (4294967295 - x) d ≡ not (bit x d)
unfolding bit
bit_not x d h l = let o = bit_at_not w32 x d h l in let p = bit_at-lt x d in grind (arith, nat_tests)

bit_one : (c d : ℕ) → bit (2 ^ c) d ≡ (d == c)
unfolding bit
bit_one c d = ⊎_elim
    (λ (e : d ≡ c). let s : bit_at (2 ^ c) d ≡ 1 = ap (bit_at (2 ^ c)) e ∙ bit_at-pow_same c in grind (arith, nat_tests))
    (λ ne. let s = bit_at-pow_other c d ne in grind (arith, nat_tests))
    (cases_eq d c)

-- ---- one bit set, one cleared
pub bit_set : (w c d : ℕ) → bit (with_bit w c) d ≡ (bit w d || d == c)
bit_set w c d = bit_of_or w (2 ^ c) d ∙ ap (λ b. bit w d || b) (bit_one c d)

pub bit_clear : (w n c d : ℕ) → n ≤ 32 → w < 2 ^ n → c < n → bit (without_bit w c) d ≡ (bit w d && not (d == c))
bit_clear w n c d hn hw hc =
    let o = bit_of_and w (4294967295 - 2 ^ c) d in
    let e = bit_one c d in
    ⊎_elim
    (λ (l : d < n). let f = bit_not (2 ^ c) d (pow_below c 32 (omega arith)) (omega arith) in grind (arith, nat_tests))
    (λ (l : n ≤ d). let f = bit_high w n d hw l in grind (arith, nat_tests))
    (cases_lt d n)

-- ---- a shift to the right
pub bit_test : (w c : ℕ) → (bit_and (w / 2 ^ c) 1 == 1) ≡ bit w c
unfolding bit
bit_test w c = ap (λ b. nat_eq b 1) (shr_and_one w c)

pub bit_shift : (w k i : ℕ) → bit (w / 2 ^ k) i ≡ bit w (k + i)
unfolding bit
bit_shift w k i = ap (λ m. nat_eq (m % 2) 1) (shr-shr w k i)

-- ---- the lowest set bit
-- bit t of n is set, and none below it
pub record Lowest (n t : ℕ) : Type 0 where
  pub set : bit n t ≡ true
  pub clear : (j : ℕ) → j < t → bit n j ≡ false

bit_half : (n c : ℕ) → bit n (suc c) ≡ bit (n / 2) c
bit_half n c = let e : suc c ≡ 1 + c = omega arith in ap (bit n) e ∙ sym (bit_shift n 1 c)

bit_first : (n : ℕ) → bit n 0 ≡ (n % 2 == 1)
unfolding bit
bit_first n = let e : n / 2 ^ 0 ≡ n = omega (arith, shr_split n 0, mod_below n 1 (omega arith)) in ap (λ m. nat_eq (m % 2) 1) e

even_clear : (n t : ℕ) → n % 2 ≡ 0 → ((j : ℕ) → j < t → bit (n / 2) j ≡ false) → (j : ℕ) → j < suc t → bit n j ≡ false
even_clear n t e h zero l = bit_first n ∙ ap (λ m. nat_eq m 1) e
even_clear n t e h (suc j) l = bit_half n j ∙ h j (omega arith)

pub lowest : (k n : ℕ) → 0 < n → n < 2 ^ k → Lowest n (count_trailing_zeros k n)
unfolding count_trailing_zeros
lowest zero n p h = absurd (omega arith)
lowest (suc k) n p h =
    let t = count_trailing_zeros k (n / 2) in
    ⊎_elim
    (λ (e : n % 2 ≡ 0).
    let s : k + 1 ≡ suc k = omega arith in
    let b : n / 2 < 2 ^ k = shr_below n k 1 (rw s h) in
    let r = lowest k (n / 2) (omega (arith, shr_split n 1)) b in
    let i : count_trailing_zeros (suc k) n ≡ suc t = grind (arith, common_steps, e) in
    rw i (record { set = bit_half n t ∙ r.set; clear = even_clear n t e r.clear }))
    (λ (e : n % 2 ≢ 0).
    let i : count_trailing_zeros (suc k) n ≡ 0 = grind (arith, common_steps, e) in
    let f = bit_first n in
    rw i (record { set = grind (arith, nat_tests, f, e); clear = λ j l. absurd (omega arith) }))
    (cases_eq (n % 2) 0)

-- ---- how many bits are set
bit_low : (w n c : ℕ) → c < n → bit (w % 2 ^ n) c ≡ bit w c
unfolding bit
bit_low w n c l = ap (λ b. nat_eq b 1) (sym (bit_at_cat_low (w / 2 ^ n) n (w % 2 ^ n) c l) ∙ ap (λ m. bit_at m c) (shr_split w n))

ones_two : (x : ℕ) → x < 2 → ones x ≡ cond (x % 2 == 1) 1 0
unfolding ones
ones_two zero h = refl
ones_two (suc zero) h = refl
ones_two (suc (suc x)) h = absurd (omega arith)

top_bit : (w n : ℕ) → w < 2 ^ suc n → ones (w / 2 ^ n) ≡ cond (bit w n) 1 0
unfolding bit
top_bit w n h = let e : 1 + n ≡ suc n = omega arith in ones_two (w / 2 ^ n) (shr_below w 1 n (subst (λ m. w < 2 ^ m) (sym e) h))

pub ones_waiting : (n w : ℕ) → w < 2 ^ n → ones w ≡ waiting (bit w) n
unfolding waiting
ones_waiting zero w h = grind (arith, common_steps)
ones_waiting (suc n) w h =
    let r = w % 2 ^ n in
    let b : r < 2 ^ n = mod_below w (2 ^ n) (pow_pos n) in
    let i : ones r ≡ waiting (bit w) n = ones_waiting n r b ∙ same_wait (bit r) (bit w) n (λ c l. bit_low w n c l) in
    let s : ones w ≡ ones (w / 2 ^ n) + ones r = ap ones (sym (shr_split w n)) ∙ ones_cat n (w / 2 ^ n) r b in
    omega (arith, s, i, top_bit w n h)
