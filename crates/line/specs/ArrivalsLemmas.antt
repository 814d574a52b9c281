-- A list of arrivals is a line. Assumes nothing.
use Rattle.std.specs.Prelude.{◌≡◌, ℕ, suc, ◌<◌, ◌≤◌, true, false, not, List, [], ◌∷◌, ◌++◌, length, Some, None, ◌==◌, nat_lt}
use Rattle.std.proofs.Math.Path.{refl}
use Rattle.std.proofs.Common.{ap, ◌∙◌, ⊎_elim, arith}
use Rattle.std.proofs.lemmas.List.{length_push}
use Rattle.std.proofs.lemmas.Bool.Decides.{nat_tests}
use Rattle.std.proofs.lemmas.Bool.{and_parts, or_left, or_right, not-true, both_ways, eq-eqb, ne_eqb, ltb-true, cases_Bool}
use Rattle.pending.specs.Numbers.{has, distinct, below}
use Rattle.pending.specs.Orders.{oldest}
use Rattle.pending.proofs.Numbers.{has_push, distinct_push, below_push}
use Rattle.line.specs.Lines.{LineLaw, Put, Took, waiting}
use Rattle.line.specs.Arrivals.{in_front, arrivals_view}
use Rattle.line.specs.Waiting.{nobody_waits, one_more}
use Rattle.std.proofs.lemmas.Grind.{common_steps}

-- a list of arrivals, of n clients in k places
pub record Queue (n k : ℕ) (xs : List ℕ) : Type 0 where
  pub few : n ≤ 32
  pub some : 1 ≤ k
  pub fitting : k ≤ n
  pub once : distinct xs ≡ true
  pub placed : length xs ≤ k
  pub known : below n xs ≡ true

pub has_below : (n c : ℕ) (xs : List ℕ) → below n xs ≡ true → has c xs ≡ true → c < n
unfolding below has
has_below n c [] b h = absurd (both_ways false refl h)
has_below n c (x ∷ xs) b h = let r = has_below n c xs in grind (arith, common_steps)

pub has_above : (n c : ℕ) (xs : List ℕ) → below n xs ≡ true → n ≤ c → has c xs ≡ false
has_above n c xs b l = ⊎_elim (λ (h : has c xs ≡ true). absurd (omega (arith, has_below n c xs b h))) (λ h. h) (cases_Bool (has c xs))

-- ---- how many stand in front
front_below : (c : ℕ) (xs : List ℕ) → has c xs ≡ true → in_front c xs < length xs
unfolding in_front has
front_below c [] h = absurd (both_ways false refl h)
front_below c (x ∷ xs) h = let r = front_below c xs in grind (arith, common_steps)

front_push : (d k : ℕ) (xs : List ℕ) → has d xs ≡ true → in_front d (xs ++ k ∷ []) ≡ in_front d xs
unfolding in_front has
front_push d k [] h = absurd (both_ways false refl h)
front_push d k (x ∷ xs) h = let r = front_push d k xs in grind (arith, common_steps)

-- ---- as many wait as the list is long
pub queue_waiting : (n : ℕ) (xs : List ℕ) → distinct xs ≡ true → below n xs ≡ true → waiting (λ c. has c xs) n ≡ length xs
unfolding has distinct below
queue_waiting n [] d b = nobody_waits (λ c. false) n (λ _. refl)
queue_waiting n (x ∷ xs) d b =
    let p = and_parts (not (has x xs)) _ d in
    let q = and_parts (nat_lt x n) _ b in
    one_more (λ c. has c xs) (λ c. has c (x ∷ xs)) x n (ltb-true x n q.0) (not-true _ p.0) (grind (arith, nat_tests)) (λ c e. grind (arith, nat_tests, ne_eqb c x e))
    ∙ ap suc (queue_waiting n xs p.1 q.1)

-- ---- the next one
oldest_waits : (xs : List ℕ) (g : ℕ) → oldest xs ≡ Some g → has g xs ≡ true
unfolding has
oldest_waits [] g e = absurd (grind (arith, nat_tests, e))
oldest_waits (x ∷ xs) g e = or_left (g == x) _ (eq-eqb g x (grind (arith, e)))

oldest_none : (xs : List ℕ) → oldest xs ≡ None → (c : ℕ) → has c xs ≡ false
unfolding has
oldest_none [] e c = refl
oldest_none (x ∷ xs) e c = absurd (grind (arith, nat_tests, e))

module _ (n k : ℕ) where
  pub queue_none : n ≤ 32 → 1 ≤ k → k ≤ n → Queue n k []
  unfolding distinct below
  queue_none f s t = record { few = f; some = s; fitting = t; once = refl; placed = omega arith; known = refl }

  pub queue_law : (xs : List ℕ) → Queue n k xs → LineLaw (arrivals_view n k xs)
  queue_law xs q = record {
    narrow = omega (arith, q.few, q.fitting);
    client = λ c h. has_below n c xs q.known h;
    patient = λ c h. omega (arith, front_below c xs h, q.placed);
    next_waits = λ g e. oldest_waits xs g e;
    next_none = λ e c. oldest_none xs e c;
    placed = omega (arith, queue_waiting n xs q.once q.known, q.placed);
  }

  -- ---- one more arrives
  pub queue_push : (c : ℕ) (xs : List ℕ) → Queue n k xs → c < n → has c xs ≡ false → length xs < k → Queue n k (xs ++ c ∷ [])
  queue_push c xs q l h f = record {
    few = q.few;
    some = q.some;
    fitting = q.fitting;
    once = distinct_push c xs q.once h;
    placed = omega (arith, length_push xs c);
    known = below_push n c xs q.known l;
  }

  pub queue_put : (c : ℕ) (xs : List ℕ) → Queue n k (xs ++ c ∷ []) → Put (arrivals_view n k xs) c (arrivals_view n k (xs ++ c ∷ []))
  queue_put c xs q = record {
    same = refl;
    law = queue_law (xs ++ c ∷ []) q;
    puts = has_push c c xs ∙ or_right (has c xs) _ (eq-eqb c c refl);
    others = λ x e. has_push x c xs ∙ (grind (arith, nat_tests, ne_eqb x c e));
    kept = λ x e h. omega (arith, front_push x c xs h);
  }

  -- ---- the first one goes
  pub queue_pop : (g : ℕ) (xs : List ℕ) → Queue n k (g ∷ xs) → Queue n k xs
  unfolding distinct below
  queue_pop g xs q = record {
    few = q.few;
    some = q.some;
    fitting = q.fitting;
    once = grind (arith, common_steps);
    placed = omega (arith, q.placed);
    known = grind (arith, common_steps);
  }

  pub queue_took : (g : ℕ) (xs : List ℕ) → Queue n k (g ∷ xs) → Took (arrivals_view n k (g ∷ xs)) g (arrivals_view n k xs)
  unfolding distinct has in_front
  queue_took g xs q = record {
    same = refl;
    law = queue_law xs (queue_pop g xs q);
    next = refl;
    takes = grind (arith, common_steps);
    others = λ x e. grind (arith, common_steps);
    falls = λ x e h. grind (arith, common_steps);
  }
