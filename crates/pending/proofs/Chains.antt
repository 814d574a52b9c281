-- Laws of numbers that are linked by a table. Assumes nothing.
use Rattle.std.proofs.Common.{◌≡◌, ℕ, zero, suc, ◌<◌, ◌≤◌, true, false, not, eqb, ltb, ◌≢◌, ◌⊎◌, List, [], ◌∷◌, ◌++◌, length, get_or, set, sym, refl, ap, ◌∙◌, subst, inl, inr, ⊎_elim, arith}
use Rattle.std.proofs.lemmas.List.{get_or-set_other}
use Rattle.std.proofs.lemmas.Bool.Decides.{nat_tests}
use Rattle.std.proofs.lemmas.Bool.{and_parts, and_from, or_parts, or_cases, not-true, both_ways, eqb-true, eqb-false, lt-ltb, cond-true}
use Rattle.pending.specs.Numbers.{has, distinct, below, ends}
use Rattle.pending.specs.Chains.{walk, linked}
use Rattle.pending.proofs.Numbers.{has_ends}
use Rattle.std.proofs.lemmas.Grind.{common_steps}

-- a link taken apart: the number met is the first one, it is below 255, and the rest is linked from its next number on
pub record Link (next : List ℕ) (at x : ℕ) (xs : List ℕ) : Type 0 where
  pub met : x ≡ at
  pub small : x < 255
  pub more : linked next (get_or next x 0) xs ≡ true

pub link : (next : List ℕ) (at x : ℕ) (xs : List ℕ) → linked next at (x ∷ xs) ≡ true → Link next at x xs
unfolding linked
link next at x xs l = grind (arith, common_steps)

pub linked_from : (next : List ℕ) (at x : ℕ) (xs : List ℕ) → x ≡ at → x < 255 → linked next (get_or next x 0) xs ≡ true → linked next at (x ∷ xs) ≡ true
unfolding linked
linked_from next at x xs e b l = grind (arith, common_steps)

-- what is linked to its end is what is met, if it is no more than may be met
pub walk_linked : (next xs : List ℕ) (more at : ℕ) → length xs ≤ more → linked next at xs ≡ true → walk more at next ≡ xs
unfolding walk linked
walk_linked next [] zero at h l = refl
walk_linked next [] (suc more) at h l = grind (arith, common_steps)
walk_linked next (x ∷ xs) zero at h l = absurd (omega arith)
walk_linked next (x ∷ xs) (suc more) at h l =
    let p = link next at x xs l in
    let e : x ≡ at = p.met in
    let rest : walk more (get_or next at 0) next ≡ xs = walk_linked next xs more (get_or next at 0) (omega arith) (rw (← e) p.more) in
    cond-true (ltb at 255) _ _ (lt-ltb at 255 (omega (arith, p.small))) ∙ (cc)

pub linked_below : (next : List ℕ) (at : ℕ) (xs : List ℕ) → linked next at xs ≡ true → below 255 xs ≡ true
unfolding below
linked_below next at [] l = refl
linked_below next at (x ∷ xs) l = let p = link next at x xs l in and_from (ltb x 255) _ (lt-ltb x 255 p.small) (linked_below next (get_or next x 0) xs p.more)

-- a member is the last one, or has a next one
pub linked_next : (next : List ℕ) (k at : ℕ) (xs : List ℕ) → linked next at xs ≡ true → has k xs ≡ true → (ends 255 xs ≡ k) ⊎ (get_or next k 0 < 255)
unfolding has ends
linked_next next k at [] l h = absurd (both_ways false refl h)
linked_next next k at (x ∷ []) l h = inl (grind (arith, nat_tests))
linked_next next k at (x ∷ (y ∷ ys)) l h =
    let p = link next at x (y ∷ ys) l in
    let q = link next (get_or next x 0) y ys p.more in
    ⊎_elim
    (λ e. inr (omega (arith, q.met, q.small, ap (λ m. get_or next m 0) (eqb-true k x e))))
    (λ m. linked_next next k (get_or next x 0) (y ∷ ys) p.more m)
    (or_cases (eqb k x) _ h)

-- a write at a number that is not in the list
pub linked_frame : (next : List ℕ) (i v at : ℕ) (xs : List ℕ) → has i xs ≡ false → linked next at xs ≡ true → linked (set next i v) at xs ≡ true
unfolding has linked
linked_frame next i v at [] h l = l
linked_frame next i v at (x ∷ xs) h l =
    let p = link next at x xs l in
    let u = or_parts (eqb i x) _ h in
    let ne : x ≢ i = λ e. eqb-false i x u.0 (sym e) in
    let f = linked_frame next i v (get_or next x 0) xs u.1 p.more in
    linked_from (set next i v) at x xs p.met p.small (rw get_or-set_other f)

-- a number that is not in the list becomes the last one's next
pub linked_push : (next : List ℕ) (k at x : ℕ) (xs : List ℕ) → length next ≡ 255 → k < 255 → get_or next k 0 ≡ 255
    → distinct (x ∷ xs) ≡ true → has k (x ∷ xs) ≡ false → linked next at (x ∷ xs) ≡ true
    → linked (set next (ends x xs) k) at (x ∷ xs ++ k ∷ []) ≡ true
unfolding has ends distinct linked
linked_push next k at x [] n b e d h l = grind (arith, common_steps)
linked_push next k at x (y ∷ ys) n b e d h l =
    let p = link next at x (y ∷ ys) l in
    let u = or_parts (eqb k x) _ h in
    let v = and_parts (not (has x (y ∷ ys))) _ d in
    let ne : x ≢ ends y ys = λ e. both_ways (has x (y ∷ ys)) (not-true _ v.0) (subst (λ m. has m (y ∷ ys) ≡ true) (sym e) (has_ends y ys)) in
    let f = linked_push next k (get_or next x 0) y ys n b e v.1 u.1 p.more in
    linked_from (set next (ends y ys) k) at x (y ∷ ys ++ k ∷ []) p.met p.small (rw get_or-set_other f)
