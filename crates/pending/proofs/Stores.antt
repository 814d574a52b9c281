-- A store stands for a list of numbers: what each change of the store does to the list. Assumes nothing.
use Rattle.std.proofs.Common.{◌≡◌, ℕ, None, ◌+◌, ◌-◌, ◌<◌, ◌≤◌, true, false, cond, not, eqb, ◌≢◌, List, [], ◌∷◌, ◌++◌, length, get_or, set, replicate, sym, refl, ap, ◌∙◌, subst, ⊎_elim, arith}
use Rattle.std.proofs.lemmas.List.{get_or-replicate, get_or-set_same, get_or-set_other, length_push}
use Rattle.std.proofs.lemmas.Bool.{and_parts, or_parts, or_from, not-true, both_ways, eqb-true, eq-eqb, ne_eqb, cond-true, cases_eq, cases_Bool}
use Rattle.pending.specs.Numbers.{has, distinct, ends}
use Rattle.pending.specs.Chains.{chain, walk, linked, Linked, Distinct, Ended, Clear, Counted}
use Rattle.pending.specs.Keys.{number_below}
use Rattle.pending.specs.Orders.{is_empty, oldest, rest}
use Rattle.pending.specs.Lists.{order}
use Rattle.pending.specs.declared.list.PendingList.{PendingList}
use Rattle.pending.proofs.Numbers.{has_push, distinct_push, below_push, ends_push, has_ends, ends_below, length_below}
use Rattle.pending.proofs.Chains.{link, walk_linked, linked_below, linked_next, linked_frame, linked_push}
use Rattle.std.proofs.lemmas.Grind.{common_steps}

pub record Stands (head tail : ℕ) (next : List ℕ) (len : ℕ) (xs : List ℕ) : Type 0 where
  pub links : linked next head xs ≡ true
  pub once : distinct xs ≡ true
  pub lasts : ends 255 xs ≡ tail
  pub clears : (k : ℕ) → k < 255 → has k xs ≡ false → get_or next k 0 ≡ 255
  pub counts : len ≡ length xs

-- ---- the store's chain is the list
pub at_most : {head tail : ℕ} {next : List ℕ} {len : ℕ} {xs : List ℕ} → Stands head tail next len xs → length xs ≤ 255
at_most {head} {tail} {next} {len} {xs} s = length_below 255 xs s.once (linked_below next head xs s.links)

pub chain_is : {head tail : ℕ} {next : List ℕ} {len : ℕ} {xs : List ℕ} → Stands head tail next len xs → chain head next ≡ xs
chain_is {head} {tail} {next} {len} {xs} s = walk_linked next xs 255 head (at_most s) s.links

-- what a list carries, by the names of its ghost fields
abbrev pub Facts : ℕ → ℕ → List ℕ → ℕ → Type 0
Facts head tail next len =
    record { linked : Linked head next; distinct : Distinct head next; ended : Ended head tail next; clear : Clear head next; counted : Counted len head next }

pub facts : {head tail : ℕ} {next : List ℕ} {len : ℕ} {xs : List ℕ} → Stands head tail next len xs → Facts head tail next len
facts {head} {tail} {next} {len} s =
    let t : Stands head tail next len (chain head next) = subst (λ ys. Stands head tail next len ys) (sym (chain_is s)) s in
    record { linked = t.links; distinct = t.once; ended = t.lasts; clear = t.clears; counted = t.counts }

pub stands : {K : Type 0} (p : PendingList K) → Stands p.head p.tail p.next p.len (order p)
stands p = record { links = p.linked; once = p.distinct; lasts = p.ended; clears = p.clear; counts = p.counted }

-- ---- what the store tells of the list
module _ (head tail : ℕ) (next : List ℕ) (len : ℕ) where
  pub head_tells : (xs : List ℕ) → Stands head tail next len xs → eqb head 255 ≡ is_empty xs
  unfolding linked
  head_tells [] s = s.links
  head_tells (x ∷ xs) s = grind (arith, common_steps)

  pub head_first : (xs : List ℕ) → Stands head tail next len xs → (head ≡ 255 → ⊥) → (ys : List ℕ) × (xs ≡ head ∷ ys)
  unfolding linked
  head_first [] s ne = absurd (ne (eqb-true head 255 s.links))
  head_first (x ∷ xs) s ne = grind (arith, common_steps)

  pub tail_none : (xs : List ℕ) → Stands head tail next len xs → tail ≡ 255 → xs ≡ []
  unfolding ends
  tail_none [] s e = refl
  tail_none (x ∷ xs) s e = absurd (omega (arith, s.lasts, ends_below 255 x xs (linked_below next head (x ∷ xs) s.links)))

  -- of a key that has no next one: it is pending exactly if it is the tail
  pub tail_tells : (k : ℕ) (xs : List ℕ) → Stands head tail next len xs → k < 255 → get_or next k 0 ≡ 255 → eqb tail k ≡ has k xs
  unfolding has ends
  tail_tells k [] s b e = ne_eqb tail k (λ f. omega (arith, s.lasts))
  tail_tells k (x ∷ xs) s b e = ⊎_elim
      (λ h. ⊎_elim (λ l. eq-eqb tail k (sym s.lasts ∙ l) ∙ sym h) (λ l. absurd (omega arith)) (linked_next next k head (x ∷ xs) s.links h))
      (λ h. ne_eqb tail k (λ f. both_ways (has k (x ∷ xs)) h (subst (λ i. has i (x ∷ xs) ≡ true) (s.lasts ∙ f) (has_ends x xs))) ∙ sym h)
      (cases_Bool (has k (x ∷ xs)))

pub list_is_empty : {K : Type 0} (p : PendingList K) → eqb p.head 255 ≡ is_empty (order p)
list_is_empty p = head_tells _ _ _ _ _ (stands p)

pub list_oldest : {K : Type 0} (p : PendingList K) → oldest (order p) ≡ number_below 255 p.head
unfolding walk
list_oldest p = grind (arith, common_steps)

pub rest_none : (xs : List ℕ) → oldest xs ≡ None → rest xs ≡ xs
rest_none [] e = refl
rest_none (x ∷ xs) e = absurd (grind (arith, common_steps, e))

pub list_has : {K : Type 0} (p : PendingList K) (k : ℕ) → k < 255 → get_or p.next k 0 ≡ 255 → eqb p.tail k ≡ has k (order p)
list_has p k b e = tail_tells _ _ _ _ k _ (stands p) b e

-- ---- a store of none
pub stands_none : (next : List ℕ) → ((k : ℕ) → k < 255 → get_or next k 0 ≡ 255) → Stands 255 255 next 0 []
unfolding linked distinct ends
stands_none next h = record { links = refl; once = refl; lasts = refl; clears = λ k b _. h k b; counts = refl }

fresh : Stands 255 255 (replicate 255 255) 0 []
fresh = stands_none _ (λ k b. get_or-replicate 255 k 255 0 b)

pub fresh_facts : Facts 255 255 (replicate 255 255) 0
fresh_facts = facts fresh

pub fresh_chain : chain 255 (replicate 255 255) ≡ []
fresh_chain = chain_is fresh

-- ---- one more
stands_one : (k : ℕ) (next : List ℕ) → k < 255 → ((j : ℕ) → j < 255 → get_or next j 0 ≡ 255) → Stands k k next 1 (k ∷ [])
unfolding has linked distinct ends
stands_one k next b c = record {
  links = grind (arith, common_steps);
  once = refl;
  lasts = refl;
  clears = λ j h _. c j h;
  counts = refl;
}

module _ (head tail k : ℕ) (next : List ℕ) (len : ℕ) where
  -- in an empty list
  pub stands_first : (xs : List ℕ) → k < 255 → Stands head tail next len xs → tail ≡ 255 → Stands k k next (len + 1) (xs ++ k ∷ [])
  unfolding has
  stands_first xs b s e =
      let z = tail_none head tail next len xs s e in
      let n : len ≡ 0 = s.counts ∙ ap length z in
      rw (z, n) (stands_one k next b (λ j h. s.clears j h (rw z refl)))

  -- behind another
  pub stands_push : (xs : List ℕ) → length next ≡ 255 → k < 255 → has k xs ≡ false → Stands head tail next len xs → (tail ≡ 255 → ⊥)
      → Stands head k (set next tail k) (len + 1) (xs ++ k ∷ [])
  unfolding has ends
  stands_push [] n b h s t = absurd (t (sym s.lasts))
  stands_push (x ∷ xs) n b h s t = record {
    links = rw (← s.lasts) (linked_push next k head x xs n b (s.clears k b h) s.once h s.links);
    once = distinct_push k (x ∷ xs) s.once h;
    lasts = ends_push 255 k (x ∷ xs);
    clears = λ j c m.
        let p = or_parts (has j (x ∷ xs)) _ (sym (has_push j k (x ∷ xs)) ∙ m) in
        let ne : j ≢ tail = λ e. both_ways (has j (x ∷ xs)) p.0 (subst (λ i. has i (x ∷ xs) ≡ true) (s.lasts ∙ sym e) (has_ends x xs)) in
        rw get_or-set_other (s.clears j c p.0);
    counts = grind (arith, common_steps);
  }

-- there is room for one more
pub room : {head tail : ℕ} {next : List ℕ} {len : ℕ} (k : ℕ) (xs : List ℕ) → k < 255 → has k xs ≡ false → Stands head tail next len xs → len + 1 ≤ 255
room {head} {tail} {next} {len} k xs b h s =
    omega (arith, s.counts, length_push xs k, length_below 255 (xs ++ k ∷ []) (distinct_push k xs s.once h) (below_push 255 k xs (linked_below next head xs s.links) b))

-- ---- the first one goes
pop_ends : (x : ℕ) (xs next : List ℕ) (tail : ℕ) → linked next (get_or next x 0) xs ≡ true → ends x xs ≡ tail → ends 255 xs ≡ cond (eqb (get_or next x 0) 255) 255 tail
unfolding linked ends
pop_ends x [] next tail l e = sym (cond-true _ _ _ l)
pop_ends x (y ∷ ys) next tail l e = grind (arith, common_steps)

stands_pop : (head tail x : ℕ) (next : List ℕ) (len : ℕ) (xs : List ℕ) → length next ≡ 255 → Stands head tail next len (x ∷ xs)
    → Stands (get_or next x 0) (cond (eqb (get_or next x 0) 255) 255 tail) (set next x 255) (len - 1) xs
unfolding has distinct ends
stands_pop head tail x next len xs n s =
    let p = link next head x xs s.links in
    let d = and_parts (not (has x xs)) _ s.once in
    let lt : x < length next = omega (arith, p.small) in
    record {
      links = linked_frame next x 255 (get_or next x 0) xs (not-true _ d.0) p.more;
      once = d.1;
      lasts = pop_ends x xs next tail p.more s.lasts;
      clears = λ k b h. ⊎_elim
          (λ (e : k ≡ x). rw e (rw get_or-set_same))
          (λ (ne : k ≢ x). rw get_or-set_other (s.clears k b (or_from (eqb k x) _ (ne_eqb k x ne) h)))
          (cases_eq k x);
      counts = omega (arith, s.counts);
    }

-- the list began with x, and the store after it stands for the rest
pub record Popped (x : ℕ) (xs : List ℕ) (head tail : ℕ) (next : List ℕ) (len : ℕ) : Type 0 where
  pub more : List ℕ
  pub order : xs ≡ x ∷ more
  pub left : Stands head tail next len more

pub popped : (head tail : ℕ) (next : List ℕ) (len : ℕ) (xs : List ℕ) → length next ≡ 255 → Stands head tail next len xs → (head ≡ 255 → ⊥)
    → (head' tail' : ℕ) (next' : List ℕ) → head' ≡ get_or next head 0 → next' ≡ set next head 255 → tail' ≡ cond (eqb head' 255) 255 tail
    → Popped head xs head' tail' next' (len - 1)
popped head tail next len xs n s ne head' tail' next' eh en et =
    let f = head_first head tail next len xs s ne in
    let p = stands_pop head tail head next len f.0 n (subst (λ zs. Stands head tail next len zs) f.1 s) in
    record { more = f.0; order = f.1; left = rw (et, eh, en) p }
