-- A first-come line carries a queue of arrivals. Assumes nothing.
use Rattle.std.specs.Prelude.{◌≡◌, ℕ, ◌≤◌, true, false, List, [], ◌∷◌, length, Some, None, Option}
use Rattle.std.proofs.Common.{sym, arith}
use Rattle.std.proofs.lemmas.Bool.Decides.{nat_tests}
use Rattle.pending.specs.Numbers.{below}
use Rattle.pending.specs.Orders.{oldest, rest}
use Rattle.pending.specs.Ids.{Client}
use Rattle.line.specs.Lines.{is_empty, Took, Takes, number_of}
use Rattle.line.specs.Arrivals.{arrivals_view}
use Rattle.line.specs.FirstCome.{arrivals, view}
use Rattle.line.specs.declared.first_come.FirstCome.{FirstCome}
use Rattle.pending.proofs.Lists.{once}
use Rattle.line.specs.ArrivalsLemmas.{Queue, queue_pop, queue_took}
use Rattle.std.proofs.lemmas.Grind.{common_steps}

pub queue : (l : FirstCome) → Queue l.size.clients l.size.places (arrivals l)
queue l = record { few = l.size.few; some = l.size.some; fitting = l.size.fitting; once = once l.queue; placed = l.placed; known = l.known }

-- what a line carries, by the names of its size's ghost fields and of its own
pub facts : (n k : ℕ) (xs ys : List ℕ) → ys ≡ xs → Queue n k xs
    → record { few : n ≤ 32; some : 1 ≤ k; fitting : k ≤ n; placed : length ys ≤ k; known : below n ys ≡ true }
facts n k xs ys e q = record { few = q.few; some = q.some; fitting = q.fitting; placed = rw e q.placed; known = rw e q.known }

pub queue_rest : (n k : ℕ) (xs : List ℕ) → Queue n k xs → Queue n k (rest xs)
queue_rest n k [] q = q
queue_rest n k (x ∷ xs) q = queue_pop n k x xs q

took : (n k : ℕ) (xs ys : List ℕ) (g : ℕ) → Queue n k xs → oldest xs ≡ Some g → ys ≡ rest xs → Took (arrivals_view n k xs) g (arrivals_view n k ys)
took n k [] ys g q e m = absurd (grind (arith, nat_tests, e))
took n k (x ∷ xs) ys g q e m =
    let i : g ≡ x = grind (arith, e) in
    rw (i, m) (queue_took n k x xs q)

-- what a take of the list is, seen at the size before it
pub queue_take_sized : (before : FirstCome) (r : Option Client) (after : FirstCome) → is_empty (view before) ≡ false
    → number_of r ≡ oldest (arrivals before) → arrivals after ≡ rest (arrivals before)
    → Takes (λ l. arrivals_view before.size.clients before.size.places (arrivals l)) before r after
queue_take_sized before None after some e m = grind (arith, common_steps)
queue_take_sized before (Some g) after some e m = took _ _ _ _ g.number (queue before) (sym e) m

-- what a take of the list is to the line, whose size stays
pub queue_take : (before : FirstCome) (r : Option Client) (after : FirstCome) → after.size ≡ before.size
    → is_empty (view before) ≡ false → number_of r ≡ oldest (arrivals before) → arrivals after ≡ rest (arrivals before) → Takes view before r after
queue_take before None after s some e m = queue_take_sized before None after some e m
queue_take before (Some g) after s some e m = rw s (queue_take_sized before (Some g) after some e m)
