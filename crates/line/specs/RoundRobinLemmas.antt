-- A round-robin line carries a round. Assumes nothing.
use Rattle.std.specs.Prelude.{◌≡◌, ℕ, ◌*◌, ◌%◌, ◌^◌, ◌<◌, ◌≤◌, false, Some}
use Rattle.std.proofs.Common.{arith}
use Rattle.std.proofs.lemmas.Bool.Decides.{nat_tests}
use Rattle.std.proofs.lemmas.Nat.{one_shl}
use Rattle.line.specs.Lines.{is_full}
use Rattle.line.specs.Waiting.{one_free}
use Rattle.line.specs.Turns.{bit, turns_before, LeastPatience}
use Rattle.line.specs.RoundRobin.{view}
use Rattle.line.specs.declared.round_robin.RoundRobin.{RoundRobin}
use Rattle.line.specs.Bits.{bit_below}
use Rattle.line.specs.Least.{least_some}
use Rattle.line.specs.TurnsLemmas.{Round}

pub round : (l : RoundRobin) → Round l.clients l.last l.word
round l = record { few = l.few; inside = l.inside; known = l.known }

-- what a line carries, by the names of its ghost fields
pub facts : (n last w v : ℕ) → v ≡ w → Round n last w → record { few : n ≤ 32; inside : last < n; known : v < 2 ^ n }
facts n last w v e o = record { few = o.few; inside = o.inside; known = rw e o.known }

-- the bit of client c, as the machine shifts it
pub shifted : (c : ℕ) → c < 32 → 1 * 2 ^ c % 4294967296 ≡ 2 ^ c
shifted c l = one_shl c 32 l

-- who does not wait finds a place, since there is one for each client
pub place_free : (l : RoundRobin) (c : ℕ) → c < l.clients → bit l.word c ≡ false → is_full (view l) ≡ false
place_free l c k f = let fewer = one_free (bit l.word) c l.clients k f in grind (arith, nat_tests)

-- nobody who waits has less patience than the next one
pub least : (l : RoundRobin) (g : ℕ) → (view l).next ≡ Some g → LeastPatience (view l) g
least l g e c h = (least_some (bit l.word) (turns_before l.clients l.last) l.clients g e).first c (bit_below l.word l.clients c l.known h) h
