-- Round robin by its rules alone, on a line for four clients.
-- Turns: the client last taken, and the word of who waits.
-- fresh, put, after_take: a line just made; c waits too; the next one is taken.
-- next: whom a take gives. takes: whom so many takes give, one after the other. after_takes: the line then.
-- TurnsExample: first 2 and 0 wait, and takes give 0, 2 and nothing. Then 1 and 3 are put, and takes give 3 and 1.
use Rattle.std.specs.Prelude.{◌≡◌, ℕ, zero, suc, ◌-◌, List, [], ◌∷◌, Some, None, Option}
use Rattle.std.specs.Option.{unwrap_or}
use Rattle.line.specs.Turns.{with_bit, left, turns_view}

pub record Turns : Type 0 where
  pub last : ℕ
  pub word : ℕ

abbrev pub fresh : Turns
fresh = record { last = 4 - 1; word = 0 }

abbrev pub put : ℕ → Turns → Turns
put c t = record { last = t.last; word = with_bit t.word c }

abbrev pub next : Turns → Option ℕ
next t = (turns_view 4 t.last t.word).next

abbrev pub after_take : Turns → Turns
after_take t = record { last = unwrap_or (next t) t.last; word = left (next t) t.word }

abbrev pub takes : ℕ → Turns → List (Option ℕ)
takes zero t = []
takes (suc k) t = next t ∷ takes k (after_take t)

abbrev pub after_takes : ℕ → Turns → Turns
after_takes zero t = t
after_takes (suc k) t = after_takes k (after_take t)

pub record TurnsExample : Type 0 where
  pub first : takes 3 (put 0 (put 2 fresh)) ≡ Some 0 ∷ Some 2 ∷ None ∷ []
  pub then : takes 2 (put 3 (put 1 (after_takes 3 (put 0 (put 2 fresh))))) ≡ Some 3 ∷ Some 1 ∷ []
