-- A line with one place.
-- known: whoever waits is a client.
-- is_there: c is the one who waits.
-- one_view: what a line for n clients means. Nobody is ever in front of another.
use Rattle.std.specs.Prelude.{ℕ, Bool, true, false, Some, None, Option, ◌==◌, nat_lt}
use Rattle.line.specs.Lines.{LineView}

abbrev pub known : ℕ → Option ℕ → Bool
known n None = true
known n (Some c) = nat_lt c n

abbrev pub is_there : ℕ → Option ℕ → Bool
is_there c None = false
is_there c (Some d) = c == d

abbrev pub one_view : ℕ → Option ℕ → LineView
one_view n waiting = record { size = record { clients = n; places = 1; bound = 0 }; waits = λ c. is_there c waiting; patience = λ c. 0; next = waiting }
