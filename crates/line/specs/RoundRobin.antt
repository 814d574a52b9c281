-- What a round-robin line means.
-- view: its meaning as a line.
-- Made: it is for n clients, the last one counts as taken last, and nobody waits.
use Rattle.std.specs.Prelude.{◌≡◌, ℕ, ◌-◌}
use Rattle.line.specs.Lines.{LineView}
use Rattle.line.specs.Turns.{turns_view}
use Rattle.line.specs.declared.round_robin.RoundRobin.{RoundRobin}

abbrev pub view : RoundRobin → LineView
view l = turns_view l.clients l.last l.word

pub record Made (n : ℕ) (l : RoundRobin) : Type 0 where
  pub clients : l.clients ≡ n
  pub last : l.last ≡ n - 1
  pub nobody : l.word ≡ 0
