-- What a first-come line means.
-- arrivals: the waiting clients, in their order of arrival.
-- view: its meaning as a line.
-- Made: it is for n clients, has k places, and nobody waits.
use Rattle.std.specs.Prelude.{◌≡◌, ℕ, List, []}
use Rattle.pending.specs.Lists.{order}
use Rattle.line.specs.Lines.{LineView}
use Rattle.line.specs.Arrivals.{arrivals_view}
use Rattle.line.specs.declared.first_come.FirstCome.{FirstCome}

abbrev pub arrivals : FirstCome → List ℕ
arrivals l = order l.queue

abbrev pub view : FirstCome → LineView
view l = arrivals_view l.size.clients l.size.places (arrivals l)

pub record Made (n k : ℕ) (l : FirstCome) : Type 0 where
  pub clients : l.size.clients ≡ n
  pub places : l.size.places ≡ k
  pub nobody : arrivals l ≡ []
