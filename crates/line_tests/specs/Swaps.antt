-- A client put in line and the next one taken out.
-- Nearer: g waited, or is the client that came, and is gone. All others wait as before, and the client that came too. Whoever waited
--   before has less patience.
-- Swapped: somebody is taken, and all others are nearer to their turn.
use Rattle.std.specs.Prelude.{◌≡◌, ℕ, ◌<◌, true, false, ◌||◌, ◌≢◌, IsSomeAnd, Option, ◌==◌}
use Rattle.pending.specs.Ids.{Client}
use Rattle.line.specs.Lines.{LineView}

pub record Nearer (before : LineView) (client : ℕ) (after : LineView) (g : ℕ) : Type 0 where
  pub came : (before.waits g || g == client) ≡ true
  pub gone : after.waits g ≡ false
  pub stays : (x : ℕ) → x ≢ g → after.waits x ≡ (before.waits x || x == client)
  pub falls : (x : ℕ) → x ≢ client → x ≢ g → before.waits x ≡ true → after.patience x < before.patience x

abbrev pub Swapped : LineView → ℕ → LineView → Option Client → Type 0
Swapped before client after taken = IsSomeAnd taken (λ g. Nearer before client after g.number)
