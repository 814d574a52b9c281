-- Two keys of one number are the same key. Assumes nothing.
use Rattle.std.specs.Prelude.{◌≡◌, ℕ, ◌<◌}
use Rattle.std.proofs.Math.Path.{PathP}
use mathlib.Core.HLevel.{is_prop→PathP}
use Rattle.std.proofs.Math.Bridge.{le_prop}

-- what is known of a key's number is known in one way only
pub below_path : {m n : ℕ} (e : m ≡ n) (p : m < 255) (q : n < 255) → PathP (λ i. e i < 255) p q
below_path e p q = is_prop→PathP (λ i. e i < 255) (λ i. le_prop) p q
