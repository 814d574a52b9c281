-- Making a line for n clients with k places.
-- clients_fit, places_fit: n is from 1 to 32; k is from 1 to n.
-- make_refusal: the first that fails, of the clients and then the places, where it is said whether the places suit the line.
use Rattle.std.specs.Prelude.{ℕ, Bool, cond, ◌&&◌, Some, None, Option, nat_le}
use Rattle.calls.specs.declared.refusal.Refusal.{Refusal}
use Rattle.calls.specs.declared.refusal.Refusal.TheVariants.{ClientsOutOfRange, PlacesOutOfRange}

abbrev pub clients_fit : ℕ → Bool
clients_fit n = nat_le 1 n && nat_le n 32

abbrev pub places_fit : ℕ → ℕ → Bool
places_fit n k = nat_le 1 k && nat_le k n

abbrev pub make_refusal : ℕ → Bool → Option Refusal
make_refusal n places = cond (clients_fit n) (cond places None (Some PlacesOutOfRange)) (Some ClientsOutOfRange)
