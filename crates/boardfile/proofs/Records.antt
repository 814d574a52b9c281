-- A run of records, one after another. Assumes nothing.
use Rattle.std.proofs.Common.{◌≡◌, ℕ, ◌≤◌, List, [], ◌∷◌, ◌++◌, take, drop, arith}
use Rattle.std.specs.List.{flat_map}
use Rattle.std.proofs.lemmas.List.{append_assoc}
use Rattle.std.proofs.lemmas.Grind.{common_steps, flat_map-append}
use Rattle.calls.specs.declared.call.Call.{Call}
use Rattle.boardfile.specs.Layout.{event_bytes}
use Rattle.boardfile.specs.Fits.{EventsFit}
use Rattle.boardfile.specs.Faults.{HasEvents, UnfitAt}

-- one event more, off the front of what is left
pub events_more : (b : List ℕ) (es : List Call) (e : Call) (rest more : List ℕ) → b ≡ flat_map event_bytes es ++ rest → rest ≡ event_bytes e ++ more → b ≡ flat_map event_bytes (es ++ e ∷ []) ++ more
events_more b es e rest more p q = grind (arith, common_steps, flat_map-append)

pub not_all_fit : (es : List Call) (i : ℕ) → UnfitAt es i → EventsFit es → ⊥
not_all_fit es i u h = u.2 (grind (arith, common_steps))

-- where i events stand, fewer do
pub fewer : (u t : List ℕ) (n i : ℕ) → n ≤ i → HasEvents u i t → (t' : List ℕ) × HasEvents u n t'
fewer u t n i l has =
    let es = has.events in (
      flat_map event_bytes (drop n es) ++ t,
      record {
        events = take n es;
        counted = grind (arith, common_steps);
        fit = grind (arith, common_steps);
        stand = grind (arith, common_steps, flat_map-append event_bytes (take n es) (drop n es), append_assoc);
      },
    )
