use Rattle.std.proofs.Common.{◌≡◌, ◌++◌, length, drop, vec_items}
use Rattle.std.specs.List.{flat_map}
use Rattle.boardfile.specs.Layout.{event_bytes}
use Rattle.boardfile.specs.Fits.{EventsFit}
use Rattle.boardfile.proofs.events.read_events.Given as goal

-- the events so far, and what is left
abbrev pub invariant-loop-index : goal.invariant-loop-index
invariant-loop-index l = record {
  layout : drop 2 l.bytes ≡ flat_map event_bytes (vec_items l.events) ++ l.rest;
  counted : length (vec_items l.events) ≡ l.index;
  fit : EventsFit (vec_items l.events);
}
