use Rattle.std.proofs.Common.{◌≡◌, ◌*◌, ◌++◌, take, drop}
use Rattle.std.specs.List.{flat_map}
use Rattle.boardfile.specs.Layout.{event_bytes}
use Rattle.boardfile.proofs.writer.put_records.Given as goal

-- the records so far, and the rest of the buffer as it was
abbrev pub invariant-loop-index : goal.invariant-loop-index
invariant-loop-index l = l.buf ≡ flat_map event_bytes (take l.index l.events) ++ drop (6 * l.index) l.initial.buf
