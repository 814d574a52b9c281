-- What writing a board file means.
-- Measures: a file that fits, and its length.
-- Wrote: what a written file leaves: the layout stands at the buffer's start, and the rest of it is as it was.
-- Writes: a writer's answer, with the buffer before and after it: the file is written, or the parts or the room are
-- refused and all of the buffer is as it was.
use Rattle.std.specs.Prelude.{◌≡◌, ℕ, ◌+◌, ◌*◌, ◌≤◌, List, ◌++◌, length, drop, Ok, Err, vec_items, Result}
use Rattle.boardfile.specs.declared.parts.BoardFile.{BoardFile}
use Rattle.boardfile.specs.declared.fault.WriteError.{WriteError}
use Rattle.boardfile.specs.Layout.{layout}
use Rattle.boardfile.specs.Fits.{Fits}
use Rattle.boardfile.specs.Faults.{WriteRefused}

pub record Measures (file : BoardFile) (n : ℕ) : Type 0 where
  pub fit : Fits file
  pub len : n ≡ length (layout file)
  pub counted : n ≡ 12 + 6 * length (vec_items file.events)

pub record Wrote (file : BoardFile) (before after : List ℕ) (n : ℕ) : Type 0 where
  pub fit : Fits file
  pub len : n ≡ length (layout file)
  pub room : n ≤ length before
  pub holds : after ≡ layout file ++ drop n before

abbrev pub Writes : BoardFile → List ℕ → List ℕ → Result ℕ WriteError → Type 0
Writes file before after (Ok n) = Wrote file before after n
Writes file before after (Err e) = WriteRefused file (length before) e × (after ≡ before)
