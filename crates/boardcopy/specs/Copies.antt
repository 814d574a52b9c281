-- That reading and writing undo each other.
-- Rewrites: what was read writes back as its bytes. Only the file itself or the room can be refused.
-- Rereads: what was written reads back as its parts. Only the parts, the room or the memory can be refused.
-- LacksRoom: the buffer is too small for the bytes. ReadsBack: the same parts were read.
-- Holds: the file stands at the buffer's start, and the rest of it is as it was.
-- Each has the buffer before and after; where nothing was written it is as it was.
-- copy_error_words: the words of a file that was not copied, those of what failed.
use Rattle.std.specs.Prelude.{◌≡◌, ℕ, ◌<◌, List, ◌++◌, length, drop, Ok, Err, vec_items, Result}
use Rattle.boardfile.specs.declared.parts.BoardFile.{BoardFile}
use Rattle.boardfile.specs.declared.fault.ReadError.TheVariants.{NoMemory}
use Rattle.boardfile.specs.declared.fault.WriteError.{WriteError}
use Rattle.boardfile.specs.declared.fault.WriteError.TheVariants.{TooSmall}
use Rattle.boardcopy.specs.declared.CopyError.{CopyError}
use Rattle.boardcopy.specs.declared.CopyError.TheVariants.{Unread, Unwritten}
use Rattle.boardfile.specs.Layout.{layout}
use Rattle.boardfile.specs.Faults.{ReadRefused, WriteRefused}
use Rattle.boardfile.specs.Words.{read_error_words, write_error_words}

pub record LacksRoom (b before after : List ℕ) (e : WriteError) : Type 0 where
  pub error : e ≡ TooSmall
  pub room : length before < length b
  pub untouched : after ≡ before

abbrev pub Rewrites : List ℕ → List ℕ → List ℕ → Result ℕ CopyError → Type 0
Rewrites b before after (Ok n) = (n ≡ length b) × (after ≡ b ++ drop n before)
Rewrites b before after (Err (Unread e)) = ReadRefused b e × (after ≡ before)
Rewrites b before after (Err (Unwritten e)) = LacksRoom b before after e

abbrev pub Holds : BoardFile → List ℕ → List ℕ → Type 0
Holds file before after = after ≡ layout file ++ drop (length (layout file)) before

pub record ReadsBack (file : BoardFile) (before after : List ℕ) (again : BoardFile) : Type 0 where
  pub settings : again.settings ≡ file.settings
  pub events : vec_items again.events ≡ vec_items file.events
  pub holds : Holds file before after

abbrev pub Rereads : BoardFile → List ℕ → List ℕ → Result BoardFile CopyError → Type 0
Rereads file before after (Ok again) = ReadsBack file before after again
Rereads file before after (Err (Unread e)) = (e ≡ NoMemory) × Holds file before after
Rereads file before after (Err (Unwritten e)) = WriteRefused file (length before) e × (after ≡ before)

abbrev pub copy_error_words : CopyError → List ℕ
copy_error_words (Unread e) = read_error_words e
copy_error_words (Unwritten e) = write_error_words e
