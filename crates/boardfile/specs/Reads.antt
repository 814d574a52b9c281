-- What reading a board file means.
-- Reads: the parts that bytes read as, those whose layout they are, if they fit. ReadsAs: the same of a file as it is held.
-- Judges: a reader's answer to bytes: a file that they read as, or their first fault, unless memory ran out.
-- Gives: the answer is these parts, unless memory ran out.
-- Refuses: the answer is this fault, unless memory ran out.
-- Reading: all that a reader's answer to bytes keeps.
use Rattle.std.specs.Prelude.{◌≡◌, ℕ, ◌⊎◌, List, take, IfOk, Ok, Err, vec_items, Result}
use Rattle.calls.specs.declared.call.Call.{Call}
use Rattle.boardfile.specs.declared.parts.Settings.{Settings}
use Rattle.boardfile.specs.declared.parts.BoardFile.{BoardFile}
use Rattle.boardfile.specs.declared.fault.Fault.{Fault}
use Rattle.boardfile.specs.declared.fault.ReadError.{ReadError}
use Rattle.boardfile.specs.declared.fault.ReadError.TheVariants.{Faulty, NoMemory}
use Rattle.boardfile.specs.Layout.{file_bytes}
use Rattle.boardfile.specs.Fits.{FileFits}
use Rattle.boardfile.specs.Faults.{FileFaulty, ReadRefused}

abbrev pub Reads : List ℕ → Settings → List Call → Type 0
Reads b s es = (b ≡ file_bytes s es) × FileFits s es

abbrev pub ReadsAs : List ℕ → BoardFile → Type 0
ReadsAs b file = Reads b file.settings (vec_items file.events)

abbrev pub Judges : List ℕ → Result BoardFile ReadError → Type 0
Judges b (Ok file) = ReadsAs b file
Judges b (Err e) = ReadRefused b e

abbrev pub Gives : Settings → List Call → Result BoardFile ReadError → Type 0
Gives s es (Ok file) = (file.settings ≡ s) × (vec_items file.events ≡ es)
Gives s es (Err e) = e ≡ NoMemory

abbrev pub Refuses : Fault → Result BoardFile ReadError → Type 0
Refuses f (Ok file) = ⊥
Refuses f (Err e) = (e ≡ Faulty f) ⊎ (e ≡ NoMemory)

pub record Reading (b : List ℕ) (r : Result BoardFile ReadError) : Type 0 where
  pub answer : Judges b r
  -- bytes that read as parts give these
  pub only : (s : Settings) (es : List Call) → Reads b s es → Gives s es r
  -- bytes with a first fault are refused by it
  pub first : (f : Fault) → FileFaulty b f → Refuses f r
  -- bytes have at most one first fault
  pub one : (f g : Fault) → FileFaulty b f → FileFaulty b g → f ≡ g
  -- no other bytes read as the same parts
  pub distinct : IfOk r (λ file. (other : List ℕ) → ReadsAs other file → other ≡ b)
  -- the first 24,589 bytes of an input, one more than any file has, tell how the whole of it reads
  pub whole : (input : List ℕ) → b ≡ take 24589 input → Judges input r
