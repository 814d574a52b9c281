-- What the listing of bytes says.
-- Tells: the line of a faulty file; want of memory has none.
-- Lists: the listing of the parts that the bytes read as, or else their first fault.
use Rattle.std.specs.Prelude.{◌≡◌, ℕ, ◌⊎◌, List}
use Rattle.calls.specs.declared.call.Call.{Call}
use Rattle.boardfile.specs.declared.parts.Settings.{Settings}
use Rattle.boardfile.specs.declared.fault.Fault.{Fault}
use Rattle.boardfile.specs.declared.fault.ReadError.{ReadError}
use Rattle.boardfile.specs.declared.fault.ReadError.TheVariants.{Faulty, NoMemory}
use Rattle.boardfile.specs.Faults.{FileFaulty}
use Rattle.boardfile.specs.Reads.{Reads}
use Rattle.words.specs.Words.{listing, fault_line}

abbrev pub Tells : ReadError → List ℕ → Type 0
Tells (Faulty f) text = text ≡ fault_line f
Tells NoMemory text = ⊥

abbrev pub Lists : List ℕ → List ℕ → Type 0
Lists b text =
    ((s : Settings) × (es : List Call) × Reads b s es × (text ≡ listing s es))
    ⊎ ((f : Fault) × FileFaulty b f × (text ≡ fault_line f))
