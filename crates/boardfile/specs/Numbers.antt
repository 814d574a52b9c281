-- The numbers of a board file's faults.
-- fault_number: the number that a report shows for a fault.
-- write_number: the number of a refused writing, that of its fault or 25 for a buffer that is too small.
-- section_number: the number of a section, from 1.
-- OnlyKind, OnlySection: no other kind of fault has its number, and no other section.
use Rattle.std.specs.Prelude.{◌≡◌, ℕ}
use Rattle.calls.specs.Refusals.{refusal_number}
use Rattle.calls.specs.declared.refusal.Refusal.TheVariants.{ClientsOutOfRange, PlacesOutOfRange, TasksOutOfRange}
use Rattle.boardfile.specs.declared.fault.WriteError.{WriteError}
use Rattle.boardfile.specs.declared.fault.WriteError.TheVariants.{Faulty, TooSmall}
use Rattle.boardfile.specs.declared.fault.FaultKind.{FaultKind}
use Rattle.boardfile.specs.declared.fault.FaultKind.TheVariants.{Clients, Places, Tasks, Missing, Count, Unfit, Trailing}
use Rattle.boardfile.specs.declared.fault.Section.{Section}
use Rattle.boardfile.specs.declared.fault.Section.TheVariants.{Settings, Events}

abbrev pub fault_number : FaultKind → ℕ
fault_number Clients = refusal_number ClientsOutOfRange
fault_number Places = refusal_number PlacesOutOfRange
fault_number Tasks = refusal_number TasksOutOfRange
fault_number Missing = 21
fault_number Count = 22
fault_number Unfit = 23
fault_number Trailing = 24

abbrev pub write_number : WriteError → ℕ
write_number (Faulty f) = fault_number f.kind
write_number TooSmall = 25

abbrev pub OnlyKind : FaultKind → Type 0
OnlyKind k = (other : FaultKind) → fault_number other ≡ fault_number k → other ≡ k

abbrev pub section_number : Section → ℕ
section_number Settings = 1
section_number Events = 2

abbrev pub OnlySection : Section → Type 0
OnlySection s = (other : Section) → section_number other ≡ section_number s → other ≡ s
