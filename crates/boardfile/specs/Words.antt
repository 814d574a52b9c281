-- The words of a board file's parts and faults, and of the errors of its reader and writer.
-- settings_words: the settings of a board. fault_words: a fault's number, section and record.
use Rattle.std.specs.Prelude.{ℕ, List, ◌++◌, codes, decimal}
use Rattle.boardfile.specs.declared.parts.Settings.{Settings}
use Rattle.boardfile.specs.declared.parts.LineKind.{LineKind}
use Rattle.boardfile.specs.declared.parts.LineKind.TheVariants.{FirstCome, RoundRobin}
use Rattle.boardfile.specs.declared.parts.PolicyKind.{PolicyKind}
use Rattle.boardfile.specs.declared.parts.PolicyKind.TheVariants as policy
use Rattle.boardfile.specs.declared.parts.DeviceKind.{DeviceKind}
use Rattle.boardfile.specs.declared.parts.DeviceKind.TheVariants.{Registers, Converter}
use Rattle.boardfile.specs.declared.fault.Fault.{Fault}
use Rattle.boardfile.specs.declared.fault.ReadError.{ReadError}
use Rattle.boardfile.specs.declared.fault.ReadError.TheVariants as read
use Rattle.boardfile.specs.declared.fault.WriteError.{WriteError}
use Rattle.boardfile.specs.declared.fault.WriteError.TheVariants as write
use Rattle.boardfile.specs.Numbers.{fault_number}

abbrev pub line_word : LineKind → List ℕ
line_word FirstCome = codes "first-come"
line_word RoundRobin = codes "round-robin"

abbrev pub policy_words : PolicyKind → List ℕ
policy_words policy.Immediate = codes "immediate"
policy_words (policy.Deferred delay) = codes "deferred " ++ decimal delay

abbrev pub device_word : DeviceKind → List ℕ
device_word Registers = codes "registers"
device_word Converter = codes "converter"

abbrev pub settings_words : Settings → List ℕ
settings_words s = codes "clients " ++ (decimal s.clients ++ (codes " places " ++ (decimal s.places ++ (codes " tasks " ++ (decimal s.tasks ++ (codes " line " ++ (line_word s.line ++ (codes " policy " ++ (policy_words s.policy ++ (codes " device " ++ device_word s.device))))))))))

abbrev pub fault_words : Fault → List ℕ
fault_words f = codes "file " ++ (decimal (fault_number f.kind) ++ (codes " " ++ (decimal f.place.0 ++ (codes " " ++ decimal f.place.1))))

abbrev pub read_error_words : ReadError → List ℕ
read_error_words (read.Faulty f) = fault_words f
read_error_words read.NoMemory = codes "out of memory"

abbrev pub write_error_words : WriteError → List ℕ
write_error_words (write.Faulty f) = fault_words f
write_error_words write.TooSmall = codes "the buffer is too small"
