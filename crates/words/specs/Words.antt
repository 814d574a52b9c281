-- The listing of a board file.
-- event_line, settings_line, fault_line: its lines, each with its line feed.
-- listing: the listing of a board file: its settings, and its events in order.
use Rattle.std.specs.Prelude.{ℕ, ◌+◌, List, [], ◌∷◌, ◌++◌, codes, decimal}
use Rattle.calls.specs.declared.call.Call.{Call}
use Rattle.calls.specs.Words.{call_words}
use Rattle.boardfile.specs.declared.parts.Settings.{Settings}
use Rattle.boardfile.specs.declared.fault.Fault.{Fault}
use Rattle.boardfile.specs.Words.{settings_words, fault_words}

abbrev pub settings_line : Settings → List ℕ
settings_line s = settings_words s ++ codes "\n"

abbrev pub event_line : ℕ → Call → List ℕ
event_line index e = decimal index ++ (codes " " ++ (call_words e ++ codes "\n"))

abbrev pub fault_line : Fault → List ℕ
fault_line f = fault_words f ++ codes "\n"

-- the lines of events, the first of which has this index
abbrev pub event_lines : ℕ → List Call → List ℕ
event_lines index [] = []
event_lines index (e ∷ es) = event_line index e ++ event_lines (index + 1) es

abbrev pub listing : Settings → List Call → List ℕ
listing s es = settings_line s ++ event_lines 0 es
