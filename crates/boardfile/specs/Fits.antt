-- Which parts fit a board file.
-- ClientsFit, PlacesFit, TasksFit: the three tests of the settings, which a board's set-up makes too.
-- EventFits: the mark of a done is 0 or 1; whether a client or a task exists is the board's question.
-- FileFits: all of it, with at most 4,096 events. Fits: the same of a file as it is held.
use Rattle.std.specs.Prelude.{◌≡◌, ◌≤◌, List, All, length, vec_items}
use Rattle.calls.specs.declared.call.Call.{Call}
use Rattle.calls.specs.declared.call.Call.TheVariants.{Request, Immediate, Release, Begin, Collect, Ready, Done, Tick, Post, Run}
use Rattle.boardfile.specs.declared.parts.BoardFile.{BoardFile}
use Rattle.boardfile.specs.declared.parts.Settings.{Settings}
use Rattle.boardfile.specs.declared.parts.LineKind.TheVariants.{RoundRobin}

abbrev pub ClientsFit : Settings → Type 0
ClientsFit s = (1 ≤ s.clients) × (s.clients ≤ 32)

abbrev pub PlacesFit : Settings → Type 0
PlacesFit s = (1 ≤ s.places) × (s.places ≤ s.clients) × (s.line ≡ RoundRobin → s.places ≡ s.clients)

abbrev pub TasksFit : Settings → Type 0
TasksFit s = (1 ≤ s.tasks) × (s.tasks ≤ 255)

pub record SettingsFit (s : Settings) : Type 0 where
  pub clients : ClientsFit s
  pub places : PlacesFit s
  pub tasks : TasksFit s

abbrev pub EventFits : Call → Type 0
EventFits (Request client) = Unit {0}
EventFits (Immediate client) = Unit {0}
EventFits (Release client) = Unit {0}
EventFits (Begin client order) = Unit {0}
EventFits (Collect client) = Unit {0}
EventFits Ready = Unit {0}
EventFits (Done mark byte) = mark ≤ 1
EventFits Tick = Unit {0}
EventFits (Post task) = Unit {0}
EventFits Run = Unit {0}

abbrev pub EventsFit : List Call → Type 0
EventsFit es = All EventFits es

pub record FileFits (s : Settings) (es : List Call) : Type 0 where
  pub settings : SettingsFit s
  pub count : length es ≤ 4096
  pub events : EventsFit es

abbrev pub Fits : BoardFile → Type 0
Fits file = FileFits file.settings (vec_items file.events)
