-- The first fault of a board file, and its place.
-- Check: a test, the fault where it fails, and the tests after it.
-- SettingsFaulty, EventsFaulty: the tests of each section, in their order; FileFaulty: those of the whole file.
-- PartsFaulty: the writer's tests of its parts. Unwritable: those of a file as it is held.
-- WantsMemory: where memory may run out: only once there is an event to keep.
-- ReadRefused, WriteRefused: what reader and writer answer where they fail.
use Rattle.std.specs.Prelude.{◌≡◌, ℕ, ◌+◌, ◌-◌, ◌*◌, ◌/◌, ◌<◌, ◌≤◌, ◌⊎◌, List, ◌∷◌, ◌++◌, length, take, drop, vec_items, ◌≢◌, slice_index}
use Rattle.std.specs.List.{flat_map}
use Rattle.calls.specs.declared.call.Call.{Call}
use Rattle.boardfile.specs.declared.parts.BoardFile.{BoardFile}
use Rattle.boardfile.specs.declared.parts.Settings.{Settings}
use Rattle.boardfile.specs.declared.fault.FaultKind.{FaultKind}
use Rattle.boardfile.specs.declared.fault.FaultKind.TheVariants.{Clients, Places, Tasks, Missing, Count, Unfit, Trailing}
use Rattle.boardfile.specs.declared.fault.Section.{Section}
use Rattle.boardfile.specs.declared.fault.Section.TheVariants as section
use Rattle.boardfile.specs.declared.fault.Fault.{Fault}
use Rattle.boardfile.specs.declared.fault.ReadError.{ReadError}
use Rattle.boardfile.specs.declared.fault.ReadError.TheVariants as read
use Rattle.boardfile.specs.declared.fault.WriteError.{WriteError}
use Rattle.boardfile.specs.declared.fault.WriteError.TheVariants as write
use Rattle.boardfile.specs.Layout.{settings_bytes, event_bytes, layout}
use Rattle.boardfile.specs.Numbers.{section_number}
use Rattle.boardfile.specs.Fits.{ClientsFit, PlacesFit, TasksFit, SettingsFit, EventFits, EventsFit, Fits}

-- f is a fault of this test, or else of a later one
abbrev pub Check : Type 0 → (Fault → Type 0) → (Fault → Type 0) → Fault → Type 0
Check passes fails later f = ((passes → ⊥) × fails f) ⊎ (passes × later f)

-- no test is left to fail
abbrev pub NoFault : Fault → Type 0
NoFault f = ⊥

-- the fault of this kind, at this section and record
abbrev pub At : FaultKind → Section → ℕ → Fault → Type 0
At kind section index f = f ≡ record { kind = kind; place = (section_number section, index) }

-- a section's count
abbrev pub count_of : List ℕ → ℕ
count_of b = slice_index b 0 * 256 + slice_index b 1

-- settings with this property stand behind the count
abbrev pub HasSettings : List ℕ → (Settings → Type 0) → Type 0
HasSettings b P = (s : Settings) × (t : List ℕ) × (drop 2 b ≡ settings_bytes s ++ t) × P s

-- so many events that fit stand behind the count, and then the bytes t
pub record HasEvents (b : List ℕ) (n : ℕ) (t : List ℕ) : Type 0 where
  pub events : List Call
  pub counted : length events ≡ n
  pub fit : EventsFit events
  pub stand : drop 2 b ≡ flat_map event_bytes events ++ t

-- no event that fits stands at the start of the bytes
abbrev pub NoEvent : List ℕ → Type 0
NoEvent t = (e : Call) (u : List ℕ) → EventFits e → t ≢ event_bytes e ++ u

-- the first record that does not fit
abbrev pub FirstUnfit : List ℕ → Fault → Type 0
FirstUnfit b f = (i : ℕ) × (t : List ℕ) × HasEvents b i t × NoEvent t × At Unfit section.Events i f

-- the tests of the settings themselves, which the writer makes too
abbrev pub SettingsChecks : Settings → (Fault → Type 0) → Fault → Type 0
SettingsChecks s later =
    Check (ClientsFit s) (At Clients section.Settings 0)
    (Check (PlacesFit s) (At Places section.Settings 0)
    (Check (TasksFit s) (At Tasks section.Settings 0)
    later))

-- the bytes of a file from its first section on
abbrev pub SettingsFaulty : List ℕ → (Fault → Type 0) → Fault → Type 0
SettingsFaulty b later =
    Check (2 ≤ length b) (At Missing section.Settings 0)
    (Check (count_of b ≡ 1) (At Count section.Settings 0)
    (Check (10 ≤ length b) (At Missing section.Settings 0)
    (Check (HasSettings b (λ s. Unit {0})) (At Unfit section.Settings 0)
    (λ f. HasSettings b (λ s. SettingsChecks s later f)))))

-- the bytes of a file from its second section on
abbrev pub EventsFaulty : List ℕ → Fault → Type 0
EventsFaulty b =
    Check (2 ≤ length b) (At Missing section.Events 0)
    (Check (count_of b ≤ 4096) (At Count section.Events 0)
    (Check (2 + 6 * count_of b ≤ length b) (At Missing section.Events ((length b - 2) / 6))
    (Check ((t : List ℕ) × HasEvents b (count_of b) t) (FirstUnfit b)
    (Check (length b ≡ 2 + 6 * count_of b) (At Trailing section.Events (count_of b))
    NoFault))))

-- there is an event to keep, so memory is wanted
pub record WantsMemory (b : List ℕ) : Type 0 where
  pub counted : 2 ≤ length b
  pub allowed : count_of b ≤ 4096
  pub whole : 2 + 6 * count_of b ≤ length b
  pub some : 1 ≤ count_of b
  pub event : (t : List ℕ) × HasEvents b 1 t

-- what the reader of the events answers where it fails
abbrev pub EventsRefused : List ℕ → ReadError → Type 0
EventsRefused b (read.Faulty f) = EventsFaulty b f
EventsRefused b read.NoMemory = WantsMemory b

-- the bytes begin with a section of settings that fit
abbrev pub PassesSettings : List ℕ → Type 0
PassesSettings b = (s : Settings) × (t : List ℕ) × (b ≡ 0 ∷ 1 ∷ (settings_bytes s ++ t)) × SettingsFit s

abbrev pub FileFaulty : List ℕ → Fault → Type 0
FileFaulty b = SettingsFaulty b (EventsFaulty (drop 10 b))

abbrev pub ReadRefused : List ℕ → ReadError → Type 0
ReadRefused b (read.Faulty f) = FileFaulty b f
ReadRefused b read.NoMemory = PassesSettings b × WantsMemory (drop 10 b)

-- the event at i is the first that does not fit
abbrev pub UnfitAt : List Call → ℕ → Type 0
UnfitAt es i = (i < length es) × EventsFit (take i es) × (EventsFit (take (i + 1) es) → ⊥)

abbrev pub PartsFaulty : Settings → List Call → Fault → Type 0
PartsFaulty s es =
    SettingsChecks s
    (Check (length es ≤ 4096) (At Count section.Events 0)
    (Check (EventsFit es) (λ f. (i : ℕ) × UnfitAt es i × At Unfit section.Events i f)
    NoFault))

-- the writer's tests of a file as it is held
abbrev pub Unwritable : BoardFile → Fault → Type 0
Unwritable file = PartsFaulty file.settings (vec_items file.events)

-- what the writer answers where it fails, with room for so many bytes
abbrev pub WriteRefused : BoardFile → ℕ → WriteError → Type 0
WriteRefused file room (write.Faulty f) = Unwritable file f
WriteRefused file room write.TooSmall = Fits file × (room < length (layout file))
