-- The layout of a board file: the bytes of its parts.
-- high, low: the two bytes of a number below 65,536; the high one comes first.
-- settings_bytes, event_bytes: the records, of eight and of six bytes.
-- events_bytes: the second section, a count and a record for each event.
-- Decodes: a decoder's answer to bytes: what they lay out, or else there is nothing that they do.
-- file_bytes: the whole file; the first section is a count of 1 and the settings. layout: the same of a file as it is held.
use Rattle.std.specs.Prelude.{◌≡◌, ◌≢◌, ℕ, ◌/◌, ◌%◌, List, [], ◌∷◌, ◌++◌, length, vec_items, MatchResult, Result}
use Rattle.std.specs.List.{flat_map}
use Rattle.calls.specs.declared.call.Call.{Call}
use Rattle.calls.specs.declared.call.Call.TheVariants.{Request, Immediate, Release, Begin, Collect, Ready, Done, Tick, Post, Run}
use Rattle.boardfile.specs.declared.parts.BoardFile.{BoardFile}
use Rattle.boardfile.specs.declared.parts.Settings.{Settings}
use Rattle.boardfile.specs.declared.parts.LineKind.{LineKind}
use Rattle.boardfile.specs.declared.parts.LineKind.TheVariants.{FirstCome, RoundRobin}
use Rattle.boardfile.specs.declared.parts.PolicyKind.{PolicyKind}
use Rattle.boardfile.specs.declared.parts.PolicyKind.TheVariants as policy
use Rattle.boardfile.specs.declared.parts.DeviceKind.{DeviceKind}
use Rattle.boardfile.specs.declared.parts.DeviceKind.TheVariants.{Registers, Converter}

abbrev pub high : ℕ → ℕ
high n = n / 256

abbrev pub low : ℕ → ℕ
low n = n % 256

abbrev pub line_byte : LineKind → ℕ
line_byte FirstCome = 0
line_byte RoundRobin = 1

-- the policy's kind, and its delay
abbrev pub policy_bytes : PolicyKind → List ℕ
policy_bytes policy.Immediate = 0 ∷ 0 ∷ 0 ∷ []
policy_bytes (policy.Deferred delay) = 1 ∷ high delay ∷ low delay ∷ []

abbrev pub device_byte : DeviceKind → ℕ
device_byte Registers = 0
device_byte Converter = 1

abbrev pub Decodes : {A B E : Type 0} → (A → B) → B → Result A E → Type 0
Decodes {A} bytes_of b r = MatchResult r (λ a. b ≡ bytes_of a) (λ _. (a : A) → b ≢ bytes_of a)

abbrev pub settings_bytes : Settings → List ℕ
settings_bytes s = s.clients ∷ s.places ∷ s.tasks ∷ line_byte s.line ∷ (policy_bytes s.policy ++ device_byte s.device ∷ [])

-- kind, who, the order's kind, address and value; an unused field is 0
abbrev pub event_bytes : Call → List ℕ
event_bytes (Request client) = 0 ∷ client ∷ 0 ∷ 0 ∷ 0 ∷ 0 ∷ []
event_bytes (Immediate client) = 1 ∷ client ∷ 0 ∷ 0 ∷ 0 ∷ 0 ∷ []
event_bytes (Release client) = 2 ∷ client ∷ 0 ∷ 0 ∷ 0 ∷ 0 ∷ []
event_bytes (Begin client order) = 3 ∷ client ∷ order.kind ∷ high order.address ∷ low order.address ∷ order.value ∷ []
event_bytes (Collect client) = 4 ∷ client ∷ 0 ∷ 0 ∷ 0 ∷ 0 ∷ []
event_bytes Ready = 5 ∷ 0 ∷ 0 ∷ 0 ∷ 0 ∷ 0 ∷ []
event_bytes (Done mark byte) = 6 ∷ mark ∷ 0 ∷ 0 ∷ 0 ∷ byte ∷ []
event_bytes Tick = 7 ∷ 0 ∷ 0 ∷ 0 ∷ 0 ∷ 0 ∷ []
event_bytes (Post task) = 8 ∷ task ∷ 0 ∷ 0 ∷ 0 ∷ 0 ∷ []
event_bytes Run = 9 ∷ 0 ∷ 0 ∷ 0 ∷ 0 ∷ 0 ∷ []

abbrev pub events_bytes : List Call → List ℕ
events_bytes es = high (length es) ∷ low (length es) ∷ flat_map event_bytes es

abbrev pub file_bytes : Settings → List Call → List ℕ
file_bytes s es = 0 ∷ 1 ∷ (settings_bytes s ++ events_bytes es)

abbrev pub layout : BoardFile → List ℕ
layout file = file_bytes file.settings (vec_items file.events)
