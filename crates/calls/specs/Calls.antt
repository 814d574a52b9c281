-- Each call's number and values.
-- call_number: its kind, as a board file writes it.
-- call_values: its fields, in the order of a board file's record.
-- OnlyCall: no other call has its number and values.
use Rattle.std.specs.Prelude.{◌≡◌, ℕ, List, [], ◌∷◌}
use Rattle.calls.specs.declared.call.Call.{Call}
use Rattle.calls.specs.declared.call.Call.TheVariants.{Request, Immediate, Release, Begin, Collect, Ready, Done, Tick, Post, Run}

abbrev pub call_number : Call → ℕ
call_number (Request client) = 0
call_number (Immediate client) = 1
call_number (Release client) = 2
call_number (Begin client order) = 3
call_number (Collect client) = 4
call_number Ready = 5
call_number (Done mark byte) = 6
call_number Tick = 7
call_number (Post task) = 8
call_number Run = 9

abbrev pub call_values : Call → List ℕ
call_values (Request client) = client ∷ []
call_values (Immediate client) = client ∷ []
call_values (Release client) = client ∷ []
call_values (Begin client order) = client ∷ order.kind ∷ order.address ∷ order.value ∷ []
call_values (Collect client) = client ∷ []
call_values Ready = []
call_values (Done mark byte) = mark ∷ byte ∷ []
call_values Tick = []
call_values (Post task) = task ∷ []
call_values Run = []

abbrev pub OnlyCall : Call → Type 0
OnlyCall c = (other : Call) → call_number other ≡ call_number c → call_values other ≡ call_values c → other ≡ c
