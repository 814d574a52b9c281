-- Calls and errors in words.
-- call_words: a call, by its name and its fields.
-- refusal_words: a refusal, by its number, and by its value if it has one (value_words).
-- failure_words: a transfer that failed, with its byte.
use Rattle.std.specs.Prelude.{ℕ, List, [], ◌++◌, codes, decimal, Some, None, Option}
use Rattle.calls.specs.declared.answer.TransferFailed.{TransferFailed}
use Rattle.calls.specs.declared.refusal.Refusal.{Refusal}
use Rattle.calls.specs.Refusals.{refusal_number, refusal_value}
use Rattle.calls.specs.declared.call.Call.{Call}
use Rattle.calls.specs.declared.call.Call.TheVariants.{Request, Immediate, Release, Begin, Collect, Ready, Done, Tick, Post, Run}

abbrev pub call_words : Call → List ℕ
call_words (Request client) = codes "request client " ++ decimal client
call_words (Immediate client) = codes "immediate client " ++ decimal client
call_words (Release client) = codes "release client " ++ decimal client
call_words (Begin client order) = codes "begin client " ++ (decimal client ++ (codes " kind " ++ (decimal order.kind ++ (codes " address " ++ (decimal order.address ++ (codes " value " ++ decimal order.value))))))
call_words (Collect client) = codes "collect client " ++ decimal client
call_words Ready = codes "ready"
call_words (Done mark byte) = codes "done mark " ++ (decimal mark ++ (codes " byte " ++ decimal byte))
call_words Tick = codes "tick"
call_words (Post task) = codes "post task " ++ decimal task
call_words Run = codes "run"

abbrev pub value_words : Option ℕ → List ℕ
value_words None = []
value_words (Some v) = codes " " ++ decimal v

abbrev pub refusal_words : Refusal → List ℕ
refusal_words r = codes "no " ++ (decimal (refusal_number r) ++ value_words (refusal_value r))

abbrev pub failure_words : TransferFailed → List ℕ
failure_words failed = codes "failed " ++ decimal failed.byte
