-- Each answer's number and value.
-- is_refused: the call was not performed.
-- answer_number: 0 for a call that was performed, else the number of its refusal.
-- answer_value: what is told beside it: the client granted, the task that ran, the byte of a transfer, a verdict.
use Rattle.std.specs.Prelude.{ℕ, Bool, true, false, Some, None, Option, Ok, Err}
use Rattle.calls.specs.declared.answer.Answer.{Answer}
use Rattle.calls.specs.declared.answer.Answer.TheVariants.{Okay, Granted, Ran, Collected, Refused}
use Rattle.calls.specs.Refusals.{refusal_number, refusal_value}

abbrev pub is_refused : Answer → Bool
is_refused Okay = false
is_refused (Granted client) = false
is_refused (Ran task) = false
is_refused (Collected outcome) = false
is_refused (Refused refusal) = true

abbrev pub answer_number : Answer → ℕ
answer_number Okay = 0
answer_number (Granted client) = 0
answer_number (Ran task) = 0
answer_number (Collected outcome) = 0
answer_number (Refused refusal) = refusal_number refusal

abbrev pub answer_value : Answer → Option ℕ
answer_value Okay = None
answer_value (Granted client) = Some client
answer_value (Ran task) = Some task
answer_value (Collected (Ok byte)) = Some byte
answer_value (Collected (Err failed)) = Some failed.byte
answer_value (Refused refusal) = refusal_value refusal
