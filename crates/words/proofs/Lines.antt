-- The lines of events, one more at a time. Assumes nothing.
use Rattle.std.proofs.Common.{◌≡◌, ℕ, ◌+◌, ◌<◌, List, [], ◌∷◌, ◌++◌, length, get_or, take, arith}
use Rattle.std.proofs.lemmas.Grind.{common_steps}
use Rattle.std.proofs.lemmas.List.{take_more, length-take-le}
use Rattle.calls.specs.declared.call.Call.{Call}
use Rattle.words.specs.Words.{event_line, event_lines}

lines_push : (i : ℕ) (es : List Call) (e : Call) → event_lines i (es ++ e ∷ []) ≡ event_lines i es ++ event_line (i + length es) e
lines_push i [] e = grind (arith, common_steps)
lines_push i (x ∷ es) e = let h = lines_push (i + 1) es e in grind (arith, common_steps, h)

-- the line of the event at i, behind those of the events before it
pub lines_more : (es : List Call) (d : Call) (i : ℕ) (old text more : List ℕ) → i < length es → text ≡ old ++ event_lines 0 (take i es) → more ≡ text ++ event_line i (get_or es i d) → more ≡ old ++ event_lines 0 (take (i + 1) es)
lines_more es d i old text more l p q =
    let h = lines_push 0 (take i es) (get_or es i d) in
    let t = take_more es i d l in
    let n = length-take-le i es (omega arith) in
    grind (arith, common_steps, h, t, n)
