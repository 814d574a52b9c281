use Rattle.std.proofs.Common.{List, ℕ, string_bytes, inl, inr}
use Rattle.std.proofs.lemmas.Result.{IfOk-weaker}
use Rattle.boardfile.specs.declared.fault.ReadError.{ReadError}
use Rattle.boardfile.specs.declared.fault.ReadError.TheVariants.{Faulty, NoMemory}
use Rattle.boardfile.specs.Faults.{ReadRefused}
use Rattle.words.specs.Lists.{Lists, Tells}
use Rattle.words.proofs.listing.list.Goals as goal

tells_fault : (b : List ℕ) (e : ReadError) (text : List ℕ) → ReadRefused b e → Tells e text → Lists b text
tells_fault b (Faulty f) text r t = inr (f, r, t)
tells_fault b NoMemory text r t = absurd t

pub returns-in-Ok-clause-whole : goal.returns-in-Ok-clause-whole
returns-in-Ok-clause-whole c input p = IfOk-weaker c.list_parts.result _ (λ text. Lists input (string_bytes text)) (λ text t. inl (_, _, c.in-Ok.ensures.whole input p, t)) c.list_parts.ensures

pub returns-in-Err-clause-whole : goal.returns-in-Err-clause-whole
returns-in-Err-clause-whole c input p = IfOk-weaker c.list_error.result _ (λ text. Lists input (string_bytes text)) (λ text t. tells_fault input c.in-Err.error _ (c.in-Err.ensures.whole input p) t) c.list_error.ensures
