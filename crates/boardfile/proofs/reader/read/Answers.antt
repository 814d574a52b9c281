use Rattle.std.proofs.Common.{drop, rules}
use Rattle.std.proofs.lemmas.Result.{err_from_is_err_and}
use Rattle.boardfile.specs.Faults.{EventsFaulty}
use Rattle.boardfile.proofs.First.{settings_fault, events_refusal}
use Rattle.boardfile.proofs.Judged.{refused, accepted}
use Rattle.boardfile.proofs.reader.read.Goals as goal

pub returns-in_err-settings : goal.returns-in_err-settings
returns-in_err-settings c =
    let b = c.args.bytes.now in
    let p = err_from_is_err_and c.from_residual.result c.from_residual.ensures.1 in
    rw (p.1, p.2) (refused b _ (settings_fault b (EventsFaulty (drop 10 b)) _ c.in_err-settings.ensures.first))

pub returns-in_err-events : goal.returns-in_err-events
returns-in_err-events c =
    let p = err_from_is_err_and c.from_residual-in_err-events.result c.from_residual-in_err-events.ensures.1 in
    let q = c.in_ok-settings.ensures in
    rw (p.1, p.2) (refused _ _ (events_refusal _ _ _ _ q.layout q.fit c.in_err-events.ensures.refused))

pub returns : goal.returns
returns c = accepted _ _ (search rules)
