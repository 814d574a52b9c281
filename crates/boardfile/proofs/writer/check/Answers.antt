use Rattle.std.proofs.Common.{vec_items, inl, inr, rules}
use Rattle.boardfile.specs.Faults.{UnfitAt}
use Rattle.boardfile.proofs.Records.{not_all_fit}
use Rattle.boardfile.proofs.writer.check.Goals as goal

pub returns-in-Some-clause-first : goal.returns-in-Some-clause-first
returns-in-Some-clause-first c =
    let h = c.in_ok-check.ensures.fit in
    let u : UnfitAt (vec_items c.args.file.now.events) c.in-Some.index = search rules in
    inr (h.clients, inr (h.places, inr (h.tasks, inr (search rules, inl (not_all_fit _ _ u, (_, u, search rules))))))
