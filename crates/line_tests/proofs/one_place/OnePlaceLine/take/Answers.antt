use Rattle.std.proofs.Common.{◌<◌, ap, arith}
use Rattle.std.proofs.lemmas.Grind.{common_steps}
use Rattle.line.specs.Lines.{number_of}
use Rattle.line_tests.specs.OnePlacesLemmas.{one_took}
use Rattle.line_tests.proofs.one_place.OnePlaceLine.take.Goals as goal

pub returns-clause-moves : goal.returns-clause-moves
returns-clause-moves c =
    let l = c.args.self.now in
    let g = c.in_ok-waiting.waiting.number in
    let is = ap number_of c.in_ok-waiting.was in
    let here : g < l.clients = let k = l.known in grind (arith, common_steps, is) in
    rw is (one_took l.clients g here)
