use Rattle.std.proofs.Common.{◌≡◌, ◌<◌, false, Some, arith}
use Rattle.std.proofs.lemmas.Grind.{common_steps}
use Rattle.line.specs.Lines.{is_full, number_of}
use Rattle.line_tests.specs.OnePlaces.{one_view}
use Rattle.line_tests.specs.OnePlacesLemmas.{one_put}
use Rattle.line_tests.proofs.one_place.OnePlaceLine.put.Goals as goal

pub returns-clause-moves : goal.returns-clause-moves
returns-clause-moves c =
    let l = c.args.self.now in
    let n = c.args.client in
    let here : n < l.clients = grind (arith, common_steps, c.in_ok-check_put.ensures) in
    let free : is_full (one_view l.clients (number_of l.waiting)) ≡ false = grind (arith, common_steps, c.in_ok-check_put.ensures) in
    let is : number_of c.from_number-self.result ≡ Some n = grind (arith, common_steps) in
    rw is (one_put l.clients (number_of l.waiting) n l.known free here)
