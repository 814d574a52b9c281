use Rattle.std.proofs.Common.{◌+◌, ◌<◌, [], ◌∷◌, ◌++◌, length, vec_items, ap, ◌∙◌, refl, inl, inr, arith, rules}
use Rattle.std.specs.List.{flat_map}
use Rattle.std.proofs.lemmas.List.{length-append, length-drop}
use Rattle.std.proofs.lemmas.Grind.{common_steps}
use Rattle.boardfile.specs.Layout.{event_bytes}
use Rattle.boardfile.specs.Faults.{count_of, HasEvents, At, WantsMemory}
use Rattle.boardfile.specs.declared.fault.FaultKind.TheVariants.{Trailing}
use Rattle.boardfile.specs.declared.fault.Section.TheVariants.{Events}
use Rattle.boardfile.proofs.Records.{events_more, fewer}
use Rattle.boardfile.proofs.Unique.{events_length, none_past}
use Rattle.boardfile.proofs.events.read_events.Goals as goal

pub returns-in_default-clause-refused : goal.returns-in_default-clause-refused
returns-in_default-clause-refused c =
    let b = c.args.bytes.now in
    let l = c.loop-index in
    let here : HasEvents b l.index l.rest.now = record { events = _; counted = l.invariant.counted; fit = l.invariant.fit; stand = l.invariant.layout } in
    let none = c.in_default.ensures.none in
    rw (c.into-in_default.ensures, c.new-in_default.ensures)
    (inr (search rules, inr (search rules, inr (search rules, inl (λ q. none_past b q.0 _ _ _ q.1 here none (search rules), (_, _, here, none, refl))))))

pub returns-in_err-push-clause-refused : goal.returns-in_err-push-clause-refused
returns-in_err-push-clause-refused c =
    let b = c.args.bytes.now in
    let l = c.loop-index in
    let here : HasEvents b (l.index + 1) c.in-Ok.more.now = record {
      events = vec_items l.events ++ c.in-Ok.event ∷ [];
      counted = grind (arith, common_steps);
      fit = grind (arith, common_steps);
      stand = events_more _ _ _ _ _ l.invariant.layout c.in-Ok.ensures.layout;
    } in
    let wants : WantsMemory b = record { counted = search rules; allowed = search rules; whole = search rules; some = search rules; event = fewer b _ 1 _ (omega arith) here } in
    search rules

pub returns-then-not-is_empty-clause-refused : goal.returns-then-not-is_empty-clause-refused
returns-then-not-is_empty-clause-refused c =
    let b = c.args.bytes.now in
    let l = c.loop-index in
    let all : HasEvents b (count_of b) l.rest.now = record { events = vec_items l.events; counted = search rules; fit = l.invariant.fit; stand = l.invariant.layout } in
    let len = events_length (vec_items l.events) in
    let sum = ap length l.invariant.layout ∙ length-append (flat_map event_bytes (vec_items l.events)) l.rest.now in
    let dropped = length-drop 2 b in
    let at : At Trailing Events (count_of b) c.new-then-not-is_empty.result = search rules in
    let some : 0 < length l.rest.now = search rules in
    rw c.into-then-not-is_empty.ensures
    (inr (search rules, inr (search rules, inr (search rules, inr ((_, all), inl (λ e. omega arith, at))))))

pub loop-index-preserved : goal.loop-index-preserved
loop-index-preserved c = grind (arith, common_steps, events_more)
