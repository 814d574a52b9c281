-- A buffer that is lent from each part's start to that part's writer. Assumes nothing.
use Rattle.std.proofs.Common.{◌≡◌, ℕ, ◌+◌, ◌-◌, ◌*◌, ◌<◌, List, ◌++◌, length, get_or, take, drop, ◌∙◌, arith}
use borrow.Rule.Slice.PartMut.{put_mid}
use Rattle.std.specs.List.{flat_map}
use Rattle.std.proofs.lemmas.Grind.{common_steps, flat_map-append}
use Rattle.std.proofs.lemmas.List.{append-nil, append_assoc, take_at, drop_at, take_rest, drop-drop, drop_all, length-drop}
use Rattle.calls.specs.declared.call.Call.{Call}
use Rattle.boardfile.specs.declared.parts.Settings.{Settings}
use Rattle.boardfile.specs.Layout.{event_bytes, file_bytes}
use Rattle.boardfile.proofs.Unique.{events_length, settings_length}

-- p has been written, and r is then written where p ends
pub lent : (p r old buf part : List ℕ) (a w : ℕ) → length p ≡ a → buf ≡ p ++ drop a old → part ≡ r ++ drop w (take (length buf - a) (drop a buf)) → put_mid a (length buf - a) buf part ≡ (p ++ r) ++ drop (a + w) old
lent p r old buf part a w n e q = rw e (grind (arith, take_at, drop_at, drop-drop, take_rest, drop_all, length-drop, append-nil, append_assoc))

-- one event's record more
pub records_more : (es : List Call) (d : Call) (old buf part : List ℕ) (i : ℕ) → i < length es → buf ≡ flat_map event_bytes (take i es) ++ drop (6 * i) old → part ≡ event_bytes (get_or es i d) ++ drop 6 (take (length buf - 6 * i) (drop (6 * i) buf)) → put_mid (6 * i) (length buf - 6 * i) buf part ≡ flat_map event_bytes (take (i + 1) es) ++ drop (6 * (i + 1)) old
records_more es d old buf part i l e q =
    let p = flat_map event_bytes (take i es) in
    let n : length p ≡ 6 * i = grind (arith, common_steps, events_length) in
    lent p (event_bytes (get_or es i d)) old buf part (6 * i) 6 n e q ∙ grind (arith, common_steps, flat_map-append)

pub file_length : (s : Settings) (es : List Call) → length (file_bytes s es) ≡ 12 + 6 * length es
file_length s es = grind (arith, common_steps, events_length, settings_length)
