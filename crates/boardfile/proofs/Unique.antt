-- Bytes are the layout of one event, of one list of events and of one board's settings. Assumes nothing.
use Rattle.std.proofs.Common.{◌≡◌, ℕ, ◌+◌, ◌*◌, ◌<◌, List, [], ◌∷◌, ◌++◌, length, sym, refl, ◌∙◌, arith}
use Rattle.std.specs.List.{flat_map}
use Rattle.std.proofs.lemmas.List.{append_assoc}
use Rattle.std.proofs.lemmas.Grind.{common_steps}
use Rattle.std.proofs.lemmas.List.Elements.{All-head, All-tail}
use Rattle.calls.specs.declared.call.Call.{Call}
use Rattle.boardfile.specs.declared.parts.Settings.{Settings}
use Rattle.boardfile.specs.Layout.{high, low, event_bytes, settings_bytes, file_bytes}
use Rattle.boardfile.specs.Fits.{EventFits, EventsFit}
use Rattle.boardfile.specs.Faults.{HasEvents, NoEvent}

pub two_bytes : (n : ℕ) → high n * 256 + low n ≡ n
two_bytes n = omega arith

-- ---- events

pub event_length : (e : Call) → length (event_bytes e) ≡ 6
event_length e = grind arith

pub same_event : (e e' : Call) (t t' : List ℕ) → event_bytes e ++ t ≡ event_bytes e' ++ t' → (e ≡ e') × (t ≡ t')
same_event e e' t t' p = grind (arith, two_bytes)

pub events_length : (es : List Call) → length (flat_map event_bytes es) ≡ 6 * length es
events_length [] = refl
events_length (e ∷ es) = grind (arith, common_steps, event_length, events_length es)

pub same_events : (es es' : List Call) → length es ≡ length es' → flat_map event_bytes es ≡ flat_map event_bytes es' → es ≡ es'
same_events [] [] n p = refl
same_events [] (e ∷ es) n p = absurd (omega arith)
same_events (e ∷ es) [] n p = absurd (omega arith)
same_events (e ∷ es) (e' ∷ es') n p = grind (arith, same_event e e' (flat_map event_bytes es) (flat_map event_bytes es') p, same_events es es')

-- where more events stand than were counted off, what is left begins with an event
follows : (es es' : List Call) (t t' : List ℕ) → EventsFit es → length es' < length es → flat_map event_bytes es ++ t ≡ flat_map event_bytes es' ++ t' → NoEvent t' → ⊥
follows [] es' t t' h n p none = omega arith
follows (e ∷ es) [] t t' h n p none = none e (flat_map event_bytes es ++ t) (All-head EventFits e es h) (sym p ∙ append_assoc (event_bytes e) (flat_map event_bytes es) t)
follows (e ∷ es) (e' ∷ es') t t' h n p none =
    let q = same_event e e' (flat_map event_bytes es ++ t) (flat_map event_bytes es' ++ t') (sym (append_assoc (event_bytes e) (flat_map event_bytes es) t) ∙ p ∙ append_assoc (event_bytes e') (flat_map event_bytes es') t') in
    follows es es' t t' (All-tail EventFits e es h) (omega arith) q.1 none

-- nothing that fits stands past the first record that does not
pub none_past : (b t t' : List ℕ) (n i : ℕ) → HasEvents b n t → HasEvents b i t' → NoEvent t' → i < n → ⊥
none_past b t t' n i p q none l =
    let m = p.counted in
    let k = q.counted in
    follows p.events q.events t t' p.fit (omega arith) (sym p.stand ∙ q.stand) none

-- ---- settings

pub settings_length : (s : Settings) → length (settings_bytes s) ≡ 8
settings_length s = grind (arith, common_steps)

pub same_settings : (s s' : Settings) (t t' : List ℕ) → settings_bytes s ++ t ≡ settings_bytes s' ++ t' → (s ≡ s') × (t ≡ t')
same_settings s s' t t' p = grind (arith, two_bytes)

-- ---- files

pub same_file : (s s' : Settings) (es es' : List Call) → file_bytes s es ≡ file_bytes s' es' → (s ≡ s') × (es ≡ es')
same_file s s' es es' p = grind (arith, same_settings, same_events, two_bytes)
