-- The first fault of bytes: there is at most one, and none where the bytes read as parts. Assumes nothing.
use Rattle.std.proofs.Common.{rules, ◌≡◌, ℕ, ◌≤◌, ◌⊎◌, List, [], ◌∷◌, ◌++◌, length, drop, sym, refl, ap, ◌∙◌, inl, inr, arith}
use Rattle.std.specs.List.{flat_map}
use Rattle.std.proofs.lemmas.List.{append-nil}
use Rattle.std.proofs.lemmas.Grind.{common_steps}
use Rattle.calls.specs.declared.call.Call.{Call}
use Rattle.boardfile.specs.declared.parts.Settings.{Settings}
use Rattle.boardfile.specs.declared.fault.FaultKind.{FaultKind}
use Rattle.boardfile.specs.declared.fault.Section.{Section}
use Rattle.boardfile.specs.declared.fault.Section.TheVariants.{Events}
use Rattle.boardfile.specs.declared.fault.Fault.{Fault}
use Rattle.boardfile.specs.declared.fault.ReadError.{ReadError}
use Rattle.boardfile.specs.declared.fault.ReadError.TheVariants.{Faulty, NoMemory}
use Rattle.boardfile.specs.Layout.{settings_bytes, event_bytes, events_bytes, file_bytes}
use Rattle.boardfile.specs.Fits.{SettingsFit, EventsFit, FileFits}
use Rattle.boardfile.specs.Faults.{Check, NoFault, At, count_of, HasEvents, FirstUnfit, SettingsChecks, SettingsFaulty, EventsFaulty, FileFaulty, ReadRefused, EventsRefused}
use Rattle.boardfile.specs.Reads.{Reads}
use Rattle.boardfile.proofs.Unique.{two_bytes, same_settings, same_file, settings_length, events_length, none_past}

-- at most one fault is meant
abbrev One : (Fault → Type 0) → Type 0
One F = (f g : Fault) → F f → F g → f ≡ g

-- no fault is meant
abbrev Clean : (Fault → Type 0) → Type 0
Clean F = (f : Fault) → F f → ⊥

-- ---- one test, and those after it

one_check : (P : Type 0) (F later : Fault → Type 0) → One F → One later → One (Check P F later)
one_check P F later a b f g x y = grind arith

one_at : (kind : FaultKind) (section : Section) (index : ℕ) → One (At kind section index)
one_at kind section index f g p q = cc

one_none : One NoFault
one_none f g p q = absurd p

-- ---- the first section

one_settings_checks : (s : Settings) (later : Fault → Type 0) → One later → One (SettingsChecks s later)
one_settings_checks s later h f g x y = grind arith

one_settings : (b : List ℕ) (later : Fault → Type 0) → One later → One (SettingsFaulty b later)
one_settings b later h f g x y = grind (arith, one_settings_checks, same_settings)

clean_settings_checks : (s : Settings) (later : Fault → Type 0) → SettingsFit s → Clean later → Clean (SettingsChecks s later)
clean_settings_checks s later h c f x = grind arith

clean_settings : (s : Settings) (t : List ℕ) (later : Fault → Type 0) → SettingsFit s → Clean later → Clean (SettingsFaulty (0 ∷ 1 ∷ (settings_bytes s ++ t)) later)
clean_settings s t later h c f x =
    let l = settings_length s in
    grind (arith, common_steps, same_settings, clean_settings_checks)

-- a fault of the settings is one of the file
pub settings_fault : (b : List ℕ) (later : Fault → Type 0) (f : Fault) → SettingsFaulty b NoFault f → SettingsFaulty b later f
settings_fault b later f x = search rules

-- a fault behind settings that fit is one of the file
pub later_fault : (b : List ℕ) (s : Settings) (t : List ℕ) (later : Fault → Type 0) (f : Fault) → b ≡ 0 ∷ 1 ∷ (settings_bytes s ++ t) → SettingsFit s → later f → SettingsFaulty b later f
later_fault b s t later f e h x = search rules

-- what follows the first section
pub second_section : (b : List ℕ) (s : Settings) (t : List ℕ) → b ≡ 0 ∷ 1 ∷ (settings_bytes s ++ t) → drop 10 b ≡ t
second_section b s t e = grind (arith, common_steps)

-- ---- the second section

one_unfit : (b : List ℕ) → One (FirstUnfit b)
one_unfit b f g (i, t, has, none, e) (j, u, has', none', e') = grind (arith, none_past b u t j i has' has none, none_past b t u i j has has' none')

one_events : (b : List ℕ) → One (EventsFaulty b)
one_events b =
    one_check _ _ _ (one_at _ Events _) (one_check _ _ _ (one_at _ Events _) (one_check _ _ _ (one_at _ Events _) (one_check _ _ _ (one_unfit b)
    (one_check _ _ _ (one_at _ Events _) one_none))))

clean_events : (es : List Call) → length es ≤ 4096 → EventsFit es → Clean (EventsFaulty (events_bytes es))
clean_events es h fit f x =
    let n = two_bytes (length es) in
    let l = events_length es in
    let all : HasEvents (events_bytes es) (count_of (events_bytes es)) [] = record { events = es; counted = sym n; fit = fit; stand = sym (append-nil (flat_map event_bytes es)) } in
    grind arith

-- ---- the file

pub one_file : (b : List ℕ) → One (FileFaulty b)
one_file b = one_settings b (EventsFaulty (drop 10 b)) (one_events (drop 10 b))

clean_file : (s : Settings) (es : List Call) → FileFits s es → Clean (FileFaulty (file_bytes s es))
clean_file s es h =
    let d = second_section (file_bytes s es) s (events_bytes es) refl in
    clean_settings s (events_bytes es) _ h.settings (rw d (clean_events es h.count h.events))

-- ---- what a reader's answer settles

-- bytes that read as parts are refused for want of memory alone
pub only_memory : (b : List ℕ) (e : ReadError) → ReadRefused b e → (s : Settings) (es : List Call) → Reads b s es → e ≡ NoMemory
only_memory b (Faulty f) x s es p = absurd (clean_file s es p.1 f (rw p.0 at x))
only_memory b NoMemory x s es p = refl

-- bytes with a first fault are refused by it, or for want of memory
pub that_fault : (b : List ℕ) (e : ReadError) → ReadRefused b e → (f : Fault) → FileFaulty b f → (e ≡ Faulty f) ⊎ (e ≡ NoMemory)
that_fault b (Faulty g) x f p = inl (ap Faulty (one_file b g f x p))
that_fault b NoMemory x f p = inr refl

-- bytes that read as parts have no fault
pub no_fault : (b : List ℕ) (s : Settings) (es : List Call) → Reads b s es → (f : Fault) → FileFaulty b f → ⊥
no_fault b s es p f x = clean_file s es p.1 f (rw p.0 at x)

-- bytes read as no other parts
pub only_parts : (b : List ℕ) (s s' : Settings) (es es' : List Call) → Reads b s es → Reads b s' es' → (s ≡ s') × (es ≡ es')
only_parts b s s' es es' p q = same_file s s' es es' (sym p.0 ∙ q.0)

-- a refusal of the second section, behind settings that fit, is one of the file
pub events_refusal : (b : List ℕ) (s : Settings) (t : List ℕ) (e : ReadError) → b ≡ 0 ∷ 1 ∷ (settings_bytes s ++ t) → SettingsFit s → EventsRefused t e → ReadRefused b e
events_refusal b s t (Faulty f) p h x = later_fault b s t (EventsFaulty (drop 10 b)) f p h (rw (second_section b s t p) x)
events_refusal b s t NoMemory p h x = search (rules, second_section b s t p)
