-- No file is longer than 24,588 bytes, so one byte more of an input settles how all of it reads. Assumes nothing.
use Rattle.std.proofs.Common.{rules, ◌≡◌, ℕ, ◌+◌, ◌*◌, ◌<◌, ◌≤◌, ◌⊎◌, List, [], ◌∷◌, ◌++◌, length, take, drop, sym, refl, ap, ◌∙◌, subst, inl, inr, arith}
use Rattle.std.specs.List.{flat_map}
use Rattle.std.proofs.lemmas.List.{append_assoc, drop-append-le, length-append, length-drop, length-take-le, take_all, take-append-drop}
use Rattle.std.proofs.lemmas.Grind.{common_steps}
use Rattle.std.proofs.lemmas.Bool.{cases_lt}
use Rattle.calls.specs.declared.call.Call.{Call}
use Rattle.boardfile.specs.declared.parts.Settings.{Settings}
use Rattle.boardfile.specs.declared.fault.Fault.{Fault}
use Rattle.boardfile.specs.declared.fault.ReadError.{ReadError}
use Rattle.boardfile.specs.declared.fault.ReadError.TheVariants.{Faulty, NoMemory}
use Rattle.boardfile.specs.declared.fault.FaultKind.TheVariants.{Trailing}
use Rattle.boardfile.specs.Layout.{settings_bytes, event_bytes}
use Rattle.boardfile.specs.Faults.{count_of, SettingsChecks, HasSettings, HasEvents, NoEvent, FirstUnfit, SettingsFaulty, EventsFaulty, FileFaulty, PassesSettings, WantsMemory, ReadRefused}
use Rattle.boardfile.specs.Reads.{Reads}
use Rattle.boardfile.proofs.Lends.{file_length}
use Rattle.boardfile.proofs.Records.{fewer}
use Rattle.boardfile.proofs.Unique.{settings_length, event_length, events_length}

-- ---- a list and a longer one, u and u ++ z

-- what the longer one begins with, the shorter one does where it is long enough
prefix : (u z p t : List ℕ) → u ++ z ≡ p ++ t → length p ≤ length u → (t' : List ℕ) × (u ≡ p ++ t')
prefix u z [] t e h = (u, refl)
prefix [] z (a ∷ p) t e h = absurd (omega arith)
prefix (b ∷ u) z (a ∷ p) t e h = search (rules, prefix u z p t)

same_count : (u z : List ℕ) → 2 ≤ length u → count_of (u ++ z) ≡ count_of u
same_count u z h = grind (arith, common_steps)

-- ---- the first section

settings_forth : (u z : List ℕ) (P : Settings → Type 0) → 2 ≤ length u → HasSettings u P → HasSettings (u ++ z) P
settings_forth u z P h (s, t, e, p) = (s, t ++ z, grind (arith, common_steps, append_assoc), p)

settings_back : (u z : List ℕ) (P : Settings → Type 0) → 10 ≤ length u → HasSettings (u ++ z) P → HasSettings u P
settings_back u z P h (s, t, e, p) =
    let l = settings_length s in
    let q = prefix (drop 2 u) z (settings_bytes s) t (grind (arith, common_steps)) (grind (arith, common_steps)) in
    (s, q.0, q.1, p)

settings_longer : (u z : List ℕ) (later later' : Fault → Type 0) (f : Fault) → 10 ≤ length u → (later f → later' f) → SettingsFaulty u later f → SettingsFaulty (u ++ z) later' f
settings_longer u z later later' f h m x =
    let l = length-append u z in
    let n = same_count u z (omega arith) in
    let back = λ (y : HasSettings (u ++ z) (λ s. Unit {0})). settings_back u z (λ s. Unit {0}) h y in
    let forth = λ (y : HasSettings u (λ s. Unit {0})). settings_forth u z (λ s. Unit {0}) (omega arith) y in
    let on = λ (y : HasSettings u (λ s. SettingsChecks s later f)). settings_forth u z (λ s. SettingsChecks s later f) (omega arith) y in
    search rules

-- ---- the second section

events_forth : (u z t : List ℕ) (n : ℕ) → 2 ≤ length u → HasEvents u n t → HasEvents (u ++ z) n (t ++ z)
events_forth u z t n h has = record {
  events = has.events;
  counted = has.counted;
  fit = has.fit;
  stand = grind (arith, common_steps, drop-append-le, append_assoc);
}

events_back : (u z t : List ℕ) (n : ℕ) → 2 + 6 * n ≤ length u → HasEvents (u ++ z) n t → (t' : List ℕ) × HasEvents u n t'
events_back u z t n h has =
    let l = events_length has.events in
    let k = has.counted in
    let q = prefix (drop 2 u) z (flat_map event_bytes has.events) t (grind (arith, common_steps, has.stand)) (grind (arith, common_steps)) in
    (q.0, record { events = has.events; counted = k; fit = has.fit; stand = q.1 })

-- six bytes that are no event are none with more behind them
no_event_longer : (t z : List ℕ) → 6 ≤ length t → NoEvent t → NoEvent (t ++ z)
no_event_longer t z h none e v fit p =
    let l = event_length e in
    let q = prefix t z (event_bytes e) v p (omega arith) in
    none e q.0 fit q.1

unfit_longer : (u z : List ℕ) (n : ℕ) (f : Fault) → 2 + 6 * n ≤ length u → ((t : List ℕ) × HasEvents u n t → ⊥) → FirstUnfit u f → FirstUnfit (u ++ z) f
unfit_longer u z n f h not (i, t, has, none, e) =
    elim (cases_lt i n) [
      | inr more ↦ absurd (not (fewer u t n i more has))
      | inl l ↦
          let a = events_length has.events in
          let b = has.counted in
          let c = ap length has.stand in
          (i, t ++ z, events_forth u z t i (omega arith) has, no_event_longer t z (grind (arith, common_steps)) none, e)
    ]

events_longer : (u z : List ℕ) (f : Fault) → 24578 < length u → EventsFaulty u f → EventsFaulty (u ++ z) f
events_longer u z f h (inl a) = absurd (a.0 (omega arith))
events_longer u z f h (inr (p, inl a)) =
    let l = length-append u z in
    inr (omega arith, inl (λ q. a.0 (subst (λ (n : ℕ). n ≤ 4096) (same_count u z p) q), a.1))
events_longer u z f h (inr (p, inr (q, inl a))) = absurd (a.0 (omega arith))
events_longer u z f h (inr (p, inr (q, inr (r, inl a)))) =
    let l = length-append u z in
    let n = same_count u z p in
    inr (omega arith, inr (omega arith, inr (omega arith, inl (λ x. a.0 (events_back u z x.0 (count_of u) r (subst (λ (k : ℕ). HasEvents (u ++ z) k x.0) n x.1)), unfit_longer u z (count_of u) f r a.0 a.1))))
events_longer u z f h (inr (p, inr (q, inr (r, inr (all, inl a))))) =
    let l = length-append u z in
    let n = same_count u z p in
    inr (
      omega arith,
      inr (
        omega arith,
        inr (
          omega arith,
          inr (
            (all.0 ++ z, subst (λ (k : ℕ). HasEvents (u ++ z) k (all.0 ++ z)) (sym n) (events_forth u z all.0 (count_of u) p all.1)),
            inl (λ e. omega arith, a.1 ∙ ap (λ (k : ℕ). record { kind = Trailing; place = (2, k) }) (sym n)),
          ),
        ),
      ),
    )
events_longer u z f h (inr (p, inr (q, inr (r, inr (all, inr (e, a)))))) = absurd a

wants_longer : (u z : List ℕ) → WantsMemory u → WantsMemory (u ++ z)
wants_longer u z w =
    let l = length-append u z in
    let n = same_count u z w.counted in
    let e : HasEvents (u ++ z) 1 (w.event.0 ++ z) = events_forth u z w.event.0 1 w.counted w.event.1 in
    search rules

-- ---- the file

passes_longer : (u z : List ℕ) → PassesSettings u → PassesSettings (u ++ z)
passes_longer u z (s, t, e, h) = (s, t ++ z, grind (arith, common_steps, append_assoc), h)

file_longer : (u z : List ℕ) (f : Fault) → 24588 < length u → FileFaulty u f → FileFaulty (u ++ z) f
file_longer u z f h =
    let d = length-drop 10 u in
    settings_longer u z (EventsFaulty (drop 10 u)) (EventsFaulty (drop 10 (u ++ z))) f (omega arith)
    (λ a. rw (drop-append-le 10 u z (omega arith)) (events_longer (drop 10 u) z f (omega arith) a))

memory_longer : (u z : List ℕ) → 24588 < length u → ReadRefused u NoMemory → ReadRefused (u ++ z) NoMemory
memory_longer u z h (settings, wants) =
    let d = length-drop 10 u in
    (passes_longer u z settings, rw (drop-append-le 10 u z (omega arith)) (wants_longer (drop 10 u) z wants))

-- an input of which so much was taken is all there, or the part is longer than any file
halves : (limit : ℕ) (input : List ℕ) → 24588 < limit → (take limit input ≡ input) ⊎ (24588 < length (take limit input))
halves limit input h =
    elim (cases_lt (length input) limit) [
      | inl l ↦ inl (take_all limit input (omega arith))
      | inr l ↦ inr (omega (arith, length-take-le limit input l))
    ]

pub input_reads : (limit : ℕ) (input : List ℕ) (s : Settings) (es : List Call) → 24588 < limit → Reads (take limit input) s es → Reads input s es
input_reads limit input s es h r =
    elim (halves limit input h) [
      | inl e ↦ subst (λ (b : List ℕ). Reads b s es) e r
      | inr l ↦ let n = file_length s es in let k = ap length r.0 in let m = r.1.count in absurd (omega arith)
    ]

pub input_refused : (limit : ℕ) (input : List ℕ) (e : ReadError) → 24588 < limit → ReadRefused (take limit input) e → ReadRefused input e
input_refused limit input (Faulty f) h r =
    elim (halves limit input h) [
      | inl e ↦ subst (λ (b : List ℕ). FileFaulty b f) e r
      | inr l ↦ subst (λ (b : List ℕ). FileFaulty b f) (take-append-drop limit input) (file_longer (take limit input) (drop limit input) f l r)
    ]
input_refused limit input NoMemory h r =
    elim (halves limit input h) [
      | inl e ↦ subst (λ (b : List ℕ). ReadRefused b NoMemory) e r
      | inr l ↦ subst (λ (b : List ℕ). ReadRefused b NoMemory) (take-append-drop limit input) (memory_longer (take limit input) (drop limit input) l r)
    ]
