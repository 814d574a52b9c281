-- A word of bits and the client last taken are a line. Assumes nothing.
use Rattle.std.specs.Prelude.{◌≡◌, ℕ, ◌+◌, ◌-◌, ◌/◌, ◌^◌, ◌<◌, ◌≤◌, true, false, ◌≢◌, ◌⊎◌, Some, None, Option, refl}
use Rattle.std.proofs.Common.{sym, ap, subst, ◌∙◌, inl, inr, ⊎_elim, arith}
use Rattle.std.specs.Int.Count.{count_trailing_zeros}
use Rattle.std.proofs.lemmas.Nat.{pow_below, shr_le, and_le_l, or_lt}
use Rattle.std.proofs.lemmas.Bool.Decides.{nat_tests}
use Rattle.std.proofs.lemmas.Bool.{both_ways, or_right, eq-eqb, ne_eqb, cases_Bool, cases_eq, cases_lt}
use Rattle.line.specs.Lines.{LineLaw, Put, Took}
use Rattle.line.specs.Turns.{bit, with_bit, without_bit, turns_before, least, turns_view}
use Rattle.line.specs.Bits.{bit_below, bit_set, bit_clear, bit_none, bit_shift, lowest}
use Rattle.line.specs.Waiting.{at_most}
use Rattle.line.specs.Least.{least_some, least_none, least_is, least_nobody}
use Rattle.std.proofs.lemmas.Grind.{common_steps}

-- ---- how many have their turn before
before_later : (n last c : ℕ) → last < c → c < n → turns_before n last c ≡ c - (last + 1)
unfolding turns_before
before_later n last c l h = grind (arith, common_steps)

before_earlier : (n last c : ℕ) → c ≤ last → last < n → turns_before n last c ≡ (c + n) - (last + 1)
unfolding turns_before
before_earlier n last c l h = grind (arith, common_steps)

before_cases : (n last c : ℕ) → last < n → c < n → ((last < c) × (turns_before n last c ≡ c - (last + 1))) ⊎ ((c ≤ last) × (turns_before n last c ≡ (c + n) - (last + 1)))
before_cases n last c l h = ⊎_elim
    (λ (b : last < c). inl (b, before_later n last c b h))
    (λ (b : c ≤ last). inr (b, before_earlier n last c b l))
    (cases_lt last c)

-- no two have the same number before them
before_apart : (n last c d : ℕ) → last < n → c < n → d < n → turns_before n last c ≡ turns_before n last d → c ≡ d
before_apart n last c d l hc hd e =
    ⊎_elim
    (λ u. ⊎_elim (λ v. omega arith) (λ v. omega arith) (before_cases n last d l hd))
    (λ u. ⊎_elim (λ v. omega arith) (λ v. omega arith) (before_cases n last d l hd))
    (before_cases n last c l hc)

-- g taken: whoever had its turn later has fewer before it
before_falls : (n last g d : ℕ) → last < n → g < n → d < n → turns_before n last g < turns_before n last d → turns_before n g d < turns_before n last d
before_falls n last g d l hg hd b =
    ⊎_elim
    (λ u. ⊎_elim
    (λ v. ⊎_elim (λ w. omega arith) (λ w. omega arith) (before_cases n g d hg hd))
    (λ v. ⊎_elim (λ w. omega arith) (λ w. omega arith) (before_cases n g d hg hd))
    (before_cases n last d l hd))
    (λ u. ⊎_elim
    (λ v. ⊎_elim (λ w. omega arith) (λ w. omega arith) (before_cases n g d hg hd))
    (λ v. ⊎_elim (λ w. omega arith) (λ w. omega arith) (before_cases n g d hg hd))
    (before_cases n last d l hd))
    (before_cases n last g l hg)

before_below : (n last c : ℕ) → last < n → c < n → turns_before n last c < n
before_below n last c l h = ⊎_elim (λ u. omega arith) (λ u. omega arith) (before_cases n last c l h)

-- ---- a word of n bits, and the client last taken
pub record Round (n last w : ℕ) : Type 0 where
  pub few : n ≤ 32
  pub inside : last < n
  pub known : w < 2 ^ n

abbrev next : ℕ → ℕ → ℕ → Option ℕ
next n last w = least (bit w) (turns_before n last) n

module _ (n last w : ℕ) (o : Round n last w) where
  nobody : next n last w ≡ None → (c : ℕ) → bit w c ≡ false
  nobody e c = ⊎_elim
      (λ (t : bit w c ≡ true). least_none (bit w) (turns_before n last) n e c (bit_below w n c o.known t))
      (λ t. t)
      (cases_Bool (bit w c))

  pub round_law : LineLaw (turns_view n last w)
  round_law = record {
    narrow = omega (arith, o.few);
    client = λ c h. bit_below w n c o.known h;
    patient = λ c h. omega (arith, before_below n last c o.inside (bit_below w n c o.known h));
    next_waits = λ g e. (least_some (bit w) (turns_before n last) n g e).here;
    next_none = nobody;
    placed = at_most (bit w) n;
  }

  -- ---- who is next
  fits : w < 2 ^ 32
  fits = ⊎_elim
      (λ (e : n ≡ 32). subst (λ m. w < 2 ^ m) e o.known)
      (λ (e : n ≢ 32). omega (arith, o.known, pow_below n 32 (omega (arith, o.few, e))))
      (cases_eq n 32)

  -- the bits behind the last one's
  abbrev pub behind : ℕ
  behind = w / 2 ^ last / 2

  behind_bit : (i : ℕ) → bit behind i ≡ bit w (last + 1 + i)
  behind_bit i = let e : last + (1 + i) ≡ last + 1 + i = omega arith in bit_shift (w / 2 ^ last) 1 i ∙ bit_shift w last (1 + i) ∙ ap (bit w) e

  pub next_later : (behind ≢ 0) → next n last w ≡ Some (last + 1 + count_trailing_zeros 32 behind)
  next_later ne =
      let t = count_trailing_zeros 32 behind in
      let p = lowest 32 behind (omega (arith, ne)) (omega (arith, fits, shr_le (w / 2 ^ last) 1, shr_le w last)) in
      let g = last + 1 + t in
      let here : bit w g ≡ true = sym (behind_bit t) ∙ p.set in
      let inside : g < n = bit_below w n g o.known here in
      let before : turns_before n last g ≡ t = before_later n last g (omega arith) inside ∙ (omega arith) in
      least_is (bit w) (turns_before n last) n g inside here (λ d e h.
      let b = bit_below w n d o.known h in
      ⊎_elim
      (λ u. ⊎_elim
      (λ (l : d - (last + 1) < t).
      let f : last + 1 + (d - (last + 1)) ≡ d = omega (arith, u.0) in
      absurd (both_ways (bit w d) (ap (bit w) (sym f) ∙ sym (behind_bit (d - (last + 1))) ∙ p.clear (d - (last + 1)) l) h))
      (λ (l : t ≤ d - (last + 1)). omega (arith, before, u.0, u.1, e))
      (cases_lt (d - (last + 1)) t))
      (λ u. omega (arith, before, inside, u.0, u.1))
      (before_cases n last d o.inside b))

  pub next_first : behind ≡ 0 → (w ≢ 0) → next n last w ≡ Some (count_trailing_zeros 32 w)
  next_first z ne =
      let g = count_trailing_zeros 32 w in
      let p = lowest 32 w (omega (arith, ne)) fits in
      let inside : g < n = bit_below w n g o.known p.set in
      let early : (d : ℕ) → bit w d ≡ true → d ≤ last = λ d h. ⊎_elim
      (λ (l : last < d).
      let f : last + 1 + (d - (last + 1)) ≡ d = omega arith in
      absurd (both_ways (bit w d) (ap (bit w) (sym f) ∙ sym (behind_bit (d - (last + 1))) ∙ ap (λ m. bit m (d - (last + 1))) z ∙ bit_none (d - (last + 1))) h))
      (λ l. l)
      (cases_lt last d) in
      let before = before_earlier n last g (early g p.set) o.inside in
      least_is (bit w) (turns_before n last) n g inside p.set (λ d e h.
      ⊎_elim
      (λ (l : d < g). absurd (both_ways (bit w d) (p.clear d l) h))
      (λ (l : g ≤ d). omega (arith, before, before_earlier n last d (early d h) o.inside, o.inside, early d h, e))
      (cases_lt d g))

  pub next_nobody : w ≡ 0 → next n last w ≡ None
  next_nobody z = least_nobody (bit w) (turns_before n last) n (λ c. ap (λ m. bit m c) z ∙ bit_none c)

  -- ---- one more waits
  pub round_set : (c : ℕ) → c < n → Round n last (with_bit w c)
  round_set c l = record { few = o.few; inside = o.inside; known = or_lt n w (2 ^ c) o.known (pow_below c n l) }

  -- ---- the next one goes
  pub round_clear : (g : ℕ) → g < n → Round n g (without_bit w g)
  round_clear g l = record { few = o.few; inside = l; known = omega (arith, o.known, and_le_l w (4294967295 - 2 ^ g)) }

module _ (n last w : ℕ) (o : Round n last w) where
  pub round_put : (c : ℕ) → c < n → Put (turns_view n last w) c (turns_view n last (with_bit w c))
  round_put c l = record {
    same = refl;
    law = round_law n last (with_bit w c) (round_set n last w o c l);
    puts = bit_set w c c ∙ or_right (bit w c) _ (eq-eqb c c refl);
    others = λ x e. bit_set w c x ∙ (grind (arith, nat_tests, ne_eqb x c e));
    kept = λ x e h. omega arith;
  }

  pub round_took : (g : ℕ) → next n last w ≡ Some g → Took (turns_view n last w) g (turns_view n g (without_bit w g))
  round_took g e =
      let f = least_some (bit w) (turns_before n last) n g e in
      let clear = λ (x : ℕ). bit_clear w n g x o.few o.known f.inside in
      record {
        same = refl;
        law = round_law n g (without_bit w g) (round_clear n last w o g f.inside);
        next = e;
        takes = grind (arith, common_steps);
        others = λ x ne. grind (arith, common_steps);
        falls = λ x ne h.
            let b = bit_below w n x o.known h in
            let apart : turns_before n last g ≢ turns_before n last x = λ q. ne (sym (before_apart n last g x o.inside f.inside b q)) in
            before_falls n last g x o.inside f.inside b (omega (arith, f.first x b h, apart));
      }
