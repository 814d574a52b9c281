-- A line with one place is a line. Assumes nothing.
use Rattle.std.specs.Prelude.{◌≡◌, ℕ, suc, ◌<◌, true, false, is_some, Some, None, Option, nat_eq, refl}
use Rattle.std.proofs.Common.{sym, ap, ◌∙◌, arith}
use Rattle.std.proofs.lemmas.Bool.Decides.{nat_tests}
use Rattle.std.proofs.lemmas.Bool.{both_ways, eqb-true, eq-eqb, ne_eqb, ltb-true, lt-ltb}
use Rattle.pending.specs.Ids.{Client}
use Rattle.line.specs.Lines.{LineLaw, Put, Took, waiting, is_full, number_of}
use Rattle.line.specs.Waiting.{nobody_waits, one_more}
use Rattle.line_tests.specs.OnePlaces.{known, one_view}

module _ (n : ℕ) where
  nobody : waiting (one_view n None).waits n ≡ 0
  nobody = nobody_waits (λ c. false) n (λ c. refl)

  one : (d : ℕ) → d < n → waiting (one_view n (Some d)).waits n ≡ 1
  one d l = one_more (λ c. false) (λ c. nat_eq c d) d n l refl (eq-eqb d d refl) (λ c e. ne_eqb c d e) ∙ ap suc nobody

  pub one_law : (o : Option ℕ) → known n o ≡ true → LineLaw (one_view n o)
  one_law None k = record {
    narrow = omega arith;
    client = λ c h. absurd (both_ways false refl h);
    patient = λ c h. omega arith;
    next_waits = λ g e. absurd (grind (arith, nat_tests, e));
    next_none = λ e c. refl;
    placed = omega (arith, nobody);
  }
  one_law (Some d) k = record {
    narrow = omega arith;
    client = λ c h. omega (arith, eqb-true c d h, ltb-true d n k);
    patient = λ c h. omega arith;
    next_waits = λ g e. eq-eqb g d (grind (arith, e));
    next_none = λ e c. absurd (grind (arith, nat_tests, e));
    placed = omega (arith, one d (ltb-true d n k));
  }

  pub one_full : (o : Option Client) → known n (number_of o) ≡ true → is_some o ≡ is_full (one_view n (number_of o))
  one_full None k = let e = nobody in grind (arith, nat_tests)
  one_full (Some d) k = let e = one d.number (ltb-true d.number n k) in grind (arith, nat_tests)

  pub one_put : (o : Option ℕ) (c : ℕ) → known n o ≡ true → is_full (one_view n o) ≡ false → c < n → Put (one_view n o) c (one_view n (Some c))
  one_put None c k f l = record {
    same = refl;
    law = one_law (Some c) (lt-ltb c n l);
    puts = eq-eqb c c refl;
    others = λ x e. ne_eqb x c e;
    kept = λ x e h. absurd (both_ways false refl h);
  }
  one_put (Some d) c k f l = let e = one d (ltb-true d n k) in absurd (grind (arith, nat_tests, f))

  pub one_took : (g : ℕ) → g < n → Took (one_view n (Some g)) g (one_view n None)
  one_took g l = record {
    same = refl;
    law = one_law None refl;
    next = refl;
    takes = refl;
    others = λ x e. sym (ne_eqb x g e);
    falls = λ x e h. absurd (e (eqb-true x g h));
  }
