-- What is read off a table
use Rattle.std.specs.Int.Signed.{<ℤ-≤ℤ_trans, clash_ℤ, ≤ℤ_refl}
use Rattle.std.specs.Prelude.{Contains}
use Rattle.std.proofs.Common.{List, [], ap, arith, get_or, inl, inr, length, pos, refl, subst, suc, sym, take, ℕ, ℤ, ◌++◌, ◌+◌, ◌-ℤ◌, ◌<◌, ◌∙◌, ◌∷◌, ◌≡◌}
use Rattle.std.proofs.Common.{◌≤◌, ◌≤ℤ◌, ◌⊎◌}
use Rattle.std.proofs.lemmas.Int.{by_lt_z}
use Rattle.std.proofs.lemmas.List.{get_or_default, take_more}
use Rattle.formal_sums.specs.FormalSums.{Each}
use Rattle.column_passes.proofs.Lists.{all_append, all_map, contains_end, contains_left, each_in}
use Rattle.minimal_betti.specs.Growing.{AreRead}
use Rattle.minimal_betti.specs.Tables.{IsCountedEntry, IsLastStep, IsRegularity, IsBettiTable}
use Rattle.minimal_betti.specs.declared.tables.BettiEntry.{BettiEntry}
use Rattle.minimal_betti.specs.declared.tables.TableInvariants.{TableInvariants}

≤ℤ_trans : {a b c : ℤ} → a ≤ℤ b → b ≤ℤ c → a ≤ℤ c
≤ℤ_trans {a} {b} {c} h k = by_lt_z c a (λ lt. clash_ℤ (<ℤ-≤ℤ_trans lt h) k) (λ le. le)

abbrev pub excess_of : BettiEntry → ℤ
excess_of e = pos e.degree -ℤ pos e.step

pub read_first : (e : BettiEntry) (g : ℤ) → g ≡ excess_of e → AreRead (e ∷ []) (record { last_step = e.step; regularity = g })
read_first e g is = record {
  of_step = (e, (0, omega arith, refl), refl);
  steps = (omega arith, tt);
  of_excess = (e, (0, omega arith, refl), sym is);
  excesses = (subst (λ z. excess_of e ≤ℤ z) (sym is) (≤ℤ_refl (excess_of e)), tt);
}

pub read_more :
    (es : List BettiEntry) (e : BettiEntry) (old new : TableInvariants) → AreRead es old
    → ((new.last_step ≡ old.last_step) × (e.step ≤ old.last_step)) ⊎ ((new.last_step ≡ e.step) × (old.last_step ≤ e.step))
    → ((new.regularity ≡ old.regularity) × (excess_of e ≤ℤ old.regularity)) ⊎ ((new.regularity ≡ excess_of e) × (old.regularity ≤ℤ excess_of e))
    → AreRead (es ++ e ∷ []) new
read_more es e old new h s x = record {
  of_step = step_of s;
  steps = steps_of s;
  of_excess = excess_at x;
  excesses = excesses_of x;
}
  where
    step_of : ((new.last_step ≡ old.last_step) × (e.step ≤ old.last_step)) ⊎ ((new.last_step ≡ e.step) × (old.last_step ≤ e.step))
        → (f : BettiEntry) × Contains (es ++ e ∷ []) f × (f.step ≡ new.last_step)
    step_of (inl a) = (h.of_step.0, contains_left es (e ∷ []) h.of_step.0 h.of_step.1, h.of_step.2 ∙ sym a.0)
    step_of (inr a) = (e, contains_end es e, sym a.0)

    steps_of : ((new.last_step ≡ old.last_step) × (e.step ≤ old.last_step)) ⊎ ((new.last_step ≡ e.step) × (old.last_step ≤ e.step))
        → Each (λ f. f.step ≤ new.last_step) (es ++ e ∷ [])
    steps_of (inl a) = let q = a.0 in let r = a.1 in all_append _ es (e ∷ []) (all_map _ _ es (λ f l. omega (arith, l, q)) h.steps) (omega (arith, q, r), tt)
    steps_of (inr a) = let q = a.0 in let r = a.1 in all_append _ es (e ∷ []) (all_map _ _ es (λ f l. omega (arith, l, q, r)) h.steps) (omega (arith, q), tt)

    excess_at : ((new.regularity ≡ old.regularity) × (excess_of e ≤ℤ old.regularity)) ⊎ ((new.regularity ≡ excess_of e) × (old.regularity ≤ℤ excess_of e))
        → (f : BettiEntry) × Contains (es ++ e ∷ []) f × (excess_of f ≡ new.regularity)
    excess_at (inl a) = (h.of_excess.0, contains_left es (e ∷ []) h.of_excess.0 h.of_excess.1, h.of_excess.2 ∙ sym a.0)
    excess_at (inr a) = (e, contains_end es e, sym a.0)

    excesses_of : ((new.regularity ≡ old.regularity) × (excess_of e ≤ℤ old.regularity)) ⊎ ((new.regularity ≡ excess_of e) × (old.regularity ≤ℤ excess_of e))
        → Each (λ f. excess_of f ≤ℤ new.regularity) (es ++ e ∷ [])
    excesses_of (inl a) = subst (λ z. Each (λ f. excess_of f ≤ℤ z) (es ++ e ∷ [])) (sym a.0) (all_append _ es (e ∷ []) h.excesses (a.1, tt))
    excesses_of (inr a) = subst (λ z. Each (λ f. excess_of f ≤ℤ z) (es ++ e ∷ [])) (sym a.0)
        (all_append _ es (e ∷ []) (all_map _ _ es (λ f l. ≤ℤ_trans l a.1) h.excesses) (≤ℤ_refl (excess_of e), tt))

pub read_next :
    (es : List BettiEntry) (i : ℕ) (e : BettiEntry) (old new : TableInvariants) → i < length es → e ≡ get_or es i e → AreRead (take i es) old
    → ((new.last_step ≡ old.last_step) × (e.step ≤ old.last_step)) ⊎ ((new.last_step ≡ e.step) × (old.last_step ≤ e.step))
    → ((new.regularity ≡ old.regularity) × (excess_of e ≤ℤ old.regularity)) ⊎ ((new.regularity ≡ excess_of e) × (old.regularity ≤ℤ excess_of e))
    → AreRead (take (i + 1) es) new
read_next es i e old new lt is h s x =
    subst (λ z. AreRead z new) (sym (take_more es i e lt)) (subst (λ z. AreRead (take i es ++ z ∷ []) new) is (read_more (take i es) e old new h s x))

-- an entry behind the first
pub later_entry :
    (entries rest : List BettiEntry) (first : BettiEntry) (i : ℕ) (d : BettiEntry) → entries ≡ first ∷ rest → i < length rest
    → get_or rest i d ≡ get_or entries (i + 1) (get_or rest i d)
later_entry entries rest first i d e lt =
    let x = get_or rest i d in
    let q : i + 1 ≡ suc i = omega arith in
    get_or_default rest i d x lt ∙ sym (ap (λ j. get_or (first ∷ rest) j x) q) ∙ sym (ap (λ l. get_or l (i + 1) x) e)

pub last_step_is : (counts : ℕ → ℕ → ℕ) (es : List BettiEntry) (found : TableInvariants) → IsBettiTable counts es → AreRead es found → IsLastStep counts found.last_step
last_step_is counts es found t h = record {
  degree = h.of_step.0.degree;
  some =
      let c : IsCountedEntry counts h.of_step.0 = each_in (IsCountedEntry counts) es h.of_step.0 t.counted h.of_step.1 in
      subst (λ s. 0 < counts s h.of_step.0.degree) h.of_step.2 (subst (λ z. 0 < z) c.1 c.0);
  greatest = λ k d some. each_in (λ e. e.step ≤ found.last_step) es _ h.steps (t.complete k d some);
}

pub regularity_is : (counts : ℕ → ℕ → ℕ) (es : List BettiEntry) (found : TableInvariants) → IsBettiTable counts es → AreRead es found
    → IsRegularity counts found.regularity
regularity_is counts es found t h = record {
  step = h.of_excess.0.step;
  degree = h.of_excess.0.degree;
  some =
      let c : IsCountedEntry counts h.of_excess.0 = each_in (IsCountedEntry counts) es h.of_excess.0 t.counted h.of_excess.1 in
      subst (λ z. 0 < z) c.1 c.0;
  is = sym h.of_excess.2;
  greatest = λ k d some. each_in (λ e. excess_of e ≤ℤ found.regularity) es _ h.excesses (t.complete k d some);
}
