-- Runs of entries that are 0
use Rattle.std.proofs.Common.{◌≡◌, ◌++◌, ◌+◌, ◌<◌, ◌≤◌, ◌∙◌, List, ◌∷◌, ℕ, zero, suc, map, codes, refl, ap, arith, add-zero}
use Rattle.std.specs.List.{range_with_len}
use Rattle.line_text.specs.Texts.{zero_entries}
use Rattle.poly_text.specs.Writing.{tails}

-- entries that are 0 before others
pub zeros_before : (f : ℕ → List ℕ) (a n m k : ℕ) → k ≡ n + m → ((i : ℕ) → a ≤ i → i < a + n → f i ≡ codes "0")
    → tails 44 (map f (range_with_len a k)) ≡ zero_entries n ++ tails 44 (map f (range_with_len (a + n) m))
zeros_before f a zero m k e none = let same : k ≡ m = omega arith in rw (same, add-zero) refl
zeros_before f a (suc n) m zero e none = absurd (omega arith)
zeros_before f a (suc n) m (suc k) e none =
    let there : a + 1 + n ≡ a + suc n = omega arith in
    ap (λ x. 44 ∷ x ++ tails 44 (map f (range_with_len (a + 1) k))) (none a (omega arith) (omega arith))
    ∙ ap (λ r. 44 ∷ 48 ∷ r) (zeros_before f (a + 1) n m k (omega arith) (λ i from to. none i (omega arith) (omega arith)))
    ∙ ap (λ j. 44 ∷ 48 ∷ zero_entries n ++ tails 44 (map f (range_with_len j m))) there
