-- Copies of terms, one after another
use Rattle.std.proofs.Common.{List, [], ap₂, get_or, length, sym, take, ℕ, ◌++◌, ◌+◌, ◌<◌, ◌∙◌, ◌∷◌, ◌≡◌}
use Rattle.term_lists.proofs.Scaling.{take_item}
use Rattle.term_lists.specs.declared.key.Key.{Key as CodeKey}

-- one more term is copied
pub copied_more :
    (xs ys : List (CodeKey × ℕ)) (i : ℕ) (t : CodeKey × ℕ) (k : CodeKey)
    → i < length xs → t ≡ get_or xs i t → k ≡ t.0 → ys ≡ take i xs
    → ys ++ (k, t.1) ∷ [] ≡ take (i + 1) xs
copied_more xs ys i t k lt is e h = ap₂ (λ copied key. copied ++ (key, t.1) ∷ []) h e ∙ sym (take_item xs i t lt is)
