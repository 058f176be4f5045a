-- The first items of a list, copied
use Rattle.std.proofs.Common.{List, [], ap, get_or, length, sym, take, ℕ, ◌++◌, ◌+◌, ◌<◌, ◌∙◌, ◌∷◌, ◌≡◌}
use Rattle.term_lists.proofs.Scaling.{take_item}

-- one item more
pub copied_more :
    {X : Type 0} (xs : List X) (i : ℕ) (x y : X) (old new : List X)
    → i < length xs → x ≡ get_or xs i x → y ≡ x → new ≡ old ++ y ∷ [] → old ≡ take i xs → new ≡ take (i + 1) xs
copied_more {X} xs i x y old new lt is same pushed so_far =
    pushed ∙ ap (λ (l : List X). l ++ (y ∷ [])) so_far ∙ ap (λ (z : X). take i xs ++ (z ∷ [])) same ∙ sym (take_item xs i x lt is)
