-- Lines for degrees that ascend
use Rattle.std.proofs.Common.{◌≡◌, ℕ, ◌+◌, List, [], ◌∷◌, ◌++◌, flat_map, sym, ap, ◌∙◌, arith}
use Rattle.std.proofs.lemmas.List.{flat_map_more, map-id}
use Rattle.std.proofs.lemmas.List.FromFn.{map-range_with_len_more}
use Rattle.std.specs.List.{range_with_len}

-- one more number of a range
range_more : (n : ℕ) → range_with_len 0 (n + 1) ≡ range_with_len 0 n ++ n ∷ []
range_more n =
    sym (map-id (range_with_len 0 (n + 1)))
    ∙ map-range_with_len_more (λ k. k) 0 n n (omega arith)
    ∙ ap (λ l. l ++ n ∷ []) (map-id (range_with_len 0 n))

-- one more line
pub lines_more :
    (f : ℕ → List ℕ) (old out more : List ℕ) (n : ℕ)
    → out ≡ old ++ flat_map f (range_with_len 0 n) → more ≡ out ++ f n → more ≡ old ++ flat_map f (range_with_len 0 (n + 1))
lines_more f old out more n e h =
    h ∙ ap (λ l. l ++ f n) e ∙ flat_map_more f old (range_with_len 0 n) n ∙ ap (λ l. old ++ flat_map f l) (sym (range_more n))
