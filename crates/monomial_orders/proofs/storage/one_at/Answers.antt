use Rattle.std.proofs.Common.{List, ap, get_or, inl, inr, replicate, ℕ, ◌<◌, ◌∙◌, ◌≡◌, ◌≤◌, ◌⊎◌, arith}
use Rattle.std.proofs.lemmas.Bool.{cases_lt}
use Rattle.std.proofs.lemmas.List.{get_or-replicate, get_or-set_other, get_or_past, length-replicate}
use Rattle.monomial_orders.proofs.storage.one_at.Goals as goal

abbrev zeros_of : ℕ → List ℕ
zeros_of n = replicate n 0

zero_places : (n k : ℕ) → get_or (zeros_of n) k 0 ≡ 0
zero_places n k = go (cases_lt k n)
  where
    go : (k < n) ⊎ (n ≤ k) → get_or (zeros_of n) k 0 ≡ 0
    go (inl lt) = get_or-replicate n k 0 0 lt
    go (inr le) = get_or_past (zeros_of n) k 0 (omega (arith, length-replicate {A = ℕ} n 0, le))

pub returns-then-n-le16-clause-others : goal.returns-then-n-le16-clause-others
returns-then-n-le16-clause-others c = λ k ne.
    ap (λ xs. get_or xs k 0) c.stored_few.ensures.places ∙ get_or-set_other (zeros_of 16) c.args.i k 1 0 ne ∙ zero_places 16 k
