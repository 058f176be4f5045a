use Rattle.std.proofs.Common.{List, ap, arith, get_or, inl, inr, length, refl, sym, ℕ, ◌<◌, ◌∙◌, ◌≡◌, ◌≤◌, ◌⊎◌}
use Rattle.std.proofs.lemmas.Bool.{cases_lt}
use Rattle.std.proofs.lemmas.Grind.{same_number_lists}
use Rattle.monomials.specs.Exponents.{exponents_of}
use Rattle.pair_updates.proofs.RowMasks.{beyond, row_at, row_length}
use Rattle.pair_updates.specs.Rows.{row}
use Rattle.pair_updates.proofs.rows.row_of.Goals as goal

pub returns : goal.returns
returns c =
    same_number_lists c.loop-k.places (row 16 (exponents_of (length c.args.m.now.exponents) c.args.m.now.exponents)) (c.loop-k.invariant.long ∙ sym (row_length 16 (exponents_of (length c.args.m.now.exponents) c.args.m.now.exponents)))
    (λ v lt. let l : v < 16 = let e = c.loop-k.invariant.long in omega (arith, lt, e) in
    go v l (cases_lt v c.loop-k.k) ∙ sym (row_at (length c.args.m.now.exponents) 16 c.args.m.now.exponents v refl l))
  where
    go : (v : ℕ) → v < 16 → (v < c.loop-k.k) ⊎ (c.loop-k.k ≤ v) → get_or c.loop-k.places v 0 ≡ get_or c.args.m.now.exponents v 0
    go v lt (inl l) = c.loop-k.invariant.places v l ∙ ap (λ (z : List ℕ). get_or z v 0) c.exponents-exponents.ensures.value
    go v lt (inr l) =
        let e = ap length c.exponents-exponents.ensures.value in
        c.loop-k.invariant.rest v l ∙ sym (beyond c.args.m.now.exponents v (omega (arith, e, l, lt, c.loop-k-test.false, c.loop-k.auto.k-end)))
