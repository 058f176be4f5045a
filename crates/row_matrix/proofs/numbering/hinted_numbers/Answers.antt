use Rattle.std.proofs.Common.{[], ap, arith, map, ℕ, ◌++◌, ◌∙◌, ◌∷◌}
use Rattle.std.proofs.lemmas.List.{map-append}
use Rattle.row_matrix.proofs.KeyPlaces.{range_push}
use Rattle.row_matrix.proofs.numbering.hinted_numbers.Goals as goal

pub loop-i-preserved : goal.loop-i-preserved
loop-i-preserved g c =
    let v = c.loop-i.invariant in
    let i = c.loop-i.i in
    let one : ℕ × ℕ = (c.hint.result, i) in
    record {
      numbers = ap (map (λ (h : ℕ × ℕ). h.1)) c.push_reserved.ensures.items ∙ map-append (λ (h : ℕ × ℕ). h.1) c.loop-i.hinted.items (one ∷ [])
          ∙ ap (λ xs. xs ++ i ∷ []) v.numbers ∙ range_push i;
      count = omega arith;
      room = omega arith;
    }
