use Rattle.std.proofs.Common.{arith, length, map, subst, sym, ◌<◌}
use Rattle.complements.specs.Complements.{AreComplements}
use Rattle.formal_sums.specs.FormalSums.{Each}
use Rattle.term_lists.specs.Rings.{ring_comparison, variables}
use Rattle.term_lists.specs.Vectors.{AreVectorsOver}
use Rattle.column_passes.specs.Passing.{Pivot}
use Rattle.minimal_betti.specs.Complementing.{AreGone, IsApart}
use Rattle.minimal_betti.proofs.Complements.{complemented_in_turn}
use Rattle.minimal_betti.proofs.Gone.{gone_vectors, kept_vectors}
use Rattle.minimal_betti.proofs.complementing.complemented_columns.Goals as goal

pub complements-requires-clause-columns : goal.complements-requires-clause-columns
complements-requires-clause-columns c =
    let indices = c.requires.indices.0 in
    gone_vectors c.args.ring.now indices c.args.columns c.in_ok-gone.gone
    (subst (λ F. AreGone indices F c.in_ok-gone.gone) c.as_slice.ensures (c.in_ok-gone.ensures indices c.requires.indices.1)) c.requires.vectors

pub complements-requires-clause-vectors : goal.complements-requires-clause-vectors
complements-requires-clause-vectors c =
    let ring = c.args.ring.now in
    subst (AreVectorsOver ring (ring_comparison ring)) (sym c.deref-3.ensures.value)
    (kept_vectors ring c.requires.indices.0 c.requires.after.0 c.args.columns c.in_ok-kept.kept.items
    (c.in_ok-kept.ensures c.requires.indices.0 c.requires.after.0 c.requires.indices.1 c.requires.after.1) c.requires.vectors)

pub columns_without-requires-clause-leaving : goal.columns_without-requires-clause-leaving
columns_without-requires-clause-leaving c = c.requires.rows

pub columns_without-requires-clause-vectors : goal.columns_without-requires-clause-vectors
columns_without-requires-clause-vectors c =
    let ring = c.args.ring.now in
    subst (AreVectorsOver ring (ring_comparison ring)) (sym c.from_vec.ensures) c.in-Ok.ensures.vectors

pub returns-in-Ok : goal.returns-in-Ok
returns-in-Ok c = λ pivots out firsts rows indices after.
    let ring = c.args.ring.now in
    let above : 1 < ring.modulus.value = (c.lawful_setting.ensures 0).domain.above_one in
    let is = map (λ (s : Pivot (variables ring)). s.index) pivots in
    complemented_in_turn ring (omega (arith, above)) pivots out c.args.columns c.in_ok-gone.gone c.in_ok-kept.kept.items c.in-Ok.cleared.items
    c.in_ok-without-in-Ok.without firsts
    (subst (λ F. AreGone is F c.in_ok-gone.gone) c.as_slice.ensures (c.in_ok-gone.ensures is indices))
    (c.in_ok-kept.ensures is out indices after)
    (subst (λ F. AreComplements ring c.in_ok-gone.gone F (length F) c.in-Ok.cleared.items) c.deref-3.ensures.value c.in-Ok.ensures)
    (subst (Each (IsApart (map (λ (s : Pivot (variables ring)). s.row) pivots))) c.deref-in-Ok.ensures.value
    (c.are_apart.ensures _ rows c.if-not-are_apart.false))
    c.from_vec.result c.from_vec.ensures
    (c.in_ok-without-in-Ok.ensures _ rows)
