use Rattle.std.proofs.Common.{map, subst, sym, ◌<◌, ◌∷◌, ◌≡◌}
use Rattle.formal_sums.proofs.Combining.{Each_map}
use Rattle.formal_sums.specs.FormalSums.{Each}
use Rattle.bases.specs.Settings.{IsLawful}
use Rattle.term_lists.specs.Rings.{setting, variables}
use Rattle.term_lists.specs.Vectors.{AreTermsOver, IsVectorOver, StandsFor, sum_of}
use Rattle.vector_division.specs.declared.reduction.ScaledProduct.{ScaledProduct}
use Rattle.resolution_maps.specs.Inducing.{tower_comparison}
use Rattle.induced_leads.specs.Laws.{tower_order}
use Rattle.schreyer_resolution.specs.Columns.{negated_term}
use Rattle.schreyer_resolution.proofs.Making.{column_is, column_positions, terms_over}
use Rattle.schreyer_resolution.proofs.column.column.Goals as goal

pub column_terms-requires : goal.column_terms-requires
column_terms-requires g c =
    let qs = c.in-Ok.quotients.items in
    subst (λ r. Each (λ (q : ScaledProduct). q.residue < r.modulus.value) qs) (sym c.ring.ensures) (Each_map _ _ qs (λ q h. h.reduced) c.in-Ok.ensures.done.progress.underway.quotients)

pub from_terms-requires : goal.from_terms-requires
from_terms-requires g c =
    let ring = g.F.Frame.over c.args.frame.now in
    let key = c.args.key.now in
    let qs = c.in-Ok.quotients.items in
    let items = c.in_ok-terms.terms.items in
    let e = subst (λ r. items ≡ (key, 1) ∷ map (negated_term r.modulus.value) qs) c.ring.ensures c.in_ok-terms.ensures in
    let all = terms_over (variables ring) ring.weights ring.modulus.value key qs c.args.columns.now (c.lawful_setting.ensures 0).domain.above_one c.requires.monomial c.in-Ok.ensures.done.progress.underway.quotients in
    subst (λ r. AreTermsOver r items) (sym c.requires.over) (subst (AreTermsOver ring) (sym e) all)

pub returns-clause-vector : goal.returns-clause-vector
returns-clause-vector g c =
    let t = c.args.induced.now in
    subst (λ r. IsVectorOver r (tower_comparison t) c.in_ok-made.made) c.requires.over c.in_ok-made.ensures.vector

pub returns-clause-positions : goal.returns-clause-positions
returns-clause-positions g c =
    let ring = g.F.Frame.over c.args.frame.now in
    let n = variables ring in
    let base = c.requires.base in
    let t = c.args.induced.now in
    let key = c.args.key.now in
    let qs = c.in-Ok.quotients.items in
    let items = c.in_ok-terms.terms.items in
    let w = c.in_ok-made.made in
    let lawful = c.lawful_setting.ensures base.rank in
    let up : IsLawful (setting ring n (tower_comparison t n) base.rank) = record { domain = lawful.domain; order = tower_order t n base.rank } in
    column_positions ring (g.F.Frame.compare c.args.frame.now) base.rank lawful c.args.columns.now base.monic key c.requires.pair qs c.in-Ok.ensures.done t w items up
    (subst (λ r. items ≡ (key, 1) ∷ map (negated_term r.modulus.value) qs) c.ring.ensures c.in_ok-terms.ensures)
    (subst (λ r. IsVectorOver r (tower_comparison t) w) c.requires.over c.in_ok-made.ensures.vector)
    (subst (λ r. StandsFor r w (sum_of (variables r) items)) c.requires.over c.in_ok-made.ensures.same)

pub returns-clause-column : goal.returns-clause-column
returns-clause-column g c =
    let ring = g.F.Frame.over c.args.frame.now in
    let base = c.requires.base in
    let t = c.args.induced.now in
    let key = c.args.key.now in
    let qs = c.in-Ok.quotients.items in
    let items = c.in_ok-terms.terms.items in
    let w = c.in_ok-made.made in
    column_is ring (g.F.Frame.compare c.args.frame.now) base.rank (c.lawful_setting.ensures base.rank) c.args.columns.now base.monic key c.requires.pair qs c.in-Ok.ensures.done t w items (c.requires.above (variables ring))
    (subst (λ r. items ≡ (key, 1) ∷ map (negated_term r.modulus.value) qs) c.ring.ensures c.in_ok-terms.ensures)
    (subst (λ r. IsVectorOver r (tower_comparison t) w) c.requires.over c.in_ok-made.ensures.vector)
    (subst (λ r. StandsFor r w (sum_of (variables r) items)) c.requires.over c.in_ok-made.ensures.same)

pub divided-requires-clause-vectors : goal.divided-requires-clause-vectors
divided-requires-clause-vectors g c = c.requires.vectors

pub divided-requires-clause-base : goal.divided-requires-clause-base
divided-requires-clause-base g c = c.requires.base

pub divided-requires-clause-index : goal.divided-requires-clause-index
divided-requires-clause-index g c = c.requires.index

pub divided-requires-clause-monomial : goal.divided-requires-clause-monomial
divided-requires-clause-monomial g c = c.requires.monomial

pub divided-requires-clause-pair : goal.divided-requires-clause-pair
divided-requires-clause-pair g c = c.requires.pair
