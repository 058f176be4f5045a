use Rattle.std.proofs.Common.{ap, ap₂, arith, get_or, length, map, subst, subst₂, sym, ◌-◌, ◌<◌, ◌∙◌}
use Rattle.std.proofs.lemmas.List.{length-map}
use Rattle.formal_sums.specs.FormalSums.{Each}
use Rattle.ext_laws.specs.Transposes.{rows_of}
use Rattle.term_lists.specs.Rings.{variables}
use Rattle.term_lists.specs.Vectors.{AreTermsOver, HasPositions, sum_of, sums_of}
use Rattle.syzygy_engine.specs.Marking.{position_ring}
use Rattle.syzygy_engine.specs.Runs.{AreVectorsFor}
use Rattle.syzygy_engine.proofs.Marks.{lawful_by_position}
use Rattle.syzygy_engine.proofs.VectorLists.{positions_for}
use Rattle.resolution_maps.specs.Inducing.{Columns}
use Rattle.resolution_maps.specs.declared.maps.Map.{Map}
use Rattle.ext_modules.proofs.RowVectors.{rows_ranks}
use Rattle.ext_modules.proofs.Steps.{columns_there, image_before, positions_at, rank_before, terms_at}
use Rattle.ext_modules.proofs.homology.image_list.Goals as goal

pub transposed-requires-clause-terms : goal.transposed-requires-clause-terms
transposed-requires-clause-terms c =
    let ring = c.args.ring.now in
    let maps = c.args.maps.now in
    let x = c.index-maps-before.result in
    let M : Columns = map (λ (m : Map). m.columns) maps in
    let lt : c.args.k - 1 < length maps = omega (arith, c.requires.within, c.if-k-eq0.false) in
    subst (λ r. Each (AreTermsOver r) (get_or maps (c.args.k - 1) x).columns) (sym c.requires.by_position)
    (subst (Each (AreTermsOver ring)) (columns_there maps (c.args.k - 1) x lt) (terms_at ring c.args.rank M (c.args.k - 1) c.requires.linked))

pub transposed-requires-clause-positions : goal.transposed-requires-clause-positions
transposed-requires-clause-positions c =
    let ring = c.args.ring.now in
    let maps = c.args.maps.now in
    let x = c.index-maps-before.result in
    let M : Columns = map (λ (m : Map). m.columns) maps in
    let lt : c.args.k - 1 < length maps = omega (arith, c.requires.within, c.if-k-eq0.false) in
    subst₂ (λ m C. Each (HasPositions m) C) (sym c.in_ok-count.ensures.value) (columns_there maps (c.args.k - 1) x lt)
    (positions_at ring c.args.rank M (c.args.k - 1) c.requires.linked)

pub returns-clause-list : goal.returns-clause-list
returns-clause-list c =
    let ring = c.args.ring.now in
    let n = variables ring in
    let maps = c.args.maps.now in
    let rank = c.args.rank in
    let k = c.args.k in
    let x = c.index-maps-before.result in
    let list = c.in_ok-list.list in
    let count = c.in_ok-count.count in
    let M : Columns = map (λ (m : Map). m.columns) maps in
    let lt : c.args.k - 1 < length maps = omega (arith, c.requires.within, c.if-k-eq0.false) in
    let some : 0 < c.args.k = omega (arith, c.if-k-eq0.false) in
    let stand = subst (λ r. AreVectorsFor r (rows_of count (sums_of (variables r) (get_or maps (k - 1) x).columns)) list) c.requires.by_position c.in_ok-list.ensures in
    subst (λ G. AreVectorsFor (position_ring ring) G list)
    (ap₂ (λ m C. rows_of m (sums_of n C)) c.in_ok-count.ensures.value (sym (columns_there maps (k - 1) x lt)) ∙ sym (image_before ring rank M k some)) stand

pub returns-clause-positions : goal.returns-clause-positions
returns-clause-positions c =
    let ring = c.args.ring.now in
    let n = variables ring in
    let maps = c.args.maps.now in
    let rank = c.args.rank in
    let k = c.args.k in
    let x = c.index-maps-before.result in
    let list = c.in_ok-list.list in
    let count = c.in_ok-count.count in
    let columns = (get_or maps (k - 1) x).columns in
    let M : Columns = map (λ (m : Map). m.columns) maps in
    let lt : c.args.k - 1 < length maps = omega (arith, c.requires.within, c.if-k-eq0.false) in
    let some : 0 < c.args.k = omega (arith, c.if-k-eq0.false) in
    let stand = subst (λ r. AreVectorsFor r (rows_of count (sums_of (variables r) columns)) list) c.requires.by_position c.in_ok-list.ensures in
    subst (λ m. Each (HasPositions m) list) (sym (rank_before rank M k some ∙ ap length (columns_there maps (k - 1) x lt)))
    (positions_for (position_ring ring) (length columns) (lawful_by_position ring (length columns) (c.lawful_setting.ensures 0)) list (rows_of count (sums_of n columns)) stand
    (rows_ranks count (length columns) (sums_of n columns) (sym (length-map columns (λ v. sum_of n v)))))
