use Rattle.std.proofs.Common.{ap, get_or, map, subst, subst₂, sym}
use Rattle.formal_sums.specs.FormalSums.{Each}
use Rattle.ext_laws.specs.Transposes.{rank_at}
use Rattle.term_lists.specs.Rings.{variables}
use Rattle.term_lists.specs.Vectors.{AreTermsOver, HasPositions, sums_of}
use Rattle.groebner_iface.specs.Calls.{NoTrail}
use Rattle.groebner_iface.proofs.CallingRuns.{more_stops}
use Rattle.resolution_maps.specs.Inducing.{Columns}
use Rattle.resolution_maps.specs.declared.maps.Map.{Map}
use Rattle.ext_modules.specs.Ext.{IsRowsRun, IsTransposedRun, columns_at}
use Rattle.ext_modules.specs.Units.{AreUnits}
use Rattle.ext_modules.proofs.Presenting.{whole_is}
use Rattle.ext_modules.proofs.Steps.{columns_past, columns_there, maps_count, positions_at, terms_at}
use Rattle.ext_modules.proofs.homology.kernel_at.Goals as goal

pub returns-then-k-maps-clause-kernel : goal.returns-then-k-maps-clause-kernel
returns-then-k-maps-clause-kernel g c =
    let ring = c.args.ring.now in
    let maps = c.args.maps.now in
    let k = c.args.k in
    let M : Columns = map (λ (m : Map). m.columns) maps in
    let units = c.in_ok-units.units in
    whole_is ring (c.lawful_setting.ensures 0) (rank_at c.args.rank M k) units (columns_at ring M k) (ap (λ C. sums_of (variables ring) C) (columns_past maps k c.if-k-maps.true))
    (subst (λ m. AreUnits ring m units) c.in_ok-count.ensures.value c.in_ok-units.ensures)

pub kernel_of_columns-requires-clause-terms : goal.kernel_of_columns-requires-clause-terms
kernel_of_columns-requires-clause-terms g c κs within =
    let ring = c.args.ring.now in
    let maps = c.args.maps.now in
    let k = c.args.k in
    let M : Columns = map (λ (m : Map). m.columns) maps in
    subst (Each (AreTermsOver ring)) (columns_there maps k c.index-maps-k.result c.if-k-maps.false) (terms_at ring c.args.rank M k c.requires.linked)

pub kernel_of_columns-requires-clause-positions : goal.kernel_of_columns-requires-clause-positions
kernel_of_columns-requires-clause-positions g c κs within =
    let ring = c.args.ring.now in
    let maps = c.args.maps.now in
    let k = c.args.k in
    let M : Columns = map (λ (m : Map). m.columns) maps in
    subst₂ (λ m C. Each (HasPositions m) C) (sym c.in_ok-count.ensures.value) (columns_there maps k c.index-maps-k.result c.if-k-maps.false)
    (positions_at ring c.args.rank M k c.requires.linked)

pub returns-in-Err-clause-stop : goal.returns-in-Err-clause-stop
returns-in-Err-clause-stop g c =
    let ring = c.args.ring.now in
    let maps = c.args.maps.now in
    let k = c.args.k in
    let M : Columns = map (λ (m : Map). m.columns) maps in
    let there = columns_there maps k c.index-maps-k.result c.if-k-maps.false in
    more_stops _ _ _ _ (IsTransposedRun ring c.in_ok-count.count (get_or maps k c.index-maps-k.result).columns) (IsRowsRun ring c.args.rank M k) NoTrail NoTrail
    (λ r m l h. (maps_count maps k c.if-k-maps.false, subst₂ (λ q C. IsTransposedRun ring q C r m l) c.in_ok-count.ensures.value (sym there) h)) (λ t h. h)
    c.in-Err.stop c.in-Err.ensures.stop
