use Rattle.std.proofs.Common.{IfOk, length, subst}
use Rattle.residues.specs.Residues.{IsDomain}
use Rattle.formal_sums.specs.FormalSums.{Each}
use Rattle.row_laws.specs.Rows.{HasSameSpan}
use Rattle.term_lists.specs.Rings.{variables}
use Rattle.term_lists.specs.Vectors.{sums_of}
use Rattle.row_matrix.proofs.MonicMatrices.{are_divided, are_from_sources, is_matrix, ok_more, one_span}
use Rattle.row_matrix.specs.MonicRows.{AreDivided}
use Rattle.row_matrix.specs.Placed.{IsPlacedMatrix}
use Rattle.row_matrix.specs.Rows.{IsFromSources, IsMatrix, vectors_of}
use Rattle.row_matrix.proofs.vector_rows.from_vectors.Goals as goal

pub returns-clause-matrix : goal.returns-clause-matrix
returns-clause-matrix g c =
    let ring = g.F.Frame.over c.args.frame.now in
    let n = variables ring in
    let ws = ring.weights in
    let p = ring.modulus.value in
    let compare = g.F.Frame.compare c.args.frame.now n in
    let list = c.args.list.now in
    let keys = c.monic_rows.new.keys in
    let rows = c.in_ok-rows.rows.items in
    let domain : IsDomain p = subst (λ r. IsDomain r.modulus.value) c.ring.ensures c.domain.ensures.domain in
    let placed : IfOk c.place_matrix.result (IsPlacedMatrix n ws compare keys (length list) rows) =
    subst (λ ks. IfOk c.place_matrix.result (IsPlacedMatrix n ws compare ks (length list) rows)) c.keys.ensures.keys c.place_matrix.ensures in
    ok_more (IsPlacedMatrix n ws compare keys (length list) rows) (IsMatrix n ws p compare) c.place_matrix.result
    (λ m h. is_matrix n ws p domain compare (g.met.F.Frame.laws c.args.frame.now n 0) list keys rows m c.requires c.in_ok-rows.ensures h) placed

pub returns-clause-rows : goal.returns-clause-rows
returns-clause-rows g c =
    let ring = g.F.Frame.over c.args.frame.now in
    let n = variables ring in
    let ws = ring.weights in
    let p = ring.modulus.value in
    let compare = g.F.Frame.compare c.args.frame.now n in
    let list = c.args.list.now in
    let keys = c.monic_rows.new.keys in
    let rows = c.in_ok-rows.rows.items in
    let domain : IsDomain p = subst (λ r. IsDomain r.modulus.value) c.ring.ensures c.domain.ensures.domain in
    let placed : IfOk c.place_matrix.result (IsPlacedMatrix n ws compare keys (length list) rows) =
    subst (λ ks. IfOk c.place_matrix.result (IsPlacedMatrix n ws compare ks (length list) rows)) c.keys.ensures.keys c.place_matrix.ensures in
    ok_more (IsPlacedMatrix n ws compare keys (length list) rows) (λ m. AreDivided n p list m.rows) c.place_matrix.result
    (λ m h. are_divided n ws p domain compare (g.met.F.Frame.laws c.args.frame.now n 0) list keys rows m c.requires c.in_ok-rows.ensures h) placed

pub returns-clause-sources : goal.returns-clause-sources
returns-clause-sources g c =
    let ring = g.F.Frame.over c.args.frame.now in
    let n = variables ring in
    let ws = ring.weights in
    let p = ring.modulus.value in
    let compare = g.F.Frame.compare c.args.frame.now n in
    let list = c.args.list.now in
    let keys = c.monic_rows.new.keys in
    let rows = c.in_ok-rows.rows.items in
    let domain : IsDomain p = subst (λ r. IsDomain r.modulus.value) c.ring.ensures c.domain.ensures.domain in
    let placed : IfOk c.place_matrix.result (IsPlacedMatrix n ws compare keys (length list) rows) =
    subst (λ ks. IfOk c.place_matrix.result (IsPlacedMatrix n ws compare ks (length list) rows)) c.keys.ensures.keys c.place_matrix.ensures in
    ok_more (IsPlacedMatrix n ws compare keys (length list) rows) (λ m. Each (IsFromSources n p (sums_of n list) m.columns) m.rows) c.place_matrix.result
    (λ m h. are_from_sources n ws p domain compare (g.met.F.Frame.laws c.args.frame.now n 0) list keys rows m c.requires c.in_ok-rows.ensures h) placed

pub returns-clause-span : goal.returns-clause-span
returns-clause-span g c =
    let ring = g.F.Frame.over c.args.frame.now in
    let n = variables ring in
    let ws = ring.weights in
    let p = ring.modulus.value in
    let compare = g.F.Frame.compare c.args.frame.now n in
    let list = c.args.list.now in
    let keys = c.monic_rows.new.keys in
    let rows = c.in_ok-rows.rows.items in
    let domain : IsDomain p = subst (λ r. IsDomain r.modulus.value) c.ring.ensures c.domain.ensures.domain in
    let placed : IfOk c.place_matrix.result (IsPlacedMatrix n ws compare keys (length list) rows) =
    subst (λ ks. IfOk c.place_matrix.result (IsPlacedMatrix n ws compare ks (length list) rows)) c.keys.ensures.keys c.place_matrix.ensures in
    ok_more (IsPlacedMatrix n ws compare keys (length list) rows) (λ m. HasSameSpan p (sums_of n list) (vectors_of n m.columns m.rows)) c.place_matrix.result
    (λ m h. one_span n ws p domain compare (g.met.F.Frame.laws c.args.frame.now n 0) list keys rows m c.requires c.in_ok-rows.ensures h) placed

pub monic_rows-requires-clause-vectors : goal.monic_rows-requires-clause-vectors
monic_rows-requires-clause-vectors g c = c.requires
