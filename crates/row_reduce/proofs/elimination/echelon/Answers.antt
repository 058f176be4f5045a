use Rattle.std.proofs.Common.{ap, arith, length, subst, subst₂, sym, ◌≡◌}
use Rattle.row_laws.specs.Jobs.{IsEchelonForm}
use Rattle.row_matrix.specs.Rows.{vectors_of}
use Rattle.row_reduce.proofs.Forms.{echelon_form}
use Rattle.row_reduce.specs.Echelons.{IsEchelonOf}
use Rattle.row_reduce.proofs.elimination.echelon.Goals as goal

pub returns-clause-form : goal.returns-clause-form
returns-clause-form g c = λ n S lawful same descend.
    let m = c.args.matrix in
    let parts = c.into_parts-columns in
    let done = c.in_ok-rows.rows.items in
    let wide : c.len-count.result ≡ length m.columns = omega (arith, c.len-count.ensures, parts.result.0.ok.0, ap length parts.ensures.columns) in
    let reduced = c.in_ok-rows.ensures parts.result.2.items c.in_ok-done.ensures in
    let rows = subst₂ (λ k M. IsEchelonOf c.args.modulus.now.value k parts.result.1 M done) wide parts.ensures.rows reduced in
    let all = subst₂ (λ p i. IsEchelonOf p (length m.columns) i m.rows done) (sym same) parts.ensures.inputs rows in
    subst (λ columns. IsEchelonForm S (vectors_of n m.columns m.rows) (vectors_of n columns done)) (sym parts.ensures.columns)
    (echelon_form n S lawful m.columns descend m.inputs m.rows done all)
