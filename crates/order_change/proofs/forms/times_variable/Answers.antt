use Rattle.std.proofs.Common.{ap, arith, get_or, length, subst, sym, ℕ, List, [], ◌%◌, ◌*◌, ◌+◌, ◌<◌, ◌∙◌, ◌≡◌, ◌≤◌}
use Rattle.std.proofs.lemmas.List.{get_or_default}
use Rattle.std.specs.Prelude.{slice_index}
use Rattle.residues.specs.Residues.{IsCongruent}
use Rattle.monomials.specs.Exponents.{Exponents}
use Rattle.formal_sums.specs.FormalSums.{FormalSum, scale}
use Rattle.change_laws.specs.Combinations.{expansion}
use Rattle.order_change.proofs.Clearing.{unchanged_at}
use Rattle.change_laws.proofs.Modulo.{modulo_same, modulo_trans}
use Rattle.residues.proofs.Congruences.{IsCongruent_of, IsCongruent_trans}
use Rattle.order_change.proofs.Reducing.{if_ok2, reduced_at, reduced_expansion, reduced_residues, square_positive}
use Rattle.order_change.proofs.VariableProducts.{product_all, product_more, product_none, product_skip}
use Rattle.order_change.specs.Forms.{AreProductsOf, AreResidues, IsRowForm, before}
use Rattle.order_change.proofs.forms.times_variable.Goals.{then-c-gt0, else-c-gt0}
use Rattle.order_change.proofs.forms.times_variable.Goals as goal

pub bounds-rows-k : goal.bounds-rows-k
bounds-rows-k c =
    let some : 0 < slice_index c.args.form.now c.loop-k.k = omega arith in
    c.requires.covered c.loop-k.k some

pub loop-k-init : goal.loop-k-init
loop-k-init c =
    let p = c.args.modulus.now.value in
    let pos : 0 < p = let h = c.requires.residues 0 in omega (arith, h) in
    let zeros = c.in_ok-product.ensures.zeros in
    record {
      residues = record { long = c.in_ok-product.ensures.long ∙ c.len.ensures; small = λ k. let z = zeros k in omega (arith, z, square_positive p pos) };
      zeros = λ t none. IsCongruent_of p _ 0 (zeros t);
      product = λ n F B x long products. product_none pos F B x (slice_index c.args.form.now) c.in_ok-product.product zeros;
    }

pub loop-k-preserved : goal.loop-k-preserved
loop-k-preserved c =
    let p = c.args.modulus.now.value in
    let pos : 0 < p = let h = c.requires.residues 0 in omega (arith, h) in
    let form = c.args.form.now in
    let rows = c.args.rows.now in
    let k = c.loop-k.k in
    let lt : k < length form = omega arith in
    elim c.if-c-gt0.branch [
      | then-c-gt0 w ↦
          let new = w.add_multiple.new.self in
          let row = w.index-rows-k.result in
          let some : 0 < slice_index form k = omega arith in
          let is : row ≡ get_or rows k [] = w.index-rows-k.is ∙ sym (get_or_default rows k [] row (c.requires.covered k some)) in
          subst (λ z. record {
            residues : AreResidues (p * p) (length form) z;
            zeros : (t : ℕ) → ((s : ℕ) → 0 < slice_index form s → slice_index (get_or rows s []) t ≡ 0) → IsCongruent p (slice_index z t) 0;
            product : (n : ℕ) (F : List (FormalSum n)) (B : List (Exponents n)) (x : Exponents n) → length B ≡ length form
                → AreProductsOf p F B x rows form → IsRowForm p F B (scale 1 x (expansion B (before (k + 1) (slice_index form)))) z;
          }) (sym w.product-is)
          (record {
            residues = record { long = w.add_multiple.ensures.long ∙ c.loop-k.invariant.residues.long; small = w.add_multiple.ensures.numbers };
            zeros = λ t none. IsCongruent_trans (unchanged_at p c.at-c.result row c.loop-k.product new t w.add_multiple.ensures.sums
                (ap (λ z. slice_index z t) is ∙ none k some)) (c.loop-k.invariant.zeros t none);
            product = λ n F B x long products. product_more pos F B x rows form c.loop-k.product new k lt long some products
                (λ j. subst (λ y. IsCongruent p (slice_index new j) (slice_index c.loop-k.product j + slice_index form k * slice_index y j)) is
                (subst (λ y. IsCongruent p (slice_index new j) (slice_index c.loop-k.product j + y * slice_index row j)) c.at-c.ensures (w.add_multiple.ensures.sums j)))
                (c.loop-k.invariant.product n F B x long products);
          })
      | else-c-gt0 w ↦
          let none : slice_index form k ≡ 0 = omega arith in
          subst (λ z. record {
            residues : AreResidues (p * p) (length form) z;
            zeros : (t : ℕ) → ((s : ℕ) → 0 < slice_index form s → slice_index (get_or rows s []) t ≡ 0) → IsCongruent p (slice_index z t) 0;
            product : (n : ℕ) (F : List (FormalSum n)) (B : List (Exponents n)) (x : Exponents n) → length B ≡ length form
                → AreProductsOf p F B x rows form → IsRowForm p F B (scale 1 x (expansion B (before (k + 1) (slice_index form)))) z;
          }) (sym w.product-is)
          (record {
            residues = c.loop-k.invariant.residues;
            zeros = c.loop-k.invariant.zeros;
            product = λ n F B x long products. product_skip pos F B x form c.loop-k.product k none (c.loop-k.invariant.product n F B x long products);
          })
    ]

pub returns-clause-residues : goal.returns-clause-residues
returns-clause-residues c =
    let p = c.args.modulus.now.value in
    let pos : 0 < p = let h = c.requires.residues 0 in omega (arith, h) in
    let numbers = c.loop-k.product in
    if_ok2 (λ out. length out ≡ length numbers) (λ out. (k : ℕ) → k < length numbers → slice_index out k ≡ slice_index numbers k % p) (AreResidues p (length c.args.form.now)) c.reduced.result
    (λ out long same. subst (λ d. AreResidues p d out) c.loop-k.invariant.residues.long (reduced_residues p pos numbers out (record { long = long; same = same })))
    c.reduced.ensures.long c.reduced.ensures.same

pub returns-clause-zeros : goal.returns-clause-zeros
returns-clause-zeros c =
    let p = c.args.modulus.now.value in
    let pos : 0 < p = let h = c.requires.residues 0 in omega (arith, h) in
    let numbers = c.loop-k.product in
    if_ok2 (λ out. length out ≡ length numbers) (λ out. (k : ℕ) → k < length numbers → slice_index out k ≡ slice_index numbers k % p)
    (λ out. (t : ℕ) → ((s : ℕ) → 0 < slice_index c.args.form.now s → slice_index (get_or c.args.rows.now s []) t ≡ 0) → slice_index out t ≡ 0) c.reduced.result
    (λ out long same t none. reduced_at p pos numbers out (record { long = long; same = same }) t 0 pos (c.loop-k.invariant.zeros t none))
    c.reduced.ensures.long c.reduced.ensures.same

pub returns-clause-product : goal.returns-clause-product
returns-clause-product c =
    let p = c.args.modulus.now.value in
    let pos : 0 < p = let h = c.requires.residues 0 in omega (arith, h) in
    let le : length c.args.form.now ≤ c.loop-k.k = omega arith in
    let numbers = c.loop-k.product in
    if_ok2 (λ out. length out ≡ length numbers) (λ out. (k : ℕ) → k < length numbers → slice_index out k ≡ slice_index numbers k % p)
    (λ out. (n : ℕ) (F : List (FormalSum n)) (B : List (Exponents n)) (x : Exponents n) → length B ≡ length c.args.form.now
    → AreProductsOf p F B x c.args.rows.now c.args.form.now → IsRowForm p F B (scale 1 x (expansion B (slice_index c.args.form.now))) out) c.reduced.result
    (λ out long same n F B x count products.
    modulo_trans F (product_all pos F B x c.args.form.now numbers c.loop-k.k count le (c.loop-k.invariant.product n F B x count products))
    (modulo_same F _ _ (reduced_expansion p pos numbers out (record { long = long; same = same }) B)))
    c.reduced.ensures.long c.reduced.ensures.same
