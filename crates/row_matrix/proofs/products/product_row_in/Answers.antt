use Rattle.std.proofs.Common.{arith, length, subst, sym, ◌∙◌, ◌<◌, ◌≡◌}
use Rattle.std.proofs.lemmas.List.{get_or_default, take_all}
use Rattle.monomials.specs.Exponents.{exponents_of}
use Rattle.formal_sums.proofs.Combining.{Each_map}
use Rattle.formal_sums.specs.FormalSums.{scale}
use Rattle.monomial_orders.specs.Kept.{IsWeighed}
use Rattle.term_lists.proofs.Scaling.{Each_at}
use Rattle.term_lists.specs.Stops.{Fits, IsTooGreat}
use Rattle.term_lists.specs.Vectors.{HasVariables, sum_of}
use Rattle.term_lists.specs.declared.key.Key.{Key}
use Rattle.row_matrix.proofs.PartProducts.{part_more}
use Rattle.row_matrix.proofs.Telling.{told_more, tells_products}
use Rattle.row_matrix.specs.Hashes.{IsNumbered, key_product, no_key}
use Rattle.row_matrix.specs.Naming.{AreNamed}
use Rattle.row_matrix.specs.Told.{IsKeyUpTo}
use Rattle.row_matrix.proofs.products.product_row_in.Goals as goal

pub push_known-entries-requires-clause-told : goal.push_known-entries-requires-clause-told
push_known-entries-requires-clause-told c = λ z.
    let t = c.args.t.now in
    let w = c.requires.weighed in
    let inv = c.loop-hashes.invariant in
    tells_products (length t.exponents) w.0 c.loop-hashes.keys t c.args.hashes.now.position c.args.hashes.now.degree c.args.v.now (inv.told z) c.requires.hashes.bounded w.1 w.2
    (inv.part.weighed w.0 w.1 w.2 w.3)

pub push_known-entries-requires-clause-variables : goal.push_known-entries-requires-clause-variables
push_known-entries-requires-clause-variables c =
    let n = length c.args.t.now.exponents in
    let w = c.requires.weighed in
    Each_map (λ u. IsWeighed n w.0 u.0.monomial) (HasVariables n) c.args.v.now (λ u h. h.variables) w.2

pub returns-then-i-v-clause-named : goal.returns-then-i-v-clause-named
returns-then-i-v-clause-named c =
    let t = c.args.t.now in
    let n = length t.exponents in
    let v = c.args.v.now in
    let entries = c.push_known-entries.result.items in
    let part = c.push_known-entries.ensures.part c.args.keys.now c.loop-hashes.invariant.part in
    subst (λ u. AreNamed n c.loop-hashes.keys entries (scale 1 (exponents_of n t.exponents) (sum_of n u)))
    (take_all (length entries) v (omega arith)) part.named

pub returns-then-i-v-clause-fits : goal.returns-then-i-v-clause-fits
returns-then-i-v-clause-fits c =
    let v = c.args.v.now in
    let part = c.push_known-entries.ensures.part c.args.keys.now c.loop-hashes.invariant.part in
    subst (Fits c.args.t.now) (take_all (length c.push_known-entries.result.items) v (omega arith)) part.fits

pub loop-hashes-preserved : goal.loop-hashes-preserved
loop-hashes-preserved c =
    let t = c.args.t.now in
    let v = c.args.v.now in
    let n = length t.exponents in
    let i = c.len-i.result in
    let x = c.index-v-i.result in
    let old = c.loop-hashes.keys in
    let new = c.number_of_product.new.self in
    let key : Key = key_product t x.0 in
    let number = c.in_ok-kept_number-in-Ok.field-0 in
    let entries = c.push_known-entries.result.items in
    let inv = c.loop-hashes.invariant in
    let w = c.requires.weighed in
    let lt : i < length v = omega arith in
    let g : IsNumbered old new key number = subst (IsNumbered old new key) (sym c.in_ok-kept_number-in-Ok.ensures) c.in-Ok.ensures.ok in
    let sized : length x.0.monomial.exponents ≡ n = (Each_at (λ u. IsWeighed n w.0 u.0.monomial) v i x w.2 lt c.index-v-i.is).variables in
    let bounded = Each_at (λ u. IsKeyUpTo c.args.hashes.now.position c.args.hashes.now.degree u.0) v i x c.requires.hashes.bounded lt c.index-v-i.is in
    record {
      part = part_more c.args.keys.now old new t v entries c.push_reserved.new.self.items i x number
          (c.push_known-entries.ensures.part c.args.keys.now inv.part) g (omega arith) lt c.index-v-i.is sized (omega (arith, c.in-Ok.ensures.small))
          c.push_reserved.ensures.items;
      told = λ z. told_more old new t c.args.hashes.now.position c.args.hashes.now.degree x.0 number sized (inv.told z) bounded g;
      within = omega arith;
      room = omega arith;
    }

pub returns-in-Err-Degree-clause-stop : goal.returns-in-Err-Degree-clause-stop
returns-in-Err-Degree-clause-stop c =
    let x = c.index-v-i.result in
    let lt : c.len-i.result < length c.args.v.now = omega arith in (
      lt,
      subst (λ y. IsTooGreat c.args.t.now y.0.monomial)
          (c.index-v-i.is ∙ get_or_default c.args.v.now c.len-i.result x (no_key, 0) lt)
          (rw c.in-Err-Degree.field-0-is at c.in-Err-Degree.ensures.stop),
    )
