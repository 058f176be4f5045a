use Rattle.std.proofs.Common.{List, get_or, length, subst, sym, ℕ, ◌∙◌, ◌≡◌, []}
use Rattle.formal_sums.specs.FormalSums.{Each}
use Rattle.monomial_orders.specs.Kept.{IsWeighed}
use Rattle.term_lists.specs.Rings.{variables}
use Rattle.module_vectors.specs.Trails.{KeptProduct}
use Rattle.symbolic_prep.proofs.Planning.{entries_some, keys_product, lead_known, more_planned, named_product, terms_weighed}
use Rattle.row_matrix.specs.Rows.{AreKeys}
use Rattle.row_matrix.specs.Told.{AreHashesOf}
use Rattle.symbolic_prep.specs.Plans.{IsMorePlanned}
use Rattle.symbolic_prep.specs.Traces.{ProductEnds}
use Rattle.symbolic_prep.proofs.plan.add_product.Goals as goal

pub product_row-requires-clause-hashes : goal.product_row-requires-clause-hashes
product_row-requires-clause-hashes g c =
    let list = g.L.Vectors.listed c.args.members.now in
    let vector : c.terms-terms.result.now ≡ get_or list c.args.member [] = c.terms-terms.ensures ∙ c.at.ensures in
    subst (AreHashesOf c.index-hashes.result.now) (sym vector) (c.in_ok-keep_hashes.ensures.made.there c.index-hashes.result.now c.index-hashes.ensures)

pub product_row-requires-clause-weighed : goal.product_row-requires-clause-weighed
product_row-requires-clause-weighed g c =
    let ring = c.args._ring.now in
    let n = variables ring in
    let list = g.L.Vectors.listed c.args.members.now in
    let vector : c.terms-terms.result.now ≡ get_or list c.args.member [] = c.terms-terms.ensures ∙ c.at.ensures in
    let weighed : IsWeighed n ring.weights c.args.t = c.requires.product.weighed in
    subst (λ k. (ws : List ℕ) × IsWeighed k ws c.args.t × Each (λ u. IsWeighed k ws u.0.monomial) c.terms-terms.result.now
    × AreKeys k ws c.args.plan.now.keys) (sym weighed.variables) (
      ring.weights,
      weighed,
      subst (Each (λ u. IsWeighed n ring.weights u.0.monomial)) (sym vector)
          (terms_weighed n ring.weights list c.args.member c.requires.weighed c.requires.product.member),
      c.requires.plan.monomials,
    )

pub put_row-requires-clause-some : goal.put_row-requires-clause-some
put_row-requires-clause-some g c =
    let ring = c.args._ring.now in
    let list = g.L.Vectors.listed c.args.members.now in
    let keys = c.product_row.new.keys in
    let es = c.in-Ok.entries.items in
    let named = named_product (variables ring) ring.weights list keys es c.args.member c.args.t c.terms-terms.result.now c.requires.product.weighed (c.terms-terms.ensures ∙ c.at.ensures) c.in-Ok.ensures.named in
    entries_some (variables ring) list keys es (c.args.member, c.args.t) named c.requires.product.some

pub put_row-requires-clause-known : goal.put_row-requires-clause-known
put_row-requires-clause-known g c =
    let ring = c.args._ring.now in
    let list = g.L.Vectors.listed c.args.members.now in
    let keys = c.product_row.new.keys in
    let es = c.in-Ok.entries.items in
    let named = named_product (variables ring) ring.weights list keys es c.args.member c.args.t c.terms-terms.result.now c.requires.product.weighed (c.terms-terms.ensures ∙ c.at.ensures) c.in-Ok.ensures.named in
    lead_known (length keys) es (entries_some (variables ring) list keys es (c.args.member, c.args.t) named c.requires.product.some) named.known

pub returns-in-Err-clause-stop : goal.returns-in-Err-clause-stop
returns-in-Err-clause-stop g c =
    subst (λ v. ProductEnds v c.args.plan.now.products.items c.put_end.new.products.items (c.args.member, c.args.t) c.put_end.result)
    (c.terms-terms.ensures ∙ c.at.ensures) c.put_end.ensures

pub returns-clause-planned : goal.returns-clause-planned
returns-clause-planned g c =
    let ring = c.args._ring.now in
    let n = variables ring in
    let ws = ring.weights in
    let list = g.L.Vectors.listed c.args.members.now in
    let p = c.args.plan.now in
    let q = c.put_row.new.plan in
    let s : KeptProduct = (c.args.member, c.args.t) in
    let e = c.in-Ok.ensures in
    let r = c.in_ok-put_row.ensures in
    let es = c.in-Ok.entries.items in
    let keys = c.product_row.new.keys in
    let v = c.terms-terms.result.now in
    let vector : v ≡ get_or list c.args.member [] = c.terms-terms.ensures ∙ c.at.ensures in
    let product = c.requires.product in
    subst (λ ks. IsMorePlanned n ws list p.keys ks p.rows.items q.rows.items p.products.items q.products.items p.led.items q.led.items s) (sym r.keys)
    (more_planned n ws list p.keys keys p.rows.items q.rows.items p.products.items q.products.items p.led.items q.led.items s es r.rows.0
    c.requires.plan product (named_product n ws list keys es c.args.member c.args.t v product.weighed vector e.named) e.grown
    (keys_product n ws list p.keys keys c.args.member c.args.t v product.weighed c.requires.weighed product.member vector e.weighed c.requires.plan.monomials)
    r.rows.2 r.rows.3 r.rows.1 r.products r.lead r.kept r.only)
