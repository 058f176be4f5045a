use Rattle.std.proofs.Common.{List, Ordering, [], ap, get_or, length, rules, subst, sym, ℕ, ◌<◌, ◌∙◌, ◌∷◌, ◌≡◌}
use Rattle.std.proofs.lemmas.List.{get_or_default}
use Rattle.monomials.specs.Exponents.{unit}
use Rattle.formal_sums.proofs.Combining.{Each_map}
use Rattle.formal_sums.specs.FormalSums.{Each, Key as KeyOf}
use Rattle.monomial_orders.specs.Kept.{IsWeighed}
use Rattle.monomial_orders.specs.Monomials.{IsMonomial}
use Rattle.term_lists.proofs.Scaling.{Each_at}
use Rattle.term_lists.specs.Rings.{variables}
use Rattle.term_lists.specs.Vectors.{HasVariables, IsTerm, IsVector}
use Rattle.term_lists.specs.declared.key.Key.{Key}
use Rattle.zp_field.specs.Moduli.{IsInverse}
use Rattle.row_matrix.proofs.DividedRows.{named_row}
use Rattle.row_matrix.specs.Rows.{AreKeys}
use Rattle.row_matrix.proofs.vector_rows.monic_row.Goals as goal

-- the terms of one of the vectors
terms_at :
    (n : ℕ) (ws : List ℕ) (p : ℕ) (compare : KeyOf n → KeyOf n → Ordering) (list : List (List (Key × ℕ))) (i : ℕ) (v x : List (Key × ℕ))
    → Each (IsVector n ws p compare) list → i < length list → v ≡ x → x ≡ get_or list i x → Each (IsTerm n ws p) v
terms_at n ws p compare list i v x vectors within same is =
    subst (Each (IsTerm n ws p)) (sym same) (Each_at (IsVector n ws p compare) list i x vectors within is).each

pub multiple_entries-requires-clause-residues : goal.multiple_entries-requires-clause-residues
multiple_entries-requires-clause-residues g c =
    let ring = g.F.Frame.over c.args.frame.now in
    let n = variables ring in
    let p = ring.modulus.value in
    let v = c.terms-terms.result.now in
    let each = terms_at n ring.weights p (g.F.Frame.compare c.args.frame.now n) c.args.list.now c.args.number v c.index-list-number.result
    c.requires.vectors c.requires.within c.terms-terms.ensures c.index-list-number.is in
    subst (λ q. Each (λ (u : Key × ℕ). u.1 < q) v) (sym (ap (λ r. r.modulus.value) c.ring.ensures))
    (Each_map (IsTerm n ring.weights p) (λ (u : Key × ℕ). u.1 < p) v (λ t k. k.reduced) each)

pub multiple_entries-requires-clause-variables : goal.multiple_entries-requires-clause-variables
multiple_entries-requires-clause-variables g c =
    let ring = g.F.Frame.over c.args.frame.now in
    let n = variables ring in
    let p = ring.modulus.value in
    let v = c.terms-terms.result.now in
    let each = terms_at n ring.weights p (g.F.Frame.compare c.args.frame.now n) c.args.list.now c.args.number v c.index-list-number.result
    c.requires.vectors c.requires.within c.terms-terms.ensures c.index-list-number.is in
    subst (λ k. Each (HasVariables k) v) (sym c.requires.one.variables)
    (Each_map (IsTerm n ring.weights p) (HasVariables n) v (λ t k. k.weighed.variables) each)

pub multiple_entries-requires-clause-one : goal.multiple_entries-requires-clause-one
multiple_entries-requires-clause-one g c =
    let one = c.args.one.now in
    subst (λ k. IsMonomial k (unit k) one.exponents) (sym c.requires.one.variables) c.requires.one

pub returns-clause-named : goal.returns-clause-named
returns-clause-named g c =
    let ring = g.F.Frame.over c.args.frame.now in
    let list = c.args.list.now in
    let i = c.args.number in
    let v = c.terms-terms.result.now in
    let vector : v ≡ get_or list i [] = c.terms-terms.ensures ∙ c.index-list-number.is ∙ get_or_default list i c.index-list-number.result [] c.requires.within in
    let sources : c.new.result.sources ≡ (i, c.in-Some.c) ∷ [] = search rules in
    named_row (variables ring) ring.modulus.value list c.multiple_entries.new.keys c.new.result i c.in-Some.c v c.index-terms-0.result
    c.in_ok-entries-in-Some.entries.items (length c.args.one.now.exponents) c.ring.result.now.modulus.value
    c.requires.within vector c.requires.some c.index-terms-0.is c.requires.one.variables (ap (λ r. r.modulus.value) c.ring.ensures)
    (subst (λ y. IsInverse c.ring.result.now.modulus.value y.1 c.in-Some.c) (sym c.index-terms-0.is) c.in-Some.ensures.value)
    c.new.ensures.entries sources c.in_ok-entries-in-Some.ensures.named

pub returns-clause-weighed : goal.returns-clause-weighed
returns-clause-weighed g c = λ h.
    let ring = g.F.Frame.over c.args.frame.now in
    let n = variables ring in
    let ws = ring.weights in
    let list = c.args.list.now in
    let i = c.args.number in
    let one = c.args.one.now in
    let v = c.terms-terms.result.now in
    let compare = g.F.Frame.compare c.args.frame.now n in
    let vector : v ≡ get_or list i [] = c.terms-terms.ensures ∙ c.index-list-number.is ∙ get_or_default list i c.index-list-number.result [] c.requires.within in
    let size : length one.exponents ≡ n = c.requires.one.variables in
    let terms : IsVector n ws ring.modulus.value compare (get_or list i []) =
    Each_at (IsVector n ws ring.modulus.value compare) list i (get_or list i []) c.requires.vectors c.requires.within
    (get_or_default list i [] (get_or list i []) c.requires.within) in
    let each : Each (λ (u : Key × ℕ). IsWeighed n ws u.0.monomial) v =
    subst (Each (λ (u : Key × ℕ). IsWeighed n ws u.0.monomial)) (sym vector)
    (Each_map (IsTerm n ws ring.modulus.value) (λ (u : Key × ℕ). IsWeighed n ws u.0.monomial) (get_or list i []) (λ t k. k.weighed) terms.each) in
    subst (λ z. AreKeys z ws c.multiple_entries.new.keys) size
    (c.in_ok-entries-in-Some.ensures.weighed ws (subst (λ z. IsWeighed z ws one) (sym size) (c.requires.weighed ws))
    (subst (λ z. Each (λ (u : Key × ℕ). IsWeighed z ws u.0.monomial) v) (sym size) each) (subst (λ z. AreKeys z ws c.args.keys.now) (sym size) h))
