-- One more pair of a job
use Rattle.std.proofs.Common.{List, [], ap, arith, get_or, length, map, refl, subst, sym, take, zero, suc, ℕ, ◌++◌, ◌+◌, ◌<◌, ◌∙◌, ◌∷◌, ◌≡◌, ◌≤◌}
use Rattle.std.proofs.lemmas.List.{length-map}
use Rattle.formal_sums.specs.FormalSums.{Each}
use Rattle.monomial_orders.specs.Kept.{IsWeighed}
use Rattle.term_lists.proofs.Scaling.{take_item}
use Rattle.term_lists.specs.Rings.{variables}
use Rattle.module_vectors.specs.Trails.{KeptProduct}
use Rattle.member_products.specs.declared.member.Reduct.{Reduct as CodeReduct}
use Rattle.pair_criteria.specs.declared.pair.Pair.{Pair as CodePair}
use Rattle.basis_steps.specs.Criteria.{IsPair}
use Rattle.basis_steps.specs.States.{vectors}
use Rattle.basis_core.specs.Jobs.{IsJob, JobShown, index_pair_of, pairs_of}
use Rattle.basis_core.specs.Members.{IsRunRow, members_of, reduct_row_of, reduct_rows_of, setting_of}
use Rattle.basis_core.specs.Outcomes.{IsOutcomeIn, indexed_product_of, indexed_products_of}
use Rattle.s_vectors.proofs.JobTrails.{job_pair}
use Rattle.s_vectors.proofs.Joining.{solved_joined, solved_outcome}
use Rattle.s_vectors.proofs.TopParts.{shared_lawful}
use Rattle.s_vectors.specs.Solutions.{IsSolved}

map-append : {X Y : Type 0} (f : X → Y) (xs ys : List X) → map f (xs ++ ys) ≡ map f xs ++ map f ys
map-append f [] ys = refl
map-append f (x ∷ xs) ys = ap (λ l. f x ∷ l) (map-append f xs ys)

take_whole : {X : Type 0} (k : ℕ) (xs : List X) → length xs ≤ k → take k xs ≡ xs
take_whole zero [] h = refl
take_whole (suc k) [] h = refl
take_whole zero (x ∷ xs) h = absurd (omega arith)
take_whole (suc k) (x ∷ xs) h = ap (λ l. x ∷ l) (take_whole k xs (omega arith))

pairs_take : (i : ℕ) (xs : List CodePair) (P : ℕ × ℕ → Type 0) → Each P (pairs_of xs) → Each P (pairs_of (take i xs))
pairs_take zero xs P h = tt
pairs_take (suc i) [] P h = tt
pairs_take (suc i) (x ∷ xs) P h = (h.0, pairs_take i xs P h.1)

pub solved_step :
    (j : JobShown) (i : ℕ) (x : CodePair) (rows more new_rows : List CodeReduct) (a b new_products : List KeptProduct)
    → IsJob (variables j.shared.ring) j → i < length j.pairs → x ≡ get_or j.pairs i x → new_rows ≡ rows ++ more → new_products ≡ a ++ b
    → IsSolved (setting_of (variables j.shared.ring) j.shared) (vectors (members_of (variables j.shared.ring) j.members)) (pairs_of (take i j.pairs))
    (reduct_rows_of (variables j.shared.ring) rows) (indexed_products_of (variables j.shared.ring) a)
    → IsSolved (setting_of (variables j.shared.ring) j.shared) (vectors (members_of (variables j.shared.ring) j.members)) (index_pair_of x ∷ [])
    (reduct_rows_of (variables j.shared.ring) more) (indexed_products_of (variables j.shared.ring) b)
    → IsSolved (setting_of (variables j.shared.ring) j.shared) (vectors (members_of (variables j.shared.ring) j.members)) (pairs_of (take (i + 1) j.pairs))
    (reduct_rows_of (variables j.shared.ring) new_rows) (indexed_products_of (variables j.shared.ring) new_products)
solved_step j i x rows more new_rows a b new_products h lt e e_rows e_products before one =
    let n = variables j.shared.ring in
    let S = setting_of n j.shared in
    let G = vectors (members_of n j.members) in
    let e_pairs : pairs_of (take (i + 1) j.pairs) ≡ pairs_of (take i j.pairs) ++ index_pair_of x ∷ [] = ap pairs_of (take_item j.pairs i x lt e) ∙ map-append (λ y. index_pair_of y) (take i j.pairs) (x ∷ []) in
    let r_is : reduct_rows_of n new_rows ≡ reduct_rows_of n rows ++ reduct_rows_of n more = ap (reduct_rows_of n) e_rows ∙ map-append (λ row. reduct_row_of n row) rows more in
    let p_is : indexed_products_of n new_products ≡ indexed_products_of n a ++ indexed_products_of n b = ap (indexed_products_of n) e_products ∙ map-append (λ t. indexed_product_of n t) a b in
    subst (λ z. IsSolved S G z (reduct_rows_of n new_rows) (indexed_products_of n new_products)) (sym e_pairs)
    (subst (λ z. IsSolved S G (pairs_of (take i j.pairs) ++ index_pair_of x ∷ []) z (indexed_products_of n new_products)) (sym r_is)
    (subst (λ z. IsSolved S G (pairs_of (take i j.pairs) ++ index_pair_of x ∷ []) (reduct_rows_of n rows ++ reduct_rows_of n more) z) (sym p_is)
    (solved_joined S (shared_lawful n j.shared) G (pairs_of (take i j.pairs)) (index_pair_of x ∷ []) (reduct_rows_of n rows) (reduct_rows_of n more) (indexed_products_of n a) (indexed_products_of n b)
    (pairs_take i j.pairs (IsPair G) h.real) ((job_pair j i x h lt e).real, tt) before one)))

pub solved_job :
    (j : JobShown) (i : ℕ) (rows : List CodeReduct) (products : List KeptProduct)
    → IsJob (variables j.shared.ring) j → length j.pairs ≤ i → Each (IsRunRow j.shared (length j.members)) rows → Each (λ t. IsWeighed (variables j.shared.ring) j.shared.ring.weights t.1) products
    → IsSolved (setting_of (variables j.shared.ring) j.shared) (vectors (members_of (variables j.shared.ring) j.members)) (pairs_of (take i j.pairs))
    (reduct_rows_of (variables j.shared.ring) rows) (indexed_products_of (variables j.shared.ring) products)
    → IsOutcomeIn (variables j.shared.ring) (record { job = j; rows = rows; products = products })
solved_job j i rows products h le over weighed s =
    let n = variables j.shared.ring in
    let some = h.some in
    record {
      rows = over;
      weighed = weighed;
      outcome = solved_outcome (setting_of n j.shared) (shared_lawful n j.shared) (vectors (members_of n j.members)) (pairs_of j.pairs) (reduct_rows_of n rows) (indexed_products_of n products)
          (subst (λ z. 0 < z) (sym (length-map j.pairs (λ y. index_pair_of y))) some) h.real
          (subst (λ z. IsSolved (setting_of n j.shared) (vectors (members_of n j.members)) (pairs_of z) (reduct_rows_of n rows) (indexed_products_of n products)) (take_whole i j.pairs le) s);
    }
