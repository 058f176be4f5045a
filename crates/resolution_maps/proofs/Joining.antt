-- Maps of a resolution, one after another
use Rattle.std.specs.Prelude.{Err, IfOk, Ok, Result}
use Rattle.std.proofs.Common.{List, [], ap, ap₂, arith, get_or, length, map, refl, replicate, subst, suc, sym, take, zero, ℕ, ◌++◌, ◌+◌, ◌<◌, ◌∙◌, ◌∷◌, ◌≡◌}
use Rattle.std.proofs.lemmas.List.{length-map}
use Rattle.monomials.proofs.Weighing.{weighted_degree-unit}
use Rattle.monomials.specs.Exponents.{unit}
use Rattle.monomials.specs.Weights.{weighted_degree}
use Rattle.formal_sums.proofs.Combining.{Each_map}
use Rattle.formal_sums.specs.FormalSums.{Each}
use Rattle.bases.specs.Leads.{head_key}
use Rattle.term_lists.proofs.Scaling.{take_item}
use Rattle.term_lists.specs.Rings.{variables}
use Rattle.term_lists.specs.Vectors.{HasPositions, IsMonomialOver, sum_of, sums_of}
use Rattle.term_lists.specs.declared.key.Key.{Key as CodeKey}
use Rattle.term_lists.specs.declared.ring.Ring.{Ring}
use Rattle.vector_division.specs.Progress.{AreWeighed}
use Rattle.resolution_maps.specs.Inducing.{Columns, over}
use Rattle.resolution_maps.specs.Joining.{AreJoinedTo}
use Rattle.resolution_maps.specs.Resolved.{AreJoined, AreVectorsThrough, HasRows, degrees_of}
use Rattle.resolution_maps.specs.declared.maps.Map.{Map}

pub joined_more :
    (ring : Ring) (start : List ℕ) (maps : List Map) (rows next : List ℕ) (m : Map)
    → AreJoinedTo ring start maps rows → HasRows rows m → next ≡ degrees_of ring rows m.columns → AreJoinedTo ring start (maps ++ m ∷ []) next
joined_more ring start [] rows next m e h d = (subst (λ z. HasRows z m) (sym e) h, ap (λ z. degrees_of ring z m.columns) e ∙ sym d)
joined_more ring start (k ∷ maps) rows next m e h d = (e.0, joined_more ring (degrees_of ring start k.columns) maps rows next m e.1 h d)

pub joined_all : (ring : Ring) (start : List ℕ) (maps : List Map) (rows : List ℕ) → AreJoinedTo ring start maps rows → AreJoined ring start maps
joined_all ring start [] rows h = tt
joined_all ring start (m ∷ maps) rows h = (h.0, joined_all ring (degrees_of ring start m.columns) maps rows h.1)

pub length-degrees : (ring : Ring) (rows : List ℕ) (columns : List (List (CodeKey × ℕ))) → length (degrees_of ring rows columns) ≡ length columns
length-degrees ring rows columns = length-map (sums_of (variables ring) columns) _ ∙ length-map columns (λ v. sum_of (variables ring) v)

pub weighed_through : (ring : Ring) (below maps : Columns) → AreVectorsThrough ring below maps → Each (AreWeighed (variables ring) ring.weights) maps
weighed_through ring below [] h = tt
weighed_through ring below (F ∷ maps) h = (
  Each_map _ _ F (λ v w. Each_map _ _ v (λ t i. i.weighed) w.each) h.0,
  weighed_through ring (below ++ F ∷ []) maps h.1,
)

pub length-zeros : (n : ℕ) → length {A = ℕ} (replicate n 0) ≡ n
length-zeros zero = refl
length-zeros (suc n) = ap suc (length-zeros n)

-- ---- degrees
pub degree_of_lead :
    (ring : Ring) (rows : List ℕ) (v : List (CodeKey × ℕ)) (key : CodeKey) (r : ℕ) (rest : List (CodeKey × ℕ)) (row degree d : ℕ)
    → v ≡ (key, r) ∷ rest → Each (λ t. IsMonomialOver ring t.0.monomial) v → row ≡ get_or rows key.position 0 → degree ≡ key.monomial.degree → d ≡ row + degree
    → d ≡ get_or rows (head_key (sum_of (variables ring) v)).0 0 + weighted_degree ring.weights (head_key (sum_of (variables ring) v)).1
degree_of_lead ring rows v key r rest row degree d ev over er ed e =
    let n = variables ring in
    let o = (subst (Each (λ t. IsMonomialOver ring t.0.monomial)) ev over).0 in
    e ∙ ap₂ ◌+◌ er (ed ∙ o.degree)
    ∙ sym (ap (λ x. get_or rows (head_key (sum_of n x)).0 0 + weighted_degree ring.weights (head_key (sum_of n x)).1) ev)

pub degree_of_zero :
    (ring : Ring) (rows : List ℕ) (v : List (CodeKey × ℕ)) (d : ℕ) → v ≡ [] → d ≡ get_or rows 0 0
    → d ≡ get_or rows (head_key (sum_of (variables ring) v)).0 0 + weighted_degree ring.weights (head_key (sum_of (variables ring) v)).1
degree_of_zero ring rows v d ev e =
    let n = variables ring in
    let z : weighted_degree ring.weights (unit (variables ring)) ≡ 0 = weighted_degree-unit (variables ring) ring.weights in
    let s : get_or rows 0 0 ≡ get_or rows 0 0 + weighted_degree ring.weights (unit (variables ring)) = omega (arith, z) in
    e ∙ s ∙ sym (ap (λ x. get_or rows (head_key (sum_of n x)).0 0 + weighted_degree ring.weights (head_key (sum_of n x)).1) ev)

-- the degrees of one more column
pub degrees_more :
    (ring : Ring) (rows : List ℕ) (columns : List (List (CodeKey × ℕ))) (i : ℕ) (v : List (CodeKey × ℕ)) (d : ℕ) (old new : List ℕ)
    → i < length columns → v ≡ get_or columns i v → old ≡ degrees_of ring rows (take i columns)
    → d ≡ get_or rows (head_key (sum_of (variables ring) v)).0 0 + weighted_degree ring.weights (head_key (sum_of (variables ring) v)).1
    → new ≡ old ++ d ∷ [] → new ≡ degrees_of ring rows (take (i + 1) columns)
degrees_more ring rows columns i v d old new lt is eo ed en =
    let n = variables ring in
    en ∙ ap₂ (λ x y. x ++ y ∷ []) eo ed ∙ sym (more (take i columns)) ∙ ap (degrees_of ring rows) (sym (take_item columns i v lt is))
  where
    more : (xs : List (List (CodeKey × ℕ))) → degrees_of ring rows (xs ++ v ∷ [])
        ≡ degrees_of ring rows xs ++ (get_or rows (head_key (sum_of (variables ring) v)).0 0 + weighted_degree ring.weights (head_key (sum_of (variables ring) v)).1) ∷ []
    more [] = refl
    more (x ∷ xs) = ap (λ z. (get_or rows (head_key (sum_of (variables ring) x)).0 0 + weighted_degree ring.weights (head_key (sum_of (variables ring) x)).1) ∷ z) (more xs)

-- the rows of one more map
pub rows_by : (rows : List ℕ) (m : Map) (n : ℕ) → n ≡ length rows → Each (HasPositions (length rows)) m.columns → m.row_degrees.items ≡ rows → m.rows ≡ n → HasRows rows m
rows_by rows m n e h d r = record { degrees = d; count = r ∙ e; positions = h }

pub columns_more :
    (maps new : List Map) (m : Map) (rest old all : Columns) → new ≡ maps ++ m ∷ [] → old ≡ m.columns ∷ rest → map (λ m. m.columns) maps ++ old ≡ all
    → map (λ m. m.columns) new ++ rest ≡ all
columns_more maps new m rest old all en eo h =
    ap (λ z. map (λ (m : Map). m.columns) z ++ rest) en ∙ shifted maps ∙ ap (λ z. map (λ (m : Map). m.columns) maps ++ z) (sym eo) ∙ h
  where
    shifted : (xs : List Map) → map (λ (m : Map). m.columns) (xs ++ m ∷ []) ++ rest ≡ map (λ (m : Map). m.columns) xs ++ m.columns ∷ rest
    shifted [] = refl
    shifted (x ∷ xs) = ap (λ z. x.columns ∷ z) (shifted xs)

-- an answer that is more
pub if_more : {X E : Type 0} (P Q : X → Type 0) (r : Result X E) → ((x : X) → P x → Q x) → IfOk r P → IfOk r Q
if_more P Q (Ok x) f p = f x p
if_more P Q (Err e) f p = tt
