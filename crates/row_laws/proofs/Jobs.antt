-- The pairs of a job have lcm representations over the members and the new rows
use Rattle.std.proofs.Common.{Less, List, [], ap, append_assoc, arith, get_or, inl, inr, length, length-append, subst, subst₂, suc, sym, ℕ, ◌*◌, ◌++◌, ◌+◌, ◌-◌, ◌<◌, ◌∙◌, ◌∷◌, ◌≡◌, ◌≤◌, ◌⊎◌}
use Rattle.std.proofs.lemmas.Bool.{cases_lt}
use Rattle.monomials.proofs.Monomials.{times-unit}
use Rattle.monomials.specs.Exponents.{Exponents, lcm, quotient, unit}
use Rattle.formal_sums.proofs.Sameness.{IsSame_sym, scale-scale, shift-unit}
use Rattle.formal_sums.specs.FormalSums.{FormalSum, IsSame, Key, scale, shift}
use Rattle.bases.proofs.MoreMembers.{IsMonicList_append, get_or-append_back, get_or-append_front}
use Rattle.bases.proofs.SVectors.{s_vector_below}
use Rattle.bases.specs.Leads.{IsLead, IsMonicList, head_key, leads}
use Rattle.bases.specs.Representations.{HasLcmRepresentation, IsSumBelow, key_lcm, s_vector}
use Rattle.bases.specs.Settings.{IsLawful, Setting}
use Rattle.division_laws.proofs.Replacing.{HasLcmRepresentation_replaced, HasStandardRepresentation_itself, HasStandardRepresentation_more}
use Rattle.division_laws.proofs.Sinking.{sinks}
use Rattle.division_laws.specs.Standard.{HasStandardRepresentation, IsReplacedBy}
use Rattle.row_laws.proofs.Echelons.{span_lead}
use Rattle.row_laws.proofs.RowSpans.{IsInSpan_append, IsInSpan_itself, IsInSpan_same, IsInSpan_scale}
use Rattle.row_laws.specs.Jobs.{AreProductRows, HasPairRows, IsEchelonForm, IsNewRows, IsProductRow}
use Rattle.row_laws.specs.Rows.{ContainsLead, IsInSpan}

-- the row that has the lead
pub ContainsLead_row :
    {n : ℕ} (rows : List (FormalSum n)) (k : Key n) → ContainsLead rows k
    → (r : ℕ) × (r < length rows) × (leads rows r ≡ k)
ContainsLead_row [] k h = absurd h
ContainsLead_row (e ∷ rows) k (inl h) = (0, omega arith, h)
ContainsLead_row (e ∷ rows) k (inr h) = go (ContainsLead_row rows k h)
  where
    go :
        (r : ℕ) × (r < length rows) × (leads rows r ≡ k)
        → (r : ℕ) × (r < length (e ∷ rows)) × (leads (e ∷ rows) r ≡ k)
    go (r, lt, d) = (suc r, omega arith, d)

-- c times a row that is m g is c m g
scale_again : {n : ℕ} (c d : ℕ) (m : Exponents n) (v : FormalSum n) → scale c (unit n) (scale d m v) ≡ scale (c * d) m v
scale_again {n} c d m v = scale-scale c d (unit n) m v ∙ ap (λ x. scale (c * d) x v) (times-unit m)

module _ {n : ℕ} (S : Setting n) (lawful : IsLawful S) (G M E N : List (FormalSum n)) (list : IsMonicList S G) (monic : IsMonicList S N)
    (products : AreProductRows S.modulus G M) (form : IsEchelonForm S M E) (new : IsNewRows M E N) where
  whole : IsMonicList S (G ++ N)
  whole = IsMonicList_append S G N list monic

  -- a product of a member takes the lead away and stays in the span
  abbrev Takes : FormalSum n → Key n → Type 0
  Takes v k = (i : ℕ) × (m : Exponents n) × (i < length (G ++ N)) × (shift m (leads (G ++ N) i) ≡ k) × ((c : ℕ) → IsInSpan S.modulus E (v ++ scale c m (get_or (G ++ N) i [])))

  by_row :
      (v : FormalSum n) (k : Key n) (r : ℕ)
      → IsInSpan S.modulus E v → r < length M → leads M r ≡ k → Takes v k
  by_row v k r inside h e =
      let row = products r h in
      let g = get_or-append_front G N row.member row.within in (
        row.member,
        row.multiplier,
        longer row.member row.within,
        ap (λ x. shift row.multiplier (head_key x)) g ∙ row.lead ∙ e,
        λ c. subst (λ x. IsInSpan S.modulus E (v ++ scale c row.multiplier x)) (sym g) (IsInSpan_append E v (scale c row.multiplier (get_or G row.member [])) inside (part c row)),
      )
    where
      longer : (i : ℕ) → i < length G → i < length (G ++ N)
      longer i lt = omega (arith, length-append G N)

      part :
          (c : ℕ) (row : IsProductRow S.modulus G (get_or M r []))
          → IsInSpan S.modulus E (scale c row.multiplier (get_or G row.member []))
      part c row =
          let one : IsInSpan S.modulus E (scale 1 row.multiplier (get_or G row.member [])) = IsInSpan_same E (get_or M r []) _ (IsSame_sym row.same) (form.span.inside r h) in
          subst (IsInSpan S.modulus E) (scale_again c 1 row.multiplier (get_or G row.member []) ∙ ap (λ x. scale x row.multiplier (get_or G row.member [])) (times_one c)) (IsInSpan_scale E c (scale 1 row.multiplier (get_or G row.member [])) one)
        where
          times_one : (c : ℕ) → c * 1 ≡ c
          times_one c = omega arith

  by_new :
      (v : FormalSum n) (k : Key n) (j : ℕ)
      → IsInSpan S.modulus E v → j < length E → leads E j ≡ k
      → (i : ℕ) × (i < length N) × (get_or N i [] ≡ get_or E j []) → Takes v k
  by_new v k j inside h e (i, lt, d) =
      let g : get_or (G ++ N) (length G + i) [] ≡ get_or E j [] = get_or-append_back G N i ∙ d in (
        length G + i,
        unit n,
        omega (arith, length-append G N),
        shift-unit (leads (G ++ N) (length G + i)) ∙ ap head_key g ∙ e,
        λ c. subst (λ x. IsInSpan S.modulus E (v ++ scale c (unit n) x)) (sym g) (IsInSpan_append E v (scale c (unit n) (get_or E j [])) inside (IsInSpan_scale E c (get_or E j []) (IsInSpan_itself S.modulus E j))),
      )

  takes : (v : FormalSum n) (k : Key n) → IsInSpan S.modulus E v → IsLead S v k → Takes v k
  takes v k inside lead = go (ContainsLead_row E k (span_lead S lawful E v k form.echelon inside lead))
    where
      go : (j : ℕ) × (j < length E) × (leads E j ≡ k) → Takes v k
      go (j, h, e) = by (new.all j h)
        where
          by : ContainsLead M (leads E j) ⊎ ((i : ℕ) × (i < length N) × (get_or N i [] ≡ get_or E j [])) → Takes v k
          by (inr d) = by_new v k j inside h e d
          by (inl d) = old (ContainsLead_row M (leads E j) d)
            where
              old : (r : ℕ) × (r < length M) × (leads M r ≡ leads E j) → Takes v k
              old (r, lt, q) = by_row v k r inside lt (q ∙ e)

  -- what is in the span and has its lead below a bound is a sum of products below it
  pub span_below :
      (v : FormalSum n) (bound : Key n)
      → IsInSpan S.modulus E v → ((k : Key n) → IsLead S v k → S.compare k bound ≡ Less)
      → IsSumBelow S (G ++ N) bound v
  span_below v bound inside low = sinks S lawful (G ++ N) whole (IsInSpan S.modulus E) takes bound v inside low

  -- the S-vector of a pair of the job is in the span
  pair_in_span :
      (i j : ℕ)
      → HasPairRows S.modulus G M i j → IsInSpan S.modulus E (s_vector S.modulus (get_or G i []) (get_or G j []))
  pair_in_span i j rows =
      IsInSpan_append E (scale 1 (quotient l (leads G i).1) (get_or G i [])) (scale (S.modulus - 1) (quotient l (leads G j).1) (get_or G j []))
      (one rows.first) (minus rows.second)
    where
      l : Exponents n
      l = lcm (leads G i).1 (leads G j).1

      one :
          (r : ℕ) × (r < length M) × IsSame S.modulus (get_or M r []) (scale 1 (quotient l (leads G i).1) (get_or G i []))
          → IsInSpan S.modulus E (scale 1 (quotient l (leads G i).1) (get_or G i []))
      one (r, h, e) = IsInSpan_same E (get_or M r []) _ e (form.span.inside r h)

      minus :
          (r : ℕ) × (r < length M) × IsSame S.modulus (get_or M r []) (scale 1 (quotient l (leads G j).1) (get_or G j []))
          → IsInSpan S.modulus E (scale (S.modulus - 1) (quotient l (leads G j).1) (get_or G j []))
      minus (r, h, e) =
          subst (IsInSpan S.modulus E) (scale_again (S.modulus - 1) 1 (quotient l (leads G j).1) (get_or G j []) ∙ ap (λ x. scale x (quotient l (leads G j).1) (get_or G j [])) (times_one (S.modulus - 1)))
          (IsInSpan_scale E (S.modulus - 1) (scale 1 (quotient l (leads G j).1) (get_or G j [])) (IsInSpan_same E (get_or M r []) _ e (form.span.inside r h)))
        where
          times_one : (c : ℕ) → c * 1 ≡ c
          times_one c = omega arith

  pub job_representation :
      (i j : ℕ)
      → i < length G → j < length G → (leads G i).0 ≡ (leads G j).0 → HasPairRows S.modulus G M i j
      → HasLcmRepresentation S (G ++ N) i j
  job_representation i j hi hj e rows =
      subst₂ (λ x y. IsSumBelow S (G ++ N) (key_lcm (head_key x) (head_key y)) (s_vector S.modulus x y)) (sym (get_or-append_front G N i hi)) (sym (get_or-append_front G N j hj))
      (span_below (s_vector S.modulus (get_or G i []) (get_or G j [])) (key_lcm (leads G i) (leads G j)) (pair_in_span i j rows) (λ k lead. s_vector_below S lawful G list i j hi hj e k lead))

-- the members in front and those behind are replaced, each by its list
IsReplacedBy_append : {n : ℕ} (S : Setting n) (G N H : List (FormalSum n)) → IsReplacedBy S G H → IsReplacedBy S N H → IsReplacedBy S (G ++ N) H
IsReplacedBy_append {n} S G N H a b i h = go (cases_lt i (length G))
  where
    go : (i < length G) ⊎ (length G ≤ i) → HasStandardRepresentation S H (leads (G ++ N) i) (get_or (G ++ N) i [])
    go (inl lt) = subst (λ g. HasStandardRepresentation S H (head_key g) g) (sym (get_or-append_front G N i lt)) (a i lt)
    go (inr le) =
        let e : i ≡ length G + (i - length G) = omega arith in
        let lt : i - length G < length N = omega (arith, length-append G N) in
        subst (λ g. HasStandardRepresentation S H (head_key g) g) (sym (ap (λ x. get_or (G ++ N) x []) e ∙ get_or-append_back G N (i - length G))) (b (i - length G) lt)

-- over each list in which members and new rows have standard representations
pub HasLcmRepresentation_divided :
    {n : ℕ} (S : Setting n) → IsLawful S → (G N H : List (FormalSum n)) (i j : ℕ) → i < length G → j < length G
    → get_or H i [] ≡ get_or G i [] → get_or H j [] ≡ get_or G j [] → IsReplacedBy S G H → IsReplacedBy S N H
    → HasLcmRepresentation S (G ++ N) i j → HasLcmRepresentation S H i j
HasLcmRepresentation_divided S lawful G N H i j hi hj ei ej a b rep =
    HasLcmRepresentation_replaced S lawful (G ++ N) H i j (IsReplacedBy_append S G N H a b) (ei ∙ sym (get_or-append_front G N i hi)) (ej ∙ sym (get_or-append_front G N j hj)) rep

-- members that stand elsewhere in H
IsReplacedBy_behind : {n : ℕ} (S : Setting n) (A N : List (FormalSum n)) → IsReplacedBy S N (A ++ N)
IsReplacedBy_behind S A N i h =
    let lt : length A + i < length (A ++ N) = omega (arith, length-append A N) in
    subst (λ g. HasStandardRepresentation S (A ++ N) (head_key g) g) (get_or-append_back A N i) (HasStandardRepresentation_itself S (A ++ N) (length A + i) lt)

-- after further members were added between
pub HasLcmRepresentation_added :
    {n : ℕ} (S : Setting n) → IsLawful S → (G A N : List (FormalSum n)) (i j : ℕ) → i < length G → j < length G
    → HasLcmRepresentation S (G ++ N) i j → HasLcmRepresentation S (G ++ (A ++ N)) i j
HasLcmRepresentation_added S lawful G A N i j hi hj rep =
    HasLcmRepresentation_divided S lawful G N (G ++ (A ++ N)) i j hi hj (get_or-append_front G (A ++ N) i hi) (get_or-append_front G (A ++ N) j hj)
    (λ x h. HasStandardRepresentation_more S G (A ++ N) (leads G x) (get_or G x []) (HasStandardRepresentation_itself S G x h))
    (subst (IsReplacedBy S N) (append_assoc G A N) (IsReplacedBy_behind S (G ++ A) N))
    rep
