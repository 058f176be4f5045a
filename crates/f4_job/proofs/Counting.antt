-- How many rows are new: fewer than twice the pairs
use Rattle.std.proofs.Common.{Bool, List, [], ap, arith, cond, false, get_or, length, map, refl, suc, sym, true, true≢false, zero, ℕ, ◌*◌, ◌+◌, ◌<◌, ◌∙◌, ◌∷◌, ◌≡◌, ◌≤◌}
use Rattle.std.proofs.lemmas.List.{get_or-map, length-map}
use Rattle.formal_sums.specs.FormalSums.{Each}
use Rattle.bases.specs.Leads.{leads}
use Rattle.bases.specs.Settings.{IsLawful, Setting}
use Rattle.term_lists.proofs.Parts.{Each_member}
use Rattle.term_lists.specs.declared.key.Key.{Key as CodeKey}
use Rattle.row_matrix.specs.Rows.{Descend, IsRow, RowShown, column_key, first_column, vector_of, vectors_of}
use Rattle.dense_reduction.specs.Pivots.{lead_column}
use Rattle.row_reduce.specs.Echelons.{IsEchelonOf}
use Rattle.symbolic_prep.specs.Counts.{HasFewRows}
use Rattle.f4_job.proofs.News.{lead}
use Rattle.f4_job.specs.Flags.{AreFlags, unflagged}

-- ---- numbers apart, each one of others, are no more than these
drop_at : ℕ → List ℕ → List ℕ
drop_at k [] = []
drop_at zero (y ∷ ys) = ys
drop_at (suc k) (y ∷ ys) = y ∷ drop_at k ys

length-drop_at : (k : ℕ) (ys : List ℕ) → k < length ys → length ys ≡ length (drop_at k ys) + 1
unfolding drop_at
length-drop_at k [] lt = absurd (omega arith)
length-drop_at zero (y ∷ ys) lt = omega arith
length-drop_at (suc k) (y ∷ ys) lt = let e = length-drop_at k ys (omega arith) in omega arith

-- the others are still there
still_there : (k j : ℕ) (ys : List ℕ) → j < length ys → (j ≡ k → ⊥) → (i : ℕ) × (i < length (drop_at k ys)) × (get_or (drop_at k ys) i 0 ≡ get_or ys j 0)
unfolding drop_at
still_there k j [] lt ne = absurd (omega arith)
still_there zero zero (y ∷ ys) lt ne = absurd (ne refl)
still_there zero (suc j) (y ∷ ys) lt ne = (j, omega arith, refl)
still_there (suc k) zero (y ∷ ys) lt ne = (0, omega arith, refl)
still_there (suc k) (suc j) (y ∷ ys) lt ne = let o = still_there k j ys (omega arith) (λ e. ne (ap suc e)) in (suc o.0, (let l = o.1 in omega arith), o.2)

fewer : (xs ys : List ℕ) → ((j k : ℕ) → j < k → k < length xs → get_or xs j 0 ≡ get_or xs k 0 → ⊥)
    → ((i : ℕ) → i < length xs → (m : ℕ) × (m < length ys) × (get_or ys m 0 ≡ get_or xs i 0)) → length xs ≤ length ys
fewer [] ys apart among = omega arith
fewer (x ∷ xs) ys apart among =
    let o = among 0 (omega arith) in
    let e = length-drop_at o.0 ys o.1 in
    let ih = fewer xs (drop_at o.0 ys) (λ j k lt l same. apart (suc j) (suc k) (omega arith) (omega arith) same)
    (λ i lt. other o i (among (suc i) (omega arith)) (λ same. apart 0 (suc i) (omega arith) (omega arith) same)) in
    omega arith
  where
    other : (o : (m : ℕ) × (m < length ys) × (get_or ys m 0 ≡ x)) (i : ℕ) → (m : ℕ) × (m < length ys) × (get_or ys m 0 ≡ get_or xs i 0)
        → (x ≡ get_or xs i 0 → ⊥)
        → (m : ℕ) × (m < length (drop_at o.0 ys)) × (get_or (drop_at o.0 ys) m 0 ≡ get_or xs i 0)
    other o i q ne =
        let s = still_there o.0 q.0 ys q.1 (λ z. ne (sym o.2 ∙ ap (λ c. get_or ys c 0) (sym z) ∙ q.2)) in
        (s.0, s.1, s.2 ∙ q.2)

-- ---- the first columns that have a flag
flagged_columns : List Bool → List RowShown → List ℕ
flagged_columns flags [] = []
flagged_columns flags (r ∷ rows) =
    cond (get_or flags (first_column r.entries) false) (first_column r.entries ∷ flagged_columns flags rows) (flagged_columns flags rows)

length-flagged : (flags : List Bool) (rows : List RowShown) → length rows ≡ length (unflagged flags rows) + length (flagged_columns flags rows)
unfolding flagged_columns
length-flagged flags [] = refl
length-flagged flags (r ∷ rows) = go (length-flagged flags rows) (get_or flags (first_column r.entries) false)
  where
    go : length rows ≡ length (unflagged flags rows) + length (flagged_columns flags rows) → (b : Bool)
        → length (r ∷ rows) ≡ length (cond b (unflagged flags rows) (r ∷ unflagged flags rows)) + length
        (cond b (first_column r.entries ∷ flagged_columns flags rows) (flagged_columns flags rows))
    go ih true = omega arith
    go ih false = omega arith

flagged_there : (flags : List Bool) (rows : List RowShown) (j : ℕ) → j < length rows → get_or flags (lead_column rows j) false ≡ true
    → (m : ℕ) × (m < length (flagged_columns flags rows)) × (get_or (flagged_columns flags rows) m 0 ≡ lead_column rows j)
unfolding flagged_columns
flagged_there flags [] j lt f = absurd (omega arith)
flagged_there flags (r ∷ rows) j lt f = go (λ i l g. flagged_there flags rows i l g) (get_or flags (first_column r.entries) false) refl j lt f
  where
    go : ((i : ℕ) → i < length rows → get_or flags (lead_column rows i) false ≡ true
        → (m : ℕ) × (m < length (flagged_columns flags rows)) × (get_or (flagged_columns flags rows) m 0 ≡ lead_column rows i))
        → (b : Bool) → get_or flags (first_column r.entries) false ≡ b → (j : ℕ) → j < length (r ∷ rows) → get_or flags (lead_column (r ∷ rows) j) false ≡ true
        → (m : ℕ) × (m < length (cond b (first_column r.entries ∷ flagged_columns flags rows) (flagged_columns flags rows)))
        × (get_or (cond b (first_column r.entries ∷ flagged_columns flags rows) (flagged_columns flags rows)) m 0 ≡ lead_column (r ∷ rows) j)
    go ih true e zero l g = (0, omega arith, refl)
    go ih true e (suc j) l g = let o = ih j (omega arith) g in (suc o.0, (let k = o.1 in omega arith), o.2)
    go ih false e zero l g = absurd (true≢false (sym g ∙ e))
    go ih false e (suc j) l g = ih j (omega arith) g

module _ (n : ℕ) (S : Setting n) (lawful : IsLawful S) (columns : List CodeKey) (descend : Descend n S.compare columns) (inputs : ℕ) (M E : List RowShown)
    (flags : List Bool)
    (good : Each (IsRow S.modulus (length columns) inputs) M) (form : IsEchelonOf S.modulus (length columns) inputs M E) (set_at : AreFlags M flags)
    (pairs : ℕ) (few : HasFewRows (vectors_of n columns M) pairs) where
  size : length (vectors_of n columns M) ≡ length M
  size = length-map M (λ (r : RowShown). vector_of n columns r)

  -- the first columns of the chosen rows
  firsts : List ℕ
  firsts = map (lead_column M) few.chosen

  length-firsts : length firsts ≡ length few.chosen
  unfolding firsts
  length-firsts = length-map few.chosen (lead_column M)

  first_at : (j : ℕ) → j < length few.chosen → get_or firsts j 0 ≡ lead_column M (get_or few.chosen j 0)
  unfolding firsts
  first_at j lt = get_or-map (lead_column M) few.chosen j 0 0 lt

  known : (j : ℕ) → j < length few.chosen → get_or few.chosen j 0 < length M
  known j lt = let l = Each_member (λ i. i < length (vectors_of n columns M)) few.chosen j 0 few.within lt in omega (arith, l, size)

  lead_at : (j : ℕ) → j < length few.chosen → leads (vectors_of n columns M) (get_or few.chosen j 0) ≡ column_key n columns (get_or firsts j 0)
  lead_at j lt = lead n inputs S lawful columns descend M E flags good form set_at M good (get_or few.chosen j 0) (known j lt)
      ∙ ap (column_key n columns) (sym (first_at j lt))

  apart : (j k : ℕ) → j < k → k < length firsts → get_or firsts j 0 ≡ get_or firsts k 0 → ⊥
  apart j k lt l e =
      let lk : k < length few.chosen = omega (arith, l, length-firsts) in
      let lj : j < length few.chosen = omega arith in
      few.distinct j k lt lk (lead_at j lj ∙ ap (column_key n columns) e ∙ sym (lead_at k lk))

  among : (i : ℕ) → i < length firsts → (m : ℕ) × (m < length (flagged_columns flags E)) × (get_or (flagged_columns flags E) m 0 ≡ get_or firsts i 0)
  among i lt =
      let li : i < length few.chosen = omega (arith, lt, length-firsts) in
      let r = get_or few.chosen i 0 in
      let o = form.leads r (known i li) in
      let q = flagged_there flags E o.0 o.1 (ap (λ c. get_or flags c false) o.2 ∙ set_at.leads r (known i li)) in
      (q.0, q.1, q.2 ∙ o.2 ∙ sym (first_at i li))

  pub new_few : length (unflagged flags E) < 2 * pairs
  new_few =
      let a = fewer firsts (flagged_columns flags E) apart among in
      let b = length-flagged flags E in
      let c = length-firsts in
      let d = few.few in
      let e = form.few in
      let s = size in
      omega arith
