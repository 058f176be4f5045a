-- A minimal resolution of a value has one text, and so have its Betti numbers and its regularity
use Rattle.std.specs.Prelude.{Contains, codes, pos, replicate, ℤ, ◌≤ℤ◌}
use Rattle.std.proofs.Common.{List, [], ap, ap₂, arith, get_or, inl, inr, length, refl, subst, suc, sym, zero, ℕ, ◌++◌, ◌<◌, ◌∙◌, ◌∷◌, ◌≡◌, ◌⊎◌}
use Rattle.std.proofs.lemmas.Int.{ints}
use Rattle.formal_sums.proofs.OfRank.{IsOfRank_of}
use Rattle.formal_sums.proofs.Sameness.{IsSame_refl}
use Rattle.formal_sums.specs.FormalSums.{Each, HasRank, IsOfRank}
use Rattle.term_lists.proofs.NormalVectors.{vector_unique}
use Rattle.term_lists.specs.Rings.{ring_comparison, setting, variables}
use Rattle.term_lists.specs.Vectors.{AreVectorsOver, sums_of}
use Rattle.term_lists.specs.declared.key.Key.{Key}
use Rattle.term_lists.specs.declared.ring.Ring.{Ring}
use Rattle.groebner_iface.specs.Runs.{IsReducedBasisOf}
use Rattle.operation_laws.proofs.Linear.{Each_at}
use Rattle.resolution_laws.proofs.OneResolution.{canonical_unique}
use Rattle.minimal_laws.proofs.OneCancellation.{one_cancellation, same_maps_sym, same_maps_trans}
use Rattle.minimal_laws.specs.Cancellation.{AreSameColumns, AreSameMaps, IsCancelled}
use Rattle.minimal_laws.specs.Gradings.{GradedMap, GradedMaps, graded_by_leads, lead_degrees}
use Rattle.betti_laws.proofs.Tables.{betti}
use Rattle.betti_laws.specs.Tables.{step_count}
use Rattle.minimal_betti.proofs.Counts.{table_same}
use Rattle.minimal_betti.specs.Tables.{Ascends, ComesBefore, IsCountedEntry, IsLastStep, IsRegularity, IsBettiTable}
use Rattle.minimal_betti.specs.declared.tables.BettiEntry.{BettiEntry}
use Rattle.resolution_maps.specs.Inducing.{Columns, maps_of}
use Rattle.script_parse.proofs.Working.{lawful}
use Rattle.script_parse.specs.declared.kind.Kind.{Kind}
use Rattle.script_parse.specs.declared.kind.Kind.TheVariants as kinds
use Rattle.syzygy_engine.proofs.Standing.{ranks_of_positions}
use Rattle.column_passes.proofs.Lists.{each_in}
use Rattle.session_lang.proofs.OneForm.{one_reduced}
use Rattle.session_lang.proofs.OneReordering.{there}
use Rattle.session_lang.specs.Lines.{RefusesAsMinimal, TellsOfValue}
use Rattle.session_reports.specs.Minimising.{
  AreInvariants,
  IsBettiText,
  IsCancelledBasis,
  IsInhomogeneous,
  IsMinimalText,
  IsRegularityText,
  IsResolvedBasis,
  RefusesMinimal,
  regularity_text,
  table_text,
}
use Rattle.session_values.specs.Names.{ScriptState, Value}
use Rattle.session_values.specs.Resolving.{maps_text}
use Rattle.session_values.specs.Texts.{heading}

abbrev Terms : Type 0
Terms = List (Key × ℕ)

-- ---- refusals
kind_is : (ring : Ring) (value : Value) (kind : Kind) → RefusesMinimal ring value kind → kind ≡ kinds.Homogeneous
kind_is ring value kinds.Homogeneous h = refl
kind_is ring value kinds.Syntax h = absurd h
kind_is ring value kinds.Numeral h = absurd h
kind_is ring value kinds.Ring h = absurd h
kind_is ring value kinds.Modulus h = absurd h
kind_is ring value kinds.Name h = absurd h
kind_is ring value kinds.OfKind h = absurd h
kind_is ring value kinds.Rank h = absurd h
kind_is ring value kinds.Degree h = absurd h
kind_is ring value kinds.Leads h = absurd h
kind_is ring value kinds.Large h = absurd h
kind_is ring value kinds.Infinite h = absurd h
kind_is ring value kinds.Many h = absurd h

pub minimal_refused_once :
    (ring other : Ring) (value another : Value) (j k : Kind) → RefusesMinimal ring value j → RefusesMinimal other another k → j ≡ k
minimal_refused_once ring other value another j k g h = kind_is ring value j g ∙ sym (kind_is other another k h)

module _ (ring : Ring) (value : Value) where
  not_refused :
      (G : List Terms) → IsReducedBasisOf ring value.rank value.list G → (IsInhomogeneous G → ⊥) → (kind : Kind) → RefusesMinimal ring value kind → ⊥
  not_refused G reduced homogeneous kind h =
      let r : RefusesMinimal ring value kinds.Homogeneous = subst (RefusesMinimal ring value) (kind_is ring value kind h) h in
      homogeneous (subst (λ B. IsInhomogeneous B) (one_reduced ring value.rank value.list r.0 G r.1 reduced) r.2)

  pub minimal_or_refused : (text : List ℕ) (kind : Kind) → IsMinimalText ring value text → RefusesMinimal ring value kind → ⊥
  minimal_or_refused text kind g h = not_refused g.basis g.reduced g.cancelled.homogeneous kind h

  pub betti_or_refused : (text : List ℕ) (kind : Kind) → IsBettiText ring value text → RefusesMinimal ring value kind → ⊥
  betti_or_refused text kind g h = not_refused g.basis g.reduced g.resolved.homogeneous kind h

  pub regularity_or_refused : (text : List ℕ) (kind : Kind) → IsRegularityText ring value text → RefusesMinimal ring value kind → ⊥
  regularity_or_refused text kind g h = not_refused g.basis g.reduced g.resolved.homogeneous kind h

-- ---- minimal resolutions
columns_once :
    (ring : Ring) (F H : List Terms) → AreVectorsOver ring (ring_comparison ring) F → AreVectorsOver ring (ring_comparison ring) H
    → AreSameColumns ring.modulus.value (sums_of (variables ring) F) (sums_of (variables ring) H) → F ≡ H
columns_once ring [] [] g h e = refl
columns_once ring [] (w ∷ H) g h e = absurd (omega (arith, e.count))
columns_once ring (v ∷ F) [] g h e = absurd (omega (arith, e.count))
columns_once ring (v ∷ F) (w ∷ H) g h e =
    ap₂ (λ x l. x ∷ l) (vector_unique ring (ring_comparison ring) 0 v w (lawful ring 0) g.0 h.0 (e.each 0))
    (columns_once ring F H g.1 h.1 (record { count = omega (arith, e.count); each = λ i. e.each (suc i) }))

maps_once :
    (ring : Ring) (rows others : List ℕ) (F H : Columns) → Each (λ M. AreVectorsOver ring (ring_comparison ring) M) F
    → Each (λ M. AreVectorsOver ring (ring_comparison ring) M) H
    → AreSameMaps ring.modulus.value (graded_by_leads ring.weights rows (maps_of (variables ring) F)) (graded_by_leads ring.weights others (maps_of (variables ring) H))
    → F ≡ H
maps_once ring rows others [] [] g h e = refl
maps_once ring rows others [] (N ∷ H) g h e = absurd e
maps_once ring rows others (M ∷ F) [] g h e = absurd e
maps_once ring rows others (M ∷ F) (N ∷ H) g h e = ap₂ (λ x l. x ∷ l) (columns_once ring M N g.0 h.0 e.1)
    (maps_once ring (lead_degrees ring.weights rows (sums_of (variables ring) M)) (lead_degrees ring.weights others (sums_of (variables ring) N)) F H g.1 h.1 e.2)

same_maps_refl : {n : ℕ} (p : ℕ) (maps : List (GradedMap n)) → AreSameMaps p maps maps
same_maps_refl p [] = tt
same_maps_refl p (M ∷ maps) = (refl, record { count = refl; each = λ i. IsSame_refl p _ }, same_maps_refl p maps)

positive : (ring : Ring) → 0 < ring.modulus.value
positive ring = let above : 1 < ring.modulus.value = (lawful ring 0).domain.above_one in omega (arith, above)

module _ (ring : Ring) (value : Value) where
  ranks :
      (G : List Terms) → IsReducedBasisOf ring value.rank value.list G → (i : ℕ) → i < length (sums_of (variables ring) G)
      → IsOfRank ring.modulus.value value.rank (get_or (sums_of (variables ring) G) i [])
  ranks G reduced i lt =
      IsOfRank_of ring.modulus.value value.rank (get_or (sums_of (variables ring) G) i [])
      (Each_at (HasRank value.rank) [] (sums_of (variables ring) G) (ranks_of_positions (variables ring) value.rank G reduced.positions) i lt)

  pub minimal_once : (x y : List ℕ) → IsMinimalText ring value x → IsMinimalText ring value y → x ≡ y
  minimal_once x y g h =
      let n = variables ring in
      let p = ring.modulus.value in
      let places = replicate value.rank 0 in
      let other : IsCancelledBasis ring value.rank g.basis h.left =
      subst (λ B. IsCancelledBasis ring value.rank B h.left) (sym (one_reduced ring value.rank value.list g.basis h.basis g.reduced h.reduced)) h.cancelled in
      let canonical =
      canonical_unique (setting ring n (ring_comparison ring n) value.rank) (lawful ring value.rank) (sums_of n g.basis) (ranks g.basis g.reduced)
      (maps_of n g.cancelled.maps) (maps_of n other.maps) g.cancelled.canonical other.canonical in
      let start : GradedMaps n = record { positions = places; maps = graded_by_leads ring.weights places (maps_of n g.cancelled.maps) } in
      let cancelled : IsCancelled p start h.left =
      subst (λ M. IsCancelled p (record { positions = places; maps = graded_by_leads ring.weights places M }) h.left) (sym canonical) other.cancelled in
      let one =
      one_cancellation p (positive ring) start start g.left h.left g.cancelled.cancelled
      (refl, same_maps_refl p start.maps) cancelled in
      let both =
      same_maps_trans p _ _ _ (same_maps_sym p _ _ g.same) (same_maps_trans p _ _ _ one.1 h.same) in
      let maps = maps_once ring g.left.positions h.left.positions g.maps h.maps g.vectors h.vectors both in
      g.text_is ∙ ap₂ (λ M r. heading (codes "minres") value.name (length M) ++ maps_text ring 1 (length r) M) maps one.0 ∙ sym h.text_is

-- ---- tables
contains_later : (e x : BettiEntry) (es : List BettiEntry) → Contains (e ∷ es) x → (e ≡ x) ⊎ Contains es x
contains_later e x es (zero, lt, is) = inl is
contains_later e x es (suc k, lt, is) = inr (k, omega (arith, lt), is)

contains_more : (e x : BettiEntry) (es : List BettiEntry) → Contains es x → Contains (e ∷ es) x
contains_more e x es h = (suc h.0, let lt = h.1 in omega (arith, lt), h.2)

first_in : (e : BettiEntry) (es : List BettiEntry) → Contains (e ∷ es) e
first_in e es = (0, omega arith, refl)

none_in : (x : BettiEntry) → Contains [] x → ⊥
none_in x h = let lt = h.1 in omega (arith, lt)

not_before : (e : BettiEntry) → ComesBefore e e → ⊥
not_before e (inl lt) = omega (arith, lt)
not_before e (inr h) = let lt = h.1 in omega (arith, lt)

one_before : (e f : BettiEntry) → ComesBefore e f → ComesBefore f e → ⊥
one_before e f (inl lt) (inl gt) = omega (arith, lt, gt)
one_before e f (inl lt) (inr h) = let s = h.0 in omega (arith, lt, s)
one_before e f (inr h) (inl gt) = let s = h.0 in omega (arith, gt, s)
one_before e f (inr h) (inr k) = let lt = h.1 in let gt = k.1 in omega (arith, lt, gt)

-- ascending lists with the same entries are one
ascending_once :
    (es fs : List BettiEntry) → Ascends es → Ascends fs → ((x : BettiEntry) → Contains es x → Contains fs x) → ((x : BettiEntry) → Contains fs x → Contains es x) → es ≡ fs
ascending_once [] [] a b to from = refl
ascending_once [] (f ∷ fs) a b to from = absurd (none_in f (from f (first_in f fs)))
ascending_once (e ∷ es) [] a b to from = absurd (none_in e (to e (first_in e es)))
ascending_once (e ∷ es) (f ∷ fs) a b to from =
    let first : e ≡ f = firsts (contains_later f e fs (to e (first_in e es))) (contains_later e f es (from f (first_in f fs))) in
    ap₂ (λ x l. x ∷ l) first
    (ascending_once es fs a.1 b.1
    (λ x h. later x f fs (subst (λ z. ComesBefore z x) first (each_in (λ x. ComesBefore e x) es x a.0 h)) (contains_later f x fs (to x (contains_more e x es h))))
    (λ x h. later x e es (subst (λ z. ComesBefore z x) (sym first) (each_in (λ x. ComesBefore f x) fs x b.0 h)) (contains_later e x es (from x (contains_more f x fs h)))))
  where
    firsts : (f ≡ e) ⊎ Contains fs e → (e ≡ f) ⊎ Contains es f → e ≡ f
    firsts (inl i) h = sym i
    firsts (inr i) (inl j) = j
    firsts (inr i) (inr j) = absurd (one_before e f (each_in (λ x. ComesBefore e x) es f a.0 j) (each_in (λ x. ComesBefore f x) fs e b.0 i))

    later : (x z : BettiEntry) (zs : List BettiEntry) → ComesBefore z x → (z ≡ x) ⊎ Contains zs x → Contains zs x
    later x z zs before (inl is) = absurd (not_before x (subst (λ y. ComesBefore y x) is before))
    later x z zs before (inr h) = h

-- counts have one table
one_table : (counts : ℕ → ℕ → ℕ) (es fs : List BettiEntry) → IsBettiTable counts es → IsBettiTable counts fs → es ≡ fs
one_table counts es fs g h = ascending_once es fs g.ascends h.ascends (moved es fs g h) (moved fs es h g)
  where
    moved : (es fs : List BettiEntry) → IsBettiTable counts es → IsBettiTable counts fs → (x : BettiEntry) → Contains es x → Contains fs x
    moved es fs g h x c =
        let count = each_in (IsCountedEntry counts) es x g.counted c in
        subst (λ z. Contains fs (record { step = x.step; degree = x.degree; count = z })) (sym count.1)
        (h.complete x.step x.degree (subst (λ z. 0 < z) count.1 count.0))

module _ (ring : Ring) (value : Value) where
  -- resolutions of one basis have the same counts
  counts_alike :
      (G H : List Terms) (C D : GradedMaps (variables ring)) → IsReducedBasisOf ring value.rank value.list G → IsReducedBasisOf ring value.rank value.list H
      → IsResolvedBasis ring value.rank G C → IsResolvedBasis ring value.rank H D
      → (k d : ℕ) → step_count D.positions D.maps k d ≡ step_count C.positions C.maps k d
  counts_alike G H C D reduced reduced' c d =
      let d' = subst (λ B. IsResolvedBasis ring value.rank B D) (sym (one_reduced ring value.rank value.list G H reduced reduced')) d in
      betti ring.modulus.value (lawful ring value.rank).domain (replicate value.rank 0) (sums_of (variables ring) G) D C d'.minimal c.minimal d'.presents c.presents

  pub betti_once : (x y : List ℕ) → IsBettiText ring value x → IsBettiText ring value y → x ≡ y
  betti_once x y g h =
      let counts = step_count g.resolution.positions g.resolution.maps in
      let alike = counts_alike g.basis h.basis g.resolution h.resolution g.reduced h.reduced g.resolved h.resolved in
      g.text_is ∙ ap table_text (one_table counts g.entries h.entries g.table (table_same _ counts h.entries alike h.table)) ∙ sym h.text_is

-- ---- invariants
≤ℤ_antisym : (a b : ℤ) → a ≤ℤ b → b ≤ℤ a → a ≡ b
≤ℤ_antisym a b h k = omega (arith, ints, h, k)

pos_same : {m n : ℕ} → m ≡ n → pos m ≡ pos n
pos_same e = ap pos e

module _ (counts others : ℕ → ℕ → ℕ) (same : (k d : ℕ) → others k d ≡ counts k d) where
  some_there : (k d : ℕ) → 0 < others k d → 0 < counts k d
  some_there k d lt = subst (λ z. 0 < z) (same k d) lt

  some_back : (k d : ℕ) → 0 < counts k d → 0 < others k d
  some_back k d lt = subst (λ z. 0 < z) (sym (same k d)) lt

  last_once : (s t : ℕ) → IsLastStep counts s → IsLastStep others t → s ≡ t
  last_once s t g h =
      let a = h.greatest s g.degree (some_back s g.degree g.some) in
      let b = g.greatest t h.degree (some_there t h.degree h.some) in
      omega (arith, a, b)

  regularity_once_of : (r q : ℤ) → IsRegularity counts r → IsRegularity others q → r ≡ q
  regularity_once_of r q g h =
      ≤ℤ_antisym r q (subst (λ z. z ≤ℤ q) (sym g.is) (h.greatest g.step g.degree (some_back g.step g.degree g.some)))
      (subst (λ z. z ≤ℤ r) (sym h.is) (g.greatest h.step h.degree (some_there h.step h.degree h.some)))

  some_or_none : (n : ℕ) → n ≡ 0 → 0 < n → ⊥
  some_or_none n e lt = omega (arith, e, lt)

  invariants_once : (d e r q : ℤ) → AreInvariants counts d r → AreInvariants others e q → (d ≡ e) × (r ≡ q)
  invariants_once d e r q (inl g) (inl h) = (g.1 ∙ sym h.1, g.2 ∙ sym h.2)
  invariants_once d e r q (inl g) (inr h) = absurd (some_or_none _ (g.0 h.0 h.2.degree) (some_there h.0 h.2.degree h.2.some))
  invariants_once d e r q (inr g) (inl h) = absurd (some_or_none _ (h.0 g.0 g.2.degree) (some_back g.0 g.2.degree g.2.some))
  invariants_once d e r q (inr g) (inr h) =
      (g.1 ∙ pos_same (last_once g.0 h.0 g.2 h.2) ∙ sym h.1, regularity_once_of r q g.3 h.3)

module _ (ring : Ring) (value : Value) where
  pub regularity_once : (x y : List ℕ) → IsRegularityText ring value x → IsRegularityText ring value y → x ≡ y
  regularity_once x y g h =
      let alike = counts_alike ring value g.basis h.basis g.resolution h.resolution g.reduced h.reduced g.resolved h.resolved in
      let one = invariants_once _ _ alike g.dimension h.dimension g.regularity h.regularity g.invariants h.invariants in
      g.text_is ∙ ap₂ (regularity_text value.name) one.0 one.1 ∙ sym h.text_is

-- ---- by names
module _ (Is : Ring → Value → List ℕ → Type 0) where
  pub tells_once :
      ((ring : Ring) (value : Value) (x y : List ℕ) → Is ring value x → Is ring value y → x ≡ y) → (before : ScriptState) (m n x y : List ℕ) → m ≡ n
      → TellsOfValue before m Is x → TellsOfValue before n Is y → x ≡ y
  tells_once once before m n x y e g h = once g.0 g.1 x y g.3 (there before m n e g.0 h.0 g.1 h.1 (λ r v. Is r v y) g.2 h.2 h.3)

  pub tells_or_refuses :
      ((ring : Ring) (value : Value) (text : List ℕ) (kind : Kind) → Is ring value text → RefusesMinimal ring value kind → ⊥) → (before : ScriptState) (m n : List ℕ)
      → m ≡ n → (text : List ℕ) (kind : Kind) → TellsOfValue before m Is text → RefusesAsMinimal before n kind → ⊥
  tells_or_refuses never before m n e text kind g h =
      never g.0 g.1 text kind g.3 (there before m n e g.0 h.0 g.1 h.1 (λ r v. RefusesMinimal r v kind) g.2 h.2 h.3)
