-- The first maps of a canonical resolution, and one more
use Rattle.std.specs.Prelude.{Err, Ok, OnOk, Result}
use Rattle.std.proofs.Common.{List, Ordering, [], ap, ap₂, arith, eqb-true, false, get_or, length, map, refl, subst, subst₂, suc, sym, true, true≢false, ℕ, ◌++◌, ◌+◌, ◌<◌, ◌==◌, ◌∙◌, ◌∷◌, ◌≡◌, ◌≤◌}
use Rattle.std.proofs.lemmas.List.{append-nil, append_assoc, get_or_default, length-map}
use Rattle.formal_sums.proofs.WeightedSums.{Each_append}
use Rattle.formal_sums.specs.FormalSums.{Each, FormalSum, Key}
use Rattle.orders.specs.KeyOrders.{induced}
use Rattle.bases.specs.Bases.{IsGroebnerBasis}
use Rattle.bases.specs.Leads.{IsMonicList, leads}
use Rattle.bases.specs.Settings.{IsLawful, Setting}
use Rattle.syzygy_laws.specs.Syzygies.{induced_setting}
use Rattle.resolution_laws.proofs.Starts.{start_whole}
use Rattle.resolution_laws.specs.Resolutions.{IsCanonical, IsCanonicalFrom, IsCanonicalMap, IsCanonicalStart, IsCanonicalStartFrom, IsExact}
use Rattle.term_lists.specs.Rings.{ring_comparison, setting, variables}
use Rattle.term_lists.specs.Vectors.{AreVectorsOver, HasPositions, IsVectorOver, key_of, sum_of, sums_of}
use Rattle.term_lists.specs.declared.key.Key.{Key as CodeKey}
use Rattle.term_lists.specs.declared.ring.Ring.{Ring}
use Rattle.module_vectors.specs.declared.trail.WorkStop.{WorkStop}
use Rattle.module_vectors.specs.declared.trail.WorkStop.TheVariants.{Degree, Memory}
use Rattle.vector_division.proofs.Members.{sums_at}
use Rattle.resolution_maps.specs.Inducing.{Columns, Tower, induced_through, maps_of, over, tower_comparison}
use Rattle.resolution_maps.specs.Resolved.{AreFirstMaps, AreVectorsThrough, HavePositions, ResolutionStops}
use Rattle.induced_leads.specs.PairLeads.{ArePairLeads, IsPairKey, key_at}
use Rattle.induced_leads.specs.Heads.{AreHeads}
use Rattle.induced_leads.specs.declared.head.Heads.{Heads}
use Rattle.induced_leads.proofs.Heading.{maps_of-more}
use Rattle.induced_leads.proofs.Pushing.{get_or-map, length-pushed, pushed_default}
use Rattle.schreyer_resolution.specs.Columns.{AreColumnsTo, ColumnStops, IsColumnOf}
use Rattle.schreyer_resolution.specs.Progress.{AreResolvedTo, IsNextMap, IsTopMap}
use Rattle.schreyer_resolution.specs.Steps.{IsColumn}
use Rattle.schreyer_resolution.proofs.Canonical.{columns_canonical, columns_exact, columns_monic, columns_reduced}

abbrev pub Terms : Type 0
Terms = List (CodeKey × ℕ)

-- ---- the order above one more map
through_more :
    {n : ℕ} (compare : Key n → Key n → Ordering) (maps : List (List (FormalSum n))) (F : List (FormalSum n))
    → induced_through compare (maps ++ F ∷ []) ≡ induced (induced_through compare maps) (leads F)
through_more compare [] F = refl
through_more compare (G ∷ maps) F = through_more (induced compare (leads G)) maps F

pub tower_more :
    (ring : Ring) (below : Columns) (F : List Terms) (n : ℕ)
    → tower_comparison (over ring (below ++ F ∷ [])) n ≡ induced (tower_comparison (over ring below) n) (leads (sums_of n F))
tower_more ring below F n = ap (induced_through (ring_comparison ring n)) (maps_of-more n below F) ∙ through_more (ring_comparison ring n) (maps_of n below) (sums_of n F)

-- ---- the last map and its setting
top_columns : {n : ℕ} → List (FormalSum n) → List (List (FormalSum n)) → List (FormalSum n)
top_columns F [] = F
top_columns F (G ∷ maps) = top_columns G maps

top_setting : {n : ℕ} → Setting n → List (FormalSum n) → List (List (FormalSum n)) → Setting n
top_setting S F [] = S
top_setting S F (G ∷ maps) = top_setting (induced_setting S F) G maps

top_modulus : {n : ℕ} (S : Setting n) (F : List (FormalSum n)) (maps : List (List (FormalSum n))) → (top_setting S F maps).modulus ≡ S.modulus
unfolding top_setting
top_modulus S F [] = refl
top_modulus S F (G ∷ maps) = top_modulus (induced_setting S F) G maps

top_weights : {n : ℕ} (S : Setting n) (F : List (FormalSum n)) (maps : List (List (FormalSum n))) → (top_setting S F maps).weights ≡ S.weights
unfolding top_setting
top_weights S F [] = refl
top_weights S F (G ∷ maps) = top_weights (induced_setting S F) G maps

to_more :
    {n : ℕ} (maps : List (List (FormalSum n))) (S : Setting n) (F H : List (FormalSum n))
    → IsCanonicalStartFrom S F (length maps) maps → IsExact S.modulus (top_columns F maps) H
    → IsCanonicalMap (induced_setting (top_setting S F maps) (top_columns F maps)) H H
    → IsCanonicalStartFrom S F (length (maps ++ H ∷ [])) (maps ++ H ∷ [])
unfolding top_columns top_setting
to_more [] S F H h e c = (e, c, refl)
to_more (G ∷ maps) S F H h e c = (h.0, h.1, to_more maps (induced_setting S F) G H h.2 e c)

to_done :
    {n : ℕ} (maps : List (List (FormalSum n))) (S : Setting n) (F : List (FormalSum n))
    → IsCanonicalStartFrom S F (length maps) maps → IsExact S.modulus (top_columns F maps) [] → IsCanonicalFrom S F maps
unfolding top_columns
to_done [] S F h e = e
to_done (G ∷ maps) S F h e = (h.0, h.1, to_done maps (induced_setting S F) G h.2 e)

head_of : {X : Type 0} {x y : X} {xs ys : List X} → x ∷ xs ≡ y ∷ ys → x ≡ y
head_of e = cc

tail_of : {X : Type 0} {x y : X} {xs ys : List X} → x ∷ xs ≡ y ∷ ys → xs ≡ ys
tail_of e = cc

none_more : {X : Type 0} (xs : List X) (x : X) → [] ≡ xs ++ x ∷ [] → ⊥
none_more [] x e = cc
none_more (y ∷ xs) x e = cc

top_split :
    {n : ℕ} (below : List (List (FormalSum n))) (L F : List (FormalSum n)) (maps : List (List (FormalSum n))) (S : Setting n)
    → F ∷ maps ≡ below ++ L ∷ [] → (top_columns F maps ≡ L) × ((top_setting S F maps).compare ≡ induced_through S.compare below)
unfolding top_columns top_setting
top_split [] L F [] S e = (head_of e, refl)
top_split [] L F (G ∷ maps) S e = absurd (let t : G ∷ maps ≡ [] = tail_of e in cc)
top_split (K ∷ below) L F [] S e = absurd (none_more below L (tail_of e))
top_split {n} (K ∷ below) L F (G ∷ maps) S e =
    let r = top_split below L G maps (induced_setting S F) (tail_of e) in
    (r.0, r.1 ∙ ap (λ (x : List (FormalSum n)). induced_through (induced S.compare (leads x)) below) (head_of e))

-- ---- one more map of the code
vectors_more :
    (ring : Ring) (below maps : Columns) (H : List Terms) → AreVectorsThrough ring below maps
    → AreVectorsOver ring (tower_comparison (over ring (below ++ maps))) H → AreVectorsThrough ring below (maps ++ H ∷ [])
vectors_more ring below [] H h v = (subst (λ z. AreVectorsOver ring (tower_comparison (over ring z)) H) (append-nil below) v, tt)
vectors_more ring below (F ∷ maps) H h v =
    (h.0, vectors_more ring (below ++ F ∷ []) maps H h.1 (subst (λ z. AreVectorsOver ring (tower_comparison (over ring z)) H) (sym (append_assoc below (F ∷ []) maps)) v))

positions_more :
    (rank : ℕ) (maps : Columns) (H : List Terms) → HavePositions rank maps → (below : Columns) (F : List Terms) → maps ≡ below ++ F ∷ []
    → Each (HasPositions (length F)) H → HavePositions rank (maps ++ H ∷ [])
positions_more rank [] H h below F e p = absurd (none_more below F e)
positions_more rank (G ∷ []) H h [] F e p = (h.0, (subst (λ (x : List Terms). Each (HasPositions (length x)) H) (sym (head_of e)) p, tt))
positions_more rank (G ∷ []) H h (K ∷ below) F e p = absurd (none_more below F (tail_of e))
positions_more rank (G ∷ (M ∷ maps)) H h [] F e p = absurd (let t : M ∷ maps ≡ [] = tail_of e in cc)
positions_more rank (G ∷ (M ∷ maps)) H h (K ∷ below) F e p = (h.0, positions_more (length G) (M ∷ maps) H h.1 below F (tail_of e) p)

pub split_unique : {X : Type 0} (xs ys : List X) (x y : X) → xs ++ x ∷ [] ≡ ys ++ y ∷ [] → (xs ≡ ys) × (x ≡ y)
split_unique [] [] x y e = (refl, head_of e)
split_unique [] (z ∷ ys) x y e = absurd (none_more ys y (tail_of e))
split_unique (z ∷ xs) [] x y e = absurd (none_more xs x (sym (tail_of e)))
split_unique (z ∷ xs) (w ∷ ys) x y e = let r = split_unique xs ys x y (tail_of e) in (ap₂ ◌∷◌ (head_of e) r.0, r.1)

length-end : {X : Type 0} (xs : List X) (x : X) → 0 < length (xs ++ x ∷ [])
length-end [] x = omega arith
length-end (y ∷ xs) x = omega arith

module _ (ring : Ring) (rank : ℕ) (reduced : List Terms) (maps : Columns) (r : AreResolvedTo ring rank reduced maps) where
  abbrev n : ℕ
  n = variables ring

  abbrev S : Setting (variables ring)
  S = setting ring (variables ring) (ring_comparison ring (variables ring)) rank

  pub some_map : 0 < length maps
  some_map = subst (λ z. 0 < length z) (sym r.split) (length-end r.below r.last)

  sums_split : maps_of (variables ring) maps ≡ maps_of (variables ring) r.below ++ sums_of (variables ring) r.last ∷ []
  sums_split = ap (maps_of (variables ring)) r.split ∙ maps_of-more (variables ring) r.below r.last

  -- the next map goes behind the others
  pub resolved_more : (H : List Terms) → IsNextMap ring r.below r.last H → 0 < length H → AreResolvedTo ring rank reduced (maps ++ H ∷ [])
  resolved_more H next some = record {
    below = maps;
    last = H;
    split = refl;
    top = subst (λ z. IsTopMap ring z H) (sym r.split) next.top;
    positions = positions_more rank maps H r.positions r.below r.last r.split next.positions;
    vectors = vectors_more ring [] maps H r.vectors (subst (λ z. AreVectorsOver ring (tower_comparison (over ring z)) H) (sym r.split) next.top.vectors);
    first = subst (AreFirstMaps S (sums_of (variables ring) reduced)) (sym (maps_of-more (variables ring) maps H)) (go (maps_of (variables ring) maps) r.first sums_split);
  }
    where
      go :
          (ms : List (List (FormalSum (variables ring)))) → AreFirstMaps S (sums_of (variables ring) reduced) ms
          → ms ≡ maps_of (variables ring) r.below ++ sums_of (variables ring) r.last ∷ []
          → AreFirstMaps S (sums_of (variables ring) reduced) (ms ++ sums_of (variables ring) H ∷ [])
      go [] h e = absurd (none_more (maps_of (variables ring) r.below) (sums_of (variables ring) r.last) e)
      go (G ∷ ms) h e =
          let t = top_split (maps_of (variables ring) r.below) (sums_of (variables ring) r.last) G ms S e in (
            h.0,
            to_more ms S G (sums_of (variables ring) H) h.1
                (subst (λ L. IsExact S.modulus L (sums_of (variables ring) H)) (sym t.0) next.exact)
                (subst₂ (λ (L : List (FormalSum (variables ring))) (o : Key (variables ring) → Key (variables ring) → Ordering). IsCanonicalMap (record { modulus = (top_setting S G ms).modulus; weights = (top_setting S G ms).weights; rank = length L; compare = induced o (leads L) }) (sums_of (variables ring) H) (sums_of (variables ring) H)) (sym t.0) (sym t.1)
                (subst₂ (λ p w. IsCanonicalMap (record { modulus = p; weights = w; rank = length (sums_of (variables ring) r.last); compare = induced (tower_comparison (over ring r.below) (variables ring)) (leads (sums_of (variables ring) r.last)) }) (sums_of (variables ring) H) (sums_of (variables ring) H)) (sym (top_modulus S G ms)) (sym (top_weights S G ms))
                (next.canonical some))),
          )

  -- and where the kernel is zero, they are all
  pub resolved_done : IsExact ring.modulus.value (sums_of (variables ring) r.last) [] → IsCanonical S (sums_of (variables ring) reduced) (maps_of (variables ring) maps)
  resolved_done exact = go (maps_of (variables ring) maps) r.first sums_split
    where
      go :
          (ms : List (List (FormalSum (variables ring)))) → AreFirstMaps S (sums_of (variables ring) reduced) ms
          → ms ≡ maps_of (variables ring) r.below ++ sums_of (variables ring) r.last ∷ []
          → IsCanonical S (sums_of (variables ring) reduced) ms
      go [] h e = absurd (none_more (maps_of (variables ring) r.below) (sums_of (variables ring) r.last) e)
      go (G ∷ ms) h e = (h.0, to_done ms S G h.1 (subst (λ L. IsExact S.modulus L []) (sym (top_split (maps_of (variables ring) r.below) (sums_of (variables ring) r.last) G ms S e).0) exact))

  abbrev IsStart : ℕ → Type 0
  IsStart count = IsCanonicalStart S (sums_of (variables ring) reduced) count (maps_of (variables ring) maps)

  -- a start of more maps where the kernel is zero
  pub start_ended : (count : ℕ) → IsExact ring.modulus.value (sums_of (variables ring) r.last) [] → length maps ≤ count → IsStart count
  start_ended count exact few =
      start_whole S (sums_of (variables ring) reduced) count (maps_of (variables ring) maps) (resolved_done exact)
      (omega (arith, few, length-map maps (sums_of (variables ring))))

  -- and one of so many anyhow
  pub start_full : (count : ℕ) → length maps ≡ count → IsStart count
  start_full count e = subst IsStart (length-map maps (sums_of (variables ring)) ∙ e) r.first

-- ---- a stop
pub resolution_stop :
    (ring : Ring) (rank : ℕ) (reduced : List Terms) (maps : Columns) (r : AreResolvedTo ring rank reduced maps) (stop : WorkStop)
    → ColumnStops ring r.below r.last stop → ResolutionStops ring rank reduced stop
resolution_stop ring rank reduced maps r Memory h = tt
resolution_stop ring rank reduced maps r (Degree t) h = record {
  trail = h.trail;
  over = h.over;
  rank_none = h.rank_none;
  generators = h.generators;
  start = h.start;
  first =
      let n = variables ring in
      subst (λ z. AreFirstMaps (setting ring n (ring_comparison ring n) rank) (sums_of n reduced) (maps_of n z))
      (r.split ∙ ap₂ (λ x y. x ++ y ∷ []) (sym h.below_is) (sym h.members)) r.first;
}

-- ---- the next map by its columns
-- the pair of a key of the code
pub pair_at :
    (n : ℕ) (F : List (FormalSum n)) (keys : List CodeKey) (c : ℕ) (key : CodeKey) → ArePairLeads F (map (key_of n) keys) → c < length keys → key ≡ get_or keys c key → IsPairKey F (key_of n key)
pair_at n F keys c key pairs lt is = subst (IsPairKey F) (get_or-map (key_of n) keys c key _ lt ∙ ap (key_of n) (sym is)) (pairs.each c (omega (arith, lt, length-map keys (key_of n))))

module _ (ring : Ring) (below : Columns) (cols next : List Terms) (t : Tower) (keys : List CodeKey) (top : IsTopMap ring below cols)
    (is : t ≡ over ring (below ++ cols ∷ [])) (lawful : (r : ℕ) → IsLawful (setting ring (variables ring) (tower_comparison (over ring below) (variables ring)) r))
    (pairs : ArePairLeads (sums_of (variables ring) cols) (map (key_of (variables ring)) keys))
    (done : AreColumnsTo ring (tower_comparison (over ring below)) cols t keys (length keys) next) where
  abbrev Base : Setting (variables ring)
  Base = setting ring (variables ring) (tower_comparison (over ring below) (variables ring)) top.base.rank

  abbrev Cols : List (FormalSum (variables ring))
  Cols = sums_of (variables ring) cols

  abbrev Next : List (FormalSum (variables ring))
  Next = sums_of (variables ring) next

  abbrev Keys : List (Key (variables ring))
  Keys = map (key_of (variables ring)) keys

  count : length Next ≡ length Keys
  count = length-map next (λ v. sum_of (variables ring) v) ∙ done.count ∙ sym (length-map keys (key_of (variables ring)))

  column_at : (c : ℕ) → c < length Next → IsColumn Base Cols (key_at Keys c) (get_or Next c [])
  column_at c lt =
      let l : c < length keys = omega (arith, lt, count, length-map keys (key_of (variables ring))) in
      let d : CodeKey = record { position = 0; monomial = record { exponents = []; degree = 0 } } in
      let x = done.each c (get_or keys c d) l (get_or_default keys c d (get_or keys c d) l) in
      let y : IsColumn Base Cols (key_of (variables ring) (get_or keys c d)) (sum_of (variables ring) (get_or next c [])) = record { lead = x.lead; one = x.one; normal = x.normal; syzygy = x.syzygy; last = x.last } in
      subst₂ (IsColumn Base Cols) (sym (get_or-map (key_of (variables ring)) keys c d _ l)) (sym (sums_at (variables ring) next c)) y

  order : tower_comparison (over ring (below ++ cols ∷ [])) (variables ring) ≡ induced (tower_comparison (over ring below) (variables ring)) (leads Cols)
  order = tower_more ring below cols (variables ring)

  pub next_of_columns : IsNextMap ring below cols next
  next_of_columns = record {
    top = record {
      vectors = subst (λ (x : Tower). AreVectorsOver ring (tower_comparison x) next) is done.vectors;
      base = record {
        rank = length Cols;
        monic = subst (λ (o : Key (variables ring) → Key (variables ring) → Ordering). IsMonicList (setting ring (variables ring) o (length Cols)) Next) (sym order) (columns_monic Base (lawful top.base.rank) Cols top.base.monic Keys pairs Next count column_at);
        basis = subst (λ (o : Key (variables ring) → Key (variables ring) → Ordering). IsGroebnerBasis (setting ring (variables ring) o (length Cols)) Next Next) (sym order) (columns_reduced Base (lawful top.base.rank) Cols top.base.monic Keys pairs Next count column_at).basis;
      };
    };
    positions = done.ranked;
    exact = columns_exact Base (lawful top.base.rank) Cols top.base.monic Keys pairs Next count column_at;
    canonical = λ some. columns_canonical Base (lawful top.base.rank) Cols top.base.monic Keys pairs Next count column_at (omega (arith, some, length-map next (λ v. sum_of (variables ring) v)));
  }

-- ---- one more column
pub columns_next :
    (ring : Ring) (compare : (n : ℕ) → Key n → Key n → Ordering) (cols : List Terms) (t : Tower) (keys : List CodeKey) (k : ℕ) (next : List Terms) (u : Terms) (key : CodeKey)
    → AreColumnsTo ring compare cols t keys k next → k < length keys → key ≡ get_or keys k key
    → IsVectorOver ring (tower_comparison t) u → HasPositions (length cols) u → IsColumnOf ring compare cols key u
    → AreColumnsTo ring compare cols t keys (k + 1) (next ++ u ∷ [])
columns_next ring compare cols t keys k next u key h lt is hu hp hc = record {
  count = length-pushed next u ∙ ap (λ z. z + 1) h.count;
  vectors = Each_append _ next (u ∷ []) h.vectors (hu, tt);
  ranked = Each_append _ next (u ∷ []) h.ranked (hp, tt);
  each = λ c x l e. pushed_default (λ i w. (y : CodeKey) → y ≡ get_or keys i y → IsColumnOf ring compare cols y w) [] next u k h.count (λ i l' y e'. h.each i y l' e')
      (λ y e'. subst (λ z. IsColumnOf ring compare cols z u) (is ∙ get_or_default keys k key y lt ∙ sym e') hc) c l x e;
}

-- a tower by its parts
pub tower_is : (t : Tower) (ring : Ring) (maps : Columns) → t.ring ≡ ring → t.maps ≡ maps → t ≡ over ring maps
tower_is t ring maps r m = ap₂ over r m

-- the heads of a tower are those of its maps
pub kept_heads :
    {X E : Type 0} (r : Result X E) (t : Tower) (ring : Ring) (maps : Columns) (hs : Heads)
    → t.ring ≡ ring → t.maps ≡ maps → AreHeads (variables t.ring) t.ring.weights t.maps hs → OnOk r (AreHeads (variables ring) ring.weights maps hs)
kept_heads (Ok x) t ring maps hs r m h = subst₂ (λ z ms. AreHeads (variables z) z.weights ms hs) r m h
kept_heads (Err e) t ring maps hs r m h = tt

-- the next map by what the calls answer
pub next_by :
    (ring : Ring) (below : Columns) (cols : List Terms) (f t : Tower) (keys items : List CodeKey)
    → f ≡ over ring below → t ≡ over ring (below ++ cols ∷ []) → items ≡ keys → IsTopMap ring below cols
    → ((r : ℕ) → IsLawful (setting f.ring (variables f.ring) (tower_comparison f (variables f.ring)) r))
    → ArePairLeads (sums_of (variables f.ring) cols) (map (key_of (variables f.ring)) keys)
    → (next : List Terms) → AreColumnsTo f.ring (tower_comparison f) cols t items (length items) next
    → IsNextMap ring below cols next
next_by ring below cols f t keys items ef et ei top lawful pairs next done =
    next_of_columns ring below cols next t keys top et
    (subst (λ (x : Tower). (r : ℕ) → IsLawful (setting x.ring (variables x.ring) (tower_comparison x (variables x.ring)) r)) ef lawful)
    (subst (λ (x : Tower). ArePairLeads (sums_of (variables x.ring) cols) (map (key_of (variables x.ring)) keys)) ef pairs)
    (subst (λ z. AreColumnsTo ring (tower_comparison (over ring below)) cols t z (length z) next) ei (subst (λ (x : Tower). AreColumnsTo x.ring (tower_comparison x) cols t items (length items) next) ef done))

pub above_by :
    (ring : Ring) (below : Columns) (cols : List Terms) (f t : Tower) → f ≡ over ring below → t ≡ over ring (below ++ cols ∷ [])
    → (n : ℕ) → tower_comparison t n ≡ induced (tower_comparison f n) (leads (sums_of n cols))
above_by ring below cols f t ef et n =
    ap (λ (x : Tower). tower_comparison x n) et ∙ tower_more ring below cols n ∙ sym (ap (λ (x : Tower). induced (tower_comparison x n) (leads (sums_of n cols))) ef)

-- ---- whether the next map has a column
pub none_at_all : {X : Type 0} (xs : List X) → true ≡ (length xs == 0) → xs ≡ []
none_at_all [] e = refl
none_at_all (x ∷ xs) e = absurd (let q : suc (length xs) ≡ 0 = eqb-true (suc (length xs)) 0 (sym e) in omega (arith, q))

pub some_at_all : {X : Type 0} (xs : List X) → false ≡ (length xs == 0) → 0 < length xs
some_at_all [] e = absurd (true≢false (sym e))
some_at_all (x ∷ xs) e = omega arith
