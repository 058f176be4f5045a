-- Heads: where the leads of maps take the positions
use Rattle.std.proofs.Common.{List, [], ap, ap₂, arith, get_or, length, refl, suc, sym, zero, ℕ, ◌++◌, ◌<◌, ◌∙◌, ◌∷◌, ◌≡◌, ◌≤◌}
use Rattle.std.proofs.lemmas.List.{get_or_default}
use Rattle.monomials.proofs.Monomials.{times-unit, times_assoc, times_comm}
use Rattle.monomials.specs.Exponents.{Exponents, exponents_of, times, unit}
use Rattle.monomials.specs.Weights.{weighted_degree}
use Rattle.formal_sums.proofs.Sameness.{shift-unit}
use Rattle.formal_sums.specs.FormalSums.{FormalSum, Key, shift}
use Rattle.bases.specs.Leads.{head_key, leads}
use Rattle.term_lists.specs.Vectors.{sum_of, sums_of}
use Rattle.term_lists.specs.declared.key.Key.{Key as CodeKey}
use Rattle.vector_division.proofs.Members.{sums_at}
use Rattle.resolution_maps.specs.Inducing.{Columns, maps_of}
use Rattle.induced_leads.specs.Heads.{AreExponentSums, IsHead, IsLeadOf, IsLow}
use Rattle.induced_leads.specs.Ways.{bottom, way}
use Rattle.induced_leads.specs.declared.head.Head.{Head}
use Rattle.induced_leads.proofs.Summing.{exponents-none, places_times}

-- a multiple is taken to the multiple
pub bottom_shift : {n : ℕ} (maps : List (List (FormalSum n))) (m : Exponents n) (k : Key n) → bottom maps (shift m k) ≡ shift m (bottom maps k)
bottom_shift [] m k = refl
bottom_shift (F ∷ maps) m k =
    ap (λ l. shift l.1 (leads F l.0)) (bottom_shift maps m k)
    ∙ ap (λ x. ((leads F (bottom maps k).0).0, x)) (times_assoc m (bottom maps k).1 (leads F (bottom maps k).0).1)

-- one more map
pub bottom_more : {n : ℕ} (maps : List (List (FormalSum n))) (F : List (FormalSum n)) (k : Key n) → bottom (maps ++ F ∷ []) k ≡ bottom maps (shift k.1 (leads F k.0))
bottom_more [] F k = refl
bottom_more (G ∷ maps) F k = ap (λ l. shift l.1 (leads G l.0)) (bottom_more maps F k)

-- a key is a multiple of 1 at its position
pub key_multiple : {n : ℕ} (k : Key n) → shift k.1 (k.0, unit n) ≡ k
key_multiple {n} k = ap (λ x. (k.0, x)) (times_comm k.1 (unit n) ∙ times-unit k.1)

pub bottom_key : {n : ℕ} (maps : List (List (FormalSum n))) (k : Key n) → bottom maps k ≡ shift k.1 (bottom maps (k.0, unit n))
bottom_key {n} maps k = ap (bottom maps) (sym (key_multiple k)) ∙ bottom_shift maps k.1 (k.0, unit n)

pub way_more :
    {n : ℕ} (maps : List (List (FormalSum n))) (F : List (FormalSum n)) (i : ℕ)
    → way (maps ++ F ∷ []) i ≡ way maps (leads F i).0 ++ i ∷ []
way_more [] F i = refl
way_more {n} (G ∷ maps) F i =
    ap₂ ◌∷◌ (ap (λ k. k.0) (bottom_more maps F (i, unit n) ∙ ap (bottom maps) (shift-unit (leads F i)) ∙ bottom_key maps (leads F i))) (way_more maps F i)

pub maps_of-more : (n : ℕ) (maps : Columns) (F : List (List (CodeKey × ℕ))) → maps_of n (maps ++ F ∷ []) ≡ maps_of n maps ++ sums_of n F ∷ []
maps_of-more n [] F = refl
maps_of-more n (G ∷ maps) F = ap (λ z. sums_of n G ∷ z) (maps_of-more n maps F)

-- the head of a position above, by its lead and the head of the lead's position
pub head_more :
    (maps : Columns) (F : List (List (CodeKey × ℕ))) (i p : ℕ) (m : List ℕ) (h : Head) (gs : List ℕ) (n : ℕ)
    → (ws : List ℕ) → IsHead n ws maps p h → IsLeadOf n F i p m → AreExponentSums n m h.exponents.items gs
    → (bottom (maps_of n (maps ++ F ∷ [])) (i, unit n) ≡ (h.position, exponents_of n gs))
    × (way (maps_of n (maps ++ F ∷ [])) i ≡ (h.way.items ++ p ∷ []) ++ i ∷ [])
head_more maps F i p m h gs n ws head lead sums = (
  ap (λ ms. bottom ms (i, unit n)) (maps_of-more n maps F)
      ∙ bottom_more (maps_of n maps) (sums_of n F) (i, unit n)
      ∙ ap (bottom (maps_of n maps)) (shift-unit (leads (sums_of n F) i) ∙ lead)
      ∙ bottom_key (maps_of n maps) (p, exponents_of n m)
      ∙ ap (shift (exponents_of n m)) head.at
      ∙ ap (λ x. (h.position, x)) (sym (places_times n m h.exponents.items gs sums.each)),
  ap (λ ms. way ms i) (maps_of-more n maps F)
      ∙ way_more (maps_of n maps) (sums_of n F) i
      ∙ ap (λ q. way (maps_of n maps) q ++ i ∷ []) (ap (λ k. k.0) lead)
      ∙ ap (λ w. w ++ i ∷ []) head.way_is,
)

-- the head of a position above one map
pub head_first :
    (F : List (List (CodeKey × ℕ))) (i p : ℕ) (m gs : List ℕ) (n : ℕ)
    → IsLeadOf n F i p m → AreExponentSums n m [] gs → bottom (maps_of n (F ∷ [])) (i, unit n) ≡ (p, exponents_of n gs)
head_first F i p m gs n lead sums =
    shift-unit (leads (sums_of n F) i) ∙ lead
    ∙ ap (λ x. (p, x)) (sym (unit_right (exponents_of n m)) ∙ ap (times (exponents_of n m)) (sym (none n)) ∙ sym (places_times n m [] gs sums.each))
  where
    unit_right : {n : ℕ} (a : Exponents n) → times a (unit n) ≡ a
    unit_right {n} a = times_comm a (unit n) ∙ times-unit a

    none : (n : ℕ) → exponents_of n [] ≡ unit n
    none n = exponents-none n

-- the lead of a column by its parts
pub lead_of_column :
    (n : ℕ) (F : List (List (CodeKey × ℕ))) (i p : ℕ) (m : List ℕ) (v : List (CodeKey × ℕ))
    → i < length F → v ≡ get_or F i v → head_key (sum_of n v) ≡ (p, exponents_of n m) → IsLeadOf n F i p m
lead_of_column n F i p m v lt is h =
    ap head_key (sums_at n F i) ∙ ap (λ w. head_key (sum_of n w)) (sym (is ∙ get_or_default F i v [] lt)) ∙ h

-- past the columns
pub lead_past : (n : ℕ) (F : List (List (CodeKey × ℕ))) (i : ℕ) → length F ≤ i → IsLeadOf n F i 0 []
lead_past n F i le = ap head_key (sums_at n F i) ∙ ap (λ v. head_key (sum_of n v)) (none F i le) ∙ ap (λ x. (0, x)) (sym (exponents-none n))
  where
    none : (F : List (List (CodeKey × ℕ))) (i : ℕ) → length F ≤ i → get_or F i [] ≡ []
    none [] i le = refl
    none (v ∷ F) zero le = absurd (omega arith)
    none (v ∷ F) (suc i) le = none F i (omega arith)

-- the head above one map, and that above one more
pub first_is :
    (n : ℕ) (ws : List ℕ) (F : List (List (CodeKey × ℕ))) (i p : ℕ) (m : List ℕ) (h : Head)
    → IsLeadOf n F i p m → AreExponentSums n m [] h.exponents.items → h.position ≡ p → h.way.items ≡ []
    → h.degree ≡ weighted_degree ws (exponents_of n h.exponents.items) → IsLow h.exponents.items h.degree
    → IsHead n ws (F ∷ []) i h
first_is n ws F i p m h lead sums position way degree low = record {
  at = head_first F i p m h.exponents.items n lead sums ∙ ap (λ x. (x, exponents_of n h.exponents.items)) (sym position);
  way_is = ap (λ z. z ++ i ∷ []) (sym way);
  over = record { count = sums.count; degree = degree; low = low };
}

pub next_is :
    (n : ℕ) (ws : List ℕ) (maps : Columns) (F : List (List (CodeKey × ℕ))) (i p : ℕ) (m : List ℕ) (below h : Head)
    → IsHead n ws maps p below → IsLeadOf n F i p m → AreExponentSums n m below.exponents.items h.exponents.items → h.position ≡ below.position
    → h.way.items ≡ below.way.items ++ p ∷ [] → h.degree ≡ weighted_degree ws (exponents_of n h.exponents.items) → IsLow h.exponents.items h.degree
    → IsHead n ws (maps ++ F ∷ []) i h
next_is n ws maps F i p m below h head lead sums position way degree low =
    let r = head_more maps F i p m below h.exponents.items n ws head lead sums in
    record {
      at = r.0 ∙ ap (λ x. (x, exponents_of n h.exponents.items)) (sym position);
      way_is = r.1 ∙ ap (λ z. z ++ i ∷ []) (sym way);
      over = record { count = sums.count; degree = degree; low = low };
    }
