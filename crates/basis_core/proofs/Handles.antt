-- Lists of handles, by what these share
use Rattle.std.proofs.Common.{Global, List, [], ap, arith, get_or, length, map, suc, sym, take, zero, ℕ, ◌++◌, ◌+◌, ◌<◌, ◌∙◌, ◌∷◌, ◌≡◌}
use Rattle.std.proofs.lemmas.List.{map-append, take_more}
use Rattle.std.specs.Arc.{arc_value}
use Rattle.std.specs.declared.sync.Arc.{Arc}
use Rattle.member_products.specs.declared.member.RunMember.{RunMember}

-- a handle of a member
abbrev pub Handle : Type 0
Handle = Arc RunMember Global

-- the members that they share
abbrev pub shared_by : List Handle → List RunMember
shared_by hs = map (λ h. arc_value h) hs

-- so many handles are copied
pub record AreCopied (old : List Handle) (count : ℕ) (new : List Handle) : Type 0 where
  pub members : shared_by new ≡ shared_by (take count old)

pub none_copied : (old new : List Handle) → new ≡ [] → AreCopied old 0 new
none_copied old new e = record { members = ap shared_by e }

pub one_copied :
    (old new more : List Handle) (i : ℕ) (item copy : Handle)
    → i < length old → item ≡ get_or old i item → arc_value copy ≡ arc_value item → more ≡ new ++ (copy ∷ [])
    → AreCopied old i new → AreCopied old (i + 1) more
one_copied old new more i item copy l read same e h = record {
  members =
      ap shared_by e
      ∙ map-append (λ (h : Handle). arc_value h) new (copy ∷ [])
      ∙ ap (λ ms. ms ++ (arc_value copy ∷ [])) h.members
      ∙ ap (λ m. shared_by (take i old) ++ (m ∷ [])) (same ∙ ap (λ (h : Handle). arc_value h) read)
      ∙ sym (map-append (λ (h : Handle). arc_value h) (take i old) (get_or old i item ∷ []))
      ∙ sym (ap shared_by (take_more old i item l));
}

-- the vector of the member at that index
pub vector_at :
    (hs : List Handle) (i : ℕ) (item : Handle)
    → i < length (map (λ m. m.vector) (shared_by hs)) → item ≡ get_or hs i item
    → (arc_value item).vector ≡ get_or (map (λ m. m.vector) (shared_by hs)) i []
vector_at [] i item l e = absurd (omega arith)
vector_at (h ∷ hs) zero item l e = ap (λ (h : Handle). (arc_value h).vector) e
vector_at (h ∷ hs) (suc i) item l e = vector_at hs i item (omega arith) e

-- the member at that index
pub shared_at : (hs : List Handle) (i : ℕ) (item : Handle) → i < length hs → item ≡ get_or hs i item → arc_value item ≡ get_or (shared_by hs) i (arc_value item)
shared_at [] i item l e = absurd (omega arith)
shared_at (h ∷ hs) zero item l e = ap (λ (h : Handle). arc_value h) e
shared_at (h ∷ hs) (suc i) item l e = shared_at hs i item (omega arith) e
