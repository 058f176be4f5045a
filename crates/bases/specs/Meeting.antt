-- Products one after another: each begins with a monomial of what is there at first or of an earlier product, as those that a division takes away do (IVA chapter 2, section 3)
use Rattle.std.specs.Prelude.{Contains, List, [], ⊤, ◌++◌, ◌∷◌, ◌⊎◌}

-- k may be the lead of a first product, or is a monomial of one of the earlier products
abbrev pub IsMetBy : {K X : Type 0} → (K → Type 0) → (K → X → Type 0) → List X → K → Type 0
IsMetBy {K} {X} first occurs earlier k = first k ⊎ ((x : X) × Contains earlier x × occurs k x)

-- the lead of each product is such a monomial: of a first product, of one of these earlier ones, or of one before it in the list
abbrev pub AreMetInTurn : {K X : Type 0} → (K → Type 0) → (K → X → Type 0) → (X → K) → List X → List X → Type 0
AreMetInTurn first occurs lead earlier [] = ⊤
AreMetInTurn first occurs lead earlier (x ∷ products) =
    IsMetBy first occurs earlier (lead x) × AreMetInTurn first occurs lead (earlier ++ x ∷ []) products
