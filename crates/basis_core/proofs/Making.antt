-- The members that rows make, one list of rows after another
use Rattle.std.proofs.Common.{List, [], ap, append-nil, append_assoc, inl, inr, subst, sym, ◌++◌, ℕ, ◌∙◌, ◌∷◌}
use Rattle.bases.specs.Settings.{Setting}
use Rattle.formal_sums.specs.FormalSums.{FormalSum}
use Rattle.basis_steps.specs.Divisions.{MakesMembers}
use Rattle.basis_steps.specs.States.{Member, vectors}

-- rows make members, and later rows more of them
pub makes_append :
    {n : ℕ} (S : Setting n) (G : List (FormalSum n)) (rows made after later : List (Member n))
    → MakesMembers S G rows made → MakesMembers S (G ++ vectors made) after later → MakesMembers S G (rows ++ after) (made ++ later)
makes_append S G [] made after later e h =
    subst (λ m. MakesMembers S G after (m ++ later)) (sym e) (subst (λ l. MakesMembers S l after later) (ap (λ m. G ++ vectors m) e ∙ append-nil G) h)
makes_append S G (row ∷ rows) made after later (inl (a, v, rest)) h = inl (a, v, makes_append S G rows made after later rest h)
makes_append S G (row ∷ rows) made after later (inr (a, c, d, g, more, l, e, rest)) h =
    inr (
      a,
      c,
      d,
      g,
      more ++ later,
      l,
      ap (λ m. m ++ later) e,
      makes_append S (G ++ (g.vector ∷ [])) rows more after later rest
          (subst (λ x. MakesMembers S x after later) (ap (λ m. G ++ vectors m) e ∙ sym (append_assoc G (g.vector ∷ []) (vectors more))) h),
    )
