-- The members of a kernel part are the members of the basis with leads behind the first positions, lowered
use Rattle.std.proofs.Common.{List, Ordering, [], ap, ap₂, arith, get_or, length, refl, subst, sym, true, ℕ, ◌+◌, ◌-◌, ◌<◌, ◌∙◌, ◌∷◌, ◌≡◌, ◌≤◌, Bool}
use Rattle.std.proofs.lemmas.Bool.Decides.{nat_tests}
use Rattle.std.specs.Cmp.Derive.{both_true}
use Rattle.std.specs.Prelude.{IsTrue, nat_le}
use Rattle.std.specs.declared.cmp.Ordering.TheVariants.{Greater}
use Rattle.residues.specs.Residues.{IsDomain}
use Rattle.monomials.proofs.Monomials.{and_left, and_right}
use Rattle.monomials.specs.Exponents.{Exponents}
use Rattle.formal_sums.specs.FormalSums.{Each, FormalSum, Key}
use Rattle.orders.proofs.KeyOrdering.{less_of_greater}
use Rattle.orders.proofs.Positions.{pot_order}
use Rattle.orders.specs.MonomialOrders.{IsMonomialOrder}
use Rattle.bases.specs.Leads.{IsNormal, head_key, leads}
use Rattle.bases.specs.Settings.{IsLawful, Setting}
use Rattle.division_laws.proofs.Keeping.{IsDownClosed_position}
use Rattle.division_laws.specs.Elimination.{IsDownClosed, is_from_position}
use Rattle.syzygy_laws.proofs.Choosing.{Choice, choice, get_or-map, length-map}
use Rattle.syzygy_laws.specs.Kernels.{all_kept, kept_list, kernel_of, lowered, pot_setting}
use Rattle.syzygy_laws.specs.Syzygies.{raised}

-- each member of H is, raised, one of G
abbrev pub LiesInside : {n : ℕ} → ℕ → List (FormalSum n) → List (FormalSum n) → Type 0
LiesInside m G H = (i : ℕ) → i < length H → (j : ℕ) × (j < length G) × (raised m (get_or H i []) ≡ get_or G j [])

-- each member of G with a lead from position m on is, lowered, one of H
abbrev pub HasAllBehind : {n : ℕ} → ℕ → List (FormalSum n) → List (FormalSum n) → Type 0
HasAllBehind m G H = (j : ℕ) → j < length G → m ≤ (leads G j).0 → (i : ℕ) × (i < length H) × (raised m (get_or H i []) ≡ get_or G j [])

pub raised_lowered : {n : ℕ} (q : ℕ) (v : FormalSum n) → all_kept (is_from_position q) v ≡ true → raised q (lowered q v) ≡ v
raised_lowered q [] e = refl
raised_lowered q (t ∷ v) e = ap₂ (λ i r. ((i, t.0.1), t.1) ∷ r) (back q t.0.0 (and_left _ _ e)) (raised_lowered q v (and_right _ _ e))
  where
    back : (q a : ℕ) → nat_le q a ≡ true → q + (a - q) ≡ a
    back q a e = grind (arith, nat_tests)

-- a normal form whose first key is kept
all_kept_below :
    {n : ℕ} (S : Setting n) (keep : Key n → Bool) → IsLawful S → IsDownClosed S keep → (k : Key n) (v : FormalSum n)
    → IsTrue (keep k) → Each (λ u. S.compare k u.0 ≡ Greater) v → all_kept keep v ≡ true
all_kept_below S keep lawful closed k [] h e = refl
all_kept_below S keep lawful closed k (t ∷ v) h e = both_true (closed k t.0 (less_of_greater lawful.order k t.0 e.0) h) (all_kept_below S keep lawful closed k v h e.1)

pub all_kept_normal :
    {n : ℕ} (S : Setting n) (keep : Key n → Bool) → IsLawful S → IsDownClosed S keep → (g : FormalSum n) → IsNormal S g
    → IsTrue (keep (head_key g)) → all_kept keep g ≡ true
all_kept_normal S keep lawful closed [] normal h = refl
all_kept_normal S keep lawful closed (t ∷ v) normal h = both_true h (all_kept_below S keep lawful closed t.0 v h normal.descends.0)

module _ {n : ℕ} (m : ℕ) (G : List (FormalSum n)) where
  chosen : Choice (all_kept (is_from_position m)) [] G (kept_list (is_from_position m) G)
  chosen = choice (all_kept (is_from_position m)) [] G

  raised_at :
      (i j : ℕ) → get_or (kept_list (is_from_position m) G) i [] ≡ get_or G j []
      → all_kept (is_from_position m) (get_or G j []) ≡ true → raised m (get_or (kernel_of m G) i []) ≡ get_or G j []
  raised_at i j e passes =
      ap (raised m) (get_or-map (lowered m) [] (kept_list (is_from_position m) G) i ∙ ap (lowered m) e) ∙ raised_lowered m (get_or G j []) passes

  pub kernel_inside : LiesInside m G (kernel_of m G)
  kernel_inside i lt = (chosen.place i, chosen.inside i kept, raised_at i (chosen.place i) (chosen.same i kept) (chosen.passes i kept))
    where
      kept : i < length (kept_list (is_from_position m) G)
      kept = subst (λ l. i < l) (length-map (lowered m) (kept_list (is_from_position m) G)) lt

  pub kernel_all :
      (p r : ℕ) (ws : List ℕ) (monomials : Exponents n → Exponents n → Ordering) → IsDomain p → IsMonomialOrder monomials
      → ((i : ℕ) → i < length G → IsNormal (pot_setting ws p r monomials) (get_or G i [])) → HasAllBehind m G (kernel_of m G)
  kernel_all p r ws monomials domain order normal j lt le = go (chosen.all j lt passes)
    where
      le_true : (a b : ℕ) → a ≤ b → nat_le a b ≡ true
      le_true a b h = grind (arith, nat_tests)

      passes : all_kept (is_from_position m) (get_or G j []) ≡ true
      passes =
          all_kept_normal (pot_setting ws p r monomials) (is_from_position m) (record { domain = domain; order = pot_order r monomials order })
          (IsDownClosed_position (pot_setting ws p r monomials) monomials m refl) (get_or G j []) (normal j lt) (le_true m (leads G j).0 le)

      go :
          (i : ℕ) × (i < length (kept_list (is_from_position m) G)) × (get_or (kept_list (is_from_position m) G) i [] ≡ get_or G j [])
          → (i : ℕ) × (i < length (kernel_of m G)) × (raised m (get_or (kernel_of m G) i []) ≡ get_or G j [])
      go (i, h, e) = (i, subst (λ l. i < l) (sym (length-map (lowered m) (kept_list (is_from_position m) G))) h, raised_at i j e passes)
