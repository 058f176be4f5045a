-- One member's cofactors more
use Rattle.std.proofs.Common.{Contains, List, [], ap, arith, get_or, length, length-append, refl, subst, subst₂, suc, sym, take, zero, ℕ, ◌++◌, ◌+◌, ◌<◌, ◌∙◌, ◌∷◌, ◌≡◌}
use Rattle.formal_sums.proofs.Combining.{IsSame_combination_members}
use Rattle.formal_sums.proofs.Sameness.{IsSame_append, IsSame_refl, IsSame_trans}
use Rattle.formal_sums.specs.Combinations.{combination}
use Rattle.formal_sums.specs.FormalSums.{FormalSum, IsSame}
use Rattle.term_lists.specs.Rings.{variables}
use Rattle.term_lists.specs.Vectors.{StandsFor, sum_of, sums_of}
use Rattle.term_lists.specs.declared.key.Key.{Key as CodeKey}
use Rattle.term_lists.specs.declared.ring.Ring.{Ring}
use Rattle.term_lists.specs.declared.stop.VectStop.{VectStop}
use Rattle.term_lists.specs.declared.stop.VectStop.TheVariants.{Memory, Degree}
use Rattle.module_vectors.specs.ProductStops.{CombinationStops}
use Rattle.basis_steps.proofs.Carrying.{from_append, length-from}
use Rattle.basis_steps.specs.Cofactors.{cofactor_lists, cofactors_by}
use Rattle.member_products.specs.Members.{AreCofactors, AreMembersOver, CofactorsStop, IsMemberOver, member_of, members_of}
use Rattle.member_products.specs.declared.member.RunMember.{RunMember as CodeMember}

-- the member with an index has that many before it
pub member_at :
    (ring : Ring) (rank count k : ℕ) (ms : List CodeMember) (i : ℕ) (m : CodeMember)
    → AreMembersOver ring rank count k ms → i < length ms → m ≡ get_or ms i m → IsMemberOver ring rank count (k + i) m
member_at ring rank count k [] i m h lt e = absurd (omega arith)
member_at ring rank count k (x ∷ ms) zero m h lt e = subst₂ (λ j y. IsMemberOver ring rank count j y) (omega arith) (sym e) h.0
member_at ring rank count k (x ∷ ms) (suc i) m h lt e =
    subst (λ j. IsMemberOver ring rank count j m) (omega arith) (member_at ring rank count (k + 1) ms i m h.1 (omega arith) e)

pub member_there : (ms : List CodeMember) (i : ℕ) (m : CodeMember) → i < length ms → m ≡ get_or ms i m → Contains ms m
member_there [] i m lt e = absurd (omega arith)
member_there (x ∷ ms) zero m lt e = (zero, omega arith, sym e)
member_there (x ∷ ms) (suc i) m lt e = let r = member_there ms i m (omega arith) e in (suc r.0, omega (arith, r.1), r.2)

sums-append : (n : ℕ) (xs ys : List (List (CodeKey × ℕ))) → sums_of n (xs ++ ys) ≡ sums_of n xs ++ sums_of n ys
sums-append n [] ys = refl
sums-append n (x ∷ xs) ys = ap (λ l. sum_of n x ∷ l) (sums-append n xs ys)

length-sums : (n : ℕ) (xs : List (List (CodeKey × ℕ))) → length (sums_of n xs) ≡ length xs
length-sums n [] = refl
length-sums n (x ∷ xs) = ap suc (length-sums n xs)

members-append : (n : ℕ) (xs ys : List CodeMember) → members_of n (xs ++ ys) ≡ members_of n xs ++ members_of n ys
members-append n [] ys = refl
members-append n (x ∷ xs) ys = ap (λ l. member_of n x ∷ l) (members-append n xs ys)

length-members : (n : ℕ) (xs : List CodeMember) → length (members_of n xs) ≡ length xs
length-members n [] = refl
length-members n (x ∷ xs) = ap suc (length-members n xs)

-- one more of two lists that are the same
same_more :
    {n : ℕ} (p : ℕ) (A B : List (FormalSum n)) (a b : FormalSum n)
    → length A ≡ length B → ((i : ℕ) → IsSame p (get_or A i []) (get_or B i [])) → IsSame p a b
    → (i : ℕ) → IsSame p (get_or (A ++ (a ∷ [])) i []) (get_or (B ++ (b ∷ [])) i [])
same_more p [] [] a b l h e zero = e
same_more p [] [] a b l h e (suc i) = IsSame_refl p []
same_more p [] (y ∷ B) a b l h e i = absurd (omega (arith, l))
same_more p (x ∷ A) [] a b l h e i = absurd (omega (arith, l))
same_more p (x ∷ A) (y ∷ B) a b l h e zero = h zero
same_more p (x ∷ A) (y ∷ B) a b l h e (suc i) = same_more p A B a b (omega (arith, l)) (λ j. h (suc j)) e i

pub number_of : (n : ℕ) (ms : List CodeMember) → length (cofactor_lists (members_of n ms)) ≡ length ms
number_of n ms = length-from [] (members_of n ms) ∙ ap (λ k. 0 + k) (length-members n ms) ∙ omega arith

pub cofactors_none : (ring : Ring) → AreCofactors ring [] []
cofactors_none ring = record { number = refl; same = λ i. IsSame_refl ring.modulus.value [] }

module _ (ring : Ring) (pos : 0 < ring.modulus.value) where
  pub cofactors_more :
      (ms : List CodeMember) (m : CodeMember) (list : List (List (CodeKey × ℕ))) (products cof : List (CodeKey × ℕ))
      → AreCofactors ring ms list
      → StandsFor ring products (combination (sums_of (variables ring) list) (sum_of (variables ring) m.products))
      → StandsFor ring cof (sum_of (variables ring) m.multiple ++ sum_of (variables ring) products)
      → AreCofactors ring (ms ++ (m ∷ [])) (list ++ (cof ∷ []))
  cofactors_more ms m list products cof h made sum = record {
    number = omega (arith, h.number, length-append ms (m ∷ []), length-append list (cof ∷ []));
    same = λ i. subst₂ (λ A B. IsSame ring.modulus.value (get_or A i []) (get_or B i [])) (sym (sums-append n list (cof ∷ [])))
        (sym (ap cofactor_lists (members-append n ms (m ∷ [])) ∙ from_append [] (members_of n ms) (member_of n m ∷ [])))
        (same_more ring.modulus.value (sums_of n list) C (sum_of n cof) (cofactors_by C (member_of n m)) (omega (arith, length-sums n list, h.number, number_of n ms)) h.same
        (IsSame_trans sum (IsSame_append (IsSame_refl ring.modulus.value (sum_of n m.multiple)) (IsSame_trans made (IsSame_combination_members pos (sums_of n list) C h.same (sum_of n m.products))))) i);
  }
    where
      n : ℕ
      n = variables ring

      C : List (FormalSum n)
      C = cofactor_lists (members_of n ms)

pub stops_at :
    (ring : Ring) (ms : List CodeMember) (i : ℕ) (m : CodeMember) (list : List (List (CodeKey × ℕ))) (stop : VectStop)
    → Contains ms m → AreCofactors ring (take i ms) list → CombinationStops m.products list stop → CofactorsStop ring ms stop
stops_at ring ms i m list Memory there h q = tt
stops_at ring ms i m list (Degree a b) there h q = (i, m, list, there, h, q)
