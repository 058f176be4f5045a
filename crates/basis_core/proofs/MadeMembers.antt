-- The members that rows make, row after row
use Rattle.std.proofs.Common.{List, [], ap, append-nil, append_assoc, arith, drop, get_or, inl, inr, length, length-append, refl, subst, suc, sym}
use Rattle.std.proofs.Common.{take, zero, ℕ, ◌++◌, ◌+◌, ◌<◌, ◌∙◌, ◌∷◌, ◌≡◌}
use Rattle.std.proofs.lemmas.List.{map-append}
use Rattle.formal_sums.proofs.WeightedSums.{Each_append}
use Rattle.formal_sums.specs.FormalSums.{Each, FormalSum}
use Rattle.bases.specs.Settings.{Setting}
use Rattle.term_lists.proofs.Scaling.{Each_at}
use Rattle.term_lists.specs.declared.key.Key.{Key as CodeKey}
use Rattle.member_products.specs.Generators.{IsRanked}
use Rattle.member_products.specs.declared.member.Reduct.{Reduct as CodeReduct}
use Rattle.basis_steps.proofs.Growing.{vectors-append}
use Rattle.basis_steps.specs.Divisions.{IsMonicMember, MakesMembers}
use Rattle.basis_steps.specs.States.{Member, vectors}
use Rattle.basis_core.proofs.Making.{makes_append}
use Rattle.basis_core.specs.Makings.{HaveMadeRows}
use Rattle.basis_core.specs.Members.{IsRunMember, IsRunRow, Shared, MemberShown, member_of, members_of, reduct_row_of, reduct_rows_of, setting_of}
use Rattle.basis_core.specs.RowDivision.{with_multiple}
use Rattle.basis_core.proofs.Tracking.{rows_more}

pub members-append : (n : ℕ) (ms ns : List MemberShown) → members_of n (ms ++ ns) ≡ members_of n ms ++ members_of n ns
members-append n ms ns = map-append (λ m. member_of n m) ms ns

pub vectors_more : (n : ℕ) (ms made : List MemberShown) → vectors (members_of n (ms ++ made)) ≡ vectors (members_of n ms) ++ vectors (members_of n made)
vectors_more n ms made = ap vectors (members-append n ms made) ∙ vectors-append (members_of n ms) (members_of n made)

pub rows-append : (n : ℕ) (rows more : List CodeReduct) → reduct_rows_of n (rows ++ more) ≡ reduct_rows_of n rows ++ reduct_rows_of n more
rows-append n rows more = map-append (λ row. reduct_row_of n row) rows more

-- monic members stay so
makes_monic :
    {n : ℕ} (S : Setting n) (G : List (FormalSum n)) (rows made : List (Member n))
    → MakesMembers S G rows made → Each (IsMonicMember S) G → Each (IsMonicMember S) (G ++ vectors made)
makes_monic S G [] made e h =
    subst (λ m. Each (IsMonicMember S) (G ++ vectors m)) (sym e) (subst (Each (IsMonicMember S)) (sym (append-nil G)) h)
makes_monic S G (row ∷ rows) made (inl (a, v, rest)) h = makes_monic S G rows made rest h
makes_monic S G (row ∷ rows) made (inr (a, c, d, g, later, l, e, rest)) h =
    subst (Each (IsMonicMember S)) (append_assoc G (g.vector ∷ []) (vectors later) ∙ ap (λ x. G ++ vectors x) (sym e))
    (makes_monic S (G ++ (g.vector ∷ [])) rows later rest (Each_append (IsMonicMember S) G (g.vector ∷ []) h (l.member, tt)))

pub none_made : (n : ℕ) (shared : Shared) (ms : List MemberShown) → HaveMadeRows n shared ms [] ms
none_made n shared ms = record { made = []; same = sym (append-nil ms); makes = refl }

pub more_made :
    (n : ℕ) (shared : Shared) (ms : List MemberShown) (rows : List CodeReduct) (mid : List MemberShown) (more : List CodeReduct) (after : List MemberShown)
    → HaveMadeRows n shared ms rows mid → HaveMadeRows n shared mid more after → HaveMadeRows n shared ms (rows ++ more) after
more_made n shared ms rows mid more after one two = record {
  made = one.made ++ two.made;
  same = two.same ∙ ap (λ l. l ++ two.made) one.same ∙ append_assoc ms one.made two.made;
  makes = subst (λ (l : List (Member n) × List (Member n)). MakesMembers (setting_of n shared) (vectors (members_of n ms)) l.0 l.1)
      (λ i. (sym (rows-append n rows more) i, sym (members-append n one.made two.made) i))
      (makes_append (setting_of n shared) (vectors (members_of n ms)) (reduct_rows_of n rows) (members_of n one.made) (reduct_rows_of n more)
      (members_of n two.made) one.makes
      (subst (λ l. MakesMembers (setting_of n shared) l (reduct_rows_of n more) (members_of n two.made))
      (ap (λ l. vectors (members_of n l)) one.same ∙ vectors_more n ms one.made) two.makes));
}

pub made_monic :
    (n : ℕ) (shared : Shared) (ms : List MemberShown) (rows : List CodeReduct) (after : List MemberShown)
    → HaveMadeRows n shared ms rows after → Each (IsMonicMember (setting_of n shared)) (vectors (members_of n ms))
    → Each (IsMonicMember (setting_of n shared)) (vectors (members_of n after))
made_monic n shared ms rows after m h =
    subst (Each (IsMonicMember (setting_of n shared))) (sym (ap (λ l. vectors (members_of n l)) m.same ∙ vectors_more n ms m.made))
    (makes_monic (setting_of n shared) (vectors (members_of n ms)) (reduct_rows_of n rows) (members_of n m.made) m.makes h)

-- the rows before one of them, that one, and those behind it
pub rows_split :
    (rows : List CodeReduct) (i : ℕ) (row : CodeReduct)
    → i < length rows → row ≡ get_or rows i row → rows ≡ take i rows ++ row ∷ drop (i + 1) rows
rows_split [] i row l e = absurd (omega arith)
rows_split (r ∷ rows) zero row l e = ap (λ m. m ∷ rows) (sym e)
rows_split (r ∷ rows) (suc i) row l e =
    subst (λ k. r ∷ rows ≡ r ∷ (take i rows ++ row ∷ drop k (r ∷ rows))) more
    (ap (λ z. r ∷ z) (rows_split rows i row (omega arith) e))
  where
    more : suc (i + 1) ≡ suc i + 1
    more = omega arith

-- a row with no multiple of a generator
pub made_one :
    (n : ℕ) (shared : Shared) (ms : List MemberShown) (row : CodeReduct) (none : List (CodeKey × ℕ)) (made after : List MemberShown)
    → none ≡ [] → after ≡ ms ++ made
    → MakesMembers (setting_of n shared) (vectors (members_of n ms)) (member_of n (with_multiple row none) ∷ []) (members_of n made)
    → HaveMadeRows n shared ms (row ∷ []) after
made_one n shared ms row none made after e same h = record {
  made = made;
  same = same;
  makes = subst (λ (l : List (CodeKey × ℕ)). MakesMembers (setting_of n shared) (vectors (members_of n ms)) (member_of n (with_multiple row l) ∷ [])
      (members_of n made)) e h;
}

-- each row is one over the members that there are by then
pub row_over :
    (n : ℕ) (shared : Shared) (ms after : List MemberShown) (before rows : List CodeReduct) (i : ℕ) (row : CodeReduct) (none : List (CodeKey × ℕ))
    → Each (IsRunRow shared (length ms)) rows → i < length rows → row ≡ get_or rows i row → none ≡ [] → HaveMadeRows n shared ms before after
    → IsRunMember shared (length after) (with_multiple row none)
row_over n shared ms after before rows i row none h lt is e made =
    let r : IsRunRow shared (length after) row =
    Each_at _ rows i row (rows_more shared (length ms) (length after) rows (omega (arith, ap length made.same, length-append ms made.made)) h) lt is in
    record {
      vector = r.vector;
      multiple = subst (IsRanked shared.ring (length shared.generators)) (sym e) (record { vector = record { each = tt; descends = tt }; positions = tt });
      products = r.products;
    }
