-- Values at the places of their names
use Rattle.std.proofs.Common.{Bool, List, None, Option, Some, [], ap, ap₂, arith, cond, false, length, get_or, ltb, nat_eq, not, refl, set, suc, true, ℕ, ◌+◌, ◌++◌, ◌<◌, ◌||◌, ◌∙◌, ◌∷◌, ◌≡◌}
use Rattle.std.proofs.lemmas.Bool.{lt-ltb}
use Rattle.std.proofs.lemmas.Option.{same_Some}
use lib.Dec.{leb-suc-suc}
use Rattle.std.specs.Cmp.Lexicographic.{nat_list_eq_equiv, pointwise}
use Rattle.std.specs.List.{list_any, position_or_len}
use Rattle.std.specs.Prelude.{option_map, position, string_bytes}
use Rattle.indexmap.specs.IndexSet.{replace_key, swap_key}
use Rattle.script_parse.specs.Places.{place_named, with_info}
use Rattle.script_parse.specs.Refusals.{length_named, rank_named}
use Rattle.script_parse.specs.declared.named.NameInfo.{NameInfo}

-- a place behind the first
pub later_place : (o : Option ℕ) (i : ℕ) → option_map suc o ≡ Some i → (k : ℕ) × (o ≡ Some k) × (suc k ≡ i)
later_place None i h = absurd cc
later_place (Some k) i h = (k, refl, same_Some _ _ h)

pub no_later_place : (o : Option ℕ) → option_map suc o ≡ None → o ≡ None
no_later_place None h = refl
no_later_place (Some k) h = absurd cc

pub place_bound : (infos : List NameInfo) (name : List ℕ) (i : ℕ) → place_named infos name ≡ Some i → i < length infos
place_bound [] name i e = absurd cc
place_bound (j ∷ infos) name i e = by_test (pointwise nat_eq (string_bytes j.name) name) e (λ k h. place_bound infos name k h)
  where
    by_test :
        (b : Bool) → cond b (Some 0) (option_map suc (place_named infos name)) ≡ Some i
        → ((k : ℕ) → place_named infos name ≡ Some k → k < length infos) → i < suc (length infos)
    by_test true h later = let z : 0 ≡ i = same_Some _ _ h in omega arith
    by_test false h later = let r = later_place (place_named infos name) i h in let lt = later r.0 r.1 in let z = r.2 in omega arith

module _ (D : Type 0) (of : NameInfo → D) (named : List NameInfo → List ℕ → Option D)
    (named_nil : (text : List ℕ) → named [] text ≡ None)
    (named_cons : (j : NameInfo) (infos : List NameInfo) (text : List ℕ) → named (j ∷ infos) text ≡ cond (pointwise nat_eq (string_bytes j.name) text) (Some (of j)) (named infos text)) where
  -- what is told of the value with a name is so of the value at its place
  pub named_at :
      (infos : List NameInfo) (text : List ℕ) (i : ℕ) (d : NameInfo) → place_named infos text ≡ Some i → named infos text ≡ Some (of (get_or infos i d))
  named_at [] text i d e = absurd cc
  named_at (j ∷ infos) text i d e = named_cons j infos text ∙ by_test (pointwise nat_eq (string_bytes j.name) text) e (λ k h. named_at infos text k d h)
    where
      by_test :
          (b : Bool) → cond b (Some 0) (option_map suc (place_named infos text)) ≡ Some i
          → ((k : ℕ) → place_named infos text ≡ Some k → named infos text ≡ Some (of (get_or infos k d)))
          → cond b (Some (of j)) (named infos text) ≡ Some (of (get_or (j ∷ infos) i d))
      by_test true h later = ap (λ k. Some (of (get_or (j ∷ infos) k d))) (same_Some _ _ h)
      by_test false h later =
          let r = later_place (place_named infos text) i h in
          later r.0 r.1 ∙ ap (λ k. Some (of (get_or (j ∷ infos) k d))) r.2

  pub named_nowhere : (infos : List NameInfo) (text : List ℕ) → place_named infos text ≡ None → named infos text ≡ None
  named_nowhere [] text e = named_nil text
  named_nowhere (j ∷ infos) text e = named_cons j infos text ∙ by_test (pointwise nat_eq (string_bytes j.name) text) e (λ h. named_nowhere infos text h)
    where
      by_test :
          (b : Bool) → cond b (Some 0) (option_map suc (place_named infos text)) ≡ None
          → (place_named infos text ≡ None → named infos text ≡ None) → cond b (Some (of j)) (named infos text) ≡ None
      by_test true h later = absurd cc
      by_test false h later = later (no_later_place (place_named infos text) h)

pub rank_at : (infos : List NameInfo) (text : List ℕ) (i : ℕ) (d : NameInfo) → place_named infos text ≡ Some i → rank_named infos text ≡ Some (get_or infos i d).rank
rank_at = named_at ℕ (λ i. i.rank) rank_named (λ text. refl) (λ j infos text. refl)

pub no_rank : (infos : List NameInfo) (text : List ℕ) → place_named infos text ≡ None → rank_named infos text ≡ None
no_rank = named_nowhere ℕ (λ i. i.rank) rank_named (λ text. refl) (λ j infos text. refl)

pub length_at :
    (infos : List NameInfo) (text : List ℕ) (i : ℕ) (d : NameInfo) → place_named infos text ≡ Some i → length_named infos text ≡ Some (get_or infos i d).length
length_at = named_at ℕ (λ i. i.length) length_named (λ text. refl) (λ j infos text. refl)

pub no_length : (infos : List NameInfo) (text : List ℕ) → place_named infos text ≡ None → length_named infos text ≡ None
no_length = named_nowhere ℕ (λ i. i.length) length_named (λ text. refl) (λ j infos text. refl)

-- ---- a table's places

-- a search goes on behind the first, if that is not it
position_goes : (test : NameInfo → Bool) (j : NameInfo) (infos : List NameInfo) → position test (j ∷ infos) ≡ cond (test j) (Some 0) (option_map suc (position test infos))
position_goes test j infos = by_test (test j)
  where
    by_test :
        (b : Bool)
        → cond (ltb (cond (not b) (1 + position_or_len test infos) 0) (suc (length infos))) (Some (cond (not b) (1 + position_or_len test infos) 0)) None
        ≡ cond b (Some 0) (option_map suc (cond (ltb (position_or_len test infos) (length infos)) (Some (position_or_len test infos)) None))
    by_test true = ap (λ b. cond b (Some 0) None) (lt-ltb 0 (suc (length infos)) (omega arith))
    by_test false =
        let p = position_or_len test infos in
        let next : 1 + p ≡ suc p = omega arith in
        ap (λ k. cond (ltb k (suc (length infos))) (Some k) None) next
        ∙ ap (λ b. cond b (Some (suc p)) None) (leb-suc-suc (suc p) (length infos)) ∙ further (ltb p (length infos))
      where
        further : (b : Bool) → cond b (Some (suc (position_or_len test infos))) None ≡ option_map suc (cond b (Some (position_or_len test infos)) None)
        further true = refl
        further false = refl

-- the first that a search by the name finds
pub place_found : (infos : List NameInfo) (name : List ℕ) → position (λ (i : NameInfo). pointwise nat_eq name (string_bytes i.name)) infos ≡ place_named infos name
place_found [] name = refl
place_found (j ∷ infos) name =
    position_goes (λ (i : NameInfo). pointwise nat_eq name (string_bytes i.name)) j infos
    ∙ ap₂ (λ b o. cond b (Some 0) (option_map suc o)) (nat_list_eq_equiv.symm name (string_bytes j.name)) (place_found infos name)

-- ---- a name is given

-- values are told apart by their names
abbrev named_alike : NameInfo → NameInfo → Bool
named_alike i j = pointwise nat_eq (string_bytes i.name) (string_bytes j.name)

module _ (info : NameInfo) where
  -- in place of the value that has it
  pub given_at : (infos : List NameInfo) (i : ℕ) → place_named infos (string_bytes info.name) ≡ Some i → with_info info infos ≡ set infos i info
  given_at [] i e = absurd cc
  given_at (j ∷ infos) i e = by_test (pointwise nat_eq (string_bytes j.name) (string_bytes info.name)) e (λ k h. given_at infos k h)
    where
      by_test :
          (b : Bool) → cond b (Some 0) (option_map suc (place_named infos (string_bytes info.name))) ≡ Some i
          → ((k : ℕ) → place_named infos (string_bytes info.name) ≡ Some k → with_info info infos ≡ set infos k info)
          → cond b (info ∷ infos) (j ∷ with_info info infos) ≡ set (j ∷ infos) i info
      by_test true h later = ap (λ k. set (j ∷ infos) k info) (same_Some _ _ h)
      by_test false h later =
          let r = later_place (place_named infos (string_bytes info.name)) i h in
          ap (λ vs. j ∷ vs) (later r.0 r.1) ∙ ap (λ k. set (j ∷ infos) k info) r.2

  -- or behind all others
  pub given_new : (infos : List NameInfo) → place_named infos (string_bytes info.name) ≡ None → with_info info infos ≡ infos ++ info ∷ []
  given_new [] e = refl
  given_new (j ∷ infos) e = by_test (pointwise nat_eq (string_bytes j.name) (string_bytes info.name)) e (λ h. given_new infos h)
    where
      by_test :
          (b : Bool) → cond b (Some 0) (option_map suc (place_named infos (string_bytes info.name))) ≡ None
          → (place_named infos (string_bytes info.name) ≡ None → with_info info infos ≡ infos ++ info ∷ [])
          → cond b (info ∷ infos) (j ∷ with_info info infos) ≡ j ∷ (infos ++ info ∷ [])
      by_test true h later = absurd cc
      by_test false h later = ap (λ vs. j ∷ vs) (later (no_later_place (place_named infos (string_bytes info.name)) h))

  -- so the values are as a set's keys where one takes the place of its equal
  pub given : (infos : List NameInfo) → replace_key named_alike infos info ≡ with_info info infos
  given [] = refl
  given (j ∷ infos) = by_test (pointwise nat_eq (string_bytes info.name) (string_bytes j.name)) (nat_list_eq_equiv.symm (string_bytes info.name) (string_bytes j.name)) (given infos)
    where
      by_test :
          (b : Bool) → b ≡ pointwise nat_eq (string_bytes j.name) (string_bytes info.name) → replace_key named_alike infos info ≡ with_info info infos
          → cond (b || list_any (named_alike info) infos) (cond b (info ∷ infos) (j ∷ swap_key (named_alike info) infos info)) (j ∷ infos ++ info ∷ []) ≡ with_info info (j ∷ infos)
      by_test true e later = ap (λ b. cond b (info ∷ infos) (j ∷ with_info info infos)) e
      by_test false e later = within (list_any (named_alike info) infos) later ∙ ap (λ b. cond b (info ∷ infos) (j ∷ with_info info infos)) e
        where
          within :
              (b : Bool) → cond b (swap_key (named_alike info) infos info) (infos ++ info ∷ []) ≡ with_info info infos
              → cond b (j ∷ swap_key (named_alike info) infos info) (j ∷ infos ++ info ∷ []) ≡ j ∷ with_info info infos
          within true h = ap (λ vs. j ∷ vs) h
          within false h = ap (λ vs. j ∷ vs) h
