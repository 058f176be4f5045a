-- Rows that claim their columns, and what the answers tell
use Rattle.std.proofs.Common.{List, [], ap, append_assoc, arith, get_or, length, slice_index, subst, sym, subst₂, take, ℕ, ◌+◌, ◌++◌, ◌-◌, ◌<◌, ◌∙◌, ◌∷◌, ◌≡◌}
use Rattle.std.proofs.lemmas.List.{get_or-map, get_or_default, length-map, map-append}
use Rattle.std.proofs.lemmas.List.Sorted.{IsPermutation-append_left, IsPermutation-middle, IsPermutation-push_more, IsPermutation-refl, IsPermutation-sym}
use Rattle.std.specs.List.Sorted.{IsPermutation}
use Rattle.formal_sums.proofs.Combining.{Each_map}
use Rattle.formal_sums.proofs.WeightedSums.{Each_append}
use Rattle.formal_sums.specs.FormalSums.{Each}
use Rattle.term_lists.proofs.Scaling.{take_item}
use Rattle.term_lists.proofs.Parts.{Each_member}
use Rattle.pivot_table.specs.Law.{NamesRowOf, claim_word, entry, found_by}
use Rattle.pivot_table.specs.declared.claims.Claim.{Claim}
use Rattle.pivot_table.specs.declared.law.Entry.{Entry as Told}
use Rattle.row_matrix.specs.Rows.{RowShown, first_column, no_row}
use Rattle.dense_reduction.proofs.Naming.{told_last, told_stays}
use Rattle.dense_reduction.specs.LostRows.{AreClaimed, IsLost, numbers}
use Rattle.dense_reduction.specs.Pivots.{lead_column}
use Rattle.dense_reduction.specs.Words.{AreAsTold, IsToldAfter, IsTold, WordNames, row_leads_of}
use Rattle.dense_reduction.specs.declared.lefts.Lost.{Lost}

-- the row has its column
abbrev pub HasWon : List RowShown → List Told → ℕ → Type 0
HasWon rows told m = IsTold rows told (lead_column rows m) m

-- ---- what an answer tells
pub lead_read : (rows : List RowShown) (leads : List ℕ) (k : ℕ) → leads ≡ row_leads_of rows → k < length rows → slice_index leads k ≡ lead_column rows k
lead_read rows leads k e lt = ap (λ xs. slice_index xs k) e ∙ get_or-map (λ (r : RowShown). first_column r.entries) rows k no_row 0 lt

-- the word of the column names this row
pub told_now :
    (rows : List RowShown) (leads : List ℕ) (old new : List Told) (answer : Claim) (number k : ℕ)
    → leads ≡ row_leads_of rows → number < length rows
    → new ≡ old ++ entry (slice_index leads number) (found_by answer) (claim_word number answer) ∷ []
    → NamesRowOf leads (slice_index leads number) (claim_word number answer) → claim_word number answer ≡ k + 1
    → IsTold rows new (lead_column rows number) k
told_now rows leads old new answer number k known lt is names after =
    let n = names (omega arith) in
    let l : k < length rows = omega (arith, n.0, ap length known, length-map rows (λ (r : RowShown). first_column r.entries)) in
    let back : claim_word number answer - 1 ≡ k = omega arith in
    let column = lead_read rows leads number known lt in
    record {
      known = l;
      lead = sym (lead_read rows leads k known l) ∙ ap (slice_index leads) (sym back) ∙ n.1 ∙ column;
      named = λ words a.
          subst (λ c. WordNames words c k) column
          (told_last words old (entry (slice_index leads number) (found_by answer) (claim_word number answer)) k after (subst (AreAsTold words) is a));
    }

pub lost_stays : (rows : List RowShown) (old new : List Told) (l : Lost) → IsToldAfter old new → IsLost rows old l → IsLost rows new l
lost_stays rows old new l f h = record { known = h.known; other = h.other; held = told_stays rows old new (lead_column rows l.number) l.winner f h.held }

pub all_lost_stay :
    (rows : List RowShown) (old new : List Told) (lost : List Lost) → IsToldAfter old new → Each (IsLost rows old) lost
    → Each (IsLost rows new) lost
all_lost_stay rows old new lost f h = Each_map (IsLost rows old) (IsLost rows new) lost (λ l. lost_stays rows old new l f) h

pub item_taken : {X : Type 0} (xs : List X) (i : ℕ) (d : X) → i < length xs → take (i + 1) xs ≡ take i xs ++ get_or xs i d ∷ []
item_taken xs i d lt = take_item xs i (get_or xs i d) lt (get_or_default xs i d (get_or xs i d) lt)

pub put_between : (xs ys : List ℕ) (m : ℕ) → IsPermutation (m ∷ (xs ++ ys)) ((xs ++ m ∷ []) ++ ys)
put_between xs ys m =
    subst (IsPermutation (m ∷ (xs ++ ys))) (sym (append_assoc xs (m ∷ []) ys))
    (IsPermutation-sym (xs ++ m ∷ ys) (m ∷ (xs ++ ys)) (IsPermutation-middle xs m ys))

pub lost_at :
    (rows : List RowShown) (old new : List Told) (lost : List Lost) (i : ℕ) (d : Lost)
    → IsToldAfter old new → Each (IsLost rows old) lost → i < length lost → IsLost rows new (get_or lost i d)
lost_at rows old new lost i d f h lt = lost_stays rows old new (get_or lost i d) f (Each_member (IsLost rows old) lost i d h lt)

-- ---- claimed rows
-- none yet
pub none_taken : (xs : List ℕ) → IsPermutation (take 0 xs) []
none_taken [] = IsPermutation-refl {X = ℕ} []
none_taken (x ∷ xs) = IsPermutation-refl {X = ℕ} []

pub claimed_none : (rows : List RowShown) (mine : List ℕ) (told : List Told) (lost : List Lost) → lost ≡ [] → AreClaimed rows (take 0 mine) told lost
claimed_none rows mine told lost e =
    subst (AreClaimed rows (take 0 mine) told) (sym e) (record { won = []; split = none_taken mine; named = tt; beaten = tt })

-- one more row, which has its column
pub claimed_won :
    (rows : List RowShown) (mine : List ℕ) (old new : List Told) (lost : List Lost) (i d : ℕ)
    → i < length mine → IsToldAfter old new
    → AreClaimed rows (take i mine) old lost → IsTold rows new (lead_column rows (get_or mine i d)) (get_or mine i d)
    → AreClaimed rows (take (i + 1) mine) new lost
claimed_won rows mine old new lost i d lt f h won = let m = get_or mine i d in record {
  won = h.won ++ m ∷ [];
  split =
      subst₂ IsPermutation (sym (item_taken mine i d lt)) (append_assoc (numbers lost) h.won (m ∷ []))
      (IsPermutation-append_left (m ∷ []) (take i mine) (numbers lost ++ h.won) h.split);
  named = Each_append (HasWon rows new) h.won (m ∷ [])
      (Each_map (HasWon rows old) (HasWon rows new) h.won (λ k t. told_stays rows old new (lead_column rows k) k f t) h.named) (won, tt);
  beaten = all_lost_stay rows old new lost f h.beaten;
}

-- one more row, which lost it
pub claimed_lost :
    (rows : List RowShown) (mine : List ℕ) (old new : List Told) (lost lost' : List Lost) (l : Lost) (i d : ℕ)
    → i < length mine → IsToldAfter old new
    → AreClaimed rows (take i mine) old lost → (l.number ≡ get_or mine i d) × IsLost rows new l → lost' ≡ lost ++ l ∷ []
    → AreClaimed rows (take (i + 1) mine) new lost'
claimed_lost rows mine old new lost lost' l i d lt f h one e = let m = get_or mine i d in record {
  won = h.won;
  split =
      subst₂ IsPermutation (sym (item_taken mine i d lt))
      (ap (λ k. (numbers lost ++ k ∷ []) ++ h.won) (sym one.0)
      ∙ ap (λ xs. xs ++ h.won) (sym (map-append (λ (x : Lost). x.number) lost (l ∷ [])) ∙ ap numbers (sym e)))
      (IsPermutation-push_more (take i mine) (numbers lost ++ h.won) ((numbers lost ++ m ∷ []) ++ h.won) m h.split (put_between (numbers lost) h.won m));
  named = Each_map (HasWon rows old) (HasWon rows new) h.won (λ k t. told_stays rows old new (lead_column rows k) k f t) h.named;
  beaten = subst (Each (IsLost rows new)) (sym e) (Each_append (IsLost rows new) lost (l ∷ []) (all_lost_stay rows old new lost f h.beaten) (one.1, tt));
}
