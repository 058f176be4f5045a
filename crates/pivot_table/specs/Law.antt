-- The rule of a pass's words, and what each step tells.
use Rattle.std.specs.Prelude.{◌≡◌, ℕ, zero, suc, cond, ◌+◌, ◌-◌, ◌^◌, ◌<◌, ◌≤◌, ◌==◌, ◌⊎◌, List, [], ◌∷◌, ◌++◌, length}
use Rattle.std.specs.Prelude.{slice_index, slice_get, slice_index_or, Option, Some, None, All, Contains}
use mathlib.Core.Option as maybe
use lib.ListN.{get_elem?}
use prog.Atomic.{either}
use Rattle.atomic_table.specs.Table.{State, Me, Step}
use Rattle.atomic_table.specs.Seated.{TableId}
use Rattle.atomic_table.specs.declared.shared.Seat.{Seat}
use Rattle.pivot_table.specs.declared.law.Entry.{Entry}
use Rattle.pivot_table.specs.declared.law.View.{View}
use Rattle.pivot_table.specs.declared.claims.Claim.{Claim}
use Rattle.pivot_table.specs.declared.claims.Claim.TheVariants.{Won, Lost}

abbrev pub entry : ℕ → ℕ → ℕ → Entry
entry column before after = record { column = column; before = before; after = after }

abbrev pub view : List ℕ → List Entry → List ℕ → View
view leads told shares = record { leads = leads; told = told; shares = shares }

-- a word that is not 0 names a row whose lead is the column
abbrev pub NamesRowOf : List ℕ → ℕ → ℕ → Type 0
NamesRowOf leads column word = 0 < word → (word ≤ length leads) × (slice_index leads (word - 1) ≡ column)

abbrev pub option_word : Option ℕ → ℕ
option_word None = 0
option_word (Some row) = row + 1

abbrev pub word_row : ℕ → Option ℕ
word_row zero = None
word_row (suc row) = Some row

-- each old row's lead is its column
abbrev pub LeadsFit : List ℕ → List (Option ℕ) → Type 0
LeadsFit leads held = (column : ℕ) (row : ℕ) → slice_get held column ≡ Some (Some row) → (row < length leads) × (slice_index leads row ≡ column)

-- what was told of a column that has a row is its word
abbrev pub IsAsTold : List ℕ → Entry → Type 0
IsAsTold words e = 0 < e.after → slice_index words e.column ≡ e.after

abbrev pub Agrees : List ℕ → List Entry → Type 0
Agrees words told = All (IsAsTold words) told

abbrev pub total_by : {A : Type 0} → (A → ℕ) → List A → ℕ
total_by f [] = 0
total_by f (x ∷ xs) = f x + total_by f xs

-- of a pass in 2 ^ d parts: how many these shares have, of which one that was halved e times has 2 ^ (d - e)
abbrev pub parts : ℕ → List ℕ → ℕ
parts d shares = total_by (λ e. 2 ^ (d - e)) shares

-- how often they were halved, all together
abbrev pub halvings : List ℕ → ℕ
halvings shares = total_by (λ e. e) shares

-- together the shares are the pass, however finely it is cut
abbrev pub AreWhole : List ℕ → Type 0
AreWhole shares = (d : ℕ) → halvings shares ≤ d → parts d shares ≡ 2 ^ d

-- what is kept of shares of which half of the first is given away, and that half
abbrev pub kept_half : List ℕ → List ℕ
kept_half [] = []
kept_half (e ∷ shares) = (e + 1) ∷ shares

abbrev pub given_half : List ℕ → List ℕ
given_half [] = []
given_half (e ∷ shares) = (e + 1) ∷ []

abbrev pub rows_named : ℕ → ℕ
rows_named zero = 0
rows_named (suc n) = 1

-- 1 for a step that gave the column its row
abbrev pub won : ℕ → Entry → ℕ
won column e = cond (e.column == column) (cond (e.before == 0) (rows_named e.after) 0) 0

abbrev pub wins : ℕ → View → ℕ
wins column v = total_by (won column) v.told

abbrev pub was_held : List (Option ℕ) → ℕ → ℕ
was_held held column = rows_named (option_word (slice_index_or held column None))

pub record Kept {S : Type 0} (leads : List ℕ) (held : List (Option ℕ)) (s : State S View) : Type 0 where
  pub wide : length s.words ≡ length held
  pub named : (column : ℕ) → column < length s.words → NamesRowOf leads column (slice_index s.words column)
  pub stays : (column row : ℕ) → slice_get held column ≡ Some (Some row) → slice_index s.words column ≡ row + 1
  pub each_seat : (j : ℕ) (v : View) → get_elem? s.views j ≡ maybe.some v → Agrees s.words v.told
  -- a column that has a row had it at the start, or one seat was told once that it gave it
  pub once : (column : ℕ) → column < length s.words → total_by (wins column) s.views + was_held held column ≡ rows_named (slice_index s.words column)
  -- the shares of all seats are the pass
  pub shared : (d : ℕ) → total_by (λ v. halvings v.shares) s.views ≤ d → total_by (λ v. parts d v.shares) s.views ≡ 2 ^ d
  -- a seat without a share gave no column a row, and gives none
  pub spent : (j : ℕ) (v : View) → get_elem? s.views j ≡ maybe.some v → v.shares ≡ [] → (v.leads ≡ []) × ((column : ℕ) → wins column v ≡ 0)

abbrev PassSeat : Type 0 → Type 0
PassSeat S = Me S View

module _ {S : Type 0} where
  abbrev pub Tells : PassSeat S → ℕ → ℕ → ℕ → PassSeat S → Type 0
  Tells m column before after m' = (m' ≡ (view m.0.leads (m.0.told ++ entry column before after ∷ []) m.0.shares, m.1)) × NamesRowOf m.0.leads column after

  abbrev pub claimed : Step S → PassSeat S → ℕ → PassSeat S → Type 0
  claimed st m r m' = Tells m st.word r (either (r == 0) st.second r) m'

  abbrev pub looked_up : Step S → PassSeat S → ℕ → PassSeat S → Type 0
  looked_up st m r m' = Tells m st.word r r m'

  abbrev pub told : Seat S View → List Entry
  told seat = seat.me.0.told

  -- the seat's shares of the pass: the first seat has all of it, a split halves one, and a join adds
  abbrev pub shares : Seat S View → List ℕ
  shares seat = seat.me.0.shares

  -- a seat of this table, which knows the leads
  abbrev pub IsSeatOf : TableId → List ℕ → Seat S View → Type 0
  IsSeatOf table leads seat = (seat.table_id ≡ table) × (seat.me.0.leads ≡ leads) × (seat.me.1 ≡ [])

-- the word of the column before the claim, and after the claim of this row
abbrev pub found_by : Claim → ℕ
found_by Won = 0
found_by (Lost k) = k + 1

abbrev pub claim_word : ℕ → Claim → ℕ
claim_word row Won = row + 1
claim_word row (Lost k) = k + 1

-- the words at the end: as many as columns, each naming a row whose lead is its column; the old rows stayed, and what was told is so
pub record Tallies (leads : List ℕ) (held : List (Option ℕ)) (told : List Entry) (rows : List (Option ℕ)) : Type 0 where
  pub wide : length rows ≡ length held
  pub fits : LeadsFit leads rows
  pub stayed : (column row : ℕ) → slice_get held column ≡ Some (Some row) → slice_get rows column ≡ Some (Some row)
  pub as_told : All (λ (e : Entry). (k : ℕ) → e.after ≡ k + 1 → slice_get rows e.column ≡ Some (Some k)) told

-- each column that names a row had it before the pass, or it was told that the row's claim found the column free
abbrev pub AreHeldOrWon : List (Option ℕ) → List Entry → List (Option ℕ) → Type 0
AreHeldOrWon held told rows = (column row : ℕ) → slice_get rows column ≡ Some (Some row)
    → (slice_get held column ≡ Some (Some row)) ⊎ Contains told (entry column 0 (row + 1))
