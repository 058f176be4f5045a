-- Values whose reduced bases are kept
use Rattle.std.proofs.Common.{Bool, List, None, Option, Some, [], ap, ap₂, arith, false, get_or, inl, inr, length, not, refl, slice_set, subst, subst₂, suc, sym, true, zero, ℕ, ◌<◌, ◌∙◌, ◌↔◌, ◌∷◌, ◌≡◌}
use Rattle.std.proofs.lemmas.Bool.{false≢true, true≢false}
use Rattle.std.specs.Prelude.{IfSome, IsSome, IsTrue, is_some}
use Rattle.formal_sums.specs.FormalSums.{Each}
use Rattle.term_lists.specs.Vectors.{HasPositions}
use Rattle.term_lists.specs.declared.key.Key.{Key}
use Rattle.term_lists.specs.declared.ring.Ring.{Ring}
use Rattle.groebner_iface.specs.Runs.{IsReducedBasisOf}
use Rattle.script_parse.specs.declared.named.NameInfo.{NameInfo}
use Rattle.session_values.proofs.Values.{sound_at}
use Rattle.session_values.specs.Answers.{Decides, IsOneModule}
use Rattle.session_values.specs.Texts.{verdict}
use Rattle.session_values.specs.Kept.{AreSound, IsSound}
use Rattle.session_values.specs.Held.{StoredShown}

abbrev Terms : Type 0
Terms = List (List (Key × ℕ))

-- what is kept of a sound value is its reduced basis
pub basis_kept : (ring : Ring) (rank : ℕ) (s : StoredShown) (basis : Terms) → IsSound ring rank s → s.basis ≡ Some basis → IsReducedBasisOf ring rank s.list basis
basis_kept ring rank s basis sound e = subst (λ o. IfSome o (IsReducedBasisOf ring rank s.list)) e sound.basis

-- two values are of one module where a law of their bases says so
pub compared :
    {P : Type 0} (ring : Ring) (infos : List NameInfo) (before after : List StoredShown) (i j : ℕ) (left right : Terms) (d : NameInfo)
    → AreSound ring infos after → i < length infos → j < length infos
    → (get_or infos i d).rank ≡ (get_or infos j d).rank
    → ((k : ℕ) (e : StoredShown) → (get_or after k e).list ≡ (get_or before k e).list)
    → ((e : StoredShown) → (get_or after i e).basis ≡ Some left) → ((e : StoredShown) → (get_or after j e).basis ≡ Some right)
    → ((rank : ℕ) (first second : Terms) → Each (HasPositions rank) first → Each (HasPositions rank) second
    → IsReducedBasisOf ring rank first left → IsReducedBasisOf ring rank second right → P ↔ IsOneModule ring first second)
    → (e : StoredShown) → P ↔ IsOneModule ring (get_or before i e).list (get_or before j e).list
compared {P} ring infos before after i j left right d sound wi wj rank lists l r law e =
    let rank_i = (get_or infos i d).rank in
    let s : IsSound ring rank_i (get_or after i e) = sound_at ring infos after i e d sound wi in
    let t : IsSound ring rank_i (get_or after j e) = subst (λ m. IsSound ring m (get_or after j e)) (sym rank) (sound_at ring infos after j e d sound wj) in
    subst₂ (λ f g. P ↔ IsOneModule ring f g) (lists i e) (lists j e)
    (law rank_i (get_or after i e).list (get_or after j e).list s.positions t.positions
    (basis_kept ring rank_i (get_or after i e) left s (l e)) (basis_kept ring rank_i (get_or after j e) right t (r e)))

-- one value is written: the lists are as they were
pub written_lists :
    (stored : List StoredShown) (i k : ℕ) (s e : StoredShown)
    → s.list ≡ (get_or stored i e).list → (get_or (slice_set stored i s) k e).list ≡ (get_or stored k e).list
written_lists [] i k s e h = refl
written_lists (t ∷ stored) zero zero s e h = h
written_lists (t ∷ stored) zero (suc k) s e h = refl
written_lists (t ∷ stored) (suc i) zero s e h = refl
written_lists (t ∷ stored) (suc i) (suc k) s e h = written_lists stored i k s e h

-- and no basis is lost, where it has one
pub written_bases :
    (stored : List StoredShown) (i k : ℕ) (s e : StoredShown)
    → IsSome s.basis → IsSome (get_or stored k e).basis → IsSome (get_or (slice_set stored i s) k e).basis
written_bases [] i k s e some h = h
written_bases (t ∷ stored) zero zero s e some h = some
written_bases (t ∷ stored) zero (suc k) s e some h = h
written_bases (t ∷ stored) (suc i) zero s e some h = h
written_bases (t ∷ stored) (suc i) (suc k) s e some h = written_bases stored i k s e some h

pub written_basis : (stored : List StoredShown) (i : ℕ) (s e : StoredShown) → i < length stored → IsSome s.basis → IsSome (get_or (slice_set stored i s) i e).basis
written_basis [] i s e lt some = absurd (omega arith)
written_basis (t ∷ stored) zero s e lt some = some
written_basis (t ∷ stored) (suc i) s e lt some = written_basis stored i s e (omega arith) some

-- an item is the same whatever stands past the end
pub at_place : {X : Type 0} (xs : List X) (i : ℕ) (x d : X) → i < length xs → x ≡ get_or xs i x → x ≡ get_or xs i d
at_place [] i x d lt e = absurd (omega arith)
at_place (y ∷ xs) zero x d lt e = e
at_place (y ∷ xs) (suc i) x d lt e = at_place xs i x d (omega arith) e

pub at_written : {X : Type 0} (xs : List X) (i : ℕ) (x y : X) → i < length xs → y ≡ get_or (slice_set xs i x) i y → y ≡ x
at_written [] i x y lt e = absurd (omega arith)
at_written (z ∷ xs) zero x y lt e = e
at_written (z ∷ xs) (suc i) x y lt e = at_written xs i x y (omega arith) e

-- what was there is written again
written_again : {X : Type 0} (xs : List X) (i : ℕ) (x z : X) → i < length xs → x ≡ get_or xs i x → slice_set (slice_set xs i z) i x ≡ xs
written_again [] i x z lt e = refl
written_again (y ∷ xs) zero x z lt e = ap (λ w. w ∷ xs) e
written_again (y ∷ xs) (suc i) x z lt e = ap (λ w. y ∷ w) (written_again xs i x z (omega arith) e)

pub written_same : {X : Type 0} (xs : List X) (i : ℕ) (x z : X) → i < length xs → x ≡ get_or xs i x → z ≡ x → slice_set xs i z ≡ xs
written_same [] i x z lt e f = refl
written_same (y ∷ xs) zero x z lt e f = ap (λ w. w ∷ xs) (f ∙ e)
written_same (y ∷ xs) (suc i) x z lt e f = ap (λ w. y ∷ w) (written_same xs i x z (omega arith) e f)

none_of : (o : Option Terms) → is_some o ≡ false → o ≡ None
none_of None e = refl
none_of (Some x) e = absurd (true≢false e)

-- a basis that was computed just now is taken away: all is as it was
pub undone :
    (stored : List StoredShown) (i : ℕ) (x z kept y forgot : StoredShown) (fresh : Bool)
    → i < length stored → x ≡ get_or stored i x → z ≡ get_or stored i z → is_some z.basis ≡ not fresh
    → kept.list ≡ x.list → (IsSome x.basis → kept ≡ x) → y ≡ get_or (slice_set stored i kept) i y
    → (fresh ≡ true → forgot ≡ record { list = y.list; basis = None }) → (fresh ≡ false → forgot ≡ y)
    → slice_set (slice_set stored i kept) i forgot ≡ stored
undone stored i x z kept y forgot fresh lt at_x at_z some list known at_y taken left =
    subst (λ f. slice_set (slice_set stored i kept) i f ≡ stored) (sym (go fresh some taken left)) (written_again stored i x kept lt at_x)
  where
    z_is : z ≡ x
    z_is = at_place stored i z x lt at_z ∙ sym at_x

    y_is : y ≡ kept
    y_is = at_written stored i kept y lt at_y

    go : (b : Bool) → is_some z.basis ≡ not b → (b ≡ true → forgot ≡ record { list = y.list; basis = None }) → (b ≡ false → forgot ≡ y) → forgot ≡ x
    go true s t l =
        t refl ∙ ap₂ (λ m o. record { list = m; basis = o }) (ap (λ v. v.list) y_is ∙ list) (sym (none_of x.basis (subst (λ v. is_some v.basis ≡ false) z_is s)))
    go false s t l = l refl ∙ y_is ∙ known (subst (λ v. is_some v.basis ≡ true) z_is s)

-- whether a text decides
pub decided : {P : Type 0} (b : Bool) → IsTrue b ↔ P → Decides P (verdict b)
decided true e = inl (e.0 refl, refl)
decided false e = inr ((λ p. false≢true (e.1 p)), refl)

pub length_written : {X : Type 0} (xs : List X) (i : ℕ) (x : X) → length (slice_set xs i x) ≡ length xs
length_written [] i x = refl
length_written (y ∷ xs) zero x = refl
length_written (y ∷ xs) (suc i) x = ap suc (length_written xs i x)
