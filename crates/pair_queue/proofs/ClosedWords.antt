-- Pairs of one member that are closed, a word of flags at a time
use Rattle.std.proofs.Common.{Bool, ap, arith, eq-eqb, eqb-true, false, inl, inr, length, refl, subst, sym, true, ℕ, ◌*◌, ◌+◌, ◌-◌, ◌<◌, ◌==◌, ◌^◌, ◌∙◌, ◌≡◌, ◌≤◌, ◌⊎◌}
use Rattle.std.specs.Int.{bit_at}
use Rattle.std.specs.Prelude.{not, ◌&&◌}
use Rattle.std.proofs.lemmas.Bool.{cases_eq, cases_lt, false≢true}
use Rattle.std.proofs.lemmas.Nat.Bits.{bit_at_above}
use Rattle.basis_steps.proofs.Counting.{is_same_pair-true}
use Rattle.basis_steps.specs.Pairs.{Pair, is_same_pair, pair_of}
use Rattle.pair_updates.proofs.Leading.{leads_length}
use Rattle.pair_queue.proofs.Mirroring.{flag_within}
use Rattle.pair_queue.proofs.Putting.{chain_third, either, made_chain, no_flag, not_flagged}
use Rattle.pair_updates.specs.Leads.{LeadsShown, sums_shown}
use Rattle.pair_updates.specs.LeadCriteria.{DividesLcm}
use Rattle.pair_queue.specs.Rows.{NoneWithout}
use Rattle.pair_queue.specs.Skipping.{ChainSpares}
use Rattle.pair_queue.specs.Tables.{TableShown, flag, flagged, member_count}

-- ---- what the bits say
and_left : (x y : Bool) → (x && y) ≡ true → x ≡ true
and_left true y h = refl
and_left false y h = absurd (false≢true h)

and_right : (x y : Bool) → (x && not y) ≡ true → y ≡ false
and_right true true h = absurd (false≢true h)
and_right true false h = refl
and_right false y h = absurd (false≢true h)

neither : (x y : Bool) → (x && not y) ≡ false → x ≡ true → y ≡ true
neither x true h e = refl
neither true false h e = absurd (false≢true (sym h))
neither false false h e = absurd (false≢true e)

pub bit_here : (word r : ℕ) (x y : Bool) → (bit_at word r == 1) ≡ (x && not y) → bit_at word r ≡ 1 → x ≡ true
bit_here word r x y h e = and_left x (not y) (sym h ∙ eq-eqb (bit_at word r) 1 e)

pub bit_there : (word r : ℕ) (x y : Bool) → (bit_at word r == 1) ≡ (x && not y) → bit_at word r ≡ 1 → y ≡ false
bit_there word r x y h e = and_right x y (sym h ∙ eq-eqb (bit_at word r) 1 e)

pub no_bit : (word r : ℕ) (x y : Bool) → (bit_at word r == 1) ≡ (x && not y) → (bit_at word r ≡ 1 → ⊥) → x ≡ true → y ≡ true
no_bit word r x y h n e = go (bit_at word r == 1) refl
  where
    go : (b : Bool) → (bit_at word r == 1) ≡ b → y ≡ true
    go true t = absurd (n (eqb-true (bit_at word r) 1 t))
    go false t = neither x y (sym h ∙ t) e

-- a pair of two members of the table
pub apart_of : (t : TableShown) (a c : ℕ) → flag t (pair_of a c) ≡ true → a ≡ c → ⊥
apart_of t a c h e = let l = (flag_within t (pair_of a c) h).0 in omega (arith, l, e)

pub member_of : (t : TableShown) (a c : ℕ) → flag t (pair_of a c) ≡ true → c < member_count t
member_of t a c h = let m = (flag_within t (pair_of a c) h).1 in omega (arith, m)

-- ---- one more bit
abbrev pub IsClosedBy : LeadsShown → (a k first found : ℕ) → Pair → Type 0
IsClosedBy m a k first found x = (r : ℕ) × (r < 64) × (bit_at found r ≡ 1) × (x ≡ pair_of a (first + r)) × DividesLcm m x k

-- a bit of a word has its place
pub place_within : (word r : ℕ) → word < 2 ^ 64 → bit_at word r ≡ 1 → r < 64
place_within word r fits one = go (cases_lt r 64)
  where
    go : (r < 64) ⊎ (64 ≤ r) → r < 64
    go (inl l) = l
    go (inr l) = absurd (omega (arith, one, bit_at_above word 64 r fits l))

-- the next bit is that of a member
pub next_member :
    (t : TableShown) (a first found done place left next : ℕ)
    → found < 2 ^ 64 → bit_at left place ≡ bit_at found (done + place) → bit_at left place ≡ 1
    → ((r : ℕ) → r < 64 → bit_at found r ≡ 1 → flag t (pair_of a (first + r)) ≡ true) → next ≡ first + done → next + place < member_count t
next_member t a first found done place left next fits same one all is =
    let bit : bit_at found (done + place) ≡ 1 = sym same ∙ one in
    let h : first + (done + place) < member_count t =
    member_of t a (first + (done + place)) (all (done + place) (place_within found (done + place) fits bit) bit) in
    omega (arith, h, is)

-- the pair of a and the member c with this bit is looked at
module _ (m : LeadsShown) (start old new : TableShown) (a k first found at c : ℕ) (is_c : c ≡ first + at) (low : at < 64) (bit : bit_at found at ≡ 1)
    (other : (x : Pair) → is_same_pair x (pair_of a c) ≡ false → flag new x ≡ flag old x)
    (shut : flag new (pair_of a c) ≡ false → flag old (pair_of a c) ≡ true → DividesLcm m (pair_of a c) k) where
  pub closed_more : ((x : Pair) → flag old x ≡ false → flag start x ≡ true → IsClosedBy m a k first found x)
      → (x : Pair) → flag new x ≡ false → flag start x ≡ true → IsClosedBy m a k first found x
  closed_more before x e f = go (either (flag old x)) (either (is_same_pair x (pair_of a c)))
    where
      go : (flag old x ≡ true) ⊎ (flag old x ≡ false)
          → (is_same_pair x (pair_of a c) ≡ true) ⊎ (is_same_pair x (pair_of a c) ≡ false) → IsClosedBy m a k first found x
      go (inr g) s = before x g f
      go (inl g) (inr s) = absurd (false≢true (sym e ∙ other x s ∙ g))
      go (inl g) (inl s) =
          let is : x ≡ pair_of a c = is_same_pair-true x (pair_of a c) s in (
            at,
            low,
            bit,
            is ∙ ap (pair_of a) is_c,
            subst (λ (z : Pair). DividesLcm m z k) (sym is) (shut (ap (flag new) (sym is) ∙ e) (ap (flag old) (sym is) ∙ g)),
          )

-- the bits up to this one are looked at
pub free_more :
    (m : LeadsShown) (old new : TableShown) (a k first found done place left c : ℕ) → c ≡ first + (done + place)
    → ((r : ℕ) → bit_at left r ≡ bit_at found (done + r)) → ((r : ℕ) → r < place → bit_at left r ≡ 0)
    → ((x : Pair) → flag new x ≡ true → flag old x ≡ true)
    → (flag new (pair_of a c) ≡ true → DividesLcm m (pair_of a c) k → ⊥)
    → ((r : ℕ) → r < done → bit_at found r ≡ 1 → flag old (pair_of a (first + r)) ≡ true → DividesLcm m (pair_of a (first + r)) k → ⊥)
    → (r : ℕ) → r < done + place + 1 → bit_at found r ≡ 1 → flag new (pair_of a (first + r)) ≡ true → DividesLcm m (pair_of a (first + r)) k → ⊥
free_more m old new a k first found done place left c is_c bits below fewer here before r l one t d = go (cases_lt r done) (cases_lt r (done + place))
  where
    go : (r < done) ⊎ (done ≤ r) → (r < done + place) ⊎ (done + place ≤ r) → ⊥
    go (inl q) s = before r q one (fewer (pair_of a (first + r)) t) d
    go (inr q) (inl s) =
        let back : done + (r - done) ≡ r = omega (arith, q) in
        let none : bit_at left (r - done) ≡ 0 = below (r - done) (omega (arith, q, s)) in
        let same : bit_at left (r - done) ≡ bit_at found r = bits (r - done) ∙ ap (bit_at found) back in
        omega (arith, none, same, one)
    go (inr q) (inr s) =
        let e : first + r ≡ c = omega (arith, l, s, is_c) in
        here (ap (λ z. flag new (pair_of a z)) (sym e) ∙ t) (subst (λ z. DividesLcm m (pair_of a z) k) e d)

-- ---- one more word
module _ (m : LeadsShown) (start old new w : TableShown) (a k index found : ℕ)
    (word : (r : ℕ) → r < 64 → (bit_at found r == 1) ≡ (flag old (pair_of a (64 * index + r)) && not (flag w (pair_of k (64 * index + r)))))
    (known : k < length m.keys) (apart : a ≡ k → ⊥) (gone : flag w (pair_of a k) ≡ false) (shut : flag start (pair_of a k) ≡ false) where
  pub chains_more :
      ((x : Pair) → flag new x ≡ false → flag old x ≡ true → IsClosedBy m a k (64 * index) found x)
      → ((x : Pair) → flag old x ≡ false → flag start x ≡ true → ChainSpares m (flag w) x k)
      → (x : Pair) → flag new x ≡ false → flag start x ≡ true → ChainSpares m (flag w) x k
  chains_more closed before x e f = go (either (flag old x))
    where
      made : IsClosedBy m a k (64 * index) found x → ChainSpares m (flag w) x k
      made (r, l, one, is, divides) =
          let c = 64 * index + r in
          let started : flag start (pair_of a c) ≡ true = ap (flag start) (sym is) ∙ f in
          subst (λ (z : Pair). ChainSpares m (flag w) z k) (sym is)
          (made_chain (sums_shown m) (flagged (flag w)) a c k
          (omega (arith, known, leads_length m.variables m.keys))
          apart (λ q. false≢true (sym shut ∙ ap (λ z. flag start (pair_of a z)) q ∙ started)) (subst (λ (z : Pair). DividesLcm m z k) is divides)
          (not_flagged (flag w) (pair_of a k) gone)
          (not_flagged (flag w) (pair_of k c) (bit_there found r (flag old (pair_of a c)) (flag w (pair_of k c)) (word r l) one)))

      go : (flag old x ≡ true) ⊎ (flag old x ≡ false) → ChainSpares m (flag w) x k
      go (inl g) = made (closed x e g)
      go (inr g) = before x g f

  pub frees_more :
      ((x : Pair) → flag new x ≡ true → flag old x ≡ true)
      → ((r : ℕ) → r < 64 → bit_at found r ≡ 1 → flag new (pair_of a (64 * index + r)) ≡ true → DividesLcm m (pair_of a (64 * index + r)) k → ⊥)
      → ((d : ℕ) → d < 64 * index → flag old (pair_of a d) ≡ true → ChainSpares m (flag w) (pair_of a d) k → ⊥)
      → (d : ℕ) → d < 64 * (index + 1) → flag new (pair_of a d) ≡ true → ChainSpares m (flag w) (pair_of a d) k → ⊥
  frees_more fewer free before d l t chain = go (cases_lt d (64 * index))
    where
      at : ℕ
      at = d - 64 * index

      here : 64 * index + at ≡ d → at < 64 → (bit_at found at ≡ 1) ⊎ (bit_at found at ≡ 1 → ⊥) → ⊥
      here e low (inl one) = free at low one (ap (λ z. flag new (pair_of a z)) e ∙ t) (subst (λ z. DividesLcm m (pair_of a z) k) (sym e) chain.divides)
      here e low (inr none) =
          let mine : flag old (pair_of a (64 * index + at)) ≡ true = ap (λ z. flag old (pair_of a z)) e ∙ fewer (pair_of a d) t in
          let theirs : flag w (pair_of k (64 * index + at)) ≡ true =
          no_bit found at (flag old (pair_of a (64 * index + at))) (flag w (pair_of k (64 * index + at))) (word at low) none mine in
          no_flag (flag w) (pair_of k d) (chain_third (sums_shown m) (flagged (flag w)) a d k chain) (ap (λ z. flag w (pair_of k z)) (sym e) ∙ theirs)

      go : (d < 64 * index) ⊎ (64 * index ≤ d) → ⊥
      go (inl q) = before d q (fewer (pair_of a d) t) chain
      go (inr q) = here (omega (arith, q)) (omega (arith, q, l)) (cases_eq (bit_at found at) 1)

-- ---- words that are passed over
pub frees_passed :
    (m : LeadsShown) (due w : TableShown) (a k from next : ℕ)
    → NoneWithout (λ c. flag due (pair_of a c)) (λ c. flag w (pair_of k c)) from next
    → ((d : ℕ) → d < 64 * from → flag due (pair_of a d) ≡ true → ChainSpares m (flag w) (pair_of a d) k → ⊥)
    → (d : ℕ) → d < 64 * next → flag due (pair_of a d) ≡ true → ChainSpares m (flag w) (pair_of a d) k → ⊥
frees_passed m due w a k from next none before d l t chain = go (cases_lt d (64 * from))
  where
    go : (d < 64 * from) ⊎ (64 * from ≤ d) → ⊥
    go (inl q) = before d q t chain
    go (inr q) =
        no_flag (flag w) (pair_of k d) (chain_third (sums_shown m) (flagged (flag w)) a d k chain)
        (neither (flag due (pair_of a d)) (flag w (pair_of k d)) (none d q l) t)
