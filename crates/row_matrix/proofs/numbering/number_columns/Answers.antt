use Rattle.std.proofs.Common.{[], arith, drop, get_or, length, set, subst, subst₂, sym, take, ◌++◌, ◌+◌, ◌<◌, ◌∙◌, ◌∷◌, ◌≡◌, ◌≤◌}
use Rattle.std.proofs.lemmas.List.{drop_all, drop_more, get_or_default, take_all}
use Rattle.std.specs.Prelude.{Contains}
use Rattle.term_lists.proofs.Scaling.{take_item}
use Rattle.term_lists.specs.Rings.{variables}
use Rattle.row_matrix.proofs.KeyPlaces.{placing_end, placing_step}
use Rattle.row_matrix.specs.Hashes.{IsNumbered, no_key}
use Rattle.row_matrix.specs.Naming.{IsPlacing}
use Rattle.row_matrix.proofs.numbering.number_columns.Goals as goal

pub loop-number-preserved : goal.loop-number-preserved
loop-number-preserved g c =
    let ring = g.F.Frame.over c.args.frame.now in
    let n = variables ring in
    let compare = g.F.Frame.compare c.args.frame.now n in
    let laws = g.met.F.Frame.laws c.args.frame.now n 0 in
    let keys = c.args.keys.now in
    let numbers = c.deref-number-items.result.now in
    let i = c.loop-number.number-index in
    let lt : i < length numbers = omega arith in
    let x = get_or numbers i 0 in
    let columns = c.loop-number.columns.items in
    let places = c.loop-number.places.items in
    let at = c.in_ok-places-2.field-0 in
    let kept : at ≡ c.in_ok-column.column = c.in_ok-places-2.ensures in
    let so_far : IsPlacing n ring.weights compare keys columns places (take i numbers) (x ∷ drop (i + 1) numbers) =
    subst (λ z. IsPlacing n ring.weights compare keys columns places (take i numbers) z) (drop_more numbers i 0 lt) c.loop-number.invariant in
    let known : x < length keys = so_far.known.0 in
    let key : c.index-keys-number.result ≡ get_or keys x no_key = c.index-keys-number.is ∙ get_or_default keys x c.index-keys-number.result no_key known in
    let more : take (i + 1) numbers ≡ take i numbers ++ x ∷ [] = take_item numbers i x lt (get_or_default numbers i 0 x lt) in
    subst (λ z. IsPlacing n ring.weights compare keys c.column_of.new.columns.items (set places x at) z (drop (i + 1) numbers)) (sym more)
    (placing_step n compare laws ring.weights keys columns c.column_of.new.columns.items places (take i numbers) (drop (i + 1) numbers) x at
    c.requires so_far
    (subst (IsNumbered columns c.column_of.new.columns.items (get_or keys x no_key)) (sym kept)
    (subst (λ k. IsNumbered columns c.column_of.new.columns.items k c.in_ok-column.column) key c.in_ok-column.ensures.numbered))
    (λ e some same. c.in_ok-column.ensures.fresh (sym kept ∙ e) some (same ∙ sym key)))

pub returns : goal.returns
returns g c =
    let ring = g.F.Frame.over c.args.frame.now in
    let n = variables ring in
    let compare = g.F.Frame.compare c.args.frame.now n in
    let laws = g.met.F.Frame.laws c.args.frame.now n 0 in
    let keys = c.args.keys.now in
    let numbers = c.deref-number-items.result.now in
    let i = c.loop-number.number-index in
    let le : length numbers ≤ i = c.loop-number-test.false in
    let placing : IsPlacing n ring.weights compare keys c.loop-number.columns.items c.loop-number.places.items numbers [] =
    subst₂ (λ a b. IsPlacing n ring.weights compare keys c.loop-number.columns.items c.loop-number.places.items a b) (take_all i numbers le) (drop_all i numbers le) c.loop-number.invariant in
    placing_end n compare laws ring.weights keys c.loop-number.columns.items c.loop-number.places.items numbers
    (λ k l. subst (λ z. Contains z k) (sym c.deref-number-items.ensures.value) (c.in_ok-numbers.ensures.all k l)) placing

pub sorted_numbers-requires : goal.sorted_numbers-requires
sorted_numbers-requires g c = c.requires
