use Rattle.std.proofs.Common.{[], ap, arith, get_or, length, subst, sym, take, ◌++◌, ◌-◌, ◌∙◌, ◌≤◌}
use Rattle.term_lists.specs.Rings.{variables}
use Rattle.vector_division.specs.Divisors.{AreDivisors}
use Rattle.interreduce.specs.Members.{HaveReducedTails}
use Rattle.interreduce.proofs.Earlier.{free_of_known, front_again, known_batch, leads_with, vectors_known}
use Rattle.interreduce.proofs.batches.tails_together.Goals as goal

pub push_all-requires-clause-place : goal.push_all-requires-clause-place
push_all-requires-clause-place g c =
    let same = c.in_ok-extend_from_slice.ensures.items ∙ ap (λ z. z ++ c.args.divisors.now) c.new-tried.ensures.items in
    subst (λ z. c.args.place ≤ length z) (sym same) c.requires.place

pub push_all-requires-clause-divisors : goal.push_all-requires-clause-divisors
push_all-requires-clause-divisors g c = λ n.
    let same = c.in_ok-extend_from_slice.ensures.items ∙ ap (λ z. z ++ c.args.divisors.now) c.new-tried.ensures.items in
    subst (AreDivisors n c.args.known) (sym same) (c.requires.divisors n)

pub reduced_by_known-requires-clause-divisors : goal.reduced_by_known-requires-clause-divisors
reduced_by_known-requires-clause-divisors g c κs within =
    let n = variables (g.F.Frame.over c.args.frame.now) in
    subst (AreDivisors n c.push_all.new.known) (sym c.deref.ensures.value) (c.in_ok-push_all.ensures.divisors n)

pub reduced_by_known-requires-clause-known : goal.reduced_by_known-requires-clause-known
reduced_by_known-requires-clause-known g c κs within =
    let list = g.L.Vectors.listed c.args.list.now in
    let batch = c.args.batch.now in
    vectors_known (g.F.Frame.over c.args.frame.now) (g.F.Frame.compare c.args.frame.now) list c.requires.vectors c.args.known c.push_all.new.known
    (take (length batch - 1) batch) c.requires.known
    (known_batch (λ i. get_or list i []) batch c.args.known c.new-copies.result.items c.push_members.new.vectors.items c.push_all.new.known _
    c.new-copies.ensures.items c.in_ok-push_members.ensures (omega arith) c.in_ok-push_all.ensures.known)

pub reduced_by_known-requires-clause-free : goal.reduced_by_known-requires-clause-free
reduced_by_known-requires-clause-free g c κs within =
    let n = variables (g.F.Frame.over c.args.frame.now) in
    let list = g.L.Vectors.listed c.args.list.now in
    let batch = c.args.batch.now in
    free_of_known n list c.push_all.new.known c.args.free.now
    (leads_with n list c.args.known c.push_all.new.known (take (length batch - 1) batch) c.requires.serving
    (known_batch (λ i. get_or list i []) batch c.args.known c.new-copies.result.items c.push_members.new.vectors.items c.push_all.new.known _
    c.new-copies.ensures.items c.in_ok-push_members.ensures (omega arith) c.in_ok-push_all.ensures.known))
    c.requires.free

pub returns-clause-known : goal.returns-clause-known
returns-clause-known g c =
    c.from_vec.ensures
    ∙ front_again c.args.known c.push_members.new.vectors.items c.into_vec-whole.result.items c.truncate.new.self.items c.len-width.result
    c.truncate.ensures.items (c.into_vec-whole.ensures ∙ c.in_ok-push_all.ensures.known) (omega arith)

pub returns-clause-tails : goal.returns-clause-tails
returns-clause-tails g c =
    let list = g.L.Vectors.listed c.args.list.now in
    let batch = c.args.batch.now in
    subst (λ z. HaveReducedTails (g.F.Frame.over c.args.frame.now) (g.F.Frame.compare c.args.frame.now) list z batch c.in_ok-members.members.items)
    (known_batch (λ i. get_or list i []) batch c.args.known c.new-copies.result.items c.push_members.new.vectors.items c.push_all.new.known _
    c.new-copies.ensures.items c.in_ok-push_members.ensures (omega arith) c.in_ok-push_all.ensures.known)
    c.in_ok-members.ensures
