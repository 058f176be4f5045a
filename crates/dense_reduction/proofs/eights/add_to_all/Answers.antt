use Rattle.std.proofs.Common.{length}
use Rattle.dense_reduction.proofs.Entries.{entries_within}
use Rattle.dense_reduction.proofs.eights.add_to_all.Goals as goal

pub add_below_to_all-requires-clause-entries : goal.add_below_to_all-requires-clause-entries
add_below_to_all-requires-clause-entries c =
    let h = c.requires.entries in
    entries_within c.args.modulus.now.value h.0 (length c.args.numbers.now) c.args.entries.now h.1

pub add_freely_to_all-requires-clause-within : goal.add_freely_to_all-requires-clause-within
add_freely_to_all-requires-clause-within c =
    let h = c.requires.entries in
    entries_within c.args.modulus.now.value h.0 (length c.args.numbers.now) c.args.entries.now h.1

pub add_below_to_all-requires-clause-limit : goal.add_below_to_all-requires-clause-limit
add_below_to_all-requires-clause-limit c = c.requires.limit

pub add_below_to_all-requires-clause-factors : goal.add_below_to_all-requires-clause-factors
add_below_to_all-requires-clause-factors c = c.requires.factors

pub add_freely_to_all-requires-clause-factors : goal.add_freely_to_all-requires-clause-factors
add_freely_to_all-requires-clause-factors c = c.requires.factors
