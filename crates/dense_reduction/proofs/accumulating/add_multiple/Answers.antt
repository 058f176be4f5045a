use Rattle.std.proofs.Common.{length}
use Rattle.dense_reduction.proofs.Entries.{entries_within}
use Rattle.dense_reduction.proofs.accumulating.add_multiple.Goals as goal

pub add_below-requires-clause-entries : goal.add_below-requires-clause-entries
add_below-requires-clause-entries c =
    let h = c.requires.entries in
    entries_within c.args.modulus.now.value h.0 (length c.args.acc.now) c.args.entries.now h.1

pub add_freely-requires-clause-within : goal.add_freely-requires-clause-within
add_freely-requires-clause-within c =
    let h = c.requires.entries in
    entries_within c.args.modulus.now.value h.0 (length c.args.acc.now) c.args.entries.now h.1

pub add_below-requires-clause-factor : goal.add_below-requires-clause-factor
add_below-requires-clause-factor c = c.requires.factor

pub add_below-requires-clause-limit : goal.add_below-requires-clause-limit
add_below-requires-clause-limit c = c.requires.limit

pub add_freely-requires-clause-factor : goal.add_freely-requires-clause-factor
add_freely-requires-clause-factor c = c.requires.factor

pub add_freely-requires-clause-limit : goal.add_freely-requires-clause-limit
add_freely-requires-clause-limit c = c.requires.limit
