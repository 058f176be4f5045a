use Rattle.std.proofs.Common.{codes, map, string_bytes}
use Rattle.clap.specs.Matches.{found_of}
use Rattle.command_words.proofs.Numbers.{chosen_command, chosen_number, met_name, request_is}
use Rattle.command_words.proofs.words.read_words.Goals as goal

pub returns-in-Some-clause-request : goal.returns-in-Some-clause-request
returns-in-Some-clause-request c =
    let found = found_of c.in-Some.chosen.now in
    let rows = c.in-Some.ensures.rows in
    let entered = c.in-Ok.ensures.matches in
    rw c.update_of.ensures
    (request_is _ _ _ _ _ (map string_bytes c.args.words.now)
    (chosen_command c.in-Some.name.now found _ _ _ (met_name c.in-Some.name.now _ c.in-Some.ensures.name) rows entered c.command_of.ensures.command)
    (chosen_number _ _ _ (codes "workers") found _ _ _ rows entered c.number_of.ensures.number)
    (chosen_number _ _ _ (codes "helpers") found _ _ _ rows entered c.number_of-in-Some.ensures.number)
    (chosen_number _ _ _ (codes "pairs") found _ _ _ rows entered c.number_of-in-Some-2.ensures.number)
    (chosen_number _ _ _ (codes "update") found _ _ _ rows entered c.number_of-in-Some-3.ensures.number))
