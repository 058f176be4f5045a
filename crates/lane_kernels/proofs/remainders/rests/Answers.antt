use Rattle.std.proofs.Common.{ap, length, subst, sym, ◌%◌, ◌/◌, ◌^◌, ◌∙◌}
use Rattle.std.proofs.lemmas.List.{length-map}
use Rattle.std.specs.Simd.Lanes.{Each2}
use Rattle.lane_kernels.proofs.Barrett.{IsRest, rest}
use Rattle.lane_kernels.proofs.LaneMaps.{all_rests, rests_are}
use Rattle.lane_kernels.proofs.remainders.rests.Goals as goal

pub returns-clause-count : goal.returns-clause-count
returns-clause-count c =
    let m = c.args.inverse in
    ap length (rests_are c.args.modulus (m / 2 ^ 32) (m % 2 ^ 32) 8 c.args.numbers c.fits-numbers.0)
    ∙ length-map c.args.numbers (rest c.args.modulus (m / 2 ^ 32) (m % 2 ^ 32)) ∙ c.fits-numbers.0

pub returns-clause-rests : goal.returns-clause-rests
returns-clause-rests c =
    let m = c.args.inverse in
    subst (Each2 (IsRest c.args.modulus) c.args.numbers) (sym (rests_are c.args.modulus (m / 2 ^ 32) (m % 2 ^ 32) 8 c.args.numbers c.fits-numbers.0))
    (all_rests c.args.modulus m c.args.numbers c.requires.modulus.0 c.requires.inverse c.fits-numbers.1)
