use Rattle.std.proofs.Common.{[], ap, arith, length, subst, subst₂, sym, ◌*◌, ◌<◌, ◌∙◌, ◌∷◌, ◌≡◌}
use Rattle.formal_sums.specs.FormalSums.{Each}
use Rattle.operation_laws.specs.Operations.{blocks, stacked}
use Rattle.term_lists.specs.Rings.{variables}
use Rattle.term_lists.specs.Vectors.{AreTermsOver, HasPositions, sums_of}
use Rattle.groebner_iface.specs.Calls.{NoTrail}
use Rattle.groebner_iface.proofs.CallingRuns.{more_stops}
use Rattle.syzygy_engine.specs.Marking.{position_ring}
use Rattle.syzygy_engine.specs.Modulo.{AreModuloRuns}
use Rattle.syzygy_engine.specs.Runs.{AreVectorsFor}
use Rattle.syzygy_engine.proofs.Marks.{loose_list}
use Rattle.syzygy_engine.proofs.ModuloRuns.{runs_for}
use Rattle.ideal_ops.specs.Components.{AreColonRuns}
use Rattle.ideal_ops.proofs.Room.{blocks_room, rank_room}
use Rattle.ideal_ops.proofs.Stacked.{runs_of_some}
use Rattle.ideal_ops.proofs.SyzygyAnswers.{basis_of_colon, blocks_positions, stacked_positions}
use Rattle.ideal_ops.proofs.colons.colon_by_marks.Goals as goal

pub first_mark-end-requires : goal.first_mark-end-requires
first_mark-end-requires g c = rank_room c.args.rank c.len-s.result (length c.args.by.now) c.len-s.ensures (omega (arith, c.len-s.ensures, c.requires.some)) c.requires.room

pub stacked_list-requires-clause-by : goal.stacked_list-requires-clause-by
stacked_list-requires-clause-by g c = loose_list c.args.ring.now c.args.by.now c.requires.by

pub stacked_list-requires-clause-by_positions : goal.stacked_list-requires-clause-by_positions
stacked_list-requires-clause-by_positions g c = subst (λ r. Each (HasPositions r) c.args.by.now) (sym c.first_mark-end.ensures) c.requires.by_positions

pub stacked_list-requires-clause-room : goal.stacked_list-requires-clause-room
stacked_list-requires-clause-room g c = subst (λ r. r * length c.args.by.now < 9223372036854775808) (sym c.first_mark-end.ensures) c.requires.room

pub block_list-requires-clause-terms : goal.block_list-requires-clause-terms
block_list-requires-clause-terms g c = subst (λ r. Each (AreTermsOver r) c.args.list.now) (sym c.in_ok-over.ensures) (loose_list c.args.ring.now c.args.list.now c.requires.vectors)

pub block_list-requires-clause-positions : goal.block_list-requires-clause-positions
block_list-requires-clause-positions g c = subst (λ r. Each (HasPositions r) c.args.list.now) (sym c.first_mark-end.ensures) c.requires.positions

pub block_list-requires-clause-room : goal.block_list-requires-clause-room
block_list-requires-clause-room g c =
    subst (λ r. r * c.len-s.result < 9223372036854775808) (sym c.first_mark-end.ensures)
    (blocks_room c.args.rank c.len-s.result (length c.args.by.now) c.len-s.ensures c.requires.room)

pub rank_of_blocks-whole-requires : goal.rank_of_blocks-whole-requires
rank_of_blocks-whole-requires g c = blocks_room c.args.rank c.len-s.result (length c.args.by.now) c.len-s.ensures c.requires.room

pub kernel_modulo-requires-clause-heads : goal.kernel_modulo-requires-clause-heads
kernel_modulo-requires-clause-heads g c κs within = c.in_ok-heads.ensures.vectors

pub kernel_modulo-requires-clause-members : goal.kernel_modulo-requires-clause-members
kernel_modulo-requires-clause-members g c κs within =
    let ring = c.args.ring.now in
    let rank = c.args.rank in
    let list = c.args.list.now in
    let by = c.args.by.now in
    let heads = c.in_ok-heads.heads in
    let members = c.in_ok-members.members in
    let x = subst (λ m. AreVectorsFor ring (stacked m 0 (sums_of (variables ring) by) ∷ []) heads) c.first_mark-end.ensures c.in_ok-heads.ensures in
    let blocked = subst (λ r. AreVectorsFor r (blocks c.first_mark-end.result 0 c.len-s.result (sums_of (variables r) list)) members) c.in_ok-over.ensures c.in_ok-members.ensures in
    let y = subst₂ (λ m s. AreVectorsFor (position_ring ring) (blocks m 0 s (sums_of (variables ring) list)) members) c.first_mark-end.ensures c.len-s.ensures blocked in
    let q_is : c.rank_of_blocks-whole.result ≡ rank * length by = c.rank_of_blocks-whole.ensures ∙ ap (λ s. rank * s) c.len-s.ensures in
    y.vectors

pub kernel_modulo-requires-clause-heads_positions : goal.kernel_modulo-requires-clause-heads_positions
kernel_modulo-requires-clause-heads_positions g c κs within =
    let ring = c.args.ring.now in
    let rank = c.args.rank in
    let list = c.args.list.now in
    let by = c.args.by.now in
    let heads = c.in_ok-heads.heads in
    let members = c.in_ok-members.members in
    let x = subst (λ m. AreVectorsFor ring (stacked m 0 (sums_of (variables ring) by) ∷ []) heads) c.first_mark-end.ensures c.in_ok-heads.ensures in
    let blocked = subst (λ r. AreVectorsFor r (blocks c.first_mark-end.result 0 c.len-s.result (sums_of (variables r) list)) members) c.in_ok-over.ensures c.in_ok-members.ensures in
    let y = subst₂ (λ m s. AreVectorsFor (position_ring ring) (blocks m 0 s (sums_of (variables ring) list)) members) c.first_mark-end.ensures c.len-s.ensures blocked in
    let q_is : c.rank_of_blocks-whole.result ≡ rank * length by = c.rank_of_blocks-whole.ensures ∙ ap (λ s. rank * s) c.len-s.ensures in
    subst (λ q. Each (HasPositions q) heads) (sym q_is) (stacked_positions ring rank list by heads members (c.lawful_setting.ensures 0) c.requires.positions c.requires.by_positions x y)

pub kernel_modulo-requires-clause-members_positions : goal.kernel_modulo-requires-clause-members_positions
kernel_modulo-requires-clause-members_positions g c κs within =
    let ring = c.args.ring.now in
    let rank = c.args.rank in
    let list = c.args.list.now in
    let by = c.args.by.now in
    let heads = c.in_ok-heads.heads in
    let members = c.in_ok-members.members in
    let x = subst (λ m. AreVectorsFor ring (stacked m 0 (sums_of (variables ring) by) ∷ []) heads) c.first_mark-end.ensures c.in_ok-heads.ensures in
    let blocked = subst (λ r. AreVectorsFor r (blocks c.first_mark-end.result 0 c.len-s.result (sums_of (variables r) list)) members) c.in_ok-over.ensures c.in_ok-members.ensures in
    let y = subst₂ (λ m s. AreVectorsFor (position_ring ring) (blocks m 0 s (sums_of (variables ring) list)) members) c.first_mark-end.ensures c.len-s.ensures blocked in
    let q_is : c.rank_of_blocks-whole.result ≡ rank * length by = c.rank_of_blocks-whole.ensures ∙ ap (λ s. rank * s) c.len-s.ensures in
    subst (λ q. Each (HasPositions q) members) (sym q_is) (blocks_positions ring rank list by heads members (c.lawful_setting.ensures 0) c.requires.positions c.requires.by_positions x y)

pub kernel_modulo-requires-clause-room : goal.kernel_modulo-requires-clause-room
kernel_modulo-requires-clause-room g c κs within =
    let ring = c.args.ring.now in
    let rank = c.args.rank in
    let list = c.args.list.now in
    let by = c.args.by.now in
    let heads = c.in_ok-heads.heads in
    let members = c.in_ok-members.members in
    let x = subst (λ m. AreVectorsFor ring (stacked m 0 (sums_of (variables ring) by) ∷ []) heads) c.first_mark-end.ensures c.in_ok-heads.ensures in
    let blocked = subst (λ r. AreVectorsFor r (blocks c.first_mark-end.result 0 c.len-s.result (sums_of (variables r) list)) members) c.in_ok-over.ensures c.in_ok-members.ensures in
    let y = subst₂ (λ m s. AreVectorsFor (position_ring ring) (blocks m 0 s (sums_of (variables ring) list)) members) c.first_mark-end.ensures c.len-s.ensures blocked in
    let q_is : c.rank_of_blocks-whole.result ≡ rank * length by = c.rank_of_blocks-whole.ensures ∙ ap (λ s. rank * s) c.len-s.ensures in
    subst (λ q. q < 9223372036854775808) (sym q_is) c.requires.room

pub returns-in-Ok-clause-basis : goal.returns-in-Ok-clause-basis
returns-in-Ok-clause-basis g c =
    let ring = c.args.ring.now in
    let rank = c.args.rank in
    let list = c.args.list.now in
    let by = c.args.by.now in
    let heads = c.in_ok-heads.heads in
    let members = c.in_ok-members.members in
    let x = subst (λ m. AreVectorsFor ring (stacked m 0 (sums_of (variables ring) by) ∷ []) heads) c.first_mark-end.ensures c.in_ok-heads.ensures in
    let blocked = subst (λ r. AreVectorsFor r (blocks c.first_mark-end.result 0 c.len-s.result (sums_of (variables r) list)) members) c.in_ok-over.ensures c.in_ok-members.ensures in
    let y = subst₂ (λ m s. AreVectorsFor (position_ring ring) (blocks m 0 s (sums_of (variables ring) list)) members) c.first_mark-end.ensures c.len-s.ensures blocked in
    let q_is : c.rank_of_blocks-whole.result ≡ rank * length by = c.rank_of_blocks-whole.ensures ∙ ap (λ s. rank * s) c.len-s.ensures in
    basis_of_colon ring rank list by heads members (c.lawful_setting.ensures 0) c.requires.positions c.requires.by_positions x y c.in-Ok.basis c.in-Ok.ensures.basis

pub returns-clause-stop : goal.returns-clause-stop
returns-clause-stop g c =
    let ring = c.args.ring.now in
    let rank = c.args.rank in
    let list = c.args.list.now in
    let by = c.args.by.now in
    let heads = c.in_ok-heads.heads in
    let members = c.in_ok-members.members in
    let x = subst (λ m. AreVectorsFor ring (stacked m 0 (sums_of (variables ring) by) ∷ []) heads) c.first_mark-end.ensures c.in_ok-heads.ensures in
    let blocked = subst (λ r. AreVectorsFor r (blocks c.first_mark-end.result 0 c.len-s.result (sums_of (variables r) list)) members) c.in_ok-over.ensures c.in_ok-members.ensures in
    let y = subst₂ (λ m s. AreVectorsFor (position_ring ring) (blocks m 0 s (sums_of (variables ring) list)) members) c.first_mark-end.ensures c.len-s.ensures blocked in
    let q_is : c.rank_of_blocks-whole.result ≡ rank * length by = c.rank_of_blocks-whole.ensures ∙ ap (λ s. rank * s) c.len-s.ensures in
    let X = stacked rank 0 (sums_of (variables ring) by) ∷ [] in
    let Y = blocks rank 0 (length by) (sums_of (variables ring) list) in
    let some : 0 < length by = c.requires.some in
    let q = c.rank_of_blocks-whole.result in
    more_stops _ _ _ _ (AreModuloRuns ring q (sums_of (variables ring) heads) (sums_of (variables ring) members)) (AreColonRuns ring rank list by) NoTrail NoTrail
    (λ r m l h. runs_of_some ring rank list by some r m l (subst (λ k. AreModuloRuns ring k X Y r m l) q_is (runs_for ring q heads members X Y x y r m l h)))
    (λ t h. h) c.in-Err.stop c.in-Err.ensures.stop
