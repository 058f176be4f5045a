use Rattle.interreduce.proofs.Trails.{widened}
use Rattle.interreduce.proofs.member.trail_of_member.Goals as goal

pub returns : goal.returns
returns c = widened c.args.trail.ring c.args.trail.members c.args.member.now c.in_ok-trail.field-0 c.args.trail c.requires c.in_ok-trail.ensures
