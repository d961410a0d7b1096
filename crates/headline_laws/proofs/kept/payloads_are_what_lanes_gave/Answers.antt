use Rattle.headline_laws.proofs.LaneGiven as of
use Rattle.headline_laws.proofs.kept.payloads_are_what_lanes_gave.Goals as goal

pub returns : goal.returns
returns c = of.lane_given
