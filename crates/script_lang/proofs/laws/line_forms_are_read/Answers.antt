use Rattle.script_lang.proofs.LineAnswerLemmas.{script_line_right, script_line_read, lane_line_right, lane_line_read}
use Rattle.script_lang.proofs.laws.line_forms_are_read.Goals as goal

pub returns-clause-outside : goal.returns-clause-outside
returns-clause-outside c = script_line_right

pub returns-clause-every_outside : goal.returns-clause-every_outside
returns-clause-every_outside c = script_line_read

pub returns-clause-in_lane : goal.returns-clause-in_lane
returns-clause-in_lane c = lane_line_right

pub returns-clause-every_in_lane : goal.returns-clause-every_in_lane
returns-clause-every_in_lane c = lane_line_read
