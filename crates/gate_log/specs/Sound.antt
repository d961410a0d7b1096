-- What a log keeps of its records.
use Rattle.std.specs.Prelude.{◌+◌, ◌*◌, ◌^◌, ◌<◌, ◌≤◌, vec_len, vec_capacity}
use Rattle.gate_log.specs.declared.log.GateLog.TheInside.{Inside}
use Rattle.gate_log.specs.Places.{sizes_at, AreTied}
use Rattle.gate_log.specs.View.{LogView}

abbrev pub view_of : Inside → LogView
view_of a = record { area = a.area; sizes = sizes_at a.places.items; spare = a.spare }

-- 65,670 is the length of the longest record that is appended
pub record IsSound (a : Inside) : Type 0 where
  pub tied : AreTied a.places.items a.end
  pub room : vec_len a.places + a.spare ≤ vec_capacity a.places
  pub count : vec_len a.places + a.spare < 2 ^ 32
  pub reach : a.end + a.spare * 65670 < 2 ^ 63
  pub buffer : 0 < a.spare → 65670 ≤ vec_capacity a.line
