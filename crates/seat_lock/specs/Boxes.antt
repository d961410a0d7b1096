-- A value on the heap, as the slot of a lock has it.
use Rattle.std.specs.Global.{Box}

-- what is said of the value, said of its place on the heap
abbrev pub in_box : {T S : Type 0} → (T → S) → Box T → S
in_box state b = state b.value
