use Rattle.std.proofs.Common.{◌≡◌, ◌++◌, map, take}
use Rattle.std.specs.List.{flat_map}
use Rattle.schema_lang.specs.Spelling.{printed_line, object_words}
use Rattle.schema_lang.proofs.print.push_objects.Given as goal

abbrev pub invariant-loop-object : goal.invariant-loop-object
invariant-loop-object l = l.out.items ≡ l.fn.out.items ++ flat_map printed_line (map object_words (take l.object-index l.objects))
