use Rattle.std.proofs.Common.{◌≡◌, map, take}
use Rattle.std.specs.List.{filter_map}
use Rattle.dts_tree.specs.Tree.{seen_value}
use Rattle.dts_bindings.specs.Properties.{text_of}
use Rattle.dts_bindings.proofs.reading.kept_texts.Given as goal

-- the strings among the values so far
abbrev pub invariant-loop-value : goal.invariant-loop-value
invariant-loop-value l = map (λ t. t.now) l.found.items ≡ filter_map text_of (map seen_value (take l.value-index l.values))
