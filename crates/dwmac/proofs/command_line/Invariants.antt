use Rattle.std.proofs.Common.{◌≡◌, map, take}
use Rattle.dwmac.proofs.command_line.Given as goal

-- the path has a store for each label so far
abbrev pub invariant-loop-label : goal.invariant-loop-label
invariant-loop-label l = map (λ s. s.label) l.path.stores.items ≡ take l.label-index l.label-items
