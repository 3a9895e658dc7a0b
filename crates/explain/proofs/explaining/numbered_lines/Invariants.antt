use Rattle.std.proofs.Common.{◌≡◌, map, take}
use Rattle.std.specs.Prelude.{string_bytes}
use Rattle.explain.specs.Explanations.{numbered_from}
use Rattle.explain.proofs.explaining.numbered_lines.Given as goal

abbrev pub invariant-loop-place : goal.invariant-loop-place
invariant-loop-place l = map (λ t. string_bytes t) l.texts.items ≡ numbered_from l.registry.packages l.request 1 (take l.place l.lines)
