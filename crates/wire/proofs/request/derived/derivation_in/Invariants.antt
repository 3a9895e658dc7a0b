use Rattle.std.proofs.Common.{◌≡◌, take, true}
use Rattle.std.specs.List.{list_all}
use Rattle.versions.specs.Words.{is_requirement}
use Rattle.wire.specs.NamedShapes.{premise_requirements}
use Rattle.wire.proofs.request.derived.derivation_in.Given as goal

abbrev pub invariant-loop-place : goal.invariant-loop-place
invariant-loop-place l = (l.read.items ≡ take l.place l.lines) × (list_all is_requirement (premise_requirements (take l.place l.lines)) ≡ true)
