use Rattle.std.proofs.Common.{◌≡◌, take, true}
use Rattle.std.specs.List.{list_all}
use Rattle.versions.specs.Words.{is_name}
use Rattle.registry.specs.Needs.{names_of}
use Rattle.wire.proofs.request.judging.names_in.Given as goal

abbrev pub invariant-loop-place : goal.invariant-loop-place
invariant-loop-place l = (l.names.items ≡ names_of (take l.place l.pairs)) × (list_all is_name (names_of (take l.place l.pairs)) ≡ true)
