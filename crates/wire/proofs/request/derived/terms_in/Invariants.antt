use Rattle.std.proofs.Common.{◌≡◌, take}
use Rattle.wire.proofs.request.derived.terms_in.Given as goal

abbrev pub invariant-loop-place : goal.invariant-loop-place
invariant-loop-place l = l.terms.items ≡ take l.place l.items
