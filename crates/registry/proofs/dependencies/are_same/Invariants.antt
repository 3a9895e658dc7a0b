use Rattle.std.proofs.Common.{◌≡◌, drop}
use Rattle.registry.proofs.dependencies.are_same.Given as goal

abbrev pub invariant-loop-need : goal.invariant-loop-need
invariant-loop-need l = record {
  whole : l.rest ≡ drop l.need-index l.second → l.first ≡ l.second;
  rest : l.first ≡ l.second → l.rest ≡ drop l.need-index l.second;
}
