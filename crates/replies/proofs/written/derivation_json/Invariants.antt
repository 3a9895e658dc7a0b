use Rattle.std.proofs.Common.{◌≡◌, map, take}
use Rattle.replies.specs.NamedJson.{line_json}
use Rattle.serde_json.specs.View.{view}
use Rattle.replies.proofs.written.derivation_json.Given as goal

abbrev pub invariant-loop-line : goal.invariant-loop-line
invariant-loop-line l = map view l.values.items ≡ map line_json (take l.line-index l.lines)
