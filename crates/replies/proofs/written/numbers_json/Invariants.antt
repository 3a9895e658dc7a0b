use Rattle.std.proofs.Common.{◌≡◌, map, take}
use Rattle.serde_json.specs.View.{view}
use Rattle.replies.specs.NamedJson.{number_json}
use Rattle.replies.proofs.written.numbers_json.Given as goal

abbrev pub invariant-loop-ordinal : goal.invariant-loop-ordinal
invariant-loop-ordinal l = map view l.values.items ≡ map number_json (take l.ordinal-index l.ordinals)
