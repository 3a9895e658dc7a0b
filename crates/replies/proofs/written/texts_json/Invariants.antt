use Rattle.std.proofs.Common.{◌≡◌, Global, String, map, string_bytes, take}
use Rattle.serde_json.specs.Data.{string}
use Rattle.serde_json.specs.View.{view}
use Rattle.replies.proofs.written.texts_json.Given as goal

abbrev pub invariant-loop-text : goal.invariant-loop-text
invariant-loop-text l = map view l.values.items ≡ map (λ (t : String Global). string (string_bytes t)) (take l.text-index l.texts)
