use Rattle.std.proofs.Common.{◌≡◌, map, take}
use Rattle.std.specs.Prelude.{Option}
use Rattle.versions.specs.Words.{Text}
use Rattle.terms.specs.declared.term.Term.{Term}
use Rattle.replies.specs.NamedJson.{term_json}
use Rattle.serde_json.specs.View.{view}
use Rattle.replies.proofs.written.terms_json.Given as goal

abbrev pub invariant-loop-entry : goal.invariant-loop-entry
invariant-loop-entry l = map view l.values.items ≡ map (λ (t : Option Text × Term). term_json t.0 t.1) (take l.entry-index l.terms)
