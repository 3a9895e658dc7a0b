use Rattle.std.proofs.Common.{Option, arith, refl}
use Rattle.serde_json.specs.View.{view}
use Rattle.std.proofs.lemmas.Option.{slice_get_read}
use Rattle.versions.specs.Words.{Text}
use Rattle.terms.specs.declared.term.Term.{Term}
use Rattle.replies.specs.NamedJson.{term_json}
use Rattle.replies.proofs.WrittenLemmas.{array_of, values_more}
use Rattle.replies.proofs.written.terms_json.Goals as goal

pub loop-entry-preserved : goal.loop-entry-preserved
loop-entry-preserved c =
    let here = slice_get_read c.args.terms.now _ c.loop-entry.entry-index _ refl c.loop-entry-test.true c.entry-item.is in
    rw c.in_ok-push.ensures.items
    (values_more (λ (t : Option Text × Term). term_json t.0 t.1) c.args.terms.now c.loop-entry.entry-index c.entry-item.result c.loop-entry.values.items c.in_ok-term_json.field-0 here c.loop-entry.invariant c.in_ok-term_json.ensures)

pub returns : goal.returns
returns c =
    array_of (λ (t : Option Text × Term). term_json t.0 t.1) c.args.terms.now c.loop-entry.entry-index c.loop-entry.values.items (view c.from.result) (omega arith) c.loop-entry.invariant c.from.ensures
