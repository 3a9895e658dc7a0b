use Rattle.std.proofs.Common.{ℕ, refl}
use Rattle.std.proofs.lemmas.Option.{slice_get_read}
use Rattle.terms.specs.declared.term.Term.{Term}
use Rattle.explain.specs.Explanations.{term_text}
use Rattle.explain.proofs.ListedTexts.{put-next}
use Rattle.explain.proofs.conclusions.put_terms.Goals as goal

pub loop-place-preserved : goal.loop-place-preserved
loop-place-preserved c =
    let here = slice_get_read c.args.terms.now _ c.loop-place.place _ refl c.loop-place-test.true c.index-terms-place.is in
    put-next (λ (t : ℕ × Term). term_text c.args.registry.now.packages t.0 t.1) c.args.terms.now c.loop-place.place _ _ _ _ here c.loop-place.invariant c.in_ok-put_next.ensures
