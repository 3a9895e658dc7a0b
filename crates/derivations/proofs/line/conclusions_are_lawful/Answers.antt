-- One conclusion more, in the order of the lines.
use Rattle.std.proofs.Common.{◌≡◌, ◌+◌, ℕ, zero, suc, List, [], ◌∷◌, take, add-one, Some, refl}
use Rattle.std.specs.List.{slice_get}
use Rattle.std.proofs.lemmas.Option.{slice_get_read}
use Rattle.terms.specs.Incompats.{IsIncompat}
use Rattle.derivations.specs.Derivations.{AreIncompats}
use Rattle.derivations.specs.Lines.{Line}
use Rattle.derivations.proofs.line.conclusions_are_lawful.Goals as goal

are_more : (lines : List Line) (i : ℕ) (line : Line) → slice_get lines i ≡ Some line → AreIncompats (take i lines) → IsIncompat line.conclusion → AreIncompats (take (i + 1) lines)
are_more lines i line at before here = rw add-one (more lines i at before)
  where
    more : (lines : List Line) (i : ℕ) → slice_get lines i ≡ Some line → AreIncompats (take i lines) → AreIncompats (take (suc i) lines)
    more [] i at before = tt
    more (x ∷ rest) zero at before = let same : line ≡ x = cc in (rw same at here, tt)
    more (x ∷ rest) (suc i) at before = (before.0, more rest i at before.1)

pub loop-line-preserved : goal.loop-line-preserved
loop-line-preserved c =
    are_more c.args.lines.now c.loop-line.line-index c.line-item.result (slice_get_read c.args.lines.now _ c.loop-line.line-index _ refl c.loop-line-test.true c.line-item.is)
    c.loop-line.invariant c.terms-terms.ensures.lawful
