use Rattle.std.proofs.Common.{◌∙◌, ◌&&◌, ap}
use Rattle.versions.specs.Bounds.{has, numbers_of}
use Rattle.versions.specs.declared.bounds.Range.{Range}
use Rattle.versions.proofs.BoundLemmas.{range-matches}
use Rattle.versions.proofs.bounds.Bounds.narrowed.Goals as goal

pub returns-in-Some-clause-range : goal.returns-in-Some-clause-range
returns-in-Some-clause-range c =
    rw (← c.self.view_is) (λ known. (
      known,
      λ v plain.
          let of_both = c.and.ensures (numbers_of v) in
          let of_comparator = range-matches c.args.comparator.now c.in-Some.ensures.order v plain in
          of_both
          ∙ ap (λ (r : Range). has c.self.inside.range (numbers_of v) && has r (numbers_of v)) c.in-Some.ensures.range
          ∙ ap (λ b. has c.self.inside.range (numbers_of v) && b) of_comparator,
    ))
