use Rattle.std.proofs.Common.{◌≡◌, List, Some, subst, sym}
use Rattle.std.specs.Prelude.{slice_get}
use Rattle.std.proofs.lemmas.Option.{get_or_from_slice_get}
use Rattle.registry.specs.Registry.{Packages}
use Rattle.registry.specs.Requests.{Wanted}
use Rattle.oracle.specs.declared.options.Options.{Options}
use Rattle.pool.specs.Answering.{IsAnswerTo}
use Rattle.pool.proofs.work.Finder.try_find.Goals as goal

pub new-requires : goal.new-requires
new-requires g c = λ one at.
    let is = c.self.invariant in
    let asked = c.self.inside.work.asked.now in
    let here : slice_get asked c.args.index ≡ Some one = subst (λ (l : List (Wanted × Options)). slice_get l c.args.index ≡ Some one) (sym is.1) at in
    let same = get_or_from_slice_get asked c.args.index one c.index-self-index.result here in
    subst (λ (x : Packages × (Wanted × Options)). IsAnswerTo x.0 x.1 c.in-Some.answer) (λ i. (is.0 i, same i)) c.in-Some.ensures
