use Rattle.std.proofs.Common.{◌∙◌, ap, sym}
use Rattle.std.proofs.lemmas.Result.{IfOk-weaker}
use Rattle.std.specs.Prelude.{slice_get}
use Rattle.terms.specs.Sets.{has}
use Rattle.registry.specs.Registry.{publication_meets}
use Rattle.registry.proofs.PackageLemmas.{publication_at-versions}
use Rattle.registry.proofs.registry.Registry.matching_set.Goals as goal

pub returns-in-None : goal.returns-in-None
returns-in-None c = λ k.
    ap (λ l. has l k) c.new.ensures ∙ ap (λ l. publication_meets (slice_get l k) c.args.need.now) c.in-None.ensures.publications
    ∙ sym (ap (λ o. publication_meets o c.args.need.now) (publication_at-versions c.args.self.now.packages c.args.pkg k))

pub returns-in-Some : goal.returns-in-Some
returns-in-Some c =
    IfOk-weaker c.matching.result _ _
    (λ set members k.
    members k ∙ ap (λ l. publication_meets (slice_get l k) c.args.need.now) c.in-Some.ensures.publications
    ∙ sym (ap (λ o. publication_meets o c.args.need.now) (publication_at-versions c.args.self.now.packages c.args.pkg k)))
    c.matching.ensures
