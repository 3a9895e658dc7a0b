use Rattle.std.proofs.Common.{◌∙◌, ◌≡◌, ap, subst, sym, true}
use Rattle.std.specs.Prelude.{Some}
use Rattle.std.specs.Str.{bytes_eq}
use Rattle.std.proofs.lemmas.Option.{slice_get_within}
use Rattle.versions.specs.NameLaws.{same_name}
use Rattle.versions.specs.Words.{Text}
use Rattle.registry.proofs.ReadyLemmas.{stands-any}
use Rattle.registry.proofs.ready.kept_near.Goals as goal

pub returns-in-Some-clause-there : goal.returns-in-Some-clause-there
returns-in-Some-clause-there c =
    let alike = sym c.eq.ensures ∙ c.if-eq.true in
    let same : c.in-Some.kept.now ≡ c.args.name.now = same_name c.in-Some.kept.now c.args.name.now alike in
    stands-any c.args.names.now.keys c.args.name.now c.args.place (sym c.in-Some.ensures.key ∙ ap (λ (t : Text). Some t) same)
    (subst (λ (t : Text). bytes_eq t c.args.name.now ≡ true) same alike)

pub returns-in-Some-clause-within : goal.returns-in-Some-clause-within
returns-in-Some-clause-within c = slice_get_within c.args.names.now.keys c.args.place c.in-Some.kept.now (sym c.in-Some.ensures.key)

pub returns-in-Some-clause-same : goal.returns-in-Some-clause-same
returns-in-Some-clause-same c = same_name c.in-Some.kept.now c.args.name.now (sym c.eq.ensures ∙ c.if-eq.true)
