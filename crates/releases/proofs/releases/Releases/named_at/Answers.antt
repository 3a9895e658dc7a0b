use Rattle.std.proofs.Common.{◌∙◌, ◌≡◌, ap, subst, sym, true}
use Rattle.std.specs.Prelude.{Some}
use Rattle.std.specs.Str.{bytes_eq}
use Rattle.versions.specs.NameLaws.{same_name}
use Rattle.versions.specs.Words.{Text}
use Rattle.releases.proofs.MatchingLemmas.{placed-named}
use Rattle.releases.proofs.releases.Releases.named_at.Goals as goal

pub returns-in-Some-clause-same : goal.returns-in-Some-clause-same
returns-in-Some-clause-same c = same_name c.in-Some.kept.now c.args.need.now (sym c.eq.ensures ∙ c.if-eq.true)

pub returns-in-Some-clause-there : goal.returns-in-Some-clause-there
returns-in-Some-clause-there c =
    let alike = sym c.eq.ensures ∙ c.if-eq.true in
    let same : c.in-Some.kept.now ≡ c.args.need.now = same_name c.in-Some.kept.now c.args.need.now alike in
    rw (← c.self.view_is) (placed-named c.self.inside.needs.keys c.args.need.now c.args.place (sym c.in-Some.ensures.key ∙ ap (λ (t : Text). Some t) same)
    (subst (λ (t : Text). bytes_eq t c.args.need.now ≡ true) same alike))

pub returns-in-Some-clause-place : goal.returns-in-Some-clause-place
returns-in-Some-clause-place c =
    let same : c.in-Some.kept.now ≡ c.args.need.now = same_name c.in-Some.kept.now c.args.need.now (sym c.eq.ensures ∙ c.if-eq.true) in
    rw (← c.self.view_is) (sym c.in-Some.ensures.key ∙ ap (λ (t : Text). Some t) same)
