use Rattle.std.proofs.Common.{◌∙◌, ap, arith, false, length, sym, true}
use Rattle.std.proofs.lemmas.List.{length-map}
use Rattle.releases.specs.declared.release.Release.{Release}
use Rattle.registry.specs.Publications.{PublicationList, any_yanked, publications_of}
use Rattle.registry.specs.Step.{set_yanked}
use Rattle.registry.proofs.PlaceLemmas.{grown-yanked}
use Rattle.registry.proofs.PublicationLemmas.{set_yanked-found, set_yanked-none}
use Rattle.registry.proofs.Yanks.{length-marked, yanked-marked}
use Rattle.registry.proofs.publications.Publications.set_yanked.Goals as goal

pub invariant_of-self : goal.invariant_of-self
invariant_of-self c = (
  c.self.invariant.0 ∙ sym (ap length c.yank.ensures.releases ∙ length-marked c.self.inside.releases.releases c.in-Some.ordinal true),
  c.self.invariant.1,
  sym (ap any_yanked c.yank.ensures.releases
      ∙ yanked-marked c.self.inside.releases.releases c.in-Some.ordinal
      (omega (arith, c.in-Some.ensures.found.0, length-map c.self.inside.releases.releases (λ (r : Release). r.version)))),
  c.self.invariant.3,
  c.self.invariant.4,
  c.self.invariant.5,
  c.self.invariant.6,
)

pub invariant_of-self-else-yanked : goal.invariant_of-self-else-yanked
invariant_of-self-else-yanked c = (
  c.self.invariant.0 ∙ sym (ap length c.unyank.ensures.releases ∙ length-marked c.self.inside.releases.releases c.in-Some.ordinal false),
  c.self.invariant.1,
  c.any_yanked-self-inside.ensures ∙ ap any_yanked c.as_slice.ensures,
  c.self.invariant.3,
  c.self.invariant.4,
  c.self.invariant.5,
  c.self.invariant.6,
)

pub returns-in_default-clause-publications : goal.returns-in_default-clause-publications
returns-in_default-clause-publications c =
    rw (← c.self.view_is) (sym (set_yanked-none c.self.inside.releases.releases c.self.inside.needs.items c.args.version.now c.args.yanked (sym c.in_default.ensures.there)))

pub returns-then-yanked-clause-publications : goal.returns-then-yanked-clause-publications
returns-then-yanked-clause-publications c =
    ap (λ l. publications_of l c.self.inside.needs.items) c.yank.ensures.releases
    ∙ set_yanked-found c.self.inside.releases.releases c.self.inside.needs.items c.args.version.now c.in-Some.ordinal true c.self.invariant.0
    (record { found = c.in-Some.ensures.found; only = c.in-Some.ensures.only })
    ∙ ap (λ b. set_yanked c.args.version.now b (publications_of c.self.inside.releases.releases c.self.inside.needs.items)) (sym c.if-yanked.true)
    ∙ ap (λ (l : PublicationList). set_yanked c.args.version.now c.args.yanked l.publications) c.self.view_is

pub returns-else-yanked-clause-publications : goal.returns-else-yanked-clause-publications
returns-else-yanked-clause-publications c =
    ap (λ l. publications_of l c.self.inside.needs.items) c.unyank.ensures.releases
    ∙ set_yanked-found c.self.inside.releases.releases c.self.inside.needs.items c.args.version.now c.in-Some.ordinal false c.self.invariant.0
    (record { found = c.in-Some.ensures.found; only = c.in-Some.ensures.only })
    ∙ ap (λ b. set_yanked c.args.version.now b (publications_of c.self.inside.releases.releases c.self.inside.needs.items)) (sym c.if-yanked.false)
    ∙ ap (λ (l : PublicationList). set_yanked c.args.version.now c.args.yanked l.publications) c.self.view_is

pub yank-requires : goal.yank-requires
yank-requires c = omega (arith, c.in-Some.ensures.found.0, length-map c.self.inside.releases.releases (λ (r : Release). r.version))

pub unyank-requires : goal.unyank-requires
unyank-requires c = omega (arith, c.in-Some.ensures.found.0, length-map c.self.inside.releases.releases (λ (r : Release). r.version))

pub returns-then-yanked-clause-grown : goal.returns-then-yanked-clause-grown
returns-then-yanked-clause-grown c =
    grown-yanked c.args.self.now _ c.args.version.now c.args.yanked (returns-then-yanked-clause-publications c) (c.yank.ensures.needs ∙ ap (λ (l : PublicationList). l.named) c.self.view_is)
    (ap (λ (l : PublicationList). l.places) c.self.view_is)

pub returns-else-yanked-clause-grown : goal.returns-else-yanked-clause-grown
returns-else-yanked-clause-grown c =
    grown-yanked c.args.self.now _ c.args.version.now c.args.yanked (returns-else-yanked-clause-publications c) (c.unyank.ensures.needs ∙ ap (λ (l : PublicationList). l.named) c.self.view_is)
    (ap (λ (l : PublicationList). l.places) c.self.view_is)
