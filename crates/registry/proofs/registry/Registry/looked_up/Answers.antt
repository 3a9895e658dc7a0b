use Rattle.std.proofs.Common.{◌∙◌, ◌≡◌, ◌<◌, ℕ, List, ap, sym, subst, arith, get_or, length, refl}
use Rattle.std.specs.Prelude.{Some, slice_get}
use Rattle.std.proofs.lemmas.Option.{none-some, slice_get_read}
use Rattle.versions.specs.Words.{Text}
use Rattle.registry.specs.Registry.{needs_of}
use Rattle.registry.proofs.RegistryLaws.{number_of-needed, published-needing}
use Rattle.registry.proofs.registry.Registry.looked_up.Goals as goal

-- the dependency that was read stands at its index
read : (listed needs : List (Text × Text)) (i : ℕ) (d : Text × Text) → listed ≡ needs → i < length needs → d ≡ get_or listed i d → slice_get needs i ≡ Some d
read listed needs i d same lt is =
    subst (λ (l : List (Text × Text)). slice_get l i ≡ Some d) same (slice_get_read listed (length listed) i d refl (omega (arith, ap length same, lt)) is)

pub dependencies-listed-requires : goal.dependencies-listed-requires
dependencies-listed-requires c = published-needing c.args.self.now.packages c.args.pkg c.args.ordinal c.args.index c.requires

pub bounds-needs-index : goal.bounds-needs-index
bounds-needs-index c = omega (arith, ap length (c.needs.ensures ∙ c.dependencies-listed.ensures.needs), c.requires)

pub unreachable-requires : goal.unreachable-requires
unreachable-requires c =
    let packages = c.args.self.now.packages in
    let at = read c.needs.result.now (needs_of packages c.args.pkg c.args.ordinal) c.args.index c.index-needs-index.result (c.needs.ensures ∙ c.dependencies-listed.ensures.needs) c.requires c.index-needs-index.is in
    let found = number_of-needed packages c.args.pkg c.args.ordinal c.args.index c.index-needs-index.result c.dependencies-listed.ensures.reachable at in
    none-some found.0 (sym c.in_default.is ∙ c.number.ensures ∙ found.1)

pub returns : goal.returns
returns c = record {
  name = c.index-needs-index.result.0;
  need = c.index-needs-index.result.1;
  at = read c.needs.result.now (needs_of c.args.self.now.packages c.args.pkg c.args.ordinal) c.args.index c.index-needs-index.result
      (c.needs.ensures ∙ c.dependencies-listed.ensures.needs) c.requires c.index-needs-index.is;
  number = sym c.number.ensures ∙ c.in-Some.is;
  members = c.in_ok-matching.ensures;
}
