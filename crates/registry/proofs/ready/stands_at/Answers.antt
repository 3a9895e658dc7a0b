use Rattle.std.proofs.Common.{◌≡◌, ◌∙◌, ◌<◌, [], ap, length, nat_lt, rules, sym, true}
use Rattle.std.specs.Prelude.{Some, slice_get}
use Rattle.std.proofs.lemmas.List.{get_or-map}
use Rattle.versions.specs.NameLaws.{same_name}
use Rattle.versions.specs.Words.{Text}
use Rattle.registry.specs.Publications.{PublicationList}
use Rattle.registry.proofs.ready.stands_at.Goals as goal

pub returns-then-eq : goal.returns-then-eq
returns-then-eq c = λ yes.
    let index = c.in-Some.index in
    let lists = c.args.lists.now in
    let there : nat_lt index (length lists) ≡ true = sym c.in-Some-Some.ensures'.lookup.0 in
    let within : index < length lists = search rules in
    let same : c.in-Some-Some.name.now ≡ c.args.need.now.0 = same_name c.in-Some-Some.name.now c.args.need.now.0 (sym c.eq.ensures ∙ c.if-eq.true) in
    let listed = get_or-map (λ (l : PublicationList). l.named) lists index c.in-Some-Some.list.now [] within in
    record {
      index = index;
      target = c.in-Some.ensures;
      name = sym c.in-Some-Some.ensures.key ∙ ap (λ (t : Text). Some t) same;
      requirement = ap (λ l. slice_get l c.args.place.need) (listed ∙ ap (λ (l : PublicationList). l.named) (sym c.in-Some-Some.ensures'.lookup.1)) ∙ c.names_at.ensures yes;
    }
