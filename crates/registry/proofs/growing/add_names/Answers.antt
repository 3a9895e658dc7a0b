use Rattle.std.proofs.Common.{◌≡◌, ◌∙◌, [], ap, arith, length, sym}
use Rattle.std.proofs.lemmas.List.Elements.{All-head, All-rest, All-same}
use Rattle.std.specs.Vec.Iter.{into_iter_items}
use Rattle.versions.specs.Words.{Text}
use Rattle.registry.specs.Publications.{PublicationList, packages_in}
use Rattle.registry.specs.Rooms.{names_in}
use Rattle.registry.specs.Step.{with_listed}
use Rattle.registry.proofs.PlaceLemmas.{extends-then}
use Rattle.registry.proofs.growing.add_names.Goals as goal

abbrev IsEmpty : Text × PublicationList → Type 0
IsEmpty p = p.1.publications ≡ []

pub add_name-requires-clause-empty : goal.add_name-requires-clause-empty
add_name-requires-clause-empty c =
    All-head IsEmpty (c.in-Some.name, c.in-Some.publications) (into_iter_items c.next.new.self)
    (All-same IsEmpty _ _ (sym c.in-Some.ensures.steps.0) c.loop-name.invariant.empty)

pub loop-name-preserved : goal.loop-name-preserved
loop-name-preserved c =
    let count = ap length c.in-Some.ensures.steps.0 in
    record {
      paired = c.add_name.ensures.paired;
      names_room = omega (arith, count, c.loop-name.invariant.names_room, c.add_name.ensures.names_room);
      lists_room = omega (arith, count, c.loop-name.invariant.lists_room, c.add_name.ensures.lists_room.0, c.add_name.ensures.lists_room.1);
      packages =
          ap (λ ps. with_listed ps (names_in (into_iter_items c.next.new.self))) c.add_name.ensures.packages
          ∙ sym (ap (λ l. with_listed (packages_in c.loop-name.names.keys c.loop-name.lists.items) (names_in l)) c.in-Some.ensures.steps.0)
          ∙ c.loop-name.invariant.packages;
      stay = λ i lt.
          let before = c.loop-name.invariant.stay i lt in
          let after = c.add_name.ensures.stay i before.0 in
          (after.0, after.1 ∙ before.1);
      empty = All-rest IsEmpty (c.in-Some.name, c.in-Some.publications) (into_iter_items c.next.new.self) (into_iter_items c.loop-name.name-iterator)
          c.in-Some.ensures.steps.0 c.loop-name.invariant.empty;
      extends = extends-then c.args.names.now.keys c.loop-name.names.keys c.add_name.new.names.keys c.args.lists.now.items c.loop-name.lists.items c.add_name.new.lists.items
          c.loop-name.invariant.extends c.add_name.ensures.extends;
      counted = omega (arith, count, c.loop-name.invariant.counted, c.in-Some.ensures.steps.1);
    }
