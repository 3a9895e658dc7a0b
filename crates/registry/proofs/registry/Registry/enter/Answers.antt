use Rattle.std.proofs.Common.{◌∙◌, ◌≡◌, ◌<◌, ◌≤◌, ◌-◌, ℕ, ◌+◌, ◌++◌, ◌∷◌, [], ap, sym, subst, arith, get_or, rules, set, false, length, List, vec_capacity, vec_len}
use Rattle.std.specs.Prelude.{None, Some, position, slice_index}
use Rattle.std.proofs.lemmas.List.{get_or-map}
use Rattle.std.proofs.lemmas.Option.{none-some}
use Rattle.std.specs.List.{list_any}
use Rattle.std.specs.Str.{bytes_eq}
use Rattle.versions.specs.Words.{Text}
use Rattle.registry.specs.Lawful.{IsRegistry}
use Rattle.registry.specs.Places.{AreAllPlaced, ArePlacesOf, named_of}
use Rattle.registry.specs.Publications.{PublicationList, packages_in, rooms_of}
use Rattle.registry.specs.Registry.{Packages, Publication, has_version, number_of, versions_of}
use Rattle.registry.specs.Rooms.{State, names_in, publication_for, unknown_names}
use Rattle.registry.specs.Step.{publish, publish_refusal, with_listed, with_name, with_versions}
use Rattle.registry.proofs.GrowthLemmas.{new_names, new_names-packages_in, number_of-with_listed, packages-changed, versions_of-placed, with_named-new}
use Rattle.registry.proofs.Lawfulness.{accepted_by, lawful-publish, versions-named}
use Rattle.registry.proofs.PlaceLemmas.{placed-set}
use Rattle.registry.proofs.ReadyLemmas.{ready-for, ready-taken}
use Rattle.registry.proofs.registry.Registry.enter.Goals as goal
use Rattle.registry.proofs.registry.Registry.enter.Goals.{After-drop-needs-inside, After-index_mut-list}

above : (n m : ℕ) → n < m → 0 < m
above n m fits = omega arith

fits_one : (n m k : ℕ) → n < m - k → k < m
fits_one n m k fits = omega arith

fits_behind : (n m k : ℕ) → n < m → m ≤ k + 1 → n ≤ k
fits_behind n m k fits more = omega arith

fits_lists : (n room held room' held' : ℕ) → n < room - held → room ≤ room' → held' ≤ held + 1 → held' + n ≤ room'
fits_lists n room held room' held' fits more grown = omega arith

-- the room of the list at a place
room-at : (lists : List PublicationList) (i : ℕ) (list : PublicationList) → i < length lists → list ≡ get_or lists i list → slice_index (rooms_of lists) i ≡ list.room
room-at lists i list within at = get_or-map (λ (l : PublicationList). l.room) lists i list 0 within ∙ ap (λ (l : PublicationList). l.room) (sym at)

-- the packages before
abbrev before : After-index_mut-list → Packages
before c = packages_in c.self.inside.names.keys c.self.inside.lists.items

accepted : (c : After-index_mut-list) → publish_refusal (before c) c.args.name c.args.version c.args.needs ≡ None
accepted c = subst (λ (s : State). publish_refusal s.packages c.args.name c.args.version c.args.needs ≡ None) (sym c.self.view_is) c.requires.accepted

-- the names are numbered, with nothing published yet
named : (c : After-index_mut-list) → packages_in c.add_names.new.names.keys c.add_names.new.lists.items ≡ with_listed (with_name (before c) c.args.name) (names_in c.in-Some.ready.added.items)
named c = c.add_names.ensures.packages ∙ ap (λ (ps : Packages). with_listed ps (names_in c.in-Some.ready.added.items)) c.enter_name-index.ensures.packages

number : (c : After-index_mut-list) → number_of (packages_in c.add_names.new.names.keys c.add_names.new.lists.items) c.args.name ≡ Some (c.enter_name-index.result + 1)
number c =
    ap (λ (ps : Packages). number_of ps c.args.name) c.add_names.ensures.packages
    ∙ number_of-with_listed (packages_in c.enter_name-index.new.names.keys c.enter_name-index.new.lists.items) (names_in c.in-Some.ready.added.items) c.args.name
    (c.enter_name-index.result + 1) c.enter_name-index.ensures.number

-- the list that the version comes into has the publications of the package
listed : (c : After-index_mut-list) → c.index_mut-list.result.now.publications ≡ versions_of (before c) c.args.name
listed c =
    let stay = c.add_names.ensures.stay c.enter_name-index.result c.enter_name-index.ensures.place in
    sym (versions_of-placed c.add_names.new.names.keys c.add_names.new.lists.items c.args.name c.enter_name-index.result c.index_mut-list.result.now
    c.add_names.ensures.paired (number c) stay.0 c.index_mut-list.ensures.value)
    ∙ ap (λ (ps : Packages). versions_of ps c.args.name) (named c) ∙ versions-named (before c) c.args.name (names_in c.in-Some.ready.added.items) c.args.name

pub unreachable-requires : goal.unreachable-requires
unreachable-requires c =
    none-some (c.args.name, c.args.needs) (ap publication_for (sym c.in_default.is ∙ c.take.ensures.value) ∙ ap (λ (s : State). s.ready) c.self.view_is ∙ c.requires.ready)

pub index_mut-list-requires : goal.index_mut-list-requires
index_mut-list-requires c =
    let stay = c.add_names.ensures.stay c.enter_name-index.result c.enter_name-index.ensures.place in
    omega (arith, stay.0, c.add_names.new.lists.ok.0)

pub enter_name-index-requires-clause-paired : goal.enter_name-index-requires-clause-paired
enter_name-index-requires-clause-paired c = c.self.invariant.0

pub enter_name-index-requires-clause-placed : goal.enter_name-index-requires-clause-placed
enter_name-index-requires-clause-placed c =
    let ready = ready-taken c.self.inside.names.keys _ c.self.inside.lists.items _ c.self.inside.ready c.in-Some.ready c.self.invariant.2 (sym c.take.ensures.value ∙ c.in-Some.is) in
    let same = ready-for c.self.inside.ready c.in-Some.ready c.args.name c.args.needs (ap (λ (s : State). s.ready) c.self.view_is ∙ c.requires.ready) (sym c.take.ensures.value ∙ c.in-Some.is) in
    ready.placed ∙ ap (λ (n : Text). position (bytes_eq n) c.self.inside.names.keys) same.0

pub enter_name-index-requires-clause-names_room : goal.enter_name-index-requires-clause-names_room
enter_name-index-requires-clause-names_room c =
    let ready = ready-taken c.self.inside.names.keys _ c.self.inside.lists.items _ c.self.inside.ready c.in-Some.ready c.self.invariant.2 (sym c.take.ensures.value ∙ c.in-Some.is) in
    above _ _ ready.names_fit

pub enter_name-index-requires-clause-lists_room : goal.enter_name-index-requires-clause-lists_room
enter_name-index-requires-clause-lists_room c =
    let ready = ready-taken c.self.inside.names.keys _ c.self.inside.lists.items _ c.self.inside.ready c.in-Some.ready c.self.invariant.2 (sym c.take.ensures.value ∙ c.in-Some.is) in
    fits_one _ _ _ ready.lists_fit

pub enter_name-index-requires-clause-empty : goal.enter_name-index-requires-clause-empty
enter_name-index-requires-clause-empty c =
    let ready = ready-taken c.self.inside.names.keys _ c.self.inside.lists.items _ c.self.inside.ready c.in-Some.ready c.self.invariant.2 (sym c.take.ensures.value ∙ c.in-Some.is) in
    ready.own

pub add_names-requires-clause-paired : goal.add_names-requires-clause-paired
add_names-requires-clause-paired c = c.enter_name-index.ensures.paired

pub add_names-requires-clause-names_room : goal.add_names-requires-clause-names_room
add_names-requires-clause-names_room c =
    let ready = ready-taken c.self.inside.names.keys _ c.self.inside.lists.items _ c.self.inside.ready c.in-Some.ready c.self.invariant.2 (sym c.take.ensures.value ∙ c.in-Some.is) in
    fits_behind _ _ _ ready.names_fit c.enter_name-index.ensures.names_room

pub add_names-requires-clause-lists_room : goal.add_names-requires-clause-lists_room
add_names-requires-clause-lists_room c =
    let ready = ready-taken c.self.inside.names.keys _ c.self.inside.lists.items _ c.self.inside.ready c.in-Some.ready c.self.invariant.2 (sym c.take.ensures.value ∙ c.in-Some.is) in
    fits_lists _ (vec_capacity c.self.inside.lists) (vec_len c.self.inside.lists) _ _ ready.lists_fit c.enter_name-index.ensures.lists_room.0 c.enter_name-index.ensures.lists_room.1

pub add_names-requires-clause-empty : goal.add_names-requires-clause-empty
add_names-requires-clause-empty c =
    let ready = ready-taken c.self.inside.names.keys _ c.self.inside.lists.items _ c.self.inside.ready c.in-Some.ready c.self.invariant.2 (sym c.take.ensures.value ∙ c.in-Some.is) in
    ready.empty

pub push-requires-clause-room : goal.push-requires-clause-room
push-requires-clause-room c =
    let ready = ready-taken c.self.inside.names.keys _ c.self.inside.lists.items _ c.self.inside.ready c.in-Some.ready c.self.invariant.2 (sym c.take.ensures.value ∙ c.in-Some.is) in
    let stay = c.add_names.ensures.stay c.enter_name-index.result c.enter_name-index.ensures.place in
    let room = room-at c.add_names.new.lists.items c.enter_name-index.result c.index_mut-list.result.now stay.0 c.index_mut-list.ensures.value in
    omega (arith, ready.room, c.enter_name-index.ensures.room, stay.1, room)

pub push-requires-clause-new : goal.push-requires-clause-new
push-requires-clause-new c =
    let at = (goal.at.push-requires-clause-new c).After-index_mut-list in
    ap (λ l. has_version l c.args.version) (listed at) ∙ (accepted_by (before at) c.args.name c.args.version c.args.needs (accepted at)).new

pub push-requires-clause-few : goal.push-requires-clause-few
push-requires-clause-few c =
    let at = (goal.at.push-requires-clause-few c).After-index_mut-list in
    let count = ap length (listed at) in
    omega (arith, count, (accepted_by (before at) c.args.name c.args.version c.args.needs (accepted at)).room)

published : (c : After-drop-needs-inside) → packages_in c.add_names.new.names.keys (set c.add_names.new.lists.items c.enter_name-index.result c.push.new.self)
    ≡ publish (packages_in c.self.inside.names.keys c.self.inside.lists.items) c.args.name c.args.version c.args.needs
published c =
    let at = (goal.at.invariant_of-self c).After-index_mut-list in
    let own : Publication = record { version = c.args.version; needs = c.args.needs; yanked = false } in
    let add : List Publication → List Publication = λ (versions : List Publication). versions ++ own ∷ [] in
    let taken = sym c.take.ensures.value ∙ c.in-Some.is in
    let ready = ready-taken c.self.inside.names.keys _ c.self.inside.lists.items _ c.self.inside.ready c.in-Some.ready c.self.invariant.2 taken in
    let same = ready-for c.self.inside.ready c.in-Some.ready c.args.name c.args.needs (ap (λ (s : State). s.ready) c.self.view_is ∙ c.requires.ready) taken in
    let added : names_in c.in-Some.ready.added.items ≡ new_names (before at) c.args.needs =
    ready.named ∙ ap (λ needs. unknown_names (λ name. list_any (bytes_eq name) c.self.inside.names.keys) needs) same.1
    ∙ sym (new_names-packages_in c.self.inside.names.keys c.self.inside.lists.items c.args.needs c.self.invariant.0) in
    let pushed : c.push.new.self.publications ≡ add c.index_mut-list.result.now.publications =
    c.push.ensures.publications ∙ ap (λ needs. c.index_mut-list.result.now.publications ++ (record { version = c.args.version; needs = needs; yanked = false }) ∷ []) same.1 in
    packages-changed c.add_names.new.names.keys c.add_names.new.lists.items c.args.name c.enter_name-index.result c.index_mut-list.result.now c.push.new.self add
    (number at) c.index_mut-list.ensures.value pushed
    ∙ ap (with_versions c.args.name add) (named at ∙ ap (λ l. with_listed (with_name (before at) c.args.name) l) added ∙ sym (with_named-new (before at) c.args.name c.args.needs))

-- the places of all publications are right, those of the one that comes in too
entered : (c : After-drop-needs-inside) → AreAllPlaced c.add_names.new.names.keys (set c.add_names.new.lists.items c.enter_name-index.result c.push.new.self)
entered c =
    let names = c.add_names.new.names.keys in
    let lists = c.add_names.new.lists.items in
    let stay = c.add_names.ensures.stay c.enter_name-index.result c.enter_name-index.ensures.place in
    let before = c.add_names.ensures.extends.placed (c.enter_name-index.ensures.extends.placed c.self.invariant.3) in
    placed-set names lists c.enter_name-index.result c.index_mut-list.result.now c.push.new.self c.in-Some.ready.needs c.right_places-places.result.now stay.0 c.index_mut-list.ensures.value c.push.ensures.named
    (λ named. c.push.ensures.placed names named) (subst (λ needs. ArePlacesOf names (named_of lists) needs c.right_places-places.result.now) c.needs.ensures
    (subst (λ (ls : List PublicationList). ArePlacesOf names (named_of ls) c.needs.result.now c.right_places-places.result.now) c.deref.ensures.value c.right_places-places.ensures)) before

pub invariant_of-self : goal.invariant_of-self
invariant_of-self c = (
  search rules,
  subst IsRegistry (sym (published c)) (lawful-publish c.equal_precedence_is_an_equivalence.ensures.equivalence _ c.args.name c.args.version c.args.needs c.self.invariant.1
      (subst (λ (s : State). publish_refusal s.packages c.args.name c.args.version c.args.needs ≡ None) (sym c.self.view_is) c.requires.accepted)),
  rw c.take.ensures.after tt,
  entered c,
)

pub returns-clause-packages : goal.returns-clause-packages
returns-clause-packages c = published c ∙ ap (λ (s : State). publish s.packages c.args.name c.args.version c.args.needs) c.self.view_is
