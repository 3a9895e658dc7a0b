use Rattle.std.proofs.Common.{◌∙◌, ◌++◌, ◌∷◌, [], ◌≡◌, ◌+◌, ℕ, List, ap, sym, arith, get_or, if◌then◌else◌, length, length-append, rules}
use Rattle.std.specs.Prelude.{is_some, slice_index}
use Rattle.std.specs.Str.{bytes_eq}
use Rattle.std.proofs.lemmas.List.{get_or-map}
use Rattle.std.proofs.lemmas.List.Quantifiers.{position-Some}
use Rattle.std.proofs.Math.Seq.{get_or-append_seam}
use Rattle.registry.specs.Publications.{PublicationList, rooms_of}
use Rattle.registry.specs.Rooms.{room_where}
use Rattle.registry.proofs.Positions.{list_any-position}
use Rattle.registry.proofs.PackageLemmas.{with_name-new, with_name-known}
use Rattle.registry.proofs.GrowthLemmas.{number-found, number-next}
use Rattle.registry.specs.Registry.{number_of}
use Rattle.registry.proofs.growing.enter_name.Goals as goal
use Rattle.registry.proofs.PlaceLemmas.{extends-none, extends-pushed}
use Rattle.registry.proofs.growing.enter_name.Goals.{After-unwrap-in-None}

-- the room of the list that is put behind all
room-behind : (lists lists' : List PublicationList) (list : PublicationList) (i : ℕ) → i ≡ length lists → lists' ≡ lists ++ list ∷ [] → slice_index (rooms_of lists') i ≡ list.room
room-behind lists lists' list i last is =
    ap (λ l. slice_index (rooms_of l) i) is
    ∙ get_or-map (λ (l : PublicationList). l.room) (lists ++ list ∷ []) i list 0 (omega (arith, last, length-append lists (list ∷ [])))
    ∙ ap (λ (l : PublicationList). l.room) (ap (λ k. get_or (lists ++ list ∷ []) k list) last ∙ get_or-append_seam lists list [] list)

pub unwrap-requires : goal.unwrap-requires
unwrap-requires c = c.insert.ensures.succeeds c.requires.names_room

pub unwrap-requires-in-None : goal.unwrap-requires-in-None
unwrap-requires-in-None c = c.push.ensures.succeeds c.requires.lists_room

pub returns-in-Some-clause-place : goal.returns-in-Some-clause-place
returns-in-Some-clause-place c =
    omega (arith, (position-Some (bytes_eq c.args.name) c.args.names.now.keys c.in-Some.index [] (sym c.requires.placed ∙ c.in-Some.is)).0, c.requires.paired)

pub returns-in-Some-clause-room : goal.returns-in-Some-clause-room
returns-in-Some-clause-room c = sym (ap (room_where (rooms_of c.args.lists.now.items) c.args.own.room) c.in-Some.is)

pub returns-in-Some-clause-packages : goal.returns-in-Some-clause-packages
returns-in-Some-clause-packages c =
    with_name-known c.args.names.now.keys c.args.lists.now.items c.args.name c.requires.paired
    (list_any-position (bytes_eq c.args.name) c.args.names.now.keys ∙ ap is_some (sym c.requires.placed ∙ c.in-Some.is))

pub returns-in-Some-clause-number : goal.returns-in-Some-clause-number
returns-in-Some-clause-number c =
    number-found c.args.names.now.keys c.args.lists.now.items c.args.name c.requires.paired c.in-Some.index (sym c.in-Some.is ∙ c.requires.placed)

-- the list comes in behind all
last : (c : After-unwrap-in-None) → c.len-last.result ≡ length c.args.lists.now.items
last c = search rules

pub returns-in-None-clause-paired : goal.returns-in-None-clause-paired
returns-in-None-clause-paired c =
    let names = c.args.names.now.keys in
    let keys = rw c.unwrap.ensures at c.insert.ensures.keys in
    let items = rw c.unwrap-in-None.ensures at c.push.ensures.items in
    let new = list_any-position (bytes_eq c.args.name) names ∙ ap is_some (sym c.requires.placed ∙ c.in-None.is) in
    let more = keys ∙ ap (λ b. if b then names else names ++ c.args.name ∷ []) new in
    omega (arith, ap length more, length-append names (c.args.name ∷ []), ap length items, length-append c.args.lists.now.items (c.args.own ∷ []), c.requires.paired)

pub returns-in-None-clause-packages : goal.returns-in-None-clause-packages
returns-in-None-clause-packages c =
    let keys = rw c.unwrap.ensures at c.insert.ensures.keys in
    let items = rw c.unwrap-in-None.ensures at c.push.ensures.items in
    with_name-new c.args.names.now.keys c.insert.new.self.keys c.args.lists.now.items c.push.new.self.items c.args.name c.args.own
    c.requires.paired (list_any-position (bytes_eq c.args.name) c.args.names.now.keys ∙ ap is_some (sym c.requires.placed ∙ c.in-None.is)) c.requires.empty keys items

pub returns-in-None-clause-number : goal.returns-in-None-clause-number
returns-in-None-clause-number c =
    let keys = rw c.unwrap.ensures at c.insert.ensures.keys in
    let items = rw c.unwrap-in-None.ensures at c.push.ensures.items in
    let new = list_any-position (bytes_eq c.args.name) c.args.names.now.keys ∙ ap is_some (sym c.requires.placed ∙ c.in-None.is) in
    let packages = with_name-new c.args.names.now.keys c.insert.new.self.keys c.args.lists.now.items c.push.new.self.items c.args.name c.args.own c.requires.paired new c.requires.empty keys items in
    ap (λ ps. number_of ps c.args.name) packages
    ∙ number-next c.args.names.now.keys c.args.lists.now.items c.args.name c.requires.paired (sym c.in-None.is ∙ c.requires.placed) new _ (ap (λ n. n + 1) (last c))

pub returns-in-None-clause-names_room : goal.returns-in-None-clause-names_room
returns-in-None-clause-names_room c = c.insert.ensures.spare

pub returns-in-None-clause-lists_room : goal.returns-in-None-clause-lists_room
returns-in-None-clause-lists_room c = (c.push.ensures.capacity, c.push.ensures.upper_bound)

pub returns-in-None-clause-place : goal.returns-in-None-clause-place
returns-in-None-clause-place c =
    let items = rw c.unwrap-in-None.ensures at c.push.ensures.items in
    omega (arith, last c, ap length items, length-append c.args.lists.now.items (c.args.own ∷ []))

pub returns-in-None-clause-room : goal.returns-in-None-clause-room
returns-in-None-clause-room c =
    let items = rw c.unwrap-in-None.ensures at c.push.ensures.items in
    room-behind c.args.lists.now.items _ c.args.own c.len-last.result (last c) items ∙ sym (ap (room_where (rooms_of c.args.lists.now.items) c.args.own.room) c.in-None.is)

pub returns-in-Some-clause-extends : goal.returns-in-Some-clause-extends
returns-in-Some-clause-extends c = extends-none c.args.names.now.keys c.args.lists.now.items

pub returns-in-None-clause-extends : goal.returns-in-None-clause-extends
returns-in-None-clause-extends c =
    let names = c.args.names.now.keys in
    let keys = rw c.unwrap.ensures at c.insert.ensures.keys in
    let items = rw c.unwrap-in-None.ensures at c.push.ensures.items in
    let new = list_any-position (bytes_eq c.args.name) names ∙ ap is_some (sym c.requires.placed ∙ c.in-None.is) in
    extends-pushed names c.insert.new.self.keys c.args.lists.now.items c.push.new.self.items c.args.name c.args.own
    (keys ∙ ap (λ b. if b then names else names ++ c.args.name ∷ []) new) items c.requires.empty
