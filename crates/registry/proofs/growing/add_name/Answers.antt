use Rattle.std.proofs.Common.{◌∙◌, ◌≡◌, ◌∷◌, ◌++◌, [], if◌then◌else◌, ap, arith, sym, Bool, true, false, not, length, length-append, refl}
use Rattle.std.specs.List.{list_any}
use Rattle.std.specs.Str.{bytes_eq}
use Rattle.registry.proofs.GrowthLemmas.{rooms-stay}
use Rattle.registry.proofs.PackageLemmas.{with_name-new, with_name-known}
use Rattle.registry.specs.Publications.{packages_in}
use Rattle.registry.proofs.PlaceLemmas.{extends-pushed, extends-same}
use Rattle.registry.proofs.growing.add_name.Goals as goal

told : (was b : Bool) → was ≡ not b → b ≡ not was
told was true e = sym (cc e)
told was false e = sym (cc e)

pub unwrap-requires : goal.unwrap-requires
unwrap-requires c = c.insert.ensures.succeeds c.requires.names_room

pub unwrap-requires-then-unwrap : goal.unwrap-requires-then-unwrap
unwrap-requires-then-unwrap c = c.push.ensures.succeeds c.requires.lists_room

pub returns-then-unwrap-clause-paired : goal.returns-then-unwrap-clause-paired
returns-then-unwrap-clause-paired c =
    let names = c.args.names.now.keys in
    let keys = rw c.unwrap.ensures at c.insert.ensures.keys in
    let items = rw c.unwrap-then-unwrap.ensures at c.push.ensures.items in
    let added = rw c.unwrap.ensures at c.insert.ensures.added in
    let new : list_any (bytes_eq c.args.name) names ≡ false = told c.unwrap.result _ added ∙ rw c.if-unwrap.true refl in
    let more = keys ∙ ap (λ b. if b then names else names ++ c.args.name ∷ []) new in
    omega (arith, ap length more, length-append names (c.args.name ∷ []), ap length items, length-append c.args.lists.now.items (c.args.publications ∷ []), c.requires.paired)

pub returns-else-unwrap-clause-paired : goal.returns-else-unwrap-clause-paired
returns-else-unwrap-clause-paired c =
    let names = c.args.names.now.keys in
    let keys = rw c.unwrap.ensures at c.insert.ensures.keys in
    let added = rw c.unwrap.ensures at c.insert.ensures.added in
    let known : list_any (bytes_eq c.args.name) names ≡ true = told c.unwrap.result _ added ∙ rw c.if-unwrap.false refl in
    ap length (keys ∙ ap (λ b. if b then names else names ++ c.args.name ∷ []) known) ∙ c.requires.paired

pub returns-then-unwrap-clause-packages : goal.returns-then-unwrap-clause-packages
returns-then-unwrap-clause-packages c =
    let keys = rw c.unwrap.ensures at c.insert.ensures.keys in
    let items = rw c.unwrap-then-unwrap.ensures at c.push.ensures.items in
    let added = rw c.unwrap.ensures at c.insert.ensures.added in
    with_name-new c.args.names.now.keys c.insert.new.self.keys c.args.lists.now.items c.push.new.self.items c.args.name c.args.publications
    c.requires.paired (told c.unwrap.result _ added ∙ rw c.if-unwrap.true refl) c.requires.empty keys items

pub returns-else-unwrap-clause-packages : goal.returns-else-unwrap-clause-packages
returns-else-unwrap-clause-packages c =
    let names = c.args.names.now.keys in
    let keys = rw c.unwrap.ensures at c.insert.ensures.keys in
    let added = rw c.unwrap.ensures at c.insert.ensures.added in
    let known = told c.unwrap.result _ added ∙ rw c.if-unwrap.false refl in
    ap (λ ks. packages_in ks c.args.lists.now.items) (keys ∙ ap (λ b. if b then names else names ++ c.args.name ∷ []) known)
    ∙ with_name-known names c.args.lists.now.items c.args.name c.requires.paired known

pub returns-then-unwrap-clause-stay : goal.returns-then-unwrap-clause-stay
returns-then-unwrap-clause-stay c =
    let items = rw c.unwrap-then-unwrap.ensures at c.push.ensures.items in
    rooms-stay c.args.lists.now.items c.push.new.self.items c.args.publications items

pub returns-else-unwrap-clause-stay : goal.returns-else-unwrap-clause-stay
returns-else-unwrap-clause-stay c = λ i lt. (lt, refl)

pub returns-then-unwrap-clause-names_room : goal.returns-then-unwrap-clause-names_room
returns-then-unwrap-clause-names_room c = c.insert.ensures.spare

pub returns-then-unwrap-clause-lists_room : goal.returns-then-unwrap-clause-lists_room
returns-then-unwrap-clause-lists_room c = (c.push.ensures.capacity, c.push.ensures.upper_bound)

pub returns-then-unwrap-clause-extends : goal.returns-then-unwrap-clause-extends
returns-then-unwrap-clause-extends c =
    let names = c.args.names.now.keys in
    let keys = rw c.unwrap.ensures at c.insert.ensures.keys in
    let items = rw c.unwrap-then-unwrap.ensures at c.push.ensures.items in
    let added = rw c.unwrap.ensures at c.insert.ensures.added in
    let new : list_any (bytes_eq c.args.name) names ≡ false = told c.unwrap.result _ added ∙ rw c.if-unwrap.true refl in
    extends-pushed names c.insert.new.self.keys c.args.lists.now.items c.push.new.self.items c.args.name c.args.publications
    (keys ∙ ap (λ b. if b then names else names ++ c.args.name ∷ []) new) items c.requires.empty

pub returns-else-unwrap-clause-extends : goal.returns-else-unwrap-clause-extends
returns-else-unwrap-clause-extends c =
    let names = c.args.names.now.keys in
    let keys = rw c.unwrap.ensures at c.insert.ensures.keys in
    let added = rw c.unwrap.ensures at c.insert.ensures.added in
    let known : list_any (bytes_eq c.args.name) names ≡ true = told c.unwrap.result _ added ∙ rw c.if-unwrap.false refl in
    extends-same names c.insert.new.self.keys c.args.lists.now.items c.args.lists.now.items (keys ∙ ap (λ b. if b then names else names ++ c.args.name ∷ []) known) refl
