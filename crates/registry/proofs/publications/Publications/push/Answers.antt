use Rattle.std.proofs.Common.{◌≡◌, ◌<◌, ◌∙◌, ◌++◌, ◌∷◌, [], ℕ, List, inl, inr, ap, arith, false, length, length-append, subst, sym}
use Rattle.std.specs.Prelude.{◌↔◌, IsTrue, Some, min, slice_get, slice_range}
use Rattle.std.proofs.lemmas.List.{length-map}
use Rattle.std.proofs.lemmas.Option.{none-some}
use Rattle.versions.specs.Words.{Text}
use Rattle.std.proofs.lemmas.List.{length_push}
use Rattle.releases.specs.declared.release.Release.{Release}
use Rattle.registry.specs.Places.{ArePlaced, ArePlacesOf, StandBeside}
use Rattle.registry.specs.Publications.{PublicationList, any_yanked, parts_of, publications_of, AreAlike, AreCounted, AreSame, EndWithin, EndsWith}
use Rattle.registry.specs.declared.place.Place.{Place}
use Rattle.registry.specs.declared.span.Span.{Span}
use Rattle.registry.specs.Registry.{Publication, has_version}
use Rattle.registry.proofs.Alike.{alike-next, counted-next}
use Rattle.registry.proofs.PlaceLemmas.{beside-needs, beside-push, part-at, parts-push, slice-longer, within-at, within-push}
use Rattle.registry.proofs.PublicationLemmas.{has_version-releases, length-publications_of, publications_of-push}
use Rattle.registry.proofs.Yanks.{yanked-more}
use Rattle.registry.proofs.publications.Publications.push.Goals as goal
use Rattle.registry.proofs.publications.Publications.push.Goals.{After-unwrap-3}

-- the publications and parts that were there
abbrev parts : After-unwrap-3 → List (List Place)
parts c = parts_of c.self.inside.places.items c.self.inside.spans.items

abbrev next : After-unwrap-3 → Publication
next c = record { version = c.args.version; needs = c.args.needs; yanked = false }

published : (c : After-unwrap-3) → publications_of c.push-3.new.self.releases c.push-4.new.self.items ≡ publications_of c.self.inside.releases.releases c.self.inside.needs.items ++ next c ∷ []
published c =
    let items = rw c.unwrap-3.ensures at c.push-4.ensures.items in
    ap (λ l. publications_of l c.push-4.new.self.items) c.push-3.ensures.releases
    ∙ ap (λ l. publications_of (c.self.inside.releases.releases ++ (record { version = c.args.version; yanked = false }) ∷ []) l) items
    ∙ publications_of-push c.self.inside.releases.releases c.self.inside.needs.items (record { version = c.args.version; yanked = false }) c.args.needs c.self.invariant.0

-- the places of the next one stand behind
placed : (c : After-unwrap-3) → parts_of c.next_span-span.new.all.items c.push-2.new.self.items
    ≡ parts c ++ slice_range c.next_span-span.new.all.items c.next_span-span.result.from c.next_span-span.result.to ∷ []
placed c =
    let spans = rw c.unwrap-2.ensures at c.push-2.ensures.items in
    let old = c.self.inside.places.items in
    let more = c.next_span-span.ensures.grown.0 in
    let span = c.next_span-span.result in
    ap (parts_of c.next_span-span.new.all.items) spans
    ∙ ap (λ l. parts_of l (c.self.inside.spans.items ++ span ∷ [])) c.next_span-span.ensures.grown.1
    ∙ parts-push old more c.self.inside.spans.items span c.self.invariant.4
    ∙ sym (ap (λ (l : List Place). parts c ++ slice_range l span.from span.to ∷ []) c.next_span-span.ensures.grown.1)

-- the places of the next one are right
latest : (c : After-unwrap-3) (names : List Text) (named : List (List Text)) → ArePlacesOf names named c.args.needs c.args.places.now
    → StandBeside names named (publications_of c.self.inside.releases.releases c.self.inside.needs.items) (parts c)
    → ArePlacesOf names named c.args.needs (slice_range c.next_span-span.new.all.items c.next_span-span.result.from c.next_span-span.result.to)
latest c names named right old =
    let P : List Place → Type 0 = ArePlacesOf names named c.args.needs in
    elim c.next_span-span.ensures.part [
      | inl new ↦ subst P (sym new) right
      | inr other ↦ elim other [
        | inl none ↦ subst P (sym none) (λ j place at. absurd (none-some place at))
        | inr same ↦
            let spans = c.self.inside.spans.items in
            let last : Span = same.2 in
            let ends = (rw c.deref.ensures.value at c.end_with-repeats.ensures).0 same.0 in
            let at : slice_get spans same.1 ≡ Some last = rw c.deref-2.ensures.value at same.4 in
            let place : same.1 ≡ ends.0 = omega (arith, same.3, ends.1, c.self.invariant.3, ap length c.deref-2.ensures.value) in
            let own : slice_get c.self.inside.needs.items same.1 ≡ Some c.args.needs = ap (slice_get c.self.inside.needs.items) place ∙ ends.2 in
            let paired = length-map spans (λ (span : Span). slice_range c.self.inside.places.items span.from span.to) in
            let within = within-at (length c.self.inside.places.items) spans same.1 last c.self.invariant.4 at in
            let part = part-at c.self.inside.places.items spans same.1 last at in
            let stays = slice-longer c.self.inside.places.items c.next_span-span.ensures.grown.0 last.from last.to within in
            let now = ap (λ (l : List Place). slice_range l last.from last.to) c.next_span-span.ensures.grown.1 in
            let ends-alike = ap (λ n. slice_range c.next_span-span.new.all.items n c.next_span-span.result.to) same.5
            ∙ ap (λ n. slice_range c.next_span-span.new.all.items last.from n) same.6 in
            subst P (part ∙ sym stays ∙ sym now ∙ sym ends-alike)
            (beside-needs names named c.self.inside.releases.releases c.self.inside.needs.items (parts c) same.1 c.args.needs c.self.invariant.0
            (omega (arith, paired, c.self.invariant.3)) own old)
      ]
    ]

-- room in all is room in each
each : (a b c d : ℕ) → 0 < min (min a b) (min c d) → (0 < a) × (0 < b) × (0 < c) × (0 < d)
each a b c d room = (omega arith, omega arith, omega arith, omega arith)

pub unwrap-requires : goal.unwrap-requires
unwrap-requires c =
    let room = each _ _ _ _ (rw (← c.self.view_is) at c.requires.room) in c.push.ensures.succeeds (omega (arith, room.3))

pub unwrap-requires-2 : goal.unwrap-requires-2
unwrap-requires-2 c =
    let room = each _ _ _ _ (rw (← c.self.view_is) at c.requires.room) in c.push-2.ensures.succeeds (omega (arith, room.1))

pub push-requires-3-clause-room : goal.push-requires-3-clause-room
push-requires-3-clause-room c =
    let room = each _ _ _ _ (rw (← c.self.view_is) at c.requires.room) in room.0

pub unwrap-requires-3 : goal.unwrap-requires-3
unwrap-requires-3 c =
    let room = each _ _ _ _ (rw (← c.self.view_is) at c.requires.room) in c.push-4.ensures.succeeds (omega (arith, room.2))

pub push-requires-3-clause-new : goal.push-requires-3-clause-new
push-requires-3-clause-new c =
    sym (has_version-releases c.self.inside.releases.releases c.self.inside.needs.items c.args.version c.self.invariant.0)
    ∙ ap (λ (l : PublicationList). has_version l.publications c.args.version) c.self.view_is ∙ c.requires.new

pub push-requires-3-clause-few : goal.push-requires-3-clause-few
push-requires-3-clause-few c =
    let count = length-publications_of c.self.inside.releases.releases c.self.inside.needs.items c.self.invariant.0 in
    let seen = ap (λ (l : PublicationList). length l.publications) c.self.view_is in
    omega (arith, count, seen, c.requires.few)

pub invariant_of-self : goal.invariant_of-self
invariant_of-self c =
    let old = c.self.inside in
    let marks = rw c.unwrap.ensures at c.push.ensures.items in
    let items = rw c.unwrap-3.ensures at c.push-4.ensures.items in
    let spans = rw c.unwrap-2.ensures at c.push-2.ensures.items in
    let ends = rw c.deref.ensures.value at c.end_with-repeats.ensures in
    let added : Release = record { version = c.args.version; yanked = false } in
    let more = ap length items in
    let spanned = ap length spans in
    let places = ap length c.next_span-span.ensures.grown.1 in
    let released = ap length c.push-3.ensures.releases in
    let counted : c.next_span-span.result.needs ≡ length c.args.needs = c.next_span-span.ensures.counted ∙ ap length c.needs-count.ensures in
    let stays : IsTrue old.is_alike ↔ AreSame old.needs.items → IsTrue c.end_with-repeats.result ↔ EndsWith old.needs.items c.args.needs
    → IsTrue c.stay_alike-self-inside.result ↔ AreSame (old.needs.items ++ c.args.needs ∷ [])
    = rw c.deref-3.ensures.value at c.stay_alike-self-inside.ensures c.args.needs in
    let alike = stays c.self.invariant.6 ends in (
      omega (arith, more, released, length_push old.needs.items c.args.needs, length_push old.releases.releases added, c.self.invariant.0),
      subst (λ m. AreAlike m c.push-4.new.self.items) (sym marks)
          (subst (AreAlike (old.repeats.items ++ c.end_with-repeats.result ∷ [])) (sym items)
          (alike-next old.repeats.items old.needs.items c.end_with-repeats.result c.args.needs c.self.invariant.1 ends)),
      c.self.invariant.2 ∙ sym (ap any_yanked c.push-3.ensures.releases ∙ yanked-more old.releases.releases c.args.version),
      omega (arith, more, spanned, length_push old.needs.items c.args.needs, length_push old.spans.items c.next_span-span.result, c.self.invariant.3),
      subst (EndWithin (length c.next_span-span.new.all.items)) (sym spans)
          (within-push (length old.places.items) (length c.next_span-span.new.all.items) old.spans.items c.next_span-span.result
          (omega (arith, places, length-append old.places.items c.next_span-span.ensures.grown.0)) c.next_span-span.ensures.within c.self.invariant.4),
      subst (λ l. AreCounted l c.push-4.new.self.items) (sym spans)
          (subst (AreCounted (old.spans.items ++ c.next_span-span.result ∷ [])) (sym items)
          (counted-next old.spans.items old.needs.items c.next_span-span.result c.args.needs c.self.invariant.5 counted)),
      subst (λ l. IsTrue c.stay_alike-self-inside.result ↔ AreSame l) (sym items) alike,
    )

pub returns-clause-publications : goal.returns-clause-publications
returns-clause-publications c = published c ∙ ap (λ (l : PublicationList). l.publications ++ next c ∷ []) c.self.view_is

pub returns-clause-named : goal.returns-clause-named
returns-clause-named c = c.push-3.ensures.needs ∙ ap (λ (l : PublicationList). l.named) c.self.view_is

pub returns-clause-placed : goal.returns-clause-placed
returns-clause-placed c = λ names named right before.
    let old : StandBeside names named (publications_of c.self.inside.releases.releases c.self.inside.needs.items) (parts c)
    = subst (λ (l : PublicationList). ArePlaced names named l) (sym c.self.view_is) before in
    let count = length-publications_of c.self.inside.releases.releases c.self.inside.needs.items c.self.invariant.0 in
    let paired : length (parts c) ≡ length (publications_of c.self.inside.releases.releases c.self.inside.needs.items) = omega (arith, count, c.self.invariant.0, c.self.invariant.3, length-map c.self.inside.spans.items (λ (span : Span). slice_range c.self.inside.places.items span.from span.to)) in
    subst (λ l. StandBeside names named l (parts_of c.next_span-span.new.all.items c.push-2.new.self.items)) (sym (published c))
    (subst (StandBeside names named (publications_of c.self.inside.releases.releases c.self.inside.needs.items ++ next c ∷ [])) (sym (placed c))
    (beside-push names named (publications_of c.self.inside.releases.releases c.self.inside.needs.items) (parts c) (next c) _ paired (latest c names named right old) old))
