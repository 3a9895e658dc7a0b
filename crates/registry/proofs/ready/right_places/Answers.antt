use Rattle.std.proofs.Common.{◌≡◌, ◌<◌, ◌+◌, ℕ, List, arith, get_or, inl, inr, length, refl, subst, sym}
use Rattle.std.specs.Prelude.{Some, slice_get}
use Rattle.std.proofs.lemmas.Bool.{cases_lt}
use Rattle.std.proofs.lemmas.Option.{get_or_from_slice_get, none-some, slice_get_read, slice_get_within}
use Rattle.versions.specs.Words.{Text}
use Rattle.registry.specs.Places.{StandsAt, named_of}
use Rattle.registry.specs.declared.place.Place.{Place}
use Rattle.registry.proofs.ready.right_places.Goals as goal

-- the need at this index has its place there
abbrev IsRight : List Text → List (List Text) → List (Text × Text) → ℕ → Place → Type 0
IsRight names named needs j place = (need : Text × Text) × (slice_get needs j ≡ Some need) × StandsAt names named need place

-- one more is right
right-more : (names : List Text) (named : List (List Text)) (needs : List (Text × Text)) (places : List Place) (i : ℕ) (need : Text × Text) (d : Place)
    → ((j : ℕ) (place : Place) → j < i → slice_get places j ≡ Some place → IsRight names named needs j place)
    → i < length needs → need ≡ get_or needs i need → StandsAt names named need (get_or places i d)
    → (j : ℕ) (place : Place) → j < i + 1 → slice_get places j ≡ Some place → IsRight names named needs j place
right-more names named needs places i need d before within is stands j place below at = elim (cases_lt j i) [
  | inl under ↦ before j place under at
  | inr from ↦
      let here : i ≡ j = omega (arith, below, from) in
      let there = subst (λ k. slice_get places k ≡ Some place) (sym here) at in
      (need, subst (λ k. slice_get needs k ≡ Some need) here (slice_get_read needs (length needs) i need refl within is), subst (StandsAt names named need) (get_or_from_slice_get places i place d there) stands)
]

pub loop-index-init : goal.loop-index-init
loop-index-init c = record { right = λ j place below at. absurd (omega (arith, below)) }

pub loop-index-preserved : goal.loop-index-preserved
loop-index-preserved c = record {
  right = right-more c.args.names.now.keys (named_of c.args.lists.now) c.args.needs.now c.args.places.now c.loop-index.index c.index-needs-index.result _ c.loop-index.invariant.right
      (omega (arith, c.loop-index-test.true, c.if-places-needs.false)) c.index-needs-index.is (c.stands_at.ensures c.if-not-stands_at.false);
}

pub returns : goal.returns
returns c = λ j place at.
    let within = slice_get_within c.args.places.now j place at in c.loop-index.invariant.right j place (omega (arith, within, c.loop-index-test.false)) at

pub returns-then-not-stands_at : goal.returns-then-not-stands_at
returns-then-not-stands_at c = λ j place at. absurd (none-some place at)

pub returns-then-places-needs : goal.returns-then-places-needs
returns-then-places-needs c = λ j place at. absurd (none-some place at)
