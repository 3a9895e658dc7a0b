-- An order of the walk that is kept: what is cut off, and what is found and noted more.
use Rattle.std.proofs.Common.{◌≡◌, ◌≤◌, ◌+◌, ◌∙◌, ℕ, zero, suc, refl, sym, ap, subst, arith, List, [], ◌∷◌, ◌++◌, length, take, inl, inr}
use Rattle.std.proofs.lemmas.List.{take-append-le}
use Rattle.std.proofs.lemmas.Option.{slice_get_within}
use Rattle.std.specs.Prelude.{Some, slice_get}
use Rattle.versions.specs.Words.{Text}
use Rattle.registry.specs.Registry.{Packages}
use Rattle.registry.specs.Selections.{Choices}
use Rattle.walk.specs.declared.order.Order.{Order}
use Rattle.walk.specs.Listing.{AreChosen, IsListing, IsOrder, IsPassedTo, IsStage, NotesStage}
use Rattle.walk.specs.Newest.{next_package}
use Rattle.walk.specs.Walks.{Grows}
use Rattle.walk.proofs.Listings.{to_grown}
use Rattle.walk.proofs.Lists.{get-some, pushed_at, take_one}

-- ---- beginnings of lists

-- a beginning that is at least as long as the list before grew from it
taken-grows : (old more : List (ℕ × ℕ)) (i : ℕ) → length old ≤ i → Grows old (take i (old ++ more))
taken-grows [] more i le = (take i more, refl)
taken-grows (x ∷ old) more zero le = absurd (omega (arith, le))
taken-grows (x ∷ old) more (suc i) le = let rest = taken-grows old more i (omega (arith, le)) in (rest.0, ap (λ xs. x ∷ xs) rest.1)

-- one more that is chosen
pub chosen_more : (chooses : Choices) (found : List (ℕ × ℕ)) (place : ℕ) (e : ℕ × ℕ) → AreChosen chooses (take place found) → slice_get found place ≡ Some e → chooses e.0 ≡ Some e.1
    → AreChosen chooses (take (place + 1) found)
chosen_more chooses found place e before at chosen = subst (AreChosen chooses) (sym (take_one found place e at)) (λ i x here. elim (pushed_at (take place found) e i x here) [
  | inl there ↦ before i x there
  | inr last ↦ subst (λ (y : ℕ × ℕ). chooses y.0 ≡ Some y.1) last.1 chosen
])

-- ---- stages

module _ (packages : Packages) (needs : List (Text × Text)) where
  pub at_stage : (found : List (ℕ × ℕ)) (stage place : ℕ) → stage ≡ place + 1 → IsStage packages needs found stage → IsPassedTo packages needs found place
  at_stage found zero place e to = absurd (omega (arith, e))
  at_stage found (suc n) place e to = let same : n ≡ place = omega (arith, e) in subst (λ m. IsPassedTo packages needs found m) same to

  -- a stage stays come to where more is found
  stage_grown : (old xs : List (ℕ × ℕ)) (stage : ℕ) → Grows old xs → stage ≤ length old → IsStage packages needs old stage → IsStage packages needs xs stage
  stage_grown old xs zero g le come = tt
  stage_grown old xs (suc place) g le come = let here = get-some old place (omega (arith, le)) in to_grown packages needs old xs place here.0 g here.1 come

  -- what is found and noted in a stage
  pub order_noted : (old mid new : Order) → IsOrder packages needs old → mid.stages.items ≡ old.stages.items → mid.stage ≡ old.stage → Grows old.found.entries mid.found.entries
      → ((i : ℕ) (e : ℕ × ℕ) → slice_get mid.found.entries i ≡ Some e → next_package packages needs (take i mid.found.entries) ≡ Some e.0)
      → old.stage ≤ length old.found.entries → NotesStage mid new → IsOrder packages needs new
  order_noted old mid new order stages stage grows walked le notes = record {
    walked = subst (λ (xs : List (ℕ × ℕ)). (i : ℕ) (e : ℕ × ℕ) → slice_get xs i ≡ Some e → next_package packages needs (take i xs) ≡ Some e.0) (sym found) walked;
    noted = notes.noted short ∙ ap length (sym found);
    stages = λ i s at. elim (notes.stages i s at) [
      | inl before ↦
          let there : slice_get old.stages.items i ≡ Some s = ap (λ xs. slice_get xs i) (sym stages) ∙ before in
          let within = slice_get_within old.stages.items i s there in
          let front : take i new.found.entries ≡ take i old.found.entries =
          ap (take i) (found ∙ grows.1) ∙ take-append-le i old.found.entries grows.0 (omega (arith, within, order.noted)) in
          subst (λ xs. IsStage packages needs xs s) (sym front) (order.stages i s there)
      | inr behind ↦
          let le : length old.found.entries ≤ i = omega (arith, behind.0, ap length stages, order.noted) in
          let more : Grows old.found.entries (take i new.found.entries) =
          let g = taken-grows old.found.entries grows.0 i le in (g.0, ap (take i) (found ∙ grows.1) ∙ g.1) in
          subst (λ n. IsStage packages needs (take i new.found.entries) n) (sym (behind.1 ∙ stage)) (grown (take i new.found.entries) more)
    ];
    come = subst (λ n. IsStage packages needs new.found.entries n) (sym (notes.stage ∙ stage)) (grown new.found.entries (grows.0, found ∙ grows.1));
  }
    where
      found : new.found.entries ≡ mid.found.entries
      found = ap (λ m. m.entries) notes.found

      longer : (xs ys : List (ℕ × ℕ)) → length xs ≤ length (xs ++ ys)
      longer [] ys = omega arith
      longer (x ∷ xs) ys = omega (arith, longer xs ys)

      grown : (xs : List (ℕ × ℕ)) → Grows old.found.entries xs → IsStage packages needs xs old.stage
      grown xs g = stage_grown old.found.entries xs old.stage g le order.come

      short : length mid.stages.items ≤ length mid.found.entries
      short = omega (arith, ap length stages, order.noted, longer old.found.entries grows.0, ap length grows.1)

  -- it comes to another stage
  pub order_come : (old new : Order) → IsOrder packages needs old → new.found ≡ old.found → new.stages ≡ old.stages → IsStage packages needs old.found.entries new.stage → IsOrder packages needs new
  order_come old new order found stages come = record {
    walked = subst (λ m. (i : ℕ) (e : ℕ × ℕ) → slice_get m.entries i ≡ Some e → next_package packages needs (take i m.entries) ≡ Some e.0) (sym found) order.walked;
    noted = ap (λ xs. length xs.items) stages ∙ order.noted ∙ sym (ap (λ m. length m.entries) found);
    stages = λ i s at. subst (λ m. IsStage packages needs (take i m.entries) s) (sym found) (order.stages i s (ap (λ xs. slice_get xs.items i) (sym stages) ∙ at));
    come = subst (λ m. IsStage packages needs m.entries new.stage) (sym found) come;
  }

  -- what is kept is a listing by what is chosen now
  pub listing_kept : (order : Order) (chooses : Choices) → IsOrder packages needs order → AreChosen chooses order.found.entries → IsListing packages needs chooses order.found.entries
  listing_kept order chooses is chosen = record { walked = is.walked; chosen = chosen }
