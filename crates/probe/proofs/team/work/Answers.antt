use Rattle.std.proofs.Common.{◌≡◌, ◌∙◌, All, List, ◌∷◌, arith, subst, sym}
use Rattle.std.proofs.lemmas.List.Elements.{All-rest}
use Rattle.chronicle.specs.Cells.{Cells}
use Rattle.chronicle.specs.Seats.{SeatState}
use Rattle.probe.proofs.team.work.Goals as goal

-- what holds of each holds of the first
first_of : {A : Type 0} (P : A → Type 0) (x : A) (xs ys : List A) → ys ≡ x ∷ xs → All P ys → P x
first_of P x xs ys e h = let first = subst (λ (l : List _). All P l) e h in first 0 x (omega (arith))

-- the first two seats are of one row
one_row : (row : Cells) (one two : SeatState) (both others rest : List SeatState) → both ≡ one ∷ others → others ≡ two ∷ rest → All (λ (s : SeatState). s.row ≡ row) both → one.row ≡ two.row
one_row row one two both others rest first second rows =
    let here : SeatState → Type 0 = λ s. s.row ≡ row in
    first_of here one others both first rows ∙ sym (first_of here two rest others second (All-rest here one others both first rows))

pub ask-requires : goal.ask-requires
ask-requires g c =
    c.publish.ensures
    ∙ one_row c.args.row.now c.in-Some.one.now c.in-Some-split_first_mut.two.now _ _ _ c.in-Some.ensures.cases.0 c.in-Some-split_first_mut.ensures.cases.0 c.requires
