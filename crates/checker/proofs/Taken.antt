-- The steps of a walk, and the lines that are copied or taken for them.
use Rattle.std.proofs.Common.{◌≡◌, ◌≢◌, ◌<◌, ◌∙◌, ℕ, List, [], ◌∷◌, ◌++◌, length, get_or, refl, sym, ap, subst, arith, append_assoc}
use Rattle.std.proofs.Math.ListN.{set}
use Rattle.std.proofs.lemmas.List.{get_or-set_same, get_or-set_other, map_push}
use Rattle.std.specs.Prelude.{slice_get}
use Rattle.derivations.specs.Facts.{Terms}
use Rattle.checker.specs.Cutting.{AreNumberedAt, IsOpen}
use Rattle.checker.specs.Taking.{AreElsewhere, ArePlaced, line_at, lines_at, places_of, said_at, said_by}
use Rattle.derivations.specs.Lines.{Line}
use Rattle.checker.specs.declared.taking.Step.{Step}
use Rattle.derivations.specs.declared.known.CausedIncompatibility.{CausedIncompatibility}
use Rattle.checker.proofs.Clearing.{numbered_one}
use Rattle.checker.proofs.Walking.{open_within, open_zero}

-- ---- what lines say

pub lines_pushed : (known : List CausedIncompatibility) (steps : List Step) (step : Step) (steps' : List Step) → steps' ≡ steps ++ step ∷ [] → lines_at known steps' ≡ lines_at known steps ++ line_at known step ∷ []
lines_pushed known steps step steps' is = ap (lines_at known) is ∙ map_push (line_at known) steps step

-- ---- the steps of a walk, each at a place of its own

-- each step's place has a number
abbrev pub HaveNumbers : List ℕ → List Step → Type 0
HaveNumbers numbers [] = Unit {0}
HaveNumbers numbers (step ∷ rest) = (0 < get_or numbers step.place 0) × HaveNumbers numbers rest

-- the places that have a number are those of the steps
pub record AreStepsTo (known : List CausedIncompatibility) (numbers : List ℕ) (steps : List Step) : Type 0 where
  pub numbered : AreNumberedAt numbers (places_of steps)
  pub have : HaveNumbers numbers steps
  pub placed : ArePlaced (length known) steps

elsewhere_pushed : (place : ℕ) (steps : List Step) (step : Step) → AreElsewhere place steps → step.place ≢ place → AreElsewhere place (steps ++ step ∷ [])
elsewhere_pushed place [] step h apart = (apart, tt)
elsewhere_pushed place (s ∷ rest) step h apart = (h.0, elsewhere_pushed place rest step h.1 apart)

placed_pushed : (count : ℕ) (numbers : List ℕ) (steps : List Step) (step : Step) → ArePlaced count steps → HaveNumbers numbers steps → get_or numbers step.place 0 ≡ 0 → step.place < count → ArePlaced count (steps ++ step ∷ [])
placed_pushed count numbers [] step placed have none lt = (lt, tt, tt)
placed_pushed count numbers (s ∷ rest) step placed have none lt = (
  placed.0,
  elsewhere_pushed s.place rest step placed.1 (λ e. omega (arith, have.0, none, ap (λ k. get_or numbers k 0) e)),
  placed_pushed count numbers rest step placed.2 have.1 none lt,
)

have_set : (numbers : List ℕ) (at number : ℕ) (steps : List Step) → HaveNumbers numbers steps → get_or numbers at 0 ≡ 0 → HaveNumbers (set numbers at number) steps
have_set numbers at number [] have none = tt
have_set numbers at number (s ∷ rest) have none = (
  subst (λ n. 0 < n) (sym (get_or-set_other numbers at s.place number 0 (λ e. omega (arith, have.0, none, ap (λ k. get_or numbers k 0) e)))) have.0,
  have_set numbers at number rest have.1 none,
)

have_pushed : (numbers : List ℕ) (steps : List Step) (step : Step) → HaveNumbers numbers steps → 0 < get_or numbers step.place 0 → HaveNumbers numbers (steps ++ step ∷ [])
have_pushed numbers [] step have some = (some, tt)
have_pushed numbers (s ∷ rest) step have some = (have.0, have_pushed numbers rest step have.1 some)

-- one more step
pub one_more : (known : List CausedIncompatibility) (numbers : List ℕ) (steps : List Step) (at number : ℕ) (step : Step) (steps' : List Step) → AreStepsTo known numbers steps → IsOpen known numbers at → length numbers ≡ length known
    → step.place ≡ at → 0 < number → steps' ≡ steps ++ step ∷ [] → AreStepsTo known (set numbers at number) steps'
one_more known numbers steps at number step steps' s open_there lengths here some is =
    let none : get_or numbers at 0 ≡ 0 = open_zero known numbers at open_there in
    let within : at < length known = open_within known numbers at open_there in
    let own : 0 < get_or (set numbers at number) step.place 0 = subst (λ k. 0 < get_or (set numbers at number) k 0) (sym here) (subst (λ n. 0 < n) (sym (get_or-set_same numbers at number 0 (omega (arith, within, lengths)))) some) in
    record {
      numbered = numbered_one numbers (places_of steps) at number (places_of steps') s.numbered (ap places_of is ∙ map_push (λ (x : Step). x.place) steps step ∙ ap (λ k. places_of steps ++ k ∷ []) here);
      have = subst (λ all. HaveNumbers (set numbers at number) all) (sym is) (have_pushed (set numbers at number) steps step (have_set numbers at number steps s.have none) own);
      placed = subst (λ all. ArePlaced (length known) all) (sym is)
          (placed_pushed (length known) numbers steps step s.placed s.have (ap (λ k. get_or numbers k 0) here ∙ none) (subst (λ k. k < length known) (sym here) within));
    }

-- ---- what is taken

abbrev pub line_saying : Step → Terms → Line
line_saying step terms = record { conclusion = terms; causes = step.causes; pivot = step.pivot }

-- what is taken from one place changes nothing elsewhere
pub same_elsewhere : (known known' : List CausedIncompatibility) (place : ℕ) (steps : List Step) → AreElsewhere place steps → ((k : ℕ) → k ≢ place → slice_get known' k ≡ slice_get known k) → lines_at known' steps ≡ lines_at known steps
same_elsewhere known known' place [] apart others = refl
same_elsewhere known known' place (s ∷ rest) apart others =
    ap (λ (terms : Terms). line_saying s terms ∷ lines_at known' rest) (ap said_by (others s.place apart.0))
    ∙ ap (λ (lines : List Line). line_at known s ∷ lines) (same_elsewhere known known' place rest apart.1 others)

-- one line more is written
pub one_written : (known known' : List CausedIncompatibility) (lines lines' : List Line) (terms : Terms) (step : Step) (left rest : List Step) (all : List Line) → lines ++ lines_at known left ≡ all → left ≡ step ∷ rest
    → terms ≡ said_at known step.place → lines_at known' rest ≡ lines_at known rest → lines' ≡ lines ++ line_saying step terms ∷ [] → lines' ++ lines_at known' rest ≡ all
one_written known known' lines lines' terms step left rest all split first said same is =
    ap (λ (ls : List Line). ls ++ lines_at known' rest) is
    ∙ append_assoc lines (line_saying step terms ∷ []) (lines_at known' rest)
    ∙ ap (λ (ls : List Line). lines ++ line_saying step terms ∷ ls) same
    ∙ ap (λ (ts : Terms). lines ++ line_saying step ts ∷ lines_at known rest) said
    ∙ ap (λ (steps : List Step). lines ++ lines_at known steps) (sym first)
    ∙ split
