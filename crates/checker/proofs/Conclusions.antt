-- What is shown has a derivation, and holds.
use Rattle.std.proofs.Common.{◌≡◌, ◌∙◌, ◌<◌, inl, inr, Bool, false, nat_eq, ℕ, zero, suc, List, [], ◌∷◌, ◌++◌, ◌||◌, true, length, arith, refl, sym, ap, subst}
use Rattle.std.proofs.lemmas.Bool.{eq-eqb}
use Rattle.std.proofs.lemmas.Option.{none-some, slice_get_within}
use Rattle.std.specs.Prelude.{Some, slice_get}
use Rattle.terms.specs.Incompats.{Follows, has_term, joined, true_at}
use Rattle.registry.specs.Registry.{Packages}
use Rattle.registry.specs.Requests.{Wanted}
use Rattle.registry.specs.Selections.{with_root}
use Rattle.derivations.specs.CausedIncompatibilities.{AreLawful, AreOrdered, IsBefore, StandsBy}
use Rattle.derivations.specs.Facts.{AllTrue, Terms}
use Rattle.derivations.specs.Laws.{KeptLinesHold, KeptLinesRefute}
use Rattle.derivations.specs.declared.known.CausedIncompatibility.{CausedIncompatibility}
use Rattle.derivations.specs.declared.known.Reason.{Reason}
use Rattle.derivations.specs.declared.known.Reason.TheVariants.{Fact, Resolved}
use Rattle.facts.specs.Lines.{Keeps}
use Rattle.checker.proofs.Growing.{AreLawful-push, AreOrdered-push, Keeps-push}
use Rattle.checker.proofs.Lists.{get-last}
use Rattle.checker.specs.Laws.{ShownHolds, ShownRefutes}
use Rattle.checker.specs.Shown.{IsShown, fact, resolved}
use Rattle.checker.specs.Tables.{IsStep, SaysSame}

-- lines of a search behind others, of which one says these terms
record AreKept (packages : Packages) (wanted : Wanted) (before : List CausedIncompatibility) (terms : Terms) : Type 0 where
  known : List CausedIncompatibility
  lawful : AreLawful packages wanted known
  ordered : AreOrdered known
  keeps : Keeps before known
  at : ℕ
  line : CausedIncompatibility
  there : slice_get known at ≡ Some line
  says : line.conclusion ≡ terms

module _ (packages : Packages) (wanted : Wanted) where
  pushed : (known : List CausedIncompatibility) (line : CausedIncompatibility) → AreLawful packages wanted known → AreOrdered known
      → StandsBy packages wanted known line.conclusion line.reason → IsBefore (length known) line.reason → AreKept packages wanted known line.conclusion
  pushed known line lawful ordered stands before = record {
    known = known ++ line ∷ [];
    lawful = AreLawful-push packages wanted known line lawful stands;
    ordered = AreOrdered-push known line ordered before;
    keeps = Keeps-push known line;
    at = length known;
    line = line;
    there = get-last known line;
    says = refl;
  }

  -- keeping more behind what is kept
  behind : (before known : List CausedIncompatibility) (terms : Terms) → Keeps before known → AreKept packages wanted known terms → AreKept packages wanted before terms
  behind before known terms keeps kept = record {
    known = kept.known;
    lawful = kept.lawful;
    ordered = kept.ordered;
    keeps = λ k line at. kept.keeps k line (keeps k line at);
    at = kept.at;
    line = kept.line;
    there = kept.there;
    says = kept.says;
  }

  follow : (known : List CausedIncompatibility) (terms one two : Terms) (pivot : ℕ) → (has_term one pivot || has_term two pivot) ≡ true → Follows terms one two pivot
      → (first : AreKept packages wanted known one) → AreKept packages wanted first.known two → AreKept packages wanted known terms
  follow known terms one two pivot on_pivot follows first second =
      let one_at : slice_get second.known first.at ≡ Some first.line = second.keeps first.at first.line first.there in
      let has = subst (λ t. (has_term t pivot || has_term second.line.conclusion pivot) ≡ true) (sym first.says) (subst (λ t. (has_term one pivot || has_term t pivot) ≡ true) (sym second.says) on_pivot) in
      let says = subst (λ t. Follows terms t second.line.conclusion pivot) (sym first.says) (subst (λ t. Follows terms one t pivot) (sym second.says) follows) in
      let line : CausedIncompatibility = record { conclusion = terms; reason = Resolved first.at second.at pivot } in
      let stands : StandsBy packages wanted second.known terms (Resolved first.at second.at pivot) =
      record { one = first.line; two = second.line; one_at = one_at; two_at = second.there; on_pivot = has; follows = says } in
      let places : (first.at < length second.known) × (second.at < length second.known) = (slice_get_within second.known first.at first.line one_at, slice_get_within second.known second.at second.line second.there) in
      behind known second.known terms (λ k other at. second.keeps k other (first.keeps k other at)) (pushed second.known line second.lawful second.ordered stands places)

  kept : (terms : Terms) → IsShown packages wanted terms → (known : List CausedIncompatibility) → AreLawful packages wanted known → AreOrdered known → AreKept packages wanted known terms
  kept _ (fact c terms h) known lawful ordered = pushed known (record { conclusion = terms; reason = Fact c }) lawful ordered h tt
  kept _ (resolved terms one two pivot shown_one shown_two on_pivot follows) known lawful ordered =
      let first = kept one shown_one known lawful ordered in
      let second = kept two shown_two first.known first.lawful first.ordered in
      follow known terms one two pivot on_pivot follows first second

  alone : (terms : Terms) → IsShown packages wanted terms → AreKept packages wanted [] terms
  alone terms shown = kept terms shown [] (λ k line at. absurd (none-some line at)) (λ k line at. absurd (none-some line at))

-- where what is shown has no terms, there is a derivation, so that no selection meets the request
pub IsRefuted-IsShown : KeptLinesRefute → ShownRefutes
IsRefuted-IsShown refute packages wanted shown =
    let k = alone packages wanted [] shown in
    refute packages wanted k.known k.at k.line k.lawful k.ordered k.there k.says

-- no selection that meets the request makes all terms true of what is shown
pub Refutes-IsShown : KeptLinesHold → ShownHolds
Refutes-IsShown hold packages wanted terms shown s m all =
    let k = alone packages wanted terms shown in
    hold packages wanted k.known k.lawful k.ordered s m k.at k.line k.there (subst (λ t. AllTrue t (with_root s)) (sym k.says) all)

-- what the lines of a search say is shown
module _ (packages : Packages) (wanted : Wanted) (known : List CausedIncompatibility) (lawful : AreLawful packages wanted known) (ordered : AreOrdered known) where
  below : (n k : ℕ) (line : CausedIncompatibility) → k < n → slice_get known k ≡ Some line → IsShown packages wanted line.conclusion
  below zero k line lt at = absurd (omega arith)
  below (suc n) k line lt at = by (below n) line.reason (lawful k line at) (ordered k line at)
    where
      by : ((j : ℕ) (other : CausedIncompatibility) → j < n → slice_get known j ≡ Some other → IsShown packages wanted other.conclusion) → (r : Reason) → StandsBy packages wanted known line.conclusion r → IsBefore k r → IsShown packages wanted line.conclusion
      by before (Fact c) f b = fact c line.conclusion f
      by before (Resolved i j pivot) f b =
          resolved line.conclusion f.one.conclusion f.two.conclusion pivot (before i f.one (omega (arith, b.0, lt)) f.one_at) (before j f.two (omega (arith, b.1, lt)) f.two_at) f.on_pivot f.follows

pub IsShown-line : (packages : Packages) (wanted : Wanted) (known : List CausedIncompatibility) → AreLawful packages wanted known → AreOrdered known
    → (k : ℕ) (line : CausedIncompatibility) → slice_get known k ≡ Some line → IsShown packages wanted line.conclusion
IsShown-line packages wanted known lawful ordered k line at = below packages wanted known lawful ordered (suc k) k line (omega arith) at

-- ---- chains

-- what says the same as what is shown is shown, where it has no term that the other hasn't
pub same-shown : (packages : Packages) (wanted : Wanted) (one other : Terms) → IsShown packages wanted one → SaysSame other one → (one ≡ [] → other ≡ []) → IsShown packages wanted other
same-shown packages wanted [] other shown same none = subst (IsShown packages wanted) (sym (none refl)) shown
same-shown packages wanted (t ∷ rest) other shown same none =
    resolved other (t ∷ rest) (t ∷ rest) t.0 shown shown (rw (eq-eqb t.0 t.0 refl) refl) (λ p choice. same p choice ∙ alike (nat_eq p t.0) (true_at (t ∷ rest) p choice))
  where
    alike : (pivot b : Bool) → b ≡ joined pivot b b
    alike true true = refl
    alike true false = refl
    alike false true = refl
    alike false false = refl

pub shown-step : (packages : Packages) (wanted : Wanted) (old new cause : Terms) (pivot : ℕ) → IsShown packages wanted old → IsShown packages wanted cause → IsStep old new cause pivot → IsShown packages wanted new
shown-step packages wanted old new cause pivot shown by step = elim step [
  | inl h ↦ subst (IsShown packages wanted) (sym h.1) shown
  | inr h ↦ resolved new old cause pivot shown by (ap (λ b. b || has_term cause pivot) h.0) h.2
]
