-- Lists of terms: whether they are an incompatibility, and the term on a package.
use Rattle.std.proofs.Common.{◌≡◌, ◌<◌, ◌≤◌, ◌∙◌, ℕ, suc, List, [], ◌∷◌, ◌++◌, refl, sym, ap, subst, arith, Bool, true, false, not, true≢false}
use Rattle.std.specs.Prelude.{◌↔◌, IsTrue, Option, None, Some}
use Rattle.std.proofs.lemmas.List.{append-nil}
use Rattle.terms.proofs.SameSets.{has-first}
use Rattle.terms.specs.Incompats.{AreTerms, IsIncompat, OrderedFrom, unless_always}
use Rattle.terms.specs.Terms.{true_of, CanBeFalse, IsTerm}
use Rattle.terms.specs.declared.term.Term.{Term}
use Rattle.terms.specs.declared.term.Term.TheVariants.{In, NotIn}

-- ---- terms that can be false

all-outside-none : (choice : Option ℕ) → true_of (NotIn []) choice ≡ true
all-outside-none None = refl
all-outside-none (Some k) = refl

pub can_be_false-outside : (set : List ℕ) (none : Bool) → (IsTrue none ↔ (set ≡ [])) → (IsTrue (not none) ↔ CanBeFalse (NotIn set))
can_be_false-outside [] none h = (λ t. let e : none ≡ true = h.1 refl in absurd (true≢false (sym t ∙ ap not e)), λ can. absurd (true≢false (sym (all-outside-none can.0) ∙ can.1)))
can_be_false-outside (k ∷ rest) true h = absurd ((let e = h.0 refl in cc))
can_be_false-outside (k ∷ rest) false h = (λ t. (Some k, ap not (has-first k rest)), λ can. refl)

-- ---- terms that are judged one by one

-- what is still to be judged says whether all are an incompatibility
pub record IsJudging (terms rest : List (ℕ × Term)) (low : ℕ) : Type 0 where
  pub exactly : IsIncompat terms ↔ OrderedFrom low rest
  pub ascending : AreTerms rest → AreTerms terms

-- ---- terms without those that always hold

unless_always-none : (pkg : ℕ) (term : Term) → (CanBeFalse term → ⊥) → unless_always pkg term ≡ []
unless_always-none pkg (In set) h = absurd (h (None, refl))
unless_always-none pkg (NotIn []) h = refl
unless_always-none pkg (NotIn (k ∷ rest)) h = absurd (h (Some k, ap not (has-first k rest)))

pub left_out : (terms : List (ℕ × Term)) (pkg : ℕ) (term : Term) → (CanBeFalse term → IsTrue false) → terms ≡ terms ++ unless_always pkg term
left_out terms pkg term h = sym (append-nil terms) ∙ ap (λ l. terms ++ l) (sym (unless_always-none pkg term (λ can. let e : false ≡ true = h can in absurd (true≢false (sym e)))))

pub kept-alone : (pkg : ℕ) (term : Term) → CanBeFalse term → unless_always pkg term ≡ (pkg, term) ∷ []
kept-alone pkg (In set) can = refl
kept-alone pkg (NotIn []) can = absurd (true≢false (sym (all-outside-none can.0) ∙ can.1))
kept-alone pkg (NotIn (k ∷ rest)) can = refl

OrderedFrom-unless_always : (low pkg : ℕ) (term : Term) (rest : List (ℕ × Term)) → low ≤ pkg → OrderedFrom (suc pkg) rest → OrderedFrom low rest → OrderedFrom low (unless_always pkg term ++ rest)
OrderedFrom-unless_always low pkg (In set) rest le after before = (le, (None, refl), after)
OrderedFrom-unless_always low pkg (NotIn []) rest le after before = before
OrderedFrom-unless_always low pkg (NotIn (k ∷ others)) rest le after before = (le, (Some k, ap not (has-first k others)), after)

AreTerms-unless_always : (pkg : ℕ) (term : Term) (rest : List (ℕ × Term)) → IsTerm term → AreTerms rest → AreTerms (unless_always pkg term ++ rest)
AreTerms-unless_always pkg (In set) rest t h = (t, h)
AreTerms-unless_always pkg (NotIn []) rest t h = h
AreTerms-unless_always pkg (NotIn (k ∷ others)) rest t h = (t, h)

one-incompat : (low pkg : ℕ) (term : Term) → low ≤ pkg → OrderedFrom low (unless_always pkg term)
one-incompat low pkg term le = subst (λ l. OrderedFrom low l) (append-nil (unless_always pkg term)) (OrderedFrom-unless_always low pkg term [] le tt tt)

one-terms : (pkg : ℕ) (term : Term) → IsTerm term → AreTerms (unless_always pkg term)
one-terms pkg term t = subst (λ l. AreTerms l) (append-nil (unless_always pkg term)) (AreTerms-unless_always pkg term [] t tt)

pub single-lawful : (pkg : ℕ) (term : Term) → IsTerm term → IsIncompat (unless_always pkg term) × AreTerms (unless_always pkg term)
single-lawful pkg term t = (one-incompat 0 pkg term (omega arith), one-terms pkg term t)

pub pair-lawful : (low high : ℕ) (first second : Term) → low < high → IsTerm first → IsTerm second
    → IsIncompat (unless_always low first ++ unless_always high second) × AreTerms (unless_always low first ++ unless_always high second)
pair-lawful low high first second lt t u = (
  OrderedFrom-unless_always 0 low first (unless_always high second) (omega arith) (one-incompat (suc low) high second (omega arith)) (one-incompat 0 high second (omega arith)),
  AreTerms-unless_always low first (unless_always high second) t (one-terms high second u),
)
