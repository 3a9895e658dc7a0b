-- What one more line, one more assignment and going back keep of a search.
use Rattle.std.proofs.Common.{◌≡◌, ◌≤◌, ◌∙◌, ℕ, refl, sym, ap, subst, arith, Bool, true, false, not, List, [], ◌∷◌, ◌++◌, length, take, get_or, inl, inr, nat_le}
use Rattle.std.proofs.lemmas.Bool.{le-leb}
use Rattle.std.proofs.lemmas.List.{take_all, take-take, take-append-le}
use Rattle.std.proofs.lemmas.Option.{slice_get_within, get_or_from_slice_get}
use Rattle.std.specs.Prelude.{Option, Some, slice_get}
use Rattle.terms.specs.declared.term.Term.{Term}
use Rattle.terms.specs.Terms.{true_of}
use Rattle.terms.specs.Incompats.{true_at}
use Rattle.search.specs.declared.assignment.Assignment.{Assignment}
use Rattle.search.specs.declared.assignment.Why.{Why}
use Rattle.search.specs.declared.assignment.Why.TheVariants.{Decided, Derived}
use Rattle.search.specs.Assignments.{says, decisions, upto, IsOpenTo, IsPartial, LevelsFrom}
use Rattle.search.specs.Satisfying.{AlmostSatisfied}
use Rattle.search.specs.Rank.{TakesAway}
use Rattle.registry.specs.Registry.{Packages}
use Rattle.registry.specs.Requests.{Wanted}
use Rattle.derivations.specs.CausedIncompatibilities.{StandsBy}
use Rattle.derivations.specs.declared.known.CausedIncompatibility.{CausedIncompatibility}
use Rattle.facts.specs.Lines.{AtLine, Keeps}
use Rattle.facts.specs.Pushing.{Extends}
use Rattle.oracle.specs.declared.task.Task.{Task}
use Rattle.search.specs.Searching.{IsCausedBy, IsSearch}
use Rattle.facts.proofs.Extending.{AreLines-push, Keeps-push}
use Rattle.facts.proofs.Lists.{get-cases, longer}
use Rattle.search.proofs.Places.{get-taken}
use Rattle.search.proofs.Saying.{upto-beginning}
use Rattle.facts.proofs.TermLemmas.{has_from_false}

-- ---- lines

caused_later : (packages : Packages) (wanted : Wanted) (old new : List CausedIncompatibility) → Keeps old new → (before : List Assignment) (a : Assignment) (why : Why) → IsCausedBy packages wanted old before a why → IsCausedBy packages wanted new before a why
caused_later packages wanted old new keeps before a (Decided ordinal) h = h
caused_later packages wanted old new keeps before a (Derived k) h = record {
  line = h.line;
  at = keeps k h.line h.at;
  on_package = h.on_package;
  negation = h.negation;
  others = h.others;
}

-- whatever was assigned, more lines serve the search as the old ones do
pub extends_search : {task : Task} {made : List Assignment} {old new : List CausedIncompatibility} → Extends task old new → IsSearch task.registry.now.packages task.request.now made old → IsSearch task.registry.now.packages task.request.now made new
extends_search {task} {made} {old} {new} extends h = record {
  lines = extends.lines h.lines;
  begins = h.begins;
  caused = λ i a at. caused_later task.registry.now.packages task.request.now old new extends.keeps (take i made) a a.why (h.caused i a at);
}

pub IsSearch-line : (packages : Packages) (wanted : Wanted) (made : List Assignment) (known : List CausedIncompatibility) (line : CausedIncompatibility) → IsSearch packages wanted made known
    → StandsBy packages wanted known line.conclusion line.reason → IsSearch packages wanted made (known ++ line ∷ [])
IsSearch-line packages wanted made known line h stands = record {
  lines = AreLines-push packages wanted known line h.lines stands;
  begins = h.begins;
  caused = λ i a at. caused_later packages wanted known (known ++ line ∷ []) (Keeps-push known line) (take i made) a a.why (h.caused i a at);
}

-- ---- assignments

pub IsSearch-push : (packages : Packages) (wanted : Wanted) (made : List Assignment) (known : List CausedIncompatibility) (a : Assignment) → IsSearch packages wanted made known → IsCausedBy packages wanted known made a a.why
    → IsSearch packages wanted (made ++ a ∷ []) known
IsSearch-push packages wanted made known a h new = record {
  lines = h.lines;
  begins =
      let front : take 2 (made ++ a ∷ []) ≡ take 2 made = take-append-le 2 made (a ∷ []) h.begins.two in
      record {
        two = omega (arith, h.begins.two, longer made a);
        opened = ap decisions front ∙ h.begins.opened;
        chosen = ap (λ xs. says xs 0 (Some 0)) front ∙ h.begins.chosen;
        only = λ c said. h.begins.only c (ap (λ xs. says xs 0 c) (sym front) ∙ said);
        alone = λ p c apart. ap (λ xs. says xs p c) front ∙ h.begins.alone p c apart;
      };
  caused = λ i x at. elim (get-cases made a i x at) [
    | inl e ↦
        let lt = slice_get_within made i x e in
        rw (take-append-le i made (a ∷ []) (omega (arith, lt))) (h.caused i x e)
    | inr e ↦
        let front : take i (made ++ a ∷ []) ≡ made = take-append-le i made (a ∷ []) (omega (arith, e.0)) ∙ take_all i made (omega (arith, e.0)) in
        rw front (subst (λ y. IsCausedBy packages wanted known made y y.why) e.1 new)
  ];
}

upto-two : (b : ℕ) (made : List Assignment) → LevelsFrom 0 made → 2 ≤ length made → decisions (take 2 made) ≡ 1 → 1 ≤ b → (2 ≤ length (upto b made)) × (take 2 (upto b made) ≡ take 2 made)
upto-two b [] h two one le = absurd (omega arith)
upto-two b (x ∷ []) h two one le = absurd (omega arith)
upto-two b (x ∷ y ∷ made) h two one le =
    let first : nat_le x.level b ≡ true = le-leb x.level b (omega (arith, h.0, one)) in
    let second : nat_le y.level b ≡ true = le-leb y.level b (omega (arith, h.1.0, one)) in
    rw (first, second) (omega arith, refl)

pub IsSearch-upto : (packages : Packages) (wanted : Wanted) (b : ℕ) (made : List Assignment) (known : List CausedIncompatibility) → IsPartial made → 1 ≤ b → IsSearch packages wanted made known
    → IsSearch packages wanted (upto b made) known
IsSearch-upto packages wanted b made known partial le h =
    let front = upto-beginning b 0 made partial.levels in
    let two = upto-two b made partial.levels h.begins.two h.begins.opened le in
    record {
      lines = h.lines;
      begins = record {
        two = two.0;
        opened = ap decisions two.1 ∙ h.begins.opened;
        chosen = ap (λ xs. says xs 0 (Some 0)) two.1 ∙ h.begins.chosen;
        only = λ c said. h.begins.only c (ap (λ xs. says xs 0 c) (sym two.1) ∙ said);
        alone = λ p c apart. ap (λ xs. says xs p c) two.1 ∙ h.begins.alone p c apart;
      };
      caused = λ i a at.
          let there = get-taken front.0 made i a (ap (λ xs. slice_get xs i) (sym front.2) ∙ at) in
          let same : take i (upto b made) ≡ take i made = ap (take i) front.2 ∙ take-take i front.0 made (omega (arith, there.0)) in
          rw same (h.caused i a there.1);
    }

-- ---- one derivation

twice : (x y : Bool) → x ≡ not y → y ≡ not x
twice true true e = e
twice true false e = refl
twice false true e = refl
twice false false e = e

module _ (made : List Assignment) (known : List CausedIncompatibility) (at pkg : ℕ) (term : Term) (almost : AtLine known at (λ line. AlmostSatisfied made line.conclusion pkg))
    (line : CausedIncompatibility) (read : line ≡ get_or known at line) (negated : (c : Option ℕ) → true_of term c ≡ not (true_at line.conclusion pkg c)) where
  same_line : almost.0 ≡ line
  same_line = sym (get_or_from_slice_get known at almost.0 line almost.1) ∙ sym read

  here : AlmostSatisfied made line.conclusion pkg
  here = subst (λ l. AlmostSatisfied made l.conclusion pkg) same_line almost.2

  pub derive_open : IsOpenTo made pkg term
  derive_open = let w = here.can_be_false in (w.0, w.2, negated w.0 ∙ ap not w.3)

  pub derive_takes_away : TakesAway made pkg term
  derive_takes_away = let w = here.can_be_true in (w.0, w.1, w.2, negated w.0 ∙ ap not w.3)

  pub derive_search : (packages : Packages) (wanted : Wanted) → IsSearch packages wanted made known
      → IsSearch packages wanted (made ++ record { pkg = pkg; term = term; level = decisions made; why = Derived at } ∷ []) known
  derive_search packages wanted h =
      IsSearch-push packages wanted made known (record { pkg = pkg; term = term; level = decisions made; why = Derived at }) h
      (record {
        line = line;
        at = almost.1 ∙ ap Some same_line;
        on_package = has_from_false line.conclusion pkg here.can_be_false.0 here.can_be_false.3;
        negation = λ c. twice (true_of term c) (true_at line.conclusion pkg c) (negated c);
        others = here.others;
      })
