-- One line behind the others.
use Rattle.std.proofs.Common.{◌<◌, inl, inr, ℕ, List, [], ◌∷◌, ◌++◌, length, sym, subst}
use Rattle.std.proofs.lemmas.Option.{slice_get_within}
use Rattle.registry.specs.Registry.{Packages}
use Rattle.registry.specs.Requests.{Wanted}
use Rattle.derivations.specs.Facts.{Terms}
use Rattle.derivations.specs.CausedIncompatibilities.{AreLawful, AreOrdered, FollowsFrom, IsBefore, StandsBy}
use Rattle.derivations.specs.declared.known.CausedIncompatibility.{CausedIncompatibility}
use Rattle.derivations.specs.declared.known.Reason.{Reason}
use Rattle.derivations.specs.declared.known.Reason.TheVariants.{Fact, Resolved}
use Rattle.facts.specs.Laws.{LinesGrow}
use Rattle.facts.specs.Lines.{Keeps}
use Rattle.facts.specs.Pushing.{Extends}
use Rattle.oracle.specs.declared.task.Task.{Task}
use Rattle.checker.proofs.Lists.{get-cases, get-left}

stands_kept : (packages : Packages) (wanted : Wanted) (old new : List CausedIncompatibility) → Keeps old new → (terms : Terms) (reason : Reason) → StandsBy packages wanted old terms reason → StandsBy packages wanted new terms reason
stands_kept packages wanted old new keeps terms (Fact c) h = h
stands_kept packages wanted old new keeps terms (Resolved i j pivot) h = record {
  one = h.one;
  two = h.two;
  one_at = keeps i h.one h.one_at;
  two_at = keeps j h.two h.two_at;
  on_pivot = h.on_pivot;
  follows = h.follows;
}

pub Keeps-push : (lines : List CausedIncompatibility) (line : CausedIncompatibility) → Keeps lines (lines ++ line ∷ [])
Keeps-push lines line k x at = get-left lines (line ∷ []) k x at

pub AreOrdered-push : (lines : List CausedIncompatibility) (line : CausedIncompatibility) → AreOrdered lines → IsBefore (length lines) line.reason → AreOrdered (lines ++ line ∷ [])
AreOrdered-push lines line ordered before k x at = elim (get-cases lines line k x at) [
  | inl e ↦ ordered k x e
  | inr e ↦ subst (λ (l : CausedIncompatibility). IsBefore k l.reason) e.1 (subst (λ n. IsBefore n line.reason) (sym e.0) before)
]

pub AreLawful-push : (packages : Packages) (wanted : Wanted) (lines : List CausedIncompatibility) (line : CausedIncompatibility) → AreLawful packages wanted lines → StandsBy packages wanted lines line.conclusion line.reason
    → AreLawful packages wanted (lines ++ line ∷ [])
AreLawful-push packages wanted lines line lawful stands k x at = elim (get-cases lines line k x at) [
  | inl e ↦ stands_kept packages wanted lines (lines ++ line ∷ []) (Keeps-push lines line) x.conclusion x.reason (lawful k x e)
  | inr e ↦ subst (λ (l : CausedIncompatibility). StandsBy packages wanted (lines ++ line ∷ []) l.conclusion l.reason) e.1
      (stands_kept packages wanted lines (lines ++ line ∷ []) (Keeps-push lines line) line.conclusion line.reason stands)
]

pub before_end : (lines : List CausedIncompatibility) (terms : Terms) (i j pivot : ℕ) → FollowsFrom lines terms i j pivot → (i < length lines) × (j < length lines)
before_end lines terms i j pivot f = (slice_get_within lines i f.one f.one_at, slice_get_within lines j f.two f.two_at)

pub line_extends : LinesGrow → (task : Task) (known : List CausedIncompatibility) (line : CausedIncompatibility) → StandsBy task.registry.now.packages task.request.now known line.conclusion line.reason → Extends task known (known ++ line ∷ [])
line_extends grow task known line stands = record {
  keeps = Keeps-push known line;
  lines = λ lines. grow task.registry.now.packages task.request.now known line lines stands;
}
