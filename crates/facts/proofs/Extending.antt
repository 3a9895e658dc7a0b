-- More lines behind lawful ones.
use Rattle.std.proofs.Common.{sym, subst, List, [], ◌∷◌, ◌++◌, length, inl, inr}
use Rattle.std.proofs.lemmas.Option.{slice_get_within}
use Rattle.registry.specs.Registry.{Packages}
use Rattle.registry.specs.Requests.{Wanted}
use Rattle.derivations.specs.Facts.{Terms}
use Rattle.derivations.specs.CausedIncompatibilities.{IsBefore, StandsBy}
use Rattle.derivations.specs.declared.known.CausedIncompatibility.{CausedIncompatibility}
use Rattle.derivations.specs.declared.known.Reason.{Reason}
use Rattle.derivations.specs.declared.known.Reason.TheVariants.{Fact, Resolved}
use Rattle.oracle.specs.declared.task.Task.{Task}
use Rattle.facts.specs.Lines.{AreLines, Keeps}
use Rattle.facts.specs.Pushing.{Extends}
use Rattle.facts.proofs.Lists.{get-left, get-cases}

stands_later : (packages : Packages) (wanted : Wanted) (known more : List CausedIncompatibility) (terms : Terms) (reason : Reason) → StandsBy packages wanted known terms reason
    → StandsBy packages wanted (known ++ more) terms reason
stands_later packages wanted known more terms (Fact c) h = h
stands_later packages wanted known more terms (Resolved i j pivot) h = record {
  one = h.one;
  two = h.two;
  one_at = get-left known more i h.one h.one_at;
  two_at = get-left known more j h.two h.two_at;
  on_pivot = h.on_pivot;
  follows = h.follows;
}

before_end : (packages : Packages) (wanted : Wanted) (known : List CausedIncompatibility) (terms : Terms) (reason : Reason) → StandsBy packages wanted known terms reason → IsBefore (length known) reason
before_end packages wanted known terms (Fact c) h = tt
before_end packages wanted known terms (Resolved i j pivot) h = (slice_get_within known i h.one h.one_at, slice_get_within known j h.two h.two_at)

pub AreLines-push : (packages : Packages) (wanted : Wanted) (known : List CausedIncompatibility) (line : CausedIncompatibility) → AreLines packages wanted known → StandsBy packages wanted known line.conclusion line.reason
    → AreLines packages wanted (known ++ line ∷ [])
AreLines-push packages wanted known line h stands = record {
  lawful = λ k x at. elim (get-cases known line k x at) [
    | inl e ↦ stands_later packages wanted known (line ∷ []) x.conclusion x.reason (h.lawful k x e)
    | inr e ↦ subst (λ l. StandsBy packages wanted (known ++ line ∷ []) l.conclusion l.reason) e.1 (stands_later packages wanted known (line ∷ []) line.conclusion line.reason stands)
  ];
  ordered = λ k x at. elim (get-cases known line k x at) [
    | inl e ↦ h.ordered k x e
    | inr e ↦ subst (λ l. IsBefore k l.reason) e.1 (subst (λ n. IsBefore n line.reason) (sym e.0) (before_end packages wanted known line.conclusion line.reason stands))
  ];
  root = (h.root.0, get-left known (line ∷ []) 0 h.root.0 h.root.1, h.root.2);
}

-- ---- what extends

pub Keeps-push : (known : List CausedIncompatibility) (line : CausedIncompatibility) → Keeps known (known ++ line ∷ [])
Keeps-push known line k x at = get-left known (line ∷ []) k x at

pub line_extends : (task : Task) (known : List CausedIncompatibility) (line : CausedIncompatibility) → StandsBy task.registry.now.packages task.request.now known line.conclusion line.reason → Extends task known (known ++ line ∷ [])
line_extends task known line stands = record {
  keeps = Keeps-push known line;
  lines = λ lines. AreLines-push task.registry.now.packages task.request.now known line lines stands;
}
